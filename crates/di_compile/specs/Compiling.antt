-- Which commands are compiled, and what is promised of their networks.
use Rattle.std.specs.Prelude.{◌≡◌, ℕ, ◌<◌, ◌≤◌, ◌^◌, IsTrue, List, drop, length, ⊤}
use Rattle.std.specs.List.{list_all}
use Rattle.cmd_tree.specs.declared.tree.Proc.{Proc}
use Rattle.cmd_tree.specs.declared.command.Command.{Command}
use Rattle.cmd_tree.specs.declared.limits.TheConstants.{MAX_COMPONENTS}
use Rattle.cmd_rename.specs.Symbols.{symbols_of}
use Rattle.basic_kinds.specs.Sorts.{Sort, how_many}
use Rattle.di_grammar.specs.Admitted.{Admitted, IsBroken}
use Rattle.place_graph.specs.Sums.{of_command, command_sum}
use Rattle.plain_split.specs.OneWaitSums.{is_component}
use Rattle.net_core.specs.declared.spec.NodeSpec.TheVariants.{Cmd}
use Rattle.net_core.specs.Wiring.{Circuit, Node}
use Rattle.net_core.specs.Networks.{IsBasic, Correct, IsThrough, directions, end_at}
use Rattle.net_core.specs.Renumbering.{Preserves}
use Rattle.net_core.specs.Walk.{IsInWalkOrder}
use Rattle.net_layers.specs.TwoWayNets.{is_two_way_part}
use Rattle.substitute.specs.Splices.{PassIn}
use Rattle.count_sum.specs.Counts.{all_sorts, sum_in}
use Rattle.count_sum.specs.Narrow.{is_narrow}
use Rattle.count_sum.specs.declared.counts.Basis.{Basis}
use Rattle.count_sum.specs.declared.counts.Basis.TheVariants.{Wide, Two}
use Rattle.di_compile.specs.declared.refusal.CompileRefusal.{CompileRefusal}
use Rattle.di_compile.specs.declared.refusal.CompileRefusal.TheVariants.{Broken, NotThisForm, TooManyComponents, NoMemory}

-- how many components the network of a command of these processes has in the basis
abbrev pub total : Basis → List Proc → ℕ
total basis ps = all_sorts (command_sum (sum_in basis) ps (length (symbols_of ps)))

-- In the basis two, no decision-wait that is counted of the processes has more than two rows or columns, and no sequencer more
-- than two requests: layers of these are not built today.
abbrev pub IsOfForm : Basis → List Proc → Type 0
IsOfForm Wide ps = ⊤
IsOfForm Two ps = IsTrue (list_all is_narrow (of_command ps (length (symbols_of ps))))

-- A network of these processes is built in this basis: they are an admitted command of the form, and it has no more
-- components than a network may have.
pub record IsBuilt (basis : Basis) (ps : List Proc) : Type 0 where
  pub admitted : Admitted ps
  pub form : IsOfForm basis ps
  pub few : total basis ps ≤ MAX_COMPONENTS

-- how many components of the sort the network has
abbrev pub number_of : Circuit → Sort → ℕ
number_of net s = how_many (λ (x : Node). is_component s x.spec) (drop 1 net.nodes)

-- the components are those of the basis: all basic kinds, or two-way ones
abbrev pub IsInBasis : Basis → Circuit → Type 0
IsInBasis Wide net = IsBasic net
IsInBasis Two net = PassIn is_two_way_part net

-- All that is promised of the network of a command: its components are basic and of the basis, it is correct for the command in
-- both halves, it is in walk order, it has as many components of each sort as the sums of the command say, and
-- symbol i is on wire i.
pub record IsNetworkOf (basis : Basis) (command : Command) (net : Circuit) : Type 0 where
  pub basic : IsBasic net
  pub in_basis : IsInBasis basis net
  pub correct : Correct net (Cmd command)
  pub in_order : IsInWalkOrder net
  pub sums : (s : Sort) → number_of net s ≡ command_sum (sum_in basis) command.procs (length command.names) s
  pub ports : (i : ℕ) → i < length command.names → end_at net 0 i ≡ i
  pub few : net.wires < 2 ^ 31

-- why a command of these processes is refused; memory may always be missing
abbrev pub IsRefused : Basis → List Proc → CompileRefusal → Type 0
IsRefused basis ps (Broken b) = IsBroken ps b
IsRefused basis ps NotThisForm = Admitted ps × (IsOfForm basis ps → ⊥)
IsRefused basis ps (TooManyComponents n) = Admitted ps × IsOfForm basis ps × (MAX_COMPONENTS < n) × (n ≡ total basis ps)
IsRefused basis ps NoMemory = ⊤

-- the network d is c in walk order
pub record IsInOrderOf (c d : Circuit) : Type 0 where
  pub in_order : IsInWalkOrder d
  pub preserved : Preserves c d
  pub wires : d.wires ≡ c.wires
  pub outside : ((w : ℕ) → w < c.wires → IsThrough c w → ⊥) → (p : ℕ) → p < length (directions c 0) → end_at d 0 p ≡ p
