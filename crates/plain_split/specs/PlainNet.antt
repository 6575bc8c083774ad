-- Commands of one process that needs no token, and the networks of these.
use Rattle.std.specs.Prelude.{◌≡◌, ℕ, [], ◌∷◌, drop, length}
use Rattle.cmd_tree.specs.declared.tree.Proc.{Proc}
use Rattle.cmd_tree.specs.declared.command.Command.{Command}
use Rattle.di_grammar.specs.Admitted.{Admitted}
use Rattle.di_grammar.specs.Grants.{IsGrant}
use Rattle.place_graph.specs.declared.styles.SplitStyle.{SplitStyle}
use Rattle.place_graph.specs.declared.styles.SplitStyle.TheVariants.{OneWait, Rounds, Token}
use Rattle.place_graph.specs.Graph.{graph_of}
use Rattle.place_graph.specs.Style.{style_of}
use Rattle.net_core.specs.Wiring.{Circuit, Node}
use Rattle.basic_kinds.specs.Sorts.{Sort, how_many}
use Rattle.basic_kinds.specs.Sums.{wide_sum, total_of}
use Rattle.place_graph.specs.Sums.{counted}
use Rattle.plain_split.specs.OneWaitSums.{is_component}
use Rattle.plain_split.specs.OneWaitCommands.{one_wait_net}
use Rattle.plain_split.specs.RoundsNet.{pow}
use Rattle.plain_split.specs.RoundsCommands.{rounds_net}

-- a process of this style has one wait or is in rounds
abbrev pub IsPlain : SplitStyle → Type 0
IsPlain OneWait = Unit {0}
IsPlain (Rounds k) = Unit {0}
IsPlain Token = ⊥

-- The admitted command is the process p alone, which is no grant and needs no token.
pub record HasPlain (c : Command) (p : Proc) : Type 0 where
  pub alone : c.procs ≡ p ∷ []
  pub admitted : Admitted c.procs
  pub other : IsGrant p → ⊥
  pub plain : IsPlain (style_of (graph_of p))

-- the network of one wait, or of rounds, of which there are 2^e
abbrev pub IsNetIn : SplitStyle → Command → Proc → Circuit → Type 0
IsNetIn OneWait c p net = net ≡ one_wait_net c p
IsNetIn (Rounds k) c p net = (e : ℕ) × (k ≡ pow e) × (net ≡ rounds_net c p e)
IsNetIn Token c p net = ⊥

abbrev pub IsPlainNet : Command → Proc → Circuit → Type 0
IsPlainNet c p net = IsNetIn (style_of (graph_of p)) c p net

-- of each sort it has as many components as are counted of the graph
abbrev pub HasCounted : Command → Proc → Circuit → Type 0
HasCounted c p net = (k : Sort) → how_many (λ (x : Node). is_component k x.spec) (drop 1 net.nodes) ≡ total_of wide_sum (counted (graph_of p) (length c.names)) k
