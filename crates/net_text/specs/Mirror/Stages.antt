-- Mirror of the stages of the reader: what each gives of the text that is left.
use Rattle.std.specs.Prelude.{◌≡◌, ℕ, ◌≤◌, List, [], ◌∷◌, ◌++◌, length, flat_map, codes, ⊤}
use Rattle.std.specs.List.{AllByRecursion}
use Rattle.cmd_tree.specs.declared.command.Command.{Command}
use Rattle.cmd_tree.specs.declared.limits.TheConstants.{MAX_COMPONENTS, MAX_NETLIST_WIRES}
use Rattle.di_grammar.specs.Admitted.{Admitted}
use Rattle.net_core.specs.Wiring.{Node, Circuit, Draft, IsClosed}
use Rattle.net_text.specs.declared.refusal.NetRefusal.{NetRefusal}
use Rattle.net_text.specs.declared.refusal.NetRefusal.TheVariants as told
use Rattle.net_text.specs.NetText.{node_line}
use Rattle.net_text.specs.NetFault.{Place, Parts, Over, IsPart, IsFaulty, IsFirstFault, spec_line, port_lines, with_parts, network}

-- each line, and a line feed behind it
abbrev pub text_of : List (List ℕ) → List ℕ
text_of [] = []
text_of (line ∷ lines) = line ++ 10 ∷ text_of lines

-- a refusal of the line is told of it; want of memory is none
abbrev pub RefusesLine : Place → ℕ → List ℕ → NetRefusal → Type 0
RefusesLine p n line told.NoMemory = ⊤
RefusesLine p n line (told.BadLine k) = IsFaulty p n line (told.BadLine k)
RefusesLine p n line (told.SpecRefused k) = IsFaulty p n line (told.SpecRefused k)
RefusesLine p n line (told.TooManyComponents k) = IsFaulty p n line (told.TooManyComponents k)
RefusesLine p n line (told.Truncated k) = IsFaulty p n line (told.Truncated k)
RefusesLine p n line (told.OpenPort k) = IsFaulty p n line (told.OpenPort k)

-- a refusal is the first fault of what is left; want of memory is none
abbrev pub Refuses : Place → ℕ → List ℕ → NetRefusal → Type 0
Refuses p n bytes told.NoMemory = ⊤
Refuses p n bytes (told.BadLine k) = IsFirstFault p n bytes (told.BadLine k)
Refuses p n bytes (told.SpecRefused k) = IsFirstFault p n bytes (told.SpecRefused k)
Refuses p n bytes (told.TooManyComponents k) = IsFirstFault p n bytes (told.TooManyComponents k)
Refuses p n bytes (told.Truncated k) = IsFirstFault p n bytes (told.Truncated k)
Refuses p n bytes (told.OpenPort k) = IsFirstFault p n bytes (told.OpenPort k)

-- the lines of the components, and the last line
abbrev pub parts_text : List Node → List ℕ
parts_text xs = flat_map node_line xs ++ codes "end\n"

-- the components of the text were added: the fault of what stands behind is that of the text
pub record ArePartsRead (first : ℕ) (text : List ℕ) (was now : Draft) : Type 0 where
  pub spec : now.spec ≡ was.spec
  pub wires : now.wires ≡ with_parts was.wires now.parts
  pub small : now.wires ≤ MAX_NETLIST_WIRES
  pub few : length now.parts ≤ MAX_COMPONENTS
  pub good : AllByRecursion IsPart now.parts
  pub is : text ≡ parts_text now.parts
  pub past : ℕ
  pub faults : (c : Command) (r : NetRefusal) → IsFirstFault (Over c now.parts) past [] r → IsFirstFault (Parts c []) first text r

-- the network that is told by these bytes and then the lines of its components
pub record IsNetOf (c : Command) (head bytes : List ℕ) (net : Circuit) : Type 0 where
  pub parts : List Node
  pub is : net ≡ network c parts
  pub closed : IsClosed net
  pub small : net.wires ≤ MAX_NETLIST_WIRES
  pub few : length parts ≤ MAX_COMPONENTS
  pub good : AllByRecursion IsPart parts
  pub text : bytes ≡ head ++ parts_text parts

-- the network of an admitted command from its line on
pub record IsNetFromSpec (bytes : List ℕ) (net : Circuit) : Type 0 where
  pub command : Command
  pub admitted : Admitted command.procs
  pub net_of : IsNetOf command (spec_line command ++ 10 ∷ text_of (port_lines command)) bytes net
