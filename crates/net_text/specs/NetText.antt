-- The text of a netlist.
use Rattle.std.specs.Prelude.{ℕ, Bool, true, false, ◌+◌, List, [], ◌∷◌, ◌++◌, take, drop, flat_map, codes}
use Rattle.cmd_tree.specs.declared.command.Command.{Command}
use Rattle.cmd_tree.specs.Limits.{marks_of_all}
use Rattle.cmd_text.specs.Canonical.{procs_text}
use Rattle.text_lines.specs.Lines.{worded, numbered_line}
use Rattle.basic_kinds.specs.declared.shape.Shape.{Shape}
use Rattle.basic_kinds.specs.declared.kind.Kind.{Kind}
use Rattle.basic_kinds.specs.declared.kind.Kind.TheVariants.{Wire, Iwire, Source, Sink, Fork, C, Merge, Toggle, Dw, Seq}
use Rattle.basic_kinds.specs.Kinds.{inputs_of}
use Rattle.net_core.specs.declared.spec.NodeSpec.{NodeSpec}
use Rattle.net_core.specs.declared.spec.NodeSpec.TheVariants.{Kind as Basic, Cmd}
use Rattle.net_core.specs.Specs.{gives_symbol}
use Rattle.net_core.specs.Wiring.{Node, Circuit}

-- a blank and a number
abbrev pub number_text : ℕ → List ℕ
number_text number = worded (codes " ") number

-- a blank, and a row and a column
abbrev pub crossing_text : ℕ × ℕ → List ℕ
crossing_text crossing = worded (codes " ") crossing.0 ++ worded (codes ".") crossing.1

-- the kind of a decision wait with its shape
abbrev pub shape_text : Shape → List ℕ
shape_text s =
    worded (codes "DW ") s.rows ++ worded (codes " ") s.cols ++ flat_map crossing_text s.cross ++ codes " :"

-- the name of a kind; a decision wait has its shape behind it
abbrev pub kind_text : Kind → List ℕ
kind_text Wire = codes "WIRE"
kind_text Iwire = codes "IWIRE"
kind_text Source = codes "SOURCE"
kind_text Sink = codes "SINK"
kind_text (Fork n) = codes "FORK"
kind_text (C n) = codes "C"
kind_text (Merge n) = codes "MERGE"
kind_text Toggle = codes "TOGGLE"
kind_text (Dw s) = shape_text s
kind_text (Seq k) = codes "SEQ"

-- the line of a component: its kind, its input wires, `>` and its output wires
abbrev pub component_line : Kind → List ℕ → List ℕ → List ℕ
component_line kind inputs outputs =
    kind_text kind ++ flat_map number_text inputs ++ codes " >" ++ flat_map number_text outputs ++ codes "\n"

-- the line of a node with this specification and these wires, the inputs' first; a command has no line
abbrev pub spec_line : NodeSpec → List ℕ → List ℕ
spec_line (Basic kind) ends = component_line kind (take (inputs_of kind) ends) (drop (inputs_of kind) ends)
spec_line (Cmd command) ends = []

abbrev pub node_line : Node → List ℕ
node_line node = spec_line node.spec node.ends

abbrev pub mark_sign : Bool → List ℕ
mark_sign true = codes "!"
mark_sign false = codes "?"

-- the line of a symbol: its name, its mark and its number
abbrev pub port_line : List ℕ → Bool → ℕ → List ℕ
port_line name output number = codes "port " ++ name ++ mark_sign output ++ numbered_line (codes " ") number

-- a line for each symbol, numbered from k on; `is_output` says which are outputs
abbrev pub ports_text : (ℕ → Bool) → ℕ → List (List ℕ) → List ℕ
ports_text is_output k [] = []
ports_text is_output k (name ∷ names) = port_line name (is_output k) k ++ ports_text is_output (k + 1) names

-- the text of a network of these components in the environment of a command
abbrev pub command_net_text : Command → List Node → List ℕ
command_net_text c parts =
    codes "dinet 1\nspec " ++ procs_text c.names c.procs ++ codes "\n"
    ++ ports_text (gives_symbol (marks_of_all c.procs)) 0 c.names ++ flat_map node_line parts ++ codes "end\n"

abbrev pub environment_text : NodeSpec → List Node → List ℕ
environment_text (Basic kind) parts = []
environment_text (Cmd command) parts = command_net_text command parts

abbrev pub nodes_net_text : List Node → List ℕ
nodes_net_text [] = []
nodes_net_text (environment ∷ parts) = environment_text environment.spec parts

-- the text of a network whose environment is a command; no other has one
abbrev pub net_text : Circuit → List ℕ
net_text c = nodes_net_text c.nodes
