-- Commands of one process with one wait, and the networks of these.
use Rattle.std.specs.Prelude.{◌≡◌, [], ◌∷◌, length}
use Rattle.cmd_tree.specs.declared.tree.Proc.{Proc}
use Rattle.cmd_tree.specs.declared.command.Command.{Command}
use Rattle.cmd_tree.specs.Limits.{marks_of_all}
use Rattle.process_laws.specs.Shape.{IsFair}
use Rattle.place_graph.specs.declared.styles.SplitStyle.TheVariants.{OneWait}
use Rattle.place_graph.specs.Points.{legs}
use Rattle.place_graph.specs.Graph.{graph_of}
use Rattle.place_graph.specs.Style.{style_of}
use Rattle.place_graph.specs.Drawable.{AreDirections, AreSets}
use Rattle.net_core.specs.Specs.{gives_symbol}
use Rattle.net_core.specs.Wiring.{Circuit}
use Rattle.net_core.specs.declared.spec.NodeSpec.TheVariants.{Cmd}
use Rattle.net_laws.specs.Charts.{charted}
use Rattle.plain_split.specs.OneWait.{Links, links, one_chart}

-- The command is the fair process p alone. Each mark has the direction of its symbol, inputs belong to
-- one burst as a set, and there is one wait.
pub record HasOneWait (c : Command) (p : Proc) : Type 0 where
  pub alone : c.procs ≡ p ∷ []
  pub fair : IsFair (gives_symbol (marks_of_all c.procs)) p
  pub directions : AreDirections (gives_symbol (marks_of_all c.procs)) p
  pub sets : AreSets (legs p)
  pub style : style_of (graph_of p) ≡ OneWait

-- how the graph of the process is joined in a network of the command
abbrev pub links_of : Command → Proc → Links
links_of c p = links (graph_of p) (length c.names)

abbrev pub one_wait_net : Command → Proc → Circuit
one_wait_net c p = charted (one_chart (Cmd c) (links_of c p))
