-- Commands of one process that needs a token, and the networks of these.
use Rattle.std.specs.Prelude.{◌≡◌, [], ◌∷◌, length}
use Rattle.cmd_tree.specs.declared.tree.Proc.{Proc}
use Rattle.cmd_tree.specs.declared.command.Command.{Command}
use Rattle.cmd_tree.specs.Limits.{marks_of_all}
use Rattle.process_laws.specs.Shape.{IsFair}
use Rattle.di_grammar.specs.Admitted.{Admitted}
use Rattle.di_grammar.specs.Grants.{IsGrant}
use Rattle.place_graph.specs.declared.styles.SplitStyle.TheVariants.{Token}
use Rattle.place_graph.specs.Points.{legs}
use Rattle.place_graph.specs.Graph.{graph_of}
use Rattle.place_graph.specs.Style.{style_of}
use Rattle.place_graph.specs.Drawable.{AreDirections, AreSets}
use Rattle.net_core.specs.Specs.{gives_symbol}
use Rattle.net_core.specs.Wiring.{Circuit}
use Rattle.net_core.specs.declared.spec.NodeSpec.TheVariants.{Cmd}
use Rattle.net_laws.specs.Charts.{charted}
use Rattle.token_split.specs.TokenChart.{Links, links, token_chart}

-- The admitted command is the process p alone, which is no grant and needs a token.
pub record NeedsToken (c : Command) (p : Proc) : Type 0 where
  pub alone : c.procs ≡ p ∷ []
  pub admitted : Admitted c.procs
  pub other : IsGrant p → ⊥
  pub style : style_of (graph_of p) ≡ Token

-- The command is the fair process p alone. Each mark has the direction of its symbol, inputs belong to one burst as a
-- set, and the process needs a token.
pub record HasToken (c : Command) (p : Proc) : Type 0 where
  pub alone : c.procs ≡ p ∷ []
  pub fair : IsFair (gives_symbol (marks_of_all c.procs)) p
  pub directions : AreDirections (gives_symbol (marks_of_all c.procs)) p
  pub sets : AreSets (legs p)
  pub style : style_of (graph_of p) ≡ Token

-- how the graph of the process is joined in a network of the command
abbrev pub links_of : Command → Proc → Links
links_of c p = links (graph_of p) (length c.names)

abbrev pub token_circuit : Command → Proc → Circuit
token_circuit c p = charted (token_chart (Cmd c) (links_of c p))

abbrev pub IsTokenNet : Command → Proc → Circuit → Type 0
IsTokenNet c p net = net ≡ token_circuit c p
