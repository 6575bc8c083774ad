-- Commands of one process in rounds, the networks of these, and how many components of each kind these have.
use Rattle.std.specs.Prelude.{◌≡◌, ℕ, ◌-◌, not, ◌&&◌, if◌then◌else◌, [], ◌∷◌}
use Rattle.cmd_tree.specs.declared.tree.Proc.{Proc}
use Rattle.cmd_tree.specs.declared.command.Command.{Command}
use Rattle.cmd_tree.specs.Limits.{marks_of_all}
use Rattle.process_laws.specs.Shape.{IsFair}
use Rattle.place_graph.specs.declared.styles.SplitStyle.TheVariants.{Rounds}
use Rattle.place_graph.specs.Points.{legs}
use Rattle.place_graph.specs.Graph.{graph_of}
use Rattle.place_graph.specs.Style.{style_of}
use Rattle.place_graph.specs.Drawable.{AreDirections, AreSets}
use Rattle.net_core.specs.Specs.{gives_symbol}
use Rattle.net_core.specs.Wiring.{Circuit}
use Rattle.net_core.specs.declared.spec.NodeSpec.TheVariants.{Cmd}
use Rattle.net_laws.specs.Charts.{charted}
use Rattle.plain_split.specs.OneWaitSums.{Sort, Wires, Iwires, Sources, Sinks, Forks, Joins, Merges, Toggles, Waits, Sequencers, how_many_below}
use Rattle.plain_split.specs.RoundsNet.{pow}
use Rattle.plain_split.specs.RoundsChart.{Parts, is_single, givers, count, is_out, rounds_chart}
use Rattle.plain_split.specs.RoundsParts.{parts_of}

-- The command is the fair process p alone. Each mark has the direction of its symbol, inputs belong to one burst as a set, and one burst is taken at
-- 2^e waits in turn.
pub record HasRounds (c : Command) (p : Proc) (e : ℕ) : Type 0 where
  pub alone : c.procs ≡ p ∷ []
  pub fair : IsFair (gives_symbol (marks_of_all c.procs)) p
  pub directions : AreDirections (gives_symbol (marks_of_all c.procs)) p
  pub sets : AreSets (legs p)
  pub style : style_of (graph_of p) ≡ Rounds (pow e)

abbrev pub round_parts : Command → Proc → ℕ → Parts
round_parts c p e = parts_of (Cmd c) (graph_of p) e

abbrev pub rounds_net : Command → Proc → ℕ → Circuit
rounds_net c p e = charted (rounds_chart (round_parts c p e))

-- A C for a burst of two and more symbols; a TOGGLE less than there are rounds; an IWIRE where the process begins with an act; a FORK for each act with
-- two and more outputs; and a MERGE for each output of two and more acts.
abbrev pub rounds_sum : Parts → Sort → ℕ
rounds_sum r Wires = 0
rounds_sum r Iwires = if r.opens then 1 else 0
rounds_sum r Sources = 0
rounds_sum r Sinks = 0
rounds_sum r Forks = how_many_below (pow r.levels) (λ y. not (is_single (r.outs y)))
rounds_sum r Joins = if is_single r.burst then 0 else 1
rounds_sum r Merges = how_many_below (count r) (λ a. is_out r a && not (is_single (givers r a)))
rounds_sum r Toggles = pow r.levels - 1
rounds_sum r Waits = 0
rounds_sum r Sequencers = 0
