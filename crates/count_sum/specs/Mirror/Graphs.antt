-- The graphs of which the components are counted.
use Rattle.std.specs.Prelude.{◌≡◌, ℕ, ◌+◌, ◌<◌, ◌^◌, false, IsTrue, length}
use Rattle.std.specs.List.{list_all, AllByRecursion}
use Rattle.basic_kinds.specs.Shapes.{is_within}
use Rattle.cmd_tree.specs.declared.tree.Proc.{Proc}
use Rattle.di_grammar.specs.Sums.{grants}
use Rattle.net_laws.proofs.Among.{Distinct}
use Rattle.place_graph.specs.Drawable.{IsDrawable}
use Rattle.place_graph.specs.Graph.{graph_of}
use Rattle.place_graph.specs.declared.wait_graph.WaitGraph.{WaitGraph}
use Rattle.place_graph.specs.GraphTraces.{numbers_of}
use Rattle.place_graph.specs.Sums.{outs_at, pairs}

-- no act gives a symbol twice, the crossings are of its waits and bursts, and numbers of 32 bits count all
pub record IsReadable (g : WaitGraph) : Type 0 where
  pub once : (n : ℕ) → Distinct (numbers_of (outs_at g n))
  pub within : IsTrue (list_all (is_within g.waits (length g.bursts)) (pairs g))
  pub few_lines : g.waits + length g.bursts + 1 < 2 ^ 32
  pub few_crossings : length g.crosses < 2 ^ 32
  pub few_outs : AllByRecursion (λ y. length y.outs < 2 ^ 32) g.acts

-- a process that is no grant has a graph that is readable
abbrev pub IsReadableProcess : Proc → Type 0
IsReadableProcess p = grants p ≡ false → IsDrawable p × IsReadable (graph_of p)
