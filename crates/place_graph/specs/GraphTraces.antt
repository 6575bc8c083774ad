-- The traces of a graph by numbers.
use Rattle.std.specs.Prelude.{◌≡◌, ℕ, List, [], ◌++◌, map, Option, None, Some, slice_get, IsPermutation}
use Rattle.cmd_tree.specs.declared.tree.Sym.{Sym}
use Rattle.place_graph.specs.Points.{OneOf}
use Rattle.place_graph.specs.declared.wait_graph.WaitGraph.{WaitGraph}
use Rattle.place_graph.specs.declared.wait_graph.Cross.{Cross}
use Rattle.place_graph.specs.declared.wait_graph.Act.{Act}
use Rattle.place_graph.specs.declared.wait_graph.Start.{Start}
use Rattle.place_graph.specs.declared.wait_graph.Start.TheVariants as start

abbrev pub numbers_of : List Sym → List ℕ
numbers_of b = map (λ a. a.0) b

-- where a walk is after an act: at its exit, or at an end
abbrev pub left_by : Option ℕ → Option Start
left_by None = None
left_by (Some w) = Some (start.Wait w)

-- A walk from a wait or an act, or from an end. At a wait the symbols of the burst of one of its crossings
-- come in any order, and then it is at the act of this crossing. At an act its outputs come in any order,
-- and
-- then it is at the exit. It may end anywhere.
pub data GraphWalk (g : WaitGraph) : Option Start → List ℕ → Type 0 where
  ends : (x : Option Start) → GraphWalk g x []
  takes : (x : Option Start) (c : Cross) (b : List Sym) (t u v : List ℕ) → OneOf g.crosses c
      → x ≡ Some (start.Wait c.wait) → slice_get g.bursts c.burst ≡ Some b
      → t ≡ u ++ v → IsPermutation (numbers_of b) u → GraphWalk g (Some (start.Act c.act)) v
      → GraphWalk g x t
  gives : (x : Option Start) (n : ℕ) (y : Act) (t u v : List ℕ) → x ≡ Some (start.Act n)
      → slice_get g.acts n ≡ Some y
      → t ≡ u ++ v → IsPermutation (numbers_of y.outs) u → GraphWalk g (left_by y.exit) v → GraphWalk g x t

-- a front of a walk from the start
abbrev pub TraceOfGraph : WaitGraph → List ℕ → Type 0
TraceOfGraph g t = (u : List ℕ) × GraphWalk g (Some g.start) (t ++ u)
