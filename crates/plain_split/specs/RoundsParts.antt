-- The parts of the network of rounds, read from the graph of a process; and what a specification has to do with the process.
use Rattle.std.specs.Prelude.{◌≡◌, ◌↔◌, ℕ, zero, suc, ◌<◌, Bool, true, false, List, [], ◌∷◌, ◌++◌, length, map, slice_index_or}
use Rattle.cmd_tree.specs.declared.tree.Sym.{Sym}
use Rattle.cmd_tree.specs.Lists.{is_in}
use Rattle.cmd_tree.specs.Meaning.{symbols}
use Rattle.net_core.specs.declared.spec.NodeSpec.{NodeSpec}
use Rattle.net_core.specs.Specs.{outs_of, IsFormed, May}
use Rattle.place_graph.specs.declared.leg.Leg.{Leg}
use Rattle.place_graph.specs.declared.wait_graph.WaitGraph.{WaitGraph}
use Rattle.place_graph.specs.declared.wait_graph.Act.{Act}
use Rattle.place_graph.specs.declared.wait_graph.Start.{Start}
use Rattle.place_graph.specs.declared.wait_graph.Start.TheVariants as start
use Rattle.place_graph.specs.Points.{Among}
use Rattle.plain_split.specs.RoundsChart.{Parts}

abbrev pub numbers : List Sym → List ℕ
numbers ss = map (λ a. a.0) ss

abbrev pub begins_with_act : Start → Bool
begins_with_act (start.Wait w) = false
begins_with_act (start.Act a) = true

abbrev pub first_burst : List (List Sym) → List Sym
first_burst [] = []
first_burst (b ∷ bs) = b

abbrev pub outs_at : List Act → ℕ → List ℕ
outs_at [] y = []
outs_at (a ∷ acts) zero = numbers a.outs
outs_at (a ∷ acts) (suc y) = outs_at acts y

-- the parts of a graph with 2 ^ e waits
abbrev pub parts_of : NodeSpec → WaitGraph → ℕ → Parts
parts_of s g e = record {
  spec = s;
  levels = e;
  opens = begins_with_act g.start;
  burst = numbers (first_burst g.bursts);
  outs = outs_at g.acts;
}

-- The specification says what the process with these legs does, whose traces are T: its ports are the symbols of the legs, each on its side, where
-- the symbols a with `out a` are the outputs.
pub record Specifies (s : NodeSpec) (out : ℕ → Bool) (L : List Leg) (T : List ℕ → Type 0) : Type 0 where
  pub formed : IsFormed s
  pub sides : (a : ℕ) → a < length (outs_of s) → slice_index_or (outs_of s) a false ≡ out a
  pub traces : (t : List ℕ) → May s t ↔ T t
  pub empty : T []
  pub closed : (u : List ℕ) (a : ℕ) → T (u ++ a ∷ []) → T u
  pub known : (u : List ℕ) (a : ℕ) → T (u ++ a ∷ []) → a < length (outs_of s)
  pub ports : (l : Leg) (a : ℕ) → Among L l → is_in a (symbols l.marks) ≡ true → a < length (outs_of s)
  pub covers : (a : ℕ) → a < length (outs_of s) → (l : Leg) × Among L l × (is_in a (symbols l.marks) ≡ true)
