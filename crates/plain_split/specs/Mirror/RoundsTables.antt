-- The parts of a network of rounds as tables, and the numbers of its wires by blocks.
use Rattle.std.specs.Prelude.{◌≡◌, ℕ, suc, ◌+◌, ◌<◌, ◌≤◌, ◌^◌, true, if◌then◌else◌, List, [], ◌∷◌, ◌++◌, length, map, get_or, slice_index, filter, not, ◌&&◌, Option, None, Some}
use Rattle.std.specs.List.{range_with_len, position_or_len, AllByRecursion}
use Rattle.basic_kinds.specs.declared.kind.Kind.TheVariants as kind
use Rattle.net_core.specs.declared.spec.NodeSpec.{NodeSpec}
use Rattle.net_core.specs.declared.spec.NodeSpec.TheVariants.{Kind as Basic}
use Rattle.place_graph.specs.declared.wait_graph.WaitGraph.{WaitGraph}
use Rattle.net_core.specs.Specs.{outs_of}
use Rattle.net_core.specs.Wiring.{Node}
use Rattle.net_laws.specs.Charts.{node_of}
use Rattle.net_laws.specs.ForkChain.{each}
use Rattle.net_laws.proofs.Among.{Distinct}
use Rattle.plain_split.specs.declared.round_parts.RoundParts.{RoundParts}
use Rattle.plain_split.specs.declared.round_numbers.RoundNumbers.{RoundNumbers}
use Rattle.plain_split.specs.RoundsNet.{pow, leaf, Wire, Sym, To, Go, Put, Out, Top, Name}
use Rattle.plain_split.specs.RoundsChart.{Parts, is_single, back, on, same, count, is_out, givers, outer, places, puts, inner_wires, lines, rounds_chart}
use Rattle.plain_split.specs.RoundsParts.{parts_of}
use Rattle.plain_split.specs.Mirror.RoundsGives.{gives_of}

-- what the tables say; an act past their end gives nothing
abbrev pub parts_by : RoundParts → Parts
parts_by t = record {
  spec = t.spec;
  levels = t.levels;
  opens = t.opens;
  burst = t.burst.items;
  outs = λ y. get_or (map (λ v. v.items) t.outs.items) y [];
}

abbrev pub number_of : Parts → Wire → ℕ
number_of r w = position_or_len (same (back r w)) (lines r)

-- ---- numbers by blocks of wires

-- the symbol where a wire ends at the environment
abbrev pub end_of : Wire → Option ℕ
end_of (Sym a) = None
end_of (To p) = None
end_of (Go y) = None
end_of (Put y a) = None
end_of (Out a) = Some a

-- the symbol at the end of the path through a wire
abbrev pub end_at : Parts → Wire → Option ℕ
end_at r w = end_of (on r w)

-- A path that ends at the environment has the number of its symbol, another one the next number.
abbrev pub picked : ℕ → Option ℕ → ℕ
picked n None = n
picked n (Some a) = a

abbrev pub after_end : ℕ → Option ℕ → ℕ
after_end n None = n + 1
after_end n (Some a) = n

abbrev pub numbered : ℕ → List (Option ℕ) → List ℕ
numbered n [] = []
numbered n (e ∷ es) = picked n e ∷ numbered (after_end n e) es

abbrev pub after_ends : ℕ → List (Option ℕ) → ℕ
after_ends n [] = n
after_ends n (e ∷ es) = after_ends (after_end n e) es

-- the next number behind these wires, which are the first of those that begin inside
abbrev pub next_after : Parts → List Wire → ℕ
next_after r ws = after_ends (count r) (map (end_at r) ws)

abbrev pub top_wires : Parts → List Wire
top_wires r = if is_single r.burst then [] else To Top ∷ []

abbrev pub begin_wires : Parts → List Wire
begin_wires r = if r.opens then Go 0 ∷ [] else []

-- the wires before those of the level below d levels
abbrev pub before_level : Parts → ℕ → List Wire
before_level r d = top_wires r ++ each (places r) d

abbrev pub before_begin : Parts → List Wire
before_begin r = top_wires r ++ each (places r) r.levels

-- the wires before the outputs of the act y
abbrev pub before_puts : Parts → ℕ → List Wire
before_puts r y = top_wires r ++ (each (places r) r.levels ++ (begin_wires r ++ each (puts r) y))

-- the numbers of the places of a level, and of the outputs of an act
abbrev pub level_numbers : Parts → ℕ → List ℕ
level_numbers r d = map (λ i. number_of r (To (leaf d i))) (range_with_len 0 (pow d))

abbrev pub put_numbers : Parts → ℕ → List ℕ
put_numbers r y = map (λ a. number_of r (Put y a)) (r.outs y)

-- What the code relies on: how large the parts are, which symbols are where, and how the wires are numbered.
pub record IsReady (r : Parts) : Type 0 where
  pub some_levels : 0 < r.levels
  pub few_acts : pow r.levels < 2 ^ 27
  pub few_wires : length (lines r) < 2 ^ 20
  pub few_names : count r < 2 ^ 20
  pub burst_some : 0 < length r.burst
  pub few_burst : length r.burst < 2 ^ 27
  pub outs_some : (y : ℕ) → y < pow r.levels → 0 < length (r.outs y)
  pub few_outs : (y : ℕ) → y < pow r.levels → length (r.outs y) < 2 ^ 27
  pub outs_known : (y : ℕ) → y < pow r.levels → AllByRecursion (λ a. a < count r) (r.outs y)
  pub outs_once : (y : ℕ) → y < pow r.levels → Distinct (r.outs y)
  pub takes : map (λ a. number_of r (Sym a)) r.burst ≡ r.burst
  pub ports : (a : ℕ) → a < count r → number_of r (outer r a) ≡ a
  pub blocks : (us ws vs : List Wire) → inner_wires r ≡ us ++ (ws ++ vs) → numbered (next_after r us) (map (end_at r) ws) ≡ map (number_of r) ws
  pub all_wires : next_after r (inner_wires r) ≡ length (lines r)
  pub next_few : (us vs : List Wire) → inner_wires r ≡ us ++ vs → next_after r us ≤ length (lines r)

-- The graph of a process in 2^e rounds, for a network with the specification s.
pub record IsRoundGraph (s : NodeSpec) (g : WaitGraph) (e : ℕ) : Type 0 where
  pub waits : g.waits ≡ pow e
  pub acts : length g.acts ≡ pow e
  pub ready : IsReady (parts_of s g e)

-- The tables are those of a process in rounds.
pub record IsTabled (t : RoundParts) : Type 0 where
  pub ready : IsReady (parts_by t)
  pub acts : length t.outs.items ≡ pow t.levels
  pub sides : t.sides.items ≡ outs_of t.spec
  pub names : length t.gives.items ≡ length (outs_of t.spec)
  pub gives : (a : ℕ) → a < length (outs_of t.spec) → get_or (map (λ v. v.items) t.gives.items) a [] ≡ gives_of (parts_by t).outs (pow t.levels) a

-- The numbers are those of the wires.
pub record IsNumbered (r : Parts) (n : RoundNumbers) : Type 0 where
  pub tree : map (λ v. v.items) n.tree.items ≡ map (level_numbers r) (range_with_len 0 (suc r.levels))
  pub begin : r.opens ≡ true → n.begin ≡ number_of r (Go 0)
  pub puts : map (λ v. v.items) n.puts.items ≡ map (put_numbers r) (range_with_len 0 (pow r.levels))
  pub wires : n.wires ≡ length (lines r)

-- ---- the components

abbrev pub part_of : Parts → Name → Node
part_of r n = node_of (rounds_chart r) n

-- a TOGGLE of one level of the tree, from the numbers of this level and the next one
abbrev pub toggle_of : List ℕ → List ℕ → ℕ → Node
toggle_of upper lower i = record { spec = Basic kind.Toggle; ends = slice_index upper i ∷ slice_index lower i ∷ slice_index lower (i + length upper) ∷ [] }

-- the symbols that two acts or more give
abbrev pub shown : Parts → List ℕ
shown r = filter (λ a. is_out r a && not (is_single (givers r a))) (range_with_len 0 (count r))
