-- The graph of a process by numbers: waits, bursts, crossings and acts.
use Rattle.std.specs.Prelude.{ℕ, Bool, false, ◌&&◌, not, nat_eq, if◌then◌else◌, List, [], ◌∷◌, ◌++◌, length, map, filter, Option, position}
use Rattle.std.specs.List.{list_any, list_all, position_or_len}
use Rattle.std.specs.Ordering.{nat_cmp, ordering_then, is_lt}
use Rattle.std.specs.declared.cmp.Ordering.{Ordering}
use Rattle.cmd_tree.specs.declared.tree.Sym.{Sym}
use Rattle.cmd_tree.specs.declared.tree.Mark.{Mark}
use Rattle.cmd_tree.specs.declared.tree.Proc.{Proc}
use Rattle.cmd_tree.specs.Marks.{is_output}
use Rattle.cmd_tree.specs.Lists.{is_in}
use Rattle.place_graph.specs.declared.leg.Leg.{Leg}
use Rattle.place_graph.specs.declared.wait_graph.WaitGraph.{WaitGraph}
use Rattle.place_graph.specs.declared.wait_graph.Cross.{Cross}
use Rattle.place_graph.specs.declared.wait_graph.Act.{Act}
use Rattle.place_graph.specs.declared.wait_graph.Start.{Start}
use Rattle.place_graph.specs.declared.wait_graph.Start.TheVariants as start
use Rattle.place_graph.specs.Points.{legs}

-- ---- lists without repetition

-- a list, and behind it each of the others that is the same as none before it
abbrev pub with_new : {A : Type 0} → (A → A → Bool) → List A → List A → List A
with_new same xs [] = xs
with_new same xs (y ∷ ys) = with_new same (if list_any (same y) xs then xs else xs ++ y ∷ []) ys

-- each once, where it stands first
abbrev pub firsts : {A : Type 0} → (A → A → Bool) → List A → List A
firsts same xs = with_new same [] xs

-- ---- legs by direction

-- the direction of a burst is that of its first mark
abbrev pub gives : List Mark → Bool
gives [] = false
gives (m ∷ ms) = is_output m.dir

-- an act is a burst of outputs
abbrev pub is_act : Leg → Bool
is_act l = gives l.marks

abbrev pub acts_of : List Leg → List Leg
acts_of L = filter is_act L

abbrev pub inputs_of : List Leg → List Leg
inputs_of L = filter (λ l. not (is_act l)) L

-- ---- numbers

abbrev pub points_of : List Leg → List ℕ
points_of L = map (λ l. l.from) L

-- The waits are the points from which inputs lead. They stand in the order of the least places of these
-- inputs. So the number of a wait is its rank among the names of waits, and where the process begins with
-- inputs, its first wait is number 0.
abbrev pub wait_points : List Leg → List ℕ
wait_points L = firsts nat_eq (points_of (inputs_of L))

-- an act is known by the point before it
abbrev pub act_points : List Leg → List ℕ
act_points L = firsts nat_eq (points_of (acts_of L))

-- the number of a point: how many stand before it
abbrev pub index_of : ℕ → List ℕ → ℕ
index_of x points = position_or_len (nat_eq x) points

-- the number of a point that may be none of them
abbrev pub number_at : ℕ → List ℕ → Option ℕ
number_at x points = position (nat_eq x) points

-- ---- bursts

abbrev pub syms : List Mark → List Sym
syms ms = map (λ m. m.sym) ms

abbrev pub has_sym : Sym → List Sym → Bool
has_sym a b = list_any (λ c. nat_eq a.0 c.0) b

-- the same symbols in any order
abbrev pub same_set : List Sym → List Sym → Bool
same_set b c = list_all (λ a. has_sym a c) b && list_all (λ a. has_sym a b) c

-- the input bursts as sets
abbrev pub bursts_of : List Leg → List (List Sym)
bursts_of L = firsts same_set (map (λ l. syms l.marks) (inputs_of L))

-- ---- crossings and acts

-- the number of the burst of a leg, and of the burst that has a symbol
abbrev pub burst_number : List Leg → Leg → ℕ
burst_number L l = position_or_len (same_set (syms l.marks)) (bursts_of L)

abbrev pub home_number : List Leg → ℕ → ℕ
home_number L a = position_or_len (has_sym (record { 0 = a })) (bursts_of L)

-- an input burst by numbers
abbrev pub cross : List Leg → Leg → Cross
cross L l = record {
  wait = index_of l.from (wait_points L);
  burst = burst_number L l;
  act = index_of l.to (act_points L);
}

-- by wait, then by burst, then by act
abbrev pub order : Cross → Cross → Ordering
order a b = ordering_then (nat_cmp a.wait b.wait)
    (ordering_then (nat_cmp a.burst b.burst) (nat_cmp a.act b.act))

abbrev pub is_before : Cross → Cross → Bool
is_before a b = is_lt (order a b)

abbrev pub put : Cross → List Cross → List Cross
put c [] = c ∷ []
put c (d ∷ ds) = if is_before d c then d ∷ put c ds else c ∷ d ∷ ds

abbrev pub in_order : List Cross → List Cross
in_order [] = []
in_order (c ∷ cs) = put c (in_order cs)

-- an output burst by numbers
abbrev pub act : List Leg → Leg → Act
act L l = record { outs = syms l.marks; exit = number_at l.to (wait_points L) }

-- the process begins at the point 1, an act or a wait
abbrev pub start_at : List ℕ → List ℕ → Start
start_at acts waits = if is_in 1 acts then start.Act (index_of 1 acts) else start.Wait (index_of 1 waits)

abbrev pub numbered : List Leg → WaitGraph
numbered L = record {
  waits = length (wait_points L);
  bursts = bursts_of L;
  crosses = in_order (map (cross L) (inputs_of L));
  acts = map (act L) (acts_of L);
  start = start_at (act_points L) (wait_points L);
}

abbrev pub graph_of : Proc → WaitGraph
graph_of p = numbered (legs p)
