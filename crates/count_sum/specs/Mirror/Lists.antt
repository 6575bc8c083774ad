-- How often numbers stand in lists, and which outputs acts give.
use Rattle.std.specs.Prelude.{ℕ, Bool, false, nat_eq, if◌then◌else◌, List, [], ◌∷◌, ◌++◌, map, filter, length, get_or, slice_get, Option, None, Some, ◌&&◌, not}
use Rattle.std.specs.List.{range_with_len, list_any}
use Rattle.cmd_tree.specs.declared.tree.Sym.{Sym}
use Rattle.basic_kinds.specs.Sorts.{Sort, Iwires, Sources, Wires, how_many}
use Rattle.basic_kinds.specs.Sums.{Counted, One}
use Rattle.place_graph.specs.declared.wait_graph.Act.{Act}
use Rattle.place_graph.specs.declared.wait_graph.Cross.{Cross}
use Rattle.place_graph.specs.declared.wait_graph.Start.{Start}
use Rattle.place_graph.specs.declared.wait_graph.Start.TheVariants as start
use Rattle.place_graph.specs.declared.wait_graph.WaitGraph.{WaitGraph}
use Rattle.place_graph.specs.GraphTraces.{numbers_of}
use Rattle.place_graph.specs.Style.{is_exit}
use Rattle.place_graph.specs.Sums.{outs_at, begins_at}

-- how often the number n stands in the list
abbrev pub times : List ℕ → ℕ → ℕ
times xs n = how_many (λ x. nat_eq x n) xs

-- one list after the other
abbrev pub joined : {A : Type 0} → (A → List ℕ) → List A → List ℕ
joined f [] = []
joined f (x ∷ xs) = f x ++ joined f xs

-- the outputs of an act, where it is marked
abbrev pub kept_outs : List Bool → List Act → ℕ → List Sym
kept_outs kept acts n = if get_or kept n false then get_or (map (λ y. y.outs) acts) n [] else []

-- the outputs of all acts that are marked
abbrev pub given_by : List Bool → List Act → List ℕ
given_by kept acts = joined (λ n. numbers_of (kept_outs kept acts n)) (range_with_len 0 (length acts))

-- the wait that is led to, if there is one
abbrev pub listed : Option ℕ → List ℕ
listed None = []
listed (Some w) = w ∷ []

-- the acts of the crossings whose burst is of one symbol
abbrev pub single_acts : List (List Sym) → List Cross → List ℕ
single_acts bursts crosses = map (λ c. c.act) (filter (λ c. nat_eq (length (get_or bursts c.burst [])) 1) crosses)

-- a SOURCE for none, and an IWIRE for some
abbrev pub gate_of : ℕ → Counted
gate_of n = One (if nat_eq n 0 then Sources else Iwires)

abbrev pub gate_at : Option ℕ → List Counted
gate_at None = []
gate_at (Some n) = gate_of n ∷ []

abbrev pub first_by : Start → List ℕ → List Counted
first_by (start.Wait w) entries = []
first_by (start.Act n) entries = gate_at (slice_get entries n)

-- a WIRE for each symbol with one giver, which is marked
abbrev pub directs_by : List ℕ → List ℕ → List Counted
directs_by givers straights = map (λ a. One Wires) (filter (λ a. nat_eq (get_or givers a 0) 1 && nat_eq (get_or straights a 0) 1) (range_with_len 0 (length givers)))

-- at the wait where a process begins, an IWIRE where an act leads there, else a SOURCE
abbrev pub wait_gate : ℕ → List Act → Sort
wait_gate w acts = if list_any (λ y. is_exit w y.exit) acts then Iwires else Sources

abbrev pub first_wait_by : Start → List Act → List Counted
first_wait_by (start.Act n) acts = []
first_wait_by (start.Wait w) acts = One (wait_gate w acts) ∷ []

-- the act leads one input straight to one output, where so many crossings lead to each act, and so many by a burst of
-- one symbol
abbrev pub straight_by : List ℕ → List ℕ → WaitGraph → ℕ → Bool
straight_by entries singles g n = nat_eq (length (outs_at g n)) 1 && not (begins_at g.start n) && nat_eq (get_or entries n 0) 1 && nat_eq (get_or singles n 0) 1
