-- The components of one process, and of a command, as sums count them. They are read off the graph: no network is
-- built.
use Rattle.std.specs.Prelude.{ℕ, ◌+◌, ◌-◌, Bool, false, not, ◌&&◌, nat_eq, if◌then◌else◌, List, [], ◌∷◌, ◌++◌, length, map, filter, get_or, Option, Some, None}
use Rattle.std.specs.List.{range_with_len}
use Rattle.cmd_tree.specs.declared.tree.Sym.{Sym}
use Rattle.cmd_tree.specs.declared.tree.Proc.{Proc}
use Rattle.basic_kinds.specs.Sorts.{Sort, Wires, Iwires, Sources, Forks, Joins, Merges, Toggles, how_many}
use Rattle.basic_kinds.specs.ShapeParts.{part_at, part_names, part_rows, part_columns, local_part}
use Rattle.basic_kinds.specs.Sums.{Counted, One, Wide, Wait, total_of}
use Rattle.di_grammar.specs.Sums.{grants, woven}
use Rattle.place_graph.specs.declared.wait_graph.WaitGraph.{WaitGraph}
use Rattle.place_graph.specs.declared.wait_graph.Start.{Start}
use Rattle.place_graph.specs.declared.wait_graph.Start.TheVariants as start
use Rattle.place_graph.specs.declared.styles.SplitStyle.{SplitStyle}
use Rattle.place_graph.specs.declared.styles.SplitStyle.TheVariants.{OneWait, Rounds, Token}
use Rattle.place_graph.specs.Graph.{graph_of, has_sym}
use Rattle.place_graph.specs.Style.{is_exit, has_entry, style_of}

-- the symbols of a burst, and the outputs of an act, by number
abbrev pub symbols_at : WaitGraph → ℕ → List Sym
symbols_at g b = get_or g.bursts b []

abbrev pub outs_at : WaitGraph → ℕ → List Sym
outs_at g n = get_or (map (λ y. y.outs) g.acts) n []

-- the bursts that lead to an act, once for each crossing
abbrev pub entries_of : WaitGraph → ℕ → List ℕ
entries_of g n = map (λ c. c.burst) (filter (λ c. nat_eq c.act n) g.crosses)

-- the acts that give a symbol
abbrev pub givers : WaitGraph → ℕ → List ℕ
givers g a = filter (λ n. has_sym (record { 0 = a }) (outs_at g n)) (range_with_len 0 (length g.acts))

abbrev pub all_bursts : WaitGraph → List ℕ
all_bursts g = range_with_len 0 (length g.bursts)

abbrev pub all_acts : WaitGraph → List ℕ
all_acts g = range_with_len 0 (length g.acts)

-- ---- in every style

-- a C for each burst
abbrev pub joins : WaitGraph → List Counted
joins g = map (λ b. Wide Joins (length (symbols_at g b))) (all_bursts g)

-- a MERGE for each act, of its entries
abbrev pub calls : WaitGraph → List Counted
calls g = map (λ n. Wide Merges (length (entries_of g n))) (all_acts g)

-- a MERGE for each symbol, of the acts that give it
abbrev pub shows : WaitGraph → ℕ → List Counted
shows g names = map (λ a. Wide Merges (length (givers g a))) (range_with_len 0 names)

abbrev pub begins_at : Start → ℕ → Bool
begins_at (start.Wait w) n = false
begins_at (start.Act m) n = nat_eq n m

abbrev pub gate : List ℕ → Counted
gate [] = One Sources
gate (b ∷ bs) = One Iwires

-- at the act where the process begins, an IWIRE where something leads there, else a SOURCE
abbrev pub first_act : WaitGraph → List Counted
first_act g = map (λ n. gate (entries_of g n)) (filter (begins_at g.start) (all_acts g))

-- ---- with one wait, and in rounds

-- a FORK for each act, to its outputs
abbrev pub spreads : WaitGraph → List Counted
spreads g = map (λ n. Wide Forks (length (outs_at g n))) (all_acts g)

-- ---- with one wait

-- there is one, and it passes the test
abbrev pub is_one : (ℕ → Bool) → List ℕ → Bool
is_one test [] = false
is_one test (x ∷ []) = test x
is_one test (x ∷ y ∷ xs) = false

-- The act leads one input straight to one output: it has one entry, whose burst has one symbol, it has one output, and
-- the process does not begin there.
abbrev pub is_straight : WaitGraph → ℕ → Bool
is_straight g n = nat_eq (length (outs_at g n)) 1 && (not (begins_at g.start n)
    && is_one (λ b. nat_eq (length (symbols_at g b)) 1) (entries_of g n))

-- a WIRE for each symbol that such an act gives and no other act
abbrev pub directs : WaitGraph → ℕ → List Counted
directs g names = map (λ a. One Wires) (filter (λ a. is_one (is_straight g) (givers g a)) (range_with_len 0 names))

-- ---- with a token

-- a FORK for each act, to its outputs and its exit
abbrev pub exits : Option ℕ → ℕ
exits None = 0
exits (Some w) = 1

abbrev pub moves : WaitGraph → List Counted
moves g = map (λ y. Wide Forks (length y.outs + exits y.exit)) g.acts

-- a MERGE for each wait, of the acts that lead to it
abbrev pub leading : WaitGraph → ℕ → ℕ
leading g w = how_many (λ y. is_exit w y.exit) g.acts

abbrev pub returns : WaitGraph → List Counted
returns g = map (λ w. Wide Merges (leading g w)) (range_with_len 0 g.waits)

-- where the process begins at a wait, an IWIRE where an act leads there, else a SOURCE
abbrev pub first_wait : Start → WaitGraph → List Counted
first_wait (start.Act n) g = []
first_wait (start.Wait w) g = One (if has_entry g.start g.acts g.crosses then Iwires else Sources) ∷ []

-- a DW for each connected part of the crossings; one of a single crossing is a C
abbrev pub pairs : WaitGraph → List (ℕ × ℕ)
pairs g = map (λ c. (c.wait, c.burst)) g.crosses

abbrev pub meeting : WaitGraph → List (ℕ × ℕ) → Counted
meeting g part = Wait (length (part_rows g.waits part)) (length (part_columns (length g.bursts) part)) (local_part part)

abbrev pub meetings : WaitGraph → List Counted
meetings g = map (λ i. meeting g (part_at g.waits (pairs g) i)) (part_names g.waits (pairs g))

-- ---- the sums

abbrev pub of_style : SplitStyle → WaitGraph → ℕ → List Counted
of_style OneWait g names = spreads g ++ directs g names
of_style (Rounds k) g names = spreads g ++ map (λ i. One Toggles) (range_with_len 0 (k - 1))
of_style Token g names = moves g ++ (returns g ++ (first_wait g.start g ++ meetings g))

-- what is counted of a process with this graph, over so many symbols
abbrev pub counted : WaitGraph → ℕ → List Counted
counted g names = joins g ++ (calls g ++ (shows g names ++ (first_act g ++ of_style (style_of g) g names)))

abbrev pub processes : List Proc → ℕ → List Counted
processes [] names = []
processes (p ∷ ps) names = (if grants p then [] else counted (graph_of p) names) ++ processes ps names

-- what is counted of a command of these processes: its weave, and each of them that is no grant
abbrev pub of_command : List Proc → ℕ → List Counted
of_command ps names = woven ps names ++ processes ps names

-- how many components of each sort a network of the command has, in the basis of the sum
abbrev pub command_sum : (Counted → Sort → ℕ) → List Proc → ℕ → Sort → ℕ
command_sum sum ps names = total_of sum (of_command ps names)
