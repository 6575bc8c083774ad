-- The same is counted of a process by itself as of the process in its command.
use Rattle.std.proofs.Common.{◌≡◌, ℕ, zero, suc, ◌+◌, ◌-◌, ◌<◌, Bool, true, false, true≢false, cond, ◌||◌, List, [], ◌∷◌, ◌++◌, map, length, filter, get_or, Some, refl, sym, ap, ◌∙◌, subst, append-nil}
use Rattle.std.specs.Prelude.{nat_eq, if◌then◌else◌, IsTrue, slice_get}
use Rattle.std.specs.List.{AllByRecursion, range_with_len}
use Rattle.std.proofs.lemmas.List.{length-map}
use Rattle.cmd_tree.specs.declared.tree.Mark.{Mark}
use Rattle.cmd_tree.specs.declared.tree.Proc.{Proc}
use Rattle.cmd_tree.specs.Limits.{marks_of_proc, IsCommand}
use Rattle.cmd_tree.specs.Lists.{is_in}
use Rattle.cmd_tree.specs.Meaning.{symbols}
use Rattle.cmd_rename.specs.Symbols.{renumbered}
use Rattle.cmd_rename.proofs.Numbering.{symbols_distinct}
use Rattle.basic_kinds.specs.Sorts.{Sort, Wires, Merges, Toggles, same_sort}
use Rattle.basic_kinds.specs.Sums.{Counted, One, Wide, so_many, total_of}
use Rattle.place_graph.specs.declared.leg.Leg.{Leg}
use Rattle.place_graph.specs.declared.wait_graph.Act.{Act}
use Rattle.place_graph.specs.declared.wait_graph.WaitGraph.{WaitGraph}
use Rattle.place_graph.specs.declared.styles.SplitStyle.{SplitStyle}
use Rattle.place_graph.specs.declared.styles.SplitStyle.TheVariants.{OneWait, Rounds, Token}
use Rattle.place_graph.specs.Points.{legs}
use Rattle.place_graph.specs.Graph.{syms, has_sym, is_act, acts_of, act, graph_of}
use Rattle.place_graph.specs.Style.{style_of}
use Rattle.place_graph.specs.Sums.{outs_at, givers, all_acts, joins, calls, shows, first_act, spreads, is_one, is_straight, directs, of_style, counted}
use Rattle.place_graph.proofs.LegBounds.{legs_marks}
use Rattle.place_graph.proofs.Ranges.{all_among}
use Rattle.cmd_alone.specs.Alone.{own_symbols, symbol_at}
use Rattle.cmd_rename.specs.Symbols.{names_in}
use Rattle.cmd_alone.proofs.Ranks.{got_in, rank_got}
use Rattle.cmd_alone.proofs.Valid.{symbols_below}
use Rattle.cmd_alone.proofs.Back.{numbered_alone, own_in}
use Rattle.cmd_alone.proofs.Apart.{ranks_agree, wide_rank, wide_apart, by_wide_rank}
use Rattle.cmd_alone.proofs.Admission.{one_process}
use Rattle.cmd_alone.proofs.Graphs.{ren_graph, graph_kept}
use Rattle.cmd_alone.proofs.SymbolSums.{total_joined, total_map, total_filter, over_numbers}
use Rattle.cmd_alone.proofs.GraphSums.{joins_kept, calls_kept, first_act_kept, spreads_kept, moves_kept, returns_kept, first_wait_kept, meetings_kept, style_kept, givers_kept, direct_kept}

-- ---- no act gives a symbol that the process has not
abbrev Other : ℕ → Mark → Type 0
Other a m = nat_eq a m.sym.0 ≡ false

or_left : (b c : Bool) → (b || c) ≡ false → b ≡ false
or_left true c h = absurd (true≢false h)
or_left false c h = refl

or_right : (b c : Bool) → (b || c) ≡ false → c ≡ false
or_right true c h = absurd (true≢false h)
or_right false c h = h

all_other : (a : ℕ) (ms : List Mark) → is_in a (symbols ms) ≡ false → AllByRecursion (Other a) ms
all_other a [] h = tt
all_other a (m ∷ ms) h = (or_left (nat_eq a m.sym.0) (is_in a (symbols ms)) h, all_other a ms (or_right (nat_eq a m.sym.0) (is_in a (symbols ms)) h))

lacks_marks : (a : ℕ) (ms : List Mark) → AllByRecursion (Other a) ms → has_sym (record { 0 = a }) (syms ms) ≡ false
lacks_marks a [] h = refl
lacks_marks a (m ∷ ms) h = λ j. h.0 j || lacks_marks a ms h.1 j

lacks : (a : ℕ) (L M : List Leg) → AllByRecursion (λ (l : Leg). AllByRecursion (Other a) l.marks) M → (n : ℕ) → has_sym (record { 0 = a }) (get_or (map (λ (y : Act). y.outs) (map (act L) M)) n []) ≡ false
lacks a L [] h n = refl
lacks a L (l ∷ M) h zero = lacks_marks a l.marks h.0
lacks a L (l ∷ M) h (suc n) = lacks a L M h.1 n

all_filter : (P : Leg → Type 0) (test : Leg → Bool) (L : List Leg) → AllByRecursion P L → AllByRecursion P (filter test L)
all_filter P test [] h = tt
all_filter P test (l ∷ L) h = by (test l) (filter test L) (all_filter P test L h.1)
  where
    by : (b : Bool) (M : List Leg) → AllByRecursion P M → AllByRecursion P (cond b (l ∷ M) M)
    by true M k = (h.0, k)
    by false M k = k

filter_none : (test : ℕ → Bool) (xs : List ℕ) → ((x : ℕ) → test x ≡ false) → filter test xs ≡ []
filter_none test [] e = refl
filter_none test (x ∷ xs) e = (λ j. cond (e x j) (x ∷ filter test xs) (filter test xs)) ∙ filter_none test xs e

not_own : (p : Proc) (a : ℕ) → is_in a (own_symbols p) ≡ false → is_in a (symbols (marks_of_proc p)) ≡ false
not_own p a off = by (is_in a (symbols (marks_of_proc p))) refl
  where
    by : (b : Bool) → is_in a (symbols (marks_of_proc p)) ≡ b → b ≡ false
    by false e = refl
    by true e = absurd (true≢false (sym (own_in p a (subst (λ ms. IsTrue (is_in a (symbols ms))) (sym (append-nil (marks_of_proc p))) e)) ∙ off))

no_givers : (p : Proc) (a : ℕ) → is_in a (own_symbols p) ≡ false → givers (graph_of p) a ≡ []
no_givers p a off =
    let others = all_among (λ l. AllByRecursion (Other a) l.marks) (legs p) (legs_marks (Other a) p (all_other a (marks_of_proc p) (not_own p a off))) in
    filter_none (λ n. has_sym (record { 0 = a }) (outs_at (graph_of p) n)) (all_acts (graph_of p))
    (lacks a (legs p) (acts_of (legs p)) (all_filter (λ l. AllByRecursion (Other a) l.marks) is_act (legs p) others))

-- ---- sums
pub none_counted : (s t : Sort) → so_many 0 s t ≡ 0
none_counted s t = by (same_sort s t)
  where
    by : (b : Bool) → ◌≡◌ {A = ℕ} (if b then 0 else 0) 0
    by true = refl
    by false = refl

module _ (sum : Counted → Sort → ℕ) (t : Sort) (none : sum (Wide Merges 0) t ≡ 0) where
  five : (A B C D E : List Counted) → total_of sum (A ++ (B ++ (C ++ (D ++ E)))) t ≡ total_of sum A t + (total_of sum B t + (total_of sum C t + (total_of sum D t + total_of sum E t)))
  five A B C D E = total_joined sum A (B ++ (C ++ (D ++ E))) t
      ∙ ap (λ n. total_of sum A t + n) (total_joined sum B (C ++ (D ++ E)) t
      ∙ ap (λ n. total_of sum B t + n) (total_joined sum C (D ++ E) t
      ∙ ap (λ n. total_of sum C t + n) (total_joined sum D E t)))

  module _ (n : ℕ) (p : Proc) (below : AllByRecursion (λ a. a < n) (own_symbols p)) where
    abbrev m : ℕ
    m = length (own_symbols p)

    abbrev g : WaitGraph
    g = graph_of p

    abbrev h : WaitGraph
    h = ren_graph (wide_rank p) (graph_of p)

    rank_at : (k : ℕ) → k < m → k ≡ wide_rank p (symbol_at p k)
    rank_at k l = sym (sym (ranks_agree (own_symbols p) (symbol_at p k) (got_in (own_symbols p) k l)) ∙ rank_got (own_symbols p) k (symbols_distinct (p ∷ [])) l)

    shows_total : total_of sum (shows h m) t ≡ total_of sum (shows g n) t
    shows_total = total_map sum (λ a. Wide Merges (length (givers h a))) (range_with_len 0 m) t
        ∙ over_numbers (λ a. sum (Wide Merges (length (givers h a))) t) (λ a. sum (Wide Merges (length (givers g a))) t) n (own_symbols p) (symbols_distinct (p ∷ [])) below
        (λ a off. ap (λ (ns : List ℕ). sum (Wide Merges (length ns)) t) (no_givers p a off) ∙ none)
        (λ k l. ap (λ (ns : List ℕ). sum (Wide Merges (length ns)) t) (ap (givers h) (rank_at k l) ∙ givers_kept (wide_rank p) g (wide_apart p) (symbol_at p k)))
        ∙ sym (total_map sum (λ a. Wide Merges (length (givers g a))) (range_with_len 0 n) t)

    directs_total : total_of sum (directs h m) t ≡ total_of sum (directs g n) t
    directs_total = total_filter sum (One Wires) (λ a. is_one (is_straight h) (givers h a)) (range_with_len 0 m) t
        ∙ over_numbers (λ a. if is_one (is_straight h) (givers h a) then sum (One Wires) t else 0) (λ a. if is_one (is_straight g) (givers g a) then sum (One Wires) t else 0) n (own_symbols p) (symbols_distinct (p ∷ [])) below
        (λ a off. ap (λ ns. if is_one (is_straight g) ns then sum (One Wires) t else 0) (no_givers p a off))
        (λ k l. ap (λ b. if b then sum (One Wires) t else 0) (ap (λ a. is_one (is_straight h) (givers h a)) (rank_at k l) ∙ direct_kept (wide_rank p) g (wide_apart p) (symbol_at p k)))
        ∙ sym (total_filter sum (One Wires) (λ a. is_one (is_straight g) (givers g a)) (range_with_len 0 n) t)

    style_total : (s : SplitStyle) → total_of sum (of_style s h m) t ≡ total_of sum (of_style s g n) t
    style_total OneWait = total_joined sum (spreads h) (directs h m) t ∙ (λ j. total_of sum (spreads_kept (wide_rank p) g j) t + directs_total j) ∙ sym (total_joined sum (spreads g) (directs g n) t)
    style_total (Rounds k) = λ j. total_of sum (spreads_kept (wide_rank p) g j ++ map (λ i. One Toggles) (range_with_len 0 (k - 1))) t
    style_total Token = λ j. total_of sum (moves_kept (wide_rank p) g j ++ (returns_kept (wide_rank p) g j ++ (first_wait_kept (wide_rank p) g g.start j ++ meetings_kept (wide_rank p) g j))) t

    kept : total_of sum (of_style (style_of h) h m) t ≡ total_of sum (of_style (style_of g) g n) t
    kept = ap (λ s. total_of sum (of_style s h m) t) (style_kept (wide_rank p) g) ∙ style_total (style_of g)

    graph_counted : total_of sum (counted h m) t ≡ total_of sum (counted g n) t
    graph_counted = five (joins h) (calls h) (shows h m) (first_act h) (of_style (style_of h) h m)
        ∙ (λ j. total_of sum (joins_kept (wide_rank p) g j) t + (total_of sum (calls_kept (wide_rank p) g j) t
        + (shows_total j + (total_of sum (first_act_kept (wide_rank p) g j) t + kept j))))
        ∙ sym (five (joins g) (calls g) (shows g n) (first_act g) (of_style (style_of g) g n))

    alone_counted : total_of sum (counted (graph_of (numbered_alone p)) m) t ≡ total_of sum (counted (graph_of p) n) t
    alone_counted = ap (λ q. total_of sum (counted (graph_of q) m) t) (by_wide_rank p) ∙ ap (λ (u : WaitGraph). total_of sum (counted u m) t) (graph_kept (wide_rank p) (wide_apart p) p) ∙ graph_counted

  pub counted_as : (names : List (List ℕ)) (procs : List Proc) (own : List (List ℕ)) (ps : List Proc) (i : ℕ) (p q : Proc) → IsCommand names procs → slice_get procs i ≡ Some p
      → ps ≡ renumbered (p ∷ []) → own ≡ names_in names (own_symbols p) → ps ≡ q ∷ []
      → total_of sum (counted (graph_of q) (length own)) t ≡ total_of sum (counted (graph_of p) (length names)) t
  counted_as names procs own ps i p q v at e o s =
      (λ j. total_of sum (counted (graph_of (sym (one_process p q (sym e ∙ s)) j)) ((ap length o ∙ length-map (own_symbols p) (λ a. get_or names a [])) j)) t)
      ∙ alone_counted (length names) p (symbols_below names procs i p v at)
