-- What is counted of a graph, by how often numbers stand in lists.
use Rattle.std.specs.Prelude.{nat_eq, if◌then◌else◌, not, slice_get}
use Rattle.std.specs.List.{filter, range_with_len}
use Rattle.std.proofs.Common.{◌≡◌, ◌⊎◌, inl, inr, ℕ, zero, suc, ◌+◌, ◌<◌, ◌≤◌, Bool, true, false, true≢false, ◌&&◌, ◌||◌, List, [], ◌∷◌, ◌++◌, length, map, get_or, replicate, Option, None, Some, refl, sym, ap, subst, ◌∙◌, arith, eq-eqb, ne_eqb, eqb-true}
use Rattle.std.proofs.lemmas.Bool.{cases_eq, cases_lt}
use Rattle.std.proofs.lemmas.List.{length-map, get_or-replicate}
use Rattle.std.proofs.lemmas.List.FromFn.{get_or-map-range_with_len, length-map-range_with_len}
use Rattle.cmd_tree.specs.declared.tree.Sym.{Sym}
use Rattle.net_laws.proofs.Among.{Among, Distinct}
use Rattle.basic_kinds.specs.Sorts.{Forks, Joins, Merges, Wires, Iwires, Sources, how_many}
use Rattle.basic_kinds.specs.Sums.{One, Wide}
use Rattle.shape_parts.proofs.Chosen.{filter_same, how_many_same}
use Rattle.shape_parts.proofs.Filled.{filter_long}
use Rattle.shape_parts.proofs.Keyed.{by_place, map_same}
use Rattle.place_graph.specs.declared.wait_graph.WaitGraph.{WaitGraph}
use Rattle.place_graph.specs.declared.wait_graph.Act.{Act}
use Rattle.place_graph.specs.declared.wait_graph.Cross.{Cross}
use Rattle.place_graph.specs.declared.wait_graph.Start.{Start}
use Rattle.place_graph.specs.declared.wait_graph.Start.TheVariants as start
use Rattle.place_graph.specs.Graph.{has_sym}
use Rattle.place_graph.specs.GraphTraces.{numbers_of}
use Rattle.place_graph.specs.Style.{is_exit, has_entry}
use Rattle.place_graph.specs.Sums.{symbols_at, outs_at, entries_of, givers, all_acts, joins, spreads, returns, leading, begins_at, gate, first_act, first_wait, is_one, is_straight, directs}
use Rattle.count_sum.specs.Mirror.Lists.{times, joined, listed, kept_outs, given_by, single_acts, gate_of, gate_at, first_by, first_wait_by, directs_by, straight_by}

abbrev bit : Bool → ℕ
bit b = if b then 1 else 0

pub map_twice : {A B C : Type 0} (f : B → C) (h : A → B) (xs : List A) → map f (map h xs) ≡ map (λ x. f (h x)) xs
map_twice f h [] = refl
map_twice f h (x ∷ xs) = ap (λ ys. f (h x) ∷ ys) (map_twice f h xs)

by_range : {A B : Type 0} (f : A → B) (d : A) (xs : List A) → map f xs ≡ map (λ n. f (get_or xs n d)) (range_with_len 0 (length xs))
by_range f d xs = by_place f d 0 (λ n. get_or xs n d) xs (λ j low. let z : 0 + j ≡ j = omega arith in ap (λ n. get_or xs n d) z)

-- ---- bursts and acts

pub joins_are : (g : WaitGraph) → map (Wide Joins) (map (λ (b : List Sym). length b) g.bursts) ≡ joins g
joins_are g = map_twice (Wide Joins) (λ (b : List Sym). length b) g.bursts ∙ by_range (λ (b : List Sym). Wide Joins (length b)) [] g.bursts

pub spreads_are : (g : WaitGraph) → map (Wide Forks) (map (λ (y : Act). length y.outs) g.acts) ≡ spreads g
spreads_are g =
    map_twice (Wide Forks) (λ (y : Act). length y.outs) g.acts
    ∙ sym (map_twice (λ (b : List Sym). Wide Forks (length b)) (λ (y : Act). y.outs) g.acts)
    ∙ by_range (λ (b : List Sym). Wide Forks (length b)) [] (map (λ (y : Act). y.outs) g.acts)
    ∙ ap (λ k. map (λ n. Wide Forks (length (outs_at g n))) (range_with_len 0 k)) (length-map g.acts (λ (y : Act). y.outs))

-- ---- how often numbers stand in lists

times_both : (xs ys : List ℕ) (n : ℕ) → times (xs ++ ys) n ≡ times xs n + times ys n
times_both [] ys n = omega arith
times_both (x ∷ xs) ys n = omega (arith, times_both xs ys n)

pub leading_is : (g : WaitGraph) (w : ℕ) → times (joined (λ (y : Act). listed y.exit) g.acts) w ≡ leading g w
leading_is g w = by g.acts
  where
    one : (o : Option ℕ) → times (listed o) w ≡ bit (is_exit w o)
    one None = refl
    one (Some x) = let z : bit (nat_eq x w) + 0 ≡ bit (nat_eq x w) = omega arith in z

    by : (ys : List Act) → times (joined (λ (y : Act). listed y.exit) ys) w ≡ how_many (λ (y : Act). is_exit w y.exit) ys
    by [] = refl
    by (y ∷ ys) = omega (arith, times_both (listed y.exit) (joined (λ (y : Act). listed y.exit) ys) w, one y.exit, by ys)

pub returns_are : (g : WaitGraph) → map (Wide Merges) (map (times (joined (λ (y : Act). listed y.exit) g.acts)) (range_with_len 0 g.waits)) ≡ returns g
returns_are g = map_twice (Wide Merges) (times (joined (λ (y : Act). listed y.exit) g.acts)) (range_with_len 0 g.waits)
    ∙ map_same (λ w. Wide Merges (times (joined (λ (y : Act). listed y.exit) g.acts) w)) (λ w. Wide Merges (leading g w)) 0 g.waits (λ w a b. ap (Wide Merges) (leading_is g w))

pub entries_are : (g : WaitGraph) → map (times (map (λ (c : Cross). c.act) g.crosses)) (range_with_len 0 (length g.acts)) ≡ map (λ n. length (entries_of g n)) (all_acts g)
entries_are g = map_same (times (map (λ (c : Cross). c.act) g.crosses)) (λ n. length (entries_of g n)) 0 (length g.acts) (λ n a b. sym (long n g.crosses))
  where
    long : (n : ℕ) (cs : List Cross) → length (map (λ (c : Cross). c.burst) (filter (λ (c : Cross). nat_eq c.act n) cs)) ≡ times (map (λ (c : Cross). c.act) cs) n
    long n [] = refl
    long n (c ∷ cs) = by (nat_eq c.act n) (long n cs)
      where
        by : (b : Bool) → length (map (λ (c : Cross). c.burst) (filter (λ (c : Cross). nat_eq c.act n) cs)) ≡ times (map (λ (c : Cross). c.act) cs) n
            → length (map (λ (c : Cross). c.burst) (if b then c ∷ filter (λ (c : Cross). nat_eq c.act n) cs else filter (λ (c : Cross). nat_eq c.act n) cs)) ≡ bit b + times (map (λ (c : Cross). c.act) cs) n
        by true e = omega (arith, e)
        by false e = omega (arith, e)

singles_are : (g : WaitGraph) (n : ℕ) → how_many (λ b. nat_eq (length (symbols_at g b)) 1) (entries_of g n) ≡ times (single_acts g.bursts g.crosses) n
singles_are g n = by g.crosses
  where
    small : Cross → Bool
    small c = nat_eq (length (get_or g.bursts c.burst [])) 1

    step : (a s : Bool) (c : Cross) (es : List Cross) (ss : List Cross) → nat_eq c.act n ≡ a → nat_eq (length (get_or g.bursts c.burst [])) 1 ≡ s
        → how_many (λ b. nat_eq (length (symbols_at g b)) 1) (map (λ (c : Cross). c.burst) es) ≡ times (map (λ (c : Cross). c.act) ss) n
        → how_many (λ b. nat_eq (length (symbols_at g b)) 1) (map (λ (c : Cross). c.burst) (if a then c ∷ es else es)) ≡ times (map (λ (c : Cross). c.act) (if s then c ∷ ss else ss)) n
    step true true c es ss x y e = omega (arith, e, ap bit x, ap bit y)
    step true false c es ss x y e = omega (arith, e, ap bit y)
    step false true c es ss x y e = omega (arith, e, ap bit x)
    step false false c es ss x y e = e

    by : (cs : List Cross) → how_many (λ b. nat_eq (length (symbols_at g b)) 1) (map (λ (c : Cross). c.burst) (filter (λ (c : Cross). nat_eq c.act n) cs))
        ≡ times (map (λ (c : Cross). c.act) (filter (λ (c : Cross). nat_eq (length (get_or g.bursts c.burst [])) 1) cs)) n
    by [] = refl
    by (c ∷ cs) = step (nat_eq c.act n) (nat_eq (length (get_or g.bursts c.burst [])) 1) c (filter (λ (c : Cross). nat_eq c.act n) cs) (filter (λ (c : Cross). nat_eq (length (get_or g.bursts c.burst [])) 1) cs) refl refl (by cs)

-- ---- outputs

has_among : (a : ℕ) (b : List Sym) → has_sym (record { 0 = a }) b ≡ true → Among a (numbers_of b)
has_among a [] h = absurd (true≢false (sym h))
has_among a (c ∷ b) h = by (nat_eq a c.0) refl h (has_among a b)
  where
    by : (e : Bool) → nat_eq a c.0 ≡ e → (e || has_sym (record { 0 = a }) b) ≡ true → (has_sym (record { 0 = a }) b ≡ true → Among a (numbers_of b)) → Among a (numbers_of (c ∷ b))
    by true e x more = inl (eqb-true a c.0 e)
    by false e x more = inr (more x)

one_of_two : (b : Bool) → (b ≡ true → ⊥) → bit b ≡ 0
one_of_two true h = absurd (h refl)
one_of_two false h = refl

once_has : (b : List Sym) → Distinct (numbers_of b) → (a : ℕ) → times (numbers_of b) a ≡ bit (has_sym (record { 0 = a }) b)
once_has [] d a = refl
once_has (x ∷ b) d a = elim (cases_eq a x.0) [
  | inl e ↦
      let none : bit (has_sym (record { 0 = a }) b) ≡ 0 = one_of_two (has_sym (record { 0 = a }) b) (λ t. d.0 (subst (λ v. Among v (numbers_of b)) e (has_among a b t))) in
      omega (arith, ap bit (eq-eqb x.0 a (sym e)), once_has b d.1 a, none) ∙ ap (λ t. bit (t || has_sym (record { 0 = a }) b)) (sym (eq-eqb a x.0 e))
  | inr other ↦
      omega (arith, ap bit (ne_eqb x.0 a (λ e. other (sym e))), once_has b d.1 a) ∙ ap (λ t. bit (t || has_sym (record { 0 = a }) b)) (sym (ne_eqb a x.0 other))
]

module _ (g : WaitGraph) (once : (n : ℕ) → Distinct (numbers_of (outs_at g n))) (a : ℕ) where
  abbrev has : ℕ → Bool
  has n = has_sym (record { 0 = a }) (outs_at g n)

  kept_has : (kept : List Bool) (n : ℕ) → times (numbers_of (kept_outs kept g.acts n)) a ≡ bit (get_or kept n false && has n)
  kept_has kept n = by (get_or kept n false)
    where
      by : (b : Bool) → times (numbers_of (if b then outs_at g n else [])) a ≡ bit (b && has n)
      by true = once_has (outs_at g n) (once n) a
      by false = refl

  given_times : (kept : List Bool) (is : List ℕ) → times (joined (λ n. numbers_of (kept_outs kept g.acts n)) is) a ≡ how_many (λ n. get_or kept n false && has n) is
  given_times kept [] = refl
  given_times kept (n ∷ is) = omega (arith, times_both (numbers_of (kept_outs kept g.acts n)) (joined (λ n. numbers_of (kept_outs kept g.acts n)) is) a, kept_has kept n, given_times kept is)

  pub givers_long : (kept : List Bool) → kept ≡ replicate (length g.acts) true → times (given_by kept g.acts) a ≡ length (givers g a)
  givers_long kept all =
      given_times kept (range_with_len 0 (length g.acts))
      ∙ how_many_same (λ n. get_or kept n false && has n) has 0 (length g.acts) (λ n low high. ap (λ b. b && has n) (ap (λ ks. get_or ks n false) all ∙ get_or-replicate (length g.acts) n true false (omega (arith, high))))
      ∙ sym (filter_long has (range_with_len 0 (length g.acts)))

  many_chosen : (p : ℕ → Bool) (is : List ℕ) → how_many (λ n. p n && has n) is ≡ how_many p (filter has is)
  many_chosen p [] = refl
  many_chosen p (n ∷ is) = by (has n) (p n) refl refl (many_chosen p is)
    where
      by : (b c : Bool) → has n ≡ b → p n ≡ c → how_many (λ n. p n && has n) is ≡ how_many p (filter has is)
          → bit (p n && b) + how_many (λ n. p n && has n) is ≡ how_many p (if b then n ∷ filter has is else filter has is)
      by true true x y e = omega (arith, e, ap (λ t. bit (t && true)) y, ap bit y)
      by true false x y e = omega (arith, e, ap (λ t. bit (t && true)) y, ap bit y)
      by false true x y e = omega (arith, e, ap (λ t. bit (t && false)) y)
      by false false x y e = omega (arith, e, ap (λ t. bit (t && false)) y)

  pub straights_long : (kept : List Bool) → kept ≡ map (is_straight g) (all_acts g) → times (given_by kept g.acts) a ≡ how_many (is_straight g) (givers g a)
  straights_long kept all =
      given_times kept (range_with_len 0 (length g.acts))
      ∙ how_many_same (λ n. get_or kept n false && has n) (λ n. is_straight g n && has n) 0 (length g.acts)
      (λ n low high. ap (λ b. b && has n) (ap (λ ks. get_or ks n false) all ∙ get_or-map-range_with_len (is_straight g) 0 (length g.acts) n n false (omega (arith, high)) (omega arith)))
      ∙ many_chosen (is_straight g) (range_with_len 0 (length g.acts))

one_is : (test : ℕ → Bool) (xs : List ℕ) → is_one test xs ≡ (nat_eq (length xs) 1 && nat_eq (how_many test xs) 1)
one_is test [] = refl
one_is test (x ∷ []) = by (test x)
  where
    by : (b : Bool) → b ≡ nat_eq (bit b + 0) 1
    by true = refl
    by false = refl
one_is test (x ∷ y ∷ xs) = ap (λ b. b && nat_eq (how_many test (x ∷ y ∷ xs)) 1) (sym (ne_eqb (length (x ∷ y ∷ xs)) 1 (λ e. omega (arith, e))))

both_grouped : (a b c d : Bool) → (a && b && c && d) ≡ (a && (b && (c && d)))
both_grouped true b c d = by b
  where
    by : (b : Bool) → (b && c && d) ≡ (b && (c && d))
    by true = refl
    by false = refl
both_grouped false b c d = refl

pub straight_is : (g : WaitGraph) (entries singles : List ℕ) → entries ≡ map (λ n. length (entries_of g n)) (all_acts g) → singles ≡ map (times (single_acts g.bursts g.crosses)) (range_with_len 0 (length g.acts))
    → map (straight_by entries singles g) (range_with_len 0 (length g.acts)) ≡ map (is_straight g) (all_acts g)
straight_is g entries singles e s = map_same (straight_by entries singles g) (is_straight g) 0 (length g.acts)
    (λ n low high.
    let many : get_or entries n 0 ≡ length (entries_of g n) = ap (λ xs. get_or xs n 0) e ∙ get_or-map-range_with_len (λ n. length (entries_of g n)) 0 (length g.acts) n n 0 (omega (arith, high)) (omega arith) in
    let ones : get_or singles n 0 ≡ how_many (λ b. nat_eq (length (symbols_at g b)) 1) (entries_of g n) =
    ap (λ xs. get_or xs n 0) s ∙ get_or-map-range_with_len (times (single_acts g.bursts g.crosses)) 0 (length g.acts) n n 0 (omega (arith, high)) (omega arith) ∙ sym (singles_are g n) in
    both_grouped (nat_eq (length (outs_at g n)) 1) (not (begins_at g.start n)) (nat_eq (get_or entries n 0) 1) (nat_eq (get_or singles n 0) 1)
    ∙ ap (λ b. nat_eq (length (outs_at g n)) 1 && (not (begins_at g.start n) && b))
    ((λ i. nat_eq (many i) 1 && nat_eq (ones i) 1) ∙ sym (one_is (λ b. nat_eq (length (symbols_at g b)) 1) (entries_of g n))))

pub directs_are : (g : WaitGraph) (names : ℕ) (gs ss : List ℕ) (kept : List Bool) → ((n : ℕ) → Distinct (numbers_of (outs_at g n))) → kept ≡ map (is_straight g) (all_acts g) → gs ≡ map (λ a. length (givers g a)) (range_with_len 0 names)
    → ss ≡ map (times (given_by kept g.acts)) (range_with_len 0 names) → directs_by gs ss ≡ directs g names
directs_are g names gs ss kept once k e s =
    let long : length gs ≡ names = ap length e ∙ length-map-range_with_len (λ a. length (givers g a)) 0 names in
    ap (λ n. map (λ (a : ℕ). One Wires) (filter (λ a. nat_eq (get_or gs a 0) 1 && nat_eq (get_or ss a 0) 1) (range_with_len 0 n))) long
    ∙ ap (map (λ (a : ℕ). One Wires)) (filter_same (λ a. nat_eq (get_or gs a 0) 1 && nat_eq (get_or ss a 0) 1) (λ a. is_one (is_straight g) (givers g a)) 0 names
    (λ a low high.
    let many : get_or gs a 0 ≡ length (givers g a) = ap (λ xs. get_or xs a 0) e ∙ get_or-map-range_with_len (λ a. length (givers g a)) 0 names a a 0 (omega (arith, high)) (omega arith) in
    let straight : get_or ss a 0 ≡ how_many (is_straight g) (givers g a) =
    ap (λ xs. get_or xs a 0) s ∙ get_or-map-range_with_len (times (given_by kept g.acts)) 0 names a a 0 (omega (arith, high)) (omega arith) ∙ straights_long g once a kept k in
    (λ i. nat_eq (many i) 1 && nat_eq (straight i) 1) ∙ sym (one_is (is_straight g) (givers g a))))

-- ---- where the process begins

gate_is : (es : List ℕ) → gate_of (length es) ≡ gate es
gate_is [] = refl
gate_is (e ∷ es) = ap (λ b. One (if b then Sources else Iwires)) (ne_eqb (length (e ∷ es)) 0 (λ z. omega (arith, z)))

away : (m a n : ℕ) → (m < a) ⊎ (a + n ≤ m) → filter (λ x. nat_eq x m) (range_with_len a n) ≡ []
away m a zero h = refl
away m a (suc n) h =
    let other : a ≡ m → ⊥ = λ e. elim h [ inl x ↦ omega (arith, x, e) | inr x ↦ omega (arith, x, e) ] in
    let rest : (m < a + 1) ⊎ (a + 1 + n ≤ m) = elim h [ inl x ↦ inl (omega (arith, x)) | inr x ↦ inr (omega (arith, x)) ] in
    ap (λ (b : Bool). if b then a ∷ filter (λ x. nat_eq x m) (range_with_len (a + 1) n) else filter (λ x. nat_eq x m) (range_with_len (a + 1) n)) (ne_eqb a m other) ∙ away m (a + 1) n rest

alone : (m a n : ℕ) → a ≤ m → m < a + n → filter (λ x. nat_eq x m) (range_with_len a n) ≡ m ∷ []
alone m a zero low high = absurd (omega arith)
alone m a (suc n) low high = elim (cases_eq a m) [
  | inl e ↦
      ap (λ (b : Bool). if b then a ∷ filter (λ x. nat_eq x m) (range_with_len (a + 1) n) else filter (λ x. nat_eq x m) (range_with_len (a + 1) n)) (eq-eqb a m e)
      ∙ ap (λ x. a ∷ x) (away m (a + 1) n (inl (omega (arith, e)))) ∙ ap (λ x. x ∷ []) e
  | inr other ↦
      ap (λ (b : Bool). if b then a ∷ filter (λ x. nat_eq x m) (range_with_len (a + 1) n) else filter (λ x. nat_eq x m) (range_with_len (a + 1) n)) (ne_eqb a m other)
      ∙ alone m (a + 1) n (omega (arith, other, low)) (omega (arith, high))
]

got : (xs : List ℕ) (m : ℕ) → m < length xs → slice_get xs m ≡ Some (get_or xs m 0)
got [] m low = absurd (omega arith)
got (x ∷ xs) zero low = refl
got (x ∷ xs) (suc m) low = got xs m (omega arith)

got_none : (xs : List ℕ) (m : ℕ) → length xs ≤ m → slice_get xs m ≡ None
got_none [] m past = refl
got_none (x ∷ xs) zero past = absurd (omega arith)
got_none (x ∷ xs) (suc m) past = got_none xs m (omega arith)

pub first_is : (g : WaitGraph) (entries : List ℕ) → entries ≡ map (λ n. length (entries_of g n)) (all_acts g) → first_by g.start entries ≡ first_act g
first_is g entries e = by g.start refl
  where
    long : length entries ≡ length g.acts
    long = ap length e ∙ length-map-range_with_len (λ n. length (entries_of g n)) 0 (length g.acts)

    none : (is : List ℕ) → filter (λ (n : ℕ). false) is ≡ []
    none [] = refl
    none (i ∷ is) = none is

    by : (s : Start) → g.start ≡ s → first_by s entries ≡ map (λ n. gate (entries_of g n)) (filter (begins_at s) (all_acts g))
    by (start.Wait w) i = sym (ap (map (λ n. gate (entries_of g n))) (none (all_acts g)))
    by (start.Act m) i = elim (cases_lt m (length g.acts)) [
      | inl low ↦
          let many : get_or entries m 0 ≡ length (entries_of g m) = ap (λ xs. get_or xs m 0) e ∙ get_or-map-range_with_len (λ n. length (entries_of g n)) 0 (length g.acts) m m 0 low (omega arith) in
          ap gate_at (got entries m (omega (arith, low, long)) ∙ ap Some many) ∙ ap (λ c. c ∷ []) (gate_is (entries_of g m))
          ∙ sym (ap (map (λ n. gate (entries_of g n))) (alone m 0 (length g.acts) (omega arith) (omega (arith, low))))
      | inr past ↦
          ap gate_at (got_none entries m (omega (arith, past, long)))
          ∙ sym (ap (map (λ n. gate (entries_of g n))) (away m 0 (length g.acts) (inr (omega (arith, past)))))
    ]

pub first_wait_is : (g : WaitGraph) → first_wait_by g.start g.acts ≡ first_wait g.start g
first_wait_is g = by g.start refl
  where
    by : (s : Start) → g.start ≡ s → first_wait_by s g.acts ≡ first_wait s g
    by (start.Act n) i = refl
    by (start.Wait w) i = sym (ap (λ (s : Start). One (if has_entry s g.acts g.crosses then Iwires else Sources) ∷ []) i)
