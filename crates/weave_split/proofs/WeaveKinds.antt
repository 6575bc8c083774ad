-- The components of the network of a weave are those that are counted of its processes, sort by sort.
use Rattle.std.proofs.Common.{◌≡◌, inl, inr, ℕ, suc, ◌+◌, ◌<◌, Bool, true, false, true≢false, not, cond, filter, nat_eq, List, [], ◌∷◌, ◌++◌, length, map, get_or, refl, sym, ap, ◌∙◌, subst, arith, if◌then◌else◌, length-append, eq-eqb, ne_eqb, append-nil, Option, Some, None}
use Rattle.std.specs.Prelude.{◌&&◌, ◌||◌, drop}
use Rattle.std.specs.List.{range_with_len}
use Rattle.std.proofs.lemmas.Bool.{cases_eq}
use Rattle.std.proofs.lemmas.List.{get_or-map}
use Rattle.cmd_tree.specs.declared.tree.Mark.{Mark}
use Rattle.cmd_tree.specs.declared.tree.Proc.{Proc}
use Rattle.cmd_tree.specs.Tree.{marks_among}
use Rattle.cmd_tree.specs.Limits.{marks_of_proc}
use Rattle.cmd_tree.specs.Lists.{is_in}
use Rattle.cmd_tree.specs.Meaning.{has_symbol}
use Rattle.cmd_rename.specs.Symbols.{put_each}
use Rattle.process_laws.specs.GrantForms.{Giving, gifts, plain, loans, release, returned_of}
use Rattle.basic_kinds.specs.declared.kind.Kind.{Kind}
use Rattle.basic_kinds.specs.declared.kind.Kind.TheVariants as kind
use Rattle.basic_kinds.specs.Sorts.{Sort, Wires, Iwires, Sources, Sinks, Forks, Joins, Merges, Toggles, Waits, Sequencers, is_of, same_sort, how_many}
use Rattle.basic_kinds.specs.Sums.{Counted, Wide, so_many, one_if_wide, wide_sum, total_of}
use Rattle.di_grammar.specs.Grants.{IsGrant}
use Rattle.di_grammar.specs.Outputs.{out_of}
use Rattle.di_grammar.specs.Sums as sums
use Rattle.di_grammar.specs.Sums.{gift, loan, put as with_first, all_of, plain_ring, release_ring, of_several, each_once, ring, is_ring, grants, standing, made, ring_or_none, rings}
use Rattle.di_grammar.proofs.SumGrants.{grants_are}
use Rattle.net_core.specs.declared.spec.NodeSpec.{NodeSpec}
use Rattle.net_core.specs.declared.spec.NodeSpec.TheVariants.{Kind as Basic, Cmd}
use Rattle.net_core.specs.Specs.{is_kind}
use Rattle.net_core.specs.Wiring.{Node}
use Rattle.net_laws.specs.Charts.{charted, node_of}
use Rattle.net_laws.proofs.Among.{Among}
use Rattle.plain_split.specs.SharedPaths.{joined}
use Rattle.plain_split.specs.OneWait.{many}
use Rattle.plain_split.specs.OneWaitSums.{is_component}
use Rattle.plain_split.proofs.SharedLists.{filter_among}
use Rattle.plain_split.proofs.SharedSorts.{iwire_sort, fork_sort, join_sort, merge_sort, seq_sort}
use Rattle.plain_split.proofs.SharedSums.{bit, total_append, so_none, wide_long}
use Rattle.plain_split.proofs.OneWaitKinds.{many_append, many_map, many_filter}
use Rattle.plain_split.proofs.OneWaitWires.{in_range}
use Rattle.weave_split.specs.WeaveChart.{Name, Process, Spread, Join, Returns, Gate, Sequencer, Ties, is_kept, spec_at, woven, granting, meeting, all_names, components, weave_chart, marks_at, grants_at, begins_out, ins_in, ties}
use Rattle.weave_split.proofs.WeaveCharted.{not_true, of_grant}
use Rattle.weave_split.proofs.WeaveParts.{around}

-- ---- lists each of whose numbers stands once

-- how often a number stands in a list
abbrev times_in : ℕ → List ℕ → ℕ
times_in a xs = how_many (nat_eq a) xs

-- how many of a list are not in the other one
abbrev fresh : List ℕ → List ℕ → ℕ
fresh xs ys = how_many (λ a. not (is_in a xs)) ys

in_end : (a x : ℕ) (xs : List ℕ) → is_in a (xs ++ x ∷ []) ≡ (is_in a xs || nat_eq a x)
in_end a x [] = by (nat_eq a x)
  where
    by : (b : Bool) → (b || false) ≡ b
    by true = refl
    by false = refl
in_end a x (y ∷ xs) = by (nat_eq a y) (in_end a x xs)
  where
    by : (b : Bool) → is_in a (xs ++ x ∷ []) ≡ (is_in a xs || nat_eq a x) → (b || is_in a (xs ++ x ∷ [])) ≡ ((b || is_in a xs) || nat_eq a x)
    by true e = refl
    by false e = e

-- a number that is new is new no more
fresh_more : (x : ℕ) (xs ys : List ℕ) → is_in x xs ≡ false → fresh xs ys ≡ fresh (xs ++ x ∷ []) ys + times_in x ys
fresh_more x xs [] out = refl
fresh_more x xs (y ∷ ys) out = elim (cases_eq x y) [
  | inl e ↦ omega (
    arith,
    fresh_more x xs ys out,
    ap bit (eq-eqb x y e),
    ap (λ b. bit (not b)) (ap (λ a. is_in a xs) (sym e) ∙ out),
    ap (λ b. bit (not b)) (in_end y x xs ∙ ap (λ b. is_in y xs || b) (eq-eqb y x (sym e)) ∙ or_true (is_in y xs)),
  )
  | inr e ↦ omega (
    arith,
    fresh_more x xs ys out,
    ap bit (ne_eqb x y e),
    ap (λ b. bit (not b)) (in_end y x xs ∙ ap (λ b. is_in y xs || b) (ne_eqb y x (λ z. e (sym z))) ∙ or_false (is_in y xs)),
  )
]
  where
    or_true : (b : Bool) → (b || true) ≡ true
    or_true true = refl
    or_true false = refl

    or_false : (b : Bool) → (b || false) ≡ b
    or_false true = refl
    or_false false = refl

times_once : (x : ℕ) (xs : List ℕ) → times_in x (each_once xs) ≡ bit (is_in x xs)
times_once x [] = refl
times_once x (y ∷ xs) = by (is_in y xs) refl (times_once x xs)
  where
    same : (b : Bool) → nat_eq x y ≡ b → is_in y xs ≡ true → bit (is_in x xs) ≡ bit (nat_eq x y || is_in x xs)
    same b e i = elim (cases_eq x y) [
      | inl z ↦ ap bit (ap (λ a. is_in a xs) z ∙ i) ∙ sym (ap (λ c. bit (c || is_in x xs)) (eq-eqb x y z))
      | inr z ↦ sym (ap (λ c. bit (c || is_in x xs)) (ne_eqb x y z))
    ]

    one : is_in y xs ≡ false → bit (nat_eq x y) + bit (is_in x xs) ≡ bit (nat_eq x y || is_in x xs)
    one i = elim (cases_eq x y) [
      | inl z ↦ omega (arith, ap bit (eq-eqb x y z), ap bit (ap (λ a. is_in a xs) z ∙ i), ap (λ c. bit (c || is_in x xs)) (eq-eqb x y z))
      | inr z ↦ omega (arith, ap bit (ne_eqb x y z), ap (λ c. bit (c || is_in x xs)) (ne_eqb x y z))
    ]

    by : (b : Bool) → is_in y xs ≡ b → times_in x (each_once xs) ≡ bit (is_in x xs) → times_in x (if b then each_once xs else y ∷ each_once xs) ≡ bit (nat_eq x y || is_in x xs)
    by true i e = e ∙ same (nat_eq x y) refl i
    by false i e = omega (arith, e, one i)

-- what is put behind a list is what it does not have yet
put_long : (xs ys : List ℕ) → length (put_each xs ys) ≡ length xs + fresh xs (each_once ys)
put_long xs [] = omega arith
put_long xs (y ∷ ys) = by (is_in y xs) refl (λ zs. put_long zs ys)
  where
    known : (b : Bool) → is_in y xs ≡ true → fresh xs (if b then each_once ys else y ∷ each_once ys) ≡ fresh xs (each_once ys)
    known true i = refl
    known false i = omega (arith, ap (λ c. bit (not c)) i)

    new : (b : Bool) → is_in y ys ≡ b → is_in y xs ≡ false → fresh xs (if b then each_once ys else y ∷ each_once ys) ≡ 1 + fresh (xs ++ y ∷ []) (each_once ys)
    new true j i = omega (arith, fresh_more y xs (each_once ys) i, times_once y ys, ap bit j)
    new false j i = omega (arith, ap (λ c. bit (not c)) i, fresh_more y xs (each_once ys) i, times_once y ys, ap bit j)

    by : (b : Bool) → is_in y xs ≡ b → ((zs : List ℕ) → length (put_each zs ys) ≡ length zs + fresh zs (each_once ys))
        → length (put_each (if b then xs else xs ++ y ∷ []) ys) ≡ length xs + fresh xs (if is_in y ys then each_once ys else y ∷ each_once ys)
    by true i rest = omega (arith, rest xs, known (is_in y ys) i)
    by false i rest = omega (arith, rest (xs ++ y ∷ []), length-append xs (y ∷ []), new (is_in y ys) refl i)

all_fresh : (ys : List ℕ) → fresh [] ys ≡ length ys
all_fresh [] = refl
all_fresh (y ∷ ys) = omega (arith, all_fresh ys)

-- of equal ones the first is kept, or the last: as many
pub once_long : (xs : List ℕ) → length (put_each [] xs) ≡ length (each_once xs)
once_long xs = omega (arith, put_long [] xs, all_fresh (each_once xs))

-- ---- what stands for a grant

gifts_all : (ps : List ℕ) → all_of gift (gifts ps) ≡ Some ps
gifts_all [] = refl
gifts_all (p ∷ ps) = ap (λ xs. with_first (Some p) xs) (gifts_all ps)

loans_all : (gs : List Giving) → all_of loan (loans gs) ≡ Some gs
loans_all [] = refl
loans_all (g ∷ gs) = ap (λ xs. with_first (Some g) xs) (loans_all gs)

several : {A : Type 0} (f : List A → List Counted) (xs : List A) → 1 < length xs → ring_or_none (of_several f (Some xs)) ≡ f xs
several f [] h = absurd (omega arith)
several f (x ∷ []) h = absurd (omega arith)
several f (x ∷ y ∷ xs) h = refl

no_ring : (o : Option (List Counted)) → is_ring o ≡ false → ring_or_none o ≡ []
no_ring None h = refl
no_ring (Some xs) h = absurd (true≢false h)

gifts_ins : (ps : List ℕ) → ins_in (marks_among (gifts ps)) ≡ []
gifts_ins [] = refl
gifts_ins (p ∷ ps) = gifts_ins ps

loans_ins : (gs : List Giving) → ins_in (marks_among (loans gs)) ≡ returned_of gs
loans_ins [] = refl
loans_ins (g ∷ gs) = ap (λ zs. g.returned ∷ zs) (loans_ins gs)

plain_ins : (n : ℕ) (ps : List ℕ) → ins_in (marks_of_proc (plain n ps)) ≡ n ∷ []
plain_ins n ps = ap (λ ms. n ∷ ins_in ms) (append-nil (marks_among (gifts ps))) ∙ ap (λ zs. n ∷ zs) (gifts_ins ps)

release_ins : (gs : List Giving) → ins_in (marks_of_proc (release gs)) ≡ returned_of gs
release_ins gs = ap ins_in (append-nil (marks_among (loans gs))) ∙ loans_ins gs

release_begins : (gs : List Giving) → 1 < length gs → begins_out (marks_of_proc (release gs)) ≡ true
release_begins [] h = absurd (omega arith)
release_begins (g ∷ gs) h = refl

module _ (k : Sort) where
  -- a MERGE where several symbols are returned, the gate where it is an IWIRE, and the SEQ
  abbrev of_marks : List Mark → ℕ
  of_marks ms = so_many (one_if_wide (length (put_each [] (ins_in ms)))) Merges k + (so_many (bit (begins_out ms)) Iwires k + so_many 1 Sequencers k)

  plain_total : (n : ℕ) (ps : List ℕ) → 1 < length ps → of_marks (marks_of_proc (plain n ps)) ≡ total_of wide_sum (ring_or_none (ring (plain n ps))) k
  plain_total n ps h = omega (
    arith,
    ap (λ xs. so_many (one_if_wide (length (put_each [] xs))) Merges k) (plain_ins n ps),
    so_none Merges k,
    so_none Iwires k,
    ap (λ o. total_of wide_sum (ring_or_none (of_several plain_ring o)) k) (gifts_all ps) ∙ ap (λ xs. total_of wide_sum xs k) (several plain_ring ps h),
  )

  release_total : (gs : List Giving) → 1 < length gs → of_marks (marks_of_proc (release gs)) ≡ total_of wide_sum (ring_or_none (ring (release gs))) k
  release_total gs h = omega (
    arith,
    ap (λ xs. so_many (one_if_wide (length (put_each [] xs))) Merges k) (release_ins gs) ∙ ap (λ n. so_many (one_if_wide n) Merges k) (once_long (returned_of gs)),
    ap (λ b. so_many (bit b) Iwires k) (release_begins gs h),
    ap (λ o. total_of wide_sum (ring_or_none (of_several release_ring o)) k) (loans_all gs) ∙ ap (λ xs. total_of wide_sum xs k) (several release_ring gs h),
  )

  abbrev IsCounted : Proc → Type 0
  IsCounted p = of_marks (marks_of_proc p) ≡ total_of wide_sum (ring_or_none (ring p)) k

  grant_total : (p : Proc) → grants p ≡ true → IsCounted p
  grant_total p e = at ((grants_are p).0 e)
    where
      at : IsGrant p → IsCounted p
      at (gs, inl h) = subst IsCounted (sym h.is) (plain_total h.asks h.symbols h.many)
      at (gs, inr h) = subst IsCounted (sym h.is) (release_total h.givings h.many)

  -- ---- lists of components

  -- one that is kept
  weigh : (b : Bool) (s : Sort) (q : Kind) → is_of k q ≡ same_sort s k → bit (b && is_of k q) ≡ so_many (bit b) s k
  weigh true s q e = ap bit e
  weigh false s q e = sym (so_none s k)

  wide_bit : (xs : List ℕ) (n : ℕ) (s : Sort) (q : Kind) → is_of k q ≡ same_sort s k → length xs ≡ n → bit (many xs && is_of k q) ≡ so_many (one_if_wide n) s k
  wide_bit xs n s q e long = weigh (many xs) s q e ∙ ap (λ m. so_many m s k) (sym (wide_long xs) ∙ ap one_if_wide long)

  count_by : {A : Type 0} (test : A → Bool) (c : A → Counted) (xs : List A) → ((x : A) → bit (test x) ≡ wide_sum (c x) k) → how_many test xs ≡ total_of wide_sum (map c xs) k
  count_by test c [] h = refl
  count_by test c (x ∷ xs) h = omega (arith, h x, count_by test c xs h)

  -- three tests at each place
  three_places : (z : Proc) (t u v : ℕ → Bool) (ps : List Proc) (a : ℕ)
      → ((i : ℕ) → i < length ps → bit (t (a + i)) + (bit (u (a + i)) + bit (v (a + i))) ≡ total_of wide_sum (ring_or_none (ring (get_or ps i z))) k)
      → how_many t (range_with_len a (length ps)) + (how_many u (range_with_len a (length ps)) + how_many v (range_with_len a (length ps))) ≡ total_of wide_sum (rings ps) k
  three_places z t u v [] a h = refl
  three_places z t u v (p ∷ ps) a h = omega (
    arith,
    h 0 (omega arith),
    ap (λ n. bit (t n)) (let e : a ≡ a + 0 = omega arith in e),
    ap (λ n. bit (u n)) (let e : a ≡ a + 0 = omega arith in e),
    ap (λ n. bit (v n)) (let e : a ≡ a + 0 = omega arith in e),
    total_append wide_sum (ring_or_none (ring p)) (rings ps) k,
    three_places z t u v ps (a + 1) (λ i low. omega (
      arith,
      h (suc i) (omega arith),
      ap (λ n. bit (t n)) (let e : a + suc i ≡ a + 1 + i = omega arith in e),
      ap (λ n. bit (u n)) (let e : a + suc i ≡ a + 1 + i = omega arith in e),
      ap (λ n. bit (v n)) (let e : a + suc i ≡ a + 1 + i = omega arith in e),
    )),
  )

-- as many places pass a test as items pass theirs
long_places : {A : Type 0} (z : A) (p : ℕ → Bool) (q : A → Bool) (ys : List A) (a : ℕ) → ((i : ℕ) → i < length ys → p (a + i) ≡ q (get_or ys i z))
    → length (filter p (range_with_len a (length ys))) ≡ how_many q ys
long_places z p q [] a h = refl
long_places {A = A} z p q (y ∷ ys) a h = by (p a) (ap p (let e : a ≡ a + 0 = omega arith in e) ∙ h 0 (omega arith))
    (long_places z p q ys (a + 1) (λ i low. ap p (let e : a + 1 + i ≡ a + suc i = omega arith in e) ∙ h (suc i) (omega arith)))
  where
    by : (b : Bool) → b ≡ q y → length (filter p (range_with_len (a + 1) (length ys))) ≡ how_many q ys
        → length (cond b (a ∷ filter p (range_with_len (a + 1) (length ys))) (filter p (range_with_len (a + 1) (length ys)))) ≡ bit (q y) + how_many q ys
    by true e r = omega (arith, r, ap bit e)
    by false e r = omega (arith, r, ap bit e)

filter_twice : (p q : ℕ → Bool) (xs : List ℕ) → filter p (filter q xs) ≡ filter (λ x. q x && p x) xs
filter_twice p q [] = refl
filter_twice p q (x ∷ xs) = by (q x) (filter_twice p q xs)
  where
    by : (b : Bool) → filter p (filter q xs) ≡ filter (λ x. q x && p x) xs → filter p (cond b (x ∷ filter q xs) (filter q xs)) ≡ cond (b && p x) (x ∷ filter (λ x. q x && p x) xs) (filter (λ x. q x && p x) xs)
    by true e = ap (λ zs. cond (p x) (x ∷ zs) zs) e
    by false e = e

many_grants : (p : Name → Bool) (xs : List ℕ) → how_many p (joined of_grant xs) ≡ how_many (λ x. p (Returns x)) xs + (how_many (λ x. p (Gate x)) xs + how_many (λ x. p (Sequencer x)) xs)
many_grants p [] = refl
many_grants p (x ∷ xs) = omega (arith, many_append p (of_grant x) (joined of_grant xs), many_grants p xs)

none_among : {A : Type 0} (p : A → Bool) (xs : List A) → ((x : A) → Among x xs → p x ≡ false) → how_many p xs ≡ 0
none_among p [] h = refl
none_among p (x ∷ xs) h = omega (arith, ap bit (h x (inl refl)), none_among p xs (λ y a. h y (inr a)))

no_component : (k : Sort) (x : NodeSpec) → is_kind x ≡ false → is_component k x ≡ false
no_component k (Basic q) h = absurd (true≢false h)
no_component k (Cmd c) h = refl

-- a process with nothing, for places past the end
nobody : Proc
nobody = record { lead = None; body = None }

module _ (ps : List Proc) (names : ℕ) (s : NodeSpec) (alone : ℕ → NodeSpec) (k : Sort) where
  abbrev g : Ties
  g = ties ps names

  abbrev test : Name → Bool
  test x = is_kept g x && is_component k (spec_at s alone g x)

  marks_are : (p : ℕ) → p < length ps → marks_at ps p ≡ marks_of_proc (get_or ps p nobody)
  marks_are p low = get_or-map marks_of_proc ps p nobody [] low

  grants_at_is : (p : ℕ) → p < length ps → grants_at ps p ≡ grants (get_or ps p nobody)
  grants_at_is p low = get_or-map grants ps p nobody false low

  takers_long : (a : ℕ) → length (g.takers a) ≡ standing ps a
  takers_long a = long_places nobody (λ p. has_symbol (marks_at ps p) a) (λ (p : Proc). has_symbol (marks_of_proc p) a) ps 0
      (λ i low. ap (λ n. has_symbol (marks_at ps n) a) (let e : 0 + i ≡ i = omega arith in e) ∙ ap (λ ms. has_symbol ms a) (marks_are i low))

  givers_long : (a : ℕ) → length (g.givers a) ≡ made ps a
  givers_long a =
      ap (λ (xs : List ℕ). length xs) (filter_twice (λ p. not (grants_at ps p)) (λ p. has_symbol (marks_at ps p) a) (range_with_len 0 (length ps)))
      ∙ long_places nobody (λ p. has_symbol (marks_at ps p) a && not (grants_at ps p)) (λ (p : Proc). has_symbol (marks_of_proc p) a && not (grants p)) ps 0
      (λ i low. ap (λ n. has_symbol (marks_at ps n) a && not (grants_at ps n)) (let e : 0 + i ≡ i = omega arith in e)
      ∙ ap (λ ms. has_symbol ms a && not (grants_at ps i)) (marks_are i low) ∙ ap (λ b. has_symbol (marks_of_proc (get_or ps i nobody)) a && not b) (grants_at_is i low))

  meeting_count : (a : ℕ) → bit (test (meeting g a)) ≡ wide_sum (sums.meeting ps a) k
  meeting_count a = by (out_of ps a)
    where
      by : (b : Bool) → bit (test (if b then Join a else Spread a)) ≡ wide_sum (if b then Wide Joins (made ps a) else Wide Forks (standing ps a)) k
      by true = wide_bit k (g.givers a) (made ps a) Joins (kind.C (length (g.givers a))) (join_sort (length (g.givers a)) k) (givers_long a)
      by false = wide_bit k (g.takers a) (standing ps a) Forks (kind.Fork (length (g.takers a))) (fork_sort (length (g.takers a)) k) (takers_long a)

  ring_count : (i : ℕ) → i < length ps → bit (grants_at ps i && test (Returns i)) + (bit (grants_at ps i && test (Gate i)) + bit (grants_at ps i && test (Sequencer i)))
      ≡ total_of wide_sum (ring_or_none (ring (get_or ps i nobody))) k
  ring_count i low = by (grants_at ps i) refl
    where
      there : of_marks k (marks_at ps i) ≡ of_marks k (marks_of_proc (get_or ps i nobody))
      there = ap (of_marks k) (marks_are i low)

      by : (b : Bool) → grants_at ps i ≡ b → bit (b && test (Returns i)) + (bit (b && test (Gate i)) + bit (b && test (Sequencer i))) ≡ total_of wide_sum (ring_or_none (ring (get_or ps i nobody))) k
      by true e = omega (
        arith,
        wide_bit k (g.returns i) (length (g.returns i)) Merges (kind.Merge (length (g.returns i))) (merge_sort (length (g.returns i)) k) refl,
        weigh k (g.lends i) Iwires kind.Iwire (iwire_sort k),
        weigh k true Sequencers (kind.Seq (length (g.requests i))) (seq_sort (length (g.requests i)) k),
        there,
        grant_total k (get_or ps i nobody) (sym (grants_at_is i low) ∙ e),
      )
      by false e = ap (λ xs. total_of wide_sum xs k) (sym (no_ring (ring (get_or ps i nobody)) (sym (grants_at_is i low) ∙ e)))

  rings_count : how_many test (joined of_grant (granting g)) ≡ total_of wide_sum (rings ps) k
  rings_count = omega (
    arith,
    many_grants test (granting g),
    many_filter (λ p. test (Returns p)) (grants_at ps) (range_with_len 0 (length ps)),
    many_filter (λ p. test (Gate p)) (grants_at ps) (range_with_len 0 (length ps)),
    many_filter (λ p. test (Sequencer p)) (grants_at ps) (range_with_len 0 (length ps)),
    three_places k nobody (λ p. grants_at ps p && test (Returns p)) (λ p. grants_at ps p && test (Gate p)) (λ p. grants_at ps p && test (Sequencer p)) ps 0
        (λ i low. subst (λ n. bit (grants_at ps n && test (Returns n)) + (bit (grants_at ps n && test (Gate n)) + bit (grants_at ps n && test (Sequencer n))) ≡ total_of wide_sum (ring_or_none (ring (get_or ps i nobody))) k)
        (let e : i ≡ 0 + i = omega arith in e) (ring_count i low)),
  )

  -- no process by itself is a kind
  pub weave_kinds : ((p : ℕ) → p < length ps → grants_at ps p ≡ false → is_kind (alone p) ≡ false)
      → how_many (λ (x : Node). is_component k x.spec) (drop 1 (charted (weave_chart s alone g)).nodes) ≡ total_of wide_sum (sums.woven ps names) k
  weave_kinds whole =
      many_map (λ (x : Node). is_component k x.spec) (node_of (weave_chart s alone g)) (components g)
      ∙ many_filter (λ x. is_component k (spec_at s alone g x)) (is_kept g) (all_names g)
      ∙ omega (
        arith,
        many_append test (map Process (woven g)) (around g),
        many_append test (map (meeting g) (range_with_len 0 names)) (joined of_grant (granting g)),
        many_map test Process (woven g),
        none_among (λ p. test (Process p)) (woven g) (λ p a.
            let (i, e) = filter_among (λ p. not (grants_at ps p)) (range_with_len 0 (length ps)) p a in
            no_component k (alone p) (whole p (in_range (length ps) p i) (not_true (grants_at ps p) e))),
        many_map test (meeting g) (range_with_len 0 names),
        count_by k (λ a. test (meeting g a)) (sums.meeting ps) (range_with_len 0 names) meeting_count,
        rings_count,
        total_append wide_sum (map (sums.meeting ps) (range_with_len 0 names)) (rings ps) k,
      )
