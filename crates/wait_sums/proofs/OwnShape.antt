-- Crossings with only the lines that they meet, numbered anew in their order, are a shape.
use Rattle.std.specs.Prelude.{◌&&◌, ◌||◌, nat_eq, nat_lt}
use Rattle.std.proofs.Common.{◌≡◌, ◌⊎◌, inl, inr, ℕ, ◌-◌, ◌<◌, Bool, true, false, List, [], ◌∷◌, length, map, get_or, IsTrue, refl, sym, ap, ◌∙◌, arith, eq-eqb, eqb-true, lt-ltb, ltb-true}
use Rattle.std.specs.List.{filter, list_all, range_with_len, AllByRecursion}
use Rattle.std.proofs.lemmas.Bool.{and_parts}
use Rattle.basic_kinds.specs.Shapes.{is_before, is_rising, is_within, IsShape}
use Rattle.basic_kinds.specs.Sorts.{how_many, how_many_below}
use Rattle.basic_kinds.specs.ShapeParts.{has_row, has_column, part_rows, part_columns, local_part}
use Rattle.shape_parts.proofs.Chosen.{IsChosen, chosen_at}
use Rattle.wait_sums.specs.WaitSums.{IsWithin}
use Rattle.wait_sums.proofs.Renamed.{counted, rank_grows, mine, Mine, row_kept, column_kept, loc}

both_true : (a b : Bool) → a ≡ true → b ≡ true → (a && b) ≡ true
both_true a b e f = ap (λ (x : Bool). x && b) e ∙ f

or_split : (a b : Bool) → (a || b) ≡ true → (a ≡ true) ⊎ (b ≡ true)
or_split true b e = inl refl
or_split false b e = inr e

or_first : (a b : Bool) → a ≡ true → (a || b) ≡ true
or_first a b e = ap (λ (x : Bool). x || b) e

or_second : (a b : Bool) → b ≡ true → (a || b) ≡ true
or_second true b e = refl
or_second false b e = e

module _ (rows cols : ℕ) (cross : List (ℕ × ℕ)) (within : IsWithin rows cols cross) where
  abbrev M : ℕ × ℕ → Type 0
  M = Mine rows cols cross within

  abbrev ours : AllByRecursion M cross
  ours = mine rows cols cross within

  abbrev new : ℕ × ℕ → ℕ × ℕ
  new = loc rows cols cross within

  abbrev of_row : ℕ → ℕ
  of_row x = how_many_below x (has_row cross)

  abbrev of_column : ℕ → ℕ
  of_column x = how_many_below x (has_column cross)

  few_rows : length (part_rows rows cross) ≡ of_row rows
  few_rows = sym (counted (has_row cross) (range_with_len 0 rows))

  few_columns : length (part_columns cols cross) ≡ of_column cols
  few_columns = sym (counted (has_column cross) (range_with_len 0 cols))

  row_inside : (p : ℕ × ℕ) → M p → of_row p.0 < length (part_rows rows cross)
  row_inside p m = omega (arith, few_rows, rank_grows (has_row cross) p.0 rows m.2 m.0)

  column_inside : (p : ℕ × ℕ) → M p → of_column p.1 < length (part_columns cols cross)
  column_inside p m = omega (arith, few_columns, rank_grows (has_column cross) p.1 cols m.3 m.1)

  before_kept : (p q : ℕ × ℕ) → M p → is_before p q ≡ true → is_before (new p) (new q) ≡ true
  before_kept p q m h = elim (or_split (nat_lt p.0 q.0) (nat_eq p.0 q.0 && nat_lt p.1 q.1) h) [
    | inl e ↦
        or_first (nat_lt (of_row p.0) (of_row q.0)) (nat_eq (of_row p.0) (of_row q.0) && nat_lt (of_column p.1) (of_column q.1))
        (lt-ltb (of_row p.0) (of_row q.0) (rank_grows (has_row cross) p.0 q.0 m.2 (ltb-true p.0 q.0 e)))
    | inr e ↦
        let (same, less) = and_parts (nat_eq p.0 q.0) (nat_lt p.1 q.1) e in
        or_second (nat_lt (of_row p.0) (of_row q.0)) (nat_eq (of_row p.0) (of_row q.0) && nat_lt (of_column p.1) (of_column q.1))
        (both_true (nat_eq (of_row p.0) (of_row q.0)) (nat_lt (of_column p.1) (of_column q.1)) (eq-eqb (of_row p.0) (of_row q.0) (ap of_row (eqb-true p.0 q.0 same)))
        (lt-ltb (of_column p.1) (of_column q.1) (rank_grows (has_column cross) p.1 q.1 m.3 (ltb-true p.1 q.1 less))))
  ]

  after_kept : (p : ℕ × ℕ) → M p → (ps : List (ℕ × ℕ)) → list_all (is_before p) ps ≡ true → list_all (is_before (new p)) (map new ps) ≡ true
  after_kept p m [] h = refl
  after_kept p m (q ∷ ps) h =
      let (here, rest) = and_parts (is_before p q) (list_all (is_before p) ps) h in
      both_true (is_before (new p) (new q)) (list_all (is_before (new p)) (map new ps)) (before_kept p q m here) (after_kept p m ps rest)

  rising_kept : (ps : List (ℕ × ℕ)) → AllByRecursion M ps → is_rising ps ≡ true → is_rising (map new ps) ≡ true
  rising_kept [] all h = refl
  rising_kept (p ∷ ps) all h =
      let (here, rest) = and_parts (list_all (is_before p) ps) (is_rising ps) h in
      both_true (list_all (is_before (new p)) (map new ps)) (is_rising (map new ps)) (after_kept p all.0 ps here) (rising_kept ps all.1 rest)

  within_kept : (ps : List (ℕ × ℕ)) → AllByRecursion M ps → list_all (is_within (length (part_rows rows cross)) (length (part_columns cols cross))) (map new ps) ≡ true
  within_kept [] all = refl
  within_kept (p ∷ ps) all =
      both_true (is_within (length (part_rows rows cross)) (length (part_columns cols cross)) (new p)) (list_all (is_within (length (part_rows rows cross)) (length (part_columns cols cross))) (map new ps))
      (both_true (nat_lt (of_row p.0) (length (part_rows rows cross))) (nat_lt (of_column p.1) (length (part_columns cols cross)))
      (lt-ltb (of_row p.0) (length (part_rows rows cross)) (row_inside p all.0)) (lt-ltb (of_column p.1) (length (part_columns cols cross)) (column_inside p all.0))) (within_kept ps all.1)

  first_line : (ps : List (ℕ × ℕ)) → 0 < length ps → AllByRecursion M ps → (0 < length (part_rows rows cross)) × (0 < length (part_columns cols cross))
  first_line [] some all = absurd (omega arith)
  first_line (p ∷ ps) some all = (omega (arith, row_inside p all.0), omega (arith, column_inside p all.0))

  -- the k-th of the lines that there are
  line_at : (test after : ℕ → Bool) (n k : ℕ) → k < length (filter test (range_with_len 0 n)) → ((x : ℕ) → test x ≡ true → after (how_many_below x test) ≡ test x) → after k ≡ true
  line_at test after n k low same =
      let m : ℕ = get_or (filter test (range_with_len 0 n)) k 0 in
      let c : IsChosen test 0 n k m = chosen_at test 0 n k low in
      let e : m - 0 ≡ m = omega arith in
      let at : how_many_below m test ≡ k = ap (λ (i : ℕ). how_many test (range_with_len 0 i)) (sym e) ∙ c.before in
      ap after (sym at) ∙ same m c.passes ∙ c.passes

  pub own_shape : IsTrue (is_rising cross) → 0 < length cross → IsShape (length (part_rows rows cross)) (length (part_columns cols cross)) (local_part cross)
  own_shape rising some = record {
    some_row = (first_line cross some ours).0;
    some_column = (first_line cross some ours).1;
    rising = rising_kept cross ours rising;
    within = within_kept cross ours;
    each_row = λ k low. line_at (has_row cross) (has_row (map new cross)) rows k low (row_kept rows cols cross within cross ours);
    each_column = λ k low. line_at (has_column cross) (has_column (map new cross)) cols k low (column_kept rows cols cross within cross ours);
  }
