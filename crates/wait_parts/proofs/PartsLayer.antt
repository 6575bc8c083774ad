-- The parts of a DW are a layer of it: they are lighter, and what stands for them in the end is what stands for the DW.
use Rattle.std.specs.Prelude.{nat_eq, nat_lt, not, ◌&&◌, ◌||◌, if◌then◌else◌}
use Rattle.std.proofs.Common.{◌≡◌, ◌≢◌, inl, inr, ℕ, ◌+◌, ◌<◌, ◌≤◌, Bool, true, false, true≢false, cond, List, [], ◌∷◌, length, map, refl, sym, ap, subst, ◌∙◌, arith, eq-eqb, ne_eqb, lt-ltb, le-ltb}
use Rattle.std.specs.List.{AllByRecursion, filter, range_with_len, sum_by}
use Rattle.std.proofs.lemmas.Bool.{cases_Bool, cases_eq, cond-true, cond-false}
use Rattle.std.proofs.lemmas.List.FromFn.{length-range_with_len}
use Rattle.std.proofs.lemmas.List.Sums.{sum_by-cons}
use Rattle.basic_kinds.specs.declared.shape.Shape.{Shape}
use Rattle.basic_kinds.specs.declared.kind.Kind.TheVariants as kind
use Rattle.basic_kinds.specs.Kinds.{IsWellFormed}
use Rattle.basic_kinds.specs.ShapeParts.{has_row}
use Rattle.basic_kinds.specs.Sorts.{Sort, Joins}
use Rattle.basic_kinds.specs.Sums.{so_many, sum_over}
use Rattle.shape_parts.specs.Cut.{part_of, parts_of}
use Rattle.net_core.specs.declared.spec.NodeSpec.TheVariants.{Kind as Basic}
use Rattle.net_core.specs.Wiring.{Node}
use Rattle.net_laws.proofs.Among.{Among, Distinct, all_map}
use Rattle.two_way.specs.TwoWay.{is_two_way, is_connected, at_most_two, weight}
use Rattle.two_way.specs.Layers.{IsLighter, IsLayerOf, two_way_part}
use Rattle.wait_sums.specs.WaitSums.{own_sum, part_alone}
use Rattle.wait_sums.proofs.ConnectedParts.{parts_count}
use Rattle.wait_sums.proofs.WaitLayers.{filter_low}
use Rattle.wait_parts.specs.PartsNet.{is_cut, part_node, parts_circuit}
use Rattle.wait_parts.proofs.WaitRule.{row_at}
use Rattle.wait_parts.proofs.PartLists.{chosen_among, in_range, names, part, rows_of, columns_of, places_of, of_row_line, place_row, row_in, names_once, name_in, as_many}
use Rattle.wait_parts.proofs.PartKinds.{kind_of, kinds, local, own_shape, shape_of, few_columns, few_places}
use Rattle.wait_parts.proofs.PartsChart.{all_members, parts_right}

-- one that fails is not kept
shorter : (test : ℕ → Bool) (xs : List ℕ) (x : ℕ) → Among x xs → test x ≡ false → length (filter test xs) < length xs
shorter test [] x a e = absurd a
shorter test (y ∷ xs) x (inl i) e =
    let z : filter test (y ∷ xs) ≡ filter test xs = ap (λ (b : Bool). cond b (y ∷ filter test xs) (filter test xs)) (ap test (sym i) ∙ e) in
    omega (arith, ap (λ (ys : List ℕ). length ys) z, filter_low test xs)
shorter test (y ∷ xs) x (inr a) e = by (test y) (shorter test xs x a e)
  where
    by : (b : Bool) → length (filter test xs) < length xs → length (cond b (y ∷ filter test xs) (filter test xs)) < length (y ∷ xs)
    by true less = omega (arith, less)
    by false less = omega (arith, less)

-- of several, another one
another : (xs : List ℕ) (i : ℕ) → Distinct xs → Among i xs → length xs ≢ 1 → (j : ℕ) × Among j xs × (j ≢ i)
another [] i d a many = absurd a
another (x ∷ []) i d a many = absurd (many refl)
another (x ∷ y ∷ xs) i d a many = elim (cases_eq x i) [
  | inl e ↦ (y, inr (inl refl), λ (f : y ≡ i). d.0 (inl (e ∙ sym f)))
  | inr n ↦ (x, inl refl, n)
]

not_both : (a b : Bool) → (not a || b) ≡ true → b ≡ false → a ≡ false
not_both true b e f = absurd (true≢false (sym e ∙ f))
not_both false b e f = refl

unequal : (a b : ℕ) → nat_eq a b ≡ false → a ≢ b
unequal a b e i = true≢false (sym (eq-eqb a b i) ∙ e)

-- what is cut is not two-way
never_both : (a b c d : Bool) → (not a || d) ≡ true → (a && (b && (c && not d))) ≡ false
never_both true b c true e = by b c
  where
    by : (b c : Bool) → (b && (c && false)) ≡ false
    by true true = refl
    by true false = refl
    by false c = refl
never_both true b c false e = absurd (true≢false (sym e))
never_both false b c d e = refl

module _ (s : Shape) (cut : is_cut s ≡ true) where
  not_two_way : is_two_way (kind.Dw s) ≡ false
  not_two_way = never_both (is_connected s) (at_most_two s.rows) (at_most_two s.cols) (nat_eq (length s.cross) 1) cut

  weight_is : weight (kind.Dw s) ≡ s.rows + s.cols
  weight_is = cond-false (is_two_way (kind.Dw s)) 0 (s.rows + s.cols) not_two_way

  module _ (i : ℕ) (named : Among i (names s)) where
    -- a part of several crossings is not alone: another has a row that it has not
    fewer_rows : 2 ≤ length (places_of s i) → length (rows_of s i) < s.rows
    fewer_rows more =
        let several : nat_eq (length s.cross) 1 ≡ false = ne_eqb (length s.cross) 1 (λ e. omega (arith, e, more, few_places s i named)) in
        let apart : length (names s) ≢ 1 = unequal (length (names s)) 1 (not_both (is_connected s) (nat_eq (length s.cross) 1) cut several) in
        let (j, a, other) = another (names s) i (names_once s) named apart in
        let (x, low, e) = name_in s j a in
        let out : has_row (part s i) (row_at s.cross x) ≡ false = elim (cases_Bool (has_row (part s i) (row_at s.cross x))) [
          | inl h ↦ absurd (other (sym e ∙ (row_of_part (row_at s.cross x) (place_row s x low) h)))
          | inr h ↦ h
        ] in
        omega (arith, shorter (has_row (part s i)) (range_with_len 0 s.rows) (row_at s.cross x) (in_range s.rows (row_at s.cross x) (place_row s x low)) out, length-range_with_len 0 s.rows)
      where
        row_of_part : (r : ℕ) → r < s.rows → has_row (part s i) r ≡ true → of_row_line s r ≡ i
        row_of_part r low h = (row_in s i r (chosen_among (has_row (part s i)) s.rows r low h)).1

    lighter : IsLighter (kind.Dw s) (Basic (kind_of s i))
    lighter = elim (kinds s i named) [
      | inl (one, e) ↦ subst (λ k. weight k < weight (kind.Dw s)) (sym e) (let z = s.whole.some_row in omega (arith, weight_is, z))
      | inr (more, e) ↦ subst (λ k. weight k < weight (kind.Dw s)) (sym e)
          (omega (
            arith,
            weight_is,
            at_most (is_two_way (kind.Dw (shape_of (length (rows_of s i)) (length (columns_of s i)) (local s i) (own_shape s i named)))) (length (rows_of s i) + length (columns_of s i)),
            fewer_rows more,
            few_columns s i named,
          ))
    ]
      where
        at_most : (b : Bool) (n : ℕ) → (if b then 0 else n) ≤ n
        at_most true n = omega arith
        at_most false n = omega arith

    alone : (t : Sort) → two_way_part t (Basic (kind_of s i)) ≡ part_alone s.rows s.cols (part s i) t
    alone t = elim (kinds s i named) [
      | inl (one, e) ↦
          ap (two_way_part t) (ap Basic e)
          ∙ sym (cond-true (nat_lt (length (part s i)) 2) (so_many 1 Joins t) (own_sum s.rows s.cols (part s i) t) (lt-ltb (length (part s i)) 2 (omega (arith, one, as_many s i))))
      | inr (more, e) ↦
          ap (two_way_part t) (ap Basic e)
          ∙ sym (cond-false (nat_lt (length (part s i)) 2) (so_many 1 Joins t) (own_sum s.rows s.cols (part s i) t) (le-ltb (length (part s i)) 2 (omega (arith, more, as_many s i))))
    ]

  nodes_all : (P : Node → Type 0) → ((i : ℕ) → Among i (names s) → P (part_node s (part_of s.rows s.cols s.cross i)))
      → AllByRecursion P (map (part_node s) (parts_of s.rows s.cols s.cross))
  nodes_all P h =
      all_map P (part_node s) (parts_of s.rows s.cols s.cross) (all_map (λ p. P (part_node s p)) (part_of s.rows s.cols s.cross) (names s)
      (all_members (λ i. P (part_node s (part_of s.rows s.cols s.cross i))) (names s) h))

  total : (t : Sort) (is : List ℕ) → AllByRecursion (λ i. Among i (names s)) is
      → sum_by (λ (x : Node). two_way_part t x.spec) (map (part_node s) (map (part_of s.rows s.cols s.cross) is)) ≡ sum_over (λ i. part_alone s.rows s.cols (part s i) t) is
  total t [] all = refl
  total t (i ∷ is) all =
      sum_by-cons (λ (x : Node). two_way_part t x.spec) (part_node s (part_of s.rows s.cols s.cross i)) (map (part_node s) (map (part_of s.rows s.cols s.cross) is))
      ∙ omega (arith, alone i all.0 t, total t is all.1)

  pub parts_layer : IsWellFormed (kind.Dw s) → IsLayerOf (kind.Dw s) (parts_circuit s)
  parts_layer formed = record {
    right = parts_right s formed;
    lighter = nodes_all (λ x. IsLighter (kind.Dw s) x.spec) lighter;
    sums = λ t. total t (names s) (all_members (λ i. Among i (names s)) (names s) (λ i a. a)) ∙ sym (parts_count s.rows s.cols s.cross t s.whole.within);
  }
