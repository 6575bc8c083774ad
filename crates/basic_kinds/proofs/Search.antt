-- A search by halves finds each crossing of a shape.
use Rattle.std.proofs.Common.{◌≡◌, ◌↔◌, ◌⊎◌, inl, inr, ⊎_elim, ℕ, zero, suc, ◌<◌, ◌≤◌, Bool, true, false, true≢false, ◌||◌, ◌&&◌, nat_lt, nat_eq, List, [], ◌∷◌, length, IsTrue, refl, sym, ap, ◌∙◌, arith, eqb-true, ltb-true, Ok, Err, Ordering, Less, Equal, Greater, nat_cmp}
use Rattle.std.specs.Prelude.{Result}
use Rattle.std.specs.Result.{is_ok}
use Rattle.std.specs.Ordering.{ordering_then, ordering_index}
use Rattle.std.specs.List.Sorted.{IsBinarySearchResult, IsNonDecreasingBy, IsSearchInRange}
use Rattle.std.proofs.lemmas.Bool.{cases_eq, cases_lt}
use Rattle.std.proofs.lemmas.List.Sorted.{IsNonDecreasingBy-from_default}
use Rattle.basic_kinds.specs.declared.shape.Shape.{Shape}
use Rattle.basic_kinds.specs.Shapes.{is_before, is_rising}
use Rattle.basic_kinds.specs.KindCounts.{Crosses, row_of, col_of}
use Rattle.basic_kinds.proofs.Crossings.{at_place, all_at, and_left, and_right}

-- ---- crossings rise

abbrev Before : ℕ × ℕ → ℕ × ℕ → Type 0
Before p q = (p.0 < q.0) ⊎ ((p.0 ≡ q.0) × (p.1 < q.1))

before_is : (p q : ℕ × ℕ) → IsTrue (is_before p q) → Before p q
before_is p q h = by (nat_lt p.0 q.0) refl h
  where
    by : (b : Bool) → nat_lt p.0 q.0 ≡ b → IsTrue (b || (nat_eq p.0 q.0 && nat_lt p.1 q.1)) → Before p q
    by true e h = inl (ltb-true p.0 q.0 e)
    by false e h = inr (
      eqb-true p.0 q.0 (and_left (nat_eq p.0 q.0) (nat_lt p.1 q.1) h),
      ltb-true p.1 q.1 (and_right (nat_eq p.0 q.0) (nat_lt p.1 q.1) h),
    )

rising_at : (ps : List (ℕ × ℕ)) → IsTrue (is_rising ps) → (i j : ℕ) → i < j → j < length ps
    → Before (at_place ps i) (at_place ps j)
rising_at [] h i j l m = absurd (omega arith)
rising_at (p ∷ ps) h zero zero l m = absurd (omega arith)
rising_at (p ∷ ps) h zero (suc j) l m = before_is p (at_place ps j)
    (all_at (is_before p) ps (and_left _ (is_rising ps) h) j (omega arith))
rising_at (p ∷ ps) h (suc i) zero l m = absurd (omega arith)
rising_at (p ∷ ps) h (suc i) (suc j) l m =
    rising_at ps (and_right _ (is_rising ps) h) i j (omega arith) (omega arith)

-- ---- the order of pairs

compared : (x y : ℕ) → ((x < y) × (nat_cmp x y ≡ Less)) ⊎ (((x ≡ y) × (nat_cmp x y ≡ Equal)) ⊎ ((y < x) × (nat_cmp x y ≡ Greater)))
compared x y = grind arith

module _ (row col : ℕ) where
  abbrev pub order : ℕ × ℕ → Ordering
  order y = ordering_then (nat_cmp y.0 row) (nat_cmp y.1 col)

  abbrev rank : ℕ × ℕ → ℕ
  rank y = ordering_index (order y)

  ranked : (y : ℕ × ℕ) → (((y.0 < row) ⊎ ((y.0 ≡ row) × (y.1 < col))) × (rank y ≡ 0))
      ⊎ ((((y.0 ≡ row) × (y.1 ≡ col)) × (rank y ≡ 1))
      ⊎ (((row < y.0) ⊎ ((y.0 ≡ row) × (col < y.1))) × (rank y ≡ 2)))
  ranked y = by (compared y.0 row) (compared y.1 col)
    where
      of : (a b : Ordering) → nat_cmp y.0 row ≡ a → nat_cmp y.1 col ≡ b → rank y
          ≡ ordering_index (ordering_then a b)
      of a b e f = ap (λ o. ordering_index (ordering_then o (nat_cmp y.1 col))) e
          ∙ ap (λ o. ordering_index (ordering_then a o)) f

      by : ((y.0 < row) × (nat_cmp y.0 row ≡ Less)) ⊎ (((y.0 ≡ row) × (nat_cmp y.0 row ≡ Equal))
          ⊎ ((row < y.0) × (nat_cmp y.0 row ≡ Greater)))
          → ((y.1 < col) × (nat_cmp y.1 col ≡ Less)) ⊎ (((y.1 ≡ col) × (nat_cmp y.1 col ≡ Equal))
          ⊎ ((col < y.1) × (nat_cmp y.1 col ≡ Greater)))
          → (((y.0 < row) ⊎ ((y.0 ≡ row) × (y.1 < col))) × (rank y ≡ 0))
          ⊎ ((((y.0 ≡ row) × (y.1 ≡ col)) × (rank y ≡ 1))
          ⊎ (((row < y.0) ⊎ ((y.0 ≡ row) × (col < y.1))) × (rank y ≡ 2)))
      by (inl h) k = inl (inl h.0, of Less (nat_cmp y.1 col) h.1 refl)
      by (inr (inr h)) k = inr (inr (inl h.0, of Greater (nat_cmp y.1 col) h.1 refl))
      by (inr (inl h)) (inl k) = inl (inr (h.0, k.0), of Equal Less h.1 k.1)
      by (inr (inl h)) (inr (inl k)) = inr (inl ((h.0, k.0), of Equal Equal h.1 k.1))
      by (inr (inl h)) (inr (inr k)) = inr (inr (inr (h.0, k.0), of Equal Greater h.1 k.1))

  rank_rises : (p q : ℕ × ℕ) → Before p q → rank p ≤ rank q
  rank_rises p q b = omega (arith, b, ranked p, ranked q)

  ranks_rise : (ps : List (ℕ × ℕ)) → IsTrue (is_rising ps) → IsNonDecreasingBy rank ps
  ranks_rise ps h = IsNonDecreasingBy-from_default rank ps (0, 0)
      (λ i j l m. ⊎_elim
      (λ e. omega (arith, ap (λ x. rank (at_place ps x)) e))
      (λ n. rank_rises (at_place ps i) (at_place ps j) (rising_at ps h i j (omega (arith, n, l)) m))
      (cases_eq i j))

-- ---- the search

module _ (s : Shape) (row col : ℕ) where
  abbrev Answers : Result ℕ ℕ → Type 0
  Answers r = IsBinarySearchResult (order row col) s.cross r

  rank_of_crossing : (x : ℕ) → row_of s x ≡ row → col_of s x ≡ col → rank row col (at_place s.cross x) ≡ 1
  rank_of_crossing x e f = omega (arith, e, f, ranked row col (at_place s.cross x))

  pub search_finds : (r : Result ℕ ℕ) → IsSearchInRange r (length s.cross) → Answers r
      → IsTrue (is_ok r) ↔ Crosses s row col
  search_finds (Ok x) l a = (
    λ h.
        let one : rank row col (at_place s.cross x) ≡ 1 = ap ordering_index (a (0, 0)) in
        (x, l, omega (arith, one, ranked row col (at_place s.cross x)), omega (arith, one, ranked row col (at_place s.cross x))),
    λ k. refl,
  )
  search_finds (Err i) l a = (
    λ h. absurd (true≢false (sym h)),
    λ k. absurd (⊎_elim
        (λ below. one_zero k (ap ordering_index ((a (ranks_rise row col s.cross s.whole.rising)).0 k.0 (0, 0) (omega arith) below)))
        (λ above. one_two k (ap ordering_index ((a (ranks_rise row col s.cross s.whole.rising)).1 k.0 (0, 0) above k.1)))
        (cases_lt k.0 i)),
  )
    where
      one_zero : (k : Crosses s row col) → rank row col (at_place s.cross k.0) ≡ 0 → ⊥
      one_zero k e = omega (arith, e, rank_of_crossing k.0 k.2 k.3)

      one_two : (k : Crosses s row col) → rank row col (at_place s.cross k.0) ≡ 2 → ⊥
      one_two k e = omega (arith, e, rank_of_crossing k.0 k.2 k.3)
