-- Lists in which each number below n stands once: a number is found from its place, and a place from its number.
use Rattle.std.proofs.Common.{◌≡◌, ◌≢◌, ℕ, zero, suc, ◌+◌, ◌<◌, ◌≤◌, Bool, true, false, ◌↔◌, List, [], ◌∷◌, length, get_or, refl, sym, ap, ◌∙◌, subst, arith, inl, inr, eq-eqb, ne_eqb, ltb, lt-ltb, le-ltb, get_or-set_same, get_or-set_other}
use Rattle.std.proofs.Math.ListN.{set}
use Rattle.std.specs.Prelude.{nat_eq}
use Rattle.std.specs.List.{AllByRecursion, position_or_len}
use Rattle.std.proofs.lemmas.Bool.{cases_lt, cases_eq, false≢true, eqb-true}
use Rattle.std.proofs.lemmas.List.{get_or_past, get_or_default}
use Rattle.std.proofs.lemmas.List.Sums.{position_or_len_is, passes_at_first, fails_before_first}
use Rattle.net_core.specs.Wiring.{count}
use Rattle.net_core.proofs.Counting.{count_nil, count_same, count_other, all_at}
use Rattle.basic_kinds.proofs.Totals.{total_le}
use Rattle.net_core.proofs.Sizes.{all_counted, total_ones, each_once}

pub count_more : (w x : ℕ) (xs : List ℕ) → count w xs ≤ count w (x ∷ xs)
count_more w x xs = elim (cases_eq w x) [
  | inl e ↦ subst (λ y. count w xs ≤ count w (y ∷ xs)) e (omega (arith, count_same w xs))
  | inr h ↦ omega (arith, count_other w x xs h)
]

-- a number that stands in the list has a place
pub count_at : (w : ℕ) (xs : List ℕ) → 0 < count w xs → (k : ℕ) × (k < length xs) × (get_or xs k 0 ≡ w)
count_at w [] h = absurd (omega (arith, count_nil w))
count_at w (x ∷ xs) h = elim (cases_eq w x) [
  | inl e ↦ (0, omega arith, sym e)
  | inr ne ↦ let (k, l, e) = count_at w xs (omega (arith, count_other w x xs ne)) in (suc k, omega arith, e)
]

pub count_here : (xs : List ℕ) (k : ℕ) → k < length xs → 0 < count (get_or xs k 0) xs
count_here [] k h = absurd (omega arith)
count_here (x ∷ xs) zero h = omega (arith, count_same x xs)
count_here (x ∷ xs) (suc k) h =
    let l : k < length xs = omega arith in
    omega (arith, count_here xs k l, count_more (get_or xs k 0) x xs)

-- two places of a list without repetition have two numbers
apart : (xs : List ℕ) → ((w : ℕ) → count w xs ≤ 1) → (i j : ℕ) → i < length xs → j < length xs → get_or xs i 0 ≡ get_or xs j 0 → i ≡ j
apart [] once i j h l e = absurd (omega arith)
apart (x ∷ xs) once zero zero h l e = refl
apart (x ∷ xs) once zero (suc j) h l e =
    let m : j < length xs = omega arith in
    let same : count (get_or xs j 0) xs ≡ count x xs = ap (λ y. count y xs) (sym e) in
    absurd (omega (arith, once x, count_same x xs, count_here xs j m, same))
apart (x ∷ xs) once (suc i) zero h l e =
    let m : i < length xs = omega arith in
    let same : count (get_or xs i 0) xs ≡ count x xs = ap (λ y. count y xs) e in
    absurd (omega (arith, once x, count_same x xs, count_here xs i m, same))
apart (x ∷ xs) once (suc i) (suc j) h l e = ap suc (apart xs (λ w. omega (arith, once w, count_more w x xs)) i j (omega arith) (omega arith) e)

abbrev place : List ℕ → ℕ → ℕ
place xs w = position_or_len (nat_eq w) xs

place_there : (xs : List ℕ) (w k : ℕ) → k < length xs → get_or xs k 0 ≡ w → place xs w < length xs
place_there xs w k h e = elim (cases_lt (place xs w) (length xs)) [
  | inl l ↦ l
  | inr past ↦ absurd (false≢true (sym (fails_before_first (nat_eq w) xs k 0 (omega arith)) ∙ eq-eqb w (get_or xs k 0) (sym e)))
]

pub place_found : (xs : List ℕ) (w : ℕ) → 0 < count w xs → (place xs w < length xs) × (get_or xs (place xs w) 0 ≡ w)
place_found xs w h =
    let (k, l, e) = count_at w xs h in
    let there = place_there xs w k l e in
    (there, sym (eqb-true w (get_or xs (place xs w) 0) (passes_at_first (nat_eq w) xs 0 there)))

pub place_of : (xs : List ℕ) → ((w : ℕ) → count w xs ≤ 1) → (k : ℕ) → k < length xs → place xs (get_or xs k 0) ≡ k
place_of xs once k h =
    position_or_len_is (nat_eq (get_or xs k 0)) xs k 0 (omega arith)
    (λ j l. ne_eqb (get_or xs k 0) (get_or xs j 0) (λ e. let same = apart xs once k j h (omega arith) e in omega arith))
    (λ l. eq-eqb (get_or xs k 0) (get_or xs k 0) refl)

-- a table of places, from one place to the next, and when all are written
pub placed_more : (xs table : List ℕ) (i n : ℕ) → ((w : ℕ) → count w xs ≤ 1) → AllByRecursion (λ w. w < n) xs → i < length xs → length table ≡ n
    → ((k : ℕ) → k < i → get_or table (get_or xs k 0) 0 ≡ k) → (k : ℕ) → k < i + 1 → get_or (set table (get_or xs i 0) i) (get_or xs k 0) 0 ≡ k
placed_more xs table i n once below h sized before k l = elim (cases_eq (get_or xs k 0) (get_or xs i 0)) [
  | inl e ↦ (let known : get_or xs i 0 < n = all_at (λ w. w < n) xs i below h in
      let same = apart xs once k i (omega arith) h e in
      ap (λ w. get_or (set table (get_or xs i 0) i) w 0) e ∙ get_or-set_same table (get_or xs i 0) i 0 (omega arith) ∙ sym same)
  | inr ne ↦ (let other : k ≢ i = (λ e. ne (ap (λ j. get_or xs j 0) e)) in
      get_or-set_other table (get_or xs i 0) (get_or xs k 0) i 0 ne ∙ before k (omega arith))
]

pub placed_all : (xs table : List ℕ) (i w : ℕ) → ((w : ℕ) → count w xs ≤ 1) → length xs ≤ i → ((k : ℕ) → k < i → get_or table (get_or xs k 0) 0 ≡ k)
    → 0 < count w xs → get_or table w 0 ≡ position_or_len (nat_eq w) xs
placed_all xs table i w once past placed h =
    let (k, l, e) = count_at w xs h in
    ap (λ v. get_or table v 0) (sym e) ∙ placed k (omega arith) ∙ sym (place_of xs once k l) ∙ ap (λ v. position_or_len (nat_eq v) xs) e

-- numbers below n without repetition are at most n
pub few_below : (n : ℕ) (xs : List ℕ) → AllByRecursion (λ w. w < n) xs → ((w : ℕ) → count w xs ≤ 1) → length xs ≤ n
few_below n xs below once = omega (arith, all_counted n xs below, total_le n (λ w. count w xs) (λ w. 1) (λ w h. once w), total_ones n)

chosen : Bool → ℕ → ℕ → ℕ
chosen true a b = a
chosen false a b = b

module _ (n : ℕ) (xs : List ℕ) (below : AllByRecursion (λ w. w < n) xs) (once : (w : ℕ) → count w xs ≤ 1) (whole : (w : ℕ) → w < n → 0 < count w xs) where
  pub sized : length xs ≡ n
  sized = each_once n xs below (λ w h. omega (arith, once w, whole w h))

  -- the place of a number; numbers from n on stay
  pub to : ℕ → ℕ
  to w = chosen (ltb w n) (place xs w) w

  pub back : ℕ → ℕ
  back k = get_or xs k k

  pub to_inside : (w : ℕ) → w < n → to w ≡ position_or_len (nat_eq w) xs
  unfolding to chosen
  to_inside w h = ap (λ b. chosen b (place xs w) w) (lt-ltb w n h)

  pub to_outside : (w : ℕ) → n ≤ w → to w ≡ w
  unfolding to chosen
  to_outside w h = ap (λ b. chosen b (place xs w) w) (le-ltb w n h)

  back_inside : (k : ℕ) → k < n → back k ≡ get_or xs k 0
  unfolding back
  back_inside k h = get_or_default xs k k 0 (omega (arith, sized))

  back_outside : (k : ℕ) → n ≤ k → back k ≡ k
  unfolding back
  back_outside k h = get_or_past xs k k (omega (arith, sized))

  pub to_below : (w : ℕ) → w < n → to w < n
  to_below w h = omega (arith, to_inside w h, (place_found xs w (whole w h)).0, sized)

  pub to_number : (w : ℕ) → w < n → get_or xs (to w) 0 ≡ w
  to_number w h = ap (λ k. get_or xs k 0) (to_inside w h) ∙ (place_found xs w (whole w h)).1

  pub to_only : (w : ℕ) → (w < n) ↔ (to w < n)
  to_only w = (to_below w, (λ l. elim (cases_lt w n) [ inl h ↦ h | inr past ↦ absurd (omega (arith, to_outside w past)) ]))

  pub to_back : (w : ℕ) → back (to w) ≡ w
  to_back w = elim (cases_lt w n) [
    | inl h ↦ back_inside (to w) (to_below w h) ∙ to_number w h
    | inr past ↦ ap back (to_outside w past) ∙ back_outside w past
  ]

  pub back_to : (k : ℕ) → to (back k) ≡ k
  back_to k = elim (cases_lt k n) [
    | inl h ↦ ap to (back_inside k h)
        ∙ to_inside (get_or xs k 0) (all_at (λ w. w < n) xs k below (omega (arith, sized)))
        ∙ place_of xs once k (omega (arith, sized))
    | inr past ↦ ap to (back_outside k past) ∙ to_outside k past
  ]

  pub first_stays : get_or xs 0 0 ≡ 0 → to 0 ≡ 0
  unfolding back
  first_stays e = ap to (sym e) ∙ back_to 0
