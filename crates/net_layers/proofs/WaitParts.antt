-- A DW of one connected shape with at most two rows and two columns stands for itself in the basis two.
use Rattle.std.proofs.Common.{◌≡◌, ◌≢◌, ◌⊎◌, inl, inr, ℕ, zero, suc, ◌+◌, ◌<◌, ◌≤◌, Bool, true, false, true≢false, cond, filter, nat_eq, nat_lt, IsTrue, List, [], ◌∷◌, length, map, refl, sym, ap, ◌∙◌, subst, arith, if◌then◌else◌, eq-eqb, eqb-true}
use Rattle.std.specs.Prelude.{◌&&◌, ◌||◌}
use Rattle.std.specs.List.{list_all, list_any, range_with_len}
use Rattle.std.proofs.lemmas.Bool.Decides.{nat_tests}
use Rattle.basic_kinds.specs.Shapes.{is_before, is_rising, is_within, IsShape}
use Rattle.basic_kinds.specs.ShapeParts.{label, part_at, part_names, part_rows, part_columns, has_row, has_column, local_part, local_crossing}
use Rattle.basic_kinds.specs.Sorts.{Sort, Waits}
use Rattle.basic_kinds.specs.Sums.{so_many, sum_over, part_sum, sum_of_part, layers_sum}
use Rattle.net_laws.proofs.Among.{Among}
use Rattle.plain_split.proofs.SharedLists.{among_filter}
use Rattle.plain_split.proofs.OneWaitDrawn.{and_both, low_in}
use Rattle.plain_split.proofs.OneWaitWires.{map_long, filter_long, range_long}
use Rattle.shape_parts.proofs.Labelled.{label_low}

not_less : (a b : ℕ) → b ≤ a → nat_lt a b ≡ false
not_less a b h = grind (arith, nat_tests)

less_than : (a b : ℕ) → nat_lt a b ≡ true → a < b
less_than a b h = grind (arith, nat_tests)

pub all_of : {A : Type 0} (q : A → Bool) (xs : List A) → list_all q xs ≡ true → (x : A) → Among x xs → q x ≡ true
all_of q [] h x a = absurd a
all_of q (y ∷ xs) h x (inl e) = subst (λ z. q z ≡ true) (sym e) (and_both (q y) (list_all q xs) h).0
all_of q (y ∷ xs) h x (inr a) = all_of q xs (and_both (q y) (list_all q xs) h).1 x a

pub any_of : {A : Type 0} (q : A → Bool) (xs : List A) (x : A) → Among x xs → q x ≡ true → list_any q xs ≡ true
any_of q [] x a h = absurd a
any_of q (y ∷ xs) x (inl e) h = ap (λ b. b || list_any q xs) (subst (λ z. q z ≡ true) e h)
any_of q (y ∷ xs) x (inr a) h = by (q y) (any_of q xs x a h)
  where
    by : (b : Bool) → list_any q xs ≡ true → (b || list_any q xs) ≡ true
    by true e = refl
    by false e = e

filter_whole : {A : Type 0} (q : A → Bool) (xs : List A) → ((x : A) → Among x xs → q x ≡ true) → filter q xs ≡ xs
filter_whole q [] h = refl
filter_whole q (x ∷ xs) h = ap (λ b. cond b (x ∷ filter q xs) (filter q xs)) (h x (inl refl)) ∙ ap (λ ys. x ∷ ys) (filter_whole q xs (λ y a. h y (inr a)))

only_one : (xs : List ℕ) → length xs ≡ 1 → (i : ℕ) × (xs ≡ i ∷ [])
only_one [] e = absurd (omega (arith, e))
only_one (x ∷ []) e = (x, refl)
only_one (x ∷ y ∷ xs) e = absurd (omega (arith, e))

in_one : (i x : ℕ) → Among x (i ∷ []) → x ≡ i
in_one i x (inl e) = e
in_one i x (inr a) = absurd a

-- the last of the choices
last_choice : (a b c : Bool) (x y z w : ℕ) → a ≡ false → b ≡ false → c ≡ false → (if a then x else (if b then y else (if c then z else w))) ≡ w
last_choice true b c x y z w e f g = absurd (true≢false e)
last_choice false true c x y z w e f g = absurd (true≢false f)
last_choice false false true x y z w e f g = absurd (true≢false g)
last_choice false false false x y z w e f g = refl

module _ (rows cols : ℕ) (cross : List (ℕ × ℕ)) (shape : IsShape rows cols cross) where
  some_crossing : 0 < length cross
  some_crossing = by cross (shape.each_row 0 shape.some_row)
    where
      by : (ps : List (ℕ × ℕ)) → list_any (λ p. nat_eq p.0 0) ps ≡ true → 0 < length ps
      by [] h = absurd (true≢false (sym h))
      by (p ∷ ps) h = omega arith

  row_low : (p : ℕ × ℕ) → Among p cross → p.0 < rows
  row_low p a = less_than p.0 rows (and_both (nat_lt p.0 rows) (nat_lt p.1 cols) (all_of (is_within rows cols) cross shape.within p a)).0

  column_low : (p : ℕ × ℕ) → Among p cross → p.1 < cols
  column_low p a = less_than p.1 cols (and_both (nat_lt p.0 rows) (nat_lt p.1 cols) (all_of (is_within rows cols) cross shape.within p a)).1

  named : (p : ℕ × ℕ) → Among p cross → Among (label rows cross p.0) (part_names rows cross)
  named p a =
      let low : label rows cross p.0 < rows = omega (arith, label_low rows cross p.0, row_low p a) in
      among_filter (λ i. list_any (λ q. nat_eq (label rows cross q.0) i) cross) (range_with_len 0 rows) (label rows cross p.0) (low_in rows (label rows cross p.0) low)
      (any_of (λ q. nat_eq (label rows cross q.0) (label rows cross p.0)) cross p a (eq-eqb (label rows cross p.0) (label rows cross p.0) refl))

  module _ (one : length (part_names rows cross) ≡ 1) (few_rows : rows ≤ 2) (few_columns : cols ≤ 2) where
    abbrev name : ℕ
    name = (only_one (part_names rows cross) one).0

    names_are : part_names rows cross ≡ name ∷ []
    names_are = (only_one (part_names rows cross) one).1

    part_is : part_at rows cross name ≡ cross
    part_is = filter_whole (λ p. nat_eq (label rows cross p.0) name) cross
        (λ p a. eq-eqb (label rows cross p.0) name (in_one name (label rows cross p.0) (subst (Among (label rows cross p.0)) names_are (named p a))))

    module _ (several : length cross ≢ 1) (t : Sort) where
      whole_part : (inner : ℕ → ℕ → List (ℕ × ℕ) → Sort → ℕ) → sum_of_part inner rows cols cross t ≡ so_many 1 Waits t
      whole_part inner = last_choice
          (nat_lt (length (local_part cross)) 2)
          (nat_lt 2 (length (part_rows rows cross)))
          (nat_lt 2 (length (part_columns cols cross)))
          _ _ _ (so_many 1 Waits t)
          (not_less (length (local_part cross)) 2 (omega (arith, some_crossing, several_crossings, map_long (local_crossing cross) cross)))
          (not_less 2 (length (part_rows rows cross)) (omega (arith, few_rows, filter_long (has_row cross) (range_with_len 0 rows), range_long 0 rows)))
          (not_less 2 (length (part_columns cols cross)) (omega (arith, few_columns, filter_long (has_column cross) (range_with_len 0 cols), range_long 0 cols)))
        where
          several_crossings : length cross < 1 ⊎ 1 < length cross
          several_crossings = by (length cross) several
            where
              by : (n : ℕ) → n ≢ 1 → n < 1 ⊎ 1 < n
              by zero h = inl (omega arith)
              by (suc zero) h = absurd (h refl)
              by (suc (suc n)) h = inr (omega arith)

      pub lone_wait : (m : ℕ) → 0 < m → layers_sum m rows cols cross t ≡ so_many 1 Waits t
      lone_wait zero h = absurd (omega arith)
      lone_wait (suc n) h =
          ap (sum_over (λ i. sum_of_part (layers_sum n) rows cols (part_at rows cross i) t)) names_are
          ∙ omega (arith, ap (λ ps. sum_of_part (layers_sum n) rows cols ps t) part_is, whole_part (layers_sum n))

  -- ---- few crossings

  abbrev place : ℕ × ℕ → ℕ
  place p = p.0 + p.0 + p.1

  before_less : (p q : ℕ × ℕ) → p.1 < 2 → is_before p q ≡ true → place p < place q
  before_less p q low h = grind (arith, nat_tests)

  few_from : (ps : List (ℕ × ℕ)) → ((p : ℕ × ℕ) → Among p ps → (p.0 < 2) × (p.1 < 2)) → is_rising ps ≡ true → (n : ℕ) → n ≤ 4 → ((p : ℕ × ℕ) → Among p ps → n ≤ place p) → n + length ps ≤ 4
  few_from [] low rising n few above = omega (arith, few)
  few_from (p ∷ ps) low rising n few above =
      let (first, rest) = and_both (list_all (is_before p) ps) (is_rising ps) rising in
      let (row, column) = low p (inl refl) in
      let more : suc (place p) + length ps ≤ 4 = few_from ps (λ q a. low q (inr a)) rest (suc (place p)) (omega (arith, row, column))
      (λ q a. before_less p q column (all_of (is_before p) ps first q a)) in
      omega (arith, more, above p (inl refl))

  pub few_crossings : rows ≤ 2 → cols ≤ 2 → length cross ≤ 4
  few_crossings few_rows few_columns =
      let few : 0 + length cross ≤ 4 = few_from cross (λ p a. (omega (arith, row_low p a), omega (arith, column_low p a))) shape.rising 0 (omega arith) (λ p a. omega arith) in
      omega (arith, few)
