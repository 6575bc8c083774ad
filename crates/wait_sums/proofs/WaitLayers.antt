-- The sum of a DW does not depend on the number of layers, once this is large: so it is the sum over its parts.
use Rattle.std.specs.Prelude.{nat_lt, if◌then◌else◌}
use Rattle.std.proofs.Common.{◌≡◌, ℕ, zero, suc, ◌+◌, ◌*◌, ◌-◌, ◌<◌, ◌≤◌, Bool, true, false, List, [], ◌∷◌, length, refl, sym, ap, ◌∙◌, arith}
use Rattle.std.specs.List.{filter, range_with_len}
use Rattle.std.proofs.lemmas.Bool.{ltb-true}
use Rattle.basic_kinds.specs.Sorts.{Sort, Forks, Joins, Merges, Waits}
use Rattle.basic_kinds.specs.ShapeParts.{has_row, has_column, part_at, part_names, part_rows, part_columns, local_part, half, first_rows, last_rows, outer, exchanged}
use Rattle.basic_kinds.specs.Sums.{so_many, sum_over, group_sum, layer_sum, part_sum, sum_of_part, layers_sum, wait_sum}
use Rattle.shape_parts.proofs.Layered.{half_near}

abbrev Sum : Type 0
Sum = ℕ → ℕ → List (ℕ × ℕ) → Sort → ℕ

pub filter_low : {A : Type 0} (test : A → Bool) (xs : List A) → length (filter test xs) ≤ length xs
filter_low test [] = omega arith
filter_low test (x ∷ xs) = by (test x) (filter_low test xs)
  where
    by : (b : Bool) → length (filter test xs) ≤ length xs → length (if b then x ∷ filter test xs else filter test xs) ≤ length (x ∷ xs)
    by true low = omega (arith, low)
    by false low = omega (arith, low)

pub range_long : (a n : ℕ) → length (range_with_len a n) ≡ n
range_long a zero = refl
range_long a (suc n) = omega (arith, range_long (a + 1) n)

-- the two sums agree on shapes with fewer lines
abbrev Agree : Sum → Sum → ℕ → Sort → Type 0
Agree f g n t = (a b : ℕ) (cross : List (ℕ × ℕ)) → a + b < n → f a b cross t ≡ g a b cross t

group_same : (f g : Sum) (n rows cols : ℕ) (group : List (ℕ × ℕ)) (t : Sort) → Agree f g n t → rows + cols < n → group_sum f rows cols group t ≡ group_sum g rows cols group t
group_same f g n rows cols group t agree low = ap (λ (k : ℕ). if nat_lt rows 2 then 0 else so_many rows Forks t + (so_many (rows - 1) Merges t + k)) (agree rows cols group low)

layer_same : (f g : Sum) (n rows cols : ℕ) (cross : List (ℕ × ℕ)) (t : Sort) → Agree f g n t → 2 < rows → rows + cols ≤ n → layer_sum f rows cols cross t ≡ layer_sum g rows cols cross t
layer_same f g n rows cols cross t agree wide low =
    let h : ℕ = half rows in
    let near : (rows ≤ 2 * h) × (2 * h ≤ rows + 1) = half_near rows in
    let a = agree 2 cols (outer h cols cross) (omega (arith, wide, low)) in
    let b = group_same f g n h cols (first_rows h cross) t agree (omega (arith, near.1, wide, low)) in
    let c = group_same f g n (rows - h) cols (last_rows h cross) t agree (omega (arith, near.0, wide, low)) in
    λ i. a i + (b i + c i)

part_same : (f g : Sum) (n rows cols : ℕ) (part : List (ℕ × ℕ)) (t : Sort) → Agree f g n t → rows + cols ≤ n → part_sum f rows cols part t ≡ part_sum g rows cols part t
part_same f g n rows cols part t agree low = by (nat_lt (length part) 2) (nat_lt 2 rows) (nat_lt 2 cols) refl refl
  where
    by : (a b c : Bool) → nat_lt 2 rows ≡ b → nat_lt 2 cols ≡ c
        → (if a then so_many 1 Joins t else (if b then layer_sum f rows cols part t else (if c then layer_sum f cols rows (exchanged cols part) t else so_many 1 Waits t)))
        ≡ (if a then so_many 1 Joins t else (if b then layer_sum g rows cols part t else (if c then layer_sum g cols rows (exchanged cols part) t else so_many 1 Waits t)))
    by true b c x y = refl
    by false true c x y = layer_same f g n rows cols part t agree (ltb-true 2 rows x) low
    by false false true x y = layer_same f g n cols rows (exchanged cols part) t agree (ltb-true 2 cols y) (omega (arith, low))
    by false false false x y = refl

sum_same : (f g : ℕ → ℕ) (is : List ℕ) → ((i : ℕ) → f i ≡ g i) → sum_over f is ≡ sum_over g is
sum_same f g [] e = refl
sum_same f g (i ∷ is) e = let a = e i in let b = sum_same f g is e in λ j. a j + b j

few_rows : (rows : ℕ) (part : List (ℕ × ℕ)) → length (part_rows rows part) ≤ rows
few_rows rows part = omega (arith, filter_low (has_row part) (range_with_len 0 rows), range_long 0 rows)

few_columns : (cols : ℕ) (part : List (ℕ × ℕ)) → length (part_columns cols part) ≤ cols
few_columns cols part = omega (arith, filter_low (has_column part) (range_with_len 0 cols), range_long 0 cols)

parts_same : (f g : Sum) (n rows cols : ℕ) (cross : List (ℕ × ℕ)) (t : Sort) → Agree f g n t → rows + cols ≤ n
    → sum_over (λ i. sum_of_part f rows cols (part_at rows cross i) t) (part_names rows cross) ≡ sum_over (λ i. sum_of_part g rows cols (part_at rows cross i) t) (part_names rows cross)
parts_same f g n rows cols cross t agree low =
    sum_same (λ i. sum_of_part f rows cols (part_at rows cross i) t) (λ i. sum_of_part g rows cols (part_at rows cross i) t) (part_names rows cross)
    (λ i. part_same f g n (length (part_rows rows (part_at rows cross i))) (length (part_columns cols (part_at rows cross i))) (local_part (part_at rows cross i)) t agree
    (omega (arith, low, few_rows rows (part_at rows cross i), few_columns cols (part_at rows cross i))))

no_rows : (n rows cols : ℕ) (cross : List (ℕ × ℕ)) (t : Sort) → rows ≡ 0 → layers_sum (suc n) rows cols cross t ≡ 0
no_rows n zero cols cross t e = refl
no_rows n (suc rows) cols cross t e = absurd (omega arith)

stable : (n m rows cols : ℕ) (cross : List (ℕ × ℕ)) (t : Sort) → rows + cols ≤ n → rows + cols ≤ m → layers_sum n rows cols cross t ≡ layers_sum m rows cols cross t
stable zero zero rows cols cross t a b = refl
stable zero (suc m) rows cols cross t a b = sym (no_rows m rows cols cross t (omega arith))
stable (suc n) zero rows cols cross t a b = no_rows n rows cols cross t (omega arith)
stable (suc n) (suc m) rows cols cross t a b =
    parts_same (layers_sum n) (layers_sum m) (rows + cols) rows cols cross t (λ r c x low. stable n m r c x t (omega arith) (omega arith)) (omega arith)

-- a DW counts what its parts count
pub by_parts : (rows cols : ℕ) (cross : List (ℕ × ℕ)) (t : Sort)
    → wait_sum rows cols cross t ≡ sum_over (λ i. sum_of_part wait_sum rows cols (part_at rows cross i) t) (part_names rows cross)
by_parts rows cols cross t =
    stable (rows + cols) (suc (rows + cols)) rows cols cross t (omega arith) (omega arith)
    ∙ parts_same (layers_sum (rows + cols)) wait_sum (rows + cols) rows cols cross t (λ a b x low. stable (rows + cols) (a + b) a b x t (omega arith) (omega arith)) (omega arith)
