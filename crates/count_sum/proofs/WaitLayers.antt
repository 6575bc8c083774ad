-- The sum over a DW does not depend on the number of layers, once this is large.
use Rattle.std.specs.Prelude.{nat_lt, if◌then◌else◌}
use Rattle.std.proofs.Common.{◌≡◌, ℕ, zero, suc, ◌+◌, ◌*◌, ◌-◌, ◌<◌, ◌≤◌, Bool, true, false, List, [], ◌∷◌, length, map, refl, sym, ap, ◌∙◌, arith}
use Rattle.std.specs.List.{range_with_len}
use Rattle.std.proofs.lemmas.Bool.{ltb-true, lt-ltb, le-ltb, cond-true, cond-false}
use Rattle.basic_kinds.specs.Sorts.{Sort, Forks, Joins, Merges, Iwires, Waits, Sequencers}
use Rattle.basic_kinds.specs.ShapeParts.{has_row, has_column, part_at, part_names, part_rows, part_columns, local_part, half, first_rows, last_rows, outer, exchanged, one_column}
use Rattle.basic_kinds.specs.Sums.{so_many, sum_over, group_sum, layer_sum, part_sum, sum_of_part, layers_sum, wait_sum, requests_sum, sequencers_sum, sequencer_sum}
use Rattle.shape_parts.proofs.Layered.{half_near}
use Rattle.shape_parts.specs.Cut.{part_of, parts_of}
use Rattle.count_sum.proofs.WaitBound.{filter_low, range_long, not_less}
use Rattle.count_sum.specs.Mirror.Waits.{of_wait, of_group, of_layer, of_part, of_parts, of_sequencer, of_requests}

abbrev Sum : Type 0
Sum = ℕ → ℕ → List (ℕ × ℕ) → Sort → ℕ

-- the two sums agree on shapes with fewer lines
abbrev Agree : Sum → Sum → ℕ → Sort → Type 0
Agree f g n t = (a b : ℕ) (cross : List (ℕ × ℕ)) → a + b < n → f a b cross t ≡ g a b cross t

group_same : (f g : Sum) (n rows cols : ℕ) (group : List (ℕ × ℕ)) (t : Sort) → Agree f g n t → rows + cols < n → group_sum f rows cols group t ≡ group_sum g rows cols group t
group_same f g n rows cols group t agree low = ap (λ (k : ℕ). if nat_lt rows 2 then 0 else so_many rows Forks t + (so_many (rows - 1) Merges t + k)) (agree rows cols group low)

layer_same : (f g : Sum) (n rows cols : ℕ) (cross : List (ℕ × ℕ)) (t : Sort) → Agree f g n t → 2 < rows → rows + cols ≤ n → layer_sum f rows cols cross t ≡ layer_sum g rows cols cross t
layer_same f g n rows cols cross t agree wide low =
    let h : ℕ = half rows in
    let near : (rows ≤ 2 * h) × (2 * h ≤ rows + 1) = half_near rows in
    let a = agree 2 cols (outer h cols cross) (omega (arith, wide, low)) in
    let b = group_same f g n h cols (first_rows h cross) t agree (omega (arith, near.1, wide, low)) in
    let c = group_same f g n (rows - h) cols (last_rows h cross) t agree (omega (arith, near.0, wide, low)) in
    λ i. a i + (b i + c i)

part_same : (f g : Sum) (n rows cols : ℕ) (part : List (ℕ × ℕ)) (t : Sort) → Agree f g n t → rows + cols ≤ n → part_sum f rows cols part t ≡ part_sum g rows cols part t
part_same f g n rows cols part t agree low = by (nat_lt (length part) 2) (nat_lt 2 rows) (nat_lt 2 cols) refl refl
  where
    by : (a b c : Bool) → nat_lt 2 rows ≡ b → nat_lt 2 cols ≡ c
        → (if a then so_many 1 Joins t else (if b then layer_sum f rows cols part t else (if c then layer_sum f cols rows (exchanged cols part) t else so_many 1 Waits t)))
        ≡ (if a then so_many 1 Joins t else (if b then layer_sum g rows cols part t else (if c then layer_sum g cols rows (exchanged cols part) t else so_many 1 Waits t)))
    by true b c x y = refl
    by false true c x y = layer_same f g n rows cols part t agree (ltb-true 2 rows x) low
    by false false true x y = layer_same f g n cols rows (exchanged cols part) t agree (ltb-true 2 cols y) (omega (arith, low))
    by false false false x y = refl

sum_same : (f g : ℕ → ℕ) (is : List ℕ) → ((i : ℕ) → f i ≡ g i) → sum_over f is ≡ sum_over g is
sum_same f g [] e = refl
sum_same f g (i ∷ is) e = let a = e i in let b = sum_same f g is e in λ j. a j + b j

pub few_rows : (rows : ℕ) (part : List (ℕ × ℕ)) → length (part_rows rows part) ≤ rows
few_rows rows part = omega (arith, filter_low (has_row part) (range_with_len 0 rows), range_long 0 rows)

pub few_columns : (cols : ℕ) (part : List (ℕ × ℕ)) → length (part_columns cols part) ≤ cols
few_columns cols part = omega (arith, filter_low (has_column part) (range_with_len 0 cols), range_long 0 cols)

parts_same : (f g : Sum) (n rows cols : ℕ) (cross : List (ℕ × ℕ)) (t : Sort) → Agree f g n t → rows + cols ≤ n
    → sum_over (λ i. sum_of_part f rows cols (part_at rows cross i) t) (part_names rows cross) ≡ sum_over (λ i. sum_of_part g rows cols (part_at rows cross i) t) (part_names rows cross)
parts_same f g n rows cols cross t agree low =
    sum_same (λ i. sum_of_part f rows cols (part_at rows cross i) t) (λ i. sum_of_part g rows cols (part_at rows cross i) t) (part_names rows cross)
    (λ i. part_same f g n (length (part_rows rows (part_at rows cross i))) (length (part_columns cols (part_at rows cross i))) (local_part (part_at rows cross i)) t agree
    (omega (arith, low, few_rows rows (part_at rows cross i), few_columns cols (part_at rows cross i))))

no_rows : (n rows cols : ℕ) (cross : List (ℕ × ℕ)) (t : Sort) → rows ≡ 0 → layers_sum (suc n) rows cols cross t ≡ 0
no_rows n zero cols cross t e = refl
no_rows n (suc rows) cols cross t e = absurd (omega arith)

stable : (n m rows cols : ℕ) (cross : List (ℕ × ℕ)) (t : Sort) → rows + cols ≤ n → rows + cols ≤ m → layers_sum n rows cols cross t ≡ layers_sum m rows cols cross t
stable zero zero rows cols cross t a b = refl
stable zero (suc m) rows cols cross t a b = sym (no_rows m rows cols cross t (omega arith))
stable (suc n) zero rows cols cross t a b = no_rows n rows cols cross t (omega arith)
stable (suc n) (suc m) rows cols cross t a b =
    parts_same (layers_sum n) (layers_sum m) (rows + cols) rows cols cross t (λ r c x low. stable n m r c x t (omega arith) (omega arith)) (omega arith)

abbrev by_parts : ℕ → ℕ → List (ℕ × ℕ) → Sort → ℕ
by_parts rows cols cross t = sum_over (λ i. sum_of_part of_wait rows cols (part_at rows cross i) t) (part_names rows cross)

-- a DW counts what its parts count
wait_parts : (rows cols : ℕ) (cross : List (ℕ × ℕ)) (t : Sort) → of_wait rows cols cross t ≡ by_parts rows cols cross t
unfolding of_wait
wait_parts rows cols cross t =
    stable (rows + cols) (suc (rows + cols)) rows cols cross t (omega arith) (omega arith)
    ∙ parts_same (layers_sum (rows + cols)) wait_sum (rows + cols) rows cols cross t (λ a b x low. stable (rows + cols) (a + b) a b x t (omega arith) (omega arith)) (omega arith)

listed_parts : (rows cols : ℕ) (cross : List (ℕ × ℕ)) (t : Sort) (is : List ℕ)
    → sum_over (λ i. sum_of_part of_wait rows cols (part_at rows cross i) t) is ≡ of_parts (map (part_of rows cols cross) is) t
unfolding of_part
listed_parts rows cols cross t [] = refl
listed_parts rows cols cross t (i ∷ is) = ap (λ (k : ℕ). sum_of_part of_wait rows cols (part_at rows cross i) t + k) (listed_parts rows cols cross t is)

pub wait_is : (rows cols : ℕ) (cross : List (ℕ × ℕ)) (t : Sort) → of_wait rows cols cross t ≡ of_parts (parts_of rows cols cross) t
wait_is rows cols cross t = wait_parts rows cols cross t ∙ listed_parts rows cols cross t (part_names rows cross)

pub wait_meant : (rows cols : ℕ) (cross : List (ℕ × ℕ)) (t : Sort) → of_wait rows cols cross t ≡ wait_sum rows cols cross t
unfolding of_wait
wait_meant rows cols cross t = refl

-- ---- the cases of a part

module _ (rows cols : ℕ) (part : List (ℕ × ℕ)) (t : Sort) where
  abbrev small : ℕ
  small = so_many 1 Waits t

  abbrev turned : ℕ
  turned = if nat_lt 2 cols then layer_sum of_wait cols rows (exchanged cols part) t else small

  abbrev layered : ℕ
  layered = if nat_lt 2 rows then layer_sum of_wait rows cols part t else turned

  pub part_of_one : length part < 2 → of_part rows cols part t ≡ so_many 1 Joins t
  unfolding of_part
  part_of_one h = cond-true (nat_lt (length part) 2) (so_many 1 Joins t) layered (lt-ltb (length part) 2 h)

  pub part_by_rows : 2 ≤ length part → 2 < rows → of_part rows cols part t ≡ of_layer rows cols part t
  unfolding of_part of_layer
  part_by_rows h w = cond-false (nat_lt (length part) 2) (so_many 1 Joins t) layered (le-ltb (length part) 2 h) ∙ cond-true (nat_lt 2 rows) (layer_sum of_wait rows cols part t) turned (lt-ltb 2 rows w)

  pub part_by_columns : 2 ≤ length part → rows ≤ 2 → 2 < cols → of_part rows cols part t ≡ of_layer cols rows (exchanged cols part) t
  unfolding of_part of_layer
  part_by_columns h r w =
      cond-false (nat_lt (length part) 2) (so_many 1 Joins t) layered (le-ltb (length part) 2 h) ∙ cond-false (nat_lt 2 rows) (layer_sum of_wait rows cols part t) turned (le-ltb 2 rows r)
      ∙ cond-true (nat_lt 2 cols) (layer_sum of_wait cols rows (exchanged cols part) t) small (lt-ltb 2 cols w)

  pub part_of_two : 2 ≤ length part → rows ≤ 2 → cols ≤ 2 → of_part rows cols part t ≡ so_many 1 Waits t
  unfolding of_part
  part_of_two h r w =
      cond-false (nat_lt (length part) 2) (so_many 1 Joins t) layered (le-ltb (length part) 2 h) ∙ cond-false (nat_lt 2 rows) (layer_sum of_wait rows cols part t) turned (le-ltb 2 rows r)
      ∙ cond-false (nat_lt 2 cols) (layer_sum of_wait cols rows (exchanged cols part) t) small (le-ltb 2 cols w)

-- ---- a layer and its groups

pub layer_is : (rows cols : ℕ) (cross : List (ℕ × ℕ)) (t : Sort) → of_layer rows cols cross t
    ≡ of_wait 2 cols (outer (half rows) cols cross) t + (of_group (half rows) cols (first_rows (half rows) cross) t + of_group (rows - half rows) cols (last_rows (half rows) cross) t)
unfolding of_layer of_group
layer_is rows cols cross t = refl

pub group_none : (rows cols : ℕ) (group : List (ℕ × ℕ)) (t : Sort) → rows < 2 → of_group rows cols group t ≡ 0
unfolding of_group
group_none rows cols group t h = cond-true (nat_lt rows 2) 0 (so_many rows Forks t + (so_many (rows - 1) Merges t + of_wait rows cols group t)) (lt-ltb rows 2 h)

pub group_some : (rows cols : ℕ) (group : List (ℕ × ℕ)) (t : Sort) → 2 ≤ rows → of_group rows cols group t ≡ so_many rows Forks t + (so_many (rows - 1) Merges t + of_wait rows cols group t)
unfolding of_group
group_some rows cols group t h = cond-false (nat_lt rows 2) 0 (so_many rows Forks t + (so_many (rows - 1) Merges t + of_wait rows cols group t)) (le-ltb rows 2 h)

-- ---- a SEQ

abbrev Requests : Type 0
Requests = ℕ → Sort → ℕ

requests_same : (f g : Requests) (k : ℕ) (t : Sort) → (2 ≤ k → f k t ≡ g k t) → requests_sum f k t ≡ requests_sum g k t
requests_same f g k t e = by (nat_lt k 2) refl
  where
    rest : ℕ
    rest = so_many (2 * k) Forks t + (so_many (2 * (k - 1)) Merges t + (so_many 1 Iwires t + wait_sum k 1 (one_column k) t))

    by : (b : Bool) → nat_lt k 2 ≡ b → (if b then 0 else f k t + rest) ≡ (if b then 0 else g k t + rest)
    by true x = refl
    by false x = ap (λ (n : ℕ). n + rest) (e (not_less k 2 x))

abbrev halves : Requests → ℕ → Sort → ℕ
halves f k t = so_many 1 Sequencers t + (if nat_lt 2 k then requests_sum f (half k) t + requests_sum f (k - half k) t else 0)

abbrev pub halves_of : ℕ → Sort → ℕ
halves_of k t = if nat_lt 2 k then requests_sum of_sequencer (half k) t + requests_sum of_sequencer (k - half k) t else 0

halves_same : (f g : Requests) (k : ℕ) (t : Sort) → ((j : ℕ) → 2 ≤ j → j < k → f j t ≡ g j t) → halves f k t ≡ halves g k t
halves_same f g k t e = ap (λ (n : ℕ). so_many 1 Sequencers t + n) (by (nat_lt 2 k) refl)
  where
    by : (b : Bool) → nat_lt 2 k ≡ b → (if b then requests_sum f (half k) t + requests_sum f (k - half k) t else 0) ≡ (if b then requests_sum g (half k) t + requests_sum g (k - half k) t else 0)
    by true x =
        let near : (k ≤ 2 * half k) × (2 * half k ≤ k + 1) = half_near k in
        let wide : 2 < k = ltb-true 2 k x in
        let a = requests_same f g (half k) t (λ more. e (half k) more (omega (arith, near.1, wide))) in
        let b = requests_same f g (k - half k) t (λ more. e (k - half k) more (omega (arith, near.0, wide))) in
        λ i. a i + b i
    by false x = refl

seq_stable : (n m k : ℕ) (t : Sort) → 0 < k → k ≤ n → k ≤ m → sequencers_sum n k t ≡ sequencers_sum m k t
seq_stable zero m k t some a b = absurd (omega arith)
seq_stable (suc n) zero k t some a b = absurd (omega arith)
seq_stable (suc n) (suc m) k t some a b = halves_same (sequencers_sum n) (sequencers_sum m) k t (λ j more low. seq_stable n m j t (omega arith) (omega arith) (omega arith))

pub seq_halves : (k : ℕ) (t : Sort) → 0 < k → of_sequencer k t ≡ so_many 1 Sequencers t + halves_of k t
unfolding of_sequencer
seq_halves k t some =
    seq_stable k (suc k) k t some (omega arith) (omega arith)
    ∙ halves_same (sequencers_sum k) sequencer_sum k t (λ j more low. seq_stable k j j t (omega arith) (omega arith) (omega arith))

pub seq_of_two : (k : ℕ) (t : Sort) → 0 < k → k ≤ 2 → of_sequencer k t ≡ so_many 1 Sequencers t + 0
seq_of_two k t some low = seq_halves k t some ∙ ap (λ (n : ℕ). so_many 1 Sequencers t + n) (cond-false (nat_lt 2 k) (requests_sum of_sequencer (half k) t + requests_sum of_sequencer (k - half k) t) 0 (le-ltb 2 k low))

pub seq_of_more : (k : ℕ) (t : Sort) → 2 < k → of_sequencer k t ≡ so_many 1 Sequencers t + (of_requests (half k) t + of_requests (k - half k) t)
unfolding of_requests
seq_of_more k t wide = seq_halves k t (omega arith) ∙ ap (λ (n : ℕ). so_many 1 Sequencers t + n) (cond-true (nat_lt 2 k) (requests_sum of_sequencer (half k) t + requests_sum of_sequencer (k - half k) t) 0 (lt-ltb 2 k wide))

pub seq_meant : (k : ℕ) (t : Sort) → of_sequencer k t ≡ sequencer_sum k t
unfolding of_sequencer
seq_meant k t = refl

pub requests_none : (k : ℕ) (t : Sort) → k < 2 → of_requests k t ≡ 0
unfolding of_requests
requests_none k t h =
    cond-true (nat_lt k 2) 0 (of_sequencer k t + (so_many (2 * k) Forks t + (so_many (2 * (k - 1)) Merges t + (so_many 1 Iwires t + wait_sum k 1 (one_column k) t)))) (lt-ltb k 2 h)

pub requests_some : (k : ℕ) (t : Sort) → 2 ≤ k → of_requests k t ≡ of_sequencer k t + (so_many (2 * k) Forks t + (so_many (2 * (k - 1)) Merges t + (so_many 1 Iwires t + of_wait k 1 (one_column k) t)))
unfolding of_requests of_wait
requests_some k t h =
    cond-false (nat_lt k 2) 0 (of_sequencer k t + (so_many (2 * k) Forks t + (so_many (2 * (k - 1)) Merges t + (so_many 1 Iwires t + wait_sum k 1 (one_column k) t)))) (le-ltb k 2 h)
