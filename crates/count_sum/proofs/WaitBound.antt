-- How many components a DW is at most in the basis two. By layers: with c crossings, and q less than the rows by one, and r
-- less than the columns by one, but each one at least, these are at most 3 * c * q * r - 2 * c.
use Rattle.std.specs.Prelude.{nat_lt, nat_eq, if◌then◌else◌, not, ◌||◌}
use Rattle.std.specs.List.{filter, list_any, range_with_len}
use Rattle.std.proofs.Common.{◌≡◌, ℕ, zero, suc, ◌+◌, ◌*◌, ◌-◌, ◌<◌, ◌≤◌, Bool, true, false, List, [], ◌∷◌, length, map, length-append, inl, inr, refl, ap, ◌∙◌, arith, eqb-true}
use Rattle.std.proofs.Math.Nat.{mul-le-mul_left}
use Rattle.std.proofs.lemmas.Bool.{ltb-true}
use Rattle.std.proofs.lemmas.Bool.Decides.{nat_tests}
use Rattle.std.proofs.lemmas.List.{length-map}
use Rattle.std.proofs.lemmas.List.Filters.{length-filter_both}
use Rattle.net_laws.proofs.Among.{Among}
use Rattle.basic_kinds.specs.Sorts.{Sort, Forks, Joins, Merges, Waits}
use Rattle.basic_kinds.specs.Shapes.{IsShape}
use Rattle.basic_kinds.specs.ShapeParts.{label, part_at, part_names, part_rows, part_columns, local_part, local_crossing, half, first_rows, last_rows, outer, met, has_row, has_column, exchanged, exchanged_from}
use Rattle.basic_kinds.specs.Sums.{so_many, sum_over, group_sum, layer_sum, part_sum, sum_of_part, layers_sum, wait_sum}
use Rattle.count_sum.specs.Counts.{all_sorts}
use Rattle.shape_parts.proofs.Layered.{half_near}
use Rattle.count_sum.proofs.SortCounts.{all_both, so_many_all}

abbrev Sum : Type 0
Sum = ℕ → ℕ → List (ℕ × ℕ) → Sort → ℕ

abbrev bit : Bool → ℕ
bit b = if b then 1 else 0

pub not_less : (m n : ℕ) → nat_lt m n ≡ false → n ≤ m
not_less m n e = grind (arith, nat_tests)

-- ---- one less, and one at least

abbrev pub less_one : ℕ → ℕ
less_one zero = 1
less_one (suc zero) = 1
less_one (suc (suc n)) = suc n

pub some_less : (n : ℕ) → 1 ≤ less_one n
some_less zero = omega arith
some_less (suc zero) = omega arith
some_less (suc (suc n)) = omega arith

less_is : (n : ℕ) → 2 ≤ n → less_one n + 1 ≡ n
less_is zero h = absurd (omega arith)
less_is (suc zero) h = absurd (omega arith)
less_is (suc (suc n)) h = omega arith

pub less_low : (n : ℕ) → 1 ≤ n → less_one n ≤ n
less_low zero h = absurd (omega arith)
less_low (suc zero) h = omega arith
less_low (suc (suc n)) h = omega arith

less_grows : (m n : ℕ) → m ≤ n → less_one m ≤ less_one n
less_grows zero n h = some_less n
less_grows (suc zero) n h = some_less n
less_grows (suc (suc m)) n h = omega (arith, less_is n (omega arith))

-- ---- products

product_some : (a b : ℕ) → 1 ≤ a → 1 ≤ b → 1 ≤ a * b
product_some a b x y = let z : a * 1 ≤ a * b = mul-le-mul_left a y in omega (arith, z)

product_grows : (a b c d : ℕ) → a ≤ c → b ≤ d → a * b ≤ c * d
product_grows a b c d x y =
    let z : a * b ≤ a * d = mul-le-mul_left a y in
    let w : d * a ≤ d * c = mul-le-mul_left d x in
    omega (arith, z, w)

-- what is fewer leaves no less room
tight : (x y m : ℕ) → x ≤ y → 1 ≤ m → 3 * (x * m) + 2 * y ≤ 3 * (y * m) + 2 * x
tight x y m low some =
    let z : (y - x) * 1 ≤ (y - x) * m = mul-le-mul_left (y - x) some in
    let w : y ≡ x + (y - x) = omega arith in
    let v : y * m ≡ x * m + (y - x) * m = ap (λ n. n * m) w ∙ (omega arith) in
    omega (arith, z, v, w)

fits : (c q : ℕ) → 1 ≤ q → 2 * c ≤ 3 * (c * q)
fits c q some = let z : c * 1 ≤ c * q = mul-le-mul_left c some in omega (arith, z)

layer_room : (s a b o c d n e f h j m : ℕ) → s + 2 * o ≤ 3 * (o * m) → a + 1 + 2 * c ≤ 2 * h + 3 * (c * (e * m)) → b + 1 + 2 * d ≤ 2 * (j + 1) + 3 * (d * (f * m))
    → o ≤ c + d → c + d ≤ n → 2 ≤ n → 1 ≤ m → 1 ≤ e → f ≤ e → h ≤ j + 2 → s + (a + b) + 2 * n ≤ 3 * (n * ((e + (j + 1)) * m))
layer_room s a b o c d n e f h j m so ga gb low few many some one less near =
    let grown : d * (f * m) ≤ d * (e * m) = mul-le-mul_left d (product_grows f m e m less (omega arith)) in
    let first : 3 * (o * m) + 2 * n ≤ 3 * (n * m) + 2 * o = tight o n m (omega arith) some in
    let groups : 3 * ((c + d) * (e * m)) + 2 * n ≤ 3 * (n * (e * m)) + 2 * (c + d) = tight (c + d) n (e * m) few (product_some e m one some) in
    let both : (c + d) * (e * m) ≡ c * (e * m) + d * (e * m) = omega arith in
    let wide : n * 1 ≤ n * m = mul-le-mul_left n some in
    let left : j * 2 ≤ j * (n * m) = mul-le-mul_left j (omega (arith, wide, many)) in
    let all : n * ((e + (j + 1)) * m) ≡ n * (e * m) + j * (n * m) + n * m = omega arith in
    omega (arith, so, ga, gb, grown, first, groups, both, left, all, near, many)

-- ---- sums over lists

sum_both : (f h : ℕ → ℕ) (is : List ℕ) → sum_over (λ i. f i + h i) is ≡ sum_over f is + sum_over h is
sum_both f h [] = refl
sum_both f h (i ∷ is) = omega (arith, sum_both f h is)

sum_low : (f h : ℕ → ℕ) (is : List ℕ) → ((i : ℕ) → Among i is → f i ≤ h i) → sum_over f is ≤ sum_over h is
sum_low f h [] low = omega arith
sum_low f h (i ∷ is) low = omega (arith, low i (inl refl), sum_low f h is (λ j a. low j (inr a)))

sum_none : (is : List ℕ) → sum_over (λ i. 0) is ≡ 0
sum_none [] = refl
sum_none (i ∷ is) = omega (arith, sum_none is)

sum_times : (f : ℕ → ℕ) (m : ℕ) (is : List ℕ) → sum_over (λ i. f i * m) is ≡ sum_over f is * m
sum_times f m [] = omega arith
sum_times f m (i ∷ is) = omega (arith, sum_times f m is)

sum_chosen : (f : ℕ → ℕ) (test : ℕ → Bool) (is : List ℕ) → sum_over f (filter test is) ≤ sum_over f is
sum_chosen f test [] = omega arith
sum_chosen f test (i ∷ is) = by (test i) (sum_chosen f test is)
  where
    by : (b : Bool) → sum_over f (filter test is) ≤ sum_over f is → sum_over f (if b then i ∷ filter test is else filter test is) ≤ f i + sum_over f is
    by true low = omega (arith, low)
    by false low = omega (arith, low)

-- a number stands in a range once at most
range_none : (v a n : ℕ) → v < a → sum_over (λ i. bit (nat_eq v i)) (range_with_len a n) ≡ 0
range_none v a zero less = refl
range_none v a (suc n) less = by (nat_eq v a) refl (range_none v (a + 1) n (omega arith))
  where
    by : (b : Bool) → nat_eq v a ≡ b → sum_over (λ i. bit (nat_eq v i)) (range_with_len (a + 1) n) ≡ 0 → bit b + sum_over (λ i. bit (nat_eq v i)) (range_with_len (a + 1) n) ≡ 0
    by true e rest = absurd (omega (arith, eqb-true v a e, less))
    by false e rest = omega (arith, rest)

range_once : (v a n : ℕ) → sum_over (λ i. bit (nat_eq v i)) (range_with_len a n) ≤ 1
range_once v a zero = omega arith
range_once v a (suc n) = by (nat_eq v a) refl (range_once v (a + 1) n)
  where
    by : (b : Bool) → nat_eq v a ≡ b → sum_over (λ i. bit (nat_eq v i)) (range_with_len (a + 1) n) ≤ 1 → bit b + sum_over (λ i. bit (nat_eq v i)) (range_with_len (a + 1) n) ≤ 1
    by true e rest = omega (arith, range_none v (a + 1) n (omega (arith, eqb-true v a e)))
    by false e rest = omega (arith, rest)

abbrev with_key : (ℕ × ℕ → ℕ) → List (ℕ × ℕ) → ℕ → List (ℕ × ℕ)
with_key key xs i = filter (λ x. nat_eq (key x) i) xs

one_longer : (b : Bool) (x : ℕ × ℕ) (xs : List (ℕ × ℕ)) → length (if b then x ∷ xs else xs) ≡ bit b + length xs
one_longer true x xs = omega arith
one_longer false x xs = omega arith

-- the items by different keys are no more than all
keyed_low : (key : ℕ × ℕ → ℕ) (is : List ℕ) → ((v : ℕ) → sum_over (λ i. bit (nat_eq v i)) is ≤ 1) → (xs : List (ℕ × ℕ)) → sum_over (λ i. length (with_key key xs i)) is ≤ length xs
keyed_low key is once [] = omega (arith, sum_none is)
keyed_low key is once (x ∷ xs) =
    let more : sum_over (λ i. length (with_key key (x ∷ xs) i)) is ≤ sum_over (λ i. bit (nat_eq (key x) i) + length (with_key key xs i)) is =
    sum_low (λ i. length (with_key key (x ∷ xs) i)) (λ i. bit (nat_eq (key x) i) + length (with_key key xs i)) is (λ i a. omega (arith, one_longer (nat_eq (key x) i) x (with_key key xs i))) in
    omega (arith, more, sum_both (λ i. bit (nat_eq (key x) i)) (λ i. length (with_key key xs i)) is, once (key x), keyed_low key is once xs)

some_kept : (test : ℕ × ℕ → Bool) (xs : List (ℕ × ℕ)) → bit (list_any test xs) ≤ length (filter test xs)
some_kept test [] = omega arith
some_kept test (x ∷ xs) = by (test x) (some_kept test xs)
  where
    by : (b : Bool) → bit (list_any test xs) ≤ length (filter test xs) → bit (b || list_any test xs) ≤ length (if b then x ∷ filter test xs else filter test xs)
    by true low = omega arith
    by false low = low

chosen_long : (test : ℕ → Bool) (is : List ℕ) → length (filter test is) ≡ sum_over (λ i. bit (test i)) is
chosen_long test [] = refl
chosen_long test (i ∷ is) = by (test i) (chosen_long test is)
  where
    by : (b : Bool) → length (filter test is) ≡ sum_over (λ i. bit (test i)) is → length (if b then i ∷ filter test is else filter test is) ≡ bit b + sum_over (λ i. bit (test i)) is
    by true e = omega (arith, e)
    by false e = omega (arith, e)

pub filter_low : {A : Type 0} (test : A → Bool) (xs : List A) → length (filter test xs) ≤ length xs
filter_low test [] = omega arith
filter_low test (x ∷ xs) = by (test x) (filter_low test xs)
  where
    by : (b : Bool) → length (filter test xs) ≤ length xs → length (if b then x ∷ filter test xs else filter test xs) ≤ length (x ∷ xs)
    by true low = omega (arith, low)
    by false low = omega (arith, low)

pub range_long : (a n : ℕ) → length (range_with_len a n) ≡ n
range_long a zero = refl
range_long a (suc n) = omega (arith, range_long (a + 1) n)

among_passes : (test : ℕ → Bool) (is : List ℕ) (i : ℕ) → Among i (filter test is) → test i ≡ true
among_passes test [] i a = absurd a
among_passes test (j ∷ is) i a = by (test j) refl (among_passes test is i) a
  where
    by : (b : Bool) → test j ≡ b → (Among i (filter test is) → test i ≡ true) → Among i (if b then j ∷ filter test is else filter test is) → test i ≡ true
    by true e rest (inl z) = ap test z ∙ e
    by true e rest (inr a) = rest a
    by false e rest a = rest a

-- ---- the shapes of a layer

met_low : (k cols : ℕ) (group : List (ℕ × ℕ)) → length (met k cols group) ≤ length group
met_low k cols group = omega (
  arith,
  length-map {B = ℕ × ℕ} (filter (has_column group) (range_with_len 0 cols)) (λ (j : ℕ). (k, j)),
  chosen_long (has_column group) (range_with_len 0 cols),
  sum_low (λ j. bit (has_column group j)) (λ j. length (with_key (λ p. p.1) group j)) (range_with_len 0 cols) (λ j a. some_kept (λ p. nat_eq p.1 j) group),
  keyed_low (λ p. p.1) (range_with_len 0 cols) (λ v. range_once v 0 cols) group,
)

pub outer_low : (h cols : ℕ) (cross : List (ℕ × ℕ)) → length (outer h cols cross) ≤ length (first_rows h cross) + length (last_rows h cross)
outer_low h cols cross = omega (
  arith,
  length-append (met 0 cols (first_rows h cross)) (met 1 cols (last_rows h cross)),
  met_low 0 cols (first_rows h cross),
  met_low 1 cols (last_rows h cross),
)

pub rows_both : (h : ℕ) (cross : List (ℕ × ℕ)) → length (first_rows h cross) + length (last_rows h cross) ≡ length cross
rows_both h cross = omega (
  arith,
  length-map {B = ℕ × ℕ} (filter (λ (p : ℕ × ℕ). not (nat_lt p.0 h)) cross) (λ (p : ℕ × ℕ). (p.0 - h, p.1)),
  length-filter_both (λ (p : ℕ × ℕ). nat_lt p.0 h) (λ p. not (nat_lt p.0 h)) (λ p. refl) cross,
)

exchanged_long : (j k : ℕ) (cross : List (ℕ × ℕ)) → length (exchanged_from j k cross) ≡ sum_over (λ i. length (with_key (λ p. p.1) cross i)) (range_with_len j k)
exchanged_long j zero cross = refl
exchanged_long j (suc k) cross =
    let next : suc j ≡ j + 1 = omega arith in
    omega (
      arith,
      length-append (map (λ (p : ℕ × ℕ). (p.1, p.0)) (filter (λ (p : ℕ × ℕ). nat_eq p.1 j) cross)) (exchanged_from (suc j) k cross),
      length-map {B = ℕ × ℕ} (filter (λ (p : ℕ × ℕ). nat_eq p.1 j) cross) (λ (p : ℕ × ℕ). (p.1, p.0)),
      exchanged_long (suc j) k cross,
      ap (λ n. sum_over (λ i. length (with_key (λ p. p.1) cross i)) (range_with_len n k)) next,
    )

pub exchanged_low : (cols : ℕ) (cross : List (ℕ × ℕ)) → length (exchanged cols cross) ≤ length cross
exchanged_low cols cross = omega (arith, exchanged_long 0 cols cross, keyed_low (λ p. p.1) (range_with_len 0 cols) (λ v. range_once v 0 cols) cross)

parts_low : (rows : ℕ) (cross : List (ℕ × ℕ)) → sum_over (λ i. length (part_at rows cross i)) (part_names rows cross) ≤ length cross
parts_low rows cross = keyed_low (λ p. label rows cross p.0) (part_names rows cross)
    (λ v. let test = λ (i : ℕ). list_any (λ (p : ℕ × ℕ). nat_eq (label rows cross p.0) i) cross in
    omega (arith, sum_chosen (λ i. bit (nat_eq v i)) test (range_with_len 0 rows), range_once v 0 rows)) cross

part_some : (rows : ℕ) (cross : List (ℕ × ℕ)) (i : ℕ) → Among i (part_names rows cross) → 1 ≤ length (part_at rows cross i)
part_some rows cross i a =
    let any : list_any (λ (p : ℕ × ℕ). nat_eq (label rows cross p.0) i) cross ≡ true = among_passes (λ i. list_any (λ (p : ℕ × ℕ). nat_eq (label rows cross p.0) i) cross) (range_with_len 0 rows) i a in
    omega (arith, some_kept (λ p. nat_eq (label rows cross p.0) i) cross, ap bit any)

-- ---- by layers

abbrev room : ℕ → ℕ → ℕ → ℕ
room c rows cols = 3 * (c * (less_one rows * less_one cols))

abbrev IsBounded : Sum → Type 0
IsBounded inner = (rows cols : ℕ) (cross : List (ℕ × ℕ)) → all_sorts (inner rows cols cross) + 2 * length cross ≤ room (length cross) rows cols

module _ (inner : Sum) (bounded : IsBounded inner) where
  group_low : (g cols : ℕ) (group : List (ℕ × ℕ)) → 1 ≤ g → all_sorts (group_sum inner g cols group) + 1 + 2 * length group ≤ 2 * g + room (length group) g cols
  group_low g cols group some = by (nat_lt g 2) refl
    where
      by : (b : Bool) → nat_lt g 2 ≡ b
          → all_sorts (λ t. if b then 0 else so_many g Forks t + (so_many (g - 1) Merges t + inner g cols group t)) + 1 + 2 * length group ≤ 2 * g + room (length group) g cols
      by true e = omega (arith, some, fits (length group) (less_one g * less_one cols) (product_some (less_one g) (less_one cols) (some_less g) (some_less cols)))
      by false e =
          let rest : all_sorts (λ t. so_many (g - 1) Merges t + inner g cols group t) ≡ all_sorts (so_many (g - 1) Merges) + all_sorts (inner g cols group) = all_both (so_many (g - 1) Merges) (inner g cols group) in
          let all : all_sorts (λ t. so_many g Forks t + (so_many (g - 1) Merges t + inner g cols group t)) ≡ all_sorts (so_many g Forks) + all_sorts (λ t. so_many (g - 1) Merges t + inner g cols group t) =
          all_both (so_many g Forks) (λ t. so_many (g - 1) Merges t + inner g cols group t) in
          omega (arith, all, rest, so_many_all g Forks, so_many_all (g - 1) Merges, bounded g cols group, some)

  layer_low : (rows cols n : ℕ) (cross : List (ℕ × ℕ)) → 2 < rows → 2 ≤ n → length cross ≤ n → all_sorts (layer_sum inner rows cols cross) + 2 * n ≤ room n rows cols
  layer_low rows cols n cross more many few =
      let h : ℕ = half rows in
      let j : ℕ = rows - h - 1 in
      let near : (rows ≤ 2 * h) × (2 * h ≤ rows + 1) = half_near rows in
      let last : rows - h ≡ j + 1 = omega (arith, near.0, near.1, more) in
      let groups : all_sorts (λ t. group_sum inner h cols (first_rows h cross) t + group_sum inner (rows - h) cols (last_rows h cross) t) ≡ all_sorts (group_sum inner h cols (first_rows h cross)) + all_sorts (group_sum inner (rows - h) cols (last_rows h cross)) =
      all_both (group_sum inner h cols (first_rows h cross)) (group_sum inner (rows - h) cols (last_rows h cross)) in
      let all : all_sorts (layer_sum inner rows cols cross) ≡ all_sorts (inner 2 cols (outer h cols cross)) + all_sorts (λ t. group_sum inner h cols (first_rows h cross) t + group_sum inner (rows - h) cols (last_rows h cross) t) =
      all_both (inner 2 cols (outer h cols cross)) (λ t. group_sum inner h cols (first_rows h cross) t + group_sum inner (rows - h) cols (last_rows h cross) t) in
      let out : all_sorts (inner 2 cols (outer h cols cross)) + 2 * length (outer h cols cross) ≤ 3 * (length (outer h cols cross) * less_one cols) =
      omega (arith, bounded 2 cols (outer h cols cross)) in
      let first = group_low h cols (first_rows h cross) (omega (arith, near.0, more)) in
      let second = group_low (rows - h) cols (last_rows h cross) (omega (arith, last)) in
      let whole : less_one rows ≡ less_one h + (j + 1) = omega (arith, less_is rows (omega arith), less_is h (omega (arith, near.0, more)), last, near.0, near.1, more) in
      let have = layer_room (all_sorts (inner 2 cols (outer h cols cross))) (all_sorts (group_sum inner h cols (first_rows h cross))) (all_sorts (group_sum inner (rows - h) cols (last_rows h cross)))
      (length (outer h cols cross)) (length (first_rows h cross)) (length (last_rows h cross)) n (less_one h) (less_one (rows - h)) h j (less_one cols)
      out first (omega (arith, second, last)) (outer_low h cols cross) (omega (arith, rows_both h cross, few)) many (some_less cols) (some_less h) (less_grows (rows - h) h (omega (arith, near.0)))
      (omega (arith, near.1, last, more)) in
      omega (arith, all, groups, have, ap (λ (k : ℕ). n * (k * less_one cols)) whole)

  part_low : (rows cols : ℕ) (part : List (ℕ × ℕ)) → 1 ≤ length part → all_sorts (part_sum inner rows cols part) + 2 * length part ≤ room (length part) rows cols
  part_low rows cols part some = by (nat_lt (length part) 2) (nat_lt 2 rows) (nat_lt 2 cols) refl refl refl
    where
      alone : 3 * length part ≤ room (length part) rows cols
      alone = let z : length part * 1 ≤ length part * (less_one rows * less_one cols) = mul-le-mul_left (length part) (product_some (less_one rows) (less_one cols) (some_less rows) (some_less cols)) in omega (arith, z)

      by : (a b c : Bool) → nat_lt (length part) 2 ≡ a → nat_lt 2 rows ≡ b → nat_lt 2 cols ≡ c
          → all_sorts (λ t. if a then so_many 1 Joins t else (if b then layer_sum inner rows cols part t else (if c then layer_sum inner cols rows (exchanged cols part) t else so_many 1 Waits t))) + 2 * length part
          ≤ room (length part) rows cols
      by true b c x y z = omega (arith, some, so_many_all 1 Joins, alone)
      by false true c x y z = layer_low rows cols (length part) part (ltb-true 2 rows y) (not_less (length part) 2 x) (omega arith)
      by false false true x y z =
          omega (arith, layer_low cols rows (length part) (exchanged cols part) (ltb-true 2 cols z) (not_less (length part) 2 x) (exchanged_low cols part))
      by false false false x y z = omega (arith, some, so_many_all 1 Waits, alone)

all_over : (f : ℕ → Sort → ℕ) (is : List ℕ) → all_sorts (λ t. sum_over (λ i. f i t) is) ≡ sum_over (λ i. all_sorts (f i)) is
all_over f [] = refl
all_over f (i ∷ is) = omega (arith, all_both (f i) (λ t. sum_over (λ i. f i t) is), all_over f is)

pub layers_bounded : (n : ℕ) → IsBounded (layers_sum n)
layers_bounded zero rows cols cross = omega (arith, fits (length cross) (less_one rows * less_one cols) (product_some (less_one rows) (less_one cols) (some_less rows) (some_less cols)))
layers_bounded (suc n) rows cols cross =
    let names : List ℕ = part_names rows cross in
    let part = λ (i : ℕ). part_at rows cross i in
    let size = λ (i : ℕ). length (part_at rows cross i) in
    let m : ℕ = less_one rows * less_one cols in
    let each : (i : ℕ) → Among i names → all_sorts (sum_of_part (layers_sum n) rows cols (part i)) + (size i + size i) ≤ size i * m + (size i * m + size i * m) = λ i a.
    let rs : ℕ = length (part_rows rows (part i)) in
    let cs : ℕ = length (part_columns cols (part i)) in
    let fewer_rows : rs ≤ rows = omega (arith, filter_low (has_row (part i)) (range_with_len 0 rows), range_long 0 rows) in
    let fewer_cols : cs ≤ cols = omega (arith, filter_low (has_column (part i)) (range_with_len 0 cols), range_long 0 cols) in
    let long : length (local_part (part i)) ≡ size i = length-map (part i) (local_crossing (part i)) in
    let low = part_low (layers_sum n) (layers_bounded n) rs cs (local_part (part i)) (omega (arith, long, part_some rows cross i a)) in
    let grows : size i * (less_one rs * less_one cs) ≤ size i * m = mul-le-mul_left (size i) (product_grows (less_one rs) (less_one cs) (less_one rows) (less_one cols) (less_grows rs rows fewer_rows) (less_grows cs cols fewer_cols)) in
    omega (arith, low, grows, long, ap (λ (k : ℕ). k * (less_one rs * less_one cs)) long) in
    let summed : sum_over (λ i. all_sorts (sum_of_part (layers_sum n) rows cols (part i)) + (size i + size i)) names ≤ sum_over (λ i. size i * m + (size i * m + size i * m)) names =
    sum_low (λ i. all_sorts (sum_of_part (layers_sum n) rows cols (part i)) + (size i + size i)) (λ i. size i * m + (size i * m + size i * m)) names each in
    omega (
      arith,
      all_over (λ i. sum_of_part (layers_sum n) rows cols (part i)) names,
      summed,
      sum_both (λ i. all_sorts (sum_of_part (layers_sum n) rows cols (part i))) (λ i. size i + size i) names,
      sum_both size size names,
      sum_both (λ i. size i * m) (λ i. size i * m + size i * m) names,
      sum_both (λ i. size i * m) (λ i. size i * m) names,
      sum_times size m names,
      parts_low rows cross,
      tight (sum_over size names) (length cross) m (parts_low rows cross) (product_some (less_one rows) (less_one cols) (some_less rows) (some_less cols)),
    )

-- three for each crossing, row and column
pub wait_low : (n m : ℕ) (cross : List (ℕ × ℕ)) → 1 ≤ n → 1 ≤ m → all_sorts (wait_sum n m cross) ≤ 3 * (length cross * (n * m))
wait_low n m cross x y =
    let z : length cross * (less_one n * less_one m) ≤ length cross * (n * m) = mul-le-mul_left (length cross) (product_grows (less_one n) (less_one m) n m (less_low n x) (less_low m y)) in
    omega (arith, layers_bounded (n + m) n m cross, z)

pub wait_bound : (n m : ℕ) (cross : List (ℕ × ℕ)) → IsShape n m cross → all_sorts (wait_sum n m cross) ≤ 8 * length cross * n * m
wait_bound n m cross s =
    let e : 8 * length cross * n * m ≡ 8 * (length cross * (n * m)) = omega arith in
    omega (arith, wait_low n m cross s.some_row s.some_column, e)
