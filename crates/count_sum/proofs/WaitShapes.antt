-- The shapes of a layer, and the parts of a shape, have their crossings in range.
use Rattle.std.specs.Prelude.{nat_eq, nat_lt, not, if◌then◌else◌, ◌&&◌}
use Rattle.std.proofs.Common.{◌≡◌, ℕ, zero, suc, ◌+◌, ◌*◌, ◌-◌, ◌<◌, ◌≤◌, ◌^◌, Bool, true, false, List, [], ◌∷◌, ◌++◌, length, map, get_or, IsTrue, refl, sym, ap, ◌∙◌, arith, eq-eqb}
use Rattle.std.specs.List.{filter, list_all, range_with_len, AllByRecursion}
use Rattle.std.proofs.lemmas.Bool.{and_parts, ltb-true, lt-ltb}
use Rattle.std.proofs.lemmas.List.{length-map}
use Rattle.basic_kinds.specs.Shapes.{is_within}
use Rattle.basic_kinds.specs.ShapeParts.{label, part_at, part_names, part_rows, part_columns, local_part, local_crossing, has_row, has_column, half, first_rows, last_rows, met, outer, exchanged, exchanged_from, one_column}
use Rattle.shape_parts.proofs.Chosen.{any_member, filter_below, place_at}
use Rattle.shape_parts.proofs.Layered.{half_near, AreColumns, columns_within}
use Rattle.shape_parts.specs.declared.cut.ShapePart.{ShapePart}
use Rattle.shape_parts.specs.Cut.{part_of, parts_of}
use Rattle.count_sum.proofs.WaitBound.{filter_low, range_long, outer_low, rows_both, exchanged_low, not_less}
use Rattle.count_sum.proofs.WaitLayers.{few_rows, few_columns}
use Rattle.count_sum.specs.Mirror.Waits.{IsInRange}

-- each crossing is of these rows and columns
abbrev Inside : ℕ → ℕ → List (ℕ × ℕ) → Type 0
Inside r c xs = AllByRecursion (λ p. (p.0 < r) × (p.1 < c)) xs

inside_of : (r c : ℕ) (xs : List (ℕ × ℕ)) → IsTrue (list_all (is_within r c) xs) → Inside r c xs
inside_of r c [] h = tt
inside_of r c (p ∷ ps) h =
    let (here, rest) = and_parts (is_within r c p) (list_all (is_within r c) ps) h in
    let (a, b) = and_parts (nat_lt p.0 r) (nat_lt p.1 c) here in
    ((ltb-true p.0 r a, ltb-true p.1 c b), inside_of r c ps rest)

both_true : (a b : Bool) → a ≡ true → b ≡ true → (a && b) ≡ true
both_true a b e f = ap (λ (x : Bool). x && b) e ∙ f

within_of : (r c : ℕ) (xs : List (ℕ × ℕ)) → Inside r c xs → IsTrue (list_all (is_within r c) xs)
within_of r c [] h = refl
within_of r c (p ∷ ps) h =
    both_true (is_within r c p) (list_all (is_within r c) ps) (both_true (nat_lt p.0 r) (nat_lt p.1 c) (lt-ltb p.0 r h.0.0) (lt-ltb p.1 c h.0.1)) (within_of r c ps h.1)

inside_both : (r c : ℕ) (xs ys : List (ℕ × ℕ)) → Inside r c xs → Inside r c ys → Inside r c (xs ++ ys)
inside_both r c [] ys h k = k
inside_both r c (x ∷ xs) ys h k = (h.0, inside_both r c xs ys h.1 k)

-- what passes a test is in range once mapped
inside_mapped : (test : ℕ × ℕ → Bool) (f : ℕ × ℕ → ℕ × ℕ) (r c s d : ℕ) → ((p : ℕ × ℕ) → test p ≡ true → p.0 < r → p.1 < c → ((f p).0 < s) × ((f p).1 < d)) → (xs : List (ℕ × ℕ)) → Inside r c xs
    → Inside s d (map f (filter test xs))
inside_mapped test f r c s d e [] h = tt
inside_mapped test f r c s d e (p ∷ ps) h = by (test p) refl (inside_mapped test f r c s d e ps h.1)
  where
    by : (b : Bool) → test p ≡ b → Inside s d (map f (filter test ps)) → Inside s d (map f (if b then p ∷ filter test ps else filter test ps))
    by true t rest = (e p t h.0.0 h.0.1, rest)
    by false t rest = rest

inside_kept : (test : ℕ × ℕ → Bool) (r c s d : ℕ) → ((p : ℕ × ℕ) → test p ≡ true → p.0 < r → p.1 < c → (p.0 < s) × (p.1 < d)) → (xs : List (ℕ × ℕ)) → Inside r c xs → Inside s d (filter test xs)
inside_kept test r c s d e [] h = tt
inside_kept test r c s d e (p ∷ ps) h = by (test p) refl (inside_kept test r c s d e ps h.1)
  where
    by : (b : Bool) → test p ≡ b → Inside s d (filter test ps) → Inside s d (if b then p ∷ filter test ps else filter test ps)
    by true t rest = (e p t h.0.0 h.0.1, rest)
    by false t rest = rest

not_true : (b : Bool) → not b ≡ true → b ≡ false
not_true true e = sym e
not_true false e = refl

paired : (k r c : ℕ) → k < r → (js : List ℕ) → AllByRecursion (λ j. j < c) js → Inside r c (map (λ j. (k, j)) js)
paired k r c low [] h = tt
paired k r c low (j ∷ js) h = ((low, h.0), paired k r c low js h.1)

met_inside : (k cols : ℕ) (group : List (ℕ × ℕ)) → k < 2 → Inside 2 cols (met k cols group)
met_inside k cols group low = paired k 2 cols low (filter (has_column group) (range_with_len 0 cols)) (filter_below (has_column group) 0 cols cols (omega arith))

turned_inside : (r c j k : ℕ) (xs : List (ℕ × ℕ)) → Inside r c xs → Inside c r (exchanged_from j k xs)
turned_inside r c j zero xs h = tt
turned_inside r c j (suc k) xs h = inside_both c r (map (λ p. (p.1, p.0)) (filter (λ p. nat_eq p.1 j) xs)) (exchanged_from (suc j) k xs)
    (inside_mapped (λ p. nat_eq p.1 j) (λ p. (p.1, p.0)) r c c r (λ p e a b. (b, a)) xs h) (turned_inside r c (suc j) k xs h)

-- ---- a layer

module _ (rows cols : ℕ) (cross : List (ℕ × ℕ)) (is : IsInRange rows cols cross) where
  abbrev h : ℕ
  h = half rows

  near : (rows ≤ 2 * h) × (2 * h ≤ rows + 1)
  near = half_near rows

  inside : Inside rows cols cross
  inside = inside_of rows cols cross is.within

  pub first_range : 2 < rows → IsInRange h cols (first_rows h cross)
  first_range wide = record {
    few_lines = omega (arith, near.1, wide, is.few_lines);
    few_crossings = omega (arith, rows_both h cross, is.few_crossings);
    within = within_of h cols (first_rows h cross) (inside_kept (λ p. nat_lt p.0 h) rows cols h cols (λ p e a b. (ltb-true p.0 h e, b)) cross inside);
  }

  pub last_range : 2 < rows → IsInRange (rows - h) cols (last_rows h cross)
  last_range wide = record {
    few_lines = omega (arith, near.0, wide, is.few_lines);
    few_crossings = omega (arith, rows_both h cross, is.few_crossings);
    within = within_of (rows - h) cols (last_rows h cross)
        (inside_mapped (λ p. not (nat_lt p.0 h)) (λ p. (p.0 - h, p.1)) rows cols (rows - h) cols
        (λ p e a b. let low : h ≤ p.0 = not_less p.0 h (not_true (nat_lt p.0 h) e) in (omega (arith, low, a), b)) cross inside);
  }

  pub outer_range : 2 < rows → IsInRange 2 cols (outer h cols cross)
  outer_range wide = record {
    few_lines = omega (arith, wide, is.few_lines);
    few_crossings = omega (arith, outer_low h cols cross, rows_both h cross, is.few_crossings);
    within = within_of 2 cols (outer h cols cross)
        (inside_both 2 cols (met 0 cols (first_rows h cross)) (met 1 cols (last_rows h cross)) (met_inside 0 cols (first_rows h cross) (omega arith)) (met_inside 1 cols (last_rows h cross) (omega arith)));
  }

  pub exchanged_range : IsInRange cols rows (exchanged cols cross)
  exchanged_range = record {
    few_lines = omega (arith, is.few_lines);
    few_crossings = omega (arith, exchanged_low cols cross, is.few_crossings);
    within = within_of cols rows (exchanged cols cross) (turned_inside rows cols 0 cols cross inside);
  }

  pub columns_range : AreColumns cols cross
  columns_range = columns_within rows cols cross is.within

-- ---- the parts

-- rows and columns are of the part, and in range
abbrev OfPart : List (ℕ × ℕ) → ℕ → ℕ → ℕ × ℕ → Type 0
OfPart part rows cols p = (p.0 < rows) × (p.1 < cols) × (has_row part p.0 ≡ true) × (has_column part p.1 ≡ true)

local_inside : (rows cols : ℕ) (part xs : List (ℕ × ℕ)) → AllByRecursion (OfPart part rows cols) xs → Inside (length (part_rows rows part)) (length (part_columns cols part)) (map (local_crossing part) xs)
local_inside rows cols part [] h = tt
local_inside rows cols part (p ∷ ps) h =
    let a : p.0 ≡ 0 + p.0 = omega arith in
    let b : p.1 ≡ 0 + p.1 = omega arith in
    let row = place_at (has_row part) 0 p.0 rows h.0.0 (ap (has_row part) (sym a) ∙ h.0.2) in
    let column = place_at (has_column part) 0 p.1 cols h.0.1 (ap (has_column part) (sym b) ∙ h.0.3) in
    ((row.0, column.0), local_inside rows cols part ps h.1)

members : (rows cols : ℕ) (part xs : List (ℕ × ℕ)) → Inside rows cols xs → ((p : ℕ × ℕ) → (n : ℕ) → n < length xs → get_or xs n (0, 0) ≡ p → (has_row part p.0 ≡ true) × (has_column part p.1 ≡ true))
    → AllByRecursion (OfPart part rows cols) xs
members rows cols part [] h e = tt
members rows cols part (p ∷ ps) h e =
    let here = e p 0 (omega arith) refl in
    ((h.0.0, h.0.1, here.0, here.1), members rows cols part ps h.1 (λ q n low k. e q (suc n) (omega arith) k))

own_lines : (part : List (ℕ × ℕ)) (p : ℕ × ℕ) (n : ℕ) → n < length part → get_or part n (0, 0) ≡ p → (has_row part p.0 ≡ true) × (has_column part p.1 ≡ true)
own_lines part p n low e =
    let q : ℕ × ℕ = get_or part n (0, 0) in (
      any_member (λ x. nat_eq x.0 p.0) part n (0, 0) low (eq-eqb q.0 p.0 (ap (λ (x : ℕ × ℕ). x.0) e)),
      any_member (λ x. nat_eq x.1 p.1) part n (0, 0) low (eq-eqb q.1 p.1 (ap (λ (x : ℕ × ℕ). x.1) e)),
    )

pub record IsPartInRange (rows cols : ℕ) (p : ShapePart) : Type 0 where
  pub few_rows : length p.rows ≤ rows
  pub few_columns : length p.columns ≤ cols
  pub range : IsInRange (length p.rows) (length p.columns) p.cross

pub part_range : (rows cols : ℕ) (cross : List (ℕ × ℕ)) → IsInRange rows cols cross → (i : ℕ) → IsPartInRange rows cols (part_of rows cols cross i)
part_range rows cols cross is i =
    let part : List (ℕ × ℕ) = part_at rows cross i in
    let all : Inside rows cols part = inside_kept (λ p. nat_eq (label rows cross p.0) i) rows cols rows cols (λ p e a b. (a, b)) cross (inside_of rows cols cross is.within) in
    record {
      few_rows = few_rows rows part;
      few_columns = few_columns cols part;
      range = record {
        few_lines = omega (arith, few_rows rows part, few_columns cols part, is.few_lines);
        few_crossings = omega (arith, length-map part (local_crossing part), filter_low (λ (p : ℕ × ℕ). nat_eq (label rows cross p.0) i) cross, is.few_crossings);
        within = within_of (length (part_rows rows part)) (length (part_columns cols part)) (local_part part)
            (local_inside rows cols part part (members rows cols part part all (own_lines part)));
      };
    }

ranges : (rows cols : ℕ) (cross : List (ℕ × ℕ)) → IsInRange rows cols cross → (is : List ℕ) → AllByRecursion (IsPartInRange rows cols) (map (part_of rows cols cross) is)
ranges rows cols cross h [] = tt
ranges rows cols cross h (i ∷ is) = (part_range rows cols cross h i, ranges rows cols cross h is)

pub parts_range : (rows cols : ℕ) (cross : List (ℕ × ℕ)) → IsInRange rows cols cross → AllByRecursion (IsPartInRange rows cols) (parts_of rows cols cross)
parts_range rows cols cross h = ranges rows cols cross h (part_names rows cross)

-- ---- one column

pub column_range : (k : ℕ) → k + 2 < 2 ^ 32 → IsInRange k 1 (one_column k)
column_range k low = record {
  few_lines = omega (arith, low);
  few_crossings = omega (arith, length-map {B = ℕ × ℕ} (range_with_len 0 k) (λ (i : ℕ). (i, 0)), range_long 0 k, low);
  within = within_of k 1 (one_column k) (column 0 k k (omega arith));
}
  where
    column : (a n m : ℕ) → a + n ≤ m → Inside m 1 (map (λ i. (i, 0)) (range_with_len a n))
    column a zero m h = tt
    column a (suc n) m h = ((omega arith, omega arith), column (a + 1) n m (omega arith))
