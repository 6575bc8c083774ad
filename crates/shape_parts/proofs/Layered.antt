-- The shapes of one layer of a split.
use Rattle.std.specs.Prelude.{if◌then◌else◌, nat_eq, nat_lt, not}
use Rattle.std.proofs.Common.{◌≡◌, ℕ, zero, suc, ◌+◌, ◌-◌, ◌*◌, ◌/◌, ◌<◌, ◌≤◌, Bool, true, false, List, [], ◌∷◌, ◌++◌, length, map, get_or, IsTrue, refl, sym, ap, ◌∙◌, subst, arith, append-nil, append_assoc}
use Rattle.std.specs.List.{filter, list_all, range_with_len, AllByRecursion}
use Rattle.std.proofs.lemmas.Bool.{and_parts, ltb-true}
use Rattle.std.proofs.lemmas.List.{length-map, get_or_read}
use Rattle.std.proofs.lemmas.List.FromFn.{get_or-map-range_with_len, length-map-range_with_len}
use Rattle.basic_kinds.specs.Shapes.{is_within}
use Rattle.basic_kinds.specs.ShapeParts.{half, first_rows, last_rows, has_column, exchanged_from}
use Rattle.shape_parts.specs.Keys.{is_among, key_at, with_key}
use Rattle.shape_parts.specs.Layers.{swapped}
use Rattle.shape_parts.proofs.Chosen.{filter_below, filter_places, filter_same}
use Rattle.shape_parts.proofs.Keyed.{among_mapped}

pub half_near : (n : ℕ) → (n ≤ 2 * half n) × (2 * half n ≤ n + 1)
half_near zero = (omega arith, omega arith)
half_near (suc zero) = (omega arith, omega arith)
half_near (suc (suc n)) = let (low, high) = half_near n in (omega (arith, low), omega (arith, high))

pub half_is : (n : ℕ) → n - n / 2 ≡ half n
half_is n = omega (arith, half_near n)

-- ---- columns in range

abbrev pub AreColumns : ℕ → List (ℕ × ℕ) → Type 0
AreColumns cols cross = AllByRecursion (λ p. p.1 < cols) cross

pub columns_within : (rows cols : ℕ) (cross : List (ℕ × ℕ)) → IsTrue (list_all (is_within rows cols) cross) → AreColumns cols cross
columns_within rows cols [] h = tt
columns_within rows cols (p ∷ ps) h =
    let (here, rest) = and_parts (is_within rows cols p) (list_all (is_within rows cols) ps) h in
    (ltb-true p.1 cols (and_parts (nat_lt p.0 rows) (nat_lt p.1 cols) here).1, columns_within rows cols ps rest)

filtered_columns : (test : ℕ × ℕ → Bool) (cols : ℕ) (cross : List (ℕ × ℕ)) → AreColumns cols cross → AreColumns cols (filter test cross)
filtered_columns test cols [] h = tt
filtered_columns test cols (p ∷ ps) h = by (test p) (filtered_columns test cols ps h.1)
  where
    by : (b : Bool) → AreColumns cols (filter test ps) → AreColumns cols (if b then p ∷ filter test ps else filter test ps)
    by true r = (h.0, r)
    by false r = r

lowered_columns : (half cols : ℕ) (cross : List (ℕ × ℕ)) → AreColumns cols cross → AreColumns cols (map (λ p. (p.0 - half, p.1)) cross)
lowered_columns half cols [] h = tt
lowered_columns half cols (p ∷ ps) h = (h.0, lowered_columns half cols ps h.1)

pub first_columns : (half cols : ℕ) (cross : List (ℕ × ℕ)) → AreColumns cols cross → AreColumns cols (first_rows half cross)
first_columns half cols cross h = filtered_columns (λ p. nat_lt p.0 half) cols cross h

pub last_columns : (half cols : ℕ) (cross : List (ℕ × ℕ)) → AreColumns cols cross → AreColumns cols (last_rows half cross)
last_columns half cols cross h = lowered_columns half cols (filter (λ p. not (nat_lt p.0 half)) cross) (filtered_columns (λ p. not (nat_lt p.0 half)) cols cross h)

mapped_columns : (cols : ℕ) (cross : List (ℕ × ℕ)) → AreColumns cols cross → AllByRecursion (λ n. n < cols) (map (λ p. p.1) cross)
mapped_columns cols [] h = tt
mapped_columns cols (p ∷ ps) h = (h.0, mapped_columns cols ps h.1)

pub columns_low : (cols : ℕ) (cross : List (ℕ × ℕ)) (cs : List ℕ) → cs ≡ map (λ p. p.1) cross → AreColumns cols cross → AllByRecursion (λ n. n < cols) cs
columns_low cols cross cs e h = subst (AllByRecursion (λ n. n < cols)) (sym e) (mapped_columns cols cross h)

-- ---- the columns that a group meets

pub met_marked : (cols : ℕ) (group : List (ℕ × ℕ)) (cs : List ℕ) (ms : List Bool) → cs ≡ map (λ p. p.1) group → ms ≡ map (is_among cs) (range_with_len 0 cols)
    → filter (λ i. get_or ms i false) (range_with_len 0 (length ms)) ≡ filter (has_column group) (range_with_len 0 cols)
met_marked cols group cs ms e marked =
    ap (λ (n : ℕ). filter (λ i. get_or ms i false) (range_with_len 0 n)) (ap length marked ∙ length-map-range_with_len (is_among cs) 0 cols)
    ∙ filter_same (λ j. get_or ms j false) (has_column group) 0 cols
    (λ j a b. ap (λ (bs : List Bool). get_or bs j false) marked ∙ get_or-map-range_with_len (is_among cs) 0 cols j j false (omega arith) (omega arith)
    ∙ ap (λ (xs : List ℕ). is_among xs j) e ∙ among_mapped (λ p. p.1) j group)

-- ---- exchanged

column_of : (cross : List (ℕ × ℕ)) (n : ℕ) → get_or (map (λ (p : ℕ × ℕ). p.1) cross) n 0 ≡ (get_or cross n (0, 0)).1
column_of [] n = refl
column_of (p ∷ ps) zero = refl
column_of (p ∷ ps) (suc n) = column_of ps n

-- the crossings of one column, by their places
pub of_column : (cross : List (ℕ × ℕ)) (cs : List ℕ) (j : ℕ) → cs ≡ map (λ p. p.1) cross
    → map (λ n. swapped (get_or cross n (0, 0))) (with_key cs j) ≡ map swapped (filter (λ p. nat_eq p.1 j) cross)
of_column cross cs j e =
    ap (map (λ n. swapped (get_or cross n (0, 0)))) keyed ∙ sym (both (filter (λ n. nat_eq (get_or cross n (0, 0)).1 j) (range_with_len 0 (length cross))))
    ∙ ap (map swapped) (sym (filter_places (λ p. nat_eq p.1 j) (λ n. get_or cross n (0, 0)) (0, 0) 0 cross at))
  where
    at : (k : ℕ) → k < length cross → get_or cross (0 + k) (0, 0) ≡ get_or cross k (0, 0)
    at k low = let z : 0 + k ≡ k = omega arith in ap (λ (m : ℕ). get_or cross m (0, 0)) z

    both : (ns : List ℕ) → map swapped (map (λ n. get_or cross n (0, 0)) ns) ≡ map (λ n. swapped (get_or cross n (0, 0))) ns
    both [] = refl
    both (n ∷ ns) = ap (λ ps. swapped (get_or cross n (0, 0)) ∷ ps) (both ns)

    keyed : with_key cs j ≡ filter (λ n. nat_eq (get_or cross n (0, 0)).1 j) (range_with_len 0 (length cross))
    keyed = ap (λ (n : ℕ). filter (λ m. nat_eq (key_at cs m) j) (range_with_len 0 n)) (ap length e ∙ length-map cross (λ (p : ℕ × ℕ). p.1))
        ∙ filter_same (λ m. nat_eq (key_at cs m) j) (λ n. nat_eq (get_or cross n (0, 0)).1 j) 0 (length cross)
        (λ x a b. ap (λ (xs : List ℕ). nat_eq (get_or xs x 0) j) e ∙ ap (λ (m : ℕ). nat_eq m j) (column_of cross x))

pub exchanged_more : (j k : ℕ) (cross : List (ℕ × ℕ)) → exchanged_from j (k + 1) cross ≡ exchanged_from j k cross ++ map swapped (filter (λ p. nat_eq p.1 (j + k)) cross)
exchanged_more j zero cross =
    let e : j ≡ j + 0 = omega arith in
    append-nil (map swapped (filter (λ p. nat_eq p.1 j) cross)) ∙ ap (λ (n : ℕ). map swapped (filter (λ p. nat_eq p.1 n) cross)) e
exchanged_more j (suc k) cross =
    let here : List (ℕ × ℕ) = map swapped (filter (λ p. nat_eq p.1 j) cross) in
    let e : suc j + k ≡ j + suc k = omega arith in
    let n : suc k + 1 ≡ suc (k + 1) = omega arith in
    ap (λ (m : ℕ). exchanged_from j m cross) n
    ∙ ap (λ ps. here ++ ps) (exchanged_more (suc j) k cross)
    ∙ sym (append_assoc here (exchanged_from (suc j) k cross) (map swapped (filter (λ p. nat_eq p.1 (suc j + k)) cross)))
    ∙ ap (λ (m : ℕ). (here ++ exchanged_from (suc j) k cross) ++ map swapped (filter (λ p. nat_eq p.1 m) cross)) e

pub places_low : (keys : List ℕ) (many k : ℕ) → length keys ≤ many → AllByRecursion (λ n. n < many) (with_key keys k)
places_low keys many k h = filter_below (λ n. nat_eq (key_at keys n) k) 0 (length keys) many (omega (arith, h))

pub bucket_is : (cs : List ℕ) (many i : ℕ) (buckets : List (List ℕ)) (x : List ℕ) → buckets ≡ map (with_key cs) (range_with_len 0 many) → i < length buckets → x ≡ get_or buckets i x → x ≡ with_key cs i
bucket_is cs many i buckets x e low is =
    get_or_read buckets i x low is [] ∙ ap (λ (bs : List (List ℕ)). get_or bs i []) e
    ∙ get_or-map-range_with_len (with_key cs) 0 many i i [] (omega (arith, low, ap length e, length-map-range_with_len (with_key cs) 0 many)) (omega arith)
