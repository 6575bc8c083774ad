-- The tables of a shape say its parts.
use Rattle.std.specs.Prelude.{◌&&◌, nat_eq}
use Rattle.std.proofs.Common.{◌≡◌, ℕ, suc, ◌+◌, ◌-◌, ◌<◌, Bool, true, List, [], ◌∷◌, length, map, get_or, IsTrue, inl, inr, refl, sym, ap, ◌∙◌, arith, eqb-true, eq-eqb, ne_eqb}
use Rattle.std.specs.List.{filter, list_all, range_with_len, AllByRecursion}
use Rattle.std.proofs.lemmas.Bool.{cases_eq, cases_Bool, cond-true, cond-false}
use Rattle.std.proofs.lemmas.List.FromFn.{get_or-map-range_with_len, length-map-range_with_len}
use Rattle.basic_kinds.specs.Shapes.{is_within}
use Rattle.basic_kinds.specs.Sorts.{how_many, how_many_below}
use Rattle.basic_kinds.specs.ShapeParts.{label, has_row, has_column, part_at, part_names, part_rows, part_columns, local_part, local_crossing}
use Rattle.basic_kinds.proofs.Crossings.{any_at}
use Rattle.shape_parts.specs.declared.cut.Cut.{Cut}
use Rattle.shape_parts.specs.declared.cut.ShapePart.{ShapePart}
use Rattle.shape_parts.specs.Keys.{key_at, with_key, rank}
use Rattle.shape_parts.specs.Cut.{part_places, part_of}
use Rattle.shape_parts.specs.Mirror.Cuts.{is_name, number_of, many_parts, row_key, column_key, crossing_key, row_keys, column_keys, crossing_keys, local_by, part_by, IsCut}
use Rattle.shape_parts.proofs.Chosen.{IsChosen, any_kept, any_member, any_weaker, chosen_at, filter_below, filter_places, filter_same, how_many_same, map_chosen, place_at}
use Rattle.shape_parts.proofs.Filled.{filter_long}
use Rattle.shape_parts.proofs.Keyed.{by_place, map_same}
use Rattle.shape_parts.proofs.Labelled.{label_low, labels_agree}
use Rattle.shape_parts.proofs.Links.{within_at}

-- a fact of all items, by their places
all_from : {A : Type 0} (P : A → Type 0) (d : A) (xs : List A) → ((n : ℕ) → n < length xs → P (get_or xs n d)) → AllByRecursion P xs
all_from P d [] h = tt
all_from P d (x ∷ xs) h = (h 0 (omega arith), all_from P d xs (λ n low. h (suc n) (omega arith)))

-- the numbers with a key, where the keys are those of a function on a range
keyed : (f : ℕ → ℕ) (n k : ℕ) (test : ℕ → Bool) → ((x : ℕ) → x < n → nat_eq (f x) k ≡ test x) → with_key (map f (range_with_len 0 n)) k ≡ filter test (range_with_len 0 n)
keyed f n k test h =
    ap (λ (m : ℕ). filter (λ x. nat_eq (key_at (map f (range_with_len 0 n)) x) k) (range_with_len 0 m)) (length-map-range_with_len f 0 n)
    ∙ filter_same (λ x. nat_eq (key_at (map f (range_with_len 0 n)) x) k) test 0 n
    (λ x low high. ap (λ (m : ℕ). nat_eq m k) (get_or-map-range_with_len f 0 n x x 0 (omega arith) (omega arith)) ∙ h x (omega arith))

ranked : (f : ℕ → ℕ) (n k : ℕ) (test : ℕ → Bool) (x : ℕ) → ((y : ℕ) → y < n → nat_eq (f y) k ≡ test y) → x < n → f x ≡ k → rank (map f (range_with_len 0 n)) x ≡ how_many_below x test
ranked f n k test x h low e =
    how_many_same (λ m. nat_eq (key_at (map f (range_with_len 0 n)) m) (key_at (map f (range_with_len 0 n)) x)) test 0 x
    (λ y above below. ap (λ (m : ℕ). nat_eq m (key_at (map f (range_with_len 0 n)) x)) (get_or-map-range_with_len f 0 n y y 0 (omega arith) (omega arith))
    ∙ ap (λ (m : ℕ). nat_eq (f y) m) (get_or-map-range_with_len f 0 n x x 0 low (omega arith) ∙ e) ∙ h y (omega arith))

same_part : {n m : ℕ} {rs ts cs ds ps qs : List ℕ} {xs ys : List (ℕ × ℕ)} → n ≡ m → rs ≡ ts → cs ≡ ds → ps ≡ qs → xs ≡ ys
    → ◌≡◌ {A = ShapePart} (record { name = n; rows = rs; columns = cs; places = ps; cross = xs }) (record { name = m; rows = ts; columns = ds; places = qs; cross = ys })
same_part a b c d e = λ i. record { name = a i; rows = b i; columns = c i; places = d i; cross = e i }

module _ (rows cols : ℕ) (cross : List (ℕ × ℕ)) (within : IsTrue (list_all (is_within rows cols) cross)) where
  abbrev names : List ℕ
  names = part_names rows cross

  abbrev name_at : ℕ → ℕ
  name_at k = get_or names k 0

  pub names_long : length names ≡ many_parts rows cross
  names_long = filter_long (is_name rows cross) (range_with_len 0 rows)

  chosen : (k : ℕ) → k < many_parts rows cross → IsChosen (is_name rows cross) 0 rows k (name_at k)
  chosen k low = chosen_at (is_name rows cross) 0 rows k (omega (arith, low, names_long))

  numbered : (k : ℕ) → k < many_parts rows cross → number_of rows cross (name_at k) ≡ k
  numbered k low =
      let e : name_at k ≡ name_at k - 0 = omega arith in
      ap (λ (m : ℕ). how_many (is_name rows cross) (range_with_len 0 m)) e ∙ (chosen k low).before

  -- the number of a part is k exactly where its name is the k-th
  is_number : (m k : ℕ) → m < rows → is_name rows cross m ≡ true → k < many_parts rows cross → nat_eq (number_of rows cross m) k ≡ nat_eq m (name_at k)
  is_number m k low t inside = elim (cases_eq m (name_at k)) [
    | inl e ↦ eq-eqb (number_of rows cross m) k (ap (number_of rows cross) e ∙ numbered k inside) ∙ sym (eq-eqb m (name_at k) e)
    | inr d ↦ ne_eqb (number_of rows cross m) k (λ e. d (sym (place m low t) ∙ ap name_at e)) ∙ sym (ne_eqb m (name_at k) d)
  ]
    where
      place : (m : ℕ) → m < rows → is_name rows cross m ≡ true → name_at (number_of rows cross m) ≡ m
      place m low t =
          let e : m ≡ 0 + m = omega arith in
          (place_at (is_name rows cross) 0 m rows low (ap (is_name rows cross) (sym e) ∙ t)).1 ∙ sym e

  -- ---- rows, columns and crossings of a part

  pub row_named : (r : ℕ) → has_row cross r ≡ true → is_name rows cross (label rows cross r) ≡ true
  row_named r h = any_weaker (λ p. nat_eq p.0 r) (λ p. nat_eq (label rows cross p.0) (label rows cross r)) cross
      (λ p e. eq-eqb (label rows cross p.0) (label rows cross r) (ap (label rows cross) (eqb-true p.0 r e))) h

  row_kept : (i r : ℕ) → has_row (part_at rows cross i) r ≡ (has_row cross r && nat_eq (label rows cross r) i)
  row_kept i r = any_kept (λ p. nat_eq p.0 r) (λ p. nat_eq (label rows cross p.0) i) (nat_eq (label rows cross r) i) cross
      (all_from (λ p. nat_eq p.0 r ≡ true → nat_eq (label rows cross p.0) i ≡ nat_eq (label rows cross r) i) (0, 0) cross
      (λ n low e. ap (λ (v : ℕ). nat_eq (label rows cross v) i) (eqb-true (get_or cross n (0, 0)).0 r e)))

  column_kept : (i c : ℕ) → has_column (part_at rows cross i) c ≡ (has_column cross c && nat_eq (label rows cross (rows + c)) i)
  column_kept i c = any_kept (λ p. nat_eq p.1 c) (λ p. nat_eq (label rows cross p.0) i) (nat_eq (label rows cross (rows + c)) i) cross
      (all_from (λ p. nat_eq p.1 c ≡ true → nat_eq (label rows cross p.0) i ≡ nat_eq (label rows cross (rows + c)) i) (0, 0) cross
      (λ n low e. ap (λ (v : ℕ). nat_eq v i) (labels_agree rows cross n low ∙ ap (λ (v : ℕ). label rows cross (rows + v)) (eqb-true (get_or cross n (0, 0)).1 c e))))

  row_in : (k r : ℕ) → k < many_parts rows cross → r < rows → nat_eq (row_key rows cross r) k ≡ has_row (part_at rows cross (name_at k)) r
  row_in k r inside low = elim (cases_Bool (has_row cross r)) [
    | inl h ↦
        ap (λ (v : ℕ). nat_eq v k) (cond-true (has_row cross r) (number_of rows cross (label rows cross r)) (many_parts rows cross) h)
        ∙ is_number (label rows cross r) k (omega (arith, label_low rows cross r)) (row_named r h) inside
        ∙ sym (row_kept (name_at k) r ∙ ap (λ (b : Bool). b && nat_eq (label rows cross r) (name_at k)) h)
    | inr h ↦
        ap (λ (v : ℕ). nat_eq v k) (cond-false (has_row cross r) (number_of rows cross (label rows cross r)) (many_parts rows cross) h)
        ∙ ne_eqb (many_parts rows cross) k (λ e. omega (arith, e, inside)) ∙ sym (row_kept (name_at k) r ∙ ap (λ (b : Bool). b && nat_eq (label rows cross r) (name_at k)) h)
  ]

  column_in : (k c : ℕ) → k < many_parts rows cross → nat_eq (column_key rows cross c) k ≡ has_column (part_at rows cross (name_at k)) c
  column_in k c inside = elim (cases_Bool (has_column cross c)) [
    | inl h ↦
        let (n, low, e) = any_at (λ p. nat_eq p.1 c) cross h in
        let p : ℕ × ℕ = get_or cross n (0, 0) in
        let same : label rows cross p.0 ≡ label rows cross (rows + c) = labels_agree rows cross n low ∙ ap (λ (v : ℕ). label rows cross (rows + v)) (eqb-true p.1 c e) in
        let named : is_name rows cross (label rows cross p.0) ≡ true = row_named p.0 (any_member (λ q. nat_eq q.0 p.0) cross n (0, 0) low (eq-eqb p.0 p.0 refl)) in
        ap (λ (v : ℕ). nat_eq v k) (cond-true (has_column cross c) (number_of rows cross (label rows cross (rows + c))) (many_parts rows cross) h)
        ∙ is_number (label rows cross (rows + c)) k (omega (arith, label_low rows cross p.0, (within_at rows cols cross n within low).0, same)) (ap (is_name rows cross) (sym same) ∙ named) inside
        ∙ sym (column_kept (name_at k) c ∙ ap (λ (b : Bool). b && nat_eq (label rows cross (rows + c)) (name_at k)) h)
    | inr h ↦
        ap (λ (v : ℕ). nat_eq v k) (cond-false (has_column cross c) (number_of rows cross (label rows cross (rows + c))) (many_parts rows cross) h)
        ∙ ne_eqb (many_parts rows cross) k (λ e. omega (arith, e, inside)) ∙ sym (column_kept (name_at k) c ∙ ap (λ (b : Bool). b && nat_eq (label rows cross (rows + c)) (name_at k)) h)
  ]

  crossing_in : (k n : ℕ) → k < many_parts rows cross → n < length cross → nat_eq (crossing_key rows cross n) k ≡ nat_eq (label rows cross (get_or cross n (0, 0)).0) (name_at k)
  crossing_in k n inside low =
      let p : ℕ × ℕ = get_or cross n (0, 0) in
      let h : has_row cross p.0 ≡ true = any_member (λ q. nat_eq q.0 p.0) cross n (0, 0) low (eq-eqb p.0 p.0 refl) in
      row_in k p.0 inside (within_at rows cols cross n within low).0 ∙ row_kept (name_at k) p.0 ∙ ap (λ (b : Bool). b && nat_eq (label rows cross p.0) (name_at k)) h

  -- ---- the part with the number k

  module _ (t : Cut) (is : IsCut rows cols cross t) (k : ℕ) (inside : k < many_parts rows cross) where
    abbrev part : List (ℕ × ℕ)
    part = part_at rows cross (name_at k)

    rows_is : get_or t.rows.numbers.items k [] ≡ part_rows rows part
    rows_is = ap (λ (bs : List (List ℕ)). get_or bs k []) is.of_rows ∙ get_or-map-range_with_len (with_key (row_keys rows cross)) 0 (many_parts rows cross + 1) k k [] (omega arith) (omega arith)
        ∙ keyed (row_key rows cross) rows k (has_row part) (λ r low. row_in k r inside low)

    columns_is : get_or t.columns.numbers.items k [] ≡ part_columns cols part
    columns_is = ap (λ (bs : List (List ℕ)). get_or bs k []) is.of_columns ∙ get_or-map-range_with_len (with_key (column_keys rows cols cross)) 0 (many_parts rows cross + 1) k k [] (omega arith) (omega arith)
        ∙ keyed (column_key rows cross) cols k (has_column part) (λ c low. column_in k c inside)

    places_is : get_or t.crossings.numbers.items k [] ≡ part_places rows cross (name_at k)
    places_is = ap (λ (bs : List (List ℕ)). get_or bs k []) is.of_crossings ∙ get_or-map-range_with_len (with_key (crossing_keys rows cross)) 0 (many_parts rows cross + 1) k k [] (omega arith) (omega arith)
        ∙ keyed (crossing_key rows cross) (length cross) k (λ n. nat_eq (label rows cross (get_or cross n (0, 0)).0) (name_at k)) (λ n low. crossing_in k n inside low)

    row_rank : (r : ℕ) → r < rows → row_key rows cross r ≡ k → get_or t.rows.ranks.items r 0 ≡ how_many_below r (has_row part)
    row_rank r low e =
        ap (λ (ns : List ℕ). get_or ns r 0) is.row_ranks
        ∙ get_or-map-range_with_len (rank (row_keys rows cross)) 0 (length (row_keys rows cross)) r r 0 (omega (arith, length-map-range_with_len (row_key rows cross) 0 rows, low)) (omega arith)
        ∙ ranked (row_key rows cross) rows k (has_row part) r (λ y b. row_in k y inside b) low e

    column_rank : (c : ℕ) → c < cols → column_key rows cross c ≡ k → get_or t.columns.ranks.items c 0 ≡ how_many_below c (has_column part)
    column_rank c low e =
        ap (λ (ns : List ℕ). get_or ns c 0) is.column_ranks
        ∙ get_or-map-range_with_len (rank (column_keys rows cols cross)) 0 (length (column_keys rows cols cross)) c c 0 (omega (arith, length-map-range_with_len (column_key rows cross) 0 cols, low)) (omega arith)
        ∙ ranked (column_key rows cross) cols k (has_column part) c (λ y b. column_in k y inside) low e

    local_is : (n : ℕ) → n < length cross → nat_eq (label rows cross (get_or cross n (0, 0)).0) (name_at k) ≡ true → local_by t cross n ≡ local_crossing part (get_or cross n (0, 0))
    local_is n low e =
        let p : ℕ × ℕ = get_or cross n (0, 0) in
        let key : crossing_key rows cross n ≡ k = eqb-true (crossing_key rows cross n) k (crossing_in k n inside low ∙ e) in
        let has : nat_eq (column_key rows cross p.1) k ≡ true =
        column_in k p.1 inside ∙ column_kept (name_at k) p.1
        ∙ ap (λ (b : Bool). b && nat_eq (label rows cross (rows + p.1)) (name_at k)) (any_member (λ q. nat_eq q.1 p.1) cross n (0, 0) low (eq-eqb p.1 p.1 refl))
        ∙ ap (λ (v : ℕ). nat_eq v (name_at k)) (sym (labels_agree rows cross n low)) ∙ e in
        let (a, b) = within_at rows cols cross n within low in
        let x = row_rank p.0 a key in
        let y = column_rank p.1 b (eqb-true (column_key rows cross p.1) k has) in
        λ i. (x i, y i)

    cross_is : map (local_by t cross) (part_places rows cross (name_at k)) ≡ local_part part
    cross_is =
        map_chosen (λ n. nat_eq (label rows cross (get_or cross n (0, 0)).0) (name_at k)) (local_by t cross) (λ n. local_crossing part (get_or cross n (0, 0))) 0 (length cross)
        (λ n low e. local_is n (omega arith) e)
        ∙ sym (both (part_places rows cross (name_at k)))
        ∙ ap (map (local_crossing part)) (sym (filter_places (λ p. nat_eq (label rows cross p.0) (name_at k)) (λ n. get_or cross n (0, 0)) (0, 0) 0 cross at))
      where
        at : (j : ℕ) → j < length cross → get_or cross (0 + j) (0, 0) ≡ get_or cross j (0, 0)
        at j low = let e : 0 + j ≡ j = omega arith in ap (λ (m : ℕ). get_or cross m (0, 0)) e

        both : (ns : List ℕ) → map (local_crossing part) (map (λ n. get_or cross n (0, 0)) ns) ≡ map (λ n. local_crossing part (get_or cross n (0, 0))) ns
        both [] = refl
        both (n ∷ ns) = ap (λ ps. local_crossing part (get_or cross n (0, 0)) ∷ ps) (both ns)

    pub part_is : part_by t cross k ≡ part_of rows cols cross (name_at k)
    part_is = same_part (ap (λ (ns : List ℕ). get_or ns k 0) is.of_names) rows_is columns_is places_is (ap (map (local_by t cross)) places_is ∙ cross_is)

    pub places_low : AllByRecursion (λ n. n < length cross) (get_or t.crossings.numbers.items k [])
    places_low = rw places_is (filter_below (λ n. nat_eq (label rows cross (get_or cross n (0, 0)).0) (name_at k)) 0 (length cross) (length cross) (omega arith))

  -- ---- all parts

  module _ (t : Cut) (is : IsCut rows cols cross t) where
    pub names_count : length t.names.items ≡ many_parts rows cross
    names_count = ap length is.of_names ∙ names_long

    pub parts_are : map (part_by t cross) (range_with_len 0 (length t.names.items)) ≡ map (part_of rows cols cross) (part_names rows cross)
    parts_are =
        ap (λ (n : ℕ). map (part_by t cross) (range_with_len 0 n)) names_count
        ∙ map_same (part_by t cross) (λ k. part_of rows cols cross (name_at k)) 0 (many_parts rows cross) (λ k a low. part_is t is k (omega arith))
        ∙ ap (λ (n : ℕ). map (λ k. part_of rows cols cross (name_at k)) (range_with_len 0 n)) (sym names_long)
        ∙ sym (by_place (part_of rows cols cross) 0 0 name_at (part_names rows cross) (λ j low. let z : 0 + j ≡ j = omega arith in ap name_at z))

    pub ranks_rows : AllByRecursion (λ p. p.0 < length t.rows.ranks.items) cross
    ranks_rows = all_from (λ p. p.0 < length t.rows.ranks.items) (0, 0) cross
        (λ n low. omega (
          arith,
          (within_at rows cols cross n within low).0,
          ap length is.row_ranks,
          length-map-range_with_len (rank (row_keys rows cross)) 0 (length (row_keys rows cross)),
          length-map-range_with_len (row_key rows cross) 0 rows,
        ))

    pub ranks_columns : AllByRecursion (λ p. p.1 < length t.columns.ranks.items) cross
    ranks_columns = all_from (λ p. p.1 < length t.columns.ranks.items) (0, 0) cross
        (λ n low. omega (
          arith,
          (within_at rows cols cross n within low).1,
          ap length is.column_ranks,
          length-map-range_with_len (rank (column_keys rows cols cross)) 0 (length (column_keys rows cols cross)),
          length-map-range_with_len (column_key rows cross) 0 cols,
        ))
