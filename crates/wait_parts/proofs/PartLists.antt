-- The rows, the columns and the crossings of each part of a shape.
use Rattle.std.specs.Prelude.{◌&&◌, nat_eq}
use Rattle.std.proofs.Common.{◌≡◌, inl, inr, ℕ, zero, suc, ◌+◌, ◌<◌, ◌≤◌, Bool, true, false, true≢false, cond, List, [], ◌∷◌, length, map, get_or, refl, sym, ap, ◌∙◌, arith, eq-eqb, eqb-true}
use Rattle.std.specs.List.{filter, list_all, list_any, range_with_len, AllByRecursion}
use Rattle.std.proofs.lemmas.Bool.{and_parts, cases_lt}
use Rattle.std.proofs.lemmas.List.{length-map}
use Rattle.basic_kinds.specs.declared.shape.Shape.{Shape}
use Rattle.basic_kinds.specs.Shapes.{is_before, is_rising, IsShape}
use Rattle.basic_kinds.specs.Sorts.{how_many_below}
use Rattle.basic_kinds.specs.ShapeParts.{label, has_row, has_column, part_at, part_names, part_rows, part_columns, local_part}
use Rattle.basic_kinds.proofs.Crossings.{any_at}
use Rattle.shape_parts.specs.Cut.{part_places}
use Rattle.shape_parts.proofs.Chosen.{any_kept, any_member, filter_places, place_at}
use Rattle.shape_parts.proofs.Labelled.{label_low, labels_agree}
use Rattle.shape_parts.proofs.Links.{within_at}
use Rattle.net_laws.proofs.Among.{Among, Distinct}
use Rattle.wait_sums.proofs.ConnectedParts.{part_within}
use Rattle.wait_sums.proofs.OwnShape.{own_shape}
use Rattle.wait_parts.proofs.WaitRule.{row_at, column_at}

-- ---- numbers of a range that pass a test

range_low : (a n x : ℕ) → Among x (range_with_len a n) → (a ≤ x) × (x < a + n)
range_low a zero x h = absurd h
range_low a (suc n) x (inl e) = (omega arith, omega arith)
range_low a (suc n) x (inr h) = let (low, high) = range_low (a + 1) n x h in (omega arith, omega arith)

range_among : (a n x : ℕ) → a ≤ x → x < a + n → Among x (range_with_len a n)
range_among a zero x low high = absurd (omega arith)
range_among a (suc n) x low high = elim (cases_lt a x) [ inl less ↦ inr (range_among (a + 1) n x (omega arith) (omega arith)) | inr more ↦ inl (omega arith) ]

pub filter_among : {A : Type 0} (test : A → Bool) (xs : List A) (x : A) → Among x xs → test x ≡ true → Among x (filter test xs)
filter_among test [] x h t = absurd h
filter_among test (y ∷ xs) x h t = by (test y) refl h (filter_among test xs x)
  where
    by : (b : Bool) → test y ≡ b → Among x (y ∷ xs) → (Among x xs → test x ≡ true → Among x (filter test xs)) → Among x (cond b (y ∷ filter test xs) (filter test xs))
    by true e (inl is) rest = inl is
    by true e (inr a) rest = inr (rest a t)
    by false e (inl is) rest = absurd (true≢false (sym t ∙ ap test is ∙ e))
    by false e (inr a) rest = rest a t

pub among_filter : {A : Type 0} (test : A → Bool) (xs : List A) (x : A) → Among x (filter test xs) → Among x xs × (test x ≡ true)
among_filter test [] x h = absurd h
among_filter test (y ∷ xs) x h = by (test y) refl h (among_filter test xs x)
  where
    by : (b : Bool) → test y ≡ b → Among x (cond b (y ∷ filter test xs) (filter test xs)) → (Among x (filter test xs) → Among x xs × (test x ≡ true)) → Among x (y ∷ xs) × (test x ≡ true)
    by true e (inl is) rest = (inl is, ap test is ∙ e)
    by true e (inr a) rest = let (b, t) = rest a in (inr b, t)
    by false e a rest = let (b, t) = rest a in (inr b, t)

pub filter_distinct : {A : Type 0} (test : A → Bool) (xs : List A) → Distinct xs → Distinct (filter test xs)
filter_distinct test [] d = tt
filter_distinct test (x ∷ xs) d = by (test x) (filter_distinct test xs d.1)
  where
    by : (b : Bool) → Distinct (filter test xs) → Distinct (cond b (x ∷ filter test xs) (filter test xs))
    by true rest = ((λ a. d.0 (among_filter test xs x a).0), rest)
    by false rest = rest

pub range_distinct : (a n : ℕ) → Distinct (range_with_len a n)
range_distinct a zero = tt
range_distinct a (suc n) = ((λ h. let (low, high) = range_low (a + 1) n a h in omega arith), range_distinct (a + 1) n)

pub in_range : (n x : ℕ) → x < n → Among x (range_with_len 0 n)
in_range n x low = range_among 0 n x (omega arith) (omega arith)

pub range_in : (n x : ℕ) → Among x (range_with_len 0 n) → x < n
range_in n x a = omega (arith, (range_low 0 n x a).1)

pub chosen_among : (test : ℕ → Bool) (n x : ℕ) → x < n → test x ≡ true → Among x (filter test (range_with_len 0 n))
chosen_among test n x low t = filter_among test (range_with_len 0 n) x (range_among 0 n x (omega arith) (omega arith)) t

pub among_chosen : (test : ℕ → Bool) (n x : ℕ) → Among x (filter test (range_with_len 0 n)) → (x < n) × (test x ≡ true)
among_chosen test n x h = let (a, t) = among_filter test (range_with_len 0 n) x h in (omega (arith, (range_low 0 n x a).1), t)

pub chosen_distinct : (test : ℕ → Bool) (n : ℕ) → Distinct (filter test (range_with_len 0 n))
chosen_distinct test n = filter_distinct test (range_with_len 0 n) (range_distinct 0 n)

-- ---- what is kept of a rising list rises

both_true : (a b : Bool) → a ≡ true → b ≡ true → (a && b) ≡ true
both_true a b e f = ap (λ (x : Bool). x && b) e ∙ f

all_kept : {A : Type 0} (q test : A → Bool) (xs : List A) → list_all q xs ≡ true → list_all q (filter test xs) ≡ true
all_kept q test [] h = refl
all_kept q test (x ∷ xs) h =
    let (here, rest) = and_parts (q x) (list_all q xs) h in by (test x) here (all_kept q test xs rest)
  where
    by : (b : Bool) → q x ≡ true → list_all q (filter test xs) ≡ true → list_all q (cond b (x ∷ filter test xs) (filter test xs)) ≡ true
    by true e r = both_true (q x) (list_all q (filter test xs)) e r
    by false e r = r

rising_kept : (test : ℕ × ℕ → Bool) (ps : List (ℕ × ℕ)) → is_rising ps ≡ true → is_rising (filter test ps) ≡ true
rising_kept test [] h = refl
rising_kept test (p ∷ ps) h =
    let (here, rest) = and_parts (list_all (is_before p) ps) (is_rising ps) h in by (test p) (all_kept (is_before p) test ps here) (rising_kept test ps rest)
  where
    by : (b : Bool) → list_all (is_before p) (filter test ps) ≡ true → is_rising (filter test ps) ≡ true → is_rising (cond b (p ∷ filter test ps) (filter test ps)) ≡ true
    by true e r = both_true (list_all (is_before p) (filter test ps)) (is_rising (filter test ps)) e r
    by false e r = r

-- ---- the parts of a shape

all_from : {A : Type 0} (P : A → Type 0) (d : A) (xs : List A) → ((n : ℕ) → n < length xs → P (get_or xs n d)) → AllByRecursion P xs
all_from P d [] h = tt
all_from P d (x ∷ xs) h = (h 0 (omega arith), all_from P d xs (λ n low. h (suc n) (omega arith)))

and_false : (a b : Bool) → (a && b) ≡ true → b ≡ true
and_false true b e = e
and_false false b e = absurd (true≢false (sym e))

module _ (s : Shape) where
  abbrev pub cross : List (ℕ × ℕ)
  cross = s.cross

  abbrev pub many : ℕ
  many = length s.cross

  abbrev pub names : List ℕ
  names = part_names s.rows s.cross

  abbrev pub part : ℕ → List (ℕ × ℕ)
  part i = part_at s.rows s.cross i

  abbrev pub rows_of : ℕ → List ℕ
  rows_of i = part_rows s.rows (part_at s.rows s.cross i)

  abbrev pub columns_of : ℕ → List ℕ
  columns_of i = part_columns s.cols (part_at s.rows s.cross i)

  abbrev pub places_of : ℕ → List ℕ
  places_of i = part_places s.rows s.cross i

  -- the part of a row, of a column and of a crossing
  abbrev pub of_row_line : ℕ → ℕ
  of_row_line r = label s.rows s.cross r

  abbrev pub of_column_line : ℕ → ℕ
  of_column_line c = label s.rows s.cross (s.rows + c)

  abbrev pub of_place : ℕ → ℕ
  of_place x = label s.rows s.cross (row_at s.cross x)

  pub place_row : (x : ℕ) → x < length s.cross → row_at s.cross x < s.rows
  place_row x low = (within_at s.rows s.cols s.cross x s.whole.within low).0

  pub place_column : (x : ℕ) → x < length s.cross → column_at s.cross x < s.cols
  place_column x low = (within_at s.rows s.cols s.cross x s.whole.within low).1

  pub place_agrees : (x : ℕ) → x < length s.cross → of_place x ≡ of_column_line (column_at s.cross x)
  place_agrees x low = labels_agree s.rows s.cross x low

  row_kept : (i r : ℕ) → has_row (part i) r ≡ (has_row s.cross r && nat_eq (of_row_line r) i)
  row_kept i r = any_kept (λ p. nat_eq p.0 r) (λ p. nat_eq (label s.rows s.cross p.0) i) (nat_eq (of_row_line r) i) s.cross
      (all_from (λ p. nat_eq p.0 r ≡ true → nat_eq (label s.rows s.cross p.0) i ≡ nat_eq (of_row_line r) i) (0, 0) s.cross
      (λ n low e. ap (λ (v : ℕ). nat_eq (label s.rows s.cross v) i) (eqb-true (get_or s.cross n (0, 0)).0 r e)))

  column_kept : (i c : ℕ) → has_column (part i) c ≡ (has_column s.cross c && nat_eq (of_column_line c) i)
  column_kept i c = any_kept (λ p. nat_eq p.1 c) (λ p. nat_eq (label s.rows s.cross p.0) i) (nat_eq (of_column_line c) i) s.cross
      (all_from (λ p. nat_eq p.1 c ≡ true → nat_eq (label s.rows s.cross p.0) i ≡ nat_eq (of_column_line c) i) (0, 0) s.cross
      (λ n low e. ap (λ (v : ℕ). nat_eq v i) (labels_agree s.rows s.cross n low ∙ ap (λ (v : ℕ). label s.rows s.cross (s.rows + v)) (eqb-true (get_or s.cross n (0, 0)).1 c e))))

  -- ---- members

  pub row_in : (i r : ℕ) → Among r (rows_of i) → (r < s.rows) × (of_row_line r ≡ i)
  row_in i r a =
      let (low, h) = among_chosen (has_row (part i)) s.rows r a in
      (low, eqb-true (of_row_line r) i (and_false (has_row s.cross r) (nat_eq (of_row_line r) i) (sym (row_kept i r) ∙ h)))

  pub in_rows : (i r : ℕ) → r < s.rows → of_row_line r ≡ i → Among r (rows_of i)
  in_rows i r low e = chosen_among (has_row (part i)) s.rows r low (row_kept i r ∙ both_true (has_row s.cross r) (nat_eq (of_row_line r) i) (s.whole.each_row r low) (eq-eqb (of_row_line r) i e))

  pub column_in : (i c : ℕ) → Among c (columns_of i) → (c < s.cols) × (of_column_line c ≡ i)
  column_in i c a =
      let (low, h) = among_chosen (has_column (part i)) s.cols c a in
      (low, eqb-true (of_column_line c) i (and_false (has_column s.cross c) (nat_eq (of_column_line c) i) (sym (column_kept i c) ∙ h)))

  pub in_columns : (i c : ℕ) → c < s.cols → of_column_line c ≡ i → Among c (columns_of i)
  in_columns i c low e =
      chosen_among (has_column (part i)) s.cols c low (column_kept i c ∙ both_true (has_column s.cross c) (nat_eq (of_column_line c) i) (s.whole.each_column c low) (eq-eqb (of_column_line c) i e))

  pub place_in : (i x : ℕ) → Among x (places_of i) → (x < many) × (of_place x ≡ i)
  place_in i x a =
      let (low, h) = among_chosen (λ n. nat_eq (label s.rows s.cross (get_or s.cross n (0, 0)).0) i) many x a in (low, eqb-true (of_place x) i h)

  pub in_places : (i x : ℕ) → x < many → of_place x ≡ i → Among x (places_of i)
  in_places i x low e = chosen_among (λ n. nat_eq (label s.rows s.cross (get_or s.cross n (0, 0)).0) i) many x low (eq-eqb (of_place x) i e)

  pub rows_once : (i : ℕ) → Distinct (rows_of i)
  rows_once i = chosen_distinct (has_row (part i)) s.rows

  pub columns_once : (i : ℕ) → Distinct (columns_of i)
  columns_once i = chosen_distinct (has_column (part i)) s.cols

  pub places_once : (i : ℕ) → Distinct (places_of i)
  places_once i = chosen_distinct (λ n. nat_eq (label s.rows s.cross (get_or s.cross n (0, 0)).0) i) many

  pub names_once : Distinct names
  names_once = chosen_distinct (λ i. list_any (λ p. nat_eq (label s.rows s.cross p.0) i) s.cross) s.rows

  -- a name is that of a crossing, and that of a crossing is a name
  pub name_in : (i : ℕ) → Among i names → (x : ℕ) × (x < many) × (of_place x ≡ i)
  name_in i a =
      let (low, h) = among_chosen (λ i. list_any (λ p. nat_eq (label s.rows s.cross p.0) i) s.cross) s.rows i a in
      let (x, inside, e) = any_at (λ p. nat_eq (label s.rows s.cross p.0) i) s.cross h in
      (x, inside, eqb-true (of_place x) i e)

  pub in_names : (x : ℕ) → x < many → Among (of_place x) names
  in_names x low =
      chosen_among (λ i. list_any (λ p. nat_eq (label s.rows s.cross p.0) i) s.cross) s.rows (of_place x) (omega (arith, label_low s.rows s.cross (row_at s.cross x), place_row x low))
      (any_member (λ p. nat_eq (label s.rows s.cross p.0) (of_place x)) s.cross x (0, 0) low (eq-eqb (of_place x) (of_place x) refl))

  -- each line has a crossing
  pub row_place : (r : ℕ) → r < s.rows → (x : ℕ) × (x < many) × (row_at s.cross x ≡ r)
  row_place r low = let (x, inside, e) = any_at (λ p. nat_eq p.0 r) s.cross (s.whole.each_row r low) in (x, inside, eqb-true (row_at s.cross x) r e)

  pub column_place : (c : ℕ) → c < s.cols → (x : ℕ) × (x < many) × (column_at s.cross x ≡ c)
  column_place c low = let (x, inside, e) = any_at (λ p. nat_eq p.1 c) s.cross (s.whole.each_column c low) in (x, inside, eqb-true (column_at s.cross x) c e)

  -- ---- a part as a list of crossings

  pub part_listed : (i : ℕ) → part i ≡ map (λ n. get_or s.cross n (0, 0)) (places_of i)
  part_listed i = filter_places (λ p. nat_eq (label s.rows s.cross p.0) i) (λ n. get_or s.cross n (0, 0)) (0, 0) 0 s.cross
      (λ j low. let e : 0 + j ≡ j = omega arith in ap (λ (m : ℕ). get_or s.cross m (0, 0)) e)

  pub as_many : (i : ℕ) → length (part i) ≡ length (places_of i)
  as_many i = ap length (part_listed i) ∙ length-map (places_of i) (λ n. get_or s.cross n (0, 0))

  pub part_shape : (i : ℕ) → 0 < length (part i) → IsShape (length (rows_of i)) (length (columns_of i)) (local_part (part i))
  part_shape i some =
      own_shape s.rows s.cols (part i) (part_within s.rows s.cols s.cross s.whole.within i) (rising_kept (λ p. nat_eq (label s.rows s.cross p.0) i) s.cross s.whole.rising) some

  -- a crossing of a part has its row and its column among those of the part, at the places that its local numbers say
  pub row_numbered : (i r : ℕ) → Among r (rows_of i)
      → (how_many_below r (has_row (part i)) < length (rows_of i)) × (get_or (rows_of i) (how_many_below r (has_row (part i))) 0 ≡ r)
  row_numbered i r a =
      let (low, h) = among_chosen (has_row (part i)) s.rows r a in
      let e : 0 + r ≡ r = omega arith in
      let (inside, at) = place_at (has_row (part i)) 0 r s.rows low (ap (has_row (part i)) e ∙ h) in
      (inside, at ∙ e)

  pub column_numbered : (i c : ℕ) → Among c (columns_of i)
      → (how_many_below c (has_column (part i)) < length (columns_of i)) × (get_or (columns_of i) (how_many_below c (has_column (part i))) 0 ≡ c)
  column_numbered i c a =
      let (low, h) = among_chosen (has_column (part i)) s.cols c a in
      let e : 0 + c ≡ c = omega arith in
      let (inside, at) = place_at (has_column (part i)) 0 c s.cols low (ap (has_column (part i)) e ∙ h) in
      (inside, at ∙ e)
