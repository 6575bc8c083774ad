-- The parts of a shape are connected: by its own rows and columns a part is in one part.
use Rattle.std.proofs.Common.{◌≡◌, ◌⊎◌, inl, inr, ℕ, zero, suc, ◌+◌, ◌-◌, ◌<◌, ◌≤◌, Bool, true, false, true≢false, filter, cond, nat_eq, nat_lt, IsTrue, List, [], ◌∷◌, length, map, refl, sym, ap, ◌∙◌, subst, arith, if◌then◌else◌, eq-eqb, ne_eqb, eqb-true, lt-ltb, le-ltb}
use Rattle.std.specs.Prelude.{◌&&◌, ◌||◌}
use Rattle.std.specs.List.{list_all, list_any, range_with_len}
use Rattle.std.proofs.lemmas.Bool.{cases_eq, cases_lt, cases_Bool}
use Rattle.basic_kinds.specs.Shapes.{is_within}
use Rattle.basic_kinds.specs.ShapeParts.{label, lesser, merged, part_at, part_names, part_rows, part_columns, has_row, has_column, local_part, local_crossing}
use Rattle.basic_kinds.specs.Sorts.{how_many, how_many_below}
use Rattle.net_laws.proofs.Among.{Among}
use Rattle.plain_split.proofs.SharedLists.{among_filter, filter_among}
use Rattle.plain_split.proofs.OneWaitDrawn.{and_both}
use Rattle.plain_split.proofs.OneWaitWritten.{filter_same}
use Rattle.net_layers.proofs.WaitParts.{all_of, any_of}
use Rattle.shape_parts.proofs.Filled.{filter_long, count_more}
use Rattle.shape_parts.proofs.Labelled.{label_low}
use Rattle.shape_parts.proofs.Links.{merged_in, merged_out, merged_same}

-- ---- tests of lists

any_found : {A : Type 0} (q : A → Bool) (xs : List A) → list_any q xs ≡ true → (x : A) × Among x xs × (q x ≡ true)
any_found q [] h = absurd (true≢false (sym h))
any_found {A = A} q (y ∷ xs) h = by (q y) refl h (any_found q xs)
  where
    by : (b : Bool) → q y ≡ b → (b || list_any q xs) ≡ true → (list_any q xs ≡ true → (x : A) × Among x xs × (q x ≡ true)) → (x : A) × Among x (y ∷ xs) × (q x ≡ true)
    by true e z rest = (y, inl refl, e)
    by false e z rest = let (x, a, t) = rest z in (x, inr a, t)

-- where all give the same number, some give it exactly where it is this one
any_same : {A : Type 0} (f : A → ℕ) (n j : ℕ) (xs : List A) → 0 < length xs → ((x : A) → Among x xs → f x ≡ n) → list_any (λ x. nat_eq (f x) j) xs ≡ nat_eq n j
any_same f n j [] some h = absurd (omega arith)
any_same f n j (x ∷ []) some h = ap (λ m. nat_eq m j || false) (h x (inl refl)) ∙ or_false (nat_eq n j)
  where
    or_false : (b : Bool) → (b || false) ≡ b
    or_false true = refl
    or_false false = refl
any_same f n j (x ∷ y ∷ xs) some h =
    ap (λ m. nat_eq m j || list_any (λ x. nat_eq (f x) j) (y ∷ xs)) (h x (inl refl))
    ∙ ap (λ b. nat_eq n j || b) (any_same f n j (y ∷ xs) (omega arith) (λ z a. h z (inr a))) ∙ or_self (nat_eq n j)
  where
    or_self : (b : Bool) → (b || b) ≡ b
    or_self true = refl
    or_self false = refl

one_number : (n a k : ℕ) → n < a + k → (n < a → length (filter (λ j. nat_eq n j) (range_with_len a k)) ≡ 0) × (a < suc n → length (filter (λ j. nat_eq n j) (range_with_len a k)) ≡ 1)
one_number n a zero h = ((λ less. refl), (λ more. absurd (omega arith)))
one_number n a (suc k) h =
    let (before, after) = one_number n (a + 1) k (omega arith) in (
      (λ less. by (nat_eq n a) (ne_eqb n a (λ e. omega arith)) (before (omega arith))),
      (λ more. elim (cases_eq n a) [
        | inl e ↦ here (nat_eq n a) (eq-eqb n a e) (before (omega arith))
        | inr e ↦ by (nat_eq n a) (ne_eqb n a e) (after (omega arith))
      ]),
    )
  where
    by : {m : ℕ} (b : Bool) → b ≡ false → length (filter (λ j. nat_eq n j) (range_with_len (a + 1) k)) ≡ m
        → length (cond b (a ∷ filter (λ j. nat_eq n j) (range_with_len (a + 1) k)) (filter (λ j. nat_eq n j) (range_with_len (a + 1) k))) ≡ m
    by true e z = absurd (true≢false e)
    by false e z = z

    here : (b : Bool) → b ≡ true → length (filter (λ j. nat_eq n j) (range_with_len (a + 1) k)) ≡ 0
        → length (cond b (a ∷ filter (λ j. nat_eq n j) (range_with_len (a + 1) k)) (filter (λ j. nat_eq n j) (range_with_len (a + 1) k))) ≡ 1
    here true e z = omega (arith, z)
    here false e z = absurd (true≢false (sym e))

-- fewer pass before one that passes
fewer_before : (f : ℕ → Bool) (v n : ℕ) → v < n → f v ≡ true → how_many_below v f < how_many_below n f
fewer_before f v zero h t = absurd (omega arith)
fewer_before f v (suc n) h t =
    let more : how_many_below (suc n) f ≡ (if f n then how_many_below n f + 1 else how_many_below n f) = ap (λ m. how_many_below m f) (let e : suc n ≡ n + 1 = omega arith in e) ∙ count_more f n in
    elim (cases_eq v n) [
      | inl e ↦ omega (arith, ap (λ m. how_many_below m f) e, more ∙ ap (λ b. if b then how_many_below n f + 1 else how_many_below n f) (subst (λ m. f m ≡ true) e t))
      | inr e ↦ omega (arith, more, fewer_before f v n (omega arith) t, grows (f n))
    ]
  where
    grows : (b : Bool) → how_many_below n f ≤ (if b then how_many_below n f + 1 else how_many_below n f)
    grows true = omega arith
    grows false = omega arith

-- ---- labels

agree : (rows : ℕ) (cross : List (ℕ × ℕ)) (p : ℕ × ℕ) → Among p cross → label rows cross p.0 ≡ label rows cross (rows + p.1)
agree rows [] p a = absurd a
agree rows (q ∷ ps) p (inl e) = subst (λ (z : ℕ × ℕ). label rows (q ∷ ps) z.0 ≡ label rows (q ∷ ps) (rows + z.1)) (sym e)
    (merged_in (label rows ps) q.0 (rows + q.1) q.0 (inl refl) ∙ sym (merged_in (label rows ps) q.0 (rows + q.1) (rows + q.1) (inr refl)))
agree rows (q ∷ ps) p (inr a) = merged_same (label rows ps) q.0 (rows + q.1) p.0 (rows + p.1) (agree rows ps p a)

lesser_is : (P : ℕ → Bool) (a b : ℕ) (c : Bool) → P a ≡ c → P b ≡ c → P (lesser a b) ≡ c
lesser_is P a b c x y = by (nat_lt b a)
  where
    by : (t : Bool) → P (if t then b else a) ≡ c
    by true = y
    by false = x

closed_merge : (f : ℕ → ℕ) (set : ℕ → Bool) (a b : ℕ) → ((w : ℕ) → set (f w) ≡ set w) → set a ≡ set b → (v : ℕ) → set (merged f a b v) ≡ set v
closed_merge f set a b before here v = elim (cases_eq (f v) (f a)) [
  | inl e ↦ joined (inl e) (sym (before v) ∙ ap set e ∙ before a)
  | inr d ↦ elim (cases_eq (f v) (f b)) [
    | inl e ↦ joined (inr e) (sym (before v) ∙ ap set e ∙ before b ∙ sym here)
    | inr x ↦ ap set (merged_out f a b v d x) ∙ before v
  ]
]
  where
    joined : (f v ≡ f a) ⊎ (f v ≡ f b) → set v ≡ set a → set (merged f a b v) ≡ set v
    joined e same = ap set (merged_in f a b v e) ∙ lesser_is set (f a) (f b) (set v) (before a ∙ sym same) (before b ∙ sym here ∙ sym same)

-- a set of lines that has both lines of each crossing, or none, has the label of a line where it has the line
closed_label : (rows : ℕ) (set : ℕ → Bool) (cross : List (ℕ × ℕ)) → ((p : ℕ × ℕ) → Among p cross → set p.0 ≡ set (rows + p.1)) → (v : ℕ) → set (label rows cross v) ≡ set v
closed_label rows set [] h v = refl
closed_label rows set (p ∷ ps) h v = closed_merge (label rows ps) set p.0 (rows + p.1) (λ w. closed_label rows set ps (λ q a. h q (inr a)) w) (h p (inl refl)) v

-- ---- one part

module _ (rows cols : ℕ) (cross : List (ℕ × ℕ)) (within : IsTrue (list_all (is_within rows cols) cross)) (i : ℕ) where
  abbrev part : List (ℕ × ℕ)
  part = part_at rows cross i

  abbrev own_rows : ℕ
  own_rows = length (part_rows rows part)

  abbrev row_rank : ℕ → ℕ
  row_rank v = how_many_below v (has_row part)

  abbrev column_rank : ℕ → ℕ
  column_rank v = how_many_below v (has_column part)

  abbrev own : ℕ → ℕ
  own v = label own_rows (local_part part) v

  row_low : (p : ℕ × ℕ) → Among p cross → p.0 < rows
  row_low p a = elim (cases_lt p.0 rows) [
    | inl less ↦ less
    | inr past ↦ absurd (true≢false (sym (and_both (nat_lt p.0 rows) (nat_lt p.1 cols) (all_of (is_within rows cols) cross within p a)).0 ∙ le-ltb p.0 rows past))
  ]

  -- the lines of the part that have the label n by its own rows and columns
  abbrev set : ℕ → ℕ → Bool
  set n v = if nat_lt v rows then (has_row part v && nat_eq (own (row_rank v)) n) else (has_column part (v - rows) && nat_eq (own (own_rows + column_rank (v - rows))) n)

  in_part : (p : ℕ × ℕ) → Among p part → Among p cross × (label rows cross p.0 ≡ i)
  in_part p a = let (b, e) = filter_among (λ q. nat_eq (label rows cross q.0) i) cross p a in (b, eqb-true (label rows cross p.0) i e)

  set_row : (n v : ℕ) → v < rows → set n v ≡ (has_row part v && nat_eq (own (row_rank v)) n)
  set_row n v low = ap (λ b. if b then (has_row part v && nat_eq (own (row_rank v)) n) else (has_column part (v - rows) && nat_eq (own (own_rows + column_rank (v - rows))) n)) (lt-ltb v rows low)

  set_column : (n v : ℕ) → set n (rows + v) ≡ (has_column part v && nat_eq (own (own_rows + column_rank v)) n)
  set_column n v =
      ap (λ b. if b then (has_row part (rows + v) && nat_eq (own (row_rank (rows + v))) n) else (has_column part (rows + v - rows) && nat_eq (own (own_rows + column_rank (rows + v - rows))) n)) (le-ltb (rows + v) rows (omega arith))
      ∙ ap (λ u. has_column part u && nat_eq (own (own_rows + column_rank u)) n) (let e : rows + v - rows ≡ v = omega arith in e)

  among_local : (p : ℕ × ℕ) → Among p part → Among (local_crossing part p) (local_part part)
  among_local p a = by part a
    where
      by : (ps : List (ℕ × ℕ)) → Among p ps → Among (local_crossing part p) (map (local_crossing part) ps)
      by [] a = absurd a
      by (q ∷ ps) (inl e) = inl (ap (local_crossing part) e)
      by (q ∷ ps) (inr a) = inr (by ps a)

  local_among : (q : ℕ × ℕ) → Among q (local_part part) → (p : ℕ × ℕ) × Among p part × (q ≡ local_crossing part p)
  local_among q a = by part a
    where
      by : (ps : List (ℕ × ℕ)) → Among q (map (local_crossing part) ps) → (p : ℕ × ℕ) × Among p ps × (q ≡ local_crossing part p)
      by [] a = absurd a
      by (p ∷ ps) (inl e) = (p, inl refl, e)
      by (p ∷ ps) (inr a) = let (r, b, e) = by ps a in (r, inr b, e)

  has_own_row : (p : ℕ × ℕ) → Among p part → has_row part p.0 ≡ true
  has_own_row p a = any_of (λ q. nat_eq q.0 p.0) part p a (eq-eqb p.0 p.0 refl)

  has_own_column : (p : ℕ × ℕ) → Among p part → has_column part p.1 ≡ true
  has_own_column p a = any_of (λ q. nat_eq q.1 p.1) part p a (eq-eqb p.1 p.1 refl)

  set_closed : (n : ℕ) (p : ℕ × ℕ) → Among p cross → set n p.0 ≡ set n (rows + p.1)
  set_closed n p a = set_row n p.0 (row_low p a) ∙ by (nat_eq (label rows cross p.0) i) refl ∙ sym (set_column n p.1)
    where
      -- no crossing of the part has a line of one that is not in it
      other_row : nat_eq (label rows cross p.0) i ≡ false → (b : Bool) → has_row part p.0 ≡ b → b ≡ false
      other_row e true h =
          let (q, c, t) = any_found (λ q. nat_eq q.0 p.0) part h in
          absurd (true≢false (sym (eq-eqb (label rows cross p.0) i (ap (label rows cross) (sym (eqb-true q.0 p.0 t)) ∙ (in_part q c).1)) ∙ e))
      other_row e false h = refl

      other_column : nat_eq (label rows cross p.0) i ≡ false → (b : Bool) → has_column part p.1 ≡ b → b ≡ false
      other_column e true h =
          let (q, c, t) = any_found (λ q. nat_eq q.1 p.1) part h in
          let same : label rows cross p.0 ≡ i =
          agree rows cross p a ∙ ap (λ v. label rows cross (rows + v)) (sym (eqb-true q.1 p.1 t)) ∙ sym (agree rows cross q (in_part q c).0) ∙ (in_part q c).1 in
          absurd (true≢false (sym (eq-eqb (label rows cross p.0) i same) ∙ e))
      other_column e false h = refl

      by : (t : Bool) → nat_eq (label rows cross p.0) i ≡ t → (has_row part p.0 && nat_eq (own (row_rank p.0)) n) ≡ (has_column part p.1 && nat_eq (own (own_rows + column_rank p.1)) n)
      by true e =
          let here : Among p part = among_filter (λ q. nat_eq (label rows cross q.0) i) cross p a e in
          ap (λ b. b && nat_eq (own (row_rank p.0)) n) (has_own_row p here)
          ∙ ap (λ v. nat_eq v n) (agree own_rows (local_part part) (local_crossing part p) (among_local p here))
          ∙ sym (ap (λ b. b && nat_eq (own (own_rows + column_rank p.1)) n) (has_own_column p here))
      by false e =
          ap (λ b. b && nat_eq (own (row_rank p.0)) n) (other_row e (has_row part p.0) refl)
          ∙ sym (ap (λ b. b && nat_eq (own (own_rows + column_rank p.1)) n) (other_column e (has_column part p.1) refl))

  one_label : (p q : ℕ × ℕ) → Among p part → Among q part → own (row_rank q.0) ≡ own (row_rank p.0)
  one_label p q a b =
      let n : ℕ = own (row_rank p.0) in
      let first : set n p.0 ≡ true = set_row n p.0 (row_low p (in_part p a).0) ∙ ap (λ t. t && nat_eq (own (row_rank p.0)) n) (has_own_row p a) ∙ eq-eqb n n refl in
      let named : set n i ≡ true = ap (set n) (sym (in_part p a).1) ∙ closed_label rows (set n) cross (set_closed n) p.0 ∙ first in
      let last : set n q.0 ≡ true = sym (closed_label rows (set n) cross (set_closed n) q.0) ∙ ap (set n) (in_part q b).1 ∙ named in
      eqb-true (own (row_rank q.0)) n (and_both (has_row part q.0) (nat_eq (own (row_rank q.0)) n) (sym (set_row n q.0 (row_low q (in_part q b).0)) ∙ last)).1

  connected_by : (p : ℕ × ℕ) → Among p part → length (part_names own_rows (local_part part)) ≡ 1
  connected_by p a =
      let n : ℕ = own (row_rank p.0) in
      let here : Among (local_crossing part p) (local_part part) = among_local p a in
      let low : n < own_rows = omega (
        arith,
        label_low own_rows (local_part part) (row_rank p.0),
        fewer_before (has_row part) p.0 rows (row_low p (in_part p a).0) (has_own_row p a),
        filter_long (has_row part) (range_with_len 0 rows),
      ) in
      ap (λ (xs : List ℕ). length xs) (filter_same (λ j. list_any (λ q. nat_eq (own q.0) j) (local_part part)) (λ j. nat_eq n j) (range_with_len 0 own_rows)
      (λ j. any_same (λ (q : ℕ × ℕ). own q.0) n j (local_part part) (some_among (local_crossing part p) (local_part part) here)
      (λ q b. let (r, c, e) = local_among q b in ap (λ (z : ℕ × ℕ). own z.0) e ∙ one_label p r a c)))
      ∙ (one_number n 0 own_rows (omega (arith, low))).1 (omega arith)
    where
      some_among : (x : ℕ × ℕ) (xs : List (ℕ × ℕ)) → Among x xs → 0 < length xs
      some_among x [] a = absurd a
      some_among x (y ∷ xs) a = omega arith

  pub connected : Among i (part_names rows cross) → length (part_names own_rows (local_part part)) ≡ 1
  connected a =
      let (b, e) = filter_among (λ j. list_any (λ p. nat_eq (label rows cross p.0) j) cross) (range_with_len 0 rows) i a in
      let (p, c, t) = any_found (λ p. nat_eq (label rows cross p.0) i) cross e in
      connected_by p (among_filter (λ q. nat_eq (label rows cross q.0) i) cross p c t)
