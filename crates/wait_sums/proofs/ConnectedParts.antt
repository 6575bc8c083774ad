-- The sum of a DW is that of its parts, each by itself; and of one part that of its layer.
use Rattle.std.specs.Prelude.{◌&&◌, ◌||◌, if◌then◌else◌, nat_eq, nat_lt}
use Rattle.std.proofs.Common.{◌≡◌, ◌≢◌, ◌⊎◌, inl, inr, ℕ, zero, suc, ◌+◌, ◌<◌, ◌≤◌, Bool, true, false, true≢false, cond, List, [], ◌∷◌, length, map, get_or, refl, sym, ap, ◌∙◌, arith, eq-eqb, ne_eqb, eqb-true, lt-ltb, le-ltb}
use Rattle.std.specs.List.{filter, list_all, list_any, range_with_len, AllByRecursion}
use Rattle.std.proofs.lemmas.Bool.{and_parts, cases_eq, cases_lt, cond-true, cond-false}
use Rattle.std.proofs.lemmas.List.{length-map}
use Rattle.basic_kinds.specs.Shapes.{IsShape, is_within}
use Rattle.basic_kinds.specs.Sorts.{Sort, Joins, Waits, how_many, how_many_below}
use Rattle.basic_kinds.specs.ShapeParts.{label, lesser, merged, has_row, has_column, part_at, part_names, part_rows, part_columns, local_part, local_crossing, exchanged}
use Rattle.basic_kinds.specs.Sums.{so_many, sum_over, layer_sum, part_sum, sum_of_part, wait_sum}
use Rattle.shape_parts.proofs.Chosen.{place_at}
use Rattle.shape_parts.proofs.Labelled.{labels_agree, label_low}
use Rattle.shape_parts.proofs.Links.{merged_in, merged_out}
use Rattle.wait_sums.specs.WaitSums.{IsWithin, IsConnected, own_sum, part_alone}
use Rattle.wait_sums.proofs.WaitLayers.{by_parts}
use Rattle.wait_sums.proofs.Renamed.{all_by, all_kept, bit, counted, crossings_count, inside_of, keys_found, rank_next}

all_from : {A : Type 0} (P : A → Type 0) (d : A) (xs : List A) → ((n : ℕ) → n < length xs → P (get_or xs n d)) → AllByRecursion P xs
all_from P d [] h = tt
all_from P d (x ∷ xs) h = (h 0 (omega arith), all_from P d xs (λ n low. h (suc n) (omega arith)))

-- the two lines of each crossing have one label
abbrev Agree : ℕ → (ℕ → ℕ) → ℕ × ℕ → Type 0
Agree rows f p = f p.0 ≡ f (rows + p.1)

pub all_agree : (rows : ℕ) (cross : List (ℕ × ℕ)) → AllByRecursion (Agree rows (label rows cross)) cross
all_agree rows cross = all_from (Agree rows (label rows cross)) (0, 0) cross (labels_agree rows cross)

-- the labels are equal only where all that agrees at each crossing is equal
finest : (rows : ℕ) (cross : List (ℕ × ℕ)) (f : ℕ → ℕ) → AllByRecursion (Agree rows f) cross → (v w : ℕ) → label rows cross v ≡ label rows cross w → f v ≡ f w
finest rows [] f all v w e = ap f e
finest rows (p ∷ ps) f all v w e = at (finest rows ps f all.1) (into v) (into w)
  where
    into : (x : ℕ) → ((label rows ps x ≡ label rows ps p.0) ⊎ (label rows ps x ≡ label rows ps (rows + p.1))) ⊎ ((label rows ps x ≢ label rows ps p.0) × (label rows ps x ≢ label rows ps (rows + p.1)))
    into x = elim (cases_eq (label rows ps x) (label rows ps p.0)) [
      | inl h ↦ inl (inl h)
      | inr d ↦ elim (cases_eq (label rows ps x) (label rows ps (rows + p.1))) [ inl h ↦ inl (inr h) | inr k ↦ inr (d, k) ]
    ]

    same : ((x y : ℕ) → label rows ps x ≡ label rows ps y → f x ≡ f y) → (x : ℕ) → (label rows ps x ≡ label rows ps p.0) ⊎ (label rows ps x ≡ label rows ps (rows + p.1)) → f x ≡ f p.0
    same rest x (inl h) = rest x p.0 h
    same rest x (inr h) = rest x (rows + p.1) h ∙ sym all.0

    least : (y z : ℕ) → (lesser y z ≡ y) ⊎ (lesser y z ≡ z)
    least y z = by (nat_lt z y)
      where
        by : (t : Bool) → ((if t then z else y) ≡ y) ⊎ ((if t then z else y) ≡ z)
        by true = inr refl
        by false = inl refl

    apart : (x y : ℕ) → (label rows ps x ≡ label rows ps p.0) ⊎ (label rows ps x ≡ label rows ps (rows + p.1))
        → (label rows ps y ≢ label rows ps p.0) × (label rows ps y ≢ label rows ps (rows + p.1))
        → merged (label rows ps) p.0 (rows + p.1) x ≡ merged (label rows ps) p.0 (rows + p.1) y → ⊥
    apart x y h k q =
        let z : lesser (label rows ps p.0) (label rows ps (rows + p.1)) ≡ label rows ps y = sym (merged_in (label rows ps) p.0 (rows + p.1) x h) ∙ q ∙ merged_out (label rows ps) p.0 (rows + p.1) y k.0 k.1 in
        elim (least (label rows ps p.0) (label rows ps (rows + p.1))) [ inl c ↦ k.0 (sym z ∙ c) | inr c ↦ k.1 (sym z ∙ c) ]

    at : ((x y : ℕ) → label rows ps x ≡ label rows ps y → f x ≡ f y) → ((label rows ps v ≡ label rows ps p.0) ⊎ (label rows ps v ≡ label rows ps (rows + p.1))) ⊎ ((label rows ps v ≢ label rows ps p.0) × (label rows ps v ≢ label rows ps (rows + p.1)))
        → ((label rows ps w ≡ label rows ps p.0) ⊎ (label rows ps w ≡ label rows ps (rows + p.1))) ⊎ ((label rows ps w ≢ label rows ps p.0) × (label rows ps w ≢ label rows ps (rows + p.1))) → f v ≡ f w
    at rest (inl h) (inl k) = same rest v h ∙ sym (same rest w k)
    at rest (inl h) (inr k) = absurd (apart v w h k e)
    at rest (inr h) (inl k) = absurd (apart w v k h (sym e))
    at rest (inr h) (inr k) = rest v w (sym (merged_out (label rows ps) p.0 (rows + p.1) v h.0 h.1) ∙ e ∙ merged_out (label rows ps) p.0 (rows + p.1) w k.0 k.1)

-- ---- crossings that have one label

range_none : (c a n : ℕ) → c < a → filter (nat_eq c) (range_with_len a n) ≡ []
range_none c a zero less = refl
range_none c a (suc n) less =
    ap (λ (t : Bool). cond t (a ∷ filter (nat_eq c) (range_with_len (a + 1) n)) (filter (nat_eq c) (range_with_len (a + 1) n))) (ne_eqb c a (λ e. omega (arith, e, less)))
    ∙ range_none c (a + 1) n (omega arith)

range_once : (c a n : ℕ) → a ≤ c → c < a + n → filter (nat_eq c) (range_with_len a n) ≡ c ∷ []
range_once c a zero low high = absurd (omega arith)
range_once c a (suc n) low high = elim (cases_eq c a) [
  | inl e ↦
      ap (λ (t : Bool). cond t (a ∷ filter (nat_eq c) (range_with_len (a + 1) n)) (filter (nat_eq c) (range_with_len (a + 1) n))) (eq-eqb c a e)
      ∙ ap (λ xs. a ∷ xs) (range_none c (a + 1) n (omega (arith, e))) ∙ ap (λ (k : ℕ). k ∷ []) (sym e)
  | inr d ↦
      ap (λ (t : Bool). cond t (a ∷ filter (nat_eq c) (range_with_len (a + 1) n)) (filter (nat_eq c) (range_with_len (a + 1) n))) (ne_eqb c a d)
      ∙ range_once c (a + 1) n (elim (cases_lt c (a + 1)) [ inl l ↦ absurd (d (omega arith)) | inr h ↦ h ]) (omega arith)
]

filter_agrees : {A : Type 0} (p q : A → Bool) (xs : List A) → ((x : A) → p x ≡ q x) → filter p xs ≡ filter q xs
filter_agrees p q [] h = refl
filter_agrees p q (x ∷ xs) h = let a = h x in let r = filter_agrees p q xs h in λ i. cond (a i) (x ∷ r i) (r i)

filter_whole : {A : Type 0} (q : A → Bool) (xs : List A) → AllByRecursion (λ x. q x ≡ true) xs → filter q xs ≡ xs
filter_whole q [] h = refl
filter_whole q (x ∷ xs) h = ap (λ b. cond b (x ∷ filter q xs) (filter q xs)) h.0 ∙ ap (λ ys. x ∷ ys) (filter_whole q xs h.1)

module _ (rows cols : ℕ) (part : List (ℕ × ℕ)) (within : IsWithin rows cols part) (some : 0 < length part) (c : ℕ) (one : AllByRecursion (λ p. label rows part p.0 ≡ c) part) where
  name_low : c < rows
  name_low = at part some (inside_of rows cols part within) one
    where
      at : (ps : List (ℕ × ℕ)) → 0 < length ps → AllByRecursion (λ p. (p.0 < rows) × (p.1 < cols)) ps → AllByRecursion (λ p. label rows part p.0 ≡ c) ps → c < rows
      at [] s i o = absurd (omega arith)
      at (p ∷ ps) s i o = omega (arith, label_low rows part p.0, i.0.0, o.0)

  pub one_name : part_names rows part ≡ c ∷ []
  one_name = filter_agrees (λ i. list_any (λ p. nat_eq (label rows part p.0) i) part) (nat_eq c) (range_with_len 0 rows) (λ i. at i part some one) ∙ range_once c 0 rows (omega arith) (omega (arith, name_low))
    where
      or_same : (t : Bool) → (t || t) ≡ t
      or_same true = refl
      or_same false = refl

      at : (i : ℕ) (ps : List (ℕ × ℕ)) → 0 < length ps → AllByRecursion (λ p. label rows part p.0 ≡ c) ps → list_any (λ p. nat_eq (label rows part p.0) i) ps ≡ nat_eq c i
      at i [] s o = absurd (omega arith)
      at i (p ∷ []) s o = ap (λ (k : ℕ). nat_eq k i || false) o.0 ∙ plain (nat_eq c i)
        where
          plain : (t : Bool) → (t || false) ≡ t
          plain true = refl
          plain false = refl
      at i (p ∷ q ∷ ps) s o = let a = o.0 in let b = at i (q ∷ ps) (omega arith) o.1 in (λ j. nat_eq (a j) i || b j) ∙ or_same (nat_eq c i)

  whole : part_at rows part c ≡ part
  whole = filter_whole (λ p. nat_eq (label rows part p.0) c) part (all_by (λ p. label rows part p.0 ≡ c) (λ p. nat_eq (label rows part p.0) c ≡ true) (λ p e. eq-eqb (label rows part p.0) c e) part one)

  pub one_part : (t : Sort) → wait_sum rows cols part t ≡ sum_of_part wait_sum rows cols part t
  one_part t =
      by_parts rows cols part t ∙ ap (sum_over (λ i. sum_of_part wait_sum rows cols (part_at rows part i) t)) one_name
      ∙ (let e = ap (λ ps. sum_of_part wait_sum rows cols ps t) whole in omega (arith, e))

-- ---- the parts of a list of crossings

module _ (rows cols : ℕ) (cross : List (ℕ × ℕ)) (within : IsWithin rows cols cross) (i : ℕ) where
  abbrev pub part : List (ℕ × ℕ)
  part = part_at rows cross i

  -- the labels within the part, and nothing elsewhere
  abbrev f : ℕ → ℕ
  f v = if nat_eq (label rows cross v) i then label rows part v else 0

  agreeing : AllByRecursion (Agree rows f) cross
  agreeing = both cross (all_agree rows cross) (kept cross (all_agree rows part))
    where
      kept : (ps : List (ℕ × ℕ)) → AllByRecursion (Agree rows (label rows part)) (filter (λ p. nat_eq (label rows cross p.0) i) ps) → AllByRecursion (λ p. nat_eq (label rows cross p.0) i ≡ true → Agree rows (label rows part) p) ps
      kept [] all = tt
      kept (p ∷ ps) all = by (nat_eq (label rows cross p.0) i) refl (kept ps) all
        where
          by : (b : Bool) → nat_eq (label rows cross p.0) i ≡ b
              → (AllByRecursion (Agree rows (label rows part)) (filter (λ p. nat_eq (label rows cross p.0) i) ps) → AllByRecursion (λ p. nat_eq (label rows cross p.0) i ≡ true → Agree rows (label rows part) p) ps)
              → AllByRecursion (Agree rows (label rows part)) (cond b (p ∷ filter (λ p. nat_eq (label rows cross p.0) i) ps) (filter (λ p. nat_eq (label rows cross p.0) i) ps))
              → AllByRecursion (λ p. nat_eq (label rows cross p.0) i ≡ true → Agree rows (label rows part) p) (p ∷ ps)
          by true e rest a = ((λ h. a.0), rest a.1)
          by false e rest a = ((λ h. absurd (true≢false (sym h ∙ e))), rest a)

      same : (b : Bool) (x y : ℕ) → (b ≡ true → x ≡ y) → (if b then x else 0) ≡ (if b then y else 0)
      same true x y h = h refl
      same false x y h = refl

      both : (ps : List (ℕ × ℕ)) → AllByRecursion (Agree rows (label rows cross)) ps → AllByRecursion (λ p. nat_eq (label rows cross p.0) i ≡ true → Agree rows (label rows part) p) ps → AllByRecursion (Agree rows f) ps
      both [] a b = tt
      both (p ∷ ps) a b = (
        same (nat_eq (label rows cross p.0) i) (label rows part p.0) (label rows part (rows + p.1)) b.0
            ∙ ap (λ (k : ℕ). if nat_eq k i then label rows part (rows + p.1) else 0) a.0,
        both ps a.1 b.1,
      )

  -- the crossings of the part are joined by its own crossings
  joined : (v w : ℕ) → label rows cross v ≡ i → label rows cross w ≡ i → label rows part v ≡ label rows part w
  joined v w a b =
      sym (cond-true (nat_eq (label rows cross v) i) (label rows part v) 0 (eq-eqb (label rows cross v) i a))
      ∙ finest rows cross f agreeing v w (a ∙ sym b)
      ∙ cond-true (nat_eq (label rows cross w) i) (label rows part w) 0 (eq-eqb (label rows cross w) i b)

  pub part_within : IsWithin rows cols part
  part_within = within_kept (λ p. nat_eq (label rows cross p.0) i) cross within
    where
      within_kept : (test : ℕ × ℕ → Bool) (ps : List (ℕ × ℕ)) → IsWithin rows cols ps → IsWithin rows cols (filter test ps)
      within_kept test [] h = refl
      within_kept test (p ∷ ps) h =
          let (here, rest) = and_parts (is_within rows cols p) (list_all (is_within rows cols) ps) h in
          by (test p) here (within_kept test ps rest)
        where
          by : (b : Bool) → is_within rows cols p ≡ true → IsWithin rows cols (filter test ps) → IsWithin rows cols (cond b (p ∷ filter test ps) (filter test ps))
          by true e r = ap (λ (t : Bool). t && list_all (is_within rows cols) (filter test ps)) e ∙ r
          by false e r = r

  pub connected : 0 < length part → (c : ℕ) × AllByRecursion (λ p. label rows part p.0 ≡ c) part
  connected some = at part some (all_kept (λ (p : ℕ × ℕ). Unit {0}) (λ p. nat_eq (label rows cross p.0) i) cross (trivial cross))
    where
      trivial : (ps : List (ℕ × ℕ)) → AllByRecursion (λ (p : ℕ × ℕ). Unit {0}) ps
      trivial [] = tt
      trivial (p ∷ ps) = (tt, trivial ps)

      at : (ps : List (ℕ × ℕ)) → 0 < length ps → AllByRecursion (λ p. (nat_eq (label rows cross p.0) i ≡ true) × Unit {0}) ps → (c : ℕ) × AllByRecursion (λ p. label rows part p.0 ≡ c) ps
      at [] s a = absurd (omega arith)
      at (p ∷ ps) s a = (
        label rows part p.0,
        all_by (λ q. (nat_eq (label rows cross q.0) i ≡ true) × Unit {0}) (λ q. label rows part q.0 ≡ label rows part p.0)
            (λ q h. joined q.0 p.0 (eqb-true (label rows cross q.0) i h.0) (eqb-true (label rows cross p.0) i a.0.0)) (p ∷ ps) a,
      )

  pub alone_is : (t : Sort) → sum_of_part wait_sum rows cols part t ≡ part_alone rows cols part t
  alone_is t = elim (cases_lt (length part) 2) [
    | inl l ↦
        cond-true (nat_lt (length (local_part part)) 2) (so_many 1 Joins t) (greater (length (part_rows rows part)) (length (part_columns cols part)) (local_part part))
        (lt-ltb (length (local_part part)) 2 (omega (arith, l, length-map part (local_crossing part))))
        ∙ sym (cond-true (nat_lt (length part) 2) (so_many 1 Joins t) (own_sum rows cols part t) (lt-ltb (length part) 2 l))
    | inr h ↦
        sym (one_part rows cols part part_within (omega (arith, h)) (connected (omega (arith, h))).0 (connected (omega (arith, h))).1 t)
        ∙ crossings_count rows cols part part_within t
        ∙ sym (cond-false (nat_lt (length part) 2) (so_many 1 Joins t) (own_sum rows cols part t) (le-ltb (length part) 2 h))
  ]
    where
      greater : ℕ → ℕ → List (ℕ × ℕ) → ℕ
      greater r k ps = if nat_lt 2 r then layer_sum wait_sum r k ps t else (if nat_lt 2 k then layer_sum wait_sum k r (exchanged k ps) t else so_many 1 Waits t)

pub parts_count : (rows cols : ℕ) (cross : List (ℕ × ℕ)) (t : Sort) → IsWithin rows cols cross
    → wait_sum rows cols cross t ≡ sum_over (λ i. part_alone rows cols (part_at rows cross i) t) (part_names rows cross)
parts_count rows cols cross t within = by_parts rows cols cross t ∙ each (part_names rows cross)
  where
    each : (is : List ℕ) → sum_over (λ i. sum_of_part wait_sum rows cols (part_at rows cross i) t) is ≡ sum_over (λ i. part_alone rows cols (part_at rows cross i) t) is
    each [] = refl
    each (i ∷ is) = let a = alone_is rows cols cross within i t in let b = each is in λ j. a j + b j

-- ---- one part with all lines

only_one : (xs : List ℕ) → length xs ≡ 1 → (i : ℕ) × (xs ≡ i ∷ [])
only_one [] e = absurd (omega (arith, e))
only_one (x ∷ []) e = (x, refl)
only_one (x ∷ y ∷ xs) e = absurd (omega (arith, e))

rank_all : (T : ℕ → Bool) (n : ℕ) → ((x : ℕ) → x < n → T x ≡ true) → (x : ℕ) → x ≤ n → how_many_below x T ≡ x
rank_all T n all zero low = refl
rank_all T n all (suc x) low = omega (arith, rank_next T x, rank_all T n all x (omega arith), ap bit (all x (omega arith)))

-- two rows, or two columns, have two crossings
two_met : (key : ℕ × ℕ → ℕ) (ps : List (ℕ × ℕ)) → list_any (λ p. nat_eq (key p) 0) ps ≡ true → list_any (λ p. nat_eq (key p) 1) ps ≡ true → 2 ≤ length ps
two_met key [] a b = absurd (true≢false (sym a))
two_met key (p ∷ []) a b =
    let x : key p ≡ 0 = eqb-true (key p) 0 (plain (nat_eq (key p) 0) a) in
    let y : key p ≡ 1 = eqb-true (key p) 1 (plain (nat_eq (key p) 1) b) in
    absurd (omega (arith, x, y))
  where
    plain : (t : Bool) → (t || false) ≡ true → t ≡ true
    plain true e = refl
    plain false e = e
two_met key (p ∷ q ∷ ps) a b = omega arith

module _ (rows cols : ℕ) (cross : List (ℕ × ℕ)) (shape : IsShape rows cols cross) (one : IsConnected rows cross) where
  abbrev name : ℕ
  name = (only_one (part_names rows cross) one).0

  names_are : part_names rows cross ≡ name ∷ []
  names_are = (only_one (part_names rows cross) one).1

  abbrev is_name : ℕ → Bool
  is_name i = list_any (λ p. nat_eq (label rows cross p.0) i) cross

  -- what is a name is the one
  is_the_name : (x : ℕ) → x < rows → is_name x ≡ true → x ≡ name
  is_the_name x low h =
      let e : 0 + x ≡ x = omega arith in
      let (inside, at) = place_at is_name 0 x rows low (ap is_name e ∙ h) in
      let k : how_many is_name (range_with_len 0 x) ≡ 0 = omega (arith, inside, one) in
      sym e ∙ sym at ∙ ap (λ (n : ℕ). get_or (part_names rows cross) n 0) k ∙ ap (λ ns. get_or ns 0 0) names_are

  all_one : AllByRecursion (λ p. label rows cross p.0 ≡ name) cross
  all_one = both cross (inside_of rows cols cross shape.within) (keys_found (λ p. label rows cross p.0) cross)
    where
      both : (ps : List (ℕ × ℕ)) → AllByRecursion (λ p. (p.0 < rows) × (p.1 < cols)) ps → AllByRecursion (λ p. is_name (label rows cross p.0) ≡ true) ps → AllByRecursion (λ p. label rows cross p.0 ≡ name) ps
      both [] a b = tt
      both (p ∷ ps) a b = (is_the_name (label rows cross p.0) (omega (arith, label_low rows cross p.0, a.0.0)) b.0, both ps a.1 b.1)

  some : 0 < length cross
  some = by cross (shape.each_row 0 shape.some_row)
    where
      by : (ps : List (ℕ × ℕ)) → list_any (λ p. nat_eq p.0 0) ps ≡ true → 0 < length ps
      by [] h = absurd (true≢false (sym h))
      by (p ∷ ps) h = omega arith

  all_rows : (x : ℕ) → x ≤ rows → how_many_below x (has_row cross) ≡ x
  all_rows x low = rank_all (has_row cross) rows shape.each_row x low

  all_columns : (x : ℕ) → x ≤ cols → how_many_below x (has_column cross) ≡ x
  all_columns x low = rank_all (has_column cross) cols shape.each_column x low

  local_is : local_part cross ≡ cross
  local_is = at cross (inside_of rows cols cross shape.within)
    where
      at : (ps : List (ℕ × ℕ)) → AllByRecursion (λ p. (p.0 < rows) × (p.1 < cols)) ps → map (local_crossing cross) ps ≡ ps
      at [] a = refl
      at (p ∷ ps) a = let x = all_rows p.0 (omega (arith, a.0.0)) in let y = all_columns p.1 (omega (arith, a.0.1)) in let rest = at ps a.1 in λ j. (x j, y j) ∷ rest j

  as_one : (t : Sort) → wait_sum rows cols cross t ≡ part_sum wait_sum rows cols cross t
  as_one t =
      let r : length (part_rows rows cross) ≡ rows = sym (counted (has_row cross) (range_with_len 0 rows)) ∙ all_rows rows (omega arith) in
      let c : length (part_columns cols cross) ≡ cols = sym (counted (has_column cross) (range_with_len 0 cols)) ∙ all_columns cols (omega arith) in
      one_part rows cols cross shape.within some name all_one t ∙ (λ j. part_sum wait_sum (r j) (c j) (local_is j) t)

  module _ (t : Sort) where
    abbrev small : ℕ
    small = so_many 1 Waits t

    abbrev turned : ℕ
    turned = if nat_lt 2 cols then layer_sum wait_sum cols rows (exchanged cols cross) t else small

    abbrev layered : ℕ
    layered = if nat_lt 2 rows then layer_sum wait_sum rows cols cross t else turned

    not_join : 2 ≤ length cross → wait_sum rows cols cross t ≡ layered
    not_join h = as_one t ∙ cond-false (nat_lt (length cross) 2) (so_many 1 Joins t) layered (le-ltb (length cross) 2 h)

    pub rows_layer : 2 < rows → wait_sum rows cols cross t ≡ layer_sum wait_sum rows cols cross t
    rows_layer wide =
        not_join (two_met (λ p. p.0) cross (shape.each_row 0 (omega arith)) (shape.each_row 1 (omega arith)))
        ∙ cond-true (nat_lt 2 rows) (layer_sum wait_sum rows cols cross t) turned (lt-ltb 2 rows wide)

    pub columns_layer : rows ≤ 2 → 2 < cols → wait_sum rows cols cross t ≡ layer_sum wait_sum cols rows (exchanged cols cross) t
    columns_layer narrow wide =
        not_join (two_met (λ p. p.1) cross (shape.each_column 0 (omega arith)) (shape.each_column 1 (omega arith)))
        ∙ cond-false (nat_lt 2 rows) (layer_sum wait_sum rows cols cross t) turned (le-ltb 2 rows narrow)
        ∙ cond-true (nat_lt 2 cols) (layer_sum wait_sum cols rows (exchanged cols cross) t) small (lt-ltb 2 cols wide)

    pub itself : rows ≤ 2 → cols ≤ 2 → 2 ≤ length cross → wait_sum rows cols cross t ≡ so_many 1 Waits t
    itself narrow low several =
        not_join several ∙ cond-false (nat_lt 2 rows) (layer_sum wait_sum rows cols cross t) turned (le-ltb 2 rows narrow)
        ∙ cond-false (nat_lt 2 cols) (layer_sum wait_sum cols rows (exchanged cols cross) t) small (le-ltb 2 cols low)
