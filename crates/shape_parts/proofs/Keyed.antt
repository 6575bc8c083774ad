-- The tables from which the keys of a shape are made.
use Rattle.std.specs.Prelude.{◌||◌, if◌then◌else◌, nat_eq}
use Rattle.std.proofs.Common.{filter, ◌≡◌, ℕ, zero, suc, ◌+◌, ◌<◌, ◌≤◌, Bool, true, false, List, [], ◌∷◌, length, map, get_or, slice_index, IsTrue, inl, inr, refl, sym, ap, ◌∙◌, subst, arith, eqb-true}
use Rattle.std.specs.List.{list_all, list_any, range_with_len, AllByRecursion}
use Rattle.std.proofs.lemmas.Bool.{cases_lt, cond-true, cond-false}
use Rattle.std.proofs.lemmas.List.FromFn.{get_or-map-range_with_len, length-map-range_with_len}
use Rattle.basic_kinds.specs.Shapes.{is_within}
use Rattle.basic_kinds.specs.Sorts.{how_many_below}
use Rattle.basic_kinds.specs.ShapeParts.{label, part_names, has_row, has_column}
use Rattle.basic_kinds.proofs.Crossings.{any_at}
use Rattle.shape_parts.specs.Keys.{is_among, rank, with_key}
use Rattle.shape_parts.specs.Mirror.Cuts.{is_name, number_of, many_parts, row_key, column_key, crossing_key, row_keys, column_keys, crossing_keys, line_key}
use Rattle.shape_parts.proofs.Chosen.{filter_same, how_many_same}
use Rattle.shape_parts.proofs.Filled.{count_more}
use Rattle.shape_parts.proofs.Labelled.{label_low, labels_agree}
use Rattle.shape_parts.proofs.Links.{within_at}

pub map_same : {A : Type 0} (f g : ℕ → A) (a n : ℕ) → ((x : ℕ) → a ≤ x → x < a + n → f x ≡ g x) → map f (range_with_len a n) ≡ map g (range_with_len a n)
map_same f g a zero h = refl
map_same f g a (suc n) h = ap (λ x. x ∷ map f (range_with_len (a + 1) n)) (h a (omega arith) (omega arith)) ∙ ap (λ xs. g a ∷ xs) (map_same f g (a + 1) n (λ x low high. h x (omega arith) (omega arith)))

all_mapped : {A : Type 0} (f : A → ℕ) (m : ℕ) (d : A) (xs : List A) → ((n : ℕ) → n < length xs → f (get_or xs n d) < m) → AllByRecursion (λ y. y < m) (map f xs)
all_mapped f m d [] h = tt
all_mapped f m d (x ∷ xs) h = (h 0 (omega arith), all_mapped f m d xs (λ n low. h (suc n) (omega arith)))

pub among_mapped : (f : ℕ × ℕ → ℕ) (i : ℕ) (cross : List (ℕ × ℕ)) → is_among (map f cross) i ≡ list_any (λ p. nat_eq (f p) i) cross
among_mapped f i [] = refl
among_mapped f i (p ∷ ps) = ap (λ b. nat_eq (f p) i || b) (among_mapped f i ps)

mapped_twice : (f : ℕ → ℕ) (g : ℕ × ℕ → ℕ) (h : ℕ × ℕ → ℕ) (d : ℕ × ℕ) (ps : List (ℕ × ℕ)) → ((n : ℕ) → n < length ps → f (g (get_or ps n d)) ≡ h (get_or ps n d)) → map f (map g ps) ≡ map h ps
mapped_twice f g h d [] e = refl
mapped_twice f g h d (p ∷ ps) e = ap (λ x. x ∷ map f (map g ps)) (e 0 (omega arith)) ∙ ap (λ xs. h p ∷ xs) (mapped_twice f g h d ps (λ n low. e (suc n) (omega arith)))

pub by_place : {A B : Type 0} (f : A → B) (d : A) (a : ℕ) (F : ℕ → A) (xs : List A) → ((j : ℕ) → j < length xs → F (a + j) ≡ get_or xs j d) → map f xs ≡ map (λ n. f (F n)) (range_with_len a (length xs))
by_place f d a F [] h = refl
by_place f d a F (x ∷ xs) h =
    let e : a + 0 ≡ a = omega arith in
    ap (λ y. f y ∷ map f xs) (sym (h 0 (omega arith)) ∙ ap F e)
    ∙ ap (λ ys. f (F a) ∷ ys) (by_place f d (a + 1) F xs (λ j low. let e : a + 1 + j ≡ a + suc j = omega arith in ap F e ∙ h (suc j) (omega arith)))

all_ranged : (f : ℕ → ℕ) (m a n : ℕ) → ((x : ℕ) → a ≤ x → x < a + n → f x < m) → AllByRecursion (λ y. y < m) (map f (range_with_len a n))
all_ranged f m a zero h = tt
all_ranged f m a (suc n) h = (h a (omega arith) (omega arith), all_ranged f m (a + 1) n (λ x low high. h x (omega arith) (omega arith)))

count_step : (f : ℕ → Bool) (n : ℕ) → how_many_below n f ≤ how_many_below (n + 1) f
count_step f n = by (f n) (count_more f n)
  where
    by : (b : Bool) → how_many_below (n + 1) f ≡ (if b then how_many_below n f + 1 else how_many_below n f) → how_many_below n f ≤ how_many_below (n + 1) f
    by true e = omega (arith, e)
    by false e = omega (arith, e)

module _ (rows cols : ℕ) (cross : List (ℕ × ℕ)) (within : IsTrue (list_all (is_within rows cols) cross)) where
  pub rows_below : (m : ℕ) (rs : List ℕ) → rs ≡ map (λ p. p.0) cross → rows ≤ m → AllByRecursion (λ n. n < m) rs
  rows_below m rs e h = subst (AllByRecursion (λ n. n < m)) (sym e) (all_mapped (λ p. p.0) m (0, 0) cross (λ n low. omega (arith, (within_at rows cols cross n within low).0, h)))

  pub columns_below : (cs : List ℕ) → cs ≡ map (λ p. p.1) cross → AllByRecursion (λ n. n < cols) cs
  columns_below cs e = subst (AllByRecursion (λ n. n < cols)) (sym e) (all_mapped (λ p. p.1) cols (0, 0) cross (λ n low. (within_at rows cols cross n within low).1))

  module _ (ls : List ℕ) (labelled : ls ≡ map (label rows cross) (range_with_len 0 (rows + cols))) where
    pub label_at : (v : ℕ) → v < rows + cols → slice_index ls v ≡ label rows cross v
    label_at v low = ap (λ (ns : List ℕ). get_or ns v 0) labelled ∙ get_or-map-range_with_len (label rows cross) 0 (rows + cols) v v 0 low (omega arith)

    pub labels_long : length ls ≡ rows + cols
    labels_long = ap length labelled ∙ length-map-range_with_len (label rows cross) 0 (rows + cols)

    -- the labels of the crossings
    names_are : (rs ns : List ℕ) → rs ≡ map (λ p. p.0) cross → ns ≡ map (slice_index ls) rs → ns ≡ map (λ p. label rows cross p.0) cross
    names_are rs ns e k =
        k ∙ ap (map (slice_index ls)) e
        ∙ mapped_twice (slice_index ls) (λ p. p.0) (λ p. label rows cross p.0) (0, 0) cross (λ n low. label_at (get_or cross n (0, 0)).0 (omega (arith, (within_at rows cols cross n within low).0)))

    pub names_below : (rs ns : List ℕ) → rs ≡ map (λ p. p.0) cross → ns ≡ map (slice_index ls) rs → AllByRecursion (λ n. n < rows) ns
    names_below rs ns e k = subst (AllByRecursion (λ n. n < rows)) (sym (names_are rs ns e k))
        (all_mapped (λ p. label rows cross p.0) rows (0, 0) cross (λ n low. omega (arith, (within_at rows cols cross n within low).0, label_low rows cross (get_or cross n (0, 0)).0)))

    module _ (rs ns : List ℕ) (e : rs ≡ map (λ p. p.0) cross) (k : ns ≡ map (slice_index ls) rs) (ms : List Bool) (marked : ms ≡ map (is_among ns) (range_with_len 0 rows))
        (ks : List ℕ) (counted : ks ≡ map (λ i. how_many_below i (λ j. get_or ms j false)) (range_with_len 0 (length ms + 1))) where
      marks_long : length ms ≡ rows
      marks_long = ap length marked ∙ length-map-range_with_len (is_among ns) 0 rows

      pub counts_long : length ks ≡ rows + 1
      counts_long = omega (arith, ap length counted, length-map-range_with_len (λ i. how_many_below i (λ j. get_or ms j false)) 0 (length ms + 1), marks_long)

      pub number_at : (i : ℕ) → i ≤ rows → slice_index ks i ≡ number_of rows cross i
      number_at i low =
          ap (λ (ns : List ℕ). get_or ns i 0) counted ∙ get_or-map-range_with_len (λ i. how_many_below i (λ j. get_or ms j false)) 0 (length ms + 1) i i 0 (omega (arith, marks_long, low)) (omega arith)
          ∙ how_many_same (λ j. get_or ms j false) (is_name rows cross) 0 i
          (λ j a b. ap (λ (bs : List Bool). get_or bs j false) marked ∙ get_or-map-range_with_len (is_among ns) 0 rows j j false (omega arith) (omega arith)
          ∙ ap (λ (xs : List ℕ). is_among xs j) (names_are rs ns e k) ∙ among_mapped (λ p. label rows cross p.0) j cross)

      pub names_marked : filter (λ i. get_or ms i false) (range_with_len 0 (length ms)) ≡ part_names rows cross
      names_marked =
          ap (λ (n : ℕ). filter (λ i. get_or ms i false) (range_with_len 0 n)) marks_long
          ∙ filter_same (λ j. get_or ms j false) (is_name rows cross) 0 rows
          (λ j a b. ap (λ (bs : List Bool). get_or bs j false) marked ∙ get_or-map-range_with_len (is_among ns) 0 rows j j false (omega arith) (omega arith)
          ∙ ap (λ (xs : List ℕ). is_among xs j) (names_are rs ns e k) ∙ among_mapped (λ p. label rows cross p.0) j cross)

      module _ (many : ℕ) (last : many ≡ slice_index ks rows) where
        pub many_is : many ≡ many_parts rows cross
        many_is = last ∙ number_at rows (omega arith)

        pub row_known : (met : List Bool) → met ≡ map (is_among rs) (range_with_len 0 rows) → (i : ℕ) → i < length met → slice_index ls (0 + i) < length ks
        row_known met h i low =
            let long : i < rows = omega (arith, low, ap length h, length-map-range_with_len (is_among rs) 0 rows) in
            let at : slice_index ls (0 + i) ≡ label rows cross (0 + i) = label_at (0 + i) (omega arith) in
            omega (arith, at, label_low rows cross (0 + i), counts_long)

        pub row_keys_are : (met : List Bool) → met ≡ map (is_among rs) (range_with_len 0 rows) → map (line_key ls 0 met ks many) (range_with_len 0 (length met)) ≡ row_keys rows cross
        row_keys_are met h =
            ap (λ (n : ℕ). map (line_key ls 0 met ks many) (range_with_len 0 n)) (ap length h ∙ length-map-range_with_len (is_among rs) 0 rows)
            ∙ map_same (line_key ls 0 met ks many) (row_key rows cross) 0 rows (λ i a low. by i (omega arith) (has_row cross i) refl)
          where
            has : (i : ℕ) → i < rows → get_or met i false ≡ has_row cross i
            has i low = ap (λ (bs : List Bool). get_or bs i false) h ∙ get_or-map-range_with_len (is_among rs) 0 rows i i false low (omega arith)
                ∙ ap (λ (xs : List ℕ). is_among xs i) e ∙ among_mapped (λ p. p.0) i cross

            by : (i : ℕ) → i < rows → (b : Bool) → has_row cross i ≡ b → line_key ls 0 met ks many i ≡ row_key rows cross i
            by i low true t =
                let z : 0 + i ≡ i = omega arith in
                cond-true (get_or met i false) (slice_index ks (slice_index ls (0 + i))) many (has i low ∙ t)
                ∙ ap (slice_index ks) (ap (slice_index ls) z ∙ label_at i (omega arith)) ∙ number_at (label rows cross i) (omega (arith, label_low rows cross i))
                ∙ sym (cond-true (has_row cross i) (number_of rows cross (label rows cross i)) (many_parts rows cross) t)
            by i low false t =
                cond-false (get_or met i false) (slice_index ks (slice_index ls (0 + i))) many (has i low ∙ t) ∙ many_is
                ∙ sym (cond-false (has_row cross i) (number_of rows cross (label rows cross i)) (many_parts rows cross) t)

        column_low : (c : ℕ) → has_column cross c ≡ true → label rows cross (rows + c) < rows
        column_low c h =
            let (n, low, t) = any_at (λ p. nat_eq p.1 c) cross h in
            let p : ℕ × ℕ = get_or cross n (0, 0) in
            let same : label rows cross p.0 ≡ label rows cross (rows + c) = labels_agree rows cross n low ∙ ap (λ (v : ℕ). label rows cross (rows + v)) (eqb-true p.1 c t) in
            omega (arith, label_low rows cross p.0, (within_at rows cols cross n within low).0, same)

        column_met : (cs : List ℕ) → cs ≡ map (λ p. p.1) cross → (met : List Bool) → met ≡ map (is_among cs) (range_with_len 0 cols) → (i : ℕ) → i < cols → get_or met i false ≡ has_column cross i
        column_met cs f met h i low = ap (λ (bs : List Bool). get_or bs i false) h ∙ get_or-map-range_with_len (is_among cs) 0 cols i i false low (omega arith)
            ∙ ap (λ (xs : List ℕ). is_among xs i) f ∙ among_mapped (λ p. p.1) i cross

        pub column_known : (cs : List ℕ) → cs ≡ map (λ p. p.1) cross → (met : List Bool) → met ≡ map (is_among cs) (range_with_len 0 cols) → (i : ℕ) → i < length met → get_or met i false ≡ true → slice_index ls (rows + i) < length ks
        column_known cs f met h i low t =
            let long : i < cols = omega (arith, low, ap length h, length-map-range_with_len (is_among cs) 0 cols) in
            let at : slice_index ls (rows + i) ≡ label rows cross (rows + i) = label_at (rows + i) (omega arith) in
            omega (arith, at, column_low i (sym (column_met cs f met h i long) ∙ t), counts_long)

        pub column_keys_are : (cs : List ℕ) → cs ≡ map (λ p. p.1) cross → (met : List Bool) → met ≡ map (is_among cs) (range_with_len 0 cols) → map (line_key ls rows met ks many) (range_with_len 0 (length met)) ≡ column_keys rows cols cross
        column_keys_are cs f met h =
            ap (λ (n : ℕ). map (line_key ls rows met ks many) (range_with_len 0 n)) (ap length h ∙ length-map-range_with_len (is_among cs) 0 cols)
            ∙ map_same (line_key ls rows met ks many) (column_key rows cross) 0 cols (λ i a low. by i (omega arith) (has_column cross i) refl)
          where
            by : (i : ℕ) → i < cols → (b : Bool) → has_column cross i ≡ b → line_key ls rows met ks many i ≡ column_key rows cross i
            by i low true t =
                cond-true (get_or met i false) (slice_index ks (slice_index ls (rows + i))) many (column_met cs f met h i low ∙ t)
                ∙ ap (slice_index ks) (label_at (rows + i) (omega arith)) ∙ number_at (label rows cross (rows + i)) (omega (arith, column_low i t))
                ∙ sym (cond-true (has_column cross i) (number_of rows cross (label rows cross (rows + i))) (many_parts rows cross) t)
            by i low false t =
                cond-false (get_or met i false) (slice_index ks (slice_index ls (rows + i))) many (column_met cs f met h i low ∙ t) ∙ many_is
                ∙ sym (cond-false (has_column cross i) (number_of rows cross (label rows cross (rows + i))) (many_parts rows cross) t)

  pub crossing_keys_are : (rs ts : List ℕ) → rs ≡ map (λ p. p.0) cross → ts ≡ row_keys rows cross → map (slice_index ts) rs ≡ crossing_keys rows cross
  crossing_keys_are rs ts e k =
      ap (map (slice_index ts)) e
      ∙ mapped_twice (slice_index ts) (λ p. p.0) (λ p. row_key rows cross p.0) (0, 0) cross
      (λ n low. ap (λ (ns : List ℕ). get_or ns (get_or cross n (0, 0)).0 0) k ∙ get_or-map-range_with_len (row_key rows cross) 0 rows (get_or cross n (0, 0)).0 (get_or cross n (0, 0)).0 0 (within_at rows cols cross n within low).0 (omega arith))
      ∙ by_place (λ p. row_key rows cross p.0) (0, 0) 0 (λ n. get_or cross n (0, 0)) cross (λ j low. let z : 0 + j ≡ j = omega arith in ap (λ (m : ℕ). get_or cross m (0, 0)) z)

  -- no number of a part is greater than the number of parts
  number_low : (i : ℕ) → i ≤ rows → number_of rows cross i ≤ many_parts rows cross
  number_low i low = rising rows i low
    where
      rising : (n i : ℕ) → i ≤ n → how_many_below i (is_name rows cross) ≤ how_many_below n (is_name rows cross)
      rising zero i low = let z : i ≡ 0 = omega arith in omega (arith, ap (λ (m : ℕ). how_many_below m (is_name rows cross)) z)
      rising (suc n) i low = elim (cases_lt i (suc n)) [
        | inl h ↦
            let z : n + 1 ≡ suc n = omega arith in
            omega (arith, rising n i (omega arith), count_step (is_name rows cross) n, ap (λ (m : ℕ). how_many_below m (is_name rows cross)) z)
        | inr h ↦ let z : i ≡ suc n = omega arith in omega (arith, ap (λ (m : ℕ). how_many_below m (is_name rows cross)) z)
      ]

  pub row_keys_low : AllByRecursion (λ k. k < many_parts rows cross + 1) (row_keys rows cross)
  row_keys_low = all_ranged (row_key rows cross) (many_parts rows cross + 1) 0 rows (λ r a low. by r (omega arith) (has_row cross r))
    where
      by : (r : ℕ) → r < rows → (b : Bool) → (if b then number_of rows cross (label rows cross r) else many_parts rows cross) < many_parts rows cross + 1
      by r low true = omega (arith, number_low (label rows cross r) (omega (arith, label_low rows cross r)))
      by r low false = omega arith

  pub column_keys_low : AllByRecursion (λ k. k < many_parts rows cross + 1) (column_keys rows cols cross)
  column_keys_low = all_ranged (column_key rows cross) (many_parts rows cross + 1) 0 cols (λ c a low. by c (has_column cross c) refl)
    where
      by : (c : ℕ) (b : Bool) → has_column cross c ≡ b → (if b then number_of rows cross (label rows cross (rows + c)) else many_parts rows cross) < many_parts rows cross + 1
      by c true t =
          let (n, low, x) = any_at (λ p. nat_eq p.1 c) cross t in
          let p : ℕ × ℕ = get_or cross n (0, 0) in
          let same : label rows cross p.0 ≡ label rows cross (rows + c) = labels_agree rows cross n low ∙ ap (λ (v : ℕ). label rows cross (rows + v)) (eqb-true p.1 c x) in
          omega (arith, number_low (label rows cross (rows + c)) (omega (arith, label_low rows cross p.0, (within_at rows cols cross n within low).0, same)))
      by c false t = omega arith

  pub crossing_keys_low : AllByRecursion (λ k. k < many_parts rows cross + 1) (crossing_keys rows cross)
  crossing_keys_low = all_ranged (crossing_key rows cross) (many_parts rows cross + 1) 0 (length cross)
      (λ n a low. by (get_or cross n (0, 0)).0 ((within_at rows cols cross n within (omega arith)).0) (has_row cross (get_or cross n (0, 0)).0))
    where
      by : (r : ℕ) → r < rows → (b : Bool) → (if b then number_of rows cross (label rows cross r) else many_parts rows cross) < many_parts rows cross + 1
      by r low true = omega (arith, number_low (label rows cross r) (omega (arith, label_low rows cross r)))
      by r low false = omega arith

-- the same of equal tables
pub gathered : {ns a b ls rs : List ℕ} → ns ≡ map (slice_index a) b → a ≡ ls → b ≡ rs → ns ≡ map (slice_index ls) rs
gathered h p q = h ∙ (λ i. map (slice_index (p i)) (q i))

pub marked_by : {ms : List Bool} {a ns : List ℕ} (n : ℕ) → ms ≡ map (is_among a) (range_with_len 0 n) → a ≡ ns → ms ≡ map (is_among ns) (range_with_len 0 n)
marked_by n h p = h ∙ (λ i. map (is_among (p i)) (range_with_len 0 n))

pub counted_by : {ks : List ℕ} {a ms : List Bool} → ks ≡ map (λ i. how_many_below i (λ j. get_or a j false)) (range_with_len 0 (length a + 1)) → a ≡ ms
    → ks ≡ map (λ i. how_many_below i (λ j. get_or ms j false)) (range_with_len 0 (length ms + 1))
counted_by h p = h ∙ (λ t. map (λ i. how_many_below i (λ j. get_or (p t) j false)) (range_with_len 0 (length (p t) + 1)))

all_low : (n m : ℕ) (ks : List ℕ) → m ≡ n → AllByRecursion (λ k. k < n) ks → AllByRecursion (λ k. k < m) ks
all_low n m ks e h = subst (λ (n : ℕ). AllByRecursion (λ k. k < n) ks) (sym e) h

pub all_keys : (parts : ℕ) {many : ℕ} {ks keys : List ℕ} → many ≡ parts + 1 → ks ≡ keys → AllByRecursion (λ k. k < parts + 1) keys → AllByRecursion (λ k. k < many) ks
all_keys parts {many = many} {ks = ks} e p h = all_low (parts + 1) many ks e (subst (AllByRecursion (λ k. k < parts + 1)) (sym p) h)

pub keyed_numbers : (parts : ℕ) {many : ℕ} {ks keys : List ℕ} {bs : List (List ℕ)} → many ≡ parts + 1 → ks ≡ keys → bs ≡ map (with_key ks) (range_with_len 0 many) → bs ≡ map (with_key keys) (range_with_len 0 (parts + 1))
keyed_numbers parts e p h = h ∙ (λ i. map (with_key (p i)) (range_with_len 0 (e i)))

pub keyed_ranks : {ks keys rs : List ℕ} → ks ≡ keys → rs ≡ map (rank ks) (range_with_len 0 (length ks)) → rs ≡ map (rank keys) (range_with_len 0 (length keys))
keyed_ranks p h = h ∙ (λ i. map (rank (p i)) (range_with_len 0 (length (p i))))
