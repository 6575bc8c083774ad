-- Lines without a crossing do not count: where the others are numbered anew in their order, the parts are the same.
use Rattle.std.specs.Prelude.{◌||◌, if◌then◌else◌, nat_eq, nat_lt}
use Rattle.std.proofs.Common.{◌≡◌, ◌⊎◌, inl, inr, ℕ, zero, suc, ◌+◌, ◌-◌, ◌<◌, ◌≤◌, Bool, true, false, true≢false, cond, List, [], ◌∷◌, length, map, IsTrue, refl, sym, ap, ◌∙◌, arith, eq-eqb, ne_eqb, eqb-true, lt-ltb, le-ltb, ltb-true}
use Rattle.std.specs.List.{filter, list_all, list_any, range_with_len, AllByRecursion}
use Rattle.std.proofs.lemmas.Bool.{and_parts, cases_eq, cases_lt, cond-true, cond-false}
use Rattle.std.proofs.lemmas.List.{length-map}
use Rattle.basic_kinds.specs.Shapes.{is_within}
use Rattle.basic_kinds.specs.Sorts.{Sort, how_many, how_many_below}
use Rattle.basic_kinds.specs.ShapeParts.{label, lesser, has_row, has_column, part_at, part_names, part_rows, part_columns, local_part, local_crossing}
use Rattle.basic_kinds.specs.Sums.{sum_over, part_sum, sum_of_part, wait_sum}
use Rattle.shape_parts.proofs.Labelled.{label_low}
use Rattle.wait_sums.specs.WaitSums.{IsWithin, own_sum}
use Rattle.wait_sums.proofs.WaitLayers.{by_parts}

-- ---- lists

pub all_by : {A : Type 0} (P Q : A → Type 0) → ((x : A) → P x → Q x) → (xs : List A) → AllByRecursion P xs → AllByRecursion Q xs
all_by P Q h [] all = tt
all_by P Q h (x ∷ xs) all = (h x all.0, all_by P Q h xs all.1)

pub all_kept : {A : Type 0} (P : A → Type 0) (test : A → Bool) (xs : List A) → AllByRecursion P xs → AllByRecursion (λ x. (test x ≡ true) × P x) (filter test xs)
all_kept P test [] all = tt
all_kept P test (x ∷ xs) all = by (test x) refl (all_kept P test xs all.1)
  where
    by : (b : Bool) → test x ≡ b → AllByRecursion (λ x. (test x ≡ true) × P x) (filter test xs) → AllByRecursion (λ x. (test x ≡ true) × P x) (cond b (x ∷ filter test xs) (filter test xs))
    by true e rest = ((e, all.0), rest)
    by false e rest = rest

pub any_same : {A : Type 0} (p q : A → Bool) (xs : List A) → AllByRecursion (λ x. p x ≡ q x) xs → list_any p xs ≡ list_any q xs
any_same p q [] all = refl
any_same p q (x ∷ xs) all = let a = all.0 in let b = any_same p q xs all.1 in λ i. a i || b i

any_mapped : {A B : Type 0} (p : B → Bool) (f : A → B) (xs : List A) → list_any p (map f xs) ≡ list_any (λ x. p (f x)) xs
any_mapped p f [] = refl
any_mapped p f (x ∷ xs) = ap (λ b. p (f x) || b) (any_mapped p f xs)

filter_mapped : {A B : Type 0} (p : B → Bool) (q : A → Bool) (f : A → B) (xs : List A) → AllByRecursion (λ x. p (f x) ≡ q x) xs → filter p (map f xs) ≡ map f (filter q xs)
filter_mapped p q f [] all = refl
filter_mapped p q f (x ∷ xs) all =
    ap (λ (b : Bool). cond b (f x ∷ filter p (map f xs)) (filter p (map f xs))) all.0
    ∙ ap (λ ys. cond (q x) (f x ∷ ys) ys) (filter_mapped p q f xs all.1)
    ∙ by (q x)
  where
    by : (b : Bool) → cond b (f x ∷ map f (filter q xs)) (map f (filter q xs)) ≡ map f (cond b (x ∷ filter q xs) (filter q xs))
    by true = refl
    by false = refl

map_all : {A B : Type 0} (f g : A → B) (xs : List A) → AllByRecursion (λ x. f x ≡ g x) xs → map f xs ≡ map g xs
map_all f g [] all = refl
map_all f g (x ∷ xs) all = let a = all.0 in let b = map_all f g xs all.1 in λ i. a i ∷ b i

map_twice : {A B C : Type 0} (f : B → C) (g : A → B) (xs : List A) → map f (map g xs) ≡ map (λ x. f (g x)) xs
map_twice f g [] = refl
map_twice f g (x ∷ xs) = ap (λ ys. f (g x) ∷ ys) (map_twice f g xs)

pub sum_all : (f g : ℕ → ℕ) (is : List ℕ) → AllByRecursion (λ i. f i ≡ g i) is → sum_over f is ≡ sum_over g is
sum_all f g [] all = refl
sum_all f g (i ∷ is) all = let a = all.0 in let b = sum_all f g is all.1 in λ j. a j + b j

sum_mapped : (f g : ℕ → ℕ) (is : List ℕ) → sum_over f (map g is) ≡ sum_over (λ i. f (g i)) is
sum_mapped f g [] = refl
sum_mapped f g (i ∷ is) = ap (λ n. f (g i) + n) (sum_mapped f g is)

pub inside_of : (r c : ℕ) (xs : List (ℕ × ℕ)) → IsTrue (list_all (is_within r c) xs) → AllByRecursion (λ p. (p.0 < r) × (p.1 < c)) xs
inside_of r c [] h = tt
inside_of r c (p ∷ ps) h =
    let (here, rest) = and_parts (is_within r c p) (list_all (is_within r c) ps) h in
    let (a, b) = and_parts (nat_lt p.0 r) (nat_lt p.1 c) here in
    ((ltb-true p.0 r a, ltb-true p.1 c b), inside_of r c ps rest)

or_true : (a b : Bool) → b ≡ true → (a || b) ≡ true
or_true true b e = refl
or_true false b e = e

-- each item has its key
pub keys_found : (key : ℕ × ℕ → ℕ) (xs : List (ℕ × ℕ)) → AllByRecursion (λ p. list_any (λ q. nat_eq (key q) (key p)) xs ≡ true) xs
keys_found key [] = tt
keys_found key (p ∷ ps) = (
  ap (λ (b : Bool). b || list_any (λ q. nat_eq (key q) (key p)) ps) (eq-eqb (key p) (key p) refl),
  all_by (λ q. list_any (λ r. nat_eq (key r) (key q)) ps ≡ true) (λ q. list_any (λ r. nat_eq (key r) (key q)) (p ∷ ps) ≡ true)
      (λ q e. or_true (nat_eq (key p) (key q)) (list_any (λ r. nat_eq (key r) (key q)) ps) e) ps (keys_found key ps),
)

-- what passes is one that has the fact
pub any_from : {A : Type 0} (P : A → Type 0) (Q : Type 0) (test : A → Bool) (xs : List A) → AllByRecursion P xs → ((x : A) → P x → test x ≡ true → Q) → list_any test xs ≡ true → Q
any_from P Q test [] all h e = absurd (true≢false (sym e))
any_from P Q test (x ∷ xs) all h e = by (test x) refl (any_from P Q test xs all.1 h) e
  where
    by : (b : Bool) → test x ≡ b → (list_any test xs ≡ true → Q) → (b || list_any test xs) ≡ true → Q
    by true t rest o = h x all.0 t
    by false t rest o = rest o

-- ---- numbers by how many pass a test before them

abbrev pub bit : Bool → ℕ
bit b = if b then 1 else 0

one_more : (T : ℕ → Bool) (a n : ℕ) → how_many T (range_with_len a (suc n)) ≡ how_many T (range_with_len a n) + (if T (a + n) then 1 else 0)
one_more T a zero = let e : a ≡ a + 0 = omega arith in omega (arith, ap (λ (k : ℕ). bit (T k)) e)
one_more T a (suc n) =
    let e : a + 1 + n ≡ a + suc n = omega arith in
    omega (arith, one_more T (a + 1) n, ap (λ (k : ℕ). bit (T k)) e)

pub rank_next : (T : ℕ → Bool) (x : ℕ) → how_many_below (suc x) T ≡ how_many_below x T + (if T x then 1 else 0)
rank_next T x = let e : 0 + x ≡ x = omega arith in omega (arith, one_more T 0 x, ap (λ (k : ℕ). bit (T k)) e)

pub counted : (T : ℕ → Bool) (xs : List ℕ) → how_many T xs ≡ length (filter T xs)
counted T [] = refl
counted T (x ∷ xs) = by (T x) (counted T xs)
  where
    by : (b : Bool) → how_many T xs ≡ length (filter T xs) → (if b then 1 else 0) + how_many T xs ≡ length (cond b (x ∷ filter T xs) (filter T xs))
    by true e = omega (arith, e)
    by false e = omega (arith, e)

rank_low : (T : ℕ → Bool) (x k : ℕ) → how_many_below x T ≤ how_many_below (x + k) T
rank_low T x zero = let e : x + 0 ≡ x = omega arith in omega (arith, ap (λ (n : ℕ). how_many_below n T) e)
rank_low T x (suc k) =
    let e : x + suc k ≡ suc (x + k) = omega arith in
    omega (arith, rank_low T x k, rank_next T (x + k), ap (λ (n : ℕ). how_many_below n T) e)

pub rank_grows : (T : ℕ → Bool) (x y : ℕ) → T x ≡ true → x < y → how_many_below x T < how_many_below y T
rank_grows T x y t less =
    let e : suc x + (y - suc x) ≡ y = omega arith in
    omega (arith, rank_low T (suc x) (y - suc x), rank_next T x, ap bit t, ap (λ (n : ℕ). how_many_below n T) e)

-- the numbers of those that pass, where others may be left out of either
numbered : (T test after : ℕ → Bool) (rank : ℕ → ℕ) → ((x : ℕ) → rank (suc x) ≡ rank x + (if T x then 1 else 0)) → (a n : ℕ)
    → ((x : ℕ) → T x ≡ true → after (rank x) ≡ test x) → ((x : ℕ) → x < a + n → test x ≡ true → T x ≡ true)
    → filter after (range_with_len (rank a) (length (filter T (range_with_len a n)))) ≡ map rank (filter test (range_with_len a n))
numbered T test after rank next a zero same kept = refl
numbered T test after rank next a (suc n) same kept =
    by (T a) (test a) refl refl (numbered T test after rank next (a + 1) n same (λ x low. kept x (omega (arith, low))))
  where
    rest : List ℕ
    rest = filter T (range_with_len (a + 1) n)

    left : List ℕ
    left = filter test (range_with_len (a + 1) n)

    after_next : (k : ℕ) → rank a + (if T a then 1 else 0) ≡ k → rank (a + 1) ≡ k
    after_next k e = let z : a + 1 ≡ suc a = omega arith in ap rank z ∙ next a ∙ e

    by : (b c : Bool) → T a ≡ b → test a ≡ c → filter after (range_with_len (rank (a + 1)) (length rest)) ≡ map rank left
        → filter after (range_with_len (rank a) (length (cond b (a ∷ rest) rest))) ≡ map rank (cond c (a ∷ left) left)
    by true c e f r =
        let step : rank (a + 1) ≡ rank a + 1 = after_next (rank a + 1) (ap (λ (t : Bool). rank a + (if t then 1 else 0)) e) in
        let r' : filter after (range_with_len (rank a + 1) (length rest)) ≡ map rank left = ap (λ (k : ℕ). filter after (range_with_len k (length rest))) (sym step) ∙ r in
        ap (λ (t : Bool). cond t (rank a ∷ filter after (range_with_len (rank a + 1) (length rest))) (filter after (range_with_len (rank a + 1) (length rest)))) (same a e ∙ f)
        ∙ ap (λ ys. cond c (rank a ∷ ys) ys) r' ∙ out c
      where
        out : (c : Bool) → cond c (rank a ∷ map rank left) (map rank left) ≡ map rank (cond c (a ∷ left) left)
        out true = refl
        out false = refl
    by false true e f r = absurd (true≢false (sym (kept a (omega arith) f) ∙ e))
    by false false e f r =
        let step : rank (a + 1) ≡ rank a = after_next (rank a) (let z : rank a + 0 ≡ rank a = omega arith in ap (λ (t : Bool). rank a + (if t then 1 else 0)) e ∙ z) in
        ap (λ (k : ℕ). filter after (range_with_len k (length rest))) (sym step) ∙ r

pub renumbered : (T test after : ℕ → Bool) (n : ℕ) → ((x : ℕ) → T x ≡ true → after (how_many_below x T) ≡ test x) → ((x : ℕ) → x < n → test x ≡ true → T x ≡ true)
    → filter after (range_with_len 0 (length (filter T (range_with_len 0 n)))) ≡ map (λ x. how_many_below x T) (filter test (range_with_len 0 n))
renumbered T test after n same kept = numbered T test after (λ x. how_many_below x T) (rank_next T) 0 n same (λ x low. kept x (omega (arith, low)))

-- ---- a map that keeps the order of some numbers keeps their tests

module _ (S : ℕ → Type 0) (F : ℕ → ℕ) (grows : (v w : ℕ) → S v → S w → v < w → F v < F w) where
  pub eq_kept : (x y : ℕ) → S x → S y → nat_eq (F x) (F y) ≡ nat_eq x y
  eq_kept x y a b = elim (cases_eq x y) [
    | inl e ↦ eq-eqb (F x) (F y) (ap F e) ∙ sym (eq-eqb x y e)
    | inr d ↦
        ne_eqb (F x) (F y)
        (λ e. elim (cases_lt x y) [ inl l ↦ omega (arith, grows x y a b l, e) | inr h ↦ elim (cases_lt y x) [ inl l ↦ omega (arith, grows y x b a l, e) | inr k ↦ d (omega arith) ] ])
        ∙ sym (ne_eqb x y d)
  ]

  less_kept : (x y : ℕ) → S x → S y → nat_lt (F x) (F y) ≡ nat_lt x y
  less_kept x y a b = elim (cases_lt x y) [
    | inl l ↦ lt-ltb (F x) (F y) (grows x y a b l) ∙ sym (lt-ltb x y l)
    | inr h ↦ le-ltb (F x) (F y) (elim (cases_lt y x) [ inl l ↦ (let z = grows y x b a l in omega arith) | inr k ↦ (let e : x ≡ y = omega arith in omega (arith, ap F e)) ]) ∙ sym (le-ltb x y h)
  ]

  lesser_kept : (y z : ℕ) → S y → S z → lesser (F y) (F z) ≡ F (lesser y z)
  lesser_kept y z a b = ap (λ (t : Bool). if t then F z else F y) (less_kept z y b a) ∙ by (nat_lt z y)
    where
      by : (t : Bool) → (if t then F z else F y) ≡ F (if t then z else y)
      by true = refl
      by false = refl

  merged_kept : (x y z : ℕ) → S x → S y → S z
      → ((if nat_eq (F x) (F y) || nat_eq (F x) (F z) then lesser (F y) (F z) else F x) ≡ F (if nat_eq x y || nat_eq x z then lesser y z else x))
      × S (if nat_eq x y || nat_eq x z then lesser y z else x)
  merged_kept x y z a b c = (
    ap (λ (t : Bool). if t || nat_eq (F x) (F z) then lesser (F y) (F z) else F x) (eq_kept x y a b)
        ∙ ap (λ (t : Bool). if nat_eq x y || t then lesser (F y) (F z) else F x) (eq_kept x z a c)
        ∙ ap (λ n. if nat_eq x y || nat_eq x z then n else F x) (lesser_kept y z b c)
        ∙ by (nat_eq x y || nat_eq x z),
    within (nat_eq x y || nat_eq x z),
  )
    where
      by : (t : Bool) → (if t then F (lesser y z) else F x) ≡ F (if t then lesser y z else x)
      by true = refl
      by false = refl

      least : (t : Bool) → S (if t then z else y)
      least true = c
      least false = b

      within : (t : Bool) → S (if t then lesser y z else x)
      within true = least (nat_lt z y)
      within false = a

  -- the labels of lines follow them
  module _ (rows R : ℕ) (loc : ℕ × ℕ → ℕ × ℕ) where
    abbrev pub Follows : ℕ × ℕ → Type 0
    Follows p = S p.0 × S (rows + p.1) × ((loc p).0 ≡ F p.0) × (R + (loc p).1 ≡ F (rows + p.1))

    pub label_follows : (ps : List (ℕ × ℕ)) → AllByRecursion Follows ps → (v : ℕ) → S v → (label R (map loc ps) (F v) ≡ F (label rows ps v)) × S (label rows ps v)
    label_follows [] all v s = (refl, s)
    label_follows (p ∷ ps) all v s =
        let g' = label R (map loc ps) in
        let g = label rows ps in
        let (x, sx) = label_follows ps all.1 v s in
        let (y, sy) = label_follows ps all.1 p.0 all.0.0 in
        let (z, sz) = label_follows ps all.1 (rows + p.1) all.0.1 in
        let (e, t) = merged_kept (g v) (g p.0) (g (rows + p.1)) sx sy sz in
        let y' : g' (loc p).0 ≡ F (g p.0) = ap g' all.0.2 ∙ y in
        let z' : g' (R + (loc p).1) ≡ F (g (rows + p.1)) = ap g' all.0.3 ∙ z in
        ((λ i. if nat_eq (x i) (y' i) || nat_eq (x i) (z' i) then lesser (y' i) (z' i) else x i) ∙ e, t)

-- ---- a list of crossings, and the shape of the lines that it meets

module _ (rows cols : ℕ) (cross : List (ℕ × ℕ)) (within : IsWithin rows cols cross) where
  abbrev inside : AllByRecursion (λ p. (p.0 < rows) × (p.1 < cols)) cross
  inside = inside_of rows cols cross within

  abbrev pub row_rank : ℕ → ℕ
  row_rank x = how_many_below x (has_row cross)

  abbrev pub column_rank : ℕ → ℕ
  column_rank x = how_many_below x (has_column cross)

  -- the rows, and the columns, that there are
  abbrev pub R : ℕ
  R = length (part_rows rows cross)

  abbrev pub C : ℕ
  C = length (part_columns cols cross)

  pub rows_are : R ≡ row_rank rows
  rows_are = sym (counted (has_row cross) (range_with_len 0 rows))

  abbrev pub loc : ℕ × ℕ → ℕ × ℕ
  loc = local_crossing cross

  -- a line with a crossing
  abbrev S : ℕ → Type 0
  S v = ((v < rows) × (has_row cross v ≡ true)) ⊎ ((rows ≤ v) × (has_column cross (v - rows) ≡ true))

  abbrev F : ℕ → ℕ
  F v = if nat_lt v rows then row_rank v else R + column_rank (v - rows)

  row_name : (v : ℕ) → v < rows → F v ≡ row_rank v
  row_name v low = cond-true (nat_lt v rows) (row_rank v) (R + column_rank (v - rows)) (lt-ltb v rows low)

  column_name : (v : ℕ) → rows ≤ v → F v ≡ R + column_rank (v - rows)
  column_name v high = cond-false (nat_lt v rows) (row_rank v) (R + column_rank (v - rows)) (le-ltb v rows high)

  grows : (v w : ℕ) → S v → S w → v < w → F v < F w
  grows v w (inl (a, s)) (inl (b, t)) less = omega (arith, row_name v a, row_name w b, rank_grows (has_row cross) v w s less)
  grows v w (inl (a, s)) (inr (b, t)) less = omega (arith, row_name v a, column_name w b, rank_grows (has_row cross) v rows s a, rows_are)
  grows v w (inr (a, s)) (inl (b, t)) less = absurd (omega arith)
  grows v w (inr (a, s)) (inr (b, t)) less = omega (arith, column_name v a, column_name w b, rank_grows (has_column cross) (v - rows) (w - rows) s (omega arith))

  abbrev pub Mine : ℕ × ℕ → Type 0
  Mine p = (p.0 < rows) × (p.1 < cols) × (has_row cross p.0 ≡ true) × (has_column cross p.1 ≡ true)

  pub mine : AllByRecursion Mine cross
  mine = all_three cross inside (keys_found (λ p. p.0) cross) (keys_found (λ p. p.1) cross)
    where
      all_three : (xs : List (ℕ × ℕ)) → AllByRecursion (λ p. (p.0 < rows) × (p.1 < cols)) xs → AllByRecursion (λ p. has_row cross p.0 ≡ true) xs → AllByRecursion (λ p. has_column cross p.1 ≡ true) xs → AllByRecursion Mine xs
      all_three [] a b c = tt
      all_three (x ∷ xs) a b c = ((a.0.0, a.0.1, b.0, c.0), all_three xs a.1 b.1 c.1)

  column_there : (c : ℕ) → has_column cross c ≡ true → S (rows + c)
  column_there c h = let e : c ≡ rows + c - rows = omega arith in inr (omega arith, ap (has_column cross) (sym e) ∙ h)

  followed : (p : ℕ × ℕ) → Mine p → Follows S F grows rows R loc p
  followed p m =
      let e : rows + p.1 - rows ≡ p.1 = omega arith in (
        inl (m.0, m.2),
        column_there p.1 m.3,
        sym (row_name p.0 m.0),
        sym (column_name (rows + p.1) (omega arith) ∙ ap (λ (k : ℕ). R + column_rank k) e),
      )

  labels : (v : ℕ) → S v → (label R (map loc cross) (F v) ≡ F (label rows cross v)) × S (label rows cross v)
  labels = label_follows S F grows rows R loc cross (all_by Mine (Follows S F grows rows R loc) followed cross mine)

  -- of a crossing, the name of its part
  part_named : (p : ℕ × ℕ) → Mine p → (label R (map loc cross) (loc p).0 ≡ row_rank (label rows cross p.0)) × (label rows cross p.0 < rows) × (has_row cross (label rows cross p.0) ≡ true)
  part_named p m =
      let (e, s) = labels p.0 (inl (m.0, m.2)) in
      let low : label rows cross p.0 < rows = omega (arith, label_low rows cross p.0, m.0) in (
        ap (label R (map loc cross)) (sym (row_name p.0 m.0)) ∙ e ∙ row_name (label rows cross p.0) low,
        low,
        elim s [ inl h ↦ h.1 | inr h ↦ absurd (omega (arith, h.0, low)) ],
      )

  row_eq : (x y : ℕ) → x < rows → y < rows → has_row cross x ≡ true → has_row cross y ≡ true → nat_eq (row_rank x) (row_rank y) ≡ nat_eq x y
  row_eq x y a b s t = ap (λ (k : ℕ). nat_eq k (row_rank y)) (sym (row_name x a)) ∙ ap (λ (k : ℕ). nat_eq (F x) k) (sym (row_name y b)) ∙ eq_kept S F grows x y (inl (a, s)) (inl (b, t))

  column_eq : (x y : ℕ) → has_column cross x ≡ true → has_column cross y ≡ true → nat_eq (column_rank x) (column_rank y) ≡ nat_eq x y
  column_eq x y s t = eq_kept (λ z. has_column cross z ≡ true) column_rank (λ v w a b less. rank_grows (has_column cross) v w a less) x y s t

  pub row_low : (x : ℕ) → has_row cross x ≡ true → x < rows
  row_low x h = any_from (λ p. (p.0 < rows) × (p.1 < cols)) (x < rows) (λ p. nat_eq p.0 x) cross inside (λ p m e. omega (arith, m.0, eqb-true p.0 x e)) h

  -- ---- some of the crossings

  module _ (part : List (ℕ × ℕ)) (all : AllByRecursion Mine part) where
    pub row_kept : (x : ℕ) → has_row cross x ≡ true → has_row (map loc part) (row_rank x) ≡ has_row part x
    row_kept x h =
        any_mapped (λ p. nat_eq p.0 (row_rank x)) loc part
        ∙ any_same (λ p. nat_eq (row_rank p.0) (row_rank x)) (λ p. nat_eq p.0 x) part
        (all_by Mine (λ p. nat_eq (row_rank p.0) (row_rank x) ≡ nat_eq p.0 x) (λ p m. row_eq p.0 x m.0 (row_low x h) m.2 h) part all)

    pub column_kept : (x : ℕ) → has_column cross x ≡ true → has_column (map loc part) (column_rank x) ≡ has_column part x
    column_kept x h =
        any_mapped (λ p. nat_eq p.1 (column_rank x)) loc part
        ∙ any_same (λ p. nat_eq (column_rank p.1) (column_rank x)) (λ p. nat_eq p.1 x) part
        (all_by Mine (λ p. nat_eq (column_rank p.1) (column_rank x) ≡ nat_eq p.1 x) (λ p m. column_eq p.1 x m.3 h) part all)

    row_of_all : (x : ℕ) → has_row part x ≡ true → has_row cross x ≡ true
    row_of_all x h = any_from Mine (has_row cross x ≡ true) (λ p. nat_eq p.0 x) part all (λ p m e. ap (has_row cross) (sym (eqb-true p.0 x e)) ∙ m.2) h

    column_of_all : (x : ℕ) → has_column part x ≡ true → has_column cross x ≡ true
    column_of_all x h = any_from Mine (has_column cross x ≡ true) (λ p. nat_eq p.1 x) part all (λ p m e. ap (has_column cross) (sym (eqb-true p.1 x e)) ∙ m.3) h

    rows_again : (n : ℕ) → filter (has_row (map loc part)) (range_with_len 0 (length (filter (has_row cross) (range_with_len 0 n)))) ≡ map row_rank (filter (has_row part) (range_with_len 0 n))
    rows_again n = renumbered (has_row cross) (has_row part) (has_row (map loc part)) n row_kept (λ x low. row_of_all x)

    columns_again : (n : ℕ) → filter (has_column (map loc part)) (range_with_len 0 (length (filter (has_column cross) (range_with_len 0 n)))) ≡ map column_rank (filter (has_column part) (range_with_len 0 n))
    columns_again n = renumbered (has_column cross) (has_column part) (has_column (map loc part)) n column_kept (λ x low. column_of_all x)

    as_many_rows : length (part_rows R (map loc part)) ≡ length (part_rows rows part)
    as_many_rows = ap length (rows_again rows) ∙ length-map (part_rows rows part) row_rank

    as_many_columns : length (part_columns C (map loc part)) ≡ length (part_columns cols part)
    as_many_columns = ap length (columns_again cols) ∙ length-map (part_columns cols part) column_rank

    row_again : (x : ℕ) → how_many_below (row_rank x) (has_row (map loc part)) ≡ how_many_below x (has_row part)
    row_again x =
        ap (λ (n : ℕ). how_many_below n (has_row (map loc part))) (counted (has_row cross) (range_with_len 0 x))
        ∙ counted (has_row (map loc part)) (range_with_len 0 (length (filter (has_row cross) (range_with_len 0 x))))
        ∙ ap length (rows_again x) ∙ length-map (filter (has_row part) (range_with_len 0 x)) row_rank
        ∙ sym (counted (has_row part) (range_with_len 0 x))

    column_again : (x : ℕ) → how_many_below (column_rank x) (has_column (map loc part)) ≡ how_many_below x (has_column part)
    column_again x =
        ap (λ (n : ℕ). how_many_below n (has_column (map loc part))) (counted (has_column cross) (range_with_len 0 x))
        ∙ counted (has_column (map loc part)) (range_with_len 0 (length (filter (has_column cross) (range_with_len 0 x))))
        ∙ ap length (columns_again x) ∙ length-map (filter (has_column part) (range_with_len 0 x)) column_rank
        ∙ sym (counted (has_column part) (range_with_len 0 x))

    local_again : local_part (map loc part) ≡ local_part part
    local_again = map_twice (local_crossing (map loc part)) loc part ∙ each part
      where
        each : (ps : List (ℕ × ℕ)) → map (λ p. local_crossing (map loc part) (loc p)) ps ≡ map (local_crossing part) ps
        each [] = refl
        each (p ∷ ps) = let a = row_again p.0 in let b = column_again p.1 in let rest = each ps in λ i. (a i, b i) ∷ rest i

    own_again : (inner : ℕ → ℕ → List (ℕ × ℕ) → Sort → ℕ) (t : Sort) → sum_of_part inner R C (map loc part) t ≡ sum_of_part inner rows cols part t
    own_again inner t = λ i. part_sum inner (as_many_rows i) (as_many_columns i) (local_again i) t

  -- ---- all parts

  name_kept : (x : ℕ) → has_row cross x ≡ true → (p : ℕ × ℕ) → Mine p → nat_eq (label R (map loc cross) (loc p).0) (row_rank x) ≡ nat_eq (label rows cross p.0) x
  name_kept x h p m =
      let (e, low, has) = part_named p m in
      ap (λ (k : ℕ). nat_eq k (row_rank x)) e ∙ row_eq (label rows cross p.0) x low (row_low x h) has h

  name_row : (x : ℕ) → list_any (λ p. nat_eq (label rows cross p.0) x) cross ≡ true → has_row cross x ≡ true
  name_row x h = any_from Mine (has_row cross x ≡ true) (λ p. nat_eq (label rows cross p.0) x) cross mine
      (λ p m e. let (f, low, has) = part_named p m in ap (has_row cross) (sym (eqb-true (label rows cross p.0) x e)) ∙ has) h

  names_again : part_names R (map loc cross) ≡ map row_rank (part_names rows cross)
  names_again = renumbered (has_row cross) (λ i. list_any (λ p. nat_eq (label rows cross p.0) i) cross) (λ i. list_any (λ p. nat_eq (label R (map loc cross) p.0) i) (map loc cross)) rows
      (λ x h. any_mapped (λ p. nat_eq (label R (map loc cross) p.0) (row_rank x)) loc cross
      ∙ any_same (λ p. nat_eq (label R (map loc cross) (loc p).0) (row_rank x)) (λ p. nat_eq (label rows cross p.0) x) cross
      (all_by Mine (λ p. nat_eq (label R (map loc cross) (loc p).0) (row_rank x) ≡ nat_eq (label rows cross p.0) x) (λ p m. name_kept x h p m) cross mine))
      (λ x low. name_row x)

  part_again : (i : ℕ) → has_row cross i ≡ true → part_at R (map loc cross) (row_rank i) ≡ map loc (part_at rows cross i)
  part_again i h = filter_mapped (λ p. nat_eq (label R (map loc cross) p.0) (row_rank i)) (λ p. nat_eq (label rows cross p.0) i) loc cross
      (all_by Mine (λ p. nat_eq (label R (map loc cross) (loc p).0) (row_rank i) ≡ nat_eq (label rows cross p.0) i) (name_kept i h) cross mine)

  mine_of : (i : ℕ) → AllByRecursion Mine (part_at rows cross i)
  mine_of i = all_by (λ p. (nat_eq (label rows cross p.0) i ≡ true) × Mine p) Mine (λ p m. m.1) (part_at rows cross i) (all_kept Mine (λ p. nat_eq (label rows cross p.0) i) cross mine)

  pub crossings_count : (t : Sort) → wait_sum rows cols cross t ≡ own_sum rows cols cross t
  crossings_count t =
      by_parts rows cols cross t
      ∙ sym (by_parts R C (map loc cross) t
      ∙ ap (sum_over (λ i. sum_of_part wait_sum R C (part_at R (map loc cross) i) t)) names_again
      ∙ sum_mapped (λ i. sum_of_part wait_sum R C (part_at R (map loc cross) i) t) row_rank (part_names rows cross)
      ∙ sum_all (λ i. sum_of_part wait_sum R C (part_at R (map loc cross) (row_rank i)) t) (λ i. sum_of_part wait_sum rows cols (part_at rows cross i) t) (part_names rows cross) each)
    where
      trivial : (xs : List ℕ) → AllByRecursion (λ (x : ℕ). Unit {0}) xs
      trivial [] = tt
      trivial (x ∷ xs) = (tt, trivial xs)

      each : AllByRecursion (λ i. sum_of_part wait_sum R C (part_at R (map loc cross) (row_rank i)) t ≡ sum_of_part wait_sum rows cols (part_at rows cross i) t) (part_names rows cross)
      each = all_by (λ i. (list_any (λ p. nat_eq (label rows cross p.0) i) cross ≡ true) × Unit {0})
          (λ i. sum_of_part wait_sum R C (part_at R (map loc cross) (row_rank i)) t ≡ sum_of_part wait_sum rows cols (part_at rows cross i) t)
          (λ i h. ap (λ ps. sum_of_part wait_sum R C ps t) (part_again i (name_row i h.0)) ∙ own_again (part_at rows cross i) (mine_of i) wait_sum t)
          (part_names rows cross)
          (all_kept (λ (x : ℕ). Unit {0}) (λ i. list_any (λ p. nat_eq (label rows cross p.0) i) cross) (range_with_len 0 rows) (trivial (range_with_len 0 rows)))
