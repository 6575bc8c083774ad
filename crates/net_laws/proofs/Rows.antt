-- Wires and nodes in rows and blocks.
use Rattle.std.proofs.Common.{◌≡◌, ℕ, zero, suc, ◌+◌, ◌-◌, ◌*◌, ◌<◌, ◌≤◌, Bool, true, false, List, [], ◌∷◌, ◌++◌, map, length, get_or, replicate, ◌⊎◌, inl, inr, refl, sym, ap, subst, ◌∙◌, arith, length-append}
use Rattle.std.specs.List.{AllByRecursion, range_with_len}
use Rattle.std.proofs.lemmas.Bool.{cases_lt}
use Rattle.std.proofs.lemmas.List.{map-append, get_or_append_left, get_or-append_right}
use Rattle.std.proofs.lemmas.List.FromFn.{length-map-range_with_len, get_or-map-range_with_len}
use Rattle.net_laws.proofs.Among.{Among, Distinct}
use Rattle.net_laws.proofs.Routes.{Joined}

-- f 0, .., f (k - 1)
abbrev pub row : {A : Type 0} → (ℕ → A) → ℕ → List A
row f k = map f (range_with_len 0 k)

-- ---- members of a row

among_from : {A : Type 0} (f : ℕ → A) (a k : ℕ) (x : A) → Among x (map f (range_with_len a k)) → (i : ℕ) × (a ≤ i) × (i < a + k) × (x ≡ f i)
among_from f a zero x h = absurd h
among_from f a (suc k) x (inl e) = (a, omega arith, omega arith, e)
among_from f a (suc k) x (inr h) = let (i, low, high, e) = among_from f (a + 1) k x h in (i, omega arith, omega arith, e)

pub among_row : {A : Type 0} (f : ℕ → A) (k : ℕ) (x : A) → Among x (row f k) → (i : ℕ) × (i < k) × (x ≡ f i)
among_row f k x h = let (i, low, high, e) = among_from f 0 k x h in (i, omega arith, e)

from_among : {A : Type 0} (f : ℕ → A) (a k i : ℕ) → a ≤ i → i < a + k → Among (f i) (map f (range_with_len a k))
from_among f a zero i low high = absurd (omega arith)
from_among f a (suc k) i low high = elim (cases_lt i (a + 1)) [
  | inl less ↦ let e : i ≡ a = omega arith in inl (ap f e)
  | inr more ↦ inr (from_among f (a + 1) k i more (omega arith))
]

pub row_among : {A : Type 0} (f : ℕ → A) (k i : ℕ) → i < k → Among (f i) (row f k)
row_among f k i h = from_among f 0 k i (omega arith) (omega arith)

from_all : {A : Type 0} (P : A → Type 0) (f : ℕ → A) (a k : ℕ) → ((i : ℕ) → a ≤ i → i < a + k → P (f i)) → AllByRecursion P (map f (range_with_len a k))
from_all P f a zero h = tt
from_all P f a (suc k) h = (h a (omega arith) (omega arith), from_all P f (a + 1) k (λ i low high. h i (omega arith) (omega arith)))

pub row_all : {A : Type 0} (P : A → Type 0) (f : ℕ → A) (k : ℕ) → ((i : ℕ) → i < k → P (f i)) → AllByRecursion P (row f k)
row_all P f k h = from_all P f 0 k (λ i low high. h i (omega arith))

from_distinct : {A : Type 0} (f : ℕ → A) → ((i j : ℕ) → f i ≡ f j → i ≡ j) → (a k : ℕ) → Distinct (map f (range_with_len a k))
from_distinct f one a zero = tt
from_distinct f one a (suc k) = (
  (λ h. let (i, low, high, e) = among_from f (a + 1) k (f a) h in let z : a ≡ i = one a i e in omega arith),
  from_distinct f one (a + 1) k,
)

pub distinct_row : {A : Type 0} (f : ℕ → A) → ((i j : ℕ) → f i ≡ f j → i ≡ j) → (k : ℕ) → Distinct (row f k)
distinct_row f one k = from_distinct f one 0 k

-- ---- the numbers of a row

number_from : {A : Type 0} (number : A → ℕ) (f : ℕ → A) (a b k : ℕ) → ((i : ℕ) → a ≤ i → i < a + k → number (f i) + a ≡ b + i)
    → map number (map f (range_with_len a k)) ≡ range_with_len b k
number_from number f a b zero h = refl
number_from number f a b (suc k) h =
    let here : number (f a) ≡ b = omega (arith, h a (omega arith) (omega arith)) in
    ap (λ v. v ∷ map number (map f (range_with_len (a + 1) k))) here
    ∙ ap (λ vs. b ∷ vs) (number_from number f (a + 1) (b + 1) k (λ i low high. omega (arith, h i (omega arith) (omega arith))))

pub number_row : {A : Type 0} (number : A → ℕ) (f : ℕ → A) (b k : ℕ) → ((i : ℕ) → i < k → number (f i) ≡ b + i) → map number (row f k) ≡ range_with_len b k
number_row number f b k h = number_from number f 0 b k (λ i low high. omega (arith, h i (omega arith)))

pub range_both : (a k l : ℕ) → range_with_len a k ++ range_with_len (a + k) l ≡ range_with_len a (k + l)
range_both a zero l =
    let e : a + 0 ≡ a = omega arith in let f : l ≡ 0 + l = omega arith in
    ap (λ b. range_with_len b l) e ∙ ap (range_with_len a) f
range_both a (suc k) l =
    let e : a + suc k ≡ a + 1 + k = omega arith in let f : suc (k + l) ≡ suc k + l = omega arith in
    ap (λ b. a ∷ (range_with_len (a + 1) k ++ range_with_len b l)) e ∙ ap (λ vs. a ∷ vs) (range_both (a + 1) k l) ∙ ap (range_with_len a) f

-- ---- lists one after the other

pub among_left : {A : Type 0} (x : A) (xs ys : List A) → Among x xs → Among x (xs ++ ys)
among_left x [] ys h = absurd h
among_left x (y ∷ xs) ys (inl e) = inl e
among_left x (y ∷ xs) ys (inr h) = inr (among_left x xs ys h)

pub among_right : {A : Type 0} (x : A) (xs ys : List A) → Among x ys → Among x (xs ++ ys)
among_right x [] ys h = h
among_right x (y ∷ xs) ys h = inr (among_right x xs ys h)

pub among_either : {A : Type 0} (x : A) (xs ys : List A) → Among x (xs ++ ys) → Among x xs ⊎ Among x ys
among_either x [] ys h = inr h
among_either x (y ∷ xs) ys (inl e) = inl (inl e)
among_either x (y ∷ xs) ys (inr h) = elim (among_either x xs ys h) [ inl a ↦ inl (inr a) | inr b ↦ inr b ]

pub all_both : {A : Type 0} (P : A → Type 0) (xs ys : List A) → AllByRecursion P xs → AllByRecursion P ys → AllByRecursion P (xs ++ ys)
all_both P [] ys a b = b
all_both P (x ∷ xs) ys a b = (a.0, all_both P xs ys a.1 b)

pub distinct_both : {A : Type 0} (xs ys : List A) → Distinct xs → Distinct ys → ((x : A) → Among x xs → Among x ys → ⊥) → Distinct (xs ++ ys)
distinct_both [] ys a b apart = b
distinct_both (x ∷ xs) ys a b apart = (
  (λ h. elim (among_either x xs ys h) [ inl i ↦ a.0 i | inr i ↦ apart x (inl refl) i ]),
  distinct_both xs ys a.1 b (λ z i j. apart z (inr i) j),
)

-- ---- k rows of m, one after the other

abbrev pub rows : {A : Type 0} → (ℕ → ℕ → A) → ℕ → ℕ → List A
rows f zero m = []
rows f (suc k) m = rows f k m ++ row (f k) m

-- a place in the rows before the last
pub block_low : (k m i j : ℕ) → i < k → j < m → i * m + j < k * m
block_low zero m i j h l = absurd (omega arith)
block_low (suc k) m i j h l = elim (cases_lt i k) [
  | inl less ↦ omega (arith, block_low k m i j less l)
  | inr last ↦ let e : i ≡ k = omega arith in omega (arith, ap (λ z. z * m) e)
]

pub block_of : (k m q : ℕ) → q < k * m → (i : ℕ) × (j : ℕ) × (i < k) × (j < m) × (q ≡ i * m + j)
block_of zero m q h = absurd (omega arith)
block_of (suc k) m q h = elim (cases_lt q (k * m)) [
  | inl less ↦ let (i, j, low, in_row, e) = block_of k m q less in (i, j, omega arith, in_row, e)
  | inr more ↦ (k, q - k * m, omega arith, omega arith, omega arith)
]

module _ {A : Type 0} (f : ℕ → ℕ → A) (m : ℕ) where
  pub rows_long : (k : ℕ) → length (rows f k m) ≡ k * m
  rows_long zero = omega arith
  rows_long (suc k) = length-append (rows f k m) (row (f k) m) ∙ omega (arith, rows_long k, length-map-range_with_len (f k) 0 m)

  pub among_rows : (k : ℕ) (x : A) → Among x (rows f k m) → (i : ℕ) × (j : ℕ) × (i < k) × (j < m) × (x ≡ f i j)
  among_rows zero x h = absurd h
  among_rows (suc k) x h = elim (among_either x (rows f k m) (row (f k) m) h) [
    | inl a ↦ let (i, j, low, in_row, e) = among_rows k x a in (i, j, omega arith, in_row, e)
    | inr b ↦ let (j, in_row, e) = among_row (f k) m x b in (k, j, omega arith, in_row, e)
  ]

  pub rows_among : (k i j : ℕ) → i < k → j < m → Among (f i j) (rows f k m)
  rows_among zero i j h l = absurd (omega arith)
  rows_among (suc k) i j h l = elim (cases_lt i k) [
    | inl less ↦ among_left (f i j) (rows f k m) (row (f k) m) (rows_among k i j less l)
    | inr last ↦
        let e : k ≡ i = omega arith in
        subst (λ z. Among (f z j) (rows f k m ++ row (f k) m)) e (among_right (f k j) (rows f k m) (row (f k) m) (row_among (f k) m j l))
  ]

  pub rows_all : (P : A → Type 0) (k : ℕ) → ((i j : ℕ) → i < k → j < m → P (f i j)) → AllByRecursion P (rows f k m)
  rows_all P zero h = tt
  rows_all P (suc k) h = all_both P (rows f k m) (row (f k) m) (rows_all P k (λ i j low l. h i j (omega arith) l)) (row_all P (f k) m (λ j l. h k j (omega arith) l))

  pub distinct_rows : ((i j a b : ℕ) → f i j ≡ f a b → (i ≡ a) × (j ≡ b)) → (k : ℕ) → Distinct (rows f k m)
  distinct_rows one zero = tt
  distinct_rows one (suc k) =
      distinct_both (rows f k m) (row (f k) m) (distinct_rows one k) (distinct_row (f k) (λ i j e. (one k i k j e).1) m)
      (λ x a b.
      let (i, j, low, in_row, e) = among_rows k x a in
      let (l, in_last, g) = among_row (f k) m x b in
      let same : i ≡ k = (one i j k l (sym e ∙ g)).0 in
      absurd (omega arith))

  pub number_rows : (number : A → ℕ) (b k : ℕ) → ((i j : ℕ) → i < k → j < m → number (f i j) ≡ b + (i * m + j)) → map number (rows f k m) ≡ range_with_len b (k * m)
  number_rows number b zero h = ap (range_with_len b) (let z : 0 ≡ zero * m = omega arith in z)
  number_rows number b (suc k) h =
      map-append number (rows f k m) (row (f k) m)
      ∙ ap (λ l. l ++ map number (row (f k) m)) (number_rows number b k (λ i j low l. h i j (omega arith) l))
      ∙ ap (λ l. range_with_len b (k * m) ++ l) (number_row number (f k) (b + k * m) m (λ j l. omega (arith, h k j (omega arith) l)))
      ∙ range_both b (k * m) m ∙ ap (range_with_len b) (let z : k * m + m ≡ suc k * m = omega arith in z)

  pub rows_at : (d : A) (k i j : ℕ) → i < k → j < m → get_or (rows f k m) (i * m + j) d ≡ f i j
  rows_at d zero i j h l = absurd (omega arith)
  rows_at d (suc k) i j h l = elim (cases_lt i k) [
    | inl less ↦
        get_or_append_left (rows f k m) (row (f k) m) d (i * m + j) (omega (arith, rows_long k, block_low k m i j less l)) ∙ rows_at d k i j less l
    | inr last ↦
        let e : i ≡ k = omega arith in
        let place : i * m + j - k * m ≡ j = omega (arith, ap (λ z. z * m) e) in
        get_or-append_right (rows f k m) (row (f k) m) (k * m) (i * m + j) d (rows_long k) (omega (arith, ap (λ z. z * m) e))
        ∙ ap (λ q. get_or (row (f k) m) q d) place
        ∙ get_or-map-range_with_len (f k) 0 m j j d l (omega arith) ∙ ap (λ z. f z j) (sym e)
  ]

-- ---- ports of one direction

module _ {N W : Type 0} (f g : W → N) (n : N) where
  pub joined_outs : (k : ℕ) (ws : List W) → length ws ≡ k → AllByRecursion (λ w. f w ≡ n) ws → Joined f g n (replicate k true) ws
  joined_outs zero [] e all = tt
  joined_outs zero (w ∷ ws) e all = absurd (omega arith)
  joined_outs (suc k) [] e all = absurd (omega arith)
  joined_outs (suc k) (w ∷ ws) e all = (all.0, joined_outs k ws (omega arith) all.1)

  pub joined_ins : (k : ℕ) (ws : List W) → length ws ≡ k → AllByRecursion (λ w. g w ≡ n) ws → Joined f g n (replicate k false) ws
  joined_ins zero [] e all = tt
  joined_ins zero (w ∷ ws) e all = absurd (omega arith)
  joined_ins (suc k) [] e all = absurd (omega arith)
  joined_ins (suc k) (w ∷ ws) e all = (all.0, joined_ins k ws (omega arith) all.1)

  pub joined_both : (bs cs : List Bool) (vs ws : List W) → Joined f g n bs vs → Joined f g n cs ws → Joined f g n (bs ++ cs) (vs ++ ws)
  joined_both [] cs [] ws a b = b
  joined_both [] cs (v ∷ vs) ws a b = absurd a
  joined_both (d ∷ bs) cs [] ws a b = absurd a
  joined_both (true ∷ bs) cs (v ∷ vs) ws a b = (a.0, joined_both bs cs vs ws a.1 b)
  joined_both (false ∷ bs) cs (v ∷ vs) ws a b = (a.0, joined_both bs cs vs ws a.1 b)
