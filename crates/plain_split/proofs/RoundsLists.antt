-- Lists for charts: what maps, filters and places keep.
use Rattle.std.specs.Prelude.{filter, if◌then◌else◌}
use Rattle.std.proofs.Common.{◌≡◌, ℕ, zero, suc, ◌+◌, ◌<◌, Bool, true, false, true≢false, List, [], ◌∷◌, map, length, get_or, inl, inr, refl, sym, ap, subst, ◌∙◌, arith}
use Rattle.std.specs.List.{AllByRecursion, range_with_len, position_or_len}
use Rattle.std.proofs.lemmas.List.Sums.{position_or_len_is}
use Rattle.basic_kinds.specs.Totals.{total}
use Rattle.basic_kinds.proofs.Totals.{total_same}
use Rattle.net_laws.proofs.Among.{Among, Distinct, distinct_at}
use Rattle.plain_split.proofs.RoundsPlan.{when}

module _ {A : Type 0} where
  pub all_of : (P : A → Type 0) (xs : List A) → ((x : A) → Among x xs → P x) → AllByRecursion P xs
  all_of P [] h = tt
  all_of P (x ∷ xs) h = (h x (inl refl), all_of P xs (λ y a. h y (inr a)))

  pub filter_among : (q : A → Bool) (xs : List A) (x : A) → Among x (filter q xs) → Among x xs × (q x ≡ true)
  filter_among q [] x a = absurd a
  filter_among q (y ∷ xs) x a = at (q y) refl a (filter_among q xs x)
    where
      at : (b : Bool) → q y ≡ b → Among x (if b then y ∷ filter q xs else filter q xs) → (Among x (filter q xs) → Among x xs × (q x ≡ true)) → Among x (y ∷ xs) × (q x ≡ true)
      at true e (inl z) f = (inl z, ap q z ∙ e)
      at true e (inr z) f = let (i, j) = f z in (inr i, j)
      at false e z f = let (i, j) = f z in (inr i, j)

  pub among_filter : (q : A → Bool) (xs : List A) (x : A) → Among x xs → q x ≡ true → Among x (filter q xs)
  among_filter q [] x a h = absurd a
  among_filter q (y ∷ xs) x a h = at (q y) refl a (λ z. among_filter q xs x z h)
    where
      at : (b : Bool) → q y ≡ b → Among x (y ∷ xs) → (Among x xs → Among x (filter q xs)) → Among x (if b then y ∷ filter q xs else filter q xs)
      at true e (inl z) f = inl z
      at true e (inr z) f = inr (f z)
      at false e (inl z) f = absurd (true≢false (sym h ∙ ap q z ∙ e))
      at false e (inr z) f = f z

  pub distinct_filter : (q : A → Bool) (xs : List A) → Distinct xs → Distinct (filter q xs)
  distinct_filter q [] d = tt
  distinct_filter q (y ∷ xs) d = at (q y) (distinct_filter q xs d.1)
    where
      at : (b : Bool) → Distinct (filter q xs) → Distinct (if b then y ∷ filter q xs else filter q xs)
      at true e = ((λ z. d.0 (filter_among q xs y z).0), e)
      at false e = e

-- the place of each member
pub place_at : {A : Type 0} (same : A → A → Bool) → ((x y : A) → same x y ≡ true → x ≡ y) → ((x : A) → same x x ≡ true) → (d : A) (xs : List A) → Distinct xs
    → (i : ℕ) → i < length xs → position_or_len (same (get_or xs i d)) xs ≡ i
place_at {A} same yes_same self d xs one i low = position_or_len_is (same (get_or xs i d)) xs i d (omega arith)
    (λ k less. other k less (same (get_or xs i d) (get_or xs k d)) refl) (λ h. self (get_or xs i d))
  where
    other : (k : ℕ) → k < i → (b : Bool) → same (get_or xs i d) (get_or xs k d) ≡ b → same (get_or xs i d) (get_or xs k d) ≡ false
    other k less false e = e
    other k less true e = let z : i ≡ k = distinct_at d xs one i k low (omega arith) (yes_same (get_or xs i d) (get_or xs k d) e) in absurd (omega arith)

by_places : {A : Type 0} (f : A → ℕ) (d : A) (xs : List A) (b : ℕ) → ((i : ℕ) → i < length xs → f (get_or xs i d) ≡ b + i) → map f xs ≡ range_with_len b (length xs)
by_places f d [] b h = refl
by_places f d (x ∷ xs) b h =
    let here : f x ≡ b = omega (arith, h 0 (omega arith)) in
    ap (λ n. n ∷ map f xs) here ∙ ap (λ l. b ∷ l) (by_places f d xs (b + 1) (λ i low. omega (arith, h (suc i) (omega arith))))

pub places_are : {A : Type 0} (same : A → A → Bool) → ((x y : A) → same x y ≡ true → x ≡ y) → ((x : A) → same x x ≡ true) → (d : A) (xs : List A) → Distinct xs
    → map (λ x. position_or_len (same x) xs) xs ≡ range_with_len 0 (length xs)
places_are same yes_same self d xs one =
    by_places (λ x. position_or_len (same x) xs) d xs 0 (λ i low. let z = place_at same yes_same self d xs one i low in omega arith)

pub map_among : {A B : Type 0} (f : A → B) (xs : List A) (y : B) → Among y (map f xs) → (x : A) × Among x xs × (y ≡ f x)
map_among f [] y a = absurd a
map_among f (x ∷ xs) y (inl e) = (x, inl refl, e)
map_among f (x ∷ xs) y (inr a) = let (z, b, e) = map_among f xs y a in (z, inr b, e)

pub among_map : {A B : Type 0} (f : A → B) (xs : List A) (x : A) → Among x xs → Among (f x) (map f xs)
among_map f [] x a = absurd a
among_map f (y ∷ xs) x (inl e) = inl (ap f e)
among_map f (y ∷ xs) x (inr a) = inr (among_map f xs x a)

pub distinct_map : {A B : Type 0} (f : A → B) (xs : List A) → ((x y : A) → Among x xs → Among y xs → f x ≡ f y → x ≡ y) → Distinct xs → Distinct (map f xs)
distinct_map f [] one d = tt
distinct_map f (x ∷ xs) one d = (
  (λ a. let (z, b, e) = map_among f xs (f x) a in d.0 (subst (λ y. Among y xs) (sym (one x z (inl refl) (inr b) e)) b)),
  distinct_map f xs (λ y z a b. one y z (inr a) (inr b)) d.1,
)

-- ---- sums along a list

pub sum_along : (ℕ → ℕ) → List ℕ → ℕ
sum_along f [] = 0
sum_along f (x ∷ xs) = f x + sum_along f xs

pub total_first : (k : ℕ) (u : ℕ → ℕ) → total (suc k) u ≡ u 0 + total k (λ i. u (suc i))
unfolding total
total_first zero u = omega arith
total_first (suc k) u = omega (arith, total_first k u)

pub along_total : (f u : ℕ → ℕ) (xs : List ℕ) → ((i : ℕ) → i < length xs → u i ≡ f (get_or xs i 0)) → total (length xs) u ≡ sum_along f xs
unfolding total sum_along
along_total f u [] h = refl
along_total f u (x ∷ xs) h = omega (arith, total_first (length xs) u, h 0 (omega arith), along_total f (λ i. u (suc i)) xs (λ i low. h (suc i) (omega arith)))

along_filter : (f : ℕ → ℕ) (q : ℕ → Bool) (a k : ℕ) → sum_along f (filter q (range_with_len a k)) ≡ total k (λ i. when (q (a + i)) (f (a + i)))
unfolding total sum_along
along_filter f q a zero = refl
along_filter f q a (suc k) =
    let z : a + 0 ≡ a = omega arith in
    let here : when (q (a + 0)) (f (a + 0)) ≡ when (q a) (f a) = ap (λ (i : ℕ). when (q i) (f i)) z in
    let shift : total k (λ i. when (q (a + 1 + i)) (f (a + 1 + i))) ≡ total k (λ i. when (q (a + suc i)) (f (a + suc i))) =
    total_same k (λ i. when (q (a + 1 + i)) (f (a + 1 + i))) (λ i. when (q (a + suc i)) (f (a + suc i)))
    (λ i low. let y : a + 1 + i ≡ a + suc i = omega arith in ap (λ (j : ℕ). when (q j) (f j)) y) in
    at (q a) refl ∙ omega (arith, total_first k (λ i. when (q (a + i)) (f (a + i))), along_filter f q (a + 1) k)
  where
    at : (b : Bool) → q a ≡ b → sum_along f (if b then a ∷ filter q (range_with_len (a + 1) k) else filter q (range_with_len (a + 1) k)) ≡ when (q a) (f a) + sum_along f (filter q (range_with_len (a + 1) k))
    at true e = let y : when (q a) (f a) ≡ f a = rw e refl in omega arith
    at false e = let y : when (q a) (f a) ≡ 0 = rw e refl in omega arith

pub along_passed : (f : ℕ → ℕ) (q : ℕ → Bool) (k : ℕ) → sum_along f (filter q (range_with_len 0 k)) ≡ total k (λ i. when (q i) (f i))
along_passed f q k = along_filter f q 0 k ∙ total_same k (λ i. when (q (0 + i)) (f (0 + i))) (λ i. when (q i) (f i))
    (λ i low. let y : 0 + i ≡ i = omega arith in ap (λ (j : ℕ). when (q j) (f j)) y)
