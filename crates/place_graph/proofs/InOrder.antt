-- A sorted list of crossings is the one that holds the same crossings in order.
use Rattle.std.proofs.Common.{◌≡◌, ⊎_elim, ℕ, zero, suc, ◌+◌, ◌<◌, ◌≤◌, Bool, true, false, true≢false, cond, ◌&&◌, nat_eq, List, [], ◌∷◌, length, get_or, refl, sym, ap, ◌∙◌, subst, arith, if◌then◌else◌, lt-ltb, le-ltb, eq-eqb, eqb-true, IsPermutation}
use Rattle.std.specs.Prelude.{⊤}
use Rattle.std.specs.List.{AllByRecursion}
use Rattle.std.specs.List.Sorted.{IsSortedBy}
use Rattle.std.specs.Cmp.{IsTotalOrder, IsStrictWeakOrder}
use Rattle.std.specs.Ordering.{nat_cmp, ordering_then, is_lt}
use Rattle.std.specs.declared.cmp.Ordering.{Ordering}
use Rattle.std.specs.declared.cmp.Ordering.TheVariants.{Less, Equal, Greater}
use Rattle.std.proofs.lemmas.Bool.{cases_Bool, cases_order, and_from, and_parts}
use Rattle.std.proofs.lemmas.Cmp.{nat_cmp_total, on_total, then_total}
use Rattle.std.proofs.lemmas.List.Sorted.{ranks_by, sorted_far, sum_by-IsPermutation}
use Rattle.std.proofs.lemmas.List.Recursion.{is_sum_by}
use Rattle.place_graph.specs.declared.wait_graph.Cross.{Cross}
use Rattle.place_graph.specs.Graph.{order, is_before, put, in_order}

order_total : IsTotalOrder order
order_total = then_total (on_total (λ (c : Cross). c.wait) nat_cmp_total)
    (then_total (on_total (λ (c : Cross). c.burst) nat_cmp_total)
    (on_total (λ (c : Cross). c.act) nat_cmp_total))

ranked : IsStrictWeakOrder is_before
ranked = ranks_by order_total (λ c. c)

-- ---- crossings of which neither is before the other are one

less : (m n : ℕ) → m < n → nat_cmp m n ≡ Less
less m n h = ap (λ b. cond b Less (cond (nat_eq m n) Equal Greater)) (lt-ltb m n h)

equal : (m n : ℕ) → m ≡ n → nat_cmp m n ≡ Equal
equal m n h = ap (λ b. cond b Less (cond (nat_eq m n) Equal Greater)) (le-ltb m n (omega arith))
    ∙ ap (λ b. cond b Equal Greater) (eq-eqb m n h)

-- the first numbers are equal, or the test tells
tied : (m n : ℕ) (o p : Ordering) → is_lt (ordering_then (nat_cmp m n) o) ≡ false
    → is_lt (ordering_then (nat_cmp n m) p) ≡ false → (m ≡ n) × (is_lt o ≡ false) × (is_lt p ≡ false)
tied m n o p h k = ⊎_elim
    (λ e. (
      e,
      ap (λ x. is_lt (ordering_then x o)) (sym (equal m n e))
          ∙ h,
      ap (λ x. is_lt (ordering_then x p)) (sym (equal n m (sym e))) ∙ k,
    ))
    (λ s. ⊎_elim
    (λ l. absurd (true≢false (ap (λ x. is_lt (ordering_then x o)) (sym (less m n l)) ∙ h)))
    (λ l. absurd (true≢false (ap (λ x. is_lt (ordering_then x p)) (sym (less n m l)) ∙ k)))
    s)
    (cases_order m n)

last_tied : (m n : ℕ) → is_lt (nat_cmp m n) ≡ false → is_lt (nat_cmp n m) ≡ false → m ≡ n
last_tied m n h k = ⊎_elim
    (λ e. e)
    (λ s. ⊎_elim
    (λ l. absurd (true≢false (ap is_lt (sym (less m n l)) ∙ h)))
    (λ l. absurd (true≢false (ap is_lt (sym (less n m l)) ∙ k)))
    s)
    (cases_order m n)

one : (a b : Cross) → is_before a b ≡ false → is_before b a ≡ false → a ≡ b
one a b h k =
    let w = tied a.wait b.wait (ordering_then (nat_cmp a.burst b.burst) (nat_cmp a.act b.act))
    (ordering_then (nat_cmp b.burst a.burst) (nat_cmp b.act a.act)) h k in
    let u = tied a.burst b.burst (nat_cmp a.act b.act) (nat_cmp b.act a.act) w.1 w.2 in
    let v = last_tied a.act b.act u.1 u.2 in
    λ i. record { wait = w.0 i; burst = u.0 i; act = v i }

-- ---- how often a crossing stands in a list

same : Cross → Cross → Bool
same a b = nat_eq a.wait b.wait && nat_eq a.burst b.burst && nat_eq a.act b.act

same_self : (a : Cross) → same a a ≡ true
unfolding same
same_self a = and_from (nat_eq a.wait a.wait && nat_eq a.burst a.burst) (nat_eq a.act a.act)
    (and_from (nat_eq a.wait a.wait) (nat_eq a.burst a.burst) (eq-eqb a.wait a.wait refl)
    (eq-eqb a.burst a.burst refl)) (eq-eqb a.act a.act refl)

same_true : (a b : Cross) → same a b ≡ true → a ≡ b
unfolding same
same_true a b h =
    let x = and_parts (nat_eq a.wait b.wait && nat_eq a.burst b.burst) (nat_eq a.act b.act) h in
    let y = and_parts (nat_eq a.wait b.wait) (nat_eq a.burst b.burst) x.0 in
    λ i. record {
      wait = eqb-true a.wait b.wait y.0 i;
      burst = eqb-true a.burst b.burst y.1 i;
      act = eqb-true
          a.act b.act x.1 i;
    }

weigh : Cross → Cross → ℕ
weigh c x = cond (same c x) 1 0

weigh_self : (c : Cross) → weigh c c ≡ 1
unfolding weigh
weigh_self c = ap (λ b. cond b 1 0) (same_self c)

weigh_same : (c x : Cross) → 0 < weigh c x → c ≡ x
unfolding weigh
weigh_same c x h = by (same c x) refl h
  where
    by : (b : Bool) → same c x ≡ b → 0 < cond b 1 0 → c ≡ x
    by true e l = same_true c x e
    by false e l = absurd (omega (arith, l))

many : Cross → List Cross → ℕ
many c [] = 0
many c (x ∷ xs) = weigh c x + many c xs

many_permuted : (c : Cross) (xs ys : List Cross) → IsPermutation xs ys → many c ys ≡ many c xs
unfolding many
many_permuted c xs ys h = is_sum_by (many c) (weigh c) refl (λ x zs. refl) ys
    ∙ sum_by-IsPermutation (weigh c) xs ys h ∙ sym (is_sum_by (many c) (weigh c) refl (λ x zs. refl) xs)

member : (P : Cross → Type 0) (c : Cross) (xs : List Cross) → 0 < many c xs → AllByRecursion P xs → P c
unfolding many
member P c [] h a = absurd (omega arith)
member P c (x ∷ xs) h a = by (weigh c x) refl (λ k. member P c xs k a.1)
  where
    by : (n : ℕ) → weigh c x ≡ n → (0 < many c xs → P c) → P c
    by zero e f = f (omega (arith, h, e))
    by (suc n) e f = subst P (sym (weigh_same c x (omega (arith, e)))) a.0

-- ---- rising lists

abbrev Rises : List Cross → Type 0
Rises [] = ⊤
Rises (x ∷ xs) = AllByRecursion (λ y. is_before y x ≡ false) xs × Rises xs

self_not : (x : Cross) → is_before x x ≡ false
self_not x = ⊎_elim (λ e. absurd (true≢false (sym e ∙ ranked.one_way x x e))) (λ e. e)
    (cases_Bool (is_before x x))

rising_one : (xs ys : List Cross) → Rises xs → Rises ys → ((c : Cross) → many c xs ≡ many c ys) → xs ≡ ys
unfolding many
rising_one [] [] h k e = refl
rising_one [] (y ∷ ys) h k e = absurd (omega (arith, e y, weigh_self y))
rising_one (x ∷ xs) [] h k e = absurd (omega (arith, e x, weigh_self x))
rising_one (x ∷ xs) (y ∷ ys) h k e =
    let first : is_before y x ≡ false = member (λ z. is_before z x ≡ false) y (x ∷ xs)
    (omega (arith, e y, weigh_self y)) (self_not x, h.0) in
    let second : is_before x y ≡ false = member (λ z. is_before z y ≡ false) x (y ∷ ys)
    (omega (arith, e x, weigh_self x)) (self_not y, k.0) in
    let there : x ≡ y = one x y second first in
    ap (λ z. z ∷ xs) there
    ∙ ap (λ zs. y ∷ zs) (rising_one xs ys h.1 k.1 (λ c. omega (arith, e c, ap (weigh c) there)))

-- ---- insertion

all_put : (P : Cross → Type 0) (c : Cross) (xs : List Cross) → P c → AllByRecursion P xs
    → AllByRecursion P (put c xs)
all_put P c [] h a = (h, tt)
all_put P c (x ∷ xs) h a = by (is_before x c) (all_put P c xs h a.1)
  where
    by : (b : Bool) → AllByRecursion P (put c xs) → AllByRecursion P (if b then x ∷ put c xs else c ∷ x ∷ xs)
    by true k = (a.0, k)
    by false k = (h, (a.0, a.1))

all_after : (c x : Cross) (xs : List Cross) → is_before x c ≡ false
    → AllByRecursion (λ y. is_before y x ≡ false) xs → AllByRecursion (λ y. is_before y c ≡ false) xs
all_after c x [] h a = tt
all_after c x (y ∷ xs) h a = (ranked.chain y x c a.0 h, all_after c x xs h a.1)

rises_put : (c : Cross) (xs : List Cross) → Rises xs → Rises (put c xs)
rises_put c [] h = (tt, tt)
rises_put c (x ∷ xs) h = by (is_before x c) refl (rises_put c xs h.1)
  where
    by : (b : Bool) → is_before x c ≡ b → Rises (put c xs) → Rises (if b then x ∷ put c xs else c ∷ x ∷ xs)
    by true e k = (all_put (λ y. is_before y x ≡ false) c xs (ranked.one_way x c e) h.0, k)
    by false e k = ((e, all_after c x xs e h.0), (h.0, h.1))

many_put : (c d : Cross) (xs : List Cross) → many c (put d xs) ≡ weigh c d + many c xs
unfolding many
many_put c d [] = refl
many_put c d (x ∷ xs) = by (is_before x d) (many_put c d xs)
  where
    by : (b : Bool) → many c (put d xs) ≡ weigh c d + many c xs
        → many c (if b then x ∷ put d xs else d ∷ x ∷ xs) ≡ weigh c d + (weigh c x + many c xs)
    by true e = omega (arith, e)
    by false e = refl

rises_in_order : (xs : List Cross) → Rises (in_order xs)
rises_in_order [] = tt
rises_in_order (x ∷ xs) = rises_put x (in_order xs) (rises_in_order xs)

many_in_order : (c : Cross) (xs : List Cross) → many c (in_order xs) ≡ many c xs
unfolding many
many_in_order c [] = refl
many_in_order c (x ∷ xs) = many_put c x (in_order xs) ∙ ap (λ n. weigh c x + n) (many_in_order c xs)

-- ---- a sorted list

all_from : (P : Cross → Type 0) (xs : List Cross)
    → ((j : ℕ) → j < length xs → (d : Cross) → P (get_or xs j d)) → AllByRecursion P xs
all_from P [] f = tt
all_from P (x ∷ xs) f = (f 0 (omega arith) x, all_from P xs (λ j h d. f (suc j) (omega arith) d))

rises_sorted : (xs : List Cross)
    → ((i j : ℕ) (d : Cross) → i ≤ j → j < length xs → is_before (get_or xs j d) (get_or xs i d) ≡ false)
    → Rises xs
rises_sorted [] f = tt
rises_sorted (x ∷ xs)
    f = (
      all_from (λ y. is_before y x ≡ false) xs (λ j h d. f 0 (suc j) d (omega arith) (omega arith)),
      rises_sorted xs (λ i j d l h. f (suc i) (suc j) d (omega arith) (omega arith)),
    )

pub sorted_is : (xs ys : List Cross) → IsPermutation xs ys → IsSortedBy is_before ys → ys ≡ in_order xs
sorted_is xs ys p s = rising_one ys (in_order xs)
    (rises_sorted ys (λ i j d l h. sorted_far is_before ranked ys s i j d l h)) (rises_in_order xs)
    (λ c. many_permuted c xs ys p ∙ sym (many_in_order c xs))

pub cross_is : (a b : Cross) → a.wait ≡ b.wait → a.burst ≡ b.burst → a.act ≡ b.act → a ≡ b
cross_is a b e f g = λ i. record { wait = e i; burst = f i; act = g i }
