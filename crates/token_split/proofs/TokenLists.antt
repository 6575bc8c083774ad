-- Lists that are filtered, crossings in order, and the labels of lines.
use Rattle.std.proofs.Common.{◌≡◌, ◌⊎◌, inl, inr, ⊎_elim, ℕ, zero, suc, ◌+◌, ◌-◌, ◌<◌, ◌≤◌, Bool, true, false, true≢false, cond, filter, ◌||◌, ◌&&◌, nat_eq, nat_lt, List, [], ◌∷◌, ◌++◌, length, map, get_or, refl, sym, ap, ◌∙◌, subst, arith, if◌then◌else◌, eq-eqb, ne_eqb, lt-ltb, le-ltb}
use Rattle.std.specs.List.{list_all, list_any, range_with_len}
use Rattle.std.specs.Ordering.{nat_cmp, ordering_then, is_lt}
use Rattle.std.specs.declared.cmp.Ordering.{Ordering}
use Rattle.std.specs.declared.cmp.Ordering.TheVariants.{Less, Equal, Greater}
use Rattle.std.proofs.lemmas.Bool.{cases_lt, cases_eq, cases_order}
use Rattle.basic_kinds.specs.Shapes.{is_before as is_shape_before, is_rising}
use Rattle.basic_kinds.specs.ShapeParts.{lesser, merged, label, has_row, has_column, local_crossing}
use Rattle.basic_kinds.specs.Sorts.{how_many, how_many_below}
use Rattle.place_graph.specs.declared.wait_graph.Cross.{Cross as Crossing}
use Rattle.place_graph.specs.Graph.{with_new, is_before, put, in_order}
use Rattle.net_laws.proofs.Among.{Among, Distinct}
use Rattle.net_laws.proofs.Rows.{distinct_both}
use Rattle.plain_split.proofs.SharedSums.{bit}
use Rattle.plain_split.proofs.OneWaitWeb.{sum_of}
use Rattle.plain_split.proofs.OneWaitDrawn.{sum_by_test, both_and}
use Rattle.token_split.specs.TokenChart.{pair}

-- ---- tests of lists

pub any_among : {A : Type 0} (test : A → Bool) (xs : List A) → list_any test xs ≡ true → (x : A) × Among x xs × (test x ≡ true)
any_among test [] h = absurd (true≢false (sym h))
any_among {A = A} test (x ∷ xs) h = by (test x) refl h (λ k. any_among test xs k)
  where
    by : (b : Bool) → test x ≡ b → (b || list_any test xs) ≡ true → (list_any test xs ≡ true → (y : A) × Among y xs × (test y ≡ true)) → (y : A) × Among y (x ∷ xs) × (test y ≡ true)
    by true e k f = (x, inl refl, e)
    by false e k f = let (y, a, t) = f k in (y, inr a, t)

pub among_any : {A : Type 0} (test : A → Bool) (xs : List A) (x : A) → Among x xs → test x ≡ true → list_any test xs ≡ true
among_any test [] x a t = absurd a
among_any test (y ∷ xs) x (inl e) t = ap (λ b. b || list_any test xs) (ap test (sym e) ∙ t)
among_any test (y ∷ xs) x (inr a) t = ap (λ b. test y || b) (among_any test xs x a t) ∙ or_true (test y)
  where
    or_true : (b : Bool) → (b || true) ≡ true
    or_true true = refl
    or_true false = refl

pub all_list : {A : Type 0} (test : A → Bool) (xs : List A) → ((x : A) → Among x xs → test x ≡ true) → list_all test xs ≡ true
all_list test [] h = refl
all_list test (x ∷ xs) h = both_and (test x) (list_all test xs) (h x (inl refl)) (all_list test xs (λ y a. h y (inr a)))

-- ---- sums over lists that are filtered

pub sum_chosen : (p : Crossing → Bool) (f : Crossing → ℕ) (cs : List Crossing) → sum_of f (filter p cs) ≡ sum_by_test p f cs
sum_chosen p f [] = refl
sum_chosen p f (c ∷ cs) = by (p c) (sum_chosen p f cs)
  where
    by : (b : Bool) → sum_of f (filter p cs) ≡ sum_by_test p f cs → sum_of f (cond b (c ∷ filter p cs) (filter p cs)) ≡ (if b then f c else 0) + sum_by_test p f cs
    by true e = omega (arith, e)
    by false e = omega (arith, e)

pub filter_twice : {A : Type 0} (p q : A → Bool) (xs : List A) → filter p (filter q xs) ≡ filter (λ x. q x && p x) xs
filter_twice p q [] = refl
filter_twice p q (x ∷ xs) = by (q x) (filter_twice p q xs)
  where
    by : (b : Bool) → filter p (filter q xs) ≡ filter (λ x. q x && p x) xs → filter p (cond b (x ∷ filter q xs) (filter q xs)) ≡ cond (b && p x) (x ∷ filter (λ x. q x && p x) xs) (filter (λ x. q x && p x) xs)
    by true e = ap (λ ys. cond (p x) (x ∷ ys) ys) e
    by false e = e

-- ---- the place of a number among those that pass a test

place_from : (p : ℕ → Bool) (a k v : ℕ) → a ≤ v → v < a + k → p v ≡ true
    → (how_many p (range_with_len a (v - a)) < length (filter p (range_with_len a k))) × (get_or (filter p (range_with_len a k)) (how_many p (range_with_len a (v - a))) 0 ≡ v)
place_from p a zero v low high t = absurd (omega arith)
place_from p a (suc k) v low high t = elim (cases_lt a v) [
  | inl less ↦
      let next : v - a ≡ suc (v - (a + 1)) = omega arith in
      subst (λ n. (how_many p (range_with_len a n) < length (filter p (range_with_len a (suc k)))) × (get_or (filter p (range_with_len a (suc k))) (how_many p (range_with_len a n)) 0 ≡ v)) (sym next)
      (by (p a) (place_from p (a + 1) k v (omega arith) (omega arith) t))
  | inr last ↦
      let here : v - a ≡ 0 = omega arith in
      let same : v ≡ a = omega arith in
      subst (λ n. (how_many p (range_with_len a n) < length (filter p (range_with_len a (suc k)))) × (get_or (filter p (range_with_len a (suc k))) (how_many p (range_with_len a n)) 0 ≡ v)) (sym here)
      (first_ (p a) (ap p (sym same) ∙ t) same)
]
  where
    by : (b : Bool) → (how_many p (range_with_len (a + 1) (v - (a + 1))) < length (filter p (range_with_len (a + 1) k))) × (get_or (filter p (range_with_len (a + 1) k)) (how_many p (range_with_len (a + 1) (v - (a + 1)))) 0 ≡ v)
        → ((if b then 1 else 0) + how_many p (range_with_len (a + 1) (v - (a + 1))) < length (cond b (a ∷ filter p (range_with_len (a + 1) k)) (filter p (range_with_len (a + 1) k))))
        × (get_or (cond b (a ∷ filter p (range_with_len (a + 1) k)) (filter p (range_with_len (a + 1) k))) ((if b then 1 else 0) + how_many p (range_with_len (a + 1) (v - (a + 1)))) 0 ≡ v)
    by true (x, e) =
        let z : 1 + how_many p (range_with_len (a + 1) (v - (a + 1))) ≡ suc (how_many p (range_with_len (a + 1) (v - (a + 1)))) = omega arith in
        (omega (arith, x), ap (λ n. get_or (a ∷ filter p (range_with_len (a + 1) k)) n 0) z ∙ e)
    by false (x, e) =
        let z : 0 + how_many p (range_with_len (a + 1) (v - (a + 1))) ≡ how_many p (range_with_len (a + 1) (v - (a + 1))) = omega arith in
        (omega (arith, x), ap (λ n. get_or (filter p (range_with_len (a + 1) k)) n 0) z ∙ e)

    first_ : (b : Bool) → b ≡ true → v ≡ a → (0 < length (cond b (a ∷ filter p (range_with_len (a + 1) k)) (filter p (range_with_len (a + 1) k)))) × (get_or (cond b (a ∷ filter p (range_with_len (a + 1) k)) (filter p (range_with_len (a + 1) k))) 0 0 ≡ v)
    first_ true t e = (omega arith, sym e)
    first_ false t e = absurd (true≢false (sym t))

pub place_below : (p : ℕ → Bool) (k v : ℕ) → v < k → p v ≡ true
    → (how_many_below v p < length (filter p (range_with_len 0 k))) × (get_or (filter p (range_with_len 0 k)) (how_many_below v p) 0 ≡ v)
place_below p k v low t =
    let none : v - 0 ≡ v = omega arith in
    subst (λ n. (how_many p (range_with_len 0 n) < length (filter p (range_with_len 0 k))) × (get_or (filter p (range_with_len 0 k)) (how_many p (range_with_len 0 n)) 0 ≡ v)) none
    (place_from p 0 k v (omega arith) (omega arith) t)

many_from : (p : ℕ → Bool) (a k : ℕ) → how_many p (range_with_len a (suc k)) ≡ how_many p (range_with_len a k) + (if p (a + k) then 1 else 0)
many_from p a zero = omega (arith, ap (λ n. bit (p n)) (let z : a ≡ a + 0 = omega arith in z))
many_from p a (suc k) = omega (arith, many_from p (a + 1) k, ap (λ n. bit (p n)) (let z : a + 1 + k ≡ a + suc k = omega arith in z))

-- more pass below a greater number
rises_by : (p : ℕ → Bool) (v d : ℕ) → how_many_below v p ≤ how_many_below (v + d) p
rises_by p v zero = omega (arith, ap (λ n. how_many_below n p) (let z : v + 0 ≡ v = omega arith in z))
rises_by p v (suc d) = omega (arith, rises_by p v d, many_from p 0 (v + d), ap (λ n. how_many_below n p) (let z : v + suc d ≡ suc (v + d) = omega arith in z))

more_below : (p : ℕ → Bool) (v : ℕ) → p v ≡ true → how_many_below (suc v) p ≡ suc (how_many_below v p)
more_below p v t =
    let last : how_many p (range_with_len 0 (suc v)) ≡ how_many p (range_with_len 0 v) + bit (p (0 + v)) = many_from p 0 v in
    let one : bit (p (0 + v)) ≡ 1 = ap bit (ap p (let z : 0 + v ≡ v = omega arith in z) ∙ t) in
    last ∙ (let z : how_many p (range_with_len 0 v) + bit (p (0 + v)) ≡ suc (how_many p (range_with_len 0 v)) = omega (arith, one) in z)

pub place_rises : (p : ℕ → Bool) (v w : ℕ) → v < w → p v ≡ true → how_many_below v p < how_many_below w p
place_rises p v w less t =
    let to : suc v + (w - suc v) ≡ w = omega arith in
    subst (λ n. how_many_below v p < how_many_below n p) to
    (subst (λ n. n ≤ how_many_below (suc v + (w - suc v)) p) (more_below p v t) (rises_by p (suc v) (w - suc v)))

-- ---- numbers that stand first

distinct_end : (xs : List ℕ) (y : ℕ) → Distinct xs → (Among y xs → ⊥) → Distinct (xs ++ y ∷ [])
distinct_end xs y d h = distinct_both xs (y ∷ []) d ((λ a. a), tt) (λ z a b. elim b [ inl e ↦ h (subst (λ w. Among w xs) e a) | inr c ↦ c ])

pub distinct_new : (xs ys : List ℕ) → Distinct xs → Distinct (with_new nat_eq xs ys)
distinct_new xs [] d = d
distinct_new xs (y ∷ ys) d = by (list_any (nat_eq y) xs) refl (λ e. distinct_new xs ys d) (λ e. distinct_new (xs ++ y ∷ []) ys (distinct_end xs y d (away e)))
  where
    away : list_any (nat_eq y) xs ≡ false → Among y xs → ⊥
    away e a = true≢false (sym (among_any (nat_eq y) xs y a (eq-eqb y y refl)) ∙ e)

    by : (b : Bool) → list_any (nat_eq y) xs ≡ b → (b ≡ true → Distinct (with_new nat_eq xs ys)) → (list_any (nat_eq y) xs ≡ false → Distinct (with_new nat_eq (xs ++ y ∷ []) ys)) → Distinct (with_new nat_eq (if b then xs else xs ++ y ∷ []) ys)
    by true e f h = f refl
    by false e f h = h e

-- ---- crossings in order

-- no later than another, by row and column
abbrev pub Le : Crossing → Crossing → Type 0
Le a b = (a.wait < b.wait) ⊎ ((a.wait ≡ b.wait) × (a.burst ≤ b.burst))

cmp_less : (m n : ℕ) → m < n → nat_cmp m n ≡ Less
cmp_less m n h = ap (λ b. cond b Less (cond (nat_eq m n) Equal Greater)) (lt-ltb m n h)

cmp_equal : (m n : ℕ) → m ≡ n → nat_cmp m n ≡ Equal
cmp_equal m n h = ap (λ b. cond b Less (cond (nat_eq m n) Equal Greater)) (le-ltb m n (omega arith)) ∙ ap (λ b. cond b Equal Greater) (eq-eqb m n h)

cmp_greater : (m n : ℕ) → n < m → nat_cmp m n ≡ Greater
cmp_greater m n h = ap (λ b. cond b Less (cond (nat_eq m n) Equal Greater)) (le-ltb m n (omega arith)) ∙ ap (λ b. cond b Equal Greater) (ne_eqb m n (λ e. omega arith))

abbrev by_burst : Crossing → Crossing → Ordering
by_burst a b = ordering_then (nat_cmp a.burst b.burst) (nat_cmp a.act b.act)

before_le : (a b : Crossing) → is_before a b ≡ true → Le a b
before_le a b h = ⊎_elim
    (λ e. inr (
      e,
      ⊎_elim (λ i. omega (arith, i)) (λ s. ⊎_elim (λ l. omega (arith, l))
          (λ l. absurd (true≢false (sym h ∙ ap (λ x. is_lt (ordering_then x (by_burst a b))) (cmp_equal a.wait b.wait e) ∙ ap (λ x. is_lt (ordering_then x (nat_cmp a.act b.act))) (cmp_greater a.burst b.burst l)))) s) (cases_order a.burst b.burst),
    ))
    (λ s. ⊎_elim (λ l. inl l) (λ l. absurd (true≢false (sym h ∙ ap (λ x. is_lt (ordering_then x (by_burst a b))) (cmp_greater a.wait b.wait l)))) s)
    (cases_order a.wait b.wait)

not_before_le : (a b : Crossing) → is_before a b ≡ false → Le b a
not_before_le a b h = ⊎_elim
    (λ e. inr (
      sym e,
      ⊎_elim (λ i. omega (arith, i)) (λ s. ⊎_elim
          (λ l. absurd (true≢false (sym (ap (λ x. is_lt (ordering_then x (by_burst a b))) (cmp_equal a.wait b.wait e) ∙ ap (λ x. is_lt (ordering_then x (nat_cmp a.act b.act))) (cmp_less a.burst b.burst l)) ∙ h)))
          (λ l. omega (arith, l)) s) (cases_order a.burst b.burst),
    ))
    (λ s. ⊎_elim (λ l. absurd (true≢false (sym (ap (λ x. is_lt (ordering_then x (by_burst a b))) (cmp_less a.wait b.wait l)) ∙ h))) (λ l. inl l) s)
    (cases_order a.wait b.wait)

le_chain : (a b c : Crossing) → Le a b → Le b c → Le a c
le_chain a b c (inl x) (inl y) = inl (omega arith)
le_chain a b c (inl x) (inr (e, y)) = inl (omega (arith, x, e))
le_chain a b c (inr (e, x)) (inl y) = inl (omega (arith, y, e))
le_chain a b c (inr (e, x)) (inr (f, y)) = inr (e ∙ f, omega (arith, x, y))

abbrev pub Sorted : List Crossing → Type 0
Sorted [] = Unit {0}
Sorted (c ∷ cs) = ((k : Crossing) → Among k cs → Le c k) × Sorted cs

put_among : (k c : Crossing) (cs : List Crossing) → Among k (put c cs) → (k ≡ c) ⊎ Among k cs
put_among k c [] (inl e) = inl e
put_among k c [] (inr a) = absurd a
put_among k c (d ∷ cs) a = by (is_before d c) a (λ b. put_among k c cs b)
  where
    by : (b : Bool) → Among k (if b then d ∷ put c cs else c ∷ d ∷ cs) → (Among k (put c cs) → (k ≡ c) ⊎ Among k cs) → (k ≡ c) ⊎ Among k (d ∷ cs)
    by true (inl e) f = inr (inl e)
    by true (inr a) f = ⊎_elim (λ e. inl e) (λ i. inr (inr i)) (f a)
    by false (inl e) f = inl e
    by false (inr a) f = inr a

sorted_put : (c : Crossing) (cs : List Crossing) → Sorted cs → Sorted (put c cs)
sorted_put c [] h = ((λ k a. absurd a), tt)
sorted_put c (d ∷ cs) h = by (is_before d c) refl (sorted_put c cs h.1)
  where
    by : (b : Bool) → is_before d c ≡ b → Sorted (put c cs) → Sorted (if b then d ∷ put c cs else c ∷ d ∷ cs)
    by true e s = ((λ k a. ⊎_elim (λ i. subst (Le d) (sym i) (before_le d c e)) (λ i. h.0 k i) (put_among k c cs a)), s)
    by false e s =
        let low : Le c d = not_before_le d c e in
        ((λ k a. ⊎_elim (λ i. subst (Le c) (sym i) low) (λ i. le_chain c d k low (h.0 k i)) a), h)

pub sorted_in_order : (cs : List Crossing) → Sorted (in_order cs)
sorted_in_order [] = tt
sorted_in_order (c ∷ cs) = sorted_put c (in_order cs) (sorted_in_order cs)

distinct_put : (c : Crossing) (cs : List Crossing) → (Among c cs → ⊥) → Distinct cs → Distinct (put c cs)
distinct_put c [] h d = ((λ a. a), tt)
distinct_put c (x ∷ cs) h d = by (is_before x c) (distinct_put c cs (λ a. h (inr a)) d.1)
  where
    by : (b : Bool) → Distinct (put c cs) → Distinct (if b then x ∷ put c cs else c ∷ x ∷ cs)
    by true k = ((λ a. ⊎_elim (λ e. h (inl (sym e))) (λ i. d.0 i) (put_among x c cs a)), k)
    by false k = (h, d)

in_order_among : (k : Crossing) (cs : List Crossing) → Among k (in_order cs) → Among k cs
in_order_among k [] a = absurd a
in_order_among k (c ∷ cs) a = ⊎_elim (λ e. inl e) (λ i. inr (in_order_among k cs i)) (put_among k c (in_order cs) a)

pub distinct_in_order : (cs : List Crossing) → Distinct cs → Distinct (in_order cs)
distinct_in_order [] d = tt
distinct_in_order (c ∷ cs) d = distinct_put c (in_order cs) (λ a. d.0 (in_order_among c cs a)) (distinct_in_order cs d.1)

pub sorted_filter : (p : Crossing → Bool) (cs : List Crossing) → Sorted cs → Sorted (filter p cs)
sorted_filter p [] h = tt
sorted_filter p (c ∷ cs) h = by (p c) (sorted_filter p cs h.1)
  where
    inside : (k : Crossing) (xs : List Crossing) → Among k (filter p xs) → Among k xs
    inside k [] a = absurd a
    inside k (x ∷ xs) a = at (p x) a (λ b. inside k xs b)
      where
        at : (b : Bool) → Among k (cond b (x ∷ filter p xs) (filter p xs)) → (Among k (filter p xs) → Among k xs) → Among k (x ∷ xs)
        at true (inl e) f = inl e
        at true (inr i) f = inr (f i)
        at false i f = inr (f i)

    by : (b : Bool) → Sorted (filter p cs) → Sorted (cond b (c ∷ filter p cs) (filter p cs))
    by true s = ((λ k a. h.0 k (inside k cs a)), s)
    by false s = s

-- ---- a part with its own rows and columns rises

local_before : (part : List (ℕ × ℕ)) (a b : Crossing) → Le a b → (a.wait ≡ b.wait → a.burst ≡ b.burst → ⊥) → has_row part a.wait ≡ true → has_column part a.burst ≡ true
    → is_shape_before (local_crossing part (pair a)) (local_crossing part (pair b)) ≡ true
local_before part a b (inl less) apart r c =
    ap (λ x. x || (nat_eq (how_many_below a.wait (has_row part)) (how_many_below b.wait (has_row part)) && nat_lt (how_many_below a.burst (has_column part)) (how_many_below b.burst (has_column part))))
    (lt-ltb (how_many_below a.wait (has_row part)) (how_many_below b.wait (has_row part)) (place_rises (has_row part) a.wait b.wait less r))
local_before part a b (inr (e, low)) apart r c =
    let more : how_many_below a.burst (has_column part) < how_many_below b.burst (has_column part) = place_rises (has_column part) a.burst b.burst (elim (cases_eq a.burst b.burst) [ inl f ↦ absurd (apart e f) | inr f ↦ omega (arith, low, f) ]) c in
    ap (λ x. nat_lt (how_many_below a.wait (has_row part)) (how_many_below b.wait (has_row part)) || x)
    (both_and (nat_eq (how_many_below a.wait (has_row part)) (how_many_below b.wait (has_row part))) (nat_lt (how_many_below a.burst (has_column part)) (how_many_below b.burst (has_column part)))
    (eq-eqb (how_many_below a.wait (has_row part)) (how_many_below b.wait (has_row part)) (ap (λ n. how_many_below n (has_row part)) e))
    (lt-ltb (how_many_below a.burst (has_column part)) (how_many_below b.burst (has_column part)) more))
    ∙ or_true (nat_lt (how_many_below a.wait (has_row part)) (how_many_below b.wait (has_row part)))
  where
    or_true : (b : Bool) → (b || true) ≡ true
    or_true true = refl
    or_true false = refl

pub all_mapped : {A B : Type 0} (test : B → Bool) (f : A → B) (xs : List A) → ((x : A) → Among x xs → test (f x) ≡ true) → list_all test (map f xs) ≡ true
all_mapped test f [] h = refl
all_mapped test f (x ∷ xs) h = both_and (test (f x)) (list_all test (map f xs)) (h x (inl refl)) (all_mapped test f xs (λ y a. h y (inr a)))

pub local_rises : (part : List (ℕ × ℕ)) (cs : List Crossing) → Sorted cs → Distinct cs → ((a b : Crossing) → Among a cs → Among b cs → a.wait ≡ b.wait → a.burst ≡ b.burst → a ≡ b)
    → ((k : Crossing) → Among k cs → (has_row part k.wait ≡ true) × (has_column part k.burst ≡ true)) → is_rising (map (λ k. local_crossing part (pair k)) cs) ≡ true
local_rises part [] s d one h = refl
local_rises part (c ∷ cs) s d one h = both_and
    (list_all (is_shape_before (local_crossing part (pair c))) (map (λ k. local_crossing part (pair k)) cs)) (is_rising (map (λ k. local_crossing part (pair k)) cs))
    (all_mapped (is_shape_before (local_crossing part (pair c))) (λ k. local_crossing part (pair k)) cs (λ k a.
    local_before part c k (s.0 k a) (λ e f. d.0 (subst (λ x. Among x cs) (sym (one c k (inl refl) (inr a) e f)) a)) (h c (inl refl)).0 (h c (inl refl)).1))
    (local_rises part cs s.1 d.1 (λ a b i j. one a b (inr i) (inr j)) (λ k a. h k (inr a)))

-- ---- the labels of lines

lesser_left : (a b : ℕ) → lesser a b ≤ a
lesser_left a b = elim (cases_lt b a) [
  | inl less ↦ omega (arith, ap (λ x. if x then b else a) (lt-ltb b a less), less)
  | inr more ↦ omega (arith, ap (λ x. if x then b else a) (le-ltb b a more))
]

lesser_right : (a b : ℕ) → lesser a b ≤ b
lesser_right a b = elim (cases_lt b a) [
  | inl less ↦ omega (arith, ap (λ x. if x then b else a) (lt-ltb b a less))
  | inr more ↦ omega (arith, ap (λ x. if x then b else a) (le-ltb b a more), more)
]

merged_first : (f : ℕ → ℕ) (a b v : ℕ) → f v ≡ f a → merged f a b v ≡ lesser (f a) (f b)
merged_first f a b v e = ap (λ x. if x || nat_eq (f v) (f b) then lesser (f a) (f b) else f v) (eq-eqb (f v) (f a) e)

merged_second : (f : ℕ → ℕ) (a b v : ℕ) → f v ≡ f b → merged f a b v ≡ lesser (f a) (f b)
merged_second f a b v e = ap (λ x. if nat_eq (f v) (f a) || x then lesser (f a) (f b) else f v) (eq-eqb (f v) (f b) e) ∙ ap (λ x. if x then lesser (f a) (f b) else f v) (or_true (nat_eq (f v) (f a)))
  where
    or_true : (b : Bool) → (b || true) ≡ true
    or_true true = refl
    or_true false = refl

merged_low : (f : ℕ → ℕ) (a b v : ℕ) → merged f a b v ≤ f v
merged_low f a b v = elim (cases_eq (f v) (f a)) [
  | inl e ↦ omega (arith, merged_first f a b v e, lesser_left (f a) (f b), e)
  | inr d ↦ elim (cases_eq (f v) (f b)) [
    | inl e ↦ omega (arith, merged_second f a b v e, lesser_right (f a) (f b), e)
    | inr e ↦ omega (arith, ap (λ x. if x || nat_eq (f v) (f b) then lesser (f a) (f b) else f v) (ne_eqb (f v) (f a) d), ap (λ x. if x then lesser (f a) (f b) else f v) (ne_eqb (f v) (f b) e))
  ]
]

pub label_low : (rows : ℕ) (cross : List (ℕ × ℕ)) (v : ℕ) → label rows cross v ≤ v
label_low rows [] v = omega arith
label_low rows (p ∷ ps) v = omega (arith, merged_low (label rows ps) p.0 (rows + p.1) v, label_low rows ps v)

-- the row and the column of a crossing have one label
pub label_joins : (rows : ℕ) (cross : List (ℕ × ℕ)) (p : ℕ × ℕ) → Among p cross → label rows cross p.0 ≡ label rows cross (rows + p.1)
label_joins rows [] p a = absurd a
label_joins rows (q ∷ ps) p (inl e) =
    subst (λ (r : ℕ × ℕ). label rows (q ∷ ps) r.0 ≡ label rows (q ∷ ps) (rows + r.1)) (sym e)
    (merged_first (label rows ps) q.0 (rows + q.1) q.0 refl ∙ sym (merged_second (label rows ps) q.0 (rows + q.1) (rows + q.1) refl))
label_joins rows (q ∷ ps) p (inr a) =
    ap (λ n. if nat_eq n (label rows ps q.0) || nat_eq n (label rows ps (rows + q.1)) then lesser (label rows ps q.0) (label rows ps (rows + q.1)) else n) (label_joins rows ps p a)
