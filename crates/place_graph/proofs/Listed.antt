-- Points and bursts by number: each has one, and a number tells which it is.
use Rattle.std.proofs.Common.{◌≡◌, ◌⊎◌, inl, inr, ⊎_elim, ℕ, suc, ◌+◌, ◌<◌, ◌≤◌, Bool, true, false, true≢false, cond, ◌||◌, nat_eq, List, [], ◌∷◌, ◌++◌, length, map, filter, IsTrue, IsPermutation, refl, sym, ap, ◌∙◌, subst, arith, if◌then◌else◌, Some, eq-eqb, ne_eqb, eqb-true, append_assoc, append-nil}
use Rattle.std.specs.Prelude.{not, slice_get}
use Rattle.std.specs.List.{AllByRecursion, list_any, list_all, position_or_len}
use Rattle.std.proofs.lemmas.Bool.{cases_Bool, and_from, and_parts}
use Rattle.std.proofs.lemmas.Option.{slice_get_within}
use Rattle.cmd_tree.specs.declared.tree.Sym.{Sym}
use Rattle.cmd_tree.specs.declared.tree.Mark.{Mark}
use Rattle.cmd_tree.specs.Lists.{is_in}
use Rattle.cmd_tree.specs.Meaning.{symbols}
use Rattle.cmd_tree.proofs.Bursts.{counts_perm}
use Rattle.place_graph.specs.declared.leg.Leg.{Leg}
use Rattle.place_graph.specs.declared.wait_graph.Cross.{Cross}
use Rattle.place_graph.specs.Points.{OneOf, Among}
use Rattle.place_graph.specs.Graph.{burst_number, home_number, with_new, firsts, is_act, points_of, index_of, syms, has_sym, same_set, bursts_of, is_before, put, in_order}
use Rattle.place_graph.specs.GraphTraces.{numbers_of}
use Rattle.place_graph.specs.Tale.{times}
use Rattle.place_graph.specs.Chart.{Increase, Homes}
use Rattle.place_graph.specs.Drawable.{AreSets}
use Rattle.place_graph.proofs.Positions.{place, place_is, any_push}
use Rattle.place_graph.proofs.BurstSets.{has_is, all_members, member_all, place_agree, sets_known, bursts_inputs}
use Rattle.place_graph.proofs.Ranges.{all_among}
use Rattle.place_graph.proofs.Sums.{times_count, once_is, later_places}

-- ---- lists

module _ {A : Type 0} where
  pub one_from_any : (p : A → Bool) (xs : List A) → list_any p xs ≡ true
      → (x : A) × OneOf xs x × (p x ≡ true) × (slice_get xs (place p xs) ≡ Some x)
  unfolding place
  one_from_any p [] h = absurd (true≢false (sym h))
  one_from_any p (x ∷ xs) h = by (p x) refl h (λ k. one_from_any p xs k)
    where
      by : (b : Bool) → p x ≡ b → (b || list_any p xs) ≡ true
          → (list_any p xs ≡ true
          → (y : A) × OneOf xs y × (p y ≡ true) × (slice_get xs (place p xs) ≡ Some y))
          → (y : A) × OneOf (x ∷ xs)
          y × (p y ≡ true) × (slice_get (x ∷ xs) (cond b 0 (1 + place p xs)) ≡ Some y)
      by true e k f = (x, inl refl, e, refl)
      by false e k f =
          let w = f k in
          let next : suc (place p xs) ≡ 1 + place p xs = omega arith in
          (w.0, inr w.1, w.2, subst (λ n. slice_get (x ∷ xs) n ≡ Some w.0) next w.3)

  pub any_from_one : (p : A → Bool) (xs : List A) (x : A) → OneOf xs x → p x ≡ true → list_any p xs ≡ true
  any_from_one p [] x o h = absurd o
  any_from_one p (y ∷ xs) x o h = ⊎_elim
      (λ e. ap (λ b. b || list_any p xs) (ap p e ∙ h))
      (λ k. ap (λ b. p y || b) (any_from_one p xs x k h) ∙ or_true (p y))
      o
    where
      or_true : (b : Bool) → (b || true) ≡ true
      or_true true = refl
      or_true false = refl

  pub one_left : (xs ys : List A) (x : A) → OneOf xs x → OneOf (xs ++ ys) x
  one_left [] ys x o = absurd o
  one_left (y ∷ xs) ys x o = ⊎_elim (λ e. inl e) (λ k. inr (one_left xs ys x k)) o

  pub one_append : (xs ys : List A) (x : A) → OneOf (xs ++ ys) x → OneOf xs x ⊎ OneOf ys x
  one_append [] ys x o = inr o
  one_append (y ∷ xs) ys x o = ⊎_elim (λ e. inl (inl e))
      (λ k. ⊎_elim (λ a. inl (inr a)) (λ a. inr a) (one_append xs ys x k)) o

  pub one_filter : (p : A → Bool) (xs : List A) (x : A) → OneOf xs x → p x ≡ true → OneOf (filter p xs) x
  one_filter p [] x o h = absurd o
  one_filter p (y ∷ xs) x o h = by (p y) refl (λ k. one_filter p xs x k h) o
    where
      by : (b : Bool) → p y ≡ b → (OneOf xs x → OneOf (filter p xs) x) → (y ≡ x) ⊎ OneOf xs x
          → OneOf (cond b (y ∷ filter p xs) (filter p xs)) x
      by true e f k = ⊎_elim (λ a. inl a) (λ a. inr (f a)) k
      by false e f k = ⊎_elim (λ a. absurd (true≢false (sym h ∙ ap p (sym a) ∙ e))) (λ a. f a) k

  pub filter_one : (p : A → Bool) (xs : List A) (x : A) → OneOf (filter p xs) x → OneOf xs x × (p x ≡ true)
  filter_one p [] x o = absurd o
  filter_one p (y ∷ xs) x o = by (p y) refl o (λ k. filter_one p xs x k)
    where
      by : (b : Bool) → p y ≡ b → OneOf (cond b (y ∷ filter p xs) (filter p xs)) x
          → (OneOf (filter p xs) x → OneOf xs x × (p x ≡ true)) → OneOf (y ∷ xs) x × (p x ≡ true)
      by true e k f = ⊎_elim (λ a. (inl a, ap p (sym a) ∙ e)) (λ a. (inr (f a).0, (f a).1)) k
      by false e k f = (inr (f k).0, (f k).1)

  -- ---- lists without repetition

  pub any_kept : (same : A → A → Bool) (p : A → Bool) (xs ys : List A) → list_any p xs ≡ true
      → list_any p (with_new same xs ys) ≡ true
  any_kept same p xs [] h = h
  any_kept same p xs (y ∷ ys) h = any_kept same p (if list_any (same y) xs then xs else xs ++ y ∷ []) ys
      (by (list_any (same y) xs))
    where
      by : (b : Bool) → list_any p (if b then xs else xs ++ y ∷ []) ≡ true
      by true = h
      by false = any_push p xs y ∙ ap (λ c. c || p y) h

  pub any_new : (same : A → A → Bool) → ((x : A) → same x x ≡ true) → (xs ys : List A) (y : A) → OneOf ys y
      → list_any (same y) (with_new same xs ys) ≡ true
  any_new same self xs [] y o = absurd o
  any_new same self xs (z ∷ ys) y o = ⊎_elim
      (λ e. subst (λ x. list_any (same x)
      (with_new same (if list_any (same z) xs then xs else xs ++ z ∷ []) ys) ≡ true) e
      (any_kept same (same z) (if list_any (same z) xs then xs else xs ++ z ∷ []) ys
      (by (list_any (same z) xs) refl)))
      (λ k. any_new same self (if list_any (same z) xs then xs else xs ++ z ∷ []) ys y k)
      o
    where
      or_true : (b : Bool) → (b || true) ≡ true
      or_true true = refl
      or_true false = refl

      by : (b : Bool) → list_any (same z) xs ≡ b → list_any (same z) (if b then xs else xs ++ z ∷ []) ≡ true
      by true e = e
      by false e = any_push (same z) xs z ∙ ap (λ c. list_any (same z) xs || c) (self z)
          ∙ or_true (list_any (same z) xs)

  pub new_one_of : (same : A → A → Bool) (xs ys : List A) (x : A) → OneOf (with_new same xs ys) x
      → OneOf xs x ⊎ OneOf ys x
  new_one_of same xs [] x o = inl o
  new_one_of same xs (y ∷ ys) x o = ⊎_elim
      (λ k. by (list_any (same y) xs) k)
      (λ k. inr (inr k))
      (new_one_of same (if list_any (same y) xs then xs else xs ++ y ∷ []) ys x o)
    where
      by : (b : Bool) → OneOf (if b then xs else xs ++ y ∷ []) x → OneOf xs x ⊎ OneOf (y ∷ ys) x
      by true k = inl k
      by false k = ⊎_elim (λ a. inl a) (λ a. ⊎_elim (λ e. inr (inl e)) (λ n. absurd n) a)
          (one_append xs (y ∷ []) x k)

pub one_map : {A B : Type 0} (f : A → B) (xs : List A) (x : A) → OneOf xs x → OneOf (map f xs) (f x)
one_map f [] x o = absurd o
one_map f (y ∷ xs) x o = ⊎_elim (λ e. inl (ap f e)) (λ k. inr (one_map f xs x k)) o

pub map_one : {A B : Type 0} (f : A → B) (xs : List A) (y : B) → OneOf (map f xs) y
    → (x : A) × OneOf xs x × (f x ≡ y)
map_one f [] y o = absurd o
map_one f (x ∷ xs) y o = ⊎_elim (λ e. (x, inl refl, e))
    (λ k. let w = map_one f xs y k in (w.0, inr w.1, w.2)) o

-- ---- crossings in order

one_put : (c e : Cross) (ds : List Cross) → (c ≡ e) ⊎ OneOf ds e → OneOf (put c ds) e
one_put c e [] o = o
one_put c e (d ∷ ds) o = by (is_before d c) o (λ k. one_put c e ds k)
  where
    by : (b : Bool) → (c ≡ e) ⊎ OneOf (d ∷ ds) e → ((c ≡ e) ⊎ OneOf ds e → OneOf (put c ds) e)
        → OneOf (if b then d ∷ put c ds else c ∷ d ∷ ds) e
    by true k f = ⊎_elim (λ a. inr (f (inl a))) (λ a. ⊎_elim (λ x. inl x) (λ x. inr (f (inr x))) a) k
    by false k f = k

put_one : (c e : Cross) (ds : List Cross) → OneOf (put c ds) e → (c ≡ e) ⊎ OneOf ds e
put_one c e [] o = o
put_one c e (d ∷ ds) o = by (is_before d c) o (λ k. put_one c e ds k)
  where
    by : (b : Bool) → OneOf (if b then d ∷ put c ds else c ∷ d ∷ ds) e
        → (OneOf (put c ds) e → (c ≡ e) ⊎ OneOf ds e) → (c ≡ e) ⊎ OneOf (d ∷ ds) e
    by true k f = ⊎_elim (λ a. inr (inl a)) (λ a. ⊎_elim (λ x. inl x) (λ x. inr (inr x)) (f a)) k
    by false k f = k

pub one_in_order : (cs : List Cross) (c : Cross) → OneOf cs c → OneOf (in_order cs) c
one_in_order [] c o = o
one_in_order (d ∷ cs) c o = one_put d c (in_order cs)
    (⊎_elim (λ e. inl e) (λ k. inr (one_in_order cs c k)) o)

pub in_order_one : (cs : List Cross) (c : Cross) → OneOf (in_order cs) c → OneOf cs c
in_order_one [] c o = o
in_order_one (d ∷ cs) c o = ⊎_elim (λ e. inl e) (λ k. inr (in_order_one cs c k))
    (put_one d c (in_order cs) o)

-- ---- points by number

self_eq : (x : ℕ) → nat_eq x x ≡ true
self_eq x = eq-eqb x x refl

pub point_at : (x : ℕ) (points : List ℕ) → is_in x points ≡ true
    → slice_get points (index_of x points) ≡ Some x
point_at x points h =
    let w = one_from_any (nat_eq x) points h in
    subst (λ n. slice_get points n ≡ Some x) (place_is (nat_eq x) points)
    (w.3 ∙ ap Some (sym (eqb-true x w.0 w.2)))

-- a number tells which point it is
pub index_one : (x y : ℕ) (points : List ℕ) → is_in x points ≡ true → is_in y points ≡ true
    → index_of x points ≡ index_of y points → x ≡ y
index_one x y points h k e =
    let same : Some x ≡ Some y = sym (point_at x points h) ∙ ap (slice_get points) e ∙ point_at y points k in
    cc

-- the points from which chosen legs lead
module _ (p : Leg → Bool) (L : List Leg) where
  abbrev pub chosen_points : List ℕ
  chosen_points = firsts nat_eq (points_of (filter p L))

  pub in_points : (l : Leg) → Among L l → p l ≡ true → is_in l.from chosen_points ≡ true
  in_points l a h = any_new nat_eq self_eq [] (points_of (filter p L)) l.from
      (one_map (λ (m : Leg). m.from) (filter p L) l (one_filter p L l a h))

  pub points_in : (x : ℕ) → is_in x chosen_points ≡ true
      → (l : Leg) × Among L l × (p l ≡ true) × (l.from ≡ x)
  points_in x h =
      let w = one_from_any (nat_eq x) chosen_points h in
      let o : OneOf (points_of (filter p L)) w.0 = ⊎_elim (λ n. absurd n) (λ k. k)
      (new_one_of nat_eq [] (points_of (filter p L)) w.0 w.1) in
      let m = map_one (λ (m : Leg). m.from) (filter p L) w.0 o in
      let f = filter_one p L m.0 m.1 in
      (m.0, f.0, f.1, m.2 ∙ sym (eqb-true x w.0 w.2))

-- ---- where the points of legs differ, the legs have their numbers

increase_filter : (p : Leg → Bool) (L : List Leg) → Increase L → Increase (filter p L)
increase_filter p [] h = tt
increase_filter p (l ∷ L) h = by (p l) (increase_filter p L h.1)
    (all_among (λ m. l.place < m.place) (filter p L)
    (λ m o. later_places l.place L h.0 m (filter_one p L m o).0))
  where
    by : (b : Bool) → Increase (filter p L) → AllByRecursion (λ m. l.place < m.place) (filter p L)
        → Increase (cond b (l ∷ filter p L) (filter p L))
    by true k a = (a, k)
    by false k a = k

-- no points are left out
all_new : (A : List Leg) → Increase A → ((l m : Leg) → Among A l → Among A m → l.from ≡ m.from → l ≡ m)
    → (xs : List ℕ) → ((m : Leg) → Among A m → is_in m.from xs ≡ false)
    → with_new nat_eq xs (points_of A) ≡ xs ++ points_of A
all_new [] h one xs none = sym (append-nil xs)
all_new (a ∷ A) h one xs none =
    let apart : (m : Leg) → Among A m → nat_eq m.from a.from ≡ false = λ m o. ne_eqb m.from a.from
    (λ e. omega (
      arith,
      later_places a.place A h.0 m o,
      ap (λ (y : Leg). y.place)
          (one m a (inr o) (inl refl) e),
    )) in
    ap (λ b. with_new nat_eq (if b then xs else xs ++ a.from ∷ []) (points_of A)) (none a (inl refl))
    ∙ all_new A h.1 (λ l m o k e. one l m (inr o) (inr k) e) (xs ++ a.from ∷ [])
    (λ m o. any_push (nat_eq m.from) xs a.from ∙ ap (λ b. b || nat_eq m.from a.from) (none m (inr o))
    ∙ apart m o)
    ∙ append_assoc xs (a.from ∷ []) (points_of A)

at_point : {B : Type 0} (f : Leg → B) (A : List Leg) (l : Leg) → Among A l
    → ((m : Leg) → Among A m → m.from ≡ l.from → m ≡ l)
    → slice_get (map f A) (place (nat_eq l.from) (points_of A)) ≡ Some (f l)
unfolding place
at_point f [] l o one = absurd o
at_point {B} f (m ∷ A) l o one = by (nat_eq l.from m.from) refl
    (λ k. at_point f A l k (λ n a e. one n (inr a) e))
  where
    by : (b : Bool) → nat_eq l.from m.from ≡ b
        → (Among A l → slice_get (map f A) (place (nat_eq l.from) (points_of A)) ≡ Some (f l))
        → slice_get (f m ∷ map f A) (cond b 0 (1 + place (nat_eq l.from) (points_of A))) ≡ Some (f l)
    by true e g = ap (λ x. Some (f x)) (one m (inl refl) (sym (eqb-true l.from m.from e)))
    by false e g =
        let next : suc (place (nat_eq l.from) (points_of A)) ≡ 1 + place (nat_eq l.from) (points_of A) =
        omega arith in
        subst (λ n. slice_get (f m ∷ map f A) n ≡ Some (f l)) next
        (⊎_elim (λ x. absurd
        (true≢false (sym (eq-eqb l.from m.from (ap (λ (y : Leg). y.from) (sym x))) ∙ e))) (λ k. g k) o)

pub leg_at : {B : Type 0} (f : Leg → B) (p : Leg → Bool) (L : List Leg) → Increase L
    → ((l m : Leg) → Among L l → Among L m → p l ≡ true → p m ≡ true → l.from ≡ m.from → l ≡ m)
    → (l : Leg) → Among L l → p l ≡ true
    → slice_get (map f (filter p L)) (index_of l.from (chosen_points p L)) ≡ Some (f l)
leg_at f p L h one l a k =
    let A = filter p L in
    let same : (x y : Leg) → Among A x → Among A y → x.from ≡ y.from → x ≡ y = λ x y o u e. one x y
    (filter_one p L x o).0 (filter_one p L y u).0 (filter_one p L x o).1 (filter_one p L y u).1 e in
    let all : chosen_points p L ≡ points_of A = all_new A (increase_filter p L h) same [] (λ m o. refl) in
    let here = one_filter p L l a k in
    ap (λ n. slice_get (map f A) n) (ap (index_of l.from) all ∙ sym (place_is (nat_eq l.from) (points_of A)))
    ∙ at_point f A l here (λ m o e. same m l o here e)

-- ---- bursts by number

pub same_self : (b : List Sym) → same_set b b ≡ true
same_self b = and_from (list_all (λ a. has_sym a b) b) (list_all (λ a. has_sym a b) b)
    (all_members (λ a. has_sym a b) b (λ x h. h)) (all_members (λ a. has_sym a b) b (λ x h. h))

pub numbers_syms : (ms : List Mark) → numbers_of (syms ms) ≡ symbols ms
numbers_syms [] = refl
numbers_syms (m ∷ ms) = ap (λ t. m.sym.0 ∷ t) (numbers_syms ms)

-- the burst with the number of l has the symbols of l
record Burst (L : List Leg) (l : Leg) : Type 0 where
  pub leg : Leg
  pub among : Among L leg
  pub takes : is_act leg ≡ false
  pub is : slice_get (bursts_of L) (position_or_len (same_set (syms l.marks)) (bursts_of L)) ≡ Some
      (syms leg.marks)
  pub same : same_set (syms l.marks) (syms leg.marks) ≡ true

not_true : (b : Bool) → not b ≡ true → b ≡ false
not_true true h = sym h
not_true false h = refl

burst_at : (L : List Leg) (l : Leg) → Among L l → is_act l ≡ false → Burst L l
burst_at L l a t =
    let inputs = filter (λ m. not (is_act m)) L in
    let all = map (λ (m : Leg). syms m.marks) inputs in
    let there = any_new same_set same_self [] all (syms l.marks)
    (one_map (λ (m : Leg). syms m.marks) inputs l (one_filter (λ m. not (is_act m)) L l a (ap not t))) in
    let w = one_from_any (same_set (syms l.marks)) (bursts_of L) there in
    let o : OneOf all w.0 = ⊎_elim (λ n. absurd n) (λ k. k) (new_one_of same_set [] all w.0 w.1) in
    let m = map_one (λ (m : Leg). syms m.marks) inputs w.0 o in
    let f = filter_one (λ m. not (is_act m)) L m.0 m.1 in
    record {
      leg = m.0;
      among = f.0;
      takes = not_true (is_act m.0) f.1;
      is = subst (λ n. slice_get (bursts_of L) n ≡ Some (syms m.0.marks))
          (place_is (same_set (syms l.marks)) (bursts_of L)) (w.3 ∙ ap Some (sym m.2));
      same = ap (same_set (syms l.marks)) m.2 ∙ w.2;
    }

-- the same symbols, each once, are a permutation
sets_perm : (ms ns : List Mark) → ((a : ℕ) → times a (symbols ms) ≤ 1) → ((a : ℕ) → times a (symbols ns) ≤ 1)
    → same_set (syms ms) (syms ns) ≡ true → IsPermutation (symbols ms) (symbols ns)
sets_perm ms ns few less e =
    let w = and_parts (list_all (λ a. has_sym a (syms ns)) (syms ms))
    (list_all (λ a. has_sym a (syms ms)) (syms ns)) e in
    counts_perm (symbols ms) (symbols ns)
    (λ a. sym (times_count a (symbols ms)) ∙ once_is a (symbols ms) (few a)
    ∙ ap bit (sym (has_is (sym_of a) ms) ∙ alike a w.0 w.1 ∙ has_is (sym_of a) ns)
    ∙ sym (once_is a (symbols ns) (less a)) ∙ times_count a (symbols ns))
  where
    sym_of : ℕ → Sym
    sym_of a = record { 0 = a }

    bit : Bool → ℕ
    bit b = if b then 1 else 0

    alike : (a : ℕ) → list_all (λ x. has_sym x (syms ns)) (syms ms) ≡ true
        → list_all (λ x. has_sym x (syms ms)) (syms ns) ≡ true
        → has_sym (sym_of a) (syms ms) ≡ has_sym (sym_of a) (syms ns)
    alike a x y = ⊎_elim
        (λ k. k ∙ sym (member_all (λ z. has_sym z (syms ns)) (syms ms) x (sym_of a) k))
        (λ k. ⊎_elim
        (λ j. absurd (true≢false (sym (member_all (λ z. has_sym z (syms ms)) (syms ns) y (sym_of a) j) ∙ k)))
        (λ j. k ∙ sym j)
        (cases_Bool (has_sym (sym_of a) (syms ns))))
        (cases_Bool (has_sym (sym_of a) (syms ms)))

pub record Numbered (L : List Leg) (l : Leg) : Type 0 where
  pub burst : List Sym
  pub is : slice_get (bursts_of L) (position_or_len (same_set (syms l.marks)) (bursts_of L)) ≡ Some burst
  pub arranged : IsPermutation (symbols l.marks) (numbers_of burst)

pub burst_numbered : (L : List Leg) → ((l : Leg) (a : ℕ) → Among L l → times a (symbols l.marks) ≤ 1)
    → (l : Leg) → Among L l → is_act l ≡ false → Numbered L l
burst_numbered L few l a t =
    let w = burst_at L l a t in
    record {
      burst = syms w.leg.marks;
      is = w.is;
      arranged = subst (λ x. IsPermutation (symbols l.marks) x)
          (sym (numbers_syms w.leg.marks))
          (sets_perm l.marks w.leg.marks (λ b. few l b a) (λ b. few w.leg b w.among) w.same);
    }

-- legs of one burst have the same symbols
pub same_number : (L : List Leg) (l m : Leg) → Among L l → Among L m → is_act l ≡ false → is_act m ≡ false
    → burst_number L l ≡ burst_number L m
    → (a : ℕ) → IsTrue (is_in a (symbols l.marks)) → IsTrue (is_in a (symbols m.marks))
same_number L l m u v s t e a has =
    let b = burst_at L l u s in
    let d = burst_at L m v t in
    let same : Some (syms b.leg.marks) ≡ Some (syms d.leg.marks) = sym b.is ∙ ap (slice_get (bursts_of L)) e
    ∙ d.is in
    let one : syms b.leg.marks ≡ syms d.leg.marks = cc in
    let x : Sym = record { 0 = a } in
    let there : has_sym x (syms b.leg.marks) ≡ true = member_all (λ z. has_sym z (syms b.leg.marks))
    (syms l.marks)
    (and_parts (list_all (λ z. has_sym z (syms b.leg.marks)) (syms l.marks))
    (list_all (λ z. has_sym z (syms l.marks)) (syms b.leg.marks)) b.same).0 x (has_is x l.marks ∙ has) in
    sym (has_is x m.marks) ∙ member_all (λ z. has_sym z (syms m.marks)) (syms d.leg.marks)
    (and_parts (list_all (λ z. has_sym z (syms d.leg.marks)) (syms m.marks))
    (list_all (λ z. has_sym z (syms m.marks)) (syms d.leg.marks)) d.same).1 x
    (ap (has_sym x) (sym one) ∙ there)

-- the number of a burst is that of one of the bursts
pub burst_below : (L : List Leg) (l : Leg) → Among L l → is_act l ≡ false
    → burst_number L l < length (bursts_of L)
burst_below L l a t = let b = burst_at L l a t in slice_get_within (bursts_of L) (burst_number L l)
    (syms b.leg.marks) b.is

-- ---- homes

pub homes_known : (L : List Leg) → AreSets L → Homes L (burst_number L) (home_number L)
homes_known L sets = record {
  homes = λ l a at takes has. place_agree (has_sym (record { 0 = a })) (same_set (syms l.marks))
      (bursts_of L) (sets_known L sets l at takes (record { 0 = a })
      (has_is (record { 0 = a }) l.marks ∙ has) (bursts_of L) (bursts_inputs L));
  keys = λ l m a u v s t e has. same_number L l m u v s t e a has;
}
