-- Where a symbol that is taken is of one burst as a set, one symbol tells which burst it is.
use Rattle.std.proofs.Common.{◌≡◌, inl, inr, ⊎_elim, ℕ, zero, suc, ◌+◌, ◌<◌, ◌≤◌, Bool, true, false, true≢false, cond, ◌||◌, nat_eq, List, [], ◌∷◌, ◌++◌, length, get_or, map, refl, sym, ap, ◌∙◌, subst, arith, IsTrue, if◌then◌else◌, eq-eqb, eqb-true, filter, length-append}
use Rattle.std.specs.Prelude.{not}
use Rattle.std.specs.List.{AllByRecursion, list_any, list_all, position_or_len}
use Rattle.std.proofs.lemmas.Bool.{cases_Bool, and_from, and_left, and_parts, or_cases}
use Rattle.cmd_tree.specs.declared.tree.Sym.{Sym}
use Rattle.cmd_tree.specs.declared.tree.Mark.{Mark}
use Rattle.cmd_tree.specs.Lists.{is_in}
use Rattle.cmd_tree.specs.Meaning.{symbols}
use Rattle.place_graph.specs.declared.leg.Leg.{Leg}
use Rattle.place_graph.specs.Points.{Among}
use Rattle.place_graph.specs.Graph.{with_new, is_act, inputs_of, syms, has_sym, same_set, bursts_of}
use Rattle.place_graph.specs.Drawable.{AreSets}
use Rattle.place_graph.specs.Mirror.Numbers.{IsInput}
use Rattle.place_graph.proofs.Positions.{place, place_is}

pub among_at : (L : List Leg) (i : ℕ) (l : Leg) → i < length L → l ≡ get_or L i l → Among L l
among_at [] i l h e = absurd (omega arith)
among_at (m ∷ L) zero l h e = inl (sym e)
among_at (m ∷ L) (suc i) l h e = inr (among_at L i l (omega arith) e)

pub has_is : (a : Sym) (ms : List Mark) → has_sym a (syms ms) ≡ is_in a.0 (symbols ms)
has_is a [] = refl
has_is a (m ∷ ms) = ap (λ b. nat_eq a.0 m.sym.0 || b) (has_is a ms)

pub all_syms : (n : ℕ) (ms : List Mark) → AllByRecursion (λ m. m.sym.0 < n) ms
    → AllByRecursion (λ a. a.0 < n) (syms ms)
all_syms n [] h = tt
all_syms n (m ∷ ms) h = (h.0, all_syms n ms h.1)

module _ {A : Type 0} where
  pub any_agree : (p q : A → Bool) (xs : List A) → AllByRecursion (λ x. p x ≡ q x) xs
      → list_any p xs ≡ list_any q xs
  any_agree p q [] h = refl
  any_agree p q (x ∷ xs) h = ap (λ b. b || list_any p xs) h.0 ∙ ap (λ b. q x || b) (any_agree p q xs h.1)

  places_agree : (p q : A → Bool) (xs : List A) → AllByRecursion (λ x. p x ≡ q x) xs
      → place p xs ≡ place q xs
  unfolding place
  places_agree p q [] h = refl
  places_agree p q (x ∷ xs) h = ap (λ b. cond b 0 (1 + place p xs)) h.0
      ∙ ap (λ n. cond (q x) 0 (1 + n)) (places_agree p q xs h.1)

  pub place_agree : (p q : A → Bool) (xs : List A) → AllByRecursion (λ x. p x ≡ q x) xs
      → position_or_len p xs ≡ position_or_len q xs
  place_agree p q xs h = sym (place_is p xs) ∙ places_agree p q xs h ∙ place_is q xs

  all_put : (P : A → Type 0) (xs : List A) (y : A) → AllByRecursion P xs → P y
      → AllByRecursion P (xs ++ y ∷ [])
  all_put P [] y h k = (k, tt)
  all_put P (x ∷ xs) y h k = (h.0, all_put P xs y h.1 k)

  pub all_with_new : (P : A → Type 0) (same : A → A → Bool) (xs ys : List A) → AllByRecursion P xs
      → AllByRecursion P ys → AllByRecursion P (with_new same xs ys)
  all_with_new P same xs [] h k = h
  all_with_new P same xs (y ∷ ys) h k = all_with_new P same
      (if list_any (same y) xs then xs else xs ++ y ∷ []) ys (by (list_any (same y) xs)) k.1
    where
      by : (b : Bool) → AllByRecursion P (if b then xs else xs ++ y ∷ [])
      by true = h
      by false = all_put P xs y h k.0

  pub few_with_new : (same : A → A → Bool) (xs ys : List A)
      → length (with_new same xs ys) ≤ length xs + length ys
  few_with_new same xs [] = omega arith
  few_with_new same xs (y ∷ ys) = by (list_any (same y) xs)
      (few_with_new same (if list_any (same y) xs then xs else xs ++ y ∷ []) ys)
    where
      by : (b : Bool)
          → length (with_new same (if list_any (same y) xs then xs else xs ++ y ∷ []) ys) ≤ length
          (if b then xs else xs ++ y ∷ []) + length ys
          → length (with_new same (if list_any (same y) xs then xs else xs ++ y ∷ []) ys) ≤ length xs + suc
          (length ys)
      by true h = omega (arith, h)
      by false h = omega (arith, h, length-append xs (y ∷ []))

  pub few_filter : (p : A → Bool) (xs : List A) → length (filter p xs) ≤ length xs
  few_filter p [] = omega arith
  few_filter p (x ∷ xs) = by (p x) (few_filter p xs)
    where
      by : (b : Bool) → length (filter p xs) ≤ length xs
          → length (cond b (x ∷ filter p xs) (filter p xs)) ≤ suc (length xs)
      by true h = omega (arith, h)
      by false h = omega (arith, h)

-- ---- one symbol tells

pub all_members : (q : Sym → Bool) (b : List Sym) → ((x : Sym) → has_sym x b ≡ true → q x ≡ true)
    → list_all q b ≡ true
all_members q [] f = refl
all_members q (x ∷ b) f = and_from (q x) (list_all q b)
    (f x (ap (λ t. t || has_sym x b) (eq-eqb x.0 x.0 refl)))
    (all_members q b (λ y h. f y (or_right (nat_eq y.0 x.0) (has_sym y b) h)))
  where
    or_right : (s t : Bool) → t ≡ true → (s || t) ≡ true
    or_right true t h = refl
    or_right false t h = h

pub member_all : (q : Sym → Bool) (b : List Sym) → list_all q b ≡ true → (x : Sym) → has_sym x b ≡ true
    → q x ≡ true
member_all q [] h x k = absurd (true≢false (sym k))
member_all q (y ∷ b) h x k = ⊎_elim
    (λ e. subst (λ z. q z ≡ true) (same e) (and_parts (q y) (list_all q b) h).0)
    (λ e. member_all q b (and_parts (q y) (list_all q b) h).1 x e)
    (or_cases (nat_eq x.0 y.0) (has_sym x b) k)
  where
    same : nat_eq x.0 y.0 ≡ true → y ≡ x
    same e = λ i. record { 0 = sym (eqb-true x.0 y.0 e) i }

module _ (L : List Leg) (sets : AreSets L) where
  pub set_known : (l : Leg) → Among L l → is_act l ≡ false → (a : Sym) → has_sym a (syms l.marks) ≡ true
      → (b : List Sym) → IsInput L b → has_sym a b ≡ same_set (syms l.marks) b
  set_known l at takes a h b w = ⊎_elim (λ k. k ∙ sym (both k)) (λ k. k ∙ sym (neither k))
      (cases_Bool (has_sym a b))
    where
      in_l : (x : Sym) → has_sym x (syms l.marks) ≡ true → IsTrue (is_in x.0 (symbols l.marks))
      in_l x e = sym (has_is x l.marks) ∙ e

      in_b : (x : Sym) → has_sym x b ≡ true → IsTrue (is_in x.0 (symbols w.leg.marks))
      in_b x e = sym (has_is x w.leg.marks) ∙ ap (λ c. has_sym x c) w.burst ∙ e

      both : has_sym a b ≡ true → same_set (syms l.marks) b ≡ true
      both k = and_from (list_all (λ x. has_sym x b) (syms l.marks))
          (list_all (λ x. has_sym x (syms l.marks)) b)
          (all_members (λ x. has_sym x b) (syms l.marks)
          (λ x e. ap (λ c. has_sym x c) (sym w.burst) ∙ has_is x w.leg.marks
          ∙ sets l w.leg a.0 x.0 at w.among takes w.takes (in_l a h) (in_b a k) (in_l x e)))
          (all_members (λ x. has_sym x (syms l.marks)) b
          (λ x e. has_is x l.marks ∙ sets w.leg l a.0 x.0 w.among at w.takes takes (in_b a k) (in_l a h)
          (in_b x e)))

      neither : has_sym a b ≡ false → same_set (syms l.marks) b ≡ false
      neither k = ⊎_elim
          (λ e. absurd (true≢false (sym (member_all (λ x. has_sym x b) (syms l.marks) e a h) ∙ k)))
          (λ e. and_left (list_all (λ x. has_sym x b) (syms l.marks))
          (list_all (λ x. has_sym x (syms l.marks)) b) e)
          (cases_Bool (list_all (λ x. has_sym x b) (syms l.marks)))

  pub sets_known : (l : Leg) → Among L l → is_act l ≡ false → (a : Sym) → has_sym a (syms l.marks) ≡ true
      → (bs : List (List Sym)) → AllByRecursion (IsInput L) bs
      → AllByRecursion (λ b. has_sym a b ≡ same_set (syms l.marks) b) bs
  sets_known l at takes a h [] w = tt
  sets_known l at takes a h (b ∷ bs) w = (set_known l at takes a h b w.0, sets_known l at takes a h bs w.1)

-- ---- the input bursts

inputs_all : (L M : List Leg) → ((l : Leg) → Among M l → Among L l)
    → AllByRecursion (IsInput L) (map (λ l. syms l.marks) (inputs_of M))
inputs_all L [] sub = tt
inputs_all L (m ∷ M) sub = by (is_act m) refl (inputs_all L M (λ l a. sub l (inr a)))
  where
    by : (b : Bool) → is_act m ≡ b → AllByRecursion (IsInput L) (map (λ l. syms l.marks) (inputs_of M))
        → AllByRecursion (IsInput L) (map (λ l. syms l.marks) (cond (not b) (m ∷ inputs_of M) (inputs_of M)))
    by true e h = h
    by false e h = (record { leg = m; among = sub m (inl refl); takes = e; burst = refl }, h)

pub bursts_inputs : (L : List Leg) → AllByRecursion (IsInput L) (bursts_of L)
bursts_inputs L = all_with_new (IsInput L) same_set [] (map (λ l. syms l.marks) (inputs_of L)) tt
    (inputs_all L L (λ l a. a))

length_map : {A B : Type 0} (f : A → B) (xs : List A) → length (map f xs) ≡ length xs
length_map f [] = refl
length_map f (x ∷ xs) = ap suc (length_map f xs)

pub bursts_few : (L : List Leg) → length (bursts_of L) ≤ length L
bursts_few L = omega (
  arith,
  few_with_new same_set [] (map (λ l. syms l.marks) (inputs_of L)),
  length_map
      (λ (l : Leg). syms l.marks) (inputs_of L),
  few_filter (λ l. not (is_act l)) L,
)
