-- Places of listed traces, and how the table of longer traces grows.
use Rattle.std.proofs.Common.{◌≡◌, ◌⊎◌, ◌↔◌, inl, inr, ⊎_elim, ℕ, ◌+◌, ◌<◌, ◌≤◌, zero, suc, length, get_or, slice_get, slice_set, nat_lt, take, drop, cond, arith, Vec, Global, ltb-true, ltb-false, append_assoc, List, [], ◌∷◌, ◌++◌, refl, sym, ap, ◌∙◌, subst, Bool, true, false, true≢false, Option, Some, None}
use Rattle.std.specs.Ordering.{nat_cmp, ordering_then, is_eq}
use Rattle.std.specs.Cmp.Lexicographic.{bytes_decides}
use Rattle.std.specs.List.{Contains, position_or_len}
use Rattle.std.specs.Str.{bytes_eq}
use Rattle.std.proofs.lemmas.Cmp.{nat_cmp_total, tied_itself}
use Rattle.std.proofs.lemmas.List.{length-take-le, get_or_read, length_push, take_more}
use Rattle.std.proofs.lemmas.Grind.{common_steps}
use Rattle.std.proofs.lemmas.List.Quantifiers.{position-Some}
use Rattle.std.proofs.lemmas.List.Sums.{fails_before_first}
use Rattle.std.proofs.lemmas.Option.{slice_get_read, slice_get_past, slice_get_within}
use Rattle.std.proofs.lemmas.Map.Lookups.{exact_pairs, exact_unsigned}
use Rattle.std.proofs.lemmas.Map.Views.{tells_apart}
use Rattle.trace_laws.specs.Mirror.Faults.{exchanged, front, last_of}
use Rattle.trace_laws.specs.Mirror.Links.{find, Key, key_cmp, Closed, Follow, Known, AllKnown, RowOf}
use Rattle.trace_laws.proofs.Offers.{below_or}
use Rattle.trace_laws.proofs.Shown.{front_at, last_at, front_last, listed_at, split_two, exchanged_at}

-- ---- places

pub find_at : (W : List (List ℕ)) (x : List ℕ) (i : ℕ) → find W x ≡ Some i → (i < length W) × (get_or W i [] ≡ x)
find_at W x i e = let h = position-Some (bytes_eq x) W i [] e in (h.0, sym ((bytes_decides x (get_or W i [])).0 h.1))

pub find_in : (W : List (List ℕ)) (x : List ℕ) (i : ℕ) → find W x ≡ Some i → Contains W x
find_in W x i e = let h = find_at W x i e in subst (Contains W) h.1 (listed_at W i h.0)

pub find_same : (W : List (List ℕ)) (s t : List ℕ) (i : ℕ) → find W s ≡ Some i → find W t ≡ Some i → s ≡ t
find_same W s t i e f = sym (find_at W s i e).1 ∙ (find_at W t i f).1

-- what is in the list has a place there
pub found : (W : List (List ℕ)) (x : List ℕ) → Contains W x → find W x ≡ None → ⊥
found W x (k, l, e) h =
    let past : length W ≤ position_or_len (bytes_eq x) W = grind (arith, common_steps) in
    let fails : bytes_eq x (get_or W k x) ≡ false = fails_before_first (bytes_eq x) W k x (omega (arith, l, past)) in
    let passes : bytes_eq x (get_or W k x) ≡ true = (bytes_decides x (get_or W k x)).1 (sym e) in
    absurd (true≢false (sym passes ∙ fails))

pub is_found : (W : List (List ℕ)) (x : List ℕ) (o : Option ℕ) → o ≡ find W x → (k : ℕ) → o ≡ Some k → Contains W x
is_found W x o e k f = find_in W x k (sym e ∙ f)

-- ---- the table

key_same : (k q : Key) → is_eq (key_cmp k q) ≡ true → k ≡ q
key_same k q h = tells_apart {R = key_cmp} (exact_pairs nat_cmp nat_cmp exact_unsigned exact_unsigned) k q h

key_self : (k : Key) → is_eq (key_cmp k k) ≡ true
key_self (a, x) = ap (λ o. is_eq (ordering_then o (nat_cmp x x))) (tied_itself nat_cmp_total a) ∙ ap is_eq (tied_itself nat_cmp_total x)

module _ (W : List (List ℕ)) (n : ℕ) (x : List ℕ) (old : Key → Option ℕ) (is : get_or W n [] ≡ x) (f : Follow W n old) where
  -- no row of the table is for x
  pub none_more : ((s : List ℕ) (a i : ℕ) → find W s ≡ Some i → x ≡ s ++ a ∷ [] → ⊥) → Follow W (n + 1) old
  none_more clear = record {
    sound = f.sound;
    whole = λ s a i j e l g none. ⊎_elim
        (λ h. f.whole s a i j e h g none)
        (λ h. clear s a i e (sym is ∙ ap (λ k. get_or W k []) (sym h) ∙ g))
        (below_or j n l);
  }

  pub one_more : (new : Key → Option ℕ) (y : List ℕ) (b before place : ℕ) → x ≡ y ++ b ∷ [] → find W y ≡ Some before → find W x ≡ Some place
      → ((q : Key) → new q ≡ cond (is_eq (key_cmp (before, b) q)) (Some place) (old q)) → Follow W (n + 1) new
  one_more new y b before place e p q u = record {
    sound = λ s a i k g h. sound_by s a i k g (is_eq (key_cmp (before, b) (i, a))) refl (sym (u (i, a)) ∙ h);
    whole = λ s a i j g l h none. ⊎_elim
        (λ m. old_by s a i j g m h (is_eq (key_cmp (before, b) (i, a))) (sym (u (i, a)) ∙ none))
        (λ m. new_by s a i g (sym is ∙ ap (λ k. get_or W k []) (sym m) ∙ h) (sym (u (i, a)) ∙ none))
        (below_or j n l);
  }
    where
      sound_by : (s : List ℕ) (a i k : ℕ) → find W s ≡ Some i → (t : Bool) → is_eq (key_cmp (before, b) (i, a)) ≡ t
          → cond t (Some place) (old (i, a)) ≡ Some k → find W (s ++ a ∷ []) ≡ Some k
      sound_by s a i k g true m h =
          let same : place ≡ k = cc in
          let keys = key_same (before, b) (i, a) m in
          let fronts : y ≡ s = find_same W y s i (p ∙ ap (λ (z : Key). Some z.0) keys) g in
          subst (λ z. find W (s ++ a ∷ []) ≡ Some z) same
          (sym (ap (find W) (e ∙ (λ j. fronts j ++ (keys j).1 ∷ []))) ∙ q)
      sound_by s a i k g false m h = f.sound s a i k g h

      old_by : (s : List ℕ) (a i j : ℕ) → find W s ≡ Some i → j < n → get_or W j [] ≡ s ++ a ∷ [] → (t : Bool)
          → cond t (Some place) (old (i, a)) ≡ None → ⊥
      old_by s a i j g l h true none = absurd (cc)
      old_by s a i j g l h false none = f.whole s a i j g l h none

      clash : (t : Bool) (o : Option ℕ) → t ≡ true → cond t (Some place) o ≡ None → ⊥
      clash true o e none = absurd (cc)
      clash false o e none = absurd (cc)

      new_by : (s : List ℕ) (a i : ℕ) → find W s ≡ Some i → x ≡ s ++ a ∷ []
          → cond (is_eq (key_cmp (before, b) (i, a))) (Some place) (old (i, a)) ≡ None → ⊥
      new_by s a i g h none =
          let fronts : y ≡ s = sym (front_at y b) ∙ ap front (sym e ∙ h) ∙ front_at s a in
          let lasts : b ≡ a = sym (last_at y b) ∙ ap last_of (sym e ∙ h) ∙ last_at s a in
          let places : Some before ≡ Some i = sym p ∙ ap (find W) fronts ∙ g in
          let place : before ≡ i = cc in
          clash (is_eq (key_cmp (before, b) (i, a))) (old (i, a))
          (subst (λ (z : Key). is_eq (key_cmp (before, b) z) ≡ true) (λ j. (place j, lasts j)) (key_self (before, b))) none

-- the whole table tells where each longer trace is listed
pub follows : (W : List (List ℕ)) (at : Key → Option ℕ) → Follow W (length W) at → (s : List ℕ) (a i : ℕ) → find W s ≡ Some i
    → at (i, a) ≡ find W (s ++ a ∷ [])
follows W at f s a i e = by (at (i, a)) (find W (s ++ a ∷ [])) refl refl where
  by : (o p : Option ℕ) → at (i, a) ≡ o → find W (s ++ a ∷ []) ≡ p → at (i, a) ≡ find W (s ++ a ∷ [])
  by (Some k) p g h = g ∙ sym (f.sound s a i k e g)
  by None None g h = g ∙ sym h
  by None (Some k) g h = let m = find_at W (s ++ a ∷ []) k h in absurd (f.whole s a i k e m.0 m.1 g)

-- ---- rows

-- exchanging neighbours before the last symbol
pub exchanged_push : (y : List ℕ) (a i : ℕ) → i + 1 < length y → exchanged (y ++ a ∷ []) i ≡ exchanged y i ++ a ∷ []
exchanged_push y a i l =
    let size : length (take i y) ≡ i = length-take-le i y (omega (arith, l)) in
    ap (λ z. exchanged (z ++ a ∷ []) i) (split_two y i l)
    ∙ ap (λ z. exchanged z i) (append_assoc (take i y) (get_or y i 0 ∷ (get_or y (i + 1) 0 ∷ drop (i + 2) y)) (a ∷ []))
    ∙ ap (exchanged (take i y ++ (get_or y i 0 ∷ (get_or y (i + 1) 0 ∷ (drop (i + 2) y ++ a ∷ []))))) (sym size)
    ∙ exchanged_at (take i y) (get_or y i 0) (get_or y (i + 1) 0) (drop (i + 2) y ++ a ∷ [])
    ∙ sym (append_assoc (take i y) (get_or y (i + 1) 0 ∷ (get_or y i 0 ∷ drop (i + 2) y)) (a ∷ []))

pub exchanged_front : (x : List ℕ) (i : ℕ) → i + 1 < length (front x) → exchanged x i ≡ exchanged (front x) i ++ last_of x ∷ []
exchanged_front x i l = ap (λ y. exchanged y i) (front_last x (some_of x l)) ∙ exchanged_push (front x) (last_of x) i l where
  some_of : (y : List ℕ) → i + 1 < length (front y) → 0 < length y
  some_of [] l = absurd (omega (arith, l))
  some_of (a ∷ y) l = omega arith

-- where the front with neighbours exchanged is not listed, the whole is not
pub not_longer : (W : List (List ℕ)) → Closed W → (x : List ℕ) (i : ℕ) → i + 1 < length (front x) → find W (exchanged (front x) i) ≡ None
    → find W (exchanged x i) ≡ None
not_longer W c x i l e = by (find W (exchanged x i)) refl where
  by : (o : Option ℕ) → find W (exchanged x i) ≡ o → find W (exchanged x i) ≡ None
  by None h = h
  by (Some k) h = absurd (found W (exchanged (front x) i)
      (c (exchanged (front x) i) (last_of x) (subst (Contains W) (exchanged_front x i l) (find_in W (exchanged x i) k h))) e)

pub listed_in : (W : List (List ℕ)) (x : List ℕ) (row : List (Option ℕ)) (i : ℕ) (o : Option (Option ℕ)) → RowOf W x row → i + 1 < length x
    → slice_get row i ≡ o → ((k : ℕ) × (o ≡ Some (Some k))) ↔ Contains W (exchanged x i)
listed_in W x row i None r l e = absurd (r.whole i l e)
listed_in W x row i (Some None) r l e = let h = r.known i None e in (
  λ k. absurd (let z = k.1 in cc),
  λ c. absurd (found W (exchanged x i) c (sym h.1)),
)
listed_in W x row i (Some (Some k)) r l e = let h = r.known i (Some k) e in (
  λ m. find_in W (exchanged x i) k (sym h.1),
  λ c. (k, refl),
)

-- ---- one trace of the list

pub item_at : (W items : List (List ℕ)) (i : ℕ) (x : List ℕ) → items ≡ W → i < length items → x ≡ get_or items i x
    → (i < length W) × (get_or W i [] ≡ x)
item_at W items i x e l r =
    let y : x ≡ get_or W i [] = get_or_read items i x l r [] ∙ ap (λ z. get_or z i []) e in
    (omega (arith, l, ap length e), sym y)

pub not_first : (x s : List ℕ) (a : ℕ) → length x ≡ 0 → x ≡ s ++ a ∷ [] → ⊥
not_first x s a z e = absurd (omega (arith, z, ap length e, length_push s a))

pub no_front : (W : List (List ℕ)) (x y s : List ℕ) (a b i : ℕ) → x ≡ y ++ b ∷ [] → find W y ≡ None → find W s ≡ Some i → x ≡ s ++ a ∷ [] → ⊥
no_front W x y s a b i e n f h =
    let fronts : y ≡ s = sym (front_at y b) ∙ ap front (sym e ∙ h) ∙ front_at s a in
    let z : None ≡ Some i = sym n ∙ ap (find W) fronts ∙ f in absurd (cc)

pub listed_here : (W : List (List ℕ)) (n : ℕ) (x : List ℕ) → n < length W → get_or W n [] ≡ x → find W x ≡ None → ⊥
listed_here W n x l e f = found W x (subst (Contains W) e (listed_at W n l)) f

-- ---- a trace, front by front

-- where the first i symbols of x are listed; and all shorter fronts are listed too
abbrev pub Walked : List (List ℕ) → List ℕ → ℕ → ℕ → Type 0
Walked W x i place = (find W (take i x) ≡ Some place) × ((k : ℕ) → k < i + 1 → Contains W (take k x))

pub walk_begins : (W : List (List ℕ)) (x : List ℕ) (root : ℕ) → find W [] ≡ Some root → Walked W x 0 root
walk_begins W x root e = (
  e,
  λ k l. let z : k ≡ 0 = omega (arith, l) in subst (λ j. Contains W (take j x)) (sym z) (find_in W [] root e),
)

module _ (W : List (List ℕ)) (at : Key → Option ℕ) (f : Follow W (length W) at) (x items : List ℕ) (i a place : ℕ) (e : items ≡ x)
    (l : i < length items) (is : a ≡ get_or items i a) (w : Walked W x i place) where
  walked_on : at (place, a) ≡ find W (take (i + 1) x)
  walked_on = follows W at f (take i x) a place w.0
      ∙ ap (find W) (ap (λ b. take i x ++ b ∷ []) (get_or_read items i a l is 0 ∙ ap (λ z. get_or z i 0) e)
      ∙ sym (take_more x i 0 (omega (arith, l, ap length e))))

  pub walk_more : (next : ℕ) → at (place, a) ≡ Some next → Walked W x (i + 1) next
  walk_more next h = (
    sym walked_on ∙ h,
    λ k m. ⊎_elim
        (λ b. w.1 k b)
        (λ b. subst (λ j. Contains W (take j x)) (sym b) (find_in W (take (i + 1) x) next (sym walked_on ∙ h)))
        (below_or k (i + 1) m),
  )

  pub walk_ends : at (place, a) ≡ None → Contains W (take (i + 1) x) → ⊥
  walk_ends h c = found W (take (i + 1) x) c (sym walked_on ∙ h)

-- ---- what a row has

pub read_at : {X : Type 0} (row : List X) (i : ℕ) (e : X) → true ≡ nat_lt i (length row) → e ≡ get_or row i e → slice_get row i ≡ Some e
read_at row i e h g = slice_get_read row (length row) i e refl (ltb-true i (length row) (sym h)) g

pub none_at : {X : Type 0} (row : List X) (i : ℕ) → false ≡ nat_lt i (length row) → slice_get row i ≡ None
none_at row i h = slice_get_past row i (ltb-false i (length row) (sym h))

pub by_known : (W : List (List ℕ)) (at : Key → Option ℕ) → Follow W (length W) at → (x : List ℕ) (known : List (Option ℕ)) (i place last : ℕ) → Known W (front x) known
    → slice_get known i ≡ Some (Some place) → last ≡ last_of x → at (place, last) ≡ find W (exchanged x i)
by_known W at f x known i place last k e l =
    let h = k i (Some place) e in
    follows W at f (exchanged (front x) i) last place (sym h.1)
    ∙ ap (find W) (ap (λ b. exchanged (front x) i ++ b ∷ []) l ∙ sym (exchanged_front x i h.0))

pub none_known : (W : List (List ℕ)) → Closed W → (x : List ℕ) (known : List (Option ℕ)) (i : ℕ) → Known W (front x) known
    → slice_get known i ≡ Some None → None ≡ find W (exchanged x i)
none_known W c x known i k e = let h = k i None e in sym (not_longer W c x i h.0 (sym h.1))

pub row_known : (W : List (List ℕ)) (x : List ℕ) (rows : List (Vec (Option ℕ) Global)) (place : ℕ) (row : Vec (Option ℕ) Global) → AllKnown W rows
    → Some place ≡ find W x → place < length rows → row ≡ get_or rows place row → Known W x row.items
row_known W x rows place row all p l is =
    subst (λ z. Known W z row.items) (find_at W x place (sym p)).1 (all place row (slice_get_read rows (length rows) place row refl l is))

pub same_known : (W : List (List ℕ)) (x : List ℕ) (row known : List (Option ℕ)) → known ≡ row → Known W x row → Known W x known
same_known W x row known e k = subst (Known W x) (sym e) k

pushed_before : {X : Type 0} (row : List X) (e : X) (k : ℕ) → k < length row → slice_get (row ++ e ∷ []) k ≡ slice_get row k
pushed_before [] e k l = absurd (omega (arith, l))
pushed_before (x ∷ row) e zero l = refl
pushed_before (x ∷ row) e (suc k) l = pushed_before row e k (omega (arith, l))

pushed_last : {X : Type 0} (row : List X) (e : X) → slice_get (row ++ e ∷ []) (length row) ≡ Some e
pushed_last [] e = refl
pushed_last (x ∷ row) e = pushed_last row e

-- the first n places of x
abbrev pub RowUpTo : List (List ℕ) → List ℕ → List (Option ℕ) → ℕ → Type 0
RowUpTo W x row n = (length row ≡ n) × ((i : ℕ) → i < n → slice_get row i ≡ Some (find W (exchanged x i)))

pub row_more : (W : List (List ℕ)) (x : List ℕ) (row new : List (Option ℕ)) (n : ℕ) (e : Option ℕ) → new ≡ row ++ e ∷ [] → e ≡ find W (exchanged x n)
    → RowUpTo W x row n → RowUpTo W x new (n + 1)
row_more W x row new n e is g r = (
  ap length is ∙ length_push row e ∙ ap (λ m. m + 1) r.0,
  λ i l. subst (λ z. slice_get z i ≡ Some (find W (exchanged x i))) (sym is) (⊎_elim
      (λ h. pushed_before row e i (omega (arith, h, r.0)) ∙ r.1 i h)
      (λ h. ap (slice_get (row ++ e ∷ [])) (h ∙ sym r.0) ∙ pushed_last row e ∙ ap Some (g ∙ ap (λ j. find W (exchanged x j)) (sym h)))
      (below_or i n l)),
)

pub row_whole : (W : List (List ℕ)) (x : List ℕ) (row : List (Option ℕ)) (n : ℕ) → n + 1 ≡ length x → RowUpTo W x row n → RowOf W x row
row_whole W x row n long r = record {
  known = λ i e h.
      let l : i < n = omega (arith, slice_get_within row i e h, r.0) in
      let same : Some (find W (exchanged x i)) ≡ Some e = sym (r.1 i l) ∙ h in
      (omega (arith, l, long), cc);
  whole = λ i l none. let same : Some (find W (exchanged x i)) ≡ None = sym (r.1 i (omega (arith, l, long))) ∙ none in absurd (cc);
}

set_at : {X : Type 0} (xs : List X) (n k : ℕ) (x y : X) → slice_get (slice_set xs n x) k ≡ Some y → (y ≡ x) × (k ≡ n) ⊎ (slice_get xs k ≡ Some y)
set_at [] n k x y e = inr e
set_at (z ∷ xs) zero zero x y e = inl (cc, refl)
set_at (z ∷ xs) zero (suc k) x y e = inr e
set_at (z ∷ xs) (suc n) zero x y e = inr e
set_at (z ∷ xs) (suc n) (suc k) x y e = elim (set_at xs n k x y e) [ inl h ↦ inl (h.0, ap suc h.1) | inr h ↦ inr h ]

-- a row more is filled
pub filled : (W : List (List ℕ)) (rows : List (Vec (Option ℕ) Global)) (place : ℕ) (x : List ℕ) (row : Vec (Option ℕ) Global) → AllKnown W rows
    → get_or W place [] ≡ x → Known W x row.items → AllKnown W (slice_set rows place row)
filled W rows place x row all is known k other e = elim (set_at rows place k row other e) [
  | inl h ↦ subst (λ z. Known W z other.items) (sym is ∙ ap (λ j. get_or W j []) (sym h.1)) (subst (λ (z : Vec (Option ℕ) Global). Known W x z.items) (sym h.0) known)
  | inr h ↦ all k other h
]

pub item_read : (W items : List (List ℕ)) (i : ℕ) (x : List ℕ) → items ≡ W → true ≡ nat_lt i (length items) → x ≡ get_or items i x → get_or W i [] ≡ x
item_read W items i x e h r = (item_at W items i x e (ltb-true i (length items) (sym h)) r).1

pub same_row : (W : List (List ℕ)) (x : List ℕ) (row known : List (Option ℕ)) → known ≡ row → RowOf W x row → RowOf W x known
same_row W x row known e r = subst (RowOf W x) (sym e) r
