-- What a weave asks of the processes of a symbol alone.
use Rattle.std.proofs.Common.{◌≡◌, ◌≢◌, ◌⊎◌, inl, inr, ⊎_elim, ◌↔◌, ℕ, zero, suc, ◌+◌, ◌<◌, ◌≤◌, Bool, true, false, true≢false, ◌||◌, nat_eq, cond, if◌then◌else◌, List, [], ◌∷◌, ◌++◌, length, get_or, drop, slice_get, Some, IsTrue, refl, sym, ap, ◌∙◌, subst, arith, append-nil, eqb-true, eq-eqb}
use Rattle.std.specs.Prelude.{⊤}
use Rattle.std.specs.List.{AllByRecursion}
use Rattle.std.proofs.lemmas.List.Elements.{filter-append}
use Rattle.std.proofs.lemmas.Option.{slice_get-get_or}
use Rattle.std.proofs.lemmas.List.{drop_all}
use Rattle.std.proofs.Math.Seq.{drop-cons}
use Rattle.cmd_tree.specs.declared.tree.Mark.{Mark}
use Rattle.cmd_tree.specs.declared.tree.Proc.{Proc}
use Rattle.cmd_tree.specs.Limits.{marks_of_proc, marks_of_all}
use Rattle.cmd_tree.specs.Meaning.{TraceOf, Trace, has_symbol, project}
use Rattle.place_graph.specs.Points.{OneOf}
use Rattle.place_graph.proofs.Determined.{reached}
use Rattle.cmd_machine.specs.declared.position.Position.{Position}
use Rattle.cmd_machine.specs.Mirror.Positions as position
use Rattle.cmd_machine.specs.Mirror.Walkers.{users_from, AllGoOn, StandEach, StandBut}

-- ---- lists

pub one_more : (k : ℕ) → suc k ≡ k + 1
one_more k = omega arith

pub shift : (k n : ℕ) → k + 1 + n ≡ k + suc n
shift k n = omega arith

pub none_more : (k : ℕ) → k ≡ k + 0
none_more k = omega arith

from_none : (n : ℕ) → 0 + n ≡ n
from_none n = omega arith

pub some_at : {A : Type 0} (xs : List A) (i : ℕ) → i < length xs → (x : A) × (slice_get xs i ≡ Some x)
some_at [] i h = absurd (omega (arith, h))
some_at (x ∷ xs) zero h = (x, refl)
some_at (x ∷ xs) (suc i) h = some_at xs i (omega (arith, h))

pub at_some : {A : Type 0} (xs : List A) (i : ℕ) (x : A) → slice_get xs i ≡ Some x → i < length xs
at_some [] i x e = absurd (cc)
at_some (y ∷ xs) zero x e = omega arith
at_some (y ∷ xs) (suc i) x e = omega (arith, at_some xs i x e)

pub item_is : {A : Type 0} (xs : List A) (i : ℕ) (r m : A) → i < length xs → r ≡ get_or xs i r
    → slice_get xs i ≡ Some m → r ≡ m
item_is xs i r m h is e =
    let same : Some r ≡ Some m = ap Some is ∙ sym (slice_get-get_or xs i r h) ∙ e in
    let it : r ≡ m = cc in
    it

pub at_index : (P : Proc → Type 0) (ps : List Proc) → AllByRecursion P ps → (i : ℕ) (p : Proc)
    → slice_get ps i ≡ Some p → P p
at_index P [] h i p e = absurd (cc)
at_index P (q ∷ ps) h zero p e = let same : q ≡ p = cc in subst P same h.0
at_index P (q ∷ ps) h (suc i) p e = at_index P ps h.1 i p e

index_all : (P : Proc → Type 0) (ps : List Proc) → ((i : ℕ) (p : Proc) → slice_get ps i ≡ Some p → P p)
    → AllByRecursion P ps
index_all P [] f = tt
index_all P (q ∷ ps) f = (f 0 q refl, index_all P ps (λ i p e. f (suc i) p e))

one_at : (xs : List ℕ) (k d : ℕ) → k < length xs → OneOf xs (get_or xs k d)
one_at [] k d h = absurd (omega (arith, h))
one_at (x ∷ xs) zero d h = inl refl
one_at (x ∷ xs) (suc k) d h = inr (one_at xs k d (omega (arith, h)))

first_one : (xs : List ℕ) → xs ≢ [] → (x : ℕ) × OneOf xs x
first_one [] h = absurd (h refl)
first_one (x ∷ xs) h = (x, inl refl)

not_none : (xs : List ℕ) (x : ℕ) → OneOf xs x → xs ≢ []
not_none xs x o e = subst (λ ys. OneOf ys x) e o

-- ---- the users of a symbol

record UserAt (k : ℕ) (ps : List Proc) (a i : ℕ) : Type 0 where
  pub number : ℕ
  pub process : Proc
  pub at : slice_get ps number ≡ Some process
  pub is : i ≡ k + number
  pub has : IsTrue (has_symbol (marks_of_proc process) a)

user_at : (k : ℕ) (ps : List Proc) (a i : ℕ) → OneOf (users_from k ps a) i → UserAt k ps a i
user_at k [] a i o = absurd o
user_at k (p ∷ ps) a i o = by (has_symbol (marks_of_proc p) a) refl o (user_at (k + 1) ps a i)
  where
    next : UserAt (k + 1) ps a i → UserAt k (p ∷ ps) a i
    next u = record { number = suc u.number; process = u.process; at = u.at; is = omega (arith, u.is); has = u.has }

    by : (b : Bool) → has_symbol (marks_of_proc p) a ≡ b
        → OneOf (if b then k ∷ users_from (k + 1) ps a else users_from (k + 1) ps a) i
        → (OneOf (users_from (k + 1) ps a) i → UserAt (k + 1) ps a i) → UserAt k (p ∷ ps) a i
    by true e h r = ⊎_elim
        (λ (f : k ≡ i). record { number = 0; process = p; at = refl; is = omega (arith, f); has = e })
        (λ u. next (r u))
        h
    by false e h r = next (r h)

user_in : (k : ℕ) (ps : List Proc) (a n : ℕ) (p : Proc) → slice_get ps n ≡ Some p
    → IsTrue (has_symbol (marks_of_proc p) a) → OneOf (users_from k ps a) (k + n)
user_in k [] a n p e h = absurd (cc)
user_in k (q ∷ ps) a zero p e h =
    let same : q ≡ p = cc in
    by (has_symbol (marks_of_proc q) a) (ap (λ x. has_symbol (marks_of_proc x) a) same ∙ h)
  where
    by : (b : Bool) → b ≡ true → OneOf (if b then k ∷ users_from (k + 1) ps a else users_from (k + 1) ps a) (k + 0)
    by true f = inl (none_more k)
    by false f = absurd (true≢false (sym f))
user_in k (q ∷ ps) a (suc n) p e h = by (has_symbol (marks_of_proc q) a)
    (subst (OneOf (users_from (k + 1) ps a)) (shift k n) (user_in (k + 1) ps a n p e h))
  where
    by : (b : Bool) → OneOf (users_from (k + 1) ps a) (k + suc n)
        → OneOf (if b then k ∷ users_from (k + 1) ps a else users_from (k + 1) ps a) (k + suc n)
    by true o = inr o
    by false o = o

pub user_zero : (ps : List Proc) (a i : ℕ) (p : Proc) → slice_get ps i ≡ Some p
    → IsTrue (has_symbol (marks_of_proc p) a) → OneOf (users_from 0 ps a) i
user_zero ps a i p e h = subst (OneOf (users_from 0 ps a)) (from_none i) (user_in 0 ps a i p e h)

user_has : (ps : List Proc) (a i : ℕ) (p : Proc) → OneOf (users_from 0 ps a) i → slice_get ps i ≡ Some p
    → IsTrue (has_symbol (marks_of_proc p) a)
user_has ps a i p o e =
    let u = user_at 0 ps a i o in
    let number : u.number ≡ i = omega (arith, u.is) in
    let same : Some u.process ≡ Some p = sym u.at ∙ ap (slice_get ps) number ∙ e in
    let it : u.process ≡ p = cc in
    subst (λ x. IsTrue (has_symbol (marks_of_proc x) a)) it u.has

user_within : (ps : List Proc) (a i : ℕ) → OneOf (users_from 0 ps a) i → i < length ps
user_within ps a i o = let u = user_at 0 ps a i o in omega (arith, u.is, at_some ps u.number u.process u.at)

-- each of them comes once
abbrev pub Rises : List ℕ → Type 0
Rises [] = ⊤
Rises (x ∷ xs) = AllByRecursion (λ y. x < y) xs × Rises xs

more_all : (m n : ℕ) → m ≤ n → (xs : List ℕ) → AllByRecursion (λ y. n ≤ y) xs → AllByRecursion (λ y. m ≤ y) xs
more_all m n l [] h = tt
more_all m n l (x ∷ xs) h = (omega (arith, l, h.0), more_all m n l xs h.1)

above : (m : ℕ) (xs : List ℕ) → AllByRecursion (λ y. m + 1 ≤ y) xs → AllByRecursion (λ y. m < y) xs
above m [] h = tt
above m (x ∷ xs) h = (omega (arith, h.0), above m xs h.1)

users_rise : (k : ℕ) (ps : List Proc) (a : ℕ)
    → AllByRecursion (λ y. k ≤ y) (users_from k ps a) × Rises (users_from k ps a)
users_rise k [] a = (tt, tt)
users_rise k (p ∷ ps) a = by (has_symbol (marks_of_proc p) a) (users_from (k + 1) ps a) (users_rise (k + 1) ps a)
  where
    by : (b : Bool) (us : List ℕ) → AllByRecursion (λ y. k + 1 ≤ y) us × Rises us
        → AllByRecursion (λ y. k ≤ y) (if b then k ∷ us else us) × Rises (if b then k ∷ us else us)
    by true us h = ((omega arith, more_all k (k + 1) (omega arith) us h.0), (above k us h.0, h.1))
    by false us h = (more_all k (k + 1) (omega arith) us h.0, h.1)

rises_drop : (k : ℕ) (xs : List ℕ) → Rises xs → Rises (drop k xs)
rises_drop zero xs h = h
rises_drop (suc k) [] h = tt
rises_drop (suc k) (x ∷ xs) h = rises_drop k xs h.1

not_again : (x : ℕ) (xs : List ℕ) → AllByRecursion (λ y. x < y) xs → OneOf xs x → ⊥
not_again x [] h o = o
not_again x (y ∷ xs) h o = ⊎_elim (λ e. omega (arith, h.0, e)) (λ w. not_again x xs h.1 w) o

-- ---- the symbols of all processes

of_either : (ms ns : List Mark) (a : ℕ) → IsTrue (has_symbol (ms ++ ns) a)
    → IsTrue (has_symbol ms a) ⊎ IsTrue (has_symbol ns a)
of_either [] ns a h = inr h
of_either (m ∷ ms) ns a h = by (nat_eq a m.sym.0) h (of_either ms ns a)
  where
    by : (b : Bool) → IsTrue (b || has_symbol (ms ++ ns) a)
        → (IsTrue (has_symbol (ms ++ ns) a) → IsTrue (has_symbol ms a) ⊎ IsTrue (has_symbol ns a))
        → IsTrue (b || has_symbol ms a) ⊎ IsTrue (has_symbol ns a)
    by true h f = inl refl
    by false h f = f h

or_more : (b c d : Bool) → (IsTrue c → IsTrue d) → IsTrue (b || c) → IsTrue (b || d)
or_more true c d f h = refl
or_more false c d f h = f h

or_after : (b c : Bool) → IsTrue c → IsTrue (b || c)
or_after true c h = refl
or_after false c h = h

of_first : (ms ns : List Mark) (a : ℕ) → IsTrue (has_symbol ms a) → IsTrue (has_symbol (ms ++ ns) a)
of_first [] ns a h = absurd (true≢false (sym h))
of_first (m ∷ ms) ns a h = or_more (nat_eq a m.sym.0) (has_symbol ms a) (has_symbol (ms ++ ns) a)
    (of_first ms ns a) h

of_second : (ms ns : List Mark) (a : ℕ) → IsTrue (has_symbol ns a) → IsTrue (has_symbol (ms ++ ns) a)
of_second [] ns a h = h
of_second (m ∷ ms) ns a h = or_after (nat_eq a m.sym.0) (has_symbol (ms ++ ns) a) (of_second ms ns a h)

known_has : (ps : List Proc) (a : ℕ) → IsTrue (has_symbol (marks_of_all ps) a)
    → (i : ℕ) × (p : Proc) × (slice_get ps i ≡ Some p) × IsTrue (has_symbol (marks_of_proc p) a)
known_has [] a h = absurd (true≢false (sym h))
known_has (p ∷ ps) a h = ⊎_elim
    (λ v. (0, p, refl, v))
    (λ v. let r = known_has ps a v in (suc r.0, r.1, r.2, r.3))
    (of_either (marks_of_proc p) (marks_of_all ps) a h)

has_known : (ps : List Proc) (a i : ℕ) (p : Proc) → slice_get ps i ≡ Some p
    → IsTrue (has_symbol (marks_of_proc p) a) → IsTrue (has_symbol (marks_of_all ps) a)
has_known [] a i p e h = absurd (cc)
has_known (q ∷ ps) a zero p e h =
    let same : q ≡ p = cc in
    of_first (marks_of_proc q) (marks_of_all ps) a
    (subst (λ x. IsTrue (has_symbol (marks_of_proc x) a)) (sym same) h)
has_known (q ∷ ps) a (suc i) p e h = of_second (marks_of_proc q) (marks_of_all ps) a (has_known ps a i p e h)

-- ---- the projections of a longer trace

goes_project : (p : Proc) (t : List ℕ) (a : ℕ) → has_symbol (marks_of_proc p) a ≡ true
    → project p (t ++ a ∷ []) ≡ project p t ++ a ∷ []
goes_project p t a h =
    filter-append (has_symbol (marks_of_proc p)) t (a ∷ [])
    ∙ ap (λ b. project p t ++ cond b (a ∷ []) []) h

stays_project : (p : Proc) (t : List ℕ) (a : ℕ) → has_symbol (marks_of_proc p) a ≡ false
    → project p (t ++ a ∷ []) ≡ project p t
stays_project p t a h =
    filter-append (has_symbol (marks_of_proc p)) t (a ∷ [])
    ∙ ap (λ b. project p t ++ cond b (a ∷ []) []) h
    ∙ append-nil (project p t)

-- ---- the law

stood : (p : Proc) (m : Position) (t : List ℕ) → position.Stands p m t → TraceOf p t
stood p m t s = (reached p s.whole t).1 (s.state, s.reached)

all_push : (P : ℕ → Type 0) (t : List ℕ) (a : ℕ) → AllByRecursion P t → P a → AllByRecursion P (t ++ a ∷ [])
all_push P [] a h k = (k, tt)
all_push P (b ∷ t) a h k = (h.0, all_push P t a h.1 k)

all_last : (P : ℕ → Type 0) (t : List ℕ) (a : ℕ) → AllByRecursion P (t ++ a ∷ []) → P a
all_last P [] a h = h.0
all_last P (b ∷ t) a h = all_last P t a h.1

abbrev pub Known : List Proc → ℕ → Type 0
Known ps x = IsTrue (has_symbol (marks_of_all ps) x)

module _ (ps : List Proc) (t : List ℕ) (a : ℕ) where
  module _ (ms : List Position) (each : StandEach ps ms t) where
    stands_at : (i : ℕ) (p : Proc) → slice_get ps i ≡ Some p → TraceOf p (project p t)
    stands_at i p e =
        let m = some_at ms i (omega (arith, each.long, at_some ps i p e)) in
        stood p m.0 (project p t) (each.at i p m.0 e m.1)

    pub weave_goes_on : AllByRecursion (Known ps) t → users_from 0 ps a ≢ [] → AllGoOn ps t a (users_from 0 ps a)
        → Trace ps (t ++ a ∷ [])
    weave_goes_on known some all = record {
      known = all_push (Known ps) t a known here;
      each = index_all (λ p. TraceOf p (project p (t ++ a ∷ []))) ps
          (λ i p e. by i p e (has_symbol (marks_of_proc p) a) refl);
    }
      where
        here : Known ps a
        here =
            let o = first_one (users_from 0 ps a) some in
            let u = user_at 0 ps a o.0 o.1 in
            has_known ps a u.number u.process u.at u.has

        by : (i : ℕ) (p : Proc) → slice_get ps i ≡ Some p → (b : Bool) → has_symbol (marks_of_proc p) a ≡ b
            → TraceOf p (project p (t ++ a ∷ []))
        by i p e true h = subst (TraceOf p) (sym (goes_project p t a h)) (all i p (user_zero ps a i p e h) e)
        by i p e false h = subst (TraceOf p) (sym (stays_project p t a h)) (stands_at i p e)

    -- ---- a step of all users

    pub but_begins : StandBut ps ms t a (users_from 0 ps a)
    but_begins = record {
      long = each.long;
      waits = λ i p m e f o. each.at i p m e f;
      went = λ i p m e f none. by i p m e f none (has_symbol (marks_of_proc p) a) refl;
    }
      where
        by : (i : ℕ) (p : Proc) (m : Position) → slice_get ps i ≡ Some p → slice_get ms i ≡ Some m
            → (OneOf (users_from 0 ps a) i → ⊥) → (b : Bool) → has_symbol (marks_of_proc p) a ≡ b
            → position.Stands p m (project p (t ++ a ∷ []))
        by i p m e f none true h = absurd (none (user_zero ps a i p e h))
        by i p m e f none false h = subst (λ x. position.Stands p m x) (sym (stays_project p t a h))
            (each.at i p m e f)

  pub weave_must : Trace ps (t ++ a ∷ []) → (users_from 0 ps a ≢ []) × AllGoOn ps t a (users_from 0 ps a)
  weave_must w = (
    some,
    λ i p o e. subst (TraceOf p) (goes_project p t a (user_has ps a i p o e))
        (at_index (λ q. TraceOf q (project q (t ++ a ∷ []))) ps w.each i p e),
  )
    where
      some : users_from 0 ps a ≢ []
      some =
          let k = known_has ps a (all_last (Known ps) t a w.known) in
          not_none (users_from 0 ps a) k.0 (user_zero ps a k.0 k.1 k.2 k.3)

  pub but_ends : (ms : List Position) → StandBut ps ms t a [] → StandEach ps ms (t ++ a ∷ [])
  but_ends ms h = record { long = h.long; at = λ i p m e f. h.went i p m e f (λ o. o) }

  module _ (ms ns : List Position) (user : ℕ) (left : List ℕ) where
    pub but_goes_on : OneOf (users_from 0 ps a) user → AllByRecursion (λ y. user < y) left
        → AllGoOn ps t a (users_from 0 ps a) → length ns ≡ length ms
        → ((i : ℕ) → i ≢ user → slice_get ns i ≡ slice_get ms i)
        → ((p : Proc) (u : List ℕ) (m n : Position) → slice_get ms user ≡ Some m → position.Stands p m u
        → TraceOf p (u ++ a ∷ []) → slice_get ns user ≡ Some n → position.Stands p n (u ++ a ∷ []))
        → StandBut ps ms t a (user ∷ left) → StandBut ps ns t a left
    but_goes_on one rises all long same here h = record {
      long = long ∙ h.long;
      waits = λ i p m e f o. h.waits i p m e (sym (same i (λ k. not_again user left rises (subst (OneOf left) k o))) ∙ f)
          (inr o);
      went = λ i p m e f none. by i p m e f none (nat_eq i user) refl;
    }
      where
        by : (i : ℕ) (p : Proc) (n : Position) → slice_get ps i ≡ Some p → slice_get ns i ≡ Some n
            → (OneOf left i → ⊥) → (b : Bool) → nat_eq i user ≡ b → position.Stands p n (project p (t ++ a ∷ []))
        by i p n e f none true q =
            let is : i ≡ user = eqb-true i user q in
            let ep = ap (slice_get ps) (sym is) ∙ e in
            let m = some_at ms user (omega (arith, h.long, is, at_some ps i p e)) in
            subst (λ x. position.Stands p n x) (sym (goes_project p t a (user_has ps a user p one ep)))
            (here p (project p t) m.0 n m.1 (h.waits user p m.0 ep m.1 (inl refl)) (all user p one ep)
            (ap (slice_get ns) (sym is) ∙ f))
        by i p n e f none false q =
            let other : i ≢ user = λ k. true≢false (sym (eq-eqb i user k) ∙ q) in
            h.went i p n e (sym (same i other) ∙ f) (λ o. ⊎_elim (λ k. other (sym k)) (λ w. none w) o)

-- ---- asking the users one after another

pub asks_on : (ps : List Proc) (t : List ℕ) (a : ℕ) (us : List ℕ) (k d : ℕ) → k < length us
    → ((p : Proc) → slice_get ps (get_or us k d) ≡ Some p → TraceOf p (project p t ++ a ∷ []))
    → (AllGoOn ps t a (drop k us) → AllGoOn ps t a us) → AllGoOn ps t a (drop (k + 1) us) → AllGoOn ps t a us
asks_on ps t a us k d h here f rest = f (λ i p o e. by i p e
    (subst (λ xs. OneOf xs i) (drop-cons us k d h) o))
  where
    by : (i : ℕ) (p : Proc) → slice_get ps i ≡ Some p → OneOf (get_or us k d ∷ drop (suc k) us) i
        → TraceOf p (project p t ++ a ∷ [])
    by i p e (inl v) = here p (ap (slice_get ps) v ∙ e)
    by i p e (inr v) = rest i p (subst (λ n. OneOf (drop n us) i) (one_more k) v) e

-- ---- the answer of a walker

module _ (ps : List Proc) (t : List ℕ) (a : ℕ) (us : List ℕ) (are : us ≡ users_from 0 ps a) where
  pub can_none : us ≡ [] → (IsTrue false ↔ Trace ps (t ++ a ∷ []))
  can_none none = (
    λ r. absurd (true≢false (sym r)),
    λ w. absurd ((weave_must ps t a w).0 (sym are ∙ none)),
  )

  pub can_all : (ms : List Position) → StandEach ps ms t → AllByRecursion (Known ps) t → us ≢ [] → (r : Bool)
      → (IsTrue r ↔ AllGoOn ps t a us) → (IsTrue r ↔ Trace ps (t ++ a ∷ []))
  can_all ms each known some r law = (
    λ h. weave_goes_on ps t a ms each known (λ e. some (are ∙ e)) (subst (AllGoOn ps t a) are (law.0 h)),
    λ w. law.1 (subst (AllGoOn ps t a) (sym are) (weave_must ps t a w).1),
  )

  pub all_go_on : Trace ps (t ++ a ∷ []) → AllGoOn ps t a us
  all_go_on w = subst (AllGoOn ps t a) (sym are) (weave_must ps t a w).1

-- ---- the loops over the users

module _ (ps : List Proc) (t : List ℕ) (a : ℕ) (us : List ℕ) (k d : ℕ) (within : k < length us) where
  -- the positions answer for the k-th user
  abbrev pub Answers : List Position → Bool → Type 0
  Answers ms r = (p : Proc) (u : List ℕ) (m : Position) → slice_get ms (get_or us k d) ≡ Some m
      → position.Stands p m u → (IsTrue r ↔ TraceOf p (u ++ a ∷ []))

  answered : (ms : List Position) → StandEach ps ms t → (r : Bool) → Answers ms r → (p : Proc)
      → slice_get ps (get_or us k d) ≡ Some p → (IsTrue r ↔ TraceOf p (project p t ++ a ∷ []))
  answered ms each r law p e =
      let i = get_or us k d in
      let m = some_at ms i (omega (arith, each.long, at_some ps i p e)) in
      law p (project p t) m.0 m.1 (each.at i p m.0 e m.1)

  pub passed : (ms : List Position) → StandEach ps ms t → (r : Bool) → Answers ms r → r ≡ true
      → (AllGoOn ps t a (drop k us) → AllGoOn ps t a us) → AllGoOn ps t a (drop (k + 1) us) → AllGoOn ps t a us
  passed ms each r law yes_ f = asks_on ps t a us k d within (λ p e. (answered ms each r law p e).0 yes_) f

  pub stopped : (ms : List Position) → StandEach ps ms t → us ≡ users_from 0 ps a → (r : Bool) → Answers ms r
      → r ≡ false → (IsTrue false ↔ AllGoOn ps t a us)
  stopped ms each are r law not_ = (
    λ x. absurd (true≢false (sym x)),
    λ all.
        let i = get_or us k d in
        let o = one_at us k d within in
        let p = some_at ps i (user_within ps a i (subst (λ xs. OneOf xs i) are o)) in
        sym not_ ∙ (answered ms each r law p.0 p.1).1 (all i p.0 o p.1),
  )

  pub stepped : (ms ns : List Position) → us ≡ users_from 0 ps a → AllGoOn ps t a us → length ns ≡ length ms
      → ((i : ℕ) → i ≢ get_or us k d → slice_get ns i ≡ slice_get ms i)
      → ((p : Proc) (u : List ℕ) (m n : Position) → slice_get ms (get_or us k d) ≡ Some m
      → position.Stands p m u → TraceOf p (u ++ a ∷ []) → slice_get ns (get_or us k d) ≡ Some n
      → position.Stands p n (u ++ a ∷ []))
      → StandBut ps ms t a (drop k us) → StandBut ps ns t a (drop (k + 1) us)
  stepped ms ns are all long same here h =
      let cut : drop k us ≡ get_or us k d ∷ drop (suc k) us = drop-cons us k d within in
      let rise : Rises (drop k us) = rises_drop k us
      (subst Rises (sym are) (users_rise 0 ps a).1) in
      let first : AllByRecursion (λ y. get_or us k d < y) (drop (suc k) us) = (subst Rises cut rise).0 in
      let one : OneOf (users_from 0 ps a) (get_or us k d) = subst (λ xs. OneOf xs (get_or us k d)) are
      (one_at us k d within) in
      subst (λ n. StandBut ps ns t a (drop n us)) (one_more k)
      (but_goes_on ps t a ms ns (get_or us k d) (drop (suc k) us) one first (subst (AllGoOn ps t a) are all) long
      same here (subst (StandBut ps ms t a) cut h))

-- past the last user
pub past_all : (ps : List Proc) (t : List ℕ) (a : ℕ) (us : List ℕ) (k : ℕ) → length us ≤ k
    → AllGoOn ps t a (drop k us)
past_all ps t a us k h = subst (AllGoOn ps t a) (sym (drop_all k us h)) (λ i p o e. absurd o)

pub past_but : (ps : List Proc) (t : List ℕ) (a : ℕ) (us : List ℕ) (k : ℕ) (ms : List Position) → length us ≤ k
    → StandBut ps ms t a (drop k us) → StandBut ps ms t a []
past_but ps t a us k ms h s = subst (StandBut ps ms t a) (drop_all k us h) s
