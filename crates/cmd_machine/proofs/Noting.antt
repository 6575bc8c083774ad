-- How the rows of users grow.
use Rattle.std.proofs.Common.{◌≡◌, ◌≢◌, ◌⊎◌, inl, inr, ⊎_elim, ℕ, zero, suc, ◌+◌, ◌<◌, ◌≤◌, Bool, true, false, true≢false, ◌||◌, nat_eq, if◌then◌else◌, List, [], ◌∷◌, ◌++◌, length, length-append, get_or, set, map, take, slice_get, Some, Vec, Global, refl, sym, ap, ◌∙◌, subst, arith, append-nil, eqb-true, eq-eqb}
use Rattle.std.specs.List.{AllByRecursion}
use Rattle.std.proofs.lemmas.List.{take_more, map-set, get_or-map, get_or-set_same, get_or-set_other, length-map, length-take-le}
use Rattle.std.proofs.lemmas.List.Folds.{list_any-append}
use Rattle.cmd_tree.specs.declared.tree.Proc.{Proc}
use Rattle.cmd_tree.specs.Limits.{marks_of_proc, places_of_proc, places_of_all}
use Rattle.cmd_tree.specs.Lists.{is_in}
use Rattle.cmd_tree.specs.Meaning.{has_symbol}
use Rattle.di_grammar.specs.Lists.{Each}
use Rattle.cmd_machine.specs.declared.position.Position.{Position}
use Rattle.cmd_machine.specs.Mirror.Positions as position
use Rattle.cmd_machine.specs.Mirror.Walkers.{row_at, users_from, StandEach}
use Rattle.cmd_machine.proofs.Weaving.{at_some, shift, none_more}

-- ---- one symbol more

abbrev pub noted : Bool → ℕ → List ℕ
noted b k = if b then k ∷ [] else []

in_push : (a s : ℕ) (xs : List ℕ) → is_in a (xs ++ s ∷ []) ≡ (is_in a xs || nat_eq a s)
in_push a s xs = list_any-append (nat_eq a) xs (s ∷ []) ∙ ap (λ b. is_in a xs || b) (last (nat_eq a s))
  where
    last : (b : Bool) → (b || false) ≡ b
    last true = refl
    last false = refl

module _ (old now new : ℕ → List ℕ) (xs : List ℕ) (s k : ℕ) where
  pub note_more : ((a : ℕ) → AllByRecursion (λ i. i < k) (old a))
      → ((a : ℕ) → now a ≡ old a ++ noted (is_in a xs) k)
      → ((ys : List ℕ) → now s ≡ ys ++ k ∷ [] → new s ≡ now s)
      → (AllByRecursion (λ i. i < k) (now s) → new s ≡ now s ++ k ∷ [])
      → ((a : ℕ) → a ≢ s → new a ≡ now a)
      → (a : ℕ) → new a ≡ old a ++ noted (is_in a (xs ++ s ∷ [])) k
  note_more below before twice once others a = by (nat_eq a s) refl
    where
      here : (b : Bool) → is_in s xs ≡ b → new s ≡ old s ++ k ∷ []
      here true e =
          let was = before s ∙ ap (λ c. old s ++ noted c k) e in
          twice (old s) was ∙ was
      here false e =
          let was = before s ∙ ap (λ c. old s ++ noted c k) e ∙ append-nil (old s) in
          once (subst (AllByRecursion (λ i. i < k)) (sym was) (below s)) ∙ ap (λ ys. ys ++ k ∷ []) was

      or_true : (b : Bool) → (b || true) ≡ true
      or_true true = refl
      or_true false = refl

      or_false : (b : Bool) → (b || false) ≡ b
      or_false true = refl
      or_false false = refl

      by : (b : Bool) → nat_eq a s ≡ b → new a ≡ old a ++ noted (is_in a (xs ++ s ∷ [])) k
      by true e =
          let is : a ≡ s = eqb-true a s e in
          ap new is ∙ here (is_in s xs) refl ∙ ap (λ z. old z ++ k ∷ []) (sym is)
          ∙ ap (λ c. old a ++ noted c k) (sym (in_push a s xs ∙ ap (λ c. is_in a xs || c) e ∙ or_true (is_in a xs)))
      by false e =
          others a (λ is. true≢false (sym (eq-eqb a s is) ∙ e)) ∙ before a
          ∙ ap (λ c. old a ++ noted c k) (sym (in_push a s xs ∙ ap (λ c. is_in a xs || c) e ∙ or_false (is_in a xs)))

-- ---- one process more

pub users_push : (k : ℕ) (ps : List Proc) (p : Proc) (a : ℕ)
    → users_from k (ps ++ p ∷ []) a ≡ users_from k ps a ++ noted (has_symbol (marks_of_proc p) a) (k + length ps)
users_push k [] p a = by (has_symbol (marks_of_proc p) a)
  where
    by : (b : Bool) → (if b then k ∷ [] else []) ≡ (if b then (k + 0) ∷ [] else [])
    by true = ap (λ n. n ∷ []) (none_more k)
    by false = refl
users_push k (q ∷ ps) p a = by (has_symbol (marks_of_proc q) a)
    (users_push (k + 1) ps p a
    ∙ ap (λ n. users_from (k + 1) ps a ++ noted (has_symbol (marks_of_proc p) a) n) (shift k (length ps)))
  where
    by : (b : Bool)
        → users_from (k + 1) (ps ++ p ∷ []) a
        ≡ users_from (k + 1) ps a ++ noted (has_symbol (marks_of_proc p) a) (k + suc (length ps))
        → (if b then k ∷ users_from (k + 1) (ps ++ p ∷ []) a else users_from (k + 1) (ps ++ p ∷ []) a)
        ≡ (if b then k ∷ users_from (k + 1) ps a else users_from (k + 1) ps a)
        ++ noted (has_symbol (marks_of_proc p) a) (k + suc (length ps))
    by true e = ap (λ xs. k ∷ xs) e
    by false e = e

pub users_below : (k : ℕ) (ps : List Proc) (a n : ℕ) → k + length ps ≤ n
    → AllByRecursion (λ i. i < n) (users_from k ps a)
users_below k [] a n h = tt
users_below k (p ∷ ps) a n h = by (has_symbol (marks_of_proc p) a) (users_below (k + 1) ps a n (omega (arith, h)))
  where
    by : (b : Bool) → AllByRecursion (λ i. i < n) (users_from (k + 1) ps a)
        → AllByRecursion (λ i. i < n) (if b then k ∷ users_from (k + 1) ps a else users_from (k + 1) ps a)
    by true r = (omega (arith, h), r)
    by false r = r

at_push : {A : Type 0} (xs : List A) (x y : A) (i : ℕ) → slice_get (xs ++ x ∷ []) i ≡ Some y
    → (slice_get xs i ≡ Some y) ⊎ ((i ≡ length xs) × (x ≡ y))
at_push [] x y zero e = let same : x ≡ y = cc in inr (refl, same)
at_push [] x y (suc i) e = absurd (cc)
at_push (z ∷ xs) x y zero e = inl e
at_push (z ∷ xs) x y (suc i) e = ⊎_elim (λ v. inl v) (λ v. inr (omega (arith, v.0), v.1)) (at_push xs x y i e)

pub each_push : (ps : List Proc) (ms : List Position) (p : Proc) (m : Position) → StandEach ps ms []
    → position.Stands p m [] → StandEach (ps ++ p ∷ []) (ms ++ m ∷ []) []
each_push ps ms p m h s = record {
  long = omega (arith, h.long, length-append ms (m ∷ []), length-append ps (p ∷ []));
  at = λ i q n e f. ⊎_elim
      (λ v. ⊎_elim
      (λ w. h.at i q n v w)
      (λ w. absurd (omega (arith, at_some ps i q v, w.0, h.long)))
      (at_push ms m n i f))
      (λ v. ⊎_elim
      (λ w. absurd (omega (arith, at_some ms i n w, v.0, h.long)))
      (λ w. subst (λ x. position.Stands q x []) w.1 (subst (λ x. position.Stands x m []) v.1 s))
      (at_push ms m n i f))
      (at_push ps p q i e);
}

-- ---- each process of a command

pub each_index : (P : Proc → Type 0) (ps : List Proc) (i : ℕ) (d : Proc) → i < length ps → Each P ps
    → P (get_or ps i d)
each_index P [] i d l h = absurd (omega (arith, l))
each_index P (p ∷ ps) zero d l h = h.0
each_index P (p ∷ ps) (suc i) d l h = each_index P ps i d (omega (arith, l)) h.1

pub places_index : (ps : List Proc) (i : ℕ) (d : Proc) → i < length ps
    → places_of_proc (get_or ps i d) ≤ places_of_all ps
places_index [] i d l = absurd (omega (arith, l))
places_index (p ∷ ps) zero d l = omega arith
places_index (p ∷ ps) (suc i) d l = omega (arith, places_index ps i d (omega (arith, l)))

-- ---- one row is written

abbrev pub Row : Type 0
Row = Vec ℕ Global

module _ (rows : List Row) (s : ℕ) (row : Row) where
  pub set_here : s < length rows → row_at (map (λ (r : Row). r.items) (set rows s row)) s ≡ row.items
  set_here h =
      ap (λ xs. row_at xs s) (map-set (λ (r : Row). r.items) rows s row)
      ∙ get_or-set_same (map (λ (r : Row). r.items) rows) s row.items []
      (omega (arith, h, length-map rows (λ (r : Row). r.items)))

  pub set_other : (a : ℕ) → a ≢ s → row_at (map (λ (r : Row). r.items) (set rows s row)) a
      ≡ row_at (map (λ (r : Row). r.items) rows) a
  set_other a h =
      ap (λ xs. row_at xs a) (map-set (λ (r : Row). r.items) rows s row)
      ∙ get_or-set_other (map (λ (r : Row). r.items) rows) s a row.items [] h

abbrev pub rows_of : List Row → ℕ → List ℕ
rows_of rows a = row_at (map (λ (r : Row). r.items) rows) a

-- the rows before, with room for the symbol, and after the process is added to the row of the symbol
pub note_step : (old : ℕ → List ℕ) (before room after : List Row) (was row : Row) (symbols : List ℕ) (i s k : ℕ)
    → ((a : ℕ) → AllByRecursion (λ j. j < k) (old a)) → i < length symbols → s ≡ get_or symbols i 0
    → ((a : ℕ) → rows_of before a ≡ old a ++ noted (is_in a (take i symbols)) k)
    → ((a : ℕ) → rows_of room a ≡ rows_of before a) → s < length room → was ≡ get_or room s was
    → after ≡ set room s row
    → ((ys : List ℕ) → was.items ≡ ys ++ k ∷ [] → row.items ≡ was.items)
    → (AllByRecursion (λ j. j < k) was.items → row.items ≡ was.items ++ k ∷ [])
    → (a : ℕ) → rows_of after a ≡ old a ++ noted (is_in a (take (i + 1) symbols)) k
note_step old before room after was row symbols i s k below within at inv same inside is wrote twice once a =
    ap (λ rows. rows_of rows a) wrote
    ∙ note_more old (rows_of room) (λ b. rows_of (set room s row) b) (take i symbols) s k below
    (λ b. same b ∙ inv b)
    (λ ys e. set_here room s row inside ∙ twice ys (sym read ∙ e) ∙ sym read)
    (λ all. set_here room s row inside ∙ once (subst (AllByRecursion (λ j. j < k)) read all)
    ∙ ap (λ xs. xs ++ k ∷ []) (sym read))
    (λ b other. set_other room s row b other) a
    ∙ ap (λ xs. old a ++ noted (is_in a xs) k)
    (ap (λ x. take i symbols ++ x ∷ []) at ∙ sym (take_more symbols i 0 within))
  where
    read : rows_of room s ≡ was.items
    read = get_or-map (λ (r : Row). r.items) room s was [] inside ∙ sym (ap (λ (r : Row). r.items) is)

-- ---- the processes one after another

pub users_next : (ps : List Proc) (k n a : ℕ) (p : Proc) (before after : List Row) (symbols : List ℕ)
    → k < length ps → p ≡ get_or ps k p → n ≡ k → symbols ≡ map (λ m. m.sym.0) (marks_of_proc p)
    → ((b : ℕ) → rows_of before b ≡ users_from 0 (take k ps) b)
    → (((b : ℕ) → AllByRecursion (λ j. j < n) (rows_of before b)) → (b : ℕ) → rows_of after b
    ≡ rows_of before b ++ noted (is_in b symbols) n)
    → rows_of after a ≡ users_from 0 (take (k + 1) ps) a
users_next ps k n a p before after symbols within is number are inv note =
    note (λ b. subst (AllByRecursion (λ j. j < n)) (sym (inv b))
    (users_below 0 (take k ps) b n (omega (arith, number, length-take-le k ps (omega (arith, within)))))) a
    ∙ ap (λ xs. xs ++ noted (is_in a symbols) n) (inv a)
    ∙ ap (λ xs. users_from 0 (take k ps) a ++ noted (is_in a xs) n) are
    ∙ ap (λ j. users_from 0 (take k ps) a ++ noted (has_symbol (marks_of_proc p) a) j) (number ∙ long)
    ∙ sym (users_push 0 (take k ps) p a)
    ∙ ap (λ xs. users_from 0 xs a) (ap (λ x. take k ps ++ x ∷ []) is ∙ sym (take_more ps k p within))
  where
    long : k ≡ 0 + length (take k ps)
    long = omega (arith, length-take-le k ps (omega (arith, within)))

pub each_next : (ps : List Proc) (k : ℕ) (p : Proc) (ms : List Position) (m : Position) → k < length ps
    → p ≡ get_or ps k p → StandEach (take k ps) ms [] → position.Stands p m []
    → StandEach (take (k + 1) ps) (ms ++ m ∷ []) []
each_next ps k p ms m within is h s = subst (λ xs. StandEach xs (ms ++ m ∷ []) [])
    (ap (λ x. take k ps ++ x ∷ []) is ∙ sym (take_more ps k p within)) (each_push (take k ps) ms p m h s)

pub none_stand : (ms : List Position) → ms ≡ [] → StandEach [] ms []
none_stand ms e = record { long = ap length e; at = λ i p m f g. absurd (cc) }

module _ (ps qs : List Proc) (k : ℕ) (p : Proc) (same : ps ≡ qs) (within : k < length ps) (is : p ≡ get_or ps k p) where
  pub each_here : (P : Proc → Type 0) → Each P qs → P p
  each_here P h = subst P (sym is) (each_index P ps k p within (subst (Each P) (sym same) h))

  pub places_here : places_of_proc p ≤ places_of_all qs
  places_here = omega (arith, places_index ps k p within, ap places_of_proc is, ap places_of_all same)
