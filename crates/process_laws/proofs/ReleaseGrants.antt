-- The traces of a grant with release.
use Rattle.std.proofs.Common.{◌≡◌, ◌⊎◌, inl, inr, ⊎_elim, ℕ, ◌<◌, ◌≤◌, Bool, true, false, true≢false, ◌||◌, nat_eq, List, [], ◌∷◌, ◌++◌, length, IsTrue, Option, Some, None, refl, sym, ap, ◌∙◌, subst, arith, append_assoc, eqb-true, eq-eqb}
use Rattle.cmd_tree.specs.declared.tree.Mark.{Mark}
use Rattle.cmd_tree.specs.Tree.{TSeq, Done}
use Rattle.cmd_tree.specs.Limits.{IsProc, AreSeqs, count_of}
use Rattle.cmd_tree.specs.Marks.{input, output}
use Rattle.cmd_tree.specs.Meaning.{TraceOf}
use Rattle.cmd_tree.specs.Lists.{is_in}
use Rattle.cmd_tree.specs.Join.{join}
use Rattle.cmd_tree.specs.Residual.{FirstAmong, Left, Step}
use Rattle.cmd_tree.proofs.Paths.{trace_runs}
use Rattle.process_laws.specs.GrantForms.{single, lone, Giving, loans, release, granted_of, returned_of, Offers}
use Rattle.process_laws.specs.Granting.{Lent, ReleaseGrant}
use Rattle.process_laws.specs.Phased.{Phased}
use Rattle.process_laws.proofs.Fair.{left}
use Rattle.process_laws.proofs.GrantMachine.{Lowers, Path, Via, InTurn, machine_granting, machine_phased, path_split, path_join, path_front}
use Rattle.process_laws.proofs.GrantSteps.{opening, opens_one, opened_one, Simulates, runs_path, path_runs}
use Rattle.process_laws.proofs.GrantTraces.{granting_by}
use Rattle.process_laws.proofs.PhasedTraces.{phased_by}

-- ---- the alternatives

in_front : (x : ℕ) (xs : List ℕ) → IsTrue (is_in x (x ∷ xs))
in_front x xs = ap (λ b. b || is_in x xs) (eq-eqb x x refl)

in_later : (y x : ℕ) (xs : List ℕ) → IsTrue (is_in y xs) → IsTrue (is_in y (x ∷ xs))
in_later y x xs h = by (nat_eq y x)
  where
    by : (b : Bool) → IsTrue (b || is_in y xs)
    by true = refl
    by false = h

offers_granted : (gs : List Giving) (p d : ℕ) → Offers gs p d → IsTrue (is_in p (granted_of gs))
offers_granted [] p d h = absurd h
offers_granted (g ∷ gs) p d (inl e) = subst (λ x. IsTrue (is_in x (granted_of (g ∷ gs)))) e.0 (in_front g.granted (granted_of gs))
offers_granted (g ∷ gs) p d (inr h) = in_later p g.granted (granted_of gs) (offers_granted gs p d h)

offers_returned : (gs : List Giving) (p d : ℕ) → Offers gs p d → IsTrue (is_in d (returned_of gs))
offers_returned [] p d h = absurd h
offers_returned (g ∷ gs) p d (inl e) = subst (λ x. IsTrue (is_in x (returned_of (g ∷ gs)))) e.1 (in_front g.returned (returned_of gs))
offers_returned (g ∷ gs) p d (inr h) = in_later d g.returned (returned_of gs) (offers_returned gs p d h)

granted_offers : (gs : List Giving) (p : ℕ) → IsTrue (is_in p (granted_of gs)) → (d : ℕ) × Offers gs p d
granted_offers [] p h = absurd (true≢false (sym h))
granted_offers (g ∷ gs) p h = by (nat_eq p g.granted) refl h (granted_offers gs p)
  where
    by : (b : Bool) → nat_eq p g.granted ≡ b → IsTrue (b || is_in p (granted_of gs))
        → (IsTrue (is_in p (granted_of gs)) → (d : ℕ) × Offers gs p d) → (d : ℕ) × Offers (g ∷ gs) p d
    by true e h k = (g.returned, inl (sym (eqb-true p g.granted e), refl))
    by false e h k = let o = k h in (o.0, inr o.1)

-- what is left once a symbol is granted
abbrev pub awaits : ℕ → TSeq
awaits d = lone (single (input d))

record Loan (gs : List Giving) (ms : List Mark) (q : TSeq) : Type 0 where
  pub given : ℕ
  pub due : ℕ
  pub offered : Offers gs given due
  pub marks : ms ≡ output given ∷ []
  pub later : q ≡ awaits due

loan : (gs : List Giving) (ms : List Mark) (q : TSeq) → FirstAmong (loans gs) ms q → Loan gs ms q
loan [] ms q h = absurd h
loan (g ∷ gs) ms q h = ⊎_elim
    (λ k. record { given = g.granted; due = g.returned; offered = inl (refl, refl); marks = k.1.0; later = k.2 ∙ ap (λ x. join x (awaits g.returned)) k.1.1 })
    (λ k. let l = loan gs ms q k in record { given = l.given; due = l.due; offered = inr l.offered; marks = l.marks; later = l.later })
    h

first_loan : (gs : List Giving) (p d : ℕ) → Offers gs p d → FirstAmong (loans gs) (output p ∷ []) (awaits d)
first_loan [] p d h = absurd h
first_loan (g ∷ gs) p d (inl e) = inl (Done, (ap (λ x. output x ∷ []) (sym e.0), refl), ap awaits (sym e.1))
first_loan (g ∷ gs) p d (inr h) = inr (first_loan gs p d h)

loans_shaped : (gs : List Giving) → AreSeqs (loans gs)
loans_shaped [] = tt
loans_shaped (g ∷ gs) = ((omega arith, (omega arith, tt)), loans_shaped gs)

loans_many : (gs : List Giving) → count_of (loans gs) ≡ length gs
loans_many [] = refl
loans_many (g ∷ gs) = omega (arith, loans_many gs)

pub release_shaped : (gs : List Giving) → 1 < length gs → IsProc (release gs)
release_shaped gs more = (refl, tt, ((omega (arith, loans_many gs), loans_shaped gs), tt))

-- ---- the machine: the symbol that is to be returned, if one is

module _ (gs : List Giving) where
  pub record Due : Type 0 where
    pub symbol : ℕ
    pub known : IsTrue (is_in symbol (returned_of gs))

  abbrev goes : Option Due → ℕ → Option Due → Type 0
  goes None a (Some o) = Offers gs a o.symbol
  goes (Some o) a None = a ≡ o.symbol
  goes None a None = ⊥
  goes (Some o) a (Some r) = ⊥

  abbrev rest : Option Due → TSeq
  rest None = Done
  rest (Some o) = awaits o.symbol

  abbrev owed : Option Due → ℕ
  owed None = 1
  owed (Some o) = 0

  abbrev body : Option TSeq
  body = (release gs).body

  there : (s : Option Due) (a : ℕ) (m : Left) → Step body (left [] (rest s)) a m
      → (r : Option Due) × goes s a r × (m ≡ left [] (rest r))
  there None a m s =
      let o = opening body Done a m s in
      let l = loan gs o.marks o.next.0 o.next.1 in
      let k = opened_one body Done a m o (output l.given) (awaits l.due) l.marks (o.next.2 ∙ ap (λ x. join x Done) l.later) in
      (Some (record { symbol = l.due; known = offers_returned gs l.given l.due l.offered }), subst (λ x. Offers gs x l.due) (sym k.is) l.offered, k.same)
  there (Some d) a m s =
      let o = opening body (awaits d.symbol) a m s in
      let k = opened_one body (awaits d.symbol) a m o (input d.symbol) Done o.next.1.0 (o.next.2 ∙ ap (λ x. join x Done) o.next.1.1) in
      (None, k.is, k.same)

  back : (s : Option Due) (a : ℕ) (r : Option Due) → goes s a r
      → Step body (left [] (rest s)) a (left [] (rest r))
  back None a (Some o) h = opens_one body Done (output a) (awaits o.symbol) (awaits o.symbol, first_loan gs a o.symbol h, refl)
  back (Some o) a None e = subst (λ x. Step body (left [] (awaits o.symbol)) x (left [] Done)) (sym e) (opens_one body (awaits o.symbol) (input o.symbol) Done (Done, (refl, refl), refl))
  back None a None h = absurd h
  back (Some o) a (Some r) h = absurd h

  simulates : Simulates body (Option Due) goes rest
  simulates = record { there = there; back = back }

  abbrev Paths : List ℕ → Type 0
  Paths t = Path (Option Due) goes t None

  -- where one is to be returned, the symbol before it was granted
  last_given : (a : ℕ) (s : Option Due) (o : Due) → goes s a (Some o) → Lent gs (a ∷ []) o.symbol
  last_given a None o h = record { before = []; given = a; last = refl; offered = h }
  last_given a (Some r) o h = absurd h

  lent_later : (a : ℕ) (t : List ℕ) (d : ℕ) → Lent gs t d → Lent gs (a ∷ t) d
  lent_later a t d l = record { before = a ∷ l.before; given = l.given; last = ap (λ x. a ∷ x) l.last; offered = l.offered }

  via_last : (t : List ℕ) (s : Option Due) (o : Due) → Via (Option Due) goes t s (Some o)
      → ((t ≡ []) × (s ≡ Some o)) ⊎ Lent gs t o.symbol
  via_last [] s o e = inl (refl, e)
  via_last (a ∷ t) s o v = inr (⊎_elim
      (λ k. subst (λ x. Lent gs (a ∷ x) o.symbol) (sym k.0) (last_given a s o (subst (goes s a) k.1 v.1)))
      (λ l. lent_later a t o.symbol l)
      (via_last t v.0 o v.2))

  lent_via : (t : List ℕ) (o : Due) → Via (Option Due) goes t None (Some o) → Lent gs t o.symbol
  lent_via t o v = ⊎_elim (λ k. absurd (cc)) (λ l. l) (via_last t None o v)

  module _ (apart : (a : ℕ) → IsTrue (is_in a (granted_of gs)) → is_in a (returned_of gs) ≡ false) where
    not_both : (a : ℕ) → IsTrue (is_in a (granted_of gs)) → IsTrue (is_in a (returned_of gs)) → ⊥
    not_both a g r = true≢false (sym r ∙ apart a g)

    not_granted : (a : ℕ) → IsTrue (is_in a (returned_of gs)) → is_in a (granted_of gs) ≡ false
    not_granted a r = by (is_in a (granted_of gs)) refl
      where
        by : (b : Bool) → is_in a (granted_of gs) ≡ b → b ≡ false
        by true e = absurd (not_both a e r)
        by false e = refl

    turns : InTurn (Option Due) goes owed (granted_of gs) (returned_of gs)
    turns = record { few = few; step = step; win = win }
      where
        few : (s : Option Due) → owed s ≤ 1
        few None = omega arith
        few (Some o) = omega arith

        step : (s : Option Due) (a : ℕ) (r : Option Due) → goes s a r
            → Lowers (granted_of gs) (returned_of gs) a (owed s) (owed r) ⊎ Lowers (returned_of gs) (granted_of gs) a (owed r) (owed s)
        step None a (Some o) h = let g = offers_granted gs a o.symbol h in inl (record { is_here = g; not_other = apart a g; high = refl; low = refl })
        step (Some o) a None e = let r : IsTrue (is_in a (returned_of gs)) = subst (λ x. IsTrue (is_in x (returned_of gs))) (sym e) o.known in inr (record { is_here = r; not_other = not_granted a r; high = refl; low = refl })
        step None a None h = absurd h
        step (Some o) a (Some r) h = absurd h

        win : (s : Option Due) → owed s ≡ 1 → (p : ℕ) → IsTrue (is_in p (granted_of gs))
            → (r : Option Due) × goes s p r
        win None e p h = let o = granted_offers gs p h in (Some (record { symbol = o.0; known = offers_returned gs p o.0 o.1 }), o.1)
        win (Some o) e p h = absurd (omega (arith, e))

    -- d comes where it is due
    came_back : (t : List ℕ) (d : ℕ) (s r : Option Due) → IsTrue (is_in d (returned_of gs))
        → Via (Option Due) goes t None s → goes s d r → Lent gs t d
    came_back t d None (Some o) known v h = absurd (not_both d (offers_granted gs d o.symbol h) known)
    came_back t d (Some o) None known v e = subst (Lent gs t) (sym e) (lent_via t o v)
    came_back t d None None known v h = absurd h
    came_back t d (Some o) (Some r) known v h = absurd h

    given_first : (p d : ℕ) (s r : Option Due) → Offers gs p d → goes s p r → s ≡ None
    given_first p d None r o h = refl
    given_first p d (Some q) None o e = absurd (not_both p (offers_granted gs p d o) (subst (λ x. IsTrue (is_in x (returned_of gs))) (sym e) q.known))
    given_first p d (Some q) (Some r) o h = absurd h

    comes_back : (t : List ℕ) (d : ℕ) → Paths t → Lent gs t d → Paths (t ++ d ∷ [])
    comes_back t d h l =
        let k = path_split (Option Due) goes l.before (l.given ∷ []) None (subst Paths l.last h) in
        let begin : k.0 ≡ None = given_first l.given d k.0 k.2.0 l.offered k.2.1 in
        let two : Path (Option Due) goes (l.given ∷ d ∷ []) None = (Some (record { symbol = d; known = offers_returned gs l.given d l.offered }), l.offered, (None, refl, tt)) in
        let all : Paths (l.before ++ l.given ∷ d ∷ []) = path_join (Option Due) goes l.before (l.given ∷ d ∷ []) None None (subst (Via (Option Due) goes l.before None) begin k.1) two in
        subst Paths (sym (append_assoc l.before (l.given ∷ []) (d ∷ [])) ∙ ap (λ x. x ++ d ∷ []) (sym l.last)) all

    module _ (more : 1 < length gs) where
      to_trace : (t : List ℕ) → Paths t → TraceOf (release gs) t
      to_trace t h = (trace_runs (release gs) (release_shaped gs more) t).1 (path_runs body (Option Due) goes rest simulates t None h)

      to_path : (t : List ℕ) → TraceOf (release gs) t → Paths t
      to_path t h = runs_path body (Option Due) goes rest simulates t None ((trace_runs (release gs) (release_shaped gs more) t).0 h)

      pub release_traces : ReleaseGrant gs (TraceOf (release gs))
      release_traces = record {
        granting = granting_by (granted_of gs) (returned_of gs) 1 Paths (TraceOf (release gs)) to_trace to_path (machine_granting (Option Due) goes owed (granted_of gs) (returned_of gs) turns None);
        returns = λ t d known. (
          λ h.
              let p : Paths (t ++ d ∷ []) = to_path (t ++ d ∷ []) h in
              let k = path_split (Option Due) goes t (d ∷ []) None p in
              (to_trace t (path_front (Option Due) goes t (d ∷ []) None p), came_back t d k.0 k.2.0 known k.1 k.2.1),
          λ h. to_trace (t ++ d ∷ []) (comes_back t d (to_path t h.0) h.1),
        );
      }

      pub release_in_phases : (out : ℕ → Bool) → ((a : ℕ) → IsTrue (is_in a (granted_of gs)) → out a ≡ true)
          → ((a : ℕ) → IsTrue (is_in a (returned_of gs)) → out a ≡ false)
          → Phased ℕ out (TraceOf (release gs))
      release_in_phases out outputs inputs = phased_by Paths (TraceOf (release gs)) out to_trace to_path
          (machine_phased (Option Due) goes owed (granted_of gs) (returned_of gs) turns out outputs inputs None)
