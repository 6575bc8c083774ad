-- The traces of a plain grant.
use Rattle.std.proofs.Common.{◌≡◌, ◌⊎◌, inl, inr, ⊎_elim, ℕ, ◌<◌, ◌≤◌, Bool, true, false, true≢false, ◌||◌, nat_eq, List, [], ◌∷◌, ◌++◌, length, IsTrue, Option, refl, sym, ap, ◌∙◌, subst, arith, eqb-true, eq-eqb}
use Rattle.cmd_tree.specs.declared.tree.Mark.{Mark}
use Rattle.cmd_tree.specs.Tree.{TSeq, TAlt, Done}
use Rattle.cmd_tree.specs.Limits.{IsProc, AreSeqs, count_of}
use Rattle.cmd_tree.specs.Marks.{input, output}
use Rattle.cmd_tree.specs.Meaning.{TraceOf}
use Rattle.cmd_tree.specs.Lists.{is_in}
use Rattle.cmd_tree.specs.Join.{join}
use Rattle.cmd_tree.specs.Residual.{FirstAmong, Left, Step}
use Rattle.cmd_tree.proofs.Paths.{trace_runs}
use Rattle.process_laws.specs.GrantForms.{lone, gifts, plain}
use Rattle.process_laws.specs.Granting.{times, PlainGrant}
use Rattle.process_laws.specs.Phased.{Phased}
use Rattle.process_laws.proofs.Fair.{left}
use Rattle.process_laws.proofs.GrantMachine.{Lowers, Path, InTurn, machine_granting, machine_phased, path_via, path_join, via_times}
use Rattle.process_laws.proofs.GrantSteps.{in_one, one_in, opening, opens_one, opened_one, Simulates, runs_path, path_runs}
use Rattle.process_laws.proofs.GrantTraces.{granting_by}
use Rattle.process_laws.proofs.PhasedTraces.{phased_by}

-- ---- the alternatives

pub record Gift (ps : List ℕ) (ms : List Mark) (q : TSeq) : Type 0 where
  pub symbol : ℕ
  pub there : IsTrue (is_in symbol ps)
  pub marks : ms ≡ output symbol ∷ []
  pub none : q ≡ Done

or_left : (a b : Bool) → a ≡ true → (a || b) ≡ true
or_left true b e = refl
or_left false b e = absurd (true≢false (sym e))

or_right : (a b : Bool) → b ≡ true → (a || b) ≡ true
or_right true b e = refl
or_right false b e = e

same_eq : (p : ℕ) → nat_eq p p ≡ true
same_eq p = eq-eqb p p refl

gift : (ps : List ℕ) (ms : List Mark) (q : TSeq) → FirstAmong (gifts ps) ms q → Gift ps ms q
gift [] ms q h = absurd h
gift (p ∷ ps) ms q h = ⊎_elim
    (λ k. record { symbol = p; there = or_left (nat_eq p p) (is_in p ps) (same_eq p); marks = k.1.0; none = k.2 ∙ ap (λ x. join x Done) k.1.1 })
    (λ k. let g = gift ps ms q k in record { symbol = g.symbol; there = or_right (nat_eq g.symbol p) (is_in g.symbol ps) g.there; marks = g.marks; none = g.none })
    h

first_gift : (ps : List ℕ) (p : ℕ) → IsTrue (is_in p ps) → FirstAmong (gifts ps) (output p ∷ []) Done
first_gift [] p h = absurd (true≢false (sym h))
first_gift (x ∷ ps) p h = by (nat_eq p x) refl h (first_gift ps p)
  where
    by : (b : Bool) → nat_eq p x ≡ b → IsTrue (b || is_in p ps)
        → (IsTrue (is_in p ps) → FirstAmong (gifts ps) (output p ∷ []) Done)
        → FirstAmong (gifts (x ∷ ps)) (output p ∷ []) Done
    by true e h k = inl (Done, (ap (λ y. output y ∷ []) (eqb-true p x e), refl), refl)
    by false e h k = inr (k h)

gifts_shaped : (ps : List ℕ) → AreSeqs (gifts ps)
gifts_shaped [] = tt
gifts_shaped (p ∷ ps) = ((omega arith, tt), gifts_shaped ps)

gifts_many : (ps : List ℕ) → count_of (gifts ps) ≡ length ps
gifts_many [] = refl
gifts_many (p ∷ ps) = omega (arith, gifts_many ps)

pub plain_shaped : (n : ℕ) (ps : List ℕ) → 1 < length ps → IsProc (plain n ps)
plain_shaped n ps more = (refl, tt, (omega arith, ((omega (arith, gifts_many ps), gifts_shaped ps), tt)))

-- ---- the machine: whether it was asked

module _ (n : ℕ) (ps : List ℕ) where
  abbrev goes : Bool → ℕ → Bool → Type 0
  goes false a true = a ≡ n
  goes true a false = IsTrue (is_in a ps)
  goes false a false = ⊥
  goes true a true = ⊥

  abbrev rest : Bool → TSeq
  rest false = Done
  rest true = lone (TAlt (gifts ps))

  abbrev owed : Bool → ℕ
  owed false = 0
  owed true = 1

  abbrev body : Option TSeq
  body = (plain n ps).body

  asked_step : (a : ℕ) (m : Left) → Step body (left [] Done) a m → (a ≡ n) × (m ≡ left [] (rest true))
  asked_step a m s =
      let o = opening body Done a m s in
      let k = opened_one body Done a m o (input n) (rest true) o.next.1.0 (o.next.2 ∙ ap (λ x. join x (rest true)) o.next.1.1) in
      (k.is, k.same)

  gift_step : (a : ℕ) (m : Left) → Step body (left [] (rest true)) a m
      → IsTrue (is_in a ps) × (m ≡ left [] Done)
  gift_step a m s =
      let o = opening body (rest true) a m s in
      let g = gift ps o.marks o.next.0 o.next.1 in
      let k = opened_one body (rest true) a m o (output g.symbol) Done g.marks (o.next.2 ∙ ap (λ x. join x Done) g.none) in
      (subst (λ x. IsTrue (is_in x ps)) (sym k.is) g.there, k.same)

  there : (s : Bool) (a : ℕ) (m : Left) → Step body (left [] (rest s)) a m
      → (r : Bool) × goes s a r × (m ≡ left [] (rest r))
  there false a m s = let k = asked_step a m s in (true, k.0, k.1)
  there true a m s = let k = gift_step a m s in (false, k.0, k.1)

  back : (s : Bool) (a : ℕ) (r : Bool) → goes s a r → Step body (left [] (rest s)) a (left [] (rest r))
  back false a true e = subst (λ x. Step body (left [] Done) x (left [] (rest true))) (sym e) (opens_one body Done (input n) (rest true) (Done, (refl, refl), refl))
  back true a false h = opens_one body (rest true) (output a) Done (Done, first_gift ps a h, refl)
  back false a false h = absurd h
  back true a true h = absurd h

  simulates : Simulates body Bool goes rest
  simulates = record { there = there; back = back }

  module _ (apart : is_in n ps ≡ false) where
    not_n : (a : ℕ) → IsTrue (is_in a ps) → is_in a (n ∷ []) ≡ false
    not_n a h = by (is_in a (n ∷ [])) refl
      where
        by : (b : Bool) → is_in a (n ∷ []) ≡ b → b ≡ false
        by true e = absurd (true≢false (sym h ∙ ap (λ x. is_in x ps) (in_one a n e) ∙ apart))
        by false e = refl

    turns : InTurn Bool goes owed ps (n ∷ [])
    turns = record { few = few; step = step; win = win }
      where
        few : (s : Bool) → owed s ≤ 1
        few true = omega arith
        few false = omega arith

        step : (s : Bool) (a : ℕ) (r : Bool) → goes s a r
            → Lowers ps (n ∷ []) a (owed s) (owed r) ⊎ Lowers (n ∷ []) ps a (owed r) (owed s)
        step false a true e = inr (record { is_here = one_in a n e; not_other = ap (λ x. is_in x ps) e ∙ apart; high = refl; low = refl })
        step true a false h = inl (record { is_here = h; not_other = not_n a h; high = refl; low = refl })
        step false a false h = absurd h
        step true a true h = absurd h

        win : (s : Bool) → owed s ≡ 1 → (p : ℕ) → IsTrue (is_in p ps) → (r : Bool) × goes s p r
        win true e p h = (false, h)
        win false e p h = absurd (omega (arith, e))

    abbrev Paths : List ℕ → Type 0
    Paths t = Path Bool goes t false

    -- asked for as often as given, it may be asked for again
    ask : (t : List ℕ) → Paths t → times (n ∷ []) t ≡ times ps t → Paths (t ++ n ∷ [])
    ask t h e =
        let k = path_via Bool goes t false h in
        let none : owed k.0 ≡ 0 = omega (arith, via_times Bool goes owed ps (n ∷ []) turns t false k.0 k.1, e) in
        path_join Bool goes t (n ∷ []) false k.0 k.1 (again k.0 none)
      where
        again : (s : Bool) → owed s ≡ 0 → Path Bool goes (n ∷ []) s
        again false e = (true, refl, tt)
        again true e = absurd (omega (arith, e))

    module _ (more : 1 < length ps) where
      to_trace : (t : List ℕ) → Paths t → TraceOf (plain n ps) t
      to_trace t h = (trace_runs (plain n ps) (plain_shaped n ps more) t).1 (path_runs body Bool goes rest simulates t false h)

      to_path : (t : List ℕ) → TraceOf (plain n ps) t → Paths t
      to_path t h = runs_path body Bool goes rest simulates t false ((trace_runs (plain n ps) (plain_shaped n ps more) t).0 h)

      pub plain_traces : PlainGrant n ps (TraceOf (plain n ps))
      plain_traces =
          let g = machine_granting Bool goes owed ps (n ∷ []) turns false in
          record {
            granting = granting_by ps (n ∷ []) 0 Paths (TraceOf (plain n ps)) to_trace to_path g;
            asks = λ t. (
              λ h.
                  let k : Paths (t ++ n ∷ []) = to_path (t ++ n ∷ []) h in
                  (to_trace t (g.prefix t (n ∷ []) k), omega (arith, g.takes t n (one_in n n refl) k)),
              λ h. to_trace (t ++ n ∷ []) (ask t (to_path t h.0) h.1),
            );
          }

      pub plain_in_phases : (out : ℕ → Bool) → ((a : ℕ) → IsTrue (is_in a ps) → out a ≡ true)
          → out n ≡ false → Phased ℕ out (TraceOf (plain n ps))
      plain_in_phases out outputs takes = phased_by Paths (TraceOf (plain n ps)) out to_trace to_path
          (machine_phased Bool goes owed ps (n ∷ []) turns out outputs (λ a h. ap out (in_one a n h) ∙ takes) false)
