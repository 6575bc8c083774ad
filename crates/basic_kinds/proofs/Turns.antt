-- Processes that take one symbol at a time: two items in turn, one item once, and a toggle.
use Rattle.std.proofs.Common.{◌≡◌, ◌↔◌, ◌⊎◌, inl, inr, ℕ, suc, ◌+◌, ◌<◌, List, [], ◌∷◌, refl, sym, ap, ◌∙◌, subst, arith, Some, None}
use Rattle.cmd_tree.specs.declared.tree.Mark.{Mark}
use Rattle.cmd_tree.specs.declared.tree.Proc.{Proc}
use Rattle.cmd_tree.specs.Tree.{TItem, TSeq, Done, Then}
use Rattle.cmd_tree.specs.Limits.{IsItem}
use Rattle.cmd_tree.specs.Meaning.{TraceOf}
use Rattle.cmd_tree.specs.Join.{join}
use Rattle.cmd_tree.specs.Residual.{FirstOf, Next}
use Rattle.cmd_tree.specs.Rounds.{counts, naught, Follows}
use Rattle.cmd_tree.proofs.Phases.{Grew}
use Rattle.basic_kinds.specs.KindTraces.{one, again, once}
use Rattle.basic_kinds.proofs.Items.{Opens}
use Rattle.basic_kinds.proofs.Machines.{Machine, Ready, traces_ready, Singles, at_rest, single_steps, single_goes}

-- ---- a sequence begins as its first item

first_then : (i : TItem) (A : ℕ → Type 0) → Opens i A → (s : TSeq) (ms : List Mark) (r : TSeq)
    → FirstOf (Then i s) ms r → (m : Mark) × (ms ≡ m ∷ []) × (r ≡ s) × A m.sym.0
first_then i A k s ms r h = let g = k.forth ms h.0 h.1 in (g.0, g.1, h.2 ∙ ap (λ q. join q s) g.2, g.3)

then_first : (i : TItem) (A : ℕ → Type 0) → Opens i A → (s : TSeq) (a : ℕ) → A a → (m : Mark) × (m.sym.0 ≡ a)
    × FirstOf (Then i s) (m ∷ []) s
then_first i A k s a h = let g = k.back a h in (g.0, g.1, (Done, g.2, refl))

-- ---- two items in turn

pub data Turn : Type 0 where
  First : Turn
  Second : Turn

-- F is how often the first has come, and G how often the second
module _ (i j : TItem) (A B : ℕ → Type 0) (F G : (ℕ → ℕ) → ℕ) where
  abbrev pub TurnAt : (ℕ → ℕ) → ℕ → Type 0
  TurnAt c a = (A a × (F c ≡ G c)) ⊎ (B a × (G c < F c))

  pub record Counted : Type 0 where
    pub begins : F naught ≡ G naught
    pub first : (c d : ℕ → ℕ) (a : ℕ) → A a → Grew c a d → (F d ≡ suc (F c)) × (G d ≡ G c)
    pub second : (c d : ℕ → ℕ) (a : ℕ) → B a → Grew c a d → (F d ≡ F c) × (G d ≡ suc (G c))

  abbrev pub body : TSeq
  body = Then i (Then j Done)

  abbrev rest : Turn → TSeq
  rest First = Done
  rest Second = Then j Done

  abbrev Goes : Turn → ℕ → Turn → Type 0
  Goes First a First = ⊥
  Goes First a Second = A a
  Goes Second a First = B a
  Goes Second a Second = ⊥

  abbrev Stands : (ℕ → ℕ) → Turn → Type 0
  Stands c First = F c ≡ G c
  Stands c Second = F c ≡ suc (G c)

  module _ (oi : Opens i A) (oj : Opens j B) (k : Counted) where
    singles : Singles (again body) Turn rest Goes
    singles = record { next = next; come = come }
      where
        next : (q : Turn) (ms : List Mark) (s : TSeq) → Next (Some body) (rest q) ms s → (m : Mark)
            × (ms ≡ m ∷ []) × (r : Turn) × (s ≡ rest r) × Goes q m.sym.0 r
        next First ms s h = let g = first_then i A oi (Then j Done) ms s h in (g.0, g.1, Second, g.2, g.3)
        next Second ms s h = let g = first_then j B oj Done ms s h in (g.0, g.1, First, g.2, g.3)

        come : (q : Turn) (a : ℕ) (r : Turn) → Goes q a r → (m : Mark) × (m.sym.0 ≡ a)
            × Next (Some body) (rest q) (m ∷ []) (rest r)
        come First a First h = absurd h
        come First a Second h = then_first i A oi (Then j Done) a h
        come Second a First h = then_first j B oj Done a h
        come Second a Second h = absurd h

    machine : Machine (again body) Turn (at_rest (again body) Turn rest Goes) Goes TurnAt Stands First
    machine = record {
      begins = refl;
      stands = k.begins;
      steps = single_steps (again body) Turn rest Goes singles;
      goes = single_goes (again body) Turn rest Goes singles;
      sound = sound;
    }
      where
        sound : (c d : ℕ → ℕ) (q : Turn) (a : ℕ) (r : Turn) → Stands c q → Goes q a r → Grew c a d
            → TurnAt c a × Stands d r
        sound c d First a First s h g = absurd h
        sound c d First a Second s h g = let n = k.first c d a h g in (inl (h, s), omega (arith, s, n.0, n.1))
        sound c d Second a First s h g = let n =
            k.second c d a h g in (inr (h, omega (arith, s)), omega (arith, s, n.0, n.1))
        sound c d Second a Second s h g = absurd h

    ready : Ready (again body) Turn (at_rest (again body) Turn rest Goes) Goes TurnAt Stands
    ready c First a s (inl h) = (Second, h.0)
    ready c First a s (inr h) = absurd (omega (arith, s, h.1))
    ready c Second a s (inl h) = absurd (omega (arith, s, h.1))
    ready c Second a s (inr h) = (First, h.0)

    pub turns : IsItem i → IsItem j → (t : List ℕ) → TraceOf (again body) t
        ↔ Follows (λ u a. TurnAt (counts u) a) [] t
    turns wi wj = traces_ready (again body) Turn (at_rest (again body) Turn rest Goes) Goes TurnAt Stands
        (refl, tt, (wi, (wj, tt))) First machine ready

-- ---- one item, once

module _ (i : TItem) (A : ℕ → Type 0) (F : (ℕ → ℕ) → ℕ) where
  abbrev pub OnceAt : (ℕ → ℕ) → ℕ → Type 0
  OnceAt c a = A a × (F c ≡ 0)

  pub record CountedOnce : Type 0 where
    pub begins : F naught ≡ 0
    pub first : (c d : ℕ → ℕ) (a : ℕ) → A a → Grew c a d → F d ≡ suc (F c)

  abbrev pub lead : TSeq
  lead = Then i Done

  abbrev rest_once : Turn → TSeq
  rest_once First = lead
  rest_once Second = Done

  abbrev GoesOnce : Turn → ℕ → Turn → Type 0
  GoesOnce First a First = ⊥
  GoesOnce First a Second = A a
  GoesOnce Second a r = ⊥

  abbrev StandsOnce : (ℕ → ℕ) → Turn → Type 0
  StandsOnce c First = F c ≡ 0
  StandsOnce c Second = F c ≡ 1

  module _ (oi : Opens i A) (k : CountedOnce) where
    singles_once : Singles (once lead) Turn rest_once GoesOnce
    singles_once = record { next = next; come = come }
      where
        next : (q : Turn) (ms : List Mark) (s : TSeq) → Next None (rest_once q) ms s → (m : Mark)
            × (ms ≡ m ∷ []) × (r : Turn) × (s ≡ rest_once r) × GoesOnce q m.sym.0 r
        next First ms s h = let g = first_then i A oi Done ms s h in (g.0, g.1, Second, g.2, g.3)
        next Second ms s h = absurd h

        come : (q : Turn) (a : ℕ) (r : Turn) → GoesOnce q a r → (m : Mark) × (m.sym.0 ≡ a)
            × Next None (rest_once q) (m ∷ []) (rest_once r)
        come First a First h = absurd h
        come First a Second h = then_first i A oi Done a h
        come Second a r h = absurd h

    machine_once : Machine (once lead) Turn (at_rest (once lead) Turn rest_once GoesOnce) GoesOnce OnceAt
        StandsOnce First
    machine_once = record {
      begins = refl;
      stands = k.begins;
      steps = single_steps (once lead) Turn rest_once GoesOnce singles_once;
      goes = single_goes (once lead) Turn rest_once GoesOnce singles_once;
      sound = sound;
    }
      where
        sound : (c d : ℕ → ℕ) (q : Turn) (a : ℕ) (r : Turn) → StandsOnce c q → GoesOnce q a r → Grew c a d
            → OnceAt c a × StandsOnce d r
        sound c d First a First s h g = absurd h
        sound c d First a Second s h g = ((h, s), omega (arith, s, k.first c d a h g))
        sound c d Second a r s h g = absurd h

    ready_once : Ready (once lead) Turn (at_rest (once lead) Turn rest_once GoesOnce) GoesOnce OnceAt
        StandsOnce
    ready_once c First a s h = (Second, h.0)
    ready_once c Second a s h = absurd (omega (arith, s, h.1))

    pub turn_once : IsItem i → (t : List ℕ) → TraceOf (once lead) t
        ↔ Follows (λ u a. OnceAt (counts u) a) [] t
    turn_once wi = traces_ready (once lead) Turn (at_rest (once lead) Turn rest_once GoesOnce) GoesOnce
        OnceAt StandsOnce (refl, (wi, tt), tt) First machine_once ready_once

-- ---- one symbol, and each of two others in turn

pub data Quarter : Type 0 where
  Q0 : Quarter
  Q1 : Quarter
  Q2 : Quarter
  Q3 : Quarter

module _ (i l m : Mark) where
  abbrev tail : TSeq
  tail = Then (one i) (Then (one m) Done)

  abbrev pub toggle : TSeq
  toggle = Then (one i) (Then (one l) tail)

  abbrev rest_toggle : Quarter → TSeq
  rest_toggle Q0 = Done
  rest_toggle Q1 = Then (one l) tail
  rest_toggle Q2 = tail
  rest_toggle Q3 = Then (one m) Done

  abbrev pub ToggleAt : (ℕ → ℕ) → ℕ → Type 0
  ToggleAt c a =
      ((a ≡ i.sym.0) × (c i.sym.0 ≡ c l.sym.0 + c m.sym.0))
      ⊎ (((a ≡ l.sym.0) × (c l.sym.0 + c m.sym.0 < c i.sym.0) × (c l.sym.0 ≡ c m.sym.0))
      ⊎ ((a ≡ m.sym.0) × (c l.sym.0 + c m.sym.0 < c i.sym.0) × (c l.sym.0 ≡ suc (c m.sym.0))))

  -- what comes next in each state, and the state after it
  abbrev mark_at : Quarter → Mark
  mark_at Q0 = i
  mark_at Q1 = l
  mark_at Q2 = i
  mark_at Q3 = m

  abbrev turned : Quarter → Quarter
  turned Q0 = Q1
  turned Q1 = Q2
  turned Q2 = Q3
  turned Q3 = Q0

  abbrev GoesToggle : Quarter → ℕ → Quarter → Type 0
  GoesToggle q a r = (a ≡ (mark_at q).sym.0) × (r ≡ turned q)

  abbrev StandsToggle : (ℕ → ℕ) → Quarter → Type 0
  StandsToggle c Q0 = (c i.sym.0 ≡ c l.sym.0 + c m.sym.0) × (c l.sym.0 ≡ c m.sym.0)
  StandsToggle c Q1 = (c i.sym.0 ≡ suc (c l.sym.0 + c m.sym.0)) × (c l.sym.0 ≡ c m.sym.0)
  StandsToggle c Q2 = (c i.sym.0 ≡ c l.sym.0 + c m.sym.0) × (c l.sym.0 ≡ suc (c m.sym.0))
  StandsToggle c Q3 = (c i.sym.0 ≡ suc (c l.sym.0 + c m.sym.0)) × (c l.sym.0 ≡ suc (c m.sym.0))

  module _ (il : i.sym.0 ≡ l.sym.0 → ⊥) (im : i.sym.0 ≡ m.sym.0 → ⊥) (lm : l.sym.0 ≡ m.sym.0 → ⊥) where
    abbrev proc_toggle : Proc
    proc_toggle = again toggle

    singles_toggle : Singles proc_toggle Quarter rest_toggle GoesToggle
    singles_toggle = record { next = next; come = come }
      where
        next : (q : Quarter) (ms : List Mark) (s : TSeq) → Next (Some toggle) (rest_toggle q) ms s
            → (x : Mark) × (ms ≡ x ∷ []) × (r : Quarter) × (s ≡ rest_toggle r) × GoesToggle q x.sym.0 r
        next Q0 ms s h = (i, h.1.0, Q1, h.2 ∙ ap (λ q. join q (rest_toggle Q1)) h.1.1, (refl, refl))
        next Q1 ms s h = (l, h.1.0, Q2, h.2 ∙ ap (λ q. join q (rest_toggle Q2)) h.1.1, (refl, refl))
        next Q2 ms s h = (i, h.1.0, Q3, h.2 ∙ ap (λ q. join q (rest_toggle Q3)) h.1.1, (refl, refl))
        next Q3 ms s h = (m, h.1.0, Q0, h.2 ∙ ap (λ q. join q Done) h.1.1, (refl, refl))

        first : (q : Quarter) → Next (Some toggle) (rest_toggle q) (mark_at q ∷ []) (rest_toggle (turned q))
        first Q0 = (Done, (refl, refl), refl)
        first Q1 = (Done, (refl, refl), refl)
        first Q2 = (Done, (refl, refl), refl)
        first Q3 = (Done, (refl, refl), refl)

        come : (q : Quarter) (a : ℕ) (r : Quarter) → GoesToggle q a r
            → (x : Mark) × (x.sym.0 ≡ a) × Next (Some toggle) (rest_toggle q) (x ∷ []) (rest_toggle r)
        come q a r h = (
          mark_at q,
          sym h.0,
          subst (λ x. Next (Some toggle) (rest_toggle q) (mark_at q ∷ []) (rest_toggle x)) (sym h.1)
              (first q),
        )

    -- each mark that comes leaves the counts of the two others
    pub after : (c d : ℕ → ℕ) (q : Quarter) → StandsToggle c q → Grew c (mark_at q).sym.0 d
        → ToggleAt c (mark_at q).sym.0 × StandsToggle d (turned q)
    after c d Q0 s g =
        let h = g.here in
        let u = g.elsewhere l.sym.0 (λ z. il (sym z)) in
        let v = g.elsewhere m.sym.0 (λ z. im (sym z)) in
        (inl (refl, s.0), (omega (arith, s, h, u, v), omega (arith, s, u, v)))
    after c d Q1 s g =
        let h = g.here in
        let u = g.elsewhere i.sym.0 il in
        let v = g.elsewhere m.sym.0 (λ z. lm (sym z)) in
        (inr (inl (refl, omega (arith, s), s.1)), (omega (arith, s, h, u, v), omega (arith, s, h, u, v)))
    after c d Q2 s g =
        let h = g.here in
        let u = g.elsewhere l.sym.0 (λ z. il (sym z)) in
        let v = g.elsewhere m.sym.0 (λ z. im (sym z)) in
        (inl (refl, s.0), (omega (arith, s, h, u, v), omega (arith, s, u, v)))
    after c d Q3 s g =
        let h = g.here in
        let u = g.elsewhere i.sym.0 im in
        let v = g.elsewhere l.sym.0 lm in
        (inr (inr (refl, omega (arith, s), s.1)), (omega (arith, s, h, u, v), omega (arith, s, h, u, v)))

    machine_toggle : Machine proc_toggle Quarter (at_rest proc_toggle Quarter rest_toggle GoesToggle)
        GoesToggle ToggleAt StandsToggle Q0
    machine_toggle = record {
      begins = refl;
      stands = (refl, refl);
      steps = single_steps proc_toggle Quarter rest_toggle GoesToggle singles_toggle;
      goes = single_goes proc_toggle Quarter rest_toggle GoesToggle singles_toggle;
      sound = sound;
    }
      where
        sound : (c d : ℕ → ℕ) (q : Quarter) (a : ℕ) (r : Quarter) → StandsToggle c q → GoesToggle q a r
            → Grew c a d → ToggleAt c a × StandsToggle d r
        sound c d q a r s h g =
            let k = after c d q s (subst (λ x. Grew c x d) h.0 g) in
            (subst (λ x. ToggleAt c x) (sym h.0) k.0, subst (λ x. StandsToggle d x) (sym h.1) k.1)

    ready_toggle : Ready proc_toggle Quarter (at_rest proc_toggle Quarter rest_toggle GoesToggle) GoesToggle
        ToggleAt StandsToggle
    ready_toggle c Q0 a s (inl h) = (Q1, (h.0, refl))
    ready_toggle c Q0 a s (inr (inl h)) = absurd (omega (arith, s, h.1))
    ready_toggle c Q0 a s (inr (inr h)) = absurd (omega (arith, s, h.1))
    ready_toggle c Q1 a s (inl h) = absurd (omega (arith, s, h.1))
    ready_toggle c Q1 a s (inr (inl h)) = (Q2, (h.0, refl))
    ready_toggle c Q1 a s (inr (inr h)) = absurd (omega (arith, s, h.2))
    ready_toggle c Q2 a s (inl h) = (Q3, (h.0, refl))
    ready_toggle c Q2 a s (inr (inl h)) = absurd (omega (arith, s, h.1))
    ready_toggle c Q2 a s (inr (inr h)) = absurd (omega (arith, s, h.1))
    ready_toggle c Q3 a s (inl h) = absurd (omega (arith, s, h.1))
    ready_toggle c Q3 a s (inr (inl h)) = absurd (omega (arith, s, h.2))
    ready_toggle c Q3 a s (inr (inr h)) = (Q0, (h.0, refl))

    one_whole : (x : Mark) → IsItem (one x)
    one_whole x = omega arith

    pub toggle_turns : (t : List ℕ) → TraceOf proc_toggle t ↔ Follows (λ u a. ToggleAt (counts u) a) [] t
    toggle_turns = traces_ready proc_toggle Quarter (at_rest proc_toggle Quarter rest_toggle GoesToggle)
        GoesToggle ToggleAt StandsToggle
        (refl, tt, (one_whole i, (one_whole l, (one_whole i, (one_whole m, tt))))) Q0 machine_toggle
        ready_toggle
