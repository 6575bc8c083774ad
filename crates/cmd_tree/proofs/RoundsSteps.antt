-- The steps of a process in rounds, by counts.
use Rattle.std.proofs.Common.{◌≡◌, ◌⊎◌, inl, inr, ℕ, suc, ◌<◌, List, [], ◌∷◌, ◌++◌, length, map, IsTrue, refl, sym, ap, ◌∙◌, subst, arith, Option, Some}
use Rattle.cmd_tree.specs.declared.tree.Mark.{Mark}
use Rattle.cmd_tree.specs.Tree.{TSeq, TBurst, Done, Then}
use Rattle.cmd_tree.specs.Meaning.{symbols}
use Rattle.cmd_tree.specs.Join.{join}
use Rattle.cmd_tree.specs.Lists.{is_in}
use Rattle.cmd_tree.specs.Residual.{without, Left, Next, Step, within, opens, Runs}
use Rattle.cmd_tree.specs.Rounds.{counts, Follows}
use Rattle.cmd_tree.specs.RoundsProc.{MayCome}
use Rattle.cmd_tree.specs.Marks.{input, output}
use Rattle.cmd_tree.proofs.Bursts.{is_in_from_count, count_from_is_in}
use Rattle.cmd_tree.proofs.Phases.{Grew, counts_grow, Once, Once-swap, Phase, pending_in, phase_within, phase_opens, none_pending, some_member}

pub symbols_input : (ins : List ℕ) → symbols (map input ins) ≡ ins
symbols_input [] = refl
symbols_input (x ∷ ins) = ap (λ t. x ∷ t) (symbols_input ins)

pub symbols_output : (outs : List ℕ) → symbols (map output outs) ≡ outs
symbols_output [] = refl
symbols_output (x ∷ outs) = ap (λ t. x ∷ t) (symbols_output outs)

module _ (ins outs : List ℕ) where
  -- what is left after the inputs, and the body
  abbrev pub answer : TSeq
  answer = Then (TBurst (map output outs)) Done

  abbrev pub body : Option TSeq
  body = Some (Then (TBurst (map input ins)) answer)

  -- an input of this round has come, and none of its outputs
  pub record Takes (c : ℕ → ℕ) (l : Left) : Type 0 where
    pub at : l.rest ≡ answer
    pub round : ℕ
    pub phase : Phase ins outs (suc round) round c l.pending

  -- all inputs of the rounds so far have come, and none of the next
  pub record Gives (c : ℕ → ℕ) (l : Left) : Type 0 where
    pub at : l.rest ≡ Done
    pub round : ℕ
    pub phase : Phase outs ins round round c l.pending

  abbrev pub Stands : (ℕ → ℕ) → Left → Type 0
  Stands c l = Takes c l ⊎ Gives c l

  next_outputs : (l : Left) (ms : List Mark) (r : TSeq) → l.rest ≡ answer → Next body l.rest ms r → (ms ≡ map output outs) × (r ≡ Done)
  next_outputs l ms r e n =
      let m : Next body answer ms r = subst (λ s. Next body s ms r) e n in
      (m.1.0, m.2 ∙ ap (λ q. join q Done) m.1.1)

  next_inputs : (l : Left) (ms : List Mark) (r : TSeq) → l.rest ≡ Done → Next body l.rest ms r → (ms ≡ map input ins) × (r ≡ answer)
  next_inputs l ms r e n =
      let m : Next body Done ms r = subst (λ s. Next body s ms r) e n in
      (m.1.0, m.2 ∙ ap (λ q. join q answer) m.1.1)

  may_open : (l : Left) (r : TSeq) (ms : List Mark) (xs : List ℕ) (a : ℕ) → Next body l.rest ms r → symbols ms ≡ xs → l.pending ≡ [] → IsTrue (is_in a xs) → Step body l a (record { pending = without a xs; rest = r })
  may_open l r ms xs a n e none h = subst (λ y. Step body l a (record { pending = without a y; rest = r })) e (opens l a ms r none n (subst (λ y. IsTrue (is_in a y)) (sym e) h))

  outputs_next : (l : Left) → l.rest ≡ answer → Next body l.rest (map output outs) Done
  outputs_next l e = subst (λ s. Next body s (map output outs) Done) (sym e) (Done, (refl, refl), refl)

  inputs_next : (l : Left) → l.rest ≡ Done → Next body l.rest (map input ins) answer
  inputs_next l e = subst (λ s. Next body s (map input ins) answer) (sym e) (Done, (refl, refl), refl)

  module _ (once : Once ins outs) (some_in : 0 < length ins) (some_out : 0 < length outs) where
    -- ---- a step is by a symbol that may come

    takes_within : (c d : ℕ → ℕ) (l : Left) (a : ℕ) → IsTrue (is_in a l.pending) → Takes c l → Grew c a d → MayCome ins outs c a × Stands d (record { pending = without a l.pending; rest = l.rest })
    takes_within c d l a there t g = (
      inl (pending_in ins outs (suc t.round) t.round c l.pending t.phase a there, λ o h. omega (arith, t.phase.coming a (pending_in ins outs (suc t.round) t.round c l.pending t.phase a there), t.phase.below a, once a, count_from_is_in a l.pending there, t.phase.waiting o h)),
      inl (record { at = t.at; round = t.round; phase = phase_within ins outs (suc t.round) t.round c d l.pending a once t.phase there g }),
    )

    gives_within : (c d : ℕ → ℕ) (l : Left) (a : ℕ) → IsTrue (is_in a l.pending) → Gives c l → Grew c a d → MayCome ins outs c a × Stands d (record { pending = without a l.pending; rest = l.rest })
    gives_within c d l a there t g = (
      inr (pending_in outs ins t.round t.round c l.pending t.phase a there, λ i h. omega (arith, t.phase.coming a (pending_in outs ins t.round t.round c l.pending t.phase a there), count_from_is_in a l.pending there, t.phase.waiting i h)),
      inr (record { at = t.at; round = t.round; phase = phase_within outs ins t.round t.round c d l.pending a (Once-swap ins outs once) t.phase there g }),
    )

    takes_opens : (c d : ℕ → ℕ) (l : Left) (a : ℕ) (r : TSeq) → r ≡ Done → IsTrue (is_in a outs) → l.pending ≡ [] → Takes c l → Grew c a d → MayCome ins outs c a × Stands d (record { pending = without a outs; rest = r })
    takes_opens c d l a r e there none t g =
        let phase : Phase ins outs (suc t.round) t.round c [] = subst (λ p. Phase ins outs (suc t.round) t.round c p) none t.phase in (
          inr (there, λ i h. omega (arith, phase.waiting a there, phase.coming i h)),
          inr (record { at = e; round = suc t.round; phase = phase_opens ins outs (suc t.round) t.round c d a once phase there g }),
        )

    gives_opens : (c d : ℕ → ℕ) (l : Left) (a : ℕ) (r : TSeq) → r ≡ answer → IsTrue (is_in a ins) → l.pending ≡ [] → Gives c l → Grew c a d → MayCome ins outs c a × Stands d (record { pending = without a ins; rest = r })
    gives_opens c d l a r e there none t g =
        let phase : Phase outs ins t.round t.round c [] = subst (λ p. Phase outs ins t.round t.round c p) none t.phase in (
          inl (there, λ o h. omega (arith, phase.waiting a there, phase.coming o h)),
          inl (record { at = e; round = t.round; phase = phase_opens outs ins t.round t.round c d a (Once-swap ins outs once) phase there g }),
        )

    step_allowed : (c d : ℕ → ℕ) (l : Left) (a : ℕ) (m : Left) → Step body l a m → Stands c l → Grew c a d → MayCome ins outs c a × Stands d m
    step_allowed c d _ _ _ (within l a there) (inl t) g = takes_within c d l a there t g
    step_allowed c d _ _ _ (within l a there) (inr t) g = gives_within c d l a there t g
    step_allowed c d _ _ _ (opens l a ms r none n there) (inl t) g =
        let e = next_outputs l ms r t.at n in
        let same : symbols ms ≡ outs = ap symbols e.0 ∙ symbols_output outs in
        subst (λ y. MayCome ins outs c a × Stands d (record { pending = without a y; rest = r })) (sym same) (takes_opens c d l a r e.1 (subst (λ y. IsTrue (is_in a y)) same there) none t g)
    step_allowed c d _ _ _ (opens l a ms r none n there) (inr t) g =
        let e = next_inputs l ms r t.at n in
        let same : symbols ms ≡ ins = ap symbols e.0 ∙ symbols_input ins in
        subst (λ y. MayCome ins outs c a × Stands d (record { pending = without a y; rest = r })) (sym same) (gives_opens c d l a r e.1 (subst (λ y. IsTrue (is_in a y)) same there) none t g)

    -- ---- and each symbol that may come is a step

    allowed_step : (c : ℕ → ℕ) (l : Left) (a : ℕ) → Stands c l → MayCome ins outs c a → (m : Left) × Step body l a m
    allowed_step c l a (inl t) (inl h) =
        let o = some_member outs some_out in
        (record { pending = without a l.pending; rest = l.rest }, within l a (is_in_from_count a l.pending (omega (arith, t.phase.coming a h.0, t.phase.waiting o.0 o.1, h.1 o.0 o.1))))
    allowed_step c l a (inl t) (inr h) =
        let none : l.pending ≡ [] = none_pending ins l.pending t.phase.below (λ i hi. omega (arith, t.phase.waiting a h.0, h.1 i hi, t.phase.coming i hi, t.phase.below i, once i)) in
        (record { pending = without a outs; rest = Done }, may_open l Done (map output outs) outs a (outputs_next l t.at) (symbols_output outs) none h.0)
    allowed_step c l a (inr t) (inr h) =
        let i = some_member ins some_in in
        (record { pending = without a l.pending; rest = l.rest }, within l a (is_in_from_count a l.pending (omega (arith, t.phase.coming a h.0, t.phase.waiting i.0 i.1, h.1 i.0 i.1))))
    allowed_step c l a (inr t) (inl h) =
        let none : l.pending ≡ [] = none_pending outs l.pending t.phase.below (λ o ho. omega (arith, t.phase.waiting a h.0, h.1 o ho, t.phase.coming o ho)) in
        (record { pending = without a ins; rest = answer }, may_open l answer (map input ins) ins a (inputs_next l t.at) (symbols_input ins) none h.0)

    -- ---- so runs follow the counts

    abbrev pub CountRule : List ℕ → ℕ → Type 0
    CountRule u a = MayCome ins outs (counts u) a

    pub follows_from_runs : (t : List ℕ) (u : List ℕ) (l : Left) → Stands (counts u) l → Runs body l t → Follows CountRule u t
    follows_from_runs [] u l s r = tt
    follows_from_runs (a ∷ t) u l s r =
        let k = step_allowed (counts u) (counts (u ++ a ∷ [])) l a r.0 r.1 s (counts_grow u a) in
        (k.0, follows_from_runs t (u ++ a ∷ []) r.0 k.1 r.2)

    pub runs_from_follows : (t : List ℕ) (u : List ℕ) (l : Left) → Stands (counts u) l → Follows CountRule u t → Runs body l t
    runs_from_follows [] u l s f = tt
    runs_from_follows (a ∷ t) u l s f =
        let m = allowed_step (counts u) l a s f.0 in
        let k = step_allowed (counts u) (counts (u ++ a ∷ [])) l a m.0 m.1 s (counts_grow u a) in
        (m.0, m.1, runs_from_follows t (u ++ a ∷ []) m.0 k.1 f.1)
