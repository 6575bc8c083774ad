-- An event has one answer.
use Rattle.std.proofs.Common.{◌≡◌, ◌⊎◌, inl, inr, ℕ, Bool, false, if◌then◌else◌, nat_eq, Option, Some, None, refl, sym, ap, ◌∙◌, ne_eqb, eq-eqb}
use Rattle.net_core.specs.Runs.{State, Enabled, Fits}
use Rattle.net_core.specs.Runs as runs
use Rattle.net_core.specs.Wiring.{Circuit}
use Rattle.net_core.specs.Networks.{takes, end_at, end_node, end_port, fabric}
use Rattle.replay.specs.declared.event.Answer.{Answer}
use Rattle.replay.specs.declared.event.Answer.TheVariants.{Done, Clash, Forbidden, WrongOutput, CannotFire, EmptyWire, NotAllowed, NoSuch, NoMemory}
use Rattle.replay.specs.Answers.{IsFireAnswer, IsPassAnswer, IsAnswerTo}
use Rattle.replay.specs.Mirror.Steps.{step_by, refused, unwanted}

-- the answer where the event may happen and has no hazard, where it may not happen, and where it has a hazard
record Told (E F : Type 0) (done off hazard a : Answer) : Type 0 where
  is : ((a ≡ done) × E × F) ⊎ (((a ≡ off) × (E → ⊥)) ⊎ ((a ≡ hazard) × E × (F → ⊥)))

one_told : (E F : Type 0) (done off hazard a b : Answer) → Told E F done off hazard a → Told E F done off hazard b → a ≡ b
one_told E F x y z a b h k = elim h.is [
  | inl (p, e, f) ↦ elim k.is [
    | inl (q, _, _) ↦ p ∙ sym q
    | inr (inl (q, ne)) ↦ absurd (ne e)
    | inr (inr (q, _, nf)) ↦ absurd (nf f)
  ]
  | inr (inl (p, ne)) ↦ elim k.is [
    | inl (q, e, _) ↦ absurd (ne e)
    | inr (inl (q, _)) ↦ p ∙ sym q
    | inr (inr (q, e, _)) ↦ absurd (ne e)
  ]
  | inr (inr (p, e, nf)) ↦ elim k.is [
    | inl (q, _, f) ↦ absurd (nf f)
    | inr (inl (q, ne)) ↦ absurd (ne e)
    | inr (inr (q, _, _)) ↦ p ∙ sym q
  ]
]

module _ (c : Circuit) (s : State) where
  fire_told : (n p : ℕ) (a : Answer) → IsFireAnswer c s n p a
      → Told (Enabled (fabric c) s (runs.Fire n p)) (Fits (fabric c) s (runs.Fire n p)) Done (refused (step_by c (runs.Fire n p))) (Clash (end_at c n p)) a
  fire_told n p Done h = record { is = inl (refl, h.0, h.1) }
  fire_told n p (NotAllowed a) h = record {
    is = inr (inl (
      (λ i. NotAllowed (record { 0 = h.1 i })) ∙ ap (λ (b : Bool). if b then NotAllowed (record { 0 = p }) else CannotFire n) (sym (eq-eqb n 0 h.0)),
      h.2,
    ));
  }
  fire_told n p (CannotFire m) h = record {
    is = inr (inl (
      ap CannotFire h.1 ∙ ap (λ (b : Bool). if b then NotAllowed (record { 0 = p }) else CannotFire n) (sym (ne_eqb n 0 h.0)),
      h.2,
    ));
  }
  fire_told n p (Clash w) h = record { is = inr (inr (ap Clash h.0, h.1, h.2)) }
  fire_told n p (EmptyWire w) h = absurd h
  fire_told n p (Forbidden m q) h = absurd h
  fire_told n p (WrongOutput a) h = absurd h
  fire_told n p NoSuch h = absurd h
  fire_told n p NoMemory h = absurd h

  abbrev unwanted_by : ℕ → Bool → Answer
  unwanted_by w b = if b then WrongOutput (record { 0 = end_port (takes c) c w }) else Forbidden (end_node (takes c) c w) (end_port (takes c) c w)

  pass_told : (w : ℕ) (a : Answer) → IsPassAnswer c s w a
      → Told (Enabled (fabric c) s (runs.Pass w)) (Fits (fabric c) s (runs.Pass w)) Done (EmptyWire w) (unwanted (step_by c (runs.Pass w))) a
  pass_told w Done h = record { is = inl (refl, h.0, h.1) }
  pass_told w (EmptyWire v) h = record { is = inr (inl (ap EmptyWire h.0, h.1)) }
  pass_told w (Forbidden n p) h =
      let other : nat_eq (end_node (takes c) c w) 0 ≡ false = ne_eqb (end_node (takes c) c w) 0 (λ e. h.2 (sym h.0 ∙ e)) in
      record { is = inr (inr ((λ i. Forbidden (sym h.0 i) (sym h.1 i)) ∙ ap (unwanted_by w) (sym other), h.3, h.4)) }
  pass_told w (WrongOutput a) h =
      record { is = inr (inr ((λ i. WrongOutput (record { 0 = sym h.1 i })) ∙ ap (unwanted_by w) (sym (eq-eqb (end_node (takes c) c w) 0 h.0)), h.2, h.3)) }
  pass_told w (NotAllowed a) h = absurd h
  pass_told w (CannotFire n) h = absurd h
  pass_told w (Clash v) h = absurd h
  pass_told w NoSuch h = absurd h
  pass_told w NoMemory h = absurd h

  pub one_answer_to : (o : Option runs.Event) (a b : Answer) → IsAnswerTo c s o a → IsAnswerTo c s o b → a ≡ b
  one_answer_to None a b h k = h ∙ sym k
  one_answer_to (Some (runs.Fire n p)) a b h k = one_told _ _ _ _ _ a b (fire_told n p a h) (fire_told n p b k)
  one_answer_to (Some (runs.Pass w)) a b h k = one_told _ _ _ _ _ a b (pass_told w a h) (pass_told w b k)
