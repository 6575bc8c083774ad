-- The step of an event, and that the answer by its step is the answer to the event.
use Rattle.std.proofs.Common.{◌≡◌, ◌≢◌, ◌↔◌, ℕ, ◌+◌, ◌-◌, ◌<◌, ◌≤◌, Bool, true, false, true≢false, ◌&&◌, if◌then◌else◌, nat_eq, List, [], ◌∷◌, ◌++◌, length, get_or, replicate, Option, Some, None, IsTrue, refl, sym, ap, ◌∙◌, subst, arith, eqb-true, eq-eqb}
use Rattle.std.specs.Prelude.{slice_get, nat_lt, nat_le, option_map}
use Rattle.std.proofs.lemmas.Bool.{false≢true}
use Rattle.std.proofs.lemmas.Bool.Decides.{nat_tests}
use Rattle.std.proofs.lemmas.List.{get_or-append-add, get_or-replicate, length-replicate}
use Rattle.basic_kinds.specs.Kinds.{inputs_of, outputs_of}
use Rattle.net_core.specs.declared.spec.NodeSpec.{NodeSpec}
use Rattle.net_core.specs.declared.spec.NodeSpec.TheVariants.{Kind, Cmd}
use Rattle.net_core.specs.Runs.{State, Enabled, Fits}
use Rattle.net_core.specs.Runs as runs
use Rattle.net_core.specs.Specs.{sides, outs_of}
use Rattle.net_core.specs.Wiring.{Node, Circuit, IsNetwork, IsClosed}
use Rattle.net_core.specs.Networks.{directions_at, gives, takes, end_at, end_node, end_port, fabric}
use Rattle.net_core.proofs.Ends.{own_directions}
use Rattle.net_core.proofs.Found.{gives_there, takes_there, gives_located, takes_located}
use Rattle.replay.specs.declared.event.Event.{Event}
use Rattle.replay.specs.declared.event.Event.TheVariants.{Give, Pass, Fire, Unknown}
use Rattle.replay.specs.declared.event.Answer.TheVariants.{Done, Forbidden, WrongOutput, CannotFire, NotAllowed}
use Rattle.replay.specs.declared.step.Step.{Step}
use Rattle.replay.specs.Answers.{output_of, output_in, output_at, event_of, IsFireAnswer, IsPassAnswer, IsAnswerTo, IsAnswer, MayHappen, IsEnabled, Course, state_of, state_after, left_by}
use Rattle.replay.specs.Mirror.Steps.{step_by, step_for, moved, MayTake, refused, unwanted, verdict, Judged}

-- ---- options

pub mapped_from : {A B : Type 0} (f : A → B) (o : Option A) (b : B) → option_map f o ≡ Some b → (a : A) × (o ≡ Some a) × (b ≡ f a)
mapped_from f None b h = absurd (cc)
mapped_from f (Some a) b h = let same : f a ≡ b = cc in (a, refl, sym same)

-- ---- the events of the network are there

-- the output is one, or the wire is there
abbrev pub IsThere : Circuit → runs.Event → Type 0
IsThere c (runs.Fire n p) = gives c n p ≡ true
IsThere c (runs.Pass w) = w < c.wires

later_output : (n m k : ℕ) → k < m → get_or (sides n m) (n + k) false ≡ true
later_output n m k h =
    ap (λ i. get_or (replicate n false ++ replicate m true) (i + k) false) (sym (length-replicate n false))
    ∙ get_or-append-add (replicate n false) (replicate m true) k false ∙ get_or-replicate m k true false h

output_there : (x : NodeSpec) (k p : ℕ) → output_of x k ≡ Some p → get_or (outs_of x) p false ≡ true
output_there (Kind kind) k p e = by (nat_lt 0 k && nat_le k (outputs_of kind)) refl e
  where
    by : (b : Bool) → (nat_lt 0 k && nat_le k (outputs_of kind)) ≡ b
        → (if b then Some (inputs_of kind + k - 1) else None) ≡ Some p → get_or (outs_of (Kind kind)) p false ≡ true
    by true t e =
        let some : 0 < k = grind (arith, nat_tests, t) in
        let few : k ≤ outputs_of kind = grind (arith, nat_tests, t) in
        let is : inputs_of kind + k - 1 ≡ p = cc in
        let at : inputs_of kind + (k - 1) ≡ p = omega (arith, is) in
        subst (λ q. get_or (outs_of (Kind kind)) q false ≡ true) at
        (later_output (inputs_of kind) (outputs_of kind) (k - 1) (omega arith))
    by false t e = absurd (cc)
output_there (Cmd command) k p e = absurd (cc)

output_gives : (c : Circuit) (n k p : ℕ) → output_at c n k ≡ Some p → gives c n p ≡ true
output_gives c n k p e = by (nat_eq n 0) refl e
  where
    at : (o : Option Node) → (n ≡ 0 → ⊥) → output_in o k ≡ Some p → get_or (directions_at n o) p false ≡ true
    at None ne e = absurd (cc)
    at (Some x) ne e = ap (λ ds. get_or ds p false) (own_directions n (Some x) ne) ∙ output_there x.spec k p e

    by : (b : Bool) → nat_eq n 0 ≡ b → (if b then None else output_in (slice_get c.nodes n) k) ≡ Some p → gives c n p ≡ true
    by true t e = absurd (cc)
    by false t e = at (slice_get c.nodes n) (λ z. false≢true (sym t ∙ eq-eqb n 0 z)) e

pub is_there : (c : Circuit) (e : Event) (ev : runs.Event) → event_of c e ≡ Some ev → IsThere c ev
is_there c (Give a) ev h = by (gives c 0 a.0) refl h
  where
    by : (b : Bool) → gives c 0 a.0 ≡ b → (if b then Some (runs.Fire 0 a.0) else None) ≡ Some ev → IsThere c ev
    by true t e = let is : runs.Fire 0 a.0 ≡ ev = cc in subst (IsThere c) is t
    by false t e = absurd (cc)
is_there c (Pass w) ev h = by (nat_lt w c.wires) refl h
  where
    by : (b : Bool) → nat_lt w c.wires ≡ b → (if b then Some (runs.Pass w) else None) ≡ Some ev → IsThere c ev
    by true t e =
        let is : runs.Pass w ≡ ev = cc in
        let less : w < c.wires = grind (arith, nat_tests, t) in
        subst (IsThere c) is less
    by false t e = absurd (cc)
is_there c (Fire n k) ev h =
    let found = mapped_from (runs.Fire n) (output_at c n k) ev h in
    subst (IsThere c) (sym found.2) (output_gives c n k found.0 found.1)
is_there c Unknown ev h = absurd (cc)

module _ (c : Circuit) (network : IsNetwork c) (closed : IsClosed c) where
  pub node_there : (ev : runs.Event) → IsThere c ev → (step_by c ev).node < length c.nodes
  node_there (runs.Fire n p) t = (gives_there c n p t).0
  node_there (runs.Pass w) t =
      (takes_there c (end_node (takes c) c w) (end_port (takes c) c w) ((takes_located c network.wired closed).real w t)).0

  pub wire_there : (ev : runs.Event) → IsThere c ev → (step_by c ev).wire < c.wires
  wire_there (runs.Fire n p) t = (gives_located c network.wired closed).known n p t
  wire_there (runs.Pass w) t = t

-- ---- the answer by the step

module _ (c : Circuit) (s : State) where
  refused_is : (n p : ℕ) → (Enabled (fabric c) s (runs.Fire n p) → ⊥) → IsFireAnswer c s n p (refused (step_by c (runs.Fire n p)))
  refused_is n p h = by (nat_eq n 0) refl
    where
      by : (b : Bool) → nat_eq n 0 ≡ b → IsFireAnswer c s n p (if b then NotAllowed (record { 0 = p }) else CannotFire n)
      by true t = (eqb-true n 0 t, refl, h)
      by false t = (λ z. false≢true (sym t ∙ eq-eqb n 0 z), refl, h)

  unwanted_is : (w : ℕ) → Enabled (fabric c) s (runs.Pass w) → (Fits (fabric c) s (runs.Pass w) → ⊥)
      → IsPassAnswer c s w (unwanted (step_by c (runs.Pass w)))
  unwanted_is w e h = by (nat_eq (end_node (takes c) c w) 0) refl
    where
      by : (b : Bool) → nat_eq (end_node (takes c) c w) 0 ≡ b → IsPassAnswer c s w
          (if b then WrongOutput (record { 0 = end_port (takes c) c w }) else Forbidden (end_node (takes c) c w) (end_port (takes c) c w))
      by true t = (eqb-true (end_node (takes c) c w) 0 t, refl, e, h)
      by false t = (refl, refl, (λ z. false≢true (sym t ∙ eq-eqb (end_node (takes c) c w) 0 z)), e, h)

  fire_answer : (n p : ℕ) (can busy : Bool) → gives c n p ≡ true → (IsTrue can ↔ MayTake c s (step_by c (runs.Fire n p)))
      → busy ≡ s.busy (end_at c n p) → IsFireAnswer c s n p (verdict (step_by c (runs.Fire n p)) can busy)
  fire_answer n p true true g m b = (refl, (g, m.0 refl), λ free. true≢false (b ∙ free))
  fire_answer n p true false g m b = ((g, m.0 refl), sym b)
  fire_answer n p false busy g m b = refused_is n p (λ e. false≢true (m.1 e.1))

  pass_answer : (w : ℕ) (can busy : Bool) → (IsTrue can ↔ MayTake c s (step_by c (runs.Pass w)))
      → busy ≡ s.busy w → IsPassAnswer c s w (verdict (step_by c (runs.Pass w)) can busy)
  pass_answer w true true m b = (sym b, m.0 refl)
  pass_answer w false true m b = unwanted_is w (sym b) (λ fits. false≢true (m.1 fits))
  pass_answer w true false m b = (refl, λ e. false≢true (b ∙ e))
  pass_answer w false false m b = (refl, λ e. false≢true (b ∙ e))

  pub step_answer : (ev : runs.Event) (can busy : Bool) → IsThere c ev → (IsTrue can ↔ MayTake c s (step_by c ev))
      → busy ≡ s.busy (step_by c ev).wire → IsAnswerTo c s (Some ev) (verdict (step_by c ev) can busy)
  step_answer (runs.Fire n p) can busy t m b = fire_answer n p can busy t m b
  step_answer (runs.Pass w) can busy t m b = pass_answer w can busy m b

  pub done_may : (ev : runs.Event) → IsAnswerTo c s (Some ev) Done → MayTake c s (step_by c ev)
  done_may (runs.Fire n p) d = d.0.1
  done_may (runs.Pass w) d = d.1

-- what the code found
pub record Weighed (r : Course) (e : Event) (p : Step) (can busy : Bool) : Type 0 where
  pub network : IsNetwork r.net
  pub closed : IsClosed r.net
  pub step : step_for r.net e ≡ Some p
  pub can_take : p.node < length r.net.nodes → IsTrue can ↔ MayTake r.net (state_of r) p
  pub is_busy : busy ≡ (state_of r).busy p.wire

module _ (r : Course) (e : Event) (p : Step) (can busy : Bool) (w : Weighed r e p can busy) where
  event_found : (ev : runs.Event) × (event_of r.net e ≡ Some ev) × (p ≡ step_by r.net ev)
  event_found = mapped_from (step_by r.net) (event_of r.net e) p w.step

  answer_by : IsAnswerTo r.net (state_of r) (Some event_found.0) (verdict (step_by r.net event_found.0) can busy)
  answer_by =
      let there = is_there r.net e event_found.0 event_found.1 in
      let is = event_found.2 in
      step_answer r.net (state_of r) event_found.0 can busy there
      (subst (λ (q : Step). IsTrue can ↔ MayTake r.net (state_of r) q) is
      (w.can_take (subst (λ (q : Step). q.node < length r.net.nodes) (sym is) (node_there r.net w.network w.closed event_found.0 there))))
      (w.is_busy ∙ ap (λ (q : Step). (state_of r).busy q.wire) is)

  pub weighed_answer : IsAnswer r.net (state_of r) e (verdict p can busy)
  weighed_answer = subst (λ o. IsAnswerTo r.net (state_of r) o (verdict p can busy)) (sym event_found.1)
      (subst (λ q. IsAnswerTo r.net (state_of r) (Some event_found.0) (verdict q can busy)) (sym event_found.2) answer_by)

  pub weighed_done : verdict p can busy ≡ Done → Judged r e p
  weighed_done d =
      let there = is_there r.net e event_found.0 event_found.1 in
      let is = event_found.2 in
      let done : IsAnswerTo r.net (state_of r) (Some event_found.0) Done =
      subst (IsAnswerTo r.net (state_of r) (Some event_found.0)) (ap (λ q. verdict q can busy) (sym is) ∙ d) answer_by in
      record {
        event = event_found.0;
        there = event_found.1;
        step = is;
        done = done;
        may = subst (MayTake r.net (state_of r)) (sym is) (done_may r.net (state_of r) event_found.0 done);
        node = subst (λ (q : Step). q.node < length r.net.nodes) (sym is) (node_there r.net w.network w.closed event_found.0 there);
        wire = subst (λ (q : Step). q.wire < r.net.wires) (sym is) (wire_there r.net w.network w.closed event_found.0 there);
      }

-- ---- whether the event may happen

may_fire : (c : Circuit) (s : State) (ev : runs.Event) (can : Bool) → IsThere c ev → (step_by c ev).fills ≡ true
    → (IsTrue can ↔ MayTake c s (step_by c ev)) → IsTrue can ↔ Enabled (fabric c) s ev
may_fire c s (runs.Fire n p) can t f m = (λ h. (t, m.0 h), λ e. m.1 e.1)
may_fire c s (runs.Pass w) can t f m = absurd (false≢true f)

may_pass : (c : Circuit) (s : State) (ev : runs.Event) (busy : Bool) → (step_by c ev).fills ≢ true
    → busy ≡ s.busy (step_by c ev).wire → IsTrue busy ↔ Enabled (fabric c) s ev
may_pass c s (runs.Fire n p) busy f b = absurd (f refl)
may_pass c s (runs.Pass w) busy f b = (λ h. sym b ∙ h, λ h. b ∙ h)

module _ (c : Circuit) (s : State) (e : Event) (p : Step) (network : IsNetwork c) (closed : IsClosed c) (step : step_for c e ≡ Some p) where
  pub enabled_fire : (can : Bool) → (p.node < length c.nodes → IsTrue can ↔ MayTake c s p) → p.fills ≡ true
      → IsTrue can ↔ IsEnabled c s e
  enabled_fire can takes fills =
      let (ev, named, is) = mapped_from (step_by c) (event_of c e) p step in
      let there = is_there c e ev named in
      let node : p.node < length c.nodes =
      subst (λ (q : Step). q.node < length c.nodes) (sym is) (node_there c network closed ev there) in
      subst (λ o. IsTrue can ↔ MayHappen c s o) (sym named)
      (may_fire c s ev can there (ap (λ (q : Step). q.fills) (sym is) ∙ fills)
      (subst (λ (q : Step). IsTrue can ↔ MayTake c s q) is (takes node)))

  pub enabled_pass : (busy : Bool) → busy ≡ s.busy p.wire → p.fills ≢ true → IsTrue busy ↔ IsEnabled c s e
  enabled_pass busy fills other =
      let (ev, named, is) = mapped_from (step_by c) (event_of c e) p step in
      subst (λ o. IsTrue busy ↔ MayHappen c s o) (sym named)
      (may_pass c s ev busy (λ f. other (ap (λ (q : Step). q.fills) is ∙ f)) (fills ∙ ap (λ (q : Step). s.busy q.wire) is))

-- ---- a judged event

pub moved_by : (c : Circuit) (s : State) (ev : runs.Event) → runs.after (fabric c) s ev ≡ moved s (step_by c ev)
moved_by c s (runs.Fire n p) = refl
moved_by c s (runs.Pass w) = refl

pub judged_after : (r : Course) (e : Event) (p : Step) → Judged r e p → left_by r.net (state_of r) (event_of r.net e) ≡ moved (state_of r) p
judged_after r e p j = ap (left_by r.net (state_of r)) j.there ∙ moved_by r.net (state_of r) j.event ∙ ap (moved (state_of r)) (sym j.step)

pub after_more : (c : Circuit) (s : State) (es : List Event) (e : Event)
    → state_after c s (es ++ e ∷ []) ≡ left_by c (state_after c s es) (event_of c e)
after_more c s [] e = refl
after_more c s (d ∷ es) e = after_more c (left_by c s (event_of c d)) es e
