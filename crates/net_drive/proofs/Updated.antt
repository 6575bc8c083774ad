-- After an update each bit is right again.
use Rattle.std.proofs.Common.{◌≡◌, ◌≢◌, ◌⊎◌, inl, inr, ◌↔◌, ℕ, ◌+◌, ◌-◌, ◌<◌, ◌≤◌, Bool, false, List, length, get_or, map, Some, IsTrue, sym, ap, ◌∙◌, subst, arith}
use Rattle.std.specs.Prelude.{slice_get}
use Rattle.std.proofs.lemmas.Bool.{cases_eq, cases_lt}
use Rattle.place_graph.specs.Points.{OneOf}
use Rattle.cmd_tree.specs.declared.command.Command.{Command}
use Rattle.cmd_machine.specs.Mirror.Walkers.{row_at}
use Rattle.cmd_machine.proofs.Weaving.{user_zero}
use Rattle.net_core.specs.declared.spec.NodeSpec.TheVariants.{Cmd}
use Rattle.net_core.specs.Runs.{State}
use Rattle.net_core.specs.Wiring.{Circuit}
use Rattle.net_core.specs.Networks.{IsSpecified}
use Rattle.replay.specs.declared.event.Event.{Event}
use Rattle.replay.specs.declared.event.Event.TheVariants.{Give, Pass, Fire, Unknown}
use Rattle.replay.specs.declared.event.Answer.TheVariants.{Done}
use Rattle.replay.specs.declared.step.Step.{Step}
use Rattle.replay.specs.Answers.{event_of, IsAnswer, IsEnabled, left_by}
use Rattle.replay.specs.Mirror.Steps.{step_for}
use Rattle.net_drive.specs.declared.plan.Plan.{Plan}
use Rattle.net_drive.specs.Changes.{Share, Concerns}
use Rattle.net_drive.specs.Drawn.{gives_of, give_of}
use Rattle.net_drive.specs.Mirror.Plans.{IsPlan}
use Rattle.net_drive.specs.Mirror.Refreshing.{IsRight, AllRight, AreTested}
use Rattle.net_drive.proofs.Changing.{kept}
use Rattle.net_drive.proofs.Numbers.{stands}
use Rattle.net_drive.proofs.Refreshed.{right_same, Settled}

module _ (c : Circuit) (k : Command) (plan : Plan) (s t : State) (e : Event) (p : Step) (is : IsPlan c k.procs plan)
    (specified : IsSpecified c (Cmd k)) (step : step_for c e ≡ Some p) (done : IsAnswer c s e Done)
    (after : t ≡ left_by c s (event_of c e)) (old middle : List Bool) (was : AllRight c s plan.events.items old)
    (pass : IsRight c t plan.events.items middle (plan.gives + p.wire))
    (beside : (i : ℕ) → i ≢ plan.gives + p.wire → get_or middle i false ≡ get_or old i false) where
  abbrev es : List Event
  es = plan.events.items

  -- the bit is right, or the event does not concern the step
  abbrev Known : List Bool → ℕ → Event → Type 0
  Known new i f = IsRight c t es new i ⊎ (Concerns k.procs p f → ⊥)

  all_right : (new : List Bool) → length new ≡ length old → ((i : ℕ) → Settled c t es old new i)
      → ((i : ℕ) (f : Event) → slice_get es i ≡ Some f → Known new i f) → AllRight c t es new
  all_right new long settled known = record {
    long = long ∙ was.long;
    each = λ i f at. elim (settled i) [
      | inl r ↦ r f at
      | inr same ↦ elim (known i f at) [
        | inl r ↦ r f at
        | inr apart ↦
            let before : IsTrue (get_or new i false) ↔ IsEnabled c s f = right_same c s es old new i same (was.each i) f at in
            let now : IsEnabled c s f ↔ IsEnabled c t f =
            subst (λ (u : State). IsEnabled c s f ↔ IsEnabled c u f) (sym after) (kept c k s e f p specified step done apart) in
            (λ h. now.0 (before.0 h), λ h. before.1 (now.1 h))
      ]
    ];
  }

  -- what is tested later leaves the pass right
  settle : (new : List Bool) (i : ℕ) → Settled c t es middle new i → Settled c t es old new i
  settle new i h = elim h [
    | inl r ↦ inl r
    | inr same ↦ elim (cases_eq i (plan.gives + p.wire)) [
      | inl at ↦ inl (right_same c t es middle new i same (subst (λ j. IsRight c t es middle j) (sym at) pass))
      | inr ne ↦ inr (same ∙ beside i ne)
    ]
  ]

  known_pass : (new : List Bool) (i w : ℕ) → Settled c t es middle new i → slice_get es i ≡ Some (Pass w) → Known new i (Pass w)
  known_pass new i w h at =
      let place : i ≡ length (gives_of c) + w = stands c i (Pass w) (ap (λ xs. slice_get xs i) (sym is.events) ∙ at) in
      elim (cases_eq p.wire w) [
        | inl same ↦ elim h [
          | inl r ↦ inl r
          | inr kept ↦
              let here : i ≡ plan.gives + p.wire = omega (arith, place, same, is.gives) in
              inl (right_same c t es middle new i kept (subst (λ j. IsRight c t es middle j) (sym here) pass))
        ]
        | inr ne ↦ inr ne
      ]

  -- ---- a component took part

  module _ (new : List Bool) (node : p.node ≢ 0) (long : length new ≡ length middle)
      (right : (i : ℕ) → get_or plan.fires.items (p.node - 1) 0 ≤ i → i < get_or plan.fires.items p.node 0 → IsRight c t es new i)
      (others : (i : ℕ) → (i < get_or plan.fires.items (p.node - 1) 0) ⊎ (get_or plan.fires.items p.node 0 ≤ i)
      → get_or new i false ≡ get_or middle i false)
      (sized : length middle ≡ length old) where
    settled_fires : (i : ℕ) → Settled c t es middle new i
    settled_fires i = elim (cases_lt i (get_or plan.fires.items (p.node - 1) 0)) [
      | inl l ↦ inr (others i (inl l))
      | inr h ↦ elim (cases_lt i (get_or plan.fires.items p.node 0)) [
        | inl l ↦ inl (right i h l)
        | inr g ↦ inr (others i (inr g))
      ]
    ]

    known_fires : (i : ℕ) (f : Event) → slice_get es i ≡ Some f → Known new i f
    known_fires i (Give b) at = inr (λ h. node h.0)
    known_fires i (Pass w) at = known_pass new i w (settled_fires i) at
    known_fires i (Fire n m) at = elim (cases_eq p.node n) [
      | inl same ↦
          let place = stands c i (Fire n m) (ap (λ xs. slice_get xs i) (sym is.events) ∙ at) in
          let fires = sym is.fires in
          let low : get_or plan.fires.items (p.node - 1) 0 ≤ i =
          subst (λ j. get_or plan.fires.items (j - 1) 0 ≤ i) (sym same) (subst (λ (xs : List ℕ). get_or xs (n - 1) 0 ≤ i) fires place.1) in
          let high : i < get_or plan.fires.items p.node 0 =
          subst (λ j. i < get_or plan.fires.items j 0) (sym same) (subst (λ (xs : List ℕ). i < get_or xs n 0) fires place.2) in
          inl (right i low high)
      | inr ne ↦ inr (λ h. ne h.1)
    ]
    known_fires i Unknown at = inr (λ h. h)

    pub right_fires : AllRight c t es new
    right_fires = all_right new (long ∙ sized) (λ i. settle new i (settled_fires i)) known_fires

  -- ---- the environment took part

  module _ (new : List Bool) (before stamps : List ℕ) (now : ℕ) (node : p.node ≡ 0)
      (tested : AreTested c t es middle new before stamps now) (early : (i : ℕ) → get_or before i 0 < now)
      (many : length before ≡ plan.gives)
      (stamped : (u i : ℕ) → OneOf (row_at (map (λ row. row.items) plan.sharing.users.items) p.port) u
      → OneOf (row_at (map (λ row. row.items) plan.sharing.gives.items) u) i → i < length before → get_or stamps i 0 ≡ now)
      (sized : length middle ≡ length old) where
    give_stamped : (i b : ℕ) → slice_get es i ≡ Some (give_of b) → Share k.procs p.port b → get_or stamps i 0 ≡ now
    give_stamped i b at share =
        let place : i < length (gives_of c) = stands c i (give_of b) (ap (λ xs. slice_get xs i) (sym is.events) ∙ at) in
        let user = user_zero k.procs p.port share.number share.process share.at share.first in
        let other = user_zero k.procs b share.number share.process share.at share.second in
        stamped share.number i (subst (λ row. OneOf row share.number) (sym (is.users p.port)) user)
        (is.shared.has i b share.number at other) (omega (arith, place, many, is.gives))

    known_gives : (i : ℕ) (f : Event) → slice_get es i ≡ Some f → Known new i f
    known_gives i (Give b) at = elim (cases_eq (get_or stamps i 0) now) [
      | inl same ↦ inl (tested.right (λ j h. (let l = early j in absurd (omega (arith, l, h)))) i same)
      | inr ne ↦ inr (λ h. ne (give_stamped i b.0 at h.1))
    ]
    known_gives i (Pass w) at = known_pass new i w (tested.others i) at
    known_gives i (Fire n m) at = inr (λ h. h.0 node)
    known_gives i Unknown at = inr (λ h. h)

    pub right_gives : AllRight c t es new
    right_gives = all_right new (tested.long ∙ sized) (λ i. settle new i (tested.others i)) known_gives
