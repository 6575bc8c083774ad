use Rattle.std.proofs.Common.{◌≡◌, ℕ, ◌+◌, ◌-◌, ◌≤◌, List, get_or, suc, Some, sym, ap, subst, arith}
use Rattle.replay.specs.declared.event.Event.{Event}
use Rattle.replay.specs.Answers.{state_of}
use Rattle.replay.specs.Mirror.Steps.{step_for}
use Rattle.net_drive.specs.Drawn.{widest}
use Rattle.net_drive.specs.Mirror.Refreshing.{IsRight}
use Rattle.net_drive.proofs.Numbers.{gives_widest, fires_widest}
use Rattle.net_drive.proofs.Refreshed.{right_of, tested_of, fresh_low}
use Rattle.net_drive.proofs.Updated.{right_gives, right_fires}
use Rattle.net_drive.proofs.refresh.update.Goals as goal

pub returns-then-done-eq0-clause-right : goal.returns-then-done-eq0-clause-right
returns-then-done-eq0-clause-right g c = λ s was done after early.
    let run = c.args.replay.now.course in
    let k = c.requires.playable.command in
    let specified = c.requires.playable.specified in
    let plan = c.args.plan.now in
    let p = c.in-Some.done in
    let step : step_for run.net c.args.event ≡ Some p = sym c.in-Some.ensures in
    let middle = c.refresh.new.index in
    let pass : IsRight run.net (state_of run) plan.events.items middle (plan.gives + p.wire) =
    subst (λ (xs : List Event). IsRight run.net (state_of run) xs middle (plan.gives + p.wire)) c.deref.ensures.value c.refresh.ensures.right in
    let new = c.refresh_sharing.new.known in
    let e = c.refresh_sharing.ensures in
    right_gives run.net k plan s (state_of run) c.args.event p (c.requires.plan k specified) specified step done after c.args.known.now.index middle was pass
    c.refresh.ensures.others new.index c.args.known.now.tested.items new.tested.items c.args.step c.if-done-eq0.true
    (tested_of c.refresh.new.replay.course run plan.events.items middle new.index c.args.known.now.tested.items new.tested.items c.args.step c.refresh.ensures.course e.tested)
    early c.requires.tested e.done c.refresh.ensures.length

pub returns-then-done-eq0-clause-asked : goal.returns-then-done-eq0-clause-asked
returns-then-done-eq0-clause-asked g c =
    let run = c.args.replay.now.course in
    let is = c.requires.plan c.requires.playable.command c.requires.playable.specified in
    omega (
      arith,
      c.refresh.ensures.asked,
      c.refresh_sharing.ensures.asked,
      fresh_low c.args.step c.args.known.now.tested.items,
      c.requires.tested,
      is.gives,
      gives_widest run.net,
    )

pub returns-else-done-eq0-clause-right : goal.returns-else-done-eq0-clause-right
returns-else-done-eq0-clause-right g c = λ s was done after early.
    let run = c.args.replay.now.course in
    let k = c.requires.playable.command in
    let specified = c.requires.playable.specified in
    let plan = c.args.plan.now in
    let p = c.in-Some.done in
    let step : step_for run.net c.args.event ≡ Some p = sym c.in-Some.ensures in
    let middle = c.refresh.new.index in
    let pass : IsRight run.net (state_of run) plan.events.items middle (plan.gives + p.wire) =
    subst (λ (xs : List Event). IsRight run.net (state_of run) xs middle (plan.gives + p.wire)) c.deref.ensures.value c.refresh.ensures.right in
    let e = c.refresh_fires.ensures in
    right_fires run.net k plan s (state_of run) c.args.event p (c.requires.plan k specified) specified step done after c.args.known.now.index middle was pass
    c.refresh.ensures.others c.refresh_fires.new.index c.if-done-eq0.false e.length
    (λ i low high. right_of c.refresh.new.replay.course run plan.events.items c.refresh_fires.new.index i c.refresh.ensures.course (e.right i low high))
    e.others c.refresh.ensures.length

pub returns-else-done-eq0-clause-asked : goal.returns-else-done-eq0-clause-asked
returns-else-done-eq0-clause-asked g c =
    let run = c.args.replay.now.course in
    let plan = c.args.plan.now in
    let n = c.in-Some.done.node in
    let is = c.requires.plan c.requires.playable.command c.requires.playable.specified in
    let wide : get_or plan.fires.items (suc (n - 1)) 0 ≤ get_or plan.fires.items (n - 1) 0 + widest run.net =
    subst (λ (xs : List ℕ). get_or xs (suc (n - 1)) 0 ≤ get_or xs (n - 1) 0 + widest run.net) (sym is.fires) (fires_widest run.net _ (n - 1)) in
    let next : suc (n - 1) ≡ n = omega (arith, c.if-done-eq0.false) in
    omega (arith, c.refresh.ensures.asked, c.refresh_fires.ensures.asked, wide, ap (λ m. get_or plan.fires.items m 0) next)
