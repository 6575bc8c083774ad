use Rattle.std.proofs.Common.{◌≡◌, inl, inr, ◌∙◌, List, get_or, ℕ, sym, ap, subst, arith}
use Rattle.std.proofs.lemmas.Bool.{cases_eq}
use Rattle.place_graph.specs.Points.{OneOf}
use Rattle.cmd_machine.proofs.Noting.{Row, rows_of}
use Rattle.replay.specs.declared.event.Event.{Event}
use Rattle.replay.specs.Answers.{state_of}
use Rattle.net_drive.specs.Mirror.Refreshing.{AreTested}
use Rattle.net_drive.proofs.Refreshed.{tested_then, tested_of, place_of}
use Rattle.net_drive.proofs.refresh.refresh_sharing.Goals as goal

pub loop-user-preserved : goal.loop-user-preserved
loop-user-preserved g c =
    let l = c.loop-user in
    let i = l.invariant in
    let e = c.refresh_gives.ensures in
    let run = c.args.replay.now.course in
    let es = c.args.plan.now.events.items in
    let old = c.args.known.now in
    let new = c.refresh_gives.new.known in
    let there : AreTested l.replay.course.net (state_of l.replay.course) es l.known.index new.index l.known.tested.items new.tested.items c.args.step =
    subst (λ (xs : List Event). AreTested l.replay.course.net (state_of l.replay.course) xs l.known.index new.index l.known.tested.items new.tested.items c.args.step)
    c.deref-in-loop-user-2.ensures.value e.tested in
    let here = tested_of l.replay.course run es l.known.index new.index l.known.tested.items new.tested.items c.args.step i.course there in
    let user = get_or c.row_of-user-items.result.now l.user-index 0 in
    let row : c.row_of-numbers.result.now ≡ rows_of c.args.plan.now.sharing.gives.items user =
    c.row_of-numbers.ensures ∙ ap (λ (rows : List Row). rows_of rows user) c.deref-in-loop-user.ensures.value in
    record {
      tested = tested_then run.net (state_of run) es c.args.step old.index l.known.index new.index old.tested.items l.known.tested.items new.tested.items i.tested here;
      done = λ j less n o within. elim (cases_eq j l.user-index) [
        | inl q ↦
            let one : OneOf c.row_of-numbers.result.now n = subst (λ (xs : List ℕ). OneOf xs n) (sym row)
            (subst (λ m. OneOf (rows_of c.args.plan.now.sharing.gives.items (get_or c.row_of-user-items.result.now m 0)) n) q o) in
            e.done n one (omega (arith, within, i.tested.sized))
        | inr ne ↦ here.kept n (i.done j (omega (arith, less, ne)) n o within)
      ];
      course = e.course ∙ i.course;
      probes = e.probes ∙ i.probes;
      asked = omega (arith, e.asked, i.asked);
    }

pub returns-clause-done : goal.returns-clause-done
returns-clause-done g c = λ u n first second less.
    let l = c.loop-user in
    let users = c.row_of-user-items.result.now in
    let row : users ≡ rows_of c.args.plan.now.sharing.users.items c.args.symbol =
    c.row_of-user-items.ensures ∙ ap (λ (rows : List Row). rows_of rows c.args.symbol) c.deref.ensures.value in
    let r = place_of users u (subst (λ (xs : List ℕ). OneOf xs u) (sym row) first) in
    l.invariant.done r.0 (omega (arith, r.1, c.loop-user-test.false)) n
    (subst (λ m. OneOf (rows_of c.args.plan.now.sharing.gives.items m) n) (sym r.2) second) less
