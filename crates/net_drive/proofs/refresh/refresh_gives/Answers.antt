use Rattle.std.proofs.Common.{inl, inr, ◌<◌, ◌∙◌, length, get_or, sym, ap, arith}
use Rattle.std.proofs.lemmas.Bool.{cases_eq}
use Rattle.replay.specs.Answers.{state_of}
use Rattle.net_drive.proofs.Refreshed.{tested_then, tested_of, place_of}
use Rattle.net_drive.proofs.refresh.refresh_gives.Goals as goal

pub loop-number-preserved : goal.loop-number-preserved
loop-number-preserved g c =
    let l = c.loop-number in
    let i = l.invariant in
    let e = c.refresh_give.ensures in
    let run = c.args.replay.now.course in
    let old = c.args.known.now in
    let new = c.refresh_give.new.known in
    let here = tested_of l.replay.course run c.args.events.now l.known.index new.index l.known.tested.items new.tested.items c.args.step i.course e.tested in
    record {
      tested = tested_then run.net (state_of run) c.args.events.now c.args.step old.index l.known.index new.index old.tested.items l.known.tested.items new.tested.items i.tested here;
      done = λ j less within. elim (cases_eq j l.number-index) [
        | inl q ↦
            let known : get_or c.args.numbers.now l.number-index 0 < length l.known.tested.items =
            omega (arith, within, i.tested.sized, ap (λ m. get_or c.args.numbers.now m 0) q) in
            ap (λ m. get_or new.tested.items (get_or c.args.numbers.now m 0) 0) q ∙ e.done known
        | inr ne ↦ here.kept (get_or c.args.numbers.now j 0) (i.done j (omega (arith, less, ne)) within)
      ];
      course = e.course ∙ i.course;
      probes = e.probes ∙ i.probes;
      asked = omega (arith, e.asked, i.asked);
    }

pub returns-clause-done : goal.returns-clause-done
returns-clause-done g c = λ i o less.
    let l = c.loop-number in
    let r = place_of c.args.numbers.now i o in
    ap (λ m. get_or l.known.tested.items m 0) (sym r.2) ∙ l.invariant.done r.0 (omega (arith, r.1, c.loop-number-test.false))
    (omega (arith, r.2, less))
