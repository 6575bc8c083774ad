use Rattle.std.proofs.Common.{inl, inr, ◌∙◌, refl, arith}
use Rattle.std.proofs.lemmas.Bool.{cases_lt}
use Rattle.replay.specs.Answers.{state_of}
use Rattle.net_drive.proofs.Refreshed.{right_of, range_right, range_others}
use Rattle.net_drive.proofs.refresh.refresh_range.Goals as goal

pub loop-number-init : goal.loop-number-init
loop-number-init g c = record {
  long = refl;
  course = refl;
  probes = refl;
  asked = omega arith;
  right = λ i low high. absurd (omega (arith, low, high));
  others = λ i o. refl;
  end = inr refl;
}

pub loop-number-preserved : goal.loop-number-preserved
loop-number-preserved g c =
    let l = c.loop-number in
    let i = l.invariant in
    let e = c.refresh.ensures in
    let run = c.args.replay.now.course in
    let here = right_of l.replay.course run c.args.events.now c.refresh.new.index l.number i.course e.right in
    record {
      long = e.length ∙ i.long;
      course = e.course ∙ i.course;
      probes = e.probes ∙ i.probes;
      asked = omega (arith, e.asked, i.asked, l.auto.number);
      right = range_right run.net (state_of run) c.args.events.now l.index c.refresh.new.index c.args.from l.number here e.others i.right;
      others = range_others run.net (state_of run) c.args.events.now l.index c.refresh.new.index c.args.from l.number here e.others c.args.index.now l.auto.number i.others;
      end = inl (omega (arith, c.loop-number-test.true));
    }

pub returns-clause-others : goal.returns-clause-others
returns-clause-others g c = λ i out.
    let l = c.loop-number in
    let v = l.invariant in
    elim out [
      | inl low ↦ v.others i (inl low)
      | inr high ↦ elim v.end [
        | inl e ↦ v.others i (inr (omega (arith, e, high)))
        | inr e ↦ elim (cases_lt i c.args.from) [
          | inl low ↦ v.others i (inl low)
          | inr past ↦ v.others i (inr (omega (arith, e, past)))
        ]
      ]
    ]

pub returns-clause-asked : goal.returns-clause-asked
returns-clause-asked g c =
    let l = c.loop-number in
    let v = l.invariant in
    elim v.end [
      | inl e ↦ omega (arith, v.asked, e)
      | inr e ↦ omega (arith, v.asked, e)
    ]
