use Rattle.std.proofs.Common.{arith}
use Rattle.plain_split.proofs.RoundsSteps.{half_power, one_power}
use Rattle.plain_split.proofs.round_parts.halvings.Goals as goal

pub loop-rest-preserved : goal.loop-rest-preserved
loop-rest-preserved c = record {
  few = omega arith;
  power = λ e h.
      let (f, count, power) = c.loop-rest.invariant.power e h in
      let (g, next, half) = half_power c.loop-rest.rest f power c.loop-rest-test.true in
      (g, omega arith, half);
}

pub returns : goal.returns
returns c = λ e h.
    let (f, count, power) = c.loop-rest.invariant.power e h in
    omega (arith, one_power c.loop-rest.rest f power c.loop-rest-test.false)
