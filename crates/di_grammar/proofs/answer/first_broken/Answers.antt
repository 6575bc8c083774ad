use Rattle.std.proofs.Common.{arith}
use Rattle.di_grammar.proofs.Answering.{admitted_all, number_few, broken_at}
use Rattle.di_grammar.proofs.answer.first_broken.Goals as goal

pub returns-in-Some : goal.returns-in-Some
returns-in-Some c = broken_at c.args.procs.now c.loop-rule.rule-index _ c.in-Some.breach c.number.result c.loop-rule-test.true c.number.ensures c.loop-rule.invariant
    c.first_breach.result c.in-Some.is c.first_breach.ensures

pub returns : goal.returns
returns c = admitted_all c.args.procs.now (λ r. c.loop-rule.invariant r (omega (arith, number_few r, c.loop-rule-test.false)))
