use Rattle.std.proofs.Common.{◌∙◌, sym, arith}
use Rattle.net_core.proofs.Updates.{grow_other}
use Rattle.replay.proofs.Coursing.{noted}
use Rattle.replay.proofs.course.note.Goals as goal

pub returns-then-step-eq0-clause-symbols : goal.returns-then-step-eq0-clause-symbols
returns-then-step-eq0-clause-symbols c = λ trace same.
    noted c.args.seen.now.items c.push-noted.new.self.items _ c.args.step.now.node c.args.step.now.port trace
    (c.push-noted.ensures.succeeds (omega (arith, c.requires))) c.push-noted.ensures.items c.if-step-eq0.true same

pub returns-else-step-eq0-clause-symbols : goal.returns-else-step-eq0-clause-symbols
returns-else-step-eq0-clause-symbols c = λ trace same.
    same ∙ sym (grow_other trace c.args.step.now.node c.args.step.now.port 0 (λ e. c.if-step-eq0.false (sym e)))
