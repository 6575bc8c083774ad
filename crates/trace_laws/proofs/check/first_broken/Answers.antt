use Rattle.std.proofs.Common.{subst}
use Rattle.std.specs.List.{Contains}
use Rattle.trace_laws.specs.Breaks.{Breaks}
use Rattle.trace_laws.specs.Listed.{output_by}
use Rattle.trace_laws.specs.Mirror.Improved.{LeastOf}
use Rattle.trace_laws.proofs.Rules.{rule_more, kept_closed}
use Rattle.trace_laws.proofs.check.first_broken.Goals as goal

pub loop-rule-preserved : goal.loop-rule-preserved
loop-rule-preserved c = rule_more (output_by c.args.dirs.now) (Contains c.args.words.now) c.loop-rule.rule
    (subst (LeastOf (Breaks (output_by c.args.dirs.now) (Contains c.args.words.now) c.loop-rule.rule)) c.in_default.is c.in_ok-word.ensures)
    c.loop-rule.invariant

pub least_fault-requires-clause-closed : goal.least_fault-requires-clause-closed
least_fault-requires-clause-closed c = λ l. kept_closed (output_by c.args.dirs.now) c.args.words.now (c.loop-rule.invariant 0 l)
