use Rattle.std.proofs.Common.{◌∙◌, ap}
use Rattle.cmd_tree.specs.Lists.{is_in}
use Rattle.trace_laws.specs.Listed.{numbers}
use Rattle.trace_laws.proofs.Projections.{filtered}
use Rattle.trace_laws.proofs.projection.project.Goals as goal

pub returns : goal.returns
returns c = ap numbers c.in_ok-left.ensures ∙ filtered (λ a. is_in a (numbers c.args.kept.now)) c.args.trace.now
