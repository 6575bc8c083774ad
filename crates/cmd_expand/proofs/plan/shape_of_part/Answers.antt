use Rattle.std.proofs.Common.{◌≡◌, ◌<◌, length, ap, rules}
use Rattle.cmd_expand.specs.Pairs.{renamed}
use Rattle.cmd_expand.specs.Mirror.Plan.{own, procs_of_part}
use Rattle.cmd_expand.proofs.Shapes.{shape_use}
use Rattle.cmd_expand.proofs.plan.shape_of_part.Goals as goal

pub returns-in-Own : goal.returns-in-Own
returns-in-Own c = λ ms a b s. own

pub returns-in-Some : goal.returns-in-Some
returns-in-Some c = λ ms a b s.
    let inside : c.in-Use.of < length c.args.lines.now = c.in-Some.ensures.lookup.3.0 in
    let many : length c.in-Some.line.now.symbols.items ≡ c.args.symbols = search rules in
    shape_use ms c.args.lines.now c.args.part.now (renamed c.in-Use.pairs.items) c.in-Use.of c.args.symbols c.in-Some.line.now (ap (procs_of_part ms) c.in-Use.is) a s inside (c.in-Some.ensures.lookup.3.1 c.in-Some.line.now) many

pub returns-in_default : goal.returns-in_default
returns-in_default c = λ ms a b s. own
