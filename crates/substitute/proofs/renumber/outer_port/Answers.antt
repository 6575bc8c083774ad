use Rattle.std.proofs.Common.{sym, ◌∙◌}
use Rattle.substitute.proofs.Fused.{inner_from}
use Rattle.substitute.proofs.Outer.{comes_from, leads_to}
use Rattle.substitute.proofs.renumber.outer_port.Goals as goal

pub returns-then-driver-eq0 : goal.returns-then-driver-eq0
returns-then-driver-eq0 c =
    let from = c.driver-driver.ensures.one (c.requires.closed c.args.wire c.requires.known).0 in
    comes_from c.args.net.now c.network_law.ensures.wired c.requires.closed c.args.wire c.requires.known c.driver-driver.result.1
    (from.2 ∙ c.if-driver-eq0.true) from.3

pub returns-then-receiver-eq0 : goal.returns-then-receiver-eq0
returns-then-receiver-eq0 c =
    let from = c.driver-driver.ensures.one (c.requires.closed c.args.wire c.requires.known).0 in
    let to = c.receiver-receiver.ensures.one (c.requires.closed c.args.wire c.requires.known).1 in
    leads_to c.args.net.now c.network_law.ensures.wired c.requires.closed c.args.wire c.requires.known c.receiver-receiver.result.1
    (λ e. c.if-driver-eq0.false (sym from.2 ∙ e)) (to.2 ∙ c.if-receiver-eq0.true) to.3

pub returns-else-receiver-eq0 : goal.returns-else-receiver-eq0
returns-else-receiver-eq0 c =
    let from = c.driver-driver.ensures.one (c.requires.closed c.args.wire c.requires.known).0 in
    let to = c.receiver-receiver.ensures.one (c.requires.closed c.args.wire c.requires.known).1 in
    inner_from c.args.net.now c.args.wire (λ e. c.if-driver-eq0.false (sym from.2 ∙ e)) (λ e. c.if-receiver-eq0.false (sym to.2 ∙ e))
