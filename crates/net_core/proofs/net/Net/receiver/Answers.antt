use Rattle.std.proofs.Common.{subst}
use Rattle.net_core.specs.Wiring.{Circuit}
use Rattle.net_core.specs.Mirror.EndTables.{Kept}
use Rattle.net_core.proofs.EndPorts.{receiver_read, receiver_open}
use Rattle.net_core.proofs.net.Net.receiver.Goals as goal

pub returns-clause-one : goal.returns-clause-one
returns-clause-one c = λ one.
    let kept = subst (λ (d : Circuit). Kept d.nodes d.wires c.self.inside.ends.items) c.self.view_is c.self.invariant in
    receiver_read c.args.self.now c.self.inside.ends.items kept c.args.wire c.requires c.index.result.now c.index.ensures c.numbers.result c.numbers.ensures one

pub returns-clause-open : goal.returns-clause-open
returns-clause-open c = λ other.
    let kept = subst (λ (d : Circuit). Kept d.nodes d.wires c.self.inside.ends.items) c.self.view_is c.self.invariant in
    receiver_open c.args.self.now c.self.inside.ends.items kept c.args.wire c.requires c.index.result.now c.index.ensures c.numbers.result c.numbers.ensures other
