use Rattle.std.proofs.Common.{◌≡◌, ◌<◌, ◌+◌, length, get_or, subst}
use Rattle.std.specs.List.{AllByRecursion}
use Rattle.std.proofs.lemmas.Result.{on_ok_weaker}
use Rattle.net_core.specs.Wiring.{Circuit, IsWired}
use Rattle.net_core.specs.Walk.{list_node}
use Rattle.net_core.specs.Mirror.WalkStates.{walk_in, IsSized, Walks}
use Rattle.net_core.proofs.WalkSteps.{leads_step}
use Rattle.net_core.proofs.WalkStates.{on_ok_both, goes_to, visited_few, wire_known, receiver_known, visit_step}
use Rattle.net_core.proofs.walk.WalkState.visit_next.Goals as goal

pub receiver-requires : goal.receiver-requires
receiver-requires c =
    let net = c.args.net.now in
    let fit : AllByRecursion (IsWired net.wires) net.nodes = subst (λ (d : Circuit). AllByRecursion (IsWired d.wires) d.nodes) c.net.view_is c.net.invariant.fit in
    let some : 0 < length net.nodes = subst (λ (d : Circuit). 0 < length d.nodes) c.net.view_is c.net.invariant.some in
    wire_known net fit c.requires.closed some c.args.self.now c.requires.walks c.requires.left c.numbers.result.now c.numbers.ensures

pub list_node-requires-clause-inside : goal.list_node-requires-clause-inside
list_node-requires-clause-inside c =
    let net = c.args.net.now in
    let fit : AllByRecursion (IsWired net.wires) net.nodes = subst (λ (d : Circuit). AllByRecursion (IsWired d.wires) d.nodes) c.net.view_is c.net.invariant.fit in
    let some : 0 < length net.nodes = subst (λ (d : Circuit). 0 < length d.nodes) c.net.view_is c.net.invariant.some in
    let known = wire_known net fit c.requires.closed some c.args.self.now c.requires.walks c.requires.left c.numbers.result.now c.numbers.ensures in
    receiver_known net fit c.requires.closed some c.args.self.now c.requires.walks c.requires.left c.numbers.result.now c.numbers.ensures
    c.receiver.result.0 (c.receiver.ensures.one (c.requires.closed (get_or c.numbers.result.now c.args.self.now.visited 0) known).1).2

pub returns-clause-walks : goal.returns-clause-walks
returns-clause-walks c =
    let net = c.args.net.now in
    let fit : AllByRecursion (IsWired net.wires) net.nodes = subst (λ (d : Circuit). AllByRecursion (IsWired d.wires) d.nodes) c.net.view_is c.net.invariant.fit in
    let some : 0 < length net.nodes = subst (λ (d : Circuit). 0 < length d.nodes) c.net.view_is c.net.invariant.some in
    let old = c.args.self.now in
    let new = c.list_node.new.self in
    let node = c.receiver.result.0 in
    let known = wire_known net fit c.requires.closed some old c.requires.walks c.requires.left c.numbers.result.now c.numbers.ensures in
    let found = (c.receiver.ensures.one (c.requires.closed (get_or c.numbers.result.now old.visited 0) known).1).2 in
    on_ok_both (IsSized net new)
    (walk_in new ≡ list_node net node (record { listed = old.listed.numbers; numbered = old.numbered.numbers; visited = old.visited + 1 }))
    (Walks net new) c.list_node.result c.list_node.ensures.sized c.list_node.ensures.listed
    (λ sized e. goes_to net old new c.requires.walks sized (leads_step net (walk_in old) (walk_in new)
    (visit_step net fit c.requires.closed some old c.requires.walks c.requires.left c.numbers.result.now c.numbers.ensures node found (walk_in new) e)))

pub returns-clause-step : goal.returns-clause-step
returns-clause-step c =
    let net = c.args.net.now in
    let fit : AllByRecursion (IsWired net.wires) net.nodes = subst (λ (d : Circuit). AllByRecursion (IsWired d.wires) d.nodes) c.net.view_is c.net.invariant.fit in
    let some : 0 < length net.nodes = subst (λ (d : Circuit). 0 < length d.nodes) c.net.view_is c.net.invariant.some in
    let known = wire_known net fit c.requires.closed some c.args.self.now c.requires.walks c.requires.left c.numbers.result.now c.numbers.ensures in
    let found = (c.receiver.ensures.one (c.requires.closed (get_or c.numbers.result.now c.args.self.now.visited 0) known).1).2 in
    on_ok_weaker c.list_node.result
    (visit_step net fit c.requires.closed some c.args.self.now c.requires.walks c.requires.left c.numbers.result.now c.numbers.ensures c.receiver.result.0 found
    (walk_in c.list_node.new.self))
    c.list_node.ensures.listed

pub returns-clause-few : goal.returns-clause-few
returns-clause-few c =
    let net = c.args.net.now in
    let fit : AllByRecursion (IsWired net.wires) net.nodes = subst (λ (d : Circuit). AllByRecursion (IsWired d.wires) d.nodes) c.net.view_is c.net.invariant.fit in
    let some : 0 < length net.nodes = subst (λ (d : Circuit). 0 < length d.nodes) c.net.view_is c.net.invariant.some in
    on_ok_weaker c.list_node.result (λ _. visited_few net fit c.requires.closed some c.args.self.now c.requires.walks c.requires.left) c.list_node.ensures.sized
