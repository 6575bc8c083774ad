use Rattle.std.proofs.Common.{◌<◌, length, ap, subst, arith, below_more}
use Rattle.std.specs.List.{AllByRecursion}
use Rattle.net_core.specs.Wiring.{Circuit, IsWired}
use Rattle.net_core.specs.Mirror.WalkStates.{walk_in}
use Rattle.net_core.proofs.WalkSteps.{next_other, leads_keeps}
use Rattle.net_core.proofs.WalkStates.{walk_whole}
use Rattle.net_core.proofs.walk.WalkState.go_on_at_all.Goals as goal

pub go_on_at-requires-clause-next : goal.go_on_at-requires-clause-next
go_on_at-requires-clause-next c = λ new.
    let inside : c.loop-number.number < length c.args.net.now.nodes = omega (arith, c.loop-number-test.true, c.len-number-end.ensures, ap (λ (d : Circuit). length d.nodes) c.net.view_is) in
    next_other c.args.net.now c.loop-number.self.listed.numbers c.loop-number.invariant.sources c.loop-number.number inside c.loop-number.invariant.below new

pub loop-number-preserved : goal.loop-number-preserved
loop-number-preserved c =
    let stays = leads_keeps c.args.net.now (walk_in c.loop-number.self) (walk_in c.go_on_at.new.self) c.in_ok-go_on_at.ensures.leads in
    record {
      walks = c.in_ok-go_on_at.ensures.walks;
      visited = c.in_ok-go_on_at.ensures.visited;
      sources = λ n h source. stays n (c.loop-number.invariant.sources n h source);
      below = below_more _ _ (λ k h. stays k (c.loop-number.invariant.below k h)) c.in_ok-go_on_at.ensures.listed;
    }

pub returns : goal.returns
returns c =
    let net = c.args.net.now in
    let fit : AllByRecursion (IsWired net.wires) net.nodes = subst (λ (d : Circuit). AllByRecursion (IsWired d.wires) d.nodes) c.net.view_is c.net.invariant.fit in
    let some : 0 < length net.nodes = subst (λ (d : Circuit). 0 < length d.nodes) c.net.view_is c.net.invariant.some in
    walk_whole net fit c.requires.closed some c.loop-number.self c.loop-number.invariant.walks c.loop-number.invariant.visited c.loop-number.invariant.sources
    (λ k h. c.loop-number.invariant.below k (omega (arith, c.loop-number-test.false, c.len-number-end.ensures, ap (λ (d : Circuit). length d.nodes) c.net.view_is)))
