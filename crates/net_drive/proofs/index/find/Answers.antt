use Rattle.std.proofs.Common.{◌<◌, ◌/◌, length, refl, arith}
use Rattle.net_drive.proofs.SumTrees.{at_root, go_left, go_right, at_leaf, node_some, node_less, node_past}
use Rattle.net_drive.proofs.index.find.Goals as goal

pub loop-node-init : goal.loop-node-init
loop-node-init c = λ height bits t less. at_root height c.args.sums.now bits t c.args.before less

pub loop-node-preserved-then-left-sums : goal.loop-node-preserved-then-left-sums
loop-node-preserved-then-left-sums c = λ height bits t less.
    let l = c.loop-node in
    go_right height c.args.sums.now bits t l.node l.left c.args.before (l.invariant height bits t less) _ refl
    (node_less height c.args.sums.now bits t l.node c.loop-node-test.true) c.if-left-sums.true

pub loop-node-preserved : goal.loop-node-preserved
loop-node-preserved c = λ height bits t less.
    let l = c.loop-node in
    go_left height c.args.sums.now bits t l.node l.left c.args.before (l.invariant height bits t less) _ refl
    (node_less height c.args.sums.now bits t l.node c.loop-node-test.true) (omega (arith, c.if-left-sums.false))

pub loop-node-smaller : goal.loop-node-smaller
loop-node-smaller c =
    let l = c.loop-node in
    let r = c.requires in
    let some = node_some r.0 c.args.sums.now r.1 r.2 l.node l.left c.args.before (l.invariant r.0 r.1 r.2 r.3) in
    let less : l.node < length c.args.sums.now / 2 = c.loop-node-test.true in
    omega (arith, some, less)

pub returns : goal.returns
returns c = λ height bits t less.
    let l = c.loop-node in
    node_past height c.args.sums.now bits t l.node c.args.before
    (at_leaf height c.args.sums.now bits t l.node l.left c.args.before (l.invariant height bits t less)) c.loop-node-test.false
