use Rattle.std.proofs.Common.{◌≡◌, ◌<◌, ◌∷◌, ◌++◌, [], List, length, get_or, sym, ap, ◌∙◌, subst, arith, length-append}
use Rattle.basic_kinds.specs.declared.machine.Machine.{Machine}
use Rattle.net_core.specs.Wiring.{Node, Circuit}
use Rattle.replay.specs.Mirror.Boards.{AreMachines}
use Rattle.replay.proofs.Making.{machines_more}
use Rattle.replay.proofs.board.machines_of.Goals as goal

pub loop-index-preserved : goal.loop-index-preserved
loop-index-preserved c =
    let net = c.args.net.now in
    let x = c.index.result.now in
    let i = c.loop-index.index in
    let items : c.push.new.self.items ≡ c.loop-index.machines.items ++ c.in_ok-machine.machine ∷ [] = c.in_ok-push.ensures.items in
    let nodes : c.net.inside.nodes.items ≡ net.nodes = ap (λ (d : Circuit). d.nodes) c.net.view_is in
    let is : x ≡ get_or net.nodes i x = c.index.ensures ∙ ap (λ (xs : List Node). get_or xs i x) nodes in
    let less : i < length net.nodes = omega (arith, ap (λ (xs : List Node). length xs) nodes, c.loop-index-test.true, c.len-index-end.ensures, c.net.inside.nodes.ok.0) in
    record {
      many = omega (arith, ap (λ (xs : List Machine). length xs) items, length-append c.loop-index.machines.items (c.in_ok-machine.machine ∷ []), c.loop-index.invariant.many);
      each = subst (λ (xs : List Machine). AreMachines net xs (λ _. [])) (sym items)
          (machines_more net c.loop-index.machines.items c.in_ok-machine.machine i x c.loop-index.invariant.each c.loop-index.invariant.many less is
          c.in_ok-machine.ensures.kind c.in_ok-machine.ensures.stands);
    }
