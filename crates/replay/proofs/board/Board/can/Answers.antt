use Rattle.std.proofs.Common.{List, ap, ◌∙◌, ◌-◌}
use Rattle.std.specs.Prelude.{slice_get}
use Rattle.basic_kinds.specs.declared.machine.Machine.{Machine}
use Rattle.replay.proofs.Boarding.{environment_can, component_can}
use Rattle.replay.proofs.board.Board.can.Goals as goal

pub returns-then-node-eq0 : goal.returns-then-node-eq0
returns-then-node-eq0 c = λ k s stands less.
    environment_can k c.args.self.now s stands c.args.node c.args.port c.can.result c.if-node-eq0.true c.can.ensures

pub returns-else-node-eq0 : goal.returns-else-node-eq0
returns-else-node-eq0 c = λ k s stands less.
    component_can k c.args.self.now s stands c.args.node c.args.port c.can_at.result c.if-node-eq0.false less
    (λ m t at. c.can_at.ensures m t (ap (λ (xs : List Machine). slice_get xs (c.args.node - 1)) c.deref.ensures.value ∙ at))
