use Rattle.std.proofs.Common.{◌∙◌, arith}
use Rattle.plain_split.specs.Mirror.RoundsTables.{parts_by}
use Rattle.plain_split.proofs.RoundsDeal.{pow_some}
use Rattle.plain_split.proofs.RoundsBlocks.{begin_is, begin_few}
use Rattle.plain_split.proofs.round_numbers.begin_number.Goals as goal

pub go_end-requires-clause-known : goal.go_end-requires-clause-known
go_end-requires-clause-known c = pow_some c.args.parts.now.levels

pub pick-requires : goal.pick-requires
pick-requires c = omega (arith, c.requires.next, begin_few (parts_by c.args.parts.now) c.requires.tabled.ready, c.requires.tabled.ready.few_wires)

pub returns-then-parts-clause-number : goal.returns-then-parts-clause-number
returns-then-parts-clause-number c = λ opens.
    c.pick.ensures.number ∙ (begin_is (parts_by c.args.parts.now) c.requires.tabled.ready c.args.next.now c.go_end.result opens c.requires.next c.go_end.ensures).0

pub returns-then-parts-clause-next : goal.returns-then-parts-clause-next
returns-then-parts-clause-next c =
    c.pick.ensures.next ∙ (begin_is (parts_by c.args.parts.now) c.requires.tabled.ready c.args.next.now c.go_end.result c.if-parts.true c.requires.next c.go_end.ensures).1
