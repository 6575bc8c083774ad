use Rattle.std.proofs.Common.{◌≡◌, ◌∙◌, ◌+◌, [], take, sym, subst, arith}
use Rattle.std.proofs.lemmas.List.{take_all}
use Rattle.place_graph.specs.Apart.{HasApart}
use Rattle.place_graph.specs.Points.{legs}
use Rattle.place_graph.proofs.Admission.{aparts}
use Rattle.cmd_machine.specs.Lawful.{Lawful}
use Rattle.cmd_machine.specs.Mirror.Walkers.{StandEach}
use Rattle.cmd_machine.proofs.Lawfulness.{lawful_legs}
use Rattle.cmd_machine.proofs.Noting.{none_stand, each_here, places_here, each_next}
use Rattle.cmd_machine.proofs.walker.positions_of.Goals as goal

pub loop-process-init : goal.loop-process-init
loop-process-init c = none_stand _ c.new-positions.ensures.items

pub new-requires-clause-apart : goal.new-requires-clause-apart
new-requires-clause-apart c =
    let ps = c.args.command.now.procs in
    each_here c.as_slice-process-items.result.now ps c.loop-process.process-index c.process-item.result
    c.as_slice-process-items.ensures c.loop-process-test.true c.process-item.is HasApart
    (aparts ps c.requires c.args.command.now.valid.shaped)

pub new-requires-clause-lawful : goal.new-requires-clause-lawful
new-requires-clause-lawful c =
    let ps = c.args.command.now.procs in
    each_here c.as_slice-process-items.result.now ps c.loop-process.process-index c.process-item.result
    c.as_slice-process-items.ensures c.loop-process-test.true c.process-item.is (λ p. Lawful (legs p))
    (lawful_legs ps c.args.command.now.valid.shaped c.requires)

pub new-requires-clause-few : goal.new-requires-clause-few
new-requires-clause-few c = omega (
  arith,
  places_here c.as_slice-process-items.result.now c.args.command.now.procs c.loop-process.process-index
      c.process-item.result c.as_slice-process-items.ensures c.loop-process-test.true c.process-item.is,
  c.args.command.now.valid.few_places,
)

pub loop-process-preserved : goal.loop-process-preserved
loop-process-preserved c =
    let ps = c.as_slice-process-items.result.now in
    let k = c.loop-process.process-index in
    subst (λ xs. StandEach (take (k + 1) ps) xs []) (sym c.in_ok-push.ensures.items)
    (each_next ps k c.process-item.result c.loop-process.positions.items c.in_ok-position.position c.loop-process-test.true
    c.process-item.is c.loop-process.invariant c.in_ok-position.ensures)

pub returns : goal.returns
returns c =
    let ps = c.as_slice-process-items.result.now in
    let all : take c.loop-process.process-index ps ≡ c.args.command.now.procs =
    take_all c.loop-process.process-index ps c.loop-process-test.false ∙ c.as_slice-process-items.ensures in
    subst (λ xs. StandEach xs c.loop-process.positions.items []) all c.loop-process.invariant
