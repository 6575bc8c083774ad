use Rattle.std.proofs.Common.{refl}
use Rattle.cmd_machine.proofs.Noting.{rows_of, note_step}
use Rattle.cmd_machine.proofs.users.note.Goals as goal

pub loop-symbol-preserved : goal.loop-symbol-preserved
loop-symbol-preserved c = λ below. note_step (rows_of c.args.users.now.items) c.loop-symbol.users.items
    c.grow.new.users.items _ c.index_mut.result.now c.add.new.row c.args.symbols.now c.loop-symbol.symbol-index _
    c.args.process below c.loop-symbol-test.true refl (c.loop-symbol.invariant below) c.in_ok-grow.ensures.same
    c.in_ok-grow.ensures.room c.index_mut.ensures.value refl c.in_ok-add.ensures.twice c.in_ok-add.ensures.once
