use Rattle.std.proofs.Common.{◌<◌, ◌+◌, length, get_or, arith, refl, false, subst, sym, List}
use Rattle.std.specs.Prelude.{nat_eq}
use Rattle.net_core.specs.declared.table.Ends.{Ends}
use Rattle.net_core.proofs.Counting.{all_at, differs, agrees}
use Rattle.net_core.proofs.Noting.{Noted, noted_all, more_driver, more_receiver}
use Rattle.net_core.proofs.table.note_ports.Goals as goal
use Rattle.net_core.proofs.table.note_ports.Goals.{then-outs-number, else-outs-number}

pub loop-number-preserved : goal.loop-number-preserved
loop-number-preserved c =
    let in_old = all_at (λ w. w < length c.args.ends.now) c.args.wires.now c.loop-number.number c.requires.known c.loop-number-test.true in
    let in_ds : c.loop-number.number < length c.args.outs.now = omega arith in
    let P : List Ends → Type 0 = λ ends. Noted c.args.ends.now ends c.args.node c.args.outs.now c.args.wires.now (c.loop-number.number + 1) in
    elim c.if-outs-number.branch [
      | then-outs-number w ↦ subst P (sym w.ends-is)
          (more_driver c.args.ends.now c.loop-number.ends c.args.node c.args.outs.now c.args.wires.now c.loop-number.number
          (get_or c.args.wires.now c.loop-number.number 0) c.loop-number.invariant in_ds c.loop-number-test.true refl in_old _
          (differs (get_or c.args.outs.now c.loop-number.number false) (nat_eq c.args.node 0) w.if-outs-number.true) w.with-end.ensures refl)
      | else-outs-number w ↦ subst P (sym w.ends-is)
          (more_receiver c.args.ends.now c.loop-number.ends c.args.node c.args.outs.now c.args.wires.now c.loop-number.number
          (get_or c.args.wires.now c.loop-number.number 0) c.loop-number.invariant in_ds c.loop-number-test.true refl in_old _
          (agrees (get_or c.args.outs.now c.loop-number.number false) (nat_eq c.args.node 0) w.if-outs-number.false) w.with-end-else-outs-number.ensures refl)
    ]

pub returns : goal.returns
returns c = noted_all c.args.ends.now c.loop-number.ends c.args.node c.args.outs.now c.args.wires.now c.loop-number.number (omega arith) c.loop-number.invariant
