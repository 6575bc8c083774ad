use Rattle.std.proofs.Common.{arith}
use Rattle.std.proofs.lemmas.List.{drop_all}
use Rattle.net_text.proofs.Walks.{walk_next, walk_end}
use Rattle.net_text.proofs.ports.print_burst_ports.Goals as goal

pub loop-mark-preserved : goal.loop-mark-preserved
loop-mark-preserved g c =
    walk_next c.args.names.now _ _ _ c.args.marks.now c.loop-mark.mark-index _ c.loop-mark-test.true
    c.print_mark_port-met.ensures c.loop-mark.invariant

pub returns : goal.returns
returns g c =
    walk_end c.args.names.now _ _ _ (drop_all c.loop-mark.mark-index c.args.marks.now (omega arith))
    c.loop-mark.invariant
