use Rattle.std.proofs.Common.{map, ap, ◌∙◌}
use Rattle.plain_split.proofs.JoinedSteps.{table_more}
use Rattle.weave_split.specs.WeaveChart.{outer_port}
use Rattle.weave_split.specs.Mirror.TieTables.{ties_by, wire_of}
use Rattle.weave_split.proofs.named.outer_ports.Goals as goal

pub loop-symbol-preserved : goal.loop-symbol-preserved
loop-symbol-preserved c =
    ap (map wire_of) c.in_ok-push.ensures.items
    ∙ table_more wire_of (outer_port (ties_by c.args.tables.now)) c.loop-symbol.wires.items c.outer_port.result c.loop-symbol.symbol c.loop-symbol.invariant c.outer_port.ensures
