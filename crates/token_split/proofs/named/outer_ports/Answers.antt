use Rattle.std.proofs.Common.{map, ap, ◌∙◌}
use Rattle.plain_split.proofs.JoinedSteps.{table_more}
use Rattle.token_split.specs.TokenChart.{port}
use Rattle.token_split.specs.Mirror.TokenTables.{links_by, wire_of}
use Rattle.token_split.proofs.named.outer_ports.Goals as goal

pub loop-symbol-preserved : goal.loop-symbol-preserved
loop-symbol-preserved c =
    ap (map wire_of) c.in_ok-push.ensures.items
    ∙ table_more wire_of (port (links_by c.args.tables.now)) c.loop-symbol.wires.items c.port.result c.loop-symbol.symbol c.loop-symbol.invariant c.port.ensures
