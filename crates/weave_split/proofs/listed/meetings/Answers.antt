use Rattle.std.proofs.Common.{map, ap, ◌∙◌}
use Rattle.plain_split.proofs.JoinedSteps.{table_more}
use Rattle.weave_split.specs.WeaveChart.{meeting}
use Rattle.weave_split.specs.Mirror.TieTables.{ties_by, name_of}
use Rattle.weave_split.proofs.listed.meetings.Goals as goal

pub loop-symbol-preserved : goal.loop-symbol-preserved
loop-symbol-preserved c =
    ap (map name_of) c.in_ok-push.ensures.items
    ∙ table_more name_of (meeting (ties_by c.args.tables.now)) c.loop-symbol.parts.items c.meeting.result c.loop-symbol.symbol c.loop-symbol.invariant c.meeting.ensures
