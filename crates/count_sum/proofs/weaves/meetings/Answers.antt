use Rattle.std.proofs.Common.{ℕ, false, map, get_or, ap, ◌∙◌}
use Rattle.count_sum.specs.Mirror.Parts.{counted_of}
use Rattle.count_sum.specs.Mirror.Weaves.{meeting_by}
use Rattle.count_sum.proofs.ListSteps.{table_more}
use Rattle.count_sum.proofs.weaves.meetings.Goals as goal

pub loop-symbol-preserved : goal.loop-symbol-preserved
loop-symbol-preserved c =
    ap (map counted_of) c.in_ok-push.ensures.items
    ∙ table_more counted_of (λ (a : ℕ). meeting_by (get_or c.args.outs.now a false) (get_or c.args.made.now a 0) (get_or c.args.standing.now a 0)) c.loop-symbol.parts.items c.meeting.result c.loop-symbol.symbol
    c.loop-symbol.invariant c.meeting.ensures
