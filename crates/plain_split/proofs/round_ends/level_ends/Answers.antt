use Rattle.std.proofs.Common.{◌∙◌}
use Rattle.plain_split.specs.RoundsNet.{leaf, To}
use Rattle.plain_split.specs.Mirror.RoundsTables.{parts_by, end_at}
use Rattle.plain_split.proofs.JoinedSteps.{row_more}
use Rattle.plain_split.proofs.round_ends.level_ends.Goals as goal

pub loop-place-preserved : goal.loop-place-preserved
loop-place-preserved c =
    c.in_ok-push.ensures.items
    ∙ row_more (λ i. end_at (parts_by c.args.parts.now) (To (leaf c.args.depth i))) c.loop-place.ends.items c.place_end.result c.loop-place.place c.loop-place.invariant c.place_end.ensures
