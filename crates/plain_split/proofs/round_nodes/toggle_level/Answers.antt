use Rattle.std.proofs.Common.{ap, ◌∙◌}
use Rattle.plain_split.specs.Mirror.RoundsTables.{toggle_of}
use Rattle.plain_split.proofs.JoinedSteps.{row_more}
use Rattle.plain_split.proofs.RoundsBuilt.{toggle_node}
use Rattle.plain_split.proofs.round_nodes.toggle_level.Goals as goal

pub loop-place-preserved : goal.loop-place-preserved
loop-place-preserved c =
    c.in_ok-push.ensures.items
    ∙ row_more (toggle_of c.args.upper.now c.args.lower.now) c.loop-place.nodes.items (toggle_node c.in_ok-wires.wires.items) c.loop-place.place c.loop-place.invariant (ap toggle_node c.in_ok-wires.ensures.items)
