use Rattle.std.proofs.Common.{map, refl, ap, ◌∙◌}
use Rattle.plain_split.specs.OneWait as web
use Rattle.plain_split.specs.Mirror.OneWaitTables.{name_of}
use Rattle.plain_split.specs.declared.paths.Part.TheVariants as part
use Rattle.plain_split.proofs.JoinedSteps.{table_more}
use Rattle.plain_split.proofs.listed.joins.Goals as goal

pub loop-burst-preserved : goal.loop-burst-preserved
loop-burst-preserved c =
    ap (map name_of) c.in_ok-push.ensures.items
    ∙ table_more name_of web.Join c.loop-burst.parts.items (part.Join c.loop-burst.burst) c.loop-burst.burst c.loop-burst.invariant refl
