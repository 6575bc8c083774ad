use Rattle.std.proofs.Common.{map, refl, ap, ◌∙◌}
use Rattle.plain_split.proofs.JoinedSteps.{table_more}
use Rattle.token_split.specs.TokenChart as web
use Rattle.token_split.specs.Mirror.TokenTables.{name_of}
use Rattle.token_split.specs.declared.paths.Part.TheVariants as part
use Rattle.token_split.proofs.listed.joins.Goals as goal

pub loop-burst-preserved : goal.loop-burst-preserved
loop-burst-preserved c =
    ap (map name_of) c.in_ok-push.ensures.items
    ∙ table_more name_of web.Join c.loop-burst.parts.items (part.Join c.loop-burst.burst) c.loop-burst.burst c.loop-burst.invariant refl
