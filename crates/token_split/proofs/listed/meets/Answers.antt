use Rattle.std.proofs.Common.{map, refl, ap, ◌∙◌}
use Rattle.plain_split.proofs.JoinedSteps.{table_more}
use Rattle.token_split.specs.TokenChart as web
use Rattle.token_split.specs.Mirror.TokenTables.{name_of}
use Rattle.token_split.specs.declared.paths.Part.TheVariants as part
use Rattle.token_split.proofs.listed.meets.Goals as goal

pub loop-part-preserved : goal.loop-part-preserved
loop-part-preserved c =
    ap (map name_of) c.in_ok-push.ensures.items
    ∙ table_more name_of web.Meet c.loop-part.parts.items (part.Meet c.loop-part.part) c.loop-part.part c.loop-part.invariant refl
