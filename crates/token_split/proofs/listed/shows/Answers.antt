use Rattle.std.proofs.Common.{map, refl, ap, ◌∙◌}
use Rattle.plain_split.proofs.JoinedSteps.{table_more}
use Rattle.token_split.specs.TokenChart as web
use Rattle.token_split.specs.Mirror.TokenTables.{name_of}
use Rattle.token_split.specs.declared.paths.Part.TheVariants as part
use Rattle.token_split.proofs.listed.shows.Goals as goal

pub loop-symbol-preserved : goal.loop-symbol-preserved
loop-symbol-preserved c =
    ap (map name_of) c.in_ok-push.ensures.items
    ∙ table_more name_of web.Shows c.loop-symbol.parts.items (part.Shows c.loop-symbol.symbol) c.loop-symbol.symbol c.loop-symbol.invariant refl
