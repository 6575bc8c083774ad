use Rattle.std.proofs.Common.{◌≡◌, ◌∷◌, [], map}
use Rattle.std.specs.List.{range_with_len}
use Rattle.plain_split.specs.SharedPaths.{joined}
use Rattle.token_split.specs.TokenChart as web
use Rattle.token_split.specs.Mirror.TokenTables.{name_of}
use Rattle.token_split.proofs.listed.act_parts.Given as goal

abbrev pub invariant-loop-act : goal.invariant-loop-act
invariant-loop-act l = map name_of l.parts.items ≡ joined (λ n. web.Calls n ∷ web.Gate n ∷ web.Spread n ∷ []) (range_with_len 0 l.act)
