use Rattle.std.proofs.Common.{◌≡◌, ◌∷◌, [], map}
use Rattle.std.specs.List.{range_with_len}
use Rattle.plain_split.specs.SharedPaths.{joined}
use Rattle.token_split.specs.TokenChart as web
use Rattle.token_split.specs.Mirror.TokenTables.{name_of}
use Rattle.token_split.proofs.listed.wait_parts.Given as goal

abbrev pub invariant-loop-wait : goal.invariant-loop-wait
invariant-loop-wait l = map name_of l.parts.items ≡ joined (λ w. web.Returns w ∷ web.Entry w ∷ []) (range_with_len 0 l.wait)
