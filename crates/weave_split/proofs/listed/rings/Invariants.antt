use Rattle.std.proofs.Common.{◌≡◌, ◌++◌, ◌∷◌, [], map, drop}
use Rattle.plain_split.specs.SharedPaths.{joined}
use Rattle.weave_split.specs.WeaveChart as web
use Rattle.weave_split.specs.Mirror.TieTables.{name_of}
use Rattle.weave_split.proofs.listed.rings.Given as goal

abbrev pub invariant-loop-grant : goal.invariant-loop-grant
invariant-loop-grant l =
    map name_of l.parts.items ++ joined (λ p. web.Returns p ∷ web.Gate p ∷ web.Sequencer p ∷ []) (drop l.grant-index l.grants)
    ≡ joined (λ p. web.Returns p ∷ web.Gate p ∷ web.Sequencer p ∷ []) l.grants
