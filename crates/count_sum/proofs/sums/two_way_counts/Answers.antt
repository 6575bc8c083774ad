use Rattle.std.proofs.Common.{List, [], ◌∷◌, map}
use Rattle.std.specs.List.{AllByRecursion}
use Rattle.count_sum.specs.declared.parts.Part.{Part}
use Rattle.count_sum.specs.Mirror.Parts.{counted_of}
use Rattle.count_sum.specs.Mirror.Waits.{IsCountable}
use Rattle.count_sum.proofs.WaitSteps.{all_read}
use Rattle.count_sum.proofs.sums.two_way_counts.Goals as goal

unmapped : (ps : List Part) → AllByRecursion IsCountable (map counted_of ps) → AllByRecursion (λ p. IsCountable (counted_of p)) ps
unmapped [] h = tt
unmapped (p ∷ ps) h = (h.0, unmapped ps h.1)

pub add_two_way-requires-clause-countable : goal.add_two_way-requires-clause-countable
add_two_way-requires-clause-countable c =
    all_read (λ (p : Part). IsCountable (counted_of p)) c.args.parts.now c.loop-part.part-index c.part-item.result (unmapped c.args.parts.now c.requires.countable) c.loop-part-test.true c.part-item.is
