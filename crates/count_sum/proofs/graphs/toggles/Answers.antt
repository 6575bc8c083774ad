use Rattle.std.proofs.Common.{ℕ, map, refl, ap, ◌∙◌}
use Rattle.basic_kinds.specs.Sorts.{Toggles}
use Rattle.basic_kinds.specs.Sums.{One}
use Rattle.count_sum.specs.declared.counts.Sort.TheVariants as name
use Rattle.count_sum.specs.declared.parts.Part.TheVariants as part
use Rattle.count_sum.specs.Mirror.Parts.{counted_of}
use Rattle.count_sum.proofs.ListSteps.{table_more}
use Rattle.count_sum.proofs.graphs.toggles.Goals as goal

pub loop-preserved : goal.loop-preserved
loop-preserved c =
    ap (map counted_of) c.in_ok-push.ensures.items
    ∙ table_more counted_of (λ (i : ℕ). One Toggles) c.loop.ring.items (part.One name.Toggle) c.loop.counter c.loop.invariant refl
