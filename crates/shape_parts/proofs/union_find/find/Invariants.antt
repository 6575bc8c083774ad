use Rattle.std.proofs.Common.{◌≡◌, ℕ, ◌<◌, length}
use Rattle.shape_parts.specs.Mirror.Links.{IsFalling, Leads}
use Rattle.shape_parts.proofs.union_find.find.Given as goal

abbrev pub invariant-loop-up : goal.invariant-loop-up
invariant-loop-up l = record {
  inside : l.at < length l.up;
  falling : IsFalling l.up;
  leads : (f : ℕ → ℕ) → Leads f l.initial.up → Leads f l.up × (f l.at ≡ f l.line);
}

abbrev pub decreases-loop-up : goal.decreases-loop-up
decreases-loop-up l = l.at
