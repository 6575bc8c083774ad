use Rattle.std.proofs.Common.{◌≡◌, ℕ, ◌<◌, get_or}
use Rattle.shape_parts.specs.Mirror.Links.{IsFalling, Leads}
use Rattle.shape_parts.proofs.union_find.flatten.Given as goal

abbrev pub invariant-loop-line : goal.invariant-loop-line
invariant-loop-line l = record {
  falling : IsFalling l.up;
  leads : (f : ℕ → ℕ) → Leads f l.initial.up → Leads f l.up × ((k : ℕ) → k < l.line → get_or l.up k 0 ≡ f k);
}
