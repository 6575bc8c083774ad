use Rattle.std.proofs.Common.{◌≡◌, ℕ, ◌+◌, ◌≤◌}
use Rattle.plain_split.specs.RoundsNet.{pow}
use Rattle.plain_split.proofs.round_parts.halvings.Given as goal

abbrev pub invariant-loop-rest : goal.invariant-loop-rest
invariant-loop-rest l = record {
  few : l.count + l.rest ≤ l.power;
  power : (e : ℕ) → l.power ≡ pow e → (f : ℕ) × (e ≡ l.count + f) × (l.rest ≡ pow f);
}

abbrev pub decreases-loop-rest : goal.decreases-loop-rest
decreases-loop-rest l = l.rest
