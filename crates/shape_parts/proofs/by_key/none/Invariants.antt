use Rattle.std.proofs.Common.{◌≡◌, [], replicate}
use Rattle.shape_parts.proofs.by_key.none.Given as goal

abbrev pub invariant-loop : goal.invariant-loop
invariant-loop l = l.buckets.items ≡ replicate l.counter []
