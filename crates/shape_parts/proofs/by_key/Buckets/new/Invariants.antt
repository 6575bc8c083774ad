use Rattle.std.proofs.Common.{◌≡◌, ℕ, ◌<◌, [], length, map, get_or, nat_eq}
use Rattle.std.specs.List.{filter, range_with_len}
use Rattle.shape_parts.specs.Keys.{key_at, rank}
use Rattle.shape_parts.proofs.by_key.Buckets.new.Given as goal

abbrev pub invariant-loop-number : goal.invariant-loop-number
invariant-loop-number l = record {
  many : length l.numbers.items ≡ l.many;
  numbers : (k : ℕ) → k < l.many → get_or l.numbers.items k [] ≡ filter (λ n. nat_eq (key_at l.keys n) k) (range_with_len 0 l.number);
  ranks : l.ranks.items ≡ map (rank l.keys) (range_with_len 0 l.number);
}
