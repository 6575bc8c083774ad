use Rattle.std.proofs.Common.{◌≡◌, ℕ, ◌+◌, ◌<◌, ◌≤◌, length, get_or, drop}
use Rattle.count_sum.specs.Mirror.Lists.{times}
use Rattle.count_sum.proofs.tally.tally.Given as goal

abbrev pub invariant-loop-number : goal.invariant-loop-number
invariant-loop-number l = record {
  many : length l.counts.items ≡ l.many;
  low : (k : ℕ) → k < l.many → get_or l.counts.items k 0 ≤ l.number-index;
  counts : (k : ℕ) → k < l.many → get_or l.counts.items k 0 + times (drop l.number-index l.numbers) k ≡ times l.numbers k;
}
