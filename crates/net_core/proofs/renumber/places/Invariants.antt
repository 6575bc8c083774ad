use Rattle.std.proofs.Common.{◌≡◌, ℕ, ◌<◌, length, get_or}
use Rattle.net_core.proofs.renumber.places.Given as goal

abbrev pub invariant-loop-place : goal.invariant-loop-place
invariant-loop-place l = record {
  sized : length l.table.items ≡ l.bound;
  placed : (k : ℕ) → k < l.place → get_or l.table.items (get_or l.numbers k 0) 0 ≡ k;
}
