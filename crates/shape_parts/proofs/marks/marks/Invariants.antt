use Rattle.std.proofs.Common.{◌≡◌, ℕ, ◌<◌, false, length, take, get_or}
use Rattle.shape_parts.specs.Keys.{is_among}
use Rattle.shape_parts.proofs.marks.marks.Given as goal

abbrev pub invariant-loop-number : goal.invariant-loop-number
invariant-loop-number l = record {
  many : length l.marks.items ≡ l.bound;
  marks : (k : ℕ) → k < l.bound → get_or l.marks.items k false ≡ is_among (take l.number-index l.numbers) k;
}
