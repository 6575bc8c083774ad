use Rattle.std.proofs.Common.{◌≡◌, ◌+◌, ◌++◌, map, drop}
use Rattle.wait_parts.proofs.nodes.raised.Given as goal

abbrev pub invariant-loop-number : goal.invariant-loop-number
invariant-loop-number l = l.all.items ++ map (λ n. l.more + n) (drop l.number-index l.numbers) ≡ map (λ n. l.more + n) l.numbers
