use Rattle.std.proofs.Common.{◌≡◌, ◌++◌, drop}
use Rattle.weave_split.specs.Mirror.TieTables.{chosen}
use Rattle.weave_split.proofs.rows.marked.Given as goal

abbrev pub invariant-loop-number : goal.invariant-loop-number
invariant-loop-number l = l.found.items ++ chosen l.marks l.wanted (drop l.number-index l.numbers) ≡ chosen l.marks l.wanted l.numbers
