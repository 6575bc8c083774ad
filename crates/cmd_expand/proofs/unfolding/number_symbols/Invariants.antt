use Rattle.std.proofs.Common.{◌≡◌, ℕ, drop, ◌≤◌, length}
use Rattle.cmd_rename.specs.Table.{number_by}
use Rattle.cmd_expand.specs.Mirror.Plan.{assigned}
use Rattle.cmd_expand.proofs.unfolding.number_symbols.Given as goal

abbrev pub invariant-loop-left : goal.invariant-loop-left
invariant-loop-left l = record {
  few : l.left ≤ length l.symbols;
  few_numbers : l.left ≤ length l.numbers;
  numbers : (a : ℕ) → number_by l.table a ≡ assigned (drop l.left l.symbols) (drop l.left l.numbers) a;
}

abbrev pub decreases-loop-left : goal.decreases-loop-left
decreases-loop-left l = l.left
