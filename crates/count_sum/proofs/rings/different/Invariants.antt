use Rattle.std.proofs.Common.{◌≡◌, ◌-◌, ◌≤◌, length, drop}
use Rattle.cmd_rename.specs.Table.{IsListed}
use Rattle.di_grammar.specs.Sums.{each_once}
use Rattle.count_sum.proofs.rings.different.Given as goal

abbrev pub invariant-loop-index : goal.invariant-loop-index
invariant-loop-index l = record {
  count : l.count ≡ length (each_once (drop (length l.numbers - l.index) l.numbers));
  few : l.count ≤ l.index;
  listed : IsListed l.listed (drop (length l.numbers - l.index) l.numbers);
}
