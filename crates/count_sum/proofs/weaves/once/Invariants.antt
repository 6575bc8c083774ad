use Rattle.std.proofs.Common.{◌≡◌, [], drop}
use Rattle.cmd_rename.specs.Symbols.{put_each}
use Rattle.cmd_rename.specs.Table.{IsListed}
use Rattle.count_sum.proofs.weaves.once.Given as goal

abbrev pub invariant-loop-number : goal.invariant-loop-number
invariant-loop-number l = record {
  found : put_each l.found.items (drop l.number-index l.numbers) ≡ put_each [] l.numbers;
  listed : IsListed l.listed l.found.items;
}
