use Rattle.std.proofs.Common.{◌≡◌, drop}
use Rattle.cmd_rename.specs.Symbols.{put_each}
use Rattle.cmd_rename.specs.Table.{IsListed}
use Rattle.cmd_expand.proofs.plan.add_symbols.Given as goal

abbrev pub invariant-loop-symbol : goal.invariant-loop-symbol
invariant-loop-symbol l = record {
  listed : IsListed l.listed l.symbols.items;
  whole : put_each l.symbols.items (drop l.symbol-index l.more) ≡ put_each l.initial.symbols.items l.more;
}
