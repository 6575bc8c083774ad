use Rattle.std.proofs.Common.{◌≡◌, drop, []}
use Rattle.cmd_rename.specs.Symbols.{put_each}
use Rattle.cmd_rename.specs.Table.{IsListed}
use Rattle.cmd_alone.proofs.single.each_once.Given as goal

abbrev pub invariant-loop-symbol : goal.invariant-loop-symbol
invariant-loop-symbol l = record {
  listed : IsListed l.listed l.symbols.items;
  whole : put_each l.symbols.items (drop l.symbol-index l.places) ≡ put_each [] l.places;
}
