use Rattle.std.proofs.Common.{◌≡◌, map}
use Rattle.std.specs.List.{range_with_len}
use Rattle.plain_split.specs.OneWait as web
use Rattle.plain_split.specs.Mirror.OneWaitTables.{name_of}
use Rattle.plain_split.proofs.listed.shows.Given as goal

abbrev pub invariant-loop-symbol : goal.invariant-loop-symbol
invariant-loop-symbol l = map name_of l.parts.items ≡ map web.Shows (range_with_len 0 l.symbol)
