use Rattle.std.proofs.Common.{◌≡◌, map}
use Rattle.std.specs.List.{range_with_len}
use Rattle.token_split.specs.TokenChart as web
use Rattle.token_split.specs.Mirror.TokenTables.{name_of}
use Rattle.token_split.proofs.listed.shows.Given as goal

abbrev pub invariant-loop-symbol : goal.invariant-loop-symbol
invariant-loop-symbol l = map name_of l.parts.items ≡ map web.Shows (range_with_len 0 l.symbol)
