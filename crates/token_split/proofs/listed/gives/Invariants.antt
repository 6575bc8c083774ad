use Rattle.std.proofs.Common.{◌≡◌, map, filter}
use Rattle.std.specs.List.{range_with_len}
use Rattle.token_split.specs.TokenChart as web
use Rattle.token_split.specs.Mirror.TokenTables.{links_by, wire_of}
use Rattle.token_split.proofs.listed.gives.Given as goal

abbrev pub invariant-loop-symbol : goal.invariant-loop-symbol
invariant-loop-symbol l = map wire_of l.wires.items ≡ map web.Give (filter (web.is_given (links_by l.tables)) (range_with_len 0 l.symbol))
