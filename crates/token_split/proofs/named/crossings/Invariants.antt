use Rattle.std.proofs.Common.{◌≡◌, ◌++◌, map, drop}
use Rattle.token_split.specs.TokenChart as web
use Rattle.token_split.specs.Mirror.TokenTables.{wire_of}
use Rattle.token_split.proofs.named.crossings.Given as goal

abbrev pub invariant-loop-cross : goal.invariant-loop-cross
invariant-loop-cross l = map wire_of l.wires.items ++ map web.cross_wire (drop l.cross-index l.crosses) ≡ map web.cross_wire l.crosses
