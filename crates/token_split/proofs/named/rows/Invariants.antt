use Rattle.std.proofs.Common.{◌≡◌, ◌++◌, map, drop}
use Rattle.token_split.specs.TokenChart as web
use Rattle.token_split.specs.Mirror.TokenTables.{wire_of}
use Rattle.token_split.proofs.named.rows.Given as goal

abbrev pub invariant-loop-wait : goal.invariant-loop-wait
invariant-loop-wait l = map wire_of l.wires.items ++ map web.Row (drop l.wait-index l.waits) ≡ map web.Row l.waits
