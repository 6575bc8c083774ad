use Rattle.std.proofs.Common.{◌≡◌, ◌++◌, drop}
use Rattle.plain_split.specs.Mirror.Rows.{back_from}
use Rattle.plain_split.proofs.rows.push_back.Given as goal

abbrev pub invariant-loop-from : goal.invariant-loop-from
invariant-loop-from l = l.links.items ++ back_from l.number (drop l.from-index l.row) ≡ l.initial.links.items ++ back_from l.number l.row
