use Rattle.std.proofs.Common.{◌≡◌, map, take}
use Rattle.weave_split.specs.Mirror.TieTables.{begins}
use Rattle.weave_split.proofs.rows.all_begin.Given as goal

abbrev pub invariant-loop-row : goal.invariant-loop-row
invariant-loop-row l = l.all.items ≡ map (begins l.marks) (map (λ v. v.items) (take l.row-index l.rows))
