use Rattle.std.proofs.Common.{◌≡◌, ◌++◌, map, drop}
use Rattle.plain_split.specs.Mirror.Rows.{first_or}
use Rattle.plain_split.proofs.rows.firsts.Given as goal

abbrev pub invariant-loop-row : goal.invariant-loop-row
invariant-loop-row l = l.all.items ++ map (first_or l.none) (map (λ v. v.items) (drop l.row-index l.rows)) ≡ map (first_or l.none) (map (λ v. v.items) l.rows)
