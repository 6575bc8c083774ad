use Rattle.std.proofs.Common.{◌≡◌, map, take}
use Rattle.weave_split.specs.Mirror.TieTables.{chosen}
use Rattle.weave_split.proofs.rows.all_marked.Given as goal

abbrev pub invariant-loop-row : goal.invariant-loop-row
invariant-loop-row l = map (λ v. v.items) l.all.items ≡ map (chosen l.marks l.wanted) (map (λ v. v.items) (take l.row-index l.rows))
