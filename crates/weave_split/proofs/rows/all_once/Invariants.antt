use Rattle.std.proofs.Common.{◌≡◌, [], map, take}
use Rattle.cmd_rename.specs.Symbols.{put_each}
use Rattle.weave_split.proofs.rows.all_once.Given as goal

abbrev pub invariant-loop-row : goal.invariant-loop-row
invariant-loop-row l = map (λ v. v.items) l.all.items ≡ map (put_each []) (map (λ v. v.items) (take l.row-index l.rows))
