use Rattle.std.proofs.Common.{◌≡◌, ◌++◌, map, drop}
use Rattle.plain_split.specs.Mirror.Rows.{back}
use Rattle.plain_split.proofs.rows.back_links.Given as goal

abbrev pub invariant-loop-number : goal.invariant-loop-number
invariant-loop-number l = l.links.items ++ back l.number (map (λ v. v.items) (drop l.number l.rows)) ≡ back 0 (map (λ v. v.items) l.rows)
