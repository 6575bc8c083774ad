use Rattle.std.proofs.Common.{◌≡◌, [], map, drop, replicate}
use Rattle.plain_split.specs.Mirror.Rows.{with_links}
use Rattle.plain_split.proofs.rows.rows_of.Given as goal

abbrev pub invariant-loop-link : goal.invariant-loop-link
invariant-loop-link l = with_links (drop l.link-index l.links) (map (λ v. v.items) l.rows.items) ≡ with_links l.links (replicate l.many [])
