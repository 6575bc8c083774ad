use Rattle.std.proofs.Common.{◌≡◌, [], map, replicate}
use Rattle.weave_split.proofs.rows.no_rows.Given as goal

abbrev pub invariant-loop : goal.invariant-loop
invariant-loop l = map (λ v. v.items) l.rows.items ≡ replicate l.counter []
