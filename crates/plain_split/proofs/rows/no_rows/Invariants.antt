use Rattle.std.proofs.Common.{◌≡◌, ◌-◌, ◌≤◌, [], map, replicate, vec_len}
use Rattle.plain_split.proofs.rows.no_rows.Given as goal

abbrev pub invariant-loop-alloc : goal.invariant-loop-alloc
invariant-loop-alloc g l = record {
  few : vec_len l.rows ≤ l.many;
  rows : map (λ v. v.items) l.rows.items ≡ replicate (vec_len l.rows) [];
}

abbrev pub decreases-loop-alloc : goal.decreases-loop-alloc
decreases-loop-alloc g l = l.many - vec_len l.rows
