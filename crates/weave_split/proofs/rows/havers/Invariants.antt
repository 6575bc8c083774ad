use Rattle.std.proofs.Common.{◌≡◌, ℕ, ◌<◌, [], length, map, get_or, filter}
use Rattle.std.specs.List.{range_with_len}
use Rattle.cmd_tree.specs.Lists.{is_in}
use Rattle.weave_split.proofs.rows.havers.Given as goal

abbrev pub invariant-loop-haver : goal.invariant-loop-haver
invariant-loop-haver l = record {
  many : length l.all.items ≡ l.names;
  rows : (a : ℕ) → a < l.names → get_or (map (λ v. v.items) l.all.items) a [] ≡ filter (λ n. is_in a (get_or (map (λ v. v.items) l.rows) n [])) (range_with_len 0 l.haver);
}
