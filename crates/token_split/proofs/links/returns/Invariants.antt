use Rattle.std.proofs.Common.{◌≡◌, ℕ, ◌<◌, [], length, map, get_or, filter, None}
use Rattle.std.specs.List.{range_with_len}
use Rattle.cmd_tree.specs.Lists.{is_in}
use Rattle.token_split.specs.TokenChart.{listed}
use Rattle.token_split.proofs.links.returns.Given as goal

abbrev pub invariant-loop-number : goal.invariant-loop-number
invariant-loop-number l = record {
  many : length l.rows.items ≡ l.waits;
  rows : (k : ℕ) → k < l.waits → get_or (map (λ v. v.items) l.rows.items) k [] ≡ filter (λ n. is_in k (listed (get_or (map (λ y. y.exit) l.acts) n None))) (range_with_len 0 l.number);
}
