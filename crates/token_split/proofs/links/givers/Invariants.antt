use Rattle.std.proofs.Common.{◌≡◌, ℕ, ◌<◌, [], length, map, get_or, filter}
use Rattle.std.specs.List.{range_with_len}
use Rattle.cmd_tree.specs.Lists.{is_in}
use Rattle.token_split.proofs.links.givers.Given as goal

abbrev pub invariant-loop-act : goal.invariant-loop-act
invariant-loop-act l = record {
  many : length l.rows.items ≡ l.names;
  rows : (a : ℕ) → a < l.names → get_or (map (λ v. v.items) l.rows.items) a [] ≡ filter (λ n. is_in a (get_or (map (λ v. v.items) l.outs) n [])) (range_with_len 0 l.act);
}
