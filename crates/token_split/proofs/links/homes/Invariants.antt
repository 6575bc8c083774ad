use Rattle.std.proofs.Common.{◌≡◌, ℕ, ◌+◌, ◌-◌, ◌<◌, length, map, get_or, drop}
use Rattle.std.specs.List.{position_or_len}
use Rattle.cmd_tree.specs.Lists.{is_in}
use Rattle.token_split.proofs.links.homes.Given as goal

abbrev pub invariant-loop-count : goal.invariant-loop-count
invariant-loop-count l = record {
  many : length l.homes.items ≡ l.names;
  homes : (a : ℕ) → a < l.names → get_or l.homes.items a 0 ≡ (length l.bursts - l.count) + position_or_len (is_in a) (drop (length l.bursts - l.count) (map (λ v. v.items) l.bursts));
}
