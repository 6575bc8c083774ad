use Rattle.std.proofs.Common.{◌≡◌, ℕ, ◌<◌, [], length, map, get_or, take, filter, nat_eq}
use Rattle.token_split.proofs.links.entries.Given as goal

abbrev pub invariant-loop-cross : goal.invariant-loop-cross
invariant-loop-cross l = record {
  many : length l.rows.items ≡ l.acts;
  rows : (k : ℕ) → k < l.acts → get_or (map (λ v. v.items) l.rows.items) k [] ≡ filter (λ c. nat_eq c.act k) (take l.cross-index l.crosses);
}
