use Rattle.std.proofs.Common.{◌≡◌, ◌↔◌, ℕ, cond, Some, subst}
use Rattle.std.specs.List.{Contains}
use Rattle.std.specs.Str.{bytes_eq}
use Rattle.indexmap.specs.IndexMap.{get}
use Rattle.trace_laws.specs.Mirror.Followers.{RowHas}
use Rattle.trace_laws.proofs.Following.{added}
use Rattle.trace_laws.proofs.followers.add.Goals as goal

pub returns : goal.returns
returns c = added (get bytes_eq c.args.rows.now) (get bytes_eq c.swap_remove-found.new.self) (get bytes_eq c.insert.new.self) c.args.front
    c.in_ok-row.row c.args.last c.swap_remove-found.ensures.updates.0
    (subst (λ o. (b : ℕ) → Contains c.in_ok-row.row b ↔ RowHas o b) c.swap_remove-found.ensures.value c.in_ok-row.ensures)
    (λ q. subst (λ v. get bytes_eq c.insert.new.self q ≡ cond (bytes_eq c.args.front q) (Some v) (get bytes_eq c.swap_remove-found.new.self q))
    c.in_ok-push.ensures (c.in_ok-insert.ensures.updates.0 q))
