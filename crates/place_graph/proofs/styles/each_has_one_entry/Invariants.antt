use Rattle.std.proofs.Common.{◌≡◌, ℕ, ◌+◌, nat_eq}
use Rattle.std.specs.List.{list_all, range_with_len}
use Rattle.place_graph.specs.Style.{entries, one_entry_each}
use Rattle.place_graph.proofs.styles.each_has_one_entry.Given as goal

abbrev pub invariant-loop-act : goal.invariant-loop-act
invariant-loop-act l = (left : ℕ) → l.act + left ≡ l.acts
    → list_all (λ a. nat_eq (entries a l.crosses) 1) (range_with_len l.act left) ≡ one_entry_each l.acts
    l.crosses
