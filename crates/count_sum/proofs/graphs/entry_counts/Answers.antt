use Rattle.std.proofs.Common.{◌≡◌, ℕ, List, map, subst, ap, ◌∙◌}
use Rattle.std.specs.Prelude.{IfOk}
use Rattle.std.specs.List.{range_with_len}
use Rattle.place_graph.specs.declared.wait_graph.Cross.{Cross}
use Rattle.count_sum.specs.Mirror.Lists.{times}
use Rattle.count_sum.proofs.GraphCounts.{entries_are}
use Rattle.count_sum.proofs.graphs.entry_counts.Goals as goal

pub returns : goal.returns
returns c =
    let e = ap (λ (xs : List ℕ). map (times xs) (range_with_len 0 c.len.result)) (c.as_slice-2.ensures.value ∙ c.in_ok-acts.ensures ∙ ap (map (λ (x : Cross). x.act)) c.as_slice.ensures)
    ∙ ap (λ (n : ℕ). map (times (map (λ (x : Cross). x.act) c.args.graph.now.crosses)) (range_with_len 0 n)) c.len.ensures in
    subst (λ (xs : List ℕ). IfOk c.tally.result (λ it. it.items ≡ xs)) (e ∙ entries_are c.args.graph.now) c.tally.ensures
