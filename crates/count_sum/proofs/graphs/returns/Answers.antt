use Rattle.std.proofs.Common.{◌≡◌, ℕ, List, map, subst, ap, ◌∙◌}
use Rattle.std.specs.Prelude.{IfOk}
use Rattle.std.specs.List.{range_with_len}
use Rattle.basic_kinds.specs.Sorts.{Merges}
use Rattle.basic_kinds.specs.Sums.{Counted, Wide}
use Rattle.place_graph.specs.declared.wait_graph.Act.{Act}
use Rattle.count_sum.specs.Mirror.Parts.{counted_of}
use Rattle.count_sum.specs.Mirror.Lists.{times, joined, listed}
use Rattle.count_sum.proofs.GraphCounts.{returns_are}
use Rattle.count_sum.proofs.graphs.returns.Goals as goal

pub returns : goal.returns
returns c =
    let n : ℕ = c.args.graph.now.waits in
    let e = c.as_slice-3.ensures.value ∙ c.in_ok-widths.ensures
    ∙ ap (λ (xs : List ℕ). map (times xs) (range_with_len 0 n)) (c.as_slice-2.ensures.value ∙ c.in_ok-waits.ensures ∙ ap (joined (λ (y : Act). listed y.exit)) c.as_slice.ensures) in
    subst (λ (xs : List Counted). IfOk c.wide.result (λ it. map counted_of it.items ≡ xs)) (ap (map (Wide Merges)) e ∙ returns_are c.args.graph.now) c.wide.ensures
