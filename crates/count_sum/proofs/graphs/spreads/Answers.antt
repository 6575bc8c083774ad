use Rattle.std.proofs.Common.{◌≡◌, List, length, map, subst, ap, ◌∙◌}
use Rattle.std.specs.Prelude.{IfOk}
use Rattle.basic_kinds.specs.Sorts.{Forks}
use Rattle.basic_kinds.specs.Sums.{Counted, Wide}
use Rattle.place_graph.specs.declared.wait_graph.Act.{Act}
use Rattle.count_sum.specs.Mirror.Parts.{counted_of}
use Rattle.count_sum.proofs.GraphCounts.{spreads_are}
use Rattle.count_sum.proofs.graphs.spreads.Goals as goal

pub returns : goal.returns
returns c =
    let e = c.as_slice-2.ensures.value ∙ c.in_ok-widths.ensures ∙ ap (map (λ (y : Act). length y.outs)) c.as_slice.ensures in
    subst (λ (xs : List Counted). IfOk c.wide.result (λ it. map counted_of it.items ≡ xs)) (ap (map (Wide Forks)) e ∙ spreads_are c.args.graph.now) c.wide.ensures
