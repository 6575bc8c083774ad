use Rattle.std.proofs.Common.{◌≡◌, ℕ, Bool, true, List, length, map, replicate, subst, ap, ◌∙◌}
use Rattle.std.specs.Prelude.{IfOk}
use Rattle.std.specs.List.{range_with_len}
use Rattle.shape_parts.proofs.Keyed.{map_same}
use Rattle.place_graph.specs.declared.wait_graph.Act.{Act}
use Rattle.place_graph.specs.Sums.{givers}
use Rattle.count_sum.specs.Mirror.Lists.{times, given_by}
use Rattle.count_sum.proofs.GraphCounts.{givers_long}
use Rattle.count_sum.proofs.graphs.giver_counts.Goals as goal

pub returns : goal.returns
returns c =
    let g = c.args.graph.now in
    let kept : List Bool = c.as_slice.result.now in
    let all : kept ≡ replicate (length g.acts) true = c.as_slice.ensures.value ∙ c.in_ok-all.ensures ∙ ap (λ (ys : List Act). replicate (length ys) true) c.as_slice-acts.ensures in
    let e = ap (λ (xs : List ℕ). map (times xs) (range_with_len 0 c.args.names)) (c.as_slice-2.ensures.value ∙ c.in_ok-numbers.ensures ∙ ap (given_by kept) c.as_slice-acts.ensures)
    ∙ map_same (times (given_by kept g.acts)) (λ a. length (givers g a)) 0 c.args.names (λ a low high. givers_long g c.requires.once a kept all) in
    subst (λ (xs : List ℕ). IfOk c.tally.result (λ it. it.items ≡ xs)) e c.tally.ensures
