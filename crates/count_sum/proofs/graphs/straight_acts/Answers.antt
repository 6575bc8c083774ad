use Rattle.std.proofs.Common.{◌≡◌, ℕ, List, length, map, ap, ◌∙◌, arith}
use Rattle.std.specs.List.{range_with_len}
use Rattle.std.proofs.lemmas.List.FromFn.{length-map-range_with_len}
use Rattle.place_graph.specs.Sums.{entries_of}
use Rattle.count_sum.specs.Mirror.Lists.{times, single_acts, straight_by}
use Rattle.count_sum.proofs.ListSteps.{row_more}
use Rattle.count_sum.proofs.GraphCounts.{straight_is}
use Rattle.count_sum.proofs.graphs.straight_acts.Goals as goal

pub is_straight-requires-clause-entries : goal.is_straight-requires-clause-entries
is_straight-requires-clause-entries c =
    let g = c.args.graph.now in
    omega (arith, ap length c.requires, length-map-range_with_len (λ n. length (entries_of g n)) 0 (length g.acts), c.len-act-end.ensures)

pub is_straight-requires-clause-singles : goal.is_straight-requires-clause-singles
is_straight-requires-clause-singles c =
    omega (arith, ap length (c.as_slice-in-loop-act.ensures.value ∙ c.in_ok-singles.ensures), length-map-range_with_len (times c.as_slice-3.result.now) 0 c.len.result, c.len.ensures, c.len-act-end.ensures)

pub loop-act-preserved : goal.loop-act-preserved
loop-act-preserved c =
    let g = c.args.graph.now in
    let i : ℕ = c.loop-act.act in
    c.in_ok-push.ensures.items ∙ row_more (straight_by c.args.entries.now c.in_ok-singles.singles.items g) c.loop-act.straight.items c.is_straight.result i c.loop-act.invariant
    (c.is_straight.ensures ∙ ap (λ (ss : List ℕ). straight_by c.args.entries.now ss g i) c.as_slice-in-loop-act.ensures.value)

pub returns : goal.returns
returns c =
    let g = c.args.graph.now in
    let entries : List ℕ = c.args.entries.now in
    let singles : List ℕ = c.in_ok-singles.singles.items in
    let all : c.loop-act.act ≡ length g.acts = omega (arith, c.len-act-end.ensures) in
    let numbers : c.as_slice-3.result.now ≡ single_acts g.bursts g.crosses = c.as_slice-3.ensures.value ∙ c.in_ok-called.ensures ∙ (λ i. single_acts (c.as_slice.ensures i) (c.as_slice-2.ensures i)) in
    let ones : singles ≡ map (times (single_acts g.bursts g.crosses)) (range_with_len 0 (length g.acts)) =
    c.in_ok-singles.ensures ∙ ap (λ (xs : List ℕ). map (times xs) (range_with_len 0 c.len.result)) numbers
    ∙ ap (λ (n : ℕ). map (times (single_acts g.bursts g.crosses)) (range_with_len 0 n)) c.len.ensures in
    c.loop-act.invariant ∙ ap (λ (n : ℕ). map (straight_by entries singles g) (range_with_len 0 n)) all ∙ straight_is g entries singles c.requires ones
