use Rattle.std.proofs.Common.{◌≡◌, ℕ, Bool, List, length, map, subst, ap, ◌∙◌, arith}
use Rattle.std.specs.Prelude.{IfOk}
use Rattle.std.specs.List.{range_with_len}
use Rattle.std.proofs.lemmas.List.FromFn.{length-map-range_with_len}
use Rattle.basic_kinds.specs.Sums.{Counted}
use Rattle.place_graph.specs.Sums.{is_straight}
use Rattle.count_sum.specs.Mirror.Parts.{counted_of}
use Rattle.count_sum.specs.Mirror.Lists.{times, given_by}
use Rattle.count_sum.proofs.GraphCounts.{directs_are}
use Rattle.count_sum.proofs.graphs.straight_wires.Goals as goal

pub given-requires : goal.given-requires
given-requires c =
    let g = c.args.graph.now in
    omega (arith, ap length (c.as_slice-2.ensures.value ∙ c.in_ok-kept.ensures), length-map-range_with_len (is_straight g) 0 (length g.acts), ap length c.as_slice.ensures)

pub returns : goal.returns
returns c =
    let g = c.args.graph.now in
    let gs : List ℕ = c.args.givers.now in
    let ss : List ℕ = c.as_slice-4.result.now in
    let kept : List Bool = c.as_slice-2.result.now in
    let s : ss ≡ map (times (given_by kept g.acts)) (range_with_len 0 (length gs)) =
    c.as_slice-4.ensures.value ∙ c.in_ok-straights.ensures
    ∙ ap (λ (xs : List ℕ). map (times xs) (range_with_len 0 (length gs))) (c.as_slice-3.ensures.value ∙ c.in_ok-numbers.ensures ∙ ap (given_by kept) c.as_slice.ensures) in
    subst (λ (xs : List Counted). IfOk c.directs.result (λ it. map counted_of it.items ≡ xs))
    (directs_are g (length gs) gs ss kept c.requires.readable.once (c.as_slice-2.ensures.value ∙ c.in_ok-kept.ensures) c.requires.givers s) c.directs.ensures
