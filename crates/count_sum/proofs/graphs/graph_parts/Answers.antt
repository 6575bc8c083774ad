use Rattle.std.proofs.Common.{◌≡◌, ℕ, length, map, sym, ap, ◌∙◌}
use Rattle.std.specs.List.{range_with_len}
use Rattle.std.proofs.lemmas.List.FromFn.{length-map-range_with_len}
use Rattle.basic_kinds.specs.Sorts.{Merges}
use Rattle.basic_kinds.specs.Sums.{Wide}
use Rattle.place_graph.specs.Style.{style_of}
use Rattle.place_graph.specs.Sums.{entries_of, givers, all_acts, of_style}
use Rattle.count_sum.specs.Mirror.Parts.{counted_of}
use Rattle.count_sum.specs.Mirror.Lists.{first_by}
use Rattle.count_sum.proofs.ListSteps.{appended}
use Rattle.count_sum.proofs.GraphCounts.{map_twice, first_is}
use Rattle.count_sum.proofs.graphs.graph_parts.Goals as goal

pub style_parts-requires-clause-givers : goal.style_parts-requires-clause-givers
style_parts-requires-clause-givers c =
    let g = c.args.graph.now in
    let f = λ (a : ℕ). length (givers g a) in
    let e : c.as_slice-2.result.now ≡ map f (range_with_len 0 c.args.names) = c.as_slice-2.ensures.value ∙ c.in_ok-givers.ensures in
    e ∙ ap (λ (n : ℕ). map f (range_with_len 0 n)) (sym (ap length e ∙ length-map-range_with_len f 0 c.args.names))

pub returns : goal.returns
returns c =
    let g = c.args.graph.now in
    let f = λ (a : ℕ). length (givers g a) in
    let h = λ (n : ℕ). length (entries_of g n) in
    let e : c.as_slice-2.result.now ≡ map f (range_with_len 0 c.args.names) = c.as_slice-2.ensures.value ∙ c.in_ok-givers.ensures in
    let style = c.in_ok-rest.ensures ∙ ap (of_style (style_of g) g) (ap length e ∙ length-map-range_with_len f 0 c.args.names) in
    let first = c.in_ok-first.ensures ∙ ap (first_by g.start) c.as_slice-3.ensures.value ∙ first_is g c.in_ok-entries.entries.items c.in_ok-entries.ensures in
    let shown = c.in_ok-shows.ensures ∙ ap (map (Wide Merges)) (c.as_slice-4.ensures.value ∙ c.in_ok-givers.ensures) ∙ map_twice (Wide Merges) f (range_with_len 0 c.args.names) in
    let calls = c.in_ok-calls.ensures ∙ ap (map (Wide Merges)) (c.as_slice-5.ensures.value ∙ c.in_ok-entries.ensures) ∙ map_twice (Wide Merges) h (all_acts g) in
    appended counted_of _ _ _ c.in_ok-append-4.ensures.items c.in_ok-parts.ensures
    (appended counted_of _ _ _ c.in_ok-append-3.ensures.items calls
    (appended counted_of _ _ _ c.in_ok-append-2.ensures.items shown (appended counted_of _ _ _ c.in_ok-append.ensures.items first style)))
