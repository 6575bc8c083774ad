use Rattle.std.proofs.Common.{◌≡◌, ℕ, List, length, map, subst, ap, ◌∙◌}
use Rattle.std.specs.Prelude.{IfOk}
use Rattle.basic_kinds.specs.ShapeParts.{part_names}
use Rattle.basic_kinds.specs.Sums.{Counted, Wait}
use Rattle.shape_parts.specs.declared.cut.ShapePart.{ShapePart}
use Rattle.shape_parts.specs.Cut.{part_of, parts_of}
use Rattle.place_graph.specs.Sums.{pairs}
use Rattle.count_sum.specs.Mirror.Parts.{counted_of}
use Rattle.count_sum.proofs.GraphCounts.{map_twice}
use Rattle.count_sum.proofs.graphs.meetings.Goals as goal

pub returns : goal.returns
returns c =
    let g = c.args.graph.now in
    let f = λ (p : ShapePart). Wait (length p.rows) (length p.columns) p.cross in
    let e = c.as_slice-2.ensures.value ∙ c.in_ok-found.ensures ∙ ap (λ (n : ℕ). parts_of g.waits n c.as_slice.result.now) c.len.ensures
    ∙ ap (parts_of g.waits (length g.bursts)) (c.as_slice.ensures.value ∙ c.in_ok-pairs.ensures) in
    subst (λ (xs : List Counted). IfOk c.waits_of.result (λ it. map counted_of it.items ≡ xs))
    (ap (map f) e ∙ map_twice f (part_of g.waits (length g.bursts) (pairs g)) (part_names g.waits (pairs g))) c.waits_of.ensures
