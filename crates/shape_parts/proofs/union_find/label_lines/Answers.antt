use Rattle.std.proofs.Common.{ℕ, ◌+◌, length, map, ap, ◌∙◌}
use Rattle.std.specs.List.{range_with_len}
use Rattle.std.proofs.lemmas.List.FromFn.{length-range_with_len}
use Rattle.basic_kinds.specs.ShapeParts.{label}
use Rattle.shape_parts.proofs.union_find.label_lines.Goals as goal

pub returns : goal.returns
returns c =
    let n : ℕ = c.args.rows + c.args.cols in
    c.flatten.ensures _ c.join_all.ensures.leads
    ∙ ap (λ (k : ℕ). map (label c.args.rows c.args.cross.now) (range_with_len 0 k)) (c.join_all.auto.up ∙ ap length c.requires.alone ∙ length-range_with_len 0 n)
