use Rattle.std.proofs.Common.{◌≡◌, List, subst, ap, ◌∙◌, arith, length}
use Rattle.std.specs.Prelude.{IfOk}
use Rattle.std.proofs.lemmas.List.FromFn.{length-map-range_with_len}
use Rattle.shape_parts.specs.Keys.{is_among}
use Rattle.shape_parts.proofs.Layered.{columns_low, met_marked}
use Rattle.shape_parts.proofs.layers.met_columns.Goals as goal

pub marks-requires : goal.marks-requires
marks-requires c = columns_low c.args.cols c.args.group.now c.as_slice.result.now (c.as_slice.ensures.value ∙ c.in_ok-crossed.ensures) c.requires

pub marked-requires : goal.marked-requires
marked-requires c = omega (arith, ap length c.as_slice-2.ensures.value, ap length c.in_ok-marks.ensures, length-map-range_with_len (is_among c.as_slice.result.now) 0 c.args.cols)

pub returns : goal.returns
returns c = subst (λ (xs : List _). IfOk c.marked.result (λ it. it.items ≡ xs))
    (met_marked c.args.cols c.args.group.now c.as_slice.result.now c.as_slice-2.result.now (c.as_slice.ensures.value ∙ c.in_ok-crossed.ensures) (c.as_slice-2.ensures.value ∙ c.in_ok-marks.ensures)) c.marked.ensures
