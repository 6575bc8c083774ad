use Rattle.std.proofs.Common.{◌≡◌, ℕ, List, ◌-◌, ◌/◌, ◌++◌, [], subst, sym, ap, ◌∙◌}
use Rattle.basic_kinds.specs.ShapeParts.{half, first_rows, last_rows, met, outer}
use Rattle.shape_parts.proofs.Layered.{AreColumns, columns_within, first_columns, last_columns, half_is}
use Rattle.shape_parts.proofs.layers.Layer.new.Goals as goal

pub push_met-requires : goal.push_met-requires
push_met-requires c =
    let h : ℕ = c.args.rows - c.args.rows / 2 in
    subst (AreColumns c.args.cols) (sym (c.as_slice.ensures ∙ c.in_ok-first.ensures)) (first_columns h c.args.cols c.args.cross.now (columns_within c.args.rows c.args.cols c.args.cross.now c.requires))

pub push_met-requires-2 : goal.push_met-requires-2
push_met-requires-2 c =
    let h : ℕ = c.args.rows - c.args.rows / 2 in
    subst (AreColumns c.args.cols) (sym (c.as_slice-2.ensures ∙ c.in_ok-last.ensures)) (last_columns h c.args.cols c.args.cross.now (columns_within c.args.rows c.args.cols c.args.cross.now c.requires))

pub returns : goal.returns
returns c =
    let cross : List (ℕ × ℕ) = c.args.cross.now in
    let cols : ℕ = c.args.cols in
    let h : ℕ = c.args.rows - c.args.rows / 2 in
    let none : List (ℕ × ℕ) = [] in
    let is : h ≡ half c.args.rows = half_is c.args.rows in
    let first = c.in_ok-first.ensures ∙ ap (λ (n : ℕ). first_rows n cross) is in
    let last = c.in_ok-last.ensures ∙ ap (λ (n : ℕ). last_rows n cross) is in
    let met_0 = c.in_ok-push_met.ensures ∙ ap (λ ps. ps ++ met 0 cols c.as_slice.result.now) c.new-outer.ensures ∙ ap (λ ps. none ++ met 0 cols ps) (c.as_slice.ensures ∙ c.in_ok-first.ensures) in
    let both : c.push_met-2.new.outer ≡ outer h cols cross =
    c.in_ok-push_met-2.ensures ∙ ap (λ ps. ps ++ met 1 cols c.as_slice-2.result.now) met_0 ∙ ap (λ ps. met 0 cols (first_rows h cross) ++ met 1 cols ps) (c.as_slice-2.ensures ∙ c.in_ok-last.ensures) in
    let all = both ∙ ap (λ (n : ℕ). outer n cols cross) is in
    λ i. record { half = is i; outer = all i; first = first i; last = last i }
