use Rattle.std.proofs.Common.{sym, ◌∙◌}
use Rattle.std.proofs.lemmas.Slice.Eq.{slice_eq-Decides, bytes_eq-Decides}
use Rattle.cmd_tree.proofs.same.same_names.Goals as goal

pub returns : goal.returns
returns c =
    let told = slice_eq-Decides bytes_eq-Decides c.as_slice.result.now c.as_slice-2.result.now c.eq.result c.eq.ensures in (
      λ h. sym c.as_slice.ensures ∙ told.0 h ∙ c.as_slice-2.ensures,
      λ h. told.1 (c.as_slice.ensures ∙ h ∙ sym c.as_slice-2.ensures),
    )
