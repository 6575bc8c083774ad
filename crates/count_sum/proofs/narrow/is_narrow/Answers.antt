use Rattle.std.proofs.Common.{sym, ap, ◌∙◌}
use Rattle.std.specs.List.{list_all}
use Rattle.std.proofs.lemmas.List.Folds.{list_all-map}
use Rattle.count_sum.specs.Narrow.{is_narrow}
use Rattle.count_sum.specs.Mirror.Parts.{counted_of}
use Rattle.count_sum.specs.declared.parts.Part.{Part}
use Rattle.count_sum.proofs.narrow.is_narrow.Goals as goal

pub returns : goal.returns
returns c =
    c.are_narrow.ensures ∙ ap (list_all (λ (p : Part). is_narrow (counted_of p))) c.as_slice.ensures.value ∙ sym (list_all-map is_narrow counted_of c.in_ok-parts.parts.items)
    ∙ ap (list_all is_narrow) c.in_ok-parts.ensures
