use Rattle.std.proofs.Common.{◌<◌, [], map, length, get_or, ◌∙◌, sym, ap, subst}
use Rattle.cmd_rename.specs.Renaming.{ren_all}
use Rattle.cmd_rename.specs.Table.{number_by}
use Rattle.cmd_expand.specs.declared.plan.Part.{Part}
use Rattle.cmd_expand.specs.Pairs.{renamed}
use Rattle.cmd_expand.specs.Mirror.Plan.{procs_of_part, IsBelow}
use Rattle.cmd_expand.proofs.Shapes.{use_unfolded}
use Rattle.cmd_expand.proofs.unfolding.piece_of.Goals as goal

pub returns-in_ok-numbers-in-Use-clause-piece : goal.returns-in_ok-numbers-in-Use-clause-piece
returns-in_ok-numbers-in-Use-clause-piece c = λ ms a.
    let of = c.in-Use.of in
    let pairs = c.as_slice.result.now in
    let line = c.index-lines-of.result in
    let g = number_by c.args.tables.now.symbols in
    let inside : c.in-Use.of < length c.args.lines.now = subst (λ (p : Part). IsBelow (length c.args.lines.now) p) c.in-Use.is c.requires.part in
    use_unfolded ms c.args.lines.now of line (renamed pairs) g c.in_ok-numbers-in-Use.numbers.items a inside c.index-lines-of.is
    (c.in_ok-numbers-in-Use.ensures pairs c.in_ok-set_pairs-in-Use.ensures ∙ ap (map (λ x. g (renamed pairs x))) c.as_slice-in-Use.ensures.value)
    ∙ ap (λ u. ren_all g (ren_all (renamed u) (get_or ms of []))) c.as_slice.ensures.value ∙ ap (λ u. ren_all g (procs_of_part ms u)) (sym c.in-Use.is)
