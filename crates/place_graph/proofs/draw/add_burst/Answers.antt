use Rattle.std.proofs.Common.{◌<◌, length, ◌++◌, ◌∷◌, [], sym, ap, ◌∙◌, subst, arith}
use Rattle.std.specs.List.{AllByRecursion}
use Rattle.cmd_tree.specs.declared.tree.Sym.{Sym}
use Rattle.cmd_tree.specs.declared.limits.TheConstants.{MAX_SYMBOLS}
use Rattle.place_graph.specs.Graph.{same_set, syms, has_sym}
use Rattle.place_graph.proofs.BurstSets.{all_syms, any_agree}
use Rattle.place_graph.proofs.NumberSteps.{new_point, old_point}
use Rattle.place_graph.proofs.draw.add_burst.Goals as goal

pub has-requires-clause-inside : goal.has-requires-clause-inside
has-requires-clause-inside c = omega (arith, c.requires.sized, c.first_sym.ensures.inside c.requires.inside)

pub add-requires-clause-inside : goal.add-requires-clause-inside
add-requires-clause-inside c = subst
    (λ b. AllByRecursion (λ (a : Sym). a.0 < length c.args.bursts.now.numbers.items) b)
    (sym c.in_ok-burst.ensures)
    (subst (λ n. AllByRecursion (λ (a : Sym). a.0 < n) (syms c.args.leg.now.marks)) (sym c.requires.sized)
    (all_syms MAX_SYMBOLS c.args.leg.now.marks c.requires.inside))

pub returns-in_ok-add-clause-bursts : goal.returns-in_ok-add-clause-bursts
returns-in_ok-add-clause-bursts c =
    let bursts = c.args.bursts.now.bursts in
    let burst = syms c.args.leg.now.marks in
    let agree = any_agree (has_sym c.first_sym.result) (same_set burst) bursts
    (c.requires.sets c.first_sym.result c.first_sym.ensures.has) in
    c.in_ok-add.ensures.more ∙ ap (λ b. bursts ++ b ∷ []) c.in_ok-burst.ensures
    ∙ sym (new_point same_set bursts burst (sym agree ∙ sym c.has.ensures ∙ c.if-not-has.true))

pub returns-else-not-has-clause-bursts : goal.returns-else-not-has-clause-bursts
returns-else-not-has-clause-bursts c =
    let bursts = c.args.bursts.now.bursts in
    let burst = syms c.args.leg.now.marks in
    let agree = any_agree (has_sym c.first_sym.result) (same_set burst) bursts
    (c.requires.sets c.first_sym.result c.first_sym.ensures.has) in
    sym (old_point same_set bursts burst (sym agree ∙ sym c.has.ensures ∙ c.if-not-has.false))
