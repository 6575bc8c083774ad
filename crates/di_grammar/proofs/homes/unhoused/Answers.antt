use Rattle.std.proofs.Common.{◌≡◌, ◌+◌, List, take, length, subst, arith, length-take}
use Rattle.std.proofs.lemmas.List.{take_all}
use Rattle.cmd_tree.specs.declared.tree.Proc.{Proc}
use Rattle.di_grammar.specs.Breaches.{FirstOf}
use Rattle.di_grammar.specs.Mirror.Homes.{BreaksAmong}
use Rattle.di_grammar.specs.Mirror.Lesser.{earlier_of}
use Rattle.di_grammar.proofs.HousingGifts.{among_more}
use Rattle.di_grammar.proofs.HousingFirsts.{first_homes}
use Rattle.tree_walk.proofs.Walking.{one_more, places_one}
use Rattle.di_grammar.proofs.homes.unhoused.Goals as goal

pub of_process-requires : goal.of_process-requires
of_process-requires c = omega (arith, c.requires.places, places_one c.args.procs.now c.loop-index.index c.index-procs-index.result c.loop-index-test.true c.index-procs-index.is)

pub loop-index-preserved : goal.loop-index-preserved
loop-index-preserved c =
    let procs = c.args.procs.now in
    let index = c.loop-index.index in
    let number : index + 1 ≡ length (take index procs) + 1 = omega (arith, length-take index procs) in
    rw c.earlier_of-found.ensures (subst (λ (ps : List Proc). FirstOf (BreaksAmong procs 1 ps) (earlier_of c.loop-index.found c.of_process.result))
    (one_more procs index c.index-procs-index.result c.loop-index-test.true c.index-procs-index.is)
    (among_more procs (index + 1) (take index procs) c.index-procs-index.result _ _ number c.loop-index.invariant
    (c.of_process.ensures procs c.requires.small c.homes_of-homes.ensures)))

pub returns : goal.returns
returns c = first_homes c.args.procs.now c.loop-index.found c.requires.directions c.requires.granted
    (subst (λ (ps : List Proc). FirstOf (BreaksAmong c.args.procs.now 1 ps) c.loop-index.found) (take_all c.loop-index.index c.args.procs.now c.loop-index-test.false)
    c.loop-index.invariant)
