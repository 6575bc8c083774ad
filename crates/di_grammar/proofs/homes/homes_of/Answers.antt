use Rattle.std.proofs.Common.{◌≡◌, ◌+◌, Bool, false, take, length, subst, arith, length-take, None, Option}
use Rattle.std.proofs.lemmas.List.{take_all, get_or-replicate, length-replicate}
use Rattle.di_grammar.specs.declared.spots.Spot.{Spot}
use Rattle.di_grammar.specs.Mirror.Homes.{KnowsKinds}
use Rattle.di_grammar.proofs.HousingKinds.{nothing_known}
use Rattle.tree_walk.proofs.Walking.{one_more, places_one}
use Rattle.di_grammar.proofs.homes.homes_of.Goals as goal

pub loop-index-init : goal.loop-index-init
loop-index-init c =
    let few = length-replicate {A = Option Spot} 1024 None in
    nothing_known _ _ _ few (λ a h. get_or-replicate {A = Option Spot} 1024 a None None h) few (λ a h. get_or-replicate {A = Option Spot} 1024 a None None h)
    (length-replicate {A = Bool} 1024 false) (λ a h. get_or-replicate {A = Bool} 1024 a false false h)

pub see-requires : goal.see-requires
see-requires c = omega (arith, c.requires.places, places_one c.args.procs.now c.loop-index.index c.index-procs-index.result c.loop-index-test.true c.index-procs-index.is)

pub loop-index-preserved : goal.loop-index-preserved
loop-index-preserved c =
    let procs = c.args.procs.now in
    let index = c.loop-index.index in
    let number : index + 1 ≡ length (take index procs) + 1 = omega (arith, length-take index procs) in
    subst (KnowsKinds c.see.new.self.grants.first c.see.new.self.grants.second c.see.new.self.others.stands)
    (one_more procs index c.index-procs-index.result c.loop-index-test.true c.index-procs-index.is)
    (c.see.ensures (take index procs) number c.loop-index.invariant)

pub returns : goal.returns
returns c = subst (KnowsKinds c.loop-index.homes.grants.first c.loop-index.homes.grants.second c.loop-index.homes.others.stands)
    (take_all c.loop-index.index c.args.procs.now c.loop-index-test.false) c.loop-index.invariant
