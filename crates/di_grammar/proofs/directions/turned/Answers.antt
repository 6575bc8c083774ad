use Rattle.std.proofs.Common.{◌≡◌, List, take, length, ◌+◌, sym, ◌∙◌, ap, subst, arith, length-take, None, Option}
use Rattle.std.proofs.lemmas.List.{take_all, get_or-replicate, length-replicate}
use Rattle.cmd_tree.specs.declared.tree.Proc.{Proc}
use Rattle.di_grammar.specs.declared.spots.Spot.{Spot}
use Rattle.di_grammar.specs.Spots.{spots}
use Rattle.di_grammar.specs.Mirror.Seen.{Knows}
use Rattle.di_grammar.proofs.Seeing.{after_all, after_none, small_spots, nothing_seen}
use Rattle.tree_walk.proofs.Walking.{one_more, places_one}
use Rattle.di_grammar.proofs.directions.turned.Goals as goal

pub loop-index-init : goal.loop-index-init
loop-index-init c = nothing_seen _ (length-replicate {A = Option Spot} 1024 None) (λ a h. get_or-replicate {A = Option Spot} 1024 a None None h)

pub walk-requires : goal.walk-requires
walk-requires c = omega (arith, c.requires.places, places_one c.args.procs.now c.loop-index.index c.index-procs-index.result c.loop-index-test.true c.index-procs-index.is)

pub loop-index-preserved : goal.loop-index-preserved
loop-index-preserved c =
    let procs = c.args.procs.now in
    let index = c.loop-index.index in
    let process = c.index-procs-index.result in
    let number : index + 1 ≡ length (take index procs) + 1 = omega (arith, length-take index procs) in
    let before = subst (λ (ts : List Spot). Knows c.loop-index.directions.first c.loop-index.directions.found ts) (sym (after_none (take index procs))) c.loop-index.invariant in
    subst (λ (ts : List Spot). Knows c.walk.new.visitor.first c.walk.new.visitor.found ts)
    (after_all (take index procs) process ∙ ap spots (one_more procs index process c.loop-index-test.true c.index-procs-index.is))
    (c.walk.ensures.knows (take index procs) number before)

pub returns : goal.returns
returns c =
    let all = subst (λ (ps : List Proc). Knows c.loop-index.directions.first c.loop-index.directions.found (spots ps))
    (take_all c.loop-index.index c.args.procs.now c.loop-index-test.false) c.loop-index.invariant in
    (all (small_spots c.args.procs.now c.requires.small)).turned
