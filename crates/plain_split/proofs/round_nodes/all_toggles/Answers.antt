use Rattle.std.proofs.Common.{◌≡◌, ◌+◌, ◌++◌, suc, ap, length, ◌∙◌, arith}
use Rattle.plain_split.specs.RoundsNet.{pow}
use Rattle.plain_split.specs.Mirror.RoundsTables.{parts_by, level_numbers}
use Rattle.plain_split.proofs.RoundsTied.{tree_long, tree_row}
use Rattle.plain_split.proofs.RoundsBuilt.{level_long, toggles_more}
use Rattle.plain_split.proofs.round_nodes.all_toggles.Goals as goal

pub index-requires : goal.index-requires
index-requires c = omega (arith, tree_long c.args.parts.now c.requires.tabled c.args.numbers.now c.requires.numbered, c.args.numbers.now.tree.ok.0)

pub index-requires-in-loop-depth : goal.index-requires-in-loop-depth
index-requires-in-loop-depth c = omega (arith, tree_long c.args.parts.now c.requires.tabled c.args.numbers.now c.requires.numbered, c.args.numbers.now.tree.ok.0)

pub toggle_level-requires : goal.toggle_level-requires
toggle_level-requires c =
    let d = c.loop-depth.depth in
    let r = parts_by c.args.parts.now in
    let upper = tree_row c.args.parts.now c.requires.tabled c.args.numbers.now c.requires.numbered d c.index.result.now c.as_slice-upper.result.now (omega arith) c.index.ensures c.as_slice-upper.ensures.value in
    let lower = tree_row c.args.parts.now c.requires.tabled c.args.numbers.now c.requires.numbered (d + 1) c.index-in-loop-depth.result.now c.as_slice-lower.result.now (omega arith) c.index-in-loop-depth.ensures
    c.as_slice-lower.ensures.value in
    let next : d + 1 ≡ suc d = omega arith in
    omega (arith, ap length upper, ap length lower, level_long r c.requires.tabled.ready d, level_long r c.requires.tabled.ready (d + 1), ap pow next)

pub loop-depth-preserved : goal.loop-depth-preserved
loop-depth-preserved c =
    let d = c.loop-depth.depth in
    let r = parts_by c.args.parts.now in
    let next : d + 1 ≡ suc d = omega arith in
    let upper = tree_row c.args.parts.now c.requires.tabled c.args.numbers.now c.requires.numbered d c.index.result.now c.as_slice-upper.result.now (omega arith) c.index.ensures c.as_slice-upper.ensures.value in
    let lower = tree_row c.args.parts.now c.requires.tabled c.args.numbers.now c.requires.numbered (d + 1) c.index-in-loop-depth.result.now c.as_slice-lower.result.now (omega arith) c.index-in-loop-depth.ensures
    c.as_slice-lower.ensures.value in
    c.in_ok-append.ensures.items ∙ ap (λ ns. c.loop-depth.nodes.items ++ ns) c.in_ok-toggle_level.ensures
    ∙ toggles_more r c.requires.tabled.ready d (d + 1) c.as_slice-upper.result.now c.as_slice-lower.result.now c.loop-depth.nodes.items next upper (lower ∙ ap (level_numbers r) next) c.loop-depth.invariant
