use Rattle.std.proofs.Common.{◌≡◌, ◌++◌, ◌∷◌, [], refl, length, ap, ◌∙◌, arith}
use Rattle.plain_split.specs.RoundsNet.{pow, leaf, burst_before, To}
use Rattle.plain_split.specs.Mirror.RoundsTables.{parts_by, number_of}
use Rattle.plain_split.proofs.RoundsDeal.{pow_some}
use Rattle.plain_split.proofs.RoundsTied.{tree_long, tree_row}
use Rattle.plain_split.proofs.RoundsBuilt.{iwire_of, gate_list, gate_none, level_long, level_read}
use Rattle.plain_split.proofs.round_nodes.gate.Goals.{then-parts+in_ok-wires+in_ok-push, else-parts}
use Rattle.plain_split.proofs.round_nodes.gate.Goals as goal

pub index-requires : goal.index-requires
index-requires c = omega (arith, tree_long c.args.parts.now c.requires.tabled c.args.numbers.now c.requires.numbered, c.args.numbers.now.tree.ok.0)

pub round_before-requires-clause-known : goal.round_before-requires-clause-known
round_before-requires-clause-known c = pow_some c.args.parts.now.levels

pub index-entry-requires : goal.index-entry-requires
index-entry-requires c =
    let row = tree_row c.args.parts.now c.requires.tabled c.args.numbers.now c.requires.numbered c.args.parts.now.levels c.index.result.now c.index.result.now.items (omega arith) c.index.ensures refl in
    omega (arith, ap length row, level_long (parts_by c.args.parts.now) c.requires.tabled.ready c.args.parts.now.levels, c.index.result.now.ok.0, c.round_before.ensures.low)

pub returns : goal.returns
returns c =
    let r = parts_by c.args.parts.now in
    let levels = c.args.parts.now.levels in
    elim c.if-parts.branch [
      | then-parts+in_ok-wires+in_ok-push w ↦
          let row = tree_row c.args.parts.now c.requires.tabled c.args.numbers.now c.requires.numbered levels w.index.result.now w.index.result.now.items (omega arith) w.index.ensures refl in
          let entry : w.index-entry.result.now ≡ number_of r (To (leaf levels (burst_before c.args.parts.now.opens (pow levels) 0))) =
          w.index-entry.ensures ∙ level_read r c.requires.tabled.ready levels w.round_before.result w.index-entry.result.now w.index.result.now.items row w.round_before.ensures.low
          ∙ ap (λ i. number_of r (To (leaf levels i))) w.round_before.ensures.round in
          let wires = w.in_ok-wires.ensures.items ∙ ap (λ n. n ∷ c.args.numbers.now.begin ∷ []) entry
          ∙ ap (λ n. number_of r (To (leaf levels (burst_before c.args.parts.now.opens (pow levels) 0))) ∷ n ∷ []) (c.requires.numbered.begin w.if-parts.true) in
          ap (λ v. v.items) w.nodes-is ∙ w.in_ok-push.ensures.items ∙ ap (λ ns. ns ++ iwire_of w.in_ok-wires.wires.items) c.new-nodes.ensures.items
          ∙ gate_list r c.requires.tabled.ready w.in_ok-wires.wires.items w.if-parts.true wires
      | else-parts w ↦ ap (λ v. v.items) w.nodes-is ∙ c.new-nodes.ensures.items ∙ gate_none r c.requires.tabled.ready w.if-parts.false
    ]
