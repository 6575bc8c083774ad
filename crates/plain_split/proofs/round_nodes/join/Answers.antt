use Rattle.std.proofs.Common.{◌≡◌, ◌++◌, ◌∷◌, [], true, false, refl, length, get_or, ap, ◌∙◌, arith, ne_eqb, eq-eqb}
use Rattle.plain_split.specs.RoundsNet.{To, Top}
use Rattle.plain_split.specs.RoundsChart.{is_single}
use Rattle.plain_split.specs.Mirror.RoundsTables.{parts_by, number_of}
use Rattle.plain_split.proofs.RoundsRead.{one_long, single_one_of}
use Rattle.plain_split.proofs.RoundsTied.{tree_row}
use Rattle.plain_split.proofs.RoundsBuilt.{c_of, join_list, join_none}
use Rattle.plain_split.proofs.round_nodes.join.Goals.{then-len-ne1+in_ok-wires+in_ok-push+in_ok-push-2, else-len-ne1}
use Rattle.plain_split.proofs.round_nodes.join.Goals as goal

pub returns : goal.returns
returns c =
    let r = parts_by c.args.parts.now in
    let burst = c.args.parts.now.burst in
    elim c.if-len-ne1.branch [
      | then-len-ne1+in_ok-wires+in_ok-push+in_ok-push-2 w ↦
          let more : is_single burst.items ≡ false = single_one_of burst.items ∙ one_long burst.items ∙ ne_eqb (length burst.items) 1 (λ e. w.if-len-ne1.true (c.len.ensures ∙ burst.ok.0 ∙ e)) in
          let row = tree_row c.args.parts.now c.requires.tabled c.args.numbers.now c.requires.numbered 0 w.index.result.now w.index.result.now.items (omega arith) w.index.ensures refl in
          let top : w.index-then-len-ne1.result.now ≡ number_of r (To Top) = w.index-then-len-ne1.ensures ∙ ap (λ ns. get_or ns 0 w.index-then-len-ne1.result.now) row in
          let wires = w.in_ok-push.ensures.items ∙ ap (λ ns. ns ++ w.index-then-len-ne1.result.now ∷ []) (w.in_ok-wires.ensures.items ∙ w.as_slice.ensures.value)
          ∙ ap (λ n. burst.items ++ n ∷ []) top in
          ap (λ v. v.items) w.nodes-is ∙ w.in_ok-push-2.ensures.items ∙ ap (λ ns. ns ++ c_of w.len-then-len-ne1.result w.push.new.self.items) c.new-nodes.ensures.items
          ∙ join_list r c.requires.tabled.ready w.len-then-len-ne1.result w.push.new.self.items more (w.len-then-len-ne1.ensures ∙ burst.ok.0) wires
      | else-len-ne1 w ↦
          let one : is_single burst.items ≡ true = single_one_of burst.items ∙ one_long burst.items ∙ eq-eqb (length burst.items) 1 (omega (arith, c.len.ensures, burst.ok.0, w.if-len-ne1.false)) in
          ap (λ v. v.items) w.nodes-is ∙ c.new-nodes.ensures.items ∙ join_none r c.requires.tabled.ready one
    ]
