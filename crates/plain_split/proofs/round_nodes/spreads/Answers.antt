use Rattle.std.proofs.Common.{◌≡◌, ◌++◌, ◌∷◌, [], true, false, refl, length, sym, ap, ◌∙◌, arith, ne_eqb, eq-eqb}
use Rattle.plain_split.specs.RoundsChart.{is_single}
use Rattle.plain_split.specs.Mirror.RoundsTables.{parts_by}
use Rattle.plain_split.proofs.RoundsRead.{one_long, single_one_of, outs_row}
use Rattle.plain_split.proofs.RoundsBuilt.{spread_more, spread_left}
use Rattle.plain_split.proofs.round_nodes.spreads.Goals.{then-len-ne1+in_ok-next+in_ok-push, else-len-ne1}
use Rattle.plain_split.proofs.round_nodes.spreads.Goals as goal

pub loop-act-preserved : goal.loop-act-preserved
loop-act-preserved c =
    let r = parts_by c.args.parts.now in
    let y = c.loop-act.act in
    let v = c.index.result.now in
    let row : v.items ≡ r.outs y = outs_row c.args.parts.now c.requires.tabled y v v.items (omega (arith, c.rounds-act-end.ensures)) c.index.ensures refl in
    elim c.if-len-ne1.branch [
      | then-len-ne1+in_ok-next+in_ok-push w ↦
          let more : is_single (r.outs y) ≡ false = ap is_single (sym row) ∙ single_one_of v.items ∙ one_long v.items ∙ ne_eqb (length v.items) 1 (λ e. w.if-len-ne1.true (c.len.ensures ∙ v.ok.0 ∙ e)) in
          ap (λ v. v.items) w.nodes-is ∙ w.in_ok-push.ensures.items ∙ ap (λ n. c.loop-act.nodes.items ++ n ∷ []) w.in_ok-next.ensures
          ∙ spread_more r c.requires.tabled.ready y c.loop-act.nodes.items more c.loop-act.invariant
      | else-len-ne1 w ↦
          let one : is_single (r.outs y) ≡ true = ap is_single (sym row) ∙ single_one_of v.items ∙ one_long v.items ∙ eq-eqb (length v.items) 1 (omega (arith, c.len.ensures, v.ok.0, w.if-len-ne1.false)) in
          ap (λ v. v.items) w.nodes-is ∙ spread_left r c.requires.tabled.ready y c.loop-act.nodes.items one c.loop-act.invariant
    ]
