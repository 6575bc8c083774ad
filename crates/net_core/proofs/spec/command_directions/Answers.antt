use Rattle.std.proofs.Common.{rules, ◌≡◌, ◌∷◌, [], ◌++◌, ◌+◌, Bool, List, length, get_or, subst, sym, ap, ◌∙◌, refl}
use Rattle.cmd_tree.specs.Marks.{is_output}
use Rattle.net_core.proofs.FirstMarks.{Directed, old_mark, new_mark, tells_output, no_mark}
use Rattle.net_core.proofs.spec.command_directions.Goals as goal
use Rattle.net_core.proofs.spec.command_directions.Goals.{then-mark-len+in_ok-push, else-mark-len}

pub loop-mark-preserved : goal.loop-mark-preserved
loop-mark-preserved c =
    let ms = c.deref-mark-items.result.now in
    let n = length c.args.command.now.names in
    let m = get_or ms c.loop-mark.mark-index no_mark in
    let P : List Bool → Type 0 = λ outs. Directed ms n outs (c.loop-mark.mark-index + 1) in
    elim c.if-mark-len.branch [
      | then-mark-len+in_ok-push w ↦
          let outs-are : c.if-mark-len.outs.items ≡ c.loop-mark.outs.items ++ is_output m.dir ∷ [] =
          ap (λ v. v.items) w.outs-is ∙ w.in_ok-push.ensures.items
          ∙ ap (λ (b : Bool). c.loop-mark.outs.items ++ b ∷ []) (w.eq.ensures ∙ tells_output m.dir) in
          subst P (sym outs-are)
          (new_mark ms n c.loop-mark.outs.items c.loop-mark.mark-index c.loop-mark.invariant c.loop-mark-test.true m refl (search rules))
      | else-mark-len w ↦
          let outs-are : c.if-mark-len.outs.items ≡ c.loop-mark.outs.items = ap (λ v. v.items) w.outs-is in
          subst P (sym outs-are)
          (old_mark ms n c.loop-mark.outs.items c.loop-mark.mark-index c.loop-mark.invariant c.loop-mark-test.true m refl (search rules))
    ]
