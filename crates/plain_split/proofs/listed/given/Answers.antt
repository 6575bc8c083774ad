use Rattle.std.proofs.Common.{◌++◌, ◌∷◌, [], sym, ap, ◌∙◌}
use Rattle.plain_split.specs.OneWait.{is_given}
use Rattle.plain_split.specs.Mirror.OneWaitTables.{links_by}
use Rattle.plain_split.proofs.JoinedSteps.{filter_kept, filter_left}
use Rattle.plain_split.proofs.listed.given.Goals.{then-is_given+in_ok-push, else-is_given}
use Rattle.plain_split.proofs.listed.given.Goals as goal

pub loop-symbol-preserved : goal.loop-symbol-preserved
loop-symbol-preserved c =
    let i = c.loop-symbol.symbol in
    elim c.if-is_given.branch [
      | then-is_given+in_ok-push w ↦ ap (λ v. v.items) w.symbols-is ∙ w.in_ok-push.ensures.items ∙ ap (λ xs. xs ++ i ∷ []) c.loop-symbol.invariant
          ∙ filter_kept (is_given (links_by c.args.tables.now)) i (sym c.is_given.ensures ∙ w.if-is_given.true)
      | else-is_given w ↦ ap (λ v. v.items) w.symbols-is ∙ c.loop-symbol.invariant ∙ filter_left (is_given (links_by c.args.tables.now)) i (sym c.is_given.ensures ∙ w.if-is_given.false)
    ]
