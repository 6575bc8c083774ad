use Rattle.std.proofs.Common.{◌++◌, ◌∷◌, [], sym, ap, ◌∙◌}
use Rattle.weave_split.specs.Mirror.TieTables.{ties_by}
use Rattle.plain_split.proofs.JoinedSteps.{filter_kept, filter_left}
use Rattle.weave_split.proofs.listed.grants.Goals.{then-is_grant+in_ok-push, else-is_grant}
use Rattle.weave_split.proofs.listed.grants.Goals as goal

pub loop-process-preserved : goal.loop-process-preserved
loop-process-preserved c =
    let i = c.loop-process.process in
    let f = (ties_by c.args.tables.now).grants in
    elim c.if-is_grant.branch [
      | then-is_grant+in_ok-push w ↦
          ap (λ v. v.items) w.grants-is ∙ w.in_ok-push.ensures.items ∙ ap (λ xs. xs ++ i ∷ []) c.loop-process.invariant ∙ filter_kept f i (sym c.is_grant.ensures ∙ w.if-is_grant.true)
      | else-is_grant w ↦ ap (λ v. v.items) w.grants-is ∙ c.loop-process.invariant ∙ filter_left f i (sym c.is_grant.ensures ∙ w.if-is_grant.false)
    ]
