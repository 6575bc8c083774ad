use Rattle.std.proofs.Common.{ℕ, Bool, map, refl, sym, ap, ◌∙◌}
use Rattle.std.specs.Prelude.{not}
use Rattle.weave_split.specs.WeaveChart.{Process}
use Rattle.weave_split.specs.Mirror.TieTables.{ties_by, name_of}
use Rattle.weave_split.specs.declared.paths.Part.TheVariants as part
use Rattle.weave_split.proofs.BuiltSteps.{chosen_more, chosen_less}
use Rattle.weave_split.proofs.listed.processes.Goals.{then-not-is_grant+in_ok-push, else-not-is_grant}
use Rattle.weave_split.proofs.listed.processes.Goals as goal

pub loop-process-preserved : goal.loop-process-preserved
loop-process-preserved c =
    let i = c.loop-process.process in
    let f : ℕ → Bool = λ p. not ((ties_by c.args.tables.now).grants p) in
    elim c.if-not-is_grant.branch [
      | then-not-is_grant+in_ok-push w ↦
          ap (λ v. map name_of v.items) w.parts-is ∙ ap (map name_of) w.in_ok-push.ensures.items
          ∙ chosen_more name_of Process f c.loop-process.parts.items (part.Process i) i c.loop-process.invariant refl (ap not (sym c.is_grant.ensures ∙ w.if-not-is_grant.true))
      | else-not-is_grant w ↦
          ap (λ v. map name_of v.items) w.parts-is ∙ chosen_less Process f (map name_of c.loop-process.parts.items) i c.loop-process.invariant (ap not (sym c.is_grant.ensures ∙ w.if-not-is_grant.false))
    ]
