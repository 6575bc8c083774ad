use Rattle.std.proofs.Common.{map, refl, sym, ap, ◌∙◌}
use Rattle.weave_split.specs.WeaveChart.{Give}
use Rattle.weave_split.specs.Mirror.TieTables.{ties_by, wire_of}
use Rattle.weave_split.specs.declared.paths.Wire.TheVariants as wire
use Rattle.weave_split.proofs.BuiltSteps.{chosen_more, chosen_less}
use Rattle.weave_split.proofs.listed.gives.Goals.{then-is_out+in_ok-push, else-is_out}
use Rattle.weave_split.proofs.listed.gives.Goals as goal

pub loop-symbol-preserved : goal.loop-symbol-preserved
loop-symbol-preserved c =
    let i = c.loop-symbol.symbol in
    let f = (ties_by c.args.tables.now).out in
    elim c.if-is_out.branch [
      | then-is_out+in_ok-push w ↦
          ap (λ v. map wire_of v.items) w.wires-is ∙ ap (map wire_of) w.in_ok-push.ensures.items
          ∙ chosen_more wire_of Give f c.loop-symbol.wires.items (wire.Give i) i c.loop-symbol.invariant refl (sym c.is_out.ensures ∙ w.if-is_out.true)
      | else-is_out w ↦ ap (λ v. map wire_of v.items) w.wires-is ∙ chosen_less Give f (map wire_of c.loop-symbol.wires.items) i c.loop-symbol.invariant (sym c.is_out.ensures ∙ w.if-is_out.false)
    ]
