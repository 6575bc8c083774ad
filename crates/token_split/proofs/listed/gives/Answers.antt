use Rattle.std.proofs.Common.{◌++◌, ◌∷◌, [], map, filter, sym, ap, ◌∙◌}
use Rattle.std.specs.List.{range_with_len}
use Rattle.std.proofs.lemmas.List.{map_push}
use Rattle.plain_split.proofs.JoinedSteps.{filter_kept, filter_left}
use Rattle.plain_split.specs.OneWait.{is_some}
use Rattle.token_split.specs.TokenChart.{Give, is_given}
use Rattle.token_split.specs.Mirror.TokenTables.{links_by, wire_of}
use Rattle.token_split.specs.declared.paths.Wire.TheVariants as wire
use Rattle.token_split.proofs.listed.gives.Goals.{then-some+in_ok-push, else-some}
use Rattle.token_split.proofs.listed.gives.Goals as goal

pub loop-symbol-preserved : goal.loop-symbol-preserved
loop-symbol-preserved c =
    let i = c.loop-symbol.symbol in
    let f = is_given (links_by c.args.tables.now) in
    let same = c.some.ensures ∙ ap is_some c.givers.ensures in
    elim c.if-some.branch [
      | then-some+in_ok-push w ↦
          ap (λ v. map wire_of v.items) w.wires-is ∙ ap (map wire_of) w.in_ok-push.ensures.items ∙ map_push wire_of c.loop-symbol.wires.items (wire.Give i)
          ∙ ap (λ ws. ws ++ Give i ∷ []) c.loop-symbol.invariant ∙ sym (map_push Give (filter f (range_with_len 0 i)) i) ∙ ap (map Give) (filter_kept f i (sym same ∙ w.if-some.true))
      | else-some w ↦ ap (λ v. map wire_of v.items) w.wires-is ∙ c.loop-symbol.invariant ∙ ap (map Give) (filter_left f i (sym same ∙ w.if-some.false))
    ]
