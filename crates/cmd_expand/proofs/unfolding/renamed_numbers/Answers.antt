use Rattle.std.proofs.Common.{◌++◌, ◌∷◌, [], map, ◌∙◌, sym, ap}
use Rattle.std.proofs.lemmas.List.{take_all}
use Rattle.cmd_rename.specs.Table.{number_by}
use Rattle.cmd_expand.specs.Pairs.{renamed}
use Rattle.cmd_expand.proofs.Shapes.{map_more}
use Rattle.cmd_expand.proofs.unfolding.renamed_numbers.Goals as goal

pub loop-symbol-preserved : goal.loop-symbol-preserved
loop-symbol-preserved c = λ pairs h.
    c.in_ok-push.ensures.items
    ∙ (λ k. c.loop-symbol.invariant pairs h k ++ (c.number_of.ensures ∙ ap (number_by c.args.numbers.now) (c.rename_symbol.ensures pairs h)) k ∷ [])
    ∙ sym (map_more (λ a. number_by c.args.numbers.now (renamed pairs a)) c.args.symbols.now c.loop-symbol.symbol-index 0 c.loop-symbol-test.true)

pub returns : goal.returns
returns c = λ pairs h. c.loop-symbol.invariant pairs h ∙ ap (map (λ a. number_by c.args.numbers.now (renamed pairs a))) (take_all c.loop-symbol.symbol-index c.args.symbols.now c.loop-symbol-test.false)
