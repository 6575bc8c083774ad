use Rattle.std.proofs.Common.{◌∙◌, sym, subst, take, get_or, List, ℕ}
use Rattle.cmd_expand.specs.Mirror.Tables.{Tallies}
use Rattle.std.proofs.lemmas.List.{take_more}
use Rattle.cmd_expand.proofs.Tables.{tallies_push}
use Rattle.cmd_expand.proofs.faults.tally_all.Goals as goal

pub loop-number-preserved : goal.loop-number-preserved
loop-number-preserved c =
    subst (λ (xs : List ℕ). Tallies c.put.new.self xs) (sym (take_more c.args.numbers.now c.loop-number.number-index 0 c.loop-number-test.true))
    (tallies_push c.loop-number.table c.put.new.self (take c.loop-number.number-index c.args.numbers.now) (get_or c.args.numbers.now c.loop-number.number-index 0) c.one_more-found.result
    c.loop-number.invariant (λ n q. c.one_more-found.ensures n (c.get.ensures ∙ q)) c.in_ok-put.ensures.here c.in_ok-put.ensures.others)
