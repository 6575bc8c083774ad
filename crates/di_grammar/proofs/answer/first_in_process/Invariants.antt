use Rattle.di_grammar.proofs.Answering.{CleanBelow}
use Rattle.di_grammar.specs.Admitted.{BreaksLocally}
use Rattle.di_grammar.proofs.answer.first_in_process.Given as goal

abbrev pub invariant-loop-index : goal.invariant-loop-index
invariant-loop-index l = CleanBelow (BreaksLocally l.rule) l.procs l.index
