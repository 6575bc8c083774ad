use Rattle.std.proofs.Common.{◌<◌, ◌+◌}
use Rattle.di_grammar.specs.declared.answer.Rule.{Rule}
use Rattle.di_grammar.specs.Admitted.{Keeps, number_of}
use Rattle.di_grammar.proofs.answer.first_broken.Given as goal

abbrev pub invariant-loop-rule : goal.invariant-loop-rule
invariant-loop-rule l = (r : Rule) → number_of r < l.rule-index + 1 → Keeps r l.procs
