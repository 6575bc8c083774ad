use Rattle.std.proofs.Common.{◌≡◌, ◌↔◌, List, subst, sym, None}
use Rattle.cmd_tree.specs.declared.tree.Proc.{Proc}
use Rattle.di_grammar.specs.Admitted.{Admitted}
use Rattle.di_grammar.specs.Mirror.Answering.{AreFew}
use Rattle.di_grammar.proofs.Answering.{are_few, answer_none}
use Rattle.di_grammar.proofs.FairnessLaws.{weave_rules}
use Rattle.di_grammar.proofs.answer.check.Goals as goal

pub first_broken-requires : goal.first_broken-requires
first_broken-requires c = subst AreFew (sym c.as_slice.ensures) (are_few c.args.command.now.names c.args.command.now.procs c.args.command.now.valid)

pub returns-clause-none : goal.returns-clause-none
returns-clause-none c = subst (λ (ps : List Proc). (c.first_broken.result ≡ None) ↔ Admitted ps) c.as_slice.ensures (answer_none c.as_slice.result.now c.first_broken.result c.first_broken.ensures)

pub returns-clause-rules : goal.returns-clause-rules
returns-clause-rules c none = weave_rules c.args.command.now.procs c.args.command.now.valid.shaped ((returns-clause-none c).0 none)
