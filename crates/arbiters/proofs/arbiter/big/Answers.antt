use Rattle.std.proofs.Common.{◌∙◌, ap, sym, subst, length}
use Rattle.di_grammar.specs.Admitted.{Admitted}
use Rattle.arbiters.proofs.SymbolNames.{many_names}
use Rattle.arbiters.proofs.Limits.{keeps_limits_as, many_processes}
use Rattle.arbiters.proofs.Grammar.{is_admitted}
use Rattle.arbiters.proofs.arbiter.big.Goals as goal

pub invariant_of-result : goal.invariant_of-result
invariant_of-result c = record { valid = keeps_limits_as c.args.clients c.in_ok-names.names c.in_ok-procs.procs c.requires.some c.requires.few c.in_ok-names.ensures c.in_ok-procs.ensures }

pub returns-clause-admitted : goal.returns-clause-admitted
returns-clause-admitted c = subst Admitted (sym c.in_ok-procs.ensures) (is_admitted c.args.clients c.requires.some c.requires.few)

pub returns-clause-processes : goal.returns-clause-processes
returns-clause-processes c = ap length c.in_ok-procs.ensures ∙ many_processes c.args.clients

pub returns-clause-symbols : goal.returns-clause-symbols
returns-clause-symbols c = ap length c.in_ok-names.ensures ∙ many_names c.args.clients
