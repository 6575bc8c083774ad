use Rattle.std.proofs.Common.{ap, arith}
use Rattle.di_grammar.specs.Admitted.{number_of}
use Rattle.di_grammar.specs.Granted.{KeepsGranted, BreaksGranted}
use Rattle.di_grammar.specs.declared.answer.Rule.TheVariants.{Directions, Granted}
use Rattle.di_grammar.proofs.GrantedSteps.{keeps_granted}
use Rattle.di_grammar.proofs.Turning.{keeps_directions}
use Rattle.di_grammar.proofs.FirstBreaches.{breach_like}
use Rattle.di_grammar.proofs.Answering.{locally, kept_each}
use Rattle.di_grammar.proofs.answer.first_breach.Goals as goal

pub returns-in_default : goal.returns-in_default
returns-in_default c = breach_like _ _ c.first_in_process.result (locally c.args.rule c.args.procs.now c.in_default.not-Directions c.in_default.not-Homes) c.first_in_process.ensures

pub unhoused-requires-clause-directions : goal.unhoused-requires-clause-directions
unhoused-requires-clause-directions c = (keeps_directions c.args.procs.now).1 (c.requires.kept Directions (omega (arith, ap number_of c.in-Homes.is)))

pub unhoused-requires-clause-granted : goal.unhoused-requires-clause-granted
unhoused-requires-clause-granted c = kept_each BreaksGranted KeepsGranted c.args.procs.now keeps_granted (c.requires.kept Granted (omega (arith, ap number_of c.in-Homes.is)))
