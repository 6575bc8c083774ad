use Rattle.cmd_tree.specs.Meaning.{TraceOf}
use Rattle.process_laws.specs.GrantForms.{plain, release}
use Rattle.process_laws.proofs.GrantPhases.{plain_phased, release_phased}
use Rattle.process_laws.proofs.PhasedTraces.{phased_insensitive}
use Rattle.process_laws.proofs.laws.grants_are_insensitive.Goals as goal

pub returns-clause-plain_phased : goal.returns-clause-plain_phased
returns-clause-plain_phased c = plain_phased

pub returns-clause-plain_rules : goal.returns-clause-plain_rules
returns-clause-plain_rules c = λ out n ps more e all. phased_insensitive (TraceOf (plain n ps)) out (plain_phased out n ps more e all)

pub returns-clause-release_phased : goal.returns-clause-release_phased
returns-clause-release_phased c = release_phased

pub returns-clause-release_rules : goal.returns-clause-release_rules
returns-clause-release_rules c = λ out gs more all none. phased_insensitive (TraceOf (release gs)) out (release_phased out gs more all none)
