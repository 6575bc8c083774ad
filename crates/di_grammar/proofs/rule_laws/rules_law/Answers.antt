use Rattle.di_grammar.proofs.UnevenSteps.{keeps_bursts}
use Rattle.di_grammar.proofs.Alternating.{keeps_neighbours, keeps_rounds}
use Rattle.di_grammar.proofs.Choosing.{keeps_choices}
use Rattle.di_grammar.proofs.Alternatives.{keeps_twins}
use Rattle.di_grammar.proofs.OverlapSteps.{keeps_overlaps}
use Rattle.di_grammar.proofs.Turning.{keeps_directions}
use Rattle.di_grammar.proofs.GrantedSteps.{keeps_granted}
use Rattle.di_grammar.proofs.HousingLaws.{keeps_homes}
use Rattle.di_grammar.proofs.rule_laws.rules_law.Goals as goal

pub returns-clause-bursts : goal.returns-clause-bursts
returns-clause-bursts c = keeps_bursts

pub returns-clause-neighbours : goal.returns-clause-neighbours
returns-clause-neighbours c = keeps_neighbours

pub returns-clause-rounds : goal.returns-clause-rounds
returns-clause-rounds c = keeps_rounds

pub returns-clause-choices : goal.returns-clause-choices
returns-clause-choices c = keeps_choices

pub returns-clause-twins : goal.returns-clause-twins
returns-clause-twins c = keeps_twins

pub returns-clause-overlaps : goal.returns-clause-overlaps
returns-clause-overlaps c = keeps_overlaps

pub returns-clause-directions : goal.returns-clause-directions
returns-clause-directions c = keeps_directions

pub returns-clause-granted : goal.returns-clause-granted
returns-clause-granted c = keeps_granted

pub returns-clause-homes : goal.returns-clause-homes
returns-clause-homes c = keeps_homes
