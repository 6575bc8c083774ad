use Rattle.substitute.proofs.SplicedNet.{spliced_fits, spliced_closed, spliced_clean, spliced_sound_for, spliced_correct}
use Rattle.substitute.proofs.laws.splice_law.Goals as goal

pub returns-clause-fits : goal.returns-clause-fits
returns-clause-fits x = λ c m a fit. spliced_fits c a m fit

pub returns-clause-closed : goal.returns-clause-closed
returns-clause-closed x = λ c m a fit. spliced_closed c a m fit

pub returns-clause-clean : goal.returns-clause-clean
returns-clause-clean x = λ c m a fit p q. spliced_clean c a m fit p q

pub returns-clause-sound : goal.returns-clause-sound
returns-clause-sound x = λ c m a s t fit f g. spliced_sound_for c a m fit s t f g

pub returns-clause-correct : goal.returns-clause-correct
returns-clause-correct x = λ c m a s t fit f g. spliced_correct c a m fit s t f g
