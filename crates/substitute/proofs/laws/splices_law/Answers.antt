use Rattle.substitute.proofs.Turns.{each_fits, all_network, all_closed, all_clean, all_sound, all_correct}
use Rattle.substitute.proofs.laws.splices_law.Goals as goal

pub returns-clause-fits : goal.returns-clause-fits
returns-clause-fits x = each_fits

pub returns-clause-network : goal.returns-clause-network
returns-clause-network x = λ c ps fit net. all_network c 1 ps fit net

pub returns-clause-closed : goal.returns-clause-closed
returns-clause-closed x = λ c ps fit closed. all_closed c 1 ps fit closed

pub returns-clause-clean : goal.returns-clause-clean
returns-clause-clean x = λ c ps fit one all. all_clean c 1 ps fit one all

pub returns-clause-sound : goal.returns-clause-sound
returns-clause-sound x = λ c ps s fit one all. all_sound s c 1 ps fit one all

pub returns-clause-correct : goal.returns-clause-correct
returns-clause-correct x = λ c ps s fit one all. all_correct s c 1 ps fit one all
