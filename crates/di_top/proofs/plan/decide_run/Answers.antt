use Rattle.di_top.proofs.plan.decide_run.Goals as goal

pub returns-clause-ok : goal.returns-clause-ok
returns-clause-ok g c = c.in_ok-ran.ensures.ok
