use Rattle.di_top.proofs.plan.put_plan.Goals as goal

pub returns-in-Check-clause-ok : goal.returns-in-Check-clause-ok
returns-in-Check-clause-ok g c = rw c.in-Check.is c.put_counts.ensures.ok

pub returns-in-Check-clause-front : goal.returns-in-Check-clause-front
returns-in-Check-clause-front g c = rw c.in-Check.is c.put_counts.ensures.front

pub returns-in-Run-clause-ok : goal.returns-in-Run-clause-ok
returns-in-Run-clause-ok g c = rw c.in-Run.is c.put_ran.ensures.ok

pub returns-in-Run-clause-front : goal.returns-in-Run-clause-front
returns-in-Run-clause-front g c = rw c.in-Run.is c.put_ran.ensures.front

pub returns-in-Count-clause-ok : goal.returns-in-Count-clause-ok
returns-in-Count-clause-ok g c = rw c.in-Count.is c.put_sums.ensures.ok

pub returns-in-Count-clause-front : goal.returns-in-Count-clause-front
returns-in-Count-clause-front g c = rw c.in-Count.is c.put_sums.ensures.front

pub returns-in-Drive-clause-ok : goal.returns-in-Drive-clause-ok
returns-in-Drive-clause-ok g c = rw c.in-Drive.is c.put_drawn.ensures.ok

pub returns-in-Drive-clause-front : goal.returns-in-Drive-clause-front
returns-in-Drive-clause-front g c = rw c.in-Drive.is c.put_drawn.ensures.front
