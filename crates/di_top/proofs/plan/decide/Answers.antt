use Rattle.di_top.proofs.plan.decide.Goals as goal

pub returns-in-Compile-clause-ok : goal.returns-in-Compile-clause-ok
returns-in-Compile-clause-ok g c = rw c.in-Compile.is c.decide_compile.ensures.ok

pub returns-in-Compile-clause-stop : goal.returns-in-Compile-clause-stop
returns-in-Compile-clause-stop g c = rw c.in-Compile.is c.decide_compile.ensures.stop

pub returns-in-Check-clause-ok : goal.returns-in-Check-clause-ok
returns-in-Check-clause-ok g c = rw c.in-Check.is c.decide_check.ensures.ok

pub returns-in-Check-clause-stop : goal.returns-in-Check-clause-stop
returns-in-Check-clause-stop g c = rw c.in-Check.is c.decide_check.ensures.stop

pub returns-in-Count-clause-ok : goal.returns-in-Count-clause-ok
returns-in-Count-clause-ok g c = rw c.in-Count.is c.decide_count.ensures.ok

pub returns-in-Count-clause-stop : goal.returns-in-Count-clause-stop
returns-in-Count-clause-stop g c = rw c.in-Count.is c.decide_count.ensures.stop

pub returns-in-Rules-clause-ok : goal.returns-in-Rules-clause-ok
returns-in-Rules-clause-ok g c = rw c.in-Rules.is c.decide_rules.ensures.ok

pub returns-in-Rules-clause-stop : goal.returns-in-Rules-clause-stop
returns-in-Rules-clause-stop g c = rw c.in-Rules.is c.decide_rules.ensures.stop

pub returns-in-Run-clause-ok : goal.returns-in-Run-clause-ok
returns-in-Run-clause-ok g c = rw c.in-Run.is c.decide_run.ensures.ok

pub returns-in-Run-clause-stop : goal.returns-in-Run-clause-stop
returns-in-Run-clause-stop g c = rw c.in-Run.is c.decide_run.ensures.stop

pub returns-in-Drive-clause-ok : goal.returns-in-Drive-clause-ok
returns-in-Drive-clause-ok g c = rw c.in-Drive.is c.decide_drive.ensures.ok

pub returns-in-Drive-clause-stop : goal.returns-in-Drive-clause-stop
returns-in-Drive-clause-stop g c = rw c.in-Drive.is c.decide_drive.ensures.stop
