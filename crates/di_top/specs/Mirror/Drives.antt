-- Mirror of what the code finds in a drive.
use Rattle.std.specs.Prelude.{◌≡◌, ℕ, ◌+◌, List, length, Some}
use Rattle.net_core.specs.Wiring.{Circuit}
use Rattle.replay.specs.declared.event.Event.{Event}
use Rattle.replay.specs.declared.event.Answer.{Answer}
use Rattle.net_drive.specs.declared.driving.Stop.{Stop as End}
use Rattle.net_drive.specs.declared.driving.Stop.TheVariants as end
use Rattle.net_drive.specs.Drawn.{IsDrawn}
use Rattle.di_top.specs.declared.outcome.Outcome.TheVariants as outcome
use Rattle.di_top.specs.declared.outcome.Numbered.TheVariants.{Steps}
use Rattle.di_top.specs.declared.outcome.Stop.{Stop}
use Rattle.di_top.specs.declared.drive_form.Drawn.{Drawn}
use Rattle.di_top.specs.DriveForm.{IsFree}

-- the events are drawn, and none has a hazard
pub record IsDriven (c : Circuit) (seed steps : ℕ) (drawn : Drawn) : Type 0 where
  pub net : drawn.net ≡ c
  pub end : End
  pub is : IsDrawn c seed steps drawn.events.items end
  pub free : IsFree end

-- the event that is drawn behind these has a hazard, and that is told
pub record StopsDrive (c : Circuit) (seed steps : ℕ) (stop : Stop) : Type 0 where
  pub events : List Event
  pub what : Answer
  pub is : IsDrawn c seed steps events (end.Hazard what)
  pub told : stop ≡ record { outcome = outcome.Hazard (length events + 1) what; numbered = Steps; net = Some c }
