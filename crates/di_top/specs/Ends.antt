-- The ways in which a call ends. What is promised of a call follows from them.
use Rattle.std.specs.Prelude.{◌≡◌, ℕ, List, [], Option}
use Rattle.replay.specs.Probes.{View}
use Rattle.di_top.specs.declared.outcome.Outcome.{Outcome}
use Rattle.di_top.specs.declared.outcome.Outcome.TheVariants.{Done, WriteFault}
use Rattle.di_top.specs.Requests.{Request}
use Rattle.di_top.specs.Calls.{Reading, Change, Failed, Unchanged, Gained, GainedFront}
use Rattle.di_top.specs.Outcomes.{Gives, Prints, HandsBack, HasWording}
use Rattle.di_top.specs.Plans.{IsStop}
use Rattle.di_top.specs.Say.{Wording, say_line, by_line}

-- the line was said, or could not be
pub data Spoke (stop : Outcome) (wording : Wording) (say : Change) (outcome : Outcome) : Type 0 where
  Spoken : outcome ≡ stop → Gained say (say_line wording stop) → Spoke stop wording say outcome
  Broken : outcome ≡ WriteFault → Failed say → GainedFront say (say_line wording stop) → Spoke stop wording say outcome

-- the form is done and prints this text, and these probes are handed back
pub record Finishes (request : Option Request) (r : Reading) (text : List ℕ) (back : List View) : Type 0 where
  pub gives : Gives request r Done
  pub prints : Prints request r text
  pub hands : HandsBack request r text back

-- the form gives an outcome that ends the call before anything is written, and it is said with these wording
pub record Halts (request : Option Request) (r : Reading) (stop : Outcome) (wording : Wording) : Type 0 where
  pub stops : IsStop stop
  pub gives : Gives request r stop
  pub named : HasWording request r stop wording

pub data Ends (request : Option Request) (r : Reading) (out say : Change) (back : List View) (outcome : Outcome) : Type 0 where
  -- all was printed
  Finished : (text : List ℕ) → outcome ≡ Done → Finishes request r text back → Gained out text → Unchanged say
      → Ends request r out say back outcome
  -- nothing was printed
  Stopped : (stop : Outcome) (wording : Wording) → Halts request r stop wording → Unchanged out → back ≡ []
      → Spoke stop wording say outcome → Ends request r out say back outcome
  -- a front was printed
  Cut : (text : List ℕ) (kept : List View) → Finishes request r text kept → Failed out → GainedFront out text → back ≡ []
      → Spoke WriteFault (by_line []) say outcome → Ends request r out say back outcome
