-- What is promised of a call, whatever its words: one record, over the cases of the forms.
use Rattle.std.specs.Prelude.{◌≡◌, ◌≢◌, ◌⊎◌, ℕ, ◌-◌, ◌^◌, ◌<◌, List, [], Option}
use Rattle.replay.specs.Probes.{View}
use Rattle.di_top.specs.declared.outcome.Outcome.{Outcome}
use Rattle.di_top.specs.declared.outcome.Outcome.TheVariants.{Done, WriteFault, NoMemory}
use Rattle.di_top.specs.Requests.{Request, files_of}
use Rattle.di_top.specs.Calls.{Reading, Change, Quiet, Tells, Failed, Unchanged, Gained, GainedFront}
use Rattle.di_top.specs.Outcomes.{FormGives, Gives, Prints, HandsBack, HasWording}
use Rattle.di_top.specs.Say.{Wording, say_line, by_line}

-- a text that the form prints was appended, and these probes are handed back with it
pub record Printed (request : Option Request) (r : Reading) (out : Change) (back : List View) : Type 0 where
  pub text : List ℕ
  pub prints : Prints request r text
  pub hands : HandsBack request r text back
  pub gained : Gained out text

-- a front of a text that the form prints was appended
pub record CutText (request : Option Request) (r : Reading) (out : Change) : Type 0 where
  pub text : List ℕ
  pub prints : Prints request r text
  pub gained : GainedFront out text

-- the line of the outcome was said
pub record Said (request : Option Request) (r : Reading) (say : Change) (outcome : Outcome) : Type 0 where
  pub wording : Wording
  pub named : HasWording request r outcome wording
  pub gained : Gained say (say_line wording outcome)

-- a front of the line of some outcome that the form gives was said
pub record CutLine (request : Option Request) (r : Reading) (say : Change) : Type 0 where
  pub stop : Outcome
  pub stopped : stop ≢ Done
  pub unbroken : stop ≢ WriteFault
  pub gives : Gives request r stop
  pub wording : Wording
  pub named : HasWording request r stop wording
  pub gained : GainedFront say (say_line wording stop)

-- after a write fault, by which of the two counts rose
pub record FaultTable (request : Option Request) (r : Reading) (out say : Change) : Type 0 where
  pub out_still : (Failed out → ⊥) → Unchanged out
  pub say_still : (Failed say → ⊥) → Failed out × Gained say (say_line (by_line []) WriteFault)
  pub both : Failed out → Failed say → GainedFront say (say_line (by_line []) WriteFault)
  pub say_alone : (Failed out → ⊥) → Failed say → CutLine request r say

-- a count that can still rise
abbrev pub CanRise : Change → Type 0
CanRise c = c.before < 2 ^ 64 - 1

pub record Promise (request : Option Request) (r : Reading) (out say : Change) (back : List View) (outcome : Outcome) : Type 0 where
  -- the outcome is one that the form's order allows, or a write fault
  pub order : (outcome ≡ WriteFault) ⊎ Gives request r outcome
  pub write_fault : outcome ≡ WriteFault → Failed out ⊎ Failed say
  -- where the call stopped before it wrote, out is as it was, and its line was said
  pub stopped : outcome ≢ Done → outcome ≢ WriteFault → Unchanged out × Said request r say outcome
  pub done : outcome ≡ Done → Printed request r out back × Unchanged say
  -- no probe is handed back after any other outcome
  pub none_back : outcome ≢ Done → back ≡ []
  pub partial : outcome ≡ WriteFault → Unchanged out ⊎ CutText request r out
  pub table : outcome ≡ WriteFault → CanRise out → CanRise say → FaultTable request r out say
  pub out_rises : out.before < out.now → Gives request r Done
  pub say_rises : say.before < say.now → Failed out ⊎ CutLine request r say
  -- where the contents are told and no count rose, memory may be missing; else the outcome is the one that the form gives
  pub exact : Tells r (files_of request) → Quiet r (files_of request) → (Failed out → ⊥) → (Failed say → ⊥)
      → (answer : Outcome) → FormGives request r answer → (outcome ≡ NoMemory) ⊎ (outcome ≡ answer)
