-- What is told of a broken rule of a command: of all marks that break it, the first.
use Rattle.std.specs.Prelude.{◌≡◌, ◌⊎◌, ℕ, ◌<◌, Option, Some, None}
use Rattle.di_grammar.specs.declared.breach.Breach.{Breach}

-- by the first numbers, or where these are equal by the rest
abbrev pub Before : ℕ → ℕ → Type 0 → Type 0
Before a b Rest = (a < b) ⊎ ((a ≡ b) × Rest)

-- A mark of a process breaks a rule, in which case of the rule, and against which other mark. The one stands before the other by
-- the process, the place, the case, the other process and the other place.
abbrev pub Earlier : Breach → Breach → Type 0
Earlier a b = Before a.process b.process (Before a.place b.place (Before a.case b.case (Before a.other_process b.other_process (a.other < b.other))))

-- of all breaches this is the first; or there are none
abbrev pub FirstOf : (Breach → Type 0) → Option Breach → Type 0
FirstOf Breaks None = (b : Breach) → Breaks b → ⊥
FirstOf Breaks (Some b) = Breaks b × ((c : Breach) → Breaks c → Earlier c b → ⊥)
