-- Mirror of the reader of schedules: what it has read so far, and what it reads of a line.
use Rattle.std.specs.Prelude.{◌≡◌, ◌+◌, ◌<◌, ◌^◌, ℕ, List, ◌∷◌, ◌++◌, length, decimal, position, Option, Some, None, if◌then◌else◌}
use Rattle.std.specs.Str.{bytes_eq}
use Rattle.cmd_tree.specs.Limits.{is_name}
use Rattle.replay.specs.declared.event.Event.{Event}
use Rattle.replay.specs.declared.event.Event.TheVariants.{Give, Unknown}
use Rattle.replay.specs.ScheduleText.{text_of, IsLineOf, AreLinesOf}

-- the event of a line, or none where it is the line of no event
pub record Reads (names : List (List ℕ)) (line : List ℕ) (o : Option Event) : Type 0 where
  pub sound : (e : Event) → o ≡ Some e → IsLineOf names e line
  pub whole : o ≡ None → (e : Event) → IsLineOf names e line → ⊥

abbrev pub given_at : Option ℕ → Event
given_at None = Unknown
given_at (Some a) = Give (record { 0 = a })

abbrev pub given : List (List ℕ) → List ℕ → Option Event
given names name = if is_name name then Some (given_at (position (bytes_eq name) names)) else None

abbrev pub IsNumber : List ℕ → ℕ → Type 0
IsNumber bytes n = (n < 2 ^ 32) × (bytes ≡ decimal n)

abbrev pub AreNumbers : List ℕ → ℕ → ℕ → Type 0
AreNumbers bytes n k = (n < 2 ^ 32) × (k < 2 ^ 32) × (bytes ≡ decimal n ++ 32 ∷ decimal k)

-- the events of the lines before this one, behind which this rest of the bytes is left
pub record SoFar (names : List (List ℕ)) (bytes : List ℕ) (events : List Event) (rest : List ℕ) (line : ℕ) : Type 0 where
  pub lines : List (List ℕ)
  pub of : AreLinesOf names events lines
  pub text : bytes ≡ text_of lines ++ rest
  pub number : line ≡ length lines + 1
