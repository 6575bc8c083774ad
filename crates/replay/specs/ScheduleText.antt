-- The text of a schedule, and its first faulty line.
use Rattle.std.specs.Prelude.{◌≡◌, ◌≢◌, ◌⊎◌, ◌+◌, ◌<◌, ◌^◌, ℕ, IsTrue, List, [], ◌∷◌, ◌++◌, length, codes, decimal, position, Option, Some, None}
use Rattle.std.specs.List.{AllByRecursion}
use Rattle.std.specs.Str.{bytes_eq}
use Rattle.cmd_tree.specs.Limits.{is_name}
use Rattle.replay.specs.declared.event.Event.{Event}
use Rattle.replay.specs.declared.event.Event.TheVariants.{Give, Pass, Fire, Unknown}
use Rattle.replay.specs.declared.schedule.ScheduleRefusal.{ScheduleRefusal}
use Rattle.replay.specs.declared.schedule.ScheduleRefusal.TheVariants as told

-- no byte of the text is c
abbrev pub Lacks : ℕ → List ℕ → Type 0
Lacks c text = AllByRecursion (λ b. b ≢ c) text

-- each line, and a line feed behind it
abbrev pub text_of : List (List ℕ) → List ℕ
text_of [] = []
text_of (line ∷ lines) = line ++ 10 ∷ text_of lines

-- the line gives a name, which has this place among those of the symbols, if it has one
pub record IsGive (names : List (List ℕ)) (place : Option ℕ) (line : List ℕ) : Type 0 where
  pub name : List ℕ
  pub formed : IsTrue (is_name name)
  pub text : line ≡ codes "give " ++ name
  pub number : position (bytes_eq name) names ≡ place

-- the line of an event
abbrev pub IsLineOf : List (List ℕ) → Event → List ℕ → Type 0
IsLineOf names (Give a) line = IsGive names (Some a.0) line
IsLineOf names (Pass w) line = (w < 2 ^ 32) × (line ≡ codes "pass " ++ decimal w)
IsLineOf names (Fire n k) line = (n < 2 ^ 32) × (k < 2 ^ 32) × (line ≡ codes "fire " ++ (decimal n ++ 32 ∷ decimal k))
IsLineOf names Unknown line = IsGive names None line

-- the lines of these events, in order
abbrev pub AreLinesOf : List (List ℕ) → List Event → List (List ℕ) → Type 0
AreLinesOf names [] [] = Unit {0}
AreLinesOf names [] (line ∷ lines) = ⊥
AreLinesOf names (e ∷ es) [] = ⊥
AreLinesOf names (e ∷ es) (line ∷ lines) = Lacks 10 line × IsLineOf names e line × AreLinesOf names es lines

-- the bytes are the text of these events, where the symbols have these names
pub record IsSchedule (names : List (List ℕ)) (events : List Event) (bytes : List ℕ) : Type 0 where
  pub lines : List (List ℕ)
  pub of : AreLinesOf names events lines
  pub text : bytes ≡ text_of lines

-- Line n is the first that is no line of an event, or has no line feed behind it.
pub record IsFaultyLine (names : List (List ℕ)) (bytes : List ℕ) (n : ℕ) : Type 0 where
  pub events : List Event
  pub before : List (List ℕ)
  pub of : AreLinesOf names events before
  pub number : n ≡ length before + 1
  pub line : List ℕ
  pub lacks : Lacks 10 line
  pub faulty : ((rest : List ℕ) × (bytes ≡ text_of before ++ (line ++ 10 ∷ rest)) × ((e : Event) → IsLineOf names e line → ⊥))
      ⊎ ((bytes ≡ text_of before ++ line) × (line ≢ []))

-- the line that a refusal tells; a lack of memory is none
abbrev pub line_told : ScheduleRefusal → Option ℕ
line_told (told.BadLine n) = Some n
line_told told.NoMemory = None
