-- What a call read from a shelf, and what it did to a sink.
use Rattle.std.specs.Prelude.{◌≡◌, ℕ, ◌≤◌, List, Option, Some, length, take}
use Rattle.std.specs.List.{AllByRecursion}
use Rattle.di_io.specs.Faults.{Rose}
use Rattle.di_io.specs.Written.{Gains, GainsFront}

-- a shelf as a call saw it: the content of each name, and the counts of faults as it began and as it ended
pub record Reading : Type 0 where
  pub content : List ℕ → Option (List ℕ)
  pub before : List ℕ → ℕ
  pub now : List ℕ → ℕ

abbrev pub reading : {S : Type 0} → (S → List ℕ → Option (List ℕ)) → (S → List ℕ → ℕ) → S → S → Reading
reading content faults old new = record { content = content old; before = faults old; now = faults new }

-- a sink as a call began and as it ended: the bytes written, where they are told, and the count of faults
pub record Change : Type 0 where
  pub old : Option (List ℕ)
  pub new : Option (List ℕ)
  pub before : ℕ
  pub now : ℕ

abbrev pub change : {S : Type 0} → (S → Option (List ℕ)) → (S → ℕ) → S → S → Change
change written faults old new = record { old = written old; new = written new; before = faults old; now = faults new }

-- the count of the file's faults rose
abbrev pub Unread : Reading → List ℕ → Type 0
Unread r name = Rose (r.before name) (r.now name)

-- the bytes were loaded with this cap
pub record Loaded (r : Reading) (name : List ℕ) (cap : ℕ) (bytes : List ℕ) : Type 0 where
  pub most : length bytes ≤ cap
  pub told : (all : List ℕ) → r.content name ≡ Some all → bytes ≡ take cap all

-- no count of these files' faults rose
abbrev pub Quiet : Reading → List (List ℕ) → Type 0
Quiet r names = AllByRecursion (λ name. Unread r name → ⊥) names

-- the content of each of these files is told
abbrev pub Tells : Reading → List (List ℕ) → Type 0
Tells r names = AllByRecursion (λ name. (all : List ℕ) × (r.content name ≡ Some all)) names

abbrev pub Failed : Change → Type 0
Failed c = Rose c.before c.now

abbrev pub Unchanged : Change → Type 0
Unchanged c = (c.new ≡ c.old) × (c.now ≡ c.before)

-- the text was appended
abbrev pub Gained : Change → List ℕ → Type 0
Gained c text = Gains c.old c.new text

-- a front of the text was appended
abbrev pub GainedFront : Change → List ℕ → Type 0
GainedFront c text = GainsFront c.old c.new text
