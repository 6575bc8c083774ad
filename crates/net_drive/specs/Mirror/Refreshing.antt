-- Mirror of the bits of the index while some of them are tested again.
use Rattle.std.specs.Prelude.{◌≡◌, ◌↔◌, ◌⊎◌, ◌≤◌, ℕ, Bool, false, nat_eq, if◌then◌else◌, suc, List, [], ◌∷◌, length, slice_get, slice_index_or, Some, IsTrue}
use Rattle.net_core.specs.Runs.{State}
use Rattle.net_core.specs.Wiring.{Circuit}
use Rattle.replay.specs.declared.event.Event.{Event}
use Rattle.replay.specs.Answers.{IsEnabled}

-- the bit says whether the event of its number may happen
abbrev pub IsRight : Circuit → State → List Event → List Bool → ℕ → Type 0
IsRight c s es bits i = (e : Event) → slice_get es i ≡ Some e → (IsTrue (slice_index_or bits i false) ↔ IsEnabled c s e)

-- each bit does
pub record AllRight (c : Circuit) (s : State) (es : List Event) (bits : List Bool) : Type 0 where
  pub long : length bits ≡ length es
  pub each : (i : ℕ) → IsRight c s es bits i

-- how many of the numbers are not the present one
abbrev pub fresh : ℕ → List ℕ → ℕ
fresh now [] = 0
fresh now (t ∷ ts) = if nat_eq t now then fresh now ts else suc (fresh now ts)

-- Those tested are right, and each other bit is as it was.
pub record AreTested (c : Circuit) (s : State) (es : List Event) (old new : List Bool) (before stamps : List ℕ) (now : ℕ) : Type 0 where
  pub long : length new ≡ length old
  pub sized : length stamps ≡ length before
  pub kept : (i : ℕ) → slice_index_or before i 0 ≡ now → slice_index_or stamps i 0 ≡ now
  pub right : ((i : ℕ) → slice_index_or before i 0 ≡ now → IsRight c s es old i) → (i : ℕ) → slice_index_or stamps i 0 ≡ now → IsRight c s es new i
  pub others : (i : ℕ) → IsRight c s es new i ⊎ (slice_index_or new i false ≡ slice_index_or old i false)
  pub low : ((i : ℕ) → slice_index_or before i 0 ≤ now) → (i : ℕ) → slice_index_or stamps i 0 ≤ now
