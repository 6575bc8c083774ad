-- A sink that tells its bytes gains a front of a text.
use Rattle.std.proofs.Common.{◌≡◌, ℕ, List, ◌++◌, Some, take, drop}
use Rattle.std.proofs.lemmas.List.{take-append-drop}
use Rattle.di_io.specs.Written.{GainsFront}

-- the first bytes are a front
pub gains_taken : (count : ℕ) (text old new : List ℕ) → new ≡ old ++ take count text
    → GainsFront (Some old) (Some new) text
gains_taken count text old new gained before is =
    let same : old ≡ before = cc in
    record { front = take count text; rest = drop count text; whole = take-append-drop count text; is = cc }
