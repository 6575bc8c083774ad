-- Decimal numbers without sign or leading zero.
use Rattle.std.specs.Prelude.{◌≡◌, ℕ, ◌+◌, ◌-◌, ◌*◌, ◌<◌, true, List, [], ◌∷◌, length, get_or}
use Rattle.std.specs.Str.{all_ascii_digits}

-- the number that digits write behind those of n
abbrev pub value_from : ℕ → List ℕ → ℕ
value_from n [] = n
value_from n (d ∷ ds) = value_from (10 * n + (d - 48)) ds

-- the number that digits write
abbrev pub value_of : List ℕ → ℕ
value_of digits = value_from 0 digits

-- one digit or more, and no zero before another digit
pub record IsDecimal (bytes : List ℕ) : Type 0 where
  pub some : 0 < length bytes
  pub digits : all_ascii_digits bytes ≡ true
  pub lean : get_or bytes 0 0 ≡ 48 → length bytes ≡ 1
