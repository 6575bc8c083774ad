-- Bits that are set, counted from the front.
use Rattle.std.specs.Prelude.{◌≡◌, ℕ, zero, suc, ◌+◌, Bool, true, false, if◌then◌else◌, List, [], ◌∷◌, slice_index_or}

abbrev pub one_if : Bool → ℕ
one_if b = if b then 1 else 0

-- how many bits are set
abbrev pub trues : List Bool → ℕ
trues [] = 0
trues (b ∷ bs) = one_if b + trues bs

-- how many of the first n
abbrev pub below : List Bool → ℕ → ℕ
below [] n = 0
below (b ∷ bs) zero = 0
below (b ∷ bs) (suc n) = one_if b + below bs n

-- the bit is set, and so many are set before it
pub record IsNth (bits : List Bool) (before index : ℕ) : Type 0 where
  pub on : slice_index_or bits index false ≡ true
  pub place : below bits index ≡ before
