-- Mirror of the tree of sums in the index.
use Rattle.std.specs.Prelude.{◌≡◌, ℕ, zero, suc, ◌+◌, ◌*◌, ◌<◌, ◌≤◌, ◌≢◌, ◌⊎◌, Bool, false, not, List, length, slice_index_or}
use Rattle.net_drive.specs.Bits.{one_if, below}

-- the leaves of a tree of this height
abbrev pub two : ℕ → ℕ
two zero = 1
two (suc h) = two h + two h

abbrev pub sum_at : List ℕ → ℕ → ℕ
sum_at sums j = slice_index_or sums j 0

-- a node has the sum of its children
abbrev pub IsSum : List ℕ → ℕ → Type 0
IsSum sums j = sum_at sums j ≡ sum_at sums (j + j) + sum_at sums (suc (j + j))

-- the leaves are the bits, and each other node has the sum of its children
pub record IsTree (height : ℕ) (sums : List ℕ) (bits : List Bool) : Type 0 where
  pub size : length sums ≡ two height + two height
  pub fits : length bits ≤ two height
  pub leaf : (i : ℕ) → i < two height → sum_at sums (two height + i) ≡ one_if (slice_index_or bits i false)
  pub inner : (j : ℕ) → 0 < j → j < two height → IsSum sums j

-- one more, or one less
abbrev pub IsOff : Bool → ℕ → ℕ → Type 0
IsOff on old new = one_if on + old ≡ one_if (not on) + new

-- The same where the parent of the node k, if it has one, has not yet the sum of its children.
pub record IsTreeBelow (height : ℕ) (sums : List ℕ) (bits : List Bool) (k : ℕ) (on : Bool) : Type 0 where
  pub size : length sums ≡ two height + two height
  pub fits : length bits ≤ two height
  pub leaf : (i : ℕ) → i < two height → sum_at sums (two height + i) ≡ one_if (slice_index_or bits i false)
  pub some : 0 < k
  pub inside : k < two height + two height
  pub low : (j : ℕ) → 0 < j → j < k → sum_at sums j ≤ length bits
  pub inner : (j : ℕ) → 0 < j → j < two height → k ≢ j + j → k ≢ suc (j + j) → IsSum sums j
  pub parent : (j : ℕ) → 0 < j → j < two height → (k ≡ j + j) ⊎ (k ≡ suc (j + j))
      → IsOff on (sum_at sums j) (sum_at sums (j + j) + sum_at sums (suc (j + j)))

-- the node at which a descent is: the bits before its leaves, and those that are left to go
pub record IsAbove (height : ℕ) (sums : List ℕ) (bits : List Bool) (node left before : ℕ) : Type 0 where
  pub high : ℕ
  pub first : ℕ
  pub leaves : first + two height ≡ node * two high
  pub within : first + two high ≤ two height
  pub so_far : below bits first + left ≡ before
  pub more : left < sum_at sums node
