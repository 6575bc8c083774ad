-- Sums over ports and crossings.
use Rattle.std.specs.Prelude.{ℕ, zero, suc, ◌+◌}

-- u 0 + .. + u (k - 1)
unfoldable pub total : ℕ → (ℕ → ℕ) → ℕ
total zero u = 0
total (suc k) u = total k u + u k
