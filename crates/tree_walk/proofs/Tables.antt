-- Tables by symbol.
use Rattle.std.proofs.Common.{◌≡◌, ℕ, zero, suc, get_or, refl}
use Rattle.std.proofs.Math.ListN.{replicate}

pub all_none : (n a : ℕ) → ◌≡◌ {A = ℕ} (get_or (replicate n 0) a 0) 0
all_none zero a = refl
all_none (suc n) zero = refl
all_none (suc n) (suc a) = all_none n a
