-- Numbers of components that grow.
use Rattle.std.specs.Prelude.{◌≡◌, ℕ, ◌+◌, ◌<◌, ◌^◌}
use Rattle.basic_kinds.specs.Sorts.{Sort}
use Rattle.count_sum.specs.declared.counts.Counts.{Counts}
use Rattle.count_sum.specs.Counts.{of_sort, all_sorts}

-- so many more of each sort
pub record Adds (old new : Counts) (more : Sort → ℕ) : Type 0 where
  pub each : (t : Sort) → of_sort new t ≡ of_sort old t + more t

-- 64 bits count all when so many more of each sort come
pub record HasRoom (old : Counts) (more : Sort → ℕ) : Type 0 where
  pub few : all_sorts (λ t. of_sort old t + more t) < 2 ^ 64
