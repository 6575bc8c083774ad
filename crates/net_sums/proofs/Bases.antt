-- The sums in both bases go over networks.
use Rattle.std.proofs.Common.{◌≡◌, ℕ, ◌+◌, Bool, true, false, refl, sym, ap, ◌∙◌, arith, if◌then◌else◌}
use Rattle.basic_kinds.specs.Sorts.{Sort, same_sort, Joins}
use Rattle.basic_kinds.specs.Sums.{so_many, wide_sum, two_way_sum}
use Rattle.plain_split.proofs.SharedSums.{so_none}
use Rattle.net_sums.specs.NodeSums.{IsSum}

pub wide_is : IsSum wide_sum
wide_is = record { none = so_none; wire = so_none; single = λ s. refl }

pub two_way_is : IsSum two_way_sum
two_way_is = record { none = so_none; wire = so_none; single = λ s. let z : so_many 1 Joins s + 0 ≡ so_many 1 Joins s = omega arith in z }
