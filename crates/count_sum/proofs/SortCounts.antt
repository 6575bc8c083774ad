-- Numbers of components by their sorts.
use Rattle.std.proofs.Common.{◌≡◌, ℕ, ◌+◌, ◌≤◌, refl, arith}
use Rattle.basic_kinds.specs.Sorts.{Sort, Wires, Iwires, Sources, Sinks, Forks, Joins, Merges, Toggles, Waits, Sequencers}
use Rattle.basic_kinds.specs.Sums.{so_many}
use Rattle.count_sum.specs.declared.counts.Counts.{Counts}
use Rattle.count_sum.specs.Counts.{of_sort, all_sorts}
use Rattle.count_sum.specs.Mirror.Parts.{added}

no_more : (n : ℕ) → n ≡ n + 0
no_more n = omega arith

pub added_at : (s : Sort) (n : ℕ) (k : Counts) (t : Sort) → of_sort (added s n k) t ≡ of_sort k t + so_many n s t
added_at Wires n k Wires = refl
added_at Wires n k t = no_more (of_sort k t)
added_at Iwires n k Iwires = refl
added_at Iwires n k t = no_more (of_sort k t)
added_at Sources n k Sources = refl
added_at Sources n k t = no_more (of_sort k t)
added_at Sinks n k Sinks = refl
added_at Sinks n k t = no_more (of_sort k t)
added_at Forks n k Forks = refl
added_at Forks n k t = no_more (of_sort k t)
added_at Joins n k Joins = refl
added_at Joins n k t = no_more (of_sort k t)
added_at Merges n k Merges = refl
added_at Merges n k t = no_more (of_sort k t)
added_at Toggles n k Toggles = refl
added_at Toggles n k t = no_more (of_sort k t)
added_at Waits n k Waits = refl
added_at Waits n k t = no_more (of_sort k t)
added_at Sequencers n k Sequencers = refl
added_at Sequencers n k t = no_more (of_sort k t)

pub all_both : (f h : Sort → ℕ) → all_sorts (λ t. f t + h t) ≡ all_sorts f + all_sorts h
all_both f h = omega arith

pub all_same : (f h : Sort → ℕ) → ((t : Sort) → f t ≡ h t) → all_sorts f ≡ all_sorts h
all_same f h e = omega (arith, e Wires, e Iwires, e Sources, e Sinks, e Forks, e Joins, e Merges, e Toggles, e Waits, e Sequencers)

pub all_low : (f h : Sort → ℕ) → ((t : Sort) → f t ≤ h t) → all_sorts f ≤ all_sorts h
all_low f h e = omega (arith, e Wires, e Iwires, e Sources, e Sinks, e Forks, e Joins, e Merges, e Toggles, e Waits, e Sequencers)

-- one sort is at most all
pub one_low : (f : Sort → ℕ) (t : Sort) → f t ≤ all_sorts f
one_low f Wires = omega arith
one_low f Iwires = omega arith
one_low f Sources = omega arith
one_low f Sinks = omega arith
one_low f Forks = omega arith
one_low f Joins = omega arith
one_low f Merges = omega arith
one_low f Toggles = omega arith
one_low f Waits = omega arith
one_low f Sequencers = omega arith

pub so_many_all : (n : ℕ) (s : Sort) → all_sorts (so_many n s) ≡ n
so_many_all n Wires = omega arith
so_many_all n Iwires = omega arith
so_many_all n Sources = omega arith
so_many_all n Sinks = omega arith
so_many_all n Forks = omega arith
so_many_all n Joins = omega arith
so_many_all n Merges = omega arith
so_many_all n Toggles = omega arith
so_many_all n Waits = omega arith
so_many_all n Sequencers = omega arith

pub all_none : all_sorts (λ t. 0) ≡ 0
all_none = refl
