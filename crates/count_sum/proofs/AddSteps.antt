-- Numbers of components that grow step by step.
use Rattle.std.proofs.Common.{◌≡◌, ℕ, ◌+◌, ◌<◌, ◌^◌, refl, ap, ◌∙◌, arith}
use Rattle.basic_kinds.specs.Sorts.{Sort, Wires, Iwires, Sources, Sinks, Forks, Joins, Merges, Toggles, Waits, Sequencers}
use Rattle.basic_kinds.specs.Sums.{so_many}
use Rattle.count_sum.specs.declared.counts.Counts.{Counts}
use Rattle.count_sum.specs.Counts.{of_sort}
use Rattle.count_sum.specs.Mirror.Adding.{Adds, HasRoom}
use Rattle.count_sum.specs.Mirror.Parts.{added}
use Rattle.count_sum.proofs.SortCounts.{added_at, all_low, all_same, one_low}

pub adds_same : {a b : Counts} {f g : Sort → ℕ} → ((t : Sort) → f t ≡ g t) → Adds a b f → Adds a b g
adds_same {a = a} e h = record { each = λ t. h.each t ∙ ap (λ (n : ℕ). of_sort a t + n) (e t) }

pub adds_both : {a b c : Counts} {f g : Sort → ℕ} → Adds a b f → Adds b c g → Adds a c (λ t. f t + g t)
adds_both {f = f} {g = g} h k = record { each = λ t. omega (arith, h.each t, k.each t) }

pub adds_none : (a : Counts) → Adds a a (λ t. 0)
adds_none a = record { each = λ t. omega arith }

pub adds_one : {a b : Counts} (s : Sort) (n : ℕ) → b ≡ added s n a → Adds a b (so_many n s)
adds_one {a = a} s n e = record { each = λ t. ap (λ (k : Counts). of_sort k t) e ∙ added_at s n a t }

pub room_same : {a : Counts} {f g : Sort → ℕ} → ((t : Sort) → f t ≡ g t) → HasRoom a f → HasRoom a g
room_same {a = a} {f = f} {g = g} e h = record { few = omega (arith, h.few, all_same (λ t. of_sort a t + f t) (λ t. of_sort a t + g t) (λ t. ap (λ (n : ℕ). of_sort a t + n) (e t))) }

pub room_first : {a : Counts} (f g : Sort → ℕ) → HasRoom a (λ t. f t + g t) → HasRoom a f
room_first {a = a} f g h = record { few = omega (arith, h.few, all_low (λ t. of_sort a t + f t) (λ t. of_sort a t + (f t + g t)) (λ t. omega arith)) }

pub room_next : {a b : Counts} (f g : Sort → ℕ) → Adds a b f → HasRoom a (λ t. f t + g t) → HasRoom b g
room_next {a = a} {b = b} f g k h = record { few = omega (arith, h.few, all_same (λ t. of_sort b t + g t) (λ t. of_sort a t + (f t + g t)) (λ t. omega (arith, k.each t))) }

same_many : (s : Sort) (n : ℕ) → so_many n s s ≡ n
same_many Wires n = refl
same_many Iwires n = refl
same_many Sources n = refl
same_many Sinks n = refl
same_many Forks n = refl
same_many Joins n = refl
same_many Merges n = refl
same_many Toggles n = refl
same_many Waits n = refl
same_many Sequencers n = refl

pub room_one : {a : Counts} (s : Sort) (n : ℕ) → HasRoom a (so_many n s) → of_sort a s + n < 2 ^ 64
room_one {a = a} s n h = omega (arith, h.few, one_low (λ t. of_sort a t + so_many n s t) s, same_many s n)
