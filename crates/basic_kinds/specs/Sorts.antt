-- The kinds without their widths, as sums count them.
use Rattle.std.specs.Prelude.{ℕ, ◌+◌, Bool, true, false, if◌then◌else◌, List, [], ◌∷◌}
use Rattle.std.specs.List.{range_with_len}
use Rattle.basic_kinds.specs.declared.kind.Kind.{Kind}
use Rattle.basic_kinds.specs.declared.kind.Kind.TheVariants as kind

pub data Sort : Type 0 where
  Wires : Sort
  Iwires : Sort
  Sources : Sort
  Sinks : Sort
  Forks : Sort
  Joins : Sort
  Merges : Sort
  Toggles : Sort
  Waits : Sort
  Sequencers : Sort

-- the kind is of the sort
abbrev pub is_of : Sort → Kind → Bool
is_of Wires kind.Wire = true
is_of Wires k = false
is_of Iwires kind.Iwire = true
is_of Iwires k = false
is_of Sources kind.Source = true
is_of Sources k = false
is_of Sinks kind.Sink = true
is_of Sinks k = false
is_of Forks (kind.Fork n) = true
is_of Forks k = false
is_of Joins (kind.C n) = true
is_of Joins k = false
is_of Merges (kind.Merge n) = true
is_of Merges k = false
is_of Toggles kind.Toggle = true
is_of Toggles k = false
is_of Waits (kind.Dw s) = true
is_of Waits k = false
is_of Sequencers (kind.Seq n) = true
is_of Sequencers k = false

abbrev pub same_sort : Sort → Sort → Bool
same_sort Wires Wires = true
same_sort Wires s = false
same_sort Iwires Iwires = true
same_sort Iwires s = false
same_sort Sources Sources = true
same_sort Sources s = false
same_sort Sinks Sinks = true
same_sort Sinks s = false
same_sort Forks Forks = true
same_sort Forks s = false
same_sort Joins Joins = true
same_sort Joins s = false
same_sort Merges Merges = true
same_sort Merges s = false
same_sort Toggles Toggles = true
same_sort Toggles s = false
same_sort Waits Waits = true
same_sort Waits s = false
same_sort Sequencers Sequencers = true
same_sort Sequencers s = false

-- how many pass the test
abbrev pub how_many : {A : Type 0} → (A → Bool) → List A → ℕ
how_many test [] = 0
how_many test (x ∷ xs) = (if test x then 1 else 0) + how_many test xs

-- how many of the numbers below k pass it
abbrev pub how_many_below : ℕ → (ℕ → Bool) → ℕ
how_many_below k test = how_many test (range_with_len 0 k)
