-- Of which sort a kind is: one kind of each sort, whatever its width.
use Rattle.std.proofs.Common.{◌≡◌, ℕ, refl}
use Rattle.basic_kinds.specs.declared.shape.Shape.{Shape}
use Rattle.basic_kinds.specs.declared.kind.Kind.TheVariants as kind
use Rattle.basic_kinds.specs.Sorts.{Sort, Wires, Iwires, Sources, Sinks, Forks, Joins, Merges, Toggles, Waits, Sequencers, is_of, same_sort}

pub iwire_sort : (k : Sort) → is_of k kind.Iwire ≡ same_sort Iwires k
iwire_sort Wires = refl
iwire_sort Iwires = refl
iwire_sort Sources = refl
iwire_sort Sinks = refl
iwire_sort Forks = refl
iwire_sort Joins = refl
iwire_sort Merges = refl
iwire_sort Toggles = refl
iwire_sort Waits = refl
iwire_sort Sequencers = refl

pub source_sort : (k : Sort) → is_of k kind.Source ≡ same_sort Sources k
source_sort Wires = refl
source_sort Iwires = refl
source_sort Sources = refl
source_sort Sinks = refl
source_sort Forks = refl
source_sort Joins = refl
source_sort Merges = refl
source_sort Toggles = refl
source_sort Waits = refl
source_sort Sequencers = refl

pub fork_sort : (n : ℕ) (k : Sort) → is_of k (kind.Fork n) ≡ same_sort Forks k
fork_sort n Wires = refl
fork_sort n Iwires = refl
fork_sort n Sources = refl
fork_sort n Sinks = refl
fork_sort n Forks = refl
fork_sort n Joins = refl
fork_sort n Merges = refl
fork_sort n Toggles = refl
fork_sort n Waits = refl
fork_sort n Sequencers = refl

pub join_sort : (n : ℕ) (k : Sort) → is_of k (kind.C n) ≡ same_sort Joins k
join_sort n Wires = refl
join_sort n Iwires = refl
join_sort n Sources = refl
join_sort n Sinks = refl
join_sort n Forks = refl
join_sort n Joins = refl
join_sort n Merges = refl
join_sort n Toggles = refl
join_sort n Waits = refl
join_sort n Sequencers = refl

pub merge_sort : (n : ℕ) (k : Sort) → is_of k (kind.Merge n) ≡ same_sort Merges k
merge_sort n Wires = refl
merge_sort n Iwires = refl
merge_sort n Sources = refl
merge_sort n Sinks = refl
merge_sort n Forks = refl
merge_sort n Joins = refl
merge_sort n Merges = refl
merge_sort n Toggles = refl
merge_sort n Waits = refl
merge_sort n Sequencers = refl

pub dw_sort : (s : Shape) (k : Sort) → is_of k (kind.Dw s) ≡ same_sort Waits k
dw_sort s Wires = refl
dw_sort s Iwires = refl
dw_sort s Sources = refl
dw_sort s Sinks = refl
dw_sort s Forks = refl
dw_sort s Joins = refl
dw_sort s Merges = refl
dw_sort s Toggles = refl
dw_sort s Waits = refl
dw_sort s Sequencers = refl

pub seq_sort : (n : ℕ) (k : Sort) → is_of k (kind.Seq n) ≡ same_sort Sequencers k
seq_sort n Wires = refl
seq_sort n Iwires = refl
seq_sort n Sources = refl
seq_sort n Sinks = refl
seq_sort n Forks = refl
seq_sort n Joins = refl
seq_sort n Merges = refl
seq_sort n Toggles = refl
seq_sort n Waits = refl
seq_sort n Sequencers = refl
