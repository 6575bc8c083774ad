-- What the code counts, and how.
use Rattle.std.specs.Prelude.{ℕ, ◌+◌, Option, None, Some}
use Rattle.basic_kinds.specs.Sorts.{Sort, Wires, Iwires, Sources, Sinks, Forks, Joins, Merges, Toggles, Waits, Sequencers}
use Rattle.basic_kinds.specs.Sums.{Counted, One, Wide, Wait, Sequencer, so_many}
use Rattle.count_sum.specs.declared.counts.Counts.{Counts}
use Rattle.count_sum.specs.declared.counts.Sort.{Sort as SortName}
use Rattle.count_sum.specs.declared.counts.Sort.TheVariants as name
use Rattle.count_sum.specs.declared.parts.Part.{Part}
use Rattle.count_sum.specs.declared.parts.Part.TheVariants as part

abbrev pub sort_of : SortName → Sort
sort_of name.Wire = Wires
sort_of name.Iwire = Iwires
sort_of name.Source = Sources
sort_of name.Sink = Sinks
sort_of name.Fork = Forks
sort_of name.C = Joins
sort_of name.Merge = Merges
sort_of name.Toggle = Toggles
sort_of name.Dw = Waits
sort_of name.Seq = Sequencers

-- so many more of one sort
abbrev pub added : Sort → ℕ → Counts → Counts
added Wires n k = record k { wire = k.wire + n }
added Iwires n k = record k { iwire = k.iwire + n }
added Sources n k = record k { source = k.source + n }
added Sinks n k = record k { sink = k.sink + n }
added Forks n k = record k { fork = k.fork + n }
added Joins n k = record k { c = k.c + n }
added Merges n k = record k { merge = k.merge + n }
added Toggles n k = record k { toggle = k.toggle + n }
added Waits n k = record k { dw = k.dw + n }
added Sequencers n k = record k { seq = k.seq + n }

-- what the code counts, as it is meant
abbrev pub counted_of : Part → Counted
counted_of (part.One s) = One (sort_of s)
counted_of (part.Wide s n) = Wide (sort_of s) n
counted_of (part.Wait rows cols cross) = Wait rows cols cross
counted_of (part.Sequencer k) = Sequencer k

-- one of the sort, if there is one
abbrev pub one_of : Option SortName → Sort → ℕ
one_of None t = 0
one_of (Some s) t = so_many 1 (sort_of s) t
