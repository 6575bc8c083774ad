-- The components of a command, of each sort and in all.
use Rattle.std.specs.Prelude.{◌≡◌, ℕ, ◌+◌, ◌<◌, ◌^◌, length}
use Rattle.basic_kinds.specs.Sorts.{Sort, Wires, Iwires, Sources, Sinks, Forks, Joins, Merges, Toggles, Waits, Sequencers}
use Rattle.basic_kinds.specs.Sums.{Counted, wide_sum, two_way_sum}
use Rattle.cmd_tree.specs.declared.command.Command.{Command}
use Rattle.place_graph.specs.Sums.{command_sum}
use Rattle.count_sum.specs.declared.counts.Basis.{Basis}
use Rattle.count_sum.specs.declared.counts.Basis.TheVariants as basis
use Rattle.count_sum.specs.declared.counts.Counts.{Counts}

-- what a sum in the basis counts
abbrev pub sum_in : Basis → Counted → Sort → ℕ
sum_in basis.Wide = wide_sum
sum_in basis.Two = two_way_sum

abbrev pub of_sort : Counts → Sort → ℕ
of_sort k Wires = k.wire
of_sort k Iwires = k.iwire
of_sort k Sources = k.source
of_sort k Sinks = k.sink
of_sort k Forks = k.fork
of_sort k Joins = k.c
of_sort k Merges = k.merge
of_sort k Toggles = k.toggle
of_sort k Waits = k.dw
of_sort k Sequencers = k.seq

abbrev pub all_sorts : (Sort → ℕ) → ℕ
all_sorts f = f Wires + f Iwires + f Sources + f Sinks + f Forks + f Joins + f Merges + f Toggles + f Waits + f Sequencers

-- the components of the command in the basis; 64 bits count them all
pub record AreCounts (c : Command) (b : Basis) (k : Counts) : Type 0 where
  pub each : (s : Sort) → of_sort k s ≡ command_sum (sum_in b) c.procs (length c.names) s
  pub few : all_sorts (of_sort k) < 2 ^ 64
