use Rattle.std.proofs.Common.{◌≡◌, map}
use Rattle.net_laws.specs.ForkChain.{each}
use Rattle.plain_split.specs.RoundsChart.{toggles}
use Rattle.plain_split.specs.Mirror.RoundsTables.{parts_by, part_of}
use Rattle.plain_split.proofs.round_nodes.all_toggles.Given as goal

abbrev pub invariant-loop-depth : goal.invariant-loop-depth
invariant-loop-depth l = l.nodes.items ≡ map (part_of (parts_by l.parts)) (each (toggles (parts_by l.parts)) l.depth)
