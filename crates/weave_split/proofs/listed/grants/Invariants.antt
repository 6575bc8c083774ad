use Rattle.std.proofs.Common.{◌≡◌, filter}
use Rattle.std.specs.List.{range_with_len}
use Rattle.weave_split.specs.Mirror.TieTables.{ties_by}
use Rattle.weave_split.proofs.listed.grants.Given as goal

abbrev pub invariant-loop-process : goal.invariant-loop-process
invariant-loop-process l = l.grants.items ≡ filter (ties_by l.tables).grants (range_with_len 0 l.process)
