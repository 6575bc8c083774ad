use Rattle.std.proofs.Common.{◌≡◌, map, filter}
use Rattle.std.specs.Prelude.{not}
use Rattle.std.specs.List.{range_with_len}
use Rattle.weave_split.specs.WeaveChart as web
use Rattle.weave_split.specs.Mirror.TieTables.{ties_by, name_of}
use Rattle.weave_split.proofs.listed.processes.Given as goal

abbrev pub invariant-loop-process : goal.invariant-loop-process
invariant-loop-process l = map name_of l.parts.items ≡ map web.Process (filter (λ p. not ((ties_by l.tables).grants p)) (range_with_len 0 l.process))
