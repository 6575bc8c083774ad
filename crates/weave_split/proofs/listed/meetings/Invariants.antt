use Rattle.std.proofs.Common.{◌≡◌, map}
use Rattle.std.specs.List.{range_with_len}
use Rattle.weave_split.specs.WeaveChart as web
use Rattle.weave_split.specs.Mirror.TieTables.{ties_by, name_of}
use Rattle.weave_split.proofs.listed.meetings.Given as goal

abbrev pub invariant-loop-symbol : goal.invariant-loop-symbol
invariant-loop-symbol l = map name_of l.parts.items ≡ map (web.meeting (ties_by l.tables)) (range_with_len 0 l.symbol)
