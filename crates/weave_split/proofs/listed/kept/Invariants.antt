use Rattle.std.proofs.Common.{◌≡◌, ◌++◌, map, filter, drop}
use Rattle.weave_split.specs.WeaveChart as web
use Rattle.weave_split.specs.Mirror.TieTables.{ties_by, name_of}
use Rattle.weave_split.proofs.listed.kept.Given as goal

abbrev pub invariant-loop-part : goal.invariant-loop-part
invariant-loop-part l = map name_of l.parts.items ++ filter (web.is_kept (ties_by l.tables)) (map name_of (drop l.part-index l.all)) ≡ filter (web.is_kept (ties_by l.tables)) (map name_of l.all)
