use Rattle.std.proofs.Common.{◌≡◌, ◌++◌, map, filter, drop}
use Rattle.plain_split.specs.OneWait as web
use Rattle.plain_split.specs.Mirror.OneWaitTables.{links_by, name_of}
use Rattle.plain_split.proofs.listed.kept.Given as goal

abbrev pub invariant-loop-part : goal.invariant-loop-part
invariant-loop-part l = map name_of l.parts.items ++ filter (web.is_kept (links_by l.tables)) (map name_of (drop l.part-index l.all)) ≡ filter (web.is_kept (links_by l.tables)) (map name_of l.all)
