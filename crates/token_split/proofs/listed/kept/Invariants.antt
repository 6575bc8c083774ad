use Rattle.std.proofs.Common.{◌≡◌, ◌++◌, map, filter, drop}
use Rattle.token_split.specs.TokenChart as web
use Rattle.token_split.specs.Mirror.TokenTables.{links_by, name_of}
use Rattle.token_split.proofs.listed.kept.Given as goal

abbrev pub invariant-loop-part : goal.invariant-loop-part
invariant-loop-part l = map name_of l.parts.items ++ filter (web.is_kept (links_by l.tables)) (map name_of (drop l.part-index l.all)) ≡ filter (web.is_kept (links_by l.tables)) (map name_of l.all)
