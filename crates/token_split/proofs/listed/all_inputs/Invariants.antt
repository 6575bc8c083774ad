use Rattle.std.proofs.Common.{◌≡◌, ◌++◌, map, drop}
use Rattle.plain_split.specs.SharedPaths.{joined}
use Rattle.token_split.specs.TokenChart as web
use Rattle.token_split.specs.Mirror.TokenTables.{links_by, wire_of, name_of}
use Rattle.token_split.proofs.listed.all_inputs.Given as goal

abbrev pub invariant-loop-part : goal.invariant-loop-part
invariant-loop-part l = map wire_of l.wires.items ++ joined (web.inputs (links_by l.tables)) (map name_of (drop l.part-index l.parts)) ≡ joined (web.inputs (links_by l.tables)) (map name_of l.parts)
