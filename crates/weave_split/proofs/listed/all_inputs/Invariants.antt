use Rattle.std.proofs.Common.{◌≡◌, ◌++◌, map, drop}
use Rattle.plain_split.specs.SharedPaths.{joined}
use Rattle.weave_split.specs.WeaveChart as web
use Rattle.weave_split.specs.Mirror.TieTables.{ties_by, wire_of, name_of}
use Rattle.weave_split.proofs.listed.all_inputs.Given as goal

abbrev pub invariant-loop-part : goal.invariant-loop-part
invariant-loop-part l = map wire_of l.wires.items ++ joined (web.inputs (ties_by l.tables)) (map name_of (drop l.part-index l.parts)) ≡ joined (web.inputs (ties_by l.tables)) (map name_of l.parts)
