use Rattle.std.proofs.Common.{◌≡◌, take}
use Rattle.std.specs.List.{fold}
use Rattle.cmd_text.specs.Mirror.Tables.{next_number}
use Rattle.cmd_text.proofs.names.number.Given as goal

abbrev pub invariant-loop-byte : goal.invariant-loop-byte
invariant-loop-byte l = l.number ≡ fold next_number 0 (take l.byte-index l.name)
