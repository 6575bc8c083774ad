use Rattle.std.proofs.Common.{◌≡◌, drop}
use Rattle.text_lines.specs.Decimals.{value_from, value_of}
use Rattle.text_lines.proofs.read.value.Given as goal

-- the rest of the digits is still to come
abbrev pub invariant-loop-digit : goal.invariant-loop-digit
invariant-loop-digit l = value_from l.number (drop l.digit-index l.digits) ≡ value_of l.digits
