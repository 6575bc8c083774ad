use Rattle.std.proofs.Common.{◌≡◌, ◌≤◌, ◌-◌, length, drop}
use Rattle.cmd_text.specs.Scan.{Between, scan}
use Rattle.cmd_text.proofs.scan.next_token.Given as goal

abbrev pub invariant-loop-at : goal.invariant-loop-at
invariant-loop-at l = (scan Between l.fn.from (drop l.fn.from l.bytes) ≡ scan Between l.at (drop l.at l.bytes)) × (l.fn.from ≤ l.at) × (l.at ≤ length l.bytes)

abbrev pub decreases-loop-at : goal.decreases-loop-at
decreases-loop-at l = length l.bytes - l.at
