use Rattle.std.proofs.Common.{◌≡◌, drop}
use Rattle.cmd_text.specs.Scan.{InComment, scan}
use Rattle.cmd_text.proofs.scan.comment_end.Given as goal

abbrev pub invariant-loop-i : goal.invariant-loop-i
invariant-loop-i l = scan InComment l.fn.from (drop l.fn.from l.bytes) ≡ scan InComment l.i (drop l.i l.bytes)
