use Rattle.std.proofs.Common.{◌≡◌, ◌+◌, drop}
use Rattle.std.specs.List.{slice_range}
use Rattle.cmd_text.specs.Scan.{InWord, scan}
use Rattle.cmd_text.proofs.scan.word_end.Given as goal

abbrev pub invariant-loop-i : goal.invariant-loop-i
invariant-loop-i l = scan (InWord l.fn.at (slice_range l.bytes l.fn.at (l.fn.at + 1))) (l.fn.at + 1) (drop (l.fn.at + 1) l.bytes) ≡ scan (InWord l.fn.at (slice_range l.bytes l.fn.at l.i)) l.i (drop l.i l.bytes)
