use Rattle.std.proofs.Common.{◌≡◌, ◌-◌, ◌≤◌, length}
use Rattle.cmd_text.specs.Mirror.Reading.{answer}
use Rattle.cmd_text.specs.Mirror.ReaderView.{spot_of, answer_from}
use Rattle.cmd_text.proofs.read.read_tokens.Given as goal

abbrev pub invariant-loop-advanced : goal.invariant-loop-advanced
invariant-loop-advanced l = (answer_from l.names (spot_of l.sentences l.spot) l.from l.bytes ≡ answer l.bytes) × (l.from ≤ length l.bytes) × (length l.names ≤ l.from)

abbrev pub decreases-loop-advanced : goal.decreases-loop-advanced
decreases-loop-advanced l = length l.bytes - l.from
