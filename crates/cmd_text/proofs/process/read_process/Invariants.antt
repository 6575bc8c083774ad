use Rattle.std.proofs.Common.{◌≡◌, ◌-◌, ◌≤◌, length}
use Rattle.cmd_text.specs.Mirror.Machine.{AtForm}
use Rattle.cmd_text.specs.Mirror.Reader.{Partly, InProcess}
use Rattle.cmd_text.specs.Mirror.Drafts.{state_of}
use Rattle.cmd_text.specs.Mirror.ReaderView.{answer_from}
use Rattle.cmd_text.proofs.process.read_process.Given as goal

abbrev pub invariant-tokens : goal.invariant-tokens
invariant-tokens l = ((q : Partly) → answer_from l.fn.names (InProcess q AtForm) l.fn.from l.bytes ≡ answer_from l.names (InProcess q (state_of l.draft)) l.next l.bytes)
    × (l.fn.from ≤ l.next) × (l.next ≤ length l.bytes) × (length l.names ≤ l.next)

abbrev pub decreases-tokens : goal.decreases-tokens
decreases-tokens l = length l.bytes - l.next
