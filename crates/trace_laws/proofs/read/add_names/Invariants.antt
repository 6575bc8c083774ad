use Rattle.std.proofs.Common.{◌≡◌, ◌+◌, ◌≤◌, length}
use Rattle.std.specs.Option.{option_copied}
use Rattle.trace_laws.specs.Mirror.Reading.{with_names}
use Rattle.text_lines.specs.Pieces.{pieces_left, left_size}
use Rattle.trace_laws.proofs.read.add_names.Given as goal

abbrev pub invariant-loop-rest : goal.invariant-loop-rest
invariant-loop-rest l = record {
  same : with_names l.line l.names (pieces_left 32 (option_copied l.rest)) ≡ with_names l.line l.initial.names (pieces_left 32 (option_copied l.text));
  few : length l.names + left_size (option_copied l.rest) ≤ length l.initial.names + left_size (option_copied l.text);
}

abbrev pub decreases-loop-rest : goal.decreases-loop-rest
decreases-loop-rest l = left_size (option_copied l.rest)
