use Rattle.std.proofs.Common.{◌≡◌, []}
use Rattle.std.specs.Option.{option_copied}
use Rattle.trace_laws.specs.Listed.{numbers}
use Rattle.trace_laws.specs.Mirror.Reading.{with_symbols}
use Rattle.text_lines.specs.Pieces.{pieces, pieces_left, left_size}
use Rattle.trace_laws.proofs.read.read_trace.Given as goal

abbrev pub invariant-loop-rest : goal.invariant-loop-rest
invariant-loop-rest l = record {
  same : with_symbols l.line l.names (numbers l.trace.items) (pieces_left 32 (option_copied l.rest)) ≡ with_symbols l.line l.initial.names [] (pieces 32 l.row);
  kept : l.names ≡ l.initial.names;
}

abbrev pub decreases-loop-rest : goal.decreases-loop-rest
decreases-loop-rest l = left_size (option_copied l.rest)
