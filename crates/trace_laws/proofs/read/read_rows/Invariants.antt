use Rattle.std.proofs.Common.{◌≡◌, ◌+◌, ◌≤◌, [], length}
use Rattle.trace_laws.specs.Listed.{rows}
use Rattle.trace_laws.specs.Mirror.Reading.{with_traces}
use Rattle.text_lines.specs.Pieces.{pieces}
use Rattle.trace_laws.proofs.read.read_rows.Given as goal

abbrev pub invariant-loop-more : goal.invariant-loop-more
invariant-loop-more l = record {
  same : with_traces l.line l.names (rows l.traces.items) (pieces 10 l.rest) ≡ with_traces 3 l.initial.names [] (pieces 10 l.text);
  kept : l.names ≡ l.initial.names;
  few : l.line + length l.rest ≤ 3 + length l.text;
}

abbrev pub decreases-loop-more : goal.decreases-loop-more
decreases-loop-more l = length l.rest
