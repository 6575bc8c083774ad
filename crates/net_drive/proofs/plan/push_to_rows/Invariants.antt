use Rattle.std.proofs.Common.{ℕ, ◌<◌, get_or}
use Rattle.place_graph.specs.Points.{OneOf}
use Rattle.cmd_machine.proofs.Noting.{rows_of}
use Rattle.net_drive.proofs.plan.push_to_rows.Given as goal

abbrev pub invariant-loop-index : goal.invariant-loop-index
invariant-loop-index l = record {
  pushed : (j : ℕ) → j < l.index-index → OneOf (rows_of l.rows.items (get_or l.indices j 0)) l.number;
  kept : (i n : ℕ) → OneOf (rows_of l.fn.rows.items i) n → OneOf (rows_of l.rows.items i) n;
}
