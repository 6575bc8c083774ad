use Rattle.std.proofs.Common.{List, ℕ}
use Rattle.trace_laws.specs.Mirror.Links.{AllKnown}
use Rattle.trace_laws.proofs.links.empty_rows.Given as goal

abbrev pub invariant-loop : goal.invariant-loop
invariant-loop l = (W : List (List ℕ)) → AllKnown W l.rows.items
