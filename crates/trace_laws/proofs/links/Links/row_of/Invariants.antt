use Rattle.trace_laws.proofs.Linked.{RowUpTo}
use Rattle.trace_laws.proofs.links.Links.row_of.Given as goal

-- the places so far are in the row
abbrev pub invariant-loop-index : goal.invariant-loop-index
invariant-loop-index l = RowUpTo l.words l.word l.row.items l.index
