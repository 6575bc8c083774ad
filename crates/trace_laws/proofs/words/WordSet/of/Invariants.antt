use Rattle.std.proofs.Common.{◌↔◌, ℕ, List, take}
use Rattle.std.specs.List.{Contains}
use Rattle.trace_laws.specs.Listed.{Listed}
use Rattle.trace_laws.proofs.words.WordSet.of.Given as goal

-- the traces so far are in the set
abbrev pub invariant-loop-trace : goal.invariant-loop-trace
invariant-loop-trace l = (t : List ℕ) → Contains l.set.keys t ↔ Listed (take l.trace-index l.traces) t
