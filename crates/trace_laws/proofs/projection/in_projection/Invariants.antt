use Rattle.std.proofs.Common.{◌≡◌, ◌↔◌, drop}
use Rattle.trace_laws.specs.Listed.{numbers, projected}
use Rattle.trace_laws.proofs.projection.in_projection.Given as goal

-- the rest is still to be met
abbrev pub invariant-loop-sym : goal.invariant-loop-sym
invariant-loop-sym l = (numbers l.left ≡ projected l.trace l.kept) ↔ (numbers l.rest ≡ projected (drop l.sym-index l.trace) l.kept)
