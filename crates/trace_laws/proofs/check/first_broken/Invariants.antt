use Rattle.std.proofs.Common.{◌<◌, ℕ, List}
use Rattle.std.specs.List.{Contains}
use Rattle.trace_laws.specs.Breaks.{Breaks}
use Rattle.trace_laws.specs.Listed.{output_by}
use Rattle.trace_laws.proofs.check.first_broken.Given as goal

-- the rules so far are kept
abbrev pub invariant-loop-rule : goal.invariant-loop-rule
invariant-loop-rule l = (j : ℕ) → j < l.rule → (u : List ℕ) → Breaks (output_by l.dirs) (Contains l.words) j u → ⊥
