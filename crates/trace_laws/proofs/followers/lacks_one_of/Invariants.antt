use Rattle.std.proofs.Common.{◌<◌, ◌++◌, ◌∷◌, [], ℕ, get_or}
use Rattle.std.specs.List.{Contains}
use Rattle.trace_laws.proofs.followers.lacks_one_of.Given as goal

-- the symbols so far may follow
abbrev pub invariant-loop-symbol : goal.invariant-loop-symbol
invariant-loop-symbol l = (k : ℕ) → k < l.symbol-index → Contains l.words (l.word ++ get_or l.row k 0 ∷ [])
