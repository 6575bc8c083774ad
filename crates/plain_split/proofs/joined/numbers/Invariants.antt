use Rattle.std.proofs.Common.{◌≡◌, ◌++◌, map, drop}
use Rattle.plain_split.proofs.joined.numbers.Given as goal

abbrev pub invariant-loop-symbol : goal.invariant-loop-symbol
invariant-loop-symbol l = l.all.items ++ map (λ a. a.0) (drop l.symbol-index l.symbols) ≡ map (λ a. a.0) l.symbols
