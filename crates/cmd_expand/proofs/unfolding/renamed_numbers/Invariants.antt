use Rattle.std.proofs.Common.{◌≡◌, List, map, take}
use Rattle.cmd_rename.specs.Table.{number_by}
use Rattle.cmd_expand.specs.declared.pairs.Pair.{Pair}
use Rattle.cmd_expand.specs.Pairs.{renamed}
use Rattle.cmd_expand.specs.Mirror.Tables.{Renames}
use Rattle.cmd_expand.proofs.unfolding.renamed_numbers.Given as goal

abbrev pub invariant-loop-symbol : goal.invariant-loop-symbol
invariant-loop-symbol l = (pairs : List Pair) → Renames l.fresh pairs → l.found.items ≡ map (λ a. number_by l.numbers (renamed pairs a)) (take l.symbol-index l.symbols)
