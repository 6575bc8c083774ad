use Rattle.std.proofs.Common.{◌≡◌, map, take}
use Rattle.cmd_expand.specs.Pairs.{pair_of}
use Rattle.cmd_expand.proofs.pairs.number_pairs.Given as goal

abbrev pub invariant-loop-rename : goal.invariant-loop-rename
invariant-loop-rename l = (l.names ≡ l.initial.names) × (l.pairs.items ≡ map (pair_of l.initial.names) (take l.rename-index l.renames))
