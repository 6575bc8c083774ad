use Rattle.std.proofs.Common.{◌≡◌, map, take}
use Rattle.di_grammar.specs.Sums.{grants}
use Rattle.weave_split.proofs.grants.all_grants.Given as goal

abbrev pub invariant-loop-process : goal.invariant-loop-process
invariant-loop-process l = l.all.items ≡ map grants (take l.process-index l.procs)
