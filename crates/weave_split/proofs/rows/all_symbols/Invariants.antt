use Rattle.std.proofs.Common.{◌≡◌, map, take}
use Rattle.cmd_tree.specs.Limits.{marks_of_proc}
use Rattle.cmd_rename.specs.Symbols.{symbols_in}
use Rattle.weave_split.proofs.rows.all_symbols.Given as goal

abbrev pub invariant-loop-process : goal.invariant-loop-process
invariant-loop-process l = map (λ v. v.items) l.rows.items ≡ map (λ p. symbols_in (marks_of_proc p)) (take l.process-index l.procs)
