use Rattle.std.proofs.Common.{◌≡◌, drop}
use Rattle.cmd_expand.specs.Names.{with_pairs}
use Rattle.cmd_expand.proofs.names.add_pairs.Given as goal

abbrev pub invariant-loop-rename : goal.invariant-loop-rename
invariant-loop-rename l = with_pairs l.names (drop l.rename-index l.renames) ≡ with_pairs l.initial.names l.renames
