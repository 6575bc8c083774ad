use Rattle.std.proofs.Common.{◌≡◌, [], drop}
use Rattle.cmd_expand.specs.Names.{with_names}
use Rattle.cmd_expand.proofs.names.copy_names.Given as goal

abbrev pub invariant-loop-name : goal.invariant-loop-name
invariant-loop-name l = with_names l.table (drop l.name-index l.names) ≡ with_names [] l.names
