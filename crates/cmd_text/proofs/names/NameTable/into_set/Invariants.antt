use Rattle.std.proofs.Common.{◌≡◌, []}
use Rattle.std.specs.List.{fold}
use Rattle.std.specs.Str.{bytes_eq}
use Rattle.indexmap.specs.IndexSet.{insert_key}
use Rattle.cmd_text.proofs.names.NameTable.into_set.Given as goal

abbrev pub invariant-loop-name : goal.invariant-loop-name
invariant-loop-name l = l.set ≡ fold (insert_key bytes_eq) [] l.yielded
