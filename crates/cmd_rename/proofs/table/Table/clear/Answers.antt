use Rattle.std.proofs.Common.{◌+◌, arith}
use Rattle.cmd_rename.proofs.Entries.{none_shown}
use Rattle.cmd_rename.proofs.table.Table.clear.Goals as goal

pub returns-else-self : goal.returns-else-self
returns-else-self c = λ a. none_shown (c.self.inside.round + 1) c.self.inside.round c.self.inside.entries.items c.self.invariant.1 (omega arith) a
