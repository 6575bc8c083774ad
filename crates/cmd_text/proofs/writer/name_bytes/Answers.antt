use Rattle.std.proofs.Common.{sym}
use Rattle.cmd_text.proofs.Joined.{name_none}
use Rattle.cmd_text.proofs.writer.name_bytes.Goals as goal

pub returns-in-None : goal.returns-in-None
returns-in-None c = name_none c.args.names.now c.args.sym.0 (sym (rw c.in-None.is at c.get.ensures))
