use Rattle.std.proofs.Common.{◌≡◌, ◌++◌, [], Some, ap}
use Rattle.cmd_text.specs.Canonical.{procs_text}
use Rattle.cmd_text.proofs.writer.write_command.Goals as goal

pub returns-in-Ok : goal.returns-in-Ok
returns-in-Ok c = let e : Some c.put_command.new.sink.bytes.items ≡ Some ([] ++ procs_text c.args.command.now.names c.args.command.now.procs) = c.in-Ok.ensures.ok [] (ap Some c.new.ensures.items) in cc
