use Rattle.cmd_expand.proofs.Alone.{own_command}
use Rattle.cmd_expand.proofs.laws.own_command_law.Goals as goal

pub returns : goal.returns
returns c = own_command
