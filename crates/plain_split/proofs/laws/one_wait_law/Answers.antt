use Rattle.std.proofs.Common.{◌∙◌}
use Rattle.plain_split.proofs.PlainCommands.{one_wait_admitted}
use Rattle.plain_split.proofs.OneWaitLaw.{one_wait_right, one_command_right, one_command_wires, command_counted}
use Rattle.plain_split.proofs.OneWaitKinds.{one_wait_kinds}
use Rattle.net_core.specs.declared.spec.NodeSpec.TheVariants.{Cmd}
use Rattle.plain_split.specs.OneWaitCommands.{links_of}
use Rattle.plain_split.proofs.laws.one_wait_law.Goals as goal

pub returns-clause-process : goal.returns-clause-process
returns-clause-process c = one_wait_right

pub returns-clause-admitted : goal.returns-clause-admitted
returns-clause-admitted c = one_wait_admitted

pub returns-clause-command : goal.returns-clause-command
returns-clause-command c = one_command_right

pub returns-clause-wires : goal.returns-clause-wires
returns-clause-wires c = one_command_wires

pub returns-clause-kinds : goal.returns-clause-kinds
returns-clause-kinds c = λ d p h k. one_wait_kinds (Cmd d) (links_of d p) k ∙ command_counted d p h k
