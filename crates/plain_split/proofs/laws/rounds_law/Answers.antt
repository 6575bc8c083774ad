use Rattle.std.proofs.Common.{◌∙◌}
use Rattle.plain_split.specs.RoundsCommands.{round_parts}
use Rattle.plain_split.proofs.PlainCommands.{rounds_admitted}
use Rattle.plain_split.proofs.RoundsLaw.{rounds_hold}
use Rattle.plain_split.proofs.RoundsCommand.{rounds_command_right, rounds_command_wires, rounds_command_counted}
use Rattle.plain_split.proofs.RoundsKinds.{rounds_kinds}
use Rattle.plain_split.proofs.laws.rounds_law.Goals as goal

pub returns-clause-process : goal.returns-clause-process
returns-clause-process c = rounds_hold

pub returns-clause-admitted : goal.returns-clause-admitted
returns-clause-admitted c = λ d p k alone admitted other style. rounds_admitted d p alone admitted other k style

pub returns-clause-command : goal.returns-clause-command
returns-clause-command c = rounds_command_right

pub returns-clause-wires : goal.returns-clause-wires
returns-clause-wires c = rounds_command_wires

pub returns-clause-kinds : goal.returns-clause-kinds
returns-clause-kinds c = λ d p e h k. rounds_kinds (round_parts d p e) k ∙ rounds_command_counted d p e h k
