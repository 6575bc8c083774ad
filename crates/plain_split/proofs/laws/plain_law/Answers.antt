use Rattle.plain_split.proofs.PlainCommands.{plain_right, plain_wires, plain_kinds}
use Rattle.plain_split.proofs.laws.plain_law.Goals as goal

pub returns-clause-command : goal.returns-clause-command
returns-clause-command c = plain_right

pub returns-clause-wires : goal.returns-clause-wires
returns-clause-wires c = plain_wires

pub returns-clause-kinds : goal.returns-clause-kinds
returns-clause-kinds c = plain_kinds
