use Rattle.token_split.proofs.TokenLaw.{process_right, token_admitted, net_right, net_wires, net_kinds}
use Rattle.token_split.proofs.laws.token_law.Goals as goal

pub returns-clause-process : goal.returns-clause-process
returns-clause-process c = process_right

pub returns-clause-admitted : goal.returns-clause-admitted
returns-clause-admitted c = token_admitted

pub returns-clause-command : goal.returns-clause-command
returns-clause-command c = net_right

pub returns-clause-wires : goal.returns-clause-wires
returns-clause-wires c = net_wires

pub returns-clause-kinds : goal.returns-clause-kinds
returns-clause-kinds c = net_kinds
