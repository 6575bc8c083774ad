use Rattle.std.proofs.Common.{arith}
use Rattle.cmd_tree.proofs.RoundsPorts.{rounds_ports}
use Rattle.basic_kinds.proofs.laws.rounds_law.Goals as goal

pub returns-clause-wire : goal.returns-clause-wire
returns-clause-wire c = λ t. rounds_ports 1 1 (omega arith) (omega arith) t

pub returns-clause-fork : goal.returns-clause-fork
returns-clause-fork c = λ n t h. rounds_ports 1 n (omega arith) h t

pub returns-clause-join : goal.returns-clause-join
returns-clause-join c = λ n t h. rounds_ports n 1 h (omega arith) t
