use Rattle.std.proofs.Common.{arith}
use Rattle.cmd_tree.proofs.Bursts.{count_append, distinct_once}
use Rattle.cmd_tree.proofs.RoundsRule.{rounds_push, rounds_nil, counts_is}
use Rattle.cmd_tree.proofs.RoundsTraces.{rounds_traces}
use Rattle.cmd_tree.proofs.RoundsPorts.{rounds_ports}
use Rattle.cmd_tree.proofs.laws.rounds_by_counts.Goals as goal

pub returns-clause-symbols : goal.returns-clause-symbols
returns-clause-symbols c = λ ins outs t some_in some_out different. rounds_traces ins outs (λ a. omega (arith, distinct_once a _ different, count_append a ins outs)) some_in some_out t

pub returns-clause-ports : goal.returns-clause-ports
returns-clause-ports c = λ n m t some_in some_out. rounds_ports n m some_in some_out t

pub returns-clause-empty : goal.returns-clause-empty
returns-clause-empty c = rounds_nil

pub returns-clause-push : goal.returns-clause-push
returns-clause-push c = rounds_push

pub returns-clause-counted : goal.returns-clause-counted
returns-clause-counted c = counts_is
