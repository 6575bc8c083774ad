use Rattle.std.proofs.Common.{◌<◌, ◌^◌, sym, subst}
use Rattle.cmd_tree.specs.declared.command.Command.{Command}
use Rattle.net_core.specs.declared.spec.NodeSpec.TheVariants.{Cmd}
use Rattle.net_laws.specs.Implementing.{Implements}
use Rattle.plain_split.specs.OneWaitCommands.{HasOneWait}
use Rattle.plain_split.specs.RoundsCommands.{HasRounds}
use Rattle.plain_split.specs.PlainNet.{IsPlainNet, HasCounted}
use Rattle.plain_split.proofs.PlainCommands.{if_ok, plain_right, plain_wires, plain_kinds, has_one, has_rounds, one_result, rounds_result, same_graph}
use Rattle.plain_split.proofs.by_style.plain_net.Goals as goal

pub one_wait-requires : goal.one_wait-requires
one_wait-requires c =
    let (p, h, is) = c.requires in
    (p, subst (λ (d : Command). HasOneWait d p) (sym c.in_ok-copy.ensures) (has_one c.args.spec.now p h c.args.graph.now is c.if-graph-eq1.true), is)

pub rounds-requires : goal.rounds-requires
rounds-requires c =
    let (p, h, is) = c.requires in
    let (e, power, has) = has_rounds c.args.spec.now p h c.args.graph.now is c.if-graph-eq1.false in
    (p, e, subst (λ (d : Command). HasRounds d p e) (sym c.in_ok-copy.ensures) has, is)

pub returns-then-graph-eq1-clause-net : goal.returns-then-graph-eq1-clause-net
returns-then-graph-eq1-clause-net c = λ q k.
    let (p, h, is) = c.requires in
    one_result c.args.spec.now q k c.args.graph.now (same_graph c.args.spec.now p q c.args.graph.now h k is) c.in_ok-copy.copy c.in_ok-copy.ensures c.one_wait.result c.if-graph-eq1.true c.one_wait.ensures

pub returns-then-graph-eq1-clause-right : goal.returns-then-graph-eq1-clause-right
returns-then-graph-eq1-clause-right c =
    let (p, h, is) = c.requires in
    if_ok (IsPlainNet c.args.spec.now p) (λ net. Implements net (Cmd c.args.spec.now)) (λ net i. plain_right c.args.spec.now p net h i) c.one_wait.result
    (one_result c.args.spec.now p h c.args.graph.now is c.in_ok-copy.copy c.in_ok-copy.ensures c.one_wait.result c.if-graph-eq1.true c.one_wait.ensures)

pub returns-then-graph-eq1-clause-few : goal.returns-then-graph-eq1-clause-few
returns-then-graph-eq1-clause-few c =
    let (p, h, is) = c.requires in
    if_ok (IsPlainNet c.args.spec.now p) (λ net. net.wires < 2 ^ 20) (λ net i. plain_wires c.args.spec.now p net h i) c.one_wait.result
    (one_result c.args.spec.now p h c.args.graph.now is c.in_ok-copy.copy c.in_ok-copy.ensures c.one_wait.result c.if-graph-eq1.true c.one_wait.ensures)

pub returns-else-graph-eq1-clause-net : goal.returns-else-graph-eq1-clause-net
returns-else-graph-eq1-clause-net c = λ q k.
    let (p, h, is) = c.requires in
    rounds_result c.args.spec.now q k c.args.graph.now (same_graph c.args.spec.now p q c.args.graph.now h k is) c.in_ok-copy.copy c.in_ok-copy.ensures c.rounds.result c.if-graph-eq1.false c.rounds.ensures

pub returns-else-graph-eq1-clause-right : goal.returns-else-graph-eq1-clause-right
returns-else-graph-eq1-clause-right c =
    let (p, h, is) = c.requires in
    if_ok (IsPlainNet c.args.spec.now p) (λ net. Implements net (Cmd c.args.spec.now)) (λ net i. plain_right c.args.spec.now p net h i) c.rounds.result
    (rounds_result c.args.spec.now p h c.args.graph.now is c.in_ok-copy.copy c.in_ok-copy.ensures c.rounds.result c.if-graph-eq1.false c.rounds.ensures)

pub returns-else-graph-eq1-clause-few : goal.returns-else-graph-eq1-clause-few
returns-else-graph-eq1-clause-few c =
    let (p, h, is) = c.requires in
    if_ok (IsPlainNet c.args.spec.now p) (λ net. net.wires < 2 ^ 20) (λ net i. plain_wires c.args.spec.now p net h i) c.rounds.result
    (rounds_result c.args.spec.now p h c.args.graph.now is c.in_ok-copy.copy c.in_ok-copy.ensures c.rounds.result c.if-graph-eq1.false c.rounds.ensures)

pub returns-then-graph-eq1-clause-kinds : goal.returns-then-graph-eq1-clause-kinds
returns-then-graph-eq1-clause-kinds c = λ q k.
    let (p, h, is) = c.requires in
    if_ok (IsPlainNet c.args.spec.now q) (HasCounted c.args.spec.now q) (λ net i. plain_kinds c.args.spec.now q net k i) c.one_wait.result
    (one_result c.args.spec.now q k c.args.graph.now (same_graph c.args.spec.now p q c.args.graph.now h k is) c.in_ok-copy.copy c.in_ok-copy.ensures c.one_wait.result c.if-graph-eq1.true c.one_wait.ensures)

pub returns-else-graph-eq1-clause-kinds : goal.returns-else-graph-eq1-clause-kinds
returns-else-graph-eq1-clause-kinds c = λ q k.
    let (p, h, is) = c.requires in
    if_ok (IsPlainNet c.args.spec.now q) (HasCounted c.args.spec.now q) (λ net i. plain_kinds c.args.spec.now q net k i) c.rounds.result
    (rounds_result c.args.spec.now q k c.args.graph.now (same_graph c.args.spec.now p q c.args.graph.now h k is) c.in_ok-copy.copy c.in_ok-copy.ensures c.rounds.result c.if-graph-eq1.false c.rounds.ensures)
