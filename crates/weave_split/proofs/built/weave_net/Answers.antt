use Rattle.std.proofs.Common.{◌≡◌, ◌<◌, ◌^◌, length}
use Rattle.std.specs.Prelude.{drop}
use Rattle.basic_kinds.specs.Sums.{wide_sum}
use Rattle.place_graph.specs.Sums.{command_sum}
use Rattle.net_core.specs.declared.spec.NodeSpec.TheVariants.{Cmd}
use Rattle.net_core.specs.Wiring.{Circuit}
use Rattle.net_core.specs.Networks.{IsClean, Correct}
use Rattle.net_core.specs.Renumbering.{sum_of_parts}
use Rattle.plain_split.proofs.PlainCommands.{if_ok}
use Rattle.weave_split.specs.WeaveNet.{IsWeaveNet}
use Rattle.weave_split.specs.WeaveParts.{AreParts, part_sum}
use Rattle.weave_split.proofs.WeaveLaw.{circuit_network, circuit_closed}
use Rattle.weave_split.proofs.WeaveWires.{weave_wires}
use Rattle.weave_split.proofs.WeaveNets.{net_few, net_right, net_clean, net_parts, net_sums}
use Rattle.weave_split.proofs.built.weave_net.Goals as goal

pub woven_net-requires-clause-few : goal.woven_net-requires-clause-few
woven_net-requires-clause-few c = weave_wires c.args.command.now

pub woven_net-requires-clause-right : goal.woven_net-requires-clause-right
woven_net-requires-clause-right c = λ alone are. (
  circuit_network c.args.command.now c.requires alone are,
  circuit_closed c.args.command.now c.requires alone are,
)

pub returns : goal.returns
returns c = record {
  net = c.woven_net.ensures;
  correct = if_ok (IsWeaveNet c.args.command.now) (λ net. Correct net (Cmd c.args.command.now)) (λ net w. net_right c.args.command.now net c.requires w) c.woven_net.result c.woven_net.ensures;
  clean = if_ok (IsWeaveNet c.args.command.now) IsClean (λ net w. net_clean c.args.command.now net c.requires w) c.woven_net.result c.woven_net.ensures;
  few = if_ok (IsWeaveNet c.args.command.now) (λ (net : Circuit). net.wires < 2 ^ 20) (λ net w. net_few c.args.command.now net w) c.woven_net.result c.woven_net.ensures;
  parts = if_ok (IsWeaveNet c.args.command.now) (λ (net : Circuit). AreParts (drop 1 net.nodes)) (λ net w. net_parts c.args.command.now net c.requires w) c.woven_net.result c.woven_net.ensures;
  sums = λ s. if_ok (IsWeaveNet c.args.command.now) (λ (net : Circuit). sum_of_parts (part_sum s) net ≡ command_sum wide_sum c.args.command.now.procs (length c.args.command.now.names) s)
      (λ net w. net_sums c.args.command.now net c.requires w s) c.woven_net.result c.woven_net.ensures;
}
