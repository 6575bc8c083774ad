use Rattle.std.proofs.Common.{length, ap, arith}
use Rattle.net_core.proofs.Sizes.{nodes_few}
use Rattle.net_laws.specs.Charts.{charted}
use Rattle.plain_split.specs.RoundsChart.{rounds_chart}
use Rattle.plain_split.specs.Mirror.RoundsTables.{parts_by}
use Rattle.plain_split.proofs.rounds_net.net_of.Goals as goal

pub of_nodes-requires-clause-few : goal.of_nodes-requires-clause-few
of_nodes-requires-clause-few c = omega (
  arith,
  ap length c.in_ok-nodes.ensures,
  nodes_few (charted (rounds_chart (parts_by c.args.parts))) c.requires.right.correct.network.wired c.requires.right.correct.closed,
  c.requires.tabled.ready.few_wires,
)
