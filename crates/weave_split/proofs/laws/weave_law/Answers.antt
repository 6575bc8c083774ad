use Rattle.weave_split.proofs.WeaveNets.{net_few, net_right, net_clean, net_parts, net_sums}
use Rattle.weave_split.proofs.laws.weave_law.Goals as goal

pub returns : goal.returns
returns g = record {
  correct = net_right;
  clean = net_clean;
  few = net_few;
  parts = net_parts;
  sums = net_sums;
}
