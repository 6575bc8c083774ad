use Rattle.fan_trees.proofs.FanSplits.{fan_splits}
use Rattle.fan_trees.proofs.laws.fan_law.Goals as goal

pub returns : goal.returns
returns c = fan_splits
