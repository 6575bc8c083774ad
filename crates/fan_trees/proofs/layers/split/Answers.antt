use Rattle.fan_trees.proofs.FanSplits.{split_result, wires_result}
use Rattle.fan_trees.proofs.layers.split.Goals as goal

pub returns-clause-split : goal.returns-clause-split
returns-clause-split c = split_result c.args.kind.now c.requires.fan c.requires.formed c.layer.result c.layer.ensures

pub returns-clause-few : goal.returns-clause-few
returns-clause-few c = wires_result c.args.kind.now c.requires.fan c.layer.result c.layer.ensures
