use Rattle.seq_tree.proofs.SequencerSplits.{split_result, wires_result}
use Rattle.seq_tree.proofs.layers.split.Goals as goal

pub returns-clause-split : goal.returns-clause-split
returns-clause-split c = split_result c.args.kind.now c.requires.sequencer c.requires.formed c.layer_of.result c.layer_of.ensures

pub returns-clause-few : goal.returns-clause-few
returns-clause-few c = wires_result c.args.kind.now c.requires.sequencer c.layer_of.result c.layer_of.ensures
