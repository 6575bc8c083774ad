use Rattle.seq_tree.proofs.SequencerSplits.{sequencer_splits}
use Rattle.seq_tree.proofs.laws.sequencer_law.Goals as goal

pub returns : goal.returns
returns c = sequencer_splits
