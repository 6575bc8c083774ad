use Rattle.std.proofs.Common.{◌+◌, ◌*◌}
use Rattle.count_sum.proofs.sequencers.+split_sequencers.Given as goal

abbrev pub decreases-add_sequencer : goal.decreases-add_sequencer
decreases-add_sequencer l = 2 * l.requests

abbrev pub decreases-add_requests : goal.decreases-add_requests
decreases-add_requests l = 2 * l.requests + 1
