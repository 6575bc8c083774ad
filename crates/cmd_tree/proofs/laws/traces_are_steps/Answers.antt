use Rattle.cmd_tree.proofs.Paths.{trace_runs}
use Rattle.cmd_tree.proofs.laws.traces_are_steps.Goals as goal

pub returns : goal.returns
returns c = λ p t h. trace_runs p h t
