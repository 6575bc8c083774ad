use Rattle.std.proofs.Common.{false, refl}
use Rattle.basic_kinds.proofs.MergeSteps.{merge_none}
use Rattle.basic_kinds.proofs.machine_turns.MergeMachine.new.Goals as goal

pub returns-clause-stands : goal.returns-clause-stands
returns-clause-stands c = merge_none c.args.width false refl
