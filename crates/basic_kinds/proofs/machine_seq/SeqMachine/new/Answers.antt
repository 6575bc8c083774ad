use Rattle.basic_kinds.proofs.SeqSteps.{seq_none}
use Rattle.basic_kinds.proofs.machine_seq.SeqMachine.new.Goals as goal

pub returns-clause-stands : goal.returns-clause-stands
returns-clause-stands c =
    seq_none c.in_ok-asked.asked.items c.args.requests (c.in_ok-asked.ensures.items_if_clones_equal (λ y e. e))
