use Rattle.cmd_tree.specs.Meaning.{TraceOf}
use Rattle.process_laws.proofs.Shapes.{process_steady}
use Rattle.process_laws.proofs.PhasedTraces.{steady_phased, phased_insensitive}
use Rattle.process_laws.proofs.laws.fair_is_insensitive.Goals as goal

pub returns-clause-phased : goal.returns-clause-phased
returns-clause-phased c = λ out p shaped fair. steady_phased (TraceOf p) out (process_steady out p shaped fair)

pub returns-clause-rules : goal.returns-clause-rules
returns-clause-rules c = λ out p shaped fair. phased_insensitive (TraceOf p) out (steady_phased (TraceOf p) out (process_steady out p shaped fair))
