use Rattle.std.proofs.Common.{refl}
use Rattle.di_grammar.specs.Mirror.Twins.{burst_at}
use Rattle.di_grammar.proofs.Twinning.{against_here, against_later}
use Rattle.di_grammar.proofs.twins.twin_at.Goals as goal

pub returns-then-other-place : goal.returns-then-other-place
returns-then-other-place c = λ all ms equal. against_here all (burst_at c.args.place ms) c.args.other _ equal c.if-other-place.true refl refl refl

pub returns-else-other-place : goal.returns-else-other-place
returns-else-other-place c = λ all ms equal. against_later all (burst_at c.args.place ms) c.args.other equal c.if-other-place.false
