use Rattle.trace_laws.specs.Listed.{output_by}
use Rattle.trace_laws.proofs.Siblings.{lacking_none, lacking_some}
use Rattle.trace_laws.proofs.faults.least_both.Goals as goal

pub returns : goal.returns
returns c = lacking_some (output_by c.args.dirs.now) c.args.words.now c.in_ok-after_outputs.after_outputs c.in_ok-lacking.lacking c.in-Some.word
    c.in_ok-least.least c.in_ok-after_outputs.ensures c.in_ok-lacking.ensures c.in-Some.is c.in_ok-least.ensures

pub returns-in_default : goal.returns-in_default
returns-in_default c = lacking_none (output_by c.args.dirs.now) c.args.words.now c.in_ok-after_outputs.after_outputs c.in_ok-lacking.lacking
    c.in_ok-after_outputs.ensures c.in_ok-lacking.ensures c.in_default.is
