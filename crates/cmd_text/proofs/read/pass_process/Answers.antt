use Rattle.std.proofs.Common.{sym, ◌∙◌, ap}
use Rattle.cmd_text.specs.Mirror.Reader.{AfterFactor}
use Rattle.cmd_text.specs.Mirror.ReaderView.{partly_of, answer_from}
use Rattle.cmd_text.proofs.read.pass_process.Goals as goal

pub returns-clause-ok : goal.returns-clause-ok
returns-clause-ok c = λ ss. c.in-Ok.ensures.ok (partly_of ss c.args.partly)
    ∙ ap (λ p. answer_from c.read_process.new.names (AfterFactor p) c.in-Ok.behind.next c.args.bytes.now) (sym (c.in-Ok-push_factor.ensures ss))
