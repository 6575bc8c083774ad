use Rattle.std.proofs.Common.{◌∙◌, sym, ap, Some}
use Rattle.cmd_text.specs.Mirror.ScanView.{token_of}
use Rattle.cmd_text.specs.Mirror.Reader.{AfterName, AtFactor, step, ended}
use Rattle.cmd_text.specs.Mirror.ReaderView.{partly_of}
use Rattle.cmd_text.proofs.spot.after_name_step.Goals as goal

pub returns-in_ok-partly-in-Par : goal.returns-in_ok-partly-in-Par
returns-in_ok-partly-in-Par c = λ word p number. ap (λ t. step number (AfterName (partly_of c.args.sentences.now c.args.partly) c.args.named) (token_of t word) p) c.in-Par.is
    ∙ ap (λ q. Some (AtFactor q)) (sym (c.in_ok-partly-in-Par.ensures c.args.sentences.now))

pub returns-in_ok-spot-in-Dot : goal.returns-in_ok-spot-in-Dot
returns-in_ok-spot-in-Dot c = λ word p number. ap (λ t. step number (AfterName (partly_of c.args.sentences.now c.args.partly) c.args.named) (token_of t word) p) c.in-Dot.is
    ∙ ap (λ q. Some (ended q)) (sym (c.in_ok-partly-in-Dot.ensures c.args.sentences.now))
    ∙ ap Some (sym c.in_ok-spot-in-Dot.ensures)
