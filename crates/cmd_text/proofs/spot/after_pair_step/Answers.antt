use Rattle.std.proofs.Common.{◌∙◌, sym, ap, Some}
use Rattle.cmd_text.specs.Mirror.ScanView.{token_of}
use Rattle.cmd_text.specs.Mirror.Reader.{AfterPair, AfterFactor, step}
use Rattle.cmd_text.specs.Mirror.ReaderView.{partly_of}
use Rattle.cmd_text.proofs.spot.after_pair_step.Goals as goal

pub returns-in_ok-partly-in-RightSq : goal.returns-in_ok-partly-in-RightSq
returns-in_ok-partly-in-RightSq c = λ word p number ss. ap (λ t. step number (AfterPair (partly_of ss c.args.partly) c.args.named) (token_of t word) p) c.in-RightSq.is
    ∙ ap (λ q. Some (AfterFactor q)) (sym (c.in_ok-partly-in-RightSq.ensures ss))
