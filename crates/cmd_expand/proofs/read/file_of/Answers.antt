use Rattle.cmd_expand.proofs.read.file_of.Goals as goal

pub returns-in_default : goal.returns-in_default
returns-in_default c = record {
  some = tt;
  same = λ names sentences text. tt;
  none = λ names sentences text shallow none. c.in_default.not-NoMemory (c.in-Err.ensures.text_read names sentences text shallow);
}
