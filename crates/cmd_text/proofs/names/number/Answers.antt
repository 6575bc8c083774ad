use Rattle.std.proofs.Common.{◌∙◌, ap, arith}
use Rattle.std.proofs.lemmas.List.{take_all}
use Rattle.std.specs.List.{fold}
use Rattle.cmd_text.specs.Mirror.Tables.{next_number, number_of}
use Rattle.cmd_text.proofs.names.number.Goals as goal

pub returns : goal.returns
unfolding number_of
returns c = c.loop-byte.invariant ∙ ap (λ xs. fold next_number 0 xs) (take_all c.loop-byte.byte-index c.args.name.now (omega arith))
