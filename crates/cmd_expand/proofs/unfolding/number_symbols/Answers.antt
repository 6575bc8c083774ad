use Rattle.std.proofs.Common.{◌∙◌, sym, ap, arith}
use Rattle.cmd_rename.specs.Table.{or_zero}
use Rattle.cmd_expand.proofs.Shapes.{assigned_end}
use Rattle.cmd_expand.proofs.unfolding.number_symbols.Goals as goal

pub loop-left-init : goal.loop-left-init
loop-left-init c = record {
  few = omega arith;
  few_numbers = omega arith;
  numbers = λ a. ap or_zero (c.clear.ensures a) ∙ sym (assigned_end c.args.symbols.now c.args.numbers.now c.min-left.result a (omega arith));
}
