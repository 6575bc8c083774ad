use Rattle.std.proofs.Common.{arith}
use Rattle.cmd_text.proofs.Numbers.{position_few}
use Rattle.cmd_text.proofs.state.mark.Goals as goal

pub overflow_cast-result : goal.overflow_cast-result
overflow_cast-result c = omega (arith, c.in_ok-index.ensures.index, position_few c.args.names.now c.args.name.now)
