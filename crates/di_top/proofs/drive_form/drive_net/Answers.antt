use Rattle.std.proofs.Common.{arith}
use Rattle.di_top.proofs.Drives.{few_drawn}
use Rattle.di_top.proofs.drive_form.drive_net.Goals as goal

pub overflow_cast-result : goal.overflow_cast-result
overflow_cast-result c = omega (arith, few_drawn _ _ _ _ _ _ c.in_ok-events.ensures.drawn, c.requires.few, c.len.ensures)

pub overflow_add-result : goal.overflow_add-result
overflow_add-result c = omega (arith, few_drawn _ _ _ _ _ _ c.in_ok-events.ensures.drawn, c.requires.few, c.len.ensures)
