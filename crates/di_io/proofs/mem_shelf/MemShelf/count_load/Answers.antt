use Rattle.std.proofs.Common.{inl, arith}
use Rattle.std.proofs.lemmas.Grind.{common_steps}
use Rattle.di_io.proofs.mem_shelf.MemShelf.count_load.Goals as goal

pub returns-clause-failed : goal.returns-clause-failed
returns-clause-failed c listed name = inl (grind (arith, common_steps))
