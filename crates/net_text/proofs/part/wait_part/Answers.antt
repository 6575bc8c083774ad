use Rattle.std.proofs.Common.{refl, arith}
use Rattle.net_text.proofs.part.wait_part.Goals as goal

pub returns-clause-some : goal.returns-clause-some
returns-clause-some c = record {
  shape = _;
  is = refl;
  rows = refl;
  cols = refl;
  cross = c.from_vec-cross.ensures;
  ins = c.if-rows-cols.false;
  outs = omega (arith, c.if-len-wires.false, c.len.ensures, c.len-2.ensures, c.requires.front);
  few = omega (arith, c.requires.few);
}
