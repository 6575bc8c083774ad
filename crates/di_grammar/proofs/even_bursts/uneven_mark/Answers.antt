use Rattle.std.proofs.Common.{arith}
use Rattle.tree_walk.specs.Mirror.Table.{entry_of}
use Rattle.di_grammar.proofs.UnevenSteps.{tells_repeated, tells_new, repeats_first}
use Rattle.di_grammar.proofs.even_bursts.uneven_mark.Goals as goal

pub returns-then-earlier-place-clause-told : goal.returns-then-earlier-place-clause-told
returns-then-earlier-place-clause-told c = λ ms at dir tells.
    repeats_first c.args.place ms c.args.mark c.args.here c.of-earlier.result at c.if-earlier-place.true
    (rw c.of-earlier.ensures (tells c.args.mark.sym.0))

pub returns-then-earlier-place-clause-first : goal.returns-then-earlier-place-clause-first
returns-then-earlier-place-clause-first c = λ ms at small tells.
    tells_repeated c.args.place ms c.args.mark (entry_of c.args.first.now) (omega (arith, c.of-earlier.ensures)) tells

pub returns-then-ne-clause-first : goal.returns-then-ne-clause-first
returns-then-ne-clause-first c = λ ms at small tells.
    tells_new c.args.place ms c.args.mark (entry_of c.args.first.now) (entry_of c.put.new.self) c.args.here at
    (omega (arith, c.of-earlier.ensures)) (c.put.ensures.here small) c.put.ensures.others tells

pub returns-clause-first : goal.returns-clause-first
returns-clause-first c = λ ms at small tells.
    tells_new c.args.place ms c.args.mark (entry_of c.args.first.now) (entry_of c.put.new.self) c.args.here at
    (omega (arith, c.of-earlier.ensures)) (c.put.ensures.here small) c.put.ensures.others tells
