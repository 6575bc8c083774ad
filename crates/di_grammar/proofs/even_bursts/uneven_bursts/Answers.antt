use Rattle.std.proofs.Common.{[], refl, arith}
use Rattle.di_grammar.proofs.Firsts.{first_like}
use Rattle.di_grammar.proofs.Laying.{end_of, laid_proc, small_proc}
use Rattle.di_grammar.proofs.UnevenSteps.{none_among, among_of}
use Rattle.di_grammar.proofs.even_bursts.uneven_bursts.Goals as goal

pub returns : goal.returns
returns c =
    let p = c.args.process.now in
    let known = c.walk.ensures.knows [] refl (λ end laid small. record { before = λ a. omega (arith, c.none.ensures a); told = none_among })
    (end_of p) (laid_proc p) (small_proc p c.requires.small) in
    first_like _ _ _ (among_of p) known.told
