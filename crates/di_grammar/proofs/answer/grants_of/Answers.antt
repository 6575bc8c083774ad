use Rattle.std.proofs.Common.{arith, ◌∙◌}
use Rattle.std.proofs.lemmas.List.{length-set}
use Rattle.di_grammar.proofs.Answering.{marked_grants}
use Rattle.di_grammar.proofs.answer.grants_of.Goals as goal

pub loop-index-preserved : goal.loop-index-preserved
loop-index-preserved c = record {
  size = length-set c.loop-index.grants c.loop-index.index c.is_grant.result ∙ c.loop-index.invariant.size;
  told = marked_grants c.loop-index.grants c.args.procs.now c.loop-index.index c.index-procs-index.result c.is_grant.result
      (omega (arith, c.loop-index.invariant.size, c.requires.few_procs, c.loop-index-test.true)) c.loop-index-test.true c.index-procs-index.is c.is_grant.ensures.is
      c.loop-index.invariant.told;
}
