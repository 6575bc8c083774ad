use Rattle.std.proofs.Common.{length, refl, sym, ◌∙◌}
use Rattle.count_sum.proofs.RingSteps.{plain_few, plain_none, plain_is}
use Rattle.count_sum.proofs.rings.plain_ring.Goals.{else-seqs-gt1-via-then-seqs-gt1+else-are_gifts, else-seqs-gt1-via-else-seqs-gt1}
use Rattle.count_sum.proofs.rings.plain_ring.Goals as goal

pub returns-then-are_gifts : goal.returns-then-are_gifts
returns-then-are_gifts c = plain_is c.args.seqs.now c.if-seqs-gt1.true (sym c.are_gifts.ensures ∙ c.if-are_gifts.true) (length c.args.seqs.now) refl

pub returns-else-seqs-gt1 : goal.returns-else-seqs-gt1
returns-else-seqs-gt1 c = elim c.else-seqs-gt1.branch [
  | else-seqs-gt1-via-then-seqs-gt1+else-are_gifts w ↦ plain_none c.args.seqs.now (sym w.are_gifts.ensures ∙ w.if-are_gifts.false)
  | else-seqs-gt1-via-else-seqs-gt1 w ↦ plain_few c.args.seqs.now w.if-seqs-gt1.false
]
