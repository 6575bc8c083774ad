use Rattle.std.proofs.Common.{List, ℕ, length, refl, sym, ap, ◌∙◌}
use Rattle.di_grammar.specs.Sums.{each_once}
use Rattle.count_sum.proofs.RingSteps.{release_few, release_none, release_is}
use Rattle.count_sum.proofs.rings.release_ring.Goals.{else-seqs-gt1-via-then-seqs-gt1+else-are_loans, else-seqs-gt1-via-else-seqs-gt1}
use Rattle.count_sum.proofs.rings.release_ring.Goals as goal

pub returns-in_ok-returns : goal.returns-in_ok-returns
returns-in_ok-returns c =
    release_is c.args.seqs.now c.if-seqs-gt1.true (sym c.are_loans.ensures ∙ c.if-are_loans.true) (length c.args.seqs.now) c.in_ok-returns.returns refl
    (c.in_ok-returns.ensures ∙ ap (λ (xs : List ℕ). length (each_once xs)) (c.as_slice.ensures.value ∙ c.in_ok-symbols.ensures))

pub returns-else-seqs-gt1 : goal.returns-else-seqs-gt1
returns-else-seqs-gt1 c = elim c.else-seqs-gt1.branch [
  | else-seqs-gt1-via-then-seqs-gt1+else-are_loans w ↦ release_none c.args.seqs.now (sym w.are_loans.ensures ∙ w.if-are_loans.false)
  | else-seqs-gt1-via-else-seqs-gt1 w ↦ release_few c.args.seqs.now w.if-seqs-gt1.false
]
