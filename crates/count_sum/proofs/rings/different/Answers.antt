use Rattle.std.proofs.Common.{ℕ, List, Option, ap, ◌∙◌, arith}
use Rattle.std.specs.Prelude.{is_some}
use Rattle.cmd_rename.specs.Table.{entry}
use Rattle.count_sum.proofs.RingSteps.{count_new, count_old, listed_new, listed_old}
use Rattle.count_sum.proofs.rings.different.Goals.{in-None+in_ok-put-in-None, in-Some}
use Rattle.count_sum.proofs.rings.different.Goals as goal

pub loop-index-preserved : goal.loop-index-preserved
loop-index-preserved c =
    let numbers : List ℕ = c.args.numbers.now in
    let i : ℕ = c.loop-index.index in
    let n : ℕ = c.loop-index.count in
    let old : List (Option ℕ) = c.loop-index.listed in
    let v = c.loop-index.invariant in
    elim c.match-get.branch [
      | in-None+in_ok-put-in-None w ↦ record {
        count = w.count-is ∙ count_new numbers i n old (omega arith) v.count v.listed w.in-None.ensures;
        few = omega (arith, w.count-is, v.few);
        listed = λ a. ap (λ (t : List (Option ℕ)). is_some (entry t a)) w.listed-is ∙ listed_new numbers i n old (omega arith) v.count v.listed 0 w.put.new.self w.in_ok-put-in-None.ensures.here w.in_ok-put-in-None.ensures.others a;
      }
      | in-Some w ↦ record {
        count = w.count-is ∙ count_old numbers i n old (omega arith) v.count v.listed _ w.in-Some.ensures;
        few = omega (arith, w.count-is, v.few);
        listed = λ a. ap (λ (t : List (Option ℕ)). is_some (entry t a)) w.listed-is ∙ listed_old numbers i n old (omega arith) v.count v.listed _ w.in-Some.ensures a;
      }
    ]
