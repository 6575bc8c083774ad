use Rattle.std.proofs.Common.{◌≡◌, ℕ, List, [], drop, ap, arith}
use Rattle.std.proofs.lemmas.List.{drop_all}
use Rattle.std.proofs.lemmas.List.FromFn.{fill_by_all}
use Rattle.count_sum.specs.Mirror.Lists.{times}
use Rattle.count_sum.proofs.tally.tally.Goals as goal

pub returns : goal.returns
returns c =
    let numbers : List ℕ = c.args.numbers.now in
    let none : drop c.loop-number.number-index numbers ≡ [] = drop_all c.loop-number.number-index numbers (omega arith) in
    fill_by_all (times numbers) c.loop-number.counts.items c.args.many 0 c.loop-number.invariant.many
    (λ k low. omega (arith, c.loop-number.invariant.counts k low, ap (λ (xs : List ℕ). times xs k) none))
