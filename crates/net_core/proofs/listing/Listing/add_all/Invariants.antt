use Rattle.std.proofs.Common.{◌≡◌, drop}
use Rattle.net_core.specs.Walk.{with_new}
use Rattle.net_core.proofs.listing.Listing.add_all.Given as goal

abbrev pub invariant-loop-number : goal.invariant-loop-number
invariant-loop-number l = record {
  same : l.self.bound ≡ l.fn.self.bound;
  rest : with_new l.self.numbers (drop l.number-index l.numbers) ≡ with_new l.fn.self.numbers l.numbers;
}
