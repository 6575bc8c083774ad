use Rattle.std.proofs.Common.{◌+◌, drop, ap, ◌∙◌}
use Rattle.net_core.specs.Walk.{with_new}
use Rattle.net_core.specs.Mirror.Walking.{Listing}
use Rattle.net_core.proofs.Listings.{new_step, new_rest, listing_is}
use Rattle.net_core.proofs.listing.Listing.add_all.Goals as goal

pub loop-number-preserved : goal.loop-number-preserved
loop-number-preserved c = record {
  same = ap (λ (l : Listing). l.bound) c.in_ok-add.ensures ∙ c.loop-number.invariant.same;
  rest = ap (λ (l : Listing). with_new l.numbers (drop (c.loop-number.number-index + 1) c.args.numbers.now)) c.in_ok-add.ensures
      ∙ new_step c.loop-number.self.numbers c.args.numbers.now c.loop-number.number-index c.loop-number-test.true
      ∙ c.loop-number.invariant.rest;
}

pub returns : goal.returns
returns c = listing_is c.loop-number.self _
    (new_rest c.loop-number.self.numbers c.args.numbers.now c.loop-number.number-index c.loop-number-test.false ∙ c.loop-number.invariant.rest)
    c.loop-number.invariant.same
