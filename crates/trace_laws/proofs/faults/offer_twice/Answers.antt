use Rattle.std.proofs.Common.{◌≡◌, ◌∙◌, sym, ap, length, arith}
use Rattle.std.proofs.lemmas.List.{take_all}
use Rattle.trace_laws.specs.Mirror.Faults.{TwiceOf}
use Rattle.trace_laws.proofs.Members.{told}
use Rattle.trace_laws.proofs.Offers.{same_offers}
use Rattle.trace_laws.proofs.faults.offer_twice.Goals as goal

pub returns : goal.returns
returns c =
    let e : c.in_ok-copy.copy ≡ c.args.word.now = c.in_ok-copy.ensures ∙ take_all (length c.symbols.result.now) c.args.word.now (omega (arith, ap length c.symbols.ensures)) in
    same_offers (λ t. t ≡ c.in_ok-copy.copy) (TwiceOf c.args.word.now) c.args.least c.offer.result
    (λ t f. (f ∙ e, told c.if-not-ends_twice.ensures)) (λ t (f, d). f ∙ sym e) c.offer.ensures
