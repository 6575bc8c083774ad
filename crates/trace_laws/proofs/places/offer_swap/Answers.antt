use Rattle.std.proofs.Common.{◌≡◌, ◌∙◌, ◌<◌, ◌+◌, length, sym, subst, arith}
use Rattle.std.specs.List.{Contains}
use Rattle.trace_laws.specs.Listed.{output_by}
use Rattle.trace_laws.specs.Mirror.Faults.{SwapAt}
use Rattle.trace_laws.proofs.Members.{told, told_not}
use Rattle.trace_laws.proofs.Offers.{none_offered, same_offers}
use Rattle.trace_laws.proofs.places.offer_swap.Goals as goal

pub returns-then-is_listed : goal.returns-then-is_listed
returns-then-is_listed c = λ W r. none_offered (SwapAt (output_by c.args.dirs.now) W c.args.word.now c.args.place) c.args.least
    (λ t s. s.missing (subst (Contains W) (sym s.is) (told (c.if-is_listed.ensures W c.args.word.now r s.within))))

pub returns : goal.returns
returns c = λ W r.
    let within : c.args.place + 1 < length c.args.word.now = grind arith in
    same_offers (λ t. t ≡ c.in_ok-other.other) (SwapAt (output_by c.args.dirs.now) W c.args.word.now c.args.place)
    c.args.least c.offer.result
    (λ t e. record {
      within = within;
      alike = grind arith;
      is = e ∙ c.in_ok-other.ensures;
      missing = λ h. told_not (c.if-is_listed.ensures W c.args.word.now r within) (subst (Contains W) (e ∙ c.in_ok-other.ensures) h);
    })
    (λ t s. s.is ∙ sym c.in_ok-other.ensures)
    c.offer.ensures
