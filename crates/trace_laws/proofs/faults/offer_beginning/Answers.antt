use Rattle.std.proofs.Common.{◌<◌, length, ap, subst, arith}
use Rattle.std.specs.List.{Contains}
use Rattle.trace_laws.proofs.Shown.{first_missing, all_listed}
use Rattle.trace_laws.proofs.faults.offer_beginning.Goals as goal

pub returns-then-size-symbols : goal.returns-then-size-symbols
returns-then-size-symbols c = λ W f e.
    let within : c.listed_size-size.result < length c.args.word.now = omega (arith, c.if-size-symbols.true, ap length c.symbols.ensures) in
    first_missing W c.args.word.now c.listed_size-size.result c.in_ok-front.front c.args.least c.offer.result within c.in_ok-front.ensures
    (λ h. c.listed_size-size.ensures.missing W f e within (subst (Contains W) c.in_ok-front.ensures h)) (c.listed_size-size.ensures.shorter W f e) c.offer.ensures

pub returns : goal.returns
returns c = λ W f e. all_listed W c.args.word.now c.listed_size-size.result c.args.least
    (omega (arith, c.if-size-symbols.false, ap length c.symbols.ensures)) (c.listed_size-size.ensures.shorter W f e)
