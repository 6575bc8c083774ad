use Rattle.std.proofs.Common.{◌∙◌, Some, None, true≢false, refl, ap, sym}
use Rattle.std.specs.Option.{is_some}
use Rattle.trace_laws.proofs.Linked.{listed_in, read_at, none_at}
use Rattle.trace_laws.proofs.links.is_listed.Goals as goal

pub returns-in-Some-Some : goal.returns-in-Some-Some
returns-in-Some-Some c = λ W x r l.
    let h = listed_in W x c.args.row.now c.args.index (Some (Some c.in-Some-Some.field-0-0)) r l
    (read_at c.args.row.now c.args.index c.in-Some-Some.field-0.now c.in-Some-Some.ensures.lookup.0 c.in-Some-Some.ensures.lookup.1
    ∙ ap Some c.in-Some-Some.field-0-is) in
    (λ t. h.0 (c.in-Some-Some.field-0-0, refl), λ k. refl)

pub returns-in-Some-None : goal.returns-in-Some-None
returns-in-Some-None c = λ W x r l.
    let h = listed_in W x c.args.row.now c.args.index (Some None) r l
    (read_at c.args.row.now c.args.index c.in-Some-None.field-0.now c.in-Some-None.ensures.lookup.0 c.in-Some-None.ensures.lookup.1
    ∙ ap Some c.in-Some-None.field-0-is) in
    (λ t. absurd (true≢false (sym t)), λ k. absurd (let z = (h.1 k).1 in cc))

pub returns-in-None : goal.returns-in-None
returns-in-None c = λ W x r l. absurd (r.whole c.args.index l (none_at c.args.row.now c.args.index (ap is_some (sym c.in-None.is) ∙ c.get.ensures.lookup.0)))
