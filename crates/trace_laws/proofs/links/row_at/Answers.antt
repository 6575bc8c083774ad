use Rattle.std.proofs.Common.{◌∙◌, sym}
use Rattle.trace_laws.proofs.Linked.{row_known, same_known}
use Rattle.trace_laws.proofs.links.row_at.Goals as goal

pub returns-in-Some : goal.returns-in-Some
returns-in-Some c = λ W x all p. same_known W x c.index-rows-place.result.items c.as_slice.result.now c.as_slice.ensures.value
    (row_known W x c.args.rows.now c.in-Some.place c.index-rows-place.result all (sym c.in-Some.is ∙ p) c.if-place-rows.true c.index-rows-place.is)
