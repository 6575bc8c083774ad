use Rattle.std.proofs.Common.{◌≡◌, false, get_or, sym, ap, ◌∙◌, arith}
use Rattle.plain_split.specs.RoundsChart.{is_single}
use Rattle.plain_split.specs.Mirror.RoundsTables.{parts_by}
use Rattle.plain_split.proofs.RoundsRead.{one_many, single_one_of, single_first}
use Rattle.plain_split.proofs.RoundsBlocks.{top_single, top_many}
use Rattle.plain_split.proofs.round_numbers.top_number.Goals as goal

pub returns-in-len1-clause-number : goal.returns-in-len1-clause-number
returns-in-len1-clause-number c =
    let burst = sym c.as_slice.ensures.value ∙ single_first c.as_slice.result.now c.in-len1.len_at_least c.in-len1.len_below in
    sym (top_single (parts_by c.args.parts.now) c.requires.tabled.ready (get_or c.as_slice.result.now 0 0) burst).0

pub returns-in-len2-up-clause-number : goal.returns-in-len2-up-clause-number
returns-in-len2-up-clause-number c =
    let more : is_single c.args.parts.now.burst.items ≡ false = ap is_single (sym c.as_slice.ensures.value) ∙ single_one_of c.as_slice.result.now ∙ one_many c.as_slice.result.now c.in-len2-up.len_at_least in
    c.pick-in-len2-up.ensures.number ∙ c.requires.next ∙ sym (top_many (parts_by c.args.parts.now) c.requires.tabled.ready more).0

pub returns-in-len2-up-clause-next : goal.returns-in-len2-up-clause-next
returns-in-len2-up-clause-next c =
    let more : is_single c.args.parts.now.burst.items ≡ false = ap is_single (sym c.as_slice.ensures.value) ∙ single_one_of c.as_slice.result.now ∙ one_many c.as_slice.result.now c.in-len2-up.len_at_least in
    omega (arith, c.pick-in-len2-up.ensures.next, c.requires.next, (top_many (parts_by c.args.parts.now) c.requires.tabled.ready more).1)
