use Rattle.std.specs.Prelude.{if◌then◌else◌}
use Rattle.std.proofs.Common.{Some, None, sym, ap, ◌∙◌}
use Rattle.plain_split.proofs.RoundsRead.{one_none, one_yes, one_many, put_end_at}
use Rattle.plain_split.proofs.round_ends.put_end.Goals as goal

pub returns-in-empty : goal.returns-in-empty
returns-in-empty c = λ y.
    sym (put_end_at c.args.parts.now c.requires.tabled y c.args.symbol c.index.result.now c.as_slice.result.now c.requires.known c.index.ensures c.as_slice.ensures.value
    ∙ ap (λ b. if b then Some c.args.symbol else None) (one_none c.as_slice.result.now c.in-empty.len_below))

pub returns-in-len1 : goal.returns-in-len1
returns-in-len1 c = λ y.
    sym (put_end_at c.args.parts.now c.requires.tabled y c.args.symbol c.index.result.now c.as_slice.result.now c.requires.known c.index.ensures c.as_slice.ensures.value
    ∙ ap (λ b. if b then Some c.args.symbol else None) (one_yes c.as_slice.result.now c.in-len1.len_at_least c.in-len1.len_below))

pub returns-in-len2-up : goal.returns-in-len2-up
returns-in-len2-up c = λ y.
    sym (put_end_at c.args.parts.now c.requires.tabled y c.args.symbol c.index.result.now c.as_slice.result.now c.requires.known c.index.ensures c.as_slice.ensures.value
    ∙ ap (λ b. if b then Some c.args.symbol else None) (one_many c.as_slice.result.now c.in-len2-up.len_at_least))
