use Rattle.std.specs.Prelude.{if◌then◌else◌}
use Rattle.std.proofs.Common.{◌≡◌, false, None, sym, ap, ◌∙◌, arith}
use Rattle.plain_split.specs.RoundsChart.{is_single, sole, on_put}
use Rattle.plain_split.specs.Mirror.RoundsTables.{parts_by, end_of}
use Rattle.plain_split.proofs.RoundsRead.{one_many, single_one_of, go_ends_at, outs_row, outs_low}
use Rattle.plain_split.proofs.round_ends.go_end.Goals as goal

pub put_end-requires-clause-known : goal.put_end-requires-clause-known
put_end-requires-clause-known c =
    outs_low c.args.parts.now c.requires.tabled c.args.act 0 c.as_slice.result.now c.requires.known
    (outs_row c.args.parts.now c.requires.tabled c.args.act c.index.result.now c.as_slice.result.now c.requires.known c.index.ensures c.as_slice.ensures.value) (omega arith)

pub returns-in-len2-up : goal.returns-in-len2-up
returns-in-len2-up c =
    let r = parts_by c.args.parts.now in
    let row = outs_row c.args.parts.now c.requires.tabled c.args.act c.index.result.now c.as_slice.result.now c.requires.known c.index.ensures c.as_slice.ensures.value in
    let many : is_single (r.outs c.args.act) ≡ false = ap is_single (sym row) ∙ single_one_of c.as_slice.result.now ∙ one_many c.as_slice.result.now c.in-len2-up.len_at_least in
    sym (go_ends_at c.args.parts.now c.requires.tabled c.args.act ∙ ap (λ b. if b then end_of (on_put r c.args.act (sole (r.outs c.args.act))) else None) many)
