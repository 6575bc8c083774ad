use Rattle.std.specs.Prelude.{◌&&◌, not}
use Rattle.std.proofs.Common.{◌≡◌, true, sym, ap, ◌∙◌}
use Rattle.plain_split.specs.RoundsChart.{is_single, is_out, givers}
use Rattle.plain_split.specs.Mirror.RoundsTables.{parts_by}
use Rattle.plain_split.proofs.RoundsRead.{gives_len, side_true}
use Rattle.plain_split.proofs.round_nodes.is_shown.Goals as goal

pub returns-then-index : goal.returns-then-index
returns-then-index c =
    let r = parts_by c.args.parts.now in
    let v = c.index-then-index.result.now in
    let out : is_out r c.args.symbol ≡ true = side_true c.args.parts.now c.requires.tabled c.args.symbol c.index.result.now c.requires.known c.index.ensures c.if-index.true in
    ap not (sym (gives_len c.args.parts.now c.requires.tabled c.args.symbol v c.len.result c.requires.known c.index-then-index.ensures (c.len.ensures ∙ v.ok.0)))
    ∙ ap (λ b. b && not (is_single (givers r c.args.symbol))) (sym out)
