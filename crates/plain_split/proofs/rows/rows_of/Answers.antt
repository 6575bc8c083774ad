use Rattle.std.proofs.Common.{map, sym, ap, ◌∙◌}
use Rattle.std.proofs.lemmas.List.{drop_all}
use Rattle.plain_split.specs.Mirror.Rows.{with_links}
use Rattle.plain_split.proofs.RowsFilled.{rows_filled}
use Rattle.plain_split.proofs.rows.rows_of.Goals as goal

pub returns : goal.returns
returns c =
    ap (λ ls. with_links ls (map (λ v. v.items) c.loop-link.rows.items)) (sym (drop_all c.loop-link.link-index c.args.links.now c.loop-link-test.false))
    ∙ c.loop-link.invariant ∙ rows_filled c.args.links.now c.args.many
