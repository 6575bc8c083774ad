use Rattle.std.proofs.Common.{map, ap, ◌∙◌}
use Rattle.plain_split.specs.Mirror.Rows.{first_or}
use Rattle.plain_split.proofs.OneWaitRows.{homes_filled}
use Rattle.plain_split.proofs.joined.homes.Goals as goal

pub returns : goal.returns
returns c =
    homes_filled c.args.graph.now c.args.names _ _ _ _ c.len.result
    (c.in_ok-all.ensures ∙ ap (λ rows. map (first_or c.len.result) (map (λ v. v.items) rows)) c.as_slice-2.ensures.value)
    c.in_ok-rows.ensures (c.as_slice.ensures.value ∙ c.in_ok-links.ensures) c.requires.symbols c.len.ensures
