use Rattle.std.proofs.Common.{◌∙◌}
use Rattle.plain_split.proofs.OneWaitRows.{entries_filled}
use Rattle.plain_split.proofs.joined.all_entries.Goals as goal

pub returns : goal.returns
returns c = λ names.
    entries_filled c.args.graph.now names _ _ _ c.len.result c.in_ok-rows.ensures c.len.ensures (c.as_slice-2.ensures.value ∙ c.in_ok-links.ensures) c.as_slice.ensures
