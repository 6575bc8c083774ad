use Rattle.std.proofs.Common.{map, ap, ◌∙◌}
use Rattle.place_graph.specs.GraphTraces.{numbers_of}
use Rattle.plain_split.proofs.JoinedSteps.{same_tables}
use Rattle.plain_split.proofs.joined.LinkTables.new.Goals as goal

pub returns : goal.returns
returns c =
    same_tables c.args.graph.now.start
    (c.in_ok-symbols.ensures ∙ ap (map numbers_of) c.as_slice.ensures)
    (c.in_ok-all_leads.ensures c.args.names)
    (c.in_ok-all_entries.ensures c.args.names)
    (c.in_ok-outs.ensures ∙ ap (map (λ y. numbers_of y.outs)) c.as_slice-2.ensures)
    c.in_ok-homes.ensures
    c.in_ok-all_givers.ensures
