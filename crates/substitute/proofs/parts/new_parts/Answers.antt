use Rattle.std.proofs.Common.{length, ap, ◌∙◌}
use Rattle.std.proofs.lemmas.List.FromFn.{length-map-range_with_len}
use Rattle.substitute.specs.Splice.{renumber_at}
use Rattle.substitute.proofs.Tables.{moved_by_table}
use Rattle.substitute.proofs.parts.new_parts.Goals as goal

pub moved_parts-requires : goal.moved_parts-requires
moved_parts-requires c = ap length (c.deref.ensures.value ∙ c.in_ok-numbers.ensures.table)
    ∙ length-map-range_with_len (renumber_at c.args.ends.now c.args.wires c.args.sub.now) 0
    c.args.sub.now.wires

pub returns-clause-nodes : goal.returns-clause-nodes
returns-clause-nodes c = moved_by_table c.args.ends.now c.args.wires c.args.sub.now
    c.requires.fitting.network c.in_ok-nodes.nodes.items c.deref.result.now
    (c.deref.ensures.value ∙ c.in_ok-numbers.ensures.table) c.in_ok-nodes.ensures
