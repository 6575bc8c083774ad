use Rattle.std.proofs.Common.{sym, ◌∙◌, length}
use Rattle.std.proofs.lemmas.List.FromFn.{length-map-range_with_len}
use Rattle.cmd_tree.specs.Limits.{marks_of_all}
use Rattle.net_core.specs.Specs.{gives_symbol}
use Rattle.net_text.proofs.read.read_from_ports.Goals as goal

pub read_from_parts-requires-clause-sized : goal.read_from_parts-requires-clause-sized
read_from_parts-requires-clause-sized c =
    length-map-range_with_len (gives_symbol (marks_of_all c.args.command.procs)) 0 (length c.args.command.names) ∙ sym c.len-symbols.ensures.len
