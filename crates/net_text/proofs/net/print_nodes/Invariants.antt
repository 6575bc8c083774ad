use Rattle.std.proofs.Common.{◌≡◌, drop}
use Rattle.std.specs.Prelude.{flat_map}
use Rattle.di_io.specs.Printing.{prints}
use Rattle.net_text.specs.NetText.{node_line}
use Rattle.net_text.proofs.net.print_nodes.Given as goal

-- the rest is still to be printed
abbrev pub invariant-loop-node : goal.invariant-loop-node
invariant-loop-node g l =
    prints l.printer (flat_map node_line (drop l.node-index l.nodes))
    ≡ prints l.initial.printer (flat_map node_line l.nodes)
