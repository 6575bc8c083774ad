use Rattle.std.proofs.Common.{◌≡◌, map, take, get_or}
use Rattle.net_core.specs.Wiring.{moved}
use Rattle.substitute.proofs.renumber.moved_nodes.Given as goal

abbrev pub invariant-loop-node : goal.invariant-loop-node
invariant-loop-node l = l.copies.items ≡ map (moved (λ w. get_or l.table w 0)) (take l.node-index l.nodes)
