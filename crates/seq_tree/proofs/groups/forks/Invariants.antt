use Rattle.std.proofs.Common.{◌≡◌}
use Rattle.seq_tree.specs.Mirror.GroupNodes.{fork_nodes}
use Rattle.seq_tree.proofs.groups.forks.Given as goal

abbrev pub invariant-loop-count : goal.invariant-loop-count
invariant-loop-count l = l.nodes.items ≡ fork_nodes l.count l.taken l.first l.second
