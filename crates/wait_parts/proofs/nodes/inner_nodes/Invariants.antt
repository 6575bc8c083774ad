use Rattle.std.proofs.Common.{◌≡◌, ◌++◌, map, drop}
use Rattle.wait_parts.specs.PartsNet.{part_node}
use Rattle.wait_parts.proofs.nodes.inner_nodes.Given as goal

abbrev pub invariant-loop-part : goal.invariant-loop-part
invariant-loop-part l = l.nodes.items ++ map (part_node l.fn.shape) (drop l.part-index l.parts) ≡ map (part_node l.fn.shape) l.parts
