use Rattle.std.specs.Prelude.{◌-◌, take, drop}
use Rattle.net_layers.specs.Mirror.Laid.{AreLaid}
use Rattle.net_layers.proofs.layers.layers.Given as goal

abbrev pub invariant-loop-node : goal.invariant-loop-node
invariant-loop-node l = AreLaid (take (l.node - 1) (drop 1 l.fn.net.nodes)) l.parts.items
