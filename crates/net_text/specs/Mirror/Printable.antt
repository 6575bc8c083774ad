-- Mirror of what the code needs of a node to print its line.
use Rattle.std.specs.Prelude.{◌≡◌, length}
use Rattle.net_core.specs.Specs.{outs_of, IsFormed}
use Rattle.net_core.specs.Wiring.{Node}

-- a node with a well-formed kind and one wire at each port
pub record IsPrintable (node : Node) : Type 0 where
  pub sized : length node.ends ≡ length (outs_of node.spec)
  pub formed : IsFormed node.spec
