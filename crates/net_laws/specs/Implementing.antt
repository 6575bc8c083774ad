-- What a network of components is worth to a specification.
use Rattle.net_core.specs.declared.spec.NodeSpec.{NodeSpec}
use Rattle.net_core.specs.Wiring.{Circuit}
use Rattle.net_core.specs.Networks.{IsBasic, IsClean, Correct}

-- the network has kinds alone, no wire from a component to itself, and is correct for s
pub record Implements (c : Circuit) (s : NodeSpec) : Type 0 where
  pub basic : IsBasic c
  pub clean : IsClean c
  pub correct : Correct c s
