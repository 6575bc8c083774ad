-- Networks that take each of n inputs once, then give each of m outputs once, and so on.
use Rattle.std.specs.Prelude.{ℕ, suc, zero, ◌+◌, [], ◌∷◌, ◌++◌}
use Rattle.std.specs.List.{range_with_len}
use Rattle.basic_kinds.specs.declared.kind.Kind.{Kind}
use Rattle.basic_kinds.specs.declared.kind.Kind.TheVariants.{Wire, Fork, C}
use Rattle.net_core.specs.declared.spec.NodeSpec.{NodeSpec}
use Rattle.net_core.specs.declared.spec.NodeSpec.TheVariants.{Kind as Basic}
use Rattle.net_core.specs.Wiring.{Circuit}

-- one component, whose ports are joined to those of the environment in order
abbrev pub one_net : NodeSpec → Kind → ℕ → Circuit
one_net s kind wires = record {
  nodes = record { spec = s; ends = range_with_len 0 wires } ∷ record { spec = Basic kind; ends = range_with_len 0 wires } ∷ [];
  wires = wires;
}

-- a C whose output is the input of a FORK
abbrev pub join_fork_net : NodeSpec → ℕ → ℕ → Circuit
join_fork_net s n m = record {
  nodes = record { spec = s; ends = range_with_len 0 (n + m) }
      ∷ record { spec = Basic (C n); ends = range_with_len 0 n ++ (n + m) ∷ [] }
      ∷ record { spec = Basic (Fork m); ends = (n + m) ∷ range_with_len n m }
      ∷ [];
  wires = n + m + 1;
}

-- a WIRE for one input and one output, a FORK for more outputs, a C for more inputs, and both for more of both
abbrev pub rounds_net : NodeSpec → ℕ → ℕ → Circuit
rounds_net s zero m = join_fork_net s zero m
rounds_net s (suc n) zero = join_fork_net s (suc n) zero
rounds_net s (suc zero) (suc zero) = one_net s Wire 2
rounds_net s (suc zero) (suc (suc m)) = one_net s (Fork (suc (suc m))) (suc (suc (suc m)))
rounds_net s (suc (suc n)) (suc zero) = one_net s (C (suc (suc n))) (suc (suc (suc n)))
rounds_net s (suc (suc n)) (suc (suc m)) = join_fork_net s (suc (suc n)) (suc (suc m))
