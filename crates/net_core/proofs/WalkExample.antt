-- A FORK that stands before the C that feeds it: in walk order the C is first.
use Rattle.std.proofs.Common.{◌≡◌, [], ◌∷◌, refl}
use Rattle.basic_kinds.specs.declared.kind.Kind.TheVariants.{Fork, C, Seq}
use Rattle.net_core.specs.declared.spec.NodeSpec.TheVariants.{Kind as Basic}
use Rattle.net_core.specs.Wiring.{Circuit, picked}
use Rattle.net_core.specs.Walk.{walk, walked, with_new}
use Rattle.net_core.specs.Networks.{end_node}

-- The environment has three inputs and two outputs; the third input goes to a component of its own.
abbrev exchanged : Circuit
exchanged = record {
  nodes = record { spec = Basic (Seq 2); ends = 0 ∷ 1 ∷ 2 ∷ 3 ∷ 4 ∷ [] }
      ∷ record { spec = Basic (Fork 2); ends = 5 ∷ 3 ∷ 4 ∷ [] }
      ∷ record { spec = Basic (C 3); ends = 0 ∷ 1 ∷ 2 ∷ 5 ∷ [] }
      ∷ [];
  wires = 6;
}

abbrev in_order : Circuit
in_order = record {
  nodes = record { spec = Basic (Seq 2); ends = 0 ∷ 1 ∷ 2 ∷ 3 ∷ 4 ∷ [] }
      ∷ record { spec = Basic (C 3); ends = 0 ∷ 1 ∷ 2 ∷ 5 ∷ [] }
      ∷ record { spec = Basic (Fork 2); ends = 5 ∷ 3 ∷ 4 ∷ [] }
      ∷ [];
  wires = 6;
}

the_join_is_first : walk exchanged ≡ in_order
unfolding walk walked with_new end_node picked
the_join_is_first = refl
