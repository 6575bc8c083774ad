use Rattle.std.specs.Prelude.{◌-◌, take, drop}
use Rattle.di_compile.specs.Mirror.InPlaces.{AreInPlaces}
use Rattle.di_compile.proofs.build.part_nets.Given as goal

abbrev pub invariant-loop-node : goal.invariant-loop-node
invariant-loop-node l = AreInPlaces (take (l.node - 1) (drop 1 l.fn.weave.nodes)) l.parts.items
