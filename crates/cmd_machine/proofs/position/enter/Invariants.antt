use Rattle.std.proofs.Common.{List}
use Rattle.std.specs.BTreeMap.{get}
use Rattle.place_graph.specs.declared.leg.Leg.{Leg}
use Rattle.cmd_machine.specs.Mirror.Positions.{key_cmp, Finds, FindsLegs, OfLegs}
use Rattle.cmd_machine.proofs.position.enter.Given as goal

-- the marks so far are entered
abbrev pub invariant-loop-index : goal.invariant-loop-index
invariant-loop-index l = (L : List Leg) → FindsLegs L l.fn.spots
    → Finds (OfLegs L l.leg l.index) (get key_cmp l.spots)
