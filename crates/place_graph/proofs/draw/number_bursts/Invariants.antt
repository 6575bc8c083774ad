use Rattle.std.proofs.Common.{◌≡◌, ◌≤◌, length, map, drop}
use Rattle.std.specs.List.{AllByRecursion}
use Rattle.cmd_tree.specs.declared.limits.TheConstants.{MAX_SYMBOLS}
use Rattle.place_graph.specs.Graph.{with_new, same_set, syms, inputs_of, bursts_of}
use Rattle.place_graph.specs.Mirror.Numbers.{AreBurstNumbers, IsInput}
use Rattle.place_graph.proofs.draw.number_bursts.Given as goal

abbrev pub invariant-loop-leg : goal.invariant-loop-leg
invariant-loop-leg l = record {
  few : length l.bursts.bursts ≤ l.leg-index;
  inputs : AllByRecursion (IsInput l.legs) l.bursts.bursts;
  bursts : with_new same_set l.bursts.bursts
      (map (λ k. syms k.marks) (inputs_of (drop l.leg-index l.legs))) ≡ bursts_of l.legs;
  sized : length l.bursts.numbers.items ≡ MAX_SYMBOLS;
  numbers : AreBurstNumbers l.bursts.numbers.items l.bursts.bursts;
}
