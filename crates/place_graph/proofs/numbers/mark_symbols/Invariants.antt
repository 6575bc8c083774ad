use Rattle.std.proofs.Common.{◌≡◌, List, [], ◌∷◌, ◌++◌, length, take}
use Rattle.cmd_tree.specs.declared.tree.Sym.{Sym}
use Rattle.place_graph.specs.Mirror.Numbers.{AreBurstNumbers}
use Rattle.place_graph.proofs.numbers.mark_symbols.Given as goal

abbrev pub invariant-loop-sym : goal.invariant-loop-sym
invariant-loop-sym l = (bursts : List (List Sym)) → l.number ≡ length bursts
    → AreBurstNumbers l.initial.numbers bursts
    → AreBurstNumbers l.numbers (bursts ++ take l.sym-index l.burst ∷ [])
