use Rattle.std.proofs.Common.{◌≡◌, ◌≤◌, List, drop, length}
use Rattle.std.specs.List.{AllByRecursion}
use Rattle.cmd_tree.specs.declared.tree.Proc.{Proc}
use Rattle.cmd_rename.specs.Renaming.{ren_all}
use Rattle.cmd_rename.specs.Table.{number_by}
use Rattle.cmd_expand.specs.Mirror.Plan.{procs_of_parts, AreLines}
use Rattle.cmd_expand.specs.Mirror.Pieces.{procs_of_stack, IsPieceBelow}
use Rattle.cmd_expand.proofs.unfolding.pieces_of.Given as goal

abbrev pub invariant-loop-left : goal.invariant-loop-left
invariant-loop-left l = record {
  few : l.left ≤ length l.line.parts.items;
  symbols : l.tables.symbols ≡ l.initial.tables.symbols;
  below : AllByRecursion (IsPieceBelow l.of) l.pieces.items;
  pieces : (ms : List (List Proc)) → AreLines ms l.lines →
      procs_of_stack ms l.pieces.items ≡ ren_all (number_by l.initial.tables.symbols) (procs_of_parts ms (drop l.left l.line.parts.items));
}

abbrev pub decreases-loop-left : goal.decreases-loop-left
decreases-loop-left l = l.left
