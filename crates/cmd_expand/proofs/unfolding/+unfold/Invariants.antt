use Rattle.std.proofs.Common.{◌≡◌, ◌++◌, List, [], length, get_or}
use Rattle.std.specs.List.{AllByRecursion}
use Rattle.cmd_tree.specs.declared.tree.Proc.{Proc}
use Rattle.cmd_expand.specs.Mirror.Plan.{AreLines}
use Rattle.cmd_expand.specs.Mirror.Pieces.{numbered_by, procs_of_stack, IsPieceBelow}
use Rattle.cmd_expand.proofs.unfolding.+unfold.Given as goal

abbrev pub decreases-unfold : goal.decreases-unfold
decreases-unfold l = l.of

abbrev pub invariant-loop-piece : goal.invariant-loop-piece
invariant-loop-piece l = record {
  below : AllByRecursion (IsPieceBelow l.of) l.pieces.items;
  whole : (ms : List (List Proc)) → AreLines ms l.lines → l.procs ++ procs_of_stack ms l.pieces.items ≡ l.initial.procs ++ numbered_by (get_or ms l.of []) l.numbers;
}

abbrev pub decreases-loop-piece : goal.decreases-loop-piece
decreases-loop-piece l = length l.pieces.items
