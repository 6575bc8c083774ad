use Rattle.std.proofs.Common.{◌≡◌, map, suc}
use Rattle.std.specs.List.{range_with_len}
use Rattle.plain_split.specs.RoundsNet.{pow}
use Rattle.plain_split.specs.Mirror.RoundsTables.{parts_by, next_after, before_level, level_numbers}
use Rattle.plain_split.proofs.round_numbers.tree.Given as goal

abbrev pub invariant-loop-depth : goal.invariant-loop-depth
invariant-loop-depth l = record {
  places : l.places ≡ pow l.depth;
  levels : map (λ v. v.items) l.levels.items ≡ map (level_numbers (parts_by l.parts)) (range_with_len 0 (suc l.depth));
  next : l.next ≡ next_after (parts_by l.parts) (before_level (parts_by l.parts) l.depth);
}
