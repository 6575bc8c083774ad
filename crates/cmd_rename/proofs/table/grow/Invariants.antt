use Rattle.std.proofs.Common.{◌≡◌, ℕ, ◌+◌, ◌-◌, ◌<◌, map, length}
use Rattle.cmd_rename.specs.Table.{entry}
use Rattle.cmd_rename.specs.Mirror.Rounds.{shown, AreOld}
use Rattle.cmd_rename.proofs.table.grow.Given as goal

abbrev pub invariant-loop-entries : goal.invariant-loop-entries
invariant-loop-entries l = record {
  same : (round a : ℕ) → 0 < round → entry (map (shown round) l.entries.items) a ≡ entry (map (shown round) l.initial.entries.items) a;
  old : (round : ℕ) → AreOld round l.initial.entries.items → AreOld round l.entries.items;
}

abbrev pub decreases-loop-entries : goal.decreases-loop-entries
decreases-loop-entries l = l.index + 1 - length l.entries.items
