-- The entries of a table that count: those that were put in its round.
use Rattle.std.specs.Prelude.{ℕ, ◌<◌, ◌≤◌, nat_eq, List, Option, Some, None, if◌then◌else◌}
use Rattle.std.specs.List.{AllByRecursion}
use Rattle.cmd_rename.specs.declared.table.Entry.{Entry}

abbrev pub shown : ℕ → Entry → Option ℕ
shown round e = if nat_eq e.round round then Some e.number else None

-- no entry is of a later round
abbrev pub AreOld : ℕ → List Entry → Type 0
AreOld round es = AllByRecursion (λ e. e.round ≤ round) es

-- and the first round is 1
abbrev pub IsRound : ℕ → List Entry → Type 0
IsRound round es = (0 < round) × AreOld round es
