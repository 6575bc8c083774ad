use Rattle.std.proofs.Common.{◌≡◌, ℕ, ◌<◌, ◌++◌, map, take}
use Rattle.std.specs.List.{AllByRecursion}
use Rattle.cmd_tree.specs.Lists.{is_in}
use Rattle.cmd_machine.specs.Mirror.Walkers.{row_at}
use Rattle.cmd_machine.proofs.Noting.{noted}
use Rattle.cmd_machine.proofs.users.note.Given as goal

-- the symbols so far are noted
abbrev pub invariant-loop-symbol : goal.invariant-loop-symbol
invariant-loop-symbol l = ((a : ℕ) → AllByRecursion (λ i. i < l.process) (row_at (map (λ row. row.items) l.fn.users.items) a))
    → (a : ℕ) → row_at (map (λ row. row.items) l.users.items) a
    ≡ row_at (map (λ row. row.items) l.fn.users.items) a ++ noted (is_in a (take l.symbol-index l.symbols)) l.process
