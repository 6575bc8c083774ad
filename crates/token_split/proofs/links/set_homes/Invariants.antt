use Rattle.std.proofs.Common.{◌≡◌, ℕ, ◌<◌, length, get_or, drop}
use Rattle.std.specs.Prelude.{if◌then◌else◌}
use Rattle.cmd_tree.specs.Lists.{is_in}
use Rattle.token_split.proofs.links.set_homes.Given as goal

abbrev pub invariant-loop-symbol : goal.invariant-loop-symbol
invariant-loop-symbol l = (a : ℕ) → a < length l.initial.homes
    → (if is_in a (drop l.symbol-index l.symbols) then l.burst else get_or l.homes a 0) ≡ (if is_in a l.symbols then l.burst else get_or l.initial.homes a 0)
