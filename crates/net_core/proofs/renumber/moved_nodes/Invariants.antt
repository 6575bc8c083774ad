use Rattle.std.proofs.Common.{◌≡◌, ◌++◌, drop, get_or}
use Rattle.net_core.specs.Walk.{moved_all}
use Rattle.net_core.proofs.renumber.moved_nodes.Given as goal

abbrev pub invariant-loop-number : goal.invariant-loop-number
invariant-loop-number l =
    l.copies.items ++ moved_all (λ w. get_or l.table w 0) l.net (drop l.number-index l.numbers) ≡ moved_all (λ w. get_or l.table w 0) l.net l.numbers
