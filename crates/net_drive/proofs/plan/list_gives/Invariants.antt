use Rattle.std.proofs.Common.{◌≡◌, true, not, map, get_or}
use Rattle.std.specs.Prelude.{filter}
use Rattle.std.specs.List.{range_with_len}
use Rattle.net_drive.specs.Drawn.{give_of}
use Rattle.net_drive.proofs.plan.list_gives.Given as goal

abbrev pub invariant-loop-symbol : goal.invariant-loop-symbol
invariant-loop-symbol l = l.events.items ≡ map give_of (filter (λ p. not (get_or l.outs.items p true)) (range_with_len 0 l.symbol))
