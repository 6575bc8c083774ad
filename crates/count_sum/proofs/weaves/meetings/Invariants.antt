use Rattle.std.proofs.Common.{◌≡◌, false, map, get_or}
use Rattle.std.specs.List.{range_with_len}
use Rattle.count_sum.specs.Mirror.Parts.{counted_of}
use Rattle.count_sum.specs.Mirror.Weaves.{meeting_by}
use Rattle.count_sum.proofs.weaves.meetings.Given as goal

abbrev pub invariant-loop-symbol : goal.invariant-loop-symbol
invariant-loop-symbol l = map counted_of l.parts.items ≡ map (λ a. meeting_by (get_or l.outs a false) (get_or l.made a 0) (get_or l.standing a 0)) (range_with_len 0 l.symbol)
