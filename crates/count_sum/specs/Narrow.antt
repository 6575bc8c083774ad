-- What is counted of decision-waits and sequencers that are narrow.
use Rattle.std.specs.Prelude.{Bool, true, nat_lt, ◌&&◌}
use Rattle.basic_kinds.specs.Sums.{Counted, One, Wide, Wait, Sequencer}

-- a DW of at most two rows and two columns, a SEQ of at most two requests, and all else
abbrev pub is_narrow : Counted → Bool
is_narrow (One s) = true
is_narrow (Wide s n) = true
is_narrow (Wait rows cols cross) = nat_lt rows 3 && nat_lt cols 3
is_narrow (Sequencer k) = nat_lt k 3
