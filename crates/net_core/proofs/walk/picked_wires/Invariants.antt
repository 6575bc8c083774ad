use Rattle.std.proofs.Common.{◌≡◌, ◌++◌, true, drop}
use Rattle.net_core.specs.Wiring.{picked}
use Rattle.net_core.proofs.walk.picked_wires.Given as goal

abbrev pub invariant-loop-port : goal.invariant-loop-port
invariant-loop-port l = l.picks.items ++ picked true (drop l.port l.outs) (drop l.port l.wires) ≡ picked true l.outs l.wires
