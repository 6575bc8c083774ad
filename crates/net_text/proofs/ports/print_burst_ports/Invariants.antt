use Rattle.std.proofs.Common.{◌≡◌, drop}
use Rattle.net_text.specs.Mirror.Ports.{walk_marks}
use Rattle.net_text.proofs.ports.print_burst_ports.Given as goal

-- the rest is still to be walked
abbrev pub invariant-loop-mark : goal.invariant-loop-mark
invariant-loop-mark g l =
    walk_marks l.names (l.printer, l.met) (drop l.mark-index l.marks)
    ≡ walk_marks l.names (l.initial.printer, l.initial.met) l.marks
