use Rattle.std.proofs.Common.{◌≡◌, drop}
use Rattle.cmd_tree.specs.Limits.{marks_of_all}
use Rattle.net_text.specs.Mirror.Ports.{walk_marks}
use Rattle.net_text.proofs.ports.print_ports.Given as goal

-- the rest is still to be walked
abbrev pub invariant-loop-process : goal.invariant-loop-process
invariant-loop-process g l =
    walk_marks l.command.names (l.printer, l.met) (marks_of_all (drop l.process-index l.process-items))
    ≡ walk_marks l.command.names (l.initial.printer, 0) (marks_of_all l.process-items)
