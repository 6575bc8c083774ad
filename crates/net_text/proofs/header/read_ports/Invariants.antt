use Rattle.std.proofs.Common.{◌≡◌, ℕ, ◌+◌, List, ◌++◌, ◌≤◌, length, drop}
use Rattle.net_text.specs.declared.refusal.NetRefusal.{NetRefusal}
use Rattle.net_text.specs.NetFault.{IsFirstFault, port_lines, behind_spec}
use Rattle.net_text.specs.Mirror.Stages.{text_of}
use Rattle.net_text.proofs.header.read_ports.Given as goal

-- the lines from here on are still to be read, and the fault of the rest is that of the text
abbrev pub invariant-loop-index : goal.invariant-loop-index
invariant-loop-index l = record {
  text : (t : List ℕ) → l.rest ≡ text_of (drop l.index (port_lines l.command)) ++ t → l.text ≡ text_of (port_lines l.command) ++ t;
  faults : (r : NetRefusal) → IsFirstFault (behind_spec l.command (drop l.index (port_lines l.command))) (3 + l.index) l.rest r
      → IsFirstFault (behind_spec l.command (port_lines l.command)) 3 l.text r;
  shorter : length l.rest ≤ length l.text;
}
