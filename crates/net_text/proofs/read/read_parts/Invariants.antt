use Rattle.std.proofs.Common.{◌≡◌, ◌+◌, ◌≤◌, [], ◌++◌, length}
use Rattle.std.specs.Prelude.{flat_map}
use Rattle.std.specs.List.{AllByRecursion}
use Rattle.cmd_tree.specs.declared.command.Command.{Command}
use Rattle.cmd_tree.specs.declared.limits.TheConstants.{MAX_COMPONENTS, MAX_NETLIST_WIRES}
use Rattle.net_text.specs.declared.refusal.NetRefusal.{NetRefusal}
use Rattle.net_text.specs.NetText.{node_line}
use Rattle.net_text.specs.NetFault.{Parts, IsPart, IsFirstFault, with_parts}
use Rattle.net_text.proofs.read.read_parts.Given as goal

abbrev pub invariant-loop-line : goal.invariant-loop-line
invariant-loop-line l = record {
  spec : l.builder.spec ≡ l.initial.builder.spec;
  known : l.wires ≡ l.builder.wires;
  wires : l.builder.wires ≡ with_parts l.initial.builder.wires l.builder.parts;
  small : l.builder.wires ≤ MAX_NETLIST_WIRES;
  count : l.count ≡ length l.builder.parts;
  few : length l.builder.parts ≤ MAX_COMPONENTS;
  good : AllByRecursion IsPart l.builder.parts;
  text : l.text ≡ flat_map node_line l.builder.parts ++ l.rest;
  faults : (c : Command) (r : NetRefusal) → IsFirstFault (Parts c l.builder.parts) l.number l.rest r → IsFirstFault (Parts c []) l.first l.text r;
  room : l.number + length l.rest ≤ l.first + length l.text;
}

abbrev pub decreases-loop-line : goal.decreases-loop-line
decreases-loop-line l = length l.rest
