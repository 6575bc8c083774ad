use Rattle.std.proofs.Common.{◌≡◌, ◌+◌, length}
use Rattle.basic_kinds.specs.declared.kind.Kind.TheVariants.{Wire}
use Rattle.net_core.specs.declared.spec.NodeSpec.TheVariants.{Kind}
use Rattle.splice_tests.proofs.components.wires_in_a_row.Given as goal

abbrev pub invariant-loop-from : goal.invariant-loop-from
invariant-loop-from l = record {
  spec : l.builder.spec ≡ Kind Wire;
  wires : l.builder.wires ≡ l.many + 1;
  parts : length l.builder.parts ≡ l.from;
}
