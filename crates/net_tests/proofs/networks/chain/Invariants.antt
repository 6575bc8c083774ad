use Rattle.std.proofs.Common.{◌≡◌, ◌+◌, length}
use Rattle.basic_kinds.specs.declared.kind.Kind.TheVariants.{Wire}
use Rattle.net_core.specs.declared.spec.NodeSpec.TheVariants.{Kind}
use Rattle.net_tests.proofs.networks.chain.Given as goal

abbrev pub invariant-loop-behind : goal.invariant-loop-behind
invariant-loop-behind l = record {
  spec : l.builder.spec ≡ Kind Wire;
  wires : l.builder.wires ≡ l.many + 1;
  parts : length l.builder.parts ≡ l.behind;
}
