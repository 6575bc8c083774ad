-- What the network of a weave is worth.
use Rattle.std.proofs.Common.{◌≡◌, ◌<◌, ◌^◌, length, sym, ap, subst, arith}
use Rattle.std.specs.Prelude.{drop}
use Rattle.cmd_tree.specs.declared.command.Command.{Command}
use Rattle.basic_kinds.specs.Sorts.{Sort}
use Rattle.basic_kinds.specs.Sums.{wide_sum}
use Rattle.di_grammar.specs.Admitted.{Admitted}
use Rattle.place_graph.specs.Sums.{command_sum}
use Rattle.net_core.specs.declared.spec.NodeSpec.TheVariants.{Cmd}
use Rattle.net_core.specs.Wiring.{Circuit}
use Rattle.net_core.specs.Networks.{IsClean, Correct}
use Rattle.net_core.specs.Renumbering.{sum_of_parts}
use Rattle.weave_split.specs.WeaveNet.{IsWeaveNet}
use Rattle.weave_split.specs.WeaveParts.{AreParts, part_sum}
use Rattle.weave_split.proofs.WeaveLaw.{circuit_clean, circuit_right}
use Rattle.weave_split.proofs.WeaveCounted.{circuit_parts, circuit_sums}
use Rattle.weave_split.proofs.WeaveWires.{weave_wires}

pub net_few : (c : Command) (net : Circuit) → IsWeaveNet c net → net.wires < 2 ^ 20
net_few c net (alone, are, is) = omega (arith, ap (λ (n : Circuit). n.wires) is, weave_wires c)

module _ (c : Command) (net : Circuit) (admitted : Admitted c.procs) (weave : IsWeaveNet c net) where
  pub net_right : Correct net (Cmd c)
  net_right = let (alone, are, is) = weave in subst (λ (n : Circuit). Correct n (Cmd c)) (sym is) (circuit_right c admitted alone are)

  pub net_clean : IsClean net
  net_clean = let (alone, are, is) = weave in subst IsClean (sym is) (circuit_clean c admitted alone are)

  pub net_parts : AreParts (drop 1 net.nodes)
  net_parts = let (alone, are, is) = weave in subst (λ (n : Circuit). AreParts (drop 1 n.nodes)) (sym is) (circuit_parts c admitted alone are)

  pub net_sums : (s : Sort) → sum_of_parts (part_sum s) net ≡ command_sum wide_sum c.procs (length c.names) s
  net_sums s = let (alone, are, is) = weave in
      subst (λ (n : Circuit). sum_of_parts (part_sum s) n ≡ command_sum wide_sum c.procs (length c.names) s) (sym is) (circuit_sums c admitted alone are s)
