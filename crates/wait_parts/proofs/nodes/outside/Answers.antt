use Rattle.std.proofs.Common.{ap, ◌∙◌}
use Rattle.basic_kinds.specs.declared.kind.Kind.TheVariants.{Dw}
use Rattle.net_core.specs.declared.spec.NodeSpec.TheVariants.{Kind as Basic}
use Rattle.wait_parts.proofs.NodeSteps.{dw_copied}
use Rattle.wait_parts.proofs.nodes.outside.Goals as goal

pub returns : goal.returns
returns c =
    ap (λ k. record { spec = Basic k; ends = c.in_ok-wires.wires.items }) (dw_copied c.args.shape.now _ (c.in_ok-cross.ensures ∙ c.as_slice.ensures) _)
    ∙ ap (λ ws. record { spec = Basic (Dw c.args.shape.now); ends = ws }) c.in_ok-wires.ensures
