use Rattle.std.proofs.Common.{subst, sym}
use Rattle.basic_kinds.specs.Shapes.{IsShape}
use Rattle.wait_parts.specs.PartKind.{shape_from}
use Rattle.wait_parts.proofs.NodeSteps.{dw_made}
use Rattle.wait_parts.proofs.nodes.wait_kind.Goals as goal

pub invariant_of-result : goal.invariant_of-result
invariant_of-result c = record { whole = subst (IsShape c.args.rows c.args.cols) (sym c.in_ok-cross.ensures) (shape_from c.args.rows c.args.cols c.args.cross.now c.requires) }

pub returns : goal.returns
returns c = dw_made c.args.rows c.args.cols _ _ c.in_ok-cross.ensures _
