use Rattle.std.proofs.Common.{◌≡◌, subst, sym}
use Rattle.std.specs.Prelude.{IfOk}
use Rattle.basic_kinds.specs.declared.kind.Kind.{Kind}
use Rattle.wait_parts.proofs.NodeSteps.{not_alone}
use Rattle.wait_parts.proofs.nodes.part_kind.Goals as goal

pub returns : goal.returns
returns c = subst (λ (k : Kind). IfOk c.wait_kind.result (λ it. it ≡ k)) (sym (not_alone c.args.rows c.args.cols c.args.cross.now c.if-cross-eq1.false)) c.wait_kind.ensures
