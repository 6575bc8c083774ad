use Rattle.std.proofs.Common.{arith, subst, sym}
use Rattle.std.specs.Prelude.{IfOk}
use Rattle.std.proofs.Common.{◌≡◌}
use Rattle.basic_kinds.specs.declared.kind.Kind.{Kind}
use Rattle.token_split.proofs.TokenSteps.{part_two}
use Rattle.token_split.proofs.named.meet_kind.Goals as goal

pub returns-in-len2-up : goal.returns-in-len2-up
returns-in-len2-up c = subst (λ (k : Kind). IfOk c.wait_kind.result (λ it. it ≡ k)) (sym (part_two c.args.rows c.args.cols c.args.cross.now (omega arith))) c.wait_kind.ensures
