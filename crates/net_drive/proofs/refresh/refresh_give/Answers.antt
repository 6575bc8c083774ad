use Rattle.std.proofs.Common.{◌≡◌, ◌<◌, ◌∙◌, length, vec_len, rules, arith}
use Rattle.net_drive.proofs.SumTrees.{read_is}
use Rattle.net_drive.proofs.Refreshed.{fresh_less}
use Rattle.net_drive.proofs.refresh.refresh_give.Goals as goal

pub returns-then-index-step-clause-asked : goal.returns-then-index-step-clause-asked
returns-then-index-step-clause-asked g c =
    let ts = c.args.known.now.tested in
    let long : vec_len ts ≡ length ts.items = search rules in
    let less : c.args.number < length ts.items = omega (arith, long, c.if-number-len.true, c.len.ensures) in
    let once = fresh_less c.args.step ts.items c.args.number less
    (λ e. c.if-index-step.true (read_is ts.items c.args.number c.index.result.now less c.index.ensures ∙ e)) in
    omega (arith, once, c.refresh.ensures.asked)
