use Rattle.std.proofs.Common.{◌≡◌, ◌+◌, ℕ, suc, map, ap, ◌∙◌, arith}
use Rattle.plain_split.specs.Mirror.RoundsTables.{parts_by, next_after, before_puts, put_numbers}
use Rattle.plain_split.proofs.JoinedSteps.{table_more}
use Rattle.plain_split.proofs.round_numbers.all_puts.Goals as goal

pub loop-act-preserved : goal.loop-act-preserved
loop-act-preserved c =
    let y = c.loop-act.act in
    let r = parts_by c.args.parts.now in
    let next : suc y ≡ y + 1 = omega arith in
    record {
      puts = ap (map (λ v. v.items)) c.in_ok-push.ensures.items
          ∙ table_more (λ v. v.items) (put_numbers r) c.loop-act.puts.items c.in_ok-numbers.numbers y c.loop-act.invariant.puts c.in_ok-numbers.ensures.numbers;
      next = c.in_ok-numbers.ensures.next ∙ ap (λ (k : ℕ). next_after r (before_puts r k)) next;
    }
