use Rattle.std.proofs.Common.{◌≡◌, ◌+◌, ℕ, suc, map, ap, sym, ◌∙◌, arith}
use Rattle.std.specs.List.{range_with_len}
use Rattle.plain_split.specs.RoundsNet.{pow}
use Rattle.plain_split.specs.Mirror.RoundsTables.{parts_by, next_after, before_level, level_numbers}
use Rattle.plain_split.proofs.JoinedSteps.{table_more}
use Rattle.plain_split.proofs.RoundsBlocks.{level_small}
use Rattle.plain_split.proofs.round_numbers.tree.Goals as goal

pub overflow_mul-places : goal.overflow_mul-places
overflow_mul-places c = omega (arith, c.loop-depth.invariant.places, level_small (parts_by c.args.parts.now) c.requires.tabled.ready c.loop-depth.depth c.loop-depth-test.true)

pub loop-depth-preserved : goal.loop-depth-preserved
loop-depth-preserved c =
    let d = c.loop-depth.depth in
    let r = parts_by c.args.parts.now in
    let next : suc d ≡ d + 1 = omega arith in
    let after : suc d + 1 ≡ suc (d + 1) = omega arith in
    record {
      places = omega (arith, c.loop-depth.invariant.places, ap pow (sym next));
      levels =
          ap (map (λ v. v.items)) c.in_ok-push.ensures.items
          ∙ table_more (λ v. v.items) (level_numbers r) c.loop-depth.levels.items c.in_ok-numbers.numbers (suc d) c.loop-depth.invariant.levels c.in_ok-numbers.ensures.numbers
          ∙ ap (λ (k : ℕ). map (level_numbers r) (range_with_len 0 k)) after;
      next = c.in_ok-numbers.ensures.next ∙ ap (λ (k : ℕ). next_after r (before_level r k)) next;
    }
