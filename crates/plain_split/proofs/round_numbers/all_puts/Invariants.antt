use Rattle.std.proofs.Common.{◌≡◌, map}
use Rattle.std.specs.List.{range_with_len}
use Rattle.plain_split.specs.Mirror.RoundsTables.{parts_by, next_after, before_puts, put_numbers}
use Rattle.plain_split.proofs.round_numbers.all_puts.Given as goal

abbrev pub invariant-loop-act : goal.invariant-loop-act
invariant-loop-act l = record {
  puts : map (λ v. v.items) l.puts.items ≡ map (put_numbers (parts_by l.parts)) (range_with_len 0 l.act);
  next : l.next ≡ next_after (parts_by l.parts) (before_puts (parts_by l.parts) l.act);
}
