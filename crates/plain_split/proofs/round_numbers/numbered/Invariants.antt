use Rattle.std.proofs.Common.{◌≡◌, ◌++◌, ◌+◌, ◌≤◌, drop}
use Rattle.plain_split.specs.Mirror.RoundsTables.{numbered, after_ends}
use Rattle.plain_split.proofs.round_numbers.numbered.Given as goal

abbrev pub invariant-loop-end : goal.invariant-loop-end
invariant-loop-end l = record {
  few : l.next ≤ l.initial.next + l.end-index;
  numbers : l.numbers.items ++ numbered l.next (drop l.end-index l.ends) ≡ numbered l.initial.next l.ends;
  next : after_ends l.next (drop l.end-index l.ends) ≡ after_ends l.initial.next l.ends;
}
