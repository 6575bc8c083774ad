use Rattle.std.proofs.Common.{◌≡◌, ◌+◌, ◌≤◌, length}
use Rattle.std.specs.Option.{option_copied}
use Rattle.net_text.specs.Mirror.PartWords.{numbers_in}
use Rattle.text_lines.specs.Pieces.{pieces_left, left_size}
use Rattle.net_text.proofs.wires.add_numbers.Given as goal

abbrev pub invariant-loop-rest : goal.invariant-loop-rest
invariant-loop-rest l = record {
  same : numbers_in l.ends.items (pieces_left 32 (option_copied l.rest)) ≡ numbers_in l.initial.ends.items (pieces_left 32 (option_copied l.text));
  few : length l.ends.items + left_size (option_copied l.rest) ≤ length l.initial.ends.items + left_size (option_copied l.text);
  more : length l.initial.ends.items ≤ length l.ends.items;
}

abbrev pub decreases-loop-rest : goal.decreases-loop-rest
decreases-loop-rest l = left_size (option_copied l.rest)
