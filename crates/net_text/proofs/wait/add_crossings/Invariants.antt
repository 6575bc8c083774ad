use Rattle.std.proofs.Common.{◌≡◌, ◌≤◌}
use Rattle.std.specs.Option.{option_copied}
use Rattle.net_text.specs.Mirror.PartWords.{crossings_in}
use Rattle.text_lines.specs.Pieces.{pieces_left, left_size}
use Rattle.net_text.proofs.wait.add_crossings.Given as goal

abbrev pub invariant-loop-rest : goal.invariant-loop-rest
invariant-loop-rest l = record {
  same : crossings_in l.cross.items (pieces_left 32 (option_copied l.rest)) ≡ crossings_in l.initial.cross.items (pieces_left 32 (option_copied l.text));
  few : left_size (option_copied l.rest) ≤ left_size (option_copied l.text);
}

abbrev pub decreases-loop-rest : goal.decreases-loop-rest
decreases-loop-rest l = left_size (option_copied l.rest)
