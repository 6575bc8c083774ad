use Rattle.std.proofs.Common.{◌≡◌, ℕ, ◌<◌, false, length, take}
use Rattle.std.specs.Prelude.{nat_eq, slice_index_or}
use Rattle.std.specs.List.{list_any}
use Rattle.net_text.specs.Mirror.Crossings.{side}
use Rattle.net_text.proofs.wait.are_met.Given as goal

-- those of the crossings so far are met
abbrev pub invariant-loop-crossing : goal.invariant-loop-crossing
invariant-loop-crossing l = record {
  many : length l.met.items ≡ l.many;
  each : (i : ℕ) → i < l.many → slice_index_or l.met.items i false ≡ list_any (λ p. nat_eq (side l.by_row p) i) (take l.crossing-index l.cross);
}
