use Rattle.std.proofs.Common.{◌≡◌, ℕ, ◌<◌, true, false, length, slice_index_or}
use Rattle.cmd_machine.proofs.position.raise.Given as goal

-- the bits so far are set
abbrev pub invariant-loop-index : goal.invariant-loop-index
invariant-loop-index l = record {
  set : (i : ℕ) → i < l.index → slice_index_or l.bits.items i false ≡ true;
  long : length l.bits.items ≡ length l.fn.bits.items;
}
