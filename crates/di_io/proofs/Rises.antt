-- Counts that rose.
use Rattle.std.proofs.Common.{ℕ, ◌≤◌, inl, inr, arith}
use Rattle.std.proofs.Math.Nat.{eq-or-lt_of_le}
use Rattle.di_io.specs.Faults.{Rose}

pub rose_after : (first before now : ℕ) → first ≤ before → Rose before now → Rose first now
rose_after first before now h (inl rose) = inl (omega arith)
rose_after first before now h (inr stands) =
    elim (eq-or-lt_of_le h) [ inl same ↦ inr (omega arith, stands.1) | inr below ↦ inl (omega arith) ]
