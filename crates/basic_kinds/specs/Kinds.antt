-- The ports of a kind. Inputs come first, and both are counted from 0.
use Rattle.std.specs.Prelude.{ℕ, ◌+◌, ◌<◌, ◌≤◌, ◌^◌, length, ⊤}
use Rattle.basic_kinds.specs.declared.kind.Kind.{Kind}
use Rattle.basic_kinds.specs.declared.kind.Kind.TheVariants.{Wire, Iwire, Source, Sink, Fork, C, Merge, Toggle, Dw, Seq}

abbrev pub inputs_of : Kind → ℕ
inputs_of Wire = 1
inputs_of Iwire = 1
inputs_of Source = 0
inputs_of Sink = 1
inputs_of (Fork n) = 1
inputs_of (C n) = n
inputs_of (Merge n) = n
inputs_of Toggle = 1
inputs_of (Dw s) = s.rows + s.cols
inputs_of (Seq k) = k + 1

abbrev pub outputs_of : Kind → ℕ
outputs_of Wire = 1
outputs_of Iwire = 1
outputs_of Source = 1
outputs_of Sink = 0
outputs_of (Fork n) = n
outputs_of (C n) = 1
outputs_of (Merge n) = 1
outputs_of Toggle = 2
outputs_of (Dw s) = length s.cross
outputs_of (Seq k) = k

-- a width that a kind has is at least two
abbrev pub IsWide : Kind → Type 0
IsWide Wire = ⊤
IsWide Iwire = ⊤
IsWide Source = ⊤
IsWide Sink = ⊤
IsWide (Fork n) = 2 ≤ n
IsWide (C n) = 2 ≤ n
IsWide (Merge n) = 2 ≤ n
IsWide Toggle = ⊤
IsWide (Dw s) = ⊤
IsWide (Seq k) = 2 ≤ k

-- a kind is well formed: widths of two and more, and fewer than 2^28 ports
pub record IsWellFormed (kind : Kind) : Type 0 where
  pub wide : IsWide kind
  pub few : inputs_of kind + outputs_of kind < 2 ^ 28
