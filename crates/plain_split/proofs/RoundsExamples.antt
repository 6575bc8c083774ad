-- Charts of rounds, by example: a toggle, and a process that begins with an act.
use Rattle.std.proofs.Common.{◌≡◌, ℕ, zero, suc, true, false, List, [], ◌∷◌, refl}
use native.Mathlib.Decide.{ℕ_discrete}
use Rattle.basic_kinds.specs.declared.kind.Kind.TheVariants as kind
use Rattle.net_core.specs.declared.spec.NodeSpec.TheVariants.{Kind as Basic}
use Rattle.net_laws.specs.Charts.{charted}
use Rattle.plain_split.specs.RoundsChart.{Parts, rounds_chart}

-- a?; b!; a?; c! around and around: the component is a TOGGLE
one_out : ℕ → List ℕ
one_out zero = 1 ∷ []
one_out (suc y) = 2 ∷ []

toggle_parts : Parts
toggle_parts = record { spec = Basic kind.Toggle; levels = 1; opens = false; burst = 0 ∷ []; outs = one_out }

toggle_net : charted (rounds_chart toggle_parts) ≡ record {
  nodes = record { spec = Basic kind.Toggle; ends = 0 ∷ 1 ∷ 2 ∷ [] } ∷ record { spec = Basic kind.Toggle; ends = 0 ∷ 1 ∷ 2 ∷ [] } ∷ [];
  wires = 3;
}
unfolding toggle_parts one_out ℕ_discrete
toggle_net = refl

-- b!; a?; c!; a?: the act that gives b begins, after an IWIRE
first_parts : Parts
first_parts = record { spec = Basic kind.Toggle; levels = 1; opens = true; burst = 0 ∷ []; outs = one_out }

first_net : charted (rounds_chart first_parts) ≡ record {
  nodes = record { spec = Basic kind.Toggle; ends = 0 ∷ 1 ∷ 2 ∷ [] } ∷ record { spec = Basic kind.Toggle; ends = 0 ∷ 2 ∷ 3 ∷ [] }
      ∷ record { spec = Basic kind.Iwire; ends = 3 ∷ 1 ∷ [] } ∷ [];
  wires = 4;
}
unfolding first_parts one_out ℕ_discrete
first_net = refl
