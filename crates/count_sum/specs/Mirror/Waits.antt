-- What a DW and a SEQ count in the basis two, as the code adds it up.
use Rattle.std.specs.Prelude.{ℕ, ◌+◌, ◌<◌, ◌^◌, IsTrue, List, [], ◌∷◌, length}
use Rattle.std.specs.List.{list_all}
use Rattle.basic_kinds.specs.Shapes.{is_within}
use Rattle.basic_kinds.specs.Sorts.{Sort}
use Rattle.basic_kinds.specs.Sums.{Counted, One, Wide, Wait, Sequencer, wait_sum, group_sum, layer_sum, part_sum, requests_sum, sequencer_sum}
use Rattle.shape_parts.specs.declared.cut.ShapePart.{ShapePart}

-- the crossings are of these rows and columns, and numbers of 32 bits count all
pub record IsInRange (rows cols : ℕ) (cross : List (ℕ × ℕ)) : Type 0 where
  pub few_lines : rows + cols + 1 < 2 ^ 32
  pub few_crossings : length cross < 2 ^ 32
  pub within : IsTrue (list_all (is_within rows cols) cross)

unfoldable pub of_wait : ℕ → ℕ → List (ℕ × ℕ) → Sort → ℕ
of_wait rows cols cross t = wait_sum rows cols cross t

unfoldable pub of_group : ℕ → ℕ → List (ℕ × ℕ) → Sort → ℕ
of_group rows cols group t = group_sum of_wait rows cols group t

unfoldable pub of_layer : ℕ → ℕ → List (ℕ × ℕ) → Sort → ℕ
of_layer rows cols cross t = layer_sum of_wait rows cols cross t

unfoldable pub of_part : ℕ → ℕ → List (ℕ × ℕ) → Sort → ℕ
of_part rows cols part t = part_sum of_wait rows cols part t

abbrev pub of_parts : List ShapePart → Sort → ℕ
of_parts [] t = 0
of_parts (p ∷ ps) t = of_part (length p.rows) (length p.columns) p.cross t + of_parts ps t

unfoldable pub of_sequencer : ℕ → Sort → ℕ
of_sequencer k t = sequencer_sum k t

unfoldable pub of_requests : ℕ → Sort → ℕ
of_requests k t = requests_sum of_sequencer k t

-- numbers of 32 bits count what is counted
abbrev pub IsCountable : Counted → Type 0
IsCountable (One s) = Unit {0}
IsCountable (Wide s n) = Unit {0}
IsCountable (Wait rows cols cross) = IsInRange rows cols cross
IsCountable (Sequencer k) = (0 < k) × (k + 2 < 2 ^ 32)
