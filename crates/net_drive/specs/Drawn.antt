-- The schedule that a generator's words draw among the events that may happen.
use Rattle.std.specs.Prelude.{◌≡◌, ◌≢◌, ℕ, suc, ◌%◌, ◌<◌, max, List, [], ◌∷◌, ◌++◌, map, filter, drop, length, Some, slice_get}
use Rattle.std.specs.List.{range_with_len}
use Rattle.rand_pcg.specs.Lcg.{Lcg, started, increment_of}
use Rattle.rand_pcg.specs.Pcg.{pcg32, multiplier_64}
use Rattle.basic_kinds.specs.Kinds.{outputs_of}
use Rattle.net_core.specs.declared.spec.NodeSpec.{NodeSpec}
use Rattle.net_core.specs.declared.spec.NodeSpec.TheVariants.{Kind, Cmd}
use Rattle.net_core.specs.Runs.{State, start}
use Rattle.net_core.specs.Wiring.{Node, Circuit}
use Rattle.net_core.specs.Networks.{directions, directions_at, gives}
use Rattle.replay.specs.declared.event.Event.{Event}
use Rattle.replay.specs.declared.event.Event.TheVariants.{Give, Pass, Fire}
use Rattle.replay.specs.declared.event.Answer.{Answer}
use Rattle.replay.specs.declared.event.Answer.TheVariants.{Done}
use Rattle.replay.specs.Answers.{event_of, left_by, IsAnswer, IsEnabled}
use Rattle.net_drive.specs.declared.driving.Stop.{Stop}
use Rattle.net_drive.specs.declared.driving.Stop.TheVariants.{All, Quiet, Hazard}
use Rattle.net_drive.specs.Bits.{trues}

-- ---- all events that a network could ever have, in the written order

abbrev pub give_of : ℕ → Event
give_of p = Give (record { 0 = p })

-- gives by symbol
abbrev pub gives_of : Circuit → List Event
gives_of c = map give_of (filter (gives c 0) (range_with_len 0 (length (directions c 0))))

-- passes by wire
abbrev pub passes_of : Circuit → List Event
passes_of c = map Pass (range_with_len 0 c.wires)

abbrev pub outputs_in : NodeSpec → ℕ
outputs_in (Kind kind) = outputs_of kind
outputs_in (Cmd command) = 0

-- fires by component and output, of these components, where the first has the number n
abbrev pub fires_from : ℕ → List Node → List Event
fires_from n [] = []
fires_from n (x ∷ xs) = map (Fire n) (range_with_len 1 (outputs_in x.spec)) ++ fires_from (suc n) xs

abbrev pub possible : Circuit → List Event
possible c = gives_of c ++ (passes_of c ++ fires_from 1 (drop 1 c.nodes))

-- ---- what a word draws

-- from these events, those that may happen in the state, in the same order
pub data IsListing (c : Circuit) (s : State) : List Event → List Event → Type 0 where
  nothing : IsListing c s [] []
  listed : (e : Event) (es list : List Event) → IsEnabled c s e → IsListing c s es list → IsListing c s (e ∷ es) (e ∷ list)
  left_out : (e : Event) (es list : List Event) → (IsEnabled c s e → ⊥) → IsListing c s es list → IsListing c s (e ∷ es) list

-- The events that may happen are listed, and the word names one of them by its remainder.
pub record Draws (c : Circuit) (s : State) (word : ℕ) (e : Event) : Type 0 where
  pub list : List Event
  pub listing : IsListing c s (possible c) list
  pub some : 0 < length list
  pub at : slice_get list (word % length list) ≡ Some e

-- With so many steps left, from this generator and this state, these events are drawn and applied one after the other, and
-- then it stops.
pub data Drawn (c : Circuit) : ℕ → Lcg → State → List Event → Stop → Type 0 where
  ended : (g : Lcg) (s : State) → Drawn c 0 g s [] All
  quiet : (n : ℕ) (g : Lcg) (s : State) → IsListing c s (possible c) [] → Drawn c (suc n) g s [] Quiet
  hazard : (n : ℕ) (g : Lcg) (s : State) (e : Event) (a : Answer) → Draws c s (pcg32 g).0 e → IsAnswer c s e a → a ≢ Done
      → Drawn c (suc n) g s [] (Hazard a)
  applied : (n : ℕ) (g : Lcg) (s : State) (e : Event) (es : List Event) (stop : Stop) → Draws c s (pcg32 g).0 e
      → IsAnswer c s e Done → Drawn c n (pcg32 g).1 (left_by c s (event_of c e)) es stop → Drawn c (suc n) g s (e ∷ es) stop

-- the generator of a seed
abbrev pub generator_of : ℕ → Lcg
generator_of seed = started 64 multiplier_64 seed (increment_of 64 1)

-- the schedule that is drawn from the start of the network
abbrev pub IsDrawn : Circuit → ℕ → ℕ → List Event → Stop → Type 0
IsDrawn c seed steps es stop = Drawn c steps (generator_of seed) start es stop

-- ---- the greatest number of output ports of a node

abbrev pub widest_from : ℕ → List Node → ℕ
widest_from n [] = 0
widest_from n (x ∷ xs) = max (trues (directions_at n (Some x))) (widest_from (suc n) xs)

abbrev pub widest : Circuit → ℕ
widest c = widest_from 0 c.nodes
