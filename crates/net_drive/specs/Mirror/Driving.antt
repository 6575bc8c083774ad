-- Mirror of the loop that draws.
use Rattle.std.specs.Prelude.{ℕ, ◌≡◌, ◌<◌, ◌+◌, Bool, if◌then◌else◌, List, [], ◌∷◌, ◌++◌, length, slice_index_or}
use Rattle.rand_pcg.specs.Lcg.{Lcg}
use Rattle.net_core.specs.Runs.{start}
use Rattle.net_core.specs.Wiring.{Circuit}
use Rattle.replay.specs.declared.event.Event.{Event}
use Rattle.replay.specs.Answers.{Course, state_of}
use Rattle.net_drive.specs.declared.driving.Stop.{Stop}
use Rattle.net_drive.specs.Drawn.{Drawn}
use Rattle.net_drive.specs.declared.plan.Plan.{Plan}
use Rattle.net_drive.specs.Mirror.Refreshing.{AllRight}

-- the events whose bits are set
abbrev pub picked : List Bool → List Event → List Event
picked [] es = []
picked (b ∷ bs) [] = []
picked (b ∷ bs) (e ∷ es) = if b then e ∷ picked bs es else picked bs es

-- What is known is right, and was known before this step.
pub record IsCurrent (r : Course) (p : Plan) (index : List Bool) (tested : List ℕ) (step : ℕ) : Type 0 where
  pub right : AllRight r.net (state_of r) p.events.items index
  pub sized : length tested ≡ p.gives
  pub low : (i : ℕ) → slice_index_or tested i 0 < step

-- After so many steps of a run these events were applied, and what is drawn from here on is drawn from the start behind them.
pub record IsOnWay (c : Circuit) (first : Lcg) (steps taken : ℕ) (r : Course) (now : Lcg) (events : List Event) : Type 0 where
  pub net : r.net ≡ c
  pub applied : r.events ≡ events
  pub many : length events ≡ taken
  pub room : r.room + taken ≡ steps
  pub rest : (n : ℕ) (es : List Event) (stop : Stop) → n + taken ≡ steps → Drawn c n now (state_of r) es stop
      → Drawn c steps first start (events ++ es) stop
