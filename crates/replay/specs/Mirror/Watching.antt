-- Mirror of the loop in which the probes see an event.
use Rattle.std.specs.Prelude.{ℕ, zero, suc, List, [], ◌∷◌}
use Rattle.replay.specs.declared.event.Seen.{Seen}
use Rattle.replay.specs.Probes.{View, stepped}

-- the first n have seen it
abbrev pub stepped_front : ℕ → Seen → List View → List View
stepped_front n e [] = []
stepped_front zero e (v ∷ vs) = v ∷ vs
stepped_front (suc n) e (v ∷ vs) = stepped e v ∷ stepped_front n e vs
