-- What observers of a run see, and the numbers of those whose rule is known.
use Rattle.std.specs.Prelude.{◌≡◌, ℕ, ◌+◌, ◌-◌, ◌^◌, Bool, true, nat_eq, if◌then◌else◌, min, max, List, [], ◌∷◌, length, map, slice_index_or, Option, Some, None, option_map}
use Rattle.net_core.specs.Runs as runs
use Rattle.net_core.specs.Wiring.{Circuit}
use Rattle.net_core.specs.Networks.{end_at}
use Rattle.replay.specs.declared.event.Event.{Event}
use Rattle.replay.specs.declared.event.Seen.{Seen}
use Rattle.replay.specs.declared.event.Seen.TheVariants.{Gave, Passed, Fired}
use Rattle.replay.specs.Answers.{event_of}

-- what is seen of an event of the network
abbrev pub sight_of : Circuit → runs.Event → Seen
sight_of c (runs.Fire n p) = if nat_eq n 0 then Gave (record { 0 = p }) (end_at c n p) else Fired n (end_at c n p)
sight_of c (runs.Pass w) = Passed w

-- what is seen of an event of a schedule, if there is such an event
abbrev pub seen_of : Circuit → Event → Option Seen
seen_of c e = option_map (sight_of c) (event_of c e)

-- ---- the numbers

-- numbers stop at the greatest of 64 bits
abbrev pub one_more : ℕ → ℕ
one_more n = min (n + 1) (2 ^ 64 - 1)

abbrev pub number : List ℕ → ℕ → ℕ
number numbers k = slice_index_or numbers k 0

-- rule 1: how many gives, passes and fires there were
abbrev pub counted : List ℕ → Seen → List ℕ
counted ns (Gave a w) = one_more (number ns 0) ∷ number ns 1 ∷ number ns 2 ∷ []
counted ns (Passed w) = number ns 0 ∷ one_more (number ns 1) ∷ number ns 2 ∷ []
counted ns (Fired n w) = number ns 0 ∷ number ns 1 ∷ one_more (number ns 2) ∷ []

abbrev pub risen : List ℕ → List ℕ
risen ns = one_more (number ns 0) ∷ max (one_more (number ns 0)) (number ns 1) ∷ []

-- rule 2: how many wires are busy, and the most that were
abbrev pub peaked : List ℕ → Seen → List ℕ
peaked ns (Gave a w) = risen ns
peaked ns (Passed w) = (number ns 0 - 1) ∷ number ns 1 ∷ []
peaked ns (Fired n w) = risen ns

-- the numbers after one event; those of another rule stay
abbrev pub probe_step : ℕ → List ℕ → Seen → List ℕ
probe_step rule ns e = if nat_eq rule 1 then counted ns e else if nat_eq rule 2 then peaked ns e else ns

-- how many numbers there are
pub record HasNumbers (rule : ℕ) (numbers : List ℕ) : Type 0 where
  pub three : rule ≡ 1 → length numbers ≡ 3
  pub two : rule ≡ 2 → length numbers ≡ 2

-- ---- lists of probes

-- what is known of a probe: its rule, its numbers, and whether it is always ready
pub record View : Type 0 where
  pub rule : ℕ
  pub numbers : List ℕ
  pub steady : Bool

abbrev pub view_of : {B : Type 0} → (B → ℕ) → (B → List ℕ) → (B → Bool) → B → View
view_of rule numbers steady b = record { rule = rule b; numbers = numbers b; steady = steady b }

abbrev pub views_of : {B : Type 0} → (B → ℕ) → (B → List ℕ) → (B → Bool) → List B → List View
views_of rule numbers steady bs = map (view_of rule numbers steady) bs

-- a probe that has seen one event more
abbrev pub stepped : Seen → View → View
stepped e v = record { rule = v.rule; numbers = probe_step v.rule v.numbers e; steady = v.steady }

-- probes, each of which has seen what there was to see
abbrev pub all_stepped : Option Seen → List View → List View
all_stepped None vs = vs
all_stepped (Some e) vs = map (stepped e) vs

abbrev pub AllSteady : List View → Type 0
AllSteady [] = Unit {0}
AllSteady (v ∷ vs) = (v.steady ≡ true) × AllSteady vs
