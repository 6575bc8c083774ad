-- What is told of a broken rule: of all places that break it, the first.
use Rattle.std.specs.Prelude.{◌≡◌, ◌⊎◌, ◌<◌, Option, Some, None}
use Rattle.di_grammar.specs.declared.clash.Clash.{Clash}

-- A place of a process breaks a rule, in which case of the rule, and against which other place of the process. The one stands
-- before the other by the place, then by the case, then by the other place.
abbrev pub Precedes : Clash → Clash → Type 0
Precedes a b = (a.place < b.place) ⊎ ((a.place ≡ b.place) × ((a.case < b.case) ⊎ ((a.case ≡ b.case) × (a.other < b.other))))

-- of all that clashes, this is the first; or nothing does
abbrev pub First : (Clash → Type 0) → Option Clash → Type 0
First Clashes None = (c : Clash) → Clashes c → ⊥
First Clashes (Some c) = Clashes c × ((d : Clash) → Clashes d → Precedes d c → ⊥)
