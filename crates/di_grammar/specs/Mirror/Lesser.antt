-- The lesser of two clashes, and the earlier of two breaches, that may be there.
use Rattle.std.specs.Prelude.{ℕ, Bool, ◌&&◌, ◌||◌, nat_lt, nat_eq, if◌then◌else◌, Option, Some, None}
use Rattle.di_grammar.specs.declared.clash.Clash.{Clash}
use Rattle.di_grammar.specs.declared.breach.Breach.{Breach}

-- the first number is less, or they are equal and the rest says so
abbrev pub less_or : ℕ → ℕ → Bool → Bool
less_or a b rest = nat_lt a b || (nat_eq a b && rest)

abbrev pub precedes : Clash → Clash → Bool
precedes a b = less_or a.place b.place (less_or a.case b.case (nat_lt a.other b.other))

-- the second where it precedes the first
abbrev pub lesser : Option Clash → Option Clash → Option Clash
lesser None b = b
lesser (Some a) None = Some a
lesser (Some a) (Some b) = if precedes b a then Some b else Some a

abbrev pub is_earlier : Breach → Breach → Bool
is_earlier a b =
    less_or a.process b.process (less_or a.place b.place (less_or a.case b.case (less_or a.other_process b.other_process (nat_lt a.other b.other))))

abbrev pub earlier_of : Option Breach → Option Breach → Option Breach
earlier_of None b = b
earlier_of (Some a) None = Some a
earlier_of (Some a) (Some b) = if is_earlier b a then Some b else Some a
