-- What a table by symbol needs of the bursts that are entered.
use Rattle.std.specs.Prelude.{ℕ, ◌+◌, ◌<◌, ◌≤◌, List, [], ◌∷◌, length}
use Rattle.cmd_tree.specs.declared.limits.TheConstants.{MAX_SYMBOLS}
use Rattle.cmd_tree.specs.declared.tree.Mark.{Mark}
use Rattle.tree_walk.specs.Bursts.{Burst}
use Rattle.di_grammar.specs.Lists.{Each}

-- the symbols are numbers of a table
abbrev pub AreSmall : List Mark → Type 0
AreSmall ms = Each (λ m. m.sym.0 < MAX_SYMBOLS) ms

abbrev pub IsSmall : Burst → Type 0
IsSmall b = AreSmall b.marks

-- each burst begins where the one before has ended, or later: the first at place k or later, and
-- place e is after the last
abbrev pub Laid : ℕ → List Burst → ℕ → Type 0
Laid k [] e = k ≤ e
Laid k (b ∷ bs) e = (k ≤ b.place) × Laid (b.place + length b.marks) bs e
