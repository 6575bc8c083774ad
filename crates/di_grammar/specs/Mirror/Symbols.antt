-- The symbols of two bursts.
use Rattle.std.specs.Prelude.{◌≡◌, ◌↔◌, ◌<◌, ℕ, IsTrue, Bool, nat_eq, List}
use Rattle.std.specs.List.{list_any}
use Rattle.cmd_tree.specs.declared.limits.TheConstants.{MAX_SYMBOLS}
use Rattle.cmd_tree.specs.declared.tree.Mark.{Mark}
use Rattle.cmd_tree.specs.Lists.{is_in}
use Rattle.cmd_tree.specs.Meaning.{symbols}
use Rattle.di_grammar.specs.Lists.{Within}

abbrev pub SameSymbols : List Mark → List Mark → Type 0
SameSymbols ms ns = (a : ℕ) → IsTrue (is_in a (symbols ms)) ↔ IsTrue (is_in a (symbols ns))

-- whether the symbol of a mark stands among marks
abbrev pub is_of : List Mark → Mark → Bool
is_of ms n = list_any (λ m. nat_eq n.sym.0 m.sym.0) ms

-- a symbol of the burst is not entered
pub record HasNew (entry : ℕ → ℕ) (ms : List Mark) : Type 0 where
  pub mark : Mark
  pub within : Within ms mark
  pub small : mark.sym.0 < MAX_SYMBOLS
  pub new : entry mark.sym.0 ≡ 0

-- the symbol of the mark is entered, if it is a symbol of a table
abbrev pub IsEntered : (ℕ → ℕ) → Mark → Type 0
IsEntered entry m = m.sym.0 < MAX_SYMBOLS → entry m.sym.0 ≡ 1
