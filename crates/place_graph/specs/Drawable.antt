-- Which processes have a graph by numbers.
use Rattle.std.specs.Prelude.{◌≡◌, ℕ, ◌<◌, ◌≤◌, Bool, false, IsTrue, List}
use Rattle.std.specs.List.{AllByRecursion}
use Rattle.cmd_tree.specs.declared.limits.TheConstants.{MAX_PLACES, MAX_SYMBOLS}
use Rattle.cmd_tree.specs.declared.tree.Proc.{Proc}
use Rattle.cmd_tree.specs.Limits.{IsProc, places_of_proc, marks_of_proc}
use Rattle.cmd_tree.specs.Lists.{is_in}
use Rattle.cmd_tree.specs.Marks.{is_output}
use Rattle.cmd_tree.specs.Meaning.{symbols}
use Rattle.place_graph.specs.declared.leg.Leg.{Leg}
use Rattle.place_graph.specs.Points.{Among, legs}
use Rattle.place_graph.specs.Graph.{is_act}

-- two input bursts with a common symbol have the same symbols
abbrev pub AreSets : List Leg → Type 0
AreSets L = (l m : Leg) (a b : ℕ) → Among L l → Among L m → is_act l ≡ false → is_act m ≡ false
    → IsTrue (is_in a (symbols l.marks)) → IsTrue (is_in a (symbols m.marks))
    → IsTrue (is_in b (symbols l.marks)) → IsTrue (is_in b (symbols m.marks))

-- each mark of the process has the direction of its symbol
abbrev pub AreDirections : (ℕ → Bool) → Proc → Type 0
AreDirections out p = AllByRecursion (λ m. is_output m.dir ≡ out m.sym.0) (marks_of_proc p)

-- A process within the limits, where each input belongs to one burst as a set. The processes of an admitted
-- command that are no grants are such.
pub record IsDrawable (p : Proc) : Type 0 where
  pub proc : IsProc p
  pub few_places : places_of_proc p ≤ MAX_PLACES
  pub few_symbols : AllByRecursion (λ m. m.sym.0 < MAX_SYMBOLS) (marks_of_proc p)
  pub sets : AreSets (legs p)
