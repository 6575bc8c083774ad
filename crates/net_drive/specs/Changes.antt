-- Which events may come to happen, or cease to, by an event that is applied.
use Rattle.std.specs.Prelude.{◌≡◌, ◌≢◌, ℕ, IsTrue, List, Some, slice_get}
use Rattle.cmd_tree.specs.declared.tree.Proc.{Proc}
use Rattle.cmd_tree.specs.Limits.{marks_of_proc}
use Rattle.cmd_tree.specs.Meaning.{has_symbol}
use Rattle.replay.specs.declared.event.Event.{Event}
use Rattle.replay.specs.declared.event.Event.TheVariants.{Give, Pass, Fire, Unknown}
use Rattle.replay.specs.declared.step.Step.{Step}

-- one of the processes has both symbols
pub record Share (ps : List Proc) (a b : ℕ) : Type 0 where
  pub number : ℕ
  pub process : Proc
  pub at : slice_get ps number ≡ Some process
  pub first : IsTrue (has_symbol (marks_of_proc process) a)
  pub second : IsTrue (has_symbol (marks_of_proc process) b)

-- The event concerns what the step did: it is a pass of its wire, or a fire of the component that took part, or, where the
-- environment took part, a give of a symbol that shares a process with the step's symbol.
abbrev pub Concerns : List Proc → Step → Event → Type 0
Concerns ps p (Pass w) = p.wire ≡ w
Concerns ps p (Fire n k) = (p.node ≢ 0) × (p.node ≡ n)
Concerns ps p (Give b) = (p.node ≡ 0) × Share ps p.port b.0
Concerns ps p Unknown = ⊥
