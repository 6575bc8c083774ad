-- The states of a walker, and the traces that they stand for.
use Rattle.std.specs.Prelude.{◌≡◌, ℕ, ◌+◌, List, [], ◌∷◌, ◌++◌, length, map, slice_get, slice_index_or, Some, IsTrue, if◌then◌else◌}
use Rattle.std.specs.List.{AllByRecursion}
use Rattle.cmd_tree.specs.declared.tree.Proc.{Proc}
use Rattle.cmd_tree.specs.Limits.{marks_of_proc, marks_of_all}
use Rattle.cmd_tree.specs.Meaning.{TraceOf, has_symbol, project}
use Rattle.place_graph.specs.Points.{OneOf}
use Rattle.cmd_machine.specs.declared.position.Position.{Position}
use Rattle.cmd_machine.specs.declared.walker.Walker.{Walker}
use Rattle.cmd_machine.specs.Mirror.Positions as position

-- the row of a symbol, and none past the end
abbrev pub row_at : List (List ℕ) → ℕ → List ℕ
row_at rows a = slice_index_or rows a []

-- the numbers of the processes that have the symbol, where the first one has the number k
abbrev pub users_from : ℕ → List Proc → ℕ → List ℕ
users_from k [] a = []
users_from k (p ∷ ps) a = if has_symbol (marks_of_proc p) a then k ∷ users_from (k + 1) ps a else users_from (k + 1) ps a

-- each process goes on by the symbol that has it among these
abbrev pub AllGoOn : List Proc → List ℕ → ℕ → List ℕ → Type 0
AllGoOn ps t a users = (i : ℕ) (p : Proc) → OneOf users i → slice_get ps i ≡ Some p
    → TraceOf p (project p t ++ a ∷ [])

-- the position of each process stands for its projection
pub record StandEach (ps : List Proc) (ms : List Position) (t : List ℕ) : Type 0 where
  pub long : length ms ≡ length ps
  pub at : (i : ℕ) (p : Proc) (m : Position) → slice_get ps i ≡ Some p → slice_get ms i ≡ Some m
      → position.Stands p m (project p t)

-- the same where the symbol a comes, and the processes that are left have not yet taken it
pub record StandBut (ps : List Proc) (ms : List Position) (t : List ℕ) (a : ℕ) (left : List ℕ) : Type 0 where
  pub long : length ms ≡ length ps
  pub waits : (i : ℕ) (p : Proc) (m : Position) → slice_get ps i ≡ Some p → slice_get ms i ≡ Some m
      → OneOf left i → position.Stands p m (project p t)
  pub went : (i : ℕ) (p : Proc) (m : Position) → slice_get ps i ≡ Some p → slice_get ms i ≡ Some m
      → (OneOf left i → ⊥) → position.Stands p m (project p (t ++ a ∷ []))

-- the walker stands for the trace t of these processes
pub record Stands (ps : List Proc) (w : Walker) (t : List ℕ) : Type 0 where
  pub known : AllByRecursion (λ x. IsTrue (has_symbol (marks_of_all ps) x)) t
  pub each : StandEach ps w.positions.items t
  pub users : (a : ℕ) → row_at (map (λ row. row.items) w.users.items) a ≡ users_from 0 ps a
