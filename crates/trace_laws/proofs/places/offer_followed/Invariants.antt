use Rattle.std.proofs.Common.{List, ℕ, ◌++◌, ◌∷◌, []}
use Rattle.trace_laws.specs.Listed.{output_by}
use Rattle.trace_laws.specs.Mirror.Faults.{CarryAt}
use Rattle.trace_laws.specs.Mirror.Improved.{Improved, Below}
use Rattle.trace_laws.specs.Mirror.Links.{RowOf}
use Rattle.trace_laws.proofs.places.offer_followed.Given as goal

-- the places so far are offered
abbrev pub invariant-loop-place : goal.invariant-loop-place
invariant-loop-place l = (W : List (List ℕ)) → RowOf W l.front l.rows.before.items → RowOf W (l.front ++ l.last ∷ []) l.rows.after.items
    → Improved (Below (CarryAt (output_by l.dirs) W l.front l.last) l.place) l.initial.least l.least
