-- Mirror of what is worked out of a network before it is driven.
use Rattle.std.specs.Prelude.{◌≡◌, ℕ, ◌+◌, List, [], ◌∷◌, map, length, drop, slice_get, Some}
use Rattle.cmd_tree.specs.declared.tree.Proc.{Proc}
use Rattle.cmd_machine.specs.Mirror.Walkers.{row_at, users_from}
use Rattle.net_core.specs.Wiring.{Node, Circuit}
use Rattle.place_graph.specs.Points.{OneOf}
use Rattle.replay.specs.declared.event.Event.{Event}
use Rattle.net_drive.specs.declared.plan.Plan.{Plan}
use Rattle.net_drive.specs.Drawn.{possible, gives_of, outputs_in, give_of}

-- where the fires of each of these components begin, and where the last ones end
abbrev pub starts_from : ℕ → List Node → List ℕ
starts_from k [] = k ∷ []
starts_from k (x ∷ xs) = k ∷ starts_from (k + outputs_in x.spec) xs

abbrev pub rows_of : {R : Type 0} → (R → List ℕ) → List R → List (List ℕ)
rows_of items rows = map items rows

-- the numbers of the gives of each process
pub record HasGives (ps : List Proc) (events : List Event) (rows : List (List ℕ)) : Type 0 where
  pub has : (i b u : ℕ) → slice_get events i ≡ Some (give_of b) → OneOf (users_from 0 ps b) u → OneOf (row_at rows u) i

pub record IsPlan (c : Circuit) (ps : List Proc) (p : Plan) : Type 0 where
  pub events : p.events.items ≡ possible c
  pub gives : p.gives ≡ length (gives_of c)
  pub fires : p.fires.items ≡ starts_from (length (gives_of c) + c.wires) (drop 1 c.nodes)
  pub users : (a : ℕ) → row_at (map (λ row. row.items) p.sharing.users.items) a ≡ users_from 0 ps a
  pub shared : HasGives ps p.events.items (map (λ row. row.items) p.sharing.gives.items)
