-- The traces that a position stands for.
use Rattle.std.proofs.Common.{◌↔◌, ℕ, Bool, List, [], ◌∷◌, ◌++◌, IsTrue, refl}
use Rattle.cmd_tree.specs.declared.tree.Proc.{Proc}
use Rattle.cmd_tree.specs.Limits.{IsProc}
use Rattle.cmd_tree.specs.Meaning.{TraceOf}
use Rattle.place_graph.specs.Apart.{HasApart}
use Rattle.place_graph.specs.Points.{legs}
use Rattle.place_graph.specs.Walks.{Here, Move, begin}
use Rattle.place_graph.proofs.Determined.{can_move}
use Rattle.place_graph.proofs.Tales.{reaches_push}
use Rattle.cmd_machine.specs.declared.position.Position.{Position}
use Rattle.cmd_machine.specs.Lawful.{Lawful}
use Rattle.cmd_machine.specs.Mirror.Positions.{IsAt, Stands}

pub answers : (p : Proc) (m : Position) (t : List ℕ) → (s : Stands p m t) → (a : ℕ) (r : Bool)
    → (IsTrue r ↔ ((d : Here) × Move (legs p) s.state a d)) → (IsTrue r ↔ TraceOf p (t ++ a ∷ []))
answers p m t s a r law =
    let may = can_move p s.whole s.apart t a s.state s.reached in
    (λ h. may.1 (law.0 h), λ h. law.1 (may.0 h))

pub grows : (p : Proc) (m n : Position) (t : List ℕ) → (s : Stands p m t) → (a : ℕ)
    → ((d : Here) × Move (legs p) s.state a d × IsAt (legs p) n d) → Stands p n (t ++ a ∷ [])
grows p m n t s a k = record {
  whole = s.whole;
  apart = s.apart;
  lawful = s.lawful;
  state = k.0;
  reached = reaches_push (legs p) t begin s.state a k.0 s.reached k.1;
  is_at = k.2;
}

pub begins : (p : Proc) (m : Position) → IsProc p → HasApart p → Lawful (legs p) → IsAt (legs p) m begin
    → Stands p m []
begins p m whole apart lawful at = record {
  whole = whole;
  apart = apart;
  lawful = lawful;
  state = begin;
  reached = refl;
  is_at = at;
}
