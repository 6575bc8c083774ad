-- What a course keeps: what it answers from, and that it keeps it with one event more.
use Rattle.std.proofs.Common.{◌≡◌, ◌↔◌, ℕ, ◌<◌, Bool, true, false, if◌then◌else◌, List, [], ◌∷◌, ◌++◌, length, Some, IsTrue, sym, ap, ◌∙◌, subst}
use Rattle.std.proofs.lemmas.Bool.{false≢true}
use Rattle.std.proofs.lemmas.List.{map-append}
use Rattle.net_core.proofs.Updates.{grow_same}
use Rattle.cmd_tree.specs.declared.tree.Sym.{Sym}
use Rattle.net_core.specs.Runs.{State, start, grow}
use Rattle.net_core.specs.Wiring.{Circuit}
use Rattle.replay.specs.declared.event.Event.{Event}
use Rattle.replay.specs.declared.board.Board.{Board}
use Rattle.replay.specs.declared.step.Step.{Step}
use Rattle.replay.specs.Answers.{Course, state_of, state_after, symbols}
use Rattle.replay.specs.Mirror.Steps.{step_for, moved, MayTake, Judged}
use Rattle.replay.specs.Mirror.Boards.{Stands, Kept}
use Rattle.replay.proofs.Judging.{Weighed, judged_after, after_more}

pub pushed : {A : Type 0} (old new : List A) (x : A) (ok : Bool) → IsTrue ok → new ≡ (if ok then old ++ x ∷ [] else old) → new ≡ old ++ x ∷ []
pushed old new x true h is = is
pushed old new x false h is = absurd (false≢true h)

-- the symbol is noted that the environment's trace gains
pub noted : (old new : List Sym) (ok : Bool) (n p : ℕ) (t : ℕ → List ℕ) → IsTrue ok → new ≡ (if ok then old ++ record { 0 = p } ∷ [] else old)
    → n ≡ 0 → symbols old ≡ t 0 → symbols new ≡ grow t n p 0
noted old new ok n p t h is z same = ap symbols (pushed old new (record { 0 = p }) ok h is)
    ∙ map-append (λ (a : Sym). a.0) old (record { 0 = p } ∷ []) ∙ ap (λ xs. xs ++ p ∷ []) same ∙ sym (grow_same t n p 0 (sym z))

module _ (r : Course) (b : Board) (seen : List Sym) (kept : Kept r.net b seen (state_of r)) (e : Event) (p : Step) where
  pub kept_weighed : (can busy : Bool) → step_for r.net e ≡ Some p
      → ((c : Circuit) (s : State) → Stands c b s → p.node < length c.nodes → (IsTrue can ↔ MayTake c s p))
      → ((c : Circuit) (s : State) → Stands c b s → busy ≡ s.busy p.wire)
      → Weighed r e p can busy
  kept_weighed can busy step takes fills = record {
    network = kept.network;
    closed = kept.closed;
    step = step;
    can_take = takes r.net (state_of r) kept.stands;
    is_busy = fills r.net (state_of r) kept.stands;
  }

  pub kept_next : (new : Board) (shown : List Sym) (events : List Event) → Judged r e p
      → ((c : Circuit) (s : State) → Stands c b s → MayTake c s p → p.node < length c.nodes → p.wire < c.wires → Stands c new (moved s p))
      → ((t : ℕ → List ℕ) → symbols seen ≡ t 0 → symbols shown ≡ grow t p.node p.port 0)
      → events ≡ r.events ++ e ∷ []
      → Kept r.net new shown (state_after r.net start events)
  kept_next new shown events judged takes shows more =
      let after : moved (state_of r) p ≡ state_after r.net start events =
      sym (judged_after r e p judged) ∙ sym (after_more r.net start r.events e) ∙ ap (state_after r.net start) (sym more) in
      subst (Kept r.net new shown) after (record {
        network = kept.network;
        closed = kept.closed;
        stands = takes r.net (state_of r) kept.stands judged.may judged.node judged.wire;
        shown = shows (state_of r).trace kept.shown;
      })
