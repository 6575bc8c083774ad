-- The row of a symbol in a walker.
use Rattle.std.proofs.Common.{◌≡◌, ◌≢◌, ◌↔◌, ℕ, Bool, true, false, true≢false, not, List, [], ◌∷◌, ◌++◌, length, nat_eq, map, IsTrue, sym, ap, ◌∙◌, subst, eq-eqb, eqb-true, arith, take, drop, Vec, Global}
use Rattle.std.proofs.Math.Seq.{take-append_seam}
use Rattle.std.proofs.lemmas.List.{nil_from_length}
use Rattle.cmd_tree.specs.declared.tree.Proc.{Proc}
use Rattle.cmd_tree.specs.Meaning.{Trace}
use Rattle.cmd_machine.specs.declared.position.Position.{Position}
use Rattle.cmd_machine.specs.declared.walker.Walker.{Walker}
use Rattle.cmd_machine.specs.Mirror.Walkers.{row_at, users_from, StandEach, Stands}
use Rattle.cmd_machine.proofs.Weaving.{can_none}

pub users_are : (ps : List Proc) (t : List ℕ) (w : Walker) → Stands ps w t → (a : ℕ) (rows : List (Vec ℕ Global))
    (us : List ℕ) → rows ≡ w.users.items → us ≡ row_at (map (λ row. row.items) rows) a → us ≡ users_from 0 ps a
users_are ps t w s a rows us same is = is ∙ ap (λ (xs : List (Vec ℕ Global)). row_at (map (λ row. row.items) xs) a) same
    ∙ s.users a

pub some_row : (us : List ℕ) (b : Bool) → b ≡ nat_eq (length us) 0 → b ≡ false → us ≢ []
some_row us b law e none = true≢false (sym (eq-eqb (length us) 0 (ap length none)) ∙ sym law ∙ e)

pub none_row : (ps : List Proc) (t : List ℕ) (a : ℕ) (us : List ℕ) (b : Bool) → us ≡ users_from 0 ps a
    → b ≡ nat_eq (length us) 0 → b ≡ true → (IsTrue (not b) ↔ Trace ps (t ++ a ∷ []))
none_row ps t a us b are law e = subst (λ x. IsTrue (not x) ↔ Trace ps (t ++ a ∷ [])) (sym e)
    (can_none ps t a us are (nil_from_length us (eqb-true (length us) 0 (sym law ∙ e))))

-- the positions are written back where they stood
pub written : (ps : List Proc) (t : List ℕ) (new old : List Position) (n : ℕ) → n ≡ length old
    → length old ≡ length ps → StandEach ps new t → StandEach ps (take n (new ++ drop (length new) old)) t
written ps t new old n size long h = subst (λ xs. StandEach ps xs t)
    (sym (ap (λ k. take k (new ++ drop (length new) old)) same ∙ take-append_seam new (drop (length new) old))) h
  where
    same : n ≡ length new
    same = omega (arith, size, long, h.long)
