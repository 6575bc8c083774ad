-- A process of an admitted command is admitted by itself, where it is no grant, and its symbols keep their directions.
use Rattle.std.proofs.Common.{◌≡◌, ℕ, zero, suc, ◌<◌, Bool, true, false, ◌||◌, List, [], ◌∷◌, ◌++◌, length, Some, refl, sym, ap, ◌∙◌, subst, append-nil, eqb-true, eq-eqb}
use Rattle.std.specs.Prelude.{IsTrue, nat_eq, slice_get}
use Rattle.std.proofs.lemmas.Option.{same_Some}
use Rattle.cmd_tree.specs.declared.tree.Mark.{Mark}
use Rattle.cmd_tree.specs.declared.tree.Proc.{Proc}
use Rattle.cmd_tree.specs.Limits.{marks_of_proc, marks_of_all}
use Rattle.cmd_tree.specs.Lists.{is_in}
use Rattle.cmd_tree.specs.Meaning.{symbols}
use Rattle.cmd_rename.specs.Renaming.{ren_marks, ren_proc}
use Rattle.cmd_rename.specs.Symbols.{rank, renumbered}
use Rattle.cmd_rename.proofs.Laws.{ren_marks_of}
use Rattle.di_grammar.specs.Admitted.{Admitted}
use Rattle.di_grammar.specs.Directions.{KeepsDirections}
use Rattle.di_grammar.specs.Grants.{IsGrant}
use Rattle.di_grammar.specs.Lists.{Each, EachTwo, Within}
use Rattle.di_grammar.specs.Outputs.{out_of}
use Rattle.di_grammar.proofs.FairnessLists.{two_left, two_right}
use Rattle.di_grammar.proofs.FairnessMarks.{Agrees, directions_agree}
use Rattle.di_grammar.proofs.Lists.{none_within}
use Rattle.cmd_alone.specs.Alone.{own_symbols, symbol_at}
use Rattle.cmd_alone.proofs.Ranks.{or_second, got_rank}
use Rattle.cmd_alone.proofs.Back.{numbered_alone, own_in, back, alone_has}
use Rattle.cmd_alone.proofs.Apart.{KeepsApart, wide_rank, wide_apart, by_wide_rank}
use Rattle.cmd_alone.proofs.Rules.{keeps_bursts, keeps_neighbours, keeps_rounds, keeps_choices, keeps_twins, keeps_overlaps, marks_kept, grant_kept}

-- ---- the process at a place
pub each_got : (P : Proc → Type 0) (ps : List Proc) (i : ℕ) (p : Proc) → Each P ps → slice_get ps i ≡ Some p → P p
each_got P [] i p h e = absurd (cc)
each_got P (q ∷ ps) zero p h e = subst P (same_Some q p e) h.0
each_got P (q ∷ ps) (suc i) p h e = each_got P ps i p h.1 e

within_got : (ps : List Proc) (i : ℕ) (p : Proc) → slice_get ps i ≡ Some p → Within ps p
within_got [] i p e = absurd (cc)
within_got (q ∷ ps) zero p e = record { before = []; after = ps; are = ap (λ r. r ∷ ps) (same_Some q p e) }
within_got (q ∷ ps) (suc i) p e = let w = within_got ps i p e in record { before = q ∷ w.before; after = w.after; are = ap (λ rs. q ∷ rs) w.are }

marks_got : (R : Mark → Mark → Type 0) (ps : List Proc) (i : ℕ) (p : Proc) → EachTwo R (marks_of_all ps) → slice_get ps i ≡ Some p → EachTwo R (marks_of_proc p)
marks_got R [] i p h e = absurd (cc)
marks_got R (q ∷ ps) zero p h e = subst (λ r. EachTwo R (marks_of_proc r)) (same_Some q p e) (two_left R (marks_of_proc q) (marks_of_all ps) h)
marks_got R (q ∷ ps) (suc i) p h e = marks_got R ps i p (two_right R (marks_of_proc q) (marks_of_all ps) h) e

-- ---- directions
module _ (ps : List Proc) (i : ℕ) (p : Proc) (at : slice_get ps i ≡ Some p) where
  abbrev Agree : Mark → Mark → Type 0
  Agree m n = m.sym.0 ≡ n.sym.0 → m.dir ≡ n.dir

  pub keeps_directions : (f : ℕ → ℕ) → KeepsApart f → KeepsDirections ps → KeepsDirections (ren_proc f p ∷ [])
  keeps_directions f apart h = subst (EachTwo Agree) (sym (ren_marks_of f (p ∷ [])))
      (marks_kept f apart (marks_of_all (p ∷ [])) (subst (EachTwo Agree) (sym (append-nil (marks_of_proc p))) (marks_got Agree ps i p h at)))

  alone_directions : KeepsDirections ps → KeepsDirections (numbered_alone p ∷ [])
  alone_directions h = subst (λ q. KeepsDirections (q ∷ [])) (sym (by_wide_rank p)) (keeps_directions (wide_rank p) (wide_apart p) h)

-- a mark tells the direction of its symbol, under both names
out_found : (f g : ℕ → ℕ) (there here : ℕ → Bool) (ms : List Mark) (k : ℕ) → ((a : ℕ) → IsTrue (is_in a (symbols ms)) → g (f a) ≡ a)
    → Each (Agrees here) ms → Each (Agrees there) (ren_marks f ms) → IsTrue (is_in k (symbols (ren_marks f ms))) → there k ≡ here (g k)
out_found f g there here [] k b h j i = absurd (cc)
out_found f g there here (m ∷ ms) k b h j i =
    by (nat_eq k (f m.sym.0)) refl i (λ r. out_found f g there here ms k (λ a n. b a (or_second (nat_eq a m.sym.0) (is_in a (symbols ms)) n)) h.1 j.1 r)
  where
    known : g (f m.sym.0) ≡ m.sym.0
    known = b m.sym.0 (ap (λ c. c || is_in m.sym.0 (symbols ms)) (eq-eqb m.sym.0 m.sym.0 refl))

    by : (c : Bool) → nat_eq k (f m.sym.0) ≡ c → IsTrue (c || is_in k (symbols (ren_marks f ms))) → (IsTrue (is_in k (symbols (ren_marks f ms))) → there k ≡ here (g k)) → there k ≡ here (g k)
    by true e n r = let same : k ≡ f m.sym.0 = eqb-true k (f m.sym.0) e in
        ap there same ∙ j.0 ∙ sym h.0 ∙ ap here (sym known) ∙ ap (λ u. here (g u)) (sym same)
    by false e n r = r n

own_marks : (f : ℕ → ℕ) (p : Proc) → marks_of_proc (ren_proc f p) ≡ ren_marks f (marks_of_proc p)
own_marks f p = sym (append-nil (marks_of_proc (ren_proc f p))) ∙ ren_marks_of f (p ∷ []) ∙ ap (ren_marks f) (append-nil (marks_of_proc p))

pub outputs_kept : (ps : List Proc) (i : ℕ) (p : Proc) → slice_get ps i ≡ Some p → KeepsDirections ps → (k : ℕ) → k < length (own_symbols p) → out_of (renumbered (p ∷ [])) k ≡ out_of ps (symbol_at p k)
outputs_kept ps i p at h k l =
    let q = numbered_alone p in
    let f = rank (own_symbols p) in
    let there = directions_agree (q ∷ []) q (alone_directions ps i p at h) (record { before = []; after = []; are = refl }) in
    out_found f (symbol_at p) (out_of (q ∷ [])) (out_of ps) (marks_of_proc p) k
    (λ a n. got_rank (own_symbols p) a (own_in p a (subst (λ ms. IsTrue (is_in a (symbols ms))) (sym (append-nil (marks_of_proc p))) n)))
    (directions_agree ps p h (within_got ps i p at)) (subst (Each (Agrees (out_of (q ∷ [])))) (own_marks f p) there)
    (subst (λ ms. IsTrue (is_in k (symbols ms))) (own_marks f p) (alone_has p k l))

-- ---- all rules
lone : (q r : Proc) (before after : List Proc) → q ∷ [] ≡ before ++ r ∷ after → q ≡ r
lone q r [] after e = cc
lone q r (b ∷ before) after e = absurd (none_within r (record { before = before; after = after; are = cc }))

admitted_one : (ps : List Proc) (i : ℕ) (p : Proc) (f : ℕ → ℕ) → slice_get ps i ≡ Some p → KeepsApart f → Admitted ps → (IsGrant p → ⊥) → (IsGrant (ren_proc f p) → ⊥) → Admitted (ren_proc f p ∷ [])
admitted_one ps i p f at apart a own other = record {
  bursts = (keeps_bursts f apart p (each_got _ ps i p a.bursts at), tt);
  neighbours = (keeps_neighbours f p (each_got _ ps i p a.neighbours at), tt);
  rounds = (keeps_rounds f p (each_got _ ps i p a.rounds at), tt);
  choices = (λ g. keeps_choices f p (each_got _ ps i p a.choices at own), tt);
  twins = (λ g. keeps_twins f apart p (each_got _ ps i p a.twins at own), tt);
  overlaps = (λ g. keeps_overlaps f apart p (each_got _ ps i p a.overlaps at own), tt);
  directions = keeps_directions ps i p at f apart a.directions;
  granted = (λ gs g. absurd (other (gs, g)), tt);
  homes = λ k r gs n g. absurd (other (subst IsGrant (sym (lone (ren_proc f p) r n.before n.after n.are)) (gs, g)));
}

pub no_grant : (p : Proc) → (IsGrant p → ⊥) → IsGrant (numbered_alone p) → ⊥
no_grant p h g = h (subst IsGrant (back p) (grant_kept (symbol_at p) (numbered_alone p) g))

pub admitted_alone : (ps : List Proc) (i : ℕ) (p : Proc) → slice_get ps i ≡ Some p → Admitted ps → (IsGrant p → ⊥) → Admitted (renumbered (p ∷ []))
admitted_alone ps i p at a h = subst (λ q. Admitted (q ∷ [])) (sym (by_wide_rank p))
    (admitted_one ps i p (wide_rank p) at (wide_apart p) a h (λ g. no_grant p h (subst IsGrant (sym (by_wide_rank p)) g)))

pub one_process : (p q : Proc) → renumbered (p ∷ []) ≡ q ∷ [] → numbered_alone p ≡ q
one_process p q e = cc
