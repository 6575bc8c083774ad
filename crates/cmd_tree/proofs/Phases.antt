-- The counts of inputs and outputs in a round: those of one list come while their pending ones are left, and then it is the other's turn.
use Rattle.std.proofs.Common.{◌≡◌, ⊎_elim, ℕ, suc, ◌+◌, ◌<◌, ◌≤◌, List, [], ◌∷◌, ◌++◌, length, if◌then◌else◌, IsTrue, refl, sym, ap, ◌∙◌, subst, arith, ne_eqb}
use Rattle.std.proofs.lemmas.Bool.{cases_eq}
use Rattle.cmd_tree.specs.Lists.{is_in}
use Rattle.cmd_tree.specs.Residual.{without}
use Rattle.cmd_tree.specs.Rounds.{counts}
use Rattle.cmd_tree.proofs.Bursts.{count, count_same, count_without, is_in_from_count, count_from_is_in}
use Rattle.cmd_tree.proofs.RoundsRule.{counts_end}

pub count_other : (a x : ℕ) (t : List ℕ) → (a ≡ x → ⊥) → count a (x ∷ t) ≡ count a t
count_other a x t n = ap (λ b. if b then 1 + count a t else count a t) (ne_eqb a x n)

-- c with one more a
pub record Grew (c : ℕ → ℕ) (a : ℕ) (d : ℕ → ℕ) : Type 0 where
  pub here : d a ≡ suc (c a)
  pub elsewhere : (q : ℕ) → (q ≡ a → ⊥) → d q ≡ c q

pub counts_grow : (u : List ℕ) (a : ℕ) → Grew (counts u) a (counts (u ++ a ∷ []))
counts_grow u a = record {
  here = ⊎_elim (λ h. h.1) (λ h. absurd (h.0 refl)) (counts_end u a a);
  elsewhere = λ q n. ⊎_elim (λ h. absurd (n h.0)) (λ h. h.1) (counts_end u a q);
}

-- each number stands at most once in both lists
abbrev pub Once : List ℕ → List ℕ → Type 0
Once xs ys = (a : ℕ) → count a xs + count a ys ≤ 1

pub Once-swap : (xs ys : List ℕ) → Once xs ys → Once ys xs
Once-swap xs ys h = λ a. omega (arith, h a)

pub apart : (xs ys : List ℕ) → Once xs ys → (a b : ℕ) → IsTrue (is_in a xs) → IsTrue (is_in b ys) → b ≡ a → ⊥
apart xs ys h a b ha hb e = omega (arith, h a, count_from_is_in a xs ha, count_from_is_in a ys (subst (λ x. IsTrue (is_in x ys)) e hb))

-- the symbols of `now` come, and p are those of them that are left; the others have had their turn
pub record Phase (now other : List ℕ) (full done : ℕ) (c : ℕ → ℕ) (p : List ℕ) : Type 0 where
  pub below : (x : ℕ) → count x p ≤ count x now
  pub coming : (x : ℕ) → IsTrue (is_in x now) → c x + count x p ≡ full
  pub waiting : (x : ℕ) → IsTrue (is_in x other) → c x ≡ done

pub pending_in : (now other : List ℕ) (full done : ℕ) (c : ℕ → ℕ) (p : List ℕ) → Phase now other full done c p → (a : ℕ) → IsTrue (is_in a p) → IsTrue (is_in a now)
pending_in now other full done c p h a there = is_in_from_count a now (omega (arith, count_from_is_in a p there, h.below a))

-- how a symbol that comes changes the pending ones
without_here : (a : ℕ) (p : List ℕ) → IsTrue (is_in a p) → count a p ≡ 1 + count a (without a p)
without_here a p h = count_without a a p h ∙ count_same a (without a p)

without_elsewhere : (a x : ℕ) (p : List ℕ) → IsTrue (is_in a p) → (x ≡ a → ⊥) → count x (without a p) ≡ count x p
without_elsewhere a x p h n = sym (count_without a x p h ∙ count_other x a (without a p) n)

without_less : (a x : ℕ) (p : List ℕ) → IsTrue (is_in a p) → count x (without a p) ≤ count x p
without_less a x p h = ⊎_elim
    (λ e. subst (λ y. count y (without a p) ≤ count y p) (sym e) (omega (arith, without_here a p h)))
    (λ n. omega (arith, without_elsewhere a x p h n))
    (cases_eq x a)

pub phase_within : (now other : List ℕ) (full done : ℕ) (c d : ℕ → ℕ) (p : List ℕ) (a : ℕ) → Once now other → Phase now other full done c p → IsTrue (is_in a p) → Grew c a d → Phase now other full done d (without a p)
phase_within now other full done c d p a once h there g = record {
  below = λ x. omega (arith, without_less a x p there, h.below x);
  coming = λ x hx. ⊎_elim
      (λ e. subst (λ y. d y + count y (without a p) ≡ full) (sym e) (omega (arith, g.here, without_here a p there, h.coming a (subst (λ y. IsTrue (is_in y now)) e hx))))
      (λ n. omega (arith, g.elsewhere x n, without_elsewhere a x p there n, h.coming x hx))
      (cases_eq x a);
  waiting = λ x hx. g.elsewhere x (apart now other once a x (pending_in now other full done c p h a there) hx) ∙ h.waiting x hx;
}

pub phase_opens : (now other : List ℕ) (full done : ℕ) (c d : ℕ → ℕ) (a : ℕ) → Once now other → Phase now other full done c [] → IsTrue (is_in a other) → Grew c a d → Phase other now (suc done) full d (without a other)
phase_opens now other full done c d a once h there g = record {
  below = λ x. without_less a x other there;
  coming = λ x hx. ⊎_elim
      (λ e. subst (λ y. d y + count y (without a other) ≡ suc done) (sym e) (omega (arith, g.here, without_here a other there, once a, h.waiting a there)))
      (λ n. omega (arith, g.elsewhere x n, without_elsewhere a x other there n, h.waiting x hx, once x, count_from_is_in x other hx))
      (cases_eq x a);
  waiting = λ x hx. omega (arith, g.elsewhere x (apart other now (Once-swap now other once) a x there hx), h.coming x hx);
}

-- with nothing pending for any symbol there is nothing pending
pub none_pending : (now : List ℕ) (p : List ℕ) → ((x : ℕ) → count x p ≤ count x now) → ((x : ℕ) → IsTrue (is_in x now) → count x p ≡ 0) → p ≡ []
none_pending now [] below none = refl
none_pending now (x ∷ p) below none = absurd (omega (arith, none x (is_in_from_count x now (omega (arith, below x, count_same x p))), count_same x p))

pub some_member : (xs : List ℕ) → 0 < length xs → (x : ℕ) × IsTrue (is_in x xs)
some_member [] h = absurd (omega arith)
some_member (x ∷ xs) h = (x, is_in_from_count x (x ∷ xs) (omega (arith, count_same x xs)))
