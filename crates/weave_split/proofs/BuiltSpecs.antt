-- The processes of a command, each as a command of its own, one after the other.
use Rattle.std.proofs.Common.{◌≡◌, ℕ, zero, suc, ◌+◌, ◌<◌, List, [], ◌∷◌, ◌++◌, length, get_or, inl, inr, refl, sym, ap, subst, ◌∙◌, arith}
use Rattle.std.proofs.lemmas.Bool.{cases_lt}
use Rattle.net_core.specs.declared.spec.NodeSpec.{NodeSpec}
use Rattle.weave_split.specs.Mirror.TieTables.{spec_of}

push_below : {A : Type 0} (d x : A) (xs : List A) (p : ℕ) → p < length xs → get_or (xs ++ x ∷ []) p d ≡ get_or xs p d
push_below d x [] p low = absurd (omega arith)
push_below d x (y ∷ xs) zero low = refl
push_below d x (y ∷ xs) (suc p) low = push_below d x xs p (omega arith)

push_at : {A : Type 0} (d x : A) (xs : List A) → get_or (xs ++ x ∷ []) (length xs) d ≡ x
push_at d x [] = refl
push_at d x (y ∷ xs) = push_at d x xs

-- what holds of the specifications holds with one more
pub spec_more : (G : ℕ → Type 0) (P : ℕ → NodeSpec → Type 0) (xs : List NodeSpec) (x : NodeSpec) (n : ℕ) → length xs ≡ n → ((p : ℕ) → p < n → G p → P p (spec_of xs p)) → (G n → P n x)
    → (p : ℕ) → p < n + 1 → G p → P p (spec_of (xs ++ x ∷ []) p)
spec_more G P xs x n long before here p low g = elim (cases_lt p n) [
  | inl below ↦ subst (P p) (sym (push_below _ x xs p (omega (arith, below, long)))) (before p below g)
  | inr past ↦
      let at : p ≡ n = omega (arith, past, low) in
      let last : spec_of (xs ++ x ∷ []) p ≡ x = ap (spec_of (xs ++ x ∷ [])) (at ∙ sym long) ∙ push_at _ x xs in
      subst (P p) (sym last) (subst (λ (k : ℕ). P k x) (sym at) (here (subst G at g)))
]
