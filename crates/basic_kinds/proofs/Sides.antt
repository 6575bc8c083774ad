-- The rows of a decision wait, or its columns: how often each has come beside how often its outputs have.
use Rattle.std.proofs.Common.{◌≡◌, ⊎_elim, ℕ, suc, ◌<◌, sym, ◌∙◌, subst, arith}
use Rattle.std.proofs.lemmas.Bool.{cases_eq}
use Rattle.basic_kinds.specs.Mirror.Sides.{Even, Ahead}

pub record Same (n : ℕ) (f g h k : ℕ → ℕ) : Type 0 where
  pub first : (i : ℕ) → i < n → h i ≡ f i
  pub second : (i : ℕ) → i < n → k i ≡ g i

pub record Enters (n : ℕ) (f g h k : ℕ → ℕ) (j : ℕ) : Type 0 where
  pub within : j < n
  pub here : h j ≡ suc (f j)
  pub others : (i : ℕ) → i < n → (i ≡ j → ⊥) → h i ≡ f i
  pub second : (i : ℕ) → i < n → k i ≡ g i

pub record Leaves (n : ℕ) (f g h k : ℕ → ℕ) (j : ℕ) : Type 0 where
  pub first : (i : ℕ) → i < n → h i ≡ f i
  pub here : k j ≡ suc (g j)
  pub others : (i : ℕ) → i < n → (i ≡ j → ⊥) → k i ≡ g i

module _ (n : ℕ) (f g h k : ℕ → ℕ) where
  pub same_back : Same n f g h k → Same n h k f g
  same_back s = record { first = λ i l. sym (s.first i l); second = λ i l. sym (s.second i l) }

  pub even_same : Same n f g h k → Even n f g → Even n h k
  even_same s e = λ i l. s.first i l ∙ e i l ∙ sym (s.second i l)

  pub ahead_same : (j : ℕ) → Same n f g h k → Ahead n f g j → Ahead n h k j
  ahead_same j s a = record {
    within = a.within;
    here = omega (arith, s.first j a.within, s.second j a.within, a.here);
    others = λ i l d. s.first i l ∙ a.others i l d ∙ sym (s.second i l);
  }

  pub even_enters : (j : ℕ) → Enters n f g h k j → Even n f g → Ahead n h k j
  even_enters j s e = record {
    within = s.within;
    here = omega (arith, s.here, e j s.within, s.second j s.within);
    others = λ i l d. s.others i l d ∙ e i l ∙ sym (s.second i l);
  }

  pub ahead_leaves : (j : ℕ) → Leaves n f g h k j → Ahead n f g j → Even n h k
  ahead_leaves j s a = λ i l. ⊎_elim
      (λ e. subst (λ x. h x ≡ k x) (sym e) (omega (arith, s.first j a.within, s.here, a.here)))
      (λ d. s.first i l ∙ a.others i l d ∙ sym (s.others i l d))
      (cases_eq i j)

module _ (n : ℕ) (f g : ℕ → ℕ) where
  pub ahead_even : (j : ℕ) → Ahead n f g j → Even n f g → ⊥
  ahead_even j a e = omega (arith, a.here, e j a.within)

  pub even_lags : (i : ℕ) → i < n → Even n f g → g i < f i → ⊥
  even_lags i l e h = omega (arith, e i l)

  pub ahead_lags : (j : ℕ) → Ahead n f g j → g j < f j
  ahead_lags j a = omega (arith, a.here)

  pub ahead_only : (i j : ℕ) → Ahead n f g j → i < n → g i < f i → i ≡ j
  ahead_only i j a l h = ⊎_elim (λ e. e) (λ d. absurd (omega (arith, a.others i l d))) (cases_eq i j)
