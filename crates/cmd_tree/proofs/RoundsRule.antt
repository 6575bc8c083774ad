-- Counts and rules of a trace with one more symbol.
use Rattle.std.proofs.Common.{◌≡◌, ◌↔◌, ◌⊎◌, inl, inr, ℕ, suc, ◌+◌, Bool, true, false, List, [], ◌∷◌, ◌++◌, nat_eq, if◌then◌else◌, refl, sym, ap, ◌∙◌, subst, arith, append_assoc, append-nil, count_by, eq-eqb, ne_eqb}
use Rattle.std.proofs.lemmas.Bool.{cases_eq}
use Rattle.cmd_tree.specs.Rounds.{grown, tally, naught, same_number, counts, Follows, RoundsAt, Rounds}
use Rattle.cmd_tree.proofs.Bursts.{count, count_is}

-- ---- rules at each place

pub follows_end : {W : Type 0} (a : List W → W → Type 0) (b t : List W) (w : W) → Follows a b t → a (b ++ t) w → Follows a b (t ++ w ∷ [])
follows_end a b [] w f r = (subst (λ l. a l w) (append-nil b) r, tt)
follows_end a b (v ∷ t) w f r = (f.0, follows_end a (b ++ v ∷ []) t w f.1 (subst (λ l. a l w) (sym (append_assoc b (v ∷ []) t)) r))

pub follows_last : {W : Type 0} (a : List W → W → Type 0) (b t : List W) (w : W) → Follows a b (t ++ w ∷ []) → a (b ++ t) w
follows_last a b [] w f = subst (λ l. a l w) (sym (append-nil b)) f.0
follows_last a b (v ∷ t) w f = subst (λ l. a l w) (append_assoc b (v ∷ []) t) (follows_last a (b ++ v ∷ []) t w f.1)

pub follows_start : {W : Type 0} (a : List W → W → Type 0) (b t : List W) (w : W) → Follows a b (t ++ w ∷ []) → Follows a b t
follows_start a b [] w f = tt
follows_start a b (v ∷ t) w f = (f.0, follows_start a (b ++ v ∷ []) t w f.1)

-- one rule for another
pub follows_by : {W : Type 0} (a c : List W → W → Type 0) → ((u : List W) (w : W) → a u w → c u w) → (b t : List W) → Follows a b t → Follows c b t
follows_by a c f b [] h = tt
follows_by a c f b (w ∷ t) h = (f b w h.0, follows_by a c f (b ++ w ∷ []) t h.1)

-- ---- counts

pub tally_end : {W : Type 0} (same : W → W → Bool) (c : W → ℕ) (t : List W) (w : W) → tally same c (t ++ w ∷ []) ≡ grown same (tally same c t) w
tally_end same c [] w = refl
tally_end same c (v ∷ t) w = tally_end same (grown same c v) t w

grown_cases : (c : ℕ → ℕ) (p q : ℕ) → ((q ≡ p) × (grown same_number c p q ≡ suc (c q))) ⊎ ((q ≡ p → ⊥) × (grown same_number c p q ≡ c q))
grown_cases c p q = at (cases_eq q p)
  where
    at : (q ≡ p) ⊎ (q ≡ p → ⊥) → ((q ≡ p) × (grown same_number c p q ≡ suc (c q))) ⊎ ((q ≡ p → ⊥) × (grown same_number c p q ≡ c q))
    at (inl e) = inl (e, ap (λ b. if b then suc (c q) else c q) (eq-eqb q p e))
    at (inr e) = inr (e, ap (λ b. if b then suc (c q) else c q) (ne_eqb q p e))

pub counts_end : (t : List ℕ) (p q : ℕ) → ((q ≡ p) × (counts (t ++ p ∷ []) q ≡ suc (counts t q))) ⊎ ((q ≡ p → ⊥) × (counts (t ++ p ∷ []) q ≡ counts t q))
counts_end t p q = subst (λ c. ((q ≡ p) × (c q ≡ suc (counts t q))) ⊎ ((q ≡ p → ⊥) × (c q ≡ counts t q))) (sym (tally_end same_number naught t p)) (grown_cases (counts t) p q)

tally_is : (t : List ℕ) (c : ℕ → ℕ) (q : ℕ) → tally same_number c t q ≡ c q + count q t
tally_is [] c q = omega arith
tally_is (p ∷ t) c q = tally_is t (grown same_number c p) q ∙ by (nat_eq q p) (c q) (count q t)
  where
    by : (b : Bool) (m n : ℕ) → (if b then suc m else m) + n ≡ m + (if b then 1 + n else n)
    by true m n = omega arith
    by false m n = refl

pub counts_is : (t : List ℕ) (q : ℕ) → counts t q ≡ count_by (nat_eq q) t
counts_is t q = omega (arith, tally_is t naught q, count_is q t)

-- ---- rounds

pub rounds_end : (n m : ℕ) (t : List ℕ) (p : ℕ) → Rounds n m t → RoundsAt n m (counts t) p → Rounds n m (t ++ p ∷ [])
rounds_end n m t p h r = follows_end (λ u p. RoundsAt n m (counts u) p) [] t p h r

pub rounds_last : (n m : ℕ) (t : List ℕ) (p : ℕ) → Rounds n m (t ++ p ∷ []) → RoundsAt n m (counts t) p
rounds_last n m t p h = follows_last (λ u p. RoundsAt n m (counts u) p) [] t p h

pub rounds_start : (n m : ℕ) (t : List ℕ) (p : ℕ) → Rounds n m (t ++ p ∷ []) → Rounds n m t
rounds_start n m t p h = follows_start (λ u p. RoundsAt n m (counts u) p) [] t p h

pub rounds_push : (n m : ℕ) (t : List ℕ) (p : ℕ) → Rounds n m (t ++ p ∷ []) ↔ (Rounds n m t × RoundsAt n m (counts t) p)
rounds_push n m t p = (λ h. (rounds_start n m t p h, rounds_last n m t p h), λ h. rounds_end n m t p h.0 h.1)

pub rounds_nil : (n m : ℕ) → Rounds n m []
rounds_nil n m = tt
