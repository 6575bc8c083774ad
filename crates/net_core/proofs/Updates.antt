-- A node's trace and a wire after one event, at the changed place and elsewhere.
use Rattle.std.proofs.Common.{sym, ◌⊎◌, ◌≡◌, ◌≢◌, ℕ, Bool, true, false, List, [], ◌∷◌, ◌++◌, refl, ◌∙◌, ne_eqb, eq-eqb, inl, inr, ◌==◌, if◌then◌else◌}
use Rattle.std.proofs.lemmas.Bool.{cases_eq, false≢true}
use Rattle.net_core.specs.Runs.{grow, put}

pub grow_same : (t : ℕ → List ℕ) (n p m : ℕ) → m ≡ n → grow t n p m ≡ t m ++ p ∷ []
unfolding grow
grow_same t n p m e = rw (eq-eqb m n e) refl

pub grow_other : (t : ℕ → List ℕ) (n p m : ℕ) → m ≢ n → grow t n p m ≡ t m
unfolding grow
grow_other t n p m h = rw (ne_eqb m n h) refl

pub put_same : (b : ℕ → Bool) (w : ℕ) (x : Bool) (v : ℕ) → v ≡ w → put b w x v ≡ x
unfolding put
put_same b w x v e = rw (eq-eqb v w e) refl

pub put_other : (b : ℕ → Bool) (w : ℕ) (x : Bool) (v : ℕ) → v ≢ w → put b w x v ≡ b v
unfolding put
put_other b w x v h = rw (ne_eqb v w h) refl

pub put_false : (b : ℕ → Bool) (w v : ℕ) → b v ≡ false → put b w false v ≡ false
unfolding put
put_false b w v e = either (v == w) (b v) e
  where
    either : (t x : Bool) → x ≡ false → (if t then false else x) ≡ false
    either true x h = refl
    either false x h = h

-- a wire that becomes busy and free again
pub put_back : (b : ℕ → Bool) (w v : ℕ) → b v ≡ false → put (put b w true) w false v ≡ false
put_back b w v e = elim (cases_eq v w) [
  | inl h ↦ put_same (put b w true) w false v h
  | inr h ↦ put_other (put b w true) w false v h ∙ put_other b w true v h ∙ e
]

-- a wire that is busy after it, or another one, became free
pub was_true : (b : ℕ → Bool) (w v : ℕ) → put b w false v ≡ true → b v ≡ true
was_true b w v e = elim (cases_eq v w) [
  | inl h ↦ absurd (false≢true (sym (put_same b w false v h) ∙ e))
  | inr h ↦ sym (put_other b w false v h) ∙ e
]

-- a wire that is busy after one became busy
pub now_true : (b : ℕ → Bool) (w v : ℕ) → put b w true v ≡ true → (v ≡ w) ⊎ (b v ≡ true)
now_true b w v e = elim (cases_eq v w) [
  | inl h ↦ inl h
  | inr h ↦ inr (sym (put_other b w true v h) ∙ e)
]
