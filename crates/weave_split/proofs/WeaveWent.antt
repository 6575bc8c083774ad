-- What one wire of a weave that is fired and handed over at once adds.
use Rattle.std.proofs.Common.{◌≡◌, ◌⊎◌, inl, inr, ℕ, suc, List, [], ◌∷◌, ◌++◌, refl, sym, ap, subst, ◌∙◌}
use Rattle.std.proofs.Math.Path.{fun_ext}
use Rattle.net_laws.proofs.Webs.{Web}
use Rattle.net_laws.proofs.Told.{Lawful, sent, got, longer_at, longer_away, Went}
use Rattle.net_laws.proofs.Woven.{Grew, grew_same, grew_other, sent_grew, got_grew, got_same, sent_same}
use Rattle.weave_split.specs.WeaveChart.{Wire, Name, Ties, driver, receiver}
use Rattle.weave_split.proofs.WeaveWeb.{web, lawful}

module _ (g : Ties) (whole : List ℕ → Type 0) (traces : ℕ → List ℕ → Type 0) where
  abbrev pub net : Web Name Wire
  net = web g whole traces

  abbrev fine : Lawful Name Wire net
  fine = lawful g whole traces

  abbrev pub Even : (Name → List Wire) → Type 0
  Even t = (v : Wire) → sent net t v ≡ got net t v

  module _ (t : Name → List Wire) (w : Wire) (u : Name → List Wire) (h : Went Name Wire net t w u) where
    pub went_sent : Grew (sent net t) w (sent net u)
    went_sent = subst (λ x. Grew (sent net t) w x) (sym (fun_ext (sent_same Name Wire net fine h.0 w u h.2))) (sent_grew Name Wire net fine t w h.0 h.1)

    pub went_got : Grew (got net t) w (got net u)
    went_got = subst (λ x. Grew x w (got net u)) (fun_ext (got_same Name Wire net fine t w h.0 h.1)) (got_grew Name Wire net fine h.0 w u h.2)

    pub more_sent : sent net u w ≡ suc (sent net t w)
    more_sent = grew_same (sent net t) w (sent net u) went_sent w refl

    pub more_got : got net u w ≡ suc (got net t w)
    more_got = grew_same (got net t) w (got net u) went_got w refl

    pub same_sent : (v : Wire) → (v ≡ w → ⊥) → sent net u v ≡ sent net t v
    same_sent v a = grew_other (sent net t) w (sent net u) went_sent v a

    pub same_got : (v : Wire) → (v ≡ w → ⊥) → got net u v ≡ got net t v
    same_got v a = grew_other (got net t) w (got net u) went_got v a

    pub went_even : Even t → Even u
    went_even even v = at (went_sent v) (went_got v)
      where
        at : ((v ≡ w) × (sent net u v ≡ suc (sent net t v))) ⊎ ((v ≡ w → ⊥) × (sent net u v ≡ sent net t v))
            → ((v ≡ w) × (got net u v ≡ suc (got net t v))) ⊎ ((v ≡ w → ⊥) × (got net u v ≡ got net t v)) → sent net u v ≡ got net u v
        at (inl (e, x)) (inl (z, y)) = x ∙ ap suc (even v) ∙ sym y
        at (inl (e, x)) (inr (z, y)) = absurd (z e)
        at (inr (e, x)) (inl (z, y)) = absurd (e z)
        at (inr (e, x)) (inr (z, y)) = x ∙ even v ∙ sym y

    pub went_away : (n : Name) → (driver g w ≡ n → ⊥) → (receiver g w ≡ n → ⊥) → u n ≡ t n
    went_away n a b = longer_away h.0 (receiver g w) w u h.2 n (λ e. b (sym e)) ∙ longer_away t (driver g w) w h.0 h.1 n (λ e. a (sym e))

    pub went_in : (n : Name) → (driver g w ≡ n → ⊥) → receiver g w ≡ n → u n ≡ t n ++ w ∷ []
    went_in n a e = longer_at h.0 (receiver g w) w u h.2 n (sym e) ∙ ap (λ v. v ++ w ∷ []) (longer_away t (driver g w) w h.0 h.1 n (λ e. a (sym e)))

    pub went_out : (n : Name) → driver g w ≡ n → (receiver g w ≡ n → ⊥) → u n ≡ t n ++ w ∷ []
    went_out n e b = longer_away h.0 (receiver g w) w u h.2 n (λ e. b (sym e)) ∙ longer_at t (driver g w) w h.0 h.1 n (sym e)
