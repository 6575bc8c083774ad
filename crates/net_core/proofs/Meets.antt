-- By which ports a run meets a node.
use Rattle.std.proofs.Common.{refl, ◌≡◌, ◌≢◌, ◌⊎◌, inl, inr, ℕ, List, [], ◌∷◌, ◌++◌, sym, ap, ◌∙◌, subst, append_assoc, append-nil}
use Rattle.std.proofs.lemmas.Bool.{cases_eq}
use Rattle.net_core.specs.Runs.{Fabric, State, Event, Fire, Pass, Run, after, after_all, grow}
use Rattle.net_core.proofs.Updates.{grow_same, grow_other}

pub data Meets (f : Fabric) (a : ℕ) : List Event → List ℕ → Type 0 where
  ends : Meets f a [] []
  fires_away : (n p : ℕ) {es : List Event} {ps : List ℕ} → n ≢ a → Meets f a es ps → Meets f a (Fire n p ∷ es) ps
  passes_away : (w : ℕ) {es : List Event} {ps : List ℕ} → f.to w ≢ a → Meets f a es ps → Meets f a (Pass w ∷ es) ps
  fires_here : (n p : ℕ) {es : List Event} {ps : List ℕ} → n ≡ a → Meets f a es ps → Meets f a (Fire n p ∷ es) (p ∷ ps)
  passes_here : (w p : ℕ) {es : List Event} {ps : List ℕ} → f.to w ≡ a → f.into w ≡ p → Meets f a es ps → Meets f a (Pass w ∷ es) (p ∷ ps)

-- The ports are what the run adds to the node's trace.
pub record Met (f : Fabric) (a : ℕ) (es : List Event) : Type 0 where
  pub ports : List ℕ
  pub meets : Meets f a es ports
  pub adds : (s : State) → (after_all f s es).trace a ≡ s.trace a ++ ports

added_here : (t : ℕ → List ℕ) (n p a : ℕ) (ps : List ℕ) → a ≡ n → grow t n p a ++ ps ≡ t a ++ p ∷ ps
added_here t n p a ps e = ap (λ x. x ++ ps) (grow_same t n p a e) ∙ append_assoc (t a) (p ∷ []) ps

added_away : (t : ℕ → List ℕ) (n p a : ℕ) (ps : List ℕ) → a ≢ n → grow t n p a ++ ps ≡ t a ++ ps
added_away t n p a ps h = ap (λ x. x ++ ps) (grow_other t n p a h)

met_fire : (f : Fabric) (a n p : ℕ) (es : List Event) → Met f a es → (a ≡ n) ⊎ (a ≡ n → ⊥) → Met f a (Fire n p ∷ es)
met_fire f a n p es m (inl e) = record {
  ports = p ∷ m.ports;
  meets = fires_here n p (sym e) m.meets;
  adds = λ s. m.adds (after f s (Fire n p)) ∙ added_here s.trace n p a m.ports e;
}
met_fire f a n p es m (inr h) = record {
  ports = m.ports;
  meets = fires_away n p (λ e. h (sym e)) m.meets;
  adds = λ s. m.adds (after f s (Fire n p)) ∙ added_away s.trace n p a m.ports h;
}

met_pass : (f : Fabric) (a w : ℕ) (es : List Event) → Met f a es → (a ≡ f.to w) ⊎ (a ≡ f.to w → ⊥) → Met f a (Pass w ∷ es)
met_pass f a w es m (inl e) = record {
  ports = f.into w ∷ m.ports;
  meets = passes_here w (f.into w) (sym e) refl m.meets;
  adds = λ s. m.adds (after f s (Pass w)) ∙ added_here s.trace (f.to w) (f.into w) a m.ports e;
}
met_pass f a w es m (inr h) = record {
  ports = m.ports;
  meets = passes_away w (λ e. h (sym e)) m.meets;
  adds = λ s. m.adds (after f s (Pass w)) ∙ added_away s.trace (f.to w) (f.into w) a m.ports h;
}

pub met : (f : Fabric) (a : ℕ) (es : List Event) → Met f a es
met f a [] = record { ports = []; meets = ends; adds = λ s. sym (append-nil (s.trace a)) }
met f a (Fire n p ∷ es) = met_fire f a n p es (met f a es) (cases_eq a n)
met f a (Pass w ∷ es) = met_pass f a w es (met f a es) (cases_eq a (f.to w))

one_more : (may : ℕ → List ℕ → Type 0) (t : ℕ → List ℕ) (n p a : ℕ) → may n (t n ++ p ∷ []) → (grow t n p a ≡ t a) ⊎ may a (grow t n p a)
one_more may t n p a g = elim (cases_eq a n) [
  | inl e ↦ inr (subst (may a) (sym (grow_same t n p a e)) (subst (λ m. may m (t m ++ p ∷ [])) (sym e) g))
  | inr d ↦ inl (grow_other t n p a d)
]

then_more : (P : List ℕ → Type 0) (t u v : List ℕ) → (u ≡ t) ⊎ P u → (v ≡ u) ⊎ P v → (v ≡ t) ⊎ P v
then_more P t u v x (inr h) = inr h
then_more P t u v (inl e) (inl f) = inl (f ∙ e)
then_more P t u v (inr h) (inl f) = inr (subst P (sym f) h)

-- A run leaves a node's trace as it was, or as one of its traces.
pub may_met : (f : Fabric) (a : ℕ) (es : List Event) (s : State) → Run f s es
    → ((after_all f s es).trace a ≡ s.trace a) ⊎ f.may a ((after_all f s es).trace a)
may_met f a [] s run = inl refl
may_met f a (Fire n p ∷ es) s run = then_more (f.may a) (s.trace a) (grow s.trace n p a) ((after_all f (after f s (Fire n p)) es).trace a)
    (one_more f.may s.trace n p a run.0.1) (may_met f a es (after f s (Fire n p)) run.2)
may_met f a (Pass w ∷ es) s run = then_more (f.may a) (s.trace a) (grow s.trace (f.to w) (f.into w) a) ((after_all f (after f s (Pass w)) es).trace a)
    (one_more f.may s.trace (f.to w) (f.into w) a run.1) (may_met f a es (after f s (Pass w)) run.2)
