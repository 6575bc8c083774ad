-- Webs by counts: how often each wire was fired, F, and handed over, P. A family of webs is proved by arithmetic on F and P alone.
use Rattle.std.proofs.Common.{◌≡◌, ℕ, suc, ◌≤◌, true, false, List, ◌⊎◌, inl, inr, refl, sym, ap, subst, ◌∙◌, arith}
use Rattle.std.proofs.Math.Path.{fun_ext}
use Rattle.cmd_tree.specs.Rounds.{tally, naught}
use Rattle.net_laws.proofs.Webs.{Web, WebSound, WebExact}
use Rattle.net_laws.proofs.Told as Told
use Rattle.net_laws.proofs.Told.{Longer, Lawful, sent, got, Flows, Tends, Went, Leads, pulls, ends, longer_away, count_more, count_away, count_other}

-- G is F with one more w
abbrev pub Grew : {W : Type 0} → (W → ℕ) → W → (W → ℕ) → Type 0
Grew {W} F w G = (v : W) → ((v ≡ w) × (G v ≡ suc (F v))) ⊎ ((v ≡ w → ⊥) × (G v ≡ F v))

pub grew_same : {W : Type 0} (F : W → ℕ) (w : W) (G : W → ℕ) → Grew F w G → (v : W) → v ≡ w → G v ≡ suc (F v)
grew_same F w G h v e = at (h v)
  where
    at : ((v ≡ w) × (G v ≡ suc (F v))) ⊎ ((v ≡ w → ⊥) × (G v ≡ F v)) → G v ≡ suc (F v)
    at (inl (p, x)) = x
    at (inr (p, x)) = absurd (p e)

pub grew_other : {W : Type 0} (F : W → ℕ) (w : W) (G : W → ℕ) → Grew F w G → (v : W) → (v ≡ w → ⊥) → G v ≡ F v
grew_other F w G h v e = at (h v)
  where
    at : ((v ≡ w) × (G v ≡ suc (F v))) ⊎ ((v ≡ w → ⊥) × (G v ≡ F v)) → G v ≡ F v
    at (inl (p, x)) = absurd (e p)
    at (inr (p, x)) = x

pub grew_le : {W : Type 0} (F : W → ℕ) (w : W) (G : W → ℕ) → Grew F w G → (v : W) → F v ≤ G v
grew_le F w G h v = at (h v)
  where
    at : ((v ≡ w) × (G v ≡ suc (F v))) ⊎ ((v ≡ w → ⊥) × (G v ≡ F v)) → F v ≤ G v
    at (inl (p, x)) = omega arith
    at (inr (p, x)) = omega arith

pub grew_unique : {W : Type 0} (F : W → ℕ) (w : W) (G H : W → ℕ) → Grew F w G → Grew F w H → (v : W) → G v ≡ H v
grew_unique F w G H g h v = at (g v)
  where
    at : ((v ≡ w) × (G v ≡ suc (F v))) ⊎ ((v ≡ w → ⊥) × (G v ≡ F v)) → G v ≡ H v
    at (inl (p, x)) = x ∙ sym (grew_same F w H h v p)
    at (inr (p, x)) = x ∙ sym (grew_other F w H h v p)

-- At the node n the counts c are those of the wires fired and handed over there.
pub record Reads (N W : Type 0) (d : Web N W) (n : N) (c F P : W → ℕ) : Type 0 where
  pub sent : (w : W) → d.driver w ≡ n → c w ≡ F w
  pub got : (w : W) → d.receiver w ≡ n → c w ≡ P w

-- The rules of the web depend on the counts of a trace alone.
pub record Counting (N W : Type 0) (d : Web N W) (R : N → (W → ℕ) → W → Type 0) : Type 0 where
  pub there : (n : N) (t : List W) (w : W) → d.rule n t w → R n (tally d.same_wire naught t) w
  pub back : (n : N) (t : List W) (w : W) → R n (tally d.same_wire naught t) w → d.rule n t w

-- Each move by a rule keeps I, and has no hazard.
pub record Keeps (N W : Type 0) (d : Web N W) (R : N → (W → ℕ) → W → Type 0) (In : W → Type 0) (I : (F P : W → ℕ) → Type 0) : Type 0 where
  pub begins : (F P : W → ℕ) → ((w : W) → F w ≡ 0) → ((w : W) → P w ≡ 0) → I F P
  pub sends : (F P c : W → ℕ) (w : W) → Flows F P → I F P → Reads N W d (d.driver w) c F P → R (d.driver w) c w
      → In w × (F w ≡ P w) × ((G : W → ℕ) → Grew F w G → I G P)
  pub lands : (F P c : W → ℕ) (w : W) → Flows F P → I F P → Reads N W d (d.receiver w) c F P → In w → F w ≡ suc (P w)
      → R (d.receiver w) c w × ((Q : W → ℕ) → Grew P w Q → I F Q)

-- Where no wire is busy, x counts each wire. Some inner wires, each fired and handed over at once, lead to the symbol q, after which J holds again.
pub data Draws (N W : Type 0) (d : Web N W) (R : N → (W → ℕ) → W → Type 0) (I : (F P : W → ℕ) → Type 0) (J : (W → ℕ) → Type 0) (q : W) : (W → ℕ) → Type 0 where
  pull : {x : W → ℕ} (w : W) → (d.driver w ≡ d.outside → ⊥) → (d.receiver w ≡ d.outside → ⊥)
      → ((c : W → ℕ) → Reads N W d (d.driver w) c x x → R (d.driver w) c w)
      → ((y : W → ℕ) → Grew x w y → I y y → Draws N W d R I J q y) → Draws N W d R I J q x
  -- the outside gives q
  give : {x : W → ℕ} → d.driver q ≡ d.outside → ((y : W → ℕ) → Grew x q y → I y y → J y) → Draws N W d R I J q x
  -- the outside is shown q
  show : {x : W → ℕ} → d.receiver q ≡ d.outside → ((c : W → ℕ) → Reads N W d (d.driver q) c x x → R (d.driver q) c q)
      → ((y : W → ℕ) → Grew x q y → I y y → J y) → Draws N W d R I J q x

module _ (N W : Type 0) (d : Web N W) (l : Lawful N W d) where
  pub sent_grew : (t : N → List W) (w : W) (u : N → List W) → Longer N W t (d.driver w) w u → Grew (sent d t) w (sent d u)
  sent_grew t w u h v = at (l.wires v w)
    where
      at : ((d.same_wire v w ≡ true) × (v ≡ w)) ⊎ ((d.same_wire v w ≡ false) × (v ≡ w → ⊥))
          → ((v ≡ w) × (sent d u v ≡ suc (sent d t v))) ⊎ ((v ≡ w → ⊥) × (sent d u v ≡ sent d t v))
      at (inl (e, p)) = inl (p, subst (λ x. sent d u x ≡ suc (sent d t x)) (sym p) (count_more N W d l t (d.driver w) w u h (d.driver w) refl))
      at (inr (e, p)) = inr (p, count_other N W d l t (d.driver w) w u h (d.driver v) v p)

  pub got_grew : (t : N → List W) (w : W) (u : N → List W) → Longer N W t (d.receiver w) w u → Grew (got d t) w (got d u)
  got_grew t w u h v = at (l.wires v w)
    where
      at : ((d.same_wire v w ≡ true) × (v ≡ w)) ⊎ ((d.same_wire v w ≡ false) × (v ≡ w → ⊥))
          → ((v ≡ w) × (got d u v ≡ suc (got d t v))) ⊎ ((v ≡ w → ⊥) × (got d u v ≡ got d t v))
      at (inl (e, p)) = inl (p, subst (λ x. got d u x ≡ suc (got d t x)) (sym p) (count_more N W d l t (d.receiver w) w u h (d.receiver w) refl))
      at (inr (e, p)) = inr (p, count_other N W d l t (d.receiver w) w u h (d.receiver v) v p)

  pub got_same : (t : N → List W) (w : W) (u : N → List W) → Longer N W t (d.driver w) w u → (v : W) → got d u v ≡ got d t v
  got_same t w u h v = at (l.wires v w)
    where
      at : ((d.same_wire v w ≡ true) × (v ≡ w)) ⊎ ((d.same_wire v w ≡ false) × (v ≡ w → ⊥)) → got d u v ≡ got d t v
      at (inl (e, p)) = subst (λ x. got d u x ≡ got d t x) (sym p) (count_away N W d l t (d.driver w) w u h (d.receiver w) (λ i. l.clean w (sym i)) w)
      at (inr (e, p)) = count_other N W d l t (d.driver w) w u h (d.receiver v) v p

  pub sent_same : (t : N → List W) (w : W) (u : N → List W) → Longer N W t (d.receiver w) w u → (v : W) → sent d u v ≡ sent d t v
  sent_same t w u h v = at (l.wires v w)
    where
      at : ((d.same_wire v w ≡ true) × (v ≡ w)) ⊎ ((d.same_wire v w ≡ false) × (v ≡ w → ⊥)) → sent d u v ≡ sent d t v
      at (inl (e, p)) = subst (λ x. sent d u x ≡ sent d t x) (sym p) (count_away N W d l t (d.receiver w) w u h (d.driver w) (l.clean w) w)
      at (inr (e, p)) = count_other N W d l t (d.receiver w) w u h (d.driver v) v p

  -- the counts of a node's trace are those of its wires
  reads_at : (t : N → List W) (n : N) → Reads N W d n (tally d.same_wire naught (t n)) (sent d t) (got d t)
  reads_at t n = record {
    sent = λ w e. ap (λ m. tally d.same_wire naught (t m) w) (sym e);
    got = λ w e. ap (λ m. tally d.same_wire naught (t m) w) (sym e);
  }

  module _ (R : N → (W → ℕ) → W → Type 0) (a : Counting N W d R) (In : W → Type 0) (I : (F P : W → ℕ) → Type 0) (k : Keeps N W d R In I) where
    abbrev Both : (N → List W) → Type 0
    Both t = I (sent d t) (got d t)

    tends : Tends N W d In Both
    tends = record {
      begins = k.begins (λ w. 0) (λ w. 0) (λ w. refl) (λ w. refl);
      sends = λ t w f i r.
          let h : In w × (sent d t w ≡ got d t w) × ((G : W → ℕ) → Grew (sent d t) w G → I G (got d t))
          = k.sends (sent d t) (got d t) (tally d.same_wire naught (t (d.driver w))) w f i (reads_at t (d.driver w)) (a.there (d.driver w) (t (d.driver w)) w r) in
          (h.0, h.1, λ u e. subst (λ p. I (sent d u) p) (sym (fun_ext (got_same t w u e))) (h.2 (sent d u) (sent_grew t w u e)));
      lands = λ t w f i x e.
          let h : R (d.receiver w) (tally d.same_wire naught (t (d.receiver w))) w × ((Q : W → ℕ) → Grew (got d t) w Q → I (sent d t) Q)
          = k.lands (sent d t) (got d t) (tally d.same_wire naught (t (d.receiver w))) w f i (reads_at t (d.receiver w)) x e in (
            a.back (d.receiver w) (t (d.receiver w)) w h.0,
            λ u g. subst (λ p. I p (got d u)) (sym (fun_ext (sent_same t w u g))) (h.1 (got d u) (got_grew t w u g)),
          );
    }

    sent_went : (t : N → List W) (w : W) (u : N → List W) → Went N W d t w u → Grew (sent d t) w (sent d u)
    sent_went t w u h = subst (λ g. Grew (sent d t) w g) (sym (fun_ext (sent_same h.0 w u h.2))) (sent_grew t w h.0 h.1)

    got_went : (t : N → List W) (w : W) (u : N → List W) → Went N W d t w u → Grew (got d t) w (got d u)
    got_went t w u h = subst (λ g. Grew g w (got d u)) (fun_ext (got_same t w h.0 h.1)) (got_grew h.0 w u h.2)

    -- both counts of a wire stay the same number where each firing is handed over at once
    went_even : (t : N → List W) (w : W) (u : N → List W) → sent d t ≡ got d t → Went N W d t w u → sent d u ≡ got d u
    went_even t w u e h = fun_ext (grew_unique (got d t) w (sent d u) (got d u) (subst (λ g. Grew g w (sent d u)) e (sent_went t w u h)) (got_went t w u h))

    even : (t : N → List W) → sent d t ≡ got d t → I (sent d t) (got d t) → I (sent d t) (sent d t)
    even t e i = subst (λ p. I (sent d t) p) (sym e) i

    reads_even : (x : W → ℕ) (t : N → List W) → x ≡ sent d t → sent d t ≡ got d t → (n : N) → Reads N W d n (tally d.same_wire naught (t n)) x x
    reads_even x t e f n = record {
      sent = λ w h. (reads_at t n).sent w h ∙ ap (λ g. g w) (sym e);
      got = λ w h. (reads_at t n).got w h ∙ ap (λ g. g w) (sym f ∙ sym e);
    }

    module _ (J : (W → ℕ) → Type 0) where
      abbrev Good : (N → List W) → Type 0
      Good t = J (sent d t)

      leads_of : (q : W) (x : W → ℕ) → Draws N W d R I J q x → (t : N → List W) → x ≡ sent d t → sent d t ≡ got d t
          → d.rule d.outside (t d.outside) q → Leads N W d Both Good q t
      leads_of q x (pull w b c g f) t e h r = pulls w b c
          (a.back (d.driver w) (t (d.driver w)) w (g (tally d.same_wire naught (t (d.driver w))) (reads_even x t e h (d.driver w))))
          (λ u m i. leads_of q (sent d u) (f (sent d u) (subst (λ z. Grew z w (sent d u)) (sym e) (sent_went t w u m)) (even u (went_even t w u h m) i))
          u refl (went_even t w u h m)
          (subst (λ z. d.rule d.outside z q) (sym (longer_away m.0 (d.receiver w) w u m.2 d.outside (λ o. c (sym o)) ∙ longer_away t (d.driver w) w m.0 m.1 d.outside (λ o. b (sym o)))) r))
      leads_of q x (give b f) t e h r = ends (inl b) (subst (λ n. d.rule n (t n) q) (sym b) r)
          (λ u m i. f (sent d u) (subst (λ z. Grew z q (sent d u)) (sym e) (sent_went t q u m)) (even u (went_even t q u h m) i))
      leads_of q x (show b g f) t e h r = ends (inr b)
          (a.back (d.driver q) (t (d.driver q)) q (g (tally d.same_wire naught (t (d.driver q))) (reads_even x t e h (d.driver q))))
          (λ u m i. f (sent d u) (subst (λ z. Grew z q (sent d u)) (sym e) (sent_went t q u m)) (even u (went_even t q u h m) i))

      pub exact_by : J (λ w. 0)
          → ((x c : W → ℕ) (q : W) → I x x → J x → Reads N W d d.outside c x x → R d.outside c q → Draws N W d R I J q x) → WebExact d
      exact_by j h = Told.web_exact N W d In Both Good l tends j (λ t q i g e r.
          let f : sent d t ≡ got d t = fun_ext e in
          leads_of q (sent d t) (h (sent d t) (tally d.same_wire naught (t d.outside)) q (even t f i) g (reads_even (sent d t) t refl f d.outside) (a.there d.outside (t d.outside) q r))
          t refl f r)

-- An invariant of the counts that each move keeps gives soundness.
pub web_sound : (N W : Type 0) (d : Web N W) (R : N → (W → ℕ) → W → Type 0) (In : W → Type 0) (I : (F P : W → ℕ) → Type 0)
    → Lawful N W d → Counting N W d R → Keeps N W d R In I → WebSound d
web_sound N W d R In I l a k = Told.web_sound N W d In (Both N W d l R a In I k) l (tends N W d l R a In I k)

-- Where moreover inner wires lead to each symbol that the outside may do, each of its traces is seen.
pub web_exact : (N W : Type 0) (d : Web N W) (R : N → (W → ℕ) → W → Type 0) (In : W → Type 0) (I : (F P : W → ℕ) → Type 0) (J : (W → ℕ) → Type 0)
    → Lawful N W d → Counting N W d R → Keeps N W d R In I → J (λ w. 0)
    → ((x c : W → ℕ) (q : W) → I x x → J x → Reads N W d d.outside c x x → R d.outside c q → Draws N W d R I J q x) → WebExact d
web_exact N W d R In I J l a k j h = exact_by N W d l R a In I k J j h
