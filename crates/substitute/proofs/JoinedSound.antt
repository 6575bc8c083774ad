-- If both parts are sound, so is the joined network.
use Rattle.std.proofs.Common.{◌≡◌, ◌≢◌, ℕ, List, [], ◌∷◌, ◌++◌, true, false, ◌||◌, Some, sym, refl, ap, ◌∙◌, subst, inl, inr, ⊎_elim}
use Rattle.std.proofs.lemmas.Bool.{cases_eq, or_cases}
use Rattle.std.proofs.lemmas.Option.{none-some, same_Some}
use Rattle.net_core.specs.Runs.{Fabric, State, start, Event, Fire, Pass, after, after_all, Enabled, Fits, Run, Safe, Sound}
use Rattle.net_core.proofs.Updates.{grow_same, grow_other, put_same, put_other, put_false, put_back}
use Rattle.substitute.proofs.Joins.{Joins, mirror}
use Rattle.substitute.proofs.Follows.{hold, Follows, swap, back, fire, pass, over, pass_fits, none_held, held}

-- What holds of the states between two events of the joined network. The two nodes at the joint have the same
-- trace, and a wire of both parts carries nothing on the side where it leads to a kept node.
pub record Sim (A : Fabric) (a : ℕ) (B : Fabric) (b : ℕ) (R : Fabric) (k : Joins A a B b R) (s l r : State) : Type 0 where
  pub follows : Follows A a B b R k s l r
  pub meet : l.trace a ≡ r.trace b
  pub quiet : (w v u : ℕ) → k.here w ≡ Some v → k.there w ≡ Some u → A.to v ≡ a → r.busy u ≡ false
  pub calm : (w v u : ℕ) → k.here w ≡ Some v → k.there w ≡ Some u → B.to u ≡ b → l.busy v ≡ false
  pub safe_left : Safe A l
  pub safe_right : Safe B r

-- An event of R has no hazard, and states of the parts follow it.
pub record Goes (A : Fabric) (a : ℕ) (B : Fabric) (b : ℕ) (R : Fabric) (k : Joins A a B b R) (s : State) (e : Event) : Type 0 where
  pub fits : Fits R s e
  pub l : State
  pub r : State
  pub sim : Sim A a B b R k (after R s e) l r

sim_swap : (A : Fabric) (a : ℕ) (B : Fabric) (b : ℕ) (R : Fabric) (k : Joins A a B b R) (s l r : State)
    → Sim A a B b R k s l r → Sim B b A a R (mirror k) s r l
sim_swap A a B b R k s l r m = record {
  follows = swap A a B b R k s l r m.follows;
  meet = sym m.meet;
  quiet = λ w v u g h. m.calm w u v h g;
  calm = λ w v u g h. m.quiet w u v h g;
  safe_left = m.safe_right;
  safe_right = m.safe_left;
}

goes_back : (A : Fabric) (a : ℕ) (B : Fabric) (b : ℕ) (R : Fabric) (k : Joins A a B b R) (s : State) (e : Event)
    → Goes B b A a R (mirror k) s e → Goes A a B b R k s e
goes_back A a B b R k s e g = record {
  fits = g.fits;
  l = g.r;
  r = g.l;
  sim = record {
    follows = back A a B b R k (after R s e) g.r g.l g.sim.follows;
    meet = sym g.sim.meet;
    quiet = λ w v u x y. g.sim.calm w u v y x;
    calm = λ w v u x y. g.sim.quiet w u v y x;
    safe_left = g.sim.safe_right;
    safe_right = g.sim.safe_left;
  };
}

module _ (A : Fabric) (a : ℕ) (B : Fabric) (b : ℕ) (R : Fabric) (k : Joins A a B b R) (s l r : State) (m : Sim A a B b R k s l r) where
  -- B holds nothing on a wire that a kept node of A drives
  free_there : (n p : ℕ) → n ≢ a → A.fires n p → hold r.busy (k.there (R.wire (k.i n) p)) ≡ false
  free_there n p ne out = ⊎_elim led kept (cases_eq (A.to (A.wire n p)) a)
    where
      led : A.to (A.wire n p) ≡ a → hold r.busy (k.there (R.wire (k.i n) p)) ≡ false
      led at = let on = k.left.on (R.wire (k.i n) p) (A.wire n p) (k.left.drives n p ne out) at in
          ap (hold r.busy) on ∙ m.quiet (R.wire (k.i n) p) (A.wire n p) (B.wire b (A.into (A.wire n p))) (k.left.drives n p ne out) on at

      kept : (A.to (A.wire n p) ≡ a → ⊥) → hold r.busy (k.there (R.wire (k.i n) p)) ≡ false
      kept h = ap (hold r.busy) (k.left.own n p ne out h)

  -- a wire of both parts that leads to b is driven by a, and so by no kept node of A
  not_driven : (n p : ℕ) → n ≢ a → A.fires n p → (w v u : ℕ) → k.here w ≡ Some v → k.there w ≡ Some u → B.to u ≡ b → v ≢ A.wire n p
  not_driven n p ne out w v u is goes at e =
      let from : v ≡ A.wire a (B.into u) = same_Some v (A.wire a (B.into u)) (sym is ∙ k.right.on w u goes at) in
      let past : A.to (A.wire n p) ≢ a = λ q. k.right.past w u goes at (ap A.to (sym from ∙ e) ∙ q) in
      let same : w ≡ R.wire (k.i n) p = k.left.one w (R.wire (k.i n) p) (A.wire n p) (is ∙ ap Some e) (k.left.drives n p ne out) in
      none-some u (sym (k.left.own n p ne out past) ∙ ap k.there (sym same) ∙ goes)

  sim_fire : (n p : ℕ) → n ≢ a → Enabled R s (Fire (k.i n) p) → Goes A a B b R k s (Fire (k.i n) p)
  sim_fire n p ne on = record {
    fits = (m.follows.lines (R.wire (k.i n) p)).either ∙ none_busy;
    l = after A l (Fire n p);
    r = r;
    sim = record {
      follows = fire A a B b R k s l r n p ne out (free_there n p ne out) m.follows;
      meet = grow_other l.trace n p a (λ e. ne (sym e)) ∙ m.meet;
      quiet = m.quiet;
      calm = λ w v u is goes at. put_other l.busy (A.wire n p) true v (not_driven n p ne out w v u is goes at) ∙ m.calm w v u is goes at;
      safe_left = λ es run. m.safe_left (Fire n p ∷ es) ((out, may), free, run);
      safe_right = m.safe_right;
    };
  }
    where
      out : A.fires n p
      out = (k.left.fires n p ne).0 on.0

      may : A.may n (l.trace n ++ p ∷ [])
      may = (k.left.may n ne (l.trace n ++ p ∷ [])).0 (subst (λ t. R.may (k.i n) (t ++ p ∷ [])) (m.follows.left n ne) on.1)

      free : l.busy (A.wire n p) ≡ false
      free = m.safe_left [] tt (Fire n p) (out, may)

      none_busy : (hold l.busy (k.here (R.wire (k.i n) p)) || hold r.busy (k.there (R.wire (k.i n) p))) ≡ false
      none_busy = rw (k.left.drives n p ne out, free) (free_there n p ne out)

  sim_pass : (w v : ℕ) → k.here w ≡ Some v → l.busy v ≡ true → A.to v ≢ a → Goes A a B b R k s (Pass w)
  sim_pass w v is busy ne = record {
    fits = pass_fits A a B b R k s l r w v is ne may m.follows;
    l = after A l (Pass v);
    r = r;
    sim = record {
      follows = pass A a B b R k s l r w v is ne busy m.follows;
      meet = grow_other l.trace (A.to v) (A.into v) a (λ e. ne (sym e)) ∙ m.meet;
      quiet = m.quiet;
      calm = λ x y u g h at. put_false l.busy v y (m.calm x y u g h at);
      safe_left = λ es run. m.safe_left (Pass v ∷ es) (busy, may, run);
      safe_right = m.safe_right;
    };
  }
    where
      may : A.may (A.to v) (l.trace (A.to v) ++ A.into v ∷ [])
      may = m.safe_left [] tt (Pass v) busy

  sim_over : (w v : ℕ) → k.here w ≡ Some v → l.busy v ≡ true → A.to v ≡ a → Goes A a B b R k s (Pass w)
  sim_over w v is busy at = record {
    fits = pass_fits B b A a R (mirror k) s r₁ l₁ w u goes past (safe₁ [] tt (Pass u) full) (swap A a B b R k s l₁ r₁ follows₁);
    l = l₁;
    r = after B r₁ (Pass u);
    sim = record {
      follows = back A a B b R k (after R s (Pass w)) l₁ (after B r₁ (Pass u))
          (pass B b A a R (mirror k) s r₁ l₁ w u goes past full (swap A a B b R k s l₁ r₁ follows₁));
      meet = grow_same l.trace (A.to v) q a (sym at) ∙ ap (λ t. t ++ q ∷ []) m.meet ∙ sym (grow_same r.trace b q b refl)
          ∙ sym (grow_other r₁.trace (B.to u) (B.into u) b (λ e. past (sym e)));
      quiet = λ x y z g h e. put_back r.busy u z (m.quiet x y z g h e);
      calm = λ x y z g h e. put_false l.busy v y (m.calm x y z g h e);
      safe_left = λ es run. m.safe_left (Pass v ∷ es) (busy, may, run);
      safe_right = λ es run. safe₁ (Pass u ∷ es) (full, safe₁ [] tt (Pass u) full, run);
    };
  }
    where
      q : ℕ
      q = A.into v

      u : ℕ
      u = B.wire b q

      l₁ : State
      l₁ = after A l (Pass v)

      r₁ : State
      r₁ = after B r (Fire b q)

      goes : k.there w ≡ Some u
      goes = k.left.on w v is at

      past : B.to u ≢ b
      past = k.left.past w v is at

      may : A.may (A.to v) (l.trace (A.to v) ++ q ∷ [])
      may = m.safe_left [] tt (Pass v) busy

      may_b : B.may b (r.trace b ++ q ∷ [])
      may_b = (k.same (r.trace b ++ q ∷ [])).0 (subst (λ t. A.may a (t ++ q ∷ [])) m.meet (subst (λ n. A.may n (l.trace n ++ q ∷ [])) at may))

      free : r.busy u ≡ false
      free = m.safe_right [] tt (Fire b q) (k.left.port w v is at, may_b)

      safe₁ : Safe B r₁
      safe₁ es run = m.safe_right (Fire b q ∷ es) ((k.left.port w v is at, may_b), free, run)

      full : r₁.busy u ≡ true
      full = put_same r.busy u true u refl

      follows₁ : Follows A a B b R k s l₁ r₁
      follows₁ = over A a B b R k s l r w v is at busy m.follows

  sim_own : (n p m' : ℕ) → n ≢ a → m' ≡ k.i n → Enabled R s (Fire m' p) → Goes A a B b R k s (Fire m' p)
  sim_own n p m' ne e on = subst (λ x. Goes A a B b R k s (Fire x p)) (sym e) (sim_fire n p ne (subst (λ x. Enabled R s (Fire x p)) e on))

  sim_held : (w : ℕ) → hold l.busy (k.here w) ≡ true → Goes A a B b R k s (Pass w)
  sim_held w h = let (v, is, busy) = held l.busy (k.here w) h in
      ⊎_elim (sim_over w v is busy) (sim_pass w v is busy) (cases_eq (A.to v) a)

module _ (A : Fabric) (a : ℕ) (B : Fabric) (b : ℕ) (R : Fabric) (k : Joins A a B b R) where
  pub sim_step : (s l r : State) → Sim A a B b R k s l r → (e : Event) → Enabled R s e → Goes A a B b R k s e
  sim_step s l r m (Fire n p) on = elim (k.nodes n p on.0) [
    | inl h ↦ sim_own A a B b R k s l r m h.0 p n h.1 h.2 on
    | inr h ↦ goes_back A a B b R k s (Fire n p) (sim_own B b A a R (mirror k) s r l (sim_swap A a B b R k s l r m) h.0 p n h.1 h.2 on)
  ]
  sim_step s l r m (Pass w) on =
      elim (or_cases (hold l.busy (k.here w)) (hold r.busy (k.there w)) (sym (m.follows.lines w).either ∙ on)) [
        | inl h ↦ sim_held A a B b R k s l r m w h
        | inr h ↦ goes_back A a B b R k s (Pass w) (sim_held B b A a R (mirror k) s r l (sim_swap A a B b R k s l r m) w h)
      ]

  sim_safe : (es : List Event) (s l r : State) → Sim A a B b R k s l r → Run R s es
      → (e : Event) → Enabled R (after_all R s es) e → Fits R (after_all R s es) e
  sim_safe [] s l r m run e on = (sim_step s l r m e on).fits
  sim_safe (d ∷ es) s l r m run e on = let g = sim_step s l r m d run.0 in sim_safe es (after R s d) g.l g.r g.sim run.2 e on

  pub follows_start : Follows A a B b R k start start start
  follows_start = record {
    left = λ n ne. refl;
    right = λ n ne. refl;
    lines = λ w. record { either = rw (none_held (k.here w)) (sym (none_held (k.there w))); once = rw (none_held (k.here w)) refl };
  }

  -- the joined network is sound
  pub joined_sound : Sound A → Sound B → Sound R
  joined_sound f g es run e on = sim_safe es start start start (record {
    follows = follows_start;
    meet = refl;
    quiet = λ w v u x y z. refl;
    calm = λ w v u x y z. refl;
    safe_left = f;
    safe_right = g;
  }) run e on
