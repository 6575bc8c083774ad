-- If both parts are moreover exact, so is the joined network: a run of A and a run of B that agree at the joint become one.
use Rattle.std.proofs.Common.{◌⊎◌, ◌≡◌, ◌≢◌, ℕ, List, [], ◌∷◌, ◌++◌, true, false, ◌||◌, Some, sym, refl, ap, ◌∙◌, subst, inl, inr}
use Rattle.std.proofs.lemmas.Bool.{false≢true}
use Rattle.net_core.specs.Runs.{Fabric, State, start, Event, Fire, Pass, after, after_all, Enabled, Fits, Run, Safe, Sound, Exact}
use Rattle.net_core.proofs.Updates.{was_true, now_true}
use Rattle.net_core.proofs.Meets.{Meets, ends, fires_away, passes_away, fires_here, passes_here, met, may_met}
use Rattle.substitute.proofs.Joins.{Joins, mirror}
use Rattle.substitute.proofs.Follows.{hold, hold_at, split_swap, split_free_left, Follows, swap, back, fire, pass, over}
use Rattle.substitute.proofs.JoinedSound.{joined_sound, follows_start}

-- What holds of the states between two events of the merged run. A busy wire of a part is a wire of R.
pub record Both (A : Fabric) (a : ℕ) (B : Fabric) (b : ℕ) (R : Fabric) (k : Joins A a B b R) (s l r : State) : Type 0 where
  pub follows : Follows A a B b R k s l r
  pub safe : Safe R s
  pub here : (v : ℕ) → l.busy v ≡ true → (w : ℕ) × (k.here w ≡ Some v)
  pub there : (u : ℕ) → r.busy u ≡ true → (w : ℕ) × (k.there w ≡ Some u)

-- R plays an event, and the parts then stand at l and r.
pub record Plays (A : Fabric) (a : ℕ) (B : Fabric) (b : ℕ) (R : Fabric) (k : Joins A a B b R) (s l r : State) : Type 0 where
  pub event : Event
  pub on : Enabled R s event
  pub fits : Fits R s event
  pub both : Both A a B b R k (after R s event) l r

-- A run from s shows t.
pub record Shows (R : Fabric) (s : State) (t : List ℕ) : Type 0 where
  pub events : List Event
  pub run : Run R s events
  pub shown : (after_all R s events).trace 0 ≡ t

first : (R : Fabric) (s : State) (t : List ℕ) (e : Event) → Enabled R s e → Fits R s e → Shows R (after R s e) t → Shows R s t
first R s t e on fits o = record { events = e ∷ o.events; run = (on, fits, o.run); shown = o.shown }

-- The next event of a part is at the joint, by port p.
data Waits (f : Fabric) (a : ℕ) (s : State) (p : ℕ) : Event → Type 0 where
  sends : (n : ℕ) → n ≡ a → f.fires n p → Waits f a s p (Fire n p)
  takes : (w : ℕ) → f.to w ≡ a → f.into w ≡ p → s.busy w ≡ true → Waits f a s p (Pass w)

both_swap : (A : Fabric) (a : ℕ) (B : Fabric) (b : ℕ) (R : Fabric) (k : Joins A a B b R) (s l r : State)
    → Both A a B b R k s l r → Both B b A a R (mirror k) s r l
both_swap A a B b R k s l r h = record {
  follows = swap A a B b R k s l r h.follows;
  safe = h.safe;
  here = h.there;
  there = h.here;
}

both_back : (A : Fabric) (a : ℕ) (B : Fabric) (b : ℕ) (R : Fabric) (k : Joins A a B b R) (s l r : State)
    → Both B b A a R (mirror k) s r l → Both A a B b R k s l r
both_back A a B b R k s l r h = record {
  follows = back A a B b R k s l r h.follows;
  safe = h.safe;
  here = h.there;
  there = h.here;
}

plays_back : (A : Fabric) (a : ℕ) (B : Fabric) (b : ℕ) (R : Fabric) (k : Joins A a B b R) (s l r : State)
    → Plays B b A a R (mirror k) s r l → Plays A a B b R k s l r
plays_back A a B b R k s l r g = record {
  event = g.event;
  on = g.on;
  fits = g.fits;
  both = both_back A a B b R k (after R s g.event) l r g.both;
}

module _ (A : Fabric) (a : ℕ) (B : Fabric) (b : ℕ) (R : Fabric) (k : Joins A a B b R) (s l r : State) (h : Both A a B b R k s l r) where
  -- a kept node of A fires
  own_fire : (n p : ℕ) → n ≢ a → Enabled A l (Fire n p) → Plays A a B b R k s (after A l (Fire n p)) r
  own_fire n p ne on = record {
    event = Fire (k.i n) p;
    on = on';
    fits = free;
    both = record {
      follows = fire A a B b R k s l r n p ne on.0 free_there h.follows;
      safe = λ es run. h.safe (Fire (k.i n) p ∷ es) (on', free, run);
      here = λ v e. elim (now_true l.busy (A.wire n p) v e) [
        | inl at ↦ (R.wire (k.i n) p, k.left.drives n p ne on.0 ∙ ap Some (sym at))
        | inr old ↦ h.here v old
      ];
      there = h.there;
    };
  }
    where
      on' : Enabled R s (Fire (k.i n) p)
      on' = (
        (k.left.fires n p ne).1 on.0,
        subst (λ t. R.may (k.i n) (t ++ p ∷ [])) (sym (h.follows.left n ne)) ((k.left.may n ne (l.trace n ++ p ∷ [])).1 on.1),
      )

      free : s.busy (R.wire (k.i n) p) ≡ false
      free = h.safe [] tt (Fire (k.i n) p) on'

      free_there : hold r.busy (k.there (R.wire (k.i n) p)) ≡ false
      free_there = split_free_left _ _ _ (split_swap _ _ _ (h.follows.lines (R.wire (k.i n) p))) free

  -- a kept node of A receives
  own_pass : (v : ℕ) → A.to v ≢ a → l.busy v ≡ true → Plays A a B b R k s (after A l (Pass v)) r
  own_pass v ne busy = record {
    event = Pass w;
    on = on;
    fits = fits;
    both = record {
      follows = pass A a B b R k s l r w v is ne busy h.follows;
      safe = λ es run. h.safe (Pass w ∷ es) (on, fits, run);
      here = λ u e. h.here u (was_true l.busy v u e);
      there = h.there;
    };
  }
    where
      w : ℕ
      w = (h.here v busy).0

      is : k.here w ≡ Some v
      is = (h.here v busy).1

      on : s.busy w ≡ true
      on = (h.follows.lines w).either ∙ ap (λ y. y || hold r.busy (k.there w)) (hold_at l.busy v (k.here w) is ∙ busy)

      fits : R.may (R.to w) (s.trace (R.to w) ++ R.into w ∷ [])
      fits = h.safe [] tt (Pass w) on

  -- a receives and b fires the same port
  joint_over : (v m p : ℕ) → A.to v ≡ a → A.into v ≡ p → l.busy v ≡ true → m ≡ b
      → Both A a B b R k s (after A l (Pass v)) (after B r (Fire m p))
  joint_over v m p at by busy e = subst (λ x. Both A a B b R k s (after A l (Pass v)) (after B r (Fire x p))) (sym e)
      (subst (λ q. Both A a B b R k s (after A l (Pass v)) (after B r (Fire b q))) by (record {
        follows = over A a B b R k s l r w v is at busy h.follows;
        safe = h.safe;
        here = λ u f. h.here u (was_true l.busy v u f);
        there = λ u f. elim (now_true r.busy (B.wire b (A.into v)) u f) [
          | inl q ↦ (w, k.left.on w v is at ∙ ap Some (sym q))
          | inr old ↦ h.there u old
        ];
      }))
    where
      w : ℕ
      w = (h.here v busy).0

      is : k.here w ≡ Some v
      is = (h.here v busy).1

module _ (A : Fabric) (a : ℕ) (B : Fabric) (b : ℕ) (R : Fabric) (k : Joins A a B b R) where
  -- Both parts are at the joint by one port: one of them fires it and the other receives it.
  joint : (s l r : State) (p : ℕ) (d e : Event) → Waits A a l p d → Waits B b r p e → Both A a B b R k s l r
      → Both A a B b R k s (after A l d) (after B r e)
  joint s l r p _ _ (sends n at out) (sends m at' out') h =
      absurd (k.opposite p (subst (λ x. A.fires x p) at out) (subst (λ x. B.fires x p) at' out'))
  joint s l r p _ _ (sends n at out) (takes u at' by busy) h = both_back A a B b R k s (after A l (Fire n p)) (after B r (Pass u))
      (joint_over B b A a R (mirror k) s r l (both_swap A a B b R k s l r h) u n p at' by busy at)
  joint s l r p _ _ (takes v at by busy) (sends m at' out) h = joint_over A a B b R k s l r h v m p at by busy at'
  joint s l r p _ _ (takes v at by busy) (takes u at' by' busy') h =
      let (w, is) = h.here v busy in
      let (x, goes) = h.there u busy' in
      absurd (k.opposite p (subst (A.fires a) by' (k.right.port x u goes at')) (subst (B.fires b) by (k.left.port w v is at)))

  -- A waits at the joint with d: B goes on until it is there too, and K does the rest.
  chase : {fs : List Event} {qs : List ℕ} → Meets B b fs qs → (p : ℕ) (ps : List ℕ) → qs ≡ p ∷ ps
      → (t : List ℕ) (s l r : State) (d : Event) → Waits A a l p d → Run B r fs → Both A a B b R k s l r
      → ((gs : List Event) (s' r' : State) → Meets B b gs ps → Run B r' gs → Both A a B b R k s' (after A l d) r' → Shows R s' t)
      → Shows R s t
  chase ends p ps e t s l r d wait run h K = absurd (cc)
  chase (fires_away n q ne m) p ps e t s l r d wait run h K =
      let g = plays_back A a B b R k s l (after B r (Fire n q)) (own_fire B b A a R (mirror k) s r l (both_swap A a B b R k s l r h) n q ne run.0) in
      first R s t g.event g.on g.fits (chase m p ps e t (after R s g.event) l (after B r (Fire n q)) d wait run.2 g.both K)
  chase (passes_away u ne m) p ps e t s l r d wait run h K =
      let g = plays_back A a B b R k s l (after B r (Pass u)) (own_pass B b A a R (mirror k) s r l (both_swap A a B b R k s l r h) u ne run.0) in
      first R s t g.event g.on g.fits (chase m p ps e t (after R s g.event) l (after B r (Pass u)) d wait run.2 g.both K)
  chase (fires_here n q {es = gs} {ps = qs} at m) p ps e t s l r d wait run h K =
      let same : q ≡ p = cc in
      let rest : qs ≡ ps = cc in
      K gs s (after B r (Fire n q)) (subst (Meets B b gs) rest m) run.2
      (joint s l r q d (Fire n q) (subst (λ x. Waits A a l x d) (sym same) wait) (sends n at run.0.0) h)
  chase (passes_here u q {es = gs} {ps = qs} at by m) p ps e t s l r d wait run h K =
      let same : q ≡ p = cc in
      let rest : qs ≡ ps = cc in
      K gs s (after B r (Pass u)) (subst (Meets B b gs) rest m) run.2
      (joint s l r q d (Pass u) (subst (λ x. Waits A a l x d) (sym same) wait) (takes u at by run.0) h)

  merge : k.i 0 ≡ 0 → ◌≢◌ {A = ℕ} 0 a → {es : List Event} {ps : List ℕ} → Meets A a es ps
      → (t : List ℕ) (s l r : State) (fs : List Event) → Meets B b fs ps → Run A l es → Run B r fs → (after_all A l es).trace 0 ≡ t
      → Both A a B b R k s l r → Shows R s t
  merge i0 ne0 ends t s l r fs mb ra rb e h = record {
    events = [];
    run = tt;
    shown = ap s.trace (sym i0) ∙ h.follows.left 0 ne0 ∙ e;
  }
  merge i0 ne0 (fires_away n p ne m) t s l r fs mb ra rb e h =
      let g = own_fire A a B b R k s l r h n p ne ra.0 in
      first R s t g.event g.on g.fits (merge i0 ne0 m t (after R s g.event) (after A l (Fire n p)) r fs mb ra.2 rb e g.both)
  merge i0 ne0 (passes_away v ne m) t s l r fs mb ra rb e h =
      let g = own_pass A a B b R k s l r h v ne ra.0 in
      first R s t g.event g.on g.fits (merge i0 ne0 m t (after R s g.event) (after A l (Pass v)) r fs mb ra.2 rb e g.both)
  merge i0 ne0 (fires_here n p {ps = ps} at m) t s l r fs mb ra rb e h =
      chase mb p ps refl t s l r (Fire n p) (sends n at ra.0.0) rb h
      (λ gs s' r' mb' rb' h'. merge i0 ne0 m t s' (after A l (Fire n p)) r' gs mb' ra.2 rb' e h')
  merge i0 ne0 (passes_here v p {ps = ps} at by m) t s l r fs mb ra rb e h =
      chase mb p ps refl t s l r (Pass v) (takes v at by ra.0) rb h
      (λ gs s' r' mb' rb' h'. merge i0 ne0 m t s' (after A l (Pass v)) r' gs mb' ra.2 rb' e h')

-- The joined network is exact. B's node at the joint is its environment, and R's environment is A's.
pub joined_exact : (A : Fabric) (a : ℕ) (B : Fabric) (R : Fabric) (k : Joins A a B 0 R) → k.i 0 ≡ 0 → ◌≢◌ {A = ℕ} 0 a
    → Sound A → Sound B → Exact A → Exact B → Exact R
joined_exact A a B R k i0 ne0 sa sb ea eb t may = (o.events, o.run, o.shown)
  where
    both : Both A a B 0 R k start start start
    both = record {
      follows = follows_start A a B 0 R k;
      safe = joined_sound A a B 0 R k sa sb;
      here = λ v h. absurd (false≢true h);
      there = λ u h. absurd (false≢true h);
    }

    merged : (es : List Event) (ports : List ℕ) → Meets A a es ports → Run A start es → (after_all A start es).trace 0 ≡ t
        → (ports ≡ []) ⊎ A.may a ports → Shows R start t
    merged es ports ma ra e (inl none) =
        merge A a B 0 R k i0 ne0 ma t start start start [] (subst (Meets B 0 []) (sym none) ends) ra tt e both
    merged es ports ma ra e (inr h) =
        let (fs, rb, f) = eb ports ((k.same ports).0 h) in
        let mb = met B 0 fs in
        let agree : mb.ports ≡ ports = sym (mb.adds start) ∙ f in
        merge A a B 0 R k i0 ne0 ma t start start start fs (subst (Meets B 0 fs) agree mb.meets) ra rb e both

    o : Shows R start t
    o =
        let (es, ra, e) = ea t ((k.left.may 0 ne0 t).0 (subst (λ n. R.may n t) (sym i0) may)) in
        let ma = met A a es in
        merged es ma.ports ma.meets ra e (subst (λ u. (u ≡ []) ⊎ A.may a u) (ma.adds start) (may_met A a es start ra))
