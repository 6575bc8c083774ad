-- Nodes of a web that act as WIREs and are left out: one wire of a network stands for a path of wires of the web.
use Rattle.std.proofs.Common.{◌≡◌, ℕ, suc, ◌<◌, ◌≤◌, Bool, true, false, List, [], ◌∷◌, ◌++◌, ◌⊎◌, inl, inr, refl, sym, ap, subst, ◌∙◌, arith}
use Rattle.std.proofs.lemmas.Bool.{cases_lt}
use Rattle.cmd_tree.specs.Rounds.{tally, naught}
use Rattle.cmd_tree.proofs.RoundsRule.{follows_end, follows_last}
use Rattle.net_laws.proofs.Webs.{Move, Send, Land, Web, Stage, longer, marked, May, begin, next, next_all, Ready, Safe, Plays, WebSound}
use Rattle.net_laws.proofs.Told.{Lawful, sent, got, Longer, longer_is, longer_away, marked_cases}
use Rattle.net_laws.proofs.Woven.{Grew, grew_same, grew_other, grew_le, sent_grew, got_grew, got_same, sent_same}

-- how often a wire is in a trace
abbrev pub times : {N W : Type 0} → Web N W → List W → W → ℕ
times d t w = tally d.same_wire naught t w

-- The node at the end of x acts as a WIRE from x to y, and is left out.
pub record Hop (N W : Type 0) (d : Web N W) (Kept : N → Type 0) (x y : W) : Type 0 where
  pub joins : d.driver y ≡ d.receiver x
  pub inner : Kept (d.receiver x) → ⊥
  -- it takes x where it has given what it took
  pub takes : (t : List W) → d.rule (d.receiver x) t x → times d t x ≡ times d t y
  -- it gives y where it has taken more, and only there
  pub gives : (t : List W) → times d t y < times d t x → d.rule (d.receiver x) t y
  pub passed : (t : List W) → d.rule (d.receiver x) t y → times d t y < times d t x

-- hops one after another, from the wire x to the wire z
pub data Path (N W : Type 0) (d : Web N W) (Kept : N → Type 0) : W → W → Type 0 where
  here : (x : W) → Path N W d Kept x x
  hop : (x y z : W) → Hop N W d Kept x y → (x ≡ z → ⊥) → Path N W d Kept y z → Path N W d Kept x z

module _ (N W : Type 0) (d : Web N W) (l : Lawful N W d) (Kept : N → Type 0) where
  -- What a run keeps: a wire was handed over as often as it was fired, or once less where it is busy; and nothing comes out of a node that is left
  -- out before it went in.
  pub record Sane (x : Stage N W) : Type 0 where
    pub free : (w : W) → x.busy w ≡ false → sent d x.trace w ≡ got d x.trace w
    pub full : (w : W) → x.busy w ≡ true → sent d x.trace w ≡ suc (got d x.trace w)
    pub behind : (a b : W) → Hop N W d Kept a b → sent d x.trace b ≤ got d x.trace a

  pub sane_begin : Sane (begin d)
  sane_begin = record { free = λ w e. refl; full = λ w e. absurd (cc); behind = λ a b h. omega arith }

  pub sane_low : (x : Stage N W) → Sane x → (w : W) → got d x.trace w ≤ sent d x.trace w
  sane_low x h w = at (x.busy w) refl
    where
      at : (b : Bool) → x.busy w ≡ b → got d x.trace w ≤ sent d x.trace w
      at false e = omega (arith, h.free w e)
      at true e = omega (arith, h.full w e)

  sane_send : (x : Stage N W) → Sane x → (w : W) → Ready d x (Send w) → x.busy w ≡ false → Sane (next d x (Send w))
  sane_send x h w r e = record {
    free = λ v i. at_free v i (marked_cases d.same_wire l.wires x.busy w true v);
    full = λ v i. at_full v i (marked_cases d.same_wire l.wires x.busy w true v);
    behind = λ a b k. at_behind a b k (grew b);
  }
    where
      u : N → List W
      u = longer d.same_node x.trace (d.driver w) w

      more : Longer N W x.trace (d.driver w) w u
      more = longer_is d.same_node l.nodes x.trace (d.driver w) w

      grew : Grew (sent d x.trace) w (sent d u)
      grew = sent_grew N W d l x.trace w u more

      same : (v : W) → got d u v ≡ got d x.trace v
      same = got_same N W d l x.trace w u more

      at_free : (v : W) → marked d.same_wire x.busy w true v ≡ false
          → ((v ≡ w) × (marked d.same_wire x.busy w true v ≡ true)) ⊎ ((v ≡ w → ⊥) × (marked d.same_wire x.busy w true v ≡ x.busy v)) → sent d u v ≡ got d u v
      at_free v i (inl (p, q)) = absurd (cc)
      at_free v i (inr (p, q)) = grew_other (sent d x.trace) w (sent d u) grew v p ∙ h.free v (sym q ∙ i) ∙ sym (same v)

      at_full : (v : W) → marked d.same_wire x.busy w true v ≡ true
          → ((v ≡ w) × (marked d.same_wire x.busy w true v ≡ true)) ⊎ ((v ≡ w → ⊥) × (marked d.same_wire x.busy w true v ≡ x.busy v)) → sent d u v ≡ suc (got d u v)
      at_full v i (inl (p, q)) = grew_same (sent d x.trace) w (sent d u) grew v p ∙ ap suc (h.free v (ap x.busy p ∙ e) ∙ sym (same v))
      at_full v i (inr (p, q)) = grew_other (sent d x.trace) w (sent d u) grew v p ∙ h.full v (sym q ∙ i) ∙ ap suc (sym (same v))

      at_behind : (a b : W) → Hop N W d Kept a b → ((b ≡ w) × (sent d u b ≡ suc (sent d x.trace b))) ⊎ ((b ≡ w → ⊥) × (sent d u b ≡ sent d x.trace b))
          → sent d u b ≤ got d u a
      at_behind a b k (inl (p, q)) =
          let rule : d.rule (d.receiver a) (x.trace (d.receiver a)) b =
          subst (λ n. d.rule n (x.trace n) b) k.joins (subst (λ v. d.rule (d.driver v) (x.trace (d.driver v)) v) (sym p)
          (follows_last (d.rule (d.driver w)) [] (x.trace (d.driver w)) w r)) in
          let low = k.passed (x.trace (d.receiver a)) rule in
          let there : sent d x.trace b ≡ times d (x.trace (d.receiver a)) b = ap (λ n. times d (x.trace n) b) k.joins in
          omega (arith, same a)
      at_behind a b k (inr (p, q)) = omega (arith, same a, h.behind a b k)

  sane_land : (x : Stage N W) → Sane x → (w : W) → x.busy w ≡ true → Sane (next d x (Land w))
  sane_land x h w e = record {
    free = λ v i. at_free v i (marked_cases d.same_wire l.wires x.busy w false v);
    full = λ v i. at_full v i (marked_cases d.same_wire l.wires x.busy w false v);
    behind = λ a b k. omega (arith, same b, grew_le (got d x.trace) w (got d u) grew a, h.behind a b k);
  }
    where
      u : N → List W
      u = longer d.same_node x.trace (d.receiver w) w

      more : Longer N W x.trace (d.receiver w) w u
      more = longer_is d.same_node l.nodes x.trace (d.receiver w) w

      grew : Grew (got d x.trace) w (got d u)
      grew = got_grew N W d l x.trace w u more

      same : (v : W) → sent d u v ≡ sent d x.trace v
      same = sent_same N W d l x.trace w u more

      at_free : (v : W) → marked d.same_wire x.busy w false v ≡ false
          → ((v ≡ w) × (marked d.same_wire x.busy w false v ≡ false)) ⊎ ((v ≡ w → ⊥) × (marked d.same_wire x.busy w false v ≡ x.busy v)) → sent d u v ≡ got d u v
      at_free v i (inl (p, q)) = same v ∙ h.full v (ap x.busy p ∙ e) ∙ sym (grew_same (got d x.trace) w (got d u) grew v p)
      at_free v i (inr (p, q)) = same v ∙ h.free v (sym q ∙ i) ∙ sym (grew_other (got d x.trace) w (got d u) grew v p)

      at_full : (v : W) → marked d.same_wire x.busy w false v ≡ true
          → ((v ≡ w) × (marked d.same_wire x.busy w false v ≡ false)) ⊎ ((v ≡ w → ⊥) × (marked d.same_wire x.busy w false v ≡ x.busy v)) → sent d u v ≡ suc (got d u v)
      at_full v i (inl (p, q)) = absurd (cc)
      at_full v i (inr (p, q)) = same v ∙ h.full v (sym q ∙ i) ∙ ap suc (sym (grew_other (got d x.trace) w (got d u) grew v p))

  pub sane_next : (x : Stage N W) → Sane x → (m : Move W) → Ready d x m → Safe d x m → Sane (next d x m)
  sane_next x h (Send w) r s = sane_send x h w r s
  sane_next x h (Land w) r s = sane_land x h w r

  -- the web's runs from a stage have no hazard
  abbrev pub Good : Stage N W → Type 0
  Good x = (es : List (Move W)) → Plays d x es → (e : Move W) → Ready d (next_all d x es) e → Safe d (next_all d x es) e

  pub safe : (x : Stage N W) → Good x → (m : Move W) → Ready d x m → Safe d x m
  safe x g m r = g [] tt m r

  pub good_next : (x : Stage N W) → Good x → (m : Move W) → Ready d x m → Good (next d x m)
  good_next x g m r es p e h = g (m ∷ es) (r, safe x g m r, p) e h

  -- where a rule allows a wire it may come after a trace that was allowed
  pub record Fair (x : Stage N W) : Type 0 where
    pub sane : Sane x
    pub good : Good x
    pub traces : (n : N) → May d n (x.trace n)

  longer_traces : (t : N → List W) (n : N) (w : W) → ((m : N) → May d m (t m)) → May d n (t n ++ w ∷ []) → (m : N) → May d m (longer d.same_node t n w m)
  longer_traces t n w old new m = at (longer_is d.same_node l.nodes t n w m)
    where
      at : ((m ≡ n) × (longer d.same_node t n w m ≡ t m ++ w ∷ [])) ⊎ ((m ≡ n → ⊥) × (longer d.same_node t n w m ≡ t m)) → May d m (longer d.same_node t n w m)
      at (inl (p, e)) = subst (λ x. May d m x) (sym e) (subst (λ k. May d k (t k ++ w ∷ [])) (sym p) new)
      at (inr (p, e)) = subst (λ x. May d m x) (sym e) (old m)

  traces_next : (x : Stage N W) → ((n : N) → May d n (x.trace n)) → (m : Move W) → Ready d x m → Safe d x m → (n : N) → May d n ((next d x m).trace n)
  traces_next x t (Send w) r s = longer_traces x.trace (d.driver w) w t r
  traces_next x t (Land w) r s = longer_traces x.trace (d.receiver w) w t s

  pub fair_begin : WebSound d → Fair (begin d)
  fair_begin sound = record { sane = sane_begin; good = sound; traces = λ n. tt }

  pub fair_next : (x : Stage N W) → Fair x → (m : Move W) → Ready d x m → Fair (next d x m)
  fair_next x f m r = record {
    sane = sane_next x f.sane m r (safe x f.good m r);
    good = good_next x f.good m r;
    traces = traces_next x f.traces m r (safe x f.good m r);
  }

  ready_by : (x : Stage N W) → Fair x → (w : W) → d.rule (d.driver w) (x.trace (d.driver w)) w → Ready d x (Send w)
  ready_by x f w r = follows_end (d.rule (d.driver w)) [] (x.trace (d.driver w)) w (f.traces (d.driver w)) r

  -- what a hop is after its wire was handed over
  next_rule : (x : Stage N W) → Fair x → (a b : W) → Hop N W d Kept a b → sent d x.trace b < got d x.trace a → Ready d x (Send b)
  next_rule x f a b k e =
      ready_by x f b (subst (λ n. d.rule n (x.trace n) b) (sym k.joins)
      (k.gives (x.trace (d.receiver a)) (let there : sent d x.trace b ≡ times d (x.trace (d.receiver a)) b = ap (λ n. times d (x.trace n) b) k.joins in omega arith)))

  -- a hop's wire that is handed over finds all given that was taken before
  took : (x : Stage N W) → Fair x → (a b : W) → Hop N W d Kept a b → x.busy a ≡ true → got d x.trace a ≡ sent d x.trace b
  took x f a b k e =
      k.takes (x.trace (d.receiver a)) (follows_last (d.rule (d.receiver a)) [] (x.trace (d.receiver a)) a (safe x f.good (Land a) e))
      ∙ ap (λ n. times d (x.trace n) b) (sym k.joins)

  pub sent_send : (x : Stage N W) (w : W) → Grew (sent d x.trace) w (sent d (next d x (Send w)).trace)
  sent_send x w = sent_grew N W d l x.trace w (next d x (Send w)).trace (longer_is d.same_node l.nodes x.trace (d.driver w) w)

  pub got_send : (x : Stage N W) (w v : W) → got d (next d x (Send w)).trace v ≡ got d x.trace v
  got_send x w v = got_same N W d l x.trace w (next d x (Send w)).trace (longer_is d.same_node l.nodes x.trace (d.driver w) w) v

  pub got_land : (x : Stage N W) (w : W) → Grew (got d x.trace) w (got d (next d x (Land w)).trace)
  got_land x w = got_grew N W d l x.trace w (next d x (Land w)).trace (longer_is d.same_node l.nodes x.trace (d.receiver w) w)

  pub sent_land : (x : Stage N W) (w v : W) → sent d (next d x (Land w)).trace v ≡ sent d x.trace v
  sent_land x w v = sent_same N W d l x.trace w (next d x (Land w)).trace (longer_is d.same_node l.nodes x.trace (d.receiver w) w) v

  busy_sent : (x : Stage N W) (w : W) → (next d x (Send w)).busy w ≡ true
  busy_sent x w = at (marked_cases d.same_wire l.wires x.busy w true w)
    where
      at : ((w ≡ w) × (marked d.same_wire x.busy w true w ≡ true)) ⊎ ((w ≡ w → ⊥) × (marked d.same_wire x.busy w true w ≡ x.busy w)) → marked d.same_wire x.busy w true w ≡ true
      at (inl (p, e)) = e
      at (inr (p, e)) = absurd (p refl)

  -- what is handed over at the end of a path was fired at its beginning
  pub path_low : (x : Stage N W) → Sane x → (a b : W) → Path N W d Kept a b → got d x.trace b ≤ sent d x.trace a
  path_low x h _ _ (here a) = sane_low x h a
  path_low x h _ _ (hop a y b k ne p) = omega (arith, path_low x h y b p, h.behind a y k, sane_low x h a)

  -- and what is fired at its end was fired at its beginning
  pub path_high : (x : Stage N W) → Sane x → (a b : W) → Path N W d Kept a b → sent d x.trace b ≤ sent d x.trace a
  path_high x h _ _ (here a) = omega arith
  path_high x h _ _ (hop a y b k ne p) = omega (arith, path_high x h y b p, h.behind a y k, sane_low x h a)

  -- where the first wire of a path may be fired, nothing is under way on it
  pub clear : (a b : W) → Path N W d Kept a b → (x : Stage N W) → Fair x → Ready d x (Send a) → sent d x.trace a ≡ got d x.trace b
  clear _ _ (here a) x f r = f.sane.free a (safe x f.good (Send a) r)
  clear _ _ (hop a y b k ne p) x f r =
      let free = f.sane.free a (safe x f.good (Send a) r) in
      let s : Stage N W = next d x (Send a) in
      let fs : Fair s = fair_next x f (Send a) r in
      let busy : s.busy a ≡ true = busy_sent x a in
      let t : Stage N W = next d s (Land a) in
      let ft : Fair t = fair_next s fs (Land a) busy in
      let before : got d s.trace a ≡ sent d s.trace y = took s fs a y k busy in
      let more : got d t.trace a ≡ suc (got d s.trace a) = grew_same (got d s.trace) a (got d t.trace) (got_land s a) a refl in
      let ready : Ready d t (Send y) = next_rule t ft a y k (omega (arith, sent_land s a y)) in
      let rest : sent d t.trace y ≡ got d t.trace b = clear y b p t ft ready in
      let end : got d t.trace b ≡ got d s.trace b = grew_other (got d s.trace) a (got d t.trace) (got_land s a) b (λ e. ne (sym e)) in
      omega (arith, got_send x a a, got_send x a b, sent_land s a y)

  -- a run that moves nothing at the nodes that are kept
  pub record Inner (x : Stage N W) (es : List (Move W)) : Type 0 where
    pub plays : Plays d x es
    pub fair : Fair (next_all d x es)
    pub kept : (n : N) → Kept n → (next_all d x es).trace n ≡ x.trace n

  inner_none : (x : Stage N W) → Fair x → Inner x []
  inner_none x f = record { plays = tt; fair = f; kept = λ n k. refl }

  inner_more : (x : Stage N W) → Fair x → (m : Move W) → Ready d x m → ((n : N) → Kept n → (next d x m).trace n ≡ x.trace n)
      → (es : List (Move W)) → Inner (next d x m) es → Inner x (m ∷ es)
  inner_more x f m r same es i = record {
    plays = (r, safe x f.good m r, i.plays);
    fair = i.fair;
    kept = λ n k. i.kept n k ∙ same n k;
  }

  pub away : (t : N → List W) (n : N) (w : W) → (Kept n → ⊥) → (m : N) → Kept m → longer d.same_node t n w m ≡ t m
  away t n w out m k = longer_away t n w (longer d.same_node t n w) (longer_is d.same_node l.nodes t n w) m (λ e. out (subst Kept e k))

  -- what is under way on a path comes to its last wire
  pub record Pushed (x : Stage N W) (b : W) : Type 0 where
    pub moves : List (Move W)
    pub inner : Inner x moves
    pub busy : (next_all d x moves).busy b ≡ true

  push_on : (x : Stage N W) → Fair x → (m : Move W) → Ready d x m → ((n : N) → Kept n → (next d x m).trace n ≡ x.trace n)
      → (b : W) → Pushed (next d x m) b → Pushed x b
  push_on x f m r same b p = record { moves = m ∷ p.moves; inner = inner_more x f m r same p.moves p.inner; busy = p.busy }

  pub push : (a b : W) → Path N W d Kept a b → (x : Stage N W) → Fair x → sent d x.trace a ≡ suc (got d x.trace b) → Pushed x b
  push _ _ (here a) x f e = at (x.busy a) refl
    where
      at : (v : Bool) → x.busy a ≡ v → Pushed x a
      at false i = let h = f.sane.free a i in absurd (omega arith)
      at true i = record { moves = []; inner = inner_none x f; busy = i }
  push _ _ (hop a y b k ne p) x f e = at (x.busy a) refl (λ s fs i. push y b p s fs i)
    where
      out : Kept (d.driver y) → ⊥
      out q = k.inner (subst Kept k.joins q)

      -- the node gives y
      given : (s : Stage N W) → Fair s → sent d s.trace y < got d s.trace a → sent d s.trace y ≡ got d s.trace b
          → ((s : Stage N W) → Fair s → sent d s.trace y ≡ suc (got d s.trace b) → Pushed s b) → Pushed s b
      given s fs low same go =
          let r : Ready d s (Send y) = next_rule s fs a y k low in
          let more = grew_same (sent d s.trace) y (sent d (next d s (Send y)).trace) (sent_send s y) y refl in
          push_on s fs (Send y) r (away s.trace (d.driver y) y out) b
          (go (next d s (Send y)) (fair_next s fs (Send y) r) (omega (arith, got_send s y b)))

      at : (v : Bool) → x.busy a ≡ v → ((s : Stage N W) → Fair s → sent d s.trace y ≡ suc (got d s.trace b) → Pushed s b) → Pushed x b
      at true i go =
          let h = f.sane.full a i in
          let t : Stage N W = next d x (Land a) in
          let before : got d x.trace a ≡ sent d x.trace y = took x f a y k i in
          let more : got d t.trace a ≡ suc (got d x.trace a) = grew_same (got d x.trace) a (got d t.trace) (got_land x a) a refl in
          let end : got d t.trace b ≡ got d x.trace b = grew_other (got d x.trace) a (got d t.trace) (got_land x a) b (λ e. ne (sym e)) in
          push_on x f (Land a) i (away x.trace (d.receiver a) a k.inner) b
          (given t (fair_next x f (Land a) i) (omega (arith, sent_land x a y)) (omega (arith, sent_land x a y)) go)
      at false i go =
          let h = f.sane.free a i in
          let low = path_low x f.sane y b p in
          let high = f.sane.behind a y k in
          elim (cases_lt (sent d x.trace y) (got d x.trace a)) [
            | inl less ↦ given x f less (omega arith) go
            | inr more ↦ go x f (omega arith)
          ]
