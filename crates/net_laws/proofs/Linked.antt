-- From a web to a network of numbers, each wire of which stands for a path of wires of the web.
use Rattle.std.proofs.Common.{◌≡◌, ℕ, suc, ◌<◌, Bool, true, false, List, [], ◌∷◌, ◌++◌, map, ◌⊎◌, inl, inr, refl, sym, ap, subst, ◌∙◌, arith}
use Rattle.std.proofs.lemmas.List.{map-append}
use Rattle.std.proofs.lemmas.Bool.{cases_eq}
use Rattle.net_core.specs.Runs.{Event, Fire, Pass, Fabric, State, start, grow, put, after, after_all, Enabled, Fits, Run, Sound, Exact, seen}
use Rattle.net_core.proofs.Updates.{grow_same, grow_other, put_same, put_other}
use Rattle.cmd_tree.proofs.RoundsRule.{follows_last}
use Rattle.net_laws.proofs.Webs.{Move, Send, Land, Web, Stage, longer, May, begin, next, next_all, Ready, Safe, Plays, WebSound, WebExact}
use Rattle.net_laws.proofs.Told.{Lawful, sent, got, longer_is, longer_at, longer_away}
use Rattle.net_laws.proofs.Woven.{grew_same, grew_other}
use Rattle.net_laws.proofs.Paths.{times, Path, Fair, fair_begin, fair_next, safe, clear, push, Pushed, path_high, away, sent_send, got_send, got_land, sent_land}

-- the wire of the web at the port to which the wire of a firing port leads
abbrev pub landing : {W : Type 0} → Fabric → (ℕ → ℕ → W) → ℕ → ℕ → W
landing f label n p = label (f.to (f.wire n p)) (f.into (f.wire n p))

-- The network f is the web d under numbers, without the nodes that are not kept: node n is `name n`, and its port p is at the wire `label n p`, which
-- is the first one of a path at an output, and the last one at an input. Only nodes below `size` count, and only ports that fire.
pub record Linked (N W : Type 0) (d : Web N W) (Kept : N → Type 0) (f : Fabric) : Type 0 where
  pub name : ℕ → N
  pub label : ℕ → ℕ → W
  pub size : ℕ
  pub some : 0 < size
  pub outside : d.outside ≡ name 0
  pub kept : (n : ℕ) → n < size → Kept (name n)
  pub fires : (n p : ℕ) → f.fires n p → (n < size) × (d.driver (label n p) ≡ name n)
  pub lands : (n p : ℕ) → f.fires n p → (f.to (f.wire n p) < size) × (d.receiver (landing f label n p) ≡ name (f.to (f.wire n p)))
  pub path : (n p : ℕ) → f.fires n p → Path N W d Kept (label n p) (landing f label n p)
  pub one_first : (n p m q : ℕ) → f.fires n p → f.fires m q → label n p ≡ label m q → f.wire n p ≡ f.wire m q
  pub one_last : (n p m q : ℕ) → f.fires n p → f.fires m q → landing f label n p ≡ landing f label m q → f.wire n p ≡ f.wire m q
  pub one_wire : (n p m q : ℕ) → f.fires n p → f.fires m q → f.wire n p ≡ f.wire m q → label n p ≡ label m q
  pub one_node : (n m : ℕ) → n < size → m < size → name n ≡ name m → n ≡ m
  -- a wire that may come next at its driver, or at its receiver, is at a port there, or the node is left out
  pub enters : (w : W) (t : List W) → d.rule (d.driver w) t w
      → ((n : ℕ) × (p : ℕ) × f.fires n p × (label n p ≡ w)) ⊎ (Kept (d.driver w) → ⊥)
  pub leaves : (w : W) (t : List W) → d.rule (d.receiver w) t w
      → ((n : ℕ) × (p : ℕ) × f.fires n p × (landing f label n p ≡ w)) ⊎ (Kept (d.receiver w) → ⊥)
  pub may : (n : ℕ) → n < size → (t : List ℕ) → f.may n t → May d (name n) (map (label n) t)
  pub may_back : (n : ℕ) → n < size → (t : List ℕ) → May d (name n) (map (label n) t) → f.may n t
  pub one_trace : (t u : List ℕ) → f.may 0 t → f.may 0 u → map (label 0) t ≡ map (label 0) u → t ≡ u

module _ (N W : Type 0) (d : Web N W) (Kept : N → Type 0) (f : Fabric) (l : Lawful N W d) (k : Linked N W d Kept f) where
  abbrev first : ℕ → ℕ → W
  first n p = k.label n p

  abbrev last : ℕ → ℕ → W
  last n p = landing f k.label n p

  -- a state of the network along a stage of the web: a busy wire has one transition on its path
  record Along (s : State) (x : Stage N W) : Type 0 where
    traces : (n : ℕ) → n < k.size → x.trace (k.name n) ≡ map (k.label n) (s.trace n)
    idle : (n p : ℕ) → f.fires n p → s.busy (f.wire n p) ≡ false → sent d x.trace (first n p) ≡ got d x.trace (last n p)
    busy : (n p : ℕ) → f.fires n p → s.busy (f.wire n p) ≡ true → sent d x.trace (first n p) ≡ suc (got d x.trace (last n p))
    real : (u : ℕ) → s.busy u ≡ true → (n : ℕ) × (p : ℕ) × f.fires n p × (f.wire n p ≡ u)

  along_start : Along start (begin d)
  along_start = record { traces = λ n h. refl; idle = λ n p h e. refl; busy = λ n p h e. absurd (cc); real = λ u e. absurd (cc) }

  -- moves at nodes that are left out change nothing
  along_same : (s : State) (x y : Stage N W) → Along s x → ((n : N) → Kept n → y.trace n ≡ x.trace n) → Along s y
  along_same s x y a same = record {
    traces = λ n h. same (k.name n) (k.kept n h) ∙ a.traces n h;
    idle = λ n p h e. sent_is n p h ∙ a.idle n p h e ∙ sym (got_is n p h);
    busy = λ n p h e. sent_is n p h ∙ a.busy n p h e ∙ ap suc (sym (got_is n p h));
    real = a.real;
  }
    where
      sent_is : (n p : ℕ) → f.fires n p → sent d y.trace (first n p) ≡ sent d x.trace (first n p)
      sent_is n p h =
          let (low, is) = k.fires n p h in
          ap (λ t. times d t (first n p)) (same (d.driver (first n p)) (subst Kept (sym is) (k.kept n low)))

      got_is : (n p : ℕ) → f.fires n p → got d y.trace (last n p) ≡ got d x.trace (last n p)
      got_is n p h =
          let (low, is) = k.lands n p h in
          ap (λ t. times d t (last n p)) (same (d.receiver (last n p)) (subst Kept (sym is) (k.kept (f.to (f.wire n p)) low)))

  trace_step : (s : State) (x : Stage N W) → Along s x → (n p : ℕ) (w : W) (a : N) → n < k.size → a ≡ k.name n → k.label n p ≡ w
      → (m : ℕ) → m < k.size → longer d.same_node x.trace a w (k.name m) ≡ map (k.label m) (grow s.trace n p m)
  trace_step s x b n p w a h e i m z = at (cases_eq m n)
    where
      at : (m ≡ n) ⊎ (m ≡ n → ⊥) → longer d.same_node x.trace a w (k.name m) ≡ map (k.label m) (grow s.trace n p m)
      at (inl q) = longer_at x.trace a w (longer d.same_node x.trace a w) (longer_is d.same_node l.nodes x.trace a w) (k.name m) (ap k.name q ∙ sym e)
          ∙ ap (λ t. t ++ w ∷ []) (b.traces m z) ∙ ap (λ v. map (k.label m) (s.trace m) ++ v ∷ []) (sym i ∙ ap (λ c. k.label c p) (sym q))
          ∙ sym (map-append (k.label m) (s.trace m) (p ∷ [])) ∙ ap (map (k.label m)) (sym (grow_same s.trace n p m q))
      at (inr q) =
          longer_away x.trace a w (longer d.same_node x.trace a w) (longer_is d.same_node l.nodes x.trace a w) (k.name m)
          (λ c. q (k.one_node m n z h (c ∙ e)))
          ∙ b.traces m z ∙ ap (map (k.label m)) (sym (grow_other s.trace n p m q))

  along_fire : (s : State) (x : Stage N W) → Along s x → (n p : ℕ) → f.fires n p → s.busy (f.wire n p) ≡ false
      → Along (after f s (Fire n p)) (next d x (Send (first n p)))
  along_fire s x a n p h free = record {
    traces = trace_step s x a n p (first n p) (d.driver (first n p)) (k.fires n p h).0 (k.fires n p h).1 refl;
    idle = λ m q i e. at_idle m q i e (cases_eq (f.wire m q) (f.wire n p));
    busy = λ m q i e. at_busy m q i e (cases_eq (f.wire m q) (f.wire n p));
    real = λ u e. at_real u e (cases_eq u (f.wire n p));
  }
    where
      y : Stage N W
      y = next d x (Send (first n p))

      other : (m q : ℕ) → f.fires m q → (f.wire m q ≡ f.wire n p → ⊥) → sent d y.trace (first m q) ≡ sent d x.trace (first m q)
      other m q i c = grew_other (sent d x.trace) (first n p) (sent d y.trace) (sent_send N W d l Kept x (first n p)) (first m q)
          (λ z. c (k.one_first m q n p i h z))

      at_idle : (m q : ℕ) → f.fires m q → put s.busy (f.wire n p) true (f.wire m q) ≡ false
          → (f.wire m q ≡ f.wire n p) ⊎ (f.wire m q ≡ f.wire n p → ⊥) → sent d y.trace (first m q) ≡ got d y.trace (last m q)
      at_idle m q i e (inl c) = let z : put s.busy (f.wire n p) true (f.wire m q) ≡ true = put_same s.busy (f.wire n p) true (f.wire m q) c in absurd (cc)
      at_idle m q i e (inr c) =
          other m q i c ∙ a.idle m q i (sym (put_other s.busy (f.wire n p) true (f.wire m q) c) ∙ e) ∙ sym (got_send N W d l Kept x (first n p) (last m q))

      at_busy : (m q : ℕ) → f.fires m q → put s.busy (f.wire n p) true (f.wire m q) ≡ true
          → (f.wire m q ≡ f.wire n p) ⊎ (f.wire m q ≡ f.wire n p → ⊥) → sent d y.trace (first m q) ≡ suc (got d y.trace (last m q))
      at_busy m q i e (inl c) =
          grew_same (sent d x.trace) (first n p) (sent d y.trace) (sent_send N W d l Kept x (first n p)) (first m q) (k.one_wire m q n p i h c)
          ∙ ap suc (a.idle m q i (ap s.busy c ∙ free) ∙ sym (got_send N W d l Kept x (first n p) (last m q)))
      at_busy m q i e (inr c) =
          other m q i c ∙ a.busy m q i (sym (put_other s.busy (f.wire n p) true (f.wire m q) c) ∙ e)
          ∙ ap suc (sym (got_send N W d l Kept x (first n p) (last m q)))

      at_real : (u : ℕ) → put s.busy (f.wire n p) true u ≡ true → (u ≡ f.wire n p) ⊎ (u ≡ f.wire n p → ⊥) → (m : ℕ) × (q : ℕ) × f.fires m q × (f.wire m q ≡ u)
      at_real u e (inl c) = (n, p, h, sym c)
      at_real u e (inr c) = a.real u (sym (put_other s.busy (f.wire n p) true u c) ∙ e)

  along_pass : (s : State) (x : Stage N W) → Along s x → (n p : ℕ) → f.fires n p → s.busy (f.wire n p) ≡ true
      → Along (after f s (Pass (f.wire n p))) (next d x (Land (last n p)))
  along_pass s x a n p h full = record {
    traces = trace_step s x a (f.to (f.wire n p)) (f.into (f.wire n p)) (last n p) (d.receiver (last n p)) (k.lands n p h).0 (k.lands n p h).1 refl;
    idle = λ m q i e. at_idle m q i e (cases_eq (f.wire m q) (f.wire n p));
    busy = λ m q i e. at_busy m q i e (cases_eq (f.wire m q) (f.wire n p));
    real = λ u e. at_real u e (cases_eq u (f.wire n p));
  }
    where
      y : Stage N W
      y = next d x (Land (last n p))

      other : (m q : ℕ) → f.fires m q → (f.wire m q ≡ f.wire n p → ⊥) → got d y.trace (last m q) ≡ got d x.trace (last m q)
      other m q i c = grew_other (got d x.trace) (last n p) (got d y.trace) (got_land N W d l Kept x (last n p)) (last m q)
          (λ z. c (k.one_last m q n p i h z))

      at_idle : (m q : ℕ) → f.fires m q → put s.busy (f.wire n p) false (f.wire m q) ≡ false
          → (f.wire m q ≡ f.wire n p) ⊎ (f.wire m q ≡ f.wire n p → ⊥) → sent d y.trace (first m q) ≡ got d y.trace (last m q)
      at_idle m q i e (inl c) =
          sent_land N W d l Kept x (last n p) (first m q) ∙ a.busy m q i (ap s.busy c ∙ full)
          ∙ sym (grew_same (got d x.trace) (last n p) (got d y.trace) (got_land N W d l Kept x (last n p)) (last m q) (ap (λ u. k.label (f.to u) (f.into u)) c))
      at_idle m q i e (inr c) =
          sent_land N W d l Kept x (last n p) (first m q) ∙ a.idle m q i (sym (put_other s.busy (f.wire n p) false (f.wire m q) c) ∙ e) ∙ sym (other m q i c)

      at_busy : (m q : ℕ) → f.fires m q → put s.busy (f.wire n p) false (f.wire m q) ≡ true
          → (f.wire m q ≡ f.wire n p) ⊎ (f.wire m q ≡ f.wire n p → ⊥) → sent d y.trace (first m q) ≡ suc (got d y.trace (last m q))
      at_busy m q i e (inl c) = let z : put s.busy (f.wire n p) false (f.wire m q) ≡ false = put_same s.busy (f.wire n p) false (f.wire m q) c in absurd (cc)
      at_busy m q i e (inr c) =
          sent_land N W d l Kept x (last n p) (first m q) ∙ a.busy m q i (sym (put_other s.busy (f.wire n p) false (f.wire m q) c) ∙ e)
          ∙ ap suc (sym (other m q i c))

      at_real : (u : ℕ) → put s.busy (f.wire n p) false u ≡ true → (u ≡ f.wire n p) ⊎ (u ≡ f.wire n p → ⊥) → (m : ℕ) × (q : ℕ) × f.fires m q × (f.wire m q ≡ u)
      at_real u e (inl c) = let z : put s.busy (f.wire n p) false u ≡ false = put_same s.busy (f.wire n p) false u c in absurd (cc)
      at_real u e (inr c) = a.real u (sym (put_other s.busy (f.wire n p) false u c) ∙ e)

  -- a node's trace with one more port, in names
  named_end : (s : State) (x : Stage N W) → Along s x → (n p : ℕ) (w : W) (a : N) → n < k.size → a ≡ k.name n → k.label n p ≡ w
      → x.trace a ++ w ∷ [] ≡ map (k.label n) (s.trace n ++ p ∷ [])
  named_end s x b n p w a h e i =
      ap (λ c. x.trace c ++ w ∷ []) e ∙ ap (λ t. t ++ w ∷ []) (b.traces n h) ∙ ap (λ v. map (k.label n) (s.trace n) ++ v ∷ []) (sym i)
      ∙ sym (map-append (k.label n) (s.trace n) (p ∷ []))

  may_there : (s : State) (x : Stage N W) → Along s x → (n p : ℕ) (w : W) (a : N) → n < k.size → a ≡ k.name n → k.label n p ≡ w
      → f.may n (s.trace n ++ p ∷ []) → May d a (x.trace a ++ w ∷ [])
  may_there s x b n p w a h e i m =
      subst (λ t. May d a t) (sym (named_end s x b n p w a h e i))
      (subst (λ c. May d c (map (k.label n) (s.trace n ++ p ∷ []))) (sym e) (k.may n h (s.trace n ++ p ∷ []) m))

  may_here : (s : State) (x : Stage N W) → Along s x → (n p : ℕ) (w : W) (a : N) → n < k.size → a ≡ k.name n → k.label n p ≡ w
      → May d a (x.trace a ++ w ∷ []) → f.may n (s.trace n ++ p ∷ [])
  may_here s x b n p w a h e i m =
      k.may_back n h (s.trace n ++ p ∷ [])
      (subst (λ c. May d c (map (k.label n) (s.trace n ++ p ∷ []))) e (subst (λ t. May d a t) (named_end s x b n p w a h e i) m))

  -- where the web may fire the first wire of a path, the wire of the network is free
  free_by : (s : State) (x : Stage N W) → Along s x → Fair N W d l Kept x → (n p : ℕ) → f.fires n p → Ready d x (Send (first n p))
      → (b : Bool) → s.busy (f.wire n p) ≡ b → s.busy (f.wire n p) ≡ false
  free_by s x a g n p h r false e = e
  free_by s x a g n p h r true e =
      let full = a.busy n p h e in
      let none = clear N W d l Kept (first n p) (last n p) (k.path n p h) x g r in
      absurd (omega arith)

  -- ---- soundness: an event of the network is some moves of the web

  record Moved (s : State) (x : Stage N W) (e : Event) : Type 0 where
    stage : Stage N W
    fair : Fair N W d l Kept stage
    along : Along (after f s e) stage
    fits : Fits f s e

  moved_pass : (s : State) (x : Stage N W) → Along s x → Fair N W d l Kept x → (u n p : ℕ) → f.fires n p → f.wire n p ≡ u → s.busy u ≡ true → Moved s x (Pass u)
  moved_pass s x a g u n p h i e =
      let full : s.busy (f.wire n p) ≡ true = ap s.busy i ∙ e in
      let pushed : Pushed N W d l Kept x (last n p) = push N W d l Kept (first n p) (last n p) (k.path n p h) x g (a.busy n p h full) in
      let y : Stage N W = next_all d x pushed.moves in
      let b : Along s y = along_same s x y a pushed.inner.kept in
      let fair : Fair N W d l Kept y = pushed.inner.fair in
      subst (λ v. Moved s x (Pass v)) i (record {
        stage = next d y (Land (last n p));
        fair = fair_next N W d l Kept y fair (Land (last n p)) pushed.busy;
        along = along_pass s y b n p h full;
        fits = may_here s y b (f.to (f.wire n p)) (f.into (f.wire n p)) (last n p) (d.receiver (last n p)) (k.lands n p h).0 (k.lands n p h).1 refl
            (safe N W d l Kept y fair.good (Land (last n p)) pushed.busy);
      })

  moved : (s : State) (x : Stage N W) → Along s x → Fair N W d l Kept x → (e : Event) → Enabled f s e → Moved s x e
  moved s x a g (Fire n p) h =
      let r : Ready d x (Send (first n p)) = may_there s x a n p (first n p) (d.driver (first n p)) (k.fires n p h.0).0 (k.fires n p h.0).1 refl h.1 in
      let free : s.busy (f.wire n p) ≡ false = free_by s x a g n p h.0 r (s.busy (f.wire n p)) refl in
      record {
        stage = next d x (Send (first n p));
        fair = fair_next N W d l Kept x g (Send (first n p)) r;
        along = along_fire s x a n p h.0 free;
        fits = free;
      }
  moved s x a g (Pass u) h =
      let r : (n : ℕ) × (p : ℕ) × f.fires n p × (f.wire n p ≡ u) = a.real u h in
      moved_pass s x a g u r.0 r.1 r.2 r.3 h

  sound_from : (es : List Event) (s : State) (x : Stage N W) → Along s x → Fair N W d l Kept x → Run f s es
      → (e : Event) → Enabled f (after_all f s es) e → Fits f (after_all f s es) e
  sound_from [] s x a g r e h = let m : Moved s x e = moved s x a g e h in m.fits
  sound_from (i ∷ es) s x a g r e h =
      let m : Moved s x i = moved s x a g i r.0 in
      sound_from es (after f s i) m.stage m.along m.fair r.2 e h

  pub sound_of : WebSound d → Sound f
  sound_of g es r e h = sound_from es start (begin d) along_start (fair_begin N W d l Kept g) r e h

  -- ---- exactness: a move of the web is an event of the network, or none

  record Met (s : State) (x : Stage N W) (m : Move W) : Type 0 where
    event : Event
    enabled : Enabled f s event
    along : Along (after f s event) (next d x m)
    fits : Fits f s event

  abbrev Follow : State → Stage N W → Move W → Type 0
  Follow s x m = Met s x m ⊎ Along s (next d x m)

  met_send : (s : State) (x : Stage N W) → Along s x → Fair N W d l Kept x → (n p : ℕ) → f.fires n p → Ready d x (Send (first n p)) → Met s x (Send (first n p))
  met_send s x a g n p h r =
      let free : s.busy (f.wire n p) ≡ false = free_by s x a g n p h r (s.busy (f.wire n p)) refl in
      record {
        event = Fire n p;
        enabled = (h, may_here s x a n p (first n p) (d.driver (first n p)) (k.fires n p h).0 (k.fires n p h).1 refl r);
        along = along_fire s x a n p h free;
        fits = free;
      }

  full_by : (s : State) (x : Stage N W) → Along s x → Fair N W d l Kept x → (n p : ℕ) → f.fires n p → x.busy (last n p) ≡ true
      → (b : Bool) → s.busy (f.wire n p) ≡ b → s.busy (f.wire n p) ≡ true
  full_by s x a g n p h e true i = i
  full_by s x a g n p h e false i =
      let idle = a.idle n p h i in
      let full = g.sane.full (last n p) e in
      let high = path_high N W d l Kept x g.sane (first n p) (last n p) (k.path n p h) in
      absurd (omega arith)

  met_land : (s : State) (x : Stage N W) → Along s x → Fair N W d l Kept x → (n p : ℕ) → f.fires n p → Ready d x (Land (last n p)) → Safe d x (Land (last n p))
      → Met s x (Land (last n p))
  met_land s x a g n p h r z =
      let full : s.busy (f.wire n p) ≡ true = full_by s x a g n p h r (s.busy (f.wire n p)) refl in
      record {
        event = Pass (f.wire n p);
        enabled = full;
        along = along_pass s x a n p h full;
        fits = may_here s x a (f.to (f.wire n p)) (f.into (f.wire n p)) (last n p) (d.receiver (last n p)) (k.lands n p h).0 (k.lands n p h).1 refl z;
      }

  met : (s : State) (x : Stage N W) → Along s x → Fair N W d l Kept x → (m : Move W) → Ready d x m → Safe d x m → Follow s x m
  met s x a g (Send w) r z = at (k.enters w (x.trace (d.driver w)) (follows_last (d.rule (d.driver w)) [] (x.trace (d.driver w)) w r))
    where
      at : ((n : ℕ) × (p : ℕ) × f.fires n p × (k.label n p ≡ w)) ⊎ (Kept (d.driver w) → ⊥) → Follow s x (Send w)
      at (inl o) = inl (subst (λ v. Ready d x (Send v) → Met s x (Send v)) o.3 (met_send s x a g o.0 o.1 o.2) r)
      at (inr out) = inr (along_same s x (next d x (Send w)) a (away N W d l Kept x.trace (d.driver w) w out))
  met s x a g (Land w) r z = at (k.leaves w (x.trace (d.receiver w)) (follows_last (d.rule (d.receiver w)) [] (x.trace (d.receiver w)) w z))
    where
      at : ((n : ℕ) × (p : ℕ) × f.fires n p × (landing f k.label n p ≡ w)) ⊎ (Kept (d.receiver w) → ⊥) → Follow s x (Land w)
      at (inl o) = inl (subst (λ v. Ready d x (Land v) → Safe d x (Land v) → Met s x (Land v)) o.3 (met_land s x a g o.0 o.1 o.2) r z)
      at (inr out) = inr (along_same s x (next d x (Land w)) a (away N W d l Kept x.trace (d.receiver w) w out))

  run_of : (ms : List (Move W)) (s : State) (x : Stage N W) → Along s x → Fair N W d l Kept x → Plays d x ms
      → (es : List Event) × Run f s es × Along (after_all f s es) (next_all d x ms)
  run_of [] s x a g p = ([], tt, a)
  run_of (m ∷ ms) s x a g p = at (met s x a g m p.0 p.1)
      (λ t b. run_of ms t (next d x m) b (fair_next N W d l Kept x g m p.0) p.2)
    where
      at : Follow s x m
          → ((t : State) → Along t (next d x m) → (es : List Event) × Run f t es × Along (after_all f t es) (next_all d (next d x m) ms))
          → (es : List Event) × Run f s es × Along (after_all f s es) (next_all d x (m ∷ ms))
      at (inl i) go = let o = go (after f s i.event) i.along in (i.event ∷ o.0, (i.enabled, i.fits, o.1), o.2)
      at (inr b) go = go s b

  pub exact_of : WebSound d → WebExact d → Exact f
  exact_of sound g t h =
      let r : May d (k.name 0) (map (k.label 0) t) = k.may 0 k.some t h in
      let w : (ms : List (Move W)) × Plays d (begin d) ms × ((next_all d (begin d) ms).trace d.outside ≡ map (k.label 0) t)
      = g (map (k.label 0) t) (subst (λ n. May d n (map (k.label 0) t)) (sym k.outside) r) in
      let o : (es : List Event) × Run f start es × Along (after_all f start es) (next_all d (begin d) w.0)
      = run_of w.0 start (begin d) along_start (fair_begin N W d l Kept sound) w.1 in
      let e : map (k.label 0) (seen f o.0) ≡ map (k.label 0) t
      = sym (o.2.traces 0 k.some) ∙ ap (next_all d (begin d) w.0).trace (sym k.outside) ∙ w.2 in
      (o.0, o.1, k.one_trace (seen f o.0) t (k.may_back 0 k.some (seen f o.0) (subst (λ z. May d (k.name 0) z) (sym e) r)) h e)

-- A network whose web has no hazard has none.
pub linked_sound : (N W : Type 0) (d : Web N W) (Kept : N → Type 0) (f : Fabric) → Lawful N W d → Linked N W d Kept f → WebSound d → Sound f
linked_sound N W d Kept f l k = sound_of N W d Kept f l k

-- A network whose web moreover shows each trace of the outside shows each.
pub linked_exact : (N W : Type 0) (d : Web N W) (Kept : N → Type 0) (f : Fabric) → Lawful N W d → Linked N W d Kept f → WebSound d → WebExact d → Exact f
linked_exact N W d Kept f l k = exact_of N W d Kept f l k
