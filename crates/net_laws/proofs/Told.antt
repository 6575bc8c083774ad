-- Webs by the traces of their nodes: an invariant that each move keeps gives soundness, and moves that lead to each symbol give exactness.
use Rattle.std.proofs.Common.{◌≡◌, ℕ, suc, Bool, true, false, List, [], ◌∷◌, ◌++◌, ◌⊎◌, inl, inr, refl, sym, ap, subst, ◌∙◌, append_assoc}
use Rattle.std.proofs.Common.{arith}
use Rattle.std.proofs.lemmas.List.{append-nil}
use Rattle.cmd_tree.specs.Rounds.{grown, tally, naught, Follows}
use Rattle.cmd_tree.proofs.RoundsRule.{follows_end, follows_last, tally_end}
use Rattle.net_laws.proofs.Webs.{Move, Send, Land, Web, Stage, Decides, longer, marked, May, begin, next, next_all, Ready, Safe, Plays, WebSound, WebExact}

pub grown_cases : {W : Type 0} (same : W → W → Bool) → Decides same → (c : W → ℕ) (w v : W)
    → ((v ≡ w) × (grown same c w v ≡ suc (c v))) ⊎ ((v ≡ w → ⊥) × (grown same c w v ≡ c v))
grown_cases same h c w v = at (h v w)
  where
    at : ((same v w ≡ true) × (v ≡ w)) ⊎ ((same v w ≡ false) × (v ≡ w → ⊥)) → ((v ≡ w) × (grown same c w v ≡ suc (c v))) ⊎ ((v ≡ w → ⊥) × (grown same c w v ≡ c v))
    at (inl (e, p)) = inl (p, rw e refl)
    at (inr (e, p)) = inr (p, rw e refl)

pub marked_cases : {W : Type 0} (same : W → W → Bool) → Decides same → (b : W → Bool) (w : W) (x : Bool) (v : W)
    → ((v ≡ w) × (marked same b w x v ≡ x)) ⊎ ((v ≡ w → ⊥) × (marked same b w x v ≡ b v))
marked_cases same h b w x v = at (h v w)
  where
    at : ((same v w ≡ true) × (v ≡ w)) ⊎ ((same v w ≡ false) × (v ≡ w → ⊥)) → ((v ≡ w) × (marked same b w x v ≡ x)) ⊎ ((v ≡ w → ⊥) × (marked same b w x v ≡ b v))
    at (inl (e, p)) = inl (p, rw e refl)
    at (inr (e, p)) = inr (p, rw e refl)

-- u is t with w added at the node n
abbrev pub Longer : (N W : Type 0) → (N → List W) → N → W → (N → List W) → Type 0
Longer N W t n w u = (m : N) → ((m ≡ n) × (u m ≡ t m ++ w ∷ [])) ⊎ ((m ≡ n → ⊥) × (u m ≡ t m))

pub longer_is : {N W : Type 0} (same : N → N → Bool) → Decides same → (t : N → List W) (n : N) (w : W) → Longer N W t n w (longer same t n w)
longer_is same h t n w m = at (h m n)
  where
    at : ((same m n ≡ true) × (m ≡ n)) ⊎ ((same m n ≡ false) × (m ≡ n → ⊥))
        → ((m ≡ n) × (longer same t n w m ≡ t m ++ w ∷ [])) ⊎ ((m ≡ n → ⊥) × (longer same t n w m ≡ t m))
    at (inl (e, p)) = inl (p, rw e refl)
    at (inr (e, p)) = inr (p, rw e refl)

pub longer_at : {N W : Type 0} (t : N → List W) (n : N) (w : W) (u : N → List W) → Longer N W t n w u → (m : N) → m ≡ n → u m ≡ t m ++ w ∷ []
longer_at t n w u h m e = at (h m)
  where
    at : ((m ≡ n) × (u m ≡ t m ++ w ∷ [])) ⊎ ((m ≡ n → ⊥) × (u m ≡ t m)) → u m ≡ t m ++ w ∷ []
    at (inl (p, x)) = x
    at (inr (p, x)) = absurd (p e)

pub longer_away : {N W : Type 0} (t : N → List W) (n : N) (w : W) (u : N → List W) → Longer N W t n w u → (m : N) → (m ≡ n → ⊥) → u m ≡ t m
longer_away t n w u h m e = at (h m)
  where
    at : ((m ≡ n) × (u m ≡ t m ++ w ∷ [])) ⊎ ((m ≡ n → ⊥) × (u m ≡ t m)) → u m ≡ t m
    at (inl (p, x)) = absurd (e p)
    at (inr (p, x)) = x

-- The tests decide equality, and no wire leads from a node to itself.
pub record Lawful (N W : Type 0) (d : Web N W) : Type 0 where
  pub nodes : Decides d.same_node
  pub wires : Decides d.same_wire
  pub clean : (w : W) → d.driver w ≡ d.receiver w → ⊥

-- how often a wire was fired, and how often it was handed over
abbrev pub sent : {N W : Type 0} → Web N W → (N → List W) → W → ℕ
sent d t w = tally d.same_wire naught (t (d.driver w)) w

abbrev pub got : {N W : Type 0} → Web N W → (N → List W) → W → ℕ
got d t w = tally d.same_wire naught (t (d.receiver w)) w

-- Each wire was handed over as often as it was fired, or once less.
abbrev pub Flows : {W : Type 0} → (F P : W → ℕ) → Type 0
Flows {W} F P = (w : W) → (F w ≡ P w) ⊎ (F w ≡ suc (P w))

-- Each move by a rule keeps I, and has no hazard.
pub record Tends (N W : Type 0) (d : Web N W) (In : W → Type 0) (I : (N → List W) → Type 0) : Type 0 where
  pub begins : I (λ n. [])
  pub sends : (t : N → List W) (w : W) → Flows (sent d t) (got d t) → I t → d.rule (d.driver w) (t (d.driver w)) w
      → In w × (sent d t w ≡ got d t w) × ((u : N → List W) → Longer N W t (d.driver w) w u → I u)
  pub lands : (t : N → List W) (w : W) → Flows (sent d t) (got d t) → I t → In w → sent d t w ≡ suc (got d t w)
      → d.rule (d.receiver w) (t (d.receiver w)) w × ((u : N → List W) → Longer N W t (d.receiver w) w u → I u)

-- u is t with w added at its driver and at its receiver
abbrev pub Went : (N W : Type 0) → Web N W → (N → List W) → W → (N → List W) → Type 0
Went N W d t w u = (v : N → List W) × Longer N W t (d.driver w) w v × Longer N W v (d.receiver w) w u

-- From the traces t some inner wires, each fired and handed over at once, lead to the symbol q, after which J holds again.
pub data Leads (N W : Type 0) (d : Web N W) (I J : (N → List W) → Type 0) (q : W) : (N → List W) → Type 0 where
  pulls : {t : N → List W} (w : W) → (d.driver w ≡ d.outside → ⊥) → (d.receiver w ≡ d.outside → ⊥) → d.rule (d.driver w) (t (d.driver w)) w
      → ((u : N → List W) → Went N W d t w u → I u → Leads N W d I J q u) → Leads N W d I J q t
  ends : {t : N → List W} → (d.driver q ≡ d.outside) ⊎ (d.receiver q ≡ d.outside) → d.rule (d.driver q) (t (d.driver q)) q
      → ((u : N → List W) → Went N W d t q u → I u → J u) → Leads N W d I J q t

module _ (N W : Type 0) (d : Web N W) (l : Lawful N W d) where
  -- how often a wire is in a trace
  abbrev times : List W → W → ℕ
  times t w = tally d.same_wire naught t w

  times_end : (t : List W) (w : W) → times (t ++ w ∷ []) w ≡ suc (times t w)
  times_end t w = ap (λ c. c w) (tally_end d.same_wire naught t w) ∙ at (grown_cases d.same_wire l.wires (times t) w w)
    where
      at : ((w ≡ w) × (grown d.same_wire (times t) w w ≡ suc (times t w))) ⊎ ((w ≡ w → ⊥) × (grown d.same_wire (times t) w w ≡ times t w))
          → grown d.same_wire (times t) w w ≡ suc (times t w)
      at (inl (p, e)) = e
      at (inr (p, e)) = absurd (p refl)

  times_other : (t : List W) (w v : W) → (v ≡ w → ⊥) → times (t ++ w ∷ []) v ≡ times t v
  times_other t w v h = ap (λ c. c v) (tally_end d.same_wire naught t w) ∙ at (grown_cases d.same_wire l.wires (times t) w v)
    where
      at : ((v ≡ w) × (grown d.same_wire (times t) w v ≡ suc (times t v))) ⊎ ((v ≡ w → ⊥) × (grown d.same_wire (times t) w v ≡ times t v))
          → grown d.same_wire (times t) w v ≡ times t v
      at (inl (p, e)) = absurd (h p)
      at (inr (p, e)) = e

  pub count_more : (t : N → List W) (n : N) (w : W) (u : N → List W) → Longer N W t n w u → (m : N) → m ≡ n → times (u m) w ≡ suc (times (t m) w)
  count_more t n w u h m e = ap (λ a. times a w) (longer_at t n w u h m e) ∙ times_end (t m) w

  pub count_away : (t : N → List W) (n : N) (w : W) (u : N → List W) → Longer N W t n w u → (m : N) → (m ≡ n → ⊥) → (v : W) → times (u m) v ≡ times (t m) v
  count_away t n w u h m e v = ap (λ a. times a v) (longer_away t n w u h m e)

  pub count_other : (t : N → List W) (n : N) (w : W) (u : N → List W) → Longer N W t n w u → (m : N) (v : W) → (v ≡ w → ⊥) → times (u m) v ≡ times (t m) v
  count_other t n w u h m v e = at (h m)
    where
      at : ((m ≡ n) × (u m ≡ t m ++ w ∷ [])) ⊎ ((m ≡ n → ⊥) × (u m ≡ t m)) → times (u m) v ≡ times (t m) v
      at (inl (p, x)) = ap (λ a. times a v) x ∙ times_other (t m) w v e
      at (inr (p, x)) = ap (λ a. times a v) x

  module _ (In : W → Type 0) (I : (N → List W) → Type 0) where
    -- a stage that the invariant allows
    pub record Going (s : Stage N W) : Type 0 where
      pub holds : I s.trace
      pub traces : (n : N) → May d n (s.trace n)
      pub free : (w : W) → s.busy w ≡ false → sent d s.trace w ≡ got d s.trace w
      pub full : (w : W) → s.busy w ≡ true → In w × (sent d s.trace w ≡ suc (got d s.trace w))

    flow_at : (s : Stage N W) → Going s → (w : W) (b : Bool) → s.busy w ≡ b → (sent d s.trace w ≡ got d s.trace w) ⊎ (sent d s.trace w ≡ suc (got d s.trace w))
    flow_at s g w false e = inl (g.free w e)
    flow_at s g w true e = inr (g.full w e).1

    flows : (s : Stage N W) → Going s → Flows (sent d s.trace) (got d s.trace)
    flows s g w = flow_at s g w (s.busy w) refl

    -- what the traces of a stage become when a wire is added at one node
    longer_traces : (t : N → List W) (n : N) (w : W) → ((m : N) → May d m (t m)) → May d n (t n ++ w ∷ []) → (m : N) → May d m (longer d.same_node t n w m)
    longer_traces t n w old new m = at (longer_is d.same_node l.nodes t n w m)
      where
        at : ((m ≡ n) × (longer d.same_node t n w m ≡ t m ++ w ∷ [])) ⊎ ((m ≡ n → ⊥) × (longer d.same_node t n w m ≡ t m)) → May d m (longer d.same_node t n w m)
        at (inl (p, e)) = subst (λ x. May d m x) (sym e) (subst (λ k. May d k (t k ++ w ∷ [])) (sym p) new)
        at (inr (p, e)) = subst (λ x. May d m x) (sym e) (old m)

    module _ (k : Tends N W d In I) where
      free_of : (s : Stage N W) → Going s → (w : W) → sent d s.trace w ≡ got d s.trace w → (b : Bool) → s.busy w ≡ b → s.busy w ≡ false
      free_of s g w e false h = h
      free_of s g w e true h = absurd (self_suc (sym e ∙ (g.full w h).1))
        where
          self_suc : got d s.trace w ≡ suc (got d s.trace w) → ⊥
          self_suc x = omega arith

      -- a wire that its driver may fire is free
      send_free : (s : Stage N W) → Going s → (w : W) → d.rule (d.driver w) (s.trace (d.driver w)) w → s.busy w ≡ false
      send_free s g w r = free_of s g w (k.sends s.trace w (flows s g) g.holds r).1 (s.busy w) refl

      send_going : (s : Stage N W) → Going s → (w : W) → d.rule (d.driver w) (s.trace (d.driver w)) w → Going (next d s (Send w))
      send_going s g w r = record {
        holds = step.2 u more;
        traces = longer_traces s.trace (d.driver w) w g.traces (follows_end (d.rule (d.driver w)) [] (s.trace (d.driver w)) w (g.traces (d.driver w)) r);
        free = λ v e. at_free v e (marked_cases d.same_wire l.wires s.busy w true v);
        full = λ v e. at_full v e (marked_cases d.same_wire l.wires s.busy w true v);
      }
        where
          step : In w × (sent d s.trace w ≡ got d s.trace w) × ((u : N → List W) → Longer N W s.trace (d.driver w) w u → I u)
          step = k.sends s.trace w (flows s g) g.holds r

          u : N → List W
          u = longer d.same_node s.trace (d.driver w) w

          more : Longer N W s.trace (d.driver w) w u
          more = longer_is d.same_node l.nodes s.trace (d.driver w) w

          at_free : (v : W) → marked d.same_wire s.busy w true v ≡ false
              → ((v ≡ w) × (marked d.same_wire s.busy w true v ≡ true)) ⊎ ((v ≡ w → ⊥) × (marked d.same_wire s.busy w true v ≡ s.busy v))
              → sent d u v ≡ got d u v
          at_free v e (inl (p, x)) = absurd (cc)
          at_free v e (inr (p, x)) = count_other s.trace (d.driver w) w u more (d.driver v) v p ∙ g.free v (sym x ∙ e) ∙ sym (count_other s.trace (d.driver w) w u more (d.receiver v) v p)

          here : sent d u w ≡ suc (got d u w)
          here = count_more s.trace (d.driver w) w u more (d.driver w) refl
              ∙ ap suc (step.1 ∙ sym (count_away s.trace (d.driver w) w u more (d.receiver w) (λ e. l.clean w (sym e)) w))

          at_full : (v : W) → marked d.same_wire s.busy w true v ≡ true
              → ((v ≡ w) × (marked d.same_wire s.busy w true v ≡ true)) ⊎ ((v ≡ w → ⊥) × (marked d.same_wire s.busy w true v ≡ s.busy v))
              → In v × (sent d u v ≡ suc (got d u v))
          at_full v e (inl (p, x)) = subst (λ y. In y × (sent d u y ≡ suc (got d u y))) (sym p) (step.0, here)
          at_full v e (inr (p, x)) = (
            (g.full v (sym x ∙ e)).0,
            count_other s.trace (d.driver w) w u more (d.driver v) v p ∙ (g.full v (sym x ∙ e)).1 ∙ ap suc (sym (count_other s.trace (d.driver w) w u more (d.receiver v) v p)),
          )

      -- the receiver of a busy wire may take it
      land_rule : (s : Stage N W) → Going s → (w : W) → s.busy w ≡ true → d.rule (d.receiver w) (s.trace (d.receiver w)) w
      land_rule s g w e = (k.lands s.trace w (flows s g) g.holds (g.full w e).0 (g.full w e).1).0

      land_safe : (s : Stage N W) → Going s → (w : W) → s.busy w ≡ true → May d (d.receiver w) (s.trace (d.receiver w) ++ w ∷ [])
      land_safe s g w e = follows_end (d.rule (d.receiver w)) [] (s.trace (d.receiver w)) w (g.traces (d.receiver w)) (land_rule s g w e)

      land_going : (s : Stage N W) → Going s → (w : W) → s.busy w ≡ true → Going (next d s (Land w))
      land_going s g w busy = record {
        holds = (k.lands s.trace w (flows s g) g.holds (g.full w busy).0 (g.full w busy).1).1 u more;
        traces = longer_traces s.trace (d.receiver w) w g.traces (land_safe s g w busy);
        free = λ v e. at_free v e (marked_cases d.same_wire l.wires s.busy w false v);
        full = λ v e. at_full v e (marked_cases d.same_wire l.wires s.busy w false v);
      }
        where
          u : N → List W
          u = longer d.same_node s.trace (d.receiver w) w

          more : Longer N W s.trace (d.receiver w) w u
          more = longer_is d.same_node l.nodes s.trace (d.receiver w) w

          here : sent d u w ≡ got d u w
          here = count_away s.trace (d.receiver w) w u more (d.driver w) (l.clean w) w ∙ (g.full w busy).1
              ∙ sym (count_more s.trace (d.receiver w) w u more (d.receiver w) refl)

          at_free : (v : W) → marked d.same_wire s.busy w false v ≡ false
              → ((v ≡ w) × (marked d.same_wire s.busy w false v ≡ false)) ⊎ ((v ≡ w → ⊥) × (marked d.same_wire s.busy w false v ≡ s.busy v))
              → sent d u v ≡ got d u v
          at_free v e (inl (p, x)) = subst (λ y. sent d u y ≡ got d u y) (sym p) here
          at_free v e (inr (p, x)) = count_other s.trace (d.receiver w) w u more (d.driver v) v p ∙ g.free v (sym x ∙ e) ∙ sym (count_other s.trace (d.receiver w) w u more (d.receiver v) v p)

          at_full : (v : W) → marked d.same_wire s.busy w false v ≡ true
              → ((v ≡ w) × (marked d.same_wire s.busy w false v ≡ false)) ⊎ ((v ≡ w → ⊥) × (marked d.same_wire s.busy w false v ≡ s.busy v))
              → In v × (sent d u v ≡ suc (got d u v))
          at_full v e (inl (p, x)) = absurd (cc)
          at_full v e (inr (p, x)) = (
            (g.full v (sym x ∙ e)).0,
            count_other s.trace (d.receiver w) w u more (d.driver v) v p ∙ (g.full v (sym x ∙ e)).1 ∙ ap suc (sym (count_other s.trace (d.receiver w) w u more (d.receiver v) v p)),
          )

      -- what is ready is safe, and the stage after it goes on
      safe_one : (s : Stage N W) → Going s → (e : Move W) → Ready d s e → Safe d s e
      safe_one s g (Send w) r = send_free s g w (follows_last (d.rule (d.driver w)) [] (s.trace (d.driver w)) w r)
      safe_one s g (Land w) r = land_safe s g w r

      going_one : (s : Stage N W) → Going s → (e : Move W) → Ready d s e → Going (next d s e)
      going_one s g (Send w) r = send_going s g w (follows_last (d.rule (d.driver w)) [] (s.trace (d.driver w)) w r)
      going_one s g (Land w) r = land_going s g w r

      sound_from : (es : List (Move W)) (s : Stage N W) → Going s → Plays d s es → (e : Move W) → Ready d (next_all d s es) e → Safe d (next_all d s es) e
      sound_from [] s g p e r = safe_one s g e r
      sound_from (m ∷ es) s g p e r = sound_from es (next d s m) (going_one s g m p.0) p.2 e r

      going_first : Going (begin d)
      going_first = record { holds = k.begins; traces = λ n. tt; free = λ w e. refl; full = λ w e. absurd (cc) }

      pub sound_of : WebSound d
      sound_of es p e r = sound_from es (begin d) going_first p e r

      -- a run from a stage to the wanted trace of the outside
      abbrev Out : List W → Stage N W → Type 0
      Out a s = (es : List (Move W)) × Plays d s es × ((next_all d s es).trace d.outside ≡ a)

      first : (a : List W) (s : Stage N W) (e : Move W) → Ready d s e → Safe d s e → Out a (next d s e) → Out a s
      first a s e r h o = (e ∷ o.0, (r, h, o.1), o.2)

      abbrev Idle : Stage N W → Type 0
      Idle s = (w : W) → s.busy w ≡ false

      -- the stage after a wire was fired and handed over
      abbrev through : Stage N W → W → Stage N W
      through s w = next d (next d s (Send w)) (Land w)

      through_busy : (s : Stage N W) (w : W) → (next d s (Send w)).busy w ≡ true
      through_busy s w = at (marked_cases d.same_wire l.wires s.busy w true w)
        where
          at : ((w ≡ w) × (marked d.same_wire s.busy w true w ≡ true)) ⊎ ((w ≡ w → ⊥) × (marked d.same_wire s.busy w true w ≡ s.busy w)) → marked d.same_wire s.busy w true w ≡ true
          at (inl (p, e)) = e
          at (inr (p, e)) = absurd (p refl)

      through_going : (s : Stage N W) → Going s → (w : W) → d.rule (d.driver w) (s.trace (d.driver w)) w → Going (through s w)
      through_going s g w r = land_going (next d s (Send w)) (send_going s g w r) w (through_busy s w)

      through_idle : (s : Stage N W) → Idle s → (w : W) → Idle (through s w)
      through_idle s h w v = at (marked_cases d.same_wire l.wires (next d s (Send w)).busy w false v) (marked_cases d.same_wire l.wires s.busy w true v)
        where
          b : W → Bool
          b = marked d.same_wire s.busy w true

          at : ((v ≡ w) × (marked d.same_wire b w false v ≡ false)) ⊎ ((v ≡ w → ⊥) × (marked d.same_wire b w false v ≡ b v))
              → ((v ≡ w) × (b v ≡ true)) ⊎ ((v ≡ w → ⊥) × (b v ≡ s.busy v)) → marked d.same_wire b w false v ≡ false
          at (inl (p, e)) q = e
          at (inr (p, e)) (inl (q, x)) = absurd (p q)
          at (inr (p, e)) (inr (q, x)) = e ∙ x ∙ h v

      through_went : (s : Stage N W) (w : W) → Went N W d s.trace w (through s w).trace
      through_went s w = (
        (next d s (Send w)).trace,
        longer_is d.same_node l.nodes s.trace (d.driver w) w,
        longer_is d.same_node l.nodes (next d s (Send w)).trace (d.receiver w) w,
      )

      through_out : (a : List W) (s : Stage N W) → Going s → (w : W) → d.rule (d.driver w) (s.trace (d.driver w)) w → Out a (through s w) → Out a s
      through_out a s g w r o = first a s (Send w)
          (follows_end (d.rule (d.driver w)) [] (s.trace (d.driver w)) w (g.traces (d.driver w)) r) (send_free s g w r)
          (first a (next d s (Send w)) (Land w) (through_busy s w) (land_safe (next d s (Send w)) (send_going s g w r) w (through_busy s w)) o)

      went_inner : (t : N → List W) (w : W) (u : N → List W) → Went N W d t w u → (d.driver w ≡ d.outside → ⊥) → (d.receiver w ≡ d.outside → ⊥) → u d.outside ≡ t d.outside
      went_inner t w u h a c = longer_away h.0 (d.receiver w) w u h.2 d.outside (λ e. c (sym e)) ∙ longer_away t (d.driver w) w h.0 h.1 d.outside (λ e. a (sym e))

      went_outer : (t : N → List W) (w : W) (u : N → List W) → Went N W d t w u → (d.driver w ≡ d.outside) ⊎ (d.receiver w ≡ d.outside) → u d.outside ≡ t d.outside ++ w ∷ []
      went_outer t w u h (inl e) = longer_away h.0 (d.receiver w) w u h.2 d.outside (λ x. l.clean w (e ∙ x)) ∙ longer_at t (d.driver w) w h.0 h.1 d.outside (sym e)
      went_outer t w u h (inr e) = longer_at h.0 (d.receiver w) w u h.2 d.outside (sym e)
          ∙ ap (λ x. x ++ w ∷ []) (longer_away t (d.driver w) w h.0 h.1 d.outside (λ x. l.clean w (sym x ∙ sym e)))

      module _ (J : (N → List W) → Type 0) where
        -- a stage between two symbols
        pub record Rest (s : Stage N W) : Type 0 where
          pub going : Going s
          pub idle : Idle s
          pub good : J s.trace

        serve : (a : List W) (q : W) (t : N → List W) → Leads N W d I J q t → (b : W → Bool) → Going (record { trace = t; busy = b }) → ((w : W) → b w ≡ false)
            → ((s : Stage N W) → Rest s → s.trace d.outside ≡ t d.outside ++ q ∷ [] → Out a s) → Out a (record { trace = t; busy = b })
        serve a q t (pulls w x y r f) b g h c =
            let s : Stage N W = record { trace = t; busy = b } in
            let going : Going (through s w) = through_going s g w r in
            through_out a s g w r (serve a q (through s w).trace (f (through s w).trace (through_went s w) going.holds) (through s w).busy going (through_idle s h w)
            (λ z rest e. c z rest (e ∙ ap (λ i. i ++ q ∷ []) (went_inner t w (through s w).trace (through_went s w) x y))))
        serve a q t (ends x r f) b g h c =
            let s : Stage N W = record { trace = t; busy = b } in
            let going : Going (through s q) = through_going s g q r in
            through_out a s g q r (c (through s q)
            (record { going = going; idle = through_idle s h q; good = f (through s q).trace (through_went s q) going.holds })
            (went_outer t q (through s q).trace (through_went s q) x))

        module _ (leads : (t : N → List W) (q : W) → I t → J t → ((v : W) → sent d t v ≡ got d t v) → d.rule d.outside (t d.outside) q → Leads N W d I J q t) where
          exact_from : (a : List W) (s : Stage N W) → Rest s → Follows (d.rule d.outside) (s.trace d.outside) a → Out (s.trace d.outside ++ a) s
          exact_from [] s h f = ([], tt, sym (append-nil (s.trace d.outside)))
          exact_from (q ∷ a) s h f = serve (s.trace d.outside ++ q ∷ a) q s.trace
              (leads s.trace q h.going.holds h.good (λ v. h.going.free v (h.idle v)) f.0) s.busy h.going h.idle
              (λ z rest e. subst (λ x. Out x z) (ap (λ i. i ++ a) e ∙ append_assoc (s.trace d.outside) (q ∷ []) a)
              (exact_from a z rest (subst (λ i. Follows (d.rule d.outside) i a) (sym e) f.1)))

          pub exact_of : J (λ n. []) → WebExact d
          exact_of j a f = exact_from a (begin d) (record { going = going_first; idle = λ w. refl; good = j }) f

-- An invariant that each move keeps gives soundness.
pub web_sound : (N W : Type 0) (d : Web N W) (In : W → Type 0) (I : (N → List W) → Type 0) → Lawful N W d → Tends N W d In I → WebSound d
web_sound N W d In I l k = sound_of N W d l In I k

-- Where moreover inner wires lead to each symbol that the outside may do, each of its traces is seen.
pub web_exact : (N W : Type 0) (d : Web N W) (In : W → Type 0) (I J : (N → List W) → Type 0) → Lawful N W d → Tends N W d In I → J (λ n. [])
    → ((t : N → List W) (q : W) → I t → J t → ((v : W) → sent d t v ≡ got d t v) → d.rule d.outside (t d.outside) q → Leads N W d I J q t) → WebExact d
web_exact N W d In I J l k j h = exact_of N W d l In I k J h j
