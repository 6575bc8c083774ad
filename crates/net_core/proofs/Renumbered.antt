-- A network with other numbers for its nodes and its wires is sound where the first one is, and exact.
use Rattle.std.proofs.Common.{◌≡◌, ◌↔◌, inl, inr, ℕ, List, [], ◌∷◌, ◌++◌, Bool, true, false, refl, sym, ap, ◌∙◌, subst}
use Rattle.std.proofs.lemmas.Bool.{cases_eq, false≢true}
use Rattle.net_core.specs.Runs.{Fabric, State, start, Event, Fire, Pass, Enabled, Fits, Run, Safe, Sound, Exact, after, after_all, grow, put}
use Rattle.net_core.proofs.Updates.{grow_same, grow_other, put_same, put_other, was_true, now_true}

-- R is A with new numbers. Ports are unchanged, and node 0 stays node 0.
pub record Renumbers (A R : Fabric) : Type 0 where
  -- the new number of a node, and its old one
  pub node : ℕ → ℕ
  pub node_back : ℕ → ℕ
  pub node_old : (n : ℕ) → node_back (node n) ≡ n
  pub node_new : (m : ℕ) → node (node_back m) ≡ m
  -- the new number of a wire, and its old one
  pub wire : ℕ → ℕ
  pub wire_back : ℕ → ℕ
  pub wire_old : (w : ℕ) → wire_back (wire w) ≡ w
  pub wire_new : (x : ℕ) → wire (wire_back x) ≡ x
  pub outside : node 0 ≡ 0
  pub may : (n : ℕ) (t : List ℕ) → R.may (node n) t ↔ A.may n t
  pub fires : (n p : ℕ) → R.fires (node n) p ↔ A.fires n p
  pub drives : (n p : ℕ) → A.fires n p → R.wire (node n) p ≡ wire (A.wire n p)
  -- a driven wire leads where it led
  pub to : (n p : ℕ) → A.fires n p → R.to (wire (A.wire n p)) ≡ node (A.to (A.wire n p))
  pub into : (n p : ℕ) → A.fires n p → R.into (wire (A.wire n p)) ≡ A.into (A.wire n p)

-- A state of R is the state of A under the new numbers, and a busy wire is driven.
record Matches (A R : Fabric) (k : Renumbers A R) (s r : State) : Type 0 where
  traces : (n : ℕ) → r.trace (k.node n) ≡ s.trace n
  lines : (w : ℕ) → r.busy (k.wire w) ≡ s.busy w
  driven : (w : ℕ) → s.busy w ≡ true → (n : ℕ) × (p : ℕ) × A.fires n p × (A.wire n p ≡ w)

-- an event under the new numbers, and under the old ones
abbrev moved : (A R : Fabric) → Renumbers A R → Event → Event
moved A R k (Fire n p) = Fire (k.node n) p
moved A R k (Pass w) = Pass (k.wire w)

abbrev moved_back : (A R : Fabric) → Renumbers A R → Event → Event
moved_back A R k (Fire m p) = Fire (k.node_back m) p
moved_back A R k (Pass x) = Pass (k.wire_back x)

abbrev moved_all : (A R : Fabric) → Renumbers A R → List Event → List Event
moved_all A R k [] = []
moved_all A R k (e ∷ es) = moved A R k e ∷ moved_all A R k es

moved_new : (A R : Fabric) (k : Renumbers A R) (e : Event) → moved A R k (moved_back A R k e) ≡ e
moved_new A R k (Fire m p) = ap (λ n. Fire n p) (k.node_new m)
moved_new A R k (Pass x) = ap Pass (k.wire_new x)

module _ (A R : Fabric) (k : Renumbers A R) where
  same_node : (n m : ℕ) → k.node n ≡ k.node m → n ≡ m
  same_node n m e = sym (k.node_old n) ∙ ap k.node_back e ∙ k.node_old m

  same_wire : (v w : ℕ) → k.wire v ≡ k.wire w → v ≡ w
  same_wire v w e = sym (k.wire_old v) ∙ ap k.wire_back e ∙ k.wire_old w

  grown : (t u : ℕ → List ℕ) (n m p q : ℕ) → ((i : ℕ) → u (k.node i) ≡ t i) → m ≡ k.node n → q ≡ p
      → (i : ℕ) → grow u m q (k.node i) ≡ grow t n p i
  grown t u n m p q same e f i = elim (cases_eq i n) [
    | inl h ↦ grow_same u m q (k.node i) (ap k.node h ∙ sym e) ∙ ap (λ x. x ++ q ∷ []) (same i) ∙ ap (λ x. t i ++ x ∷ []) f ∙ sym (grow_same t n p i h)
    | inr h ↦ grow_other u m q (k.node i) (λ g. h (same_node i n (g ∙ e))) ∙ same i ∙ sym (grow_other t n p i h)
  ]

  changed : (b c : ℕ → Bool) (w y : ℕ) (x : Bool) → ((v : ℕ) → c (k.wire v) ≡ b v) → y ≡ k.wire w
      → (v : ℕ) → put c y x (k.wire v) ≡ put b w x v
  changed b c w y x same e v = elim (cases_eq v w) [
    | inl h ↦ put_same c y x (k.wire v) (ap k.wire h ∙ sym e) ∙ sym (put_same b w x v h)
    | inr h ↦ put_other c y x (k.wire v) (λ g. h (same_wire v w (g ∙ e))) ∙ same v ∙ sym (put_other b w x v h)
  ]

  to_new : (s r : State) → Matches A R k s r → (w : ℕ) → s.busy w ≡ true → R.to (k.wire w) ≡ k.node (A.to w)
  to_new s r m w busy = let (n, p, out, e) = m.driven w busy in subst (λ v. R.to (k.wire v) ≡ k.node (A.to v)) e (k.to n p out)

  into_new : (s r : State) → Matches A R k s r → (w : ℕ) → s.busy w ≡ true → R.into (k.wire w) ≡ A.into w
  into_new s r m w busy = let (n, p, out, e) = m.driven w busy in subst (λ v. R.into (k.wire v) ≡ A.into v) e (k.into n p out)

  step : (s r : State) → Matches A R k s r → (e : Event) → Enabled A s e → Matches A R k (after A s e) (after R r (moved A R k e))
  step s r m (Fire n p) on = record {
    traces = grown s.trace r.trace n (k.node n) p p m.traces refl refl;
    lines = changed s.busy r.busy (A.wire n p) (R.wire (k.node n) p) true m.lines (k.drives n p on.0);
    driven = λ v e. elim (now_true s.busy (A.wire n p) v e) [ inl at ↦ (n, p, on.0, sym at) | inr old ↦ m.driven v old ];
  }
  step s r m (Pass w) on = record {
    traces = grown s.trace r.trace (A.to w) (R.to (k.wire w)) (A.into w) (R.into (k.wire w)) m.traces (to_new s r m w on) (into_new s r m w on);
    lines = changed s.busy r.busy w (k.wire w) false m.lines refl;
    driven = λ v e. m.driven v (was_true s.busy w v e);
  }

  may_new : (s r : State) → Matches A R k s r → (n p : ℕ) → A.may n (s.trace n ++ p ∷ []) → R.may (k.node n) (r.trace (k.node n) ++ p ∷ [])
  may_new s r m n p h = subst (λ t. R.may (k.node n) (t ++ p ∷ [])) (sym (m.traces n)) ((k.may n (s.trace n ++ p ∷ [])).1 h)

  may_old : (s r : State) → Matches A R k s r → (n p : ℕ) → R.may (k.node n) (r.trace (k.node n) ++ p ∷ []) → A.may n (s.trace n ++ p ∷ [])
  may_old s r m n p h = (k.may n (s.trace n ++ p ∷ [])).0 (subst (λ t. R.may (k.node n) (t ++ p ∷ [])) (m.traces n) h)

  on_new : (s r : State) → Matches A R k s r → (e : Event) → Enabled A s e → Enabled R r (moved A R k e)
  on_new s r m (Fire n p) on = ((k.fires n p).1 on.0, may_new s r m n p on.1)
  on_new s r m (Pass w) on = m.lines w ∙ on

  on_old : (s r : State) → Matches A R k s r → (e : Event) → Enabled R r (moved A R k e) → Enabled A s e
  on_old s r m (Fire n p) on = ((k.fires n p).0 on.0, may_old s r m n p on.1)
  on_old s r m (Pass w) on = sym (m.lines w) ∙ on

  fits_new : (s r : State) → Matches A R k s r → (e : Event) → Enabled A s e → Fits A s e → Fits R r (moved A R k e)
  fits_new s r m (Fire n p) on fit = ap r.busy (k.drives n p on.0) ∙ m.lines (A.wire n p) ∙ fit
  fits_new s r m (Pass w) on fit = subst (λ n. R.may n (r.trace n ++ R.into (k.wire w) ∷ [])) (sym (to_new s r m w on))
      (subst (λ q. R.may (k.node (A.to w)) (r.trace (k.node (A.to w)) ++ q ∷ [])) (sym (into_new s r m w on)) (may_new s r m (A.to w) (A.into w) fit))

  safe_new : (es : List Event) (s r : State) → Matches A R k s r → Safe A s → Run R r es
      → (e : Event) → Enabled R (after_all R r es) e → Fits R (after_all R r es) e
  safe_new [] s r m safe run e on =
      let old = moved_back A R k e in
      let was : Enabled A s old = on_old s r m old (subst (Enabled R r) (sym (moved_new A R k e)) on) in
      subst (Fits R r) (moved_new A R k e) (fits_new s r m old was (safe [] tt old was))
  safe_new (d ∷ es) s r m safe run e on =
      let old = moved_back A R k d in
      let was : Enabled A s old = on_old s r m old (subst (Enabled R r) (sym (moved_new A R k d)) run.0) in
      let fit : Fits A s old = safe [] tt old was in
      let next : Matches A R k (after A s old) (after R r d) = subst (λ x. Matches A R k (after A s old) (after R r x)) (moved_new A R k d) (step s r m old was) in
      safe_new es (after A s old) (after R r d) next (λ fs more. safe (old ∷ fs) (was, fit, more)) run.2 e on

  run_new : (es : List Event) (s r : State) → Matches A R k s r → Run A s es → Run R r (moved_all A R k es)
  run_new [] s r m run = tt
  run_new (e ∷ es) s r m run = (
    on_new s r m e run.0,
    fits_new s r m e run.0 run.1,
    run_new es (after A s e) (after R r (moved A R k e)) (step s r m e run.0) run.2,
  )

  trace_new : (es : List Event) (s r : State) → Matches A R k s r → Run A s es → (n : ℕ)
      → (after_all R r (moved_all A R k es)).trace (k.node n) ≡ (after_all A s es).trace n
  trace_new [] s r m run n = m.traces n
  trace_new (e ∷ es) s r m run n = trace_new es (after A s e) (after R r (moved A R k e)) (step s r m e run.0) run.2 n

  matches_start : Matches A R k start start
  matches_start = record { traces = λ n. refl; lines = λ w. refl; driven = λ w e. absurd (false≢true e) }

  pub renumbered_sound : Sound A → Sound R
  renumbered_sound sound es run e on = safe_new es start start matches_start sound run e on

  pub renumbered_exact : Exact A → Exact R
  renumbered_exact exact t may =
      let old : A.may 0 t = (k.may 0 t).0 (subst (λ n. R.may n t) (sym k.outside) may) in
      let (es, run, e) = exact t old in (
        moved_all A R k es,
        run_new es start start matches_start run,
        ap (λ n. (after_all R start (moved_all A R k es)).trace n) (sym k.outside) ∙ trace_new es start start matches_start run 0 ∙ e,
      )
