-- What fits a network at first fits at its turn, and what one splice keeps all keep.
use Rattle.std.proofs.Common.{◌≡◌, ℕ, zero, suc, ◌+◌, ◌-◌, ◌<◌, true, List, [], ◌∷◌, length, drop, Option, None, Some, refl, sym, ap, ◌∙◌, subst, arith}
use Rattle.std.specs.Prelude.{slice_get, ⊤}
use Rattle.net_core.specs.declared.spec.NodeSpec.{NodeSpec}
use Rattle.net_core.specs.Wiring.{Node, Circuit, IsNetwork, IsClosed}
use Rattle.net_core.specs.Networks.{gives, takes, end_at, spec_of, IsClean, SoundFor, Correct}
use Rattle.net_core.proofs.Found.{Located, gives_located, takes_located}
use Rattle.substitute.specs.Splice.{driver, receiver, output_port, input_port, spliced, Fitting}
use Rattle.substitute.specs.Splices.{all_spliced, FitEach, EachPart, Serves, ServeEach}
use Rattle.substitute.proofs.Places.{net_place, net_cases, net_node, net_gives, net_takes, net_end, spliced_length}
use Rattle.substitute.proofs.SplicedNet.{spliced_fits, spliced_closed, spliced_clean, spliced_network, spliced_sound_for, spliced_correct}

-- ---- a later node keeps what fits at it

module _ (c : Circuit) (a : ℕ) (m : Circuit) (fit : Fitting c a m) (j : ℕ) (p : Circuit) (later : a < j)
    (g : Fitting c j p) where
  abbrev whole : Circuit
  whole = spliced c a m

  abbrev place : ℕ
  place = net_place c a m j

  pub later_place : place + 2 ≡ j + length m.nodes
  later_place = let x = net_cases c a m fit j in let ins = g.inside in omega arith

  other : j ≡ a → ⊥
  other e = omega arith

  whole_gives : Located (gives whole) whole
  whole_gives = gives_located whole (spliced_fits c a m fit) (spliced_closed c a m fit)

  whole_takes : Located (takes whole) whole
  whole_takes = takes_located whole (spliced_fits c a m fit) (spliced_closed c a m fit)

  -- a wire that comes from the later node, or leads to it, is one of the network, from the same node or to it
  comes_from : (w : ℕ) → w < whole.wires → driver whole w ≡ place → (w < c.wires) × (driver c w ≡ j)
  comes_from w l e =
      let q = output_port whole w in
      let side : gives c j q ≡ true =
      sym (net_gives c a m fit j q other) ∙ ap (λ n. gives whole n q) (sym e) ∙ whole_gives.real w l in
      let at : end_at c j q ≡ w = sym (net_end c a m fit j q other) ∙ ap (λ n. end_at whole n q) (sym e)
      ∙ whole_gives.back w l in
      let located = gives_located c fit.fit_net fit.closed_net in (
        subst (λ x. x < c.wires) at (located.known j q side),
        ap (driver c) (sym at) ∙ located.node_at j q side,
      )

  leads_to : (w : ℕ) → w < whole.wires → receiver whole w ≡ place → receiver c w ≡ j
  leads_to w l e =
      let q = input_port whole w in
      let side : takes c j q ≡ true =
      sym (net_takes c a m fit j q other) ∙ ap (λ n. takes whole n q) (sym e) ∙ whole_takes.real w l in
      let at : end_at c j q ≡ w = sym (net_end c a m fit j q other) ∙ ap (λ n. end_at whole n q) (sym e)
      ∙ whole_takes.back w l in
      let located = takes_located c fit.fit_net fit.closed_net in
      ap (receiver c) (sym at) ∙ located.node_at j q side

  pub fits_later : Fitting whole place p
  fits_later = record {
    fit_net = spliced_fits c a m fit;
    closed_net = spliced_closed c a m fit;
    fit_part = g.fit_part;
    closed_part = g.closed_part;
    component = let x = later_place in let some = fit.some in omega arith;
    inside = let x = later_place in let y = spliced_length c a m fit in let ins = g.inside in omega arith;
    some = g.some;
    same = ap spec_of (net_node c a m fit j other) ∙ g.same;
    not_through = g.not_through;
    not_self = λ w l from to. let f = comes_from w l from in g.not_self w f.0 f.1 (leads_to w l to);
  }

each_later : (c : Circuit) (a : ℕ) (m : Circuit) → Fitting c a m → (j k : ℕ) → a < j → k + 2
    ≡ j + length m.nodes → (ps : List (Option Circuit))
    → FitEach c j ps → FitEach (spliced c a m) k ps
each_later c a m fit j k later e [] h = tt
each_later c a m fit j k later e (None ∷ ps) h =
    each_later c a m fit (suc j) (suc k) (omega arith) (omega arith) ps h
each_later c a m fit j k later e (Some p ∷ ps) h = (
  (let same : net_place c a m j ≡ k = (let x = later_place c a m fit j p later h.0 in omega arith) in
      subst (λ n. Fitting (spliced c a m) n p) same (fits_later c a m fit j p later h.0)),
  each_later c a m fit (suc j) (suc k) (omega arith) (omega arith) ps h.1,
)

-- ---- at its turn each part fits the network so far

abbrev pub FitInTurn : Circuit → ℕ → List (Option Circuit) → Type 0
FitInTurn c k [] = ⊤
FitInTurn c k (None ∷ ps) = FitInTurn c (suc k) ps
FitInTurn c k (Some m ∷ ps) = Fitting c k m × FitInTurn (spliced c k m) (k + (length m.nodes - 1)) ps

pub in_turn : (c : Circuit) (k : ℕ) (ps : List (Option Circuit)) → FitEach c k ps → FitInTurn c k ps
in_turn c k [] h = tt
in_turn c k (None ∷ ps) h = in_turn c (suc k) ps h
in_turn c k (Some m ∷ ps) h =
    let some = h.0.some in (
      h.0,
      in_turn (spliced c k m) (k + (length m.nodes - 1)) ps
          (each_later c k m h.0 (suc k) (k + (length m.nodes - 1)) (omega arith) (omega arith) ps h.1),
    )

-- ---- what one splice keeps, all keep

module _ (P Q : Circuit → Type 0)
    (keeps : (c : Circuit) (a : ℕ) (m : Circuit) → Fitting c a m → P c → Q m → P (spliced c a m)) where
  kept_in_turn : (c : Circuit) (k : ℕ) (ps : List (Option Circuit)) → FitInTurn c k ps → P c → EachPart Q ps
      → P (all_spliced c k ps)
  kept_in_turn c k [] h p q = p
  kept_in_turn c k (None ∷ ps) h p q = kept_in_turn c (suc k) ps h p q.1
  kept_in_turn c k (Some m ∷ ps) h p q =
      kept_in_turn (spliced c k m) (k + (length m.nodes - 1)) ps h.1 (keeps c k m h.0 p q.0) q.1

  pub all_keep : (c : Circuit) (k : ℕ) (ps : List (Option Circuit)) → FitEach c k ps → P c → EachPart Q ps
      → P (all_spliced c k ps)
  all_keep c k ps h p q = kept_in_turn c k ps (in_turn c k ps h) p q

any_part : (ps : List (Option Circuit)) → EachPart (λ m. ⊤) ps
any_part [] = tt
any_part (None ∷ ps) = (tt, any_part ps)
any_part (Some m ∷ ps) = (tt, any_part ps)

pub all_network : (c : Circuit) (k : ℕ) (ps : List (Option Circuit)) → FitEach c k ps → IsNetwork c
    → IsNetwork (all_spliced c k ps)
all_network c k ps h p = all_keep IsNetwork (λ m. ⊤) (λ c a m fit n x. spliced_network c a m fit n) c k ps h
    p (any_part ps)

pub all_closed : (c : Circuit) (k : ℕ) (ps : List (Option Circuit)) → FitEach c k ps → IsClosed c
    → IsClosed (all_spliced c k ps)
all_closed c k ps h p = all_keep IsClosed (λ m. ⊤) (λ c a m fit n x. spliced_closed c a m fit) c k ps h p
    (any_part ps)

pub all_clean : (c : Circuit) (k : ℕ) (ps : List (Option Circuit)) → FitEach c k ps → IsClean c
    → EachPart IsClean ps → IsClean (all_spliced c k ps)
all_clean c k ps h p q = all_keep IsClean IsClean (λ c a m fit x y. spliced_clean c a m fit x y) c k ps h p q

pub all_sound : (s : NodeSpec) (c : Circuit) (k : ℕ) (ps : List (Option Circuit)) → FitEach c k ps
    → SoundFor c s
    → EachPart (λ m. (t : NodeSpec) × SoundFor m t) ps → SoundFor (all_spliced c k ps) s
all_sound s c k ps h p q = all_keep (λ d. SoundFor d s) (λ m. (t : NodeSpec) × SoundFor m t)
    (λ c a m fit x y. spliced_sound_for c a m fit s y.0 x y.1) c k ps h p q

pub all_correct : (s : NodeSpec) (c : Circuit) (k : ℕ) (ps : List (Option Circuit)) → FitEach c k ps
    → Correct c s
    → EachPart (λ m. (t : NodeSpec) × Correct m t) ps → Correct (all_spliced c k ps) s
all_correct s c k ps h p q = all_keep (λ d. Correct d s) (λ m. (t : NodeSpec) × Correct m t)
    (λ c a m fit x y. spliced_correct c a m fit s y.0 x y.1) c k ps h p q

-- ---- clean networks with their nodes' specifications fit

serves_fits : (c : Circuit) (k : ℕ) (x : Node) (m : Circuit) → IsNetwork c → IsClosed c → IsClean c
    → slice_get c.nodes k ≡ Some x → 0 < k → k < length c.nodes
    → Serves x.spec m → Fitting c k m
serves_fits c k x m net closed clean at comp ins s = record {
  fit_net = net.wired;
  closed_net = closed;
  fit_part = s.network.wired;
  closed_part = s.closed;
  component = comp;
  inside = ins;
  some = s.network.some;
  same = ap spec_of at ∙ sym s.specified;
  not_through = λ w l t. s.clean w l (t.0 ∙ sym t.1);
  not_self = λ w l from to. clean w l (from ∙ sym to);
}

drop_one : (xs : List Node) (k : ℕ) (y : Node) (ys : List Node) → drop k xs ≡ y ∷ ys
    → (slice_get xs k ≡ Some y) × (k < length xs) × (drop (suc k) xs ≡ ys)
drop_one [] zero y ys e = absurd (cc)
drop_one [] (suc k) y ys e = absurd (cc)
drop_one (x ∷ xs) zero y ys e =
    (ap (λ (t : List Node). slice_get t 0) e, omega arith, ap (λ (t : List Node). drop 1 t) e)
drop_one (x ∷ xs) (suc k) y ys e = let r = drop_one xs k y ys e in (r.0, omega (arith, r.1), r.2)

serve_fit : (c : Circuit) (k : ℕ) → IsNetwork c → IsClosed c → IsClean c → 0 < k → (xs : List Node)
    → drop k c.nodes ≡ xs → (ps : List (Option Circuit))
    → ServeEach xs ps → FitEach c k ps
serve_fit c k net closed clean comp xs e [] h = tt
serve_fit c k net closed clean comp [] e (p ∷ ps) h = absurd h
serve_fit c k net closed clean comp (x ∷ xs) e (None ∷ ps) h =
    serve_fit c (suc k) net closed clean (omega arith) xs (drop_one c.nodes k x xs e).2 ps h
serve_fit c k net closed clean comp (x ∷ xs) e (Some m ∷ ps) h =
    let at = drop_one c.nodes k x xs e in (
      serves_fits c k x m net closed clean at.0 comp at.1 h.0,
      serve_fit c (suc k) net closed clean (omega arith) xs at.2 ps h.1,
    )

pub each_fits : (c : Circuit) (ps : List (Option Circuit)) → IsNetwork c → IsClosed c → IsClean c
    → ServeEach (drop 1 c.nodes) ps → FitEach c 1 ps
each_fits c ps net closed clean h = serve_fit c 1 net closed clean (omega arith) (drop 1 c.nodes) refl ps h
