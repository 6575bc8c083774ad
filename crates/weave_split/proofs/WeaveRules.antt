-- The rules of the components of a weave, by the lists of their wires.
use Rattle.std.proofs.Common.{◌≡◌, ◌↔◌, ◌⊎◌, inl, inr, ℕ, ◌+◌, ◌-◌, ◌<◌, ◌≤◌, Bool, true, false, true≢false, List, [], ◌∷◌, ◌++◌, map, length, get_or, refl, sym, ap, ◌∙◌, subst, arith, length-append, append_assoc, append-nil}
use Rattle.std.proofs.lemmas.List.{map-append, get_or_append_left, get_or-append_right, get_or-map}
use Rattle.cmd_tree.specs.Rounds.{tally, naught, Follows}
use Rattle.cmd_tree.proofs.RoundsRule.{follows_by}
use Rattle.basic_kinds.specs.declared.kind.Kind.TheVariants as kind
use Rattle.basic_kinds.specs.Totals.{total}
use Rattle.basic_kinds.specs.KindCounts.{grants_in}
use Rattle.basic_kinds.proofs.Totals.{total_same}
use Rattle.net_core.specs.declared.spec.NodeSpec.TheVariants.{Kind as Basic}
use Rattle.net_core.specs.Specs.{May}
use Rattle.net_laws.proofs.Among.{Among, Distinct, at_among, among_at}
use Rattle.net_laws.proofs.Rows.{among_left, among_right}
use Rattle.net_laws.proofs.Rules.{RoundsOn, rounds_spec}
use Rattle.net_laws.proofs.KindRules.{KindOn, kind_spec}
use Rattle.net_laws.proofs.Routes.{Joined}
use Rattle.plain_split.proofs.OneWaitWeb.{sum_of, MergeOn}
use Rattle.plain_split.proofs.OneWaitTraces.{map_among}
use Rattle.plain_split.proofs.OneWaitWires.{total_first}
use Rattle.plain_split.proofs.OneWaitChart.{as_long, merge_may, join_traces, fork_traces}
use Rattle.weave_split.specs.WeaveChart.{Wire, Ask, Give, same_wire}
use Rattle.weave_split.proofs.WeaveWeb.{wires_decide, GateOn, SequencerOn}

-- ---- traces of ports

-- The port k has the wire `label k`. A trace of the web follows the rule at each place, where this says which port may come after a trace of ports.
module _ {W : Type 0} (T : List ℕ → Type 0) (empty : T []) (closed : (t u : List ℕ) → T (t ++ u) → T t) (label : ℕ → W) (On : List W → W → Type 0)
    (step : (v : List ℕ) (k : ℕ) → T v → On (map label v) (label k) ↔ T (v ++ k ∷ [])) where
  there : (v t : List ℕ) → T (v ++ t) → Follows On (map label v) (map label t)
  there v [] h = tt
  there v (k ∷ t) h =
      let long : T ((v ++ k ∷ []) ++ t) = subst T (sym (append_assoc v (k ∷ []) t)) h in (
        (step v k (closed v (k ∷ t) h)).1 (closed (v ++ k ∷ []) t long),
        subst (λ z. Follows On z (map label t)) (map-append label v (k ∷ [])) (there (v ++ k ∷ []) t long),
      )

  again : (v t : List ℕ) → T v → Follows On (map label v) (map label t) → T (v ++ t)
  again v [] h f = subst T (sym (append-nil v)) h
  again v (k ∷ t) h f =
      subst T (append_assoc v (k ∷ []) t)
      (again (v ++ k ∷ []) t ((step v k h).0 f.0) (subst (λ z. Follows On z (map label t)) (sym (map-append label v (k ∷ []))) f.1))

  pub ports_traces : (t : List ℕ) → T t ↔ Follows On [] (map label t)
  ports_traces t = ((λ h. there [] t h), (λ f. again [] t empty f))

-- the ports of a process, in the order of its symbols
pub joined_list : {N W : Type 0} (f h : W → N) (n : N) (out : ℕ → Bool) (u : ℕ → W) → ((i : ℕ) → (out i ≡ true → f (u i) ≡ n) × (out i ≡ false → h (u i) ≡ n))
    → (xs : List ℕ) → Joined f h n (map out xs) (map u xs)
joined_list f h n out u all [] = tt
joined_list f h n out u all (x ∷ xs) = at (out x) (all x) (joined_list f h n out u all xs)
  where
    at : (b : Bool) → (b ≡ true → f (u x) ≡ n) × (b ≡ false → h (u x) ≡ n) → Joined f h n (map out xs) (map u xs) → Joined f h n (b ∷ map out xs) (u x ∷ map u xs)
    at true y z = (y.0 refl, z)
    at false y z = (y.1 refl, z)

-- ---- a FORK, a C and a MERGE

pub rounds_at : {W : Type 0} (ins outs : List W) (e : W → ℕ) (z : W) → RoundsOn ins outs e z → Among z (ins ++ outs)
rounds_at ins outs e z (inl (a, r)) = among_left z ins outs a
rounds_at ins outs e z (inr (a, r)) = among_right z ins outs a

pub merge_at : {W : Type 0} (ins : List W) (o : W) (e : W → ℕ) (z : W) → MergeOn ins o e z → Among z (ins ++ o ∷ [])
merge_at ins o e z (inl (a, r)) = among_left z ins (o ∷ []) a
merge_at ins o e z (inr (i, r)) = among_right z ins (o ∷ []) (inl i)

pub join_may : (ins : List Wire) (o z : Wire) (n : ℕ) → 0 < n → length ins ≡ n → Distinct (ins ++ o ∷ []) → (Among z (ins ++ o ∷ []) → ⊥) → (t : List ℕ)
    → May (Basic (kind.C n)) t ↔ Follows (λ v w. RoundsOn ins (o ∷ []) (tally same_wire naught v) w) [] (map (λ p. get_or (ins ++ o ∷ []) p z) t)
join_may ins o z n some long once away t =
    let both = rounds_spec same_wire wires_decide ins (o ∷ []) z n 1 long refl once (λ e w. RoundsOn ins (o ∷ []) e w)
    (λ e r. away (rounds_at ins (o ∷ []) e z r)) (λ e w. ((λ r. r), (λ r. r))) t in
    ((λ h. both.0 ((join_traces n some t).0 h)), (λ h. (join_traces n some t).1 (both.1 h)))

pub fork_may : (i : Wire) (outs : List Wire) (z : Wire) (n : ℕ) → 0 < n → length outs ≡ n → Distinct (i ∷ outs) → (Among z (i ∷ outs) → ⊥) → (t : List ℕ)
    → May (Basic (kind.Fork n)) t ↔ Follows (λ v w. RoundsOn (i ∷ []) outs (tally same_wire naught v) w) [] (map (λ p. get_or (i ∷ outs) p z) t)
fork_may i outs z n some long once away t =
    let both = rounds_spec same_wire wires_decide (i ∷ []) outs z 1 n refl long once (λ e w. RoundsOn (i ∷ []) outs e w)
    (λ e r. away (rounds_at (i ∷ []) outs e z r)) (λ e w. ((λ r. r), (λ r. r))) t in
    ((λ h. both.0 ((fork_traces n some t).0 h)), (λ h. (fork_traces n some t).1 (both.1 h)))

pub merged_may : (f : ℕ → Wire) (xs : List ℕ) (o z : Wire) → 2 ≤ length xs → Distinct (map f xs ++ o ∷ []) → (Among z (map f xs ++ o ∷ []) → ⊥) → (t : List ℕ)
    → May (Basic (kind.Merge (length xs))) t ↔ Follows (λ v w. MergeOn (map f xs) o (tally same_wire naught v) w) [] (map (λ p. get_or (map f xs ++ o ∷ []) p z) t)
merged_may f xs o z wide once away t =
    subst (λ k. May (Basic (kind.Merge k)) t ↔ Follows (λ v w. MergeOn (map f xs) o (tally same_wire naught v) w) [] (map (λ p. get_or (map f xs ++ o ∷ []) p z) t)) (as_long f xs)
    (merge_may same_wire wires_decide (map f xs) o z once away (omega (arith, as_long f xs, wide)) t)

-- ---- the gate of a grant

pub gate_at : (b : Bool) (i o : Wire) (e : Wire → ℕ) (z : Wire) → GateOn b i o e z → Among z (i ∷ o ∷ [])
gate_at false i o e z r = rounds_at (i ∷ []) (o ∷ []) e z r
gate_at true i o e z (inl (x, y)) = inr (inl x)
gate_at true i o e z (inr (x, y)) = inl x

gate_on : (b : Bool) (i o z : Wire) (e : Wire → ℕ) (w : Wire) → b ≡ true → KindOn kind.Iwire (i ∷ o ∷ []) z e w ↔ GateOn b i o e w
gate_on false i o z e w h = absurd (true≢false (sym h))
gate_on true i o z e w h = (there_, back_)
  where
    there_ : KindOn kind.Iwire (i ∷ o ∷ []) z e w → ((w ≡ o) × (e o ≡ e i)) ⊎ ((w ≡ i) × (e i < e o))
    there_ (p, low, is, inl (k, y)) = inl (is ∙ ap (λ k. get_or (i ∷ o ∷ []) k z) k, y)
    there_ (p, low, is, inr (k, y)) = inr (is ∙ ap (λ k. get_or (i ∷ o ∷ []) k z) k, y)

    back_ : ((w ≡ o) × (e o ≡ e i)) ⊎ ((w ≡ i) × (e i < e o)) → KindOn kind.Iwire (i ∷ o ∷ []) z e w
    back_ (inl (k, y)) = (1, omega arith, k, inl (refl, y))
    back_ (inr (k, y)) = (0, omega arith, k, inr (refl, y))

-- the traces of a gate that is kept
pub gate_may : (b : Bool) (i o z : Wire) → b ≡ true → Distinct (i ∷ o ∷ []) → (Among z (i ∷ o ∷ []) → ⊥) → (t : List ℕ)
    → May (Basic kind.Iwire) t ↔ Follows (λ v w. GateOn b i o (tally same_wire naught v) w) [] (map (λ p. get_or (i ∷ o ∷ []) p z) t)
gate_may b i o z kept once away t =
    let both = kind_spec same_wire wires_decide (i ∷ o ∷ []) once z away kind.Iwire tt refl t in (
      (λ h. follows_by (λ v w. KindOn kind.Iwire (i ∷ o ∷ []) z (tally same_wire naught v) w) (λ v w. GateOn b i o (tally same_wire naught v) w)
          (λ v w. (gate_on b i o z (tally same_wire naught v) w kept).0) [] (map (λ p. get_or (i ∷ o ∷ []) p z) t) (both.0 h)),
      (λ h. both.1 (follows_by (λ v w. GateOn b i o (tally same_wire naught v) w) (λ v w. KindOn kind.Iwire (i ∷ o ∷ []) z (tally same_wire naught v) w)
          (λ v w. (gate_on b i o z (tally same_wire naught v) w kept).1) [] (map (λ p. get_or (i ∷ o ∷ []) p z) t) h)),
    )

-- ---- the SEQ of a grant

total_list : {W : Type 0} (e : W → ℕ) (z : W) (xs : List W) → total (length xs) (λ q. e (get_or xs q z)) ≡ sum_of e xs
unfolding total
total_list e z [] = refl
total_list e z (x ∷ xs) = total_first (length xs) (λ q. e (get_or (x ∷ xs) q z)) ∙ omega (arith, total_list e z xs)

module _ (ss : List ℕ) (token z : Wire) where
  abbrev pub seq_ports : List Wire
  seq_ports = (map Ask ss ++ token ∷ []) ++ map Give ss

  abbrev k : ℕ
  k = length ss

  front_long : length (map Ask ss ++ token ∷ []) ≡ k + 1
  front_long = length-append (map Ask ss) (token ∷ []) ∙ omega (arith, as_long Ask ss)

  seq_long : length seq_ports ≡ (k + 1) + k
  seq_long = length-append (map Ask ss ++ token ∷ []) (map Give ss) ∙ omega (arith, front_long, as_long Give ss)

  request_at : (i : ℕ) → i < k → get_or seq_ports i z ≡ Ask (get_or ss i 0)
  request_at i low =
      get_or_append_left (map Ask ss ++ token ∷ []) (map Give ss) z i (omega (arith, front_long))
      ∙ get_or_append_left (map Ask ss) (token ∷ []) z i (omega (arith, as_long Ask ss)) ∙ get_or-map Ask ss i 0 z low

  token_at : get_or seq_ports k z ≡ token
  token_at =
      get_or_append_left (map Ask ss ++ token ∷ []) (map Give ss) z k (omega (arith, front_long))
      ∙ get_or-append_right (map Ask ss) (token ∷ []) k k z (as_long Ask ss) (omega arith) ∙ ap (λ i. get_or (token ∷ []) i z) (let e : 0 ≡ k - k = omega arith in sym e)

  grants_at : (i : ℕ) → get_or seq_ports (k + 1 + i) z ≡ get_or (map Give ss) i z
  grants_at i =
      get_or-append_right (map Ask ss ++ token ∷ []) (map Give ss) (k + 1) (k + 1 + i) z front_long (omega arith)
      ∙ ap (λ j. get_or (map Give ss) j z) (let e : k + 1 + i - (k + 1) ≡ i = omega arith in e)

  grant_at : (i : ℕ) → i < k → get_or seq_ports (k + 1 + i) z ≡ Give (get_or ss i 0)
  grant_at i low = grants_at i ∙ get_or-map Give ss i 0 z low

  granted : (e : Wire → ℕ) → grants_in k (λ q. e (get_or seq_ports q z)) ≡ sum_of e (map Give ss)
  granted e =
      total_same k (λ i. e (get_or seq_ports (k + 1 + i) z)) (λ i. e (get_or (map Give ss) i z)) (λ i low. ap e (grants_at i))
      ∙ ap (λ n. total n (λ i. e (get_or (map Give ss) i z))) (sym (as_long Give ss)) ∙ total_list e z (map Give ss)

  seq_on : (e : Wire → ℕ) (w : Wire) → KindOn (kind.Seq k) seq_ports z e w ↔ SequencerOn ss token e w
  seq_on e w = (there_, back_)
    where
      there_ : KindOn (kind.Seq k) seq_ports z e w → SequencerOn ss token e w
      there_ (p, low, is, inl (x, y)) =
          inl (get_or ss p 0, is ∙ request_at p x, at_among 0 ss p x, sym (ap e (request_at p x)) ∙ y ∙ ap e (grant_at p x))
      there_ (p, low, is, inr (inl (x, y))) =
          inr (inl (is ∙ ap (λ q. get_or seq_ports q z) x ∙ token_at, sym (ap e token_at) ∙ y ∙ granted e))
      there_ (p, low, is, inr (inr r)) =
          let at : get_or seq_ports p z ≡ Give (get_or ss r.request 0) = ap (λ q. get_or seq_ports q z) r.port ∙ grant_at r.request r.within in
          inr (inr (
            get_or ss r.request 0,
            is ∙ at,
            at_among 0 ss r.request r.within,
            omega (arith, r.waits, ap e at, ap e (request_at r.request r.within)),
            omega (arith, r.token, granted e, ap e token_at),
          ))

      back_ : SequencerOn ss token e w → KindOn (kind.Seq k) seq_ports z e w
      back_ (inl (s, is, a, same)) =
          let (i, low, at) = among_at 0 s ss a in
          let ask : get_or seq_ports i z ≡ Ask s = request_at i low ∙ ap Ask at in
          let give : get_or seq_ports (k + 1 + i) z ≡ Give s = grant_at i low ∙ ap Give at in
          (i, omega (arith, seq_long), is ∙ sym ask, inl (low, ap e ask ∙ same ∙ sym (ap e give)))
      back_ (inr (inl (is, same))) = (k, omega (arith, seq_long), is ∙ sym token_at, inr (inl (refl, ap e token_at ∙ same ∙ sym (granted e))))
      back_ (inr (inr (s, is, a, waits, there))) =
          let (i, low, at) = among_at 0 s ss a in
          let ask : get_or seq_ports i z ≡ Ask s = request_at i low ∙ ap Ask at in
          let give : get_or seq_ports (k + 1 + i) z ≡ Give s = grant_at i low ∙ ap Give at in (
            k + 1 + i,
            omega (arith, seq_long),
            is ∙ sym give,
            inr (inr (record {
              request = i;
              port = refl;
              within = low;
              waits = omega (arith, waits, ap e ask, ap e give);
              token = omega (arith, there, granted e, ap e token_at);
            })),
          )

  pub seq_at : (e : Wire → ℕ) (w : Wire) → SequencerOn ss token e w → Among w seq_ports
  seq_at e w (inl (s, is, a, same)) =
      subst (λ v. Among v seq_ports) (sym is) (among_left (Ask s) (map Ask ss ++ token ∷ []) (map Give ss) (among_left (Ask s) (map Ask ss) (token ∷ []) (map_among Ask ss s a)))
  seq_at e w (inr (inl (is, same))) =
      subst (λ v. Among v seq_ports) (sym is) (among_left token (map Ask ss ++ token ∷ []) (map Give ss) (among_right token (map Ask ss) (token ∷ []) (inl refl)))
  seq_at e w (inr (inr (s, is, a, waits, there))) =
      subst (λ v. Among v seq_ports) (sym is) (among_right (Give s) (map Ask ss ++ token ∷ []) (map Give ss) (map_among Give ss s a))

  -- the traces of a SEQ
  pub seq_may : 2 ≤ k → Distinct seq_ports → (Among z seq_ports → ⊥) → (t : List ℕ)
      → May (Basic (kind.Seq k)) t ↔ Follows (λ v w. SequencerOn ss token (tally same_wire naught v) w) [] (map (λ p. get_or seq_ports p z) t)
  seq_may wide once away t =
      let both = kind_spec same_wire wires_decide seq_ports once z away (kind.Seq k) wide seq_long t in (
        (λ h. follows_by (λ v w. KindOn (kind.Seq k) seq_ports z (tally same_wire naught v) w) (λ v w. SequencerOn ss token (tally same_wire naught v) w)
            (λ v w. (seq_on (tally same_wire naught v) w).0) [] (map (λ p. get_or seq_ports p z) t) (both.0 h)),
        (λ h. both.1 (follows_by (λ v w. SequencerOn ss token (tally same_wire naught v) w) (λ v w. KindOn (kind.Seq k) seq_ports z (tally same_wire naught v) w)
            (λ v w. (seq_on (tally same_wire naught v) w).1) [] (map (λ p. get_or seq_ports p z) t) h)),
      )
