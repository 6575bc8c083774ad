-- The network of a process with one wait shows each trace: where nothing is under way, each symbol that may be given is served by at most five wires.
use Rattle.std.proofs.Common.{eq-eqb, eqb-true, ◌≡◌, inl, inr, ℕ, suc, ◌+◌, ◌<◌, ◌≤◌, Bool, true, false, List, [], ◌∷◌, refl, sym, ap, subst, arith, if◌then◌else◌}
use Rattle.std.proofs.Math.Path.{fun_ext}
use Rattle.std.proofs.lemmas.Bool.{cases_lt}
use Rattle.cmd_tree.specs.Rounds.{tally, naught}
use Rattle.place_graph.specs.declared.leg.Leg.{Leg}
use Rattle.place_graph.specs.Tale.{one_if, times}
use Rattle.place_graph.specs.Chart.{Has, Plays, Grows, sum_where, to_at, in_leg, done}
use Rattle.net_laws.proofs.Webs.{Web, WebExact}
use Rattle.net_laws.proofs.Told.{Lawful, sent, got, Flows, Went, Leads, pulls, ends, web_exact}
use Rattle.net_laws.proofs.Woven.{Grew, grew_le, grew_same, grew_other, grew_unique, sent_grew, got_grew, got_same, sent_same}
use Rattle.net_laws.proofs.Among.{Among}
use Rattle.plain_split.specs.OneWait.{Wire, Take, Burst, Call, Begin, Put, Give, Name, Env, Join, Gate, Spread, Links, same_wire}
use Rattle.plain_split.proofs.OneWaitSums.{one_at, sum_gap, sum_some}
use Rattle.plain_split.proofs.OneWaitWeb.{sum_of, GateOn, SpreadOn, Rule, web, lawful}
use Rattle.plain_split.proofs.OneWaitCounts.{IsOneWait, Acts, Inputs, bur, entered, given_by, Ties, enters, act_has, acts_with, take_is, chain, given_chain}
use Rattle.plain_split.proofs.OneWaitTraces.{Drawn, map_among, all_map_by, Held, Real, ties_of, entered_is, given_is, at_home, story_grows, fresh, tends}

-- the gate of an act that may begin
gate_may : (bs : List ℕ) (b : Bool) (n : ℕ) (c : Wire → ℕ) → (bs ≡ [] → c (Call n) ≡ 0) → (if b then 1 else 0) + c (Call n) ≤ suc (c (Begin n))
    → c (Begin n) < (if b then 1 else 0) + c (Call n) → GateOn bs b n c (Begin n)
gate_may [] false n c h low less = absurd (omega (arith, h refl, less))
gate_may [] true n c h low less = (refl, omega (arith, h refl, less))
gate_may (x ∷ bs) false n c h low less = inr (inl refl, (omega (arith, less), tt))
gate_may (x ∷ bs) true n c h low less = inl (refl, omega (arith, low, less))

spread_may : (rest : List ℕ) (n a : ℕ) (c : Wire → ℕ) → Among a rest → c (Put n a) < c (Begin n) → SpreadOn rest n c (Put n a)
spread_may [] n a c i less = absurd i
spread_may (x ∷ rest) n a c i less = inr (map_among (Put n) (x ∷ rest) a i, (less, tt))

module _ (L : List Leg) (out : ℕ → Bool) (T : List ℕ → Type 0) (g : Links) (key : Leg → ℕ) (no : ℕ → ℕ) (one : IsOneWait L out) (plays : Plays L T) (drawn : Drawn L out g key no) where
  abbrev d : Web Name Wire
  d = web g out T

  abbrev fine : Lawful Name Wire d
  fine = lawful g out T

  abbrev In : (Name → List Wire) → Type 0
  In t = Held L out T g key no one plays drawn t

  abbrev Always : (Name → List Wire) → Type 0
  Always t = Unit {0}

  abbrev Serves : ℕ → (Name → List Wire) → Type 0
  Serves a t = Leads Name Wire d In Always (Give a) t

  abbrev ties : (t : Name → List Wire) (i : In t) → Ties L out key no (done i.tale.past) (λ b. times b i.tale.came) (sent d t) (got d t)
  ties t i = ties_of L out T g key no one plays drawn t i

  went_sent : (t : Name → List Wire) (w : Wire) (u : Name → List Wire) → Went Name Wire d t w u → Grew (sent d t) w (sent d u)
  went_sent t w u h = subst (λ x. Grew (sent d t) w x) (sym (fun_ext (sent_same Name Wire d fine h.0 w u h.2))) (sent_grew Name Wire d fine t w h.0 h.1)

  went_got : (t : Name → List Wire) (w : Wire) (u : Name → List Wire) → Went Name Wire d t w u → Grew (got d t) w (got d u)
  went_got t w u h = subst (λ x. Grew x w (got d u)) (fun_ext (got_same Name Wire d fine t w h.0 h.1)) (got_grew Name Wire d fine h.0 w u h.2)

  -- ---- from the end of the chain to its begin

  serve_give : (t : Name → List Wire) (a : ℕ) → out a ≡ true → sent d t (Give a) < given_by L out key no (got d t) a → Serves a t
  serve_give t a o less = ends (inr refl) (inr (refl, omega (arith, less, given_is L out T g key no one plays drawn t a o))) (λ u w h. tt)

  serve_put : (t : Name → List Wire) (m : Leg) (a : ℕ) → In t → Acts L out key no m → Has m a → sent d t (Put (no m.from) a) < got d t (Begin (no m.from)) → Serves a t
  serve_put t m a i j h less = pulls (Put (no m.from) a) (λ e. cc) (λ e. cc)
      (spread_may (g.outs (no m.from)) (no m.from) a (tally same_wire naught (t (Spread (no m.from)))) (drawn.put_out m a j h) less)
      (λ u w k.
      let o : out a ≡ true = act_has L out key no one m a j h in
      let s = went_sent t (Put (no m.from) a) u w in
      let p = went_got t (Put (no m.from) a) u w in
      let same : sent d u (Give a) ≡ sent d t (Give a) = grew_other (sent d t) (Put (no m.from) a) (sent d u) s (Give a) (λ e. cc) in
      let more : got d u (Put (no m.from) a) ≡ suc (got d t (Put (no m.from) a)) = grew_same (got d t) (Put (no m.from) a) (got d u) p (Put (no m.from) a) refl in
      let sum = sum_gap L (in_leg a) (λ n. got d t (Put (no n.from) a)) (λ n. got d u (Put (no n.from) a)) (λ n b x. grew_le (got d t) (Put (no m.from) a) (got d u) p (Put (no n.from) a)) m j.0 h in
      serve_give u a o (omega (arith, same, more, sum, i.lines.give a o)))

  abbrev Even : (Name → List Wire) → Type 0
  Even t = (v : Wire) → sent d t v ≡ got d t v

  went_even : (t : Name → List Wire) (w : Wire) (u : Name → List Wire) → Even t → Went Name Wire d t w u → Even u
  went_even t w u e h = grew_unique (got d t) w (sent d u) (got d u) (subst (λ x. Grew x w (sent d u)) (fun_ext e) (went_sent t w u h)) (went_got t w u h)

  no_call : (t : Name → List Wire) (m : Leg) → In t → Even t → Acts L out key no m → g.entries (no m.from) ≡ [] → got d t (Call (no m.from)) ≡ 0
  no_call t m i even j e =
      let none : sum_of (λ b. got d t (Burst b (no m.from))) (g.entries (no m.from)) ≡ 0 = ap (sum_of (λ b. got d t (Burst b (no m.from)))) e in
      omega (arith, even (Call (no m.from)), i.lines.call m j, drawn.entry_sum m j (λ b. got d t (Burst b (no m.from))), none)

  serve_begin : (t : Name → List Wire) (m : Leg) (a : ℕ) → In t → Acts L out key no m → Has m a → Even t
      → sent d t (Begin (no m.from)) < one_if m.from 1 + got d t (Call (no m.from)) → Serves a t
  serve_begin t m a i j h even less = pulls (Begin (no m.from)) (λ e. cc) (λ e. cc)
      (gate_may (g.entries (no m.from)) (g.begins (no m.from)) (no m.from) (tally same_wire naught (t (Gate (no m.from)))) (no_call t m i even j) (omega (arith, chain L out key no one (done i.tale.past) i.tale.here (λ b. times b i.tale.came) (sent d t) (got d t) (plays.stands i.story i.tale) (ties t i) (λ v. inl (even v)) i.lines i.front m a j h, drawn.starts m j)) (omega (arith, less, drawn.starts m j)))
      (λ u w k.
      let s = went_sent t (Begin (no m.from)) u w in
      let p = went_got t (Begin (no m.from)) u w in
      let same : sent d u (Put (no m.from) a) ≡ sent d t (Put (no m.from) a) = grew_other (sent d t) (Begin (no m.from)) (sent d u) s (Put (no m.from) a) (λ e. cc) in
      let more : got d u (Begin (no m.from)) ≡ suc (got d t (Begin (no m.from))) = grew_same (got d t) (Begin (no m.from)) (got d u) p (Begin (no m.from)) refl in
      serve_put u m a k j h (omega (arith, same, more, i.lines.put m a j h)))

  serve_call : (t : Name → List Wire) (m : Leg) (a : ℕ) → In t → Acts L out key no m → Has m a → Even t → sent d t (Call (no m.from)) < entered L out key no (got d t) m → Serves a t
  serve_call t m a i j h even less = pulls (Call (no m.from)) (λ e. cc) (λ e. cc)
      (inr (refl, omega (arith, less, entered_is L out T g key no one plays drawn t m j)))
      (λ u w k.
      let s = went_sent t (Call (no m.from)) u w in
      let p = went_got t (Call (no m.from)) u w in
      let same : sent d u (Begin (no m.from)) ≡ sent d t (Begin (no m.from)) = grew_other (sent d t) (Call (no m.from)) (sent d u) s (Begin (no m.from)) (λ e. cc) in
      let more : got d u (Call (no m.from)) ≡ suc (got d t (Call (no m.from))) = grew_same (got d t) (Call (no m.from)) (got d u) p (Call (no m.from)) refl in
      serve_begin u m a k j h (went_even t (Call (no m.from)) u even w) (omega (arith, same, more, i.lines.begin m j)))

  serve_burst : (t : Name → List Wire) (m l : Leg) (a : ℕ) → In t → Acts L out key no m → Has m a → Inputs L out key no l → m.from ≡ l.to → Even t
      → ((b : ℕ) → Has l b → sent d t (bur L out key no l) < got d t (Take b)) → Serves a t
  serve_burst t m l a i j h q to even less = pulls (bur L out key no l) (λ e. cc) (λ e. cc)
      (inr (
        map_among (Burst (key l)) (g.leads (key l)) (no l.to) (drawn.led l q),
        all_map_by (λ o. sent d t (bur L out key no l) < tally same_wire naught (t (Join (key l))) o) Take (g.symbols (key l)) (λ b x.
            let y : Has l b = drawn.of_burst l b q x in
            omega (arith, less b y, at_home L out T g key no one plays drawn t l b q y)),
      ))
      (λ u w k.
      let s = went_sent t (bur L out key no l) u w in
      let p = went_got t (bur L out key no l) u w in
      let same : sent d u (Call (no m.from)) ≡ sent d t (Call (no m.from)) = grew_other (sent d t) (bur L out key no l) (sent d u) s (Call (no m.from)) (λ e. cc) in
      let more : got d u (bur L out key no l) ≡ suc (got d t (bur L out key no l)) = grew_same (got d t) (bur L out key no l) (got d u) p (bur L out key no l) refl in
      let sum = sum_gap L (to_at m.from) (λ n. got d t (Burst (key n) (no m.from))) (λ n. got d u (Burst (key n) (no m.from))) (λ n b x. grew_le (got d t) (bur L out key no l) (got d u) p (Burst (key n) (no m.from)))
      l q.0 (eq-eqb m.from l.to to) in
      serve_call u m a k j h (went_even t (bur L out key no l) u even w) (omega (arith, same, more, sum, i.lines.call m j, ap (λ x. got d t (Burst (key l) (no x))) to, ap (λ x. got d u (Burst (key l) (no x))) to)))

  -- ---- which of them lags

  module _ (t : Name → List Wire) (i : In t) (even : (v : Wire) → sent d t v ≡ got d t v) where
    f : Flows (sent d t) (got d t)
    f v = inl (even v)

    -- the act from here is at most one ahead
    here_is : (m : Leg) → m.from ≡ i.tale.here → one_if m.from i.tale.here ≡ 1
    here_is m e = elim (one_at m.from i.tale.here) [ inl x ↦ x.1 | inr x ↦ absurd (x.0 e) ]

    serve_first : (m : Leg) (a : ℕ) → Acts L out key no m → Has m a → m.from ≡ i.tale.here → entered L out key no (got d t) m < sum_where L (to_at m.from) (done i.tale.past) → Serves a t
    serve_first m a j h from less =
        let (l, b, x, lags) = sum_some L (to_at m.from) (λ l. got d t (Burst (key l) (no m.from))) (done i.tale.past) less in
        let to : m.from ≡ l.to = eqb-true m.from l.to x in
        let q : Inputs L out key no l = (b, enters L out key no one m l j b (sym to)) in
        serve_burst t m l a i j h q to even (λ b y. omega (arith, lags, take_is L out key no one (done i.tale.past) i.tale.here (λ b. times b i.tale.came) (sent d t) (got d t) (plays.stands i.story i.tale) (ties t i) f i.lines i.front l b q y, even (Take b), even (bur L out key no l), ap (λ x. got d t (Burst (key l) (no x))) to))

    serve_lagging : (m : Leg) (a : ℕ) → Acts L out key no m → Has m a → m.from ≡ i.tale.here → times a i.tale.came ≡ 0 → Serves a t
    serve_lagging m a j h from none =
        let o : out a ≡ true = act_has L out key no one m a j h in
        let c = chain L out key no one (done i.tale.past) i.tale.here (λ b. times b i.tale.came) (sent d t) (got d t) (plays.stands i.story i.tale) (ties t i) f i.lines i.front m a j h in
        let k = given_chain L out key no one (done i.tale.past) i.tale.here (λ b. times b i.tale.came) (sent d t) (got d t) (plays.stands i.story i.tale) (ties t i) f i.lines i.front a o in
        elim (cases_lt (done i.tale.past m) (got d t (Put (no m.from) a))) [
          | inl less ↦ serve_give t a o (omega (
            arith,
            k,
            none,
            even (Give a),
            sum_gap L (in_leg a) (done i.tale.past) (λ n. got d t (Put (no n.from) a)) (λ n b x. i.front.told n a (acts_with L out key no one n a b o x) x) m j.0 h,
          ))
          | inr put ↦ elim (cases_lt (sent d t (Put (no m.from) a)) (got d t (Begin (no m.from)))) [
            | inl less ↦ serve_put t m a i j h less
            | inr begin ↦ elim (cases_lt (sent d t (Begin (no m.from))) (one_if m.from 1 + got d t (Call (no m.from)))) [
              | inl less ↦ serve_begin t m a i j h even less
              | inr call ↦ elim (cases_lt (sent d t (Call (no m.from))) (entered L out key no (got d t) m)) [
                | inl less ↦ serve_call t m a i j h even less
                | inr enter ↦ serve_first m a j h from (omega (arith, c, put, begin, call, enter, even (Put (no m.from) a), even (Begin (no m.from)), even (Call (no m.from)), here_is m from))
              ]
            ]
          ]
        ]

    leads : (q : Wire) → Rule g out T Env (t Env) q → Leads Name Wire d In Always q t
    leads (Take a) r = ends (inl refl) r (λ u w h. tt)
    leads (Burst b n) r = absurd r
    leads (Call n) r = absurd r
    leads (Begin n) r = absurd r
    leads (Put n a) r = absurd r
    leads (Give a) (o, r) =
        let n : Grows L i.story a i.tale = story_grows L out T g key no one plays drawn t f i a r in
        serve_lagging n.grown.leg a (acts_with L out key no one n.grown.leg a n.grown.among o n.grown.has) n.grown.has n.grown.from (fresh L out T g key no one plays drawn t f i a n)

  pub exact : WebExact d
  exact = web_exact Name Wire d (Real L out T g key no one plays drawn) In Always fine (tends L out T g key no one plays drawn) tt (λ t q i j e r. leads t i e q r)
