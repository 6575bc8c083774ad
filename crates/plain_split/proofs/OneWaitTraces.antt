-- The network of a process with one wait has no hazard: its web keeps the counts beside the story of the environment.
use Rattle.std.proofs.Common.{◌≡◌, ◌⊎◌, inl, inr, ℕ, suc, ◌+◌, ◌<◌, ◌≤◌, Bool, true, false, true≢false, List, [], ◌∷◌, ◌++◌, map, refl, sym, ap, ◌∙◌, subst, arith, if◌then◌else◌}
use Rattle.std.specs.List.{AllByRecursion}
use Rattle.std.proofs.Math.Path.{fun_ext}
use Rattle.std.proofs.lemmas.Bool.{cases_eq}
use Rattle.cmd_tree.specs.Meaning.{symbols}
use Rattle.cmd_tree.specs.Rounds.{grown, tally, naught}
use Rattle.place_graph.specs.declared.leg.Leg.{Leg}
use Rattle.place_graph.specs.Points.{Among as Member}
use Rattle.place_graph.specs.Graph.{is_act}
use Rattle.place_graph.specs.Tale.{one_if, times, Tale}
use Rattle.place_graph.specs.Chart.{Has, Increase, Stands, Plays, Grows, sum_where, to_at, in_leg, done}
use Rattle.place_graph.proofs.Sums.{later_places, times_from_in, one_same, one_other}
use Rattle.net_laws.proofs.Webs.{Web, WebSound}
use Rattle.net_laws.proofs.Told.{Lawful, sent, got, Flows, Longer, longer_at, longer_away, grown_cases, Tends, web_sound}
use Rattle.net_laws.proofs.Woven.{grew_le, sent_grew, got_grew, got_same, sent_same}
use Rattle.net_laws.proofs.Among.{Among, all_among}
use Rattle.net_laws.proofs.Rules.{RoundsOn}
use Rattle.plain_split.specs.OneWait.{Wire, Take, Burst, Call, Begin, Put, Give, Name, Env, Join, Calls, Gate, Spread, Shows, Links, same_wire, driver, receiver}
use Rattle.plain_split.proofs.OneWaitWeb.{wires_decide, sum_of, MergeOn, GateOn, SpreadOn, word, Rule, web, lawful}
use Rattle.plain_split.proofs.SharedTold.{told_taken, told_given}
use Rattle.plain_split.proofs.OneWaitCounts.{IsOneWait, some_symbol, Acts, Inputs, bur, entered, given_by, Lines, Front, Ties, Guard, lines_more, front_more, lines_fired, next_act, act_has, one_input, apart, take_free, take_lands, burst_free, burst_lands, call_free, call_lands, begin_free, begin_lands, put_free, put_lands, give_free, Shown, give_lands}

-- The links are those of the legs: `key l` is the burst of an input leg, and `no x` the number of the act at the point x.
pub record Drawn (L : List Leg) (out : ℕ → Bool) (g : Links) (key : Leg → ℕ) (no : ℕ → ℕ) : Type 0 where
  pub home : (l : Leg) (a : ℕ) → Inputs L out key no l → Has l a → g.home a ≡ key l
  pub one_no : (m n : Leg) → Acts L out key no m → Acts L out key no n → no m.from ≡ no n.from → m ≡ n
  pub starts : (m : Leg) → Acts L out key no m → (if g.begins (no m.from) then 1 else 0) ≡ one_if m.from 1
  pub start_act : (n : ℕ) → g.begins n ≡ true → (m : Leg) × Acts L out key no m × (no m.from ≡ n)
  pub in_burst : (l : Leg) (a : ℕ) → Inputs L out key no l → Has l a → Among a (g.symbols (key l))
  pub of_burst : (l : Leg) (a : ℕ) → Inputs L out key no l → Among a (g.symbols (key l)) → Has l a
  pub taken : (a : ℕ) → Among a (g.symbols (g.home a)) → (l : Leg) × Inputs L out key no l × Has l a
  pub led : (l : Leg) → Inputs L out key no l → Among (no l.to) (g.leads (key l))
  pub of_leads : (b n : ℕ) → Among n (g.leads b) → (l : Leg) × Inputs L out key no l × (key l ≡ b) × (no l.to ≡ n)
  pub entry : (l : Leg) → Inputs L out key no l → Among (key l) (g.entries (no l.to))
  pub of_entries : (b n : ℕ) → Among b (g.entries n) → (l : Leg) × Inputs L out key no l × (key l ≡ b) × (no l.to ≡ n)
  pub entry_sum : (m : Leg) → Acts L out key no m → (c : ℕ → ℕ) → sum_of c (g.entries (no m.from)) ≡ sum_where L (to_at m.from) (λ l. c (key l))
  pub put_out : (m : Leg) (a : ℕ) → Acts L out key no m → Has m a → Among a (g.outs (no m.from))
  pub of_outs : (n a : ℕ) → Among a (g.outs n) → (m : Leg) × Acts L out key no m × (no m.from ≡ n) × Has m a
  pub giver : (m : Leg) (a : ℕ) → Acts L out key no m → Has m a → Among (no m.from) (g.givers a)
  pub of_givers : (n a : ℕ) → Among n (g.givers a) → (m : Leg) × Acts L out key no m × (no m.from ≡ n) × Has m a
  pub given_sum : (a : ℕ) → out a ≡ true → (c : ℕ → ℕ) → sum_of c (g.givers a) ≡ sum_where L (in_leg a) (λ m. c (no m.from))

-- ---- lists

pub among_map : {A B : Type 0} (f : A → B) (xs : List A) (y : B) → Among y (map f xs) → (x : A) × Among x xs × (y ≡ f x)
among_map f [] y h = absurd h
among_map f (x ∷ xs) y (inl e) = (x, inl refl, e)
among_map f (x ∷ xs) y (inr h) = let (z, a, e) = among_map f xs y h in (z, inr a, e)

pub map_among : {A B : Type 0} (f : A → B) (xs : List A) (x : A) → Among x xs → Among (f x) (map f xs)
map_among f [] x h = absurd h
map_among f (y ∷ xs) x (inl e) = inl (ap f e)
map_among f (y ∷ xs) x (inr h) = inr (map_among f xs x h)

pub all_map_by : {A B : Type 0} (P : B → Type 0) (f : A → B) (xs : List A) → ((x : A) → Among x xs → P (f x)) → AllByRecursion P (map f xs)
all_map_by P f [] h = tt
all_map_by P f (x ∷ xs) h = (h x (inl refl), all_map_by P f xs (λ y a. h y (inr a)))

pub sum_of_map : {A B : Type 0} (c : B → ℕ) (f : A → B) (xs : List A) → sum_of c (map f xs) ≡ sum_of (λ x. c (f x)) xs
sum_of_map c f [] = refl
sum_of_map c f (x ∷ xs) = omega (arith, sum_of_map c f xs)

pub sum_of_some : {A : Type 0} (c : A → ℕ) (xs : List A) → 0 < sum_of c xs → (x : A) × Among x xs
sum_of_some c [] h = absurd (omega arith)
sum_of_some c (x ∷ xs) h = (x, inl refl)

pub gate_begin : (bs : List ℕ) (b : Bool) (n : ℕ) (c : Wire → ℕ) → GateOn bs b n c (Begin n) → c (Begin n) < (if b then 1 else 0) + c (Call n)
gate_begin [] false n c r = absurd r
gate_begin [] true n c r = omega (arith, r.1)
gate_begin (x ∷ bs) false n c (inl (inl e, all)) = absurd (cc)
gate_begin (x ∷ bs) false n c (inl (inr e, all)) = absurd e
gate_begin (x ∷ bs) false n c (inr (a, all)) = omega (arith, all.0)
gate_begin (x ∷ bs) true n c (inl (e, same)) = omega (arith, same)
gate_begin (x ∷ bs) true n c (inr (e, less)) = absurd (cc)

pub gate_call : (bs : List ℕ) (b : Bool) (n : ℕ) (c : Wire → ℕ) (x : ℕ) → Among x bs → (if b then 1 else 0) + c (Call n) ≡ c (Begin n) → GateOn bs b n c (Call n)
gate_call [] b n c x a e = absurd a
gate_call (y ∷ bs) false n c x a e = inl (inl refl, (omega (arith, e), tt))
gate_call (y ∷ bs) true n c x a e = inr (refl, omega (arith, e))

pub gate_some : (bs : List ℕ) (b : Bool) (n : ℕ) (c : Wire → ℕ) (w : Wire) → GateOn bs b n c w → ((x : ℕ) × Among x bs) ⊎ (b ≡ true)
gate_some [] false n c w r = absurd r
gate_some [] true n c w r = inr refl
gate_some (x ∷ bs) b n c w r = inl (x, inl refl)

pub spread_put : (rest : List ℕ) (n a : ℕ) (c : Wire → ℕ) → SpreadOn rest n c (Put n a) → Among a rest × (c (Put n a) < c (Begin n))
spread_put [] n a c r = absurd r
spread_put (x ∷ rest) n a c (inl (inl e, all)) = absurd (cc)
spread_put (x ∷ rest) n a c (inl (inr e, all)) = absurd e
spread_put (x ∷ rest) n a c (inr (i, all)) =
    let (y, j, e) = among_map (Put n) (x ∷ rest) (Put n a) i in
    let z : a ≡ y = cc in
    (subst (λ b. Among b (x ∷ rest)) (sym z) j, all.0)

pub spread_begin : (rest : List ℕ) (n : ℕ) (c : Wire → ℕ) (x : ℕ) → Among x rest → ((a : ℕ) → Among a rest → c (Begin n) ≡ c (Put n a)) → SpreadOn rest n c (Begin n)
spread_begin [] n c x i h = absurd i
spread_begin (y ∷ rest) n c x i h = inl (inl refl, all_map_by (λ o. c (Begin n) ≡ c o) (Put n) (y ∷ rest) h)

-- ---- the word of the environment

module _ (out : ℕ → Bool) where
  more_taken : (x : Bool) (b : ℕ) (u v w : List ℕ) → u ≡ v ++ w → (if x then u else b ∷ u) ≡ (if x then v else b ∷ v) ++ w
  more_taken true b u v w e = e
  more_taken false b u v w e = ap (λ z. b ∷ z) e

  more_given : (x : Bool) (b : ℕ) (u v w : List ℕ) → u ≡ v ++ w → (if x then b ∷ u else u) ≡ (if x then b ∷ v else v) ++ w
  more_given true b u v w e = ap (λ z. b ∷ z) e
  more_given false b u v w e = e

  word_end : (v : List Wire) (w : Wire) → word out (v ++ w ∷ []) ≡ word out v ++ word out (w ∷ [])
  word_end [] w = refl
  word_end (Take b ∷ v) w = more_taken (out b) b (word out (v ++ w ∷ [])) (word out v) (word out (w ∷ [])) (word_end v w)
  word_end (Burst b n ∷ v) w = word_end v w
  word_end (Call n ∷ v) w = word_end v w
  word_end (Begin n ∷ v) w = word_end v w
  word_end (Put n a ∷ v) w = word_end v w
  word_end (Give b ∷ v) w = more_given (out b) b (word out (v ++ w ∷ [])) (word out v) (word out (w ∷ [])) (word_end v w)

  pub take_end : (v : List Wire) (a : ℕ) → out a ≡ false → word out (v ++ Take a ∷ []) ≡ word out v ++ a ∷ []
  take_end v a e = word_end v (Take a) ∙ ap (λ x. word out v ++ (if x then [] else a ∷ [])) e

  pub give_end : (v : List Wire) (a : ℕ) → out a ≡ true → word out (v ++ Give a ∷ []) ≡ word out v ++ a ∷ []
  give_end v a e = word_end v (Give a) ∙ ap (λ x. word out v ++ (if x then a ∷ [] else [])) e

  still_taken : (c : Wire → ℕ) (w : Wire) (a : ℕ) → (Take a ≡ w → ⊥) → grown same_wire c w (Take a) ≡ c (Take a)
  still_taken c w a h = elim (grown_cases same_wire wires_decide c w (Take a)) [ inl e ↦ absurd (h e.0) | inr e ↦ e.1 ]

  still_given : (c : Wire → ℕ) (w : Wire) (a : ℕ) → (Give a ≡ w → ⊥) → grown same_wire c w (Give a) ≡ c (Give a)
  still_given c w a h = elim (grown_cases same_wire wires_decide c w (Give a)) [ inl e ↦ absurd (h e.0) | inr e ↦ e.1 ]

  pub word_takes : (c : Wire → ℕ) (v : List Wire) (a : ℕ) → out a ≡ false → tally same_wire c v (Take a) ≡ c (Take a) + times a (word out v)
  word_takes c [] a o = omega arith
  word_takes c (Take b ∷ v) a o = word_takes (grown same_wire c (Take b)) v a o ∙ at (out b) refl (grown_cases same_wire wires_decide c (Take b) (Take a))
    where
      at : (x : Bool) → out b ≡ x → ((Take a ≡ Take b) × (grown same_wire c (Take b) (Take a) ≡ suc (c (Take a)))) ⊎ ((Take a ≡ Take b → ⊥) × (grown same_wire c (Take b) (Take a) ≡ c (Take a)))
          → grown same_wire c (Take b) (Take a) + times a (word out v) ≡ c (Take a) + times a (if x then word out v else b ∷ word out v)
      at true e (inl (p, q)) = let z : a ≡ b = cc in absurd (true≢false (sym e ∙ ap out (sym z) ∙ o))
      at true e (inr (p, q)) = omega (arith, q)
      at false e (inl (p, q)) = let z : a ≡ b = cc in omega (arith, q, one_same a b z)
      at false e (inr (p, q)) = let z : a ≡ b → ⊥ = λ s. p (ap Take s) in omega (arith, q, one_other a b z)
  word_takes c (Burst b n ∷ v) a o = omega (arith, word_takes (grown same_wire c (Burst b n)) v a o, still_taken c (Burst b n) a (λ e. cc))
  word_takes c (Call n ∷ v) a o = omega (arith, word_takes (grown same_wire c (Call n)) v a o, still_taken c (Call n) a (λ e. cc))
  word_takes c (Begin n ∷ v) a o = omega (arith, word_takes (grown same_wire c (Begin n)) v a o, still_taken c (Begin n) a (λ e. cc))
  word_takes c (Put n b ∷ v) a o = omega (arith, word_takes (grown same_wire c (Put n b)) v a o, still_taken c (Put n b) a (λ e. cc))
  word_takes c (Give b ∷ v) a o = word_takes (grown same_wire c (Give b)) v a o ∙ at (out b) refl
    where
      at : (x : Bool) → out b ≡ x → grown same_wire c (Give b) (Take a) + times a (word out v) ≡ c (Take a) + times a (if x then b ∷ word out v else word out v)
      at true e = let z : a ≡ b → ⊥ = λ s. true≢false (sym e ∙ ap out (sym s) ∙ o) in
          omega (arith, still_taken c (Give b) a (λ e. cc), one_other a b z)
      at false e = omega (arith, still_taken c (Give b) a (λ e. cc))

  pub word_gives : (c : Wire → ℕ) (v : List Wire) (a : ℕ) → out a ≡ true → tally same_wire c v (Give a) ≡ c (Give a) + times a (word out v)
  word_gives c [] a o = omega arith
  word_gives c (Give b ∷ v) a o = word_gives (grown same_wire c (Give b)) v a o ∙ at (out b) refl (grown_cases same_wire wires_decide c (Give b) (Give a))
    where
      at : (x : Bool) → out b ≡ x → ((Give a ≡ Give b) × (grown same_wire c (Give b) (Give a) ≡ suc (c (Give a)))) ⊎ ((Give a ≡ Give b → ⊥) × (grown same_wire c (Give b) (Give a) ≡ c (Give a)))
          → grown same_wire c (Give b) (Give a) + times a (word out v) ≡ c (Give a) + times a (if x then b ∷ word out v else word out v)
      at false e (inl (p, q)) = let z : a ≡ b = cc in absurd (true≢false (sym o ∙ ap out z ∙ e))
      at false e (inr (p, q)) = omega (arith, q)
      at true e (inl (p, q)) = let z : a ≡ b = cc in omega (arith, q, one_same a b z)
      at true e (inr (p, q)) = let z : a ≡ b → ⊥ = λ s. p (ap Give s) in omega (arith, q, one_other a b z)
  word_gives c (Burst b n ∷ v) a o = omega (arith, word_gives (grown same_wire c (Burst b n)) v a o, still_given c (Burst b n) a (λ e. cc))
  word_gives c (Call n ∷ v) a o = omega (arith, word_gives (grown same_wire c (Call n)) v a o, still_given c (Call n) a (λ e. cc))
  word_gives c (Begin n ∷ v) a o = omega (arith, word_gives (grown same_wire c (Begin n)) v a o, still_given c (Begin n) a (λ e. cc))
  word_gives c (Put n b ∷ v) a o = omega (arith, word_gives (grown same_wire c (Put n b)) v a o, still_given c (Put n b) a (λ e. cc))
  word_gives c (Take b ∷ v) a o = word_gives (grown same_wire c (Take b)) v a o ∙ at (out b) refl
    where
      at : (x : Bool) → out b ≡ x → grown same_wire c (Take b) (Give a) + times a (word out v) ≡ c (Give a) + times a (if x then word out v else b ∷ word out v)
      at false e = let z : a ≡ b → ⊥ = λ s. true≢false (sym o ∙ ap out s ∙ e) in
          omega (arith, still_given c (Take b) a (λ e. cc), one_other a b z)
      at true e = omega (arith, still_given c (Take b) a (λ e. cc))

module _ (L : List Leg) (out : ℕ → Bool) (T : List ℕ → Type 0) (g : Links) (key : Leg → ℕ) (no : ℕ → ℕ) (one : IsOneWait L out) (plays : Plays L T) (drawn : Drawn L out g key no) where
  abbrev pub Act : Leg → Type 0
  Act m = Acts L out key no m

  abbrev pub Input : Leg → Type 0
  Input l = Inputs L out key no l

  abbrev pub net : Web Name Wire
  net = web g out T

  abbrev pub fine : Lawful Name Wire net
  fine = lawful g out T

  -- ---- wires that are there

  abbrev pub Real : Wire → Type 0
  Real (Take a) = (l : Leg) × Input l × Has l a
  Real (Burst b n) = (l : Leg) × Input l × (key l ≡ b) × (no l.to ≡ n)
  Real (Call n) = (l : Leg) × Input l × (no l.to ≡ n)
  Real (Begin n) = (m : Leg) × Act m × (no m.from ≡ n)
  Real (Put n a) = (m : Leg) × Act m × (no m.from ≡ n) × Has m a
  Real (Give a) = (m : Leg) × Act m × Has m a

  pub one_key : (l m : Leg) → Input l → Input m → key l ≡ key m → m ≡ l
  one_key l m i j e =
      let (a, h) = some_symbol m (one.chart.some m j.0) in
      let k : Has l a = drawn.of_burst l a i (subst (λ b. Among a (g.symbols b)) (sym e) (drawn.in_burst m a j h)) in
      one_input L out key no one l m a i j.0 k h

  -- ---- a wire that its driver may fire is there

  pub real_burst : (b n : ℕ) (c : Wire → ℕ) → RoundsOn (map Take (g.symbols b)) (map (Burst b) (g.leads b)) c (Burst b n) → Real (Burst b n)
  real_burst b n c (inl (x, all)) = let (y, i, e) = among_map Take (g.symbols b) (Burst b n) x in absurd (cc)
  real_burst b n c (inr (x, all)) =
      let (y, i, e) = among_map (Burst b) (g.leads b) (Burst b n) x in
      let z : y ≡ n = cc in
      drawn.of_leads b n (subst (λ y. Among y (g.leads b)) z i)

  pub real_call : (n : ℕ) (c : Wire → ℕ) → MergeOn (map (λ b. Burst b n) (g.entries n)) (Call n) c (Call n) → Real (Call n)
  real_call n c (inl (x, e)) = let (y, i, e) = among_map (λ b. Burst b n) (g.entries n) (Call n) x in absurd (cc)
  real_call n c (inr (x, less)) =
      let (w, a) = sum_of_some c (map (λ b. Burst b n) (g.entries n)) (omega (arith, less)) in
      let (b, i, e) = among_map (λ b. Burst b n) (g.entries n) w a in
      let (l, j, k, to) = drawn.of_entries b n i in
      (l, j, to)

  pub real_begin : (n : ℕ) (c : Wire → ℕ) (w : Wire) → GateOn (g.entries n) (g.begins n) n c w → Real (Begin n)
  real_begin n c w r = elim (gate_some (g.entries n) (g.begins n) n c w r) [
    | inl (x, a) ↦
        let (l, j, k, to) = drawn.of_entries x n a in
        let (m, i, e) = next_act L out key no one l j in
        (m, i, ap no e ∙ to)
    | inr e ↦ drawn.start_act n e
  ]

  pub real_put : (n a : ℕ) (c : Wire → ℕ) → SpreadOn (g.outs n) n c (Put n a) → Real (Put n a)
  real_put n a c r = drawn.of_outs n a (spread_put (g.outs n) n a c r).0

  pub real_give : (a : ℕ) (c : Wire → ℕ) → MergeOn (map (λ n. Put n a) (g.givers a)) (Give a) c (Give a) → Real (Give a)
  real_give a c (inl (x, e)) = let (y, i, e) = among_map (λ n. Put n a) (g.givers a) (Give a) x in absurd (cc)
  real_give a c (inr (x, less)) =
      let (w, i) = sum_of_some c (map (λ n. Put n a) (g.givers a)) (omega (arith, less)) in
      let (n, j, e) = among_map (λ n. Put n a) (g.givers a) w i in
      let (m, k, z, h) = drawn.of_givers n a j in
      (m, k, h)

  -- ---- what holds after each run

  pub record Held (t : Name → List Wire) : Type 0 where
    pub story : List ℕ
    pub tale : Tale L story
    pub is : word out (t Env) ≡ story
    pub lines : Lines L out key no (sent net t) (got net t)
    pub front : Front L out key no (done tale.past) tale.here (λ a. times a tale.came) (got net t)

  pub ties_of : (t : Name → List Wire) (i : Held t) → Ties L out key no (done i.tale.past) (λ a. times a i.tale.came) (sent net t) (got net t)
  ties_of t i = record {
    took = λ a o. omega (arith, word_takes out naught (t Env) a o, ap (times a) i.is, plays.sums i.story i.tale a);
    gave = λ a o. omega (arith, word_gives out naught (t Env) a o, ap (times a) i.is, plays.sums i.story i.tale a);
  }

  abbrev Sends : (Name → List Wire) → Wire → Type 0
  Sends t w = Real w × (sent net t w ≡ got net t w) × ((u : Name → List Wire) → Longer Name Wire t (driver w) w u → Held u)

  abbrev Allowed : (Name → List Wire) → Wire → Type 0
  Allowed t w = Rule g out T (driver w) (t (driver w)) w

  abbrev Lands : (Name → List Wire) → Wire → Type 0
  Lands t w = Rule g out T (receiver g w) (t (receiver g w)) w

  pub inner_sent : (t : Name → List Wire) (w : Wire) (u : Name → List Wire) → Held t → (Env ≡ driver w → ⊥) → Guard L out key no (sent net t) (got net t) w
      → Longer Name Wire t (driver w) w u → Held u
  inner_sent t w u i away k h = record {
    story = i.story;
    tale = i.tale;
    is = ap (word out) (longer_away t (driver w) w u h Env away) ∙ i.is;
    lines = lines_more L out key no (sent net u) (got net t) (got net u)
        (lines_fired L out key no (sent net t) (got net t) w (sent net u) i.lines k (sent_grew Name Wire net fine t w u h)) (λ v. omega (arith, got_same Name Wire net fine t w u h v));
    front = front_more L out key no (done i.tale.past) i.tale.here (λ a. times a i.tale.came) (got net t) (got net u) i.front
        (λ v. omega (arith, got_same Name Wire net fine t w u h v));
  }

  pub inner_landed : (t : Name → List Wire) (w : Wire) (u : Name → List Wire) → Held t → (Env ≡ receiver g w → ⊥) → Longer Name Wire t (receiver g w) w u → Held u
  inner_landed t w u i away h = record {
    story = i.story;
    tale = i.tale;
    is = ap (word out) (longer_away t (receiver g w) w u h Env away) ∙ i.is;
    lines = landed_lines t w u i h;
    front = front_more L out key no (done i.tale.past) i.tale.here (λ a. times a i.tale.came) (got net t) (got net u) i.front
        (grew_le (got net t) w (got net u) (got_grew Name Wire net fine t w u h));
  }
    where
      landed_lines : (t : Name → List Wire) (w : Wire) (u : Name → List Wire) → Held t → Longer Name Wire t (receiver g w) w u → Lines L out key no (sent net u) (got net u)
      landed_lines t w u i h = subst (λ F. Lines L out key no F (got net u)) (sym (fun_ext (sent_same Name Wire net fine t w u h)))
          (lines_more L out key no (sent net t) (got net t) (got net u) i.lines (grew_le (got net t) w (got net u) (got_grew Name Wire net fine t w u h)))

  module _ (t : Name → List Wire) where
    -- ---- the counts of a MERGE

    pub entered_is : (m : Leg) → Act m → sum_of (tally same_wire naught (t (Calls (no m.from)))) (map (λ b. Burst b (no m.from)) (g.entries (no m.from))) ≡ entered L out key no (got net t) m
    entered_is m j =
        sum_of_map (tally same_wire naught (t (Calls (no m.from)))) (λ b. Burst b (no m.from)) (g.entries (no m.from))
        ∙ drawn.entry_sum m j (λ b. got net t (Burst b (no m.from)))

    pub given_is : (a : ℕ) → out a ≡ true → sum_of (tally same_wire naught (t (Shows a))) (map (λ n. Put n a) (g.givers a)) ≡ given_by L out key no (got net t) a
    given_is a o = sum_of_map (tally same_wire naught (t (Shows a))) (λ n. Put n a) (g.givers a) ∙ drawn.given_sum a o (λ n. got net t (Put n a))

    -- the count of a symbol at the C of its burst
    pub at_home : (l : Leg) (a : ℕ) → Input l → Has l a → tally same_wire naught (t (Join (key l))) (Take a) ≡ got net t (Take a)
    at_home l a j h = ap (λ b. tally same_wire naught (t (Join b)) (Take a)) (sym (drawn.home l a j h))

  module _ (t : Name → List Wire) (f : Flows (sent net t) (got net t)) (i : Held t) where
    abbrev F : Wire → ℕ
    F = sent net t

    abbrev P : Wire → ℕ
    P = got net t

    abbrev D : Leg → ℕ
    D = done i.tale.past

    abbrev here : ℕ
    here = i.tale.here

    abbrev came : ℕ → ℕ
    came = λ a. times a i.tale.came

    abbrev st : Stands L D here came
    st = plays.stands i.story i.tale

    abbrev ties : Ties L out key no D came F P
    ties = ties_of t i

    -- ---- firing

    pub burst_ready : (l : Leg) → Input l → Allowed t (bur L out key no l) → (a : ℕ) → Has l a → F (bur L out key no l) < P (Take a)
    burst_ready l j (inl (x, all)) a h = let (y, b, e) = among_map Take (g.symbols (key l)) (bur L out key no l) x in absurd (cc)
    burst_ready l j (inr (x, all)) a h =
        let less : F (bur L out key no l) < tally same_wire naught (t (Join (key l))) (Take a)
        = all_among (λ o. F (bur L out key no l) < tally same_wire naught (t (Join (key l))) o) (map Take (g.symbols (key l))) all (Take a) (map_among Take (g.symbols (key l)) a (drawn.in_burst l a j h)) in
        omega (arith, less, at_home t l a j h)

    send_burst : (l : Leg) → Input l → Allowed t (bur L out key no l) → Sends t (bur L out key no l)
    send_burst l j r = (
      (l, j, refl, refl),
      burst_free L out key no one D here came F P st ties f i.lines i.front l j (burst_ready l j r),
      λ u h. inner_sent t (bur L out key no l) u i (λ e. cc) (record {
        burst = λ m a k x e. let same : m ≡ l = one_key l m j k (let z : key m ≡ key l = cc in sym z) in
            subst (λ m. Has m a → F (bur L out key no m) < P (Take a)) (sym same) (burst_ready l j r a) x;
        call = λ m k e. absurd (cc);
        begin = λ m k e. absurd (cc);
        put = λ m a k x e. absurd (cc);
        give = λ a o e. absurd (cc);
      }) h,
    )

    call_ready : (m : Leg) → Act m → Allowed t (Call (no m.from)) → F (Call (no m.from)) < entered L out key no P m
    call_ready m j (inl (x, all)) = let (y, b, e) = among_map (λ b. Burst b (no m.from)) (g.entries (no m.from)) (Call (no m.from)) x in absurd (cc)
    call_ready m j (inr (x, less)) = omega (arith, less, entered_is t m j)

    send_call : (m l : Leg) → Act m → Input l → no l.to ≡ no m.from → Allowed t (Call (no m.from)) → Sends t (Call (no m.from))
    send_call m l j k to r = (
      (l, k, to),
      call_free L out key no one D here came F P st ties f i.lines i.front m j (call_ready m j r),
      λ u h. inner_sent t (Call (no m.from)) u i (λ e. cc) (record {
        burst = λ m a k x e. absurd (cc);
        call = λ n k e. let same : n ≡ m = drawn.one_no n m k j (cc) in
            subst (λ n. F (Call (no n.from)) < entered L out key no P n) (sym same) (call_ready m j r);
        begin = λ m k e. absurd (cc);
        put = λ m a k x e. absurd (cc);
        give = λ a o e. absurd (cc);
      }) h,
    )

    begin_ready : (m : Leg) → Act m → Allowed t (Begin (no m.from)) → F (Begin (no m.from)) < one_if m.from 1 + P (Call (no m.from))
    begin_ready m j r = omega (arith, gate_begin (g.entries (no m.from)) (g.begins (no m.from)) (no m.from) (tally same_wire naught (t (Gate (no m.from)))) r, drawn.starts m j)

    send_begin : (m : Leg) → Act m → Allowed t (Begin (no m.from)) → Sends t (Begin (no m.from))
    send_begin m j r = (
      (m, j, refl),
      begin_free L out key no one D here came F P st ties f i.lines i.front m j (begin_ready m j r),
      λ u h. inner_sent t (Begin (no m.from)) u i (λ e. cc) (record {
        burst = λ m a k x e. absurd (cc);
        call = λ m k e. absurd (cc);
        begin = λ n k e. let same : n ≡ m = drawn.one_no n m k j (cc) in
            subst (λ n. F (Begin (no n.from)) < one_if n.from 1 + P (Call (no n.from))) (sym same) (begin_ready m j r);
        put = λ m a k x e. absurd (cc);
        give = λ a o e. absurd (cc);
      }) h,
    )

    put_ready : (m : Leg) (a : ℕ) → Act m → Allowed t (Put (no m.from) a) → F (Put (no m.from) a) < P (Begin (no m.from))
    put_ready m a j r = (spread_put (g.outs (no m.from)) (no m.from) a (tally same_wire naught (t (Spread (no m.from)))) r).1

    send_put : (m : Leg) (a : ℕ) → Act m → Has m a → Allowed t (Put (no m.from) a) → Sends t (Put (no m.from) a)
    send_put m a j has r = (
      (m, j, refl, has),
      put_free L out key no one D here came F P st ties f i.lines i.front m a j has (put_ready m a j r),
      λ u h. inner_sent t (Put (no m.from) a) u i (λ e. cc) (record {
        burst = λ m a k x e. absurd (cc);
        call = λ m k e. absurd (cc);
        begin = λ m k e. absurd (cc);
        put = λ n b k x e. let same : n ≡ m = drawn.one_no n m k j (cc) in let z : b ≡ a = cc in
            omega (arith, put_ready m a j r, ap (λ (y : Leg). F (Put (no y.from) b)) same, ap (λ y. F (Put (no m.from) y)) z, ap (λ (y : Leg). P (Begin (no y.from))) same);
        give = λ a o e. absurd (cc);
      }) h,
    )

    give_ready : (a : ℕ) → out a ≡ true → Allowed t (Give a) → F (Give a) < given_by L out key no P a
    give_ready a o (inl (x, all)) = let (y, b, e) = among_map (λ n. Put n a) (g.givers a) (Give a) x in absurd (cc)
    give_ready a o (inr (x, less)) = omega (arith, less, given_is t a o)

    send_give : (m : Leg) (a : ℕ) → Act m → Has m a → Allowed t (Give a) → Sends t (Give a)
    send_give m a j has r =
        let o : out a ≡ true = act_has L out key no one m a j has in (
          (m, j, has),
          give_free L out key no one D here came F P st ties f i.lines i.front a o (give_ready a o r),
          λ u h. inner_sent t (Give a) u i (λ e. cc) (record {
            burst = λ m a k x e. absurd (cc);
            call = λ m k e. absurd (cc);
            begin = λ m k e. absurd (cc);
            put = λ m a k x e. absurd (cc);
            give = λ b p e. let z : b ≡ a = cc in omega (arith, give_ready a o r, ap (λ y. F (Give y)) z, ap (λ y. given_by L out key no P y) z);
          }) h,
        )

    -- ---- handing over

    land_take : (l : Leg) (a : ℕ) → Input l → Has l a → F (Take a) ≡ suc (P (Take a)) → Lands t (Take a)
    land_take l a j h x = subst (λ b. Rule g out T (Join b) (t (Join b)) (Take a)) (sym (drawn.home l a j h))
        (inl (
          map_among Take (g.symbols (key l)) a (drawn.in_burst l a j h),
          all_map_by (λ o. tally same_wire naught (t (Join (key l))) (Take a) ≡ tally same_wire naught (t (Join (key l))) o) (Burst (key l)) (g.leads (key l)) (λ n b.
              let (m, k, e, to) = drawn.of_leads (key l) n b in
              let same : m ≡ l = one_key l m j k (sym e) in
              let z : no l.to ≡ n = ap (λ (y : Leg). no y.to) (sym same) ∙ to in
              at_home t l a j h ∙ take_lands L out key no one D here came F P st ties f i.lines i.front l a j h x ∙ ap (λ y. tally same_wire naught (t (Join (key l))) (Burst (key l) y)) z),
        ))

    land_burst : (l : Leg) → Input l → F (bur L out key no l) ≡ suc (P (bur L out key no l)) → Lands t (bur L out key no l)
    land_burst l j x =
        let (m, k, to) = next_act L out key no one l j in
        let sum : (n : ℕ) → no m.from ≡ n → sum_of (tally same_wire naught (t (Calls n))) (map (λ b. Burst b n) (g.entries n)) ≡ tally same_wire naught (t (Calls n)) (Call n)
        = λ n e. subst (λ n. sum_of (tally same_wire naught (t (Calls n))) (map (λ b. Burst b n) (g.entries n)) ≡ tally same_wire naught (t (Calls n)) (Call n)) e
        (entered_is t m k ∙ burst_lands L out key no one D here came F P st ties f i.lines i.front l m j k to x) in
        inl (map_among (λ b. Burst b (no l.to)) (g.entries (no l.to)) (key l) (drawn.entry l j), sum (no l.to) (ap no to))

    land_call : (m l : Leg) → Act m → Input l → no l.to ≡ no m.from → F (Call (no m.from)) ≡ suc (P (Call (no m.from))) → Lands t (Call (no m.from))
    land_call m l j k to x = gate_call (g.entries (no m.from)) (g.begins (no m.from)) (no m.from) (tally same_wire naught (t (Gate (no m.from)))) (key l)
        (subst (λ n. Among (key l) (g.entries n)) to (drawn.entry l k)) (omega (arith, call_lands L out key no one D here came F P st ties f i.lines i.front m j x, drawn.starts m j))

    land_begin : (m : Leg) → Act m → F (Begin (no m.from)) ≡ suc (P (Begin (no m.from))) → Lands t (Begin (no m.from))
    land_begin m j x =
        let (a, h) = some_symbol m (one.chart.some m j.0) in
        spread_begin (g.outs (no m.from)) (no m.from) (tally same_wire naught (t (Spread (no m.from)))) a (drawn.put_out m a j h) (λ b y.
        let (n, k, e, has) = drawn.of_outs (no m.from) b y in
        let same : n ≡ m = drawn.one_no n m k j e in
        begin_lands L out key no one D here came F P st ties f i.lines i.front m b j (subst (λ z. Has z b) same has) x)

    land_put : (m : Leg) (a : ℕ) → Act m → Has m a → F (Put (no m.from) a) ≡ suc (P (Put (no m.from) a)) → Lands t (Put (no m.from) a)
    land_put m a j h x =
        let o : out a ≡ true = act_has L out key no one m a j h in
        inl (map_among (λ n. Put n a) (g.givers a) (no m.from) (drawn.giver m a j h), given_is t a o ∙ put_lands L out key no one D here came F P st ties f i.lines i.front m a j h x)

    -- ---- the environment

    -- a symbol that the environment takes part in is the next of the story
    pub story_grows : (a : ℕ) → T (word out (t Env) ++ a ∷ []) → Grows L i.story a i.tale
    story_grows a r = plays.grows i.story a i.tale (subst (λ u. T (u ++ a ∷ [])) i.is r)

    pub fresh : (a : ℕ) (n : Grows L i.story a i.tale) → came a ≡ 0
    fresh a n = omega (arith, n.grown.within a, one.chart.few n.grown.leg a n.grown.among, one_same a a refl)

    send_take : (a : ℕ) → Allowed t (Take a) → Sends t (Take a)
    send_take a (o, r) =
        let n : Grows L i.story a i.tale = story_grows a r in
        let l : Leg = n.grown.leg in
        let j : Input l = (n.grown.among, sym (one.chart.dirs l a n.grown.among n.grown.has) ∙ o) in (
          (l, j, n.grown.has),
          take_free L out key no one D here came F P st ties f i.lines i.front l a j n.grown.has n.grown.from (fresh a n),
          λ u h. record {
            story = i.story ++ a ∷ [];
            tale = n.next;
            is = ap (word out) (longer_at t Env (Take a) u h Env refl) ∙ take_end out (t Env) a o ∙ ap (λ v. v ++ a ∷ []) i.is;
            lines = lines_more L out key no (sent net u) P (got net u)
                (lines_fired L out key no F P (Take a) (sent net u) i.lines (record {
                  burst = λ m a k x e. absurd (cc);
                  call = λ m k e. absurd (cc);
                  begin = λ m k e. absurd (cc);
                  put = λ m a k x e. absurd (cc);
                  give = λ a o e. absurd (cc);
                }) (sent_grew Name Wire net fine t (Take a) u h)) (λ v. omega (arith, got_same Name Wire net fine t (Take a) u h v));
            front = told_taken L out one.chart i.story i.tale a n (λ m b. P (Put (no m.from) b)) (λ m b. got net u (Put (no m.from) b)) i.front (λ m b. omega (arith, got_same Name Wire net fine t (Take a) u h (Put (no m.from) b))) o;
          },
        )

    land_give : (m : Leg) (a : ℕ) → Act m → Has m a → F (Give a) ≡ suc (P (Give a)) → Lands t (Give a) × ((u : Name → List Wire) → Longer Name Wire t Env (Give a) u → Held u)
    land_give m a j h x =
        let o : out a ≡ true = act_has L out key no one m a j h in
        let s : Shown L out key no one D here came F P st ties f i.lines i.front a = give_lands L out key no one D here came F P st ties f i.lines i.front a o x in
        let r : T (i.story ++ a ∷ []) = plays.shows i.story a i.tale s.act s.acts.0 s.from s.acts.1 s.has s.none in
        let n : Grows L i.story a i.tale = plays.grows i.story a i.tale r in (
          (o, subst (λ v. T (v ++ a ∷ [])) (sym i.is) r),
          λ u l. record {
            story = i.story ++ a ∷ [];
            tale = n.next;
            is = ap (word out) (longer_at t Env (Give a) u l Env refl) ∙ give_end out (t Env) a o ∙ ap (λ v. v ++ a ∷ []) i.is;
            lines = subst (λ F. Lines L out key no F (got net u)) (sym (fun_ext (sent_same Name Wire net fine t (Give a) u l)))
                (lines_more L out key no F P (got net u) i.lines (grew_le P (Give a) (got net u) (got_grew Name Wire net fine t (Give a) u l)));
            front = told_given L out one.chart i.story i.tale a n (λ m b. P (Put (no m.from) b)) (λ m b. got net u (Put (no m.from) b)) i.front (λ m b. grew_le P (Give a) (got net u) (got_grew Name Wire net fine t (Give a) u l) (Put (no m.from) b)) s;
          },
        )

    -- ---- all wires

    abbrev Takes : Wire → Type 0
    Takes w = Lands t w × ((u : Name → List Wire) → Longer Name Wire t (receiver g w) w u → Held u)

    burst_path : (l : Leg) (b n : ℕ) → key l ≡ b → no l.to ≡ n → bur L out key no l ≡ Burst b n
    burst_path l b n e z = ap (λ x. Burst x (no l.to)) e ∙ ap (Burst b) z

    pub sends : (w : Wire) → Allowed t w → Sends t w
    sends (Take a) r = send_take a r
    sends (Burst b n) r =
        let (l, j, e, z) = real_burst b n (tally same_wire naught (t (Join b))) r in
        subst (λ w. Allowed t w → Sends t w) (burst_path l b n e z) (send_burst l j) r
    sends (Call n) r =
        let (l, j, z) = real_call n (tally same_wire naught (t (Calls n))) r in
        let (m, k, to) = next_act L out key no one l j in
        subst (λ x. Allowed t (Call x) → Sends t (Call x)) (ap no to ∙ z) (send_call m l k j (ap no (sym to))) r
    sends (Begin n) r =
        let (m, j, z) = real_begin n (tally same_wire naught (t (Gate n))) (Begin n) r in
        subst (λ x. Allowed t (Begin x) → Sends t (Begin x)) z (send_begin m j) r
    sends (Put n a) r =
        let (m, j, z, h) = real_put n a (tally same_wire naught (t (Spread n))) r in
        subst (λ x. Allowed t (Put x a) → Sends t (Put x a)) z (send_put m a j h) r
    sends (Give a) r = let (m, j, h) = real_give a (tally same_wire naught (t (Shows a))) r in send_give m a j h r

    pub lands : (w : Wire) → Real w → F w ≡ suc (P w) → Takes w
    lands (Take a) (l, j, h) x = (land_take l a j h x, λ u k. inner_landed t (Take a) u i (λ e. cc) k)
    lands (Burst b n) (l, j, e, z) x = (
      subst (λ w. F w ≡ suc (P w) → Lands t w) (burst_path l b n e z) (land_burst l j) x,
      λ u k. inner_landed t (Burst b n) u i (λ e. cc) k,
    )
    lands (Call n) (l, j, z) x =
        let (m, k, to) = next_act L out key no one l j in (
          subst (λ y. F (Call y) ≡ suc (P (Call y)) → Lands t (Call y)) (ap no to ∙ z) (land_call m l k j (ap no (sym to))) x,
          λ u k. inner_landed t (Call n) u i (λ e. cc) k,
        )
    lands (Begin n) (m, j, z) x = (
      subst (λ y. F (Begin y) ≡ suc (P (Begin y)) → Lands t (Begin y)) z (land_begin m j) x,
      λ u k. inner_landed t (Begin n) u i (λ e. cc) k,
    )
    lands (Put n a) (m, j, z, h) x = (
      subst (λ y. F (Put y a) ≡ suc (P (Put y a)) → Lands t (Put y a)) z (land_put m a j h) x,
      λ u k. inner_landed t (Put n a) u i (λ e. cc) k,
    )
    lands (Give a) (m, j, h) x = land_give m a j h x

  held_first : Held (λ n. [])
  held_first = record {
    story = [];
    tale = plays.first;
    is = refl;
    lines = record {
      burst = λ l a j x. omega arith;
      call = λ m j. omega arith;
      begin = λ m j. omega arith;
      put = λ m a j x. omega arith;
      give = λ a o. omega arith;
    };
    front = record {
      told = λ m a j x. omega (arith, ap (λ p. done p m) plays.first_past);
      ahead = λ m a j x e. omega (arith, ap (λ p. done p m) plays.first_past, ap (times a) plays.first_came);
    };
  }

  pub tends : Tends Name Wire net Real Held
  tends = record {
    begins = held_first;
    sends = λ t w f i r. sends t f i w r;
    lands = λ t w f i x e. lands t f i w x e;
  }

  pub sound : WebSound net
  sound = web_sound Name Wire net Real Held fine tends
