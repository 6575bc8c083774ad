-- The network of a process by a token has no hazard: its web keeps the counts beside the story of the environment.
use Rattle.std.proofs.Common.{eqb-true, ◌≡◌, ◌⊎◌, inl, inr, ℕ, suc, ◌+◌, ◌<◌, ◌≤◌, nat_eq, Bool, true, filter, List, [], ◌∷◌, ◌++◌, map, refl, sym, ap, ◌∙◌, subst, arith, if◌then◌else◌}
use Rattle.std.proofs.Math.Path.{fun_ext}
use Rattle.cmd_tree.specs.Rounds.{tally, naught}
use Rattle.place_graph.specs.declared.leg.Leg.{Leg}
use Rattle.place_graph.specs.declared.wait_graph.Cross.{Cross as Crossing}
use Rattle.place_graph.specs.Points.{Among as Member}
use Rattle.place_graph.specs.Tale.{one_if, times, Tale}
use Rattle.place_graph.specs.Chart.{Has, Stands, Plays, Grows, sum_where, to_at, from_at, in_leg, done}
use Rattle.place_graph.proofs.Sums.{one_same, sum_none}
use Rattle.net_laws.proofs.Webs.{Web, WebSound}
use Rattle.net_laws.proofs.Told.{Lawful, sent, got, Flows, Longer, longer_at, longer_away, Tends, web_sound}
use Rattle.net_laws.proofs.Woven.{grew_le, sent_grew, got_grew, got_same, sent_same}
use Rattle.net_laws.proofs.Among.{Among}
use Rattle.net_laws.proofs.Rows.{among_right, among_either}
use Rattle.plain_split.proofs.OneWaitSums.{sum_le}
use Rattle.plain_split.proofs.OneWaitWeb.{sum_of, MergeOn}
use Rattle.plain_split.proofs.OneWaitCounts.{some_symbol}
use Rattle.plain_split.proofs.SharedTold.{done_one, told_taken, told_given}
use Rattle.plain_split.proofs.OneWaitTraces.{among_map, map_among, sum_of_map, sum_of_some}
use Rattle.token_split.specs.TokenChart.{Wire, Take, Burst, Return, Row, Cross, Call, Begin, Put, Exit, Give, Name, Env, Join, Meet, Calls, Gate, Spread, Returns, Entry, Shows, Links, same_wire, driver, receiver, cross_wire}
use Rattle.token_split.proofs.TokenWeb.{MeetOn, Crosses, of_row, of_column, word, Rule, web, lawful}
use Rattle.token_split.proofs.TokenRules.{gate_out, gate_in, gate_some, join_out, join_in, join_some, fork_out, fork_in, take_end, give_end, word_takes, word_gives}
use Rattle.token_split.proofs.TokenCounts.{Numbered, Acts, Inputs, bur, cross, back, row, call, begin, exit, entered, crossed, met, left, given_by, Lines, Front, Ties, Pends, Fires, lines_more, front_more, lines_fired, front_fired, next_act, next_wait, act_has, input_has, inputs_with, one_burst, one_key, one_leg, one_cross, given, meets, take_free, take_lands, burst_free, columns_even, rows_even, cross_free, cross_lands, call_free, call_lands, begin_free, begin_lands, begin_exits, put_free, put_lands, exit_free, exit_lands, back_free, back_lands, row_free, give_free, Shown, give_lands}

-- The links are those of the legs.
pub record Drawn (L : List Leg) (out : ℕ → Bool) (g : Links) (key : Leg → ℕ) (home no wait : ℕ → ℕ) : Type 0 where
  pub home_is : (l : Leg) (a : ℕ) → Inputs L out key home no wait l → Has l a → g.home a ≡ key l
  pub starts : (m : Leg) → Acts L out key home no wait m → (if g.begins (no m.from) then 1 else 0) ≡ one_if m.from 1
  pub start_act : (n : ℕ) → g.begins n ≡ true → (m : Leg) × Acts L out key home no wait m × (no m.from ≡ n)
  pub opens : (l : Leg) → Inputs L out key home no wait l → (if g.opens (wait l.from) then 1 else 0) ≡ one_if l.from 1
  pub start_wait : (x : ℕ) → g.opens x ≡ true → (l : Leg) × Inputs L out key home no wait l × (wait l.from ≡ x)
  pub in_burst : (l : Leg) (a : ℕ) → Inputs L out key home no wait l → Has l a → Among a (g.symbols (key l))
  pub of_burst : (l : Leg) (a : ℕ) → Inputs L out key home no wait l → Among a (g.symbols (key l)) → Has l a
  pub of_symbols : (b a : ℕ) → Among a (g.symbols b) → (l : Leg) × Inputs L out key home no wait l × Has l a × (key l ≡ b)
  -- the parts of the crossings
  pub same_part : (l : Leg) → Inputs L out key home no wait l → g.row_part (wait l.from) ≡ g.column_part (key l)
  pub in_rows : (l : Leg) → Inputs L out key home no wait l → Among (wait l.from) (g.rows (g.row_part (wait l.from)))
  pub of_rows : (i x : ℕ) → Among x (g.rows i) → (l : Leg) × Inputs L out key home no wait l × (wait l.from ≡ x) × (g.row_part (wait l.from) ≡ i)
  pub in_columns : (l : Leg) → Inputs L out key home no wait l → Among (key l) (g.columns (g.column_part (key l)))
  pub of_columns : (i b : ℕ) → Among b (g.columns i) → (l : Leg) × Inputs L out key home no wait l × (key l ≡ b) × (g.column_part (key l) ≡ i)
  pub in_meets : (l : Leg) → Inputs L out key home no wait l → Among (record { wait = wait l.from; burst = key l; act = no l.to }) (g.meets (g.row_part (wait l.from)))
  pub of_meets : (i : ℕ) (c : Crossing) → Among c (g.meets i)
      → (l : Leg) × Inputs L out key home no wait l × (◌≡◌ {A = Crossing} (record { wait = wait l.from; burst = key l; act = no l.to }) c) × (g.row_part (wait l.from) ≡ i)
  pub row_sum : (l : Leg) → Inputs L out key home no wait l → (c : Crossing → ℕ)
      → sum_of c (filter (λ k. nat_eq k.wait (wait l.from)) (g.meets (g.row_part (wait l.from)))) ≡ sum_where L (from_at l.from) (λ k. c (record { wait = wait k.from; burst = key k; act = no k.to }))
  pub column_sum : (l : Leg) (a : ℕ) → Inputs L out key home no wait l → Has l a → (c : Crossing → ℕ)
      → sum_of c (filter (λ k. nat_eq k.burst (key l)) (g.meets (g.column_part (key l)))) ≡ sum_where L (in_leg a) (λ k. c (record { wait = wait k.from; burst = key k; act = no k.to }))
  -- acts
  pub entry : (l : Leg) → Inputs L out key home no wait l → Among (record { wait = wait l.from; burst = key l; act = no l.to }) (g.entries (no l.to))
  pub of_entries : (c : Crossing) (n : ℕ) → Among c (g.entries n)
      → (l : Leg) × Inputs L out key home no wait l × (◌≡◌ {A = Crossing} (record { wait = wait l.from; burst = key l; act = no l.to }) c) × (no l.to ≡ n)
  pub entry_sum : (m : Leg) → Acts L out key home no wait m → (c : Crossing → ℕ)
      → sum_of c (g.entries (no m.from)) ≡ sum_where L (to_at m.from) (λ l. c (record { wait = wait l.from; burst = key l; act = no l.to }))
  pub put_out : (m : Leg) (a : ℕ) → Acts L out key home no wait m → Has m a → Among a (g.outs (no m.from))
  pub of_outs : (n a : ℕ) → Among a (g.outs n) → (m : Leg) × Acts L out key home no wait m × (no m.from ≡ n) × Has m a
  pub exit_in : (m : Leg) → Acts L out key home no wait m → Among (wait m.to) (g.exits (no m.from))
  pub of_exits : (n x : ℕ) → Among x (g.exits n) → (m : Leg) × Acts L out key home no wait m × (no m.from ≡ n) × (wait m.to ≡ x)
  pub back_in : (m : Leg) → Acts L out key home no wait m → Among (no m.from) (g.returns (wait m.to))
  pub of_returns : (x n : ℕ) → Among n (g.returns x) → (m : Leg) × Acts L out key home no wait m × (no m.from ≡ n) × (wait m.to ≡ x)
  pub return_sum : (l : Leg) → Inputs L out key home no wait l → (c : ℕ → ℕ) → sum_of c (g.returns (wait l.from)) ≡ sum_where L (to_at l.from) (λ m. c (no m.from))
  pub giver : (m : Leg) (a : ℕ) → Acts L out key home no wait m → Has m a → Among (no m.from) (g.givers a)
  pub of_givers : (n a : ℕ) → Among n (g.givers a) → (m : Leg) × Acts L out key home no wait m × (no m.from ≡ n) × Has m a
  pub given_sum : (a : ℕ) → out a ≡ true → (c : ℕ → ℕ) → sum_of c (g.givers a) ≡ sum_where L (in_leg a) (λ m. c (no m.from))

sum_same : (L : List Leg) (test : Leg → Bool) (f g : Leg → ℕ) → ((l : Leg) → Member L l → test l ≡ true → f l ≡ g l) → sum_where L test f ≡ sum_where L test g
sum_same L test f g h = omega (arith, sum_le L test f g (λ l a t. omega (arith, h l a t)), sum_le L test g f (λ l a t. omega (arith, h l a t)))

module _ (L : List Leg) (out : ℕ → Bool) (T : List ℕ → Type 0) (g : Links) (key : Leg → ℕ) (home no wait : ℕ → ℕ) (one : Numbered L out key home no wait) (plays : Plays L T)
    (drawn : Drawn L out g key home no wait) where
  abbrev pub Act : Leg → Type 0
  Act m = Acts L out key home no wait m

  abbrev pub Input : Leg → Type 0
  Input l = Inputs L out key home no wait l

  abbrev pub bur_of : Leg → Wire
  bur_of l = bur L out key home no wait l

  abbrev pub cross_of : Leg → Wire
  cross_of l = cross L out key home no wait l

  abbrev pub back_of : ℕ → Wire
  back_of x = back L out key home no wait x

  abbrev pub row_of : ℕ → Wire
  row_of x = row L out key home no wait x

  abbrev pub call_of : Leg → Wire
  call_of m = call L out key home no wait m

  abbrev pub begin_of : Leg → Wire
  begin_of m = begin L out key home no wait m

  abbrev pub exit_of : Leg → Wire
  exit_of m = exit L out key home no wait m

  abbrev pub crossing : Leg → Crossing
  crossing l = record { wait = wait l.from; burst = key l; act = no l.to }

  abbrev pub net : Web Name Wire
  net = web g out T

  abbrev pub fine : Lawful Name Wire net
  fine = lawful g out T

  -- ---- wires that are there

  abbrev pub Real : Wire → Type 0
  Real (Take a) = (l : Leg) × Input l × Has l a
  Real (Burst b) = (l : Leg) × Input l × (key l ≡ b)
  Real (Return x) = (l m : Leg) × Input l × Act m × (m.to ≡ l.from) × (wait l.from ≡ x)
  Real (Row x) = (l : Leg) × Input l × (wait l.from ≡ x)
  Real (Cross x b n) = (l : Leg) × Input l × (cross_of l ≡ Cross x b n)
  Real (Call n) = (l : Leg) × Input l × (no l.to ≡ n)
  Real (Begin n) = (m : Leg) × Act m × (no m.from ≡ n)
  Real (Put n a) = (m : Leg) × Act m × (no m.from ≡ n) × Has m a
  Real (Exit n x) = (m : Leg) × Act m × (exit_of m ≡ Exit n x)
  Real (Give a) = (m : Leg) × Act m × Has m a

  along : (l : Leg) → Member L l → (a : ℕ) × Has l a
  along l i = some_symbol l (one.chart.some l i)

  -- the wait that an act leads to has a leg
  pub wait_of : (m : Leg) → Act m → (l : Leg) × Input l × (l.from ≡ m.to)
  wait_of m j = next_wait L out key home no wait one m j

  -- ---- a wire that its driver may fire is there

  pub burst_there : (b : ℕ) (i : Wire) → Among i (map Take (g.symbols b)) → Real (Burst b)
  burst_there b i a =
      let (y, j, z) = among_map Take (g.symbols b) i a in
      let (l, k, x, same) = drawn.of_symbols b y j in
      (l, k, same)

  pub returned_by : (x n : ℕ) → Among n (g.returns x) → Real (Return x)
  returned_by x n i =
      let (m, j, e, to) = drawn.of_returns x n i in
      let (l, k, from) = wait_of m j in
      (l, m, k, j, sym from, ap wait from ∙ to)

  pub real_return : (x : ℕ) (c : Wire → ℕ) → MergeOn (map (λ n. Exit n x) (g.returns x)) (Return x) c (Return x) → Real (Return x)
  real_return x c (inl (y, e)) = let (n, i, z) = among_map (λ n. Exit n x) (g.returns x) (Return x) y in absurd (cc)
  real_return x c (inr (y, less)) =
      let (w, a) = sum_of_some c (map (λ n. Exit n x) (g.returns x)) (omega (arith, less)) in
      let (n, i, z) = among_map (λ n. Exit n x) (g.returns x) w a in
      returned_by x n i

  pub row_there : (x : ℕ) → ((n : ℕ) × Among n (g.returns x)) ⊎ (g.opens x ≡ true) → Real (Row x)
  row_there x (inl (n, a)) = let (l, m, i, j, to, e) = returned_by x n a in (l, i, e)
  row_there x (inr e) = drawn.start_wait x e

  pub real_call : (n : ℕ) (c : Wire → ℕ) → MergeOn (map cross_wire (g.entries n)) (Call n) c (Call n) → Real (Call n)
  real_call n c (inl (x, e)) = let (k, i, z) = among_map cross_wire (g.entries n) (Call n) x in absurd (cc)
  real_call n c (inr (x, less)) =
      let (w, a) = sum_of_some c (map cross_wire (g.entries n)) (omega (arith, less)) in
      let (k, i, z) = among_map cross_wire (g.entries n) w a in
      let (l, j, e, to) = drawn.of_entries k n i in
      (l, j, to)

  pub begin_there : (n : ℕ) → ((k : Crossing) × Among k (g.entries n)) ⊎ (g.begins n ≡ true) → Real (Begin n)
  begin_there n (inl (k, a)) =
      let (l, j, e, to) = drawn.of_entries k n a in
      let (m, i, from) = next_act L out key home no wait one l j in
      (m, i, ap no from ∙ to)
  begin_there n (inr e) = drawn.start_act n e

  abbrev spread_outs : ℕ → List Wire
  spread_outs n = map (Put n) (g.outs n) ++ map (Exit n) (g.exits n)

  pub real_put : (n a : ℕ) → Among (Put n a) (spread_outs n) → Real (Put n a)
  real_put n a h = elim (among_either (Put n a) (map (Put n) (g.outs n)) (map (Exit n) (g.exits n)) h) [
    | inl i ↦ let (b, j, e) = among_map (Put n) (g.outs n) (Put n a) i in let z : b ≡ a = cc in drawn.of_outs n a (subst (λ b. Among b (g.outs n)) z j)
    | inr i ↦ let (x, j, e) = among_map (Exit n) (g.exits n) (Put n a) i in absurd (cc)
  ]

  pub real_exit : (n x : ℕ) → Among (Exit n x) (spread_outs n) → Real (Exit n x)
  real_exit n x h = elim (among_either (Exit n x) (map (Put n) (g.outs n)) (map (Exit n) (g.exits n)) h) [
    | inl i ↦ let (b, j, e) = among_map (Put n) (g.outs n) (Exit n x) i in absurd (cc)
    | inr i ↦
        let (y, j, e) = among_map (Exit n) (g.exits n) (Exit n x) i in
        let z : y ≡ x = cc in
        let (m, k, p, q) = drawn.of_exits n x (subst (λ y. Among y (g.exits n)) z j) in
        (m, k, ap (λ i. Exit i (wait m.to)) p ∙ ap (Exit n) q)
  ]

  pub real_give : (a : ℕ) (c : Wire → ℕ) → MergeOn (map (λ n. Put n a) (g.givers a)) (Give a) c (Give a) → Real (Give a)
  real_give a c (inl (x, e)) = let (y, i, e) = among_map (λ n. Put n a) (g.givers a) (Give a) x in absurd (cc)
  real_give a c (inr (x, less)) =
      let (w, i) = sum_of_some c (map (λ n. Put n a) (g.givers a)) (omega (arith, less)) in
      let (n, j, e) = among_map (λ n. Put n a) (g.givers a) w i in
      let (m, k, z, h) = drawn.of_givers n a j in
      (m, k, h)

  pub real_cross : (i x b n : ℕ) (c : Wire → ℕ) → MeetOn (g.rows i) (g.columns i) (g.meets i) c (Cross x b n) → Real (Cross x b n)
  real_cross i x b n c (inl z) = absurd (let e = z.is in cc)
  real_cross i x b n c (inr (inl z)) = absurd (let e = z.is in cc)
  real_cross i x b n c (inr (inr z)) =
      let (l, j, e, p) = drawn.of_meets i z.crossing z.among in
      (l, j, ap cross_wire e ∙ sym z.is)

  -- ---- what holds after each run

  pub record Held (t : Name → List Wire) : Type 0 where
    pub story : List ℕ
    pub tale : Tale L story
    pub is : word out (t Env) ≡ story
    pub lines : Lines L out key home no wait (sent net t) (got net t)
    pub front : Front L out key home no wait (done tale.past) tale.here (λ a. times a tale.came) (sent net t) (got net t)

  pub ties_of : (t : Name → List Wire) (i : Held t) → Ties L out key home no wait (done i.tale.past) (λ a. times a i.tale.came) (sent net t) (got net t)
  ties_of t i = record {
    took = λ a o. omega (arith, word_takes out naught (t Env) a o, ap (times a) i.is, plays.sums i.story i.tale a);
    gave = λ a o. omega (arith, word_gives out naught (t Env) a o, ap (times a) i.is, plays.sums i.story i.tale a);
  }

  abbrev Sends : (Name → List Wire) → Wire → Type 0
  Sends t w = Real w × (sent net t w ≡ got net t w) × ((u : Name → List Wire) → Longer Name Wire t (driver g w) w u → Held u)

  abbrev Allowed : (Name → List Wire) → Wire → Type 0
  Allowed t w = Rule g out T (driver g w) (t (driver g w)) w

  abbrev Lands : (Name → List Wire) → Wire → Type 0
  Lands t w = Rule g out T (receiver g w) (t (receiver g w)) w

  pub inner_sent : (t : Name → List Wire) (w : Wire) (u : Name → List Wire) → (i : Held t) → (Env ≡ driver g w → ⊥)
      → Fires L out key home no wait (done i.tale.past) (sent net t) (got net t) w → Longer Name Wire t (driver g w) w u → Held u
  inner_sent t w u i away k h = record {
    story = i.story;
    tale = i.tale;
    is = ap (word out) (longer_away t (driver g w) w u h Env away) ∙ i.is;
    lines = lines_more L out key home no wait (sent net u) (got net t) (got net u)
        (lines_fired L out key home no wait one (done i.tale.past) (sent net t) (got net t) w k (sent net u) i.lines (sent_grew Name Wire net fine t w u h)) (λ v. omega (arith, got_same Name Wire net fine t w u h v));
    front = front_more L out key home no wait (done i.tale.past) i.tale.here (λ a. times a i.tale.came) (sent net u) (got net t) (got net u)
        (front_fired L out key home no wait one (done i.tale.past) (sent net t) (got net t) w k i.tale.here (λ a. times a i.tale.came) (sent net u) i.front (sent_grew Name Wire net fine t w u h))
        (λ v. omega (arith, got_same Name Wire net fine t w u h v));
  }

  pub inner_landed : (t : Name → List Wire) (w : Wire) (u : Name → List Wire) → Held t → (Env ≡ receiver g w → ⊥) → Longer Name Wire t (receiver g w) w u → Held u
  inner_landed t w u i away h = record {
    story = i.story;
    tale = i.tale;
    is = ap (word out) (longer_away t (receiver g w) w u h Env away) ∙ i.is;
    lines = subst (λ F. Lines L out key home no wait F (got net u)) (sym (fun_ext (sent_same Name Wire net fine t w u h)))
        (lines_more L out key home no wait (sent net t) (got net t) (got net u) i.lines (grew_le (got net t) w (got net u) (got_grew Name Wire net fine t w u h)));
    front = subst (λ F. Front L out key home no wait (done i.tale.past) i.tale.here (λ a. times a i.tale.came) F (got net u)) (sym (fun_ext (sent_same Name Wire net fine t w u h)))
        (front_more L out key home no wait (done i.tale.past) i.tale.here (λ a. times a i.tale.came) (sent net t) (got net t) (got net u) i.front
        (grew_le (got net t) w (got net u) (got_grew Name Wire net fine t w u h)));
  }

  module _ (t : Name → List Wire) where
    -- ---- the counts of a MERGE

    pub entered_is : (m : Leg) → Act m → sum_of (tally same_wire naught (t (Calls (no m.from)))) (map cross_wire (g.entries (no m.from))) ≡ entered L out key home no wait (got net t) m.from
    entered_is m j =
        sum_of_map (tally same_wire naught (t (Calls (no m.from)))) cross_wire (g.entries (no m.from))
        ∙ drawn.entry_sum m j (λ k. tally same_wire naught (t (Calls (no m.from))) (cross_wire k))
        ∙ sum_same L (to_at m.from) (λ l. tally same_wire naught (t (Calls (no m.from))) (cross_of l)) (λ l. got net t (cross_of l))
        (λ l a x. ap (λ n. tally same_wire naught (t (Calls (no n))) (cross_of l)) (eqb-true m.from l.to x))

    pub left_is : (l : Leg) → Input l → sum_of (tally same_wire naught (t (Returns (wait l.from)))) (map (λ n. Exit n (wait l.from)) (g.returns (wait l.from))) ≡ left L out key home no wait (got net t) l.from
    left_is l j =
        sum_of_map (tally same_wire naught (t (Returns (wait l.from)))) (λ n. Exit n (wait l.from)) (g.returns (wait l.from))
        ∙ drawn.return_sum l j (λ n. tally same_wire naught (t (Returns (wait l.from))) (Exit n (wait l.from)))
        ∙ sum_same L (to_at l.from) (λ m. tally same_wire naught (t (Returns (wait l.from))) (Exit (no m.from) (wait l.from))) (λ m. got net t (exit_of m))
        (λ m a x. ap (λ y. tally same_wire naught (t (Returns (wait y))) (Exit (no m.from) (wait y))) (eqb-true l.from m.to x))

    pub given_is : (a : ℕ) → out a ≡ true → sum_of (tally same_wire naught (t (Shows a))) (map (λ n. Put n a) (g.givers a)) ≡ given_by L out key home no wait (got net t) a
    given_is a o = sum_of_map (tally same_wire naught (t (Shows a))) (λ n. Put n a) (g.givers a) ∙ drawn.given_sum a o (λ n. got net t (Put n a))

    -- the count of a symbol at the C of its burst
    pub at_home : (l : Leg) (a : ℕ) → Input l → Has l a → tally same_wire naught (t (Join (key l))) (Take a) ≡ got net t (Take a)
    at_home l a j h = ap (λ b. tally same_wire naught (t (Join b)) (Take a)) (sym (drawn.home_is l a j h))

    -- ---- the counts of a part of the crossings

    abbrev pub at_part : ℕ → Wire → ℕ
    at_part i = tally same_wire naught (t (Meet i))

    pub row_total : (l : Leg) → Input l → of_row (g.meets (g.row_part (wait l.from))) (at_part (g.row_part (wait l.from))) (wait l.from) ≡ crossed L out key home no wait (sent net t) l.from
    row_total l j = drawn.row_sum l j (λ k. at_part (g.row_part (wait l.from)) (cross_wire k))
        ∙ sum_same L (from_at l.from) (λ k. at_part (g.row_part (wait l.from)) (cross_of k)) (λ k. sent net t (cross_of k))
        (λ k a x. ap (λ y. at_part (g.row_part (wait y)) (cross_of k)) (eqb-true l.from k.from x))

    pub column_total : (l : Leg) (a : ℕ) → Input l → Has l a
        → of_column (g.meets (g.column_part (key l))) (at_part (g.column_part (key l))) (key l) ≡ met L out key home no wait (sent net t) a
    column_total l a j h = drawn.column_sum l a j h (λ k. at_part (g.column_part (key l)) (cross_wire k))
        ∙ sum_same L (in_leg a) (λ k. at_part (g.column_part (key l)) (cross_of k)) (λ k. sent net t (cross_of k))
        (λ k b x.
        let i : Input k = inputs_with L out key home no wait one k a b (input_has L out key home no wait one l a j h) x in
        ap (λ p. at_part p (cross_of k)) (ap g.column_part (one_burst L out key home no wait one l k a j i h x) ∙ sym (drawn.same_part k i)))

  module _ (t : Name → List Wire) (f : Flows (sent net t) (got net t)) (i : Held t) where
    abbrev F : Wire → ℕ
    F = sent net t

    abbrev P : Wire → ℕ
    P = got net t

    abbrev D : Leg → ℕ
    D = done i.tale.past

    abbrev here : ℕ
    here = i.tale.here

    abbrev came : ℕ → ℕ
    came = λ a. times a i.tale.came

    abbrev st : Stands L D here came
    st = plays.stands i.story i.tale

    abbrev ties : Ties L out key home no wait D came F P
    ties = ties_of t i

    -- ---- firing

    pub burst_ready : (l : Leg) → Input l → Allowed t (bur_of l) → (a : ℕ) → Has l a → F (bur_of l) < P (Take a)
    burst_ready l j r a h =
        let less : F (bur_of l) < tally same_wire naught (t (Join (key l))) (Take a)
        = join_out (map Take (g.symbols (key l))) (bur_of l) (tally same_wire naught (t (Join (key l))))
        (λ w x e. let (y, b, z) = among_map Take (g.symbols (key l)) w x in cc) r (Take a) (map_among Take (g.symbols (key l)) a (drawn.in_burst l a j h)) in
        omega (arith, less, at_home t l a j h)

    send_burst : (l : Leg) → Input l → Allowed t (bur_of l) → Sends t (bur_of l)
    send_burst l j r = (
      (l, j, refl),
      burst_free L out key home no wait one D here came F P st ties f i.lines i.front l j (burst_ready l j r),
      λ u h. inner_sent t (bur_of l) u i (λ e. cc) (λ m a k x same. omega (arith, burst_ready l j r a (one_key L out key home no wait one m l a k j same x))) h,
    )

    -- a crossing that may come is that of the leg that lags
    pub cross_ready : (l : Leg) → Input l → Allowed t (cross_of l)
        → (crossed L out key home no wait F l.from < P (row_of l.from)) × ((a : ℕ) → Has l a → met L out key home no wait F a < P (bur_of l))
    cross_ready l j (inl z) = absurd (let e = z.is in cc)
    cross_ready l j (inr (inl z)) = absurd (let e = z.is in cc)
    cross_ready l j (inr (inr z)) =
        let e : cross_of l ≡ cross_wire z.crossing = z.is in
        let x : wait l.from ≡ z.crossing.wait = cc in
        let b : key l ≡ z.crossing.burst = cc in
        let p : ℕ = g.row_part (wait l.from) in (
          (let less : of_row (g.meets p) (at_part t p) (wait l.from) < at_part t p (row_of l.from) = subst (λ y. of_row (g.meets p) (at_part t p) y < at_part t p (Row y)) (sym x) z.row in
              omega (arith, less, row_total t l j)),
          λ a h.
              let less : of_column (g.meets p) (at_part t p) (key l) < at_part t p (bur_of l) = subst (λ y. of_column (g.meets p) (at_part t p) y < at_part t p (Burst y)) (sym b) z.column in
              let there : of_column (g.meets (g.column_part (key l))) (at_part t (g.column_part (key l))) (key l) < at_part t (g.column_part (key l)) (bur_of l)
              = subst (λ q. of_column (g.meets q) (at_part t q) (key l) < at_part t q (bur_of l)) (drawn.same_part l j) less in
              omega (arith, there, column_total t l a j h),
        )

    pub cross_lags : (l : Leg) → Input l → Allowed t (cross_of l) → (F (cross_of l) < D l) × (l.to ≡ here)
    cross_lags l j r =
        let (x, c) = cross_ready l j r in
        let (a, h) = along l j.0 in
        let (z, from, same) = meets L out key home no wait one D here came F P st ties f i.lines i.front l l a j j h
        (omega (arith, x, given L out key home no wait one D here came F P st ties f i.lines i.front (row_of l.from)))
        (omega (arith, c a h, given L out key home no wait one D here came F P st ties f i.lines i.front (bur_of l))) in
        let is : z.leg ≡ l = one_leg L out key home no wait one z.leg l z.inputs j from same in
        (subst (λ (y : Leg). F (cross_of y) < D y) is z.lags, ap (λ (y : Leg). y.to) (sym is) ∙ z.to)

    send_cross : (l : Leg) → Input l → Allowed t (cross_of l) → Sends t (cross_of l)
    send_cross l j r = (
      (l, j, refl),
      cross_free L out key home no wait one D here came F P st ties f i.lines i.front l j (cross_lags l j r).0 (cross_lags l j r).1,
      λ u h. inner_sent t (cross_of l) u i (λ e. cc) (λ k q e.
          let same : l ≡ k = one_cross L out key home no wait one l k j q (sym e) in
          subst (λ k. Pends L out key home no wait D F P k) same ((cross_ready l j r).0, (cross_ready l j r).1, (cross_lags l j r).0)) h,
    )

    call_ready : (m : Leg) → Act m → Allowed t (call_of m) → F (call_of m) < entered L out key home no wait P m.from
    call_ready m j (inl (x, all)) = let (y, b, e) = among_map cross_wire (g.entries (no m.from)) (call_of m) x in absurd (cc)
    call_ready m j (inr (x, less)) = omega (arith, less, entered_is t m j)

    send_call : (m l : Leg) → Act m → Input l → no l.to ≡ no m.from → Allowed t (call_of m) → Sends t (call_of m)
    send_call m l j k to r = (
      (l, k, to),
      call_free L out key home no wait one D here came F P st ties f i.lines i.front m j (call_ready m j r),
      λ u h. inner_sent t (call_of m) u i (λ e. cc) (λ n k e.
          let same : m ≡ n = one.one_no m n j.0 k.0 j.1 k.1 (sym e) in
          omega (arith, call_ready m j r, ap (λ (y : Leg). entered L out key home no wait P y.from) same)) h,
    )

    begin_ready : (m : Leg) → Act m → Allowed t (begin_of m) → F (begin_of m) < one_if m.from 1 + P (call_of m)
    begin_ready m j r =
        omega (arith, gate_out (g.entries (no m.from)) (g.begins (no m.from)) (call_of m) (begin_of m) (tally same_wire naught (t (Gate (no m.from)))) (λ e. cc) r, drawn.starts m j)

    send_begin : (m : Leg) → Act m → Allowed t (begin_of m) → Sends t (begin_of m)
    send_begin m j r = (
      (m, j, refl),
      begin_free L out key home no wait one D here came F P st ties f i.lines i.front m j (begin_ready m j r),
      λ u h. inner_sent t (begin_of m) u i (λ e. cc) (λ n k e.
          let same : m ≡ n = one.one_no m n j.0 k.0 j.1 k.1 (sym e) in
          omega (arith, begin_ready m j r, ap (λ (y : Leg). one_if y.from 1) same)) h,
    )

    put_ready : (m : Leg) (a : ℕ) → Act m → Allowed t (Put (no m.from) a) → F (Put (no m.from) a) < P (begin_of m)
    put_ready m a j r = (fork_out (spread_outs (no m.from)) (begin_of m) (Put (no m.from) a) (tally same_wire naught (t (Spread (no m.from)))) (λ e. cc) r).1

    send_put : (m : Leg) (a : ℕ) → Act m → Has m a → Allowed t (Put (no m.from) a) → Sends t (Put (no m.from) a)
    send_put m a j has r = (
      (m, j, refl, has),
      put_free L out key home no wait one D here came F P st ties f i.lines i.front m a j has (put_ready m a j r),
      λ u h. inner_sent t (Put (no m.from) a) u i (λ e. cc) (λ n k x e. put_ready m a j r) h,
    )

    exit_ready : (m : Leg) → Act m → Allowed t (exit_of m) → F (exit_of m) < P (begin_of m)
    exit_ready m j r = (fork_out (spread_outs (no m.from)) (begin_of m) (exit_of m) (tally same_wire naught (t (Spread (no m.from)))) (λ e. cc) r).1

    send_exit : (m : Leg) → Act m → Allowed t (exit_of m) → Sends t (exit_of m)
    send_exit m j r = (
      (m, j, refl),
      exit_free L out key home no wait one D here came F P st ties f i.lines i.front m j (exit_ready m j r),
      λ u h. inner_sent t (exit_of m) u i (λ e. cc) (λ n k e z. exit_ready m j r) h,
    )

    back_ready : (l : Leg) → Input l → Allowed t (back_of l.from) → F (back_of l.from) < left L out key home no wait P l.from
    back_ready l j (inl (x, all)) = let (y, b, e) = among_map (λ n. Exit n (wait l.from)) (g.returns (wait l.from)) (back_of l.from) x in absurd (cc)
    back_ready l j (inr (x, less)) = omega (arith, less, left_is t l j)

    send_back : (l m : Leg) → Input l → Act m → m.to ≡ l.from → Allowed t (back_of l.from) → Sends t (back_of l.from)
    send_back l m j n to r = (
      (l, m, j, n, to, refl),
      back_free L out key home no wait one D here came F P st ties f i.lines i.front l j (back_ready l j r),
      λ u h. inner_sent t (back_of l.from) u i (λ e. cc) (λ q k e.
          let same : l.from ≡ q.from = one.one_wait l q j.0 k.0 j.1 k.1 (sym e) in
          omega (arith, back_ready l j r, ap (left L out key home no wait P) same)) h,
    )

    row_ready : (l : Leg) → Input l → Allowed t (row_of l.from) → F (row_of l.from) < one_if l.from 1 + P (back_of l.from)
    row_ready l j r =
        omega (arith, gate_out (g.returns (wait l.from)) (g.opens (wait l.from)) (back_of l.from) (row_of l.from) (tally same_wire naught (t (Entry (wait l.from)))) (λ e. cc) r, drawn.opens l j)

    send_row : (l : Leg) → Input l → Allowed t (row_of l.from) → Sends t (row_of l.from)
    send_row l j r = (
      (l, j, refl),
      row_free L out key home no wait one D here came F P st ties f i.lines i.front l j (row_ready l j r),
      λ u h. inner_sent t (row_of l.from) u i (λ e. cc) (λ q k e.
          let same : l.from ≡ q.from = one.one_wait l q j.0 k.0 j.1 k.1 (sym e) in
          omega (arith, row_ready l j r, ap (λ x. one_if x 1) same)) h,
    )

    give_ready : (a : ℕ) → out a ≡ true → Allowed t (Give a) → F (Give a) < given_by L out key home no wait P a
    give_ready a o (inl (x, all)) = let (y, b, e) = among_map (λ n. Put n a) (g.givers a) (Give a) x in absurd (cc)
    give_ready a o (inr (x, less)) = omega (arith, less, given_is t a o)

    send_give : (m : Leg) (a : ℕ) → Act m → Has m a → Allowed t (Give a) → Sends t (Give a)
    send_give m a j has r =
        let o : out a ≡ true = act_has L out key home no wait one m a j has in (
          (m, j, has),
          give_free L out key home no wait one D here came F P st ties f i.lines i.front a o (give_ready a o r),
          λ u h. inner_sent t (Give a) u i (λ e. cc) (λ p. give_ready a o r) h,
        )

    -- ---- handing over

    land_take : (l : Leg) (a : ℕ) → Input l → Has l a → F (Take a) ≡ suc (P (Take a)) → Lands t (Take a)
    land_take l a j h x = subst (λ b. Rule g out T (Join b) (t (Join b)) (Take a)) (sym (drawn.home_is l a j h))
        (join_in (map Take (g.symbols (key l))) (bur_of l) (Take a) (tally same_wire naught (t (Join (key l)))) (map_among Take (g.symbols (key l)) a (drawn.in_burst l a j h))
        (at_home t l a j h ∙ take_lands L out key home no wait one D here came F P st ties f i.lines i.front l a j h x))

    -- the count of a row in its part
    row_even : (p : ℕ) (k : Leg) → Input k → g.row_part (wait k.from) ≡ p → P (row_of k.from) ≡ crossed L out key home no wait F k.from
        → at_part t p (row_of k.from) ≡ of_row (g.meets p) (at_part t p) (wait k.from)
    row_even p k q e same = subst (λ p. at_part t p (row_of k.from) ≡ of_row (g.meets p) (at_part t p) (wait k.from)) e (same ∙ sym (row_total t k q))

    row_pends : (p : ℕ) (k : Leg) → Input k → g.row_part (wait k.from) ≡ p → of_row (g.meets p) (at_part t p) (wait k.from) < at_part t p (row_of k.from)
        → crossed L out key home no wait F k.from < F (row_of k.from)
    row_pends p k q e less =
        let there : of_row (g.meets (g.row_part (wait k.from))) (at_part t (g.row_part (wait k.from))) (wait k.from) < P (row_of k.from)
        = subst (λ p. of_row (g.meets p) (at_part t p) (wait k.from) < at_part t p (row_of k.from)) (sym e) less in
        omega (arith, there, row_total t k q, given L out key home no wait one D here came F P st ties f i.lines i.front (row_of k.from))

    column_even : (p : ℕ) (k : Leg) (a : ℕ) → Input k → Has k a → g.column_part (key k) ≡ p → P (bur_of k) ≡ met L out key home no wait F a
        → at_part t p (bur_of k) ≡ of_column (g.meets p) (at_part t p) (key k)
    column_even p k a q h e same = subst (λ p. at_part t p (bur_of k) ≡ of_column (g.meets p) (at_part t p) (key k)) e (same ∙ sym (column_total t k a q h))

    column_pends : (p : ℕ) (k : Leg) (a : ℕ) → Input k → Has k a → g.column_part (key k) ≡ p → of_column (g.meets p) (at_part t p) (key k) < at_part t p (bur_of k)
        → met L out key home no wait F a < F (bur_of k)
    column_pends p k a q h e less =
        let there : of_column (g.meets (g.column_part (key k))) (at_part t (g.column_part (key k))) (key k) < P (bur_of k)
        = subst (λ p. of_column (g.meets p) (at_part t p) (key k) < at_part t p (bur_of k)) (sym e) less in
        omega (arith, there, column_total t k a q h, given L out key home no wait one D here came F P st ties f i.lines i.front (bur_of k))

    -- the leg that lags is a crossing of the part
    crosses : (p x b : ℕ) (l k : Leg) (a : ℕ) → Input l → Input k → Has k a → wait l.from ≡ x → key k ≡ b → g.row_part (wait l.from) ≡ p
        → crossed L out key home no wait F l.from < F (row_of l.from) → met L out key home no wait F a < F (bur_of k) → Crosses (g.meets p) x b
    crosses p x b l k a q n h ex eb ep less more =
        let (z, from, same) = meets L out key home no wait one D here came F P st ties f i.lines i.front l k a q n h less more in
        (crossing z.leg, subst (λ y. Among (crossing z.leg) (g.meets y)) (ap (λ y. g.row_part (wait y)) from ∙ ep) (drawn.in_meets z.leg z.inputs), ap wait from ∙ ex, same ∙ eb)

    land_row : (l : Leg) → Input l → F (row_of l.from) ≡ suc (P (row_of l.from)) → Lands t (row_of l.from)
    land_row l j x = inl (record {
      row = wait l.from;
      is = refl;
      among = drawn.in_rows l j;
      free = λ y a.
          let (k, q, e, p) = drawn.of_rows (g.row_part (wait l.from)) y a in
          subst (λ y. at_part t (g.row_part (wait l.from)) (Row y) ≡ of_row (g.meets (g.row_part (wait l.from))) (at_part t (g.row_part (wait l.from))) y) e
          (row_even (g.row_part (wait l.from)) k q p (rows_even L out key home no wait one D here came F P st ties f i.lines i.front l k j q x));
      meets = λ b a less.
          let (k, q, e, p) = drawn.of_columns (g.row_part (wait l.from)) b a in
          let (c, h) = along k q.0 in
          crosses (g.row_part (wait l.from)) (wait l.from) b l k c j q h refl e refl (omega (arith, x, i.lines.rows l j))
          (column_pends (g.row_part (wait l.from)) k c q h p
          (subst (λ b. of_column (g.meets (g.row_part (wait l.from))) (at_part t (g.row_part (wait l.from))) b < at_part t (g.row_part (wait l.from)) (Burst b)) (sym e) less));
    })

    land_burst : (l : Leg) → Input l → F (bur_of l) ≡ suc (P (bur_of l)) → Lands t (bur_of l)
    land_burst l j x = inr (inl (record {
      column = key l;
      is = refl;
      among = drawn.in_columns l j;
      free = λ b n.
          let (k, q, e, p) = drawn.of_columns (g.column_part (key l)) b n in
          let (c, has) = along k q.0 in
          subst (λ b. at_part t (g.column_part (key l)) (Burst b) ≡ of_column (g.meets (g.column_part (key l))) (at_part t (g.column_part (key l))) b) e
          (column_even (g.column_part (key l)) k c q has p (columns_even L out key home no wait one D here came F P st ties f i.lines i.front l k a c j q h has x));
      meets = λ y n less.
          let (k, q, e, p) = drawn.of_rows (g.column_part (key l)) y n in
          crosses (g.column_part (key l)) y (key l) k l a q j h e refl p
          (row_pends (g.column_part (key l)) k q p
          (subst (λ y. of_row (g.meets (g.column_part (key l))) (at_part t (g.column_part (key l))) y < at_part t (g.column_part (key l)) (Row y)) (sym e) less))
          (omega (arith, x, i.lines.columns l a j h));
    }))
      where
        a : ℕ
        a = (along l j.0).0

        h : Has l a
        h = (along l j.0).1

    land_cross : (l : Leg) → Input l → F (cross_of l) ≡ suc (P (cross_of l)) → Lands t (cross_of l)
    land_cross l j x =
        let (m, k, to) = next_act L out key home no wait one l j in
        let sum : (n : ℕ) → no m.from ≡ n → sum_of (tally same_wire naught (t (Calls n))) (map cross_wire (g.entries n)) ≡ tally same_wire naught (t (Calls n)) (Call n)
        = λ n e. subst (λ n. sum_of (tally same_wire naught (t (Calls n))) (map cross_wire (g.entries n)) ≡ tally same_wire naught (t (Calls n)) (Call n)) e
        (entered_is t m k ∙ cross_lands L out key home no wait one D here came F P st ties f i.lines i.front l m j k to x) in
        inl (map_among cross_wire (g.entries (no l.to)) (crossing l) (drawn.entry l j), sum (no l.to) (ap no to))

    land_call : (m l : Leg) → Act m → Input l → no l.to ≡ no m.from → F (call_of m) ≡ suc (P (call_of m)) → Lands t (call_of m)
    land_call m l j k to x = gate_in (g.entries (no m.from)) (g.begins (no m.from)) (call_of m) (begin_of m) (tally same_wire naught (t (Gate (no m.from)))) (crossing l)
        (subst (λ n. Among (crossing l) (g.entries n)) to (drawn.entry l k)) (omega (arith, call_lands L out key home no wait one D here came F P st ties f i.lines i.front m j x, drawn.starts m j))

    land_begin : (m : Leg) → Act m → F (begin_of m) ≡ suc (P (begin_of m)) → Lands t (begin_of m)
    land_begin m j x = fork_in (spread_outs (no m.from)) (begin_of m) (exit_of m) (tally same_wire naught (t (Spread (no m.from))))
        (among_right (exit_of m) (map (Put (no m.from)) (g.outs (no m.from))) (map (Exit (no m.from)) (g.exits (no m.from))) (map_among (Exit (no m.from)) (g.exits (no m.from)) (wait m.to) (drawn.exit_in m j)))
        (λ o b. elim (among_either o (map (Put (no m.from)) (g.outs (no m.from))) (map (Exit (no m.from)) (g.exits (no m.from))) b) [
          | inl c ↦
              let (a, y, e) = among_map (Put (no m.from)) (g.outs (no m.from)) o c in
              let (n, k, p, has) = drawn.of_outs (no m.from) a y in
              let same : n ≡ m = one.one_no n m k.0 j.0 k.1 j.1 p in
              begin_lands L out key home no wait one D here came F P st ties f i.lines i.front m a j (subst (λ z. Has z a) same has) x
              ∙ ap (tally same_wire naught (t (Spread (no m.from)))) (sym e)
          | inr c ↦
              let (y, a, e) = among_map (Exit (no m.from)) (g.exits (no m.from)) o c in
              let (n, k, p, to) = drawn.of_exits (no m.from) y a in
              let same : n ≡ m = one.one_no n m k.0 j.0 k.1 j.1 p in
              let is : exit_of m ≡ o = ap (Exit (no m.from)) (ap (λ (q : Leg). wait q.to) (sym same) ∙ to) ∙ sym e in
              begin_exits L out key home no wait one D here came F P st ties f i.lines i.front m j x
              ∙ ap (tally same_wire naught (t (Spread (no m.from)))) is
        ])

    land_put : (m : Leg) (a : ℕ) → Act m → Has m a → F (Put (no m.from) a) ≡ suc (P (Put (no m.from) a)) → Lands t (Put (no m.from) a)
    land_put m a j h x =
        let o : out a ≡ true = act_has L out key home no wait one m a j h in
        inl (map_among (λ n. Put n a) (g.givers a) (no m.from) (drawn.giver m a j h), given_is t a o ∙ put_lands L out key home no wait one D here came F P st ties f i.lines i.front m a j h x)

    land_exit : (m : Leg) → Act m → F (exit_of m) ≡ suc (P (exit_of m)) → Lands t (exit_of m)
    land_exit m j x =
        let (l, k, e) = wait_of m j in
        let sum : (y : ℕ) → wait l.from ≡ y → sum_of (tally same_wire naught (t (Returns y))) (map (λ n. Exit n y) (g.returns y)) ≡ tally same_wire naught (t (Returns y)) (Return y)
        = λ y z. subst (λ y. sum_of (tally same_wire naught (t (Returns y))) (map (λ n. Exit n y) (g.returns y)) ≡ tally same_wire naught (t (Returns y)) (Return y)) z
        (left_is t l k ∙ exit_lands L out key home no wait one D here came F P st ties f i.lines i.front m l j k e x) in
        inl (map_among (λ n. Exit n (wait m.to)) (g.returns (wait m.to)) (no m.from) (drawn.back_in m j), sum (wait m.to) (ap wait e))

    land_back : (l m : Leg) → Input l → Act m → m.to ≡ l.from → F (back_of l.from) ≡ suc (P (back_of l.from)) → Lands t (back_of l.from)
    land_back l m j k to x = gate_in (g.returns (wait l.from)) (g.opens (wait l.from)) (back_of l.from) (row_of l.from) (tally same_wire naught (t (Entry (wait l.from)))) (no m.from)
        (subst (λ y. Among (no m.from) (g.returns (wait y))) to (drawn.back_in m k)) (omega (arith, back_lands L out key home no wait one D here came F P st ties f i.lines i.front l j x, drawn.opens l j))

    -- ---- the environment

    -- a symbol that the environment takes part in is the next of the story
    pub story_grows : (a : ℕ) → T (word out (t Env) ++ a ∷ []) → Grows L i.story a i.tale
    story_grows a r = plays.grows i.story a i.tale (subst (λ u. T (u ++ a ∷ [])) i.is r)

    pub fresh : (a : ℕ) (n : Grows L i.story a i.tale) → came a ≡ 0
    fresh a n = omega (arith, n.grown.within a, one.chart.few n.grown.leg a n.grown.among, one_same a a refl)

    -- a leg is completed no less often
    done_more : (a : ℕ) (n : Grows L i.story a i.tale) (l : Leg) → D l ≤ done n.next.past l
    done_more a n l = elim n.grown.how [
      | inl (p, h, c) ↦ omega (arith, ap (λ q. done q l) p)
      | inr (p, h, c, all) ↦ elim (done_one i.tale.past n.grown.leg l) [ inl z ↦ omega (arith, z.1, ap (λ q. done q l) p) | inr z ↦ omega (arith, z.1, ap (λ q. done q l) p) ]
    ]

    send_take : (a : ℕ) → Allowed t (Take a) → Sends t (Take a)
    send_take a (o, r) =
        let n : Grows L i.story a i.tale = story_grows a r in
        let l : Leg = n.grown.leg in
        let j : Input l = (n.grown.among, sym (one.chart.dirs l a n.grown.among n.grown.has) ∙ o) in (
          (l, j, n.grown.has),
          take_free L out key home no wait one D here came F P st ties f i.lines i.front l a j n.grown.has n.grown.from (fresh a n),
          λ u h.
              record {
                story = i.story ++ a ∷ [];
                tale = n.next;
                is = ap (word out) (longer_at t Env (Take a) u h Env refl) ∙ take_end out (t Env) a o ∙ ap (λ v. v ++ a ∷ []) i.is;
                lines = lines_more L out key home no wait (sent net u) P (got net u)
                    (lines_fired L out key home no wait one D F P (Take a) tt (sent net u) i.lines (sent_grew Name Wire net fine t (Take a) u h)) (λ v. omega (arith, got_same Name Wire net fine t (Take a) u h v));
                front = record {
                  gave = told_taken L out one.chart i.story i.tale a n (λ m b. P (Put (no m.from) b)) (λ m b. got net u (Put (no m.from) b)) i.front.gave
                      (λ m b. omega (arith, got_same Name Wire net fine t (Take a) u h (Put (no m.from) b))) o;
                  behind = λ k q. omega (arith, (front_fired L out key home no wait one D F P (Take a) tt here came (sent net u) i.front (sent_grew Name Wire net fine t (Take a) u h)).behind k q, done_more a n k);
                };
              },
        )

    land_give : (m : Leg) (a : ℕ) → Act m → Has m a → F (Give a) ≡ suc (P (Give a)) → Lands t (Give a) × ((u : Name → List Wire) → Longer Name Wire t Env (Give a) u → Held u)
    land_give m a j h x =
        let o : out a ≡ true = act_has L out key home no wait one m a j h in
        let s : Shown L out key home no wait one D here came F P st ties f i.lines i.front a = give_lands L out key home no wait one D here came F P st ties f i.lines i.front a o x in
        let r : T (i.story ++ a ∷ []) = plays.shows i.story a i.tale s.act s.acts.0 s.from s.acts.1 s.has s.none in
        let n : Grows L i.story a i.tale = plays.grows i.story a i.tale r in (
          (o, subst (λ v. T (v ++ a ∷ [])) (sym i.is) r),
          λ u l. record {
            story = i.story ++ a ∷ [];
            tale = n.next;
            is = ap (word out) (longer_at t Env (Give a) u l Env refl) ∙ give_end out (t Env) a o ∙ ap (λ v. v ++ a ∷ []) i.is;
            lines = subst (λ F. Lines L out key home no wait F (got net u)) (sym (fun_ext (sent_same Name Wire net fine t (Give a) u l)))
                (lines_more L out key home no wait F P (got net u) i.lines (grew_le P (Give a) (got net u) (got_grew Name Wire net fine t (Give a) u l)));
            front = record {
              gave = told_given L out one.chart i.story i.tale a n (λ m b. P (Put (no m.from) b)) (λ m b. got net u (Put (no m.from) b)) i.front.gave
                  (λ m b. grew_le P (Give a) (got net u) (got_grew Name Wire net fine t (Give a) u l) (Put (no m.from) b)) s;
              behind = λ k q. omega (arith, i.front.behind k q, done_more a n k, sent_same Name Wire net fine t (Give a) u l (cross_of k));
            };
          },
        )

    -- ---- all wires

    abbrev Takes : Wire → Type 0
    Takes w = Lands t w × ((u : Name → List Wire) → Longer Name Wire t (receiver g w) w u → Held u)

    pub sends : (w : Wire) → Allowed t w → Sends t w
    sends (Take a) r = send_take a r
    sends (Burst b) r =
        let (x, a) = join_some (map Take (g.symbols b)) (Burst b) (Burst b) (tally same_wire naught (t (Join b))) r in
        let (l, j, e) = burst_there b x a in
        subst (λ y. Allowed t (Burst y) → Sends t (Burst y)) e (send_burst l j) r
    sends (Return x) r =
        let (l, m, j, k, to, e) = real_return x (tally same_wire naught (t (Returns x))) r in
        subst (λ y. Allowed t (Return y) → Sends t (Return y)) e (send_back l m j k to) r
    sends (Row x) r =
        let (l, j, e) = row_there x (gate_some (g.returns x) (g.opens x) (Return x) (Row x) (tally same_wire naught (t (Entry x))) (Row x) r) in
        subst (λ y. Allowed t (Row y) → Sends t (Row y)) e (send_row l j) r
    sends (Cross x b n) r =
        let (l, j, e) = real_cross (g.row_part x) x b n (tally same_wire naught (t (Meet (g.row_part x)))) r in
        subst (λ w. Allowed t w → Sends t w) e (send_cross l j) r
    sends (Call n) r =
        let (l, j, z) = real_call n (tally same_wire naught (t (Calls n))) r in
        let (m, k, to) = next_act L out key home no wait one l j in
        subst (λ x. Allowed t (Call x) → Sends t (Call x)) (ap no to ∙ z) (send_call m l k j (ap no (sym to))) r
    sends (Begin n) r =
        let (m, j, z) = begin_there n (gate_some (g.entries n) (g.begins n) (Call n) (Begin n) (tally same_wire naught (t (Gate n))) (Begin n) r) in
        subst (λ x. Allowed t (Begin x) → Sends t (Begin x)) z (send_begin m j) r
    sends (Put n a) r =
        let (m, j, z, h) = real_put n a (fork_out (spread_outs n) (Begin n) (Put n a) (tally same_wire naught (t (Spread n))) (λ e. cc) r).0 in
        subst (λ x. Allowed t (Put x a) → Sends t (Put x a)) z (send_put m a j h) r
    sends (Exit n x) r =
        let (m, j, e) = real_exit n x (fork_out (spread_outs n) (Begin n) (Exit n x) (tally same_wire naught (t (Spread n))) (λ e. cc) r).0 in
        subst (λ w. Allowed t w → Sends t w) e (send_exit m j) r
    sends (Give a) r = let (m, j, h) = real_give a (tally same_wire naught (t (Shows a))) r in send_give m a j h r

    pub lands : (w : Wire) → Real w → F w ≡ suc (P w) → Takes w
    lands (Take a) (l, j, h) x = (land_take l a j h x, λ u k. inner_landed t (Take a) u i (λ e. cc) k)
    lands (Burst b) (l, j, e) x = (
      subst (λ y. F (Burst y) ≡ suc (P (Burst y)) → Lands t (Burst y)) e (land_burst l j) x,
      λ u k. inner_landed t (Burst b) u i (λ e. cc) k,
    )
    lands (Return y) (l, m, j, n, to, e) x = (
      subst (λ y. F (Return y) ≡ suc (P (Return y)) → Lands t (Return y)) e (land_back l m j n to) x,
      λ u k. inner_landed t (Return y) u i (λ e. cc) k,
    )
    lands (Row y) (l, j, e) x = (
      subst (λ y. F (Row y) ≡ suc (P (Row y)) → Lands t (Row y)) e (land_row l j) x,
      λ u k. inner_landed t (Row y) u i (λ e. cc) k,
    )
    lands (Cross y b n) (l, j, e) x = (
      subst (λ w. F w ≡ suc (P w) → Lands t w) e (land_cross l j) x,
      λ u k. inner_landed t (Cross y b n) u i (λ e. cc) k,
    )
    lands (Call n) (l, j, z) x =
        let (m, k, to) = next_act L out key home no wait one l j in (
          subst (λ y. F (Call y) ≡ suc (P (Call y)) → Lands t (Call y)) (ap no to ∙ z) (land_call m l k j (ap no (sym to))) x,
          λ u k. inner_landed t (Call n) u i (λ e. cc) k,
        )
    lands (Begin n) (m, j, z) x = (
      subst (λ y. F (Begin y) ≡ suc (P (Begin y)) → Lands t (Begin y)) z (land_begin m j) x,
      λ u k. inner_landed t (Begin n) u i (λ e. cc) k,
    )
    lands (Put n a) (m, j, z, h) x = (
      subst (λ y. F (Put y a) ≡ suc (P (Put y a)) → Lands t (Put y a)) z (land_put m a j h) x,
      λ u k. inner_landed t (Put n a) u i (λ e. cc) k,
    )
    lands (Exit n y) (m, j, e) x = (
      subst (λ w. F w ≡ suc (P w) → Lands t w) e (land_exit m j) x,
      λ u k. inner_landed t (Exit n y) u i (λ e. cc) k,
    )
    lands (Give a) (m, j, h) x = land_give m a j h x

  held_first : Held (λ n. [])
  held_first = record {
    story = [];
    tale = plays.first;
    is = refl;
    lines = record {
      bursts = λ l a j x. omega arith;
      columns = λ l a j x. omega (arith, sum_nought (in_leg a));
      rows = λ l j. omega (arith, sum_nought (from_at l.from));
      calls = λ m j. omega arith;
      begins = λ m j. omega arith;
      puts = λ m a j x. omega arith;
      exits = λ m j. omega arith;
      backs = λ l j. omega arith;
      gates = λ l j. omega arith;
      gives = λ a o. omega arith;
    };
    front = record {
      gave = record {
        told = λ m a j x. omega (arith, ap (λ p. done p m) plays.first_past);
        ahead = λ m a j x e. omega (arith, ap (λ p. done p m) plays.first_past, ap (times a) plays.first_came);
      };
      behind = λ l j. omega arith;
    };
  }
    where
      sum_nought : (test : Leg → Bool) → sum_where L test (λ l. 0) ≡ 0
      sum_nought test = sum_none L test (λ l. 0) (λ l a. refl)

  pub tends : Tends Name Wire net Real Held
  tends = record {
    begins = held_first;
    sends = λ t w f i r. sends t f i w r;
    lands = λ t w f i x e. lands t f i w x e;
  }

  pub sound : WebSound net
  sound = web_sound Name Wire net Real Held fine tends
