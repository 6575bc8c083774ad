-- Which wires of the web of a process by a token are on one path.
use Rattle.std.proofs.Common.{◌≡◌, inl, inr, ℕ, zero, suc, ◌+◌, ◌<◌, ◌≤◌, Bool, true, false, true≢false, List, [], ◌∷◌, ◌++◌, map, refl, sym, ap, ◌∙◌, subst, arith}
use Rattle.std.proofs.lemmas.Bool.{cases_Bool}
use Rattle.cmd_tree.specs.Rounds.{tally, naught}
use Rattle.place_graph.specs.declared.leg.Leg.{Leg}
use Rattle.place_graph.specs.declared.wait_graph.Cross.{Cross as Crossing}
use Rattle.place_graph.specs.Points.{Among as Member}
use Rattle.place_graph.specs.Chart.{Has, Plays}
use Rattle.net_laws.proofs.Webs.{Web}
use Rattle.net_laws.proofs.Paths.{Hop}
use Rattle.net_laws.proofs.Among.{Among, Distinct}
use Rattle.plain_split.specs.SharedPaths.{walk}
use Rattle.plain_split.specs.OneWait.{many, first}
use Rattle.plain_split.proofs.SharedPaths.{Onward, Backward, walk_stop, walk_on, near, near_kept}
use Rattle.plain_split.proofs.OneWaitWeb.{MergeOn}
use Rattle.plain_split.proofs.OneWaitCounts.{some_symbol}
use Rattle.plain_split.proofs.OneWaitRoutes.{only_one, Through, rounds_one, merge_through}
use Rattle.token_split.specs.TokenChart.{Wire, Take, Burst, Return, Row, Cross, Call, Begin, Put, Exit, Give, Name, Env, Join, Meet, Calls, Gate, Spread, Returns, Entry, Shows, Links, same_wire, driver, receiver, is_kept, next, rest, cross_wire}
use Rattle.token_split.proofs.TokenWeb.{GateOn, JoinOn, web}
use Rattle.token_split.proofs.TokenCounts.{Numbered, Acts, Inputs, next_act, next_wait}
use Rattle.token_split.proofs.TokenTraces.{Drawn, Real, crossing, cross_of}

-- the lists of the links are those of the legs, each without repetition
pub record Listed (L : List Leg) (out : ℕ → Bool) (g : Links) (key : Leg → ℕ) (home no wait : ℕ → ℕ) : Type 0 where
  pub key_low : (l : Leg) → Inputs L out key home no wait l → key l < g.bursts
  pub low_key : (b : ℕ) → b < g.bursts → (l : Leg) × Inputs L out key home no wait l × (key l ≡ b)
  pub no_low : (m : Leg) → Acts L out key home no wait m → no m.from < g.acts
  pub low_no : (n : ℕ) → n < g.acts → (m : Leg) × Acts L out key home no wait m × (no m.from ≡ n)
  pub wait_low : (l : Leg) → Inputs L out key home no wait l → wait l.from < g.waits
  pub low_wait : (x : ℕ) → x < g.waits → (l : Leg) × Inputs L out key home no wait l × (wait l.from ≡ x)
  pub has_low : (l : Leg) (a : ℕ) → Member L l → Has l a → a < g.names
  pub low_has : (a : ℕ) → a < g.names → (l : Leg) × Member L l × Has l a
  pub in_parts : (l : Leg) → Inputs L out key home no wait l → Among (g.row_part (wait l.from)) g.parts
  pub of_parts : (i : ℕ) → Among i g.parts → (l : Leg) × Inputs L out key home no wait l × (g.row_part (wait l.from) ≡ i)
  pub symbols_once : (b : ℕ) → Distinct (g.symbols b)
  pub entries_once : (n : ℕ) → Distinct (g.entries n)
  pub outs_once : (n : ℕ) → Distinct (g.outs n)
  pub exits_once : (n : ℕ) → Distinct (g.exits n)
  pub returns_once : (x : ℕ) → Distinct (g.returns x)
  pub givers_once : (a : ℕ) → Distinct (g.givers a)
  pub parts_once : Distinct g.parts
  pub rows_once : (i : ℕ) → Distinct (g.rows i)
  pub columns_once : (i : ℕ) → Distinct (g.columns i)
  pub meets_once : (i : ℕ) → Distinct (g.meets i)
  -- an act, and a wait, at which the process does not begin is led to
  pub entered : (m : Leg) → Acts L out key home no wait m → g.begins (no m.from) ≡ false → (l : Leg) × Inputs L out key home no wait l × (no l.to ≡ no m.from)
  pub returned : (l : Leg) → Inputs L out key home no wait l → g.opens (wait l.from) ≡ false → (m : Leg) × Acts L out key home no wait m × (m.to ≡ l.from)

pub one_entry : (ks : List Crossing) (k : Crossing) → many (map (λ k. k.burst) ks) ≡ false → Among k ks → ks ≡ k ∷ []
one_entry [] k h a = absurd a
one_entry (x ∷ []) k h (inl e) = ap (λ z. z ∷ []) (sym e)
one_entry (x ∷ []) k h (inr a) = absurd a
one_entry (x ∷ y ∷ ks) k h a = absurd (true≢false h)

pub many_both : (xs ys : List ℕ) (x y : ℕ) → Among x xs → Among y ys → many (xs ++ ys) ≡ true
many_both [] ys x y a b = absurd a
many_both (z ∷ []) [] x y a b = absurd b
many_both (z ∷ []) (w ∷ ys) x y a b = refl
many_both (z ∷ w ∷ xs) ys x y a b = refl

join_through : (is : List Wire) (x y : Wire) → is ≡ x ∷ [] → (x ≡ y → ⊥) → Through (JoinOn is y) x y
join_through is x y e apart = subst (λ i. Through (JoinOn i y) x y) (sym e) (rounds_one x y apart)

gate_through : {A : Type 0} (xs : List A) (b : Bool) (i o : Wire) (x : A) → Among x xs → b ≡ false → (i ≡ o → ⊥) → Through (GateOn xs b i o) i o
gate_through [] b i o x a e apart = absurd a
gate_through (y ∷ xs) true i o x a e apart = absurd (true≢false e)
gate_through (y ∷ xs) false i o x a e apart = rounds_one i o apart

-- ---- one step on a path

abbrev pub back : Wire → ℕ
back (Take a) = 0
back (Burst b) = 1
back (Return x) = 1
back (Row x) = 2
back (Cross x b n) = 0
back (Call n) = 1
back (Begin n) = 2
back (Put n a) = 0
back (Exit n x) = 0
back (Give a) = 1

abbrev pub first_cross : List Crossing → Wire
first_cross [] = Cross 0 0 0
first_cross (k ∷ ks) = cross_wire k

abbrev pub prev : Links → Wire → Wire
prev g (Take a) = Take a
prev g (Burst b) = Take (first (g.symbols b))
prev g (Return x) = Exit (first (g.returns x)) x
prev g (Row x) = Return x
prev g (Cross x b n) = Cross x b n
prev g (Call n) = first_cross (g.entries n)
prev g (Begin n) = Call n
prev g (Put n a) = Put n a
prev g (Exit n x) = Exit n x
prev g (Give a) = Put (first (g.givers a)) a

module _ (L : List Leg) (out : ℕ → Bool) (T : List ℕ → Type 0) (g : Links) (key : Leg → ℕ) (home no wait : ℕ → ℕ) (one : Numbered L out key home no wait) (plays : Plays L T)
    (drawn : Drawn L out g key home no wait) (listed : Listed L out g key home no wait) where
  abbrev pub d : Web Name Wire
  d = web g out T

  abbrev pub There : Wire → Type 0
  There w = Real L out T g key home no wait one plays drawn w

  abbrev pub Forth : Wire → Type 0
  Forth w = Onward Name Wire d (is_kept g) There back rest (next g) (prev g) w

  abbrev pub Back : Wire → Type 0
  Back w = Backward Name Wire d There back rest (next g) (prev g) w

  hop_of : (x y : Wire) → driver g y ≡ receiver g x → is_kept g (receiver g x) ≡ false → (R : (Wire → ℕ) → Wire → Type 0)
      → ((t : List Wire) (w : Wire) → d.rule (receiver g x) t w → R (tally same_wire naught t) w) → ((t : List Wire) (w : Wire) → R (tally same_wire naught t) w → d.rule (receiver g x) t w)
      → Through R x y → Hop Name Wire d (λ n. is_kept g n ≡ true) x y
  hop_of x y joins out R there back through = record {
    joins = joins;
    inner = λ e. true≢false (sym e ∙ out);
    takes = λ t r. through.takes (tally same_wire naught t) (there t x r);
    gives = λ t less. back t y (through.gives (tally same_wire naught t) less);
    passed = λ t r. through.passed (tally same_wire naught t) (there t y r);
  }

  -- the lists of one element
  symbols_at : (b a : ℕ) (l : Leg) → Inputs L out key home no wait l → Has l a → key l ≡ b → many (g.symbols b) ≡ false → g.symbols b ≡ a ∷ []
  symbols_at b a l j h e lone = only_one (g.symbols b) a lone (subst (λ x. Among a (g.symbols x)) e (drawn.in_burst l a j h))

  entries_at : (n : ℕ) (l : Leg) → Inputs L out key home no wait l → no l.to ≡ n → many (map (λ k. k.burst) (g.entries n)) ≡ false
      → g.entries n ≡ crossing L out T g key home no wait one plays drawn l ∷ []
  entries_at n l j e lone = one_entry (g.entries n) (crossing L out T g key home no wait one plays drawn l) lone
      (subst (λ x. Among (crossing L out T g key home no wait one plays drawn l) (g.entries x)) e (drawn.entry l j))

  returns_at : (x : ℕ) (m : Leg) → Acts L out key home no wait m → wait m.to ≡ x → many (g.returns x) ≡ false → g.returns x ≡ no m.from ∷ []
  returns_at x m j e lone = only_one (g.returns x) (no m.from) lone (subst (λ x. Among (no m.from) (g.returns x)) e (drawn.back_in m j))

  givers_at : (n a : ℕ) (m : Leg) → Acts L out key home no wait m → Has m a → no m.from ≡ n → many (g.givers a) ≡ false → g.givers a ≡ n ∷ []
  givers_at n a m j h e lone = only_one (g.givers a) n lone (subst (λ x. Among x (g.givers a)) e (drawn.giver m a j h))

  -- the FORK of an act has an output and an exit
  spread_kept : (n : ℕ) (m : Leg) → Acts L out key home no wait m → no m.from ≡ n → is_kept g (Spread n) ≡ true
  spread_kept n m j e =
      let (a, h) = some_symbol m (one.chart.some m j.0) in
      subst (λ n. is_kept g (Spread n) ≡ true) e (many_both (g.outs (no m.from)) (g.exits (no m.from)) a (wait m.to) (drawn.put_out m a j h) (drawn.exit_in m j))

  pub onward : (w : Wire) → There w → is_kept g (receiver g w) ≡ false → Forth w
  onward (Take a) (l, j, h) e =
      let home_is : key l ≡ g.home a = sym (drawn.home_is l a j h) in
      let sole : g.symbols (g.home a) ≡ a ∷ [] = symbols_at (g.home a) a l j h home_is e in record {
        there = (l, j, home_is);
        joins = refl;
        returns = ap (λ xs. Take (first xs)) sole;
        further = refl;
        nearer = refl;
        hop = hop_of (Take a) (Burst (g.home a)) refl e (JoinOn (map Take (g.symbols (g.home a))) (Burst (g.home a))) (λ t w r. r) (λ t w r. r)
            (join_through (map Take (g.symbols (g.home a))) (Take a) (Burst (g.home a)) (ap (map Take) sole) (λ e. cc));
      }
  onward (Burst b) t lone = absurd (true≢false lone)
  onward (Return x) (l, m, j, k, to, e) shut = record {
    there = (l, j, e);
    joins = refl;
    returns = refl;
    further = refl;
    nearer = refl;
    hop = hop_of (Return x) (Row x) refl shut (GateOn (g.returns x) (g.opens x) (Return x) (Row x)) (λ t w r. r) (λ t w r. r)
        (gate_through (g.returns x) (g.opens x) (Return x) (Row x) (no m.from) (subst (λ y. Among (no m.from) (g.returns y)) (ap wait to ∙ e) (drawn.back_in m k)) shut (λ e. cc));
  }
  onward (Row x) t lone = absurd (true≢false lone)
  onward (Cross x b n) (l, j, e) lone =
      let z : no l.to ≡ n = cc in
      let sole : g.entries n ≡ crossing L out T g key home no wait one plays drawn l ∷ [] = entries_at n l j z lone in record {
        there = (l, j, z);
        joins = refl;
        returns = ap first_cross sole ∙ e;
        further = refl;
        nearer = refl;
        hop = hop_of (Cross x b n) (Call n) refl lone (MergeOn (map cross_wire (g.entries n)) (Call n)) (λ t w r. r) (λ t w r. r)
            (merge_through (map cross_wire (g.entries n)) (Cross x b n) (Call n) (ap (map cross_wire) sole ∙ ap (λ w. w ∷ []) e) (λ e. cc));
      }
  onward (Call n) (l, j, z) shut =
      let (m, k, to) = next_act L out key home no wait one l j in record {
        there = (m, k, ap no to ∙ z);
        joins = refl;
        returns = refl;
        further = refl;
        nearer = refl;
        hop = hop_of (Call n) (Begin n) refl shut (GateOn (g.entries n) (g.begins n) (Call n) (Begin n)) (λ t w r. r) (λ t w r. r)
            (gate_through (g.entries n) (g.begins n) (Call n) (Begin n) (crossing L out T g key home no wait one plays drawn l)
            (subst (λ x. Among (crossing L out T g key home no wait one plays drawn l) (g.entries x)) z (drawn.entry l j)) shut (λ e. cc));
      }
  onward (Begin n) (m, j, z) lone = absurd (true≢false (sym (spread_kept n m j z) ∙ lone))
  onward (Put n a) (m, j, z, h) lone =
      let sole : g.givers a ≡ n ∷ [] = givers_at n a m j h z lone in record {
        there = (m, j, h);
        joins = refl;
        returns = ap (λ xs. Put (first xs) a) sole;
        further = refl;
        nearer = refl;
        hop = hop_of (Put n a) (Give a) refl lone (MergeOn (map (λ n. Put n a) (g.givers a)) (Give a)) (λ t w r. r) (λ t w r. r)
            (merge_through (map (λ n. Put n a) (g.givers a)) (Put n a) (Give a) (ap (map (λ n. Put n a)) sole) (λ e. cc));
      }
  onward (Exit n x) (m, j, e) lone =
      let y : no m.from ≡ n = cc in
      let z : wait m.to ≡ x = cc in
      let (l, k, from) = next_wait L out key home no wait one m j in
      let sole : g.returns x ≡ n ∷ [] = returns_at x m j z lone ∙ ap (λ i. i ∷ []) y in record {
        there = (l, m, k, j, sym from, ap wait from ∙ z);
        joins = refl;
        returns = ap (λ xs. Exit (first xs) x) sole;
        further = refl;
        nearer = refl;
        hop = hop_of (Exit n x) (Return x) refl lone (MergeOn (map (λ n. Exit n x) (g.returns x)) (Return x)) (λ t w r. r) (λ t w r. r)
            (merge_through (map (λ n. Exit n x) (g.returns x)) (Exit n x) (Return x) (ap (map (λ n. Exit n x)) sole) (λ e. cc));
      }
  onward (Give a) t lone = absurd (true≢false lone)

  pub backward : (w : Wire) → There w → is_kept g (driver g w) ≡ false → Back w
  backward (Take a) t lone = absurd (true≢false lone)
  backward (Burst b) (l, j, e) lone =
      let (a, h) = some_symbol l (one.chart.some l j.0) in
      let is : first (g.symbols b) ≡ a = ap first (symbols_at b a l j h e lone) in
      let home_is : g.home (first (g.symbols b)) ≡ b = ap g.home is ∙ drawn.home_is l a j h ∙ e in record {
        there = (l, j, subst (λ x. Has l x) (sym is) h);
        joins = ap Join home_is;
        returns = ap Burst home_is;
        further = refl;
        nearer = refl;
      }
  backward (Return x) (l, m, j, k, to, e) lone = record {
    there = (m, k, ap (λ i. Exit i (wait m.to)) (sym (ap first (returns_at x m k (ap wait to ∙ e) lone))) ∙ ap (Exit (first (g.returns x))) (ap wait to ∙ e));
    joins = refl;
    returns = refl;
    further = refl;
    nearer = refl;
  }
  backward (Row x) (l, j, e) lone =
      let (m, k, to) = listed.returned l j (ap g.opens e ∙ lone) in record {
        there = (l, m, j, k, to, e);
        joins = refl;
        returns = refl;
        further = refl;
        nearer = refl;
      }
  backward (Cross x b n) t lone = absurd (true≢false lone)
  backward (Call n) (l, j, z) lone =
      let is : first_cross (g.entries n) ≡ cross_of L out T g key home no wait one plays drawn l = ap first_cross (entries_at n l j z lone) in record {
        there = subst There (sym is) (l, j, refl);
        joins = ap (receiver g) is ∙ ap Calls z;
        returns = ap (next g) is ∙ ap Call z;
        further = ap (λ w. suc (back w)) (sym is);
        nearer = ap rest is;
      }
  backward (Begin n) (m, j, z) lone =
      let (l, k, to) = listed.entered m j (ap g.begins z ∙ lone) in record {
        there = (l, k, to ∙ z);
        joins = refl;
        returns = refl;
        further = refl;
        nearer = refl;
      }
  backward (Put n a) (m, j, z, h) lone = absurd (true≢false (sym (spread_kept n m j z) ∙ lone))
  backward (Exit n x) (m, j, e) lone = let z : no m.from ≡ n = cc in absurd (true≢false (sym (spread_kept n m j z) ∙ lone))
  backward (Give a) (m, j, h) lone = record {
    there = (m, j, sym (ap first (givers_at (no m.from) a m j h refl lone)), h);
    joins = refl;
    returns = refl;
    further = refl;
    nearer = refl;
  }

  -- ---- no wire of the network leads from a node to itself: the nodes of a path have rising numbers

  abbrev code : Name → ℕ
  code Env = 0
  code (Join b) = 1
  code (Meet i) = 10
  code (Calls n) = 11
  code (Gate n) = 12
  code (Spread n) = 20
  code (Returns x) = 21
  code (Entry x) = 22
  code (Shows a) = 21

  abbrev outset : Wire → ℕ
  outset (Take a) = 0
  outset (Burst b) = 0
  outset (Return x) = 20
  outset (Row x) = 20
  outset (Cross x b n) = 10
  outset (Call n) = 10
  outset (Begin n) = 10
  outset (Put n a) = 20
  outset (Exit n x) = 20
  outset (Give a) = 20

  code_driver : (w : Wire) → code (driver g w) ≡ outset w + back w
  code_driver (Take a) = refl
  code_driver (Burst b) = refl
  code_driver (Return x) = refl
  code_driver (Row x) = refl
  code_driver (Cross x b n) = refl
  code_driver (Call n) = refl
  code_driver (Begin n) = refl
  code_driver (Put n a) = refl
  code_driver (Exit n x) = refl
  code_driver (Give a) = refl

  outset_first : (ks : List Crossing) → outset (first_cross ks) ≡ 10
  outset_first [] = refl
  outset_first (k ∷ ks) = refl

  outset_prev : (w : Wire) → outset (prev g w) ≡ outset w
  outset_prev (Take a) = refl
  outset_prev (Burst b) = refl
  outset_prev (Return x) = refl
  outset_prev (Row x) = refl
  outset_prev (Cross x b n) = refl
  outset_prev (Call n) = outset_first (g.entries n)
  outset_prev (Begin n) = refl
  outset_prev (Put n a) = refl
  outset_prev (Exit n x) = refl
  outset_prev (Give a) = refl

  abbrev begun : Wire → Bool
  begun w = is_kept g (driver g w)

  outset_walk : (k : ℕ) (w : Wire) → outset (walk begun (prev g) k w) ≡ outset w
  outset_walk zero w = refl
  outset_walk (suc k) w = elim (cases_Bool (begun w)) [
    | inl b ↦ ap outset (walk_stop begun (prev g) (suc k) w b)
    | inr b ↦ ap outset (walk_on begun (prev g) k w b) ∙ outset_walk k (prev g w) ∙ outset_prev w
  ]

  abbrev front : Wire → Wire
  front w = near Name Wire d (is_kept g) There back rest (next g) (prev g) onward backward w

  -- the number of the first node of the path of a wire
  code_front : (w : Wire) → There w → (code (driver g (front w)) ≡ outset w + back (front w)) × (back (front w) ≤ back w)
  code_front w t =
      let (x, k, low) = near_kept Name Wire d (is_kept g) There back rest (next g) (prev g) onward backward w t in
      (code_driver (front w) ∙ ap (λ n. n + back (front w)) (outset_walk (back w) w), low)

  pub apart_at : (w : Wire) → There w → driver g (front w) ≡ receiver g w → ⊥
  apart_at (Take a) t e = omega (arith, code_front (Take a) t, ap code e)
  apart_at (Burst b) t e = omega (arith, code_front (Burst b) t, ap code e)
  apart_at (Return x) t e = omega (arith, code_front (Return x) t, ap code e)
  apart_at (Row x) t e = omega (arith, code_front (Row x) t, ap code e)
  apart_at (Cross x b n) t e = omega (arith, code_front (Cross x b n) t, ap code e)
  apart_at (Call n) t e = omega (arith, code_front (Call n) t, ap code e)
  apart_at (Begin n) t e = omega (arith, code_front (Begin n) t, ap code e)
  apart_at (Put n a) t e = omega (arith, code_front (Put n a) t, ap code e)
  apart_at (Exit n x) t e = omega (arith, code_front (Exit n x) t, ap code e)
  apart_at (Give a) t e = omega (arith, code_front (Give a) t, ap code e)
