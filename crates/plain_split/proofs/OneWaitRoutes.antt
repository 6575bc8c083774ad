-- Which wires of the web of one wait are on one path.
use Rattle.std.proofs.Common.{◌≡◌, inl, inr, ℕ, suc, ◌<◌, Bool, true, false, true≢false, List, [], ◌∷◌, map, refl, sym, ap, ◌∙◌, subst, arith}
use Rattle.std.specs.Prelude.{not, ◌&&◌, ◌||◌}
use Rattle.std.proofs.lemmas.Bool.{cases_Bool}
use Rattle.cmd_tree.specs.Rounds.{tally, naught}
use Rattle.place_graph.specs.declared.leg.Leg.{Leg}
use Rattle.place_graph.specs.Points.{Among as Member}
use Rattle.place_graph.specs.Chart.{Has, Plays}
use Rattle.net_laws.proofs.Webs.{Web}
use Rattle.net_laws.proofs.Paths.{Hop}
use Rattle.net_laws.proofs.Among.{Among, Distinct}
use Rattle.net_laws.proofs.Rules.{RoundsOn}
use Rattle.plain_split.specs.SharedPaths.{walk}
use Rattle.plain_split.specs.OneWait.{Wire, Take, Burst, Call, Begin, Put, Give, Name, Env, Join, Links, same_wire, driver, receiver, many, first, is_direct, is_kept, next, rest}
use Rattle.plain_split.proofs.SharedPaths.{Onward, Backward, walk_stop, walk_on}
use Rattle.plain_split.proofs.OneWaitWeb.{MergeOn, GateOn, SpreadOn, web}
use Rattle.plain_split.proofs.OneWaitCounts.{IsOneWait, some_symbol, Acts, Inputs, next_act}
use Rattle.plain_split.proofs.OneWaitTraces.{Drawn, Real}

-- the lists of the links are those of the legs, each without repetition
pub record Listed (L : List Leg) (out : ℕ → Bool) (g : Links) (key : Leg → ℕ) (no : ℕ → ℕ) : Type 0 where
  pub key_low : (l : Leg) → Inputs L out key no l → key l < g.bursts
  pub low_key : (b : ℕ) → b < g.bursts → (l : Leg) × Inputs L out key no l × (key l ≡ b)
  pub no_low : (m : Leg) → Acts L out key no m → no m.from < g.acts
  pub low_no : (n : ℕ) → n < g.acts → (m : Leg) × Acts L out key no m × (no m.from ≡ n)
  pub has_low : (l : Leg) (a : ℕ) → Member L l → Has l a → a < g.names
  pub low_has : (a : ℕ) → a < g.names → (l : Leg) × Member L l × Has l a
  pub symbols_once : (b : ℕ) → Distinct (g.symbols b)
  pub entries_once : (n : ℕ) → Distinct (g.entries n)
  pub outs_once : (n : ℕ) → Distinct (g.outs n)
  pub givers_once : (a : ℕ) → Distinct (g.givers a)
  pub lead_one : (l : Leg) → Inputs L out key no l → g.leads (key l) ≡ no l.to ∷ []
  -- an act at which the process does not begin has an entry
  pub entered : (m : Leg) → Acts L out key no m → g.begins (no m.from) ≡ false → (l : Leg) × Inputs L out key no l × (no l.to ≡ no m.from)

pub only_one : (xs : List ℕ) (x : ℕ) → many xs ≡ false → Among x xs → xs ≡ x ∷ []
only_one [] x h a = absurd a
only_one (y ∷ []) x h (inl e) = ap (λ z. z ∷ []) (sym e)
only_one (y ∷ []) x h (inr a) = absurd a
only_one (y ∷ z ∷ xs) x h a = absurd (true≢false h)

or_false : (a b : Bool) → (a || b) ≡ false → (a ≡ false) × (b ≡ false)
or_false true b h = absurd (true≢false h)
or_false false b h = (refl, h)

-- ---- nodes of width 1

pub record Through {W : Type 0} (R : (W → ℕ) → W → Type 0) (x y : W) : Type 0 where
  pub takes : (c : W → ℕ) → R c x → c x ≡ c y
  pub gives : (c : W → ℕ) → c y < c x → R c y
  pub passed : (c : W → ℕ) → R c y → c y < c x

pub rounds_one : {W : Type 0} (x y : W) → (x ≡ y → ⊥) → Through (RoundsOn (x ∷ []) (y ∷ [])) x y
rounds_one {W = W} x y apart = record { takes = takes; gives = λ c less. inr (inl refl, (less, tt)); passed = passed }
  where
    takes : (c : W → ℕ) → RoundsOn (x ∷ []) (y ∷ []) c x → c x ≡ c y
    takes c (inl (a, all)) = all.0
    takes c (inr (inl e, all)) = absurd (apart e)
    takes c (inr (inr e, all)) = absurd e

    passed : (c : W → ℕ) → RoundsOn (x ∷ []) (y ∷ []) c y → c y < c x
    passed c (inl (inl e, all)) = absurd (apart (sym e))
    passed c (inl (inr e, all)) = absurd e
    passed c (inr (a, all)) = all.0

pub rounds_through : {W : Type 0} (ins outs : List W) (x y : W) → ins ≡ x ∷ [] → outs ≡ y ∷ [] → (x ≡ y → ⊥) → Through (RoundsOn ins outs) x y
rounds_through ins outs x y e f apart =
    subst (λ i. Through (RoundsOn i outs) x y) (sym e) (subst (λ o. Through (RoundsOn (x ∷ []) o) x y) (sym f) (rounds_one x y apart))

merge_one : {W : Type 0} (x y : W) → (x ≡ y → ⊥) → Through (MergeOn (x ∷ []) y) x y
merge_one {W = W} x y apart = record { takes = takes; gives = λ c less. inr (refl, omega (arith, less)); passed = passed }
  where
    takes : (c : W → ℕ) → MergeOn (x ∷ []) y c x → c x ≡ c y
    takes c (inl (a, e)) = omega (arith, e)
    takes c (inr (e, less)) = absurd (apart e)

    passed : (c : W → ℕ) → MergeOn (x ∷ []) y c y → c y < c x
    passed c (inl (inl e, z)) = absurd (apart (sym e))
    passed c (inl (inr e, z)) = absurd e
    passed c (inr (e, less)) = omega (arith, less)

pub merge_through : {W : Type 0} (ins : List W) (x y : W) → ins ≡ x ∷ [] → (x ≡ y → ⊥) → Through (MergeOn ins y) x y
merge_through ins x y e apart = subst (λ i. Through (MergeOn i y) x y) (sym e) (merge_one x y apart)

gate_through : (bs : List ℕ) (b : Bool) (n x : ℕ) → Among x bs → b ≡ false → Through (GateOn bs b n) (Call n) (Begin n)
gate_through [] b n x a e = absurd a
gate_through (y ∷ bs) true n x a e = absurd (true≢false e)
gate_through (y ∷ bs) false n x a e = rounds_one (Call n) (Begin n) (λ e. cc)

spread_through : (rest : List ℕ) (n a : ℕ) → rest ≡ a ∷ [] → Through (SpreadOn rest n) (Begin n) (Put n a)
spread_through rest n a e = subst (λ r. Through (SpreadOn r n) (Begin n) (Put n a)) (sym e) (rounds_one (Begin n) (Put n a) (λ e. cc))

-- ---- one step on a path

abbrev pub back : Wire → ℕ
back (Take a) = 0
back (Burst b n) = 1
back (Call n) = 2
back (Begin n) = 3
back (Put n a) = 4
back (Give a) = 5

abbrev pub prev : Links → Wire → Wire
prev g (Take a) = Take a
prev g (Burst b n) = Take (first (g.symbols b))
prev g (Call n) = Burst (first (g.entries n)) n
prev g (Begin n) = Call n
prev g (Put n a) = Begin n
prev g (Give a) = Put (first (g.givers a)) a

module _ (L : List Leg) (out : ℕ → Bool) (T : List ℕ → Type 0) (g : Links) (key : Leg → ℕ) (no : ℕ → ℕ) (one : IsOneWait L out) (plays : Plays L T) (drawn : Drawn L out g key no)
    (listed : Listed L out g key no) where
  abbrev pub d : Web Name Wire
  d = web g out T

  abbrev pub There : Wire → Type 0
  There w = Real L out T g key no one plays drawn w

  abbrev pub Forth : Wire → Type 0
  Forth w = Onward Name Wire d (is_kept g) There back rest (next g) (prev g) w

  abbrev pub Back : Wire → Type 0
  Back w = Backward Name Wire d There back rest (next g) (prev g) w

  hop_of : (x y : Wire) → driver y ≡ receiver g x → is_kept g (receiver g x) ≡ false → (R : (Wire → ℕ) → Wire → Type 0)
      → ((t : List Wire) (w : Wire) → d.rule (receiver g x) t w → R (tally same_wire naught t) w) → ((t : List Wire) (w : Wire) → R (tally same_wire naught t) w → d.rule (receiver g x) t w)
      → Through R x y → Hop Name Wire d (λ n. is_kept g n ≡ true) x y
  hop_of x y joins out R there back through = record {
    joins = joins;
    inner = λ e. true≢false (sym e ∙ out);
    takes = λ t r. through.takes (tally same_wire naught t) (there t x r);
    gives = λ t less. back t y (through.gives (tally same_wire naught t) less);
    passed = λ t r. through.passed (tally same_wire naught t) (there t y r);
  }

  -- the lists of one element
  symbols_at : (b a : ℕ) (l : Leg) → Inputs L out key no l → Has l a → key l ≡ b → many (g.symbols b) ≡ false → g.symbols b ≡ a ∷ []
  symbols_at b a l j h e out = only_one (g.symbols b) a out (subst (λ x. Among a (g.symbols x)) e (drawn.in_burst l a j h))

  entries_at : (n : ℕ) (l : Leg) → Inputs L out key no l → no l.to ≡ n → many (g.entries n) ≡ false → g.entries n ≡ key l ∷ []
  entries_at n l j e out = only_one (g.entries n) (key l) out (subst (λ x. Among (key l) (g.entries x)) e (drawn.entry l j))

  outs_at : (n a : ℕ) (m : Leg) → Acts L out key no m → Has m a → no m.from ≡ n → many (g.outs n) ≡ false → g.outs n ≡ a ∷ []
  outs_at n a m j h e out = only_one (g.outs n) a out (subst (λ x. Among a (g.outs x)) e (drawn.put_out m a j h))

  givers_at : (n a : ℕ) (m : Leg) → Acts L out key no m → Has m a → no m.from ≡ n → many (g.givers a) ≡ false → g.givers a ≡ n ∷ []
  givers_at n a m j h e out = only_one (g.givers a) n out (subst (λ x. Among x (g.givers a)) e (drawn.giver m a j h))

  leads_at : (b : ℕ) (l : Leg) → Inputs L out key no l → key l ≡ b → g.leads b ≡ no l.to ∷ []
  leads_at b l j e = ap g.leads (sym e) ∙ listed.lead_one l j

  pub onward : (w : Wire) → There w → is_kept g (receiver g w) ≡ false → Forth w
  onward (Take a) (l, j, h) e =
      let home : key l ≡ g.home a = sym (drawn.home l a j h) in
      let to : first (g.leads (g.home a)) ≡ no l.to = ap first (leads_at (g.home a) l j home) in
      let sole : g.symbols (g.home a) ≡ a ∷ [] = symbols_at (g.home a) a l j h home e in record {
        there = (l, j, home, sym to);
        joins = refl;
        returns = ap (λ xs. Take (first xs)) sole;
        further = refl;
        nearer = refl;
        hop = hop_of (Take a) (Burst (g.home a) (first (g.leads (g.home a)))) refl e (RoundsOn (map Take (g.symbols (g.home a))) (map (Burst (g.home a)) (g.leads (g.home a))))
            (λ t w r. r) (λ t w r. r)
            (rounds_through (map Take (g.symbols (g.home a))) (map (Burst (g.home a)) (g.leads (g.home a))) (Take a) (Burst (g.home a) (first (g.leads (g.home a))))
            (ap (map Take) sole)
            (ap (map (Burst (g.home a))) (leads_at (g.home a) l j home) ∙ ap (λ n. Burst (g.home a) n ∷ []) (sym to)) (λ e. cc));
      }
  onward (Burst b n) (l, j, e, z) out =
      let sole : g.entries n ≡ b ∷ [] = entries_at n l j z out ∙ ap (λ x. x ∷ []) e in record {
        there = (l, j, z);
        joins = refl;
        returns = ap (λ xs. Burst (first xs) n) sole;
        further = refl;
        nearer = refl;
        hop = hop_of (Burst b n) (Call n) refl out (MergeOn (map (λ b. Burst b n) (g.entries n)) (Call n)) (λ t w r. r) (λ t w r. r)
            (merge_through (map (λ b. Burst b n) (g.entries n)) (Burst b n) (Call n) (ap (map (λ b. Burst b n)) sole) (λ e. cc));
      }
  onward (Call n) (l, j, z) shut =
      let (m, k, to) = next_act L out key no one l j in record {
        there = (m, k, ap no to ∙ z);
        joins = refl;
        returns = refl;
        further = refl;
        nearer = refl;
        hop = hop_of (Call n) (Begin n) refl shut (GateOn (g.entries n) (g.begins n) n) (λ t w r. r) (λ t w r. r)
            (gate_through (g.entries n) (g.begins n) n (key l) (subst (λ x. Among (key l) (g.entries x)) z (drawn.entry l j)) shut);
      }
  onward (Begin n) (m, j, z) out =
      let (a, h) = some_symbol m (one.chart.some m j.0) in
      let sole : g.outs n ≡ a ∷ [] = outs_at n a m j h z out in
      let is : first (g.outs n) ≡ a = ap first sole in record {
        there = (m, j, z, subst (λ x. Has m x) (sym is) h);
        joins = refl;
        returns = refl;
        further = refl;
        nearer = refl;
        hop = hop_of (Begin n) (Put n (first (g.outs n))) refl out (SpreadOn (g.outs n) n) (λ t w r. r) (λ t w r. r)
            (spread_through (g.outs n) n (first (g.outs n)) (sole ∙ ap (λ x. x ∷ []) (sym is)));
      }
  onward (Put n a) (m, j, z, h) out =
      let sole : g.givers a ≡ n ∷ [] = givers_at n a m j h z (or_false (many (g.givers a)) (is_direct g (g.givers a)) out).0 in record {
        there = (m, j, h);
        joins = refl;
        returns = ap (λ xs. Put (first xs) a) sole;
        further = refl;
        nearer = refl;
        hop = hop_of (Put n a) (Give a) refl out (MergeOn (map (λ n. Put n a) (g.givers a)) (Give a)) (λ t w r. r) (λ t w r. r)
            (merge_through (map (λ n. Put n a) (g.givers a)) (Put n a) (Give a) (ap (map (λ n. Put n a)) sole) (λ e. cc));
      }
  onward (Give a) t out = absurd (true≢false out)

  pub backward : (w : Wire) → There w → is_kept g (driver w) ≡ false → Back w
  backward (Take a) t out = absurd (true≢false out)
  backward (Burst b n) (l, j, e, z) out =
      let (a, h) = some_symbol l (one.chart.some l j.0) in
      let is : first (g.symbols b) ≡ a = ap first (symbols_at b a l j h e out) in
      let home : g.home (first (g.symbols b)) ≡ b = ap g.home is ∙ drawn.home l a j h ∙ e in record {
        there = (l, j, subst (λ x. Has l x) (sym is) h);
        joins = ap Join home;
        returns = ap (λ x. Burst x (first (g.leads x))) home ∙ ap (λ xs. Burst b (first xs)) (leads_at b l j e) ∙ ap (Burst b) z;
        further = refl;
        nearer = refl;
      }
  backward (Call n) (l, j, z) out = record {
    there = (l, j, sym (ap first (entries_at n l j z out)), z);
    joins = refl;
    returns = refl;
    further = refl;
    nearer = refl;
  }
  backward (Begin n) (m, j, z) out =
      let (l, k, to) = listed.entered m j (ap g.begins z ∙ out) in record {
        there = (l, k, to ∙ z);
        joins = refl;
        returns = refl;
        further = refl;
        nearer = refl;
      }
  backward (Put n a) (m, j, z, h) out = record {
    there = (m, j, z);
    joins = refl;
    returns = ap (λ xs. Put n (first xs)) (outs_at n a m j h z out);
    further = refl;
    nearer = refl;
  }
  backward (Give a) (m, j, h) out = record {
    there = (m, j, sym (ap first (givers_at (no m.from) a m j h refl (or_false (many (g.givers a)) (is_direct g (g.givers a)) out).0)), h);
    joins = refl;
    returns = refl;
    further = refl;
    nearer = refl;
  }

  -- ---- no wire of the network leads from the environment to itself

  abbrev pub begun : Wire → Bool
  begun w = is_kept g (driver w)

  abbrev Inward : Wire → Type 0
  Inward w = driver w ≡ Env → ⊥

  pub given_inward : (a : ℕ) → There (Give a) → Inward (walk begun (prev g) 5 (Give a))
  given_inward a (m, j, h) = stop 4 (Give a) (λ e. cc) (λ shows.
      let (lone, direct) = or_false (many (g.givers a)) (is_direct g (g.givers a)) shows in
      let n : ℕ = first (g.givers a) in
      let sole : g.givers a ≡ n ∷ [] = givers_at (no m.from) a m j h refl lone ∙ ap (λ x. x ∷ []) (sym (ap first (givers_at (no m.from) a m j h refl lone))) in
      let none : is_direct g (n ∷ []) ≡ false = ap (is_direct g) (sym sole) ∙ direct in
      stop 3 (Put n a) (λ e. cc) (λ spread. stop 2 (Begin n) (λ e. cc) (λ gate. stop 1 (Call n) (λ e. cc) (λ calls. stop 0 (Burst (first (g.entries n)) n) (λ e. cc) (λ burst.
      absurd (true≢false (sym (all_out (many (g.outs n)) (g.begins n) (many (g.entries n)) (many (g.symbols (first (g.entries n)))) spread gate calls burst) ∙ none)))))))
    where
      stop : (k : ℕ) (w : Wire) → Inward w → (begun w ≡ false → Inward (walk begun (prev g) k (prev g w))) → Inward (walk begun (prev g) (suc k) w)
      stop k w in_ more = elim (cases_Bool (begun w)) [
        | inl b ↦ subst Inward (sym (walk_stop begun (prev g) (suc k) w b)) in_
        | inr b ↦ subst Inward (sym (walk_on begun (prev g) k w b)) (more b)
      ]

      all_out : (a b c d : Bool) → a ≡ false → b ≡ false → c ≡ false → d ≡ false → (not a && (not b && (not c && not d))) ≡ true
      all_out false false false false p q r s = refl
      all_out true b c d p q r s = absurd (true≢false p)
      all_out false true c d p q r s = absurd (true≢false q)
      all_out false false true d p q r s = absurd (true≢false r)
      all_out false false false true p q r s = absurd (true≢false s)
