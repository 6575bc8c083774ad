-- What the network of rounds has of each sort is what is counted of the graph.
use Rattle.std.proofs.Common.{eq-eqb, ne_eqb, eqb-true, ◌≡◌, ℕ, zero, suc, ◌+◌, ◌-◌, ◌<◌, ◌≤◌, Bool, true, false, true≢false, nat_eq, cond, filter, List, [], ◌∷◌, ◌++◌, length, map, get_or, refl, sym, ap, ◌∙◌, subst, arith, inl, inr, if◌then◌else◌}
use Rattle.std.specs.Prelude.{not, ◌&&◌, ◌||◌}
use Rattle.std.specs.List.{range_with_len, list_any, list_all, position_or_len}
use Rattle.std.proofs.lemmas.Bool.{cases_eq}
use Rattle.std.proofs.lemmas.List.{length-map}
use Rattle.std.proofs.lemmas.List.Sums.{length-filter}
use Rattle.cmd_tree.specs.declared.tree.Sym.{Sym}
use Rattle.cmd_tree.specs.Lists.{is_in}
use Rattle.basic_kinds.specs.Sorts.{Sort, Wires, Iwires, Sources, Sinks, Forks, Joins, Merges, Toggles, Waits, Sequencers, how_many, how_many_below}
use Rattle.basic_kinds.specs.Sums.{One, so_many, wide_sum, total_of}
use Rattle.net_core.specs.declared.spec.NodeSpec.{NodeSpec}
use Rattle.place_graph.specs.declared.wait_graph.WaitGraph.{WaitGraph}
use Rattle.place_graph.specs.declared.wait_graph.Act.{Act}
use Rattle.place_graph.specs.declared.wait_graph.Cross.{Cross}
use Rattle.place_graph.specs.declared.wait_graph.Start.{Start}
use Rattle.place_graph.specs.declared.wait_graph.Start.TheVariants as start
use Rattle.place_graph.specs.declared.styles.SplitStyle.{SplitStyle}
use Rattle.place_graph.specs.declared.styles.SplitStyle.TheVariants.{Rounds}
use Rattle.place_graph.specs.declared.leg.Leg.{Leg}
use Rattle.place_graph.specs.Graph.{has_sym, numbered, act_points, wait_points, acts_of, points_of, act, index_of}
use Rattle.place_graph.proofs.BurstSets.{few_with_new}
use Rattle.place_graph.specs.GraphTraces.{numbers_of}
use Rattle.place_graph.specs.Style.{entries, one_entry_each, style_of}
use Rattle.place_graph.specs.Sums as sums
use Rattle.place_graph.specs.Sums.{counted, of_style, symbols_at, outs_at, entries_of, begins_at}
use Rattle.plain_split.specs.OneWait.{many, is_some}
use Rattle.plain_split.specs.RoundsNet.{pow}
use Rattle.plain_split.specs.RoundsChart.{Parts, is_single, givers, count, is_out}
use Rattle.plain_split.specs.RoundsParts.{numbers, begins_with_act, first_burst, parts_of}
use Rattle.plain_split.specs.RoundsParts as parts
use Rattle.plain_split.specs.RoundsCommands.{rounds_sum}
use Rattle.plain_split.proofs.SharedSums.{bit, total_append, so_more, so_none, wide_long, wide_numbers, wide_group, gate_group}
use Rattle.plain_split.proofs.OneWaitKinds.{many_none}
use Rattle.plain_split.proofs.OneWaitWritten.{same_member, filter_same}

-- ---- numbers below a bound

from_same : (b k : ℕ) (p q : ℕ → Bool) → ((i : ℕ) → b ≤ i → i < b + k → p i ≡ q i) → how_many p (range_with_len b k) ≡ how_many q (range_with_len b k)
from_same b zero p q h = refl
from_same b (suc k) p q h = omega (arith, ap (λ c. bit c) (h b (omega arith) (omega arith)), from_same (b + 1) k p q (λ i low high. h i (omega arith) (omega arith)))

below_same : (k : ℕ) (p q : ℕ → Bool) → ((i : ℕ) → i < k → p i ≡ q i) → how_many_below k p ≡ how_many_below k q
below_same k p q h = from_same 0 k p q (λ i low high. h i (omega arith))

below_none : (k : ℕ) (p : ℕ → Bool) → ((i : ℕ) → i < k → p i ≡ false) → how_many_below k p ≡ 0
below_none k p h = below_same k p (λ i. false) h ∙ many_none (λ i. false) (range_with_len 0 k) (λ i. refl)

from_one : (b k m : ℕ) → b ≤ m → m < b + k → how_many (λ n. nat_eq n m) (range_with_len b k) ≡ 1
from_one b zero m low high = absurd (omega arith)
from_one b (suc k) m low high = elim (cases_eq b m) [
  | inl e ↦ omega (
    arith,
    ap (λ c. bit c) (eq-eqb b m e),
    from_same (b + 1) k (λ n. nat_eq n m) (λ n. false) (λ i low high. ne_eqb i m (λ z. omega arith)),
    many_none (λ (n : ℕ). false) (range_with_len (b + 1) k) (λ n. refl),
  )
  | inr other ↦ omega (arith, ap (λ c. bit c) (ne_eqb b m other), from_one (b + 1) k m (omega arith) (omega arith))
]

from_all : (b k : ℕ) (p : ℕ → Bool) → list_all p (range_with_len b k) ≡ true → (i : ℕ) → b ≤ i → i < b + k → p i ≡ true
from_all b zero p h i low high = absurd (omega arith)
from_all b (suc k) p h i low high = by (p b) refl h (λ t. from_all (b + 1) k p t i)
  where
    by : (c : Bool) → p b ≡ c → (c && list_all p (range_with_len (b + 1) k)) ≡ true → (list_all p (range_with_len (b + 1) k) ≡ true → b + 1 ≤ i → i < b + 1 + k → p i ≡ true) → p i ≡ true
    by false e t rest = absurd (true≢false (sym t))
    by true e t rest = elim (cases_eq b i) [
      | inl same ↦ subst (λ x. p x ≡ true) same e
      | inr other ↦ rest t (omega arith) (omega arith)
    ]

-- m alone, where it passes
below_one : (k m : ℕ) (p : ℕ → Bool) → m < k → p m ≡ true → how_many_below k (λ n. nat_eq n m && p n) ≡ 1
below_one k m p low h = below_same k (λ n. nat_eq n m && p n) (λ n. nat_eq n m) (λ i less. at i (nat_eq i m) refl) ∙ from_one 0 k m (omega arith) (omega (arith, low))
  where
    at : (i : ℕ) (b : Bool) → nat_eq i m ≡ b → (nat_eq i m && p i) ≡ nat_eq i m
    at i true e = ap (λ b. b && p i) e ∙ subst (λ n. p n ≡ true) (sym (eqb-true i m e)) h ∙ sym e
    at i false e = ap (λ b. b && p i) e ∙ sym e

-- ---- lists that are not empty

single_many : (xs : List ℕ) → 0 < length xs → many xs ≡ not (is_single xs)
single_many [] h = absurd (omega arith)
single_many (x ∷ []) h = refl
single_many (x ∷ y ∷ xs) h = refl

long_one : (xs : List ℕ) → length xs ≡ 1 → many xs ≡ false
long_one [] e = refl
long_one (x ∷ []) e = refl
long_one (x ∷ y ∷ xs) e = absurd (omega (arith, e))

some_long : (xs : List ℕ) → length xs ≡ 1 → is_some xs ≡ true
some_long [] e = absurd (omega (arith, e))
some_long (x ∷ xs) e = refl

chosen_none : (p : ℕ → Bool) (b k : ℕ) → ((i : ℕ) → b ≤ i → i < b + k → p i ≡ false) → filter p (range_with_len b k) ≡ []
chosen_none p b zero h = refl
chosen_none p b (suc k) h = ap (λ c. cond c (b ∷ filter p (range_with_len (b + 1) k)) (filter p (range_with_len (b + 1) k))) (h b (omega arith) (omega arith))
    ∙ chosen_none p (b + 1) k (λ i low high. h i (omega arith) (omega arith))

chosen_some : (p : ℕ → Bool) (b k i : ℕ) → b ≤ i → i < b + k → p i ≡ true → 0 < length (filter p (range_with_len b k))
chosen_some p b zero i low high t = absurd (omega arith)
chosen_some p b (suc k) i low high t = by (p b) refl (λ more. chosen_some p (b + 1) k i more (omega arith) t)
  where
    by : (c : Bool) → p b ≡ c → (b + 1 ≤ i → 0 < length (filter p (range_with_len (b + 1) k))) → 0 < length (cond c (b ∷ filter p (range_with_len (b + 1) k)) (filter p (range_with_len (b + 1) k)))
    by true e rest = omega arith
    by false e rest = elim (cases_eq b i) [
      | inl same ↦ absurd (true≢false (sym t ∙ ap p (sym same) ∙ e))
      | inr other ↦ rest (omega arith)
    ]

outs_same : (acts : List Act) (y : ℕ) → parts.outs_at acts y ≡ numbers_of (get_or (map (λ (x : Act). x.outs) acts) y [])
outs_same [] y = refl
outs_same (a ∷ acts) zero = refl
outs_same (a ∷ acts) (suc y) = outs_same acts y

burst_same : (bs : List (List Sym)) → length bs ≡ 1 → how_many_below (length bs) (λ b. many (numbers_of (get_or bs b []))) ≡ bit (many (numbers (first_burst bs)))
burst_same [] e = absurd (omega (arith, e))
burst_same (b ∷ []) e = omega arith
burst_same (b ∷ c ∷ bs) e = absurd (omega (arith, e))

one_more : (n : ℕ) → 1 + n ≡ suc n
one_more n = omega arith

toggles_many : (s t : Sort) (is : List ℕ) → total_of wide_sum (map (λ i. One s) is) t ≡ so_many (length is) s t
toggles_many s t [] = omega (arith, so_none s t)
toggles_many s t (i ∷ is) = omega (arith, ap (λ k. so_many k s t) (one_more (length is)), so_more 1 (length is) s t, toggles_many s t is)

range_long : (b k : ℕ) → length (range_with_len b k) ≡ k
range_long b zero = refl
range_long b (suc k) = ap suc (range_long (b + 1) k)

-- What is needed of the parts, of a graph in rounds.
pub record IsCountable (s : NodeSpec) (G : WaitGraph) (e names : ℕ) : Type 0 where
  pub style : style_of G ≡ Rounds (pow e)
  pub one_burst : length G.bursts ≡ 1
  pub acts : length G.acts ≡ pow e
  pub one_entry : one_entry_each (length G.acts) G.crosses ≡ true
  pub start_low : (m : ℕ) → G.start ≡ start.Act m → m < length G.acts
  pub names_long : count (parts_of s G e) ≡ names
  pub burst_some : 0 < length (parts_of s G e).burst
  pub outs_some : (y : ℕ) → y < pow e → 0 < length ((parts_of s G e).outs y)
  pub outs_in : (y a : ℕ) → y < pow e → is_in a ((parts_of s G e).outs y) ≡ true → is_out (parts_of s G e) a ≡ true
  pub covers_out : (a : ℕ) → a < names → is_out (parts_of s G e) a ≡ true → (y : ℕ) × (y < pow e) × (is_in a ((parts_of s G e).outs y) ≡ true)

module _ (s : NodeSpec) (G : WaitGraph) (e names : ℕ) (c : IsCountable s G e names) where
  abbrev r : Parts
  r = parts_of s G e

  abbrev gated : ℕ → Bool
  gated n = begins_at G.start n && is_some (entries_of G n)

  abbrev sourced : ℕ → Bool
  sourced n = begins_at G.start n && not (is_some (entries_of G n))

  -- group by group
  groups : (t : Sort) → total_of wide_sum (counted G names) t
      ≡ so_many (how_many_below (length G.bursts) (λ b. many (numbers_of (symbols_at G b)))) Joins t
      + (so_many (how_many_below (length G.acts) (λ n. many (entries_of G n))) Merges t
      + (so_many (how_many_below names (λ a. many (sums.givers G a))) Merges t
      + ((so_many (how_many_below (length G.acts) gated) Iwires t + so_many (how_many_below (length G.acts) sourced) Sources t)
      + (so_many (how_many_below (length G.acts) (λ n. many (numbers_of (outs_at G n)))) Forks t
      + so_many (length (range_with_len 0 (pow e - 1))) Toggles t))))
  groups t = omega (
    arith,
    ap (λ (x : SplitStyle). total_of wide_sum (sums.joins G ++ (sums.calls G ++ (sums.shows G names ++ (sums.first_act G ++ of_style x G names)))) t) c.style,
    total_append wide_sum (sums.joins G) (sums.calls G ++ (sums.shows G names ++ (sums.first_act G ++ of_style (Rounds (pow e)) G names))) t,
    total_append wide_sum (sums.calls G) (sums.shows G names ++ (sums.first_act G ++ of_style (Rounds (pow e)) G names)) t,
    total_append wide_sum (sums.shows G names) (sums.first_act G ++ of_style (Rounds (pow e)) G names) t,
    total_append wide_sum (sums.first_act G) (of_style (Rounds (pow e)) G names) t,
    total_append wide_sum (sums.spreads G) (map (λ i. One Toggles) (range_with_len 0 (pow e - 1))) t,
    wide_group Joins t (λ b. length (symbols_at G b)) (λ b. many (numbers_of (symbols_at G b))) (range_with_len 0 (length G.bursts)) (λ b. wide_numbers (symbols_at G b)),
    wide_group Merges t (λ n. length (entries_of G n)) (λ n. many (entries_of G n)) (range_with_len 0 (length G.acts)) (λ n. wide_long (entries_of G n)),
    wide_group Merges t (λ a. length (sums.givers G a)) (λ a. many (sums.givers G a)) (range_with_len 0 names) (λ a. wide_long (sums.givers G a)),
    gate_group (entries_of G) (begins_at G.start) (range_with_len 0 (length G.acts)) t,
    wide_group Forks t (λ n. length (outs_at G n)) (λ n. many (numbers_of (outs_at G n))) (range_with_len 0 (length G.acts)) (λ n. wide_numbers (outs_at G n)),
    toggles_many Toggles t (range_with_len 0 (pow e - 1)),
  )

  joins_same : how_many_below (length G.bursts) (λ b. many (numbers_of (symbols_at G b))) ≡ (if is_single r.burst then 0 else 1)
  joins_same = burst_same G.bursts c.one_burst ∙ ap bit (single_many r.burst c.burst_some) ∙ at (is_single r.burst)
    where
      at : (b : Bool) → bit (not b) ≡ (if b then 0 else 1)
      at true = refl
      at false = refl

  entry_long : (n : ℕ) → n < length G.acts → length (entries_of G n) ≡ 1
  entry_long n low = omega (
    arith,
    length-map (filter (λ (x : Cross). nat_eq x.act n) G.crosses) (λ (x : Cross). x.burst),
    length-filter (λ (x : Cross). nat_eq x.act n) G.crosses,
    eqb-true (entries n G.crosses) 1 (from_all 0 (length G.acts) (λ a. nat_eq (entries a G.crosses) 1) c.one_entry n (omega arith) (omega (arith, low))),
  )

  calls_none : how_many_below (length G.acts) (λ n. many (entries_of G n)) ≡ 0
  calls_none = below_none (length G.acts) (λ n. many (entries_of G n)) (λ n low. long_one (entries_of G n) (entry_long n low))

  sourced_none : how_many_below (length G.acts) sourced ≡ 0
  sourced_none = below_none (length G.acts) sourced (λ n low. ap (λ b. begins_at G.start n && not b) (some_long (entries_of G n) (entry_long n low)) ∙ at (begins_at G.start n))
    where
      at : (b : Bool) → (b && false) ≡ false
      at true = refl
      at false = refl

  gates_same : how_many_below (length G.acts) gated ≡ (if r.opens then 1 else 0)
  gates_same = by G.start refl
    where
      by : (x : Start) → G.start ≡ x → how_many_below (length G.acts) gated ≡ (if r.opens then 1 else 0)
      by (start.Wait w) is =
          below_none (length G.acts) gated (λ n low. ap (λ z. begins_at z n && is_some (entries_of G n)) is) ∙ ap (λ z. if begins_with_act z then 1 else 0) (sym is)
      by (start.Act m) is =
          let low : m < length G.acts = c.start_low m is in
          below_same (length G.acts) gated (λ n. nat_eq n m && is_some (entries_of G n)) (λ n less. ap (λ z. begins_at z n && is_some (entries_of G n)) is)
          ∙ below_one (length G.acts) m (λ n. is_some (entries_of G n)) low (some_long (entries_of G m) (entry_long m low))
          ∙ ap (λ z. if begins_with_act z then 1 else 0) (sym is)

  spreads_same : how_many_below (length G.acts) (λ n. many (numbers_of (outs_at G n))) ≡ how_many_below (pow e) (λ y. not (is_single (r.outs y)))
  spreads_same =
      ap (λ k. how_many_below k (λ n. many (numbers_of (outs_at G n)))) c.acts
      ∙ below_same (pow e) (λ n. many (numbers_of (outs_at G n))) (λ y. not (is_single (r.outs y)))
      (λ y low. ap many (sym (outs_same G.acts y)) ∙ single_many (r.outs y) (c.outs_some y low))

  same_givers : (a : ℕ) → sums.givers G a ≡ givers r a
  same_givers a =
      filter_same (λ n. has_sym (record { 0 = a }) (outs_at G n)) (λ y. is_in a (r.outs y)) (range_with_len 0 (length G.acts))
      (λ n. same_member a (outs_at G n) ∙ ap (is_in a) (sym (outs_same G.acts n)))
      ∙ ap (λ k. filter (λ y. is_in a (r.outs y)) (range_with_len 0 k)) c.acts

  shown_same : (a : ℕ) → a < names → many (givers r a) ≡ (is_out r a && not (is_single (givers r a)))
  shown_same a low = by (is_out r a) refl
    where
      by : (b : Bool) → is_out r a ≡ b → many (givers r a) ≡ (b && not (is_single (givers r a)))
      by true out =
          let (y, less, gives) = c.covers_out a low out in
          single_many (givers r a) (chosen_some (λ y. is_in a (r.outs y)) 0 (pow e) y (omega arith) (omega (arith, less)) gives)
      by false no_out = ap many (chosen_none (λ y. is_in a (r.outs y)) 0 (pow e) (λ y first less. not_in y (omega (arith, less)) (is_in a (r.outs y)) refl))
        where
          not_in : (y : ℕ) → y < pow e → (b : Bool) → is_in a (r.outs y) ≡ b → is_in a (r.outs y) ≡ false
          not_in y less true gives = absurd (true≢false (sym (c.outs_in y a less gives) ∙ no_out))
          not_in y less false gives = gives

  shows_same : how_many_below names (λ a. many (sums.givers G a)) ≡ how_many_below (count r) (λ a. is_out r a && not (is_single (givers r a)))
  shows_same =
      below_same names (λ a. many (sums.givers G a)) (λ a. is_out r a && not (is_single (givers r a))) (λ a low. ap many (same_givers a) ∙ shown_same a low)
      ∙ ap (λ k. how_many_below k (λ a. is_out r a && not (is_single (givers r a)))) (sym c.names_long)

  pub rounds_written : (t : Sort) → rounds_sum r t ≡ total_of wide_sum (counted G names) t
  rounds_written Wires = omega (arith, groups Wires)
  rounds_written Iwires = omega (arith, groups Iwires, gates_same)
  rounds_written Sources = omega (arith, groups Sources, sourced_none)
  rounds_written Sinks = omega (arith, groups Sinks)
  rounds_written Forks = omega (arith, groups Forks, spreads_same)
  rounds_written Joins = omega (arith, groups Joins, joins_same)
  rounds_written Merges = omega (arith, groups Merges, calls_none, shows_same)
  rounds_written Toggles = omega (arith, groups Toggles, range_long 0 (pow e - 1))
  rounds_written Waits = omega (arith, groups Waits)
  rounds_written Sequencers = omega (arith, groups Sequencers)

-- ---- where the process begins

found_low : (p : ℕ → Bool) (xs : List ℕ) → list_any p xs ≡ true → position_or_len p xs < length xs
found_low p [] h = absurd (true≢false (sym h))
found_low p (x ∷ xs) h = by (p x) refl h (found_low p xs)
  where
    by : (b : Bool) → p x ≡ b → (b || list_any p xs) ≡ true → (list_any p xs ≡ true → position_or_len p xs < length xs) → cond (not b) (1 + position_or_len p xs) 0 < suc (length xs)
    by true e t rest = omega arith
    by false e t rest = omega (arith, rest t)

pub start_low : (L : List Leg) (m : ℕ) → (numbered L).start ≡ start.Act m → m < length (numbered L).acts
start_low L m e = by (is_in 1 (act_points L)) refl e
  where
    points_few : length (act_points L) ≤ length (map (act L) (acts_of L))
    points_few = omega (arith, few_with_new nat_eq [] (points_of (acts_of L)), length-map (acts_of L) (λ (l : Leg). l.from), length-map (acts_of L) (act L))

    by : (b : Bool) → is_in 1 (act_points L) ≡ b → (if b then start.Act (index_of 1 (act_points L)) else start.Wait (index_of 1 (wait_points L))) ≡ start.Act m → m < length (map (act L) (acts_of L))
    by true there same = let z : index_of 1 (act_points L) ≡ m = cc in omega (arith, z, points_few, found_low (nat_eq 1) (act_points L) there)
    by false away same = absurd (cc)
