-- The components of the chart of a process by a token are those that are counted of its graph, sort by sort.
use Rattle.std.proofs.Common.{◌≡◌, inl, inr, ℕ, zero, suc, ◌+◌, ◌<◌, Bool, true, false, cond, filter, nat_eq, List, [], ◌∷◌, ◌++◌, length, map, get_or, refl, sym, ap, ◌∙◌, subst, arith, if◌then◌else◌, length-append, eq-eqb, ne_eqb, Option, Some, None}
use Rattle.std.specs.Prelude.{◌&&◌, ◌||◌, drop}
use Rattle.std.specs.List.{list_any, range_with_len}
use Rattle.std.proofs.lemmas.Bool.{cases_eq}
use Rattle.std.proofs.lemmas.List.{get_or-map}
use Rattle.cmd_tree.specs.declared.tree.Sym.{Sym}
use Rattle.cmd_tree.specs.Lists.{is_in}
use Rattle.basic_kinds.specs.declared.kind.Kind.{Kind}
use Rattle.basic_kinds.specs.declared.kind.Kind.TheVariants as kind
use Rattle.basic_kinds.specs.declared.shape.Shape.{Shape}
use Rattle.basic_kinds.specs.ShapeParts.{label, part_at}
use Rattle.basic_kinds.specs.Sorts.{Sort, Wires, Iwires, Sources, Sinks, Forks, Joins, Merges, Toggles, Waits, Sequencers, is_of, same_sort, how_many, how_many_below}
use Rattle.basic_kinds.specs.Sums.{Counted, One, Wide, so_many, one_if_wide, wait_sort, wide_sum, total_of}
use Rattle.place_graph.specs.declared.wait_graph.WaitGraph.{WaitGraph}
use Rattle.place_graph.specs.declared.wait_graph.Act.{Act}
use Rattle.place_graph.specs.declared.wait_graph.Start.{Start}
use Rattle.place_graph.specs.declared.wait_graph.Start.TheVariants as start
use Rattle.place_graph.specs.declared.wait_graph.Cross.{Cross as Crossing}
use Rattle.place_graph.specs.declared.styles.SplitStyle.{SplitStyle}
use Rattle.place_graph.specs.declared.styles.SplitStyle.TheVariants.{Token}
use Rattle.place_graph.specs.Graph.{has_sym}
use Rattle.place_graph.specs.GraphTraces.{numbers_of}
use Rattle.place_graph.specs.Style.{is_exit, has_entry, style_of}
use Rattle.place_graph.specs.Sums as sums
use Rattle.place_graph.specs.Sums.{counted, of_style, entries_of, begins_at, gate, exits, leading, meeting, symbols_at, outs_at}
use Rattle.net_core.specs.declared.spec.NodeSpec.{NodeSpec}
use Rattle.net_core.specs.Wiring.{Node}
use Rattle.net_laws.specs.Charts.{charted, node_of}
use Rattle.net_laws.proofs.Among.{Among}
use Rattle.plain_split.specs.SharedPaths.{joined}
use Rattle.plain_split.specs.OneWait.{many}
use Rattle.plain_split.specs.OneWaitSums.{is_component}
use Rattle.plain_split.proofs.SharedAdmitted.{eq_flip}
use Rattle.plain_split.proofs.SharedSorts.{iwire_sort, source_sort, fork_sort, join_sort, merge_sort, dw_sort}
use Rattle.plain_split.proofs.SharedSums.{bit, total_append, so_none, wide_long, wide_numbers}
use Rattle.plain_split.proofs.OneWaitKinds.{many_append, many_map, many_filter, many_same, many_none}
use Rattle.plain_split.proofs.OneWaitWires.{map_long}
use Rattle.plain_split.proofs.OneWaitWritten.{same_member, filter_same, same_begin}
use Rattle.token_split.specs.TokenChart.{Name, Join, Meet, Calls, Gate, Spread, Returns, Entry, Shows, Links, links, is_kept, is_open, gate_kind, pair, spec_at, all_names, components, token_chart, listed}
use Rattle.token_split.proofs.TokenParts.{IsPart, local_of, kind_of, shape_of, dw_is, no_crossing}

-- ---- lists of components

-- one that is kept
weigh : (b : Bool) (s k : Sort) (q : Kind) → is_of k q ≡ same_sort s k → bit (b && is_of k q) ≡ so_many (bit b) s k
weigh true s k q e = ap bit e
weigh false s k q e = sym (so_none s k)

count_by : {A : Type 0} (test : A → Bool) (c : A → Counted) (k : Sort) (xs : List A) → ((x : A) → Among x xs → bit (test x) ≡ wide_sum (c x) k) → how_many test xs ≡ total_of wide_sum (map c xs) k
count_by test c k [] h = refl
count_by test c k (x ∷ xs) h = omega (arith, h x (inl refl), count_by test c k xs (λ y a. h y (inr a)))

count_chosen : (b q : ℕ → Bool) (c : ℕ → Counted) (k : Sort) (xs : List ℕ) → ((x : ℕ) → bit (q x) ≡ wide_sum (c x) k) → how_many (λ x. b x && q x) xs ≡ total_of wide_sum (map c (filter b xs)) k
count_chosen b q c k [] h = refl
count_chosen b q c k (x ∷ xs) h = by (b x) (count_chosen b q c k xs h)
  where
    by : (p : Bool) → how_many (λ x. b x && q x) xs ≡ total_of wide_sum (map c (filter b xs)) k
        → bit (p && q x) + how_many (λ x. b x && q x) xs ≡ total_of wide_sum (map c (cond p (x ∷ filter b xs) (filter b xs))) k
    by true e = omega (arith, e, h x)
    by false e = omega (arith, e)

-- by the places of a list
count_places : {A : Type 0} (z : A) (test : ℕ → Bool) (c : A → Counted) (k : Sort) (ys : List A) (a : ℕ) → ((i : ℕ) → i < length ys → bit (test (a + i)) ≡ wide_sum (c (get_or ys i z)) k)
    → how_many test (range_with_len a (length ys)) ≡ total_of wide_sum (map c ys) k
count_places z test c k [] a h = refl
count_places z test c k (y ∷ ys) a h = omega (
  arith,
  h 0 (omega arith),
  ap (λ n. bit (test n)) (let e : a ≡ a + 0 = omega arith in e),
  count_places z test c k ys (a + 1) (λ i low. omega (arith, h (suc i) (omega arith), ap (λ n. bit (test n)) (let e : a + suc i ≡ a + 1 + i = omega arith in e))),
)

long_places : {A : Type 0} (z : A) (p : ℕ → Bool) (q : A → Bool) (ys : List A) (a : ℕ) → ((i : ℕ) → i < length ys → p (a + i) ≡ q (get_or ys i z))
    → length (filter p (range_with_len a (length ys))) ≡ how_many q ys
long_places z p q [] a h = refl
long_places {A = A} z p q (y ∷ ys) a h = by (p a) (ap p (let e : a ≡ a + 0 = omega arith in e) ∙ h 0 (omega arith))
    (long_places z p q ys (a + 1) (λ i low. ap p (let e : a + 1 + i ≡ a + suc i = omega arith in e) ∙ h (suc i) (omega arith)))
  where
    by : (b : Bool) → b ≡ q y → length (filter p (range_with_len (a + 1) (length ys))) ≡ how_many q ys
        → length (cond b (a ∷ filter p (range_with_len (a + 1) (length ys))) (filter p (range_with_len (a + 1) (length ys)))) ≡ bit (q y) + how_many q ys
    by true e r = omega (arith, r, ap bit e)
    by false e r = omega (arith, r, ap bit e)

any_none : {A : Type 0} (q : A → Bool) (ys : List A) → how_many q ys ≡ 0 → list_any q ys ≡ false
any_none q [] h = refl
any_none q (y ∷ ys) h = by (q y) h (any_none q ys)
  where
    by : (b : Bool) → bit b + how_many q ys ≡ 0 → (how_many q ys ≡ 0 → list_any q ys ≡ false) → (b || list_any q ys) ≡ false
    by true e f = absurd (omega (arith, e))
    by false e f = f (omega (arith, e))

any_some : {A : Type 0} (q : A → Bool) (ys : List A) → 0 < how_many q ys → list_any q ys ≡ true
any_some q [] h = absurd (omega (arith, h))
any_some q (y ∷ ys) h = by (q y) h (any_some q ys)
  where
    by : (b : Bool) → 0 < bit b + how_many q ys → (0 < how_many q ys → list_any q ys ≡ true) → (b || list_any q ys) ≡ true
    by true e f = refl
    by false e f = f (omega (arith, e))

-- one number among those from a on
many_one : (p : ℕ → Bool) (v a n : ℕ) → v < a + n → (v < a → how_many (λ w. nat_eq w v && p w) (range_with_len a n) ≡ 0) × (a < suc v → how_many (λ w. nat_eq w v && p w) (range_with_len a n) ≡ bit (p v))
many_one p v a zero h = ((λ less. refl), (λ more. absurd (omega arith)))
many_one p v a (suc n) h =
    let (before, after) = many_one p v (a + 1) n (omega arith) in (
      (λ less. omega (arith, before (omega arith), ap (λ b. bit (b && p a)) (ne_eqb a v (λ e. omega arith)))),
      (λ more. elim (cases_eq a v) [
        | inl e ↦ omega (arith, before (omega arith), ap (λ b. bit (b && p a)) (eq-eqb a v e), ap (λ w. bit (p w)) e)
        | inr e ↦ omega (arith, after (omega arith), ap (λ b. bit (b && p a)) (ne_eqb a v e))
      ]),
    )

filter_map : {A B : Type 0} (p : B → Bool) (f : A → B) (xs : List A) → filter p (map f xs) ≡ map f (filter (λ x. p (f x)) xs)
filter_map p f [] = refl
filter_map p f (x ∷ xs) = by (p (f x)) (filter_map p f xs)
  where
    by : (b : Bool) → filter p (map f xs) ≡ map f (filter (λ x. p (f x)) xs) → cond b (f x ∷ filter p (map f xs)) (filter p (map f xs)) ≡ map f (cond b (x ∷ filter (λ x. p (f x)) xs) (filter (λ x. p (f x)) xs))
    by true e = ap (λ ys. f x ∷ ys) e
    by false e = e

many_acts : (p : Name → Bool) (ns : List ℕ) → how_many p (joined (λ n. Calls n ∷ Gate n ∷ Spread n ∷ []) ns) ≡ how_many (λ n. p (Calls n)) ns + (how_many (λ n. p (Gate n)) ns + how_many (λ n. p (Spread n)) ns)
many_acts p [] = refl
many_acts p (n ∷ ns) = omega (arith, many_append p (Calls n ∷ Gate n ∷ Spread n ∷ []) (joined (λ n. Calls n ∷ Gate n ∷ Spread n ∷ []) ns), many_acts p ns)

many_waits : (p : Name → Bool) (xs : List ℕ) → how_many p (joined (λ x. Returns x ∷ Entry x ∷ []) xs) ≡ how_many (λ x. p (Returns x)) xs + how_many (λ x. p (Entry x)) xs
many_waits p [] = refl
many_waits p (x ∷ xs) = omega (arith, many_append p (Returns x ∷ Entry x ∷ []) (joined (λ x. Returns x ∷ Entry x ∷ []) xs), many_waits p xs)

gate_sort : {A : Type 0} (f : A → ℕ) (xs : List A) (k : Sort) → bit (is_of k (gate_kind xs)) ≡ wide_sum (gate (map f xs)) k
gate_sort f [] k = ap bit (source_sort k)
gate_sort f (x ∷ xs) k = ap bit (iwire_sort k)

exit_same : (w : ℕ) (o : Option ℕ) → is_in w (listed o) ≡ is_exit w o
exit_same w None = refl
exit_same w (Some x) = or_false (nat_eq w x) ∙ eq_flip w x
  where
    or_false : (b : Bool) → (b || false) ≡ b
    or_false true = refl
    or_false false = refl

long_exit : (o : Option ℕ) → length (listed o) ≡ exits o
long_exit None = refl
long_exit (Some x) = refl

-- ---- group by group

module _ (s : NodeSpec) (G : WaitGraph) (names : ℕ) (style : style_of G ≡ Token) (k : Sort) where
  abbrev g : Links
  g = links G names

  abbrev IsParted : Type 0
  IsParted = (i : ℕ) → Among i g.parts → IsPart (g.rows i) (g.columns i) (g.meets i)

  abbrev IsBegun : Type 0
  IsBegun = (v : ℕ) → G.start ≡ start.Wait v → v < G.waits

  abbrev test : Name → Bool
  test x = is_kept g x && is_component k (spec_at s g x)

  abbrev rest : Act
  rest = record { outs = []; exit = None }

  join_count : how_many_below g.bursts (λ b. test (Join b)) ≡ total_of wide_sum (sums.joins G) k
  join_count = count_by (λ b. test (Join b)) (λ b. Wide Joins (length (symbols_at G b))) k (range_with_len 0 g.bursts)
      (λ b a. weigh (many (g.symbols b)) Joins k (kind.C (length (g.symbols b))) (join_sort (length (g.symbols b)) k) ∙ ap (λ n. so_many n Joins k) (sym (wide_numbers (symbols_at G b))))

  call_count : how_many_below g.acts (λ n. test (Calls n)) ≡ total_of wide_sum (sums.calls G) k
  call_count = count_by (λ n. test (Calls n)) (λ n. Wide Merges (length (entries_of G n))) k (range_with_len 0 g.acts)
      (λ n a. weigh (many (entries_of G n)) Merges k (kind.Merge (length (g.entries n))) (merge_sort (length (g.entries n)) k) ∙ ap (λ m. so_many m Merges k) (sym (wide_long (entries_of G n))))

  same_givers : (a : ℕ) → sums.givers G a ≡ g.givers a
  same_givers a = filter_same (λ n. has_sym (record { 0 = a }) (outs_at G n)) (λ n. is_in a (g.outs n)) (range_with_len 0 (length G.acts)) (λ n. same_member a (outs_at G n))

  show_count : how_many_below names (λ a. test (Shows a)) ≡ total_of wide_sum (sums.shows G names) k
  show_count = count_by (λ a. test (Shows a)) (λ a. Wide Merges (length (sums.givers G a))) k (range_with_len 0 names)
      (λ a i. weigh (many (g.givers a)) Merges k (kind.Merge (length (g.givers a))) (merge_sort (length (g.givers a)) k)
      ∙ ap (λ m. so_many m Merges k) (sym (wide_long (g.givers a)) ∙ ap (λ (ns : List ℕ). one_if_wide (length ns)) (sym (same_givers a))))

  gate_count : how_many_below g.acts (λ n. test (Gate n)) ≡ total_of wide_sum (sums.first_act G) k
  gate_count = many_same (λ n. test (Gate n)) (λ n. begins_at G.start n && is_of k (gate_kind (g.entries n))) (range_with_len 0 g.acts) (λ n. ap (λ b. b && is_of k (gate_kind (g.entries n))) (sym (same_begin G.start n)))
      ∙ count_chosen (begins_at G.start) (λ n. is_of k (gate_kind (g.entries n))) (λ n. gate (entries_of G n)) k (range_with_len 0 g.acts) (λ n. gate_sort (λ c. c.burst) (g.entries n) k)

  act_at : (n : ℕ) → n < length G.acts → length (g.outs n ++ g.exits n) ≡ length (get_or G.acts n rest).outs + exits (get_or G.acts n rest).exit
  act_at n low =
      let outs : g.outs n ≡ numbers_of (get_or G.acts n rest).outs = ap numbers_of (get_or-map (λ (y : Act). y.outs) G.acts n rest [] low) in
      let exit : g.exits n ≡ listed (get_or G.acts n rest).exit = ap listed (get_or-map (λ (y : Act). y.exit) G.acts n rest None low) in
      length-append (g.outs n) (g.exits n)
      ∙ omega (arith, ap (λ (xs : List ℕ). length xs) outs, map_long (λ (a : Sym). a.0) (get_or G.acts n rest).outs, ap (λ (xs : List ℕ). length xs) exit, long_exit (get_or G.acts n rest).exit)

  spread_count : how_many_below g.acts (λ n. test (Spread n)) ≡ total_of wide_sum (sums.moves G) k
  spread_count = count_places rest (λ n. test (Spread n)) (λ (y : Act). Wide Forks (length y.outs + exits y.exit)) k G.acts 0
      (λ i low. ap (λ n. bit (test (Spread n))) (let e : 0 + i ≡ i = omega arith in e)
      ∙ weigh (many (g.outs i ++ g.exits i)) Forks k (kind.Fork (length (g.outs i ++ g.exits i))) (fork_sort (length (g.outs i ++ g.exits i)) k)
      ∙ ap (λ m. so_many m Forks k) (sym (wide_long (g.outs i ++ g.exits i)) ∙ ap one_if_wide (act_at i low)))

  lead_long : (w : ℕ) → length (g.returns w) ≡ leading G w
  lead_long w = long_places rest (λ n. is_in w (g.exits n)) (λ (y : Act). is_exit w y.exit) G.acts 0
      (λ i low. ap (λ n. is_in w (g.exits n)) (let e : 0 + i ≡ i = omega arith in e)
      ∙ ap (λ o. is_in w (listed o)) (get_or-map (λ (y : Act). y.exit) G.acts i rest None low) ∙ exit_same w (get_or G.acts i rest).exit)

  return_count : how_many_below g.waits (λ w. test (Returns w)) ≡ total_of wide_sum (sums.returns G) k
  return_count = count_by (λ w. test (Returns w)) (λ w. Wide Merges (leading G w)) k (range_with_len 0 G.waits)
      (λ w a. weigh (many (g.returns w)) Merges k (kind.Merge (length (g.returns w))) (merge_sort (length (g.returns w)) k)
      ∙ ap (λ m. so_many m Merges k) (sym (wide_long (g.returns w)) ∙ ap one_if_wide (lead_long w)))

  entry_count : IsBegun → how_many_below g.waits (λ w. test (Entry w)) ≡ total_of wide_sum (sums.first_wait G.start G) k
  entry_count begun = by G.start refl
    where
      gate_of : (v : ℕ) (xs : List ℕ) → g.returns v ≡ xs → bit (is_of k (gate_kind xs)) ≡ so_many 1 (if list_any (λ (y : Act). is_exit v y.exit) G.acts then Iwires else Sources) k
      gate_of v [] e =
          let none : list_any (λ (y : Act). is_exit v y.exit) G.acts ≡ false = any_none (λ (y : Act). is_exit v y.exit) G.acts (sym (lead_long v) ∙ ap (λ (ns : List ℕ). length ns) e) in
          ap bit (source_sort k) ∙ ap (λ b. so_many 1 (if b then Iwires else Sources) k) (sym none)
      gate_of v (x ∷ xs) e =
          let some : list_any (λ (y : Act). is_exit v y.exit) G.acts ≡ true = any_some (λ (y : Act). is_exit v y.exit) G.acts (omega (arith, lead_long v, ap (λ (ns : List ℕ). length ns) e)) in
          ap bit (iwire_sort k) ∙ ap (λ b. so_many 1 (if b then Iwires else Sources) k) (sym some)

      by : (t : Start) → G.start ≡ t → how_many (λ w. is_open w G.start && is_of k (gate_kind (g.returns w))) (range_with_len 0 G.waits) ≡ total_of wide_sum (sums.first_wait G.start G) k
      by (start.Act n) e =
          subst (λ t. how_many (λ w. is_open w t && is_of k (gate_kind (g.returns w))) (range_with_len 0 G.waits) ≡ total_of wide_sum (sums.first_wait t G) k) (sym e)
          (many_none (λ w. false) (range_with_len 0 G.waits) (λ w. refl))
      by (start.Wait v) e =
          let low : v < G.waits = begun v e in
          let one : how_many (λ w. nat_eq w v && is_of k (gate_kind (g.returns w))) (range_with_len 0 G.waits) ≡ bit (is_of k (gate_kind (g.returns v))) = (many_one (λ w. is_of k (gate_kind (g.returns w))) v 0 G.waits (omega arith)).1 (omega arith) in
          let gate_is : bit (is_of k (gate_kind (g.returns v))) ≡ so_many 1 (if list_any (λ (y : Act). is_exit v y.exit) G.acts then Iwires else Sources) k = gate_of v (g.returns v) refl in
          let both : how_many (λ w. nat_eq w v && is_of k (gate_kind (g.returns w))) (range_with_len 0 G.waits) ≡ so_many 1 (if list_any (λ (y : Act). is_exit v y.exit) G.acts then Iwires else Sources) k = one ∙ gate_is in
          let start_is : has_entry G.start G.acts G.crosses ≡ list_any (λ (y : Act). is_exit v y.exit) G.acts = ap (λ t. has_entry t G.acts G.crosses) e in
          let there : how_many (λ w. is_open w G.start && is_of k (gate_kind (g.returns w))) (range_with_len 0 G.waits) ≡ how_many (λ w. nat_eq w v && is_of k (gate_kind (g.returns w))) (range_with_len 0 G.waits)
          = ap (λ t. how_many (λ w. is_open w t && is_of k (gate_kind (g.returns w))) (range_with_len 0 G.waits)) e in
          let wait_is : sums.first_wait G.start G ≡ One (if has_entry G.start G.acts G.crosses then Iwires else Sources) ∷ [] = ap (λ t. sums.first_wait t G) e in
          there ∙ both ∙ omega (arith, ap (λ cs. total_of wide_sum cs k) wait_is, ap (λ b. so_many 1 (if b then Iwires else Sources) k) start_is)

  -- the kind of a part is of the sort that is counted
  part_sort : (rows columns : List ℕ) (cs : List Crossing) → IsPart rows columns cs → bit (is_of k (kind_of rows columns cs)) ≡ so_many 1 (wait_sort (local_of cs)) k
  part_sort rows columns [] h = absurd (no_crossing rows columns h)
  part_sort rows columns (c ∷ []) h = ap bit (join_sort 2 k)
  part_sort rows columns (c ∷ n ∷ cs) h =
      ap (λ q. bit (is_of k q)) (dw_is (length rows) (length columns) (local_of (c ∷ n ∷ cs)) h.shape) ∙ ap bit (dw_sort (shape_of (length rows) (length columns) (local_of (c ∷ n ∷ cs)) h.shape) k)

  meets_are : (i : ℕ) → part_at G.waits (sums.pairs G) i ≡ map pair (g.meets i)
  meets_are i = filter_map (λ (p : ℕ × ℕ). nat_eq (label G.waits (sums.pairs G) p.0) i) pair G.crosses

  meet_count : IsParted → how_many (λ i. test (Meet i)) g.parts ≡ total_of wide_sum (sums.meetings G) k
  meet_count parted = count_by (λ i. test (Meet i)) (λ i. meeting G (part_at G.waits (sums.pairs G) i)) k g.parts
      (λ i a. part_sort (g.rows i) (g.columns i) (g.meets i) (parted i a) ∙ ap (λ ps. wide_sum (meeting G ps) k) (sym (meets_are i)))

  pub token_kinds : IsParted → IsBegun → how_many (λ (x : Node). is_component k x.spec) (drop 1 (charted (token_chart s g)).nodes) ≡ total_of wide_sum (counted G names) k
  token_kinds parted begun =
      many_map (λ (x : Node). is_component k x.spec) (node_of (token_chart s g)) (components g)
      ∙ many_filter (λ x. is_component k (spec_at s g x)) (is_kept g) (all_names g)
      ∙ omega (
        arith,
        many_append test (map Join (range_with_len 0 g.bursts)) (map Meet g.parts ++ (act_names ++ (wait_names ++ map Shows (range_with_len 0 names)))),
        many_append test (map Meet g.parts) (act_names ++ (wait_names ++ map Shows (range_with_len 0 names))),
        many_append test act_names (wait_names ++ map Shows (range_with_len 0 names)),
        many_append test wait_names (map Shows (range_with_len 0 names)),
        many_map test Join (range_with_len 0 g.bursts),
        many_map test Meet g.parts,
        many_acts test (range_with_len 0 g.acts),
        many_waits test (range_with_len 0 g.waits),
        many_map test Shows (range_with_len 0 names),
        join_count,
        meet_count parted,
        call_count,
        gate_count,
        spread_count,
        return_count,
        entry_count begun,
        show_count,
        ap (λ (t : SplitStyle). total_of wide_sum (sums.joins G ++ (sums.calls G ++ (sums.shows G names ++ (sums.first_act G ++ of_style t G names)))) k) style,
        total_append wide_sum (sums.joins G) (sums.calls G ++ (sums.shows G names ++ (sums.first_act G ++ of_style Token G names))) k,
        total_append wide_sum (sums.calls G) (sums.shows G names ++ (sums.first_act G ++ of_style Token G names)) k,
        total_append wide_sum (sums.shows G names) (sums.first_act G ++ of_style Token G names) k,
        total_append wide_sum (sums.first_act G) (of_style Token G names) k,
        total_append wide_sum (sums.moves G) (sums.returns G ++ (sums.first_wait G.start G ++ sums.meetings G)) k,
        total_append wide_sum (sums.returns G) (sums.first_wait G.start G ++ sums.meetings G) k,
        total_append wide_sum (sums.first_wait G.start G) (sums.meetings G) k,
      )
    where
      act_names : List Name
      act_names = joined (λ n. Calls n ∷ Gate n ∷ Spread n ∷ []) (range_with_len 0 g.acts)

      wait_names : List Name
      wait_names = joined (λ x. Returns x ∷ Entry x ∷ []) (range_with_len 0 g.waits)
