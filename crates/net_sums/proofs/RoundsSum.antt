-- The sum over the network of a process in rounds.
use Rattle.std.proofs.Common.{◌≡◌, ◌↔◌, inl, inr, ℕ, zero, suc, ◌+◌, ◌-◌, ◌<◌, Bool, true, false, true≢false, not, nat_eq, IsTrue, is_some, List, [], ◌∷◌, ◌++◌, length, map, filter, get_or, refl, sym, ap, ◌∙◌, subst, arith, if◌then◌else◌, length-append, append-nil, eqb-true}
use Rattle.std.specs.Prelude.{◌&&◌}
use Rattle.std.specs.List.{AllByRecursion, range_with_len, list_all, slice_index_or}
use Rattle.std.specs.Int.{is_power_of_two}
use Rattle.std.proofs.lemmas.List.{length-map}
use Rattle.std.proofs.lemmas.List.Sums.{length-filter}
use Rattle.std.proofs.lemmas.List.FromFn.{length-map-range_with_len, get_or-map-range_with_len}
use Rattle.cmd_tree.specs.declared.command.Command.{Command}
use Rattle.cmd_tree.specs.declared.tree.Proc.{Proc}
use Rattle.cmd_tree.specs.declared.tree.Sym.{Sym}
use Rattle.cmd_tree.specs.Limits.{IsProc, IsNumbered, marks_of_proc, marks_of_all}
use Rattle.cmd_tree.specs.Lists.{is_in}
use Rattle.cmd_tree.specs.Meaning.{has_symbol}
use Rattle.basic_kinds.specs.Sorts.{Sort, Iwires, Forks, Joins, Merges, Toggles}
use Rattle.basic_kinds.specs.Sums.{Counted, One, Wide, total_of}
use Rattle.place_graph.specs.declared.leg.Leg.{Leg}
use Rattle.place_graph.specs.declared.wait_graph.WaitGraph.{WaitGraph}
use Rattle.place_graph.specs.declared.wait_graph.Act.{Act}
use Rattle.place_graph.specs.declared.wait_graph.Cross.{Cross}
use Rattle.place_graph.specs.declared.wait_graph.Start.{Start}
use Rattle.place_graph.specs.declared.wait_graph.Start.TheVariants as start
use Rattle.place_graph.specs.declared.styles.SplitStyle.{SplitStyle}
use Rattle.place_graph.specs.declared.styles.SplitStyle.TheVariants.{Rounds}
use Rattle.place_graph.specs.Points.{legs}
use Rattle.place_graph.specs.Graph.{has_sym, graph_of}
use Rattle.place_graph.specs.Style.{entries, one_entry_each, has_entry, style_of}
use Rattle.place_graph.specs.Sums as sums
use Rattle.place_graph.specs.Sums.{counted, of_style, symbols_at, outs_at, entries_of, begins_at, gate}
use Rattle.place_graph.proofs.Charted.{charted as leg_chart}
use Rattle.net_core.specs.declared.spec.NodeSpec.{NodeSpec}
use Rattle.net_core.specs.declared.spec.NodeSpec.TheVariants.{Cmd}
use Rattle.net_core.specs.Specs.{outs_of, gives_symbol}
use Rattle.net_core.specs.Wiring.{Node}
use Rattle.net_core.specs.Renumbering.{sum_of_parts}
use Rattle.net_laws.specs.Charts.{charted, node_of}
use Rattle.net_laws.specs.ForkChain.{each}
use Rattle.net_laws.proofs.Among.{Among}
use Rattle.plain_split.specs.RoundsNet.{pow, leaf, Name, Join, Tog, Gate, Spread, Shows}
use Rattle.plain_split.specs.RoundsChart.{Parts, is_single, givers, is_kept, count, is_out, spec_of, toggles, parts, rounds_chart}
use Rattle.plain_split.specs.RoundsParts as tables
use Rattle.plain_split.specs.RoundsParts.{numbers, begins_with_act, first_burst, parts_of}
use Rattle.plain_split.specs.RoundsCommands.{HasRounds, rounds_net}
use Rattle.plain_split.proofs.SharedCommands.{numbered_known}
use Rattle.plain_split.proofs.OneWaitWeb.{sum_of}
use Rattle.plain_split.proofs.OneWaitWires.{map_long, in_range, range_long}
use Rattle.plain_split.proofs.OneWaitDrawn.{and_both, low_in}
use Rattle.plain_split.proofs.OneWaitWritten.{same_member, filter_same}
use Rattle.plain_split.proofs.RoundsCommand.{style_rounds, rounds_command_ready}
use Rattle.plain_split.proofs.RoundsWritten.{start_low}
use Rattle.token_split.specs.TokenChart as token
use Rattle.token_split.proofs.TokenLaw.{are_drawn}
use Rattle.net_sums.specs.NodeSums.{IsSum, node_sum}
use Rattle.net_sums.proofs.WeighedLists.{sum_is, sum_append, sum_map, sum_filter, sum_none, sum_long, sum_one, total_both, total_same, total_map, total_chosen, total_none}

outs_same : (acts : List Act) (y : ℕ) → tables.outs_at acts y ≡ numbers (get_or (map (λ (x : Act). x.outs) acts) y [])
outs_same [] y = refl
outs_same (a ∷ acts) zero = refl
outs_same (a ∷ acts) (suc y) = outs_same acts y

-- What is needed of a graph in rounds, and of the symbols of its command.
record IsWeighed (s : NodeSpec) (G : WaitGraph) (e names : ℕ) : Type 0 where
  style : style_of G ≡ Rounds (pow e)
  one_burst : length G.bursts ≡ 1
  acts : length G.acts ≡ pow e
  one_entry : (n : ℕ) → n < length G.acts → length (entries_of G n) ≡ 1
  start_low : (m : ℕ) → G.start ≡ start.Act m → m < length G.acts
  names_long : count (parts_of s G e) ≡ names
  not_out : (a : ℕ) → a < names → is_out (parts_of s G e) a ≡ false → sums.givers G a ≡ []

module _ (sum : Counted → Sort → ℕ) (w : IsSum sum) (t : Sort) (s : NodeSpec) (G : WaitGraph) (e names : ℕ) (h : IsWeighed s G e names) where
  abbrev r : Parts
  r = parts_of s G e

  abbrev part : Name → ℕ
  part x = node_sum sum t (spec_of r x)

  -- what is left out is of width less than two
  kept_single : (q : Sort) (xs : List ℕ) → (if not (is_single xs) then sum (Wide q (length xs)) t else 0) ≡ sum (Wide q (length xs)) t
  kept_single q [] = refl
  kept_single q (x ∷ []) = sym (w.wire q t)
  kept_single q (x ∷ y ∷ xs) = refl

  one_join : (bs : List (List Sym)) → length bs ≡ 1 → total_of sum (map (λ b. Wide Joins (length (get_or bs b []))) (range_with_len 0 (length bs))) t ≡ sum (Wide Joins (length (numbers (first_burst bs)))) t
  one_join [] l = absurd (omega (arith, l))
  one_join (b ∷ []) l = omega (arith, ap (λ n. sum (Wide Joins n) t) (map_long (λ (a : Sym). a.0) b))
  one_join (b ∷ d ∷ bs) l = absurd (omega (arith, l))

  join_sum : sum_of part (filter (is_kept r) (Join ∷ [])) ≡ total_of sum (sums.joins G) t
  join_sum = sum_filter part (is_kept r) (Join ∷ []) ∙ omega (arith, kept_single Joins r.burst, one_join G.bursts h.one_burst)

  gate_one : (xs : List ℕ) → length xs ≡ 1 → sum (gate xs) t ≡ sum (One Iwires) t
  gate_one [] l = absurd (omega (arith, l))
  gate_one (x ∷ xs) l = refl

  gate_sum : sum_of part (filter (is_kept r) (Gate 0 ∷ [])) ≡ total_of sum (sums.first_act G) t
  gate_sum = sum_filter part (is_kept r) (Gate 0 ∷ []) ∙ by G.start refl
    where
      by : (x : Start) → G.start ≡ x → (if begins_with_act x && nat_eq 0 0 then sum (One Iwires) t else 0) + 0 ≡ total_of sum (map (λ n. gate (entries_of G n)) (filter (begins_at x) (sums.all_acts G))) t
      by (start.Wait v) is = sym (total_chosen sum t (λ n. gate (entries_of G n)) (begins_at (start.Wait v)) (sums.all_acts G)
          ∙ sum_none (λ n. if begins_at (start.Wait v) n then sum (gate (entries_of G n)) t else 0) (sums.all_acts G) (λ n a. refl))
      by (start.Act m) is =
          let low : m < length G.acts = h.start_low m is in
          omega (
            arith,
            gate_one (entries_of G m) (h.one_entry m low),
            (sum_one (λ n. sum (gate (entries_of G n)) t) m 0 (length G.acts) (omega (arith, low))).1 (omega arith),
            total_chosen sum t (λ n. gate (entries_of G n)) (begins_at (start.Act m)) (sums.all_acts G),
          )

  outs_long : (n : ℕ) → length (r.outs n) ≡ length (outs_at G n)
  outs_long n = ap (λ (xs : List ℕ). length xs) (outs_same G.acts n) ∙ map_long (λ (a : Sym). a.0) (outs_at G n)

  abbrev spread_part : ℕ → ℕ
  spread_part n = if not (is_single (r.outs n)) then sum (Wide Forks (length (r.outs n))) t else 0

  spread_sum : sum_of part (filter (is_kept r) (map Spread (range_with_len 0 (pow r.levels)))) ≡ total_of sum (sums.spreads G) t
  spread_sum =
      sum_filter part (is_kept r) (map Spread (range_with_len 0 (pow r.levels)))
      ∙ sum_map (λ x. if is_kept r x then part x else 0) Spread (range_with_len 0 (pow r.levels))
      ∙ ap (λ k. sum_of spread_part (range_with_len 0 k)) (sym h.acts)
      ∙ total_same sum t spread_part (λ n. Wide Forks (length (outs_at G n))) (sums.all_acts G) (λ n a. kept_single Forks (r.outs n) ∙ ap (λ m. sum (Wide Forks m) t) (outs_long n))

  same_givers : (a : ℕ) → sums.givers G a ≡ givers r a
  same_givers a =
      filter_same (λ n. has_sym (record { 0 = a }) (outs_at G n)) (λ y. is_in a (r.outs y)) (sums.all_acts G) (λ n. same_member a (outs_at G n) ∙ ap (is_in a) (sym (outs_same G.acts n)))
      ∙ ap (λ k. filter (λ y. is_in a (r.outs y)) (range_with_len 0 k)) h.acts

  abbrev show_part : ℕ → ℕ
  show_part a = if is_out r a && not (is_single (givers r a)) then sum (Wide Merges (length (givers r a))) t else 0

  show_same : (a : ℕ) → a < names → show_part a ≡ sum (Wide Merges (length (sums.givers G a))) t
  show_same a low = ap (λ (xs : List ℕ). if is_out r a && not (is_single xs) then sum (Wide Merges (length xs)) t else 0) (sym (same_givers a)) ∙ by (is_out r a) refl
    where
      by : (b : Bool) → is_out r a ≡ b → (if b && not (is_single (sums.givers G a)) then sum (Wide Merges (length (sums.givers G a))) t else 0) ≡ sum (Wide Merges (length (sums.givers G a))) t
      by true is = kept_single Merges (sums.givers G a)
      by false is = sym (ap (λ (xs : List ℕ). sum (Wide Merges (length xs)) t) (h.not_out a low is) ∙ w.none Merges t)

  shown : List ℕ
  shown = filter (λ a. is_out r a && not (is_single (givers r a))) (range_with_len 0 (count r))

  show_sum : sum_of part (map Shows shown) ≡ total_of sum (sums.shows G names) t
  unfolding shown
  show_sum =
      sum_map part Shows shown
      ∙ sum_filter (λ a. part (Shows a)) (λ a. is_out r a && not (is_single (givers r a))) (range_with_len 0 (count r))
      ∙ ap (λ k. sum_of show_part (range_with_len 0 k)) h.names_long
      ∙ total_same sum t show_part (λ a. Wide Merges (length (sums.givers G a))) (range_with_len 0 names) (λ a i. show_same a (in_range names a i))

  tree_same : (d : ℕ) → sum_of part (each (toggles r) d) ≡ sum_of (λ (x : Name). sum (One Toggles) t) (each (toggles r) d)
  tree_same zero = refl
  tree_same (suc d) = omega (
    arith,
    sum_append part (each (toggles r) d) (toggles r d),
    sum_append (λ (x : Name). sum (One Toggles) t) (each (toggles r) d) (toggles r d),
    tree_same d,
    sum_map part (λ i. Tog (leaf d i)) (range_with_len 0 (pow d)),
    sum_map (λ (x : Name). sum (One Toggles) t) (λ i. Tog (leaf d i)) (range_with_len 0 (pow d)),
  )

  tree_long : (d : ℕ) → length (each (toggles r) d) + 1 ≡ pow d
  tree_long zero = refl
  tree_long (suc d) = omega (arith, length-append (each (toggles r) d) (toggles r d), tree_long d, map_long (λ i. Tog (leaf d i)) (range_with_len 0 (pow d)), range_long 0 (pow d))

  tree_sum : sum_of part (each (toggles r) r.levels) ≡ total_of sum (map (λ i. One Toggles) (range_with_len 0 (pow e - 1))) t
  tree_sum =
      tree_same e
      ∙ sum_long (sum (One Toggles) t) (each (toggles r) e) (range_with_len 0 (pow e - 1)) (omega (arith, tree_long e, range_long 0 (pow e - 1)))
      ∙ sym (total_map sum t (λ i. One Toggles) (range_with_len 0 (pow e - 1)))

  calls_none : total_of sum (sums.calls G) t ≡ 0
  calls_none = total_none sum t (λ n. Wide Merges (length (entries_of G n))) (sums.all_acts G) (λ n a. ap (λ m. sum (Wide Merges m) t) (h.one_entry n (in_range (length G.acts) n a)) ∙ w.wire Merges t)

  chart_sum : sum_of_parts (node_sum sum t) (charted (rounds_chart r)) ≡ total_of sum (counted G names) t
  unfolding shown
  chart_sum =
      sum_is (λ (x : Node). node_sum sum t x.spec) (map (node_of (rounds_chart r)) (parts r))
      ∙ sum_map (λ (x : Node). node_sum sum t x.spec) (node_of (rounds_chart r)) (parts r)
      ∙ omega (
        arith,
        sum_append part (filter (is_kept r) (Join ∷ [])) (each (toggles r) r.levels ++ (filter (is_kept r) (Gate 0 ∷ []) ++ (filter (is_kept r) (map Spread (range_with_len 0 (pow r.levels))) ++ map Shows shown))),
        sum_append part (each (toggles r) r.levels) (filter (is_kept r) (Gate 0 ∷ []) ++ (filter (is_kept r) (map Spread (range_with_len 0 (pow r.levels))) ++ map Shows shown)),
        sum_append part (filter (is_kept r) (Gate 0 ∷ [])) (filter (is_kept r) (map Spread (range_with_len 0 (pow r.levels))) ++ map Shows shown),
        sum_append part (filter (is_kept r) (map Spread (range_with_len 0 (pow r.levels)))) (map Shows shown),
        join_sum,
        tree_sum,
        gate_sum,
        spread_sum,
        show_sum,
        calls_none,
        ap (λ (x : SplitStyle). total_of sum (sums.joins G ++ (sums.calls G ++ (sums.shows G names ++ (sums.first_act G ++ of_style x G names)))) t) h.style,
        total_both sum t (sums.joins G) (sums.calls G ++ (sums.shows G names ++ (sums.first_act G ++ of_style (Rounds (pow e)) G names))),
        total_both sum t (sums.calls G) (sums.shows G names ++ (sums.first_act G ++ of_style (Rounds (pow e)) G names)),
        total_both sum t (sums.shows G names) (sums.first_act G ++ of_style (Rounds (pow e)) G names),
        total_both sum t (sums.first_act G) (of_style (Rounds (pow e)) G names),
        total_both sum t (sums.spreads G) (map (λ i. One Toggles) (range_with_len 0 (pow e - 1))),
      )

-- ---- a command of this process alone

all_true : (q : ℕ → Bool) (xs : List ℕ) → list_all q xs ≡ true → (x : ℕ) → Among x xs → q x ≡ true
all_true q [] h x a = absurd a
all_true q (y ∷ xs) h x (inl e) = subst (λ z. q z ≡ true) (sym e) (and_both (q y) (list_all q xs) h).0
all_true q (y ∷ xs) h x (inr a) = all_true q xs (and_both (q y) (list_all q xs) h).1 x a

module _ (c : Command) (p : Proc) (e : ℕ) (h : HasRounds c p e) where
  abbrev G : WaitGraph
  G = graph_of p

  abbrev directions : ℕ → Bool
  directions = gives_symbol (marks_of_all c.procs)

  proc : IsProc p
  proc = (subst (AllByRecursion IsProc) h.alone c.valid.shaped).0

  body : IsTrue (is_some p.body)
  body = (subst (AllByRecursion (λ p. IsTrue (is_some p.body))) h.alone c.valid.bodied).0

  symbols_known : (a : ℕ) → a < length c.names ↔ IsTrue (has_symbol (marks_of_proc p) a)
  symbols_known =
      let marks : marks_of_all c.procs ≡ marks_of_proc p = ap marks_of_all h.alone ∙ append-nil (marks_of_proc p) in
      numbered_known p (length c.names) (subst (λ ms. IsNumbered 0 ms (length c.names)) marks c.valid.numbered)

  abbrev g : token.Links
  g = token.links G (length c.names)

  -- what an act gives is an output
  gives_out : (a n : ℕ) → Among n (g.givers a) → directions a ≡ true
  gives_out a n i =
      let (m, j, e, has) = (are_drawn directions p proc body h.fair h.directions h.sets (length c.names) symbols_known).of_givers n a i in
      (leg_chart directions p proc h.fair h.directions).dirs m a j.0 has ∙ j.1

  side : (a : ℕ) → a < length c.names → is_out (parts_of (Cmd c) G e) a ≡ directions a
  side a low = get_or-map-range_with_len directions 0 (length c.names) a a false (omega (arith, low)) (omega arith)

  not_given : (a : ℕ) → a < length c.names → is_out (parts_of (Cmd c) G e) a ≡ false → sums.givers G a ≡ []
  not_given a low none = filter_same (λ n. has_sym (record { 0 = a }) (outs_at G n)) (λ n. is_in a (g.outs n)) (sums.all_acts G) (λ n. same_member a (outs_at G n)) ∙ by (g.givers a) refl
    where
      by : (xs : List ℕ) → g.givers a ≡ xs → g.givers a ≡ []
      by [] is = is
      by (n ∷ ns) is = absurd (true≢false (sym (gives_out a n (subst (Among n) (sym is) (inl refl))) ∙ sym (side a low) ∙ none))

  weighed : IsWeighed (Cmd c) G e (length c.names)
  weighed =
      let (not_one, rounds, many) = style_rounds G (pow e) h.style in
      let (most, entry) = and_both (nat_eq (length G.bursts) 1 && is_power_of_two G.waits && nat_eq (length G.crosses) G.waits && one_entry_each (length G.acts) G.crosses) (has_entry G.start G.acts G.crosses) rounds in
      let (fewer, entries_one) = and_both (nat_eq (length G.bursts) 1 && is_power_of_two G.waits && nat_eq (length G.crosses) G.waits) (one_entry_each (length G.acts) G.crosses) most in
      let (few, crosses) = and_both (nat_eq (length G.bursts) 1 && is_power_of_two G.waits) (nat_eq (length G.crosses) G.waits) fewer in
      let (burst, power) = and_both (nat_eq (length G.bursts) 1) (is_power_of_two G.waits) few in record {
        style = h.style;
        one_burst = eqb-true (length G.bursts) 1 burst;
        acts = (rounds_command_ready c p e h).acts;
        one_entry = λ n low. omega (
          arith,
          length-map (filter (λ (x : Cross). nat_eq x.act n) G.crosses) (λ (x : Cross). x.burst),
          length-filter (λ (x : Cross). nat_eq x.act n) G.crosses,
          eqb-true (entries n G.crosses) 1 (all_true (λ a. nat_eq (entries a G.crosses) 1) (sums.all_acts G) entries_one n (low_in (length G.acts) n low)),
        );
        start_low = start_low (legs p);
        names_long = length-map-range_with_len directions 0 (length c.names);
        not_out = not_given;
      }

  pub rounds_sum : (sum : Counted → Sort → ℕ) → IsSum sum → (t : Sort) → sum_of_parts (node_sum sum t) (rounds_net c p e) ≡ total_of sum (counted G (length c.names)) t
  rounds_sum sum w t = chart_sum sum w t (Cmd c) G e (length c.names) weighed
