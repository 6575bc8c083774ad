-- The sum over the network of a process by a token.
use Rattle.std.proofs.Common.{◌≡◌, inl, ℕ, zero, suc, ◌+◌, ◌<◌, Bool, true, false, filter, cond, nat_eq, List, [], ◌∷◌, ◌++◌, length, map, get_or, refl, sym, ap, ◌∙◌, subst, arith, if◌then◌else◌, length-append, eq-eqb, eqb-true, Option, Some, None}
use Rattle.std.specs.Prelude.{◌||◌}
use Rattle.std.specs.List.{list_any, range_with_len}
use Rattle.std.proofs.lemmas.List.{get_or-map}
use Rattle.cmd_tree.specs.declared.command.Command.{Command}
use Rattle.cmd_tree.specs.declared.tree.Proc.{Proc}
use Rattle.cmd_tree.specs.declared.tree.Sym.{Sym}
use Rattle.cmd_tree.specs.Limits.{marks_of_all}
use Rattle.cmd_tree.specs.Lists.{is_in}
use Rattle.basic_kinds.specs.Shapes.{IsShape}
use Rattle.basic_kinds.specs.ShapeParts.{label, part_at}
use Rattle.basic_kinds.specs.Sorts.{Sort, Iwires, Sources, Forks, Joins, Merges, how_many}
use Rattle.basic_kinds.specs.Sums.{Counted, One, Wide, Wait, total_of}
use Rattle.place_graph.specs.declared.wait_graph.WaitGraph.{WaitGraph}
use Rattle.place_graph.specs.declared.wait_graph.Act.{Act}
use Rattle.place_graph.specs.declared.wait_graph.Start.{Start}
use Rattle.place_graph.specs.declared.wait_graph.Start.TheVariants as start
use Rattle.place_graph.specs.declared.wait_graph.Cross.{Cross as Crossing}
use Rattle.place_graph.specs.declared.styles.SplitStyle.{SplitStyle}
use Rattle.place_graph.specs.declared.styles.SplitStyle.TheVariants.{Token}
use Rattle.place_graph.specs.Graph.{has_sym, graph_of}
use Rattle.place_graph.specs.GraphTraces.{numbers_of}
use Rattle.place_graph.specs.Style.{is_exit, has_entry, style_of}
use Rattle.place_graph.specs.Sums as sums
use Rattle.place_graph.specs.Sums.{counted, of_style, entries_of, begins_at, gate, exits, leading, meeting, symbols_at, outs_at}
use Rattle.net_core.specs.declared.spec.NodeSpec.{NodeSpec}
use Rattle.net_core.specs.declared.spec.NodeSpec.TheVariants.{Kind as Basic, Cmd}
use Rattle.net_core.specs.Specs.{gives_symbol}
use Rattle.net_core.specs.Wiring.{Node, Circuit}
use Rattle.net_core.specs.Renumbering.{sum_of_parts}
use Rattle.net_laws.specs.Charts.{charted, node_of}
use Rattle.net_laws.proofs.Among.{Among}
use Rattle.plain_split.specs.SharedPaths.{joined}
use Rattle.plain_split.specs.OneWait.{many}
use Rattle.plain_split.proofs.SharedAdmitted.{eq_flip}
use Rattle.plain_split.proofs.OneWaitWeb.{sum_of}
use Rattle.plain_split.proofs.OneWaitWires.{map_long}
use Rattle.plain_split.proofs.OneWaitWritten.{same_member, filter_same, same_begin}
use Rattle.token_split.specs.TokenChart.{Name, Join, Meet, Calls, Gate, Spread, Returns, Entry, Shows, Links, links, is_kept, is_open, gate_kind, pair, spec_at, all_names, components, token_chart, listed}
use Rattle.token_split.specs.TokenNet.{HasToken, IsTokenNet, links_of, token_circuit}
use Rattle.token_split.proofs.TokenParts.{IsPart, local_of, kind_of, shape_of, dw_is, no_crossing}
use Rattle.token_split.proofs.TokenLaw.{proc, body, symbols_known, command_parted, are_drawn, are_listed}
use Rattle.net_sums.specs.NodeSums.{IsSum, node_sum}
use Rattle.net_sums.proofs.WeighedLists.{sum_is, sum_append, sum_map, sum_filter, sum_same, sum_none, sum_one, sum_two, sum_three, sum_joined, total_both, total_same, total_chosen, total_places, long_places, kept_wide}

abbrev not_zero : ℕ → Bool
not_zero zero = false
not_zero (suc n) = true

filter_map : {A B : Type 0} (p : B → Bool) (f : A → B) (xs : List A) → filter p (map f xs) ≡ map f (filter (λ x. p (f x)) xs)
filter_map p f [] = refl
filter_map p f (x ∷ xs) = by (p (f x)) (filter_map p f xs)
  where
    by : (b : Bool) → filter p (map f xs) ≡ map f (filter (λ x. p (f x)) xs) → cond b (f x ∷ filter p (map f xs)) (filter p (map f xs)) ≡ map f (cond b (x ∷ filter (λ x. p (f x)) xs) (filter (λ x. p (f x)) xs))
    by true e = ap (λ ys. f x ∷ ys) e
    by false e = e

any_many : {A : Type 0} (q : A → Bool) (ys : List A) (n : ℕ) → how_many q ys ≡ n → list_any q ys ≡ not_zero n
any_many q [] n e = by n e
  where
    by : (m : ℕ) → 0 ≡ m → false ≡ not_zero m
    by zero z = refl
    by (suc m) z = absurd (omega (arith, z))
any_many q (y ∷ ys) n e = by (q y) n e (any_many q ys)
  where
    by : (b : Bool) (m : ℕ) → (if b then 1 else 0) + how_many q ys ≡ m → ((k : ℕ) → how_many q ys ≡ k → list_any q ys ≡ not_zero k) → (b || list_any q ys) ≡ not_zero m
    by true zero z f = absurd (omega (arith, z))
    by true (suc m) z f = refl
    by false m z f = f m (omega (arith, z))

exit_same : (w : ℕ) (o : Option ℕ) → is_in w (listed o) ≡ is_exit w o
exit_same w None = refl
exit_same w (Some x) = or_false (nat_eq w x) ∙ eq_flip w x
  where
    or_false : (b : Bool) → (b || false) ≡ b
    or_false true = refl
    or_false false = refl

long_exit : (o : Option ℕ) → length (listed o) ≡ exits o
long_exit None = refl
long_exit (Some x) = refl

-- where each of some lines is of one crossing, there is one
lone_line : (n x : ℕ) → ((i : ℕ) → i < n → (nat_eq x i || false) ≡ true) → 0 < n → (n ≡ 1) × (x ≡ 0)
lone_line n x each some = by n each some
  where
    at : (i : ℕ) → (nat_eq x i || false) ≡ true → x ≡ i
    at i h = eqb-true x i (or_true (nat_eq x i) h)
      where
        or_true : (b : Bool) → (b || false) ≡ true → b ≡ true
        or_true true e = refl
        or_true false e = e

    by : (m : ℕ) → ((i : ℕ) → i < m → (nat_eq x i || false) ≡ true) → 0 < m → (m ≡ 1) × (x ≡ 0)
    by zero f h = absurd (omega arith)
    by (suc zero) f h = (refl, at 0 (f 0 (omega arith)))
    by (suc (suc m)) f h = absurd (omega (arith, at 0 (f 0 (omega arith)), at 1 (f 1 (omega arith))))

module _ (sum : Counted → Sort → ℕ) (w : IsSum sum) (t : Sort) (s : NodeSpec) (G : WaitGraph) (names : ℕ) where
  abbrev g : Links
  g = links G names

  abbrev IsParted : Type 0
  IsParted = (i : ℕ) → Among i g.parts → IsPart (g.rows i) (g.columns i) (g.meets i)

  abbrev IsBegun : Type 0
  IsBegun = (v : ℕ) → G.start ≡ start.Wait v → v < G.waits

  abbrev part : Name → ℕ
  part x = if is_kept g x then node_sum sum t (spec_at s g x) else 0

  abbrev rest : Act
  rest = record { outs = []; exit = None }

  join_sum : sum_of (λ b. part (Join b)) (sums.all_bursts G) ≡ total_of sum (sums.joins G) t
  join_sum = total_same sum t (λ b. part (Join b)) (λ b. Wide Joins (length (symbols_at G b))) (sums.all_bursts G)
      (λ b a. kept_wide sum t w Joins (g.symbols b) ∙ ap (λ n. sum (Wide Joins n) t) (map_long (λ (a : Sym). a.0) (symbols_at G b)))

  call_sum : sum_of (λ n. part (Calls n)) (sums.all_acts G) ≡ total_of sum (sums.calls G) t
  call_sum = total_same sum t (λ n. part (Calls n)) (λ n. Wide Merges (length (entries_of G n))) (sums.all_acts G)
      (λ n a. ap (λ m. if many (entries_of G n) then sum (Wide Merges m) t else 0) (sym (map_long (λ (c : Crossing). c.burst) (g.entries n))) ∙ kept_wide sum t w Merges (entries_of G n))

  same_givers : (a : ℕ) → sums.givers G a ≡ g.givers a
  same_givers a = filter_same (λ n. has_sym (record { 0 = a }) (outs_at G n)) (λ n. is_in a (g.outs n)) (sums.all_acts G) (λ n. same_member a (outs_at G n))

  show_sum : sum_of (λ a. part (Shows a)) (range_with_len 0 names) ≡ total_of sum (sums.shows G names) t
  show_sum = total_same sum t (λ a. part (Shows a)) (λ a. Wide Merges (length (sums.givers G a))) (range_with_len 0 names)
      (λ a i. kept_wide sum t w Merges (g.givers a) ∙ ap (λ (ns : List ℕ). sum (Wide Merges (length ns)) t) (sym (same_givers a)))

  gate_same : {A : Type 0} (f : A → ℕ) (xs : List A) → node_sum sum t (Basic (gate_kind xs)) ≡ sum (gate (map f xs)) t
  gate_same f [] = refl
  gate_same f (x ∷ xs) = refl

  gate_sum : sum_of (λ n. part (Gate n)) (sums.all_acts G) ≡ total_of sum (sums.first_act G) t
  gate_sum = sum_same (λ n. part (Gate n)) (λ n. if begins_at G.start n then sum (gate (entries_of G n)) t else 0) (sums.all_acts G)
      (λ n a. ap (λ b. if b then node_sum sum t (Basic (gate_kind (g.entries n))) else 0) (sym (same_begin G.start n))
      ∙ ap (λ v. if begins_at G.start n then v else 0) (gate_same (λ (c : Crossing). c.burst) (g.entries n)))
      ∙ sym (total_chosen sum t (λ n. gate (entries_of G n)) (begins_at G.start) (sums.all_acts G))

  act_at : (n : ℕ) → n < length G.acts → length (g.outs n ++ g.exits n) ≡ length (get_or G.acts n rest).outs + exits (get_or G.acts n rest).exit
  act_at n low =
      let outs : g.outs n ≡ numbers_of (get_or G.acts n rest).outs = ap numbers_of (get_or-map (λ (y : Act). y.outs) G.acts n rest [] low) in
      let exit : g.exits n ≡ listed (get_or G.acts n rest).exit = ap listed (get_or-map (λ (y : Act). y.exit) G.acts n rest None low) in
      length-append (g.outs n) (g.exits n)
      ∙ omega (arith, ap (λ (xs : List ℕ). length xs) outs, map_long (λ (a : Sym). a.0) (get_or G.acts n rest).outs, ap (λ (xs : List ℕ). length xs) exit, long_exit (get_or G.acts n rest).exit)

  spread_sum : sum_of (λ n. part (Spread n)) (sums.all_acts G) ≡ total_of sum (sums.moves G) t
  spread_sum = total_places sum t rest (λ n. part (Spread n)) (λ (y : Act). Wide Forks (length y.outs + exits y.exit)) G.acts 0
      (λ i low. ap (λ n. part (Spread n)) (let e : 0 + i ≡ i = omega arith in e) ∙ kept_wide sum t w Forks (g.outs i ++ g.exits i) ∙ ap (λ m. sum (Wide Forks m) t) (act_at i low))

  lead_long : (v : ℕ) → length (g.returns v) ≡ leading G v
  lead_long v = long_places rest (λ n. is_in v (g.exits n)) (λ (y : Act). is_exit v y.exit) G.acts 0
      (λ i low. ap (λ n. is_in v (g.exits n)) (let e : 0 + i ≡ i = omega arith in e)
      ∙ ap (λ o. is_in v (listed o)) (get_or-map (λ (y : Act). y.exit) G.acts i rest None low) ∙ exit_same v (get_or G.acts i rest).exit)

  return_sum : sum_of (λ v. part (Returns v)) (range_with_len 0 G.waits) ≡ total_of sum (sums.returns G) t
  return_sum = total_same sum t (λ v. part (Returns v)) (λ v. Wide Merges (leading G v)) (range_with_len 0 G.waits)
      (λ v a. kept_wide sum t w Merges (g.returns v) ∙ ap (λ m. sum (Wide Merges m) t) (lead_long v))

  entry_gate : (v : ℕ) → node_sum sum t (Basic (gate_kind (g.returns v))) ≡ sum (One (if list_any (λ (y : Act). is_exit v y.exit) G.acts then Iwires else Sources)) t
  entry_gate v = gate_by (g.returns v) ∙ ap (λ b. sum (One (if b then Iwires else Sources)) t) (sym (any_many (λ (y : Act). is_exit v y.exit) G.acts (length (g.returns v)) (sym (lead_long v))))
    where
      gate_by : (xs : List ℕ) → node_sum sum t (Basic (gate_kind xs)) ≡ sum (One (if not_zero (length xs) then Iwires else Sources)) t
      gate_by [] = refl
      gate_by (x ∷ xs) = refl

  abbrev entry_part : Start → ℕ → ℕ
  entry_part x v = if is_open v x then node_sum sum t (Basic (gate_kind (g.returns v))) else 0

  entry_sum : IsBegun → sum_of (λ v. part (Entry v)) (range_with_len 0 G.waits) ≡ total_of sum (sums.first_wait G.start G) t
  entry_sum begun = by G.start refl
    where
      by : (x : Start) → G.start ≡ x → sum_of (entry_part x) (range_with_len 0 G.waits) ≡ total_of sum (sums.first_wait x G) t
      by (start.Act n) is = sum_none (entry_part (start.Act n)) (range_with_len 0 G.waits) (λ v a. refl)
      by (start.Wait v) is = omega (
        arith,
        (sum_one (λ u. node_sum sum t (Basic (gate_kind (g.returns u)))) v 0 G.waits (omega (arith, begun v is))).1 (omega arith),
        entry_gate v,
        ap (λ x. sum (One (if has_entry x G.acts G.crosses then Iwires else Sources)) t) is,
      )

  part_part : (rows columns : List ℕ) (cs : List Crossing) → IsPart rows columns cs → node_sum sum t (Basic (kind_of rows columns cs)) ≡ sum (Wait (length rows) (length columns) (local_of cs)) t
  part_part rows columns [] h = absurd (no_crossing rows columns h)
  part_part rows columns (c ∷ []) h = by (local_of (c ∷ [])) refl h.shape
    where
      by : (cross : List (ℕ × ℕ)) → cross ≡ local_of (c ∷ []) → IsShape (length rows) (length columns) cross → sum (Wide Joins 2) t ≡ sum (Wait (length rows) (length columns) cross) t
      by [] e i = absurd (cc)
      by ((x, y) ∷ []) e i =
          let (one_row, first) = lone_line (length rows) x i.each_row i.some_row in
          let (one_column, second) = lone_line (length columns) y i.each_column i.some_column in
          sym (
          ap (λ n. sum (Wait n (length columns) ((x, y) ∷ [])) t) one_row
          ∙ ap (λ n. sum (Wait 1 n ((x, y) ∷ [])) t) one_column
          ∙ ap (λ n. sum (Wait 1 1 ((n, y) ∷ [])) t) first
          ∙ ap (λ n. sum (Wait 1 1 ((0, n) ∷ [])) t) second
          ∙ w.single t
          )
      by (p ∷ q ∷ ps) e i = absurd (cc)
  part_part rows columns (c ∷ n ∷ cs) h = ap (λ q. node_sum sum t (Basic q)) (dw_is (length rows) (length columns) (local_of (c ∷ n ∷ cs)) h.shape)

  meets_are : (i : ℕ) → part_at G.waits (sums.pairs G) i ≡ map pair (g.meets i)
  meets_are i = filter_map (λ (p : ℕ × ℕ). nat_eq (label G.waits (sums.pairs G) p.0) i) pair G.crosses

  meet_sum : IsParted → sum_of (λ i. part (Meet i)) g.parts ≡ total_of sum (sums.meetings G) t
  meet_sum parted = total_same sum t (λ i. part (Meet i)) (λ i. meeting G (part_at G.waits (sums.pairs G) i)) g.parts
      (λ i a. part_part (g.rows i) (g.columns i) (g.meets i) (parted i a) ∙ ap (λ ps. sum (meeting G ps) t) (sym (meets_are i)))

  act_names : List Name
  act_names = joined (λ n. Calls n ∷ Gate n ∷ Spread n ∷ []) (sums.all_acts G)

  wait_names : List Name
  wait_names = joined (λ v. Returns v ∷ Entry v ∷ []) (range_with_len 0 G.waits)

  chart_sum : style_of G ≡ Token → IsParted → IsBegun → sum_of_parts (node_sum sum t) (charted (token_chart s g)) ≡ total_of sum (counted G names) t
  unfolding act_names wait_names
  chart_sum style parted begun =
      sum_is (λ (x : Node). node_sum sum t x.spec) (map (node_of (token_chart s g)) (components g))
      ∙ sum_map (λ (x : Node). node_sum sum t x.spec) (node_of (token_chart s g)) (components g)
      ∙ sum_filter (λ x. node_sum sum t (spec_at s g x)) (is_kept g) (all_names g)
      ∙ omega (
        arith,
        sum_append part (map Join (sums.all_bursts G)) (map Meet g.parts ++ (act_names ++ (wait_names ++ map Shows (range_with_len 0 names)))),
        sum_append part (map Meet g.parts) (act_names ++ (wait_names ++ map Shows (range_with_len 0 names))),
        sum_append part act_names (wait_names ++ map Shows (range_with_len 0 names)),
        sum_append part wait_names (map Shows (range_with_len 0 names)),
        sum_map part Join (sums.all_bursts G),
        sum_map part Meet g.parts,
        sum_joined part (λ n. Calls n ∷ Gate n ∷ Spread n ∷ []) (sums.all_acts G),
        sum_three (λ n. part (Calls n)) (λ n. part (Gate n)) (λ n. part (Spread n)) (sums.all_acts G),
        sum_joined part (λ v. Returns v ∷ Entry v ∷ []) (range_with_len 0 G.waits),
        sum_two (λ v. part (Returns v)) (λ v. part (Entry v)) (range_with_len 0 G.waits),
        sum_map part Shows (range_with_len 0 names),
        join_sum,
        meet_sum parted,
        call_sum,
        gate_sum,
        spread_sum,
        return_sum,
        entry_sum begun,
        show_sum,
        ap (λ (x : SplitStyle). total_of sum (sums.joins G ++ (sums.calls G ++ (sums.shows G names ++ (sums.first_act G ++ of_style x G names)))) t) style,
        total_both sum t (sums.joins G) (sums.calls G ++ (sums.shows G names ++ (sums.first_act G ++ of_style Token G names))),
        total_both sum t (sums.calls G) (sums.shows G names ++ (sums.first_act G ++ of_style Token G names)),
        total_both sum t (sums.shows G names) (sums.first_act G ++ of_style Token G names),
        total_both sum t (sums.first_act G) (of_style Token G names),
        total_both sum t (sums.moves G) (sums.returns G ++ (sums.first_wait G.start G ++ sums.meetings G)),
        total_both sum t (sums.returns G) (sums.first_wait G.start G ++ sums.meetings G),
        total_both sum t (sums.first_wait G.start G) (sums.meetings G),
      )

-- ---- a command of this process alone

module _ (c : Command) (p : Proc) (h : HasToken c p) where
  abbrev directions : ℕ → Bool
  directions = gives_symbol (marks_of_all c.procs)

  -- where the process begins at a wait, there is one
  begun : (v : ℕ) → (graph_of p).start ≡ start.Wait v → v < (graph_of p).waits
  begun v e =
      let opens : (links_of c p).opens v ≡ true = ap (is_open v) e ∙ eq-eqb v v refl in
      let (l, i, z) = (are_drawn directions p (proc c p h) (body c p h) h.fair h.directions h.sets (length c.names) (symbols_known c p h)).start_wait v opens in
      omega (arith, (are_listed directions p (proc c p h) (body c p h) h.fair h.directions h.sets (length c.names) (symbols_known c p h)).wait_low l i, z)

  token_sum : (sum : Counted → Sort → ℕ) → IsSum sum → (t : Sort) → sum_of_parts (node_sum sum t) (token_circuit c p) ≡ total_of sum (counted (graph_of p) (length c.names)) t
  token_sum sum w t = chart_sum sum w t (Cmd c) (graph_of p) (length c.names) h.style (command_parted c p h) begun

  pub token_net_sum : (sum : Counted → Sort → ℕ) → IsSum sum → (net : Circuit) → IsTokenNet c p net → (t : Sort) → sum_of_parts (node_sum sum t) net ≡ total_of sum (counted (graph_of p) (length c.names)) t
  token_net_sum sum w net is t = ap (sum_of_parts (node_sum sum t)) is ∙ token_sum sum w t
