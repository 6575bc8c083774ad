-- A fair process is implemented by its chart by a token.
use Rattle.std.proofs.Common.{◌≡◌, ◌↔◌, ℕ, ◌+◌, ◌<◌, ◌≤◌, ◌^◌, Bool, true, nat_eq, eq-eqb, IsTrue, List, [], length, map, refl, sym, ap, ◌∙◌, subst, arith, is_some, append-nil, length-append, Option, Some, None}
use Rattle.std.specs.Prelude.{get_or, not, drop}
use Rattle.std.specs.List.{AllByRecursion, range_with_len}
use Rattle.cmd_tree.specs.declared.tree.Proc.{Proc}
use Rattle.cmd_tree.specs.Limits.{IsProc, IsNumbered, places_of_proc, places_of_all, marks_of_proc, marks_of_all}
use Rattle.cmd_tree.specs.declared.limits.TheConstants.{MAX_PLACES}
use Rattle.cmd_tree.specs.declared.command.Command.{Command}
use Rattle.cmd_tree.specs.Lists.{is_in}
use Rattle.cmd_tree.specs.Meaning.{has_symbol, Trace, TraceOf}
use Rattle.process_laws.specs.Shape.{IsFair}
use Rattle.basic_kinds.specs.Totals.{total}
use Rattle.basic_kinds.specs.ShapeParts.{has_row, has_column}
use Rattle.basic_kinds.specs.Sorts.{Sort, how_many}
use Rattle.basic_kinds.specs.Sums.{wide_sum, total_of}
use Rattle.net_core.specs.declared.spec.NodeSpec.{NodeSpec}
use Rattle.net_core.specs.Wiring.{Node, Circuit}
use Rattle.net_core.specs.Specs.{outs_of, May, IsFormed, gives_symbol}
use Rattle.net_core.specs.declared.spec.NodeSpec.TheVariants.{Cmd}
use Rattle.net_laws.specs.Charts.{charted}
use Rattle.net_laws.specs.Implementing.{Implements}
use Rattle.net_laws.proofs.Among.{Among}
use Rattle.place_graph.specs.declared.leg.Leg.{Leg}
use Rattle.place_graph.specs.declared.wait_graph.Act.{Act}
use Rattle.place_graph.specs.declared.wait_graph.Cross.{Cross as Crossing}
use Rattle.place_graph.specs.declared.wait_graph.Start.TheVariants as start
use Rattle.place_graph.specs.Sums.{counted}
use Rattle.place_graph.specs.Points.{legs}
use Rattle.place_graph.specs.Graph.{is_act, acts_of, inputs_of, act, cross, act_points, wait_points, points_of, index_of, burst_number, home_number, graph_of, in_order}
use Rattle.place_graph.specs.Drawable.{AreDirections, AreSets}
use Rattle.place_graph.proofs.BurstSets.{few_filter, few_with_new, bursts_few}
use Rattle.place_graph.proofs.Charted.{charted as leg_chart, leg_leads_on}
use Rattle.place_graph.proofs.Played.{played}
use Rattle.place_graph.proofs.LegBounds.{legs_few}
use Rattle.plain_split.specs.OneWaitSums.{is_component}
use Rattle.plain_split.specs.PlainNet.{HasCounted}
use Rattle.plain_split.proofs.SharedAdmitted.{alone_fair, alone_directions, alone_sets}
use Rattle.plain_split.proofs.SharedEntries.{leg_comes}
use Rattle.plain_split.proofs.SharedCommands.{numbered_known, comes_of_leg, one_traces}
use Rattle.plain_split.proofs.OneWaitLong.{few_long, once_times}
use Rattle.plain_split.proofs.OneWaitWires.{marks_places, map_long, filter_long, range_long, range_each, long_each, total_le}
use Rattle.plain_split.proofs.RoundsStyle.{order_long}
use Rattle.plain_split.proofs.OneWaitLaw.{known_of, trace_empty, trace_front}
use Rattle.token_split.specs.TokenChart.{Links, links, lines, token_chart, pair, is_open, listed as exit_list}
use Rattle.token_split.specs.TokenNet.{HasToken, NeedsToken, IsTokenNet, links_of, token_circuit}
use Rattle.token_split.proofs.TokenCounts.{Numbered}
use Rattle.token_split.proofs.TokenTraces.{Drawn}
use Rattle.token_split.proofs.TokenRoutes.{Listed}
use Rattle.token_split.proofs.TokenParts.{IsPart}
use Rattle.token_split.proofs.TokenCharted.{IsNarrow, token_right}
use Rattle.token_split.proofs.TokenStart.{first_leg}
use Rattle.token_split.proofs.TokenDrawn.{numbers, drawn, listed, parted}
use Rattle.token_split.proofs.TokenKinds.{token_kinds}
use Rattle.token_split.proofs.TokenWires.{acts_few, lines_few}

exit_few : (o : Option ℕ) → length (exit_list o) ≤ 1
exit_few None = omega arith
exit_few (Some x) = omega arith

module _ (out : ℕ → Bool) (p : Proc) (proc : IsProc p) (body : IsTrue (is_some p.body)) (fair : IsFair out p) (agree : AreDirections out p) (sets : AreSets (legs p))
    (names : ℕ) (known : (a : ℕ) → a < names ↔ IsTrue (has_symbol (marks_of_proc p) a)) where
  abbrev g : Links
  g = links (graph_of p) names

  abbrev key : Leg → ℕ
  key l = burst_number (legs p) l

  abbrev home : ℕ → ℕ
  home a = home_number (legs p) a

  abbrev no : ℕ → ℕ
  no x = index_of x (act_points (legs p))

  abbrev wait : ℕ → ℕ
  wait x = index_of x (wait_points (legs p))

  pub are_numbered : Numbered (legs p) out key home no wait
  are_numbered = numbers (legs p) out (leg_chart out p proc fair agree) sets names (leg_leads_on out p proc fair agree body) (known_of p names known) (leg_comes p proc) (first_leg p proc body)

  pub are_drawn : Drawn (legs p) out g key home no wait
  are_drawn = drawn (legs p) out (leg_chart out p proc fair agree) sets names (leg_leads_on out p proc fair agree body) (known_of p names known) (leg_comes p proc) (first_leg p proc body)

  pub are_listed : Listed (legs p) out g key home no wait
  are_listed = listed (legs p) out (leg_chart out p proc fair agree) sets names (leg_leads_on out p proc fair agree body) (known_of p names known) (leg_comes p proc) (first_leg p proc body)

  pub are_parted : (i : ℕ) → Among i g.parts → IsPart (g.rows i) (g.columns i) (g.meets i)
  are_parted = parted (legs p) out (leg_chart out p proc fair agree) sets names (leg_leads_on out p proc fair agree body) (known_of p names known) (leg_comes p proc) (first_leg p proc body)

  -- ---- how many there are

  pub acts_low : g.acts ≤ places_of_proc p
  acts_low = omega (arith, legs_few p proc, few_filter is_act (legs p), map_long (act (legs p)) (acts_of (legs p)))

  inputs_low : length (inputs_of (legs p)) ≤ places_of_proc p
  inputs_low = omega (arith, legs_few p proc, few_filter (λ l. not (is_act l)) (legs p))

  pub waits_low : g.waits ≤ places_of_proc p
  waits_low = omega (arith, few_with_new nat_eq [] (points_of (inputs_of (legs p))), map_long (λ (l : Leg). l.from) (inputs_of (legs p)), inputs_low)

  pub bursts_low : g.bursts ≤ places_of_proc p
  bursts_low = omega (arith, legs_few p proc, bursts_few (legs p))

  abbrev crosses : List Crossing
  crosses = in_order (map (cross (legs p)) (inputs_of (legs p)))

  pub crosses_low : length crosses ≤ places_of_proc p
  crosses_low = omega (arith, order_long (map (cross (legs p)) (inputs_of (legs p))), map_long (cross (legs p)) (inputs_of (legs p)), inputs_low)

  pub narrow : places_of_proc p < 2 ^ 26 → names < 2 ^ 26 → IsNarrow g
  narrow few_places few_names = record {
    symbols = λ b. omega (arith, few_names, few_long names (g.symbols b) (λ a h. let (l, i, x, e) = are_drawn.of_symbols b a h in are_listed.has_low l a i.0 x) (once_times (g.symbols b) (are_listed.symbols_once b)));
    meets = λ i. omega (
      arith,
      few_places,
      waits_low,
      bursts_low,
      crosses_low,
      filter_long (has_row (map pair (g.meets i))) (range_with_len 0 g.waits),
      range_long 0 g.waits,
      filter_long (has_column (map pair (g.meets i))) (range_with_len 0 g.bursts),
      range_long 0 g.bursts,
      filter_long (λ (k : Crossing). nat_eq (g.row_part k.wait) i) crosses,
    );
    entries = λ n. omega (arith, few_places, crosses_low, filter_long (λ (k : Crossing). nat_eq k.act n) crosses);
    outs = λ n. omega (
      arith,
      few_names,
      length-append (g.outs n) (g.exits n),
      few_long names (g.outs n) (λ a h. let (m, i, e, x) = are_drawn.of_outs n a h in are_listed.has_low m a i.0 x) (once_times (g.outs n) (are_listed.outs_once n)),
      exit_few (get_or (map (λ (y : Act). y.exit) (graph_of p).acts) n None),
    );
    returns = λ x. omega (arith, few_places, acts_low, filter_long (λ n. is_in x (g.exits n)) (range_with_len 0 g.acts), range_long 0 g.acts);
    givers = λ a. omega (arith, few_places, acts_low, filter_long (λ n. is_in a (g.outs n)) (range_with_len 0 g.acts), range_long 0 g.acts);
  }

  pub process_right : places_of_proc p < 2 ^ 26 → names < 2 ^ 26 → (s : NodeSpec) → IsFormed s → outs_of s ≡ map out (range_with_len 0 names)
      → ((t : List ℕ) → May s t ↔ TraceOf p t) → Implements (charted (token_chart s g)) s
  process_right few_places few_names s formed directions traces =
      token_right (legs p) out (TraceOf p) g key home no wait are_numbered (played out p proc fair agree) are_drawn are_listed are_parted (narrow few_places few_names) s formed directions traces
      (trace_empty p proc) (trace_front p)

  entries_low : long_each g.entries (range_with_len 0 g.acts) ≤ length crosses
  entries_low = omega (arith, range_each g.entries 0 g.acts, shifted, acts_few g.acts crosses)
    where
      shifted : total g.acts (λ i. length (g.entries (0 + i))) ≤ total g.acts (λ i. length (g.entries i))
      shifted = total_le g.acts (λ i. length (g.entries (0 + i))) (λ i. length (g.entries i)) (λ i low. omega (arith, ap (λ n. length (g.entries n)) (let z : 0 + i ≡ i = omega arith in z)))

  pub wires_few : length (lines g) ≤ names + names + (places_of_proc p + places_of_proc p) + (places_of_proc p + (places_of_proc p + places_of_proc p)) + (places_of_proc p + places_of_proc p) + places_of_proc p
  wires_few = omega (arith, lines_few (legs p) out g key home no wait are_numbered are_drawn are_listed, waits_low, bursts_low, acts_low, entries_low, crosses_low, marks_places p)

-- ---- a command of this process alone

module _ (c : Command) (p : Proc) (h : HasToken c p) where
  abbrev pub directions : ℕ → Bool
  directions = gives_symbol (marks_of_all c.procs)

  pub proc : IsProc p
  proc = (subst (AllByRecursion IsProc) h.alone c.valid.shaped).0

  pub body : IsTrue (is_some p.body)
  body = (subst (AllByRecursion (λ p. IsTrue (is_some p.body))) h.alone c.valid.bodied).0

  pub symbols_known : (a : ℕ) → a < length c.names ↔ IsTrue (has_symbol (marks_of_proc p) a)
  symbols_known =
      let marks : marks_of_all c.procs ≡ marks_of_proc p = ap marks_of_all h.alone ∙ append-nil (marks_of_proc p) in
      numbered_known p (length c.names) (subst (λ ms. IsNumbered 0 ms (length c.names)) marks c.valid.numbered)

  pub places : places_of_proc p ≤ MAX_PLACES
  places = omega (arith, c.valid.few_places, ap places_of_all h.alone)

  traces : (t : List ℕ) → Trace c.procs t ↔ TraceOf p t
  traces t = subst (λ ps. Trace ps t ↔ TraceOf p t) (sym h.alone)
      (one_traces p (trace_empty p proc) (trace_front p) (λ u a x. (symbols_known a).0 ((known_of p (length c.names) symbols_known a).1
      (comes_of_leg (legs p) (TraceOf p) (played directions p proc h.fair h.directions) (trace_front p) u a x))) t)

  pub command_right : Implements (token_circuit c p) (Cmd c)
  unfolding May
  command_right = process_right directions p proc body h.fair h.directions h.sets (length c.names) symbols_known
      (omega (arith, places)) (omega (arith, c.valid.few_symbols)) (Cmd c) tt refl traces

  pub command_wires : (token_circuit c p).wires < 2 ^ 20
  command_wires = omega (arith, wires_few directions p proc body h.fair h.directions h.sets (length c.names) symbols_known, places, c.valid.few_symbols)

  -- ---- what the code rests on

  pub command_parted : (i : ℕ) → Among i (links_of c p).parts → IsPart ((links_of c p).rows i) ((links_of c p).columns i) ((links_of c p).meets i)
  command_parted = are_parted directions p proc body h.fair h.directions h.sets (length c.names) symbols_known

  pub command_narrow : IsNarrow (links_of c p)
  command_narrow = narrow directions p proc body h.fair h.directions h.sets (length c.names) symbols_known (omega (arith, places)) (omega (arith, c.valid.few_symbols))

  -- where the process begins at a wait, there is one
  wait_begun : (v : ℕ) → (graph_of p).start ≡ start.Wait v → v < (graph_of p).waits
  wait_begun v e =
      let opens : (links_of c p).opens v ≡ true = ap (is_open v) e ∙ eq-eqb v v refl in
      let (l, i, z) = (are_drawn directions p proc body h.fair h.directions h.sets (length c.names) symbols_known).start_wait v opens in
      omega (arith, (are_listed directions p proc body h.fair h.directions h.sets (length c.names) symbols_known).wait_low l i, z)

  pub command_kinds : (k : Sort) → how_many (λ (x : Node). is_component k x.spec) (drop 1 (token_circuit c p).nodes) ≡ total_of wide_sum (counted (graph_of p) (length c.names)) k
  command_kinds k = token_kinds (Cmd c) (graph_of p) (length c.names) h.style k command_parted wait_begun

module _ (c : Command) (p : Proc) (net : Circuit) (h : HasToken c p) (is : IsTokenNet c p net) where
  pub net_right : Implements net (Cmd c)
  net_right = subst (λ n. Implements n (Cmd c)) (sym is) (command_right c p h)

  pub net_wires : net.wires < 2 ^ 20
  net_wires = subst (λ (n : Circuit). n.wires < 2 ^ 20) (sym is) (command_wires c p h)

  pub net_kinds : HasCounted c p net
  net_kinds k = subst (λ (n : Circuit). how_many (λ (x : Node). is_component k x.spec) (drop 1 n.nodes) ≡ total_of wide_sum (counted (graph_of p) (length c.names)) k) (sym is) (command_kinds c p h k)

pub token_admitted : (c : Command) (p : Proc) → NeedsToken c p → HasToken c p
token_admitted c p n = record {
  alone = n.alone;
  fair = alone_fair c p n.alone n.admitted n.other;
  directions = alone_directions c p n.alone n.admitted n.other;
  sets = alone_sets c p n.alone n.admitted n.other;
  style = n.style;
}
