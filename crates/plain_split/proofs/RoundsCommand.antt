-- A command of one process in rounds is implemented by its chart.
use Rattle.std.proofs.Common.{◌≡◌, ◌↔◌, ℕ, zero, suc, ◌<◌, ◌≤◌, ◌^◌, Bool, true, false, true≢false, nat_eq, IsTrue, List, [], ◌∷◌, ◌++◌, length, refl, sym, ap, ◌∙◌, subst, arith, append-nil, eq-eqb, eqb-true, if◌then◌else◌}
use Rattle.std.specs.List.{AllByRecursion}
use Rattle.std.proofs.lemmas.List.FromFn.{length-map-range_with_len, get_or-map-range_with_len}
use Rattle.cmd_tree.specs.declared.tree.Proc.{Proc}
use Rattle.cmd_tree.specs.Limits.{IsProc, IsNumbered, places_of_proc, places_of_all, marks_of_proc, marks_of_all}
use Rattle.cmd_tree.specs.declared.command.Command.{Command}
use Rattle.cmd_tree.specs.declared.limits.TheConstants.{MAX_PLACES}
use Rattle.cmd_tree.specs.Meaning.{has_symbol, Trace, TraceOf}
use Rattle.net_core.specs.declared.spec.NodeSpec.TheVariants.{Cmd}
use Rattle.net_core.specs.Specs.{outs_of, May, gives_symbol}
use Rattle.net_laws.specs.Implementing.{Implements}
use Rattle.place_graph.specs.declared.wait_graph.WaitGraph.{WaitGraph}
use Rattle.place_graph.specs.declared.styles.SplitStyle.TheVariants.{OneWait, Rounds, Token}
use Rattle.place_graph.specs.Points.{legs}
use Rattle.place_graph.specs.Graph.{graph_of, home_number}
use Rattle.place_graph.specs.Style.{in_rounds, style_of, one_entry_each, has_entry}
use Rattle.place_graph.proofs.LegBounds.{legs_few}
use Rattle.place_graph.proofs.Listed.{homes_known}
use Rattle.place_graph.proofs.Charted.{charted as charts}
use Rattle.place_graph.proofs.Played.{played}
use Rattle.plain_split.specs.RoundsNet.{pow}
use Rattle.plain_split.specs.RoundsParts.{Specifies}
use Rattle.plain_split.specs.RoundsCommands.{HasRounds, round_parts, rounds_net}
use Rattle.plain_split.proofs.SharedCommands.{numbered_known, comes_of_leg, one_traces}
use Rattle.plain_split.proofs.OneWaitLaw.{known_of, trace_empty, trace_front}
use Rattle.plain_split.proofs.OneWaitWires.{marks_places}
use Rattle.plain_split.proofs.RoundsStyle.{long as ring_long}
use Rattle.plain_split.proofs.RoundsWires.{outs_few, wires_few}
use Rattle.std.specs.Prelude.{◌&&◌}
use Rattle.std.specs.Int.{is_power_of_two}
use Rattle.basic_kinds.specs.Sorts.{Sort}
use Rattle.basic_kinds.specs.Sums.{wide_sum, total_of}
use Rattle.place_graph.specs.Sums.{counted}
use Rattle.plain_split.specs.RoundsParts.{parts_of}
use Rattle.plain_split.specs.RoundsCommands.{rounds_sum}
use Rattle.plain_split.proofs.RoundsRoutes.{Fine}
use Rattle.plain_split.proofs.RoundsWritten.{rounds_written, start_low}
use Rattle.plain_split.proofs.RoundsLaw.{rounds_right_for, rounds_ready_for, rounds_fine_for}
use Rattle.plain_split.specs.Mirror.RoundsTables.{IsRoundGraph}

pub style_rounds : (g : WaitGraph) (k : ℕ) → style_of g ≡ Rounds k → (nat_eq g.waits 1 ≡ false) × (in_rounds g ≡ true) × (g.waits ≡ k)
style_rounds g k e = by (nat_eq g.waits 1) refl (in_rounds g) refl e
  where
    by : (b : Bool) → nat_eq g.waits 1 ≡ b → (c : Bool) → in_rounds g ≡ c → (if b then OneWait else (if c then Rounds g.waits else Token)) ≡ Rounds k
        → (nat_eq g.waits 1 ≡ false) × (in_rounds g ≡ true) × (g.waits ≡ k)
    by true x c z y = absurd (cc)
    by false x true z y = (x, z, cc)
    by false x false z y = absurd (cc)

both : (a b : Bool) → (a && b) ≡ true → (a ≡ true) × (b ≡ true)
both true b h = (refl, h)
both false b h = absurd (true≢false (sym h))

five : (a b c d e : Bool) → (a && b && c && d && e) ≡ true → (a ≡ true) × (d ≡ true)
five a b c d e h =
    let most = (both (a && b && c && d) e h).0 in
    let fewer = both (a && b && c) d most in
    ((both a b (both (a && b) c fewer.0).0).0, fewer.1)

-- a graph in rounds has one burst, and each act one entry
round_facts : (g : WaitGraph) → in_rounds g ≡ true → (nat_eq (length g.bursts) 1 ≡ true) × (one_entry_each (length g.acts) g.crosses ≡ true)
round_facts g h = five (nat_eq (length g.bursts) 1) (is_power_of_two g.waits) (nat_eq (length g.crosses) g.waits) (one_entry_each (length g.acts) g.crosses) (has_entry g.start g.acts g.crosses) h

module _ (c : Command) (p : Proc) (e : ℕ) (h : HasRounds c p e) where
  abbrev directions : ℕ → Bool
  directions = gives_symbol (marks_of_all c.procs)

  proc : IsProc p
  proc = (subst (AllByRecursion IsProc) h.alone c.valid.shaped).0

  symbols_known : (a : ℕ) → a < length c.names ↔ IsTrue (has_symbol (marks_of_proc p) a)
  symbols_known =
      let marks : marks_of_all c.procs ≡ marks_of_proc p = ap marks_of_all h.alone ∙ append-nil (marks_of_proc p) in
      numbered_known p (length c.names) (subst (λ ms. IsNumbered 0 ms (length c.names)) marks c.valid.numbered)

  places : places_of_proc p ≤ MAX_PLACES
  places = omega (arith, c.valid.few_places, ap places_of_all h.alone)

  known : (u : List ℕ) (a : ℕ) → TraceOf p (u ++ a ∷ []) → a < length c.names
  known u a x = (known_of p (length c.names) symbols_known a).1 (comes_of_leg (legs p) (TraceOf p) (played directions p proc h.fair h.directions) (trace_front p) u a x)

  traces : (t : List ℕ) → Trace c.procs t ↔ TraceOf p t
  traces t = subst (λ ps. Trace ps t ↔ TraceOf p t) (sym h.alone) (one_traces p (trace_empty p proc) (trace_front p) (λ u a x. (symbols_known a).0 (known u a x)) t)

  long : length (outs_of (Cmd c)) ≡ length c.names
  long = length-map-range_with_len directions 0 (length c.names)

  told : Specifies (Cmd c) directions (legs p) (TraceOf p)
  unfolding May
  told = record {
    formed = tt;
    sides = λ a low. get_or-map-range_with_len directions 0 (length c.names) a a false (omega (arith, long)) (omega arith);
    traces = traces;
    empty = trace_empty p proc;
    closed = λ u a x. trace_front p u (a ∷ []) x;
    known = λ u a x. omega (arith, known u a x, long);
    ports = λ l a among has. omega (arith, (known_of p (length c.names) symbols_known a).1 (l, among, has), long);
    covers = λ a low. (known_of p (length c.names) symbols_known a).0 (omega (arith, long));
  }

  some_levels : (n : ℕ) → nat_eq (graph_of p).waits 1 ≡ false → (graph_of p).waits ≡ pow n → 0 < n
  some_levels zero x m = absurd (true≢false (sym (eq-eqb (graph_of p).waits 1 m) ∙ x))
  some_levels (suc n) x m = omega arith

  pub rounds_command_right : Implements (rounds_net c p e) (Cmd c)
  rounds_command_right =
      let (not_one, rounds, many) = style_rounds (graph_of p) (pow e) h.style in
      rounds_right_for (Cmd c) directions p e proc places h.sets h.fair h.directions rounds many (some_levels e not_one many) told

  pub rounds_command_wires : (rounds_net c p e).wires < 2 ^ 20
  rounds_command_wires =
      let (not_one, rounds, many) = style_rounds (graph_of p) (pow e) h.style in
      omega (
        arith,
        wires_few (round_parts c p e),
        outs_few (legs p) (pow e),
        marks_places p,
        places,
        ring_long directions p proc (charts directions p proc h.fair h.directions) (home_number (legs p)) (homes_known (legs p) h.sets) rounds e many,
        legs_few p proc,
        long,
        c.valid.few_symbols,
      )

  pub rounds_command_ready : IsRoundGraph (Cmd c) (graph_of p) e
  rounds_command_ready =
      let (not_one, rounds, many) = style_rounds (graph_of p) (pow e) h.style in
      rounds_ready_for (Cmd c) directions p e proc places h.sets h.fair h.directions rounds many (some_levels e not_one many) told rounds_command_wires

  -- ---- what is counted

  pub rounds_command_counted : (t : Sort) → rounds_sum (round_parts c p e) t ≡ total_of wide_sum (counted (graph_of p) (length c.names)) t
  rounds_command_counted t =
      let (not_one, rounds, many) = style_rounds (graph_of p) (pow e) h.style in
      let fine : Fine (parts_of (Cmd c) (graph_of p) e) (TraceOf p) =
      rounds_fine_for (Cmd c) directions p e proc places h.sets h.fair h.directions rounds many (some_levels e not_one many) told in
      rounds_written (Cmd c) (graph_of p) e (length c.names) (record {
        style = h.style;
        one_burst = eqb-true (length (graph_of p).bursts) 1 (round_facts (graph_of p) rounds).0;
        acts = rounds_command_ready.acts;
        one_entry = (round_facts (graph_of p) rounds).1;
        start_low = start_low (legs p);
        names_long = long;
        burst_some = fine.burst_some;
        outs_some = fine.outs_some;
        outs_in = λ y a low i. (fine.outs_in y a low i).1;
        covers_out = λ a low out. fine.covers_out a (omega (arith, low, long)) out;
      }) t
