-- The sum over the network of a process with one wait.
use Rattle.std.proofs.Common.{◌≡◌, ℕ, ◌+◌, Bool, true, false, List, [], ◌∷◌, ◌++◌, length, map, filter, refl, sym, ap, ◌∙◌, arith, if◌then◌else◌}
use Rattle.std.specs.Prelude.{◌||◌}
use Rattle.std.specs.List.{range_with_len}
use Rattle.cmd_tree.specs.declared.command.Command.{Command}
use Rattle.cmd_tree.specs.declared.tree.Proc.{Proc}
use Rattle.cmd_tree.specs.declared.tree.Sym.{Sym}
use Rattle.cmd_tree.specs.Lists.{is_in}
use Rattle.basic_kinds.specs.Sorts.{Sort, Wires, Forks, Joins, Merges, how_many_below}
use Rattle.basic_kinds.specs.Sums.{Counted, One, Wide, wide_sum, total_of}
use Rattle.place_graph.specs.declared.wait_graph.WaitGraph.{WaitGraph}
use Rattle.place_graph.specs.declared.styles.SplitStyle.{SplitStyle}
use Rattle.place_graph.specs.declared.styles.SplitStyle.TheVariants.{OneWait}
use Rattle.place_graph.specs.Graph.{has_sym, graph_of}
use Rattle.place_graph.specs.Style.{style_of}
use Rattle.place_graph.specs.Sums as sums
use Rattle.place_graph.specs.Sums.{counted, of_style, is_one, is_straight, symbols_at, outs_at, entries_of, begins_at, gate}
use Rattle.net_core.specs.declared.spec.NodeSpec.{NodeSpec}
use Rattle.net_core.specs.declared.spec.NodeSpec.TheVariants.{Kind as Basic, Cmd}
use Rattle.net_core.specs.Wiring.{Node}
use Rattle.net_core.specs.Renumbering.{sum_of_parts}
use Rattle.net_laws.specs.Charts.{charted, node_of}
use Rattle.plain_split.specs.SharedPaths.{joined}
use Rattle.plain_split.specs.OneWait as web
use Rattle.plain_split.specs.OneWait.{Name, Join, Calls, Gate, Spread, Shows, Links, links, many, is_direct, is_kept, gate_kind, show_kind, spec_at, all_names, parts, one_chart}
use Rattle.plain_split.specs.OneWaitCommands.{HasOneWait, one_wait_net}
use Rattle.plain_split.proofs.SharedSums.{chosen_group}
use Rattle.plain_split.proofs.OneWaitWeb.{sum_of}
use Rattle.plain_split.proofs.OneWaitWires.{map_long}
use Rattle.plain_split.proofs.OneWaitWritten.{same_member, filter_same, same_begin}
use Rattle.plain_split.proofs.OneWaitLaw.{command_counted}
use Rattle.net_sums.specs.NodeSums.{IsSum, node_sum}
use Rattle.net_sums.proofs.WeighedLists.{sum_is, sum_append, sum_map, sum_filter, sum_same, sum_both, sum_three, sum_joined, chosen_long, total_both, total_same, total_map, total_chosen, total_none, kept_wide}

gate_wires : (xs : List ℕ) → wide_sum (gate xs) Wires ≡ 0
gate_wires [] = refl
gate_wires (x ∷ xs) = refl

module _ (G : WaitGraph) (names : ℕ) where
  abbrev g : Links
  g = links G names

  -- as many WIREs are counted as there are direct paths
  abbrev AsManyWires : Type 0
  AsManyWires = how_many_below names (λ a. is_one (is_straight G) (sums.givers G a)) ≡ how_many_below names (λ a. is_direct g (g.givers a))

  wires_counted : style_of G ≡ OneWait → total_of wide_sum (counted G names) Wires ≡ how_many_below names (λ a. is_one (is_straight G) (sums.givers G a))
  wires_counted style = omega (
    arith,
    ap (λ (x : SplitStyle). total_of wide_sum (sums.joins G ++ (sums.calls G ++ (sums.shows G names ++ (sums.first_act G ++ of_style x G names)))) Wires) style,
    total_both wide_sum Wires (sums.joins G) (sums.calls G ++ (sums.shows G names ++ (sums.first_act G ++ of_style OneWait G names))),
    total_both wide_sum Wires (sums.calls G) (sums.shows G names ++ (sums.first_act G ++ of_style OneWait G names)),
    total_both wide_sum Wires (sums.shows G names) (sums.first_act G ++ of_style OneWait G names),
    total_both wide_sum Wires (sums.first_act G) (of_style OneWait G names),
    total_both wide_sum Wires (sums.spreads G) (sums.directs G names),
    total_none wide_sum Wires (λ b. Wide Joins (length (symbols_at G b))) (sums.all_bursts G) (λ b a. refl),
    total_none wide_sum Wires (λ n. Wide Merges (length (entries_of G n))) (sums.all_acts G) (λ n a. refl),
    total_none wide_sum Wires (λ a. Wide Merges (length (sums.givers G a))) (range_with_len 0 names) (λ n a. refl),
    total_none wide_sum Wires (λ n. gate (entries_of G n)) (filter (begins_at G.start) (sums.all_acts G)) (λ n a. gate_wires (entries_of G n)),
    total_none wide_sum Wires (λ n. Wide Forks (length (outs_at G n))) (sums.all_acts G) (λ n a. refl),
    chosen_group Wires Wires (λ a. is_one (is_straight G) (sums.givers G a)) (range_with_len 0 names),
  )

  module _ (sum : Counted → Sort → ℕ) (w : IsSum sum) (t : Sort) (s : NodeSpec) where
    abbrev part : Name → ℕ
    part x = if is_kept g x then node_sum sum t (spec_at s g x) else 0

    join_sum : sum_of (λ b. part (Join b)) (sums.all_bursts G) ≡ total_of sum (sums.joins G) t
    join_sum = total_same sum t (λ b. part (Join b)) (λ b. Wide Joins (length (symbols_at G b))) (sums.all_bursts G)
        (λ b a. kept_wide sum t w Joins (g.symbols b) ∙ ap (λ n. sum (Wide Joins n) t) (map_long (λ (a : Sym). a.0) (symbols_at G b)))

    call_sum : sum_of (λ n. part (Calls n)) (sums.all_acts G) ≡ total_of sum (sums.calls G) t
    call_sum = total_same sum t (λ n. part (Calls n)) (λ n. Wide Merges (length (entries_of G n))) (sums.all_acts G) (λ n a. kept_wide sum t w Merges (g.entries n))

    gate_same : (xs : List ℕ) → node_sum sum t (Basic (gate_kind xs)) ≡ sum (gate xs) t
    gate_same [] = refl
    gate_same (x ∷ xs) = refl

    gate_sum : sum_of (λ n. part (Gate n)) (sums.all_acts G) ≡ total_of sum (sums.first_act G) t
    gate_sum = sum_same (λ n. part (Gate n)) (λ n. if begins_at G.start n then sum (gate (entries_of G n)) t else 0) (sums.all_acts G)
        (λ n a. ap (λ b. if b then node_sum sum t (Basic (gate_kind (g.entries n))) else 0) (sym (same_begin G.start n))
        ∙ ap (λ v. if begins_at G.start n then v else 0) (gate_same (g.entries n)))
        ∙ sym (total_chosen sum t (λ n. gate (entries_of G n)) (begins_at G.start) (sums.all_acts G))

    spread_sum : sum_of (λ n. part (Spread n)) (sums.all_acts G) ≡ total_of sum (sums.spreads G) t
    spread_sum = total_same sum t (λ n. part (Spread n)) (λ n. Wide Forks (length (outs_at G n))) (sums.all_acts G)
        (λ n a. kept_wide sum t w Forks (g.outs n) ∙ ap (λ m. sum (Wide Forks m) t) (map_long (λ (a : Sym). a.0) (outs_at G n)))

    same_givers : (a : ℕ) → sums.givers G a ≡ g.givers a
    same_givers a = filter_same (λ n. has_sym (record { 0 = a }) (outs_at G n)) (λ n. is_in a (web.outs_at G n)) (sums.all_acts G) (λ n. same_member a (outs_at G n))

    show_part : (xs : List ℕ) → (if many xs || is_direct g xs then node_sum sum t (Basic (show_kind xs)) else 0) ≡ sum (Wide Merges (length xs)) t + (if is_direct g xs then sum (One Wires) t else 0)
    show_part [] = omega (arith, w.none Merges t)
    show_part (x ∷ []) = omega (arith, w.wire Merges t)
    show_part (x ∷ y ∷ xs) = omega arith

    show_sum : AsManyWires → sum_of (λ a. part (Shows a)) (range_with_len 0 names) ≡ total_of sum (sums.shows G names) t + total_of sum (sums.directs G names) t
    show_sum many_wires = omega (
      arith,
      sum_same (λ a. part (Shows a)) (λ a. sum (Wide Merges (length (g.givers a))) t + (if is_direct g (g.givers a) then sum (One Wires) t else 0)) (range_with_len 0 names) (λ a i. show_part (g.givers a)),
      sum_both (λ a. sum (Wide Merges (length (g.givers a))) t) (λ a. if is_direct g (g.givers a) then sum (One Wires) t else 0) (range_with_len 0 names),
      total_same sum t (λ a. sum (Wide Merges (length (g.givers a))) t) (λ a. Wide Merges (length (sums.givers G a))) (range_with_len 0 names) (λ a i. ap (λ (ns : List ℕ). sum (Wide Merges (length ns)) t) (sym (same_givers a))),
      chosen_long (sum (One Wires) t) (λ a. is_one (is_straight G) (sums.givers G a)) (λ a. is_direct g (g.givers a)) (range_with_len 0 names) (range_with_len 0 names) many_wires,
      total_chosen sum t (λ a. One Wires) (λ a. is_one (is_straight G) (sums.givers G a)) (range_with_len 0 names),
    )

    act_names : List Name
    act_names = joined (λ n. Calls n ∷ Gate n ∷ Spread n ∷ []) (sums.all_acts G)

    pub chart_sum : style_of G ≡ OneWait → AsManyWires → sum_of_parts (node_sum sum t) (charted (one_chart s g)) ≡ total_of sum (counted G names) t
    unfolding act_names
    chart_sum style many_wires =
        sum_is (λ (x : Node). node_sum sum t x.spec) (map (node_of (one_chart s g)) (parts g))
        ∙ sum_map (λ (x : Node). node_sum sum t x.spec) (node_of (one_chart s g)) (parts g)
        ∙ sum_filter (λ x. node_sum sum t (spec_at s g x)) (is_kept g) (all_names g)
        ∙ omega (
          arith,
          sum_append part (map Join (sums.all_bursts G)) (act_names ++ map Shows (range_with_len 0 names)),
          sum_append part act_names (map Shows (range_with_len 0 names)),
          sum_map part Join (sums.all_bursts G),
          sum_joined part (λ n. Calls n ∷ Gate n ∷ Spread n ∷ []) (sums.all_acts G),
          sum_three (λ n. part (Calls n)) (λ n. part (Gate n)) (λ n. part (Spread n)) (sums.all_acts G),
          sum_map part Shows (range_with_len 0 names),
          join_sum,
          call_sum,
          gate_sum,
          spread_sum,
          show_sum many_wires,
          ap (λ (x : SplitStyle). total_of sum (sums.joins G ++ (sums.calls G ++ (sums.shows G names ++ (sums.first_act G ++ of_style x G names)))) t) style,
          total_both sum t (sums.joins G) (sums.calls G ++ (sums.shows G names ++ (sums.first_act G ++ of_style OneWait G names))),
          total_both sum t (sums.calls G) (sums.shows G names ++ (sums.first_act G ++ of_style OneWait G names)),
          total_both sum t (sums.shows G names) (sums.first_act G ++ of_style OneWait G names),
          total_both sum t (sums.first_act G) (of_style OneWait G names),
          total_both sum t (sums.spreads G) (sums.directs G names),
        )

-- a command of this process alone
pub one_wait_sum : (sum : Counted → Sort → ℕ) → IsSum sum → (c : Command) (p : Proc) → HasOneWait c p → (t : Sort)
    → sum_of_parts (node_sum sum t) (one_wait_net c p) ≡ total_of sum (counted (graph_of p) (length c.names)) t
one_wait_sum sum w c p one t = chart_sum (graph_of p) (length c.names) sum w t (Cmd c) one.style
    (sym (wires_counted (graph_of p) (length c.names) one.style) ∙ sym (command_counted c p one Wires))
