-- What the code that builds the network of a command of one process by a token rests on.
use Rattle.std.proofs.Common.{◌≡◌, Bool, ℕ, ◌<◌, ◌^◌, length, sym, ap, ◌∙◌, subst, arith}
use Rattle.cmd_tree.specs.declared.command.Command.{Command}
use Rattle.cmd_tree.specs.declared.tree.Proc.{Proc}
use Rattle.place_graph.specs.declared.leg.Leg.{Leg}
use Rattle.place_graph.specs.declared.wait_graph.WaitGraph.{WaitGraph}
use Rattle.place_graph.specs.Points.{legs}
use Rattle.place_graph.specs.Graph.{graph_of, burst_number, home_number, index_of, act_points, wait_points}
use Rattle.net_core.specs.declared.spec.NodeSpec.TheVariants.{Cmd}
use Rattle.net_core.specs.Wiring.{Circuit}
use Rattle.net_laws.specs.Charts.{charted}
use Rattle.net_laws.specs.Implementing.{Implements}
use Rattle.token_split.specs.TokenChart.{lines, token_chart}
use Rattle.token_split.specs.TokenNet.{HasToken, links_of, token_circuit}
use Rattle.token_split.specs.Mirror.TokenTables.{LinkTables, links_by, tables_of, IsReady, IsTokenGraph}
use Rattle.token_split.proofs.TokenLaw.{are_numbered, are_drawn, are_listed, command_narrow, command_parted, command_right, command_wires, proc, body, symbols_known, places, waits_low, bursts_low, crosses_low, acts_low, directions}
use Rattle.token_split.proofs.TokenCounts.{Numbered}
use Rattle.token_split.proofs.TokenTraces.{Drawn}
use Rattle.token_split.proofs.TokenRoutes.{Listed}
use Rattle.token_split.proofs.TokenNumbered.{same_circuit}
use Rattle.token_split.proofs.TokenTabled.{graph_ready, tables_ready, tables_numbered, rows_is, columns_is, meets_is}

module _ (c : Command) (p : Proc) (h : HasToken c p) where
  abbrev out : ℕ → Bool
  out = directions c p h

  abbrev names : ℕ
  names = length c.names

  abbrev key : Leg → ℕ
  key l = burst_number (legs p) l

  abbrev home : ℕ → ℕ
  home a = home_number (legs p) a

  abbrev no : ℕ → ℕ
  no x = index_of x (act_points (legs p))

  abbrev wait : ℕ → ℕ
  wait x = index_of x (wait_points (legs p))

  abbrev t : LinkTables
  t = tables_of (graph_of p) names

  num : Numbered (legs p) out key home no wait
  num = are_numbered out p (proc c p h) (body c p h) h.fair h.directions h.sets names (symbols_known c p h)

  drawn : Drawn (legs p) out (links_of c p) key home no wait
  drawn = are_drawn out p (proc c p h) (body c p h) h.fair h.directions h.sets names (symbols_known c p h)

  list : Listed (legs p) out (links_of c p) key home no wait
  list = are_listed out p (proc c p h) (body c p h) h.fair h.directions h.sets names (symbols_known c p h)

  pub command_graph : IsTokenGraph (graph_of p) names
  command_graph = graph_ready (legs p) out (graph_of p) names key home no wait num drawn list (command_parted c p h) (command_narrow c p h)
      (omega (
        arith,
        places c p h,
        waits_low out p (proc c p h) (body c p h) h.fair h.directions h.sets names (symbols_known c p h),
        bursts_low out p (proc c p h) (body c p h) h.fair h.directions h.sets names (symbols_known c p h),
      ))
      (omega (arith, places c p h, crosses_low out p (proc c p h) (body c p h) h.fair h.directions h.sets names (symbols_known c p h)))
      (omega (arith, places c p h, acts_low out p (proc c p h) (body c p h) h.fair h.directions h.sets names (symbols_known c p h)))

  pub command_tables : IsReady t
  command_tables = tables_ready (legs p) out (graph_of p) names key home no wait num drawn list (command_parted c p h) (command_narrow c p h) command_graph (omega (arith, c.valid.few_symbols))

  -- the tables say the network
  pub command_circuit : charted (token_chart (Cmd c) (links_by t)) ≡ token_circuit c p
  command_circuit =
      ap (λ g. charted (token_chart (Cmd c) g)) (tables_numbered (legs p) out (graph_of p) names key home no wait num drawn list (command_parted c p h) (command_narrow c p h) (Cmd c))
      ∙ same_circuit (Cmd c) (links_of c p) (links_by t).rows (links_by t).columns (links_by t).meets
      (rows_is (legs p) out (graph_of p) names key home no wait num drawn list (command_parted c p h) (command_narrow c p h))
      (columns_is (legs p) out (graph_of p) names key home no wait num drawn list (command_parted c p h) (command_narrow c p h))
      (meets_is (legs p) out (graph_of p) names key home no wait num drawn list (command_parted c p h) (command_narrow c p h))

  pub tables_right : Implements (charted (token_chart (Cmd c) (links_by t))) (Cmd c)
  tables_right = subst (λ (d : Circuit). Implements d (Cmd c)) (sym command_circuit) (command_right c p h)

  pub tables_wires : length (lines (links_by t)) < 2 ^ 20
  tables_wires = omega (arith, command_wires c p h, ap (λ (d : Circuit). d.wires) command_circuit)

  pub same_tables : (s : LinkTables) (graph : WaitGraph) (n : ℕ) → s ≡ tables_of graph n → n ≡ length c.names → graph ≡ graph_of p → s ≡ tables_of (graph_of p) (length c.names)
  same_tables s graph n e k g = e ∙ ap (tables_of graph) k ∙ ap (λ (x : WaitGraph). tables_of x (length c.names)) g
