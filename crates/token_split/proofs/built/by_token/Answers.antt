use Rattle.std.proofs.Common.{◌≡◌, ◌<◌, ◌^◌, ◌∷◌, List, [], length, sym, ap, subst, ◌∙◌}
use Rattle.std.specs.Prelude.{IfOk}
use Rattle.cmd_tree.specs.declared.tree.Proc.{Proc}
use Rattle.place_graph.specs.declared.wait_graph.WaitGraph.{WaitGraph}
use Rattle.place_graph.specs.Graph.{graph_of}
use Rattle.net_core.specs.declared.spec.NodeSpec.TheVariants.{Cmd}
use Rattle.net_core.specs.Wiring.{Circuit}
use Rattle.net_laws.specs.Charts.{charted}
use Rattle.net_laws.specs.Implementing.{Implements}
use Rattle.token_split.specs.TokenChart.{lines, token_chart}
use Rattle.token_split.specs.Mirror.TokenTables.{LinkTables, links_by, IsReady, IsTokenGraph}
use Rattle.token_split.proofs.TokenCommands.{command_graph, command_tables, command_circuit, same_tables, tables_right, tables_wires}
use Rattle.token_split.proofs.built.by_token.Goals as goal

pub new-requires : goal.new-requires
new-requires c =
    let (p, h, e) = c.requires in
    subst (λ (g : WaitGraph). IsTokenGraph g c.len.result) (sym e) (subst (IsTokenGraph (graph_of p)) (sym c.len.ensures.len) (command_graph c.args.spec p h))

pub net_of-requires-clause-ready : goal.net_of-requires-clause-ready
net_of-requires-clause-ready c =
    let (p, h, e) = c.requires in
    let same = same_tables c.args.spec p h c.in_ok-tables.tables c.args.graph.now c.len.result c.in_ok-tables.ensures c.len.ensures.len e in
    subst IsReady (sym same) (command_tables c.args.spec p h)

pub net_of-requires-clause-few : goal.net_of-requires-clause-few
net_of-requires-clause-few c =
    let (p, h, e) = c.requires in
    let same = same_tables c.args.spec p h c.in_ok-tables.tables c.args.graph.now c.len.result c.in_ok-tables.ensures c.len.ensures.len e in
    subst (λ (t : LinkTables). length (lines (links_by t)) < 2 ^ 20) (sym same) (tables_wires c.args.spec p h)

pub net_of-requires-clause-right : goal.net_of-requires-clause-right
net_of-requires-clause-right c =
    let (p, h, e) = c.requires in
    let same = same_tables c.args.spec p h c.in_ok-tables.tables c.args.graph.now c.len.result c.in_ok-tables.ensures c.len.ensures.len e in
    subst (λ (t : LinkTables). Implements (charted (token_chart (Cmd c.args.spec) (links_by t))) (Cmd c.args.spec)) (sym same) (tables_right c.args.spec p h)

pub returns : goal.returns
returns c = λ q k.
    let (p, h, e) = c.requires in
    let one : ◌≡◌ {A = List Proc} (p ∷ []) (q ∷ []) = sym h.alone ∙ k.alone in
    let at : p ≡ q = cc in
    let same = same_tables c.args.spec q k c.in_ok-tables.tables c.args.graph.now c.len.result c.in_ok-tables.ensures c.len.ensures.len (e ∙ ap graph_of at) in
    subst (λ (d : Circuit). IfOk c.net_of.result (λ net. net ≡ d)) (ap (λ (t : LinkTables). charted (token_chart (Cmd c.args.spec) (links_by t))) same ∙ command_circuit c.args.spec q k) c.net_of.ensures
