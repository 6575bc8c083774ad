use Rattle.std.proofs.Common.{◌≡◌, ◌<◌, ◌^◌, ◌∷◌, ℕ, List, [], length, sym, ap, subst, ◌∙◌}
use Rattle.std.specs.Prelude.{IfOk}
use Rattle.cmd_tree.specs.declared.tree.Proc.{Proc}
use Rattle.place_graph.specs.declared.wait_graph.WaitGraph.{WaitGraph}
use Rattle.place_graph.specs.Graph.{graph_of}
use Rattle.net_core.specs.declared.spec.NodeSpec.TheVariants.{Cmd}
use Rattle.net_laws.proofs.Among.{Distinct}
use Rattle.net_laws.specs.Charts.{charted}
use Rattle.net_laws.specs.Implementing.{Implements}
use Rattle.plain_split.specs.OneWait.{Links, lines, one_chart, outs_at}
use Rattle.plain_split.specs.Mirror.OneWaitTables.{IsSmall}
use Rattle.plain_split.proofs.OneWaitLaw.{one_command_right, one_command_wires, command_lines_once, command_outs_once, command_small, tables_of_command}
use Rattle.plain_split.proofs.one_wait_net.one_wait.Goals as goal

pub new-requires-clause-acts : goal.new-requires-clause-acts
new-requires-clause-acts c =
    let (p, h, e) = c.requires in
    subst (λ (g : WaitGraph). length g.acts < 2 ^ 32) (sym e) (command_small c.args.spec p h).acts

pub new-requires-clause-bursts : goal.new-requires-clause-bursts
new-requires-clause-bursts c =
    let (p, h, e) = c.requires in
    subst (λ (g : WaitGraph). length g.bursts < 2 ^ 32) (sym e) (command_small c.args.spec p h).bursts

pub new-requires-clause-once : goal.new-requires-clause-once
new-requires-clause-once c =
    let (p, h, e) = c.requires in
    subst (λ (g : WaitGraph). (act : ℕ) → Distinct (outs_at g act)) (sym e) (command_outs_once c.args.spec p h)

pub net_of-requires-clause-small : goal.net_of-requires-clause-small
net_of-requires-clause-small c =
    let (p, h, e) = c.requires in
    let same = tables_of_command c.args.spec p h c.in_ok-tables.tables c.args.graph.now c.len.result c.in_ok-tables.ensures c.len.ensures.len e in
    subst IsSmall (sym same) (command_small c.args.spec p h)

pub net_of-requires-clause-few : goal.net_of-requires-clause-few
net_of-requires-clause-few c =
    let (p, h, e) = c.requires in
    let same = tables_of_command c.args.spec p h c.in_ok-tables.tables c.args.graph.now c.len.result c.in_ok-tables.ensures c.len.ensures.len e in
    subst (λ (g : Links). length (lines g) < 2 ^ 20) (sym same) (one_command_wires c.args.spec p h)

pub net_of-requires-clause-once : goal.net_of-requires-clause-once
net_of-requires-clause-once c =
    let (p, h, e) = c.requires in
    let same = tables_of_command c.args.spec p h c.in_ok-tables.tables c.args.graph.now c.len.result c.in_ok-tables.ensures c.len.ensures.len e in
    subst (λ (g : Links). Distinct (lines g)) (sym same) (command_lines_once c.args.spec p h)

pub net_of-requires-clause-right : goal.net_of-requires-clause-right
net_of-requires-clause-right c =
    let (p, h, e) = c.requires in
    let same = tables_of_command c.args.spec p h c.in_ok-tables.tables c.args.graph.now c.len.result c.in_ok-tables.ensures c.len.ensures.len e in
    subst (λ (g : Links). Implements (charted (one_chart (Cmd c.args.spec) g)) (Cmd c.args.spec)) (sym same) (one_command_right c.args.spec p h)

pub returns : goal.returns
returns c = λ q k.
    let (p, h, e) = c.requires in
    let one : ◌≡◌ {A = List Proc} (p ∷ []) (q ∷ []) = sym h.alone ∙ k.alone in
    let at : p ≡ q = cc in
    let same = tables_of_command c.args.spec q k c.in_ok-tables.tables c.args.graph.now c.len.result c.in_ok-tables.ensures c.len.ensures.len (e ∙ ap graph_of at) in
    subst (λ (g : Links). IfOk c.net_of.result (λ net. net ≡ charted (one_chart (Cmd c.args.spec) g))) same c.net_of.ensures
