use Rattle.std.proofs.Common.{◌≡◌, ◌∷◌, [], List, sym, ap, subst, ◌∙◌}
use Rattle.std.specs.Prelude.{IfOk}
use Rattle.cmd_tree.specs.declared.tree.Proc.{Proc}
use Rattle.place_graph.specs.declared.wait_graph.WaitGraph.{WaitGraph}
use Rattle.place_graph.specs.Graph.{graph_of}
use Rattle.net_core.specs.declared.spec.NodeSpec.TheVariants.{Cmd}
use Rattle.net_laws.specs.Charts.{charted}
use Rattle.net_laws.specs.Implementing.{Implements}
use Rattle.plain_split.specs.RoundsChart.{Parts, rounds_chart}
use Rattle.plain_split.specs.RoundsParts.{parts_of}
use Rattle.plain_split.specs.Mirror.RoundsTables.{parts_by, IsRoundGraph}
use Rattle.plain_split.proofs.RoundsCommand.{rounds_command_right, rounds_command_ready}
use Rattle.plain_split.proofs.rounds_net.rounds.Goals as goal

pub new-requires : goal.new-requires
new-requires c =
    let (p, e, h, is) = c.requires in
    (e, subst (λ (g : WaitGraph). IsRoundGraph (Cmd c.args.spec) g e) (sym is) (rounds_command_ready c.args.spec p e h))

pub net_of-requires-clause-tabled : goal.net_of-requires-clause-tabled
net_of-requires-clause-tabled c =
    let (p, e, h, is) = c.requires in
    (c.in_ok-parts.ensures e (ap (λ (g : WaitGraph). g.waits) is ∙ (rounds_command_ready c.args.spec p e h).waits)).0

pub net_of-requires-clause-right : goal.net_of-requires-clause-right
net_of-requires-clause-right c =
    let (p, e, h, is) = c.requires in
    let same : parts_by c.in_ok-parts.parts ≡ parts_of (Cmd c.args.spec) (graph_of p) e =
    (c.in_ok-parts.ensures e (ap (λ (g : WaitGraph). g.waits) is ∙ (rounds_command_ready c.args.spec p e h).waits)).1 ∙ ap (λ (g : WaitGraph). parts_of (Cmd c.args.spec) g e) is in
    subst (λ (r : Parts). Implements (charted (rounds_chart r)) r.spec) (sym same) (rounds_command_right c.args.spec p e h)

pub returns : goal.returns
returns c = λ q d k.
    let (p, e, h, is) = c.requires in
    let one : ◌≡◌ {A = List Proc} (p ∷ []) (q ∷ []) = sym h.alone ∙ k.alone in
    let at : p ≡ q = cc in
    let graph : c.args.graph.now ≡ graph_of q = is ∙ ap graph_of at in
    let same : parts_by c.in_ok-parts.parts ≡ parts_of (Cmd c.args.spec) (graph_of q) d =
    (c.in_ok-parts.ensures d (ap (λ (g : WaitGraph). g.waits) graph ∙ (rounds_command_ready c.args.spec q d k).waits)).1 ∙ ap (λ (g : WaitGraph). parts_of (Cmd c.args.spec) g d) graph in
    subst (λ (r : Parts). IfOk c.net_of.result (λ net. net ≡ charted (rounds_chart r))) same c.net_of.ensures
