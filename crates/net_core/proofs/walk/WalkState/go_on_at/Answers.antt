use Rattle.std.proofs.Common.{◌≡◌, true, sym, ap, ◌∙◌, subst}
use Rattle.std.proofs.lemmas.Result.{on_ok_weaker}
use Rattle.cmd_tree.specs.Lists.{is_in}
use Rattle.net_core.specs.Walk.{Walk}
use Rattle.net_core.specs.Mirror.Walking.{Leads}
use Rattle.net_core.specs.Mirror.WalkStates.{walk_in}
use Rattle.net_core.proofs.WalkSteps.{listed_now, leads_next, leads_then, leads_keeps}
use Rattle.net_core.proofs.WalkStates.{goes_to}
use Rattle.net_core.proofs.walk.WalkState.go_on_at.Goals as goal

pub visit_all-requires-clause-walks : goal.visit_all-requires-clause-walks
visit_all-requires-clause-walks c =
    let net = c.args.net.now in
    let old = walk_in c.args.self.now in
    goes_to net c.args.self.now c.list_node.new.self c.requires.walks c.in_ok-list_node.ensures.sized
    (subst (Leads net old) (sym c.in_ok-list_node.ensures.listed) (leads_next net c.args.node old c.requires.visited c.requires.next))

pub returns-clause-leads : goal.returns-clause-leads
returns-clause-leads c =
    let net = c.args.net.now in
    let old = walk_in c.args.self.now in
    let first : Leads net old (walk_in c.list_node.new.self) =
    subst (Leads net old) (sym c.in_ok-list_node.ensures.listed) (leads_next net c.args.node old c.requires.visited c.requires.next) in
    on_ok_weaker c.visit_all.result (leads_then net old (walk_in c.list_node.new.self) (walk_in c.visit_all.new.self) first) c.visit_all.ensures.leads

pub returns-clause-listed : goal.returns-clause-listed
returns-clause-listed c =
    let net = c.args.net.now in
    let now : is_in c.args.node (walk_in c.list_node.new.self).listed ≡ true =
    ap (λ (w : Walk). is_in c.args.node w.listed) c.in_ok-list_node.ensures.listed ∙ listed_now net c.args.node (walk_in c.args.self.now) in
    on_ok_weaker c.visit_all.result (λ leads. leads_keeps net (walk_in c.list_node.new.self) (walk_in c.visit_all.new.self) leads c.args.node now) c.visit_all.ensures.leads
