use Rattle.std.proofs.Common.{◌≡◌, ◌<◌, ℕ, length, sym, subst}
use Rattle.std.proofs.lemmas.Result.{IfOk-weaker}
use Rattle.net_core.specs.Wiring.{Circuit}
use Rattle.net_core.specs.Networks.{directions, end_at}
use Rattle.net_core.specs.Renumbering.{Preserves}
use Rattle.net_core.specs.Walk.{walk, IsInWalkOrder}
use Rattle.net_core.proofs.FirstWires.{first_wires}
use Rattle.net_core.proofs.WalkOrder.{walk_preserved}
use Rattle.net_core.proofs.WalkAgain.{walk_again}
use Rattle.net_core.proofs.ordered.order.Goals as goal

pub returns-clause-in_order : goal.returns-clause-in_order
returns-clause-in_order c = IfOk-weaker c.put_in_order.result (λ d. d ≡ walk c.args.net) IsInWalkOrder
    (λ d e. subst IsInWalkOrder (sym e) (walk_again c.args.net c.put_in_order.ensures.network c.requires)) c.put_in_order.ensures.ok

pub returns-clause-preserved : goal.returns-clause-preserved
returns-clause-preserved c = IfOk-weaker c.put_in_order.result (λ d. d ≡ walk c.args.net) (Preserves c.args.net)
    (λ d e. subst (Preserves c.args.net) (sym e) (walk_preserved c.args.net c.put_in_order.ensures.network c.requires)) c.put_in_order.ensures.ok

pub returns-clause-outside : goal.returns-clause-outside
returns-clause-outside c = λ through. IfOk-weaker c.put_in_order.result (λ d. d ≡ walk c.args.net)
    (λ d. (p : ℕ) → p < length (directions c.args.net 0) → end_at d 0 p ≡ p)
    (λ d e p h. let network = c.put_in_order.ensures.network in
    subst (λ (x : Circuit). end_at x 0 p ≡ p) (sym e) (first_wires c.args.net network.wired c.requires network.some through p h))
    c.put_in_order.ensures.ok
