use Rattle.std.proofs.Common.{◌++◌, ◌+◌, ◌<◌, List, ℕ, length, true, drop, sym, ap, ◌∙◌, arith}
use Rattle.net_core.specs.Wiring.{picked}
use Rattle.net_core.proofs.Listings.{pick_here, pick_there, pick_end}
use Rattle.net_core.proofs.walk.picked_wires.Goals as goal
use Rattle.net_core.proofs.walk.picked_wires.Goals.{then-outs-port+in_ok-push, else-outs-port}

pub loop-port-preserved : goal.loop-port-preserved
loop-port-preserved c =
    let ds = c.args.outs.now in
    let ws = c.args.wires.now in
    let i = c.loop-port.port in
    let in_ds : i < length ds = omega arith in
    elim c.if-outs-port.branch [
      | then-outs-port+in_ok-push w ↦
          ap (λ (picks : List ℕ). picks ++ picked true (drop (i + 1) ds) (drop (i + 1) ws)) (ap (λ v. v.items) w.picks-is ∙ w.in_ok-push.ensures.items)
          ∙ pick_here ds ws c.loop-port.picks.items i in_ds c.loop-port-test.true w.if-outs-port.true ∙ c.loop-port.invariant
      | else-outs-port w ↦
          ap (λ (picks : List ℕ). picks ++ picked true (drop (i + 1) ds) (drop (i + 1) ws)) (ap (λ v. v.items) w.picks-is)
          ∙ pick_there ds ws c.loop-port.picks.items i in_ds c.loop-port-test.true w.if-outs-port.false ∙ c.loop-port.invariant
    ]

pub returns : goal.returns
returns c = sym (pick_end c.args.outs.now c.args.wires.now c.loop-port.picks.items c.loop-port.port c.loop-port-test.false c.requires) ∙ c.loop-port.invariant
