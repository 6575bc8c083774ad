use Rattle.std.proofs.Common.{◌≡◌, ◌+◌, ◌∙◌, ◌++◌, ◌∷◌, [], ap, arith}
use Rattle.replay.specs.declared.event.Event.TheVariants.{Pass}
use Rattle.net_drive.proofs.Planned.{mapped_more}
use Rattle.net_drive.proofs.plan.push_passes.Goals as goal

pub loop-wire-preserved : goal.loop-wire-preserved
loop-wire-preserved c =
    let l = c.loop-wire in
    mapped_more Pass 0 l.wire c.args.events.now.items l.events.items c.push.new.self.items l.invariant
    (c.in_ok-push.ensures.items ∙ ap (λ m. l.events.items ++ Pass m ∷ []) (let e : l.wire ≡ 0 + l.wire = omega arith in e))
