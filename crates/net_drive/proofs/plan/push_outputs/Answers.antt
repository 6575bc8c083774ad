use Rattle.std.proofs.Common.{◌≡◌, ◌+◌, ◌∙◌, ◌++◌, ◌∷◌, [], ap, arith}
use Rattle.replay.specs.declared.event.Event.TheVariants.{Fire}
use Rattle.net_drive.proofs.Planned.{mapped_more}
use Rattle.net_drive.proofs.plan.push_outputs.Goals as goal

pub loop-output-preserved : goal.loop-output-preserved
loop-output-preserved c =
    let l = c.loop-output in
    mapped_more (Fire c.args.component) 1 l.output c.args.events.now.items l.events.items c.push.new.self.items l.invariant
    (c.in_ok-push.ensures.items ∙ ap (λ m. l.events.items ++ Fire c.args.component m ∷ []) (let e : l.output + 1 ≡ 1 + l.output = omega arith in e))
