use Rattle.std.proofs.Common.{◌≡◌, ◌<◌, ◌∙◌, ◌++◌, length, map, get_or, List, vec_len, rules, ap, arith}
use Rattle.std.specs.List.{range_with_len}
use Rattle.net_core.specs.Wiring.{Node, Circuit}
use Rattle.replay.specs.declared.event.Event.TheVariants.{Fire}
use Rattle.net_drive.specs.Drawn.{outputs_in}
use Rattle.net_drive.proofs.Planned.{fires_on, starts_on}
use Rattle.net_drive.proofs.plan.push_fires.Goals as goal

pub loop-component-preserved : goal.loop-component-preserved
loop-component-preserved c =
    let l = c.loop-component in
    let net = c.args.net.now in
    let x = c.index.result.now in
    let nodes : c.net.inside.nodes.items ≡ net.nodes = ap (λ (d : Circuit). d.nodes) c.net.view_is in
    let is : x ≡ get_or net.nodes l.component x = c.index.ensures ∙ ap (λ (xs : List Node). get_or xs l.component x) nodes in
    let long : vec_len c.net.inside.nodes ≡ length c.net.inside.nodes.items = search rules in
    let many = ap (λ (xs : List Node). length xs) nodes in
    let less : l.component < length net.nodes = omega (arith, long, many, c.loop-component-test.true, c.len-component-end.ensures) in
    let size : vec_len l.events ≡ length l.events.items = search rules in
    let pushed = c.in_ok-push_outputs.ensures ∙ ap (λ (y : Node). l.events.items ++ map (Fire l.component) (range_with_len 1 (outputs_in y.spec))) c.behind-net.view_is in
    record {
      events = fires_on net.nodes l.component x less is l.events.items c.push_outputs.new.events.items _ l.invariant.events pushed;
      starts = starts_on net.nodes l.component x less is l.events.items c.push_outputs.new.events.items l.starts.items c.push.new.self.items _ c.len.result
          l.invariant.starts pushed (c.len.ensures ∙ size) c.in_ok-push.ensures.items;
    }
