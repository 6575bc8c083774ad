use Rattle.std.proofs.Common.{◌≡◌, ◌+◌, sym, ap, subst, arith}
use Rattle.cmd_tree.specs.declared.command.Command.{Command}
use Rattle.net_core.specs.declared.spec.NodeSpec.TheVariants.{Cmd}
use Rattle.net_core.specs.Wiring.{Circuit}
use Rattle.net_core.specs.Networks.{IsSpecified}
use Rattle.net_drive.specs.Drawn.{generator_of, widest}
use Rattle.net_drive.specs.Mirror.Plans.{IsPlan}
use Rattle.net_drive.proofs.OnWay.{at_end, at_stop, one_on, asked_more}
use Rattle.net_drive.proofs.driving.draw_all.Goals as goal

pub draw_one-requires-clause-plan : goal.draw_one-requires-clause-plan
draw_one-requires-clause-plan g c =
    subst (λ (d : Circuit). (k : Command) → IsSpecified d (Cmd k) → IsPlan d k.procs c.args.plan.now) (sym c.loop-taken.invariant.way.net) c.requires.plan

pub returns-in-Err-clause-drawn : goal.returns-in-Err-clause-drawn
returns-in-Err-clause-drawn g c =
    let l = c.loop-taken in
    at_stop c.args.replay.now.course.net (generator_of c.args.seed) c.args.steps l.taken l.replay.course l.generator l.events.items l.invariant.way
    c.in-Err.stop c.loop-taken-test.true c.in-Err.ensures.stopped

pub loop-taken-preserved : goal.loop-taken-preserved
loop-taken-preserved g c =
    let l = c.loop-taken in
    let i = l.invariant in
    let e = c.in-Ok.ensures in
    let wide : widest l.replay.course.net ≡ widest c.args.replay.now.course.net = ap widest i.way.net in
    record {
      way = one_on c.args.replay.now.course.net (generator_of c.args.seed) c.args.steps l.taken l.replay.course l.generator l.events.items i.way
          c.in-Ok.event c.draw_one.new.replay.course c.draw_one.new.generator c.push.new.self.items c.loop-taken-test.true e.drawn e.done e.generator
          e.course c.in_ok-push-in-Ok.ensures.items;
      current = e.current;
      probes = e.probes;
      asked = asked_more l.replay.asked c.draw_one.new.replay.asked c.args.replay.now.asked l.taken (1 + widest c.args.replay.now.course.net) i.asked
          (omega (arith, e.asked, wide));
    }

pub returns-clause-drawn : goal.returns-clause-drawn
returns-clause-drawn g c =
    let l = c.loop-taken in
    at_end c.args.replay.now.course.net (generator_of c.args.seed) c.args.steps l.taken l.replay.course l.generator l.events.items l.invariant.way
    c.loop-taken-test.false l.auto.taken-end
