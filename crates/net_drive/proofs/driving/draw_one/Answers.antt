use Rattle.std.proofs.Common.{◌≡◌, ◌∙◌, refl, sym, ap, subst, arith}
use Rattle.rand_pcg.specs.Pcg.{pcg32}
use Rattle.cmd_tree.specs.declared.command.Command.{Command}
use Rattle.net_core.specs.declared.spec.NodeSpec.TheVariants.{Cmd}
use Rattle.net_core.specs.Wiring.{Circuit}
use Rattle.net_core.specs.Networks.{IsSpecified}
use Rattle.replay.specs.Answers.{Course, IsPlayable, IsAnswer, state_of}
use Rattle.replay.specs.Probes.{AllSteady, views_of}
use Rattle.net_drive.specs.Drawn.{Draws, quiet, hazard}
use Rattle.net_drive.specs.Mirror.Plans.{IsPlan}
use Rattle.net_drive.proofs.OnWay.{word_draws, none_to_draw, right_next}
use Rattle.net_drive.proofs.driving.draw_one.Goals as goal

pub returns-in_default-clause-stopped : goal.returns-in_default-clause-stopped
returns-in_default-clause-stopped g c = λ n.
    let run = c.args.replay.now.course in
    let k = c.requires.playable.command in
    let is = c.requires.plan k c.requires.playable.specified in
    quiet n c.args.generator.now (state_of run)
    (none_to_draw run.net (state_of run) c.args.plan.now.events.items c.args.known.now.index is.events c.requires.current.right c.in_default.ensures)

pub returns-in_default-play : goal.returns-in_default-play
returns-in_default-play g c =
    let run = c.args.replay.now.course in
    let k = c.requires.playable.command in
    let is = c.requires.plan k c.requires.playable.specified in
    let e = c.in-Some.event in
    let d = c.in-Some.ensures in
    let draws : Draws run.net (state_of run) (pcg32 c.args.generator.now).0 e =
    word_draws run.net (state_of run) c.args.plan.now.events.items c.deref.result.now c.args.known.now.index _ e is.events c.deref.ensures.value c.requires.current.right d.0 d.2 in
    let steady : AllSteady (views_of g.P.Probe.rule g.P.Probe.numbers g.P.Probe.steady c.args.replay.now.probes.items) = subst AllSteady (sym c.requires.probes) tt in
    record {
      drawn = tt;
      done = tt;
      generator = tt;
      course = tt;
      current = tt;
      asked = tt;
      stopped = λ n. hazard n c.args.generator.now (state_of run) e c.play.result draws (c.play.ensures.answer (c.play.ensures.steady steady)) c.in_default-play.not-Done;
      still = (c.play.ensures.still c.in_default-play.not-Done, c.play.ensures.asked);
      probes = c.play.ensures.unseen c.in_default-play.not-Done ∙ c.requires.probes;
    }

pub update-requires-clause-playable : goal.update-requires-clause-playable
update-requires-clause-playable g c =
    let net : c.play.new.self.course.net ≡ c.args.replay.now.course.net = ap (λ (r : Course). r.net) (c.in-Done.ensures.applied refl) in
    subst IsPlayable (sym net) c.requires.playable

pub update-requires-clause-plan : goal.update-requires-clause-plan
update-requires-clause-plan g c =
    let net : c.play.new.self.course.net ≡ c.args.replay.now.course.net = ap (λ (r : Course). r.net) (c.in-Done.ensures.applied refl) in
    subst (λ (d : Circuit). (k : Command) → IsSpecified d (Cmd k) → IsPlan d k.procs c.args.plan.now) (sym net) c.requires.plan

pub returns-clause-drawn : goal.returns-clause-drawn
returns-clause-drawn g c =
    let run = c.args.replay.now.course in
    let k = c.requires.playable.command in
    let is = c.requires.plan k c.requires.playable.specified in
    let d = c.in-Some.ensures in
    word_draws run.net (state_of run) c.args.plan.now.events.items c.deref.result.now c.args.known.now.index _ c.in-Some.event is.events c.deref.ensures.value c.requires.current.right d.0 d.2

pub returns-clause-current : goal.returns-clause-current
returns-clause-current g c =
    let run = c.args.replay.now.course in
    let e = c.in-Some.event in
    let applied = c.in-Done.ensures.applied refl in
    let u = c.update.ensures in
    let done : IsAnswer run.net (state_of run) e _ = c.in-Done.ensures.answer (λ q. cc) in
    record {
      right = right_next run c.play.new.self.course c.update.new.replay.course e c.args.plan.now.events.items c.args.known.now.index c.update.new.known.index
          applied u.course c.requires.current.right done (λ s. u.right s) c.requires.current.low;
      sized = u.tested;
      low = λ i. (let l = u.low c.requires.current.low i in omega (arith, l));
    }
