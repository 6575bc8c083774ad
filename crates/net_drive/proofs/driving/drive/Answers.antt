use Rattle.std.proofs.Common.{◌≡◌, ℕ, ◌+◌, ◌*◌, ◌≤◌, ◌∙◌, List, length, vec_len, rules, sym, ap, subst, arith}
use Rattle.std.proofs.lemmas.List.{length-map}
use Rattle.cmd_tree.specs.declared.command.Command.{Command}
use Rattle.cmd_tree.specs.declared.tree.Sym.{Sym}
use Rattle.net_core.specs.declared.spec.NodeSpec.TheVariants.{Cmd}
use Rattle.net_core.specs.Runs.{start}
use Rattle.net_core.specs.Wiring.{Circuit}
use Rattle.net_core.specs.Networks.{IsSpecified}
use Rattle.replay.specs.Answers.{Course}
use Rattle.net_drive.specs.Drawn.{generator_of, widest}
use Rattle.net_drive.specs.Mirror.Plans.{IsPlan}
use Rattle.net_drive.proofs.OnWay.{seen_low, drawn_few, mapped_none, asked_wide}
use Rattle.net_drive.proofs.driving.drive.Goals as goal

pub new-requires-2 : goal.new-requires-2
new-requires-2 g = λ c.
    let long : vec_len c.in_ok-plan.plan.events ≡ length c.in_ok-plan.plan.events.items = search rules in
    omega (arith, c.in_ok-plan.ensures.few, c.len.ensures, long)

pub draw_all-requires-clause-plan : goal.draw_all-requires-clause-plan
draw_all-requires-clause-plan g = λ c.
    let net : c.ask_all.new.replay.course.net ≡ c.args.net = ap (λ (r : Course). r.net) (c.ask_all.ensures.course ∙ c.in_ok-replay.ensures.course) in
    subst (λ (d : Circuit). (k : Command) → IsSpecified d (Cmd k) → IsPlan d k.procs c.in_ok-plan.plan) (sym net) c.in_ok-plan.ensures.plan

pub overflow_cast-seen : goal.overflow_cast-seen
overflow_cast-seen g = λ c.
    let run = c.draw_all.new.replay.course in
    let net = c.ask_all.new.replay.course.net in
    let few = drawn_few net c.args.steps (generator_of c.args.seed) start c.draw_all.new.events.items _ c.in_ok-stop.ensures.drawn in
    let shown = ap (λ (xs : List ℕ). length xs) c.seen.ensures in
    let many = length-map c.seen.result.now (λ (a : Sym). a.0) in
    let low = seen_low run.net start run.events in
    let events = ap (λ (r : Course). length r.events) c.in_ok-stop.ensures.course in
    omega (arith, few, shown, many, low, events, c.ranges.steps)

pub returns-clause-probes : goal.returns-clause-probes
returns-clause-probes g = λ c. mapped_none _ _ c.in_ok-stop.ensures.probes

pub returns-clause-asked : goal.returns-clause-asked
returns-clause-asked g = λ c.
    let net : c.ask_all.new.replay.course.net ≡ c.args.net = ap (λ (r : Course). r.net) (c.ask_all.ensures.course ∙ c.in_ok-replay.ensures.course) in
    let wide : widest c.ask_all.new.replay.course.net ≡ widest c.args.net = ap widest net in
    let asked = subst (λ w. c.draw_all.new.replay.asked ≤ c.ask_all.new.replay.asked + length c.draw_all.new.events.items * (1 + w)) wide c.in_ok-stop.ensures.asked in
    let more = asked_wide c.draw_all.new.replay.asked c.ask_all.new.replay.asked (length c.draw_all.new.events.items) (widest c.args.net) asked in
    omega (arith, more, c.ask_all.ensures.asked, c.in_ok-replay.ensures.asked, c.in_ok-plan.ensures.many)
