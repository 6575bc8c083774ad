use Rattle.std.proofs.Common.{◌≡◌, ◌+◌, ◌<◌, ◌∙◌, Fits, w32, arith, ◌++◌, List, length, map, drop, vec_len, rules, ap, subst, append_assoc}
use Rattle.std.specs.List.{range_with_len, AllByRecursion}
use Rattle.std.proofs.lemmas.List.{length-append}
use Rattle.net_core.specs.Wiring.{Circuit, IsNetwork, IsWired}
use Rattle.net_core.proofs.Sizes.{driven_many}
use Rattle.replay.specs.declared.event.Event.{Event}
use Rattle.replay.specs.declared.event.Event.TheVariants.{Pass}
use Rattle.net_drive.specs.Drawn.{gives_of, passes_of, fires_from}
use Rattle.net_drive.specs.Mirror.Plans.{starts_from, HasGives}
use Rattle.net_drive.proofs.Numbers.{many_passes, many_possible}
use Rattle.net_drive.proofs.plan.Plan.new.Goals as goal

pub returns-clause-plan : goal.returns-clause-plan
returns-clause-plan c = λ k specified.
    let net = c.args.net.now in
    let gives = c.in_ok-events.ensures in
    let wires : c.net.inside.wires ≡ net.wires = ap (λ (d : Circuit). d.wires) c.net.view_is in
    let passes : c.push_passes.new.events.items ≡ gives_of net ++ passes_of net = c.in_ok-push_passes.ensures
    ∙ ap (λ (xs : List Event). xs ++ map Pass (range_with_len 0 c.net.inside.wires)) gives ∙ ap (λ n. gives_of net ++ map Pass (range_with_len 0 n)) wires in
    let long : vec_len c.in_ok-events.events ≡ length c.in_ok-events.events.items = search rules in
    let many : length c.push_passes.new.events.items ≡ length (gives_of net) + net.wires = ap (λ (xs : List Event). length xs) passes
    ∙ length-append (gives_of net) (passes_of net) ∙ ap (λ n. length (gives_of net) + n) (many_passes net) in
    record {
      events = c.in_ok-fires.ensures.events ∙ ap (λ (xs : List Event). xs ++ fires_from 1 (drop 1 net.nodes)) passes
          ∙ append_assoc (gives_of net) (passes_of net) (fires_from 1 (drop 1 net.nodes));
      gives = c.len-gives.ensures ∙ long ∙ ap (λ (xs : List Event). length xs) gives;
      fires = c.in_ok-fires.ensures.starts ∙ ap (λ n. starts_from n (drop 1 net.nodes)) many;
      users = c.in_ok-sharing.ensures.users k specified;
      shared = subst (λ (xs : List Event). HasGives k.procs xs (map (λ row. row.items) c.in_ok-sharing.sharing.gives.items)) c.deref.ensures.value
          (c.in_ok-sharing.ensures.gives k specified);
    }

pub returns-clause-many : goal.returns-clause-many
returns-clause-many c =
    let net = c.args.net.now in
    let is = (returns-clause-plan c c.requires.command c.requires.specified).events in
    let network : IsNetwork net = record {
      some = subst (λ (d : Circuit). 0 < length d.nodes) c.net.view_is c.net.invariant.some;
      wired = subst (λ (d : Circuit). AllByRecursion (IsWired d.wires) d.nodes) c.net.view_is c.net.invariant.fit;
    } in
    omega (arith, ap (λ (xs : List Event). length xs) is, many_possible net network (driven_many net network.wired c.requires.closed))

pub returns-clause-few : goal.returns-clause-few
returns-clause-few c =
    let wires : c.net.inside.wires ≡ c.args.net.now.wires = ap (λ (d : Circuit). d.wires) c.net.view_is in
    let small : Fits w32 c.net.inside.wires = search rules in
    omega (arith, wires, small, returns-clause-many c)
