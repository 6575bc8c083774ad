use Rattle.std.proofs.Common.{◌<◌, ℕ, map, length, sym, subst, ◌∙◌}
use Rattle.std.specs.List.{AllByRecursion}
use Rattle.std.proofs.lemmas.List.{length-set}
use Rattle.plain_split.specs.Mirror.RoundsGives.{with_outs}
use Rattle.plain_split.proofs.RoundsSteps.{gives_step}
use Rattle.plain_split.proofs.gives.add_gives.Goals as goal

pub loop-port-preserved : goal.loop-port-preserved
loop-port-preserved c =
    let outs = c.args.outs.now in
    let known : AllByRecursion (λ a. a < length c.loop-port.gives) outs = subst (λ (n : ℕ). AllByRecursion (λ a. a < n) outs) (sym c.loop-port.invariant.sized) c.requires.known in
    record {
      sized = length-set c.loop-port.gives _ c.push.new.self ∙ c.loop-port.invariant.sized;
      rest = gives_step (λ v. v.items) c.index-gives-symbol.result c.push.new.self c.args.act c.loop-port.port outs c.loop-port.gives (with_outs c.args.act 0 outs (map (λ v. v.items) c.args.gives.now))
          c.loop-port-test.true known c.in_ok-push.ensures.items c.loop-port.invariant.rest;
    }
