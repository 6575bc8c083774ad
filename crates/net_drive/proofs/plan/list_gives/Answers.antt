use Rattle.std.proofs.Common.{◌≡◌, ◌<◌, ◌∙◌, List, length, get_or, Vec, Global, Bool, not, true, vec_len, rules, ap, arith}
use Rattle.net_core.specs.Specs.{outs_of}
use Rattle.net_core.specs.Wiring.{Node, Circuit}
use Rattle.replay.specs.declared.event.Event.{Event}
use Rattle.net_drive.proofs.Planned.{first_spec, few_outs, read_bit, give_pushed, give_passed}
use Rattle.net_drive.proofs.plan.list_gives.Goals as goal
use Rattle.net_drive.proofs.plan.list_gives.Goals.{then-not-index+in_ok-push, else-not-index}

pub overflow_cast-symbol : goal.overflow_cast-symbol
overflow_cast-symbol c =
    let net = c.args.net.now in
    let x = c.index.result.now in
    let nodes : c.net.inside.nodes.items ≡ net.nodes = ap (λ (d : Circuit). d.nodes) c.net.view_is in
    let is : x ≡ get_or net.nodes 0 x = c.index.ensures ∙ ap (λ (xs : List Node). get_or xs 0 x) nodes in
    let some : 0 < length net.nodes = omega (arith, ap (λ (xs : List Node). length xs) nodes, c.net.invariant.some) in
    let outs : c.in_ok-outs.outs.items ≡ outs_of x.spec = c.in_ok-outs.ensures ∙ ap (λ (y : Node). outs_of y.spec) c.behind-net.view_is in
    let long : vec_len c.in_ok-outs.outs ≡ length c.in_ok-outs.outs.items = search rules in
    omega (
      arith,
      few_outs x.spec c.requires.command (first_spec net x c.requires.command some is c.requires.specified),
      ap (λ (xs : List Bool). length xs) outs,
      long,
      c.len-symbol-end.ensures,
      c.loop-symbol-test.true,
    )

pub loop-symbol-preserved : goal.loop-symbol-preserved
loop-symbol-preserved c =
    let l = c.loop-symbol in
    let outs = c.in_ok-outs.outs in
    let long : vec_len outs ≡ length outs.items = search rules in
    let less : l.symbol < length outs.items = omega (arith, long, c.len-symbol-end.ensures, c.loop-symbol-test.true) in
    let bit = read_bit outs.items l.symbol c.index-in-loop-symbol.result.now true less c.index-in-loop-symbol.ensures in
    elim c.if-not-index.branch [
      | then-not-index+in_ok-push w ↦
          give_pushed (λ p. not (get_or outs.items p true)) l.symbol l.events.items c.if-not-index.events.items l.invariant
          (ap not (bit ∙ w.if-not-index.true)) (ap (λ (v : Vec Event Global). v.items) w.events-is ∙ w.in_ok-push.ensures.items)
      | else-not-index w ↦
          ap (λ (v : Vec Event Global). v.items) w.events-is
          ∙ give_passed (λ p. not (get_or outs.items p true)) l.symbol l.events.items l.invariant (ap not (bit ∙ w.if-not-index.false))
    ]
