use Rattle.std.proofs.Common.{◌≡◌, ℕ, ◌+◌, List, [], ◌∷◌, ◌++◌, get_or, ap, sym, ◌∙◌, subst, arith}
use Rattle.net_core.specs.Wiring.{Node, Circuit}
use Rattle.substitute.specs.Mirror.OnePass.{wires_with}
use Rattle.substitute.proofs.Passes.{Pass, pass_begins, pass_fits, pass_room, pass_next, pass_nodes, pass_wires}
use Rattle.substitute.proofs.many.put_all.Goals as goal

pub loop-place-init : goal.loop-place-init
loop-place-init c =
    let nodes : c.net.inside.nodes.items ≡ c.args.net.now.nodes =
    ap (λ (d : Circuit). d.nodes) c.net.view_is in
    let wires : c.net.inside.wires ≡ c.args.net.now.wires = ap (λ (d : Circuit). d.wires) c.net.view_is in
    let x : Node = c.index.result.now in
    let begun = pass_begins c.args.net.now c.args.parts.now x c.requires.sized c.requires.fitting
    (c.index.ensures ∙ ap (λ (xs : List Node). get_or xs 0 x) nodes) in
    let made : c.push.new.self.items ≡ x ∷ [] =
    c.in_ok-push.ensures.items ∙ (λ i. c.new-nodes.ensures.items i ++ c.in_ok-outside.ensures i ∷ []) in
    subst (λ (n : ℕ). Pass c.args.net.now c.args.parts.now c.push.new.self.items n 0) (sym wires)
    (subst (λ (f : List Node). Pass c.args.net.now c.args.parts.now f c.args.net.now.wires 0) (sym made)
    begun)

pub put_next-requires-clause-fitting : goal.put_next-requires-clause-fitting
put_next-requires-clause-fitting c =
    let nodes : c.net.inside.nodes.items ≡ c.args.net.now.nodes =
    ap (λ (d : Circuit). d.nodes) c.net.view_is in
    let x : Node = c.index-in-loop-place.result.now in
    pass_fits c.args.net.now c.args.parts.now c.loop-place.whole.nodes.items c.loop-place.whole.wires
    c.loop-place.place c.loop-place.invariant
    x c.index-parts-place.result c.loop-place-test.true
    (c.index-in-loop-place.ensures
    ∙ ap (λ (xs : List Node). get_or xs (c.loop-place.place + 1) x) nodes)
    c.index-parts-place.is

pub put_next-requires-clause-few : goal.put_next-requires-clause-few
put_next-requires-clause-few c =
    let nodes : c.net.inside.nodes.items ≡ c.args.net.now.nodes =
    ap (λ (d : Circuit). d.nodes) c.net.view_is in
    let x : Node = c.index-in-loop-place.result.now in
    omega (
      arith,
      c.requires.few,
      pass_room c.args.net.now c.args.parts.now c.loop-place.whole.nodes.items
          c.loop-place.whole.wires c.loop-place.place
          c.loop-place.invariant x c.index-parts-place.result c.loop-place-test.true
          (c.index-in-loop-place.ensures ∙ ap (λ (xs : List Node). get_or xs (c.loop-place.place + 1) x) nodes)
          c.index-parts-place.is,
    )

pub loop-place-preserved : goal.loop-place-preserved
loop-place-preserved c =
    let nodes : c.net.inside.nodes.items ≡ c.args.net.now.nodes =
    ap (λ (d : Circuit). d.nodes) c.net.view_is in
    let x : Node = c.index-in-loop-place.result.now in
    let next = pass_next c.args.net.now c.args.parts.now c.loop-place.whole.nodes.items
    c.loop-place.whole.wires c.loop-place.place
    c.loop-place.invariant x c.index-parts-place.result c.loop-place-test.true
    (c.index-in-loop-place.ensures ∙ ap (λ (xs : List Node). get_or xs (c.loop-place.place + 1) x) nodes)
    c.index-parts-place.is in
    subst (λ (n : ℕ). Pass c.args.net.now c.args.parts.now c.put_next.new.whole.nodes.items n
    (c.loop-place.place + 1)) (sym c.in_ok-put_next.ensures.wires)
    (subst (λ (f : List Node). Pass c.args.net.now c.args.parts.now f
    (wires_with c.loop-place.whole.wires c.index-parts-place.result) (c.loop-place.place + 1))
    (sym c.in_ok-put_next.ensures.nodes) next)

pub returns-clause-nodes : goal.returns-clause-nodes
returns-clause-nodes c = pass_nodes c.args.net.now c.args.parts.now c.loop-place.whole.nodes.items
    c.loop-place.whole.wires c.loop-place.place
    c.loop-place.invariant c.loop-place-test.false

pub returns-clause-wires : goal.returns-clause-wires
returns-clause-wires c = pass_wires c.args.net.now c.args.parts.now c.loop-place.whole.nodes.items
    c.loop-place.whole.wires c.loop-place.place
    c.loop-place.invariant c.loop-place-test.false
