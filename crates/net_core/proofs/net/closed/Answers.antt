use Rattle.std.proofs.Common.{◌<◌, ap, arith, subst, sym, ◌∙◌, inl, inr}
use Rattle.std.proofs.lemmas.Bool.{cases_eq}
use Rattle.net_core.specs.Wiring.{Circuit, IsOnce}
use Rattle.net_core.specs.Mirror.EndTables.{Kept}
use Rattle.net_core.proofs.EndPorts.{once_read, no_driver, no_receiver}
use Rattle.net_core.proofs.net.closed.Goals as goal
use Rattle.net_core.proofs.net.closed.Goals.{then-not-is_one-via-then-not-is_one, then-not-is_one-via-else-not-is_one+then-not-is_one-2}

pub returns-then-not-is_one : goal.returns-then-not-is_one
returns-then-not-is_one c =
    let net = c.args.net.now in
    let wire = c.loop-wire.wire in
    let kept = subst (λ (d : Circuit). Kept d.nodes d.wires c.net.inside.ends.items) c.net.view_is c.net.invariant in
    let known : wire < net.wires = omega (arith, c.loop-wire-test.true, ap (λ (d : Circuit). d.wires) c.net.view_is) in (
      known,
      elim c.then-not-is_one.branch [
        | then-not-is_one-via-then-not-is_one w ↦
            no_driver net c.net.inside.ends.items kept wire known c.index-end.result.now c.index-end.ensures (sym c.is_one.ensures ∙ w.if-not-is_one.true)
        | then-not-is_one-via-else-not-is_one+then-not-is_one-2 w ↦
            no_receiver net c.net.inside.ends.items kept wire known c.index-end.result.now c.index-end.ensures (sym w.is_one-else-not-is_one.ensures ∙ w.if-not-is_one-2.true)
      ],
      c.loop-wire.invariant,
    )

pub loop-wire-preserved : goal.loop-wire-preserved
loop-wire-preserved c = λ w l.
    let net = c.args.net.now in
    let wire = c.loop-wire.wire in
    let kept = subst (λ (d : Circuit). Kept d.nodes d.wires c.net.inside.ends.items) c.net.view_is c.net.invariant in
    let known : wire < net.wires = omega (arith, c.loop-wire-test.true, ap (λ (d : Circuit). d.wires) c.net.view_is) in
    elim (cases_eq w wire) [
      | inl e ↦ subst (IsOnce net) (sym e)
          (once_read net c.net.inside.ends.items kept wire known c.index-end.result.now c.index-end.ensures
          (sym c.is_one.ensures ∙ c.if-not-is_one.false) (sym c.is_one-else-not-is_one.ensures ∙ c.if-not-is_one-2.false))
      | inr ne ↦ c.loop-wire.invariant w (omega arith)
    ]
