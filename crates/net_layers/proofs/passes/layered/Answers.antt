use Rattle.std.proofs.Common.{List, Option, is_some, sym, ap, subst, drop, ◌∙◌}
use Rattle.std.specs.List.{list_any}
use Rattle.net_core.specs.Wiring.{Circuit}
use Rattle.net_layers.specs.Mirror.Laid.{AreLaid}
use Rattle.net_layers.proofs.Layered.{sized, fitting, few, stays, made}
use Rattle.net_layers.proofs.passes.layered.Goals as goal

pub returns-then-not-has_layer : goal.returns-then-not-has_layer
returns-then-not-has_layer c =
    let laid = subst (AreLaid (drop 1 c.args.net.now.nodes)) (sym c.as_slice.ensures.value) c.in_ok-parts.ensures in
    stays c.args.net.now c.requires c.as_slice.result.now laid (sym c.has_layer.ensures ∙ c.if-not-has_layer.true)

pub splice_all-requires-clause-sized : goal.splice_all-requires-clause-sized
splice_all-requires-clause-sized c =
    let laid = subst (AreLaid (drop 1 c.args.net.now.nodes)) (sym c.as_slice-2.ensures.value) c.in_ok-parts.ensures in
    sized c.args.net.now c.requires c.as_slice-2.result.now laid

pub splice_all-requires-clause-fitting : goal.splice_all-requires-clause-fitting
splice_all-requires-clause-fitting c =
    let laid = subst (AreLaid (drop 1 c.args.net.now.nodes)) (sym c.as_slice-2.ensures.value) c.in_ok-parts.ensures in
    fitting c.args.net.now c.requires c.as_slice-2.result.now laid

pub splice_all-requires-clause-few : goal.splice_all-requires-clause-few
splice_all-requires-clause-few c =
    let laid = subst (AreLaid (drop 1 c.args.net.now.nodes)) (sym c.as_slice-2.ensures.value) c.in_ok-parts.ensures in
    few c.args.net.now c.requires c.as_slice-2.result.now laid

pub returns : goal.returns
returns c =
    let laid = subst (AreLaid (drop 1 c.args.net.now.nodes)) (sym c.as_slice-2.ensures.value) c.in_ok-parts.ensures in
    let whole = c.in_ok-whole.ensures in
    made c.args.net.now c.requires c.as_slice-2.result.now laid c.in_ok-whole.whole whole.clean whole.correct whole.components whole.passing whole.sums
    (ap (λ (ps : List (Option Circuit)). list_any is_some ps) (c.as_slice-2.ensures.value ∙ sym c.as_slice.ensures.value) ∙ sym c.has_layer.ensures ∙ c.if-not-has_layer.false)
