use Rattle.std.proofs.Common.{ℕ, List, ◌<◌, ◌^◌, length, ap, ◌∙◌, sym, subst}
use Rattle.std.specs.List.{AllByRecursion}
use Rattle.net_core.specs.Wiring.{Circuit, IsWired, IsClosed}
use Rattle.substitute.specs.Splice.{FitsAt}
use Rattle.substitute.proofs.SplicedNet.{spliced_fits, spliced_closed}
use Rattle.substitute.proofs.Tables.{spliced_is, spliced_few, fits_at}
use Rattle.substitute.proofs.whole.put_in_place.Goals as goal

pub new_parts-requires-clause-fitting : goal.new_parts-requires-clause-fitting
new_parts-requires-clause-fitting c =
    subst (λ (ends : List ℕ). FitsAt ends c.args.sub.now) (sym c.wires_of.ensures.ends)
    (fits_at c.args.net c.args.at c.args.sub.now c.in_default.ensures)

pub replace-requires-clause-few : goal.replace-requires-clause-few
replace-requires-clause-few c =
    let same = spliced_is c.args.net c.args.at c.args.sub.now c.wires_of.result.now c.net.inside.wires
    c.in-Ok.parts.nodes.items c.in-Ok.parts.wires
    (ap (λ (d : Circuit). d.wires) c.net.view_is) c.wires_of.ensures.ends c.in-Ok.ensures.nodes
    c.in-Ok.ensures.wires in
    subst (λ (d : Circuit). length d.nodes < 2 ^ 32) (sym same)
    (spliced_few c.args.net c.args.at c.args.sub.now c.in_default.ensures c.requires.few)

pub replace-requires-clause-fit : goal.replace-requires-clause-fit
replace-requires-clause-fit c =
    let same = spliced_is c.args.net c.args.at c.args.sub.now c.wires_of.result.now c.net.inside.wires
    c.in-Ok.parts.nodes.items c.in-Ok.parts.wires
    (ap (λ (d : Circuit). d.wires) c.net.view_is) c.wires_of.ensures.ends c.in-Ok.ensures.nodes
    c.in-Ok.ensures.wires in
    subst (λ (d : Circuit). AllByRecursion (IsWired d.wires) d.nodes) (sym same)
    (spliced_fits c.args.net c.args.at c.args.sub.now c.in_default.ensures)

pub replace-requires-clause-closed : goal.replace-requires-clause-closed
replace-requires-clause-closed c =
    let same = spliced_is c.args.net c.args.at c.args.sub.now c.wires_of.result.now c.net.inside.wires
    c.in-Ok.parts.nodes.items c.in-Ok.parts.wires
    (ap (λ (d : Circuit). d.wires) c.net.view_is) c.wires_of.ensures.ends c.in-Ok.ensures.nodes
    c.in-Ok.ensures.wires in
    subst IsClosed (sym same) (spliced_closed c.args.net c.args.at c.args.sub.now c.in_default.ensures)

pub returns-in-Ok-replace-clause-ok : goal.returns-in-Ok-replace-clause-ok
returns-in-Ok-replace-clause-ok c =
    let same = spliced_is c.args.net c.args.at c.args.sub.now c.wires_of.result.now c.net.inside.wires
    c.in-Ok.parts.nodes.items c.in-Ok.parts.wires
    (ap (λ (d : Circuit). d.wires) c.net.view_is) c.wires_of.ensures.ends c.in-Ok.ensures.nodes
    c.in-Ok.ensures.wires in
    c.in-Ok-replace.ensures.ok ∙ same
