use Rattle.std.proofs.Common.{◌≡◌, ◌<◌, ◌+◌, List, ℕ, length, true, false, refl, sym, ap, ◌∙◌, subst, arith}
use Rattle.std.specs.List.{AllByRecursion}
use Rattle.std.proofs.lemmas.Option.{slice_get_read}
use Rattle.net_core.specs.Specs.{outs_of}
use Rattle.net_core.specs.Wiring.{Node, IsWired}
use Rattle.net_core.specs.Mirror.EndTables.{Added, ports_of}
use Rattle.net_core.proofs.Drafts.{added_none, added_next, wires_few}
use Rattle.net_core.proofs.Found.{all_nodes}
use Rattle.net_core.proofs.table.note_nodes.Goals as goal

pub loop-place-init : goal.loop-place-init
loop-place-init c = added_none c.args.ends.now c.args.first

pub note_ports-requires-clause-known : goal.note_ports-requires-clause-known
note_ports-requires-clause-known c =
    let x = c.index-nodes-place.result in
    let many = length c.args.ends.now in
    let fits : IsWired many x = all_nodes (IsWired many) c.args.nodes.now c.loop-place.place x c.requires.wired
    (slice_get_read c.args.nodes.now (length c.args.nodes.now) c.loop-place.place x refl c.loop-place-test.true c.index-nodes-place.is) in
    let ends : c.deref-in-loop-place.result.now ≡ x.ends = c.deref-in-loop-place.ensures.value ∙ ap (λ (y : Node). y.ends) c.node.view_is in
    subst (λ (k : ℕ). AllByRecursion (λ w. w < k) c.deref-in-loop-place.result.now) (sym c.loop-place.invariant.sized)
    (subst (AllByRecursion (λ w. w < many)) (sym ends) fits.known)

pub note_ports-requires-clause-few : goal.note_ports-requires-clause-few
note_ports-requires-clause-few c =
    let x = c.index-nodes-place.result in
    let many = length c.args.ends.now in
    let fits : IsWired many x = all_nodes (IsWired many) c.args.nodes.now c.loop-place.place x c.requires.wired
    (slice_get_read c.args.nodes.now (length c.args.nodes.now) c.loop-place.place x refl c.loop-place-test.true c.index-nodes-place.is) in
    let ends : c.deref-in-loop-place.result.now ≡ x.ends = c.deref-in-loop-place.ensures.value ∙ ap (λ (y : Node). y.ends) c.node.view_is in
    omega (arith, wires_few many x fits, ap (λ (l : List ℕ). length l) ends)

pub loop-place-preserved : goal.loop-place-preserved
loop-place-preserved c =
    let x = c.index-nodes-place.result in
    let place = c.loop-place.place in
    let first = c.args.first in
    let outs : c.deref.result.now ≡ outs_of x.spec = c.deref.ensures.value ∙ c.in_ok-outs.ensures ∙ ap (λ (y : Node). outs_of y.spec) c.node.view_is in
    let ends : c.deref-in-loop-place.result.now ≡ x.ends = c.deref-in-loop-place.ensures.value ∙ ap (λ (y : Node). y.ends) c.node.view_is in
    let added : Added c.loop-place.ends c.note_ports.new.ends (ports_of true (first + place) x) (ports_of false (first + place) x) =
    rw (← outs, ← ends) c.note_ports.ensures in
    added_next c.args.ends.now c.loop-place.ends c.note_ports.new.ends first place c.args.nodes.now x c.loop-place-test.true c.index-nodes-place.is c.loop-place.invariant added
