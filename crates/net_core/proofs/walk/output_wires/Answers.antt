use Rattle.std.proofs.Common.{◌≡◌, ◌<◌, length, true, refl, sym, ap, ◌∙◌, subst, arith}
use Rattle.std.specs.Prelude.{slice_get, Some}
use Rattle.std.specs.List.{AllByRecursion}
use Rattle.std.proofs.lemmas.Option.{slice_get_read}
use Rattle.std.proofs.lemmas.Result.{IfOk-weaker}
use Rattle.net_core.specs.Wiring.{Node, Circuit, IsWired, picked}
use Rattle.net_core.proofs.Counting.{picked_all}
use Rattle.net_core.proofs.Found.{all_nodes}
use Rattle.net_core.proofs.walk.output_wires.Goals as goal

pub returns-clause-known : goal.returns-clause-known
returns-clause-known c =
    let xs = c.net.inside.nodes.items in
    let x = c.index-2.result.now in
    let there : slice_get xs c.args.node ≡ Some x =
    slice_get_read xs (length xs) c.args.node x refl (omega (arith, c.requires, ap (λ (d : Circuit). length d.nodes) c.net.view_is)) c.index-2.ensures in
    let fits : IsWired c.net.inside.wires x = all_nodes (IsWired c.net.inside.wires) xs c.args.node x c.net.invariant.fit there in
    let ends : c.deref-2.result.now ≡ x.ends = c.deref-2.ensures.value ∙ ap (λ (y : Node). y.ends) c.behind-net-2.view_is in
    let known : AllByRecursion (λ w. w < c.args.net.now.wires) c.deref-2.result.now =
    subst (λ (d : Circuit). AllByRecursion (λ w. w < d.wires) c.deref-2.result.now) c.net.view_is
    (subst (AllByRecursion (λ w. w < c.net.inside.wires)) (sym ends) fits.known) in
    IfOk-weaker c.picked_wires.result (λ picks. picks.items ≡ picked true c.deref.result.now c.deref-2.result.now)
    (λ wires. AllByRecursion (λ w. w < c.args.net.now.wires) wires.items)
    (λ picks e. subst (AllByRecursion (λ w. w < c.args.net.now.wires)) (sym e) (picked_all (λ w. w < c.args.net.now.wires) true c.deref.result.now c.deref-2.result.now known))
    c.picked_wires.ensures
