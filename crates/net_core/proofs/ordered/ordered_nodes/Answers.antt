use Rattle.std.proofs.Common.{◌≡◌, ◌<◌, ◌≤◌, List, ℕ, length, get_or, sym, ap, ◌∙◌, subst}
use Rattle.std.specs.Prelude.{nat_eq}
use Rattle.std.specs.List.{AllByRecursion, position_or_len}
use Rattle.std.proofs.lemmas.Result.{IfOk-weaker}
use Rattle.net_core.specs.Wiring.{Circuit, IsWired, count}
use Rattle.net_core.specs.Walk.{Walk, walk, walk_of, moved_all}
use Rattle.net_core.proofs.WalkOrder.{holds, wires_whole, walk_by_table}
use Rattle.net_core.proofs.ordered.ordered_nodes.Goals as goal

pub places-requires-clause-known : goal.places-requires-clause-known
places-requires-clause-known c =
    let net = c.args.net.now in
    let fit : AllByRecursion (IsWired net.wires) net.nodes = subst (λ (d : Circuit). AllByRecursion (IsWired d.wires) d.nodes) c.net.view_is c.net.invariant.fit in
    let some : 0 < length net.nodes = subst (λ (d : Circuit). 0 < length d.nodes) c.net.view_is c.net.invariant.some in
    let numbers : c.numbers.result.now ≡ (walk_of net).numbered = c.numbers.ensures ∙ ap (λ (w : Walk). w.numbered) c.in_ok-walk.ensures in
    let wires : net.wires ≡ c.net.inside.wires = ap (λ (d : Circuit). d.wires) (sym c.net.view_is) in
    let h = holds net fit c.requires some in
    subst (λ (k : ℕ). AllByRecursion (λ n. n < k) c.numbers.result.now) wires (subst (AllByRecursion (λ n. n < net.wires)) (sym numbers) h.known)

pub places-requires-clause-once : goal.places-requires-clause-once
places-requires-clause-once c = λ n.
    let net = c.args.net.now in
    let fit : AllByRecursion (IsWired net.wires) net.nodes = subst (λ (d : Circuit). AllByRecursion (IsWired d.wires) d.nodes) c.net.view_is c.net.invariant.fit in
    let some : 0 < length net.nodes = subst (λ (d : Circuit). 0 < length d.nodes) c.net.view_is c.net.invariant.some in
    let numbers : c.numbers.result.now ≡ (walk_of net).numbered = c.numbers.ensures ∙ ap (λ (w : Walk). w.numbered) c.in_ok-walk.ensures in
    let h = holds net fit c.requires some in
    subst (λ (l : List ℕ). count n l ≤ 1) (sym numbers) (h.once n)

pub places-requires-clause-whole : goal.places-requires-clause-whole
places-requires-clause-whole c = λ n below.
    let net = c.args.net.now in
    let fit : AllByRecursion (IsWired net.wires) net.nodes = subst (λ (d : Circuit). AllByRecursion (IsWired d.wires) d.nodes) c.net.view_is c.net.invariant.fit in
    let some : 0 < length net.nodes = subst (λ (d : Circuit). 0 < length d.nodes) c.net.view_is c.net.invariant.some in
    let numbers : c.numbers.result.now ≡ (walk_of net).numbered = c.numbers.ensures ∙ ap (λ (w : Walk). w.numbered) c.in_ok-walk.ensures in
    let known : n < net.wires = subst (λ (d : Circuit). n < d.wires) c.net.view_is below in
    subst (λ (l : List ℕ). 0 < count n l) (sym numbers) (wires_whole net fit c.requires some n known)

pub moved_nodes-requires-clause-known : goal.moved_nodes-requires-clause-known
moved_nodes-requires-clause-known c =
    let net = c.args.net.now in
    let fit : AllByRecursion (IsWired net.wires) net.nodes = subst (λ (d : Circuit). AllByRecursion (IsWired d.wires) d.nodes) c.net.view_is c.net.invariant.fit in
    let some : 0 < length net.nodes = subst (λ (d : Circuit). 0 < length d.nodes) c.net.view_is c.net.invariant.some in
    let listed : c.numbers-2.result.now ≡ (walk_of net).listed = c.numbers-2.ensures ∙ ap (λ (w : Walk). w.listed) c.in_ok-walk.ensures in
    let h = holds net fit c.requires some in
    subst (AllByRecursion (λ n. n < length net.nodes)) (sym listed) h.there

pub returns : goal.returns
returns c =
    let net = c.args.net.now in
    let fit : AllByRecursion (IsWired net.wires) net.nodes = subst (λ (d : Circuit). AllByRecursion (IsWired d.wires) d.nodes) c.net.view_is c.net.invariant.fit in
    let numbers : c.numbers.result.now ≡ (walk_of net).numbered = c.numbers.ensures ∙ ap (λ (w : Walk). w.numbered) c.in_ok-walk.ensures in
    let listed : c.numbers-2.result.now ≡ (walk_of net).listed = c.numbers-2.ensures ∙ ap (λ (w : Walk). w.listed) c.in_ok-walk.ensures in
    let table : c.deref.result.now ≡ c.in_ok-numbers.numbers.items = c.deref.ensures.value in
    let are = walk_by_table net fit c.deref.result.now c.numbers-2.result.now
    (λ w known. ap (λ (l : List ℕ). get_or l w 0) table
    ∙ c.in_ok-numbers.ensures.places w (subst (λ (d : Circuit). w < d.wires) (sym c.net.view_is) known)
    ∙ ap (position_or_len (nat_eq w)) numbers) listed in
    IfOk-weaker c.moved_nodes.result (λ nodes. nodes.items ≡ moved_all (λ w. get_or c.deref.result.now w 0) net c.numbers-2.result.now)
    (λ nodes. nodes.items ≡ (walk net).nodes) (λ nodes e. e ∙ are) c.moved_nodes.ensures
