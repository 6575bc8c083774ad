use Rattle.std.proofs.Common.{◌≡◌, false, refl, sym, ap, ◌∙◌}
use Rattle.cmd_tree.specs.Lists.{is_in}
use Rattle.net_core.specs.Walk.{with_new}
use Rattle.net_core.specs.Mirror.Walking.{Listing}
use Rattle.net_core.specs.Mirror.WalkStates.{walk_in}
use Rattle.net_core.proofs.Listings.{new_one}
use Rattle.net_core.proofs.WalkStates.{walk_is, list_fresh}
use Rattle.net_core.proofs.walk.WalkState.list_node.Goals as goal

pub returns-in_ok-add_all-clause-listed : goal.returns-in_ok-add_all-clause-listed
returns-in_ok-add_all-clause-listed c =
    let old = c.args.self.now in
    let new : is_in c.args.node old.listed.numbers ≡ false = sym c.has.ensures ∙ c.if-not-has.true in
    walk_is _ _
    (ap (λ (l : Listing). l.numbers) c.in_ok-add.ensures ∙ new_one old.listed.numbers c.args.node new)
    (ap (λ (l : Listing). l.numbers) c.in_ok-add_all.ensures ∙ ap (with_new old.numbered.numbers) (c.deref.ensures.value ∙ c.in_ok-wires.ensures.wires))
    refl
    ∙ sym (list_fresh c.args.net.now c.args.node (walk_in old) new)
