use Rattle.std.proofs.Common.{◌≡◌, ◌∷◌, [], List, length, refl, sym, ap, ◌∙◌}
use Rattle.std.specs.Prelude.{slice_get, Some}
use Rattle.std.proofs.lemmas.Option.{slice_get_read}
use Rattle.net_core.specs.Wiring.{Node, Circuit}
use Rattle.net_core.specs.Walk.{with_new, ends_at}
use Rattle.net_core.specs.Mirror.Walking.{Listing}
use Rattle.net_core.proofs.Listings.{new_one}
use Rattle.net_core.proofs.WalkStates.{walk_is}
use Rattle.net_core.proofs.walk.WalkState.new.Goals as goal

pub returns-clause-outset : goal.returns-clause-outset
returns-clause-outset c =
    let xs = c.net.inside.nodes.items in
    let x = c.index.result.now in
    let same : xs ≡ c.args.net.now.nodes = ap (λ (d : Circuit). d.nodes) c.net.view_is in
    let there : slice_get c.args.net.now.nodes 0 ≡ Some x =
    ap (λ (ys : List Node). slice_get ys 0) (sym same) ∙ slice_get_read xs (length xs) 0 x refl c.net.invariant.some c.index.ensures in
    let ends : c.deref.result.now ≡ ends_at (slice_get c.args.net.now.nodes 0) =
    c.deref.ensures.value ∙ ap (λ (y : Node). y.ends) c.behind-net.view_is ∙ ap ends_at (sym there) in
    walk_is _ _
    (ap (λ (l : Listing). l.numbers) c.in_ok-add.ensures ∙ ap (λ (l : Listing). with_new l.numbers (0 ∷ [])) c.in_ok-listed.ensures ∙ new_one [] 0 refl)
    (ap (λ (l : Listing). l.numbers) c.in_ok-add_all.ensures ∙ ap (λ (l : Listing). with_new l.numbers c.deref.result.now) c.in_ok-numbered.ensures
    ∙ ap (with_new []) ends)
    refl
