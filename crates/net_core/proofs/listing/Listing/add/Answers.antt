use Rattle.std.proofs.Common.{◌≡◌, ◌<◌, ◌∷◌, [], length, true, false, ap, sym, ◌∙◌, arith}
use Rattle.std.proofs.Math.ListN.{length-set}
use Rattle.std.proofs.lemmas.List.{get_or_default}
use Rattle.cmd_tree.specs.Lists.{is_in}
use Rattle.net_core.specs.Walk.{with_new}
use Rattle.net_core.specs.Mirror.Walking.{Listing}
use Rattle.net_core.proofs.Listings.{new_one, old_one, listing_is}
use Rattle.net_core.proofs.listing.Listing.add.Goals as goal

pub returns-in_ok-push : goal.returns-in_ok-push
returns-in_ok-push c =
    let marks = c.self.inside.marks.items in
    let inside : c.args.number < length marks = omega (arith, c.requires, ap (λ (l : Listing). l.bound) c.self.view_is) in
    let new : is_in c.args.number c.self.inside.numbers.items ≡ false =
    sym (c.self.invariant c.args.number inside) ∙ get_or_default marks c.args.number false c.index.result.now inside ∙ sym c.index.ensures ∙ c.if-not-index.true in
    listing_is _ _
    (c.in_ok-push.ensures.items ∙ sym (new_one c.self.inside.numbers.items c.args.number new)
    ∙ ap (λ (l : Listing). with_new l.numbers (c.args.number ∷ [])) c.self.view_is)
    (length-set marks c.args.number true ∙ ap (λ (l : Listing). l.bound) c.self.view_is)

pub returns-else-not-index : goal.returns-else-not-index
returns-else-not-index c =
    let marks = c.self.inside.marks.items in
    let inside : c.args.number < length marks = omega (arith, c.requires, ap (λ (l : Listing). l.bound) c.self.view_is) in
    let old : is_in c.args.number c.self.inside.numbers.items ≡ true =
    sym (c.self.invariant c.args.number inside) ∙ get_or_default marks c.args.number false c.index.result.now inside ∙ sym c.index.ensures ∙ c.if-not-index.false in
    listing_is _ _
    (sym (old_one c.args.self.now.numbers c.args.number (ap (λ (l : Listing). is_in c.args.number l.numbers) (sym c.self.view_is) ∙ old)))
    (ap (λ (l : Listing). l.bound) (sym c.self.view_is) ∙ ap (λ (l : Listing). l.bound) c.self.view_is)
