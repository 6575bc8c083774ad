use Rattle.std.proofs.Common.{◌≡◌, ◌∷◌, [], ◌++◌, ◌+◌, ◌<◌, List, length, get_or, drop, sym, ap, ◌∙◌, refl, arith}
use Rattle.std.specs.Prelude.{slice_get, Some}
use Rattle.std.proofs.lemmas.Option.{slice_get_read}
use Rattle.net_core.specs.Wiring.{Node, Circuit}
use Rattle.net_core.specs.Walk.{moved_all}
use Rattle.net_core.proofs.Counting.{all_at}
use Rattle.net_core.proofs.Listings.{moved_next}
use Rattle.net_core.proofs.renumber.moved_nodes.Goals as goal

pub loop-number-preserved : goal.loop-number-preserved
loop-number-preserved c =
    let ns = c.args.numbers.now in
    let i = c.loop-number.number-index in
    let known : get_or ns i 0 < length c.args.net.now.nodes = all_at (λ n. n < length c.args.net.now.nodes) ns i c.requires.known c.loop-number-test.true in
    let same : c.net.inside.nodes.items ≡ c.args.net.now.nodes = ap (λ (d : Circuit). d.nodes) c.net.view_is in
    let there : slice_get c.args.net.now.nodes (get_or ns i 0) ≡ Some c.index.result.now =
    ap (λ (xs : List Node). slice_get xs (get_or ns i 0)) (sym same)
    ∙ slice_get_read c.net.inside.nodes.items (length c.net.inside.nodes.items) (get_or ns i 0) c.index.result.now refl (omega (arith, ap (λ (xs : List Node). length xs) same)) c.index.ensures in
    ap (λ (xs : List Node). xs ++ moved_all (λ w. get_or c.args.table.now w 0) c.args.net.now (drop (i + 1) ns))
    (c.in_ok-push.ensures.items ∙ ap (λ (x : Node). c.loop-number.copies.items ++ x ∷ []) c.in_ok-copy.ensures)
    ∙ moved_next (λ w. get_or c.args.table.now w 0) c.args.net.now ns i c.index.result.now c.loop-number.copies.items c.loop-number-test.true there
    ∙ c.loop-number.invariant
