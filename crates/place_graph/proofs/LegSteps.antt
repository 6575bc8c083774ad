-- The legs of a sequence, one item more at a time.
use Rattle.std.proofs.Common.{◌≡◌, ◌<◌, ◌+◌, ℕ, suc, List, [], ◌∷◌, ◌++◌, length, get_or, drop, ap, add-one, drop-cons, sym, ◌∙◌, refl, append_assoc, arith, length-drop}
use Rattle.cmd_tree.specs.declared.tree.Item.{Item}
use Rattle.cmd_tree.specs.Tree.{Then, places_in}
use Rattle.cmd_tree.specs.View.{item_of, seq_of}
use Rattle.place_graph.specs.declared.leg.Leg.{Leg}
use Rattle.place_graph.specs.Points.{point, legs_of, legs_in}

pub drop_next : {A : Type 0} (xs : List A) (i : ℕ) (x : A) → i < length xs → x ≡ get_or xs i x
    → drop i xs ≡ x ∷ drop (i + 1) xs
drop_next {A} xs i x h is = rw add-one (drop-cons xs i x h ∙ ap (λ (y : A). y ∷ drop (suc i) xs) (sym is))

pub seq_next : (xs : List Item) (i : ℕ) (x : Item) → i < length xs → x ≡ get_or xs i x
    → seq_of (drop i xs) ≡ Then (item_of x) (seq_of (drop (i + 1) xs))
seq_next xs i x h is = ap seq_of (drop_next xs i x h is)

-- the item that is last leads to the point after the sequence
pub leads_to : (xs : List Item) (to next later : ℕ) → (length xs ≡ 0 → to ≡ later)
    → (0 < length xs → to ≡ next) → to ≡ point next (seq_of xs) later
leads_to [] to next later f g = f refl
leads_to (x ∷ xs) to next later f g = g (omega arith)

pub legs_next : (xs : List Item) (i : ℕ) (x : Item) (done new : List Leg) (place entry later to : ℕ)
    → i < length xs → x ≡ get_or xs i x
    → (length xs ≡ i + 1 → to ≡ later) → (i + 1 < length xs → to ≡ place + places_in (item_of x))
    → new ≡ done ++ legs_in place (item_of x) entry to
    → new ++ legs_of (place + places_in (item_of x)) (seq_of (drop (i + 1) xs))
    (place + places_in (item_of x)) later ≡ done ++ legs_of place (seq_of (drop i xs)) entry later
legs_next xs i x done new place entry later to h is last more e =
    let next = place + places_in (item_of x) in
    let rest = seq_of (drop (i + 1) xs) in
    let there : to ≡ point next rest later = leads_to (drop (i + 1) xs) to next later
    (λ n. last (omega (arith, n, length-drop (i + 1) xs, h)))
    (λ n. more (omega (arith, n, length-drop (i + 1) xs, h))) in
    ap (λ (z : List Leg). z ++ legs_of next rest next later) e
    ∙ append_assoc done (legs_in place (item_of x) entry to) (legs_of next rest next later)
    ∙ ap (λ y. done ++ (legs_in place (item_of x) entry y ++ legs_of next rest next later)) there
    ∙ ap (λ s. done ++ legs_of place s entry later) (sym (seq_next xs i x h is))
