-- One pass over the nodes makes the network of one splice after the other.
use Rattle.std.proofs.Common.{◌≡◌, ℕ, suc, Bool, IsTrue, ◌+◌, ◌-◌, ◌≤◌, List, [], ◌∷◌, ◌++◌, length, map, take, drop, Option, None, Some, refl, sym, ap, ◌∙◌, arith, append_assoc, length-append, length-drop}
use Rattle.std.specs.Prelude.{slice_get}
use Rattle.std.specs.List.{AllByRecursion, sum_by}
use Rattle.std.proofs.lemmas.List.{length-map}
use Rattle.std.proofs.lemmas.List.Sums.{sum_by-cons, sum_by-append}
use Rattle.basic_kinds.proofs.Projections.{front_all}
use Rattle.net_core.specs.declared.spec.NodeSpec.{NodeSpec}
use Rattle.net_core.specs.Wiring.{Node, Circuit, moved}
use Rattle.net_core.specs.Walk.{ends_at}
use Rattle.substitute.specs.Splice.{renumber_at, renumber, rank, is_inner, spliced}
use Rattle.substitute.specs.Splices.{all_spliced, specs_after, wires_in, PassAfter, sum_after}
use Rattle.substitute.specs.Mirror.OnePass.{in_place, wires_with, all_in_place, wires_with_all}
use Rattle.substitute.proofs.Tables.{rank_few}

-- the circuit of the nodes so far, those that are left, and so many wires
abbrev pub joined : List Node → ℕ → List Node → Circuit
joined f n xs = record { nodes = f ++ xs; wires = n }

take_front : (f xs : List Node) → take (length f) (f ++ xs) ≡ f
take_front [] xs = refl
take_front (x ∷ f) xs = ap (λ t. x ∷ t) (take_front f xs)

drop_front : (f : List Node) (x : Node) (xs : List Node) → drop (suc (length f)) (f ++ (x ∷ xs)) ≡ xs
drop_front [] x xs = refl
drop_front (y ∷ f) x xs = drop_front f x xs

at_front : (f : List Node) (x : Node) (xs : List Node) → slice_get (f ++ (x ∷ xs)) (length f) ≡ Some x
at_front [] x xs = refl
at_front (y ∷ f) x xs = at_front f x xs

pub splice_next : (f : List Node) (n : ℕ) (x : Node) (xs : List Node) (m : Circuit)
    → spliced (joined f n (x ∷ xs)) (length f) m ≡ joined (f ++ in_place n x (Some m))
    (wires_with n (Some m)) xs
unfolding spliced renumber
splice_next f n x xs m =
    let ends : ends_at (slice_get (f ++ (x ∷ xs)) (length f)) ≡ x.ends = ap ends_at (at_front f x xs) in
    let nodes : take (length f) (f ++ (x ∷ xs))
    ++ (map (moved (renumber_at (ends_at (slice_get (f ++ (x ∷ xs)) (length f))) n m)) (drop 1 m.nodes)
    ++ drop (suc (length f)) (f ++ (x ∷ xs))) ≡ (f ++ in_place n x (Some m)) ++ xs =
    (λ i. take_front f (x ∷ xs) i ++
    (map (moved (renumber_at (ends i) n m)) (drop 1 m.nodes) ++ drop_front f x xs i))
    ∙ sym (append_assoc f (in_place n x (Some m)) xs) in
    λ i. record { nodes = nodes i; wires = n + rank (is_inner m) m.wires }

next_place : (f : List Node) (n : ℕ) (x : Node) (m : Circuit) → length f + (length m.nodes - 1)
    ≡ length (f ++ in_place n x (Some m))
next_place f n x m = omega (
  arith,
  length-append f (in_place n x (Some m)),
  length-map (drop 1 m.nodes) (moved (renumber_at x.ends n m)),
  length-drop 1 m.nodes,
)

one_more : (f : List Node) (x : Node) → suc (length f) ≡ length (f ++ x ∷ [])
one_more f x = omega (arith, length-append f (x ∷ []))

none_left : (n : ℕ) (xs : List Node) → all_in_place n xs [] ≡ xs
none_left n [] = refl
none_left n (x ∷ xs) = ap (λ t. x ∷ t) (none_left n xs)

pub one_pass : (f : List Node) (n : ℕ) (xs : List Node) (ps : List (Option Circuit)) → length ps ≤ length xs
    → all_spliced (joined f n xs) (length f) ps ≡ joined f (wires_with_all n ps) (all_in_place n xs ps)
one_pass f n xs [] h = ap (joined f n) (sym (none_left n xs))
one_pass f n [] (p ∷ ps) h = absurd (omega arith)
one_pass f n (x ∷ xs) (None ∷ ps) h =
    let nodes : f ++ (x ∷ xs) ≡ (f ++ x ∷ []) ++ xs = sym (append_assoc f (x ∷ []) xs) in
    (λ i. all_spliced (record { nodes = nodes i; wires = n }) (one_more f x i) ps)
    ∙ one_pass (f ++ x ∷ []) n xs ps (omega arith)
    ∙ (λ i. record { nodes = append_assoc f (x ∷ []) (all_in_place n xs ps) i; wires = wires_with_all n ps })
one_pass f n (x ∷ xs) (Some m ∷ ps) h =
    let g : List Node = f ++ in_place n x (Some m) in
    let k : ℕ = wires_with n (Some m) in
    (λ i. all_spliced (splice_next f n x xs m i) (next_place f n x m i) ps)
    ∙ one_pass g k xs ps (omega arith)
    ∙ (λ i. record {
      nodes = append_assoc f (in_place n x (Some m)) (all_in_place k xs ps) i;
      wires = wires_with_all k ps;
    })

-- ---- specifications, and how many wires there are

moved_specs : (g : ℕ → ℕ) (xs : List Node) → map (λ x. x.spec) (map (moved g) xs) ≡ map (λ x. x.spec) xs
moved_specs g [] = refl
moved_specs g (x ∷ xs) = ap (λ t. x.spec ∷ t) (moved_specs g xs)

specs_append : (xs ys : List Node) → map (λ x. x.spec) (xs ++ ys)
    ≡ map (λ x. x.spec) xs ++ map (λ x. x.spec) ys
specs_append [] ys = refl
specs_append (x ∷ xs) ys = ap (λ t. x.spec ∷ t) (specs_append xs ys)

pub placed_specs : (n : ℕ) (xs : List Node) (ps : List (Option Circuit))
    → map (λ x. x.spec) (all_in_place n xs ps) ≡ specs_after xs ps
placed_specs n [] ps = refl
placed_specs n (x ∷ xs) [] = ap (λ t. x.spec ∷ t) (placed_specs n xs [])
placed_specs n (x ∷ xs) (None ∷ ps) = ap (λ t. x.spec ∷ t) (placed_specs n xs ps)
placed_specs n (x ∷ xs) (Some m ∷ ps) =
    specs_append (in_place n x (Some m)) (all_in_place (wires_with n (Some m)) xs ps)
    ∙ (λ i. moved_specs (renumber_at x.ends n m) (drop 1 m.nodes) i ++ placed_specs (wires_with n (Some m))
    xs ps i)

moved_pass : (test : NodeSpec → Bool) (g : ℕ → ℕ) (xs : List Node)
    → AllByRecursion (λ x. IsTrue (test x.spec)) xs
    → AllByRecursion (λ x. IsTrue (test x.spec)) (map (moved g) xs)
moved_pass test g [] h = tt
moved_pass test g (x ∷ xs) h = (h.0, moved_pass test g xs h.1)

pub placed_pass : (test : NodeSpec → Bool) (n : ℕ) (xs : List Node) (ps : List (Option Circuit))
    → PassAfter test xs ps
    → AllByRecursion (λ x. IsTrue (test x.spec)) (all_in_place n xs ps)
placed_pass test n [] ps h = tt
placed_pass test n (x ∷ xs) [] h = (h.0, placed_pass test n xs [] h.1)
placed_pass test n (x ∷ xs) (None ∷ ps) h = (h.0, placed_pass test n xs ps h.1)
placed_pass test n (x ∷ xs) (Some m ∷ ps) h =
    let k : ℕ = wires_with n (Some m) in
    front_all (λ y. IsTrue (test y.spec)) (in_place n x (Some m)) (all_in_place k xs ps)
    (moved_pass test (renumber_at x.ends n m) (drop 1 m.nodes) h.0) (placed_pass test k xs ps h.1)

moved_sum : (f : NodeSpec → ℕ) (g : ℕ → ℕ) (xs : List Node) → sum_by (λ x. f x.spec) (map (moved g) xs)
    ≡ sum_by (λ x. f x.spec) xs
moved_sum f g [] = refl
moved_sum f g (x ∷ xs) = omega (
  arith,
  sum_by-cons (λ y. f y.spec) (moved g x) (map (moved g) xs),
  sum_by-cons (λ y. f y.spec) x xs,
  moved_sum f g xs,
)

pub placed_sum : (f : NodeSpec → ℕ) (n : ℕ) (xs : List Node) (ps : List (Option Circuit))
    → sum_by (λ x. f x.spec) (all_in_place n xs ps) ≡ sum_after f xs ps
placed_sum f n [] ps = refl
placed_sum f n (x ∷ xs) [] = omega
    (arith, sum_by-cons (λ y. f y.spec) x (all_in_place n xs []), placed_sum f n xs [])
placed_sum f n (x ∷ xs) (None ∷ ps) =
    omega (arith, sum_by-cons (λ y. f y.spec) x (all_in_place n xs ps), placed_sum f n xs ps)
placed_sum f n (x ∷ xs) (Some m ∷ ps) =
    let k : ℕ = wires_with n (Some m) in
    omega (
      arith,
      sum_by-append (λ y. f y.spec) (in_place n x (Some m)) (all_in_place k xs ps),
      moved_sum f (renumber_at x.ends n m) (drop 1 m.nodes),
      placed_sum f k xs ps,
    )

pub wires_few : (n : ℕ) (ps : List (Option Circuit)) → wires_with_all n ps ≤ n + wires_in ps
wires_few n [] = omega arith
wires_few n (None ∷ ps) = wires_few n ps
wires_few n (Some m ∷ ps) = omega (arith, wires_few (wires_with n (Some m)) ps, rank_few (is_inner m) m.wires)
