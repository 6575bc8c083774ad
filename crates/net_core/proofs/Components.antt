-- A sum over the components of a network stays where its nodes get other numbers.
use Rattle.std.proofs.Common.{◌≡◌, ℕ, zero, suc, ◌+◌, ◌*◌, ◌<◌, ◌≤◌, List, [], ◌∷◌, map, length, drop, Option, None, Some, refl, sym, ap, ◌∙◌, subst, arith, inl, inr}
use Rattle.std.specs.Prelude.{slice_get, option_map}
use Rattle.std.specs.List.{AllByRecursion, sum_by, range_with_len}
use Rattle.std.proofs.lemmas.Bool.{cases_lt, cases_eq}
use Rattle.std.proofs.lemmas.List.Sums.{sum_by-cons}
use Rattle.std.proofs.lemmas.Option.{none-some, slice_get_within, slice_get_past}
use Rattle.basic_kinds.specs.Totals.{total}
use Rattle.basic_kinds.proofs.Totals.{total_none, total_same, total_split}
use Rattle.net_core.specs.declared.spec.NodeSpec.{NodeSpec}
use Rattle.net_core.specs.Wiring.{Node, Circuit, count, moved}
use Rattle.net_core.specs.Renumbering.{IsRenumbered, sum_of_parts}
use Rattle.net_core.proofs.Counting.{count_nil, count_same, count_other}
use Rattle.net_core.proofs.Moved.{node_at}

-- ---- sums over lists in which each number below n stands once

-- one part is more, and the sum is as much more
total_more : (k : ℕ) (u v : ℕ → ℕ) (i a : ℕ) → i < k → v i ≡ u i + a → ((j : ℕ) → j < k → (j ≡ i → ⊥) → v j ≡ u j)
    → total k v ≡ total k u + a
unfolding total
total_more zero u v i a x e h = absurd (omega arith)
total_more (suc k) u v i a x e h = elim (cases_lt i k) [
  | inl y ↦ omega (arith, h k (omega arith) (λ c. omega arith), total_more k u v i a y e (λ j z. h j (omega arith)))
  | inr y ↦
      let c : i ≡ k = omega arith in
      omega (arith, e, ap u c, ap v c, total_same k v u (λ j z. h j (omega arith) (λ d. omega arith)))
]

sum_counted : (n : ℕ) (g : ℕ → ℕ) (ns : List ℕ) → AllByRecursion (λ w. w < n) ns → total n (λ w. count w ns * g w) ≡ sum_by g ns
sum_counted n g [] all = total_none n (λ w. count w [] * g w) (λ w h. ap (λ k. k * g w) (count_nil w) ∙ omega arith)
sum_counted n g (x ∷ xs) all =
    let more : count x (x ∷ xs) * g x ≡ count x xs * g x + g x = ap (λ k. k * g x) (count_same x xs) ∙ omega arith in
    omega (
      arith,
      total_more n (λ w. count w xs * g w) (λ w. count w (x ∷ xs) * g w) x (g x) all.0 more (λ w h ne. ap (λ k. k * g w) (count_other w x xs ne)),
      sum_counted n g xs all.1,
      sum_by-cons g x xs,
    )

each_summed : (n : ℕ) (g : ℕ → ℕ) (ns : List ℕ) → AllByRecursion (λ w. w < n) ns → ((w : ℕ) → w < n → count w ns ≡ 1) → sum_by g ns ≡ total n g
each_summed n g ns all once =
    sym (sum_counted n g ns all) ∙ total_same n (λ w. count w ns * g w) g (λ w h. ap (λ k. k * g w) (once w h) ∙ omega arith)

-- ---- ranges and their images

range_all : (P : ℕ → Type 0) (a n : ℕ) → ((k : ℕ) → a ≤ k → k < a + n → P k) → AllByRecursion P (range_with_len a n)
range_all P a zero h = tt
range_all P a (suc n) h = (h a (omega arith) (omega arith), range_all P (a + 1) n (λ k low high. h k (omega arith) (omega arith)))

range_before : (w a n : ℕ) → w < a → count w (range_with_len a n) ≡ 0
range_before w a zero h = count_nil w
range_before w a (suc n) h = count_other w a (range_with_len (a + 1) n) (λ e. omega arith) ∙ range_before w (a + 1) n (omega arith)

range_once : (w a n : ℕ) → a ≤ w → w < a + n → count w (range_with_len a n) ≡ 1
range_once w a zero low high = absurd (omega arith)
range_once w a (suc n) low high = elim (cases_eq w a) [
  | inl e ↦ subst (λ v. count w (v ∷ range_with_len (a + 1) n) ≡ 1) e
      (omega (arith, count_same w (range_with_len (w + 1) n), range_before w (w + 1) n (omega arith), ap (λ v. count w (range_with_len (v + 1) n)) e, count_same w (range_with_len (a + 1) n)))
  | inr ne ↦ count_other w a (range_with_len (a + 1) n) ne ∙ range_once w (a + 1) n (omega arith) (omega arith)
]

count_map : (f : ℕ → ℕ) → ((v w : ℕ) → f v ≡ f w → v ≡ w) → (w : ℕ) (xs : List ℕ) → count (f w) (map f xs) ≡ count w xs
count_map f one w [] = count_nil (f w) ∙ sym (count_nil w)
count_map f one w (x ∷ xs) = elim (cases_eq w x) [
  | inl e ↦ subst (λ y. count (f w) (f y ∷ map f xs) ≡ count w (y ∷ xs)) e
      (count_same (f w) (map f xs) ∙ ap suc (count_map f one w xs) ∙ sym (count_same w xs))
  | inr ne ↦ count_other (f w) (f x) (map f xs) (λ e. ne (one w x e)) ∙ count_map f one w xs ∙ sym (count_other w x xs ne)
]

all_image : (P : ℕ → Type 0) (f : ℕ → ℕ) (xs : List ℕ) → AllByRecursion (λ x. P (f x)) xs → AllByRecursion P (map f xs)
all_image P f [] all = tt
all_image P f (x ∷ xs) all = (all.0, all_image P f xs all.1)

sum_image : (g f : ℕ → ℕ) (xs : List ℕ) → sum_by g (map f xs) ≡ sum_by (λ x. g (f x)) xs
sum_image g f [] = refl
sum_image g f (x ∷ xs) = omega (arith, sum_by-cons g (f x) (map f xs), sum_by-cons (λ x. g (f x)) x xs, sum_image g f xs)

sum_same : (g h : ℕ → ℕ) (xs : List ℕ) → ((x : ℕ) → g x ≡ h x) → sum_by g xs ≡ sum_by h xs
sum_same g h [] same = refl
sum_same g h (x ∷ xs) same = omega (arith, sum_by-cons g x xs, sum_by-cons h x xs, sum_same g h xs same, same x)

-- ---- sums over nodes, by their numbers

number_of : (NodeSpec → ℕ) → Option Node → ℕ
number_of f None = 0
number_of f (Some x) = f x.spec

number_moved : (f : NodeSpec → ℕ) (g : ℕ → ℕ) (o : Option Node) → number_of f (option_map (moved g) o) ≡ number_of f o
unfolding number_of
number_moved f g None = refl
number_moved f g (Some x) = refl

front_total : (k : ℕ) (u : ℕ → ℕ) → total (suc k) u ≡ u 0 + total k (λ i. u (suc i))
unfolding total
front_total k u =
    let e : suc k ≡ 1 + k = omega arith in
    let rest : total k (λ i. u (1 + i)) ≡ total k (λ i. u (suc i)) = total_same k (λ i. u (1 + i)) (λ i. u (suc i)) (λ i h. ap u (omega arith)) in
    omega (arith, ap (λ n. total n u) e, total_split 1 k u, rest)

nodes_total : (f : NodeSpec → ℕ) (xs : List Node) → total (length xs) (λ i. number_of f (slice_get xs i)) ≡ sum_by (λ x. f x.spec) xs
unfolding total number_of
nodes_total f [] = refl
nodes_total f (x ∷ xs) =
    front_total (length xs) (λ i. number_of f (slice_get (x ∷ xs) i)) ∙ ap (λ n. f x.spec + n) (nodes_total f xs) ∙ sym (sum_by-cons (λ y. f y.spec) x xs)

parts_total : (f : NodeSpec → ℕ) (xs : List Node) → sum_by (λ x. f x.spec) xs ≡ number_of f (slice_get xs 0) + sum_by (λ x. f x.spec) (drop 1 xs)
unfolding number_of
parts_total f [] = refl
parts_total f (x ∷ xs) = sum_by-cons (λ y. f y.spec) x xs

module _ (c d : Circuit) (k : IsRenumbered c d) (f : NodeSpec → ℕ) where
  abbrev old : ℕ → ℕ
  old i = number_of f (slice_get c.nodes i)

  abbrev new : ℕ → ℕ
  new i = number_of f (slice_get d.nodes i)

  new_is : (i : ℕ) → new (k.node.to i) ≡ old i
  new_is i = ap (number_of f) (k.nodes i) ∙ number_moved f k.wire.to (slice_get c.nodes i)

  node_new : (i : ℕ) → i < length c.nodes → k.node.to i < length d.nodes
  node_new i h =
      let (x, e) = node_at c.nodes i h in
      slice_get_within d.nodes (k.node.to i) (moved k.wire.to x) (k.nodes i ∙ ap (option_map (moved k.wire.to)) e)

  node_old : (j : ℕ) → j < length d.nodes → k.node.back j < length c.nodes
  node_old j h = elim (cases_lt (k.node.back j) (length c.nodes)) [
    | inl l ↦ l
    | inr past ↦
        let (y, e) = node_at d.nodes j h in
        absurd (none-some y (ap (option_map (moved k.wire.to)) (sym (slice_get_past c.nodes (k.node.back j) past))
        ∙ sym (k.nodes (k.node.back j)) ∙ ap (slice_get d.nodes) (k.node.back_to j) ∙ e))
  ]

  abbrev numbers : List ℕ
  numbers = range_with_len 0 (length c.nodes)

  sums_same : sum_by (λ x. f x.spec) d.nodes ≡ sum_by (λ x. f x.spec) c.nodes
  sums_same =
      sym (nodes_total f d.nodes)
      ∙ sym (each_summed (length d.nodes) new (map k.node.to numbers)
      (all_image (λ j. j < length d.nodes) k.node.to numbers (range_all (λ i. k.node.to i < length d.nodes) 0 (length c.nodes) (λ i low high. node_new i (omega arith))))
      (λ j h. subst (λ v. count v (map k.node.to numbers) ≡ 1) (k.node.back_to j)
      (count_map k.node.to (λ v w e. sym (k.node.to_back v) ∙ ap k.node.back e ∙ k.node.to_back w) (k.node.back j) numbers
      ∙ range_once (k.node.back j) 0 (length c.nodes) (omega arith) (let l = node_old j h in omega arith))))
      ∙ sum_image new k.node.to numbers
      ∙ sum_same (λ i. new (k.node.to i)) old numbers new_is
      ∙ each_summed (length c.nodes) old numbers (range_all (λ i. i < length c.nodes) 0 (length c.nodes) (λ i low high. omega arith))
      (λ i h. range_once i 0 (length c.nodes) (omega arith) (omega arith))
      ∙ nodes_total f c.nodes

  pub parts_same : sum_of_parts f d ≡ sum_of_parts f c
  parts_same =
      omega (
        arith,
        parts_total f c.nodes,
        parts_total f d.nodes,
        sums_same,
        ap new (sym k.outside) ∙ new_is 0,
      )
