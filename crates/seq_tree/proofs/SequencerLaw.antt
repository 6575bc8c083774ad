-- The layer of a SEQ implements it: with two groups, or with one group and a request that stands alone.
use Rattle.std.proofs.Common.{◌≡◌, ℕ, zero, suc, ◌+◌, ◌*◌, ◌-◌, ◌<◌, ◌≤◌, ◌^◌, List, [], ◌∷◌, ◌++◌, map, refl, sym, ap, subst, ◌∙◌, arith, append_assoc}
use Rattle.std.specs.List.{range_with_len}
use Rattle.std.proofs.lemmas.List.{map-append}
use Rattle.basic_kinds.specs.declared.kind.Kind.TheVariants as kind
use Rattle.basic_kinds.specs.Kinds.{IsWellFormed}
use Rattle.basic_kinds.specs.ShapeParts.{half}
use Rattle.basic_kinds.specs.Totals.{total}
use Rattle.net_core.specs.declared.spec.NodeSpec.TheVariants.{Kind as Basic}
use Rattle.net_core.specs.Wiring.{Node as Part, Circuit}
use Rattle.net_laws.specs.Charts.{Chart, charted, node_of}
use Rattle.net_laws.specs.Implementing.{Implements}
use Rattle.net_laws.proofs.Rows.{row, number_row}
use Rattle.seq_tree.specs.declared.groups.Group.{Group}
use Rattle.seq_tree.specs.SequencerLayer as layer
use Rattle.seq_tree.specs.SequencerLayer.{by_size, column_wait, sequencer_chart, sequencer_circuit}
use Rattle.seq_tree.specs.Mirror.GroupNodes.{group_of, component_node, into_one, in_and_out, fork_nodes, single_nodes, group_nodes, call_wire, give_wire, outer_nodes}
use Rattle.seq_tree.proofs.GroupNumbers.{map_map, half_range, halves_are, nodes_are}
use Rattle.seq_tree.proofs.SequencerWires.{Wire, Ask, Row, Won, Back, Call, Give, Return, Free, Lone, Own, Node, Env, Inner, Spread, Share, Gate}
use Rattle.seq_tree.proofs.SequencerPorts as at
use Rattle.seq_tree.proofs.SequencerPorts.{Pair, picked, firsts, seconds}
use Rattle.seq_tree.proofs.SequencerChart as nodes
use Rattle.seq_tree.proofs.SequencerNumbers as numbers

by_more : {A : Type 0} (n : ℕ) (a b : A) → 2 ≤ n → by_size n a b ≡ b
by_more zero a b more = absurd (omega arith)
by_more (suc zero) a b more = absurd (omega arith)
by_more (suc (suc n)) a b more = refl

total_none : (u : ℕ → ℕ) → total 0 u ≡ 0
unfolding total
total_none u = refl

total_one : (u : ℕ → ℕ) → total 1 u ≡ u 0
unfolding total
total_one u = omega arith

total_two : (u : ℕ → ℕ) → total 2 u ≡ u 0 + u 1
unfolding total
total_two u = omega arith

-- all components of a group
abbrev full_nodes : Group → List Part
full_nodes g =
    single_nodes g
    ++ (fork_nodes g.size g.base (g.base + g.size) (g.base + 2 * g.size) ++ fork_nodes g.size (g.base + 3 * g.size) g.grant (g.base + 4 * g.size))

same_group : (a b c d p q r s : ℕ) → a ≡ p → b ≡ q → c ≡ r → d ≡ s
    → ◌≡◌ {A = Group} (record { request = a; grant = b; size = c; base = d }) (record { request = p; grant = q; size = r; base = s })
same_group a b c d p q r s w x y z = λ i. record { request = w i; grant = x i; size = y i; base = z i }

-- ---- the components of a group, for any numbers of groups and lone requests

module _ (K : ℕ) (size : ℕ → ℕ) (L : ℕ) where
  abbrev number : Wire → ℕ
  number = numbers.number K size L

  abbrev base : ℕ → ℕ
  base = numbers.base K size L

  abbrev whole : ℕ
  whole = numbers.whole K size L

  abbrev chart : Chart Node Wire
  chart = numbers.chart K size L

  abbrev node : Node → Part
  node = node_of chart

  abbrev numbered : ℕ → Group
  numbered k = record { request = total k size; grant = whole + 1 + total k size; size = size k; base = base k }

  ends_into_one : (n a : ℕ) (v : ℕ → Wire) (one : Wire) → ((i : ℕ) → i < n → number (v i) ≡ a + i) → map number (row v n ++ one ∷ []) ≡ into_one n a (number one)
  ends_into_one n a v one e = map-append number (row v n) (one ∷ []) ∙ ap (λ ns. ns ++ number one ∷ []) (number_row number v a n e)

  three_parts : (xs : List Wire) (one : Wire) (ys : List Wire) (n a b : ℕ) → map number xs ≡ range_with_len a n → map number ys ≡ range_with_len b n
      → map number ((xs ++ one ∷ []) ++ ys) ≡ in_and_out n a (number one) b
  three_parts xs one ys n a b e f =
      ap (map number) (append_assoc xs (one ∷ []) ys) ∙ map-append number xs (one ∷ ys) ∙ (λ i. e i ++ number one ∷ f i)

  inner_ends : (k : ℕ) → map number (at.ports K size L (Inner k)) ≡ in_and_out (size k) (total k size) (number (Free k)) (base k)
  inner_ends k = three_parts (firsts (at.inner_pairs K size L k)) (Free k) (seconds (at.inner_pairs K size L k)) (size k) (total k size) (base k)
      (map_map number (λ (p : Pair). p.0) (at.inner_pairs K size L k) ∙ number_row (λ (p : Pair). number p.0) (picked k) (total k size) (size k) (λ i l. refl))
      (map_map number (λ (p : Pair). p.1) (at.inner_pairs K size L k) ∙ number_row (λ (p : Pair). number p.1) (picked k) (base k) (size k) (λ i l. refl))

  forks_are : (k : ℕ) → map node (row (Spread k) (size k) ++ row (Share k) (size k))
      ≡ fork_nodes (size k) (base k) (base k + size k) (base k + 2 * size k) ++ fork_nodes (size k) (base k + 3 * size k) (whole + 1 + total k size) (base k + 4 * size k)
  forks_are k =
      let spread : map node (row (Spread k) (size k)) ≡ map (λ i. node (Spread k i)) (range_with_len 0 (size k)) = map_map node (Spread k) (range_with_len 0 (size k)) in
      let share : map node (row (Share k) (size k)) ≡ map (λ i. node (Share k i)) (range_with_len 0 (size k)) = map_map node (Share k) (range_with_len 0 (size k)) in
      map-append node (row (Spread k) (size k)) (row (Share k) (size k)) ∙ (λ i. spread i ++ share i)

  group_full : (k : ℕ) → map node (nodes.group K size L k) ≡ full_nodes (numbered k)
  group_full k =
      let n : ℕ = size k in
      let b : ℕ = base k in
      let inner = inner_ends k in
      let calls = ends_into_one n (b + n) (Ask k) (Call k) (λ i l. refl) in
      let wait = three_parts (row (Row k) n) (Give k) (row (Won k) n) n (b + 2 * n) (b + 3 * n) (number_row number (Row k) (b + 2 * n) n (λ i l. refl)) (number_row number (Won k) (b + 3 * n) n (λ i l. refl)) in
      let returns = ends_into_one n (b + 4 * n) (Back k) (Return k) (λ i l. refl) in
      let forks = forks_are k in
      λ i. component_node (kind.Seq n) (inner i) ∷ component_node (kind.Merge n) (calls i) ∷ component_node (column_wait n) (wait i)
      ∷ component_node (kind.Merge n) (returns i) ∷ node (Gate k) ∷ forks i

group_whole : (g : Group) → 2 ≤ g.size → full_nodes g ≡ group_nodes g
group_whole g more = sym (by_more g.size [] (full_nodes g) more)

-- ---- two groups

module _ (h r : ℕ) (first : 2 ≤ h) (second : 2 ≤ r) where
  abbrev two : Chart Node Wire
  two = numbers.chart 2 (layer.size h r) 0

  all_two : total 2 (layer.size h r) + 0 ≡ h + r
  all_two = omega (arith, total_two (layer.size h r))

  base_two : (j : ℕ) → j < 2 → numbers.base 2 (layer.size h r) 0 j ≡ layer.base h r j
  base_two zero low = omega (arith, all_two, total_none (numbers.width 2 (layer.size h r) 0))
  base_two (suc zero) low = omega (arith, all_two, total_one (numbers.width 2 (layer.size h r) 0))
  base_two (suc (suc j)) low = absurd (omega arith)

  before_two : (j : ℕ) → j < 2 → total j (layer.size h r) ≡ layer.before h j
  before_two zero low = total_none (layer.size h r)
  before_two (suc zero) low = total_one (layer.size h r)
  before_two (suc (suc j)) low = absurd (omega arith)

  group_two : (j : ℕ) → j < 2 → numbered 2 (layer.size h r) 0 j ≡ group_of h r j
  group_two j low = same_group _ _ _ _ _ _ _ _ (before_two j low) (omega (arith, all_two, before_two j low)) refl (base_two j low)

  size_two : (j : ℕ) → 2 ≤ layer.size h r j
  size_two zero = first
  size_two (suc j) = second

  call_two : (j : ℕ) → j < 2 → numbers.number 2 (layer.size h r) 0 (Call j) ≡ call_wire (group_of h r j)
  call_two j low =
      ap (λ b. b + 5 * layer.size h r j) (base_two j low) ∙ sym (by_more (layer.size h r j) (layer.before h j) (layer.base h r j + 5 * layer.size h r j) (size_two j))

  give_two : (j : ℕ) → j < 2 → numbers.number 2 (layer.size h r) 0 (Give j) ≡ give_wire (group_of h r j)
  give_two j low =
      ap (λ b. b + 5 * layer.size h r j + 1) (base_two j low)
      ∙ sym (by_more (layer.size h r j) (h + r + 1 + layer.before h j) (layer.base h r j + 5 * layer.size h r j + 1) (size_two j))

  part_two : (j : ℕ) → j < 2 → map (node_of two) (nodes.group 2 (layer.size h r) 0 j) ≡ group_nodes (group_of h r j)
  part_two j low = group_full 2 (layer.size h r) 0 j ∙ ap full_nodes (group_two j low) ∙ group_whole (group_of h r j) (size_two j)

  nodes_two : (charted two).nodes ≡ (charted (sequencer_chart h r)).nodes
  nodes_two =
      let w = all_two in
      let env : map two.number (two.ports Env) ≡ range_with_len 0 (2 * (h + r) + 1) =
      numbers.env_numbers 2 (layer.size h r) 0
      ∙ ap (range_with_len 0) (let z : total 2 (layer.size h r) + 0 + 1 + (total 2 (layer.size h r) + 0) ≡ 2 * (h + r) + 1 = omega (arith, all_two) in z) in
      let a = call_two 0 (omega arith) in
      let b = call_two 1 (omega arith) in
      let c = give_two 0 (omega arith) in
      let d = give_two 1 (omega arith) in
      let p = part_two 0 (omega arith) in
      let q = part_two 1 (omega arith) in
      let groups : map (node_of two) (nodes.group 2 (layer.size h r) 0 0 ++ nodes.group 2 (layer.size h r) 0 1) ≡ group_nodes (group_of h r 0) ++ group_nodes (group_of h r 1) =
      map-append (node_of two) (nodes.group 2 (layer.size h r) 0 0) (nodes.group 2 (layer.size h r) 0 1) ∙ (λ i. p i ++ q i) in
      (λ i. component_node (kind.Seq (w i)) (env i) ∷ component_node (kind.Seq 2) (a i ∷ b i ∷ w i ∷ c i ∷ d i ∷ []) ∷ groups i)
      ∙ sym (append_assoc (outer_nodes (h + r) (group_of h r 0) (group_of h r 1)) (group_nodes (group_of h r 0)) (group_nodes (group_of h r 1)))
      ∙ nodes_are h r

  wires_two : (charted two).wires ≡ (charted (sequencer_chart h r)).wires
  wires_two = omega (arith, all_two, total_two (numbers.width 2 (layer.size h r) 0), by_more r 0 (5 * r + 4) second)

  two_right : h + r + 1 + (h + r) < 2 ^ 28 → Implements (charted (sequencer_chart h r)) (Basic (kind.Seq (h + r)))
  two_right few =
      let n = nodes_two in
      let w = wires_two in
      let same : ◌≡◌ {A = Circuit} (charted two) (charted (sequencer_chart h r)) = λ i. record { nodes = n i; wires = w i } in
      subst (λ (c : Circuit). Implements c (Basic (kind.Seq (h + r)))) same
      (subst (λ m. Implements (charted two) (Basic (kind.Seq m))) all_two
      (numbers.right 2 (layer.size h r) 0 (λ k near. size_two k) refl (omega (arith, all_two, first)) (omega (arith, all_two, few))))

-- ---- one group, and a request that stands alone

module _ (h : ℕ) (first : 2 ≤ h) where
  abbrev size : ℕ → ℕ
  size k = h

  abbrev lone : Chart Node Wire
  lone = numbers.chart 1 size 1

  all_lone : total 1 size + 1 ≡ h + 1
  all_lone = omega (arith, total_one size)

  base_lone : numbers.base 1 size 1 0 ≡ layer.base h 1 0
  base_lone = omega (arith, all_lone, total_none (numbers.width 1 size 1))

  group_lone : numbered 1 size 1 0 ≡ group_of h 1 0
  group_lone = same_group _ _ _ _ _ _ _ _ (total_none size) (omega (arith, all_lone, total_none size)) refl base_lone

  nodes_lone : (charted lone).nodes ≡ (charted (sequencer_chart h 1)).nodes
  nodes_lone =
      let w = all_lone in
      let env : map lone.number (lone.ports Env) ≡ range_with_len 0 (2 * (h + 1) + 1) =
      numbers.env_numbers 1 size 1 ∙ ap (range_with_len 0) (let z : total 1 size + 1 + 1 + (total 1 size + 1) ≡ 2 * (h + 1) + 1 = omega (arith, all_lone) in z) in
      let a : lone.number (Call 0) ≡ call_wire (group_of h 1 0) = ap (λ b. b + 5 * h) base_lone ∙ sym (by_more h (layer.before h 0) (layer.base h 1 0 + 5 * h) first) in
      let b : lone.number (Lone 0) ≡ call_wire (group_of h 1 1) = omega (arith, total_one size) in
      let c : lone.number (Give 0) ≡ give_wire (group_of h 1 0) =
      ap (λ b. b + 5 * h + 1) base_lone ∙ sym (by_more h (h + 1 + 1 + layer.before h 0) (layer.base h 1 0 + 5 * h + 1) first) in
      let d : lone.number (Own 0) ≡ give_wire (group_of h 1 1) = omega (arith, total_one size) in
      let groups : map (node_of lone) (nodes.group 1 size 1 0) ≡ group_nodes (group_of h 1 0) = group_full 1 size 1 0 ∙ ap full_nodes group_lone ∙ group_whole (group_of h 1 0) first in
      let none : group_nodes (group_of h 1 0) ≡ group_nodes (group_of h 1 0) ++ [] = sym (append_none (group_nodes (group_of h 1 0))) in
      (λ i. component_node (kind.Seq (w i)) (env i) ∷ component_node (kind.Seq 2) (a i ∷ b i ∷ w i ∷ c i ∷ d i ∷ []) ∷ groups i)
      ∙ ap (λ xs. outer_nodes (h + 1) (group_of h 1 0) (group_of h 1 1) ++ xs) none
      ∙ sym (append_assoc (outer_nodes (h + 1) (group_of h 1 0) (group_of h 1 1)) (group_nodes (group_of h 1 0)) []) ∙ nodes_are h 1
    where
      append_none : (xs : List Part) → xs ++ [] ≡ xs
      append_none [] = refl
      append_none (x ∷ xs) = ap (λ ys. x ∷ ys) (append_none xs)

  wires_lone : (charted lone).wires ≡ (charted (sequencer_chart h 1)).wires
  wires_lone = omega (arith, all_lone, total_one (numbers.width 1 size 1))

  lone_right : h + 1 + 1 + (h + 1) < 2 ^ 28 → Implements (charted (sequencer_chart h 1)) (Basic (kind.Seq (h + 1)))
  lone_right few =
      let n = nodes_lone in
      let w = wires_lone in
      let same : ◌≡◌ {A = Circuit} (charted lone) (charted (sequencer_chart h 1)) = λ i. record { nodes = n i; wires = w i } in
      subst (λ (c : Circuit). Implements c (Basic (kind.Seq (h + 1)))) same
      (subst (λ m. Implements (charted lone) (Basic (kind.Seq m))) all_lone
      (numbers.right 1 size 1 (λ k near. first) refl (omega (arith, all_lone, first)) (omega (arith, all_lone, few))))

-- ---- any SEQ

halves_right : (h r : ℕ) → 2 ≤ h → 0 < r → h + r + 1 + (h + r) < 2 ^ 28 → Implements (charted (sequencer_chart h r)) (Basic (kind.Seq (h + r)))
halves_right h zero first some few = absurd (omega arith)
halves_right h (suc zero) first some few = lone_right h first few
halves_right h (suc (suc r)) first some few = two_right h (suc (suc r)) first (omega arith) few

pub sequencer_right : (k : ℕ) → 2 < k → IsWellFormed (kind.Seq k) → Implements (sequencer_circuit k) (Basic (kind.Seq k))
sequencer_right k wide formed =
    subst (λ m. Implements (sequencer_circuit k) (Basic (kind.Seq m))) (halves_are k)
    (halves_right (half k) (k - half k) (omega (arith, half_range k, wide)) (omega (arith, half_range k, wide)) (let z = formed.few in omega (arith, halves_are k)))
