-- The components of a layer by their names are those that the code makes by the numbers of their wires.
use Rattle.std.proofs.Common.{◌≡◌, ℕ, zero, suc, ◌+◌, ◌*◌, ◌-◌, ◌/◌, ◌<◌, ◌≤◌, ◌^◌, List, [], ◌∷◌, ◌++◌, map, refl, sym, ap, ◌∙◌, arith, append_assoc, length, length-append}
use Rattle.std.specs.List.{range_with_len}
use Rattle.std.proofs.lemmas.List.{map-append}
use Rattle.std.proofs.lemmas.List.FromFn.{length-map-range_with_len}
use Rattle.basic_kinds.specs.declared.kind.Kind.TheVariants as kind
use Rattle.basic_kinds.specs.ShapeParts.{half}
use Rattle.net_core.specs.Wiring.{Node, Circuit}
use Rattle.net_laws.specs.Charts.{Chart, node_of, charted}
use Rattle.net_laws.proofs.Rows.{number_row, range_both}
use Rattle.seq_tree.specs.SequencerLayer.{Wire, Request, Grant, Token, Chosen, Ask, Row, Won, Back, Call, Give, Return, Free, Name, Env, Inner, Calls, Wait, Returns, Gate, Spread, Share, by_size, row, size, before, column_wait, ports_at, base, number_of, group, sequencer_chart, sequencer_circuit}
use Rattle.seq_tree.specs.declared.groups.Group.{Group}
use Rattle.seq_tree.specs.Mirror.GroupNodes.{IsLow, group_of, component_node, into_one, in_and_out, fork_at, fork_nodes, single_nodes, group_nodes, call_wire, give_wire, end_wire, outer_nodes}

-- ---- halves

pub half_range : (n : ℕ) → (n ≤ half n + half n) × (half n + half n ≤ n + 1)
half_range zero = (omega arith, omega arith)
half_range (suc zero) = (omega arith, omega arith)
half_range (suc (suc n)) = let z = half_range n in (omega arith, omega arith)

pub half_is : (n : ℕ) → n - n / 2 ≡ half n
half_is n = omega (arith, half_range n)

pub rest_is : (n : ℕ) → n / 2 ≡ n - half n
rest_is n = omega (arith, half_range n)

pub halves_are : (n : ℕ) → half n + (n - half n) ≡ n
halves_are n = omega (arith, half_range n)

-- ---- lists

pub map_map : {A B C : Type 0} (f : B → C) (g : A → B) (xs : List A) → map f (map g xs) ≡ map (λ x. f (g x)) xs
map_map f g [] = refl
map_map f g (x ∷ xs) = ap (λ zs. f (g x) ∷ zs) (map_map f g xs)

map_by_size : {A B : Type 0} (f : A → B) (n : ℕ) (xs : List A) → map f (by_size n [] xs) ≡ by_size n [] (map f xs)
map_by_size f zero xs = refl
map_by_size f (suc zero) xs = refl
map_by_size f (suc (suc n)) xs = refl

of_by_size : {A B : Type 0} (f : A → B) (n : ℕ) (a b : A) → f (by_size n a b) ≡ by_size n (f a) (f b)
of_by_size f zero a b = refl
of_by_size f (suc zero) a b = refl
of_by_size f (suc (suc n)) a b = refl

-- so many numbers, the next one, and as many as m after it
pub range_on : (k m : ℕ) → range_with_len 0 k ++ k ∷ range_with_len (k + 1) m ≡ range_with_len 0 (k + 1 + m)
range_on k m =
    let e : k ≡ 0 + k = omega arith in
    let f : k + suc m ≡ k + 1 + m = omega arith in
    ap (λ b. range_with_len 0 k ++ b ∷ range_with_len (b + 1) m) e ∙ range_both 0 k (suc m) ∙ ap (range_with_len 0) f

module _ (h r : ℕ) where
  abbrev chart : Chart Name Wire
  chart = sequencer_chart h r

  abbrev number : Wire → ℕ
  number = number_of h r

  abbrev node : Name → Node
  node = node_of chart

  ends_into_one : (n a : ℕ) (v : ℕ → Wire) (one : Wire) → ((i : ℕ) → i < n → number (v i) ≡ a + i) → map number (row v n ++ one ∷ []) ≡ into_one n a (number one)
  ends_into_one n a v one e = map-append number (row v n) (one ∷ []) ∙ ap (λ ns. ns ++ number one ∷ []) (number_row number v a n e)

  ends_in_and_out : (n a b : ℕ) (v w : ℕ → Wire) (one : Wire) → ((i : ℕ) → i < n → number (v i) ≡ a + i) → ((i : ℕ) → i < n → number (w i) ≡ b + i)
      → map number (row v n ++ one ∷ row w n) ≡ in_and_out n a (number one) b
  ends_in_and_out n a b v w one e f =
      map-append number (row v n) (one ∷ row w n) ∙ ap (λ ns. ns ++ number one ∷ map number (row w n)) (number_row number v a n e)
      ∙ ap (λ ns. range_with_len a n ++ number one ∷ ns) (number_row number w b n f)

  -- ---- a group

  forks_are : (j : ℕ) → map node (map (Spread j) (range_with_len 0 (size h r j)) ++ map (Share j) (range_with_len 0 (size h r j)))
      ≡ fork_nodes (size h r j) (base h r j) (base h r j + size h r j) (base h r j + 2 * size h r j)
      ++ fork_nodes (size h r j) (base h r j + 3 * size h r j) (h + r + 1 + before h j) (base h r j + 4 * size h r j)
  forks_are j =
      let is : List ℕ = range_with_len 0 (size h r j) in
      let spread : map node (map (Spread j) is) ≡ map (λ i. node (Spread j i)) is = map_map node (Spread j) is in
      let share : map node (map (Share j) is) ≡ map (λ i. node (Share j i)) is = map_map node (Share j) is in
      map-append node (map (Spread j) is) (map (Share j) is) ∙ (λ i. spread i ++ share i)

  pub group_is : (j : ℕ) → map node (group j (size h r j)) ≡ group_nodes (group_of h r j)
  group_is j =
      let n : ℕ = size h r j in
      let b : ℕ = base h r j in
      let inner = ends_in_and_out n (before h j) b (Request j) (Chosen j) (Free j) (λ i low. refl) (λ i low. refl) in
      let calls = ends_into_one n (b + n) (Ask j) (Call j) (λ i low. refl) in
      let wait = ends_in_and_out n (b + 2 * n) (b + 3 * n) (Row j) (Won j) (Give j) (λ i low. refl) (λ i low. refl) in
      let returns = ends_into_one n (b + 4 * n) (Back j) (Return j) (λ i low. refl) in
      let forks = forks_are j in
      map_by_size node n (Inner j ∷ Calls j ∷ Wait j ∷ Returns j ∷ Gate j ∷ (map (Spread j) (range_with_len 0 n) ++ map (Share j) (range_with_len 0 n)))
      ∙ ap (by_size n []) (λ i. component_node (kind.Seq n) (inner i) ∷ component_node (kind.Merge n) (calls i) ∷ component_node (column_wait n) (wait i)
      ∷ component_node (kind.Merge n) (returns i) ∷ node (Gate j) ∷ forks i)

  -- ---- the environment and the outer SEQ

  two_rows : (a : ℕ) (v w : ℕ → Wire) → ((i : ℕ) → i < h → number (v i) ≡ a + i) → ((i : ℕ) → i < r → number (w i) ≡ a + h + i)
      → map number (row v h ++ row w r) ≡ range_with_len a (h + r)
  two_rows a v w e f =
      map-append number (row v h) (row w r) ∙ ap (λ ns. ns ++ map number (row w r)) (number_row number v a h e)
      ∙ ap (λ ns. range_with_len a h ++ ns) (number_row number w (a + h) r f) ∙ range_both a h r

  pub outside_is : map number (ports_at h r Env) ≡ range_with_len 0 (h + r + 1 + (h + r))
  outside_is =
      let requests : map number (row (Request 0) h ++ row (Request 1) r) ≡ range_with_len 0 (h + r) = two_rows 0 (Request 0) (Request 1) (λ i low. refl) (λ i low. omega arith) in
      let grants : map number (row (Grant 0) h ++ row (Grant 1) r) ≡ range_with_len (h + r + 1) (h + r) =
      two_rows (h + r + 1) (Grant 0) (Grant 1) (λ i low. omega arith) (λ i low. refl) in
      map-append number (row (Request 0) h ++ row (Request 1) r) (Token ∷ (row (Grant 0) h ++ row (Grant 1) r))
      ∙ (λ i. requests i ++ (h + r) ∷ grants i) ∙ range_on (h + r) (h + r)

  pub call_is : (j : ℕ) → number (by_size (size h r j) (Request j 0) (Call j)) ≡ call_wire (group_of h r j)
  call_is j =
      let first : before h j + 0 ≡ before h j = omega arith in
      of_by_size number (size h r j) (Request j 0) (Call j) ∙ ap (λ m. by_size (size h r j) m (base h r j + 5 * size h r j)) first

  pub give_is : (j : ℕ) → number (by_size (size h r j) (Grant j 0) (Give j)) ≡ give_wire (group_of h r j)
  give_is j =
      let first : h + r + 1 + before h j + 0 ≡ h + r + 1 + before h j = omega arith in
      of_by_size number (size h r j) (Grant j 0) (Give j) ∙ ap (λ m. by_size (size h r j) m (base h r j + 5 * size h r j + 1)) first

  -- ---- all of them

  pub nodes_are : (outer_nodes (h + r) (group_of h r 0) (group_of h r 1) ++ group_nodes (group_of h r 0)) ++ group_nodes (group_of h r 1) ≡ (charted chart).nodes
  nodes_are =
      let outside : range_with_len 0 (2 * (h + r) + 1) ≡ map number (ports_at h r Env) = ap (range_with_len 0) (let e : 2 * (h + r) + 1 ≡ h + r + 1 + (h + r) = omega arith in e) ∙ sym outside_is in
      let first = sym (call_is 0) in
      let second = sym (call_is 1) in
      let third = sym (give_is 0) in
      let fourth = sym (give_is 1) in
      let groups : group_nodes (group_of h r 0) ++ group_nodes (group_of h r 1) ≡ map node (group 0 h ++ group 1 r) =
      sym (map-append node (group 0 h) (group 1 r) ∙ (λ i. group_is 0 i ++ group_is 1 i)) in
      append_assoc (outer_nodes (h + r) (group_of h r 0) (group_of h r 1)) (group_nodes (group_of h r 0)) (group_nodes (group_of h r 1))
      ∙ (λ i. component_node (kind.Seq (h + r)) (outside i) ∷ component_node (kind.Seq 2) (first i ∷ second i ∷ (h + r) ∷ third i ∷ fourth i ∷ []) ∷ groups i)

  pub groups_low : (j : ℕ) → h + r + 1 + (h + r) < 2 ^ 28 → IsLow (group_of h r j)
  groups_low zero few = record { request = omega arith; grant = omega arith; inside = omega arith }
  groups_low (suc j) few = record { request = omega arith; grant = omega arith; inside = omega arith }

-- ---- what the code makes

end_is : (n b m : ℕ) → by_size n b (b + m) ≡ b + by_size n 0 m
end_is zero b m = omega arith
end_is (suc zero) b m = omega arith
end_is (suc (suc n)) b m = refl

pub same_circuit : (k : ℕ) (items : List Node) (wires : ℕ)
    → items ≡ (outer_nodes k (group_of (half k) (k - half k) 0) (group_of (half k) (k - half k) 1) ++ group_nodes (group_of (half k) (k - half k) 0)) ++ group_nodes (group_of (half k) (k - half k) 1)
    → wires ≡ end_wire (group_of (half k) (k - half k) 1)
    → ◌≡◌ {A = Circuit} (record { nodes = items; wires = wires }) (sequencer_circuit k)
same_circuit k items wires nodes many =
    let h : ℕ = half k in
    let r : ℕ = k - half k in
    let all : items ≡ (sequencer_circuit k).nodes =
    nodes ∙ ap (λ m. (outer_nodes m (group_of h r 0) (group_of h r 1) ++ group_nodes (group_of h r 0)) ++ group_nodes (group_of h r 1)) (sym (halves_are k)) ∙ nodes_are h r in
    let total : wires ≡ (sequencer_circuit k).wires = many ∙ end_is r (base h r 1) (5 * r + 4) in
    λ i. record { nodes = all i; wires = total i }

-- ---- how many components there are

forks_long : (n taken first second : ℕ) → length (fork_nodes n taken first second) ≡ n
forks_long n taken first second = length-map-range_with_len (fork_at taken first second) 0 n

group_long : (g : Group) → length (group_nodes g) ≤ 2 * g.size + 5
group_long g = by g.size (omega (
  arith,
  length-append (fork_nodes g.size g.base (g.base + g.size) (g.base + 2 * g.size)) (fork_nodes g.size (g.base + 3 * g.size) g.grant (g.base + 4 * g.size)),
  forks_long g.size g.base (g.base + g.size) (g.base + 2 * g.size),
  forks_long g.size (g.base + 3 * g.size) g.grant (g.base + 4 * g.size),
))
  where
    all : List Node
    all = single_nodes g ++ (fork_nodes g.size g.base (g.base + g.size) (g.base + 2 * g.size) ++ fork_nodes g.size (g.base + 3 * g.size) g.grant (g.base + 4 * g.size))

    by : (n : ℕ) → length all ≤ 2 * g.size + 5 → length (by_size n [] all) ≤ 2 * g.size + 5
    by zero few = omega arith
    by (suc zero) few = omega arith
    by (suc (suc n)) few = few

pub nodes_few : (k : ℕ) → length (sequencer_circuit k).nodes ≤ 2 * k + 12
nodes_few k =
    let h : ℕ = half k in
    let r : ℕ = k - half k in
    let outer : List Node = outer_nodes (h + r) (group_of h r 0) (group_of h r 1) in
    omega (
      arith,
      ap (λ (xs : List Node). length xs) (nodes_are h r),
      length-append (outer ++ group_nodes (group_of h r 0)) (group_nodes (group_of h r 1)),
      length-append outer (group_nodes (group_of h r 0)),
      group_long (group_of h r 0),
      group_long (group_of h r 1),
      halves_are k,
    )
