-- The components of the chart of rounds, by kind.
use Rattle.std.proofs.Common.{◌≡◌, ℕ, zero, suc, ◌+◌, ◌-◌, Bool, true, false, filter, List, [], ◌∷◌, ◌++◌, map, length, refl, ap, ◌∙◌, arith, if◌then◌else◌}
use Rattle.std.specs.Prelude.{not, ◌&&◌, drop, nat_eq}
use Rattle.std.specs.List.{range_with_len}
use Rattle.basic_kinds.specs.declared.kind.Kind.TheVariants as kind
use Rattle.net_core.specs.Wiring.{Node}
use Rattle.net_laws.specs.Charts.{charted, node_of}
use Rattle.net_laws.specs.ForkChain.{each}
use Rattle.plain_split.specs.OneWaitSums.{Sort, Wires, Iwires, Sources, Sinks, Forks, Joins, Merges, Toggles, Waits, Sequencers, is_of, is_component, how_many, how_many_below}
use Rattle.plain_split.specs.RoundsNet.{pow, leaf, Name, Join, Tog, Gate, Spread, Shows}
use Rattle.plain_split.specs.RoundsChart.{Parts, is_single, givers, is_kept, count, is_out, spec_of, toggles, parts, rounds_chart}
use Rattle.plain_split.specs.RoundsCommands.{rounds_sum}
use Rattle.plain_split.proofs.OneWaitKinds.{many_append, many_map, many_filter, many_same, many_none, and_true, and_false}

many_all : {A : Type 0} (p : A → Bool) (xs : List A) → ((x : A) → p x ≡ true) → how_many p xs ≡ length xs
many_all p [] h = refl
many_all p (x ∷ xs) h = omega (arith, ap (λ b. bit b) (h x), many_all p xs h)
  where
    bit : Bool → ℕ
    bit b = if b then 1 else 0

range_long : (b k : ℕ) → length (range_with_len b k) ≡ k
range_long b zero = refl
range_long b (suc k) = ap suc (range_long (b + 1) k)

module _ (r : Parts) where
  abbrev test : Sort → Name → Bool
  test k n = is_component k (spec_of r n)

  abbrev joins : List Name
  joins = filter (is_kept r) (Join ∷ [])

  abbrev gates : List Name
  gates = filter (is_kept r) (Gate 0 ∷ [])

  abbrev spreads : List Name
  spreads = filter (is_kept r) (map Spread (range_with_len 0 (pow r.levels)))

  abbrev outputs : List ℕ
  outputs = filter (λ a. is_out r a && not (is_single (givers r a))) (range_with_len 0 (count r))

  groups : (k : Sort) → how_many (λ (x : Node). is_component k x.spec) (drop 1 (charted (rounds_chart r)).nodes)
      ≡ how_many (test k) joins + (how_many (test k) (each (toggles r) r.levels) + (how_many (test k) gates + (how_many (test k) spreads + how_many (test k) (map Shows outputs))))
  groups k =
      many_map (λ (x : Node). is_component k x.spec) (node_of (rounds_chart r)) (parts r)
      ∙ omega (
        arith,
        many_append (test k) joins (each (toggles r) r.levels ++ (gates ++ (spreads ++ map Shows outputs))),
        many_append (test k) (each (toggles r) r.levels) (gates ++ (spreads ++ map Shows outputs)),
        many_append (test k) gates (spreads ++ map Shows outputs),
        many_append (test k) spreads (map Shows outputs),
      )

  join_many : (k : Sort) → how_many (test k) joins ≡ (if test k Join then (if is_single r.burst then 0 else 1) else 0)
  join_many k = many_filter (test k) (is_kept r) (Join ∷ []) ∙ at (is_single r.burst) (test k Join)
    where
      at : (b c : Bool) → (if not b && c then 1 else 0) + 0 ≡ (if c then (if b then 0 else 1) else 0)
      at true true = refl
      at true false = refl
      at false true = refl
      at false false = refl

  gate_many : (k : Sort) → how_many (test k) gates ≡ (if test k (Gate 0) then (if r.opens then 1 else 0) else 0)
  gate_many k = many_filter (test k) (is_kept r) (Gate 0 ∷ []) ∙ at r.opens (test k (Gate 0))
    where
      at : (b c : Bool) → (if (b && nat_eq 0 0) && c then 1 else 0) + 0 ≡ (if c then (if b then 1 else 0) else 0)
      at true true = refl
      at true false = refl
      at false true = refl
      at false false = refl

  trees_all : (p : Name → Bool) → ((n : Name) → p n ≡ true) → (e : ℕ) → how_many p (each (toggles r) e) + 1 ≡ pow e
  trees_all p h zero = refl
  trees_all p h (suc e) = omega (
    arith,
    many_append p (each (toggles r) e) (toggles r e),
    trees_all p h e,
    many_map p (λ i. Tog (leaf e i)) (range_with_len 0 (pow e)),
    many_all (λ i. p (Tog (leaf e i))) (range_with_len 0 (pow e)) (λ i. h (Tog (leaf e i))),
    range_long 0 (pow e),
  )

  trees_same : (p q : Name → Bool) → ((i d : ℕ) → p (Tog (leaf d i)) ≡ q (Tog (leaf d i))) → (e : ℕ) → how_many p (each (toggles r) e) ≡ how_many q (each (toggles r) e)
  trees_same p q h zero = refl
  trees_same p q h (suc e) = omega (
    arith,
    many_append p (each (toggles r) e) (toggles r e),
    many_append q (each (toggles r) e) (toggles r e),
    trees_same p q h e,
    many_map p (λ i. Tog (leaf e i)) (range_with_len 0 (pow e)),
    many_map q (λ i. Tog (leaf e i)) (range_with_len 0 (pow e)),
    many_same (λ i. p (Tog (leaf e i))) (λ i. q (Tog (leaf e i))) (range_with_len 0 (pow e)) (λ i. h i e),
  )

  tree_many : (k : Sort) → how_many (test k) (each (toggles r) r.levels) ≡ (if is_of k kind.Toggle then pow r.levels - 1 else 0)
  tree_many k = trees_same (test k) (λ n. is_of k kind.Toggle) (λ i d. refl) r.levels ∙ at (is_of k kind.Toggle)
    where
      at : (b : Bool) → how_many (λ (n : Name). b) (each (toggles r) r.levels) ≡ (if b then pow r.levels - 1 else 0)
      at true = omega (arith, trees_all (λ n. true) (λ n. refl) r.levels)
      at false = many_none (λ (n : Name). false) (each (toggles r) r.levels) (λ n. refl)

  spread_many : (k : Sort) (b : Bool) → ((y : ℕ) → test k (Spread y) ≡ b) → how_many (test k) spreads ≡ (if b then how_many_below (pow r.levels) (λ y. not (is_single (r.outs y))) else 0)
  spread_many k b h =
      many_filter (test k) (is_kept r) (map Spread (range_with_len 0 (pow r.levels)))
      ∙ many_map (λ n. is_kept r n && test k n) Spread (range_with_len 0 (pow r.levels)) ∙ at b h
    where
      at : (b : Bool) → ((y : ℕ) → test k (Spread y) ≡ b)
          → how_many (λ y. not (is_single (r.outs y)) && test k (Spread y)) (range_with_len 0 (pow r.levels)) ≡ (if b then how_many_below (pow r.levels) (λ y. not (is_single (r.outs y))) else 0)
      at true h = many_same (λ y. not (is_single (r.outs y)) && test k (Spread y)) (λ y. not (is_single (r.outs y))) (range_with_len 0 (pow r.levels))
          (λ y. ap (λ c. not (is_single (r.outs y)) && c) (h y) ∙ and_true (not (is_single (r.outs y))))
      at false h = many_none (λ y. not (is_single (r.outs y)) && test k (Spread y)) (range_with_len 0 (pow r.levels))
          (λ y. ap (λ c. not (is_single (r.outs y)) && c) (h y) ∙ and_false (not (is_single (r.outs y))))

  merge_many : (k : Sort) (b : Bool) → ((a : ℕ) → test k (Shows a) ≡ b) → how_many (test k) (map Shows outputs)
      ≡ (if b then how_many_below (count r) (λ a. is_out r a && not (is_single (givers r a))) else 0)
  merge_many k b h =
      many_map (test k) Shows outputs
      ∙ many_filter (λ a. test k (Shows a)) (λ a. is_out r a && not (is_single (givers r a))) (range_with_len 0 (count r)) ∙ at b h
    where
      shown : ℕ → Bool
      shown a = is_out r a && not (is_single (givers r a))

      at : (b : Bool) → ((a : ℕ) → test k (Shows a) ≡ b)
          → how_many (λ a. (is_out r a && not (is_single (givers r a))) && test k (Shows a)) (range_with_len 0 (count r))
          ≡ (if b then how_many_below (count r) (λ a. is_out r a && not (is_single (givers r a))) else 0)
      at true h = many_same (λ a. (is_out r a && not (is_single (givers r a))) && test k (Shows a)) (λ a. is_out r a && not (is_single (givers r a))) (range_with_len 0 (count r))
          (λ a. ap (λ c. (is_out r a && not (is_single (givers r a))) && c) (h a) ∙ and_true (is_out r a && not (is_single (givers r a))))
      at false h = many_none (λ a. (is_out r a && not (is_single (givers r a))) && test k (Shows a)) (range_with_len 0 (count r))
          (λ a. ap (λ c. (is_out r a && not (is_single (givers r a))) && c) (h a) ∙ and_false (is_out r a && not (is_single (givers r a))))

  pub rounds_kinds : (k : Sort) → how_many (λ (x : Node). is_component k x.spec) (drop 1 (charted (rounds_chart r)).nodes) ≡ rounds_sum r k
  rounds_kinds Wires = groups Wires ∙ omega (arith, join_many Wires, tree_many Wires, gate_many Wires, spread_many Wires false (λ y. refl), merge_many Wires false (λ a. refl))
  rounds_kinds Iwires = groups Iwires ∙ omega (arith, join_many Iwires, tree_many Iwires, gate_many Iwires, spread_many Iwires false (λ y. refl), merge_many Iwires false (λ a. refl))
  rounds_kinds Sources = groups Sources ∙ omega (arith, join_many Sources, tree_many Sources, gate_many Sources, spread_many Sources false (λ y. refl), merge_many Sources false (λ a. refl))
  rounds_kinds Sinks = groups Sinks ∙ omega (arith, join_many Sinks, tree_many Sinks, gate_many Sinks, spread_many Sinks false (λ y. refl), merge_many Sinks false (λ a. refl))
  rounds_kinds Forks = groups Forks ∙ omega (arith, join_many Forks, tree_many Forks, gate_many Forks, spread_many Forks true (λ y. refl), merge_many Forks false (λ a. refl))
  rounds_kinds Joins = groups Joins ∙ omega (arith, join_many Joins, tree_many Joins, gate_many Joins, spread_many Joins false (λ y. refl), merge_many Joins false (λ a. refl))
  rounds_kinds Merges = groups Merges ∙ omega (arith, join_many Merges, tree_many Merges, gate_many Merges, spread_many Merges false (λ y. refl), merge_many Merges true (λ a. refl))
  rounds_kinds Toggles = groups Toggles ∙ omega (arith, join_many Toggles, tree_many Toggles, gate_many Toggles, spread_many Toggles false (λ y. refl), merge_many Toggles false (λ a. refl))
  rounds_kinds Waits = groups Waits ∙ omega (arith, join_many Waits, tree_many Waits, gate_many Waits, spread_many Waits false (λ y. refl), merge_many Waits false (λ a. refl))
  rounds_kinds Sequencers = groups Sequencers ∙ omega (arith, join_many Sequencers, tree_many Sequencers, gate_many Sequencers, spread_many Sequencers false (λ y. refl), merge_many Sequencers false (λ a. refl))
