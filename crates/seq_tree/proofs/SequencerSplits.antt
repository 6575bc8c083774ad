-- The layer of a SEQ is a split of it: correct, of lighter components, and with the sums of the kind.
use Rattle.std.proofs.Common.{◌≡◌, ℕ, zero, suc, ◌+◌, ◌*◌, ◌-◌, ◌<◌, ◌≤◌, Bool, true, false, List, [], ◌∷◌, ◌++◌, map, Option, None, Some, Result, Ok, Err, refl, sym, subst, ◌∙◌, arith, nat_lt, if◌then◌else◌}
use Rattle.std.specs.Prelude.{IfOk}
use Rattle.std.specs.List.{AllByRecursion, range_with_len}
use Rattle.std.specs.Option.{IfSome}
use Rattle.std.proofs.lemmas.Bool.{false≢true}
use Rattle.std.proofs.lemmas.Bool.Decides.{nat_tests}
use Rattle.basic_kinds.specs.declared.kind.Kind.{Kind}
use Rattle.basic_kinds.specs.declared.kind.Kind.TheVariants.{Wire, Iwire, Source, Sink, Fork, C, Merge, Toggle, Dw, Seq}
use Rattle.basic_kinds.specs.Kinds.{IsWellFormed, inputs_of, outputs_of}
use Rattle.basic_kinds.specs.ShapeParts.{half}
use Rattle.net_core.specs.declared.spec.NodeSpec.TheVariants.{Kind as Basic}
use Rattle.net_core.specs.Wiring.{Circuit}
use Rattle.net_laws.specs.Charts.{node_of}
use Rattle.net_laws.specs.Implementing.{Implements}
use Rattle.net_laws.proofs.Rows.{row_all, all_both}
use Rattle.two_way.specs.TwoWay.{is_two_way}
use Rattle.two_way.specs.Layers.{IsLighter, IsLayerOf, IsSplitOf}
use Rattle.seq_tree.specs.SequencerLayer.{Name, Inner, Calls, Wait, Returns, Gate, Spread, Share, IsSequencer, by_size, size, column_wait, spec_at, base, group, components, sequencer_chart, sequencer_circuit, sequencer_layer}
use Rattle.seq_tree.proofs.GroupNumbers.{half_range}
use Rattle.seq_tree.proofs.LayerSums.{sums_same}
use Rattle.seq_tree.proofs.SequencerLaw.{sequencer_right}

-- ---- lighter components

all_map : {A B : Type 0} (P : B → Type 0) (f : A → B) (xs : List A) → AllByRecursion (λ x. P (f x)) xs → AllByRecursion P (map f xs)
all_map P f [] all = tt
all_map P f (x ∷ xs) all = (all.0, all_map P f xs all.1)

all_by_size : {A : Type 0} (P : A → Type 0) (n : ℕ) (xs : List A) → (2 ≤ n → AllByRecursion P xs) → AllByRecursion P (by_size n [] xs)
all_by_size P zero xs all = tt
all_by_size P (suc zero) xs all = tt
all_by_size P (suc (suc n)) xs all = all (omega arith)

lighter_by : (b : Bool) (w k : ℕ) → 2 < k → w < k + k → (if b then 0 else w) < (if nat_lt k 3 then 0 else k + k)
lighter_by true w k wide less = grind (arith, nat_tests)
lighter_by false w k wide less = grind (arith, nat_tests)

lighter_wait : (n k : ℕ) → 2 < k → n < k → IsLighter (Seq k) (Basic (column_wait n))
lighter_wait zero k wide less = lighter_by true 0 k wide (omega arith)
lighter_wait (suc n) k wide less = lighter_by (is_two_way (column_wait (suc n))) (suc n + 1) k wide (omega arith)

module _ (h r k : ℕ) (whole : h + r ≡ k) (wide : 2 < k) (first : 0 < h) (rest : 0 < r) where
  abbrev Lighter : Name → Type 0
  Lighter n = IsLighter (Seq k) (spec_at h r n)

  size_less : (j : ℕ) → size h r j < k
  size_less zero = omega arith
  size_less (suc j) = omega arith

  lighter_seq : (n : ℕ) → n < k → IsLighter (Seq k) (Basic (Seq n))
  lighter_seq n less = lighter_by (nat_lt n 3) (n + n) k wide (omega arith)

  lighter_merge : (n : ℕ) → n < k → IsLighter (Seq k) (Basic (Merge n))
  lighter_merge n less = lighter_by (nat_lt n 3) n k wide (omega arith)

  lighter_none : 0 < (if nat_lt k 3 then 0 else k + k)
  lighter_none = lighter_by true 0 k wide (omega arith)

  lighter_group : (j : ℕ) → AllByRecursion Lighter (group j (size h r j))
  lighter_group j =
      let n : ℕ = size h r j in
      let less : n < k = size_less j in
      all_by_size Lighter n (Inner j ∷ Calls j ∷ Wait j ∷ Returns j ∷ Gate j ∷ (map (Spread j) (range_with_len 0 n) ++ map (Share j) (range_with_len 0 n)))
      (λ more. (
        lighter_seq n less,
        (
          lighter_merge n less,
          (
            lighter_wait n k wide less,
            (
              lighter_merge n less,
              (
                lighter_none,
                all_both Lighter (map (Spread j) (range_with_len 0 n)) (map (Share j) (range_with_len 0 n)) (row_all Lighter (Spread j) n (λ i low. lighter_none)) (row_all Lighter (Share j) n (λ i low. lighter_none)),
              ),
            ),
          ),
        ),
      ))

  lighter_parts : AllByRecursion (λ x. IsLighter (Seq k) x.spec) (map (node_of (sequencer_chart h r)) (components h r))
  lighter_parts =
      all_map (λ x. IsLighter (Seq k) x.spec) (node_of (sequencer_chart h r)) (components h r)
      (lighter_none, all_both Lighter (group 0 h) (group 1 r) (lighter_group 0) (lighter_group 1))

pub is_layer : (k : ℕ) → 2 < k → Implements (sequencer_circuit k) (Basic (Seq k)) → IsLayerOf (Seq k) (sequencer_circuit k)
is_layer k wide right = record {
  right = right;
  lighter = lighter_parts (half k) (k - half k) k (omega (arith, half_range k)) wide (omega (arith, half_range k)) (omega (arith, half_range k));
  sums = sums_same k wide;
}

-- ---- all kinds

split_by : (k : ℕ) (b : Bool) → nat_lt k 3 ≡ b → (2 < k → IsLayerOf (Seq k) (sequencer_circuit k)) → IsSplitOf (Seq k) (if b then None else Some (sequencer_circuit k))
split_by k true e layer = record { none = ((λ z. e), (λ z. refl)); layer = tt }
split_by k false e layer = record { none = ((λ z. absurd (cc)), (λ z. absurd (false≢true (sym e ∙ z)))); layer = layer (grind (arith, nat_tests)) }

pub sequencer_splits : (k : Kind) → IsSequencer k → IsWellFormed k → IsSplitOf k (sequencer_layer k)
sequencer_splits Wire is formed = absurd is
sequencer_splits Iwire is formed = absurd is
sequencer_splits Source is formed = absurd is
sequencer_splits Sink is formed = absurd is
sequencer_splits (Fork n) is formed = absurd is
sequencer_splits (C n) is formed = absurd is
sequencer_splits (Merge n) is formed = absurd is
sequencer_splits Toggle is formed = absurd is
sequencer_splits (Dw s) is formed = absurd is
sequencer_splits (Seq k) is formed = split_by k (nat_lt k 3) refl (λ wide. is_layer k wide (sequencer_right k wide formed))

-- ---- the number of wires

wires_few : (h r : ℕ) → r ≤ h → 2 < h + r → base h r 1 + by_size r 0 (5 * r + 4) ≤ 4 * (h + r + 1 + (h + r)) + 1
wires_few h zero less wide = omega arith
wires_few h (suc zero) less wide = omega arith
wires_few h (suc (suc r)) less wide = omega arith

few_by : (m : ℕ) (net : Circuit) (b : Bool) → (b ≡ false → net.wires ≤ m) → IfSome (if b then None else Some net) (λ c. c.wires ≤ m)
few_by m net true few = tt
few_by m net false few = few refl

circuit_few : (k : ℕ) → nat_lt k 3 ≡ false → (sequencer_circuit k).wires ≤ 4 * (k + 1 + k) + 1
circuit_few k e =
    let wide : 2 < k = grind (arith, nat_tests) in
    let few = wires_few (half k) (k - half k) (omega (arith, half_range k)) (omega (arith, half_range k)) in
    omega (arith, half_range k, few)

sequencer_wires : (k : Kind) → IsSequencer k → IfSome (sequencer_layer k) (λ net. net.wires ≤ 4 * (inputs_of k + outputs_of k) + 1)
sequencer_wires Wire is = absurd is
sequencer_wires Iwire is = absurd is
sequencer_wires Source is = absurd is
sequencer_wires Sink is = absurd is
sequencer_wires (Fork n) is = absurd is
sequencer_wires (C n) is = absurd is
sequencer_wires (Merge n) is = absurd is
sequencer_wires Toggle is = absurd is
sequencer_wires (Dw s) is = absurd is
sequencer_wires (Seq k) is = few_by (4 * (k + 1 + k) + 1) (sequencer_circuit k) (nat_lt k 3) (circuit_few k)

-- what an answer with the layer has
pub split_result : {E : Type 0} (k : Kind) → IsSequencer k → IsWellFormed k → (r : Result (Option Circuit) E) → IfOk r (λ net. net ≡ sequencer_layer k) → IfOk r (IsSplitOf k)
split_result k is formed (Ok net) e = subst (IsSplitOf k) (sym e) (sequencer_splits k is formed)
split_result k is formed (Err x) e = e

pub wires_result : {E : Type 0} (k : Kind) → IsSequencer k → (r : Result (Option Circuit) E) → IfOk r (λ net. net ≡ sequencer_layer k)
    → IfOk r (λ net. IfSome net (λ c. c.wires ≤ 4 * (inputs_of k + outputs_of k) + 1))
wires_result k is (Ok net) e = subst (λ (o : Option Circuit). IfSome o (λ c. c.wires ≤ 4 * (inputs_of k + outputs_of k) + 1)) (sym e) (sequencer_wires k is)
wires_result k is (Err x) e = e
