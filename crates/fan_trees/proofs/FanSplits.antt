-- The layers are the splits of FORKs, Cs and MERGEs: correct, of lighter components, and with the sums of the kind.
use Rattle.std.proofs.Common.{◌≡◌, ℕ, zero, suc, ◌+◌, ◌-◌, ◌/◌, ◌<◌, ◌≤◌, ◌^◌, Bool, true, false, List, [], ◌∷◌, ◌++◌, Option, None, Some, Result, Ok, Err, refl, sym, ap, subst, ◌∙◌, arith, nat_lt, if◌then◌else◌}
use Rattle.std.specs.Prelude.{IfOk}
use Rattle.std.specs.List.{AllByRecursion, range_with_len, sum_by}
use Rattle.std.specs.Option.{IfSome}
use Rattle.std.proofs.lemmas.Bool.{false≢true}
use Rattle.std.proofs.lemmas.Bool.Decides.{nat_tests}
use Rattle.std.proofs.lemmas.List.Sums.{sum_by-cons}
use Rattle.basic_kinds.specs.declared.kind.Kind.{Kind}
use Rattle.basic_kinds.specs.declared.kind.Kind.TheVariants.{Wire, Iwire, Source, Sink, Fork, C, Merge, Toggle, Dw, Seq}
use Rattle.basic_kinds.specs.Kinds.{IsWellFormed, inputs_of, outputs_of}
use Rattle.basic_kinds.specs.Sorts.{Forks, Joins, Merges, same_sort}
use Rattle.basic_kinds.specs.ShapeParts.{half}
use Rattle.net_core.specs.declared.spec.NodeSpec.TheVariants.{Kind as Basic}
use Rattle.net_core.specs.Wiring.{Node, Circuit}
use Rattle.net_laws.specs.Implementing.{Implements}
use Rattle.two_way.specs.TwoWay.{is_two_way}
use Rattle.two_way.specs.Layers.{IsLighter, IsLayerOf, IsSplitOf, two_way_part}
use Rattle.fan_trees.specs.FanLayers.{IsFan, by_width, fork_node, fork_layer, gather_node, gather_layer, fan_layer}
use Rattle.fan_trees.specs.declared.gather.Takes.{Takes}
use Rattle.fan_trees.specs.declared.gather.Takes.TheVariants.{All, Any}
use Rattle.fan_trees.specs.Mirror.Gathers.{kind_of}
use Rattle.fan_trees.proofs.ForkLayer.{fork_right}
use Rattle.fan_trees.proofs.GatherLayer.{join_right, merge_right}

-- ---- halves

pub half_range : (n : ℕ) → (n ≤ half n + half n) × (half n + half n ≤ n + 1)
half_range zero = (omega arith, omega arith)
half_range (suc zero) = (omega arith, omega arith)
half_range (suc (suc n)) = let z = half_range n in (omega arith, omega arith)

pub half_is : (n : ℕ) → n - n / 2 ≡ half n
half_is n = omega (arith, half_range n)

-- ---- lighter components

lighter_width : (k n : ℕ) → k < n → 3 ≤ n → (if nat_lt k 3 then 0 else k) < (if nat_lt n 3 then 0 else n)
lighter_width k n less wide = grind (arith, nat_tests)

lighter_two : (n : ℕ) → 3 ≤ n → 0 < (if nat_lt n 3 then 0 else n)
lighter_two n wide = grind (arith, nat_tests)

-- ---- sums

first_sum : (f : Node → ℕ) (r : ℕ) (a b c : Node) → sum_by f (a ∷ b ∷ by_width r [] (c ∷ [])) ≡ f a + (f b + by_width r 0 (f c))
first_sum f zero a b c = sum_by-cons f a (b ∷ []) ∙ omega (arith, sum_by-cons f b [])
first_sum f (suc zero) a b c = sum_by-cons f a (b ∷ []) ∙ omega (arith, sum_by-cons f b [])
first_sum f (suc (suc r)) a b c = sum_by-cons f a (b ∷ c ∷ []) ∙ omega (arith, sum_by-cons f b (c ∷ []), sum_by-cons f c [])

last_sum : (f : Node → ℕ) (r : ℕ) (a b c : Node) → sum_by f (a ∷ (by_width r [] (c ∷ []) ++ b ∷ [])) ≡ f b + (f a + by_width r 0 (f c))
last_sum f zero a b c = sum_by-cons f a (b ∷ []) ∙ omega (arith, sum_by-cons f b [])
last_sum f (suc zero) a b c = sum_by-cons f a (b ∷ []) ∙ omega (arith, sum_by-cons f b [])
last_sum f (suc (suc r)) a b c = sum_by-cons f a (c ∷ b ∷ []) ∙ omega (arith, sum_by-cons f c (b ∷ []), sum_by-cons f b [])

many_sum : (b : Bool) (n h r : ℕ) → n ≡ h + r → 2 ≤ h → 0 < r
    → (if b then 1 else 0) + ((if b then h - 1 else 0) + by_width r 0 (if b then r - 1 else 0)) ≡ (if b then n - 1 else 0)
many_sum b n h zero e wide some = absurd (omega arith)
many_sum true n h (suc zero) e wide some = omega arith
many_sum true n h (suc (suc r)) e wide some = omega arith
many_sum false n h (suc zero) e wide some = refl
many_sum false n h (suc (suc r)) e wide some = refl

-- ---- each layer

all_first : (P : Node → Type 0) (r : ℕ) (a b c : Node) → P a → P b → P c → AllByRecursion P (a ∷ b ∷ by_width r [] (c ∷ []))
all_first P zero a b c x y z = (x, (y, tt))
all_first P (suc zero) a b c x y z = (x, (y, tt))
all_first P (suc (suc r)) a b c x y z = (x, (y, (z, tt)))

all_last : (P : Node → Type 0) (r : ℕ) (a b c : Node) → P a → P b → P c → AllByRecursion P (a ∷ (by_width r [] (c ∷ []) ++ b ∷ []))
all_last P zero a b c x y z = (x, (y, tt))
all_last P (suc zero) a b c x y z = (x, (y, tt))
all_last P (suc (suc r)) a b c x y z = (x, (z, (y, tt)))

module _ (n h r : ℕ) (both : n ≡ h + r) (wide : 2 ≤ h) (some : 0 < r) (few : n + 1 < 2 ^ 28) where
  pub fork_is_layer : IsLayerOf (Fork n) (fork_layer n h r)
  fork_is_layer = record {
    right = subst (λ m. Implements (fork_layer m h r) (Basic (Fork m))) (sym both) (fork_right h r wide some (omega arith));
    lighter = all_first (λ x. IsLighter (Fork n) x.spec) r (fork_node 2 0 ((n + 1) ∷ by_width r (h + 1) (n + 2) ∷ [])) (fork_node h (n + 1) (range_with_len 1 h))
        (fork_node r (n + 2) (range_with_len (h + 1) r)) (lighter_two n (omega arith)) (lighter_width h n (omega arith) (omega arith)) (lighter_width r n (omega arith) (omega arith));
    sums = λ s.
        first_sum (λ x. two_way_part s x.spec) r (fork_node 2 0 ((n + 1) ∷ by_width r (h + 1) (n + 2) ∷ [])) (fork_node h (n + 1) (range_with_len 1 h))
        (fork_node r (n + 2) (range_with_len (h + 1) r)) ∙ many_sum (same_sort Forks s) n h r both wide some;
  }

  pub join_is_layer : IsLayerOf (C n) (gather_layer (λ k. C k) n h r)
  join_is_layer = record {
    right = subst (λ m. Implements (gather_layer (λ k. C k) m h r) (Basic (C m))) (sym both) (join_right h r wide some (omega arith));
    lighter = all_last (λ x. IsLighter (C n) x.spec) r (gather_node (λ k. C k) h (range_with_len 0 h) (n + 1)) (gather_node (λ k. C k) 2 ((n + 1) ∷ by_width r h (n + 2) ∷ []) n)
        (gather_node (λ k. C k) r (range_with_len h r) (n + 2)) (lighter_width h n (omega arith) (omega arith)) (lighter_two n (omega arith)) (lighter_width r n (omega arith) (omega arith));
    sums = λ s.
        last_sum (λ x. two_way_part s x.spec) r (gather_node (λ k. C k) h (range_with_len 0 h) (n + 1)) (gather_node (λ k. C k) 2 ((n + 1) ∷ by_width r h (n + 2) ∷ []) n)
        (gather_node (λ k. C k) r (range_with_len h r) (n + 2)) ∙ many_sum (same_sort Joins s) n h r both wide some;
  }

  pub merge_is_layer : IsLayerOf (Merge n) (gather_layer (λ k. Merge k) n h r)
  merge_is_layer = record {
    right = subst (λ m. Implements (gather_layer (λ k. Merge k) m h r) (Basic (Merge m))) (sym both) (merge_right h r wide some (omega arith));
    lighter = all_last (λ x. IsLighter (Merge n) x.spec) r (gather_node (λ k. Merge k) h (range_with_len 0 h) (n + 1)) (gather_node (λ k. Merge k) 2 ((n + 1) ∷ by_width r h (n + 2) ∷ []) n)
        (gather_node (λ k. Merge k) r (range_with_len h r) (n + 2)) (lighter_width h n (omega arith) (omega arith)) (lighter_two n (omega arith)) (lighter_width r n (omega arith) (omega arith));
    sums = λ s.
        last_sum (λ x. two_way_part s x.spec) r (gather_node (λ k. Merge k) h (range_with_len 0 h) (n + 1)) (gather_node (λ k. Merge k) 2 ((n + 1) ∷ by_width r h (n + 2) ∷ []) n)
        (gather_node (λ k. Merge k) r (range_with_len h r) (n + 2)) ∙ many_sum (same_sort Merges s) n h r both wide some;
  }

-- of a width of three and more, cut in halves
module _ (n : ℕ) (wide : 3 ≤ n) (few : n + 1 < 2 ^ 28) where
  pub fork_halves : IsLayerOf (Fork n) (fork_layer n (half n) (n - half n))
  fork_halves = fork_is_layer n (half n) (n - half n) (omega (arith, half_range n)) (omega (arith, half_range n)) (omega (arith, half_range n)) few

  pub join_halves : IsLayerOf (C n) (gather_layer (λ k. C k) n (half n) (n - half n))
  join_halves = join_is_layer n (half n) (n - half n) (omega (arith, half_range n)) (omega (arith, half_range n)) (omega (arith, half_range n)) few

  pub merge_halves : IsLayerOf (Merge n) (gather_layer (λ k. Merge k) n (half n) (n - half n))
  merge_halves = merge_is_layer n (half n) (n - half n) (omega (arith, half_range n)) (omega (arith, half_range n)) (omega (arith, half_range n)) few

-- ---- all kinds

split_by : (k : Kind) (n : ℕ) (net : Circuit) (b : Bool) → nat_lt n 3 ≡ b → is_two_way k ≡ nat_lt n 3 → (3 ≤ n → IsLayerOf k net) → IsSplitOf k (if b then None else Some net)
split_by k n net true e same layer = record { none = ((λ z. same ∙ e), (λ z. refl)); layer = tt }
split_by k n net false e same layer = record {
  none = ((λ z. absurd (cc)), (λ z. absurd (false≢true (sym e ∙ sym same ∙ z))));
  layer = layer (grind (arith, nat_tests));
}

pub fan_splits : (k : Kind) → IsFan k → IsWellFormed k → IsSplitOf k (fan_layer k)
fan_splits Wire fan formed = absurd fan
fan_splits Iwire fan formed = absurd fan
fan_splits Source fan formed = absurd fan
fan_splits Sink fan formed = absurd fan
fan_splits (Fork n) fan formed =
    split_by (Fork n) n (fork_layer n (half n) (n - half n)) (nat_lt n 3) refl refl (λ wide. fork_halves n wide (let z = formed.few in omega arith))
fan_splits (C n) fan formed =
    split_by (C n) n (gather_layer (λ k. C k) n (half n) (n - half n)) (nat_lt n 3) refl refl (λ wide. join_halves n wide (let z = formed.few in omega arith))
fan_splits (Merge n) fan formed =
    split_by (Merge n) n (gather_layer (λ k. Merge k) n (half n) (n - half n)) (nat_lt n 3) refl refl (λ wide. merge_halves n wide (let z = formed.few in omega arith))
fan_splits Toggle fan formed = absurd fan
fan_splits (Dw s) fan formed = absurd fan
fan_splits (Seq k) fan formed = absurd fan

-- ---- the number of wires

wires_few : (n r : ℕ) → by_width r (n + 2) (n + 3) ≤ n + 3
wires_few n zero = omega arith
wires_few n (suc zero) = omega arith
wires_few n (suc (suc r)) = omega arith

few_by : (m : ℕ) (net : Circuit) (b : Bool) → net.wires ≤ m → IfSome (if b then None else Some net) (λ c. c.wires ≤ m)
few_by m net true few = tt
few_by m net false few = few

pub fan_wires : (k : Kind) → IsFan k → IfSome (fan_layer k) (λ net. net.wires ≤ inputs_of k + outputs_of k + 2)
fan_wires Wire fan = absurd fan
fan_wires Iwire fan = absurd fan
fan_wires Source fan = absurd fan
fan_wires Sink fan = absurd fan
fan_wires (Fork n) fan = few_by (1 + n + 2) (fork_layer n (half n) (n - half n)) (nat_lt n 3) (omega (arith, wires_few n (n - half n)))
fan_wires (C n) fan = few_by (n + 1 + 2) (gather_layer (λ k. C k) n (half n) (n - half n)) (nat_lt n 3) (omega (arith, wires_few n (n - half n)))
fan_wires (Merge n) fan = few_by (n + 1 + 2) (gather_layer (λ k. Merge k) n (half n) (n - half n)) (nat_lt n 3) (omega (arith, wires_few n (n - half n)))
fan_wires Toggle fan = absurd fan
fan_wires (Dw s) fan = absurd fan
fan_wires (Seq k) fan = absurd fan

-- what an answer with the layer has
pub split_result : {E : Type 0} (k : Kind) → IsFan k → IsWellFormed k → (r : Result (Option Circuit) E) → IfOk r (λ net. net ≡ fan_layer k) → IfOk r (IsSplitOf k)
split_result k fan formed (Ok net) e = subst (IsSplitOf k) (sym e) (fan_splits k fan formed)
split_result k fan formed (Err x) e = e

pub wires_result : {E : Type 0} (k : Kind) → IsFan k → (r : Result (Option Circuit) E) → IfOk r (λ net. net ≡ fan_layer k)
    → IfOk r (λ net. IfSome net (λ c. c.wires ≤ inputs_of k + outputs_of k + 2))
wires_result k fan (Ok net) e = subst (λ (o : Option Circuit). IfSome o (λ c. c.wires ≤ inputs_of k + outputs_of k + 2)) (sym e) (fan_wires k fan)
wires_result k fan (Err x) e = e

-- ---- what the code makes

pub same_net : (layer : ℕ → Circuit) (f h : ℕ) (items : List Node) (wires : ℕ) → f ≡ h → items ≡ (layer f).nodes → wires ≡ (layer f).wires
    → ◌≡◌ {A = Circuit} (record { nodes = items; wires = wires }) (layer h)
same_net layer f h items wires same nodes many =
    ap (λ (xs : List Node). record { nodes = xs; wires = wires }) nodes ∙ ap (λ (k : ℕ). record { nodes = (layer f).nodes; wires = k }) many ∙ ap layer same

pub takes_halves : (k : Takes) (n : ℕ) → 3 ≤ n → n + 1 < 2 ^ 28 → IsLayerOf (kind_of k n) (gather_layer (kind_of k) n (half n) (n - half n))
takes_halves All n wide few = join_halves n wide few
takes_halves Any n wide few = merge_halves n wide few
