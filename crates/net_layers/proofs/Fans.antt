-- The layers of FORKs, Cs and MERGEs: their components are FORKs, Cs and MERGEs again, and their wires are few.
use Rattle.std.proofs.Common.{◌≡◌, ◌⊎◌, inl, inr, ℕ, zero, suc, ◌+◌, ◌-◌, ◌*◌, ◌≤◌, Bool, true, false, nat_lt, List, [], ◌∷◌, ◌++◌, Option, None, Some, Result, Ok, Err, IfOk, refl, sym, ap, ◌∙◌, subst, arith, if◌then◌else◌}
use Rattle.std.specs.Option.{IfSome}
use Rattle.std.proofs.lemmas.Bool.Decides.{nat_tests}
use Rattle.basic_kinds.specs.declared.kind.Kind.{Kind}
use Rattle.basic_kinds.specs.declared.kind.Kind.TheVariants.{Wire, Iwire, Source, Sink, Fork, C, Merge, Toggle, Dw, Seq}
use Rattle.basic_kinds.specs.Kinds.{inputs_of, outputs_of}
use Rattle.basic_kinds.specs.ShapeParts.{half}
use Rattle.net_core.specs.declared.spec.NodeSpec.TheVariants.{Kind as Basic}
use Rattle.net_core.specs.Wiring.{Circuit}
use Rattle.substitute.specs.Splices.{PassIn}
use Rattle.two_way.specs.Layers.{IsSplitOf}
use Rattle.fan_trees.specs.FanLayers.{IsFan, IsFanLayer, fork_layer, gather_layer, fan_layer}
use Rattle.net_layers.specs.TwoWayNets.{is_splittable, two_way_parts}
use Rattle.net_layers.specs.Mirror.Laid.{IsLaid}

fork_parts : (n h r : ℕ) → PassIn is_splittable (fork_layer n h r)
fork_parts n h zero = (refl, (refl, tt))
fork_parts n h (suc zero) = (refl, (refl, tt))
fork_parts n h (suc (suc r)) = (refl, (refl, (refl, tt)))

join_parts : (n h r : ℕ) → PassIn is_splittable (gather_layer (λ k. C k) n h r)
join_parts n h zero = (refl, (refl, tt))
join_parts n h (suc zero) = (refl, (refl, tt))
join_parts n h (suc (suc r)) = (refl, (refl, (refl, tt)))

merge_parts : (n h r : ℕ) → PassIn is_splittable (gather_layer (λ k. Merge k) n h r)
merge_parts n h zero = (refl, (refl, tt))
merge_parts n h (suc zero) = (refl, (refl, tt))
merge_parts n h (suc (suc r)) = (refl, (refl, (refl, tt)))

-- what holds of the layer holds where there is one
if_layer : (P : Circuit → Type 0) (b : Bool) (m : Circuit) → P m → IfSome (if b then None else Some m) P
if_layer P true m h = tt
if_layer P false m h = h

few_wires : (n : ℕ) (b : Bool) → nat_lt n 3 ≡ b → (m : Circuit) → IfSome (if b then None else Some m) (λ it. it.wires ≤ n + 3) → IfSome (if b then None else Some m) (λ it. it.wires ≤ 4 * (n - 1))
few_wires n true e m h = tt
few_wires n false e m h = let wide : 3 ≤ n = grind (arith, nat_tests) in omega (arith, h, wide)

weaker : (m : Option Circuit) (a b : ℕ) → a ≡ b → IfSome m (λ it. it.wires ≤ a) → IfSome m (λ it. it.wires ≤ b)
weaker m a b e h = subst (λ n. IfSome m (λ it. it.wires ≤ n)) e h

fan_parts : (k : Kind) → IsFan k → IfSome (fan_layer k) (PassIn is_splittable)
fan_parts Wire fan = absurd fan
fan_parts Iwire fan = absurd fan
fan_parts Source fan = absurd fan
fan_parts Sink fan = absurd fan
fan_parts (Fork n) fan = if_layer (PassIn is_splittable) (nat_lt n 3) (fork_layer n (half n) (n - half n)) (fork_parts n (half n) (n - half n))
fan_parts (C n) fan = if_layer (PassIn is_splittable) (nat_lt n 3) (gather_layer (λ k. C k) n (half n) (n - half n)) (join_parts n (half n) (n - half n))
fan_parts (Merge n) fan = if_layer (PassIn is_splittable) (nat_lt n 3) (gather_layer (λ k. Merge k) n (half n) (n - half n)) (merge_parts n (half n) (n - half n))
fan_parts Toggle fan = absurd fan
fan_parts (Dw s) fan = absurd fan
fan_parts (Seq n) fan = absurd fan

fan_few : (k : Kind) → IsFan k → IfSome (fan_layer k) (λ it. it.wires ≤ inputs_of k + outputs_of k + 2) → IfSome (fan_layer k) (λ it. it.wires ≤ 4 * two_way_parts (Basic k))
fan_few Wire fan h = absurd fan
fan_few Iwire fan h = absurd fan
fan_few Source fan h = absurd fan
fan_few Sink fan h = absurd fan
fan_few (Fork n) fan h = weaker (fan_layer (Fork n)) (4 * (n - 1)) (4 * two_way_parts (Basic (Fork n))) (omega arith)
    (few_wires n (nat_lt n 3) refl (fork_layer n (half n) (n - half n)) (weaker (fan_layer (Fork n)) (1 + n + 2) (n + 3) (omega arith) h))
fan_few (C n) fan h = weaker (fan_layer (C n)) (4 * (n - 1)) (4 * two_way_parts (Basic (C n))) (omega arith)
    (few_wires n (nat_lt n 3) refl (gather_layer (λ k. C k) n (half n) (n - half n)) (weaker (fan_layer (C n)) (n + 1 + 2) (n + 3) (omega arith) h))
fan_few (Merge n) fan h = weaker (fan_layer (Merge n)) (4 * (n - 1)) (4 * two_way_parts (Basic (Merge n))) (omega arith)
    (few_wires n (nat_lt n 3) refl (gather_layer (λ k. Merge k) n (half n) (n - half n)) (weaker (fan_layer (Merge n)) (n + 1 + 2) (n + 3) (omega arith) h))
fan_few Toggle fan h = absurd fan
fan_few (Dw s) fan h = absurd fan
fan_few (Seq n) fan h = absurd fan

pub fan_laid : (k : Kind) → IsFan k → (net : Option Circuit) → IsSplitOf k net → IsFanLayer k net → IfSome net (λ it. it.wires ≤ inputs_of k + outputs_of k + 2) → IsLaid k net
fan_laid k fan net split is few = record {
  split = split;
  parts = subst (λ m. IfSome m (PassIn is_splittable)) (sym is) (fan_parts k fan);
  few = subst (λ m. IfSome m (λ it. it.wires ≤ 4 * two_way_parts (Basic k))) (sym is) (fan_few k fan (subst (λ m. IfSome m (λ it. it.wires ≤ inputs_of k + outputs_of k + 2)) is few));
}

pub if_laid : {E : Type 0} (k : Kind) → IsFan k → (r : Result (Option Circuit) E) → IfOk r (IsSplitOf k) → IfOk r (IsFanLayer k)
    → IfOk r (λ net. IfSome net (λ it. it.wires ≤ inputs_of k + outputs_of k + 2)) → IfOk r (IsLaid k)
if_laid k fan (Ok net) split is few = fan_laid k fan net split is few
if_laid k fan (Err e) split is few = tt

pub fan_here : (k : Kind) → ((n : ℕ) × (k ≡ Fork n)) ⊎ (((n : ℕ) × (k ≡ C n)) ⊎ ((n : ℕ) × (k ≡ Merge n))) → IsFan k
fan_here k (inl (n, e)) = subst IsFan (sym e) tt
fan_here k (inr (inl (n, e))) = subst IsFan (sym e) tt
fan_here k (inr (inr (n, e))) = subst IsFan (sym e) tt
