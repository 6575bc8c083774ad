-- A closed network has few wires for the two-way components that stand for it in the end.
use Rattle.std.proofs.Common.{◌≡◌, ℕ, zero, suc, ◌+◌, ◌*◌, ◌<◌, ◌≤◌, ◌^◌, Bool, true, false, true≢false, not, IsTrue, List, [], ◌∷◌, ◌++◌, length, drop, Option, Some, None, slice_get, refl, sym, ap, ◌∙◌, arith, length-append}
use Rattle.std.specs.Prelude.{replicate}
use Rattle.std.specs.List.{AllByRecursion, sum_by}
use Rattle.std.proofs.lemmas.List.Sums.{sum_by-cons}
use Rattle.basic_kinds.specs.Kinds.{inputs_of, outputs_of}
use Rattle.basic_kinds.specs.Sorts.{how_many}
use Rattle.net_core.specs.declared.spec.NodeSpec.{NodeSpec}
use Rattle.net_core.specs.declared.spec.NodeSpec.TheVariants.{Kind as Basic, Cmd}
use Rattle.net_core.specs.Specs.{outs_of, IsFormed, sides}
use Rattle.net_core.specs.Wiring.{Node, Circuit, IsWired, IsNetwork, IsClosed, picked, side, flows, wiring, driven}
use Rattle.net_core.specs.Networks.{spec_of, IsSpecified}
use Rattle.net_core.specs.Renumbering.{sum_of_parts}
use Rattle.net_core.proofs.Sizes.{driven_many}
use Rattle.plain_split.proofs.OneWaitKinds.{many_append}
use Rattle.substitute.specs.Splices.{PassIn}
use Rattle.net_layers.specs.TwoWayNets.{is_splittable, two_way_parts}
use Rattle.net_layers.proofs.KindSums.{outputs_few}

picked_any : (b : Bool) (ds : List Bool) (ws : List ℕ) → length (picked b ds ws) ≤ length ds
unfolding picked
picked_any b [] ws = omega arith
picked_any b (d ∷ ds) [] = omega arith
picked_any true (true ∷ ds) (w ∷ ws) = omega (arith, picked_any true ds ws)
picked_any true (false ∷ ds) (w ∷ ws) = omega (arith, picked_any true ds ws)
picked_any false (true ∷ ds) (w ∷ ws) = omega (arith, picked_any false ds ws)
picked_any false (false ∷ ds) (w ∷ ws) = omega (arith, picked_any false ds ws)

picked_outs : (ds : List Bool) (ws : List ℕ) → length (picked true ds ws) ≤ how_many (λ d. d) ds
unfolding picked
picked_outs [] ws = omega arith
picked_outs (d ∷ ds) [] = omega arith
picked_outs (true ∷ ds) (w ∷ ws) = omega (arith, picked_outs ds ws)
picked_outs (false ∷ ds) (w ∷ ws) = omega (arith, picked_outs ds ws)

many_inputs : (n : ℕ) → how_many (λ d. d) (replicate n false) ≡ 0
many_inputs zero = refl
many_inputs (suc n) = omega (arith, many_inputs n)

many_outputs : (n : ℕ) → how_many (λ d. d) (replicate n true) ≡ n
many_outputs zero = refl
many_outputs (suc n) = omega (arith, many_outputs n)

spec_outs : (y : NodeSpec) (ws : List ℕ) → IsFormed y → is_splittable y ≡ true → length (picked true (outs_of y) ws) ≤ 4 * two_way_parts y
spec_outs (Basic k) ws formed form = omega (
  arith,
  picked_outs (sides (inputs_of k) (outputs_of k)) ws,
  many_append (λ d. d) (replicate (inputs_of k) false) (replicate (outputs_of k) true),
  many_inputs (inputs_of k),
  many_outputs (outputs_of k),
  outputs_few k formed form,
)
spec_outs (Cmd d) ws formed form = absurd (true≢false (sym form))

flows_few : (n : ℕ) (xs : List Node) → AllByRecursion (IsWired n) xs → AllByRecursion (λ x. IsTrue (is_splittable x.spec)) xs → length (flows true xs) ≤ 4 * sum_by (λ (x : Node). two_way_parts x.spec) xs
unfolding flows
flows_few n [] wired form = omega arith
flows_few n (x ∷ xs) wired form = omega (
  arith,
  length-append (side true x) (flows true xs),
  spec_outs x.spec x.ends (wired.0).formed form.0,
  flows_few n xs wired.1 form.1,
  sum_by-cons (λ (x : Node). two_way_parts x.spec) x xs,
)

wiring_few : (n : ℕ) (s : NodeSpec) (xs : List Node) → AllByRecursion (IsWired n) xs → spec_of (slice_get xs 0) ≡ Some s → AllByRecursion (λ x. IsTrue (is_splittable x.spec)) (drop 1 xs)
    → length (wiring true xs) ≤ length (outs_of s) + 4 * sum_by (λ (x : Node). two_way_parts x.spec) (drop 1 xs)
unfolding wiring
wiring_few n s [] wired e form = absurd (cc)
wiring_few n s (x ∷ xs) wired e form =
    let is : x.spec ≡ s = cc in
    omega (
      arith,
      length-append (side false x) (flows true xs),
      picked_any false (outs_of x.spec) x.ends,
      ap (λ (y : NodeSpec). length (outs_of y)) is,
      flows_few n xs wired.1 form,
    )

pub wires_few : (c : Circuit) (s : NodeSpec) → IsNetwork c → IsClosed c → IsSpecified c s → PassIn is_splittable c → c.wires ≤ length (outs_of s) + 4 * sum_of_parts two_way_parts c
wires_few c s net closed specified form = omega (arith, driven_many c net.wired closed, wiring_few c.wires s c.nodes net.wired specified form)
