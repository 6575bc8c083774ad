-- What the one pass makes is the network of one splice after the other.
use Rattle.std.proofs.Common.{◌≡◌, ℕ, Bool, ◌+◌, ◌<◌, List, [], ◌∷◌, ◌++◌, length, take, drop, Option, sym, ◌∙◌, subst, arith}
use Rattle.std.specs.Prelude.{◌^◌, Result, Ok, Err, IfOk}
use Rattle.net_core.specs.Wiring.{Node, Circuit, IsNetwork, IsClosed}
use Rattle.net_core.specs.declared.spec.NodeSpec.{NodeSpec}
use Rattle.net_core.specs.Renumbering.{sum_of_parts}
use Rattle.net_core.proofs.Sizes.{nodes_few}
use Rattle.substitute.specs.Splices.{all_spliced, FitEach, wires_in, specs_in, specs_after, PassIn, PassAfter, sum_after}
use Rattle.substitute.specs.Mirror.OnePass.{all_in_place, wires_with_all}
use Rattle.substitute.proofs.OnePass.{one_pass, placed_specs, placed_pass, placed_sum, wires_few}
use Rattle.substitute.proofs.Turns.{all_network, all_closed}

module _ (c : Circuit) (ps : List (Option Circuit)) (sized : length ps + 1 ≡ length c.nodes) where
  made_of : (xs : List Node) → length ps + 1 ≡ length xs
      → all_spliced (record { nodes = xs; wires = c.wires }) 1 ps
      ≡ record { nodes = take 1 xs ++ all_in_place c.wires (drop 1 xs) ps; wires = wires_with_all c.wires ps }
  made_of [] e = absurd (omega arith)
  made_of (x ∷ xs) e = one_pass (x ∷ []) c.wires xs ps (omega arith)

  specs_of : (xs : List Node) → length ps + 1 ≡ length xs → (n : ℕ)
      → specs_in (record { nodes = take 1 xs ++ all_in_place c.wires (drop 1 xs) ps; wires = n })
      ≡ specs_after (drop 1 xs) ps
  specs_of [] e n = absurd (omega arith)
  specs_of (x ∷ xs) e n = placed_specs c.wires xs ps

  pass_of : (test : NodeSpec → Bool) (xs : List Node) → length ps + 1 ≡ length xs → (n : ℕ)
      → PassAfter test (drop 1 xs) ps
      → PassIn test (record { nodes = take 1 xs ++ all_in_place c.wires (drop 1 xs) ps; wires = n })
  pass_of test [] e n h = absurd (omega arith)
  pass_of test (x ∷ xs) e n h = placed_pass test c.wires xs ps h

  sum_of : (f : NodeSpec → ℕ) (xs : List Node) → length ps + 1 ≡ length xs → (n : ℕ)
      → sum_of_parts f (record { nodes = take 1 xs ++ all_in_place c.wires (drop 1 xs) ps; wires = n })
      ≡ sum_after f (drop 1 xs) ps
  sum_of f [] e n = absurd (omega arith)
  sum_of f (x ∷ xs) e n = placed_sum f c.wires xs ps

  module _ (nodes : List Node) (wires : ℕ)
      (made : nodes ≡ take 1 c.nodes ++ all_in_place c.wires (drop 1 c.nodes) ps)
      (count : wires ≡ wires_with_all c.wires ps) where
    abbrev whole : Circuit
    whole = record { nodes = nodes; wires = wires }

    pub whole_is : whole ≡ all_spliced c 1 ps
    whole_is = (λ i. record { nodes = made i; wires = count i }) ∙ sym (made_of c.nodes sized)

    pub whole_specs : specs_in whole ≡ specs_after (drop 1 c.nodes) ps
    whole_specs = (λ i. specs_in (record { nodes = made i; wires = wires })) ∙ specs_of c.nodes sized wires

    pub whole_pass : (test : NodeSpec → Bool) → PassAfter test (drop 1 c.nodes) ps → PassIn test whole
    whole_pass test h = subst (λ xs. PassIn test (record { nodes = xs; wires = wires })) (sym made)
        (pass_of test c.nodes sized wires h)

    pub whole_sum : (f : NodeSpec → ℕ) → sum_of_parts f whole ≡ sum_after f (drop 1 c.nodes) ps
    whole_sum f = (λ i. sum_of_parts f (record { nodes = made i; wires = wires }))
        ∙ sum_of f c.nodes sized wires

    module _ (net : IsNetwork c) (closed : IsClosed c) (fitting : FitEach c 1 ps) where
      pub whole_network : IsNetwork whole
      whole_network = subst IsNetwork (sym whole_is) (all_network c 1 ps fitting net)

      pub whole_closed : IsClosed whole
      whole_closed = subst IsClosed (sym whole_is) (all_closed c 1 ps fitting closed)

      pub whole_few : c.wires + wires_in ps < 2 ^ 31 → length nodes < 2 ^ 32
      whole_few few = omega (arith, nodes_few whole whole_network.wired whole_closed, wires_few c.wires ps)

-- what holds of the network that is made holds of the one that the call gives
pub result_has : {E : Type 0} (P : Circuit → Type 0) (d : Circuit) (r : Result Circuit E) → IfOk r (λ w. w ≡ d)
    → P d → IfOk r P
result_has P d (Err x) e h = tt
result_has P d (Ok w) e h = subst P (sym e) h
