-- Walks as the code keeps them: states, tables, and what a call leaves.
use Rattle.std.proofs.Common.{◌≡◌, ℕ, suc, ◌+◌, ◌<◌, true, false, List, [], ◌∷◌, ◌++◌, length, get_or, Some, refl, sym, ap, ◌∙◌, subst, arith}
use Rattle.std.specs.Prelude.{slice_get, Result, Ok, Err, OnOk}
use Rattle.std.specs.List.{AllByRecursion}
use Rattle.net_core.specs.declared.walk.WalkState.{WalkState}
use Rattle.net_core.specs.Wiring.{Circuit, IsWired, IsClosed}
use Rattle.net_core.specs.Networks.{takes, end_node}
use Rattle.cmd_tree.specs.Lists.{is_in}
use Rattle.net_core.specs.Walk.{Walk, with_new, output_wires, list_node, walk_step, outset, walk_of}
use Rattle.net_core.specs.Mirror.Walking.{Leads, IsVisited, AreSourcesListed}
use Rattle.net_core.specs.Mirror.WalkStates.{walk_in, IsSized, Walks}
use Rattle.net_core.proofs.Counting.{all_at}
use Rattle.net_core.proofs.Places.{few_below}
use Rattle.net_core.proofs.Walked.{Holds, receiver_there}
use Rattle.net_core.proofs.WalkSteps.{step_visits, step_none, nothing_left, leads_same, leads_then, leads_holds, leads_end}

pub walk_is : (v w : Walk) → v.listed ≡ w.listed → v.numbered ≡ w.numbered → v.visited ≡ w.visited → v ≡ w
walk_is v w e f g = λ i. record { listed = e i; numbered = f i; visited = g i }

pub list_fresh : (c : Circuit) (n : ℕ) (w : Walk) → is_in n w.listed ≡ false
    → list_node c n w ≡ record { listed = w.listed ++ n ∷ []; numbered = with_new w.numbered (output_wires (slice_get c.nodes n)); visited = w.visited }
list_fresh c n w e = rw e refl

-- two facts of a call that did not fail
pub on_ok_both : {E : Type 0} (A B C : Type 0) (r : Result (Unit {0}) E) → OnOk r A → OnOk r B → (A → B → C) → OnOk r C
on_ok_both A B C (Ok x) a b f = f a b
on_ok_both A B C (Err x) a b f = tt

pub begins_walk : (c : Circuit) (s : WalkState) → IsSized c s → walk_in s ≡ outset c → Walks c s
begins_walk c s sized e = record { sized = sized; comes = subst (Leads c (outset c)) (sym e) (leads_same c (outset c)) }

pub goes_to : (c : Circuit) (s t : WalkState) → Walks c s → IsSized c t → Leads c (walk_in s) (walk_in t) → Walks c t
goes_to c s t walks sized on = record { sized = sized; comes = leads_then c (outset c) (walk_in s) (walk_in t) walks.comes on }

module _ (c : Circuit) (fit : AllByRecursion (IsWired c.wires) c.nodes) (closed : IsClosed c) (some : 0 < length c.nodes) where
  holds : (s : WalkState) → Walks c s → Holds c (walk_in s)
  holds s walks = leads_holds c fit closed some (walk_in s) walks.comes

  pub visited_few : (s : WalkState) → Walks c s → s.visited < length s.numbered.numbers → s.visited < c.wires
  visited_few s walks left = let h = holds s walks in omega (arith, few_below c.wires s.numbered.numbers h.known h.once)

  -- the next wire and its receiver
  module _ (s : WalkState) (walks : Walks c s) (left : s.visited < length s.numbered.numbers) (ns : List ℕ) (are : ns ≡ s.numbered.numbers) where
    pub wire_known : get_or ns s.visited 0 < c.wires
    wire_known = let h = holds s walks in
        subst (λ (l : List ℕ). get_or l s.visited 0 < c.wires) (sym are) (all_at (λ v. v < c.wires) s.numbered.numbers s.visited h.known left)

    pub receiver_known : (r : ℕ) → end_node (takes c) c (get_or ns s.visited 0) ≡ r → r < length c.nodes
    receiver_known r is = subst (λ n. n < length c.nodes) is (receiver_there c fit closed (get_or ns s.visited 0) wire_known)

    pub visit_step : (r : ℕ) → end_node (takes c) c (get_or ns s.visited 0) ≡ r → (t : Walk)
        → t ≡ list_node c r (record { listed = s.listed.numbers; numbered = s.numbered.numbers; visited = s.visited + 1 })
        → walk_step c (walk_in s) ≡ Some t
    visit_step r is t e =
        let one : suc s.visited ≡ s.visited + 1 = omega arith in
        let same : end_node (takes c) c (get_or s.numbered.numbers s.visited 0) ≡ r =
        ap (λ (l : List ℕ). end_node (takes c) c (get_or l s.visited 0)) (sym are) ∙ is in
        step_visits c (walk_in s) left
        ∙ ap Some ((λ i. list_node c (same i) (record { listed = s.listed.numbers; numbered = s.numbered.numbers; visited = one i })) ∙ sym e)

  -- where all is visited and listed, the walk is whole
  pub walk_whole : (s : WalkState) → Walks c s → IsVisited (walk_in s) → AreSourcesListed c (walk_in s)
      → ((k : ℕ) → k < length c.nodes → is_in k s.listed.numbers ≡ true) → walk_in s ≡ walk_of c
  walk_whole s walks past sources all =
      leads_end c fit closed some (walk_in s) walks.comes (step_none c (walk_in s) past (nothing_left c s.listed.numbers sources all))
