-- A second walk changes nothing: it goes through the network with the new numbers as the first went through the old ones, since what is left
-- of the nodes stands in the order in which the first walk listed it.
use Rattle.std.proofs.Common.{◌≡◌, ℕ, zero, suc, ◌+◌, ◌<◌, Bool, true, false, List, [], ◌∷◌, ◌++◌, map, length, get_or, Option, None, Some, refl, sym, ap, ◌∙◌, subst, arith, inl, inr, eq-eqb, ne_eqb, length-append}
use Rattle.std.specs.Prelude.{nat_eq, slice_get, option_map, if◌then◌else◌, ◌||◌}
use Rattle.std.specs.List.{AllByRecursion, range_with_len, position_or_len}
use Rattle.std.proofs.lemmas.Bool.{cases_Bool, cases_eq, eqb-true}
use Rattle.std.proofs.lemmas.Grind.{same_number_lists}
use Rattle.std.proofs.lemmas.List.{map-append, length-map, get_or-map}
use Rattle.std.proofs.lemmas.List.Folds.{list_any_at}
use Rattle.std.proofs.lemmas.List.FromFn.{length-range_with_len}
use Rattle.std.proofs.lemmas.Option.{slice_get-map}
use Rattle.net_core.specs.Specs.{outs_of}
use Rattle.net_core.specs.Wiring.{Node, Circuit, IsWired, IsNetwork, IsClosed, moved, picked}
use Rattle.net_core.specs.Networks.{takes, end_node}
use Rattle.net_core.specs.Renumbering.{IsRenumbered}
use Rattle.cmd_tree.specs.Lists.{is_in}
use Rattle.net_core.specs.Walk.{Walk, with_new, output_wires, list_node, source_at, next_left, step_at, walk_step, walked, ends_at, outset, walk, walk_of, moved_at, moved_all, IsInWalkOrder}
use Rattle.net_core.proofs.Found.{ranged, first_is}
use Rattle.net_core.proofs.Walked.{Holds, steps, visits, begun, left_is, left_sources, none_left}
use Rattle.net_core.proofs.WalkSteps.{next_source, next_other, nothing_left, listed_already, walked_none, walked_stays, walked_first}
use Rattle.net_core.proofs.WalkStates.{walk_is, list_fresh}
use Rattle.net_core.proofs.FirstWires.{Begins, front, extends_walked}
use Rattle.net_core.proofs.Reordered.{new_to}
use Rattle.net_core.proofs.WalkOrder.{walk_reorders, walk_many, walk_wires, walk_as, walk_by_table, walk_preserved, node_inside, node_of_listed, listed_sized, wire_of_numbered, numbered_sized}

-- ---- lists under other numbers

module _ (f : ℕ → ℕ) (one : (v w : ℕ) → f v ≡ f w → v ≡ w) where
  same_test : (v w : ℕ) → nat_eq (f v) (f w) ≡ nat_eq v w
  same_test v w = elim (cases_eq v w) [
    | inl e ↦ eq-eqb (f v) (f w) (ap f e) ∙ sym (eq-eqb v w e)
    | inr ne ↦ ne_eqb (f v) (f w) (λ e. ne (one v w e)) ∙ sym (ne_eqb v w ne)
  ]

  in_image : (v : ℕ) (xs : List ℕ) → is_in (f v) (map f xs) ≡ is_in v xs
  in_image v [] = refl
  in_image v (x ∷ xs) = ap (λ b. b || is_in (f v) (map f xs)) (same_test v x) ∙ ap (λ b. nat_eq v x || b) (in_image v xs)

  put_image : (b : Bool) (v : ℕ) (ns : List ℕ) → (if b then map f ns else map f ns ++ f v ∷ []) ≡ map f (if b then ns else ns ++ v ∷ [])
  put_image true v ns = refl
  put_image false v ns = sym (map-append f ns (v ∷ []))

  new_image : (ns vs : List ℕ) → with_new (map f ns) (map f vs) ≡ map f (with_new ns vs)
  unfolding with_new
  new_image ns [] = refl
  new_image ns (v ∷ vs) =
      ap (λ b. with_new (if b then map f ns else map f ns ++ f v ∷ []) (map f vs)) (in_image v ns)
      ∙ ap (λ l. with_new l (map f vs)) (put_image (is_in v ns) v ns)
      ∙ new_image (if is_in v ns then ns else ns ++ v ∷ []) vs

picked_image : (f : ℕ → ℕ) (b : Bool) (ds : List Bool) (ws : List ℕ) → picked b ds (map f ws) ≡ map f (picked b ds ws)
unfolding picked
picked_image f b [] ws = refl
picked_image f b (d ∷ ds) [] = refl
picked_image f true (true ∷ ds) (w ∷ ws) = ap (λ l. f w ∷ l) (picked_image f true ds ws)
picked_image f true (false ∷ ds) (w ∷ ws) = picked_image f true ds ws
picked_image f false (true ∷ ds) (w ∷ ws) = picked_image f false ds ws
picked_image f false (false ∷ ds) (w ∷ ws) = ap (λ l. f w ∷ l) (picked_image f false ds ws)

outputs_image : (f : ℕ → ℕ) (o : Option Node) → output_wires (option_map (moved f) o) ≡ map f (output_wires o)
outputs_image f None = refl
outputs_image f (Some x) = picked_image f true (outs_of x.spec) x.ends

ends_image : (f : ℕ → ℕ) (o : Option Node) → ends_at (option_map (moved f) o) ≡ map f (ends_at o)
ends_image f None = refl
ends_image f (Some x) = refl

source_image : (f : ℕ → ℕ) (o : Option Node) → source_at (option_map (moved f) o) ≡ source_at o
source_image f None = refl
source_image f (Some x) = refl

in_at : (xs : List ℕ) (i : ℕ) → i < length xs → is_in (get_or xs i 0) xs ≡ true
in_at xs i h = list_any_at (nat_eq (get_or xs i 0)) xs i 0 h (eq-eqb (get_or xs i 0) (get_or xs i 0) refl)

-- ---- the walk under other numbers

module _ (c d : Circuit) (k : IsRenumbered c d) (network : IsNetwork c) (closed : IsClosed c) where
  one_node : (v w : ℕ) → k.node.to v ≡ k.node.to w → v ≡ w
  one_node v w e = sym (k.node.to_back v) ∙ ap k.node.back e ∙ k.node.to_back w

  one_wire : (v w : ℕ) → k.wire.to v ≡ k.wire.to w → v ≡ w
  one_wire v w e = sym (k.wire.to_back v) ∙ ap k.wire.back e ∙ k.wire.to_back w

  abbrev image : Walk → Walk
  image w = record { listed = map k.node.to w.listed; numbered = map k.wire.to w.numbered; visited = w.visited }

  listed_image : (n : ℕ) (w : Walk) → list_node d (k.node.to n) (image w) ≡ image (list_node c n w)
  listed_image n w = elim (cases_Bool (is_in n w.listed)) [
    | inl is ↦
        listed_already d (k.node.to n) (image w) (in_image k.node.to one_node n w.listed ∙ is) ∙ sym (ap image (listed_already c n w is))
    | inr new ↦
        let outputs : output_wires (slice_get d.nodes (k.node.to n)) ≡ map k.wire.to (output_wires (slice_get c.nodes n)) =
        ap output_wires (k.nodes n) ∙ outputs_image k.wire.to (slice_get c.nodes n) in
        list_fresh d (k.node.to n) (image w) (in_image k.node.to one_node n w.listed ∙ new)
        ∙ walk_is (record {
          listed = map k.node.to w.listed ++ k.node.to n ∷ [];
          numbered = with_new (map k.wire.to w.numbered) (output_wires (slice_get d.nodes (k.node.to n)));
          visited = w.visited;
        }) (image (record { listed = w.listed ++ n ∷ []; numbered = with_new w.numbered (output_wires (slice_get c.nodes n)); visited = w.visited }))
        (sym (map-append k.node.to w.listed (n ∷ [])))
        (ap (with_new (map k.wire.to w.numbered)) outputs ∙ new_image k.wire.to one_wire w.numbered (output_wires (slice_get c.nodes n)))
        refl
        ∙ sym (ap image (list_fresh c n w new))
  ]

  outset_image : outset d ≡ image (outset c)
  outset_image =
      let ends : ends_at (slice_get d.nodes 0) ≡ map k.wire.to (ends_at (slice_get c.nodes 0)) =
      ap (λ n. ends_at (slice_get d.nodes n)) (sym k.outside) ∙ ap ends_at (k.nodes 0) ∙ ends_image k.wire.to (slice_get c.nodes 0) in
      walk_is (outset d) (image (outset c)) (ap (λ n. n ∷ []) (sym k.outside))
      (ap (with_new []) ends ∙ new_image k.wire.to one_wire [] (ends_at (slice_get c.nodes 0))) refl

  step_image : (w : Walk) (a o : Option ℕ) → ((x : ℕ) → a ≡ Some x → x < c.wires) → (p : Option ℕ) → (a ≡ None → p ≡ option_map k.node.to o)
      → step_at d (image w) (option_map k.wire.to a) p ≡ option_map image (step_at c w a o)
  step_image w (Some x) o known p left =
      ap (λ n. Some (list_node d n (image (record w { visited = suc w.visited })))) (new_to c d k network closed x (known x refl)).0
      ∙ ap Some (listed_image (end_node (takes c) c x) (record w { visited = suc w.visited }))
  step_image w None (Some n) known p left = ap (step_at d (image w) None) (left refl) ∙ ap Some (listed_image n w)
  step_image w None None known p left = ap (step_at d (image w) None) (left refl)

-- ---- the walk in its own order

-- nodes whose wires keep their numbers
kept : (f : ℕ → ℕ) (m : ℕ) → ((w : ℕ) → w < m → f w ≡ w) → (ws : List ℕ) → AllByRecursion (λ w. w < m) ws → map f ws ≡ ws
kept f m same [] all = refl
kept f m same (w ∷ ws) all = ap (λ v. v ∷ map f ws) (same w all.0) ∙ ap (λ l. w ∷ l) (kept f m same ws all.1)

all_kept : (d : Circuit) (f : ℕ → ℕ) → ((w : ℕ) → w < d.wires → f w ≡ w) → (ys : List Node) → AllByRecursion (IsWired d.wires) ys
    → (a : ℕ) → ((i : ℕ) → i < length ys → slice_get d.nodes (a + i) ≡ slice_get ys i) → moved_all f d (range_with_len a (length ys)) ≡ ys
all_kept d f same [] all a are = refl
all_kept d f same (y ∷ ys) all a are =
    let wired : IsWired d.wires y = all.0 in
    let here : slice_get d.nodes a ≡ Some y = ap (slice_get d.nodes) (let z : a ≡ a + 0 = omega arith in z) ∙ are 0 (omega arith) in
    ap (λ o. moved_at f o ++ moved_all f d (range_with_len (a + 1) (length ys))) here
    ∙ ap (λ l. record { spec = y.spec; ends = l } ∷ moved_all f d (range_with_len (a + 1) (length ys))) (kept f d.wires same y.ends wired.known)
    ∙ ap (λ l. y ∷ l) (all_kept d f same ys all.1 (a + 1)
    (λ i h. ap (slice_get d.nodes) (let z : a + 1 + i ≡ a + suc i = omega arith in z) ∙ are (suc i) (omega arith)))

last_of : (xs : List ℕ) (n : ℕ) → get_or (xs ++ n ∷ []) (length xs) 0 ≡ n
last_of [] n = refl
last_of (x ∷ xs) n = last_of xs n

module _ (c : Circuit) (network : IsNetwork c) (closed : IsClosed c) where
  abbrev d : Circuit
  d = walk c

  abbrev fit : AllByRecursion (IsWired c.wires) c.nodes
  fit = network.wired

  abbrev k : IsRenumbered c d
  k = walk_reorders c fit closed network.some

  abbrev end : Walk
  end = walk_of c

  abbrev under : Walk → Walk
  under w = image c d k network closed w

  as_many : length d.nodes ≡ length c.nodes
  as_many = walk_many c fit closed network.some

  one : (v w : ℕ) → k.node.to v ≡ k.node.to w → v ≡ w
  one v w e = one_node c d k network closed v w e

  old_inside : (j : ℕ) → j < length d.nodes → k.node.back j < length c.nodes
  old_inside j h =
      (node_inside c fit closed network.some (k.node.back j)).1
      (subst (λ n. n < length c.nodes) (sym (k.node.back_to j)) (omega (arith, as_many)))

  new_inside : (n : ℕ) → n < length c.nodes → k.node.to n < length d.nodes
  new_inside n h = omega (arith, (node_inside c fit closed network.some n).0 h, as_many)

  module _ (w : Walk) where
    abbrev listed : List ℕ
    listed = map k.node.to w.listed

    in_listed : (j : ℕ) → is_in (k.node.back j) w.listed ≡ true → is_in j listed ≡ true
    in_listed j is = subst (λ n. is_in n listed ≡ true) (k.node.back_to j) (in_image k.node.to one (k.node.back j) w.listed ∙ is)

    sources : ((m : ℕ) → m < length c.nodes → source_at (slice_get c.nodes m) ≡ true → is_in m w.listed ≡ true)
        → (j : ℕ) → j < length d.nodes → source_at (slice_get d.nodes j) ≡ true → is_in j listed ≡ true
    sources all j h e =
        let m = k.node.back j in
        in_listed j (all m (old_inside j h)
        (sym (ap source_at (k.nodes m) ∙ source_image k.wire.to (slice_get c.nodes m)) ∙ ap (λ n. source_at (slice_get d.nodes n)) (k.node.back_to j) ∙ e))

    none_next : next_left c w.listed ≡ None → next_left d listed ≡ None
    none_next e = nothing_left d listed (sources (λ m h s. none_left c w.listed m e h))
        (λ j h. in_listed j (none_left c w.listed (k.node.back j) e (old_inside j h)))

    some_next : (n : ℕ) → next_left c w.listed ≡ Some n → Begins (w.listed ++ n ∷ []) end.listed → next_left d listed ≡ Some (k.node.to n)
    some_next n e begins =
        let (inside, new) = left_is c w.listed n e in
        let many = length-append w.listed (n ∷ []) in
        let L = length w.listed in
        let shorter = begins.shorter in
        let place : k.node.to n ≡ L =
        ap k.node.to (sym (begins.same L (omega arith) ∙ last_of w.listed n)) ∙ node_of_listed c fit closed network.some L (omega arith) in
        let before : (j : ℕ) → j < L → is_in j listed ≡ true = λ j h.
        let at : k.node.to (get_or w.listed j 0) ≡ j =
        ap k.node.to (sym (begins.same j (omega arith) ∙ front w.listed (n ∷ []) j h)) ∙ node_of_listed c fit closed network.some j (omega arith) in
        subst (λ m. is_in m listed ≡ true) at (in_image k.node.to one (get_or w.listed j 0) w.listed ∙ in_at w.listed j h) in
        let fresh : is_in (k.node.to n) listed ≡ false = in_image k.node.to one n w.listed ∙ new in
        elim (cases_Bool (source_at (slice_get c.nodes n))) [
          | inl is ↦ next_source d listed (k.node.to n) (new_inside n inside) (ap source_at (k.nodes n) ∙ source_image k.wire.to (slice_get c.nodes n) ∙ is)
              (λ j h s. before j (omega arith)) fresh
          | inr other ↦ next_other d listed (sources (left_sources c w.listed n e other)) (k.node.to n) (new_inside n inside)
              (λ j h. before j (omega arith)) fresh
        ]

    -- the node that is next is the next one of the whole walk
    begins_next : (j n : ℕ) → slice_get w.numbered w.visited ≡ None → next_left c w.listed ≡ Some n → walked c (suc j) w ≡ end
        → Begins (w.listed ++ n ∷ []) end.listed
    begins_next j n past f e =
        let v = list_node c n w in
        let is : walk_step c w ≡ Some v = ap (λ a. step_at c w a (next_left c w.listed)) past ∙ ap (step_at c w None) f in
        let on : walked c j v ≡ end = sym (walked_first c w v is j) ∙ e in
        let same : v.listed ≡ w.listed ++ n ∷ [] = ap (λ (u : Walk). u.listed) (list_fresh c n w (left_is c w.listed n f).1) in
        subst (λ l. Begins l end.listed) same (subst (λ (u : Walk). Begins v.listed u.listed) on (extends_walked c j v).listed)

    next_under : (j : ℕ) → walked c (suc j) w ≡ end → slice_get w.numbered w.visited ≡ None
        → next_left d listed ≡ option_map k.node.to (next_left c w.listed)
    next_under j e past = at (next_left c w.listed) refl
      where
        at : (o : Option ℕ) → next_left c w.listed ≡ o → next_left d listed ≡ option_map k.node.to o
        at None f = none_next f
        at (Some n) f = some_next n f (begins_next j n past f e)

    step_under : (j : ℕ) → Holds c w → walked c (suc j) w ≡ end → walk_step d (under w) ≡ option_map under (walk_step c w)
    step_under j h e =
        ap (λ a. step_at d (under w) a (next_left d listed)) (slice_get-map k.wire.to w.numbered w.visited)
        ∙ step_image c d k network closed w (slice_get w.numbered w.visited) (next_left c w.listed)
        (λ x is. (visits c fit closed w x h is).1) (next_left d listed) (next_under j e)

  walked_under : (j : ℕ) (w : Walk) → Holds c w → walked c j w ≡ end → walked d j (under w) ≡ under (walked c j w)
  walked_under zero w h e = walked_none d (under w) ∙ sym (ap under (walked_none c w))
  walked_under (suc j) w h e = at (walk_step c w) refl (λ v hv f. walked_under j v hv f)
    where
      at : (o : Option Walk) → walk_step c w ≡ o → ((v : Walk) → Holds c v → walked c j v ≡ end → walked d j (under v) ≡ under (walked c j v))
          → walked d (suc j) (under w) ≡ under (walked c (suc j) w)
      at None is f =
          let there : walk_step d (under w) ≡ None = step_under w j h e ∙ ap (option_map under) is in
          walked_stays d (under w) there (suc j) ∙ sym (ap under (walked_stays c w is (suc j)))
      at (Some v) is f =
          let there : walk_step d (under w) ≡ Some (under v) = step_under w j h e ∙ ap (option_map under) is in
          let first = walked_first c w v is j in
          walked_first d (under w) (under v) there j
          ∙ f v (steps c fit closed w h (slice_get w.numbered w.visited) refl (next_left c w.listed) refl v is).0 (sym first ∙ e)
          ∙ sym (ap under first)

  whole : walk_of d ≡ under end
  whole =
      let many : d.wires + length d.nodes ≡ c.wires + length c.nodes = omega (arith, as_many, walk_wires c) in
      ap (λ n. walked d n (outset d)) many ∙ ap (walked d (c.wires + length c.nodes)) (outset_image c d k network closed)
      ∙ walked_under (c.wires + length c.nodes) (outset c) (begun c fit closed network.some) refl

  listed_range : map k.node.to end.listed ≡ range_with_len 0 (length c.nodes)
  listed_range =
      let sized = listed_sized c fit closed network.some in
      let long = length-map end.listed k.node.to in
      same_number_lists (map k.node.to end.listed) (range_with_len 0 (length c.nodes)) (omega (arith, length-range_with_len 0 (length c.nodes)))
      (λ i h. get_or-map k.node.to end.listed i 0 0 (omega arith) ∙ node_of_listed c fit closed network.some i (omega arith)
      ∙ sym (ranged (length c.nodes) i (omega arith)))

  numbered_range : map k.wire.to end.numbered ≡ range_with_len 0 c.wires
  numbered_range =
      let sized = numbered_sized c fit closed network.some in
      let long = length-map end.numbered k.wire.to in
      same_number_lists (map k.wire.to end.numbered) (range_with_len 0 c.wires) (omega (arith, length-range_with_len 0 c.wires))
      (λ i h. get_or-map k.wire.to end.numbered i 0 0 (omega arith) ∙ wire_of_numbered c fit closed network.some i (omega arith)
      ∙ sym (ranged c.wires i (omega arith)))

  pub walk_again : IsInWalkOrder (walk c)
  walk_again =
      let wired : AllByRecursion (IsWired d.wires) d.nodes = (walk_preserved c network closed).network.wired in
      let table = range_with_len 0 c.wires in
      let same : (w : ℕ) → w < d.wires → get_or table w 0 ≡ w = λ w h. ranged c.wires w (omega (arith, walk_wires c)) in
      let placed : (w : ℕ) → w < d.wires → get_or table w 0 ≡ position_or_len (nat_eq w) (walk_of d).numbered = λ w h.
      same w h ∙ sym (ap (λ (u : Walk). position_or_len (nat_eq w) u.numbered) whole ∙ ap (position_or_len (nat_eq w)) numbered_range
      ∙ first_is (nat_eq w) c.wires w (omega (arith, walk_wires c)) (eq-eqb w w refl) (λ v l e. sym (eqb-true w v e))) in
      let nodes = walk_by_table d wired table (range_with_len 0 (length c.nodes)) placed (sym (ap (λ (u : Walk). u.listed) whole ∙ listed_range)) in
      let ids = all_kept d (λ w. get_or table w 0) same d.nodes wired 0 (λ i h. ap (slice_get d.nodes) (let z : 0 + i ≡ i = omega arith in z)) in
      walk_as d d.nodes (sym ids ∙ ap (λ n. moved_all (λ w. get_or table w 0) d (range_with_len 0 n)) as_many ∙ nodes)
