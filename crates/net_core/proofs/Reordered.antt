-- A list of nodes in another order and with other wire numbers, as a network.
use Rattle.std.proofs.Common.{◌≡◌, ◌≢◌, ◌↔◌, inl, inr, ℕ, zero, suc, ◌<◌, List, [], ◌∷◌, drop, Bool, true, false, Option, None, Some, refl, sym, ap, ◌∙◌, subst, arith, ne_eqb, eq-eqb}
use Rattle.std.specs.Prelude.{slice_get, option_map, nat_eq, IsTrue}
use Rattle.std.specs.List.{AllByRecursion}
use Rattle.std.proofs.lemmas.Bool.{cases_eq}
use Rattle.std.proofs.lemmas.List.{length-map}
use Rattle.std.proofs.lemmas.Option.{none-some, same_Some, slice_get_within}
use Rattle.net_core.specs.declared.spec.NodeSpec.{NodeSpec}
use Rattle.net_core.specs.Specs.{is_kind}
use Rattle.net_core.specs.Wiring.{Node, Circuit, IsWired, IsNetwork, IsClosed, moved}
use Rattle.net_core.specs.Renumbering.{IsRenumbered, Preserves}
use Rattle.net_core.specs.Networks.{directions_at, directions, gives, takes, end_of, end_at, end_node, end_port, may_of, spec_of, fabric, IsSpecified, SoundFor, Correct, IsBasic, IsClean, Once}
use Rattle.net_core.proofs.Moved.{directions_moved, may_moved, end_moved, all_from, all_moved, node_at}
use Rattle.net_core.proofs.Ends.{side_of, closed_by_counts}
use Rattle.net_core.proofs.Found.{Located, found_only, gives_there, takes_there, gives_located, takes_located, port_within, all_nodes}
use Rattle.net_core.proofs.Components.{parts_same}
use Rattle.net_core.proofs.Renumbered.{Renumbers, renumbered_sound, renumbered_exact}

spec_moved : (f : ℕ → ℕ) (o : Option Node) → spec_of (option_map (moved f) o) ≡ spec_of o
spec_moved f None = refl
spec_moved f (Some x) = refl

module _ (c d : Circuit) (k : IsRenumbered c d) (network : IsNetwork c) (closed : IsClosed c) where
  abbrev fit : AllByRecursion (IsWired c.wires) c.nodes
  fit = network.wired

  same_node : (n m : ℕ) → k.node.to n ≡ k.node.to m → n ≡ m
  same_node n m e = sym (k.node.to_back n) ∙ ap k.node.back e ∙ k.node.to_back m

  same_wire : (v w : ℕ) → k.wire.to v ≡ k.wire.to w → v ≡ w
  same_wire v w e = sym (k.wire.to_back v) ∙ ap k.wire.back e ∙ k.wire.to_back w

  outside_test : (n : ℕ) → nat_eq (k.node.to n) 0 ≡ nat_eq n 0
  outside_test n = elim (cases_eq n 0) [
    | inl e ↦ eq-eqb (k.node.to n) 0 (ap k.node.to e ∙ k.outside) ∙ sym (eq-eqb n 0 e)
    | inr h ↦ ne_eqb (k.node.to n) 0 (λ e. h (same_node n 0 (e ∙ sym k.outside))) ∙ sym (ne_eqb n 0 h)
  ]

  same_directions : (n : ℕ) → directions d (k.node.to n) ≡ directions c n
  same_directions n = ap (directions_at (k.node.to n)) (k.nodes n) ∙ directions_moved k.wire.to (k.node.to n) n (slice_get c.nodes n) (outside_test n)

  same_gives : (n p : ℕ) → gives d (k.node.to n) p ≡ gives c n p
  same_gives n p = ap (λ ds. side_of true ds p) (same_directions n)

  same_takes : (n p : ℕ) → takes d (k.node.to n) p ≡ takes c n p
  same_takes n p = ap (λ ds. side_of false ds p) (same_directions n)

  new_end : (b : Bool) (n p : ℕ) → side_of b (directions c n) p ≡ true → end_at d (k.node.to n) p ≡ k.wire.to (end_at c n p)
  new_end b n p side =
      let (x, e, l) = port_within b c.nodes n p (slice_get c.nodes n) refl side in
      let fits = all_nodes (IsWired c.wires) c.nodes n x fit e in
      let sized = fits.sized in
      ap (λ o. end_of o p) (k.nodes n) ∙ ap (λ o. end_of (option_map (moved k.wire.to) o) p) e
      ∙ end_moved k.wire.to x.ends p (omega arith) ∙ ap (λ o. k.wire.to (end_of o p)) (sym e)

  gives_at : Located (gives c) c
  gives_at = gives_located c fit closed

  takes_at : Located (takes c) c
  takes_at = takes_located c fit closed

  -- each end of d is an end of c under the new numbers
  old_gives : (m q : ℕ) → gives d m q ≡ true → gives c (k.node.back m) q ≡ true
  old_gives m q g = sym (same_gives (k.node.back m) q) ∙ ap (λ x. gives d x q) (k.node.back_to m) ∙ g

  old_takes : (m q : ℕ) → takes d m q ≡ true → takes c (k.node.back m) q ≡ true
  old_takes m q g = sym (same_takes (k.node.back m) q) ∙ ap (λ x. takes d x q) (k.node.back_to m) ∙ g

  gives_once : (n p : ℕ) → gives c n p ≡ true → (m q : ℕ) → gives d m q ≡ true → end_at d m q ≡ k.wire.to (end_at c n p)
      → (m ≡ k.node.to n) × (q ≡ p)
  gives_once n p g m q h e =
      let old = old_gives m q h in
      let same : end_at c (k.node.back m) q ≡ end_at c n p = same_wire (end_at c (k.node.back m) q) (end_at c n p)
      (sym (new_end true (k.node.back m) q old) ∙ ap (λ x. end_at d x q) (k.node.back_to m) ∙ e) in (
        sym (k.node.back_to m) ∙ ap k.node.to (sym (gives_at.node_at (k.node.back m) q old) ∙ ap (end_node (gives c) c) same ∙ gives_at.node_at n p g),
        sym (gives_at.port_at (k.node.back m) q old) ∙ ap (end_port (gives c) c) same ∙ gives_at.port_at n p g,
      )

  takes_once : (n p : ℕ) → takes c n p ≡ true → (m q : ℕ) → takes d m q ≡ true → end_at d m q ≡ k.wire.to (end_at c n p)
      → (m ≡ k.node.to n) × (q ≡ p)
  takes_once n p g m q h e =
      let old = old_takes m q h in
      let same : end_at c (k.node.back m) q ≡ end_at c n p = same_wire (end_at c (k.node.back m) q) (end_at c n p)
      (sym (new_end false (k.node.back m) q old) ∙ ap (λ x. end_at d x q) (k.node.back_to m) ∙ e) in (
        sym (k.node.back_to m) ∙ ap k.node.to (sym (takes_at.node_at (k.node.back m) q old) ∙ ap (end_node (takes c) c) same ∙ takes_at.node_at n p g),
        sym (takes_at.port_at (k.node.back m) q old) ∙ ap (end_port (takes c) c) same ∙ takes_at.port_at n p g,
      )

  new_from : (w : ℕ) → w < c.wires → (end_node (gives d) d (k.wire.to w) ≡ k.node.to (end_node (gives c) c w)) × (end_port (gives d) d (k.wire.to w) ≡ end_port (gives c) c w)
  new_from w l =
      let n = end_node (gives c) c w in let p = end_port (gives c) c w in
      let g = gives_at.real w l in let e = ap k.wire.to (gives_at.back w l) in
      found_only (gives d) d (gives_there d) (k.wire.to w) (k.node.to n) p (same_gives n p ∙ g) (new_end true n p g ∙ e)
      (λ m q h f. gives_once n p g m q h (f ∙ sym e))

  pub new_to : (w : ℕ) → w < c.wires → (end_node (takes d) d (k.wire.to w) ≡ k.node.to (end_node (takes c) c w)) × (end_port (takes d) d (k.wire.to w) ≡ end_port (takes c) c w)
  new_to w l =
      let n = end_node (takes c) c w in let p = end_port (takes c) c w in
      let g = takes_at.real w l in let e = ap k.wire.to (takes_at.back w l) in
      found_only (takes d) d (takes_there d) (k.wire.to w) (k.node.to n) p (same_takes n p ∙ g) (new_end false n p g ∙ e)
      (λ m q h f. takes_once n p g m q h (f ∙ sym e))

  pub reordered : Renumbers (fabric c) (fabric d)
  reordered = record {
    node = k.node.to;
    node_back = k.node.back;
    node_old = k.node.to_back;
    node_new = k.node.back_to;
    wire = k.wire.to;
    wire_back = k.wire.back;
    wire_old = k.wire.to_back;
    wire_new = k.wire.back_to;
    outside = k.outside;
    may = λ n t. subst (λ o. may_of o t ↔ may_of (slice_get c.nodes n) t) (sym (k.nodes n))
        (subst (λ X. X ↔ may_of (slice_get c.nodes n) t) (sym (may_moved k.wire.to (slice_get c.nodes n) t)) ((λ h. h), (λ h. h)));
    fires = λ n p. ((λ g. sym (same_gives n p) ∙ g), (λ g. same_gives n p ∙ g));
    drives = λ n p g. new_end true n p g;
    to = λ n p g. (new_to (end_at c n p) (gives_at.known n p g)).0;
    into = λ n p g. (new_to (end_at c n p) (gives_at.known n p g)).1;
  }

  fits_moved : (n : ℕ) (o : Option Node) → slice_get c.nodes n ≡ o → (y : Node) → option_map (moved k.wire.to) o ≡ Some y → IsWired d.wires y
  fits_moved n None e y h = absurd (none-some y h)
  fits_moved n (Some x) e y h =
      let fits = all_nodes (IsWired c.wires) c.nodes n x fit e in
      subst (IsWired d.wires) (same_Some (moved k.wire.to x) y h) (record {
        sized = length-map x.ends k.wire.to ∙ fits.sized;
        known = all_moved k.wire.to x.ends c.wires d.wires (λ w l. (k.wires w).0 l) fits.known;
        formed = fits.formed;
      })

  reordered_wired : AllByRecursion (IsWired d.wires) d.nodes
  reordered_wired = all_from (IsWired d.wires) d.nodes (λ m y e. fits_moved (k.node.back m) (slice_get c.nodes (k.node.back m)) refl y
      (sym (k.nodes (k.node.back m)) ∙ ap (slice_get d.nodes) (k.node.back_to m) ∙ e))

  reordered_network : IsNetwork d
  reordered_network =
      let (x, e) = node_at c.nodes 0 network.some in record {
        some = omega (
          arith,
          slice_get_within d.nodes 0 (moved k.wire.to x)
              (ap (slice_get d.nodes) (sym k.outside) ∙ k.nodes 0 ∙ ap (option_map (moved k.wire.to)) e),
        );
        wired = reordered_wired;
      }

  wire_known : (x : ℕ) → x < d.wires → k.wire.back x < c.wires
  wire_known x l = (k.wires (k.wire.back x)).1 (subst (λ y. y < d.wires) (sym (k.wire.back_to x)) l)

  gives_one : (w : ℕ) → w < c.wires → Once (gives d) d (k.wire.to w)
  gives_one w l =
      let n = end_node (gives c) c w in let p = end_port (gives c) c w in
      let g = gives_at.real w l in let e = ap k.wire.to (gives_at.back w l) in
      (k.node.to n, p, same_gives n p ∙ g, new_end true n p g ∙ e, (λ m q h f. gives_once n p g m q h (f ∙ sym e)))

  takes_one : (w : ℕ) → w < c.wires → Once (takes d) d (k.wire.to w)
  takes_one w l =
      let n = end_node (takes c) c w in let p = end_port (takes c) c w in
      let g = takes_at.real w l in let e = ap k.wire.to (takes_at.back w l) in
      (k.node.to n, p, same_takes n p ∙ g, new_end false n p g ∙ e, (λ m q h f. takes_once n p g m q h (f ∙ sym e)))

  reordered_closed : IsClosed d
  reordered_closed = closed_by_counts d reordered_wired (λ x l. (
    subst (Once (gives d) d) (k.wire.back_to x) (gives_one (k.wire.back x) (wire_known x l)),
    subst (Once (takes d) d) (k.wire.back_to x) (takes_one (k.wire.back x) (wire_known x l)),
  ))

  reordered_clean : IsClean c → IsClean d
  reordered_clean clean x l e =
      let v = k.wire.back x in
      let known = wire_known x l in
      clean v known (same_node (end_node (gives c) c v) (end_node (takes c) c v)
      (sym (new_from v known).0 ∙ ap (end_node (gives d) d) (k.wire.back_to x) ∙ e ∙ ap (end_node (takes d) d) (sym (k.wire.back_to x)) ∙ (new_to v known).0))

  pub reordered_specified : (s : NodeSpec) → IsSpecified c s → IsSpecified d s
  reordered_specified s e = ap (λ n. spec_of (slice_get d.nodes n)) (sym k.outside) ∙ ap spec_of (k.nodes 0) ∙ spec_moved k.wire.to (slice_get c.nodes 0) ∙ e

  reordered_sound_for : (s : NodeSpec) → SoundFor c s → SoundFor d s
  reordered_sound_for s f = record {
    network = reordered_network;
    closed = reordered_closed;
    specified = reordered_specified s f.specified;
    sound = renumbered_sound (fabric c) (fabric d) reordered f.sound;
  }

  reordered_correct : (s : NodeSpec) → Correct c s → Correct d s
  reordered_correct s f = record {
    network = reordered_network;
    closed = reordered_closed;
    specified = reordered_specified s f.specified;
    sound = renumbered_sound (fabric c) (fabric d) reordered f.sound;
    exact = renumbered_exact (fabric c) (fabric d) reordered f.exact;
  }

slice_drop : (xs : List Node) (k : ℕ) → slice_get (drop 1 xs) k ≡ slice_get xs (suc k)
slice_drop [] k = refl
slice_drop (x ∷ xs) k = refl

module _ (c d : Circuit) (k : IsRenumbered c d) (basic : IsBasic c) where
  basic_back : (n : ℕ) → n ≢ 0 → (o : Option Node) → slice_get c.nodes n ≡ o → (y : Node) → option_map (moved k.wire.to) o ≡ Some y → IsTrue (is_kind y.spec)
  basic_back zero ne o e y f = absurd (ne refl)
  basic_back (suc m) ne None e y f = absurd (none-some y f)
  basic_back (suc m) ne (Some x) e y f =
      subst (λ z. IsTrue (is_kind z.spec)) (same_Some (moved k.wire.to x) y f)
      (all_nodes (λ x. IsTrue (is_kind x.spec)) (drop 1 c.nodes) m x basic (slice_drop c.nodes m ∙ e))

  back_later : (j : ℕ) → k.node.back (suc j) ≢ 0
  back_later j e = let same : suc j ≡ 0 = sym (k.node.back_to (suc j)) ∙ ap k.node.to e ∙ k.outside in omega arith

  reordered_basic : IsBasic d
  reordered_basic = all_from (λ x. IsTrue (is_kind x.spec)) (drop 1 d.nodes) (λ j y e.
      basic_back (k.node.back (suc j)) (back_later j) (slice_get c.nodes (k.node.back (suc j))) refl y
      (sym (k.nodes (k.node.back (suc j))) ∙ ap (slice_get d.nodes) (k.node.back_to (suc j)) ∙ sym (slice_drop d.nodes j) ∙ e))

-- a network with other numbers is a network as before
pub preserved : (c d : Circuit) → IsRenumbered c d → IsNetwork c → IsClosed c → Preserves c d
preserved c d k network closed = record {
  network = reordered_network c d k network closed;
  closed = reordered_closed c d k network closed;
  parts = parts_same c d k;
  basic = reordered_basic c d k;
  clean = reordered_clean c d k network closed;
  sound = reordered_sound_for c d k network closed;
  correct = reordered_correct c d k network closed;
}
