-- In walk order the environment's port p is at the wire p, where no wire leads from the environment to itself.
use Rattle.std.proofs.Common.{◌≡◌, ℕ, zero, suc, ◌+◌, ◌<◌, ◌≤◌, Bool, true, false, not, List, [], ◌∷◌, ◌++◌, length, get_or, Option, None, Some, refl, sym, ap, ◌∙◌, subst, arith, inl, inr, length-append, append_assoc}
use Rattle.std.specs.Prelude.{nat_eq, slice_get, option_map, if◌then◌else◌}
use Rattle.std.specs.List.{AllByRecursion, position_or_len}
use Rattle.std.proofs.lemmas.Bool.{cases_Bool, cases_eq, cases_lt}
use Rattle.std.proofs.lemmas.List.{get_or_default}
use Rattle.std.proofs.lemmas.Option.{none-some, same_Some}
use Rattle.net_core.specs.Wiring.{Node, Circuit, IsWired, IsClosed, count, moved}
use Rattle.net_core.specs.Networks.{directions_at, directions, gives, takes, end_of, end_at, end_node, end_port, IsThrough}
use Rattle.cmd_tree.specs.Lists.{is_in}
use Rattle.net_core.specs.Walk.{Walk, with_new, output_wires, list_node, next_left, step_at, walk_step, goes_on, walked, ends_at, walk, walk_of}
use Rattle.net_core.proofs.Counting.{count_nil, count_same, count_other, count-append}
use Rattle.net_core.proofs.Moved.{end_moved, node_at}
use Rattle.net_core.proofs.Found.{all_nodes, same_ports, gives_located, takes_located}
use Rattle.net_core.proofs.Places.{count_at, place_of}
use Rattle.net_core.proofs.WithNew.{in_counted}
use Rattle.net_core.proofs.Walked.{ended}
use Rattle.net_core.proofs.WalkOrder.{moved_inside}

-- ---- numbers stay where they are

pub record Begins (xs ys : List ℕ) : Type 0 where
  pub shorter : length xs ≤ length ys
  pub same : (p : ℕ) → p < length xs → get_or ys p 0 ≡ get_or xs p 0

begins_same : (xs : List ℕ) → Begins xs xs
begins_same xs = record { shorter = omega arith; same = λ p h. refl }

begins_then : (xs ys zs : List ℕ) → Begins xs ys → Begins ys zs → Begins xs zs
begins_then xs ys zs a b = record { shorter = omega (arith, a.shorter, b.shorter); same = λ p h. b.same p (omega (arith, a.shorter)) ∙ a.same p h }

pub front : (xs ys : List ℕ) (p : ℕ) → p < length xs → get_or (xs ++ ys) p 0 ≡ get_or xs p 0
front [] ys p h = absurd (omega arith)
front (x ∷ xs) ys zero h = refl
front (x ∷ xs) ys (suc p) h = front xs ys p (omega arith)

begins_more : (xs ys : List ℕ) → Begins xs (xs ++ ys)
begins_more xs ys = record { shorter = omega (arith, length-append xs ys); same = front xs ys }

begins_put : (b : Bool) (w : ℕ) (ns : List ℕ) → Begins ns (if b then ns else ns ++ w ∷ [])
begins_put true w ns = begins_same ns
begins_put false w ns = begins_more ns (w ∷ [])

begins_new : (ns vs : List ℕ) → Begins ns (with_new ns vs)
unfolding with_new
begins_new ns [] = begins_same ns
begins_new ns (w ∷ vs) =
    begins_then ns (if is_in w ns then ns else ns ++ w ∷ []) (with_new (if is_in w ns then ns else ns ++ w ∷ []) vs)
    (begins_put (is_in w ns) w ns) (begins_new (if is_in w ns then ns else ns ++ w ∷ []) vs)

-- what the walk v lists and numbers stands at the same places in w
pub record Extends (v w : Walk) : Type 0 where
  pub listed : Begins v.listed w.listed
  pub numbered : Begins v.numbered w.numbered

extends_same : (w : Walk) → Extends w w
extends_same w = record { listed = begins_same w.listed; numbered = begins_same w.numbered }

extends_then : (u v w : Walk) → Extends u v → Extends v w → Extends u w
extends_then u v w a b = record {
  listed = begins_then u.listed v.listed w.listed a.listed b.listed;
  numbered = begins_then u.numbered v.numbered w.numbered a.numbered b.numbered;
}

extends_listed : (c : Circuit) (n : ℕ) (w : Walk) → Extends w (list_node c n w)
extends_listed c n w = elim (cases_Bool (is_in n w.listed)) [
  | inl is ↦ rw is (extends_same w)
  | inr new ↦ rw new (record { listed = begins_more w.listed (n ∷ []); numbered = begins_new w.numbered (output_wires (slice_get c.nodes n)) })
]

extends_step : (c : Circuit) (w : Walk) (a o : Option ℕ) (v : Walk) → step_at c w a o ≡ Some v → Extends w v
extends_step c w (Some x) o v e =
    let on = extends_listed c (end_node (takes c) c x) (record w { visited = suc w.visited }) in
    subst (λ u. Extends w u) (same_Some _ v e) (record { listed = on.listed; numbered = on.numbered })
extends_step c w None (Some n) v e = subst (λ u. Extends w u) (same_Some (list_node c n w) v e) (extends_listed c n w)
extends_step c w None None v e = absurd (none-some v e)

pub extends_walked : (c : Circuit) (k : ℕ) (w : Walk) → Extends w (walked c k w)
unfolding walked
extends_walked c zero w = extends_same w
extends_walked c (suc k) w = at (walk_step c w) refl (λ v. extends_walked c k v)
  where
    at : (o : Option Walk) → walk_step c w ≡ o → ((v : Walk) → Extends v (walked c k v)) → Extends w (goes_on w (walked c k) o)
    at None e f = extends_same w
    at (Some v) e f = extends_then w v (walked c k v) (extends_step c w (slice_get w.numbered w.visited) (next_left c w.listed) v e) (f v)

-- ---- a list without repetition is numbered as it is

new_distinct : (ns vs : List ℕ) → ((v : ℕ) → count v (ns ++ vs) ≤ 1) → with_new ns vs ≡ ns ++ vs
unfolding with_new
new_distinct ns [] once = sym (append_nil_of ns)
  where
    append_nil_of : (xs : List ℕ) → xs ++ [] ≡ xs
    append_nil_of [] = refl
    append_nil_of (x ∷ xs) = ap (λ ys. x ∷ ys) (append_nil_of xs)
new_distinct ns (w ∷ vs) once = elim (cases_Bool (is_in w ns)) [
  | inl is ↦ absurd (omega (arith, in_counted w ns is, once w, count-append w ns (w ∷ vs), count_same w vs))
  | inr new ↦ rw new (new_distinct (ns ++ w ∷ []) vs (λ v. subst (λ xs. count v xs ≤ 1) (sym (append_assoc ns (w ∷ []) vs)) (once v))
      ∙ append_assoc ns (w ∷ []) vs)
]

once_by_places : (xs : List ℕ) → ((i j : ℕ) → i < length xs → j < length xs → get_or xs i 0 ≡ get_or xs j 0 → i ≡ j) → (w : ℕ) → count w xs ≤ 1
once_by_places [] apart w = omega (arith, count_nil w)
once_by_places (x ∷ xs) apart w =
    let rest : count w xs ≤ 1 = once_by_places xs (λ i j h l e. let s : suc i ≡ suc j = apart (suc i) (suc j) (omega arith) (omega arith) e in omega arith) w in
    elim (cases_eq w x) [
      | inl e ↦ elim (cases_lt 0 (count w xs)) [
        | inl more ↦
            let (k, l, at) = count_at w xs more in
            let z : ◌≡◌ {A = ℕ} 0 (suc k) = apart 0 (suc k) (omega arith) (omega arith) (sym e ∙ sym at) in
            absurd (omega arith)
        | inr none ↦ subst (λ y. count w (y ∷ xs) ≤ 1) e (omega (arith, count_same w xs))
      ]
      | inr ne ↦ omega (arith, count_other w x xs ne)
    ]

end_is : (o : Option Node) (p : ℕ) → get_or (ends_at o) p 0 ≡ end_of o p
end_is None p = refl
end_is (Some x) p = refl

end_mapped : (f : ℕ → ℕ) (o : Option Node) (p : ℕ) → p < length (ends_at o) → end_of (option_map (moved f) o) p ≡ f (end_of o p)
end_mapped f None p h = absurd (omega arith)
end_mapped f (Some x) p h = end_moved f x.ends p h

module _ (c : Circuit) (fit : AllByRecursion (IsWired c.wires) c.nodes) (closed : IsClosed c) (some : 0 < length c.nodes)
    (through : (w : ℕ) → w < c.wires → IsThrough c w → ⊥) where
  abbrev outer : List ℕ
  outer = ends_at (slice_get c.nodes 0)

  outer_sized : length outer ≡ length (directions c 0)
  outer_sized =
      let (x, e) = node_at c.nodes 0 some in
      let fits = all_nodes (IsWired c.wires) c.nodes 0 x fit e in
      ap (λ o. length (ends_at o)) e ∙ fits.sized ∙ sym (same_ports 0 x) ∙ ap (λ o. length (directions_at 0 o)) (sym e)

  outer_takes : (p : ℕ) → p < length (directions c 0) → gives c 0 p ≡ false → takes c 0 p ≡ true
  outer_takes p h g = ap not (get_or_default (directions c 0) p true false h ∙ g)

  outer_apart : (p q : ℕ) → p < length (directions c 0) → q < length (directions c 0) → end_at c 0 p ≡ end_at c 0 q → p ≡ q
  outer_apart p q h l e =
      let g = gives_located c fit closed in
      let t = takes_located c fit closed in
      elim (cases_Bool (gives c 0 p)) [
        | inl a ↦ elim (cases_Bool (gives c 0 q)) [
          | inl b ↦ sym (g.port_at 0 p a) ∙ ap (end_port (gives c) c) e ∙ g.port_at 0 q b
          | inr b ↦ absurd (through (end_at c 0 p) (g.known 0 p a)
              (g.node_at 0 p a, ap (end_node (takes c) c) e ∙ t.node_at 0 q (outer_takes q l b)))
        ]
        | inr a ↦ elim (cases_Bool (gives c 0 q)) [
          | inl b ↦ absurd (through (end_at c 0 q) (g.known 0 q b)
              (g.node_at 0 q b, ap (end_node (takes c) c) (sym e) ∙ t.node_at 0 p (outer_takes p h a)))
          | inr b ↦ sym (t.port_at 0 p (outer_takes p h a)) ∙ ap (end_port (takes c) c) e ∙ t.port_at 0 q (outer_takes q l b)
        ]
      ]

  outer_once : (w : ℕ) → count w outer ≤ 1
  outer_once = once_by_places outer (λ i j h l e. outer_apart i j (omega (arith, outer_sized)) (omega (arith, outer_sized))
      (sym (end_is (slice_get c.nodes 0) i) ∙ e ∙ end_is (slice_get c.nodes 0) j))

  begun_as : with_new [] outer ≡ outer
  begun_as = new_distinct [] outer outer_once

  begins : Begins (with_new [] outer) (walk_of c).numbered
  begins = (extends_walked c (c.wires + length c.nodes) (record { listed = 0 ∷ []; numbered = with_new [] outer; visited = 0 })).numbered

  abbrev number : ℕ → ℕ
  number w = position_or_len (nat_eq w) (walk_of c).numbered

  number_of_end : (p : ℕ) → p < length (directions c 0) → number (end_at c 0 p) ≡ p
  number_of_end p h =
      let holds = (ended c fit closed some).0 in
      let size : length (with_new [] outer) ≡ length outer = ap (λ (xs : List ℕ). length xs) begun_as in
      let here : get_or (walk_of c).numbered p 0 ≡ end_at c 0 p =
      begins.same p (omega (arith, outer_sized)) ∙ ap (λ xs. get_or xs p 0) begun_as ∙ end_is (slice_get c.nodes 0) p in
      ap number (sym here) ∙ place_of (walk_of c).numbered holds.once p (omega (arith, outer_sized, begins.shorter))

  pub first_wires : (p : ℕ) → p < length (directions c 0) → end_at (walk c) 0 p ≡ p
  unfolding walk
  first_wires p h =
      let holds = (ended c fit closed some).0 in
      ap (λ o. end_of o p) (moved_inside number c (walk_of c).listed holds.there 0 holds.some ∙ ap (λ n. option_map (moved number) (slice_get c.nodes n)) holds.first)
      ∙ end_mapped number (slice_get c.nodes 0) p (omega (arith, outer_sized))
      ∙ number_of_end p h
