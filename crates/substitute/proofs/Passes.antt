-- The loop over the parts, one step at a time.
use Rattle.std.proofs.Common.{◌≡◌, ℕ, zero, suc, ◌+◌, ◌<◌, ◌≤◌, List, [], ◌∷◌, ◌++◌, length, take, drop, get_or, Option, None, Some, refl, sym, ap, ◌∙◌, subst, arith, append_assoc, append-nil, drop-cons, add-one}
use Rattle.std.specs.Prelude.{slice_get}
use Rattle.std.specs.Option.{IfSome}
use Rattle.std.proofs.lemmas.List.{drop_all}
use Rattle.net_core.specs.Wiring.{Node, Circuit}
use Rattle.net_core.specs.Walk.{ends_at}
use Rattle.substitute.specs.Splice.{FitsAt, is_inner}
use Rattle.substitute.specs.Splices.{FitEach, wires_in}
use Rattle.substitute.specs.Mirror.OnePass.{in_place, wires_with, all_in_place, wires_with_all}
use Rattle.substitute.proofs.Tables.{fits_at, rank_few}

-- the nodes f and n wires are there, and the parts from place i on are left
pub record Pass (c : Circuit) (ps : List (Option Circuit)) (f : List Node) (n i : ℕ) : Type 0 where
  pub sized : length ps + 1 ≡ length c.nodes
  pub nodes : f ++ all_in_place n (drop (i + 1) c.nodes) (drop i ps)
      ≡ take 1 c.nodes ++ all_in_place c.wires (drop 1 c.nodes) ps
  pub wires : wires_with_all n (drop i ps) ≡ wires_with_all c.wires ps
  pub room : n + wires_in (drop i ps) ≤ c.wires + wires_in ps
  pub fitting : FitEach c (i + 1) (drop i ps)

first_alone : (xs : List Node) (x : Node) → 0 < length xs → x ≡ get_or xs 0 x → x ∷ [] ≡ take 1 xs
first_alone [] x h e = absurd (omega arith)
first_alone (y ∷ xs) x h e = ap (λ z. z ∷ []) e

pub pass_begins : (c : Circuit) (ps : List (Option Circuit)) (x : Node) → length ps + 1 ≡ length c.nodes
    → FitEach c 1 ps → x ≡ get_or c.nodes 0 x
    → Pass c ps (x ∷ []) c.wires 0
pass_begins c ps x sized fitting e = record {
  sized = sized;
  nodes = ap (λ f. f ++ all_in_place c.wires (drop 1 c.nodes) ps) (first_alone c.nodes x (omega arith) e);
  wires = refl;
  room = omega arith;
  fitting = fitting;
}

pub left_at : {X : Type 0} (xs : List X) (i : ℕ) (x : X) → i < length xs → x ≡ get_or xs i x → drop i xs
    ≡ x ∷ drop (i + 1) xs
left_at xs i x h e = drop-cons xs i x h ∙ (λ k. sym e k ∷ drop (sym (add-one i) k) xs)

stands_at : (xs : List Node) (i : ℕ) (x : Node) → i < length xs → x ≡ get_or xs i x → slice_get xs i ≡ Some x
stands_at [] i x h e = absurd (omega arith)
stands_at (y ∷ xs) zero x h e = ap Some (sym e)
stands_at (y ∷ xs) (suc i) x h e = stands_at xs i x (omega arith) e

module _ (c : Circuit) (ps : List (Option Circuit)) (f : List Node) (n i : ℕ) (pass : Pass c ps f n i) where
  module _ (x : Node) (p : Option Circuit) (within : i < length ps) (node : x ≡ get_or c.nodes (i + 1) x)
      (part : p ≡ get_or ps i p) where
    parts_left : drop i ps ≡ p ∷ drop (i + 1) ps
    parts_left = left_at ps i p within part

    node_in : i + 1 < length c.nodes
    node_in = let s = pass.sized in omega arith

    nodes_left : drop (i + 1) c.nodes ≡ x ∷ drop (i + 1 + 1) c.nodes
    nodes_left = left_at c.nodes (i + 1) x node_in node

    fits_first : (q : Option Circuit) → FitEach c (i + 1) (q ∷ drop (i + 1) ps) → IfSome q (FitsAt x.ends)
    fits_first None h = tt
    fits_first (Some m) h = subst (λ o. FitsAt (ends_at o) m) (stands_at c.nodes (i + 1) x node_in node)
        (fits_at c (i + 1) m h.0)

    pub pass_fits : IfSome p (FitsAt x.ends)
    pass_fits = fits_first p (subst (FitEach c (i + 1)) parts_left pass.fitting)

    one_and_more : (q : Option Circuit) (qs : List (Option Circuit)) → wires_in (q ∷ qs)
        ≡ wires_in (q ∷ []) + wires_in qs
    one_and_more None qs = omega arith
    one_and_more (Some m) qs = omega arith

    pub pass_room : n + wires_in (p ∷ []) ≤ c.wires + wires_in ps
    pass_room = omega (arith, pass.room, ap wires_in parts_left, one_and_more p (drop (i + 1) ps))

    wires_some : (q : Option Circuit) → wires_with n q ≤ n + wires_in (q ∷ [])
    wires_some None = omega arith
    wires_some (Some m) = omega (arith, rank_few (is_inner m) m.wires)

    fits_rest : (q : Option Circuit) → FitEach c (i + 1) (q ∷ drop (i + 1) ps)
        → FitEach c (i + 1 + 1) (drop (i + 1) ps)
    fits_rest None h = subst (λ k. FitEach c k (drop (i + 1) ps)) (sym (add-one (i + 1))) h
    fits_rest (Some m) h = subst (λ k. FitEach c k (drop (i + 1) ps)) (sym (add-one (i + 1))) h.1

    pub pass_next : Pass c ps (f ++ in_place n x p) (wires_with n p) (i + 1)
    pass_next = record {
      sized = pass.sized;
      nodes = append_assoc f (in_place n x p)
          (all_in_place (wires_with n p) (drop (i + 1 + 1) c.nodes) (drop (i + 1) ps))
          ∙ sym (λ k. f ++ all_in_place n (nodes_left k) (parts_left k)) ∙ pass.nodes;
      wires = sym (ap (wires_with_all n) parts_left) ∙ pass.wires;
      room = omega (arith, pass.room, ap wires_in parts_left, one_and_more p (drop (i + 1) ps), wires_some p);
      fitting = fits_rest p (subst (FitEach c (i + 1)) parts_left pass.fitting);
    }

  module _ (past : length ps ≤ i) where
    no_parts : drop i ps ≡ []
    no_parts = drop_all i ps past

    no_nodes : drop (i + 1) c.nodes ≡ []
    no_nodes = drop_all (i + 1) c.nodes (let s = pass.sized in omega arith)

    pub pass_nodes : f ≡ take 1 c.nodes ++ all_in_place c.wires (drop 1 c.nodes) ps
    pass_nodes = sym (append-nil f) ∙ sym (λ k. f ++ all_in_place n (no_nodes k) (no_parts k)) ∙ pass.nodes

    pub pass_wires : n ≡ wires_with_all c.wires ps
    pass_wires = sym (ap (wires_with_all n) no_parts) ∙ pass.wires
