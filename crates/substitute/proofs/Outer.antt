-- The wires of a part that have an end at its environment, and the port there.
use Rattle.std.proofs.Common.{◌≡◌, ◌≢◌, ℕ, zero, suc, ◌+◌, ◌<◌, true, false, List, [], ◌∷◌, ◌++◌, length, map, get_or, Some, refl, sym, ap, ◌∙◌, subst, arith, eq-eqb, ne_eqb, inl, inr}
use Rattle.std.specs.Prelude.{slice_get}
use Rattle.std.specs.List.{AllByRecursion, range_with_len}
use Rattle.std.proofs.lemmas.Bool.{cases_eq, false≢true}
use Rattle.std.proofs.lemmas.List.FromFn.{map-range_with_len_more}
use Rattle.net_core.specs.Wiring.{Node, Circuit, IsWired, IsClosed}
use Rattle.net_core.specs.Networks.{directions_at, directions}
use Rattle.net_core.specs.Walk.{ends_at}
use Rattle.net_core.proofs.Found.{gives_located, takes_located, all_nodes, same_ports}
use Rattle.substitute.specs.Splice.{driver, receiver, output_port, input_port, is_inner, rank, renumber_at}
use Rattle.substitute.specs.Mirror.Outer.{IsOuter}
use Rattle.substitute.proofs.NewNumbers.{entering_number, leaving_number, inner_number}
use Rattle.substitute.proofs.Ranks.{rank_next, rank_stays, rank_zero}

pub node_at : (xs : List Node) (n : ℕ) → n < length xs → (x : Node) × (slice_get xs n ≡ Some x)
node_at [] n h = absurd (omega arith)
node_at (x ∷ xs) zero h = (x, refl)
node_at (x ∷ xs) (suc n) h = node_at xs n (omega arith)

inner_not_from : (m : Circuit) (w : ℕ) → driver m w ≡ 0 → is_inner m w ≡ false
unfolding is_inner
inner_not_from m w from = rw (eq-eqb (driver m w) 0 from) refl

inner_not_to : (m : Circuit) (w : ℕ) → ◌≢◌ {A = ℕ} (driver m w) 0 → receiver m w ≡ 0 → is_inner m w ≡ false
unfolding is_inner
inner_not_to m w apart to = rw (ne_eqb (driver m w) 0 apart, eq-eqb (receiver m w) 0 to) refl

module _ (m : Circuit) (fit : AllByRecursion (IsWired m.wires) m.nodes) (closed : IsClosed m) (w : ℕ) (known : w < m.wires) (p : ℕ) where
  port_inside : 0 < length m.nodes → p < length (directions m 0) → p < length (ends_at (slice_get m.nodes 0))
  port_inside some h =
      let (y, there) = node_at m.nodes 0 some in
      let fits : IsWired m.wires y = all_nodes (IsWired m.wires) m.nodes 0 y fit there in
      omega (arith, fits.sized, same_ports 0 y, ap (λ o. length (directions_at 0 o)) there, ap (λ o. length (ends_at o)) there)

  pub comes_from : driver m w ≡ 0 → output_port m w ≡ p → IsOuter m w p
  comes_from from at = record {
    outer = inner_not_from m w from;
    inside =
        let g = gives_located m fit closed in
        let there = g.there (driver m w) (output_port m w) (g.real w known) in
        port_inside (subst (λ n. n < length m.nodes) from there.0)
        (subst (λ q. q < length (directions m 0)) at (subst (λ n. output_port m w < length (directions m n)) from there.1));
    fused = λ ends first. entering_number ends first m w from ∙ ap (λ q. get_or ends q 0) at;
  }

  pub leads_to : ◌≢◌ {A = ℕ} (driver m w) 0 → receiver m w ≡ 0 → input_port m w ≡ p → IsOuter m w p
  leads_to apart to at = record {
    outer = inner_not_to m w apart to;
    inside =
        let g = takes_located m fit closed in
        let there = g.there (receiver m w) (input_port m w) (g.real w known) in
        port_inside (subst (λ n. n < length m.nodes) to there.0)
        (subst (λ q. q < length (directions m 0)) at (subst (λ n. input_port m w < length (directions m n)) to there.1));
    fused = λ ends first. leaving_number ends first m w apart to ∙ ap (λ q. get_or ends q 0) at;
  }

-- the numbers of the wires below w, and the next new number
pub record Numbered (ends : List ℕ) (first : ℕ) (m : Circuit) (table : List ℕ) (next w : ℕ) : Type 0 where
  pub table_is : table ≡ map (renumber_at ends first m) (range_with_len 0 w)
  pub next_is : next ≡ first + rank (is_inner m) w

pub numbered_none : (ends : List ℕ) (first : ℕ) (m : Circuit) (table : List ℕ) → table ≡ [] → Numbered ends first m table first 0
numbered_none ends first m table is = record {
  table_is = is;
  next_is = omega (arith, rank_zero (is_inner m));
}

inner_ends : (m : Circuit) (w : ℕ) → is_inner m w ≡ true → ◌≢◌ {A = ℕ} (driver m w) 0 × ◌≢◌ {A = ℕ} (receiver m w) 0
inner_ends m w inner = elim (cases_eq (driver m w) 0) [
  | inl e ↦ absurd (false≢true (sym (inner_not_from m w e) ∙ inner))
  | inr apart ↦ (apart, λ e. false≢true (sym (inner_not_to m w apart e) ∙ inner))
]

module _ (ends : List ℕ) (first : ℕ) (m : Circuit) (table : List ℕ) (next w : ℕ) (n : Numbered ends first m table next w) where
  longer : (v : ℕ) → renumber_at ends first m w ≡ v → table ++ v ∷ [] ≡ map (renumber_at ends first m) (range_with_len 0 (w + 1))
  longer v is =
      let at : 0 + w ≡ w = omega arith in
      ap (λ (l : List ℕ). l ++ v ∷ []) n.table_is ∙ ap (λ k. map (renumber_at ends first m) (range_with_len 0 w) ++ k ∷ []) (sym is)
      ∙ sym (map-range_with_len_more (renumber_at ends first m) 0 w w at)

  pub numbered_outer : (p : ℕ) → IsOuter m w p → Numbered ends first m (table ++ get_or ends p 0 ∷ []) next (w + 1)
  numbered_outer p o =
      let one : suc w ≡ w + 1 = omega arith in record {
        table_is = longer (get_or ends p 0) (o.fused ends first);
        next_is = n.next_is ∙ ap (λ k. first + k) (sym (rank_stays (is_inner m) w o.outer)) ∙ ap (λ k. first + rank (is_inner m) k) one;
      }

  pub numbered_inner : is_inner m w ≡ true → Numbered ends first m (table ++ next ∷ []) (next + 1) (w + 1)
  numbered_inner inner =
      let apart = inner_ends m w inner in
      let one : suc w ≡ w + 1 = omega arith in record {
        table_is = longer next (inner_number ends first m w apart.0 apart.1 ∙ sym n.next_is);
        next_is = omega (arith, n.next_is, rank_next (is_inner m) w inner, ap (rank (is_inner m)) one);
      }
