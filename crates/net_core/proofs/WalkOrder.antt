-- A closed network in walk order is the same network with other numbers.
use Rattle.std.proofs.Common.{◌≡◌, ◌↔◌, ℕ, zero, suc, ◌<◌, ◌≤◌, List, [], ◌∷◌, ◌++◌, map, length, get_or, Option, None, Some, refl, sym, ap, ◌∙◌, subst, arith, inl, inr}
use Rattle.std.specs.Prelude.{nat_eq, slice_get, option_map}
use Rattle.std.specs.List.{AllByRecursion, position_or_len}
use Rattle.std.proofs.lemmas.Bool.{cases_lt}
use Rattle.std.proofs.lemmas.Option.{none-some, slice_get_past}
use Rattle.net_core.specs.Wiring.{Node, Circuit, IsWired, IsNetwork, IsClosed, count, moved}
use Rattle.net_core.specs.Networks.{gives, end_node, end_port}
use Rattle.net_core.specs.Renumbering.{IsRenumbered, Preserves}
use Rattle.net_core.specs.Walk.{Walk, walk, walk_of, moved_at, moved_all}
use Rattle.net_core.proofs.Counting.{all_at}
use Rattle.net_core.proofs.Found.{all_nodes, gives_located}
use Rattle.net_core.proofs.Moved.{node_at}
use Rattle.net_core.proofs.Places as places
use Rattle.net_core.proofs.Walked.{Holds, ended, all_listed}
use Rattle.net_core.proofs.Reordered.{preserved}

-- the nodes of the new network, one by one
module _ (f : ℕ → ℕ) (c : Circuit) where
  moved_first : (n : ℕ) (rest : List Node) (o : Option Node) → slice_get c.nodes n ≡ o → n < length c.nodes
      → slice_get (moved_at f o ++ rest) 0 ≡ option_map (moved f) o
  moved_first n rest None e h = let (x, is) = node_at c.nodes n h in absurd (none-some x (sym e ∙ is))
  moved_first n rest (Some x) e h = refl

  moved_later : (n k : ℕ) (rest : List Node) (o : Option Node) → slice_get c.nodes n ≡ o → n < length c.nodes
      → slice_get (moved_at f o ++ rest) (suc k) ≡ slice_get rest k
  moved_later n k rest None e h = let (x, is) = node_at c.nodes n h in absurd (none-some x (sym e ∙ is))
  moved_later n k rest (Some x) e h = refl

  pub moved_inside : (ns : List ℕ) → AllByRecursion (λ n. n < length c.nodes) ns → (k : ℕ) → k < length ns
      → slice_get (moved_all f c ns) k ≡ option_map (moved f) (slice_get c.nodes (get_or ns k 0))
  moved_inside [] all k h = absurd (omega arith)
  moved_inside (n ∷ ns) all zero h = moved_first n (moved_all f c ns) (slice_get c.nodes n) refl all.0
  moved_inside (n ∷ ns) all (suc k) h = moved_later n k (moved_all f c ns) (slice_get c.nodes n) refl all.0 ∙ moved_inside ns all.1 k (omega arith)

  pub moved_many : (ns : List ℕ) → AllByRecursion (λ n. n < length c.nodes) ns → length (moved_all f c ns) ≡ length ns
  moved_many [] all = refl
  moved_many (n ∷ ns) all =
      let (x, is) = node_at c.nodes n all.0 in
      ap (λ o. length (moved_at f o ++ moved_all f c ns)) is ∙ ap suc (moved_many ns all.1)

  moved_past : (ns : List ℕ) → AllByRecursion (λ n. n < length c.nodes) ns → (k : ℕ) → length ns ≤ k → slice_get (moved_all f c ns) k ≡ None
  moved_past [] all k h = refl
  moved_past (n ∷ ns) all zero h = absurd (omega arith)
  moved_past (n ∷ ns) all (suc k) h = moved_later n k (moved_all f c ns) (slice_get c.nodes n) refl all.0 ∙ moved_past ns all.1 k (omega arith)

map_same : (f g : ℕ → ℕ) (k : ℕ) (ws : List ℕ) → AllByRecursion (λ w. w < k) ws → ((w : ℕ) → w < k → f w ≡ g w) → map f ws ≡ map g ws
map_same f g k [] all same = refl
map_same f g k (w ∷ ws) all same = ap (λ v. v ∷ map f ws) (same w all.0) ∙ ap (λ vs. g w ∷ vs) (map_same f g k ws all.1 same)

moved_same : (f g : ℕ → ℕ) (c : Circuit) → AllByRecursion (IsWired c.wires) c.nodes → ((w : ℕ) → w < c.wires → f w ≡ g w)
    → (n : ℕ) (o : Option Node) → slice_get c.nodes n ≡ o → option_map (moved f) o ≡ option_map (moved g) o
moved_same f g c fit same n None e = refl
moved_same f g c fit same n (Some x) e =
    let fits = all_nodes (IsWired c.wires) c.nodes n x fit e in
    ap (λ ws. Some (record { spec = x.spec; ends = ws })) (map_same f g c.wires x.ends fits.known same)

moved_at_same : (f g : ℕ → ℕ) (c : Circuit) → AllByRecursion (IsWired c.wires) c.nodes → ((w : ℕ) → w < c.wires → f w ≡ g w)
    → (n : ℕ) (o : Option Node) → slice_get c.nodes n ≡ o → moved_at f o ≡ moved_at g o
moved_at_same f g c fit same n None e = refl
moved_at_same f g c fit same n (Some x) e =
    let fits = all_nodes (IsWired c.wires) c.nodes n x fit e in
    ap (λ ws. record { spec = x.spec; ends = ws } ∷ []) (map_same f g c.wires x.ends fits.known same)

moved_all_same : (f g : ℕ → ℕ) (c : Circuit) → AllByRecursion (IsWired c.wires) c.nodes → ((w : ℕ) → w < c.wires → f w ≡ g w)
    → (ns : List ℕ) → moved_all f c ns ≡ moved_all g c ns
moved_all_same f g c fit same [] = refl
moved_all_same f g c fit same (n ∷ ns) =
    ap (λ (xs : List Node). xs ++ moved_all f c ns) (moved_at_same f g c fit same n (slice_get c.nodes n) refl)
    ∙ ap (λ (xs : List Node). moved_at g (slice_get c.nodes n) ++ xs) (moved_all_same f g c fit same ns)

-- the new network's nodes by a table of the wires' places
pub walk_by_table : (c : Circuit) → AllByRecursion (IsWired c.wires) c.nodes → (table ns : List ℕ)
    → ((w : ℕ) → w < c.wires → get_or table w 0 ≡ position_or_len (nat_eq w) (walk_of c).numbered) → ns ≡ (walk_of c).listed
    → moved_all (λ w. get_or table w 0) c ns ≡ (walk c).nodes
unfolding walk
walk_by_table c fit table ns places e =
    ap (moved_all (λ w. get_or table w 0) c) e
    ∙ moved_all_same (λ w. get_or table w 0) (λ w. position_or_len (nat_eq w) (walk_of c).numbered) c fit places (walk_of c).listed

module _ (c : Circuit) (fit : AllByRecursion (IsWired c.wires) c.nodes) (closed : IsClosed c) (some : 0 < length c.nodes) where
  abbrev end : Walk
  end = walk_of c

  pub holds : Holds c end
  holds = (ended c fit closed some).0

  pub nodes_whole : (n : ℕ) → n < length c.nodes → 0 < count n end.listed
  nodes_whole = all_listed c fit closed some

  -- each wire has a driver, which is listed
  pub wires_whole : (w : ℕ) → w < c.wires → 0 < count w end.numbered
  wires_whole w h =
      let at = gives_located c fit closed in
      let n = end_node (gives c) c w in let p = end_port (gives c) c w in
      let real = at.real w h in
      subst (λ v. 0 < count v end.numbered) (at.back w h) (holds.driven n p (nodes_whole n (at.there n p real).0) real)

  abbrev node : ℕ → ℕ
  node = places.to (length c.nodes) end.listed holds.there holds.listed_once nodes_whole

  abbrev wire : ℕ → ℕ
  wire = places.to c.wires end.numbered holds.known holds.once wires_whole

  abbrev number : ℕ → ℕ
  number w = position_or_len (nat_eq w) end.numbered

  wire_same : (w : ℕ) → w < c.wires → number w ≡ wire w
  wire_same w h = sym (places.to_inside c.wires end.numbered holds.known holds.once wires_whole w h)

  new_nodes : (n : ℕ) → slice_get (moved_all number c end.listed) (node n) ≡ option_map (moved wire) (slice_get c.nodes n)
  new_nodes n = elim (cases_lt n (length c.nodes)) [
    | inl h ↦
        let below = places.to_below (length c.nodes) end.listed holds.there holds.listed_once nodes_whole n h in
        let sized = places.sized (length c.nodes) end.listed holds.there holds.listed_once nodes_whole in
        moved_inside number c end.listed holds.there (node n) (omega arith)
        ∙ ap (λ m. option_map (moved number) (slice_get c.nodes m)) (places.to_number (length c.nodes) end.listed holds.there holds.listed_once nodes_whole n h)
        ∙ moved_same number wire c fit wire_same n (slice_get c.nodes n) refl
    | inr past ↦
        let stays = places.to_outside (length c.nodes) end.listed holds.there holds.listed_once nodes_whole n past in
        let sized = places.sized (length c.nodes) end.listed holds.there holds.listed_once nodes_whole in
        moved_past number c end.listed holds.there (node n) (omega arith) ∙ ap (option_map (moved wire)) (sym (slice_get_past c.nodes n past))
  ]

  pub walk_many : length (walk c).nodes ≡ length c.nodes
  unfolding walk
  walk_many = moved_many number c end.listed holds.there ∙ places.sized (length c.nodes) end.listed holds.there holds.listed_once nodes_whole

  pub walk_reorders : IsRenumbered c (walk c)
  unfolding walk
  walk_reorders = record {
    node = record {
      to = node;
      back = places.back (length c.nodes) end.listed holds.there holds.listed_once nodes_whole;
      to_back = places.to_back (length c.nodes) end.listed holds.there holds.listed_once nodes_whole;
      back_to = places.back_to (length c.nodes) end.listed holds.there holds.listed_once nodes_whole;
    };
    wire = record {
      to = wire;
      back = places.back c.wires end.numbered holds.known holds.once wires_whole;
      to_back = places.to_back c.wires end.numbered holds.known holds.once wires_whole;
      back_to = places.back_to c.wires end.numbered holds.known holds.once wires_whole;
    };
    outside = places.first_stays (length c.nodes) end.listed holds.there holds.listed_once nodes_whole holds.first;
    nodes = new_nodes;
    wires = places.to_only c.wires end.numbered holds.known holds.once wires_whole;
  }

  pub listed_sized : length end.listed ≡ length c.nodes
  listed_sized = places.sized (length c.nodes) end.listed holds.there holds.listed_once nodes_whole

  pub numbered_sized : length end.numbered ≡ c.wires
  numbered_sized = places.sized c.wires end.numbered holds.known holds.once wires_whole

  pub node_inside : (n : ℕ) → (n < length c.nodes) ↔ (walk_reorders.node.to n < length c.nodes)
  unfolding walk_reorders
  node_inside n = places.to_only (length c.nodes) end.listed holds.there holds.listed_once nodes_whole n

  pub node_of_listed : (i : ℕ) → i < length end.listed → walk_reorders.node.to (get_or end.listed i 0) ≡ i
  unfolding walk_reorders
  node_of_listed i h =
      places.to_inside (length c.nodes) end.listed holds.there holds.listed_once nodes_whole (get_or end.listed i 0)
      (all_at (λ n. n < length c.nodes) end.listed i holds.there h) ∙ places.place_of end.listed holds.listed_once i h

  pub wire_of_numbered : (i : ℕ) → i < length end.numbered → walk_reorders.wire.to (get_or end.numbered i 0) ≡ i
  unfolding walk_reorders
  wire_of_numbered i h =
      places.to_inside c.wires end.numbered holds.known holds.once wires_whole (get_or end.numbered i 0)
      (all_at (λ w. w < c.wires) end.numbered i holds.known h) ∙ places.place_of end.numbered holds.once i h

pub walk_wires : (c : Circuit) → (walk c).wires ≡ c.wires
unfolding walk
walk_wires c = refl

-- the new network from a list of its nodes
pub walk_as : (c : Circuit) (xs : List Node) → xs ≡ (walk c).nodes → walk c ≡ record { nodes = xs; wires = c.wires }
walk_as c xs e = λ i. record { nodes = sym e i; wires = walk_wires c i }

module _ (c : Circuit) (network : IsNetwork c) (closed : IsClosed c) where
  pub walk_renumbered : IsRenumbered c (walk c)
  walk_renumbered = walk_reorders c network.wired closed network.some

  pub walk_preserved : Preserves c (walk c)
  walk_preserved = preserved c (walk c) walk_renumbered network closed
