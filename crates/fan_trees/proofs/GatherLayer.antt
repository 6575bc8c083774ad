-- A layer of Cs implements the C, and a layer of MERGEs the MERGE.
use Rattle.std.proofs.Common.{◌≡◌, ◌↔◌, ℕ, zero, suc, ◌+◌, ◌<◌, ◌≤◌, ◌^◌, true, false, List, [], ◌∷◌, ◌++◌, map, length, replicate, inl, inr, refl, sym, ap, subst, ◌∙◌, arith, length-append}
use Rattle.std.specs.Prelude.{IsTrue}
use Rattle.std.specs.List.{AllByRecursion, range_with_len}
use Rattle.std.proofs.lemmas.List.{map-append}
use Rattle.cmd_tree.specs.Rounds.{tally, naught}
use Rattle.basic_kinds.specs.Totals.{total}
use Rattle.basic_kinds.specs.declared.kind.Kind.{Kind}
use Rattle.basic_kinds.specs.declared.kind.Kind.TheVariants.{C, Merge}
use Rattle.basic_kinds.specs.Kinds.{inputs_of, outputs_of, IsWide}
use Rattle.basic_kinds.specs.KindCounts.{KindAt}
use Rattle.net_core.specs.declared.spec.NodeSpec.TheVariants.{Kind as Basic}
use Rattle.net_core.specs.Specs.{IsFormed, outs_of, sides, is_kind}
use Rattle.net_core.specs.Wiring.{Node, Circuit}
use Rattle.net_laws.specs.Charts.{Chart, charted, node_of}
use Rattle.net_laws.specs.Implementing.{Implements}
use Rattle.net_laws.proofs.Webs as webs
use Rattle.net_laws.proofs.Among.{Among, Distinct}
use Rattle.net_laws.proofs.Paths.{Hop, Path, here, hop}
use Rattle.net_laws.proofs.Routes.{Joined, Routes, routes_basic, routes_clean, routes_correct}
use Rattle.net_laws.proofs.Rows.{row, number_row, range_both, among_left, among_right, among_either, all_both, distinct_both, joined_ins, joined_both}
use Rattle.fan_trees.specs.FanLayers.{by_width, gather_node, gather_layer}
use Rattle.fan_trees.proofs.FanRules.{Looks, GatherAt, gather_kind, JoinNarrow, JoinWide, join_looks, join_at, MergeNarrow, MergeWide, merge_looks, merge_at}
use Rattle.fan_trees.proofs.FanWires.{Wire, Root, Mid, Leaf, same_wire, above, below, size, There, leaves, row_long, leaves_long, never, real_above, real_below}
use Rattle.fan_trees.proofs.JoinWeb.{gather_web, gather_lawful, join_sound, join_exact}
use Rattle.fan_trees.proofs.MergeWeb.{merge_sound, merge_exact}
use Rattle.fan_trees.proofs.FanChart as fan
use Rattle.fan_trees.proofs.FanChart.{by_one, by_more, one_or_more, Ordering, Kept, Good, width_of, narrow_of, wides_of, number_of, root_of, top_of, all_by}
use Rattle.fan_trees.proofs.ForkLayer.{map_width, leaf_numbers, nodes_apart}

-- the wires that it takes, and the one that it gives
abbrev pub gather_order : Wire → List Wire → List Wire
gather_order x ws = ws ++ x ∷ []

pub gather_ordering : Ordering gather_order
gather_ordering = record {
  narrow = λ x ws. among_right x ws (x ∷ []) (inl refl);
  wide = λ w x ws a. among_left w ws (x ∷ []) a;
  either = λ w x ws a. elim (among_either w ws (x ∷ []) a) [ inl b ↦ inr b | inr b ↦ inl (only w x b) ];
  once = λ x ws d away. distinct_both ws (x ∷ []) d ((λ k. k), tt) (λ y a b. away (subst (λ z. Among z ws) (only y x b) a));
  long = λ x ws. length-append ws (x ∷ []) ∙ omega arith;
}
  where
    only : (w x : Wire) → Among w (x ∷ []) → w ≡ x
    only w x (inl e) = e
    only w x (inr k) = absurd k

-- a list with one more behind it
last_once : (xs : List ℕ) (a : ℕ) → Distinct (a ∷ xs) → Distinct (xs ++ a ∷ [])
last_once xs a d = distinct_both xs (a ∷ []) d.1 ((λ k. k), tt) (λ y b c. d.0 (at y b c))
  where
    at : (y : ℕ) → Among y xs → Among y (a ∷ []) → Among a xs
    at y b (inl e) = subst (λ z. Among z xs) e b
    at y b (inr k) = absurd k

module _ (kind : ℕ → Kind) (Narrow : ℕ → ℕ → (ℕ → ℕ) → Type 0) (Wide : ℕ → ℕ → (ℕ → ℕ) → ℕ → Type 0) (looks : Looks Narrow Wide)
    (kind_at : (n : ℕ) (c : ℕ → ℕ) (p : ℕ) → KindAt (kind n) c p ↔ GatherAt Narrow Wide n c p)
    (is_formed : (n : ℕ) → 2 ≤ n → n + 1 < 2 ^ 28 → IsFormed (Basic (kind n))) (is_wide : (n : ℕ) → 2 ≤ n → IsWide (kind n))
    (ins : (n : ℕ) → inputs_of (kind n) ≡ n) (outs : (n : ℕ) → outputs_of (kind n) ≡ 1) (h r : ℕ) (wide : 2 ≤ h) (some : 0 < r) (few : h + r + 1 < 2 ^ 28)
    (gather_hop : (g : ℕ) → g < 2 → size h r g ≡ 1 → Hop ℕ Wire (gather_web Narrow Wide h r) (Kept h r) (Leaf g 0) (Mid g))
    (sound : webs.WebSound (gather_web Narrow Wide h r)) (exact : webs.WebExact (gather_web Narrow Wide h r)) where
  abbrev web : webs.Web ℕ Wire
  web = gather_web Narrow Wide h r

  abbrev halves : List ℕ
  halves = fan.halves h r wide some

  abbrev parts : List ℕ
  parts = halves ++ 1 ∷ []

  parts_all : (P : ℕ → Type 0) → ((g : ℕ) → g < 2 → 2 ≤ size h r g → P (suc (suc g))) → P 1 → AllByRecursion P parts
  parts_all P a b = all_both P halves (1 ∷ []) (fan.halves_all h r wide some P a) (b, tt)

  good_parts : AllByRecursion (Good h r) parts
  good_parts = parts_all (Good h r) (λ g low more. (low, more)) tt

  good : AllByRecursion (Good h r) (0 ∷ parts)
  good = (tt, good_parts)

  hub_part : Among 1 parts
  hub_part = among_right 1 halves (1 ∷ []) (inl refl)

  half_part : (g : ℕ) → g < 2 → 2 ≤ size h r g → Among {A = ℕ} (suc (suc g)) parts
  half_part g low more = among_left (suc (suc g)) halves (1 ∷ []) (fan.half_among h r wide some g low more)

  abbrev ports : ℕ → List Wire
  ports n = gather_order (narrow_of n) (wides_of h r n)

  abbrev number : Wire → ℕ
  number = number_of h r (h + r) 0

  abbrev chart : Chart ℕ Wire
  chart = record {
    env = 0;
    parts = parts;
    spec = λ n. Basic (kind (width_of h r n));
    ports = ports;
    number = number;
    many = by_width r (h + r + 2) (h + r + 3);
  }

  abbrev lines : List Wire
  lines = fan.lines h r wide some gather_order gather_ordering

  formed : (n : ℕ) → 2 ≤ n → n ≤ h + r → IsFormed (Basic (kind n))
  formed n many less = is_formed n many (omega arith)

  joined : (f g : Wire → ℕ) (n k : ℕ) (x : Wire) (ws : List Wire) → f x ≡ n → AllByRecursion (λ w. g w ≡ n) ws → length ws ≡ k → Joined f g n (outs_of (Basic (kind k))) (gather_order x ws)
  joined f g n k x ws a b e =
      subst (λ bs. Joined f g n bs (gather_order x ws)) (ap (λ i. sides i 1) (sym (ins k)) ∙ ap (sides (inputs_of (kind k))) (sym (outs k)))
      (joined_both f g n (replicate k false) (true ∷ []) ws (x ∷ []) (joined_ins f g n k ws e b) (a, tt))

  numbered : map number (gather_order Root (leaves h r)) ≡ range_with_len 0 (h + r + 1)
  numbered =
      map-append number (leaves h r) (Root ∷ []) ∙ ap (λ l. l ++ (h + r) ∷ []) (leaf_numbers h r (h + r) 0)
      ∙ ap (λ k. range_with_len 0 (h + r) ++ k ∷ []) (let z : h + r ≡ 0 + (h + r) = omega arith in z) ∙ range_both 0 (h + r) 1

  routes : Routes ℕ Wire web (Kept h r) (There h r) chart lines (root_of h r) (λ w. w) (top_of h r) (Mid 2)
  routes = record {
    env = refl;
    nodes = nodes;
    formed = fan.parts_formed h r wide some gather_order gather_ordering parts hub_part half_part good kind formed;
    outer = joined above below 0 (h + r) Root (leaves h r) refl (fan.leaves_below h r wide some) (leaves_long h r);
    inner = parts_all (λ n. Joined below above n (outs_of (chart.spec n)) (ports n)) (λ g low more. inner_at (suc g)) (inner_at 0);
    distinct = fan.ports_once h r wide some gather_order gather_ordering parts hub_part half_part good;
    kept = fan.parts_kept h r wide some gather_order gather_ordering parts hub_part half_part good;
    there = fan.ports_there h r wide some gather_order gather_ordering parts hub_part half_part good;
    driven = fan.at_below h r wide some gather_order gather_ordering parts hub_part half_part good;
    received = fan.at_above h r wide some gather_order gather_ordering parts hub_part half_part good;
    numbers = fan.numbers_are h r wide some gather_order gather_ordering (h + r) 0 numbered;
    number_root = fan.number_root h r wide some gather_order gather_ordering (h + r) 0 numbered;
    begins = fan.ends_below h r wide some gather_order gather_ordering;
    ends = fan.begins_above h r wide some gather_order gather_ordering;
    firsts = fan.bottoms h r wide some gather_order gather_ordering;
    lasts = fan.tops h r wide some gather_order gather_ordering;
    path = fan.lines_all h r wide some gather_order gather_ordering (λ v. Path ℕ Wire web (Kept h r) v (top_of h r v)) (here Root)
        (fan.leaf_path h r wide some (λ v w. Path ℕ Wire web (Kept h r) w v)
        (λ g low one. hop (Leaf g 0) (Mid g) (Mid g) (gather_hop g low one) (λ e. cc) (here (Mid g))) here) (λ g low more. here (Mid g));
    apart = all_by (λ v. above (top_of h r v) ≡ below v → ⊥) (λ v. below v ≡ above (top_of h r v) → ⊥) (λ v k e. k (sym e)) lines
        (fan.line_ends h r wide some gather_order gather_ordering);
    real_out = λ w t q. real_below Narrow Wide h r w (tally same_wire naught t) q;
    real_in = λ w t q. real_above Narrow Wide h r w (tally same_wire naught t) q;
    enters = fan.keep_below h r wide some;
    leaves = fan.keep_above h r wide some;
    never = λ n t q. never Narrow Wide h r n (tally same_wire naught t) q;
    may = fan.parts_may h r wide some gather_order gather_ordering parts hub_part half_part good kind formed Narrow Wide looks
        (λ n. omega (arith, ins n, outs n)) is_wide (λ x ws n long e w. gather_kind kind Narrow Wide looks kind_at x ws (Mid 2) n long e w);
  }
    where
      nodes : Distinct {A = ℕ} (0 ∷ halves ++ 1 ∷ [])
      nodes =
          let d = nodes_apart r in
          ((λ a. elim (among_either 0 halves (1 ∷ []) a) [ inl b ↦ d.0 (inr b) | inr b ↦ d.0 (first b) ]), last_once halves 1 d.1)
        where
          first : Among {A = ℕ} 0 (1 ∷ []) → Among {A = ℕ} 0 (1 ∷ halves)
          first (inl e) = inl e
          first (inr k) = absurd k

      inner_at : (n : ℕ) → Joined below above (suc n) (outs_of (chart.spec (suc n))) (ports (suc n))
      inner_at n = joined below above (suc n) (width_of h r (suc n)) (narrow_of (suc n)) (wides_of h r (suc n)) (fan.narrow_below h r wide some n) (fan.wides_above h r wide some n) (long n)
        where
          long : (n : ℕ) → length (wides_of h r (suc n)) ≡ width_of h r (suc n)
          long zero = refl
          long (suc g) = row_long (Leaf g) (size h r g)

  -- ---- the network as it is written

  node_is : (n k : ℕ) (ws : List Wire) (x : Wire) (ks : List ℕ) (i : ℕ) → map number ws ≡ ks → number x ≡ i
      → ◌≡◌ {A = Node} (record { spec = Basic (kind n); ends = map number (gather_order x ws) }) (gather_node kind n ks i)
  node_is n k ws x ks i e f = ap (λ l. record { spec = Basic (kind n); ends = l }) (map-append number ws (x ∷ []) ∙ ap (λ l. l ++ number x ∷ []) e ∙ ap (λ j. ks ++ j ∷ []) f)

  last_is : by_width r [] (node_of chart 3 ∷ []) ≡ by_width r [] (gather_node kind r (range_with_len h r) (h + r + 2) ∷ [])
  last_is = elim (one_or_more r some) [
    | inl one ↦ by_one r [] (node_of chart 3 ∷ []) one ∙ sym (by_one r [] (gather_node kind r (range_with_len h r) (h + r + 2) ∷ []) one)
    | inr more ↦ ap (λ (x : Node). by_width r [] (x ∷ []))
        (node_is r 0 (row (Leaf 1) r) (Mid 1) (range_with_len h r) (h + r + 2) (number_row number (Leaf 1) h r (λ i low. omega arith)) (by_more r (0 + h) (h + r + 2) more))
  ]

  hub_is : node_of chart 1 ≡ gather_node kind 2 ((h + r + 1) ∷ by_width r h (h + r + 2) ∷ []) (h + r)
  hub_is = node_is 2 0 (row Mid 2) Root ((h + r + 1) ∷ by_width r h (h + r + 2) ∷ []) (h + r)
      (ap (λ k. k ∷ by_width r (0 + h) (h + r + 2) ∷ []) (by_more h (0 + 0) (h + r + 1) wide)
      ∙ ap (λ k. (h + r + 1) ∷ by_width r k (h + r + 2) ∷ []) (let z : 0 + h ≡ h = omega arith in z)) refl

  abbrev layer_of : Node → List Node → Circuit
  layer_of x xs = record { nodes = x ∷ xs; wires = by_width r (h + r + 2) (h + r + 3) }

  net_is : charted chart ≡ gather_layer kind (h + r) h r
  net_is =
      ap (λ x. layer_of x (map (node_of chart) parts)) (node_is (h + r) 0 (leaves h r) Root (range_with_len 0 (h + r)) (h + r) (leaf_numbers h r (h + r) 0) refl)
      ∙ ap (layer_of (gather_node kind (h + r) (range_with_len 0 (h + r)) (h + r))) (
      map-append (node_of chart) halves (1 ∷ [])
      ∙ ap (λ x. x ∷ (map (node_of chart) (by_width r [] (3 ∷ [])) ++ node_of chart 1 ∷ []))
      (node_is h 0 (row (Leaf 0) h) (Mid 0) (range_with_len 0 h) (h + r + 1) (number_row number (Leaf 0) 0 h (λ i low. omega arith)) (by_more h (0 + 0) (h + r + 1) wide))
      ∙ ap (λ xs. gather_node kind h (range_with_len 0 h) (h + r + 1) ∷ (xs ++ node_of chart 1 ∷ [])) (map_width (node_of chart) r 3 ∙ last_is)
      ∙ ap (λ x. gather_node kind h (range_with_len 0 h) (h + r + 1) ∷ (by_width r [] (gather_node kind r (range_with_len h r) (h + r + 2) ∷ []) ++ x ∷ [])) hub_is
      )

  pub gather_right : Implements (gather_layer kind (h + r) h r) (Basic (kind (h + r)))
  gather_right = subst (λ (c : Circuit). Implements c (Basic (kind (h + r)))) net_is (record {
    basic = routes_basic ℕ Wire web (Kept h r) (There h r) chart lines (root_of h r) (λ w. w) (top_of h r) (Mid 2) (gather_lawful Narrow Wide h r) routes
        (all_by (Good h r) (λ n. IsTrue (is_kind (chart.spec n))) (λ n k. refl) parts good_parts);
    clean = routes_clean ℕ Wire web (Kept h r) (There h r) chart lines (root_of h r) (λ w. w) (top_of h r) (Mid 2) (gather_lawful Narrow Wide h r) routes;
    correct = routes_correct ℕ Wire web (Kept h r) (There h r) chart lines (root_of h r) (λ w. w) (top_of h r) (Mid 2) (gather_lawful Narrow Wide h r) routes sound exact;
  })

-- ---- Cs and MERGEs

module _ (h r : ℕ) (wide : 2 ≤ h) (some : 0 < r) (few : h + r + 1 < 2 ^ 28) where
  join_hop : (g : ℕ) → g < 2 → size h r g ≡ 1 → Hop ℕ Wire (gather_web JoinNarrow JoinWide h r) (Kept h r) (Leaf g 0) (Mid g)
  join_hop g low one = record {
    joins = refl;
    inner = λ k. omega arith;
    takes = λ t q. q.3;
    gives = λ t less. (refl, low, λ i inside. subst (λ z. tally same_wire naught t (Mid g) < tally same_wire naught t (Leaf g z)) (let z : 0 ≡ i = omega arith in z) less);
    passed = λ t q. q.2 0 (omega arith);
  }

  pub join_right : Implements (gather_layer (λ n. C n) (h + r) h r) (Basic (C (h + r)))
  join_right = gather_right (λ n. C n) JoinNarrow JoinWide join_looks join_at (λ n two less. record { wide = two; few = less }) (λ n two. two) (λ n. refl) (λ n. refl)
      h r wide some few join_hop (join_sound h r (omega arith) some) (join_exact h r (omega arith) some)

  one_sum : (n : ℕ) (u : ℕ → ℕ) → n ≡ 1 → total n u ≡ u 0
  unfolding total
  one_sum n u e = ap (λ k. total k u) e ∙ omega arith

  merge_hop : (g : ℕ) → g < 2 → size h r g ≡ 1 → Hop ℕ Wire (gather_web MergeNarrow MergeWide h r) (Kept h r) (Leaf g 0) (Mid g)
  merge_hop g low one = record {
    joins = refl;
    inner = λ k. omega arith;
    takes = λ t q. sym (one_sum (size h r g) (λ i. tally same_wire naught t (Leaf g i)) one) ∙ q.3;
    gives = λ t less. (refl, low, omega (arith, less, one_sum (size h r g) (λ i. tally same_wire naught t (Leaf g i)) one));
    passed = λ t q. omega (arith, q.2, one_sum (size h r g) (λ i. tally same_wire naught t (Leaf g i)) one);
  }

  pub merge_right : Implements (gather_layer (λ n. Merge n) (h + r) h r) (Basic (Merge (h + r)))
  merge_right = gather_right (λ n. Merge n) MergeNarrow MergeWide merge_looks merge_at (λ n two less. record { wide = two; few = less }) (λ n two. two) (λ n. refl) (λ n. refl)
      h r wide some few merge_hop (merge_sound h r) (merge_exact h r)
