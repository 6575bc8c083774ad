-- A layer of FORKs implements the FORK.
use Rattle.std.proofs.Common.{◌≡◌, ℕ, zero, suc, ◌+◌, ◌<◌, ◌≤◌, ◌^◌, List, [], ◌∷◌, ◌++◌, map, length, inl, inr, refl, sym, ap, subst, ◌∙◌, arith}
use Rattle.std.specs.Prelude.{IsTrue}
use Rattle.std.specs.List.{AllByRecursion, range_with_len}
use Rattle.std.proofs.lemmas.List.{map-append}
use Rattle.cmd_tree.specs.Rounds.{tally, naught}
use Rattle.basic_kinds.specs.declared.kind.Kind.TheVariants.{Fork}
use Rattle.net_core.specs.declared.spec.NodeSpec.TheVariants.{Kind as Basic}
use Rattle.net_core.specs.Specs.{IsFormed, outs_of, is_kind}
use Rattle.net_core.specs.Wiring.{Node, Circuit}
use Rattle.net_laws.specs.Charts.{Chart, charted, node_of}
use Rattle.net_laws.specs.Implementing.{Implements}
use Rattle.net_laws.proofs.Webs as webs
use Rattle.net_laws.proofs.Among.{Among, Distinct}
use Rattle.net_laws.proofs.Paths.{Hop, Path, here, hop}
use Rattle.net_laws.proofs.Routes.{Joined, Routes, routes_basic, routes_clean, routes_correct}
use Rattle.net_laws.proofs.Rows.{row, number_row, range_both, joined_outs}
use Rattle.fan_trees.specs.FanLayers.{by_width, fork_node, fork_layer}
use Rattle.fan_trees.proofs.FanRules.{ForkNarrow, ForkWide, fork_looks, fork_kind}
use Rattle.fan_trees.proofs.FanWires.{Wire, Root, Mid, Leaf, same_wire, above, below, size, There, leaves, row_long, leaves_long, never, real_above, real_below}
use Rattle.fan_trees.proofs.ForkWeb.{fork_web, fork_lawful, fork_sound, fork_exact}
use Rattle.fan_trees.proofs.FanChart as fan
use Rattle.fan_trees.proofs.FanChart.{by_one, by_more, one_or_more, Ordering, Kept, Good, width_of, narrow_of, wides_of, number_of, root_of, top_of, all_by}

-- the wire that a FORK takes, and those that it gives
abbrev pub fork_order : Wire → List Wire → List Wire
fork_order x ws = x ∷ ws

pub fork_ordering : Ordering fork_order
fork_ordering = record {
  narrow = λ x ws. inl refl;
  wide = λ w x ws a. inr a;
  either = λ w x ws a. a;
  once = λ x ws d away. (away, d);
  long = λ x ws. refl;
}

-- a node's component, where its half has one
pub map_width : (f : ℕ → Node) (n k : ℕ) → map f (by_width n [] (k ∷ [])) ≡ by_width n [] (f k ∷ [])
map_width f zero k = refl
map_width f (suc zero) k = refl
map_width f (suc (suc n)) k = refl

-- the numbers of all wires at the wide ports, and those of one half
pub leaf_numbers : (h r a s : ℕ) → map (number_of h r a s) (leaves h r) ≡ range_with_len s (h + r)
leaf_numbers h r a s =
    map-append (number_of h r a s) (row (Leaf 0) h) (row (Leaf 1) r)
    ∙ ap (λ l. l ++ map (number_of h r a s) (row (Leaf 1) r)) (number_row (number_of h r a s) (Leaf 0) s h (λ i low. omega arith))
    ∙ ap (λ l. range_with_len s h ++ l) (number_row (number_of h r a s) (Leaf 1) (s + h) r (λ i low. omega arith)) ∙ range_both s h r

pub nodes_apart : (r : ℕ) → Distinct {A = ℕ} (0 ∷ 1 ∷ 2 ∷ by_width r [] (3 ∷ []))
nodes_apart zero = (first, (second, ((λ k. k), tt)))
  where
    first : Among {A = ℕ} 0 (1 ∷ 2 ∷ []) → ⊥
    first (inl e) = omega arith
    first (inr (inl e)) = omega arith
    first (inr (inr k)) = k

    second : Among {A = ℕ} 1 (2 ∷ []) → ⊥
    second (inl e) = omega arith
    second (inr k) = k
nodes_apart (suc zero) = (first, (second, ((λ k. k), tt)))
  where
    first : Among {A = ℕ} 0 (1 ∷ 2 ∷ []) → ⊥
    first (inl e) = omega arith
    first (inr (inl e)) = omega arith
    first (inr (inr k)) = k

    second : Among {A = ℕ} 1 (2 ∷ []) → ⊥
    second (inl e) = omega arith
    second (inr k) = k
nodes_apart (suc (suc n)) = (first, (second, (third, ((λ k. k), tt))))
  where
    first : Among {A = ℕ} 0 (1 ∷ 2 ∷ 3 ∷ []) → ⊥
    first (inl e) = omega arith
    first (inr (inl e)) = omega arith
    first (inr (inr (inl e))) = omega arith
    first (inr (inr (inr k))) = k

    second : Among {A = ℕ} 1 (2 ∷ 3 ∷ []) → ⊥
    second (inl e) = omega arith
    second (inr (inl e)) = omega arith
    second (inr (inr k)) = k

    third : Among {A = ℕ} 2 (3 ∷ []) → ⊥
    third (inl e) = omega arith
    third (inr k) = k

module _ (h r : ℕ) (wide : 2 ≤ h) (some : 0 < r) (few : h + r + 1 < 2 ^ 28) where
  abbrev web : webs.Web ℕ Wire
  web = fork_web h r

  abbrev parts : List ℕ
  parts = 1 ∷ fan.halves h r wide some

  good : AllByRecursion (Good h r) (0 ∷ parts)
  good = (tt, (tt, fan.halves_all h r wide some (Good h r) (λ g low more. (low, more))))

  half_part : (g : ℕ) → g < 2 → 2 ≤ size h r g → Among {A = ℕ} (suc (suc g)) parts
  half_part g low more = inr (fan.half_among h r wide some g low more)

  abbrev ports : ℕ → List Wire
  ports n = fork_order (narrow_of n) (wides_of h r n)

  abbrev number : Wire → ℕ
  number = number_of h r 0 1

  abbrev chart : Chart ℕ Wire
  chart = record {
    env = 0;
    parts = parts;
    spec = λ n. Basic (Fork (width_of h r n));
    ports = ports;
    number = number;
    many = by_width r (h + r + 2) (h + r + 3);
  }

  abbrev lines : List Wire
  lines = fan.lines h r wide some fork_order fork_ordering

  formed : (n : ℕ) → 2 ≤ n → n ≤ h + r → IsFormed (Basic (Fork n))
  formed n many less = record { wide = many; few = omega arith }

  joined : (f g : Wire → ℕ) (n k : ℕ) (x : Wire) (ws : List Wire) → g x ≡ n → AllByRecursion (λ w. f w ≡ n) ws → length ws ≡ k → Joined f g n (outs_of (Basic (Fork k))) (fork_order x ws)
  joined f g n k x ws a b e = (a, joined_outs f g n k ws e b)

  fork_hop : (g : ℕ) → g < 2 → size h r g ≡ 1 → Hop ℕ Wire web (Kept h r) (Mid g) (Leaf g 0)
  fork_hop g low one = record {
    joins = refl;
    inner = λ k. omega arith;
    takes = λ t q. q.2 0 (omega arith);
    gives = λ t less. (refl, low, let z : 0 < size h r g = omega arith in z, less);
    passed = λ t q. q.3;
  }

  numbered : map number (fork_order Root (leaves h r)) ≡ range_with_len 0 (h + r + 1)
  numbered = ap (λ l. 0 ∷ l) (leaf_numbers h r 0 1) ∙ ap (range_with_len 0) (let z : suc (h + r) ≡ h + r + 1 = omega arith in z)

  routes : Routes ℕ Wire web (Kept h r) (There h r) chart lines (root_of h r) (top_of h r) (λ w. w) (Mid 2)
  routes = record {
    env = refl;
    nodes = nodes_apart r;
    formed = fan.parts_formed h r wide some fork_order fork_ordering parts (inl refl) half_part good (λ n. Fork n) formed;
    outer = joined below above 0 (h + r) Root (leaves h r) refl (fan.leaves_below h r wide some) (leaves_long h r);
    inner = (inner_at 0, fan.halves_all h r wide some (λ n. Joined above below n (outs_of (chart.spec n)) (ports n)) (λ g low more. inner_at (suc g)));
    distinct = fan.ports_once h r wide some fork_order fork_ordering parts (inl refl) half_part good;
    kept = fan.parts_kept h r wide some fork_order fork_ordering parts (inl refl) half_part good;
    there = fan.ports_there h r wide some fork_order fork_ordering parts (inl refl) half_part good;
    driven = fan.at_above h r wide some fork_order fork_ordering parts (inl refl) half_part good;
    received = fan.at_below h r wide some fork_order fork_ordering parts (inl refl) half_part good;
    numbers = fan.numbers_are h r wide some fork_order fork_ordering 0 1 numbered;
    number_root = fan.number_root h r wide some fork_order fork_ordering 0 1 numbered;
    begins = fan.begins_above h r wide some fork_order fork_ordering;
    ends = fan.ends_below h r wide some fork_order fork_ordering;
    firsts = fan.tops h r wide some fork_order fork_ordering;
    lasts = fan.bottoms h r wide some fork_order fork_ordering;
    path = fan.lines_all h r wide some fork_order fork_ordering (λ v. Path ℕ Wire web (Kept h r) (top_of h r v) v) (here Root)
        (fan.leaf_path h r wide some (λ v w. Path ℕ Wire web (Kept h r) v w)
        (λ g low one. hop (Mid g) (Leaf g 0) (Leaf g 0) (fork_hop g low one) (λ e. cc) (here (Leaf g 0))) here) (λ g low more. here (Mid g));
    apart = fan.line_ends h r wide some fork_order fork_ordering;
    real_out = λ w t q. real_above ForkNarrow ForkWide h r w (tally same_wire naught t) q;
    real_in = λ w t q. real_below ForkNarrow ForkWide h r w (tally same_wire naught t) q;
    enters = fan.keep_above h r wide some;
    leaves = fan.keep_below h r wide some;
    never = λ n t q. never ForkNarrow ForkWide h r n (tally same_wire naught t) q;
    may = fan.parts_may h r wide some fork_order fork_ordering parts (inl refl) half_part good (λ n. Fork n) formed ForkNarrow ForkWide fork_looks
        (λ n. let z : 1 + n ≡ suc n = omega arith in z) (λ n two. two) (λ x ws n long e w. fork_kind x ws (Mid 2) n long e w);
  }
    where
      inner_at : (n : ℕ) → Joined above below (suc n) (outs_of (chart.spec (suc n))) (ports (suc n))
      inner_at n = joined above below (suc n) (width_of h r (suc n)) (narrow_of (suc n)) (wides_of h r (suc n)) (fan.narrow_below h r wide some n) (fan.wides_above h r wide some n) (long n)
        where
          long : (n : ℕ) → length (wides_of h r (suc n)) ≡ width_of h r (suc n)
          long zero = refl
          long (suc g) = row_long (Leaf g) (size h r g)

  -- ---- the network as it is written

  last_is : by_width r [] (node_of chart 3 ∷ []) ≡ by_width r [] (fork_node r (h + r + 2) (range_with_len (h + 1) r) ∷ [])
  last_is = elim (one_or_more r some) [
    | inl one ↦ by_one r [] (node_of chart 3 ∷ []) one ∙ sym (by_one r [] (fork_node r (h + r + 2) (range_with_len (h + 1) r) ∷ []) one)
    | inr more ↦
        ap (λ k. by_width r [] (fork_node r k (map number (row (Leaf 1) r)) ∷ [])) (by_more r (1 + h) (h + r + 2) more)
        ∙ ap (λ l. by_width r [] (fork_node r (h + r + 2) l ∷ [])) (number_row number (Leaf 1) (h + 1) r (λ i low. omega arith))
  ]

  net_is : charted chart ≡ fork_layer (h + r) h r
  net_is =
      ap (λ l. record {
        nodes = fork_node (h + r) 0 l ∷ node_of chart 1 ∷ node_of chart 2 ∷ map (node_of chart) (by_width r [] (3 ∷ []));
        wires = by_width r (h + r + 2) (h + r + 3);
      }) (leaf_numbers h r 0 1)
      ∙ ap (λ k. record {
        nodes = fork_node (h + r) 0 (range_with_len 1 (h + r)) ∷ fork_node 2 0 (k ∷ number (Mid 1) ∷ []) ∷ fork_node h k (map number (row (Leaf 0) h))
            ∷ map (node_of chart) (by_width r [] (3 ∷ []));
        wires = by_width r (h + r + 2) (h + r + 3);
      }) (by_more h (1 + 0) (h + r + 1) wide)
      ∙ ap (λ k. record {
        nodes = fork_node (h + r) 0 (range_with_len 1 (h + r)) ∷ fork_node 2 0 ((h + r + 1) ∷ by_width r k (h + r + 2) ∷ []) ∷ fork_node h (h + r + 1) (map number (row (Leaf 0) h))
            ∷ map (node_of chart) (by_width r [] (3 ∷ []));
        wires = by_width r (h + r + 2) (h + r + 3);
      }) (let z : 1 + h ≡ h + 1 = omega arith in z)
      ∙ ap (λ l. record {
        nodes = fork_node (h + r) 0 (range_with_len 1 (h + r)) ∷ fork_node 2 0 ((h + r + 1) ∷ by_width r (h + 1) (h + r + 2) ∷ []) ∷ fork_node h (h + r + 1) l
            ∷ map (node_of chart) (by_width r [] (3 ∷ []));
        wires = by_width r (h + r + 2) (h + r + 3);
      }) (number_row number (Leaf 0) 1 h (λ i low. omega arith))
      ∙ ap (λ xs. record {
        nodes = fork_node (h + r) 0 (range_with_len 1 (h + r)) ∷ fork_node 2 0 ((h + r + 1) ∷ by_width r (h + 1) (h + r + 2) ∷ []) ∷ fork_node h (h + r + 1) (range_with_len 1 h) ∷ xs;
        wires = by_width r (h + r + 2) (h + r + 3);
      }) (map_width (node_of chart) r 3 ∙ last_is)

  pub fork_right : Implements (fork_layer (h + r) h r) (Basic (Fork (h + r)))
  fork_right = subst (λ (c : Circuit). Implements c (Basic (Fork (h + r)))) net_is (record {
    basic = routes_basic ℕ Wire web (Kept h r) (There h r) chart lines (root_of h r) (top_of h r) (λ w. w) (Mid 2) (fork_lawful h r (omega arith) some) routes
        (all_by (Good h r) (λ n. IsTrue (is_kind (chart.spec n))) (λ n k. refl) parts good.1);
    clean = routes_clean ℕ Wire web (Kept h r) (There h r) chart lines (root_of h r) (top_of h r) (λ w. w) (Mid 2) (fork_lawful h r (omega arith) some) routes;
    correct = routes_correct ℕ Wire web (Kept h r) (There h r) chart lines (root_of h r) (top_of h r) (λ w. w) (Mid 2) (fork_lawful h r (omega arith) some) routes
        (fork_sound h r (omega arith) some) (fork_exact h r (omega arith) some);
  })
