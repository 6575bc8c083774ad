-- The components of a network of rounds, from the tables of numbers.
use Rattle.std.specs.Prelude.{if◌then◌else◌, nat_eq, not, ◌&&◌, ◌||◌, filter}
use Rattle.std.proofs.Common.{◌≡◌, ℕ, suc, ◌+◌, ◌-◌, ◌<◌, ◌≤◌, Bool, true, false, true≢false, List, [], ◌∷◌, ◌++◌, map, length, get_or, inl, inr, refl, sym, ap, ◌∙◌, arith, append-nil, eqb-true}
use Rattle.std.specs.List.{AllByRecursion, position_or_len, range_with_len}
use Rattle.std.proofs.lemmas.Bool.{lt-ltb, le-ltb}
use Rattle.std.proofs.lemmas.List.{map-append, get_or-map, length-map}
use Rattle.std.proofs.lemmas.List.FromFn.{length-range_with_len, length-map-range_with_len, get_or-map-range_with_len}
use Rattle.cmd_tree.specs.Lists.{is_in}
use Rattle.basic_kinds.specs.declared.kind.Kind.TheVariants as kind
use Rattle.net_core.specs.declared.spec.NodeSpec.TheVariants.{Kind as Basic}
use Rattle.net_core.specs.Wiring.{Node}
use Rattle.net_laws.proofs.Among.{Among}
use Rattle.plain_split.specs.declared.gives.Give.{Give}
use Rattle.plain_split.specs.RoundsNet.{Top, Odd, Even, pow, leaf, burst_before, Sym, To, Go, Put, Out, Env, Join, Tog, Gate, Spread, Shows}
use Rattle.plain_split.specs.RoundsChart.{Parts, is_single, givers, is_kept, count, is_out, outer, outer_ports, toggles}
use Rattle.plain_split.specs.Mirror.RoundsGives.{give_of, gives_of}
use Rattle.plain_split.specs.Mirror.RoundsTables.{number_of, level_numbers, put_numbers, part_of, toggle_of, IsReady}
use Rattle.plain_split.proofs.RoundsLists.{filter_among}
use Rattle.plain_split.proofs.RoundsLines.{range_low}
use Rattle.plain_split.proofs.RoundsBlocks.{map_map}
use Rattle.net_laws.specs.ForkChain.{each}
use Rattle.plain_split.proofs.RoundsRight.{map_same, filter_short}
use Rattle.plain_split.proofs.RoundsReady.{filter_parts}
use Rattle.plain_split.proofs.RoundsSteps.{range_more}
use Rattle.plain_split.proofs.JoinedSteps.{filter_kept, filter_left}

-- the place of a symbol in a list
pub place_in : (a : ℕ) (xs : List ℕ) → is_in a xs ≡ true → (position_or_len (nat_eq a) xs < length xs) × (get_or xs (position_or_len (nat_eq a) xs) 0 ≡ a)
place_in a [] h = absurd (true≢false (sym h))
place_in a (x ∷ xs) h = at (nat_eq a x) refl h (place_in a xs)
  where
    later : ℕ
    later = position_or_len (nat_eq a) xs

    at : (b : Bool) → nat_eq a x ≡ b → (b || is_in a xs) ≡ true → (is_in a xs ≡ true → (later < length xs) × (get_or xs later 0 ≡ a))
        → ((if not b then 1 + later else 0) < length (x ∷ xs)) × (get_or (x ∷ xs) (if not b then 1 + later else 0) 0 ≡ a)
    at true e i f = (omega arith, sym (eqb-true a x e))
    at false e i f =
        let (low, is) = f i in
        let next : 1 + later ≡ suc later = omega arith in
        (omega arith, ap (λ k. get_or (x ∷ xs) k 0) next ∙ is)

abbrev pub fork_of : ℕ → List ℕ → Node
fork_of k ws = record { spec = Basic (kind.Fork k); ends = ws }

abbrev pub merge_of : ℕ → List ℕ → Node
merge_of k ws = record { spec = Basic (kind.Merge k); ends = ws }

abbrev pub toggle_node : List ℕ → Node
toggle_node ws = record { spec = Basic kind.Toggle; ends = ws }

-- a C, and an IWIRE, with these wires
abbrev pub c_of : ℕ → List ℕ → List Node
c_of k ws = record { spec = Basic (kind.C k); ends = ws } ∷ []

abbrev pub iwire_of : List ℕ → List Node
iwire_of ws = record { spec = Basic kind.Iwire; ends = ws } ∷ []

module _ (r : Parts) (ready : IsReady r) where
  -- ---- the burst

  pub join_node : part_of r Join ≡ record { spec = Basic (kind.C (length r.burst)); ends = r.burst ++ number_of r (To Top) ∷ [] }
  join_node = ap (λ ns. record { spec = Basic (kind.C (length r.burst)); ends = ns })
      (map-append (number_of r) (map Sym r.burst) (To Top ∷ []) ∙ ap (λ ns. ns ++ number_of r (To Top) ∷ []) (map_map (number_of r) Sym r.burst ∙ ready.takes))

  -- ---- the tree

  pub level_at : (d i : ℕ) → i < pow d → get_or (level_numbers r d) i 0 ≡ number_of r (To (leaf d i))
  level_at d i low = get_or-map-range_with_len (λ i. number_of r (To (leaf d i))) 0 (pow d) i i 0 low (omega arith)

  pub level_long : (d : ℕ) → length (level_numbers r d) ≡ pow d
  level_long d = length-map-range_with_len (λ i. number_of r (To (leaf d i))) 0 (pow d)

  -- whatever stands for a number past the end
  pub level_read : (d i e : ℕ) (ns : List ℕ) → ns ≡ level_numbers r d → i < pow d → get_or ns i e ≡ number_of r (To (leaf d i))
  level_read d i e ns are low = ap (λ xs. get_or xs i e) are ∙ get_or-map-range_with_len (λ i. number_of r (To (leaf d i))) 0 (pow d) i i e low (omega arith)

  toggle_at : (d i : ℕ) → i < pow d → toggle_of (level_numbers r d) (level_numbers r (suc d)) i ≡ part_of r (Tog (leaf d i))
  toggle_at d i low =
      let odd : leaf (suc d) i ≡ Odd (leaf d i) = rw (lt-ltb i (pow d) low) refl in
      let back : i + pow d - pow d ≡ i = omega arith in
      let even : leaf (suc d) (i + pow d) ≡ Even (leaf d i) = rw (le-ltb (i + pow d) (pow d) (omega arith)) (ap (λ j. Even (leaf d j)) back) in
      let n1 : get_or (level_numbers r d) i 0 ≡ number_of r (To (leaf d i)) = level_at d i low in
      let n2 : get_or (level_numbers r (suc d)) i 0 ≡ number_of r (To (Odd (leaf d i))) = level_at (suc d) i (omega arith) ∙ ap (λ p. number_of r (To p)) odd in
      let n3 : get_or (level_numbers r (suc d)) (i + length (level_numbers r d)) 0 ≡ number_of r (To (Even (leaf d i))) =
      ap (λ k. get_or (level_numbers r (suc d)) (i + k) 0) (level_long d) ∙ level_at (suc d) (i + pow d) (omega arith) ∙ ap (λ p. number_of r (To p)) even in
      three n1 n2 n3
    where
      three : {a b c x y z : ℕ} → a ≡ x → b ≡ y → c ≡ z
          → ◌≡◌ {A = Node} (record { spec = Basic kind.Toggle; ends = a ∷ b ∷ c ∷ [] }) (record { spec = Basic kind.Toggle; ends = x ∷ y ∷ z ∷ [] })
      three p q s = rw (p, q, s) refl

  pub toggle_level : (d : ℕ) → map (toggle_of (level_numbers r d) (level_numbers r (suc d))) (range_with_len 0 (length (level_numbers r d))) ≡ map (part_of r) (toggles r d)
  toggle_level d =
      ap (λ k. map (toggle_of (level_numbers r d) (level_numbers r (suc d))) (range_with_len 0 k)) (level_long d)
      ∙ map_same (toggle_of (level_numbers r d) (level_numbers r (suc d))) (λ i. part_of r (Tog (leaf d i))) (range_with_len 0 (pow d)) (λ i a. toggle_at d i (range_low (pow d) i a))
      ∙ sym (map_map (part_of r) (λ i. Tog (leaf d i)) (range_with_len 0 (pow d)))

  -- ---- the acts

  pub spread_node : (y : ℕ) → part_of r (Spread y) ≡ record { spec = Basic (kind.Fork (length (r.outs y))); ends = number_of r (Go y) ∷ put_numbers r y }
  spread_node y = ap (λ ns. record { spec = Basic (kind.Fork (length (r.outs y))); ends = number_of r (Go y) ∷ ns }) (map_map (number_of r) (Put y) (r.outs y))

  pub spread_is : (y n : ℕ) (ns : List ℕ) → n ≡ number_of r (Go y) → ns ≡ put_numbers r y → fork_of (length ns) (n ∷ ns) ≡ part_of r (Spread y)
  spread_is y n ns go are =
      ap (λ m. fork_of (length ns) (m ∷ ns)) go ∙ ap (λ ms. fork_of (length ms) (number_of r (Go y) ∷ ms)) are
      ∙ ap (λ k. fork_of k (number_of r (Go y) ∷ put_numbers r y)) (length-map (r.outs y) (λ a. number_of r (Put y a))) ∙ sym (spread_node y)

  pub puts_long : (y : ℕ) → length (put_numbers r y) ≡ length (r.outs y)
  puts_long y = length-map (r.outs y) (λ a. number_of r (Put y a))

  -- ---- the symbols

  pub givers_few : (a : ℕ) → length (givers r a) ≤ pow r.levels
  givers_few a = omega (arith, filter_short (λ y. is_in a (r.outs y)) (range_with_len 0 (pow r.levels)), length-range_with_len 0 (pow r.levels))

  module _ (puts : List (List ℕ)) (are : puts ≡ map (put_numbers r) (range_with_len 0 (pow r.levels))) where
    row_at : (y : ℕ) → y < pow r.levels → get_or puts y [] ≡ put_numbers r y
    row_at y low = ap (λ ps. get_or ps y []) are ∙ get_or-map-range_with_len (put_numbers r) 0 (pow r.levels) y y [] low (omega arith)

    rows_long : length puts ≡ pow r.levels
    rows_long = ap length are ∙ length-map-range_with_len (put_numbers r) 0 (pow r.levels)

    giver : (a y : ℕ) → Among y (givers r a) → (y < pow r.levels) × (is_in a (r.outs y) ≡ true)
    giver a y i = let (b, e) = filter_among (λ y. is_in a (r.outs y)) (range_with_len 0 (pow r.levels)) y i in (range_low (pow r.levels) y b, e)

    give_at : (a y : ℕ) → Among y (givers r a) → get_or (get_or puts y []) (position_or_len (nat_eq a) (r.outs y)) 0 ≡ number_of r (Put y a)
    give_at a y i =
        let (low, has) = giver a y i in
        let (less, at) = place_in a (r.outs y) has in
        ap (λ ns. get_or ns (position_or_len (nat_eq a) (r.outs y)) 0) (row_at y low)
        ∙ get_or-map (λ a. number_of r (Put y a)) (r.outs y) (position_or_len (nat_eq a) (r.outs y)) 0 0 less ∙ ap (λ b. number_of r (Put y b)) at

    all_map : {A B : Type 0} (P : B → Type 0) (f : A → B) (xs : List A) → ((x : A) → Among x xs → P (f x)) → AllByRecursion P (map f xs)
    all_map P f [] h = tt
    all_map P f (x ∷ xs) h = (h x (inl refl), all_map P f xs (λ y i. h y (inr i)))

    pub gives_acts : (a : ℕ) → AllByRecursion (λ (g : Give). g.act < length puts) (gives_of r.outs (pow r.levels) a)
    gives_acts a = all_map (λ (g : Give). g.act < length puts) (give_of r.outs a) (givers r a) (λ y i. let (low, has) = giver a y i in omega (arith, rows_long))

    pub gives_ports : (a : ℕ) → AllByRecursion (λ (g : Give). g.port < length (get_or puts g.act [])) (gives_of r.outs (pow r.levels) a)
    gives_ports a = all_map (λ (g : Give). g.port < length (get_or puts g.act [])) (give_of r.outs a) (givers r a) (λ y i.
        let (low, has) = giver a y i in
        let (less, at) = place_in a (r.outs y) has in
        omega (arith, ap length (row_at y low), puts_long y))

    pub gives_numbers : (a : ℕ) → map (λ (g : Give). get_or (get_or puts g.act []) g.port 0) (gives_of r.outs (pow r.levels) a) ≡ map (λ y. number_of r (Put y a)) (givers r a)
    gives_numbers a =
        map_map (λ (g : Give). get_or (get_or puts g.act []) g.port 0) (give_of r.outs a) (givers r a)
        ∙ map_same (λ y. get_or (get_or puts y []) (position_or_len (nat_eq a) (r.outs y)) 0) (λ y. number_of r (Put y a)) (givers r a) (give_at a)

  pub out_number : (a : ℕ) → a < count r → is_out r a ≡ true → number_of r (Out a) ≡ a
  out_number a low yes_out = ap (number_of r) (sym (ap (λ b. if b then Out a else Sym a) yes_out)) ∙ ready.ports a low

  pub show_node : (a : ℕ) → a < count r → is_out r a ≡ true
      → part_of r (Shows a) ≡ record { spec = Basic (kind.Merge (length (givers r a))); ends = map (λ y. number_of r (Put y a)) (givers r a) ++ a ∷ [] }
  show_node a low yes_out = ap (λ ns. record { spec = Basic (kind.Merge (length (givers r a))); ends = ns })
      (map-append (number_of r) (map (λ y. Put y a) (givers r a)) (Out a ∷ [])
      ∙ ap (λ ns. ns ++ number_of r (Out a) ∷ []) (map_map (number_of r) (λ y. Put y a) (givers r a))
      ∙ ap (λ n. map (λ y. number_of r (Put y a)) (givers r a) ++ n ∷ []) (out_number a low yes_out))

  pub show_is : (a k : ℕ) (ws ns : List ℕ) → a < count r → is_out r a ≡ true → k ≡ length (givers r a) → ws ≡ ns ++ a ∷ [] → ns ≡ map (λ y. number_of r (Put y a)) (givers r a)
      → merge_of k ws ≡ part_of r (Shows a)
  show_is a k ws ns low yes_out long are puts =
      ap (λ i. merge_of i ws) long ∙ ap (merge_of (length (givers r a))) (are ∙ ap (λ ms. ms ++ a ∷ []) puts) ∙ sym (show_node a low yes_out)

  -- ---- the environment

  pub env_ends : map (number_of r) (outer_ports r) ≡ range_with_len 0 (count r)
  env_ends = map_map (number_of r) (outer r) (range_with_len 0 (count r))
      ∙ map_same (λ a. number_of r (outer r a)) (λ a. a) (range_with_len 0 (count r)) (λ a i. ready.ports a (range_low (count r) a i)) ∙ map_self (range_with_len 0 (count r))
    where
      map_self : (xs : List ℕ) → map (λ a. a) xs ≡ xs
      map_self [] = refl
      map_self (x ∷ xs) = ap (λ ys. x ∷ ys) (map_self xs)

  -- ---- lists of components that grow

  pub join_list : (k : ℕ) (ws : List ℕ) → is_single r.burst ≡ false → k ≡ length r.burst → ws ≡ r.burst ++ number_of r (To Top) ∷ []
      → c_of k ws ≡ map (part_of r) (filter (is_kept r) (Join ∷ []))
  join_list k ws more long are =
      ap (λ i. c_of i ws) long
      ∙ ap (c_of (length r.burst)) are
      ∙ ap (λ x. x ∷ []) (sym join_node)
      ∙ ap (λ (b : Bool). map (part_of r) (if not b then Join ∷ [] else [])) (sym more)

  pub join_none : is_single r.burst ≡ true → [] ≡ map (part_of r) (filter (is_kept r) (Join ∷ []))
  join_none one = ap (λ (b : Bool). map (part_of r) (if not b then Join ∷ [] else [])) (sym one)

  pub toggles_more : (d k : ℕ) (upper lower : List ℕ) (ns : List Node) → k ≡ suc d → upper ≡ level_numbers r d → lower ≡ level_numbers r (suc d) → ns ≡ map (part_of r) (each (toggles r) d)
      → ns ++ map (toggle_of upper lower) (range_with_len 0 (length upper)) ≡ map (part_of r) (each (toggles r) k)
  toggles_more d k upper lower ns k_is u l e =
      ap (λ xs. xs ++ map (toggle_of upper lower) (range_with_len 0 (length upper))) e
      ∙ ap (λ us. map (part_of r) (each (toggles r) d) ++ map (toggle_of us lower) (range_with_len 0 (length us))) u
      ∙ ap (λ ls. map (part_of r) (each (toggles r) d) ++ map (toggle_of (level_numbers r d) ls) (range_with_len 0 (length (level_numbers r d)))) l
      ∙ ap (λ xs. map (part_of r) (each (toggles r) d) ++ xs) (toggle_level d)
      ∙ sym (map-append (part_of r) (each (toggles r) d) (toggles r d))
      ∙ ap (λ m. map (part_of r) (each (toggles r) m)) (sym k_is)

  pub gate_list : (ws : List ℕ) → r.opens ≡ true → ws ≡ number_of r (To (leaf r.levels (burst_before r.opens (pow r.levels) 0))) ∷ number_of r (Go 0) ∷ []
      → iwire_of ws ≡ map (part_of r) (filter (is_kept r) (Gate 0 ∷ []))
  gate_list ws opens are =
      ap iwire_of are ∙ ap (λ (b : Bool). map (part_of r) (if b && nat_eq 0 0 then Gate 0 ∷ [] else [])) (sym opens)

  pub gate_none : r.opens ≡ false → [] ≡ map (part_of r) (filter (is_kept r) (Gate 0 ∷ []))
  gate_none opens = ap (λ (b : Bool). map (part_of r) (if b && nat_eq 0 0 then Gate 0 ∷ [] else [])) (sym opens)

  spread_parts : (i : ℕ) → map (part_of r) (filter (is_kept r) (map Spread (range_with_len 0 (i + 1))))
      ≡ map (part_of r) (filter (is_kept r) (map Spread (range_with_len 0 i))) ++ map (part_of r) (if not (is_single (r.outs i)) then Spread i ∷ [] else [])
  spread_parts i =
      ap (λ xs. map (part_of r) (filter (is_kept r) (map Spread xs))) (range_more i)
      ∙ ap (λ xs. map (part_of r) (filter (is_kept r) xs)) (map-append Spread (range_with_len 0 i) (i ∷ []))
      ∙ ap (map (part_of r)) (filter_parts (is_kept r) (map Spread (range_with_len 0 i)) (Spread i ∷ []))
      ∙ map-append (part_of r) (filter (is_kept r) (map Spread (range_with_len 0 i))) (filter (is_kept r) (Spread i ∷ []))

  pub spread_more : (i : ℕ) (ns : List Node) → is_single (r.outs i) ≡ false → ns ≡ map (part_of r) (filter (is_kept r) (map Spread (range_with_len 0 i)))
      → ns ++ part_of r (Spread i) ∷ [] ≡ map (part_of r) (filter (is_kept r) (map Spread (range_with_len 0 (i + 1))))
  spread_more i ns more e =
      ap (λ xs. xs ++ part_of r (Spread i) ∷ []) e
      ∙ ap (λ (b : Bool). map (part_of r) (filter (is_kept r) (map Spread (range_with_len 0 i))) ++ map (part_of r) (if not b then Spread i ∷ [] else [])) (sym more) ∙ sym (spread_parts i)

  pub spread_left : (i : ℕ) (ns : List Node) → is_single (r.outs i) ≡ true → ns ≡ map (part_of r) (filter (is_kept r) (map Spread (range_with_len 0 i)))
      → ns ≡ map (part_of r) (filter (is_kept r) (map Spread (range_with_len 0 (i + 1))))
  spread_left i ns one e =
      e ∙ sym (append-nil (map (part_of r) (filter (is_kept r) (map Spread (range_with_len 0 i)))))
      ∙ ap (λ (b : Bool). map (part_of r) (filter (is_kept r) (map Spread (range_with_len 0 i))) ++ map (part_of r) (if not b then Spread i ∷ [] else [])) (sym one) ∙ sym (spread_parts i)

  abbrev pub is_shown : ℕ → Bool
  is_shown a = is_out r a && not (is_single (givers r a))

  abbrev pub shows_to : ℕ → List Node
  shows_to k = map (part_of r) (map Shows (filter is_shown (range_with_len 0 k)))

  pub show_more : (i : ℕ) (ns : List Node) → is_shown i ≡ true → ns ≡ shows_to i → ns ++ part_of r (Shows i) ∷ [] ≡ shows_to (i + 1)
  show_more i ns yes_shown e =
      ap (λ xs. xs ++ part_of r (Shows i) ∷ []) e
      ∙ sym (ap (λ xs. map (part_of r) (map Shows xs)) (sym (filter_kept is_shown i yes_shown))
      ∙ ap (map (part_of r)) (map-append Shows (filter is_shown (range_with_len 0 i)) (i ∷ [])) ∙ map-append (part_of r) (map Shows (filter is_shown (range_with_len 0 i))) (Shows i ∷ []))

  pub show_left : (i : ℕ) (ns : List Node) → is_shown i ≡ false → ns ≡ shows_to i → ns ≡ shows_to (i + 1)
  show_left i ns hidden e = e ∙ ap (λ xs. map (part_of r) (map Shows xs)) (filter_left is_shown i hidden)

  pub env_node : (ws : List ℕ) → ws ≡ range_with_len 0 (count r) → record { spec = r.spec; ends = ws } ≡ part_of r Env
  env_node ws are = ap (λ ns. record { spec = r.spec; ends = ns }) (are ∙ sym env_ends)
