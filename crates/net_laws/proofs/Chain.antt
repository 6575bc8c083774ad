-- A chain of FORKs by the law of charts: the FORKs without taps are left out, however many follow one another.
use Rattle.std.proofs.Common.{◌≡◌, ◌↔◌, ℕ, zero, suc, ◌+◌, ◌-◌, ◌<◌, ◌≤◌, ◌^◌, List, [], ◌∷◌, map, length, get_or, ◌⊎◌, inl, inr, refl, sym, ap, subst, ◌∙◌, arith, eq-eqb, ne_eqb}
use Rattle.std.specs.Prelude.{IsTrue}
use Rattle.std.specs.List.{AllByRecursion, range_with_len}
use Rattle.std.proofs.lemmas.Bool.{cases_lt, cases_eq}
use Rattle.std.proofs.lemmas.List.FromFn.{length-map-range_with_len}
use Rattle.cmd_tree.specs.Rounds.{tally, naught, Rounds}
use Rattle.cmd_tree.proofs.RoundsPorts.{rounds_ports}
use Rattle.basic_kinds.specs.Totals.{total}
use Rattle.basic_kinds.proofs.Totals.{total_same}
use Rattle.basic_kinds.specs.declared.kind.Kind.TheVariants as kind
use Rattle.net_core.specs.declared.spec.NodeSpec.{NodeSpec}
use Rattle.net_core.specs.declared.spec.NodeSpec.TheVariants.{Kind as Basic}
use Rattle.net_core.specs.Specs.{sides, outs_of, IsFormed, May, is_kind}
use Rattle.net_core.specs.Networks.{Correct}
use Rattle.net_laws.specs.Charts.{Chart, charted}
use Rattle.net_laws.specs.Implementing.{Implements}
use Rattle.net_laws.specs.ForkChain.{Wire, Go, Tap, each, kept_fork, width, start, end_by, end_of, number_of_end, number_of, chain_chart}
use Rattle.net_laws.proofs.Webs as webs
use Rattle.net_laws.proofs.Paths.{Hop, Path, here, hop}
use Rattle.net_laws.proofs.Among.{Among, Distinct}
use Rattle.net_laws.proofs.Routes.{Joined, Routes, routes_basic, routes_clean, routes_correct}
use Rattle.net_laws.proofs.Rows.{row, among_row, row_among, row_all, distinct_row, number_row, joined_outs}
use Rattle.net_laws.proofs.Blocks.{among_each, each_among, each_all, distinct_each, each_long, number_each}
use Rattle.net_laws.proofs.Rules.{rounds_spec}
use Rattle.net_laws.proofs.ChainWeb.{same_wire, wires_decide, driver, receiver, tap_receiver, taps, EnvOn, ForkOn, Rule, web, There, go_tap, go_taps, tap_among, one_go, EnvTakes, env_go, env_tap, fork_go, fork_tap, lawful, sound, exact}

zero_or : (n : ℕ) → (n ≡ 0) ⊎ ((v : ℕ) × (n ≡ suc v))
zero_or zero = inl refl
zero_or (suc v) = inr (v, refl)

-- ---- where a wire ends, and where it begins

module _ (u : ℕ → ℕ) where
  end_skip : (r : ℕ) → u r ≡ 0 → end_of u (suc r) ≡ end_of u r
  end_skip r e = ap (λ v. end_by v r (end_of u r)) e

  end_stop : (r : ℕ) → 0 < u r → end_of u (suc r) ≡ suc r
  end_stop r h = elim (zero_or (u r)) [
    | inl e ↦ absurd (omega arith)
    | inr (v, e) ↦ ap (λ v. end_by v r (end_of u r)) e
  ]

  end_low : (i : ℕ) → end_of u i ≤ i
  end_low zero = omega arith
  end_low (suc r) = elim (cases_lt 0 (u r)) [
    | inl some ↦ omega (arith, end_stop r some)
    | inr none ↦ omega (arith, end_skip r (omega arith), end_low r)
  ]

  end_is : (i : ℕ) → (end_of u i ≡ 0) ⊎ ((r : ℕ) × (r < i) × (0 < u r) × (end_of u i ≡ suc r))
  end_is zero = inl refl
  end_is (suc r) = elim (cases_lt 0 (u r)) [
    | inl some ↦ inr (r, omega arith, some, end_stop r some)
    | inr none ↦ let skip = end_skip r (omega arith) in elim (end_is r) [
      | inl e ↦ inl (skip ∙ e)
      | inr (q, low, some, e) ↦ inr (q, omega arith, some, skip ∙ e)
    ]
  ]

  end_again : (i : ℕ) → end_of u (end_of u i) ≡ end_of u i
  end_again i = elim (end_is i) [
    | inl e ↦ ap (end_of u) e ∙ sym e
    | inr (q, low, some, e) ↦ ap (end_of u) e ∙ end_stop q some ∙ sym e
  ]

  end_none : (i k : ℕ) → end_of u i ≤ k → k < i → u k ≡ 0
  end_none zero k low high = absurd (omega arith)
  end_none (suc r) k low high = elim (cases_lt 0 (u r)) [
    | inl some ↦ absurd (omega (arith, end_stop r some))
    | inr none ↦ elim (cases_lt k r) [
      | inl less ↦ end_none r k (omega (arith, end_skip r (omega arith))) less
      | inr last ↦ let e : k ≡ r = omega arith in ap u e ∙ omega arith
    ]
  ]

  up_by : ℕ → ℕ → ℕ → ℕ
  up_by zero i next = next
  up_by (suc v) i next = i

  -- from the end at i up to where the wire begins, in at most so many steps
  up : ℕ → ℕ → ℕ
  up zero i = i
  up (suc f) i = up_by (u i) i (up f (suc i))

  up_zero : (i : ℕ) → up 0 i ≡ i
  unfolding up
  up_zero i = refl

  up_skip : (f i : ℕ) → u i ≡ 0 → up (suc f) i ≡ up f (suc i)
  unfolding up up_by
  up_skip f i e = ap (λ v. up_by v i (up f (suc i))) e

  up_stop : (f i : ℕ) → 0 < u i → up (suc f) i ≡ i
  unfolding up up_by
  up_stop f i h = elim (zero_or (u i)) [
    | inl e ↦ absurd (omega arith)
    | inr (v, e) ↦ ap (λ v. up_by v i (up f (suc i))) e
  ]

  up_end : (f i : ℕ) → end_of u (up f i) ≡ end_of u i
  up_end zero i = ap (end_of u) (up_zero i)
  up_end (suc f) i = elim (cases_lt 0 (u i)) [
    | inl some ↦ ap (end_of u) (up_stop f i some)
    | inr none ↦ let e : u i ≡ 0 = omega arith in ap (end_of u) (up_skip f i e) ∙ up_end f (suc i) ∙ end_skip i e
  ]

  up_high : (f i : ℕ) → i ≤ up f i
  up_high zero i = omega (arith, up_zero i)
  up_high (suc f) i = elim (cases_lt 0 (u i)) [
    | inl some ↦ omega (arith, up_stop f i some)
    | inr none ↦ omega (arith, up_skip f i (omega arith), up_high f (suc i))
  ]

  up_low : (h f i : ℕ) → f + i ≡ h → up f i ≤ h
  up_low h zero i e = omega (arith, up_zero i)
  up_low h (suc f) i e = elim (cases_lt 0 (u i)) [
    | inl some ↦ omega (arith, up_stop f i some)
    | inr none ↦ omega (arith, up_skip f i (omega arith), up_low h f (suc i) (omega arith))
  ]

  abbrev Kept : ℕ → ℕ → Type 0
  Kept h n = (n ≡ h) ⊎ ((n < h) × (0 < u n))

  up_kept : (h f i : ℕ) → f + i ≡ h → Kept h (up f i)
  up_kept h zero i e = inl (up_zero i ∙ omega arith)
  up_kept h (suc f) i e = elim (cases_lt 0 (u i)) [
    | inl some ↦ subst (Kept h) (sym (up_stop f i some)) (inr (omega arith, some))
    | inr none ↦ subst (Kept h) (sym (up_skip f i (omega arith))) (up_kept h f (suc i) (omega arith))
  ]

  up_before : (h f i r : ℕ) → f + i ≡ h → i ≤ r → r < h → 0 < u r → up f i ≤ r
  up_before h zero i r e low high some = absurd (omega arith)
  up_before h (suc f) i r e low high some = elim (cases_lt 0 (u i)) [
    | inl stop ↦ omega (arith, up_stop f i stop)
    | inr none ↦
        let other : i ≡ r → ⊥ = λ z. let same = ap u z in omega arith in
        omega (arith, up_skip f i (omega arith), up_before h f (suc i) r (omega arith) (omega arith) high some)
  ]

  up_back : (h f e i : ℕ) → f + e ≡ h → e ≤ i → i ≤ h → ((k : ℕ) → e ≤ k → k < i → u k ≡ 0) → Kept h i → up f e ≡ i
  up_back h zero e i sum low high none kept = up_zero e ∙ omega arith
  up_back h (suc f) e i sum low high none kept = elim (cases_lt e i) [
    | inl less ↦ up_skip f e (none e (omega arith) less) ∙ up_back h f (suc e) i (omega arith) (omega arith) high (λ k a b. none k (omega arith) b) kept
    | inr last ↦ let same : e ≡ i = omega arith in at same kept
  ]
    where
      at : e ≡ i → (i ≡ h) ⊎ ((i < h) × (0 < u i)) → up (suc f) e ≡ i
      at same (inl z) = absurd (omega arith)
      at same (inr (z, some)) = up_stop f e (omega (arith, ap u same)) ∙ same

-- ---- the chart

module _ (s : NodeSpec) (h : ℕ) (u : ℕ → ℕ) (tapped : ℕ) (inside : tapped < h) (some_tap : 0 < u tapped) (few : (r : ℕ) → r < h → u r < 2 ^ 26)
    (formed : IsFormed s) (outs : outs_of s ≡ sides 1 (suc (total h u))) (traces : (t : List ℕ) → May s t ↔ Rounds 1 (suc (total h u)) t) where
  some : 0 < h
  some = omega arith

  abbrev chart : Chart ℕ Wire
  chart = chain_chart s h u

  abbrev Keep : ℕ → Type 0
  Keep n = Kept u h n

  abbrev root : Wire → Wire
  root (Go i) = Go (end_of u i)
  root (Tap r j) = Tap r j

  abbrev first : Wire → Wire
  first (Go i) = Go (up u (h - i) i)
  first (Tap r j) = Tap r j

  line_block : ℕ → ℕ → List Wire
  line_block r zero = []
  line_block r (suc v) = Go (suc r) ∷ row (Tap r) (suc v)

  abbrev lines : List Wire
  lines = Go 0 ∷ each (λ r. line_block r (u r)) h

  block_is : (r v : ℕ) → u r ≡ v → 0 < v → line_block r (u r) ≡ Go (suc r) ∷ row (Tap r) (u r)
  unfolding line_block
  block_is r zero e pos = absurd (omega arith)
  block_is r (suc v) e pos = ap (line_block r) e ∙ ap (λ k. Go (suc r) ∷ row (Tap r) k) (sym e)

  block_none : (r : ℕ) → u r ≡ 0 → line_block r (u r) ≡ []
  unfolding line_block
  block_none r e = ap (line_block r) e

  abbrev nothing : Wire
  nothing = Go (suc h)

  spec_env : chart.spec h ≡ s
  spec_env = rw (eq-eqb h h refl) refl

  spec_fork : (n : ℕ) → n < h → chart.spec n ≡ Basic (kind.Fork (suc (u n)))
  spec_fork n low = rw (ne_eqb n h (λ e. omega arith)) refl

  ports_env : chart.ports h ≡ Go h ∷ Go 0 ∷ taps h u
  ports_env = rw (eq-eqb h h refl) refl

  ports_fork : (n : ℕ) → n < h → chart.ports n ≡ Go (suc n) ∷ Go n ∷ row (Tap n) (u n)
  ports_fork n low = rw (ne_eqb n h (λ e. omega arith)) refl

  -- the FORKs that are kept
  parts_all : (P : ℕ → Type 0) → ((r : ℕ) → r < h → 0 < u r → P r) → AllByRecursion P chart.parts
  parts_all P all = each_all (λ r. kept_fork r (u r)) P h (λ r low. at r low (u r) refl)
    where
      at : (r : ℕ) → r < h → (v : ℕ) → u r ≡ v → AllByRecursion P (kept_fork r v)
      at r low zero e = tt
      at r low (suc v) e = (all r low (omega arith), tt)

  parts_among : (r : ℕ) → r < h → 0 < u r → Among r chart.parts
  parts_among r low pos = each_among (λ r. kept_fork r (u r)) h r r low (at (u r) refl)
    where
      at : (v : ℕ) → u r ≡ v → Among r (kept_fork r v)
      at zero e = absurd (omega arith)
      at (suc v) e = inl refl

  fork_is : (r v x : ℕ) → Among x (kept_fork r v) → x ≡ r
  fork_is r zero x a = absurd a
  fork_is r (suc v) x (inl e) = e
  fork_is r (suc v) x (inr z) = absurd z

  fork_once : (r v : ℕ) → Distinct (kept_fork r v)
  fork_once r zero = tt
  fork_once r (suc v) = ((λ z. z), tt)

  nodes_once : Distinct (h ∷ chart.parts)
  nodes_once = (
    (λ a. let (r, low, b) = among_each (λ r. kept_fork r (u r)) h h a in let e = fork_is r (u r) h b in omega arith),
    distinct_each (λ r. kept_fork r (u r)) h (λ r low. fork_once r (u r)) (λ r q x a b. sym (fork_is r (u r) x a) ∙ fork_is q (u q) x b),
  )

  -- the lines
  lines_all : (P : Wire → Type 0) → P (Go 0) → ((r : ℕ) → r < h → 0 < u r → P (Go (suc r))) → ((r j : ℕ) → r < h → j < u r → P (Tap r j)) → AllByRecursion P lines
  lines_all P a b c = (
    a,
    each_all (λ r. line_block r (u r)) P h (λ r low. elim (cases_lt 0 (u r)) [
      | inl pos ↦ subst (AllByRecursion P) (sym (block_is r (u r) refl pos)) (b r low pos, row_all P (Tap r) (u r) (λ j in_row. c r j low in_row))
      | inr none ↦ subst (AllByRecursion P) (sym (block_none r (omega arith))) tt
    ]),
  )

  go_line : (r : ℕ) → r < h → 0 < u r → Among (Go (suc r)) lines
  go_line r low pos =
      inr (each_among (λ r. line_block r (u r)) h r (Go (suc r)) low (subst (Among (Go (suc r))) (sym (block_is r (u r) refl pos)) (inl refl)))

  tap_line : (r j : ℕ) → r < h → j < u r → Among (Tap r j) lines
  tap_line r j low in_row =
      inr (each_among (λ r. line_block r (u r)) h r (Tap r j) low
      (subst (Among (Tap r j)) (sym (block_is r (u r) refl (omega arith))) (inr (row_among (Tap r) (u r) j in_row))))

  end_line : (i : ℕ) → i ≤ h → Among (Go (end_of u i)) lines
  end_line i low = elim (end_is u i) [
    | inl e ↦ inl (ap Go e)
    | inr (r, less, pos, e) ↦ subst (λ z. Among (Go z) lines) (sym e) (go_line r (omega arith) pos)
  ]

  -- the numbers of the lines
  numbers_block : (r : ℕ) → r < h → map (number_of u) (line_block r (u r)) ≡ range_with_len (1 + total r (λ k. width (u k))) (width (u r))
  unfolding line_block
  numbers_block r low = at (u r) refl
    where
      at : (v : ℕ) → u r ≡ v → map (number_of u) (line_block r v) ≡ range_with_len (1 + total r (λ k. width (u k))) (width v)
      at zero e = refl
      at (suc v) e =
          let go : number_of u (Go (suc r)) ≡ 1 + total r (λ k. width (u k)) = ap (number_of_end u) (end_stop u r (omega arith)) ∙ omega arith in
          ap (λ k. k ∷ map (number_of u) (row (Tap r) (suc v))) go
          ∙ ap (λ l. (1 + total r (λ k. width (u k))) ∷ l) (number_row (number_of u) (Tap r) (1 + total r (λ k. width (u k)) + 1) (suc v) (λ j in_row. omega arith))

  numbers_are : map (number_of u) lines ≡ range_with_len 0 (start u h)
  numbers_are = ap (λ l. 0 ∷ l) (number_each (λ r. line_block r (u r)) (number_of u) 1 (λ k. width (u k)) h numbers_block)

  -- a FORK without taps is a WIRE
  fork_hop : (r : ℕ) → r < h → u r ≡ 0 → Hop ℕ Wire (web h u) Keep (Go (suc r)) (Go r)
  fork_hop r low none = record {
    joins = refl;
    inner = inner;
    takes = takes;
    gives = λ t less. inr (low, inr (inl refl, (less, tt)));
    passed = passed;
  }
    where
      inner : (r ≡ h) ⊎ ((r < h) × (0 < u r)) → ⊥
      inner (inl e) = omega arith
      inner (inr (e, pos)) = omega arith

      takes : (t : List Wire) → Rule h u r (tally same_wire naught t) (Go (suc r)) → tally same_wire naught t (Go (suc r)) ≡ tally same_wire naught t (Go r)
      takes t (inl (e, q)) = absurd (omega arith)
      takes t (inr (e, q)) = elim (fork_go u r (tally same_wire naught t) (suc r) q) [
        | inl (z, same) ↦ same
        | inr (z, less) ↦ absurd (omega arith)
      ]

      passed : (t : List Wire) → Rule h u r (tally same_wire naught t) (Go r) → tally same_wire naught t (Go r) < tally same_wire naught t (Go (suc r))
      passed t (inl (e, q)) = absurd (omega arith)
      passed t (inr (e, q)) = elim (fork_go u r (tally same_wire naught t) r q) [
        | inl (z, same) ↦ absurd (omega arith)
        | inr (z, less) ↦ less
      ]

  down_path : (t : ℕ) → t ≤ h → Path ℕ Wire (web h u) Keep (Go t) (Go (end_of u t))
  down_path zero low = here (Go 0)
  down_path (suc r) low = elim (cases_lt 0 (u r)) [
    | inl pos ↦ subst (λ z. Path ℕ Wire (web h u) Keep (Go (suc r)) (Go z)) (sym (end_stop u r pos)) (here (Go (suc r)))
    | inr none ↦
        let zero_taps : u r ≡ 0 = omega arith in
        subst (λ z. Path ℕ Wire (web h u) Keep (Go (suc r)) (Go z)) (sym (end_skip u r zero_taps))
        (hop (Go (suc r)) (Go r) (Go (end_of u r)) (fork_hop r (omega arith) zero_taps)
        (λ e. let z = one_go (suc r) (end_of u r) e in let y = end_low u r in omega arith) (down_path r (omega arith)))
  ]

  line_path : (i : ℕ) → i ≤ h → end_of u i ≡ i → Path ℕ Wire (web h u) Keep (first (Go i)) (Go i)
  line_path i low e =
      subst (λ z. Path ℕ Wire (web h u) Keep (first (Go i)) (Go z)) (up_end u (h - i) i ∙ e) (down_path (up u (h - i) i) (up_low u h (h - i) i (omega arith)))

  line_first : (i : ℕ) → i ≤ h → end_of u i ≡ i → There h u (first (Go i)) × Keep (driver (first (Go i))) × (root (first (Go i)) ≡ Go i)
  line_first i low e = (up_low u h (h - i) i (omega arith), up_kept u h (h - i) i (omega arith), ap Go (up_end u (h - i) i ∙ e))

  -- ports and rules
  taps_long : length (taps h u) ≡ total h u
  taps_long = each_long (λ r. row (Tap r) (u r)) h ∙ total_same h (λ r. length (row (Tap r) (u r))) u (λ r low. length-map-range_with_len (Tap r) 0 (u r))

  env_once : Distinct (Go h ∷ Go 0 ∷ taps h u)
  env_once = (head, (go_taps h u 0, distinct_each (λ r. row (Tap r) (u r)) h (λ r low. distinct_row (Tap r) (λ i j e. cc) (u r)) same_fork))
    where
      head : Among (Go h) (Go 0 ∷ taps h u) → ⊥
      head (inl e) = let z = one_go h 0 e in omega arith
      head (inr a) = go_taps h u h a

      same_fork : (r q : ℕ) (x : Wire) → Among x (row (Tap r) (u r)) → Among x (row (Tap q) (u q)) → r ≡ q
      same_fork r q x a b = let (i, low, e) = among_row (Tap r) (u r) x a in let (j, high, f) = among_row (Tap q) (u q) x b in cc

  fork_ports_once : (n : ℕ) → Distinct (Go (suc n) ∷ Go n ∷ row (Tap n) (u n))
  fork_ports_once n = (head, (go_tap u n n, distinct_row (Tap n) (λ i j e. cc) (u n)))
    where
      head : Among (Go (suc n)) (Go n ∷ row (Tap n) (u n)) → ⊥
      head (inl e) = let z = one_go (suc n) n e in omega arith
      head (inr a) = go_tap u n (suc n) a

  never : (n : ℕ) (c : Wire → ℕ) → Rule h u n c nothing → ⊥
  never n c (inl (e, q)) = at (env_go h u c (suc h) q)
    where
      at : EnvTakes h u c (suc h) ⊎ ((suc h ≡ 0) × (c nothing < c (Go h))) → ⊥
      at (inl t) = let z = t.is in omega arith
      at (inr (z, less)) = omega arith
  never n c (inr (low, q)) = at (fork_go u n c (suc h) q)
    where
      at : ((suc h ≡ suc n) × (c nothing ≡ c (Go n))) ⊎ ((suc h ≡ n) × (c nothing < c (Go (suc n)))) → ⊥
      at (inl (z, x)) = omega arith
      at (inr (z, x)) = omega arith

  env_may : (t : List ℕ) → May s t ↔ webs.May (web h u) h (map (λ p. get_or (Go h ∷ Go 0 ∷ taps h u) p nothing) t)
  env_may t =
      let long : length (Go 0 ∷ taps h u) ≡ suc (total h u) = ap suc taps_long in
      let both = rounds_spec same_wire wires_decide (Go h ∷ []) (Go 0 ∷ taps h u) nothing 1 (suc (total h u)) refl long env_once (Rule h u h) (never h)
      (λ e w. (there e w, (λ r. inl (refl, r)))) t in
      ((λ x. both.0 ((traces t).0 x)), (λ x. (traces t).1 (both.1 x)))
    where
      there : (e : Wire → ℕ) (w : Wire) → Rule h u h e w → EnvOn h u e w
      there e w (inl (z, r)) = r
      there e w (inr (z, r)) = absurd (omega arith)

  fork_traces : (m : ℕ) → (t : List ℕ) → May (Basic (kind.Fork (suc m))) t ↔ Rounds 1 (suc m) t
  unfolding May
  fork_traces m t = rounds_ports 1 (suc m) (omega arith) (omega arith) t

  fork_may : (n : ℕ) → n < h → (t : List ℕ)
      → May (Basic (kind.Fork (suc (u n)))) t ↔ webs.May (web h u) n (map (λ p. get_or (Go (suc n) ∷ Go n ∷ row (Tap n) (u n)) p nothing) t)
  fork_may n low t =
      let long : length (Go n ∷ row (Tap n) (u n)) ≡ suc (u n) = ap suc (length-map-range_with_len (Tap n) 0 (u n)) in
      let both = rounds_spec same_wire wires_decide (Go (suc n) ∷ []) (Go n ∷ row (Tap n) (u n)) nothing 1 (suc (u n)) refl long (fork_ports_once n) (Rule h u n) (never n)
      (λ e w. (there e w, (λ r. inr (low, r)))) t in
      ((λ x. both.0 ((fork_traces (u n) t).0 x)), (λ x. (fork_traces (u n) t).1 (both.1 x)))
    where
      there : (e : Wire → ℕ) (w : Wire) → Rule h u n e w → ForkOn u n e w
      there e w (inl (z, r)) = absurd (omega arith)
      there e w (inr (z, r)) = r

  routes : Routes ℕ Wire (web h u) Keep (There h u) chart lines root first (λ w. w) nothing
  routes = record {
    env = refl;
    nodes = nodes_once;
    formed = (
      subst IsFormed (sym spec_env) formed,
      parts_all (λ n. IsFormed (chart.spec n)) (λ r low pos.
          let small = few r low in subst IsFormed (sym (spec_fork r low)) (record { wide = omega arith; few = omega arith })),
    );
    outer = subst (λ l. Joined (receiver h) driver h (outs_of (chart.spec h)) l) (sym ports_env)
        (subst (λ (x : NodeSpec). Joined (receiver h) driver h (outs_of x) (Go h ∷ Go 0 ∷ taps h u)) (sym spec_env)
        (subst (λ b. Joined (receiver h) driver h b (Go h ∷ Go 0 ∷ taps h u)) (sym outs) (
          refl,
          joined_outs (receiver h) driver h (suc (total h u)) (Go 0 ∷ taps h u) (ap suc taps_long)
              (refl, each_all (λ r. row (Tap r) (u r)) (λ w. receiver h w ≡ h) h (λ r low. row_all (λ w. receiver h w ≡ h) (Tap r) (u r) (λ j in_row. tap_receiver h r j low))),
        )));
    inner = parts_all (λ n. Joined driver (receiver h) n (outs_of (chart.spec n)) (chart.ports n)) (λ r low pos.
        subst (λ l. Joined driver (receiver h) r (outs_of (chart.spec r)) l) (sym (ports_fork r low))
        (subst (λ (x : NodeSpec). Joined driver (receiver h) r (outs_of x) (Go (suc r) ∷ Go r ∷ row (Tap r) (u r))) (sym (spec_fork r low)) (
          refl,
          joined_outs driver (receiver h) r (suc (u r)) (Go r ∷ row (Tap r) (u r)) (ap suc (length-map-range_with_len (Tap r) 0 (u r)))
              (refl, row_all (λ w. driver w ≡ r) (Tap r) (u r) (λ j in_row. refl)),
        )));
    distinct = (subst Distinct (sym ports_env) env_once, parts_all (λ n. Distinct (chart.ports n)) (λ r low pos. subst Distinct (sym (ports_fork r low)) (fork_ports_once r)));
    kept = (inl refl, parts_all Keep (λ r low pos. inr (low, pos)));
    there = (
      subst (AllByRecursion (There h u)) (sym ports_env)
          (omega arith, (omega arith, each_all (λ r. row (Tap r) (u r)) (There h u) h (λ r low. row_all (There h u) (Tap r) (u r) (λ j in_row. (low, in_row))))),
      parts_all (λ n. AllByRecursion (There h u) (chart.ports n)) (λ r low pos. subst (AllByRecursion (There h u)) (sym (ports_fork r low))
          (omega arith, (omega arith, row_all (There h u) (Tap r) (u r) (λ j in_row. (low, in_row))))),
    );
    driven = driven;
    received = received;
    numbers = numbers_are;
    number_root = number_root;
    begins = begins;
    ends = ends;
    firsts = lines_all (λ v. There h u (first v) × Keep (driver (first v)) × (root (first v) ≡ v)) (line_first 0 (omega arith) refl)
        (λ r low pos. line_first (suc r) (omega arith) (end_stop u r pos)) (λ r j low in_row. ((low, in_row), inr (low, omega arith), refl));
    lasts = lines_all (λ v. There h u v × Keep (receiver h v) × (root v ≡ v)) (omega arith, inl refl, refl)
        (λ r low pos. (omega arith, inr (low, pos), ap Go (end_stop u r pos))) (λ r j low in_row. ((low, in_row), inl (tap_receiver h r j low), refl));
    path = lines_all (λ v. Path ℕ Wire (web h u) Keep (first v) v) (line_path 0 (omega arith) refl)
        (λ r low pos. line_path (suc r) (omega arith) (end_stop u r pos)) (λ r j low in_row. here (Tap r j));
    apart = lines_all (λ v. driver (first v) ≡ receiver h v → ⊥)
        (λ e. let z = up_before u h (h - 0) 0 tapped (omega arith) (omega arith) inside some_tap in omega arith)
        (λ r low pos e. let z = up_high u (h - suc r) (suc r) in omega arith)
        (λ r j low in_row. (lawful h u some).clean (Tap r j));
    real_out = real_out;
    real_in = real_in;
    enters = λ w t. decide (driver w) (driver_low w t);
    leaves = λ w t. decide (receiver h w) (receiver_low w t);
    never = λ n t r. never n (tally same_wire naught t) r;
    may = (
      subst (λ l. (t : List ℕ) → May (chart.spec h) t ↔ webs.May (web h u) h (map (λ p. get_or l p nothing) t)) (sym ports_env)
          (subst (λ (x : NodeSpec). (t : List ℕ) → May x t ↔ webs.May (web h u) h (map (λ p. get_or (Go h ∷ Go 0 ∷ taps h u) p nothing) t)) (sym spec_env) env_may),
      parts_all (λ n. (t : List ℕ) → May (chart.spec n) t ↔ webs.May (web h u) n (map (λ p. get_or (chart.ports n) p nothing) t)) (λ r low pos.
          subst (λ l. (t : List ℕ) → May (chart.spec r) t ↔ webs.May (web h u) r (map (λ p. get_or l p nothing) t)) (sym (ports_fork r low))
          (subst (λ (x : NodeSpec). (t : List ℕ) → May x t ↔ webs.May (web h u) r (map (λ p. get_or (Go (suc r) ∷ Go r ∷ row (Tap r) (u r)) p nothing) t)) (sym (spec_fork r low)) (fork_may r low))),
    );
  }
    where
      driver_low : (w : Wire) → There h u w → driver w ≤ h
      driver_low (Go i) t = t
      driver_low (Tap r j) t = omega (arith, t.0)

      receiver_low : (w : Wire) → There h u w → receiver h w ≤ h
      receiver_low (Go zero) t = omega arith
      receiver_low (Go (suc r)) t = omega arith
      receiver_low (Tap r j) t = omega (arith, tap_receiver h r j t.0)

      decide : (n : ℕ) → n ≤ h → Keep n ⊎ (Keep n → ⊥)
      decide n low = elim (cases_eq n h) [
        | inl e ↦ inl (inl e)
        | inr ne ↦ elim (cases_lt 0 (u n)) [
          | inl pos ↦ inl (inr (omega arith, pos))
          | inr none ↦ inr (λ k. elim k [ inl e ↦ ne e | inr (z, pos) ↦ omega arith ])
        ]
      ]

      driven : (w : Wire) → There h u w → Keep (driver w) → Among (driver w) (h ∷ chart.parts) × Among w (chart.ports (driver w))
      driven (Go i) t (inl e) = (inl e, subst (λ n. Among (Go n) (chart.ports n)) (sym e) (subst (Among (Go h)) (sym ports_env) (inl refl)))
      driven (Go i) t (inr (low, pos)) = (inr (parts_among i low pos), subst (Among (Go i)) (sym (ports_fork i low)) (inr (inl refl)))
      driven (Tap r j) t (inl e) = let z = t.0 in absurd (omega arith)
      driven (Tap r j) t (inr (low, pos)) = (inr (parts_among r low pos), subst (Among (Tap r j)) (sym (ports_fork r low)) (inr (inr (row_among (Tap r) (u r) j t.1))))

      received : (w : Wire) → There h u w → Keep (receiver h w) → Among (receiver h w) (h ∷ chart.parts) × Among w (chart.ports (receiver h w))
      received (Go zero) t k = (inl refl, subst (Among (Go 0)) (sym ports_env) (inr (inl refl)))
      received (Go (suc r)) t (inl e) = absurd (omega arith)
      received (Go (suc r)) t (inr (low, pos)) = (inr (parts_among r low pos), subst (Among (Go (suc r))) (sym (ports_fork r low)) (inl refl))
      received (Tap r j) t k =
          let is = tap_receiver h r j t.0 in
          (inl is, subst (λ n. Among (Tap r j) (chart.ports n)) (sym is) (subst (Among (Tap r j)) (sym ports_env) (inr (inr (tap_among h u r j t.0 t.1)))))

      number_root : (w : Wire) → There h u w → number_of u w ≡ number_of u (root w)
      number_root (Go i) t = ap (number_of_end u) (sym (end_again u i))
      number_root (Tap r j) t = refl

      begins : (w : Wire) → There h u w → Keep (driver w) → Among (root w) lines × (first (root w) ≡ w)
      begins (Go i) t k = (
        end_line i t,
        ap Go (up_back u h (h - end_of u i) (end_of u i) i (let z = end_low u i in omega arith) (end_low u i) t (end_none u i) k),
      )
      begins (Tap r j) t k = (tap_line r j t.0 t.1, refl)

      ends : (w : Wire) → There h u w → Keep (receiver h w) → Among (root w) lines × (root w ≡ w)
      ends (Go zero) t k = (inl refl, refl)
      ends (Go (suc r)) t (inl e) = absurd (omega arith)
      ends (Go (suc r)) t (inr (low, pos)) = (end_line (suc r) t, ap Go (end_stop u r pos))
      ends (Tap r j) t k = (tap_line r j t.0 t.1, refl)

      real_out : (w : Wire) (t : List Wire) → (web h u).rule (driver w) t w → There h u w
      real_out (Go i) t (inl (e, q)) = omega arith
      real_out (Go i) t (inr (low, q)) = omega arith
      real_out (Tap r j) t (inl (e, q)) = let (low, in_row, less) = env_tap h u (tally same_wire naught t) r j q in (low, in_row)
      real_out (Tap r j) t (inr (low, q)) = let (same, in_row, less) = fork_tap u r (tally same_wire naught t) r j q in (low, in_row)

      real_in : (w : Wire) (t : List Wire) → (web h u).rule (receiver h w) t w → There h u w
      real_in (Go zero) t r = omega arith
      real_in (Go (suc r)) t (inl (e, q)) = at (env_go h u (tally same_wire naught t) (suc r) q)
        where
          at : EnvTakes h u (tally same_wire naught t) (suc r) ⊎ ((suc r ≡ 0) × (tally same_wire naught t (Go (suc r)) < tally same_wire naught t (Go h))) → suc r ≤ h
          at (inl z) = let y = z.is in omega arith
          at (inr (z, less)) = omega arith
      real_in (Go (suc r)) t (inr (low, q)) = omega arith
      real_in (Tap r j) t (inl (e, q)) = let (low, in_row, less) = env_tap h u (tally same_wire naught t) r j q in (low, in_row)
      real_in (Tap r j) t (inr (low, q)) =
          let (same, in_row, less) = fork_tap u (receiver h (Tap r j)) (tally same_wire naught t) r j q in
          (subst (λ n. n < h) (sym same) low, subst (λ n. j < u n) (sym same) in_row)

  pub chain_right : Implements (charted (chain_chart s h u)) s
  chain_right =
      let whole = routes_correct ℕ Wire (web h u) Keep (There h u) chart lines root first (λ w. w) nothing (lawful h u some) routes (sound h u some) (exact h u some) in
      record {
        basic = routes_basic ℕ Wire (web h u) Keep (There h u) chart lines root first (λ w. w) nothing (lawful h u some) routes
            (parts_all (λ n. IsTrue (is_kind (chart.spec n))) (λ r low pos. subst (λ (x : NodeSpec). IsTrue (is_kind x)) (sym (spec_fork r low)) refl));
        clean = routes_clean ℕ Wire (web h u) Keep (There h u) chart lines root first (λ w. w) nothing (lawful h u some) routes;
        correct = subst (Correct (charted chart)) spec_env whole;
      }
