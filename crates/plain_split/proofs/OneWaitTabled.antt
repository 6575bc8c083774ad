-- The tables of the graph of a command say its links.
use Rattle.std.proofs.Common.{◌≡◌, inl, inr, ℕ, ◌<◌, ◌≤◌, Bool, true, false, true≢false, List, [], ◌∷◌, length, map, get_or, refl, sym, ap, ◌∙◌, subst, arith, eqb-true}
use Rattle.std.specs.Prelude.{nat_eq, ◌||◌}
use Rattle.std.proofs.Math.Path.{fun_ext}
use Rattle.std.specs.List.{range_with_len}
use Rattle.std.proofs.lemmas.Bool.{cases_lt, cases_Bool}
use Rattle.std.proofs.lemmas.List.{get_or_past, get_or-map}
use Rattle.std.proofs.lemmas.List.FromFn.{length-map-range_with_len, get_or-map-range_with_len}
use Rattle.std.proofs.lemmas.List.Sums.{position_or_len_is}
use Rattle.cmd_tree.specs.declared.tree.Sym.{Sym}
use Rattle.place_graph.specs.declared.leg.Leg.{Leg}
use Rattle.place_graph.specs.declared.wait_graph.Act.{Act}
use Rattle.place_graph.specs.declared.wait_graph.WaitGraph.{WaitGraph}
use Rattle.place_graph.specs.Graph.{has_sym}
use Rattle.place_graph.specs.GraphTraces.{numbers_of}
use Rattle.net_laws.proofs.Among.{Among}
use Rattle.plain_split.specs.OneWait.{Links, links}
use Rattle.plain_split.specs.Mirror.OneWaitTables.{links_by, tables_of}
use Rattle.plain_split.proofs.OneWaitCounts.{IsOneWait, next_act}
use Rattle.plain_split.proofs.OneWaitTraces.{Drawn}
use Rattle.plain_split.proofs.OneWaitRoutes.{Listed}

as_long : {A B : Type 0} (f : A → B) (xs : List A) → length (map f xs) ≡ length xs
as_long f [] = refl
as_long f (x ∷ xs) = omega (arith, as_long f xs)

none : (xs : List ℕ) → ((x : ℕ) → Among x xs → ⊥) → xs ≡ []
none [] h = refl
none (x ∷ xs) h = absurd (h x (inl refl))

-- a table of what a function gives for the numbers below k, read anywhere
tabled : {A : Type 0} (f : ℕ → A) (k : ℕ) (d : A) → ((a : ℕ) → k ≤ a → f a ≡ d) → (a : ℕ) → get_or (map f (range_with_len 0 k)) a d ≡ f a
tabled f k d h a = elim (cases_lt a k) [
  | inl low ↦ get_or-map-range_with_len f 0 k a a d low (omega arith)
  | inr past ↦ get_or_past (map f (range_with_len 0 k)) a d (omega (arith, length-map-range_with_len f 0 k, past)) ∙ sym (h a past)
]

has_among : (a : ℕ) (b : List Sym) → has_sym (record { 0 = a }) b ≡ true → Among a (numbers_of b)
has_among a [] h = absurd (true≢false (sym h))
has_among a (c ∷ b) h = by (nat_eq a c.0) refl h (has_among a b)
  where
    by : (e : Bool) → nat_eq a c.0 ≡ e → (e || has_sym (record { 0 = a }) b) ≡ true → (has_sym (record { 0 = a }) b ≡ true → Among a (numbers_of b)) → Among a (numbers_of (c ∷ b))
    by true e x more = inl (eqb-true a c.0 e)
    by false e x more = inr (more x)

same_links : {f f2 : ℕ → ℕ} {s s2 l l2 e e2 o o2 g g2 : ℕ → List ℕ} {b b2 a a2 n n2 : ℕ} (t : ℕ → Bool) → f ≡ f2 → s ≡ s2 → l ≡ l2 → e ≡ e2 → o ≡ o2 → g ≡ g2 → b ≡ b2 → a ≡ a2 → n ≡ n2
    → ◌≡◌ {A = Links} (record { home = f; symbols = s; leads = l; entries = e; begins = t; outs = o; givers = g; bursts = b; acts = a; names = n })
    (record { home = f2; symbols = s2; leads = l2; entries = e2; begins = t; outs = o2; givers = g2; bursts = b2; acts = a2; names = n2 })
same_links t p1 p2 p3 p4 p5 p6 p7 p8 p9 = rw (p1, p2, p3, p4, p5, p6, p7, p8, p9) refl

module _ (L : List Leg) (out : ℕ → Bool) (one : IsOneWait L out) (graph : WaitGraph) (names : ℕ) (key : Leg → ℕ) (no : ℕ → ℕ)
    (drawn : Drawn L out (links graph names) key no) (listed : Listed L out (links graph names) key no) where
  abbrev g : Links
  g = links graph names

  home_past : (a : ℕ) → names ≤ a → g.home a ≡ length graph.bursts
  home_past a past = position_or_len_is (has_sym (record { 0 = a })) graph.bursts (length graph.bursts) [] (omega arith) away (λ low. absurd (omega (arith, low)))
    where
      away : (k : ℕ) → k < length graph.bursts → has_sym (record { 0 = a }) (get_or graph.bursts k []) ≡ false
      away k low = elim (cases_Bool (has_sym (record { 0 = a }) (get_or graph.bursts k []))) [
        | inl h ↦
            let (l, i, e) = listed.low_key k low in
            let x : a < names = listed.has_low l a i.0 (drawn.of_burst l a i (subst (λ b. Among a (g.symbols b)) (sym e) (has_among a (get_or graph.bursts k []) h))) in
            absurd (omega (arith, x, past))
        | inr h ↦ h
      ]

  home_is : (a : ℕ) → get_or (map g.home (range_with_len 0 names)) a (length (map numbers_of graph.bursts)) ≡ g.home a
  home_is a = tabled g.home names (length (map numbers_of graph.bursts)) (λ b past. home_past b past ∙ sym (as_long numbers_of graph.bursts)) a

  symbols_is : (b : ℕ) → get_or (map numbers_of graph.bursts) b [] ≡ g.symbols b
  symbols_is b = elim (cases_lt b (length graph.bursts)) [
    | inl low ↦ get_or-map numbers_of graph.bursts b [] [] low
    | inr past ↦ get_or_past (map numbers_of graph.bursts) b [] (omega (arith, as_long numbers_of graph.bursts, past)) ∙ sym (ap numbers_of (get_or_past graph.bursts b [] past))
  ]

  leads_is : (b : ℕ) → get_or (map g.leads (range_with_len 0 (length graph.bursts))) b [] ≡ g.leads b
  leads_is = tabled g.leads (length graph.bursts) [] (λ b past. none (g.leads b) (λ n x. let (l, i, e, to) = drawn.of_leads b n x in absurd (omega (arith, listed.key_low l i, e, past))))

  entries_is : (n : ℕ) → get_or (map g.entries (range_with_len 0 (length graph.acts))) n [] ≡ g.entries n
  entries_is = tabled g.entries (length graph.acts) [] (λ n past. none (g.entries n) (λ b x.
      let (l, i, e, to) = drawn.of_entries b n x in
      let (m, j, from) = next_act L out key no one l i in
      absurd (omega (arith, listed.no_low m j, ap no from, to, past))))

  outs_is : (n : ℕ) → get_or (map (λ (y : Act). numbers_of y.outs) graph.acts) n [] ≡ g.outs n
  outs_is n = elim (cases_lt n (length graph.acts)) [
    | inl low ↦ at low
    | inr past ↦ get_or_past (map (λ (y : Act). numbers_of y.outs) graph.acts) n [] (omega (arith, as_long (λ (y : Act). numbers_of y.outs) graph.acts, past))
        ∙ sym (ap numbers_of (get_or_past (map (λ (y : Act). y.outs) graph.acts) n [] (omega (arith, as_long (λ (y : Act). y.outs) graph.acts, past))))
  ]
    where
      by : (ys : List Act) (n : ℕ) → n < length ys → get_or (map (λ (y : Act). numbers_of y.outs) ys) n [] ≡ numbers_of (get_or (map (λ (y : Act). y.outs) ys) n [])
      by [] n low = absurd (omega arith)
      by (y ∷ ys) n low = get_or-map (λ (y : Act). numbers_of y.outs) (y ∷ ys) n y [] low ∙ sym (ap numbers_of (get_or-map (λ (y : Act). y.outs) (y ∷ ys) n y [] low))

      at : n < length graph.acts → get_or (map (λ (y : Act). numbers_of y.outs) graph.acts) n [] ≡ g.outs n
      at low = by graph.acts n low

  givers_is : (a : ℕ) → get_or (map g.givers (range_with_len 0 names)) a [] ≡ g.givers a
  givers_is = tabled g.givers names [] (λ a past. none (g.givers a) (λ n x. let (m, i, e, h) = drawn.of_givers n a x in let y : a < names = listed.has_low m a i.0 h in absurd (omega (arith, y, past))))

  pub tables_right : links_by (tables_of graph names) ≡ g
  tables_right = same_links g.begins (fun_ext home_is) (fun_ext symbols_is) (fun_ext leads_is) (fun_ext entries_is) (fun_ext outs_is) (fun_ext givers_is)
      (as_long numbers_of graph.bursts) (length-map-range_with_len g.entries 0 (length graph.acts)) (length-map-range_with_len g.home 0 names)
