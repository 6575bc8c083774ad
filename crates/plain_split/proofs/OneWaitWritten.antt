-- What the network of one wait has of each sort is what is counted of the graph.
use Rattle.std.proofs.Common.{ne_eqb, ◌≡◌, ℕ, ◌+◌, Bool, true, false, nat_eq, cond, filter, List, [], ◌∷◌, ◌++◌, length, refl, sym, ap, ◌∙◌, subst, arith, inl}
use Rattle.std.specs.Prelude.{not, ◌&&◌, ◌||◌}
use Rattle.std.specs.List.{range_with_len}
use Rattle.cmd_tree.specs.declared.tree.Sym.{Sym}
use Rattle.cmd_tree.specs.Lists.{is_in}
use Rattle.basic_kinds.specs.Sorts.{Sort, Wires, Iwires, Sources, Sinks, Forks, Joins, Merges, Toggles, Waits, Sequencers, how_many_below}
use Rattle.basic_kinds.specs.Sums.{so_many, wide_sum, total_of}
use Rattle.place_graph.specs.declared.wait_graph.WaitGraph.{WaitGraph}
use Rattle.place_graph.specs.declared.wait_graph.Start.{Start}
use Rattle.place_graph.specs.declared.wait_graph.Start.TheVariants as start
use Rattle.place_graph.specs.declared.leg.Leg.{Leg}
use Rattle.place_graph.specs.declared.styles.SplitStyle.{SplitStyle}
use Rattle.place_graph.specs.declared.styles.SplitStyle.TheVariants.{OneWait}
use Rattle.place_graph.specs.Graph.{has_sym}
use Rattle.place_graph.specs.GraphTraces.{numbers_of}
use Rattle.place_graph.specs.Style.{style_of}
use Rattle.place_graph.specs.Sums as sums
use Rattle.place_graph.specs.Sums.{counted, of_style, is_one, is_straight, symbols_at, outs_at, entries_of, begins_at}
use Rattle.net_laws.proofs.Among.{Among}
use Rattle.plain_split.specs.OneWait as web
use Rattle.plain_split.specs.OneWait.{Links, links, many, first, is_some, is_direct, is_begin}
use Rattle.plain_split.specs.OneWaitSums.{one_wait_sum}
use Rattle.plain_split.proofs.SharedSums.{bit, total_append, wide_long, wide_numbers, wide_group, chosen_group, gate_group}
use Rattle.plain_split.proofs.OneWaitKinds.{many_same}
use Rattle.plain_split.proofs.OneWaitDrawn.{in_among}
use Rattle.plain_split.proofs.OneWaitCounts.{IsOneWait, some_symbol}
use Rattle.plain_split.proofs.OneWaitTraces.{Drawn}
use Rattle.plain_split.proofs.OneWaitRoutes.{Listed}

pub same_member : (a : ℕ) (ss : List Sym) → has_sym (record { 0 = a }) ss ≡ is_in a (numbers_of ss)
same_member a [] = refl
same_member a (s ∷ ss) = ap (λ b. nat_eq a s.0 || b) (same_member a ss)

pub filter_same : (p q : ℕ → Bool) (xs : List ℕ) → ((x : ℕ) → p x ≡ q x) → filter p xs ≡ filter q xs
filter_same p q [] h = refl
filter_same p q (x ∷ xs) h = ap (λ b. cond b (x ∷ filter p xs) (filter p xs)) (h x) ∙ ap (λ ys. cond (q x) (x ∷ ys) ys) (filter_same p q xs h)

pub same_begin : (s : Start) (n : ℕ) → begins_at s n ≡ is_begin n s
same_begin (start.Wait w) n = refl
same_begin (start.Act m) n = refl

filter_member : (p : ℕ → Bool) (xs : List ℕ) (n : ℕ) → filter p xs ≡ n ∷ [] → p n ≡ true
filter_member p [] n e = absurd (cc)
filter_member p (x ∷ xs) n e = by (p x) refl e (filter_member p xs n)
  where
    by : (b : Bool) → p x ≡ b → cond b (x ∷ filter p xs) (filter p xs) ≡ n ∷ [] → (filter p xs ≡ n ∷ [] → p n ≡ true) → p n ≡ true
    by true t k rest = let s : x ≡ n = cc in ap p (sym s) ∙ t
    by false t k rest = rest k

-- one symbol is not many
long_one : (ss : List Sym) (a : ℕ) → Among a (numbers_of ss) → nat_eq (length ss) 1 ≡ not (many (numbers_of ss))
long_one [] a i = absurd i
long_one (s ∷ []) a i = refl
long_one (s ∷ z ∷ ss) a i = ne_eqb (length (s ∷ z ∷ ss)) 1 (λ e. omega (arith, e))

module _ (G : WaitGraph) (names : ℕ) where
  abbrev g : Links
  g = links G names

  same_givers : (a : ℕ) → sums.givers G a ≡ g.givers a
  same_givers a = filter_same (λ n. has_sym (record { 0 = a }) (outs_at G n)) (λ n. is_in a (web.outs_at G n)) (range_with_len 0 (length G.acts)) (λ n. same_member a (outs_at G n))

  -- group by group
  groups : style_of G ≡ OneWait → (t : Sort) → total_of wide_sum (counted G names) t
      ≡ so_many (how_many_below g.bursts (λ b. many (g.symbols b))) Joins t
      + (so_many (how_many_below g.acts (λ n. many (g.entries n))) Merges t
      + (so_many (how_many_below g.names (λ a. many (g.givers a))) Merges t
      + ((so_many (how_many_below g.acts (λ n. begins_at G.start n && is_some (g.entries n))) Iwires t
      + so_many (how_many_below g.acts (λ n. begins_at G.start n && not (is_some (g.entries n)))) Sources t)
      + (so_many (how_many_below g.acts (λ n. many (g.outs n))) Forks t
      + so_many (how_many_below g.names (λ a. is_one (is_straight G) (sums.givers G a))) Wires t))))
  groups style t = omega (
    arith,
    ap (λ (s : SplitStyle). total_of wide_sum (sums.joins G ++ (sums.calls G ++ (sums.shows G names ++ (sums.first_act G ++ of_style s G names)))) t) style,
    total_append wide_sum (sums.joins G) (sums.calls G ++ (sums.shows G names ++ (sums.first_act G ++ of_style OneWait G names))) t,
    total_append wide_sum (sums.calls G) (sums.shows G names ++ (sums.first_act G ++ of_style OneWait G names)) t,
    total_append wide_sum (sums.shows G names) (sums.first_act G ++ of_style OneWait G names) t,
    total_append wide_sum (sums.first_act G) (of_style OneWait G names) t,
    total_append wide_sum (sums.spreads G) (sums.directs G names) t,
    wide_group Joins t (λ b. length (symbols_at G b)) (λ b. many (g.symbols b)) (range_with_len 0 g.bursts) (λ b. wide_numbers (symbols_at G b)),
    wide_group Merges t (λ n. length (entries_of G n)) (λ n. many (g.entries n)) (range_with_len 0 g.acts) (λ n. wide_long (g.entries n)),
    wide_group Merges t (λ a. length (sums.givers G a)) (λ a. many (g.givers a)) (range_with_len 0 g.names) (λ a. wide_long (sums.givers G a) ∙ ap (λ ns. bit (many ns)) (same_givers a)),
    gate_group (entries_of G) (begins_at G.start) (range_with_len 0 g.acts) t,
    wide_group Forks t (λ n. length (outs_at G n)) (λ n. many (g.outs n)) (range_with_len 0 g.acts) (λ n. wide_numbers (outs_at G n)),
    chosen_group Wires t (λ a. is_one (is_straight G) (sums.givers G a)) (range_with_len 0 g.names),
  )

  abbrev Straight : Type 0
  Straight = (a : ℕ) → is_one (is_straight G) (sums.givers G a) ≡ is_direct g (g.givers a)

  pub one_wait_written : style_of G ≡ OneWait → Straight → (t : Sort) → one_wait_sum g t ≡ total_of wide_sum (counted G names) t
  one_wait_written style straight Wires = omega (arith, groups style Wires, many_same (λ a. is_one (is_straight G) (sums.givers G a)) (λ a. is_direct g (g.givers a)) (range_with_len 0 names) straight)
  one_wait_written style straight Iwires = omega (arith, groups style Iwires, many_same (λ n. begins_at G.start n && is_some (g.entries n)) (λ n. g.begins n && is_some (g.entries n)) (range_with_len 0 g.acts) (λ n. ap (λ b. b && is_some (g.entries n)) (same_begin G.start n)))
  one_wait_written style straight Sources = omega (arith, groups style Sources, many_same (λ n. begins_at G.start n && not (is_some (g.entries n))) (λ n. g.begins n && not (is_some (g.entries n))) (range_with_len 0 g.acts) (λ n. ap (λ b. b && not (is_some (g.entries n))) (same_begin G.start n)))
  one_wait_written style straight Sinks = omega (arith, groups style Sinks)
  one_wait_written style straight Forks = omega (arith, groups style Forks)
  one_wait_written style straight Joins = omega (arith, groups style Joins)
  one_wait_written style straight Merges = omega (arith, groups style Merges)
  one_wait_written style straight Toggles = omega (arith, groups style Toggles)
  one_wait_written style straight Waits = omega (arith, groups style Waits)
  one_wait_written style straight Sequencers = omega (arith, groups style Sequencers)

  -- ---- direct paths

  -- one entry, of a burst of one symbol
  entry_same : (es : List ℕ) → ((b : ℕ) → Among b es → (a : ℕ) × Among a (g.symbols b)) → (b : ℕ) × Among b es
      → is_one (λ b. nat_eq (length (symbols_at G b)) 1) es ≡ (not (many es) && not (many (g.symbols (first es))))
  entry_same [] some (b, i) = absurd i
  entry_same (b ∷ []) some i = let (a, j) = some b (inl refl) in long_one (symbols_at G b) a j
  entry_same (b ∷ c ∷ es) some i = refl

  straight_same : (L : List Leg) (out : ℕ → Bool) (key : Leg → ℕ) (number : ℕ → ℕ) → IsOneWait L out → Drawn L out g key number → Listed L out g key number → Straight
  straight_same L out key number one d l a = ap (is_one (is_straight G)) (same_givers a) ∙ at (g.givers a) refl
    where
      some : (n b : ℕ) → Among b (g.entries n) → (a : ℕ) × Among a (g.symbols b)
      some n b i =
          let (m, j, e, to) = d.of_entries b n i in
          let (x, has) = some_symbol m (one.chart.some m j.0) in
          (x, subst (λ b. Among x (g.symbols b)) e (d.in_burst m x j has))

      entered : (n : ℕ) → Among a (g.outs n) → g.begins n ≡ false → (b : ℕ) × Among b (g.entries n)
      entered n i begins =
          let (m, j, e, has) = d.of_outs n a i in
          let (k, from, to) = l.entered m j (ap g.begins e ∙ begins) in
          (key k, subst (λ n. Among (key k) (g.entries n)) (to ∙ e) (d.entry k from))

      rest : (n : ℕ) (b : Bool) → g.begins n ≡ b → Among a (g.outs n) → (not b && is_one (λ b. nat_eq (length (symbols_at G b)) 1) (entries_of G n))
          ≡ (not b && (not (many (g.entries n)) && not (many (g.symbols (first (g.entries n))))))
      rest n true e i = refl
      rest n false e i = entry_same (g.entries n) (some n) (entered n i e)

      at : (ns : List ℕ) → g.givers a ≡ ns → is_one (is_straight G) ns ≡ is_direct g ns
      at [] e = refl
      at (n ∷ m ∷ ns) e = refl
      at (n ∷ []) e =
          let gives : Among a (g.outs n) = in_among a (g.outs n) (filter_member (λ n. is_in a (web.outs_at G n)) (range_with_len 0 g.acts) n e) in
          ap (λ x. x && (not (begins_at G.start n) && is_one (λ b. nat_eq (length (symbols_at G b)) 1) (entries_of G n))) (long_one (outs_at G n) a gives)
          ∙ ap (λ x. not (many (g.outs n)) && (not x && is_one (λ b. nat_eq (length (symbols_at G b)) 1) (entries_of G n))) (same_begin G.start n)
          ∙ ap (λ x. not (many (g.outs n)) && x) (rest n (g.begins n) refl gives)

  pub written : (L : List Leg) (out : ℕ → Bool) (key : Leg → ℕ) (number : ℕ → ℕ) → style_of G ≡ OneWait → IsOneWait L out → Drawn L out g key number → Listed L out g key number
      → (t : Sort) → one_wait_sum g t ≡ total_of wide_sum (counted G names) t
  written L out key number style one d l t = one_wait_written style (straight_same L out key number one d l) t
