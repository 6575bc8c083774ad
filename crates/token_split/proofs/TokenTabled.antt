-- The tables of the graph of a process say its links, with the parts of the crossings by their places.
use Rattle.std.specs.Prelude.{nat_eq, nat_lt}
use Rattle.std.proofs.Common.{◌≡◌, inl, inr, ℕ, zero, suc, ◌+◌, ◌<◌, ◌≤◌, ◌^◌, Bool, true, false, List, [], ◌∷◌, length, map, filter, get_or, cond, IsTrue, None, refl, sym, ap, ◌∙◌, subst, arith, eq-eqb, lt-ltb}
use Rattle.std.specs.List.{range_with_len, position_or_len, list_all, list_any, AllByRecursion}
use Rattle.std.proofs.Math.Path.{fun_ext}
use Rattle.std.proofs.lemmas.Bool.{cases_lt, and_from}
use Rattle.std.proofs.lemmas.List.{get_or_past, get_or-map, length-map, length-append}
use Rattle.std.proofs.lemmas.List.FromFn.{get_or-map-range_with_len, length-map-range_with_len}
use Rattle.basic_kinds.specs.Shapes.{is_within}
use Rattle.basic_kinds.specs.ShapeParts.{label, part_at, part_names, part_rows, part_columns, local_part}
use Rattle.cmd_tree.specs.declared.tree.Sym.{Sym}
use Rattle.cmd_tree.specs.Lists.{is_in}
use Rattle.place_graph.specs.declared.leg.Leg.{Leg}
use Rattle.place_graph.specs.declared.wait_graph.Act.{Act}
use Rattle.place_graph.specs.declared.wait_graph.Cross.{Cross as Crossing}
use Rattle.place_graph.specs.declared.wait_graph.WaitGraph.{WaitGraph}
use Rattle.place_graph.specs.Graph.{has_sym}
use Rattle.place_graph.specs.GraphTraces.{numbers_of}
use Rattle.place_graph.specs.Sums.{pairs}
use Rattle.net_core.specs.declared.spec.NodeSpec.{NodeSpec}
use Rattle.net_laws.proofs.Among.{Among, Distinct}
use Rattle.plain_split.proofs.OneWaitDrawn.{in_among}
use Rattle.plain_split.proofs.OneWaitWritten.{same_member}
use Rattle.plain_split.proofs.SharedLists.{among_filter}
use Rattle.shape_parts.specs.declared.cut.ShapePart.{ShapePart}
use Rattle.shape_parts.specs.Cut.{part_of, part_places}
use Rattle.shape_parts.proofs.Chosen.{filter_places, filter_same}
use Rattle.token_split.specs.TokenChart.{Links, links, exits_at, listed, meets_in, pair}
use Rattle.token_split.specs.TokenChart as chart
use Rattle.token_split.specs.PartKind.{is_shape}
use Rattle.token_split.specs.Mirror.TokenTables.{LinkTables, crossing_at, links_by, no_part, part_in, tables_of, IsReady, IsTokenGraph}
use Rattle.token_split.proofs.TokenCounts.{Numbered, next_act, next_wait}
use Rattle.token_split.proofs.TokenTraces.{Drawn}
use Rattle.token_split.proofs.TokenRoutes.{Listed}
use Rattle.token_split.proofs.TokenParts.{IsPart, is_shape_true}
use Rattle.token_split.proofs.TokenCharted.{IsNarrow}
use Rattle.token_split.proofs.TokenNumbered.{by_number}
use Rattle.token_split.proofs.TokenSteps.{first_step}

-- ---- lists

mapped_at : {A B : Type 0} (f : A → B) (xs : List A) (k : ℕ) (d : A) → get_or (map f xs) k (f d) ≡ f (get_or xs k d)
mapped_at f [] k d = refl
mapped_at f (x ∷ xs) zero d = refl
mapped_at f (x ∷ xs) (suc k) d = mapped_at f xs k d

map_twice : {A B C : Type 0} (f : B → C) (g : A → B) (xs : List A) → map f (map g xs) ≡ map (λ x. f (g x)) xs
map_twice f g [] = refl
map_twice f g (x ∷ xs) = ap (λ ys. f (g x) ∷ ys) (map_twice f g xs)

filter_mapped : {A B : Type 0} (test : B → Bool) (f : A → B) (xs : List A) → filter test (map f xs) ≡ map f (filter (λ x. test (f x)) xs)
filter_mapped test f [] = refl
filter_mapped test f (x ∷ xs) = by (test (f x)) (filter_mapped test f xs)
  where
    by : (b : Bool) → filter test (map f xs) ≡ map f (filter (λ x. test (f x)) xs) → cond b (f x ∷ filter test (map f xs)) (filter test (map f xs)) ≡ map f (cond b (x ∷ filter (λ x. test (f x)) xs) (filter (λ x. test (f x)) xs))
    by true e = ap (λ ys. f x ∷ ys) e
    by false e = e

none : {A : Type 0} (xs : List A) → ((x : A) → Among x xs → ⊥) → xs ≡ []
none [] h = refl
none (x ∷ xs) h = absurd (h x (inl refl))

-- a table of what a function gives for the numbers below k, read anywhere
tabled : {A : Type 0} (f : ℕ → A) (k : ℕ) (d : A) → ((a : ℕ) → k ≤ a → f a ≡ d) → (a : ℕ) → get_or (map f (range_with_len 0 k)) a d ≡ f a
tabled f k d h a = elim (cases_lt a k) [
  | inl low ↦ get_or-map-range_with_len f 0 k a a d low (omega arith)
  | inr past ↦ get_or_past (map f (range_with_len 0 k)) a d (omega (arith, length-map-range_with_len f 0 k, past)) ∙ sym (h a past)
]

all_from : {A : Type 0} (P : A → Type 0) (d : A) (xs : List A) → ((n : ℕ) → n < length xs → P (get_or xs n d)) → AllByRecursion P xs
all_from P d [] h = tt
all_from P d (x ∷ xs) h = (h 0 (omega arith), all_from P d xs (λ n low. h (suc n) (omega arith)))

all_members : {A : Type 0} (P : A → Type 0) (xs : List A) → ((x : A) → Among x xs → P x) → AllByRecursion P xs
all_members P [] h = tt
all_members P (x ∷ xs) h = (h x (inl refl), all_members P xs (λ y a. h y (inr a)))

at_member : {A : Type 0} (xs : List A) (n : ℕ) (d : A) → n < length xs → Among (get_or xs n d) xs
at_member [] n d low = absurd (omega arith)
at_member (x ∷ xs) zero d low = inl refl
at_member (x ∷ xs) (suc n) d low = inr (at_member xs n d (omega arith))

all_within : (rows cols : ℕ) (cs : List Crossing) → ((c : Crossing) → Among c cs → (c.wait < rows) × (c.burst < cols)) → IsTrue (list_all (is_within rows cols) (map (λ c. (c.wait, c.burst)) cs))
all_within rows cols [] h = refl
all_within rows cols (c ∷ cs) h =
    let (a, b) = h c (inl refl) in
    and_from (is_within rows cols (c.wait, c.burst)) (list_all (is_within rows cols) (map (λ c. (c.wait, c.burst)) cs))
    (and_from (nat_lt c.wait rows) (nat_lt c.burst cols) (lt-ltb c.wait rows a) (lt-ltb c.burst cols b)) (all_within rows cols cs (λ x i. h x (inr i)))

-- the first burst that has a symbol, by its symbols or by their numbers
same_home : (a : ℕ) (bs : List (List Sym)) → position_or_len (is_in a) (map numbers_of bs) ≡ position_or_len (has_sym (record { 0 = a })) bs
same_home a [] = refl
same_home a (b ∷ bs) = first_step (is_in a) (numbers_of b) (map numbers_of bs) ∙ ap (λ (t : Bool). cond t 0 (1 + position_or_len (is_in a) (map numbers_of bs))) (sym (same_member a b)) ∙ ap (λ n. cond (has_sym (record { 0 = a }) b) 0 (1 + n)) (same_home a bs)
    ∙ sym (first_step (has_sym (record { 0 = a })) b bs)

no_home : (a : ℕ) (rows : List (List ℕ)) → ((r : List ℕ) → Among r rows → is_in a r ≡ false) → position_or_len (is_in a) rows ≡ length rows
no_home a [] h = refl
no_home a (r ∷ rows) h = first_step (is_in a) r rows ∙ ap (λ (t : Bool). cond t 0 (1 + position_or_len (is_in a) rows)) (h r (inl refl)) ∙ omega (arith, no_home a rows (λ x i. h x (inr i)))

in_none : (a : ℕ) (rows : List (List ℕ)) → ((n : ℕ) → n < length rows → is_in a (get_or rows n []) ≡ false) → (r : List ℕ) → Among r rows → is_in a r ≡ false
in_none a [] h r i = absurd i
in_none a (x ∷ xs) h r (inl e) = subst (λ (s : List ℕ). is_in a s ≡ false) (sym e) (h 0 (omega arith))
in_none a (x ∷ xs) h r (inr i) = in_none a xs (λ n low. h (suc n) (omega arith)) r i

same_links : {f f2 : ℕ → ℕ} {s s2 o o2 x x2 r r2 v v2 : ℕ → List ℕ} {e e2 : ℕ → List Crossing} {pn pn2 bn bn2 an an2 wn wn2 nn nn2 : ℕ} (t u : ℕ → Bool) (rows columns : ℕ → List ℕ) (meets : ℕ → List Crossing)
    → f ≡ f2 → s ≡ s2 → e ≡ e2 → o ≡ o2 → x ≡ x2 → r ≡ r2 → v ≡ v2 → pn ≡ pn2 → bn ≡ bn2 → an ≡ an2 → wn ≡ wn2 → nn ≡ nn2
    → ◌≡◌ {A = Links} (record { home = f; symbols = s; entries = e; begins = t; outs = o; exits = x; returns = r; opens = u; givers = v; parts = range_with_len 0 pn; row_part = λ i. 0; column_part = λ i. 0; rows = rows; columns = columns; meets = meets; bursts = bn; acts = an; waits = wn; names = nn })
    (record { home = f2; symbols = s2; entries = e2; begins = t; outs = o2; exits = x2; returns = r2; opens = u; givers = v2; parts = range_with_len 0 pn2; row_part = λ i. 0; column_part = λ i. 0; rows = rows; columns = columns; meets = meets; bursts = bn2; acts = an2; waits = wn2; names = nn2 })
same_links t u rows columns meets p1 p2 p3 p4 p5 p6 p7 p8 p9 p10 p11 p12 = λ i. record {
  home = p1 i;
  symbols = p2 i;
  entries = p3 i;
  begins = t;
  outs = p4 i;
  exits = p5 i;
  returns = p6 i;
  opens = u;
  givers = p7 i;
  parts = range_with_len 0 (p8 i);
  row_part = λ v. 0;
  column_part = λ v. 0;
  rows = rows;
  columns = columns;
  meets = meets;
  bursts = p9 i;
  acts = p10 i;
  waits = p11 i;
  names = p12 i;
}

module _ (L : List Leg) (out : ℕ → Bool) (graph : WaitGraph) (names : ℕ) (key : Leg → ℕ) (home no wait : ℕ → ℕ) (num : Numbered L out key home no wait)
    (drawn : Drawn L out (links graph names) key home no wait) (list : Listed L out (links graph names) key home no wait)
    (parted : (i : ℕ) → Among i (links graph names).parts → IsPart ((links graph names).rows i) ((links graph names).columns i) ((links graph names).meets i)) (narrow : IsNarrow (links graph names)) where
  abbrev g : Links
  g = links graph names

  abbrev t : LinkTables
  t = tables_of graph names

  -- ---- what is in range

  symbol_low : (b a : ℕ) → Among a (g.symbols b) → a < names
  symbol_low b a h = let (l, i, x, e) = drawn.of_symbols b a h in list.has_low l a i.0 x

  out_low : (n a : ℕ) → Among a (g.outs n) → a < names
  out_low n a h = let (m, i, e, x) = drawn.of_outs n a h in list.has_low m a i.0 x

  crossing_low : (c : Crossing) → Among c graph.crosses → (c.wait < graph.waits) × (c.burst < length graph.bursts)
  crossing_low c i =
      let part : ℕ = chart.part_of graph c.wait in
      let (l, j, e, x) = drawn.of_meets part c (among_filter (λ k. nat_eq (chart.part_of graph k.wait) part) graph.crosses c i (eq-eqb part part refl)) in
      (omega (arith, list.wait_low l j, ap (λ (k : Crossing). k.wait) e), omega (arith, list.key_low l j, ap (λ (k : Crossing). k.burst) e))

  outs_is : (n : ℕ) → get_or (map (λ (y : Act). numbers_of y.outs) graph.acts) n [] ≡ g.outs n
  outs_is n =
      ap (λ (rows : List (List ℕ)). get_or rows n []) (sym (map_twice numbers_of (λ (y : Act). y.outs) graph.acts)) ∙ mapped_at numbers_of (map (λ (y : Act). y.outs) graph.acts) n []

  exits_is : (n : ℕ) → get_or (map (λ (y : Act). listed y.exit) graph.acts) n [] ≡ g.exits n
  exits_is n =
      ap (λ (rows : List (List ℕ)). get_or rows n []) (sym (map_twice listed (λ (y : Act). y.exit) graph.acts)) ∙ mapped_at listed (map (λ (y : Act). y.exit) graph.acts) n None

  symbols_is : (b : ℕ) → get_or (map numbers_of graph.bursts) b [] ≡ g.symbols b
  symbols_is b = mapped_at numbers_of graph.bursts b []

  home_past : (a : ℕ) → names ≤ a → position_or_len (is_in a) (map numbers_of graph.bursts) ≡ length (map numbers_of graph.bursts)
  home_past a past = no_home a (map numbers_of graph.bursts)
      (in_none a (map numbers_of graph.bursts) (λ n low. subst (λ (s : List ℕ). is_in a s ≡ false) (sym (symbols_is n)) (away n (is_in a (g.symbols n)) refl)))
    where
      away : (b : ℕ) → (e : Bool) → is_in a (g.symbols b) ≡ e → is_in a (g.symbols b) ≡ false
      away b true e = absurd (omega (arith, symbol_low b a (in_among a (g.symbols b) e), past))
      away b false e = e

  home_is : (a : ℕ) → get_or t.homes a (length t.symbols) ≡ g.home a
  home_is a = tabled (λ a. position_or_len (is_in a) (map numbers_of graph.bursts)) names (length (map numbers_of graph.bursts)) home_past a ∙ same_home a graph.bursts

  entries_is : (n : ℕ) → get_or t.entries n [] ≡ g.entries n
  entries_is = tabled g.entries (length graph.acts) [] (λ n past. none (g.entries n) (λ c i.
      let (l, j, e, x) = drawn.of_entries c n i in
      let (m, k, from) = next_act L out key home no wait num l j in
      absurd (omega (arith, list.no_low m k, ap no from, x, past))))

  returns_is : (x : ℕ) → get_or t.returns x [] ≡ g.returns x
  returns_is = tabled g.returns graph.waits [] (λ x past. none (g.returns x) (λ n i.
      let (m, j, e, y) = drawn.of_returns x n i in
      let (l, k, from) = next_wait L out key home no wait num m j in
      absurd (omega (arith, list.wait_low l k, ap wait from, y, past))))

  givers_is : (a : ℕ) → get_or t.givers a [] ≡ g.givers a
  givers_is a =
      ap (λ (F : ℕ → List ℕ). get_or (map (λ a. filter (λ n. is_in a (F n)) (range_with_len 0 (length graph.acts))) (range_with_len 0 names)) a []) (fun_ext outs_is)
      ∙ tabled g.givers names [] (λ a past. none (g.givers a) (λ n i. let (m, j, e, x) = drawn.of_givers n a i in let y : a < names = list.has_low m a j.0 x in absurd (omega (arith, y, past)))) a

  parts_long : length t.parts ≡ length g.parts
  parts_long = length-map (part_names graph.waits (pairs graph)) (part_of graph.waits (length graph.bursts) (pairs graph))

  pub tables_numbered : (s : NodeSpec) → links_by t ≡ by_number s g (links_by t).rows (links_by t).columns (links_by t).meets
  tables_numbered s = same_links g.begins g.opens (links_by t).rows (links_by t).columns (links_by t).meets (fun_ext home_is) (fun_ext symbols_is) (fun_ext entries_is) (fun_ext outs_is) (fun_ext exits_is) (fun_ext returns_is) (fun_ext givers_is)
      parts_long (length-map graph.bursts numbers_of) (length-map graph.acts (λ (y : Act). numbers_of y.outs)) (length-map-range_with_len g.returns 0 graph.waits)
      (length-map-range_with_len (λ a. position_or_len (is_in a) (map numbers_of graph.bursts)) 0 names)

  -- ---- the parts of the crossings

  abbrev name : ℕ → ℕ
  name k = get_or g.parts k 0

  crossings_of : (i : ℕ) → part_at graph.waits (pairs graph) i ≡ map pair (g.meets i)
  crossings_of i = filter_mapped (λ p. nat_eq (label graph.waits (pairs graph) p.0) i) (λ (c : Crossing). (c.wait, c.burst)) graph.crosses

  part_is : (k : ℕ) → k < length g.parts → part_in t k ≡ part_of graph.waits (length graph.bursts) (pairs graph) (name k)
  part_is k low = get_or-map (part_of graph.waits (length graph.bursts) (pairs graph)) g.parts k 0 no_part low

  pub rows_is : (k : ℕ) → k < length g.parts → (links_by t).rows k ≡ g.rows (name k)
  rows_is k low = ap (λ (p : ShapePart). p.rows) (part_is k low) ∙ ap (part_rows graph.waits) (crossings_of (name k))

  pub columns_is : (k : ℕ) → k < length g.parts → (links_by t).columns k ≡ g.columns (name k)
  columns_is k low = ap (λ (p : ShapePart). p.columns) (part_is k low) ∙ ap (part_columns (length graph.bursts)) (crossings_of (name k))

  places_is : (i : ℕ) → map (crossing_at graph.crosses) (part_places graph.waits (pairs graph) i) ≡ g.meets i
  places_is i =
      ap (λ (n : ℕ). map (crossing_at graph.crosses) (filter (λ n. nat_eq (label graph.waits (pairs graph) (get_or (pairs graph) n (0, 0)).0) i) (range_with_len 0 n))) (length-map graph.crosses (λ (c : Crossing). (c.wait, c.burst)))
      ∙ ap (map (crossing_at graph.crosses))
      (filter_same (λ n. nat_eq (label graph.waits (pairs graph) (get_or (pairs graph) n (0, 0)).0) i) (λ n. nat_eq (chart.part_of graph (crossing_at graph.crosses n).wait) i) 0 (length graph.crosses)
      (λ n a low. ap (λ (p : ℕ × ℕ). nat_eq (label graph.waits (pairs graph) p.0) i) (mapped_at (λ (c : Crossing). (c.wait, c.burst)) graph.crosses n (record { wait = 0; burst = 0; act = 0 }))))
      ∙ sym (filter_places (λ (c : Crossing). nat_eq (chart.part_of graph c.wait) i) (crossing_at graph.crosses) (record { wait = 0; burst = 0; act = 0 }) 0 graph.crosses
      (λ j low. let z : 0 + j ≡ j = omega arith in ap (crossing_at graph.crosses) z))

  pub meets_is : (k : ℕ) → k < length g.parts → (links_by t).meets k ≡ g.meets (name k)
  meets_is k low =
      get_or-map (λ (p : ShapePart). map (crossing_at graph.crosses) p.places) t.parts k no_part [] (omega (arith, parts_long, low))
      ∙ ap (λ (p : ShapePart). map (crossing_at graph.crosses) p.places) (part_is k low) ∙ places_is (name k)

  meets_past : (k : ℕ) → length g.parts ≤ k → (links_by t).meets k ≡ []
  meets_past k past = get_or_past t.meets k [] (omega (arith, length-map t.parts (λ (p : ShapePart). map (crossing_at graph.crosses) p.places), parts_long, past))

  part_past : (k : ℕ) → length g.parts ≤ k → part_in t k ≡ no_part
  part_past k past = get_or_past t.parts k no_part (omega (arith, parts_long, past))

  locals_is : (k : ℕ) → (part_in t k).cross ≡ local_part (map pair ((links_by t).meets k))
  locals_is k = elim (cases_lt k (length g.parts)) [
    | inl low ↦ ap (λ (p : ShapePart). p.cross) (part_is k low) ∙ ap local_part (crossings_of (name k) ∙ ap (map pair) (sym (meets_is k low)))
    | inr past ↦ ap (λ (p : ShapePart). p.cross) (part_past k past) ∙ ap (λ (cs : List Crossing). local_part (map pair cs)) (sym (meets_past k past))
  ]

  shapes_are : (k : ℕ) → 2 ≤ length ((links_by t).meets k)
      → is_shape (length ((links_by t).rows k)) (length ((links_by t).columns k)) (local_part (map pair ((links_by t).meets k))) ≡ true
  shapes_are k some = elim (cases_lt k (length g.parts)) [
    | inl low ↦
        ap (λ (rs : List ℕ). is_shape (length rs) (length ((links_by t).columns k)) (local_part (map pair ((links_by t).meets k)))) (rows_is k low)
        ∙ ap (λ (cs : List ℕ). is_shape (length (g.rows (name k))) (length cs) (local_part (map pair ((links_by t).meets k)))) (columns_is k low)
        ∙ ap (λ (ms : List Crossing). is_shape (length (g.rows (name k))) (length (g.columns (name k))) (local_part (map pair ms))) (meets_is k low)
        ∙ is_shape_true (length (g.rows (name k))) (length (g.columns (name k))) (local_part (map pair (g.meets (name k)))) (parted (name k) (at_member g.parts k 0 low)).shape
    | inr past ↦ absurd (omega (arith, some, ap (λ (cs : List Crossing). length cs) (meets_past k past)))
  ]

  -- ---- what the tables rely on

  pub graph_ready : graph.waits + length graph.bursts + 1 < 2 ^ 32 → length graph.crosses < 2 ^ 32 → length graph.acts < 2 ^ 32 → IsTokenGraph graph names
  graph_ready lines crossings acts = record {
    bursts_known = all_from (λ (b : List Sym). AllByRecursion (λ a. a < names) (numbers_of b)) [] graph.bursts (λ n low. all_members (λ a. a < names) (g.symbols n) (symbol_low n));
    outs_known = all_from (λ (y : Act). AllByRecursion (λ a. a < names) (numbers_of y.outs)) (record { outs = []; exit = None }) graph.acts
        (λ n low. all_members (λ a. a < names) _ (λ a i. out_low n a (subst (Among a) (act_outs n low) i)));
    outs_once = all_from (λ (y : Act). Distinct (numbers_of y.outs)) (record { outs = []; exit = None }) graph.acts (λ n low. subst Distinct (sym (act_outs n low)) (list.outs_once n));
    crossings_within = all_within graph.waits (length graph.bursts) graph.crosses crossing_low;
    few_lines = lines;
    few_crossings = crossings;
    few_acts = acts;
  }
    where
      act_outs : (n : ℕ) → n < length graph.acts → numbers_of (get_or graph.acts n (record { outs = []; exit = None })).outs ≡ g.outs n
      act_outs n low = sym (mapped_at (λ (y : Act). numbers_of y.outs) graph.acts n (record { outs = []; exit = None })) ∙ outs_is n

  pub tables_ready : IsTokenGraph graph names → names < 2 ^ 32 → IsReady t
  tables_ready ready few_names = record {
    bursts = omega (arith, ready.few_lines, length-map graph.bursts numbers_of);
    parts = omega (arith, parts_long, ready.few_lines, few_parts);
    acts = omega (arith, ready.few_acts, length-map graph.acts (λ (y : Act). numbers_of y.outs));
    waits = omega (arith, ready.few_lines, length-map-range_with_len g.returns 0 graph.waits);
    names = omega (arith, few_names, length-map-range_with_len (λ a. position_or_len (is_in a) (map numbers_of graph.bursts)) 0 names);
    symbols = λ b. omega (arith, narrow.symbols b, ap (λ (xs : List ℕ). length xs) (symbols_is b));
    entries = λ n. omega (arith, narrow.entries n, ap (λ (xs : List Crossing). length xs) (entries_is n));
    ends = λ n. omega (arith, narrow.outs n, length-append (g.outs n) (g.exits n), ap (λ (xs : List ℕ). length xs) (outs_is n), ap (λ (xs : List ℕ). length xs) (exits_is n));
    returns = λ x. omega (arith, narrow.returns x, ap (λ (xs : List ℕ). length xs) (returns_is x));
    givers = λ a. omega (arith, narrow.givers a, ap (λ (xs : List ℕ). length xs) (givers_is a));
    rows = λ k. elim (cases_lt k (length g.parts)) [
      | inl low ↦ omega (arith, narrow.meets (name k), ap (λ (xs : List ℕ). length xs) (rows_is k low))
      | inr past ↦ omega (arith, ap (λ (p : ShapePart). length p.rows) (part_past k past))
    ];
    columns = λ k. elim (cases_lt k (length g.parts)) [
      | inl low ↦ omega (arith, narrow.meets (name k), ap (λ (xs : List ℕ). length xs) (columns_is k low))
      | inr past ↦ omega (arith, ap (λ (p : ShapePart). length p.columns) (part_past k past))
    ];
    locals = locals_is;
    shapes = shapes_are;
  }
    where
      few_parts : length g.parts ≤ graph.waits
      few_parts = fewer (λ i. chart_name i) 0 graph.waits
        where
          chart_name : ℕ → Bool
          chart_name i = list_any (λ p. nat_eq (label graph.waits (pairs graph) p.0) i) (pairs graph)

          fewer : (f : ℕ → Bool) (a n : ℕ) → length (filter f (range_with_len a n)) ≤ n
          fewer f a zero = omega arith
          fewer f a (suc n) = by (f a) (fewer f (a + 1) n)
            where
              by : (b : Bool) → length (filter f (range_with_len (a + 1) n)) ≤ n → length (cond b (a ∷ filter f (range_with_len (a + 1) n)) (filter f (range_with_len (a + 1) n))) ≤ suc n
              by true h = omega arith
              by false h = omega arith
