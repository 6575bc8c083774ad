-- How many wires the network of one wait has.
use Rattle.std.proofs.Common.{◌≡◌, inl, inr, ℕ, zero, suc, ◌+◌, ◌<◌, ◌≤◌, Bool, true, false, true≢false, ◌||◌, nat_eq, cond, filter, List, [], ◌∷◌, ◌++◌, length, map, refl, sym, ap, ◌∙◌, subst, arith, if◌then◌else◌, length-append, Option, Some, None}
use Rattle.std.specs.List.{range_with_len}
use Rattle.std.proofs.lemmas.Bool.{cases_Bool}
use Rattle.basic_kinds.specs.Totals.{total}
use Rattle.cmd_tree.specs.declared.tree.Mark.{Mark}
use Rattle.cmd_tree.specs.declared.tree.Proc.{Proc}
use Rattle.cmd_tree.specs.Tree.{TItem, TSeq, TSeqs, TBurst, TAlt, Stop, Or, Done, Then, places_of, places_in, places_among}
use Rattle.cmd_tree.specs.Limits.{of_part, places_of_proc}
use Rattle.cmd_tree.specs.Residual.{lead_of}
use Rattle.cmd_tree.specs.Meaning.{symbols}
use Rattle.cmd_tree.specs.Lists.{is_in}
use Rattle.place_graph.specs.declared.leg.Leg.{Leg}
use Rattle.place_graph.specs.Points.{point, legs_of, legs_in, legs_among, body_place, turn_point, legs}
use Rattle.place_graph.specs.Tale.{one_if}
use Rattle.place_graph.specs.Chart.{Has, sum_where, in_leg}
use Rattle.net_laws.proofs.Among.{Among, Distinct}
use Rattle.net_laws.proofs.Rows.{among_row, distinct_row}
use Rattle.plain_split.specs.SharedPaths.{joined}
use Rattle.plain_split.specs.OneWait.{Wire, Take, Burst, Begin, Put, Give, Name, Join, Calls, Gate, Spread, Shows, Links, called, inputs, is_given, is_kept, all_names, parts, lines}
use Rattle.plain_split.proofs.SharedLists.{joined_among, distinct_joined}
use Rattle.plain_split.proofs.OneWaitWeb.{sum_of}
use Rattle.plain_split.proofs.OneWaitCounts.{IsOneWait, Inputs}
use Rattle.plain_split.proofs.OneWaitTraces.{Drawn}
use Rattle.plain_split.proofs.OneWaitRoutes.{Listed}
use Rattle.plain_split.proofs.OneWaitLong.{total_plus, total_zero, total_single_low, few_long, once_times}

-- ---- how many marks

abbrev pub marks_in : List Leg → ℕ
marks_in [] = 0
marks_in (l ∷ L) = length l.marks + marks_in L

marks_append : (L M : List Leg) → marks_in (L ++ M) ≡ marks_in L + marks_in M
marks_append [] M = omega arith
marks_append (l ∷ L) M = omega (arith, marks_append L M)

mutual
  marks_of : (k : ℕ) (s : TSeq) (at later : ℕ) → marks_in (legs_of k s at later) ≡ places_of s
  marks_of k Done at later = refl
  marks_of k (Then i s) at later = omega (
    arith,
    marks_append (legs_in k i at (point (k + places_in i) s later)) (legs_of (k + places_in i) s (k + places_in i) later),
    marks_of_item k i at (point (k + places_in i) s later),
    marks_of (k + places_in i) s (k + places_in i) later,
  )

  marks_of_item : (k : ℕ) (i : TItem) (at later : ℕ) → marks_in (legs_in k i at later) ≡ places_in i
  marks_of_item k (TBurst ms) at later = omega arith
  marks_of_item k (TAlt ss) at later = marks_of_some k ss at later

  marks_of_some : (k : ℕ) (ss : TSeqs) (at later : ℕ) → marks_in (legs_among k ss at later) ≡ places_among ss
  marks_of_some k Stop at later = refl
  marks_of_some k (Or s ss) at later = omega (arith, marks_append (legs_of k s at later) (legs_among (k + places_of s) ss at later), marks_of k s at later, marks_of_some (k + places_of s) ss at later)

part_places : (o : Option TSeq) → of_part 0 places_of o ≡ places_of (lead_of o)
part_places None = refl
part_places (Some s) = refl

pub marks_places : (p : Proc) → marks_in (legs p) ≡ places_of_proc p
marks_places p = omega (
  arith,
  marks_append (legs_of 1 (lead_of p.lead) 1 (turn_point p)) (legs_of (body_place p) (lead_of p.body) (body_place p) (turn_point p)),
  marks_of 1 (lead_of p.lead) 1 (turn_point p),
  marks_of (body_place p) (lead_of p.body) (body_place p) (turn_point p),
  part_places p.lead,
  part_places p.body,
)

-- ---- how many of the symbols are in legs

pub total_le : (k : ℕ) (u v : ℕ → ℕ) → ((a : ℕ) → a < k → u a ≤ v a) → total k u ≤ total k v
unfolding total
total_le zero u v h = omega arith
total_le (suc k) u v h = omega (arith, total_le k u v (λ a low. h a (omega arith)), h k (omega arith))

or_low : (a b : Bool) → (if a || b then 1 else 0) ≤ (if a then 1 else 0) + (if b then 1 else 0)
or_low true b = by b
  where
    by : (b : Bool) → 1 ≤ 1 + (if b then 1 else 0)
    by true = omega arith
    by false = omega arith
or_low false b = omega arith

pub total_in : (k : ℕ) (xs : List ℕ) → total k (λ a. if is_in a xs then 1 else 0) ≤ length xs
total_in k [] = omega (arith, total_zero k)
total_in k (x ∷ xs) = omega (
  arith,
  total_le k (λ a. if nat_eq a x || is_in a xs then 1 else 0) (λ a. one_if a x + (if is_in a xs then 1 else 0)) (λ a low. or_low (nat_eq a x) (is_in a xs)),
  total_plus k (λ a. one_if a x) (λ a. if is_in a xs then 1 else 0),
  total_single_low k x,
  total_in k xs,
)

long_symbols : (ms : List Mark) → length (symbols ms) ≡ length ms
long_symbols [] = refl
long_symbols (m ∷ ms) = ap suc (long_symbols ms)

pub total_legs : (k : ℕ) (L : List Leg) → total k (λ a. sum_where L (in_leg a) (λ l. 1)) ≤ marks_in L
total_legs k [] = omega (arith, total_zero k)
total_legs k (l ∷ L) = omega (arith, total_plus k (λ a. if in_leg a l then 1 else 0) (λ a. sum_where L (in_leg a) (λ l. 1)), total_in k (symbols l.marks), long_symbols l.marks, total_legs k L)

-- ---- how long the lists are

abbrev pub long_each : {A B : Type 0} → (A → List B) → List A → ℕ
long_each f [] = 0
long_each f (x ∷ xs) = length (f x) + long_each f xs

pub long_joined : {A B : Type 0} (f : A → List B) (xs : List A) → length (joined f xs) ≡ long_each f xs
long_joined f [] = refl
long_joined f (x ∷ xs) = omega (arith, length-append (f x) (joined f xs), long_joined f xs)

pub long_append : {A B : Type 0} (f : A → List B) (xs ys : List A) → long_each f (xs ++ ys) ≡ long_each f xs + long_each f ys
long_append f [] ys = omega arith
long_append f (x ∷ xs) ys = omega (arith, long_append f xs ys)

pub long_map : {A B C : Type 0} (f : B → List C) (h : A → B) (xs : List A) → long_each f (map h xs) ≡ long_each (λ x. f (h x)) xs
long_map f h [] = refl
long_map f h (x ∷ xs) = omega (arith, long_map f h xs)

pub long_filter : {A B : Type 0} (f : A → List B) (p : A → Bool) (xs : List A) → long_each f (filter p xs) ≤ long_each f xs
long_filter f p [] = omega arith
long_filter f p (x ∷ xs) = by (p x) (long_filter f p xs)
  where
    by : (b : Bool) → long_each f (filter p xs) ≤ long_each f xs → long_each f (cond b (x ∷ filter p xs) (filter p xs)) ≤ length (f x) + long_each f xs
    by true e = omega (arith, e)
    by false e = omega (arith, e)

pub long_same : {A B C : Type 0} (f : A → List B) (h : A → List C) (xs : List A) → ((x : A) → length (f x) ≡ length (h x)) → long_each f xs ≡ long_each h xs
long_same f h [] e = refl
long_same f h (x ∷ xs) e = omega (arith, e x, long_same f h xs e)

pub long_few : {A B : Type 0} (f : A → List B) (xs : List A) → ((x : A) → length (f x) ≤ 1) → long_each f xs ≤ length xs
long_few f [] h = omega arith
long_few f (x ∷ xs) h = omega (arith, h x, long_few f xs h)

pub map_long : {A B : Type 0} (f : A → B) (xs : List A) → length (map f xs) ≡ length xs
map_long f [] = refl
map_long f (x ∷ xs) = ap suc (map_long f xs)

pub filter_long : {A : Type 0} (p : A → Bool) (xs : List A) → length (filter p xs) ≤ length xs
filter_long p [] = omega arith
filter_long p (x ∷ xs) = by (p x) (filter_long p xs)
  where
    by : (b : Bool) → length (filter p xs) ≤ length xs → length (cond b (x ∷ filter p xs) (filter p xs)) ≤ suc (length xs)
    by true e = omega (arith, e)
    by false e = omega (arith, e)

long_acts : (f : Name → List Wire) (ns : List ℕ) → long_each f (joined (λ n. Calls n ∷ Gate n ∷ Spread n ∷ []) ns)
    ≡ long_each (λ n. f (Calls n)) ns + (long_each (λ n. f (Gate n)) ns + long_each (λ n. f (Spread n)) ns)
long_acts f [] = refl
long_acts f (n ∷ ns) = omega (arith, long_append f (Calls n ∷ Gate n ∷ Spread n ∷ []) (joined (λ n. Calls n ∷ Gate n ∷ Spread n ∷ []) ns), long_acts f ns)

called_few : (bs : List ℕ) (n : ℕ) → length (called bs n) ≤ 1
called_few [] n = omega arith
called_few (b ∷ bs) n = omega arith

pub long_one : (xs : List ℕ) → sum_of (λ y. 1) xs ≡ length xs
long_one [] = refl
long_one (x ∷ xs) = omega (arith, long_one xs)

id_list : (xs : List ℕ) → map (λ i. i) xs ≡ xs
id_list [] = refl
id_list (x ∷ xs) = ap (λ ys. x ∷ ys) (id_list xs)

pub in_range : (k a : ℕ) → Among a (range_with_len 0 k) → a < k
in_range k a h = let (i, low, e) = among_row (λ i. i) k a (subst (Among a) (sym (id_list (range_with_len 0 k))) h) in omega arith

pub range_once : (k : ℕ) → Distinct (range_with_len 0 k)
range_once k = subst Distinct (id_list (range_with_len 0 k)) (distinct_row (λ i. i) (λ i j e. e) k)

pub range_long : (a k : ℕ) → length (range_with_len a k) ≡ k
range_long a zero = refl
range_long a (suc k) = ap suc (range_long (a + 1) k)

pub total_first : (k : ℕ) (u : ℕ → ℕ) → total (suc k) u ≡ u 0 + total k (λ i. u (suc i))
unfolding total
total_first zero u = omega arith
total_first (suc k) u = omega (arith, total_first k u)

total_shift : (k : ℕ) (u v : ℕ → ℕ) → ((i : ℕ) → u i ≡ v i) → total k u ≡ total k v
unfolding total
total_shift zero u v h = refl
total_shift (suc k) u v h = omega (arith, total_shift k u v h, h k)

total_none : (u : ℕ → ℕ) → 0 ≡ total 0 u
unfolding total
total_none u = refl

pub range_each : {A : Type 0} (f : ℕ → List A) (a k : ℕ) → long_each f (range_with_len a k) ≡ total k (λ i. length (f (a + i)))
range_each f a zero = total_none (λ i. length (f (a + i)))
range_each f a (suc k) = omega (
  arith,
  range_each f (a + 1) k,
  total_first k (λ i. length (f (a + i))),
  ap (λ x. length (f x)) (let z : a + 0 ≡ a = omega arith in z),
  total_shift k (λ i. length (f (a + 1 + i))) (λ i. length (f (a + suc i))) (λ i. ap (λ x. length (f x)) (let z : a + 1 + i ≡ a + suc i = omega arith in z)),
)

module _ (L : List Leg) (out : ℕ → Bool) (g : Links) (key : Leg → ℕ) (no : ℕ → ℕ) (one : IsOneWait L out) (drawn : Drawn L out g key no) (listed : Listed L out g key no) where
  symbols_long : long_each g.symbols (range_with_len 0 g.bursts) ≤ g.names
  symbols_long = omega (arith, long_joined g.symbols (range_with_len 0 g.bursts), few_long g.names (joined g.symbols (range_with_len 0 g.bursts)) low (once_times (joined g.symbols (range_with_len 0 g.bursts)) once))
    where
      of_leg : (b a : ℕ) → b < g.bursts → Among a (g.symbols b) → (l : Leg) × Inputs L out key no l × Has l a × (key l ≡ b)
      of_leg b a h i = let (l, j, e) = listed.low_key b h in (l, j, drawn.of_burst l a j (subst (λ b. Among a (g.symbols b)) (sym e) i), e)

      low : (a : ℕ) → Among a (joined g.symbols (range_with_len 0 g.bursts)) → a < g.names
      low a h =
          let (b, i, j) = joined_among g.symbols (range_with_len 0 g.bursts) a h in
          let (l, k, x, e) = of_leg b a (in_range g.bursts b i) j in listed.has_low l a k.0 x

      once : Distinct (joined g.symbols (range_with_len 0 g.bursts))
      once = distinct_joined g.symbols (range_with_len 0 g.bursts) (range_once g.bursts) (λ b i. listed.symbols_once b) (λ b c a i j x y.
          let (l, k, h, e) = of_leg b a (in_range g.bursts b i) x in
          let (m, n, w, f) = of_leg c a (in_range g.bursts c j) y in
          sym e ∙ sym (drawn.home l a k h) ∙ drawn.home m a n w ∙ f)

  entries_long : long_each g.entries (range_with_len 0 g.acts) ≤ g.bursts
  entries_long = omega (arith, long_joined g.entries (range_with_len 0 g.acts), few_long g.bursts (joined g.entries (range_with_len 0 g.acts)) low (once_times (joined g.entries (range_with_len 0 g.acts)) once))
    where
      low : (b : ℕ) → Among b (joined g.entries (range_with_len 0 g.acts)) → b < g.bursts
      low b h =
          let (n, i, j) = joined_among g.entries (range_with_len 0 g.acts) b h in
          let (l, k, e, to) = drawn.of_entries b n j in omega (arith, listed.key_low l k, e)

      -- the act that a burst leads to
      lead : (l : Leg) (b : ℕ) → Inputs L out key no l → key l ≡ b → g.leads b ≡ no l.to ∷ []
      lead l b i e = ap g.leads (sym e) ∙ listed.lead_one l i

      once : Distinct (joined g.entries (range_with_len 0 g.acts))
      once = distinct_joined g.entries (range_with_len 0 g.acts) (range_once g.acts) (λ n i. listed.entries_once n) (λ n m b i j x y.
          let (l, k, e, to) = drawn.of_entries b n x in
          let (q, r, f, go) = drawn.of_entries b m y in
          let same : no l.to ∷ [] ≡ no q.to ∷ [] = sym (lead l b k e) ∙ lead q b r f in
          let z : no l.to ≡ no q.to = cc in
          sym to ∙ z ∙ go)

  givers_low : (a : ℕ) → length (g.givers a) ≤ sum_where L (in_leg a) (λ l. 1)
  givers_low a = elim (cases_Bool (out a)) [
    | inl o ↦ omega (arith, long_one (g.givers a), drawn.given_sum a o (λ y. 1))
    | inr o ↦ none (g.givers a) (λ n h. let (m, i, e, x) = drawn.of_givers n a h in true≢false (sym (one.chart.dirs m a i.0 x ∙ i.1) ∙ o))
  ]
    where
      none : (xs : List ℕ) → ((n : ℕ) → Among n xs → ⊥) → length xs ≤ sum_where L (in_leg a) (λ l. 1)
      none [] h = omega arith
      none (x ∷ xs) h = absurd (h x (inl refl))

  givers_long : long_each g.givers (range_with_len 0 g.names) ≤ marks_in L
  givers_long = omega (arith, range_each g.givers 0 g.names, total_le g.names (λ a. length (g.givers (0 + a))) (λ a. sum_where L (in_leg a) (λ l. 1)) (λ a low. here a), total_legs g.names L)
    where
      here : (a : ℕ) → length (g.givers (0 + a)) ≤ sum_where L (in_leg a) (λ l. 1)
      here a = omega (arith, givers_low a, ap (λ x. length (g.givers x)) (let z : 0 + a ≡ a = omega arith in z))

  pub lines_few : length (lines g) ≤ g.names + g.names + g.bursts + (g.acts + g.acts) + marks_in L
  lines_few = omega (
    arith,
    length-append (map Give (filter (is_given g) (range_with_len 0 g.names))) (joined (inputs g) (parts g)),
    map_long Give (filter (is_given g) (range_with_len 0 g.names)),
    filter_long (is_given g) (range_with_len 0 g.names),
    range_long 0 g.names,
    range_long 0 g.acts,
    long_joined (inputs g) (parts g),
    long_filter (inputs g) (λ x. is_kept g x) (all_names g),
    long_append (inputs g) (map Join (range_with_len 0 g.bursts)) (joined (λ n. Calls n ∷ Gate n ∷ Spread n ∷ []) (range_with_len 0 g.acts) ++ map Shows (range_with_len 0 g.names)),
    long_append (inputs g) (joined (λ n. Calls n ∷ Gate n ∷ Spread n ∷ []) (range_with_len 0 g.acts)) (map Shows (range_with_len 0 g.names)),
    long_map (inputs g) Join (range_with_len 0 g.bursts),
    long_map (inputs g) Shows (range_with_len 0 g.names),
    long_acts (inputs g) (range_with_len 0 g.acts),
    long_same (λ b. map Take (g.symbols b)) g.symbols (range_with_len 0 g.bursts) (λ b. map_long Take (g.symbols b)),
    symbols_long,
    long_same (λ n. map (λ b. Burst b n) (g.entries n)) g.entries (range_with_len 0 g.acts) (λ n. map_long (λ b. Burst b n) (g.entries n)),
    entries_long,
    long_few (λ n. called (g.entries n) n) (range_with_len 0 g.acts) (λ n. called_few (g.entries n) n),
    long_few (λ n. Begin n ∷ []) (range_with_len 0 g.acts) (λ n. omega arith),
    long_same (λ a. map (λ n. Put n a) (g.givers a)) g.givers (range_with_len 0 g.names) (λ a. map_long (λ n. Put n a) (g.givers a)),
    givers_long,
  )
