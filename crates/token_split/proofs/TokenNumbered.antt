-- The parts of the crossings by their places in place of their names: the network is the same.
use Rattle.std.proofs.Common.{◌≡◌, ℕ, zero, suc, ◌+◌, ◌<◌, ◌≤◌, Bool, true, false, List, [], ◌∷◌, ◌++◌, length, map, filter, get_or, cond, refl, sym, ap, ◌∙◌, arith}
use Rattle.std.specs.List.{range_with_len, AllByRecursion}
use Rattle.std.proofs.Math.Path.{fun_ext}
use Rattle.std.proofs.lemmas.List.{map-append}
use Rattle.place_graph.specs.declared.wait_graph.Cross.{Cross as Crossing}
use Rattle.basic_kinds.specs.ShapeParts.{local_part}
use Rattle.net_core.specs.declared.spec.NodeSpec.{NodeSpec}
use Rattle.net_core.specs.declared.spec.NodeSpec.TheVariants.{Kind as Basic}
use Rattle.net_laws.specs.Charts.{charted, node_of}
use Rattle.plain_split.specs.SharedPaths.{joined, place, walk}
use Rattle.shape_parts.proofs.Keyed.{by_place}
use Rattle.token_split.specs.PartKind.{part_kind}
use Rattle.token_split.specs.TokenChart.{Wire, Take, Burst, Return, Row, Cross, Call, Begin, Put, Exit, Give, Name, Env, Join, Meet, Calls, Gate, Spread, Returns, Entry, Shows, Links, cross_wire, pair, same_wire, receiver, is_kept, next, rest, last, inputs, ports, is_given, spec_at, all_names, components, lines, token_chart}

-- a fact of all items, kept by what is done to lists of them
all_append : {A : Type 0} (P : A → Type 0) (xs ys : List A) → AllByRecursion P xs → AllByRecursion P ys → AllByRecursion P (xs ++ ys)
all_append P [] ys h k = k
all_append P (x ∷ xs) ys h k = (h.0, all_append P xs ys h.1 k)

all_filter : {A : Type 0} (P : A → Type 0) (test : A → Bool) (xs : List A) → AllByRecursion P xs → AllByRecursion P (filter test xs)
all_filter P test [] h = tt
all_filter P test (x ∷ xs) h = by (test x) (all_filter P test xs h.1)
  where
    by : (b : Bool) → AllByRecursion P (filter test xs) → AllByRecursion P (cond b (x ∷ filter test xs) (filter test xs))
    by true r = (h.0, r)
    by false r = r

all_of : {A B : Type 0} (P : B → Type 0) (f : A → B) (xs : List A) → ((x : A) → P (f x)) → AllByRecursion P (map f xs)
all_of P f [] h = tt
all_of P f (x ∷ xs) h = (h x, all_of P f xs h)

all_joined : {A B : Type 0} (P : B → Type 0) (f : A → List B) (xs : List A) → ((x : A) → AllByRecursion P (f x)) → AllByRecursion P (joined f xs)
all_joined P f [] h = tt
all_joined P f (x ∷ xs) h = all_append P (f x) (joined f xs) (h x) (all_joined P f xs h)

map_fixed : {A B : Type 0} (r : B → B) (f : A → B) (xs : List A) → ((x : A) → r (f x) ≡ f x) → map r (map f xs) ≡ map f xs
map_fixed r f [] h = refl
map_fixed r f (x ∷ xs) h = ap (λ y. y ∷ map r (map f xs)) (h x) ∙ ap (λ ys. f x ∷ ys) (map_fixed r f xs h)

map_joined : {A B : Type 0} (r : B → B) (f : A → List B) (xs : List A) → ((x : A) → map r (f x) ≡ f x) → map r (joined f xs) ≡ joined f xs
map_joined r f [] h = refl
map_joined r f (x ∷ xs) h = map-append r (f x) (joined f xs) ∙ ap (λ ys. ys ++ map r (joined f xs)) (h x) ∙ ap (λ ys. f x ++ ys) (map_joined r f xs h)

filter_map : {A : Type 0} (p q : A → Bool) (r : A → A) (xs : List A) → ((x : A) → p (r x) ≡ q x) → filter p (map r xs) ≡ map r (filter q xs)
filter_map p q r [] h = refl
filter_map p q r (x ∷ xs) h = ap (λ (b : Bool). cond b (r x ∷ filter p (map r xs)) (filter p (map r xs))) (h x) ∙ by (q x) (filter_map p q r xs h)
  where
    by : (b : Bool) → filter p (map r xs) ≡ map r (filter q xs) → cond b (r x ∷ filter p (map r xs)) (filter p (map r xs)) ≡ map r (cond b (x ∷ filter q xs) (filter q xs))
    by true e = ap (λ ys. r x ∷ ys) e
    by false e = e

module _ (s : NodeSpec) (g : Links) (rows columns : ℕ → List ℕ) (meets : ℕ → List Crossing) where
  abbrev many : ℕ
  many = length g.parts

  abbrev name : ℕ → ℕ
  name k = get_or g.parts k 0

  -- the links with a part known by its place
  abbrev pub by_number : Links
  by_number = record g { parts = range_with_len 0 (length g.parts); row_part = λ v. 0; column_part = λ b. 0; rows = rows; columns = columns; meets = meets }

  abbrev renamed : Name → Name
  renamed Env = Env
  renamed (Join b) = Join b
  renamed (Meet k) = Meet (name k)
  renamed (Calls n) = Calls n
  renamed (Gate n) = Gate n
  renamed (Spread n) = Spread n
  renamed (Returns w) = Returns w
  renamed (Entry w) = Entry w
  renamed (Shows a) = Shows a

  abbrev Known : Name → Type 0
  Known Env = Unit {0}
  Known (Join b) = Unit {0}
  Known (Meet k) = k < many
  Known (Calls n) = Unit {0}
  Known (Gate n) = Unit {0}
  Known (Spread n) = Unit {0}
  Known (Returns w) = Unit {0}
  Known (Entry w) = Unit {0}
  Known (Shows a) = Unit {0}

  module _ (same_rows : (k : ℕ) → k < length g.parts → rows k ≡ g.rows (get_or g.parts k 0)) (same_columns : (k : ℕ) → k < length g.parts → columns k ≡ g.columns (get_or g.parts k 0))
      (same_meets : (k : ℕ) → k < length g.parts → meets k ≡ g.meets (get_or g.parts k 0)) where
    same_kept : (w : Wire) → is_kept by_number (receiver by_number w) ≡ is_kept g (receiver g w)
    same_kept (Take a) = refl
    same_kept (Burst b) = refl
    same_kept (Return w) = refl
    same_kept (Row w) = refl
    same_kept (Cross w b n) = refl
    same_kept (Call n) = refl
    same_kept (Begin n) = refl
    same_kept (Put n a) = refl
    same_kept (Exit n w) = refl
    same_kept (Give a) = refl

    same_next : (w : Wire) → next by_number w ≡ next g w
    same_next (Take a) = refl
    same_next (Burst b) = refl
    same_next (Return w) = refl
    same_next (Row w) = refl
    same_next (Cross w b n) = refl
    same_next (Call n) = refl
    same_next (Begin n) = refl
    same_next (Put n a) = refl
    same_next (Exit n w) = refl
    same_next (Give a) = refl

    same_last : (w : Wire) → last by_number w ≡ last g w
    same_last w = ap (λ (k : Wire → Bool). walk k (next by_number) (rest w) w) (fun_ext same_kept) ∙ ap (λ (f : Wire → Wire). walk (λ v. is_kept g (receiver g v)) f (rest w) w) (fun_ext same_next)

    kept_renamed : (n : Name) → is_kept g (renamed n) ≡ is_kept by_number n
    kept_renamed Env = refl
    kept_renamed (Join b) = refl
    kept_renamed (Meet k) = refl
    kept_renamed (Calls n) = refl
    kept_renamed (Gate n) = refl
    kept_renamed (Spread n) = refl
    kept_renamed (Returns w) = refl
    kept_renamed (Entry w) = refl
    kept_renamed (Shows a) = refl

    inputs_renamed : (n : Name) → Known n → inputs by_number n ≡ inputs g (renamed n)
    inputs_renamed Env h = refl
    inputs_renamed (Join b) h = refl
    inputs_renamed (Meet k) h = ap (λ ws. map Row ws ++ map Burst (columns k)) (same_rows k h) ∙ ap (λ bs. map Row (g.rows (name k)) ++ map Burst bs) (same_columns k h)
    inputs_renamed (Calls n) h = refl
    inputs_renamed (Gate n) h = refl
    inputs_renamed (Spread n) h = refl
    inputs_renamed (Returns w) h = refl
    inputs_renamed (Entry w) h = refl
    inputs_renamed (Shows a) h = refl

    ports_renamed : (n : Name) → Known n → ports by_number n ≡ ports g (renamed n)
    ports_renamed Env h = refl
    ports_renamed (Join b) h = refl
    ports_renamed (Meet k) h = λ i. (map Row (same_rows k h i) ++ map Burst (same_columns k h i)) ++ map cross_wire (same_meets k h i)
    ports_renamed (Calls n) h = refl
    ports_renamed (Gate n) h = refl
    ports_renamed (Spread n) h = refl
    ports_renamed (Returns w) h = refl
    ports_renamed (Entry w) h = refl
    ports_renamed (Shows a) h = refl

    spec_renamed : (n : Name) → Known n → spec_at s by_number n ≡ spec_at s g (renamed n)
    spec_renamed Env h = refl
    spec_renamed (Join b) h = refl
    spec_renamed (Meet k) h = λ i. Basic (part_kind (length (same_rows k h i)) (length (same_columns k h i)) (local_part (map pair (same_meets k h i))))
    spec_renamed (Calls n) h = refl
    spec_renamed (Gate n) h = refl
    spec_renamed (Spread n) h = refl
    spec_renamed (Returns w) h = refl
    spec_renamed (Entry w) h = refl
    spec_renamed (Shows a) h = refl

    all_known : AllByRecursion Known (all_names by_number)
    all_known =
        all_append Known (map Join (range_with_len 0 g.bursts)) _ (all_of Known Join (range_with_len 0 g.bursts) (λ b. tt))
        (all_append Known (map Meet (range_with_len 0 many)) _ (low 0 many (omega arith))
        (all_append Known (joined (λ n. Calls n ∷ Gate n ∷ Spread n ∷ []) (range_with_len 0 g.acts)) _ (all_joined Known (λ n. Calls n ∷ Gate n ∷ Spread n ∷ []) (range_with_len 0 g.acts) (λ n. (tt, (tt, (tt, tt)))))
        (all_append Known (joined (λ w. Returns w ∷ Entry w ∷ []) (range_with_len 0 g.waits)) _ (all_joined Known (λ w. Returns w ∷ Entry w ∷ []) (range_with_len 0 g.waits) (λ w. (tt, (tt, tt))))
        (all_of Known Shows (range_with_len 0 g.names) (λ a. tt)))))
      where
        low : (a n : ℕ) → a + n ≤ many → AllByRecursion Known (map Meet (range_with_len a n))
        low a zero h = tt
        low a (suc n) h = (omega arith, low (a + 1) n (omega arith))

    names_renamed : all_names g ≡ map renamed (all_names by_number)
    names_renamed = sym (
        map-append renamed (map Join (range_with_len 0 g.bursts)) _ ∙ ap (λ xs. xs ++ map renamed rest1) (map_fixed renamed Join (range_with_len 0 g.bursts) (λ b. refl))
        ∙ ap (λ xs. map Join (range_with_len 0 g.bursts) ++ xs)
        (map-append renamed (map Meet (range_with_len 0 many)) rest2 ∙ ap (λ xs. xs ++ map renamed rest2) met
        ∙ ap (λ xs. map Meet g.parts ++ xs)
        (map-append renamed acts rest3 ∙ ap (λ xs. xs ++ map renamed rest3) (map_joined renamed (λ n. Calls n ∷ Gate n ∷ Spread n ∷ []) (range_with_len 0 g.acts) (λ n. refl))
        ∙ ap (λ xs. acts ++ xs)
        (map-append renamed waits shows ∙ ap (λ xs. xs ++ map renamed shows) (map_joined renamed (λ w. Returns w ∷ Entry w ∷ []) (range_with_len 0 g.waits) (λ w. refl))
        ∙ ap (λ xs. waits ++ xs) (map_fixed renamed Shows (range_with_len 0 g.names) (λ a. refl))))))
      where
        shows : List Name
        shows = map Shows (range_with_len 0 g.names)

        waits : List Name
        waits = joined (λ w. Returns w ∷ Entry w ∷ []) (range_with_len 0 g.waits)

        acts : List Name
        acts = joined (λ n. Calls n ∷ Gate n ∷ Spread n ∷ []) (range_with_len 0 g.acts)

        rest3 : List Name
        rest3 = waits ++ shows

        rest2 : List Name
        rest2 = acts ++ rest3

        rest1 : List Name
        rest1 = map Meet (range_with_len 0 many) ++ rest2

        twice : (xs : List ℕ) → map renamed (map Meet xs) ≡ map (λ k. Meet (name k)) xs
        twice [] = refl
        twice (x ∷ xs) = ap (λ ys. Meet (name x) ∷ ys) (twice xs)

        met : map renamed (map Meet (range_with_len 0 many)) ≡ map Meet g.parts
        met = twice (range_with_len 0 many) ∙ sym (by_place Meet 0 0 name g.parts (λ j low. let z : 0 + j ≡ j = omega arith in ap name z))

    components_renamed : components g ≡ map renamed (components by_number)
    components_renamed = ap (filter (is_kept g)) names_renamed ∙ filter_map (is_kept g) (is_kept by_number) renamed (all_names by_number) kept_renamed

    known_components : AllByRecursion Known (components by_number)
    known_components = all_filter Known (is_kept by_number) (all_names by_number) all_known

    inputs_all : (ns : List Name) → AllByRecursion Known ns → joined (inputs by_number) ns ≡ joined (inputs g) (map renamed ns)
    inputs_all [] h = refl
    inputs_all (n ∷ ns) h = ap (λ ws. ws ++ joined (inputs by_number) ns) (inputs_renamed n h.0) ∙ ap (λ ws. inputs g (renamed n) ++ ws) (inputs_all ns h.1)

    same_lines : lines by_number ≡ lines g
    same_lines = ap (λ ws. map Give (filter (is_given g) (range_with_len 0 g.names)) ++ ws) (inputs_all (components by_number) known_components ∙ ap (joined (inputs g)) (sym components_renamed))

    same_number : (w : Wire) → place same_wire (lines by_number) (last by_number w) ≡ place same_wire (lines g) (last g w)
    same_number w = ap (λ ls. place same_wire ls (last by_number w)) same_lines ∙ ap (place same_wire (lines g)) (same_last w)

    numbered : (ws : List Wire) → map (λ w. place same_wire (lines by_number) (last by_number w)) ws ≡ map (λ w. place same_wire (lines g) (last g w)) ws
    numbered [] = refl
    numbered (w ∷ ws) = ap (λ n. n ∷ map (λ w. place same_wire (lines by_number) (last by_number w)) ws) (same_number w) ∙ ap (λ ns. place same_wire (lines g) (last g w) ∷ ns) (numbered ws)

    same_node : (n : Name) → Known n → node_of (token_chart s by_number) n ≡ node_of (token_chart s g) (renamed n)
    same_node n h =
        let ends : map (λ w. place same_wire (lines by_number) (last by_number w)) (ports by_number n) ≡ map (λ w. place same_wire (lines g) (last g w)) (ports g (renamed n)) =
        numbered (ports by_number n) ∙ ap (map (λ w. place same_wire (lines g) (last g w))) (ports_renamed n h) in
        let spec : spec_at s by_number n ≡ spec_at s g (renamed n) = spec_renamed n h in
        λ i. record { spec = spec i; ends = ends i }

    same_nodes : (ns : List Name) → AllByRecursion Known ns → map (node_of (token_chart s by_number)) ns ≡ map (node_of (token_chart s g)) (map renamed ns)
    same_nodes [] h = refl
    same_nodes (n ∷ ns) h = ap (λ x. x ∷ map (node_of (token_chart s by_number)) ns) (same_node n h.0) ∙ ap (λ xs. node_of (token_chart s g) (renamed n) ∷ xs) (same_nodes ns h.1)

    pub same_circuit : charted (token_chart s by_number) ≡ charted (token_chart s g)
    same_circuit =
        let nodes : map (node_of (token_chart s by_number)) (Env ∷ components by_number) ≡ map (node_of (token_chart s g)) (Env ∷ components g) =
        same_nodes (Env ∷ components by_number) (tt, known_components) ∙ ap (λ ns. map (node_of (token_chart s g)) (Env ∷ ns)) (sym components_renamed) in
        λ i. record { nodes = nodes i; wires = length (same_lines i) }
