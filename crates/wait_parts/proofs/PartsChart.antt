-- The parts of a DW from names to numbers: the network of the parts is correct for the DW.
use Rattle.std.proofs.Common.{◌≡◌, ◌↔◌, inl, inr, ℕ, zero, suc, ◌+◌, ◌<◌, true, false, List, [], ◌∷◌, ◌++◌, length, map, get_or, replicate, refl, sym, ap, ◌∙◌, subst, arith, length-append}
use Rattle.std.specs.Prelude.{IsTrue}
use Rattle.std.specs.List.{AllByRecursion, range_with_len}
use Rattle.std.proofs.lemmas.List.{length-map, map-append, map-id}
use Rattle.std.proofs.lemmas.List.FromFn.{length-range_with_len}
use Rattle.basic_kinds.specs.declared.kind.Kind.TheVariants as kind
use Rattle.basic_kinds.specs.declared.shape.Shape.{Shape}
use Rattle.basic_kinds.specs.Kinds.{IsWellFormed}
use Rattle.shape_parts.specs.Cut.{part_of}
use Rattle.net_core.specs.declared.spec.NodeSpec.{NodeSpec}
use Rattle.net_core.specs.declared.spec.NodeSpec.TheVariants.{Kind as Basic}
use Rattle.net_core.specs.Specs.{May, IsFormed, outs_of, sides, is_kind}
use Rattle.net_core.specs.Wiring.{Circuit}
use Rattle.net_laws.specs.Charts.{Chart, node_of, charted}
use Rattle.net_laws.specs.Implementing.{Implements}
use Rattle.net_laws.proofs.Webs as webs
use Rattle.net_laws.proofs.Paths.{Path, here}
use Rattle.net_laws.proofs.Among.{Among, Distinct, all_map}
use Rattle.net_laws.proofs.Routes.{Joined, Routes, routes_basic, routes_clean, routes_correct}
use Rattle.net_laws.proofs.Rows.{number_row, range_both, among_left, among_right, all_both, joined_outs, joined_ins, joined_both}
use Rattle.wait_parts.specs.PartsNet.{ports_of, part_node, parts_circuit}
use Rattle.wait_parts.proofs.WaitRule.{Wire, Row, Column, Out, meet_ports, MeetOn}
use Rattle.wait_parts.proofs.PartLists.{in_range, range_in, names, rows_of, columns_of, places_of, of_row_line, of_column_line, of_place, place_agrees, row_in, in_rows, column_in, in_columns, place_in, in_places, names_once, in_names, row_place, column_place}
use Rattle.wait_parts.proofs.PartKinds.{map_among, distinct_map, ports_cases, whole_may, whole_once, kind_of, ports, ports_once, part_may, part_formed, part_sides}
use Rattle.wait_parts.proofs.PartsWeb.{driver, receiver, all_rows, all_columns, all_places, Rule, web, There, lawful, sound, exact}

-- a fact of the members is a fact of all
pub all_members : {A : Type 0} (P : A → Type 0) (xs : List A) → ((x : A) → Among x xs → P x) → AllByRecursion P xs
all_members P [] h = tt
all_members P (x ∷ xs) h = (h x (inl refl), all_members P xs (λ y a. h y (inr a)))

map_two : {A B C : Type 0} (f : B → C) (g : A → B) (xs : List A) → map f (map g xs) ≡ map (λ x. f (g x)) xs
map_two f g [] = refl
map_two f g (x ∷ xs) = ap (λ ys. f (g x) ∷ ys) (map_two f g xs)

map_members : {A B : Type 0} (f g : A → B) (xs : List A) → ((x : A) → Among x xs → f x ≡ g x) → map f xs ≡ map g xs
map_members f g [] h = refl
map_members f g (x ∷ xs) h = let a = h x (inl refl) in let b = map_members f g xs (λ y m. h y (inr m)) in λ i. a i ∷ b i

module _ (s : Shape) (formed : IsWellFormed (kind.Dw s)) where
  abbrev lines : List Wire
  lines = meet_ports s.cross (all_rows s) (all_columns s) (all_places s)

  abbrev spec_at : ℕ → NodeSpec
  spec_at zero = Basic (kind.Dw s)
  spec_at (suc i) = Basic (kind_of s i)

  abbrev ports_at : ℕ → List Wire
  ports_at zero = lines
  ports_at (suc i) = ports s i

  abbrev number : Wire → ℕ
  number (Row r) = r
  number (Column c) = s.rows + c
  number (Out x) = s.rows + s.cols + x

  abbrev parts : List ℕ
  parts = map suc (names s)

  abbrev chart : Chart ℕ Wire
  chart = record { env = 0; parts = parts; spec = spec_at; ports = ports_at; number = number; many = ports_of s }

  abbrev Kept : ℕ → Type 0
  Kept n = Unit {0}

  -- no node allows this wire
  abbrev nothing : Wire
  nothing = Row s.rows

  -- ---- wires and lists of ports

  rows_among : (rs cs xs : List ℕ) (r : ℕ) → Among r rs → Among (Row r) (meet_ports s.cross rs cs xs)
  rows_among rs cs xs r a = among_left (Row r) (map Row rs ++ map Column cs) (map Out xs) (among_left (Row r) (map Row rs) (map Column cs) (map_among Row rs r a))

  columns_among : (rs cs xs : List ℕ) (c : ℕ) → Among c cs → Among (Column c) (meet_ports s.cross rs cs xs)
  columns_among rs cs xs c a = among_left (Column c) (map Row rs ++ map Column cs) (map Out xs) (among_right (Column c) (map Row rs) (map Column cs) (map_among Column cs c a))

  outs_among : (rs cs xs : List ℕ) (x : ℕ) → Among x xs → Among (Out x) (meet_ports s.cross rs cs xs)
  outs_among rs cs xs x a = among_right (Out x) (map Row rs ++ map Column cs) (map Out xs) (map_among Out xs x a)

  ports_all : (P : Wire → Type 0) (rs cs xs : List ℕ) → ((r : ℕ) → Among r rs → P (Row r)) → ((c : ℕ) → Among c cs → P (Column c)) → ((x : ℕ) → Among x xs → P (Out x))
      → AllByRecursion P (meet_ports s.cross rs cs xs)
  ports_all P rs cs xs a b c = all_both P (map Row rs ++ map Column cs) (map Out xs)
      (all_both P (map Row rs) (map Column cs) (all_map P Row rs (all_members (λ r. P (Row r)) rs a)) (all_map P Column cs (all_members (λ r. P (Column r)) cs b)))
      (all_map P Out xs (all_members (λ r. P (Out r)) xs c))

  lines_all : (P : Wire → Type 0) → ((w : Wire) → There s w → P w) → AllByRecursion P lines
  lines_all P h = ports_all P (all_rows s) (all_columns s) (all_places s)
      (λ r a. h (Row r) (range_in s.rows r a)) (λ c a. h (Column c) (range_in s.cols c a)) (λ x a. h (Out x) (range_in (length s.cross) x a))

  line_among : (w : Wire) → There s w → Among w lines
  line_among (Row r) t = rows_among (all_rows s) (all_columns s) (all_places s) r (in_range s.rows r t)
  line_among (Column c) t = columns_among (all_rows s) (all_columns s) (all_places s) c (in_range s.cols c t)
  line_among (Out x) t = outs_among (all_rows s) (all_columns s) (all_places s) x (in_range (length s.cross) x t)

  -- inputs and then outputs
  joined : (f g : Wire → ℕ) (n : ℕ) (rs cs xs : List ℕ) → ((r : ℕ) → Among r rs → g (Row r) ≡ n) → ((c : ℕ) → Among c cs → g (Column c) ≡ n) → ((x : ℕ) → Among x xs → f (Out x) ≡ n)
      → Joined f g n (sides (length rs + length cs) (length xs)) (meet_ports s.cross rs cs xs)
  joined f g n rs cs xs a b c = joined_both f g n (replicate (length rs + length cs) false) (replicate (length xs) true) (map Row rs ++ map Column cs) (map Out xs)
      (joined_ins f g n (length rs + length cs) (map Row rs ++ map Column cs) (length-append (map Row rs) (map Column cs) ∙ omega (arith, length-map rs Row, length-map cs Column))
      (all_both (λ w. g w ≡ n) (map Row rs) (map Column cs) (all_map (λ w. g w ≡ n) Row rs (all_members (λ r. g (Row r) ≡ n) rs a)) (all_map (λ w. g w ≡ n) Column cs (all_members (λ r. g (Column r) ≡ n) cs b))))
      (joined_outs f g n (length xs) (map Out xs) (length-map xs Out) (all_map (λ w. f w ≡ n) Out xs (all_members (λ x. f (Out x) ≡ n) xs c)))

  outer : Joined (receiver s) (driver s) 0 (sides (s.rows + s.cols) (length s.cross)) lines
  outer = subst (λ bs. Joined (receiver s) (driver s) 0 bs lines)
      (λ i. sides (length-range_with_len 0 s.rows i + length-range_with_len 0 s.cols i) (length-range_with_len 0 (length s.cross) i))
      (joined (receiver s) (driver s) 0 (all_rows s) (all_columns s) (all_places s) (λ r a. refl) (λ c a. refl) (λ x a. refl))

  inner : (i : ℕ) → Among i (names s) → Joined (driver s) (receiver s) (suc i) (outs_of (Basic (kind_of s i))) (ports s i)
  inner i a = subst (λ bs. Joined (driver s) (receiver s) (suc i) bs (ports s i)) (sym (part_sides s i a))
      (joined (driver s) (receiver s) (suc i) (rows_of s i) (columns_of s i) (places_of s i) (λ r b. ap suc (row_in s i r b).1) (λ c b. ap suc (column_in s i c b).1) (λ x b. ap suc (place_in s i x b).1))

  -- ---- nodes

  parts_all : (P : ℕ → Type 0) → ((i : ℕ) → Among i (names s) → P (suc i)) → AllByRecursion P parts
  parts_all P h = all_map P suc (names s) (all_members (λ i. P (suc i)) (names s) h)

  node_of_row : (r : ℕ) → r < s.rows → Among (of_row_line s r) (names s)
  node_of_row r low = let (x, inside, e) = row_place s r low in subst (λ v. Among v (names s)) (ap (of_row_line s) e) (in_names s x inside)

  node_of_column : (c : ℕ) → c < s.cols → Among (of_column_line s c) (names s)
  node_of_column c low = let (x, inside, e) = column_place s c low in subst (λ v. Among v (names s)) (place_agrees s x inside ∙ ap (of_column_line s) e) (in_names s x inside)

  driven : (w : Wire) → There s w → Unit {0} → Among {A = ℕ} (driver s w) (0 ∷ parts) × Among w (ports_at (driver s w))
  driven (Row r) t n = (inl refl, line_among (Row r) t)
  driven (Column c) t n = (inl refl, line_among (Column c) t)
  driven (Out x) t n = (
    inr (map_among suc (names s) (of_place s x) (in_names s x t)),
    outs_among (rows_of s (of_place s x)) (columns_of s (of_place s x)) (places_of s (of_place s x)) x (in_places s (of_place s x) x t refl),
  )

  received : (w : Wire) → There s w → Unit {0} → Among {A = ℕ} (receiver s w) (0 ∷ parts) × Among w (ports_at (receiver s w))
  received (Row r) t n = (
    inr (map_among suc (names s) (of_row_line s r) (node_of_row r t)),
    rows_among (rows_of s (of_row_line s r)) (columns_of s (of_row_line s r)) (places_of s (of_row_line s r)) r (in_rows s (of_row_line s r) r t refl),
  )
  received (Column c) t n = (
    inr (map_among suc (names s) (of_column_line s c) (node_of_column c t)),
    columns_among (rows_of s (of_column_line s c)) (columns_of s (of_column_line s c)) (places_of s (of_column_line s c)) c (in_columns s (of_column_line s c) c t refl),
  )
  received (Out x) t n = (inl refl, line_among (Out x) t)

  -- what may come at a node is there
  allowed : (rs cs xs : List ℕ) → ((r : ℕ) → Among r rs → r < s.rows) → ((c : ℕ) → Among c cs → c < s.cols) → ((x : ℕ) → Among x xs → x < length s.cross)
      → (c : Wire → ℕ) (w : Wire) → MeetOn s.cross rs cs xs c w → There s w
  allowed rs cs xs a b d c w (inl q) = subst (There s) (sym q.is) (a q.row q.among)
  allowed rs cs xs a b d c w (inr (inl q)) = subst (There s) (sym q.is) (b q.column q.among)
  allowed rs cs xs a b d c w (inr (inr q)) = subst (There s) (sym q.is) (d q.crossing q.among)

  real : (n : ℕ) (c : Wire → ℕ) (w : Wire) → Rule s n c w → There s w
  real zero c w q = allowed (all_rows s) (all_columns s) (all_places s) (range_in s.rows) (range_in s.cols) (range_in (length s.cross)) c w q
  real (suc i) c w q = allowed (rows_of s i) (columns_of s i) (places_of s i) (λ r a. (row_in s i r a).0) (λ k a. (column_in s i k a).0) (λ x a. (place_in s i x a).0) c w q

  never : (n : ℕ) (c : Wire → ℕ) → Rule s n c nothing → ⊥
  never n c q = let z = real n c nothing q in omega arith

  nothing_away : (rs cs xs : List ℕ) → ((r : ℕ) → Among r rs → r < s.rows) → Among nothing (meet_ports s.cross rs cs xs) → ⊥
  nothing_away rs cs xs h a = elim (ports_cases rs cs xs nothing a) [
    | inl (r, b, e) ↦ (let z : s.rows ≡ r = cc in omega (arith, h r b, z))
    | inr (inl (c, b, e)) ↦ cc
    | inr (inr (x, b, e)) ↦ cc
  ]

  numbered : map number lines ≡ range_with_len 0 (ports_of s)
  numbered =
      map-append number (map Row (all_rows s) ++ map Column (all_columns s)) (map Out (all_places s))
      ∙ ap (λ l. l ++ map number (map Out (all_places s))) (map-append number (map Row (all_rows s)) (map Column (all_columns s)))
      ∙ ap (λ l. (l ++ map number (map Column (all_columns s))) ++ map number (map Out (all_places s))) (number_row number Row 0 s.rows (λ i h. omega arith))
      ∙ ap (λ l. (range_with_len 0 s.rows ++ l) ++ map number (map Out (all_places s))) (number_row number Column (0 + s.rows) s.cols (λ i h. omega arith))
      ∙ ap (λ l. l ++ map number (map Out (all_places s))) (range_both 0 s.rows s.cols)
      ∙ ap (λ l. range_with_len 0 (s.rows + s.cols) ++ l) (number_row number Out (0 + (s.rows + s.cols)) (length s.cross) (λ i h. omega arith))
      ∙ range_both 0 (s.rows + s.cols) (length s.cross)

  routes : Routes ℕ Wire (web s) Kept (There s) chart lines (λ w. w) (λ w. w) (λ w. w) nothing
  routes = record {
    env = refl;
    nodes = (away, distinct_map suc (λ x y e. omega (arith, e)) (names s) (names_once s));
    formed = (formed, parts_all (λ n. IsFormed (spec_at n)) (λ i a. part_formed s i a formed.few));
    outer = outer;
    inner = parts_all (λ n. Joined (driver s) (receiver s) n (outs_of (spec_at n)) (ports_at n)) inner;
    distinct = (whole_once s, parts_all (λ n. Distinct (ports_at n)) (λ i a. ports_once s i));
    kept = (tt, parts_all Kept (λ i a. tt));
    there = (
      lines_all (There s) (λ w t. t),
      parts_all (λ n. AllByRecursion (There s) (ports_at n)) (λ i a.
          ports_all (There s) (rows_of s i) (columns_of s i) (places_of s i) (λ r b. (row_in s i r b).0) (λ c b. (column_in s i c b).0) (λ x b. (place_in s i x b).0)),
    );
    driven = driven;
    received = received;
    numbers = numbered;
    number_root = λ w t. refl;
    begins = λ w t n. (line_among w t, refl);
    ends = λ w t n. (line_among w t, refl);
    firsts = lines_all (λ v. There s v × Unit {0} × (v ≡ v)) (λ w t. (t, tt, refl));
    lasts = lines_all (λ v. There s v × Unit {0} × (v ≡ v)) (λ w t. (t, tt, refl));
    path = lines_all (λ v. Path ℕ Wire (web s) Kept v v) (λ w t. here w);
    apart = lines_all (λ v. driver s v ≡ receiver s v → ⊥) (λ w t. (lawful s).clean w);
    real_out = λ w t q. real (driver s w) _ w q;
    real_in = λ w t q. real (receiver s w) _ w q;
    enters = λ w t. inl tt;
    leaves = λ w t. inl tt;
    never = λ n t q. never n _ q;
    may = (
      whole_may s nothing (nothing_away (all_rows s) (all_columns s) (all_places s) (range_in s.rows)),
      parts_all (λ n. (t : List ℕ) → May (spec_at n) t ↔ webs.May (web s) n (map (λ p. get_or (ports_at n) p nothing) t)) (λ i a.
          part_may s i a nothing (nothing_away (rows_of s i) (columns_of s i) (places_of s i) (λ r b. (row_in s i r b).0))),
    );
  }
    where
      away : Among {A = ℕ} 0 parts → ⊥
      away a = none (names s) a
        where
          none : (is : List ℕ) → Among {A = ℕ} 0 (map suc is) → ⊥
          none [] h = h
          none (i ∷ is) (inl e) = omega (arith, e)
          none (i ∷ is) (inr h) = none is h

  -- ---- the network

  part_is : (i : ℕ) → node_of chart (suc i) ≡ part_node s (part_of s.rows s.cols s.cross i)
  part_is i = ap (λ l. record { spec = Basic (kind_of s i); ends = l })
      (map-append number (map Row (rows_of s i) ++ map Column (columns_of s i)) (map Out (places_of s i))
      ∙ ap (λ l. l ++ map number (map Out (places_of s i))) (map-append number (map Row (rows_of s i)) (map Column (columns_of s i)))
      ∙ (λ j. (rows j ++ map_two number Column (columns_of s i) j) ++ map_two number Out (places_of s i) j))
    where
      rows : map number (map Row (rows_of s i)) ≡ rows_of s i
      rows = map_two number Row (rows_of s i) ∙ map-id (rows_of s i)

  parts_are : (is : List ℕ) → map (node_of chart) (map suc is) ≡ map (part_node s) (map (part_of s.rows s.cols s.cross) is)
  parts_are [] = refl
  parts_are (i ∷ is) = let a = part_is i in let b = parts_are is in λ j. a j ∷ b j

  net_is : charted chart ≡ parts_circuit s
  net_is = λ j. record { nodes = record { spec = Basic (kind.Dw s); ends = numbered j } ∷ parts_are (names s) j; wires = ports_of s }

  pub parts_right : Implements (parts_circuit s) (Basic (kind.Dw s))
  parts_right = subst (λ (c : Circuit). Implements c (Basic (kind.Dw s))) net_is (record {
    basic = routes_basic ℕ Wire (web s) Kept (There s) chart lines (λ w. w) (λ w. w) (λ w. w) nothing (lawful s) routes (parts_all (λ n. IsTrue (is_kind (spec_at n))) (λ i a. refl));
    clean = routes_clean ℕ Wire (web s) Kept (There s) chart lines (λ w. w) (λ w. w) (λ w. w) nothing (lawful s) routes;
    correct = routes_correct ℕ Wire (web s) Kept (There s) chart lines (λ w. w) (λ w. w) (λ w. w) nothing (lawful s) routes (sound s) (exact s);
  })
