-- What stands for a part of a shape: its kind, and what its traces are.
use Rattle.std.specs.Prelude.{nat_eq, nat_lt, ◌&&◌}
use Rattle.std.proofs.Common.{◌≡◌, ◌↔◌, ◌⊎◌, inl, inr, ℕ, zero, suc, ◌+◌, ◌<◌, ◌≤◌, ◌^◌, Bool, true, false, true≢false, List, [], ◌∷◌, ◌++◌, length, map, get_or, refl, sym, ap, ◌∙◌, subst, arith, lt-ltb}
use Rattle.std.specs.List.{list_all, range_with_len}
use Rattle.std.proofs.lemmas.List.{get_or-map, length-map}
use Rattle.std.proofs.lemmas.List.FromFn.{get_or-range_with_len, length-range_with_len}
use Rattle.cmd_tree.specs.Rounds.{tally, naught, Follows}
use Rattle.basic_kinds.specs.declared.kind.Kind.{Kind}
use Rattle.basic_kinds.specs.declared.kind.Kind.TheVariants as kind
use Rattle.basic_kinds.specs.declared.shape.Shape.{Shape}
use Rattle.basic_kinds.specs.Shapes.{is_rising, is_within, IsShape, IsShape-prop}
use Rattle.basic_kinds.specs.ShapeParts.{label, has_row, has_column, local_part, local_crossing}
use Rattle.basic_kinds.specs.Sorts.{how_many_below}
use Rattle.basic_kinds.specs.Kinds.{IsWellFormed}
use Rattle.net_core.specs.declared.spec.NodeSpec.TheVariants.{Kind as Basic}
use Rattle.net_core.specs.Specs.{May, IsFormed, outs_of, sides}
use Rattle.net_laws.proofs.Among.{Among, Distinct, at_among}
use Rattle.net_laws.proofs.Rows.{among_either, distinct_both}
use Rattle.wait_sums.proofs.WaitLayers.{filter_low}
use Rattle.wait_parts.specs.PartKind.{all_below, has_lines, is_full, is_shape, shape_from, dw_by, dw_of, part_kind}
use Rattle.wait_parts.proofs.WaitRule.{Wire, Row, Column, Out, same_wire, row_at, column_at, MeetOn, Shaped, meet_ports, dw_may, c_may}
use Rattle.wait_parts.proofs.PartLists.{range_distinct, names, part, rows_of, columns_of, places_of, place_row, place_column, place_agrees, row_in, in_rows, column_in, in_columns, place_in, in_places, rows_once, columns_once, places_once, name_in, row_place, column_place, part_listed, as_many, part_shape, row_numbered, column_numbered}

-- ---- what is a shape passes the test

both_and : (a b : Bool) → a ≡ true → b ≡ true → (a && b) ≡ true
both_and a b e f = ap (λ (x : Bool). x && b) e ∙ f

all_below_true : (k : ℕ) (test : ℕ → Bool) → ((i : ℕ) → i < k → test i ≡ true) → all_below k test ≡ true
all_below_true zero test h = refl
all_below_true (suc k) test h = both_and (test k) (all_below k test) (h k (omega arith)) (all_below_true k test (λ i low. h i (omega arith)))

pub is_shape_true : (rows cols : ℕ) (cross : List (ℕ × ℕ)) → IsShape rows cols cross → is_shape rows cols cross ≡ true
is_shape_true rows cols cross w =
    let inside : Bool = list_all (is_within rows cols) cross in
    let lines = both_and (all_below rows (has_row cross)) (all_below cols (has_column cross)) (all_below_true rows (has_row cross) w.each_row) (all_below_true cols (has_column cross) w.each_column) in
    let full = both_and (is_rising cross) (inside && has_lines rows cols cross) w.rising (both_and inside (has_lines rows cols cross) w.within lines) in
    both_and (nat_lt 0 rows) (nat_lt 0 cols && is_full rows cols cross) (lt-ltb 0 rows w.some_row) (both_and (nat_lt 0 cols) (is_full rows cols cross) (lt-ltb 0 cols w.some_column) full)

abbrev pub shape_of : (rows cols : ℕ) (cross : List (ℕ × ℕ)) → IsShape rows cols cross → Shape
shape_of rows cols cross w = record { rows = rows; cols = cols; cross = cross; whole = w }

-- the DW of a shape
pub dw_is : (rows cols : ℕ) (cross : List (ℕ × ℕ)) (w : IsShape rows cols cross) → dw_of rows cols cross ≡ kind.Dw (shape_of rows cols cross w)
dw_is rows cols cross w = by (is_shape rows cols cross) refl
  where
    by : (b : Bool) (e : is_shape rows cols cross ≡ b) → dw_by rows cols cross b e ≡ kind.Dw (shape_of rows cols cross w)
    by true e = ap (λ v. kind.Dw (shape_of rows cols cross v)) (IsShape-prop rows cols cross (shape_from rows cols cross e) w)
    by false e = absurd (true≢false (sym (is_shape_true rows cols cross w) ∙ e))

kind_cases : (rows cols : ℕ) (cross : List (ℕ × ℕ)) → 0 < length cross
    → ((length cross ≡ 1) × (part_kind rows cols cross ≡ kind.C 2)) ⊎ ((2 ≤ length cross) × (part_kind rows cols cross ≡ dw_of rows cols cross))
kind_cases rows cols [] some = absurd (omega arith)
kind_cases rows cols (p ∷ []) some = inl (refl, refl)
kind_cases rows cols (p ∷ q ∷ ps) some = inr (omega arith, refl)

-- ---- lists

among_map : {A B : Type 0} (f : A → B) (xs : List A) (y : B) → Among y (map f xs) → (x : A) × Among x xs × (y ≡ f x)
among_map f [] y h = absurd h
among_map f (x ∷ xs) y (inl e) = (x, inl refl, e)
among_map f (x ∷ xs) y (inr h) = let (z, a, e) = among_map f xs y h in (z, inr a, e)

pub map_among : {A B : Type 0} (f : A → B) (xs : List A) (x : A) → Among x xs → Among (f x) (map f xs)
map_among f [] x h = absurd h
map_among f (y ∷ xs) x (inl e) = inl (ap f e)
map_among f (y ∷ xs) x (inr h) = inr (map_among f xs x h)

pub distinct_map : {A B : Type 0} (f : A → B) → ((x y : A) → f x ≡ f y → x ≡ y) → (xs : List A) → Distinct xs → Distinct (map f xs)
distinct_map f one [] d = tt
distinct_map f one (x ∷ xs) d = ((λ h. let (z, a, e) = among_map f xs (f x) h in d.0 (subst (λ y. Among y xs) (sym (one x z e)) a)), distinct_map f one xs d.1)

pub ports_distinct : (rs cs xs : List ℕ) → Distinct rs → Distinct cs → Distinct xs → Distinct (meet_ports [] rs cs xs)
ports_distinct rs cs xs a b c = distinct_both (map Row rs ++ map Column cs) (map Out xs)
    (distinct_both (map Row rs) (map Column cs) (distinct_map Row (λ x y e. cc) rs a) (distinct_map Column (λ x y e. cc) cs b)
    (λ w p q. let (x, m, e) = among_map Row rs w p in let (y, n, f) = among_map Column cs w q in cc))
    (distinct_map Out (λ x y e. cc) xs c)
    (λ w p q. let (y, n, f) = among_map Out xs w q in
    elim (among_either w (map Row rs) (map Column cs) p) [ inl h ↦ (let (x, m, e) = among_map Row rs w h in cc) | inr h ↦ (let (x, m, e) = among_map Column cs w h in cc) ])

pub ports_cases : (rs cs xs : List ℕ) (w : Wire) → Among w (meet_ports [] rs cs xs)
    → ((r : ℕ) × Among r rs × (w ≡ Row r)) ⊎ (((c : ℕ) × Among c cs × (w ≡ Column c)) ⊎ ((x : ℕ) × Among x xs × (w ≡ Out x)))
ports_cases rs cs xs w a = elim (among_either w (map Row rs ++ map Column cs) (map Out xs) a) [
  | inl h ↦ elim (among_either w (map Row rs) (map Column cs) h) [ inl k ↦ inl (among_map Row rs w k) | inr k ↦ inr (inl (among_map Column cs w k)) ]
  | inr h ↦ inr (inr (among_map Out xs w h))
]

pub only_one : (xs : List ℕ) → length xs ≡ 1 → (x : ℕ) × (xs ≡ x ∷ [])
only_one [] e = absurd (omega (arith, e))
only_one (x ∷ []) e = (x, refl)
only_one (x ∷ y ∷ xs) e = absurd (omega (arith, e))

-- where all are the same, there is one
only_same : (xs : List ℕ) (x : ℕ) → Distinct xs → Among x xs → ((y : ℕ) → Among y xs → y ≡ x) → xs ≡ x ∷ []
only_same [] x d a h = absurd a
only_same (y ∷ []) x d a h = ap (λ z. z ∷ []) (h y (inl refl))
only_same (y ∷ z ∷ xs) x d a h = absurd (d.0 (inl (h y (inl refl) ∙ sym (h z (inr (inl refl))))))

some_long : (xs : List ℕ) (x : ℕ) → Among x xs → 0 < length xs
some_long [] x a = absurd a
some_long (y ∷ xs) x a = omega arith

-- ---- the whole

module _ (s : Shape) where
  whole_shaped : Shaped s.cross (range_with_len 0 s.rows) (range_with_len 0 s.cols) (range_with_len 0 (length s.cross)) s
  whole_shaped = record {
    rows_are = sym (length-range_with_len 0 s.rows);
    columns_are = sym (length-range_with_len 0 s.cols);
    crossings_are = sym (length-range_with_len 0 (length s.cross));
    row_low = λ x low. omega (arith, place_row s x (inside x low), length-range_with_len 0 s.rows);
    row_is = λ x low.
        number s.rows (row_at s.cross x) (place_row s x (inside x low)) ∙ ap (row_at s.cross) (sym (number (length s.cross) x (inside x low)));
    column_low = λ x low. omega (arith, place_column s x (inside x low), length-range_with_len 0 s.cols);
    column_is = λ x low.
        number s.cols (column_at s.cross x) (place_column s x (inside x low)) ∙ ap (column_at s.cross) (sym (number (length s.cross) x (inside x low)));
  }
    where
      inside : (x : ℕ) → x < length (range_with_len 0 (length s.cross)) → x < length s.cross
      inside x low = omega (arith, low, length-range_with_len 0 (length s.cross))

      number : (n x : ℕ) → x < n → get_or (range_with_len 0 n) x 0 ≡ x
      number n x low = omega (arith, get_or-range_with_len 0 n x 0 (omega (arith, low, length-range_with_len 0 n)))

  pub whole_once : Distinct (meet_ports s.cross (range_with_len 0 s.rows) (range_with_len 0 s.cols) (range_with_len 0 (length s.cross)))
  whole_once = ports_distinct (range_with_len 0 s.rows) (range_with_len 0 s.cols) (range_with_len 0 (length s.cross)) (range_distinct 0 s.rows) (range_distinct 0 s.cols) (range_distinct 0 (length s.cross))

  pub whole_may : (z : Wire) → (Among z (meet_ports s.cross (range_with_len 0 s.rows) (range_with_len 0 s.cols) (range_with_len 0 (length s.cross))) → ⊥) → (t : List ℕ) → May (Basic (kind.Dw s)) t
      ↔ Follows (λ v w. MeetOn s.cross (range_with_len 0 s.rows) (range_with_len 0 s.cols) (range_with_len 0 (length s.cross)) (tally same_wire naught v) w) []
      (map (λ p. get_or (meet_ports s.cross (range_with_len 0 s.rows) (range_with_len 0 s.cols) (range_with_len 0 (length s.cross))) p z) t)
  whole_may z away t =
      dw_may s.cross (range_with_len 0 s.rows) (range_with_len 0 s.cols) (range_with_len 0 (length s.cross)) s whole_shaped (range_distinct 0 s.rows) (range_distinct 0 s.cols) z whole_once away t

  -- ---- a part

  abbrev pub local : ℕ → List (ℕ × ℕ)
  local i = local_part (part s i)

  abbrev pub kind_of : ℕ → Kind
  kind_of i = part_kind (length (rows_of s i)) (length (columns_of s i)) (local i)

  abbrev pub ports : ℕ → List Wire
  ports i = meet_ports s.cross (rows_of s i) (columns_of s i) (places_of s i)

  pub ports_once : (i : ℕ) → Distinct (ports i)
  ports_once i = ports_distinct (rows_of s i) (columns_of s i) (places_of s i) (rows_once s i) (columns_once s i) (places_once s i)

  pub local_long : (i : ℕ) → length (local i) ≡ length (places_of s i)
  local_long i = length-map (part s i) (local_crossing (part s i)) ∙ as_many s i

  module _ (i : ℕ) (named : Among i (names s)) where
    pub some_places : 0 < length (places_of s i)
    some_places = let (x, low, e) = name_in s i named in some_long (places_of s i) x (in_places s i x low e)

    pub own_shape : IsShape (length (rows_of s i)) (length (columns_of s i)) (local i)
    own_shape = part_shape s i (omega (arith, as_many s i, some_places))

    pub own_dw : dw_of (length (rows_of s i)) (length (columns_of s i)) (local i) ≡ kind.Dw (shape_of (length (rows_of s i)) (length (columns_of s i)) (local i) own_shape)
    own_dw = dw_is (length (rows_of s i)) (length (columns_of s i)) (local i) own_shape

    pub kinds : ((length (places_of s i) ≡ 1) × (kind_of i ≡ kind.C 2))
        ⊎ ((2 ≤ length (places_of s i)) × (kind_of i ≡ kind.Dw (shape_of (length (rows_of s i)) (length (columns_of s i)) (local i) own_shape)))
    kinds = elim (kind_cases (length (rows_of s i)) (length (columns_of s i)) (local i) (omega (arith, local_long i, some_places))) [
      | inl (a, e) ↦ inl (omega (arith, a, local_long i), e)
      | inr (a, e) ↦ inr (omega (arith, a, local_long i), e ∙ own_dw)
    ]

    place_row_in : (x : ℕ) → Among x (places_of s i) → Among (row_at s.cross x) (rows_of s i)
    place_row_in x a = let (low, e) = place_in s i x a in in_rows s i (row_at s.cross x) (place_row s x low) e

    place_column_in : (x : ℕ) → Among x (places_of s i) → Among (column_at s.cross x) (columns_of s i)
    place_column_in x a = let (low, e) = place_in s i x a in in_columns s i (column_at s.cross x) (place_column s x low) (sym (place_agrees s x low) ∙ e)

    local_at : (x : ℕ) → x < length (places_of s i) → get_or (local i) x (0, 0) ≡ local_crossing (part s i) (get_or s.cross (get_or (places_of s i) x 0) (0, 0))
    local_at x low =
        get_or-map (local_crossing (part s i)) (part s i) x (0, 0) (0, 0) (omega (arith, low, as_many s i))
        ∙ ap (λ ps. local_crossing (part s i) (get_or ps x (0, 0))) (part_listed s i)
        ∙ ap (local_crossing (part s i)) (get_or-map (λ n. get_or s.cross n (0, 0)) (places_of s i) x 0 (0, 0) low)

    row_there : (x : ℕ) → x < length (places_of s i) → (how_many_below (row_at s.cross (get_or (places_of s i) x 0)) (has_row (part s i)) < length (rows_of s i))
        × (get_or (rows_of s i) (how_many_below (row_at s.cross (get_or (places_of s i) x 0)) (has_row (part s i))) 0 ≡ row_at s.cross (get_or (places_of s i) x 0))
    row_there x low = row_numbered s i (row_at s.cross (get_or (places_of s i) x 0)) (place_row_in (get_or (places_of s i) x 0) (at_among 0 (places_of s i) x low))

    column_there : (x : ℕ) → x < length (places_of s i) → (how_many_below (column_at s.cross (get_or (places_of s i) x 0)) (has_column (part s i)) < length (columns_of s i))
        × (get_or (columns_of s i) (how_many_below (column_at s.cross (get_or (places_of s i) x 0)) (has_column (part s i))) 0 ≡ column_at s.cross (get_or (places_of s i) x 0))
    column_there x low = column_numbered s i (column_at s.cross (get_or (places_of s i) x 0)) (place_column_in (get_or (places_of s i) x 0) (at_among 0 (places_of s i) x low))

    shaped : Shaped s.cross (rows_of s i) (columns_of s i) (places_of s i) (shape_of (length (rows_of s i)) (length (columns_of s i)) (local i) own_shape)
    shaped = record {
      rows_are = refl;
      columns_are = refl;
      crossings_are = local_long i;
      row_low = λ x low. subst (λ (p : ℕ × ℕ). p.0 < length (rows_of s i)) (sym (local_at x low)) (row_there x low).0;
      row_is = λ x low. ap (λ (p : ℕ × ℕ). get_or (rows_of s i) p.0 0) (local_at x low) ∙ (row_there x low).1;
      column_low = λ x low. subst (λ (p : ℕ × ℕ). p.1 < length (columns_of s i)) (sym (local_at x low)) (column_there x low).0;
      column_is = λ x low. ap (λ (p : ℕ × ℕ). get_or (columns_of s i) p.1 0) (local_at x low) ∙ (column_there x low).1;
    }

    -- a part of one crossing has one row and one column
    single : (x : ℕ) → places_of s i ≡ x ∷ [] → (rows_of s i ≡ row_at s.cross x ∷ []) × (columns_of s i ≡ column_at s.cross x ∷ [])
    single x e = (
      only_same (rows_of s i) (row_at s.cross x) (rows_once s i) (place_row_in x here)
          (λ y a. let (low, at) = row_in s i y a in let (n, inside, is) = row_place s y low in
          sym is ∙ ap (row_at s.cross) (same n (in_places s i n inside (ap (λ (v : ℕ). label s.rows s.cross v) is ∙ at)))),
      only_same (columns_of s i) (column_at s.cross x) (columns_once s i) (place_column_in x here)
          (λ y a. let (low, at) = column_in s i y a in let (n, inside, is) = column_place s y low in
          sym is ∙ ap (column_at s.cross) (same n (in_places s i n inside (place_agrees s n inside ∙ ap (λ (v : ℕ). label s.rows s.cross (s.rows + v)) is ∙ at)))),
    )
      where
        here : Among x (places_of s i)
        here = subst (Among x) (sym e) (inl refl)

        same : (n : ℕ) → Among n (places_of s i) → n ≡ x
        same n a = elim (subst (Among n) e a) [ inl q ↦ q | inr q ↦ absurd q ]

    pub part_may : (z : Wire) → (Among z (ports i) → ⊥) → (t : List ℕ) → May (Basic (kind_of i)) t
        ↔ Follows (λ v w. MeetOn s.cross (rows_of s i) (columns_of s i) (places_of s i) (tally same_wire naught v) w) [] (map (λ p. get_or (ports i) p z) t)
    part_may z away t = elim kinds [
      | inl (one, e) ↦
          let (x, at) = only_one (places_of s i) one in
          let (r, c) = single x at in
          subst (λ q. May (Basic q) t ↔ Follows (λ v w. MeetOn s.cross (rows_of s i) (columns_of s i) (places_of s i) (tally same_wire naught v) w) [] (map (λ p. get_or (ports i) p z) t)) (sym e)
          (join_may x (rows_of s i) (columns_of s i) (places_of s i) r c at (ports_once i) away)
      | inr (more, e) ↦
          subst (λ q. May (Basic q) t ↔ Follows (λ v w. MeetOn s.cross (rows_of s i) (columns_of s i) (places_of s i) (tally same_wire naught v) w) [] (map (λ p. get_or (ports i) p z) t)) (sym e)
          (dw_may s.cross (rows_of s i) (columns_of s i) (places_of s i) (shape_of (length (rows_of s i)) (length (columns_of s i)) (local i) own_shape) shaped (rows_once s i) (columns_once s i) z (ports_once i) away t)
    ]
      where
        join_may : (x : ℕ) (rs cs xs : List ℕ) → rs ≡ row_at s.cross x ∷ [] → cs ≡ column_at s.cross x ∷ [] → xs ≡ x ∷ [] → Distinct (meet_ports s.cross rs cs xs) → (Among z (meet_ports s.cross rs cs xs) → ⊥)
            → May (Basic (kind.C 2)) t ↔ Follows (λ v w. MeetOn s.cross rs cs xs (tally same_wire naught v) w) [] (map (λ p. get_or (meet_ports s.cross rs cs xs) p z) t)
        join_may x rs cs xs r c at once away =
            let ports_are : meet_ports s.cross rs cs xs ≡ meet_ports s.cross (row_at s.cross x ∷ []) (column_at s.cross x ∷ []) (x ∷ []) = λ j. meet_ports s.cross (r j) (c j) (at j) in
            subst (λ rs. May (Basic (kind.C 2)) t ↔ Follows (λ v w. MeetOn s.cross rs cs xs (tally same_wire naught v) w) [] (map (λ p. get_or (meet_ports s.cross rs cs xs) p z) t)) (sym r)
            (subst (λ cs. May (Basic (kind.C 2)) t ↔ Follows (λ v w. MeetOn s.cross (row_at s.cross x ∷ []) cs xs (tally same_wire naught v) w) [] (map (λ p. get_or (meet_ports s.cross (row_at s.cross x ∷ []) cs xs) p z) t)) (sym c)
            (subst (λ xs. May (Basic (kind.C 2)) t ↔ Follows (λ v w. MeetOn s.cross (row_at s.cross x ∷ []) (column_at s.cross x ∷ []) xs (tally same_wire naught v) w) [] (map (λ p. get_or (meet_ports s.cross (row_at s.cross x ∷ []) (column_at s.cross x ∷ []) xs) p z) t)) (sym at)
            (c_may s.cross x z (subst Distinct ports_are once) (λ a. away (subst (Among z) (sym ports_are) a)) t)))

    -- the part is no larger than the whole
    pub few_rows : length (rows_of s i) ≤ s.rows
    few_rows = omega (arith, filter_low (has_row (part s i)) (range_with_len 0 s.rows), length-range_with_len 0 s.rows)

    pub few_columns : length (columns_of s i) ≤ s.cols
    few_columns = omega (arith, filter_low (has_column (part s i)) (range_with_len 0 s.cols), length-range_with_len 0 s.cols)

    pub few_places : length (places_of s i) ≤ length s.cross
    few_places = omega (arith, filter_low (λ n. nat_eq (label s.rows s.cross (get_or s.cross n (0, 0)).0) i) (range_with_len 0 (length s.cross)), length-range_with_len 0 (length s.cross))

    pub part_formed : s.rows + s.cols + length s.cross < 2 ^ 28 → IsFormed (Basic (kind_of i))
    part_formed low = elim kinds [
      | inl (one, e) ↦ subst IsWellFormed (sym e) (record { wide = omega arith; few = omega arith })
      | inr (more, e) ↦ subst IsWellFormed (sym e) (record { wide = tt; few = omega (arith, low, few_rows, few_columns, few_places, local_long i) })
    ]

    pub part_sides : outs_of (Basic (kind_of i)) ≡ sides (length (rows_of s i) + length (columns_of s i)) (length (places_of s i))
    part_sides = elim kinds [
      | inl (one, e) ↦
          let (x, at) = only_one (places_of s i) one in
          let (r, c) = single x at in
          let ins : 2 ≡ length (rows_of s i) + length (columns_of s i) = omega (arith, ap (λ (xs : List ℕ). length xs) r, ap (λ (xs : List ℕ). length xs) c) in
          ap (λ q. outs_of (Basic q)) e ∙ (λ j. sides (ins j) (sym one j))
      | inr (more, e) ↦ ap (λ q. outs_of (Basic q)) e ∙ ap (sides (length (rows_of s i) + length (columns_of s i))) (local_long i)
    ]
