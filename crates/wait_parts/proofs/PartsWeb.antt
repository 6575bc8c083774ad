-- The web of the parts of a DW: each wire leads between the environment and one part.
use Rattle.std.proofs.Common.{◌≡◌, inl, inr, ℕ, zero, suc, ◌<◌, ◌≤◌, Bool, true, false, true≢false, cond, filter, nat_eq, List, [], ◌∷◌, length, refl, sym, ap, subst, ◌∙◌, arith, eq-eqb, eqb-true}
use Rattle.std.specs.List.{range_with_len}
use Rattle.std.proofs.lemmas.Bool.{cases_eq, cases_lt}
use Rattle.cmd_tree.specs.Rounds.{same_number, tally, naught}
use Rattle.basic_kinds.specs.declared.shape.Shape.{Shape}
use Rattle.net_laws.proofs.Webs.{Web, numbers_decide, WebSound, WebExact}
use Rattle.net_laws.proofs.Told.{Lawful, Flows}
use Rattle.net_laws.proofs.Woven.{Grew, grew_le, grew_other, Reads, Counting, Keeps, Draws, give, show, web_sound, web_exact}
use Rattle.net_laws.proofs.Among.{Among, Distinct}
use Rattle.wait_parts.proofs.WaitRule.{Wire, Row, Column, Out, same_wire, wires_decide, sum_of, row_at, column_at, of_row, of_column, Meets, RowOn, ColumnOn, CrossOn, MeetOn}
use Rattle.wait_parts.proofs.PartLists.{among_filter, filter_among, filter_distinct, in_range, range_in, range_distinct, rows_of, columns_of, places_of, of_row_line, of_column_line, of_place, place_row, place_column, place_agrees, row_in, in_rows, column_in, in_columns, place_in, in_places}

-- ---- sums over a list

sum_same : (f g : ℕ → ℕ) (xs : List ℕ) → ((x : ℕ) → Among x xs → f x ≡ g x) → sum_of f xs ≡ sum_of g xs
sum_same f g [] h = refl
sum_same f g (x ∷ xs) h = omega (arith, h x (inl refl), sum_same f g xs (λ y a. h y (inr a)))

sum_low : (f g : ℕ → ℕ) (xs : List ℕ) → ((x : ℕ) → f x ≤ g x) → sum_of f xs ≤ sum_of g xs
sum_low f g [] h = omega arith
sum_low f g (x ∷ xs) h = omega (arith, h x, sum_low f g xs h)

-- where the greater sum is no greater, no item is
sum_even : (f g : ℕ → ℕ) (xs : List ℕ) → ((x : ℕ) → f x ≤ g x) → sum_of g xs ≤ sum_of f xs → (x : ℕ) → Among x xs → g x ≤ f x
sum_even f g [] h low x a = absurd a
sum_even f g (y ∷ xs) h low x (inl e) = omega (arith, h y, sum_low f g xs h, low, ap f e, ap g e)
sum_even f g (y ∷ xs) h low x (inr a) = sum_even f g xs h (omega (arith, low, h y)) x a

sum_less : (f g : ℕ → ℕ) (xs : List ℕ) → ((x : ℕ) → f x ≤ g x) → (x : ℕ) → Among x xs → f x < g x → sum_of f xs < sum_of g xs
sum_less f g [] h x a less = absurd a
sum_less f g (y ∷ xs) h x (inl e) less = omega (arith, sum_low f g xs h, less, ap f e, ap g e)
sum_less f g (y ∷ xs) h x (inr a) less = omega (arith, h y, sum_less f g xs h x a less)

sum_zero : (f : ℕ → ℕ) (xs : List ℕ) → ((x : ℕ) → f x ≡ 0) → sum_of f xs ≡ 0
sum_zero f [] h = refl
sum_zero f (x ∷ xs) h = omega (arith, h x, sum_zero f xs h)

-- one item is one more
sum_next : (f g : ℕ → ℕ) (k : ℕ) (xs : List ℕ) → Distinct xs → g k ≤ suc (f k) → ((x : ℕ) → (x ≡ k → ⊥) → g x ≡ f x) → sum_of g xs ≤ suc (sum_of f xs)
sum_next f g k [] d one rest = omega arith
sum_next f g k (x ∷ xs) d one rest = elim (cases_eq x k) [
  | inl e ↦ omega (arith, one, ap f e, ap g e, sum_same g f xs (λ y a. rest y (λ i. d.0 (subst (λ z. Among z xs) (i ∙ sym e) a))))
  | inr n ↦ omega (arith, rest x n, sum_next f g k xs d.1 one rest)
]

filter_twice : (p q : ℕ → Bool) (xs : List ℕ) → ((x : ℕ) → Among x xs → p x ≡ true → q x ≡ true) → filter p (filter q xs) ≡ filter p xs
filter_twice p q [] h = refl
filter_twice p q (x ∷ xs) h = by (p x) (q x) refl refl (filter_twice p q xs (λ y a. h y (inr a)))
  where
    by : (b c : Bool) → p x ≡ b → q x ≡ c → filter p (filter q xs) ≡ filter p xs → filter p (cond c (x ∷ filter q xs) (filter q xs)) ≡ cond b (x ∷ filter p xs) (filter p xs)
    by true true e f r = ap (λ (b : Bool). cond b (x ∷ filter p (filter q xs)) (filter p (filter q xs))) e ∙ ap (λ ys. x ∷ ys) r
    by true false e f r = absurd (true≢false (sym (h x (inl refl) e) ∙ f))
    by false true e f r = ap (λ (b : Bool). cond b (x ∷ filter p (filter q xs)) (filter p (filter q xs))) e ∙ r
    by false false e f r = r

module _ (s : Shape) where
  -- node 0 is the environment, node i + 1 the part that is known by the line i
  abbrev pub driver : Wire → ℕ
  driver (Row r) = 0
  driver (Column c) = 0
  driver (Out x) = suc (of_place s x)

  abbrev pub receiver : Wire → ℕ
  receiver (Row r) = suc (of_row_line s r)
  receiver (Column c) = suc (of_column_line s c)
  receiver (Out x) = 0

  abbrev pub all_rows : List ℕ
  all_rows = range_with_len 0 s.rows

  abbrev pub all_columns : List ℕ
  all_columns = range_with_len 0 s.cols

  abbrev pub all_places : List ℕ
  all_places = range_with_len 0 (length s.cross)

  abbrev pub Rule : ℕ → (Wire → ℕ) → Wire → Type 0
  Rule zero c w = MeetOn s.cross all_rows all_columns all_places c w
  Rule (suc i) c w = MeetOn s.cross (rows_of s i) (columns_of s i) (places_of s i) c w

  abbrev pub web : Web ℕ Wire
  web = record {
    same_node = same_number;
    same_wire = same_wire;
    driver = driver;
    receiver = receiver;
    outside = 0;
    rule = λ n t w. Rule n (tally same_wire naught t) w;
  }

  abbrev pub There : Wire → Type 0
  There (Row r) = r < s.rows
  There (Column c) = c < s.cols
  There (Out x) = x < length s.cross

  pub lawful : Lawful ℕ Wire web
  lawful = record { nodes = numbers_decide; wires = wires_decide; clean = clean }
    where
      clean : (w : Wire) → driver w ≡ receiver w → ⊥
      clean (Row r) e = omega arith
      clean (Column c) e = omega arith
      clean (Out x) e = omega arith

  counting : Counting ℕ Wire web Rule
  counting = record { there = λ n t w h. h; back = λ n t w h. h }

  -- ---- sums

  abbrev row_sum : (Wire → ℕ) → ℕ → ℕ
  row_sum e y = of_row s.cross all_places e y

  abbrev column_sum : (Wire → ℕ) → ℕ → ℕ
  column_sum e k = of_column s.cross all_places e k

  abbrev in_row : ℕ → List ℕ
  in_row y = filter (λ x. nat_eq (row_at s.cross x) y) all_places

  abbrev in_column : ℕ → List ℕ
  in_column k = filter (λ x. nat_eq (column_at s.cross x) k) all_places

  row_once : (y : ℕ) → Distinct (in_row y)
  row_once y = filter_distinct (λ x. nat_eq (row_at s.cross x) y) all_places (range_distinct 0 (length s.cross))

  column_once : (k : ℕ) → Distinct (in_column k)
  column_once k = filter_distinct (λ x. nat_eq (column_at s.cross x) k) all_places (range_distinct 0 (length s.cross))

  row_is : (y x : ℕ) → Among x (in_row y) → row_at s.cross x ≡ y
  row_is y x a = eqb-true (row_at s.cross x) y (among_filter (λ x. nat_eq (row_at s.cross x) y) all_places x a).1

  column_is : (k x : ℕ) → Among x (in_column k) → column_at s.cross x ≡ k
  column_is k x a = eqb-true (column_at s.cross x) k (among_filter (λ x. nat_eq (column_at s.cross x) k) all_places x a).1

  row_has : (x : ℕ) → x < length s.cross → Among x (in_row (row_at s.cross x))
  row_has x low = filter_among (λ n. nat_eq (row_at s.cross n) (row_at s.cross x)) all_places x (in_range (length s.cross) x low) (eq-eqb (row_at s.cross x) (row_at s.cross x) refl)

  column_has : (x : ℕ) → x < length s.cross → Among x (in_column (column_at s.cross x))
  column_has x low = filter_among (λ n. nat_eq (column_at s.cross n) (column_at s.cross x)) all_places x (in_range (length s.cross) x low) (eq-eqb (column_at s.cross x) (column_at s.cross x) refl)

  row_low : (F P : Wire → ℕ) → ((w : Wire) → P w ≤ F w) → (y : ℕ) → row_sum P y ≤ row_sum F y
  row_low F P f y = sum_low (λ x. P (Out x)) (λ x. F (Out x)) (in_row y) (λ x. f (Out x))

  column_low : (F P : Wire → ℕ) → ((w : Wire) → P w ≤ F w) → (k : ℕ) → column_sum P k ≤ column_sum F k
  column_low F P f k = sum_low (λ x. P (Out x)) (λ x. F (Out x)) (in_column k) (λ x. f (Out x))

  row_same : (F P : Wire → ℕ) → ((x : ℕ) → F (Out x) ≡ P (Out x)) → (y : ℕ) → row_sum F y ≡ row_sum P y
  row_same F P e y = sum_same (λ x. F (Out x)) (λ x. P (Out x)) (in_row y) (λ x a. e x)

  column_same : (F P : Wire → ℕ) → ((x : ℕ) → F (Out x) ≡ P (Out x)) → (k : ℕ) → column_sum F k ≡ column_sum P k
  column_same F P e k = sum_same (λ x. F (Out x)) (λ x. P (Out x)) (in_column k) (λ x a. e x)

  -- the sum over the crossings of a row of a part is that over all crossings of the row
  part_row : (i y : ℕ) → of_row_line s y ≡ i → (c F : Wire → ℕ) → ((x : ℕ) → of_place s x ≡ i → c (Out x) ≡ F (Out x)) → of_row s.cross (places_of s i) c y ≡ row_sum F y
  part_row i y at c F e =
      sum_same (λ x. c (Out x)) (λ x. F (Out x)) (filter (λ x. nat_eq (row_at s.cross x) y) (places_of s i))
      (λ x a. e x (place_in s i x (among_filter (λ x. nat_eq (row_at s.cross x) y) (places_of s i) x a).0).1)
      ∙ ap (sum_of (λ x. F (Out x))) (filter_twice (λ x. nat_eq (row_at s.cross x) y) (λ x. nat_eq (of_place s x) i) all_places
      (λ x a h. eq-eqb (of_place s x) i (ap (of_row_line s) (eqb-true (row_at s.cross x) y h) ∙ at)))

  part_column : (i k : ℕ) → of_column_line s k ≡ i → (c F : Wire → ℕ) → ((x : ℕ) → of_place s x ≡ i → c (Out x) ≡ F (Out x)) → of_column s.cross (places_of s i) c k ≡ column_sum F k
  part_column i k at c F e =
      sum_same (λ x. c (Out x)) (λ x. F (Out x)) (filter (λ x. nat_eq (column_at s.cross x) k) (places_of s i))
      (λ x a. e x (place_in s i x (among_filter (λ x. nat_eq (column_at s.cross x) k) (places_of s i) x a).0).1)
      ∙ ap (sum_of (λ x. F (Out x))) (filter_twice (λ x. nat_eq (column_at s.cross x) k) (λ x. nat_eq (of_place s x) i) all_places
      (λ x a h. eq-eqb (of_place s x) i (place_agrees s x (range_in (length s.cross) x a) ∙ ap (of_column_line s) (eqb-true (column_at s.cross x) k h) ∙ at)))

  -- ---- the invariant

  record Inv (F P : Wire → ℕ) : Type 0 where
    row_sent : (y : ℕ) → y < s.rows → F (Row y) ≤ suc (row_sum P y)
    row_got : (y : ℕ) → y < s.rows → row_sum F y ≤ P (Row y)
    column_sent : (k : ℕ) → k < s.cols → F (Column k) ≤ suc (column_sum P k)
    column_got : (k : ℕ) → k < s.cols → column_sum F k ≤ P (Column k)
    -- one row is pending at most, and one column, and these cross
    one_row : (y z : ℕ) → y < s.rows → z < s.rows → row_sum P y < F (Row y) → row_sum P z < F (Row z) → y ≡ z
    one_column : (k l : ℕ) → k < s.cols → l < s.cols → column_sum P k < F (Column k) → column_sum P l < F (Column l) → k ≡ l
    meets : (y k : ℕ) → y < s.rows → k < s.cols → row_sum P y < F (Row y) → column_sum P k < F (Column k) → Meets s.cross all_places y k

  later : (F P Q : Wire → ℕ) → ((w : Wire) → P w ≤ Q w) → Inv F P → Inv F Q
  later F P Q g h = record {
    row_sent = λ y low. omega (arith, h.row_sent y low, row_low Q P g y);
    row_got = λ y low. omega (arith, h.row_got y low, g (Row y));
    column_sent = λ k low. omega (arith, h.column_sent k low, column_low Q P g k);
    column_got = λ k low. omega (arith, h.column_got k low, g (Column k));
    one_row = λ y z a b p q. h.one_row y z a b (omega (arith, p, row_low Q P g y)) (omega (arith, q, row_low Q P g z));
    one_column = λ k l a b p q. h.one_column k l a b (omega (arith, p, column_low Q P g k)) (omega (arith, q, column_low Q P g l));
    meets = λ y k a b p q. h.meets y k a b (omega (arith, p, row_low Q P g y)) (omega (arith, q, column_low Q P g k));
  }

  abbrev Sent : (F P : Wire → ℕ) → Wire → Type 0
  Sent F P w = There w × (F w ≡ P w) × ((G : Wire → ℕ) → Grew F w G → Inv G P)

  -- ---- the environment gives a row, or a column

  module _ (F P c : Wire → ℕ) (f : Flows F P) (h : Inv F P) where
    below : (w : Wire) → P w ≤ F w
    below w = omega (arith, f w)

    module _ (a : Reads ℕ Wire web 0 c F P) where
      outer_row : (y : ℕ) → row_sum c y ≡ row_sum P y
      outer_row y = row_same c P (λ x. a.got (Out x) refl) y

      outer_column : (k : ℕ) → column_sum c k ≡ column_sum P k
      outer_column k = column_same c P (λ x. a.got (Out x) refl) k

      gives_row : (r : ℕ) → RowOn s.cross all_rows all_columns all_places c (Row r) → Sent F P (Row r)
      gives_row r q = (low, even, grown)
        where
          same : q.row ≡ r
          same = let e = q.is in cc

          low : r < s.rows
          low = range_in s.rows r (subst (λ z. Among z all_rows) same q.among)

          free : (y : ℕ) → y < s.rows → F (Row y) ≡ row_sum P y
          free y inside = sym (a.sent (Row y) refl) ∙ q.free y (in_range s.rows y inside) ∙ outer_row y

          even : F (Row r) ≡ P (Row r)
          even = omega (arith, free r low, h.row_got r low, row_low F P below r, f (Row r))

          grown : (G : Wire → ℕ) → Grew F (Row r) G → Inv G P
          grown G g = record {
            row_sent = λ y inside. elim (g (Row y)) [ inl t ↦ omega (arith, t.1, free y inside) | inr t ↦ omega (arith, t.1, h.row_sent y inside) ];
            row_got = λ y inside. omega (arith, row_same G F outs y, h.row_got y inside);
            column_sent = λ k inside. omega (arith, columns k, h.column_sent k inside);
            column_got = λ k inside. omega (arith, column_same G F outs k, h.column_got k inside);
            one_row = λ y z x t p u. pends y x p ∙ sym (pends z t u);
            one_column = λ k l x t p u. h.one_column k l x t (omega (arith, p, columns k)) (omega (arith, u, columns l));
            meets = λ y k x t p u.
                subst (λ z. Meets s.cross all_places z k) (same ∙ sym (pends y x p))
                (q.meets k (in_range s.cols k t) (omega (arith, u, columns k, outer_column k, a.sent (Column k) refl)));
          }
            where
              outs : (x : ℕ) → G (Out x) ≡ F (Out x)
              outs x = grew_other F (Row r) G g (Out x) (λ e. cc)

              columns : (k : ℕ) → G (Column k) ≡ F (Column k)
              columns k = grew_other F (Row r) G g (Column k) (λ e. cc)

              pends : (y : ℕ) → y < s.rows → row_sum P y < G (Row y) → y ≡ r
              pends y inside p = elim (g (Row y)) [
                | inl t ↦ (let e = t.0 in cc)
                | inr t ↦ absurd (omega (arith, p, t.1, free y inside))
              ]

      gives_column : (r : ℕ) → ColumnOn s.cross all_rows all_columns all_places c (Column r) → Sent F P (Column r)
      gives_column r q = (low, even, grown)
        where
          same : q.column ≡ r
          same = let e = q.is in cc

          low : r < s.cols
          low = range_in s.cols r (subst (λ z. Among z all_columns) same q.among)

          free : (k : ℕ) → k < s.cols → F (Column k) ≡ column_sum P k
          free k inside = sym (a.sent (Column k) refl) ∙ q.free k (in_range s.cols k inside) ∙ outer_column k

          even : F (Column r) ≡ P (Column r)
          even = omega (arith, free r low, h.column_got r low, column_low F P below r, f (Column r))

          grown : (G : Wire → ℕ) → Grew F (Column r) G → Inv G P
          grown G g = record {
            row_sent = λ y inside. omega (arith, rows y, h.row_sent y inside);
            row_got = λ y inside. omega (arith, row_same G F outs y, h.row_got y inside);
            column_sent = λ k inside. elim (g (Column k)) [ inl t ↦ omega (arith, t.1, free k inside) | inr t ↦ omega (arith, t.1, h.column_sent k inside) ];
            column_got = λ k inside. omega (arith, column_same G F outs k, h.column_got k inside);
            one_row = λ y z x t p u. h.one_row y z x t (omega (arith, p, rows y)) (omega (arith, u, rows z));
            one_column = λ k l x t p u. pends k x p ∙ sym (pends l t u);
            meets = λ y k x t p u.
                subst (λ z. Meets s.cross all_places y z) (same ∙ sym (pends k t u))
                (q.meets y (in_range s.rows y x) (omega (arith, p, rows y, outer_row y, a.sent (Row y) refl)));
          }
            where
              outs : (x : ℕ) → G (Out x) ≡ F (Out x)
              outs x = grew_other F (Column r) G g (Out x) (λ e. cc)

              rows : (y : ℕ) → G (Row y) ≡ F (Row y)
              rows y = grew_other F (Column r) G g (Row y) (λ e. cc)

              pends : (k : ℕ) → k < s.cols → column_sum P k < G (Column k) → k ≡ r
              pends k inside p = elim (g (Column k)) [
                | inl t ↦ (let e = t.0 in cc)
                | inr t ↦ absurd (omega (arith, p, t.1, free k inside))
              ]

      -- the environment takes an output
      takes_out : (x : ℕ) → x < length s.cross → F (Out x) ≡ suc (P (Out x)) → Rule 0 c (Out x)
      takes_out x low busy = inr (inr (record {
        crossing = x;
        is = refl;
        among = in_range (length s.cross) x low;
        row = omega (
          arith,
          outer_row (row_at s.cross x),
          sum_less (λ n. P (Out n)) (λ n. F (Out n)) (in_row (row_at s.cross x)) (λ n. below (Out n)) x (row_has x low) (omega (arith, busy)),
          h.row_got (row_at s.cross x) (place_row s x low),
          f (Row (row_at s.cross x)),
          a.sent (Row (row_at s.cross x)) refl,
        );
        column = omega (
          arith,
          outer_column (column_at s.cross x),
          sum_less (λ n. P (Out n)) (λ n. F (Out n)) (in_column (column_at s.cross x)) (λ n. below (Out n)) x (column_has x low) (omega (arith, busy)),
          h.column_got (column_at s.cross x) (place_column s x low),
          f (Column (column_at s.cross x)),
          a.sent (Column (column_at s.cross x)) refl,
        );
      }))

    -- ---- a part

    module _ (i : ℕ) (a : Reads ℕ Wire web (suc i) c F P) where
      inner_row : (y : ℕ) → of_row_line s y ≡ i → of_row s.cross (places_of s i) c y ≡ row_sum F y
      inner_row y at = part_row i y at c F (λ x e. a.sent (Out x) (ap suc e))

      inner_column : (k : ℕ) → of_column_line s k ≡ i → of_column s.cross (places_of s i) c k ≡ column_sum F k
      inner_column k at = part_column i k at c F (λ x e. a.sent (Out x) (ap suc e))

      gives_out : (x : ℕ) → i ≡ of_place s x → CrossOn s.cross (places_of s i) c (Out x) → Sent F P (Out x)
      gives_out x here q = (low, even, grown)
        where
          same : q.crossing ≡ x
          same = let e = q.is in cc

          low : x < length s.cross
          low = (place_in s i x (subst (λ z. Among z (places_of s i)) same q.among)).0

          y : ℕ
          y = row_at s.cross x

          k : ℕ
          k = column_at s.cross x

          row : row_sum F (row_at s.cross x) < P (Row (row_at s.cross x))
          row =
              let less : of_row s.cross (places_of s i) c (row_at s.cross x) < c (Row (row_at s.cross x))
              = subst (λ n. of_row s.cross (places_of s i) c (row_at s.cross n) < c (Row (row_at s.cross n))) same q.row in
              omega (arith, less, inner_row (row_at s.cross x) (sym here), a.got (Row (row_at s.cross x)) (ap suc (sym here)))

          column : column_sum F (column_at s.cross x) < P (Column (column_at s.cross x))
          column =
              let at : of_column_line s (column_at s.cross x) ≡ i = sym (place_agrees s x low) ∙ sym here in
              let less : of_column s.cross (places_of s i) c (column_at s.cross x) < c (Column (column_at s.cross x))
              = subst (λ n. of_column s.cross (places_of s i) c (column_at s.cross n) < c (Column (column_at s.cross n))) same q.column in
              omega (arith, less, inner_column (column_at s.cross x) at, a.got (Column (column_at s.cross x)) (ap suc at))

          even : F (Out x) ≡ P (Out x)
          even =
              let less = sum_even (λ n. P (Out n)) (λ n. F (Out n)) (in_row (row_at s.cross x)) (λ n. below (Out n))
              (omega (arith, row, f (Row (row_at s.cross x)), h.row_sent (row_at s.cross x) (place_row s x low))) x (row_has x low) in
              omega (arith, less, f (Out x))

          grown : (G : Wire → ℕ) → Grew F (Out x) G → Inv G P
          grown G g = record {
            row_sent = λ z inside. omega (arith, rows z, h.row_sent z inside);
            row_got = row_next;
            column_sent = λ l inside. omega (arith, columns l, h.column_sent l inside);
            column_got = column_next;
            one_row = λ z t b d p u. h.one_row z t b d (omega (arith, p, rows z)) (omega (arith, u, rows t));
            one_column = λ l t b d p u. h.one_column l t b d (omega (arith, p, columns l)) (omega (arith, u, columns t));
            meets = λ z l b d p u. h.meets z l b d (omega (arith, p, rows z)) (omega (arith, u, columns l));
          }
            where
              rows : (z : ℕ) → G (Row z) ≡ F (Row z)
              rows z = grew_other F (Out x) G g (Row z) (λ e. cc)

              columns : (l : ℕ) → G (Column l) ≡ F (Column l)
              columns l = grew_other F (Out x) G g (Column l) (λ e. cc)

              others : (n : ℕ) → (n ≡ x → ⊥) → G (Out n) ≡ F (Out n)
              others n d = grew_other F (Out x) G g (Out n) (λ e. d (cc))

              one : G (Out x) ≤ suc (F (Out x))
              one = elim (g (Out x)) [ inl t ↦ omega (arith, t.1) | inr t ↦ omega (arith, t.1) ]

              row_next : (z : ℕ) → z < s.rows → row_sum G z ≤ P (Row z)
              row_next z inside = elim (cases_eq z (row_at s.cross x)) [
                | inl e ↦ omega (
                  arith,
                  sum_next (λ n. F (Out n)) (λ n. G (Out n)) x (in_row (row_at s.cross x)) (row_once (row_at s.cross x)) one others,
                  row,
                  ap (row_sum G) e,
                  ap (λ (n : ℕ). P (Row n)) e,
                )
                | inr d ↦ omega (
                  arith,
                  sum_same (λ n. G (Out n)) (λ n. F (Out n)) (in_row z) (λ n b. others n (λ e. d (sym (row_is z n b) ∙ ap (row_at s.cross) e))),
                  h.row_got z inside,
                )
              ]

              column_next : (l : ℕ) → l < s.cols → column_sum G l ≤ P (Column l)
              column_next l inside = elim (cases_eq l (column_at s.cross x)) [
                | inl e ↦ omega (
                  arith,
                  sum_next (λ n. F (Out n)) (λ n. G (Out n)) x (in_column (column_at s.cross x)) (column_once (column_at s.cross x)) one others,
                  column,
                  ap (column_sum G) e,
                  ap (λ (n : ℕ). P (Column n)) e,
                )
                | inr d ↦ omega (
                  arith,
                  sum_same (λ n. G (Out n)) (λ n. F (Out n)) (in_column l) (λ n b. others n (λ e. d (sym (column_is l n b) ∙ ap (column_at s.cross) e))),
                  h.column_got l inside,
                )
              ]

      pending_row : (r : ℕ) → r < s.rows → F (Row r) ≡ suc (P (Row r)) → row_sum P r < F (Row r)
      pending_row r low busy = omega (arith, busy, h.row_got r low, row_low F P below r)

      pending_column : (k : ℕ) → k < s.cols → F (Column k) ≡ suc (P (Column k)) → column_sum P k < F (Column k)
      pending_column k low busy = omega (arith, busy, h.column_got k low, column_low F P below k)

      -- where a row is on its way to a part, no row is pending there, and it crosses each pending column
      takes_row : (r : ℕ) → r < s.rows → of_row_line s r ≡ i → F (Row r) ≡ suc (P (Row r)) → Rule (suc i) c (Row r)
      takes_row r low here busy = inl (record {
        row = r;
        is = refl;
        among = in_rows s i r low here;
        free = λ y b.
            let (inside, at) = row_in s i y b in
            a.got (Row y) (ap suc at) ∙ free y inside ∙ sym (inner_row y at);
        meets = λ k b p.
            let (inside, at) = column_in s i k b in
            let pends : column_sum F k < P (Column k) = omega (arith, p, inner_column k at, a.got (Column k) (ap suc at)) in
            let (x, m, e, d) = h.meets r k low inside (pending_row r low busy) (omega (arith, pends, column_low F P below k, f (Column k))) in
            (x, in_places s i x (range_in (length s.cross) x m) (ap (of_row_line s) e ∙ here), e, d);
      })
        where
          free : (y : ℕ) → y < s.rows → P (Row y) ≡ row_sum F y
          free y inside = elim (cases_lt (row_sum P y) (F (Row y))) [
            | inl less ↦
                let e : y ≡ r = h.one_row y r inside low less (pending_row r low busy) in
                omega (arith, h.row_got y inside, h.row_sent y inside, row_low F P below y, busy, ap (λ (n : ℕ). F (Row n)) e, ap (λ (n : ℕ). P (Row n)) e)
            | inr more ↦ omega (arith, more, h.row_got y inside, row_low F P below y, f (Row y))
          ]

      takes_column : (r : ℕ) → r < s.cols → of_column_line s r ≡ i → F (Column r) ≡ suc (P (Column r)) → Rule (suc i) c (Column r)
      takes_column r low here busy = inr (inl (record {
        column = r;
        is = refl;
        among = in_columns s i r low here;
        free = λ k b.
            let (inside, at) = column_in s i k b in
            a.got (Column k) (ap suc at) ∙ free k inside ∙ sym (inner_column k at);
        meets = λ y b p.
            let (inside, at) = row_in s i y b in
            let pends : row_sum F y < P (Row y) = omega (arith, p, inner_row y at, a.got (Row y) (ap suc at)) in
            let (x, m, e, d) = h.meets y r inside low (omega (arith, pends, row_low F P below y, f (Row y))) (pending_column r low busy) in
            (x, in_places s i x (range_in (length s.cross) x m) (ap (of_row_line s) e ∙ at), e, d);
      }))
        where
          free : (k : ℕ) → k < s.cols → P (Column k) ≡ column_sum F k
          free k inside = elim (cases_lt (column_sum P k) (F (Column k))) [
            | inl less ↦
                let e : k ≡ r = h.one_column k r inside low less (pending_column r low busy) in
                omega (arith, h.column_got k inside, h.column_sent k inside, column_low F P below k, busy, ap (λ (n : ℕ). F (Column n)) e, ap (λ (n : ℕ). P (Column n)) e)
            | inr more ↦ omega (arith, more, h.column_got k inside, column_low F P below k, f (Column k))
          ]

  -- ---- all moves

  sends : (F P c : Wire → ℕ) (w : Wire) → Flows F P → Inv F P → Reads ℕ Wire web (driver w) c F P → Rule (driver w) c w → Sent F P w
  sends F P c (Row r) f h a (inl q) = gives_row F P c f h a r q
  sends F P c (Row r) f h a (inr (inl q)) = let e = q.is in absurd (cc)
  sends F P c (Row r) f h a (inr (inr q)) = let e = q.is in absurd (cc)
  sends F P c (Column k) f h a (inl q) = let e = q.is in absurd (cc)
  sends F P c (Column k) f h a (inr (inl q)) = gives_column F P c f h a k q
  sends F P c (Column k) f h a (inr (inr q)) = let e = q.is in absurd (cc)
  sends F P c (Out x) f h a (inl q) = let e = q.is in absurd (cc)
  sends F P c (Out x) f h a (inr (inl q)) = let e = q.is in absurd (cc)
  sends F P c (Out x) f h a (inr (inr q)) = gives_out F P c f h (of_place s x) a x refl q

  lands : (F P c : Wire → ℕ) (w : Wire) → Flows F P → Inv F P → Reads ℕ Wire web (receiver w) c F P → There w → F w ≡ suc (P w)
      → Rule (receiver w) c w × ((Q : Wire → ℕ) → Grew P w Q → Inv F Q)
  lands F P c w f h a t e = (takes w a t e, λ Q g. later F P Q (grew_le P w Q g) h)
    where
      takes : (w : Wire) → Reads ℕ Wire web (receiver w) c F P → There w → F w ≡ suc (P w) → Rule (receiver w) c w
      takes (Row r) a t e = takes_row F P c f h (of_row_line s r) a r t refl e
      takes (Column k) a t e = takes_column F P c f h (of_column_line s k) a k t refl e
      takes (Out x) a t e = takes_out F P c f h a x t e

  begins : (F P : Wire → ℕ) → ((w : Wire) → F w ≡ 0) → ((w : Wire) → P w ≡ 0) → Inv F P
  begins F P f p = record {
    row_sent = λ y low. omega (arith, f (Row y));
    row_got = λ y low. omega (arith, sum_zero (λ x. F (Out x)) (in_row y) (λ x. f (Out x)));
    column_sent = λ k low. omega (arith, f (Column k));
    column_got = λ k low. omega (arith, sum_zero (λ x. F (Out x)) (in_column k) (λ x. f (Out x)));
    one_row = λ y z a b u v. absurd (omega (arith, u, f (Row y)));
    one_column = λ k l a b u v. absurd (omega (arith, u, f (Column k)));
    meets = λ y k a b u v. absurd (omega (arith, u, f (Row y)));
  }

  keeps : Keeps ℕ Wire web Rule There Inv
  keeps = record { begins = begins; sends = sends; lands = lands }

  abbrev Always : (Wire → ℕ) → Type 0
  Always e = Unit {0}

  -- the part of an output may give it where the environment may be shown it
  shown : (e c : Wire → ℕ) (x : ℕ) → Reads ℕ Wire web 0 c e e → CrossOn s.cross all_places c (Out x) → (b : Wire → ℕ) → Reads ℕ Wire web (suc (of_place s x)) b e e → Rule (suc (of_place s x)) b (Out x)
  shown e c x a q b z = inr (inr (record {
    crossing = x;
    is = refl;
    among = in_places s (of_place s x) x low refl;
    row =
        let less : row_sum c (row_at s.cross x) < c (Row (row_at s.cross x)) = subst (λ n. row_sum c (row_at s.cross n) < c (Row (row_at s.cross n))) same q.row in
        omega (
          arith,
          less,
          row_same c e (λ n. a.got (Out n) refl) (row_at s.cross x),
          a.sent (Row (row_at s.cross x)) refl,
          z.got (Row (row_at s.cross x)) refl,
          part_row (of_place s x) (row_at s.cross x) refl b e (λ n i. z.sent (Out n) (ap suc i)),
        );
    column =
        let at : of_column_line s (column_at s.cross x) ≡ of_place s x = sym (place_agrees s x low) in
        let less : column_sum c (column_at s.cross x) < c (Column (column_at s.cross x)) = subst (λ n. column_sum c (column_at s.cross n) < c (Column (column_at s.cross n))) same q.column in
        omega (
          arith,
          less,
          column_same c e (λ n. a.got (Out n) refl) (column_at s.cross x),
          a.sent (Column (column_at s.cross x)) refl,
          z.got (Column (column_at s.cross x)) (ap suc at),
          part_column (of_place s x) (column_at s.cross x) at b e (λ n i. z.sent (Out n) (ap suc i)),
        );
  }))
    where
      same : q.crossing ≡ x
      same = let i = q.is in cc

      low : x < length s.cross
      low = range_in (length s.cross) x (subst (λ n. Among n all_places) same q.among)

  draws : (e c : Wire → ℕ) (q : Wire) → Inv e e → Always e → Reads ℕ Wire web 0 c e e → Rule 0 c q → Draws ℕ Wire web Rule Inv Always q e
  draws e c (Row r) h j a t = give refl (λ y g k. tt)
  draws e c (Column l) h j a t = give refl (λ y g k. tt)
  draws e c (Out x) h j a (inl q) = let i = q.is in absurd (cc)
  draws e c (Out x) h j a (inr (inl q)) = let i = q.is in absurd (cc)
  draws e c (Out x) h j a (inr (inr q)) = show refl (shown e c x a q) (λ y g k. tt)

  pub sound : WebSound web
  sound = web_sound ℕ Wire web Rule There Inv lawful counting keeps

  pub exact : WebExact web
  exact = web_exact ℕ Wire web Rule There Inv Always lawful counting keeps tt draws
