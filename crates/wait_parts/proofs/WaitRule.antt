-- A DW by its wires: the rows, the columns and the crossings of a list of crossings, these by their places.
use Rattle.std.proofs.Common.{◌≡◌, ◌↔◌, inl, inr, ◌⊎◌, ℕ, zero, suc, ◌+◌, ◌-◌, ◌<◌, Bool, true, false, true≢false, cond, filter, nat_eq, List, [], ◌∷◌, ◌++◌, length, map, get_or, refl, sym, ap, ◌∙◌, subst, arith, if◌then◌else◌, eq-eqb, ne_eqb, length-append}
use Rattle.std.proofs.lemmas.Bool.{cases_eq}
use Rattle.std.proofs.lemmas.List.{get_or_append_left, get_or-append_right, get_or-map, length-map}
use native.Mathlib.Decide.{ℕ_discrete}
use Rattle.cmd_tree.specs.Rounds.{tally, naught, Follows, Rounds}
use Rattle.cmd_tree.proofs.RoundsRule.{follows_by}
use Rattle.cmd_tree.proofs.RoundsPorts.{rounds_ports}
use Rattle.basic_kinds.specs.declared.shape.Shape.{Shape}
use Rattle.basic_kinds.specs.declared.kind.Kind.TheVariants as kind
use Rattle.basic_kinds.specs.Totals.{total}
use Rattle.basic_kinds.specs.KindCounts.{row_of, col_of, row_outs, col_outs, Crosses, RowMay, ColMay, OutMay}
use Rattle.net_core.specs.declared.spec.NodeSpec.TheVariants.{Kind as Basic}
use Rattle.net_core.specs.Specs.{May}
use Rattle.net_laws.proofs.Among.{Among, Distinct, among_at, at_among, distinct_at}
use Rattle.net_laws.proofs.Rules.{RoundsOn, rounds_spec}
use Rattle.net_laws.proofs.KindRules.{KindOn, kind_spec}
use Rattle.net_laws.proofs.Webs.{Decides, test, test_decides}

pub data Wire : Type 0 where
  Row : ℕ → Wire
  Column : ℕ → Wire
  -- the output of the crossing at a place
  Out : ℕ → Wire
  deriving Discrete as wire_discrete

abbrev pub same_wire : Wire → Wire → Bool
same_wire = test (wire_discrete ℕ_discrete)

pub wires_decide : Decides same_wire
wires_decide = test_decides (wire_discrete ℕ_discrete)

abbrev pub sum_of : {A : Type 0} → (A → ℕ) → List A → ℕ
sum_of f [] = 0
sum_of f (x ∷ xs) = f x + sum_of f xs

total_first : (n : ℕ) (u : ℕ → ℕ) → total (suc n) u ≡ u 0 + total n (λ i. u (suc i))
unfolding total
total_first zero u = omega arith
total_first (suc n) u = omega (arith, total_first n u)

total_empty : (u : ℕ → ℕ) → total 0 u ≡ 0
unfolding total
total_empty u = refl

-- a sum over places is the sum over a list
total_filter : {A : Type 0} (z : A) (xs : List A) (test : A → Bool) (f : A → ℕ) (b : ℕ → Bool) (u : ℕ → ℕ)
    → ((i : ℕ) → i < length xs → (b i ≡ test (get_or xs i z)) × (u i ≡ f (get_or xs i z))) → total (length xs) (λ i. if b i then u i else 0) ≡ sum_of f (filter test xs)
total_filter z [] test f b u h = total_empty (λ i. if b i then u i else 0)
total_filter {A = A} z (x ∷ xs) test f b u h = total_first (length xs) (λ i. if b i then u i else 0)
    ∙ at (b 0) (test x) (h 0 (omega arith)) (total_filter z xs test f (λ i. b (suc i)) (λ i. u (suc i)) (λ i low. h (suc i) (omega arith)))
  where
    at : (p q : Bool) → (p ≡ q) × (u 0 ≡ f x) → total (length xs) (λ i. if b (suc i) then u (suc i) else 0) ≡ sum_of f (filter test xs)
        → (if p then u 0 else 0) + total (length xs) (λ i. if b (suc i) then u (suc i) else 0) ≡ sum_of f (cond q (x ∷ filter test xs) (filter test xs))
    at true true e r = omega (arith, e.1, r)
    at true false e r = absurd (true≢false e.0)
    at false true e r = absurd (true≢false (sym e.0))
    at false false e r = omega (arith, r)

pub join_traces : (n : ℕ) → 0 < n → (t : List ℕ) → May (Basic (kind.C n)) t ↔ Rounds n 1 t
unfolding May
join_traces n some t = rounds_ports n 1 some (omega arith) t

module _ (cross : List (ℕ × ℕ)) where
  abbrev pub row_at : ℕ → ℕ
  row_at x = (get_or cross x (0, 0)).0

  abbrev pub column_at : ℕ → ℕ
  column_at x = (get_or cross x (0, 0)).1

  -- how often the crossings of a row came, and those of a column
  abbrev pub of_row : List ℕ → (Wire → ℕ) → ℕ → ℕ
  of_row cs c x = sum_of (λ k. c (Out k)) (filter (λ k. nat_eq (row_at k) x) cs)

  abbrev pub of_column : List ℕ → (Wire → ℕ) → ℕ → ℕ
  of_column cs c b = sum_of (λ k. c (Out k)) (filter (λ k. nat_eq (column_at k) b) cs)

  abbrev pub Meets : List ℕ → ℕ → ℕ → Type 0
  Meets cs x b = (k : ℕ) × Among k cs × (row_at k ≡ x) × (column_at k ≡ b)

  -- a row may come where no row is pending, and it crosses each pending column
  pub record RowOn (rows columns : List ℕ) (cs : List ℕ) (c : Wire → ℕ) (w : Wire) : Type 0 where
    pub row : ℕ
    pub is : w ≡ Row row
    pub among : Among row rows
    pub free : (y : ℕ) → Among y rows → c (Row y) ≡ of_row cs c y
    pub meets : (b : ℕ) → Among b columns → of_column cs c b < c (Column b) → Meets cs row b

  -- and so may a column
  pub record ColumnOn (rows columns : List ℕ) (cs : List ℕ) (c : Wire → ℕ) (w : Wire) : Type 0 where
    pub column : ℕ
    pub is : w ≡ Column column
    pub among : Among column columns
    pub free : (b : ℕ) → Among b columns → c (Column b) ≡ of_column cs c b
    pub meets : (y : ℕ) → Among y rows → of_row cs c y < c (Row y) → Meets cs y column

  -- a crossing may come where its row and its column are pending
  pub record CrossOn (cs : List ℕ) (c : Wire → ℕ) (w : Wire) : Type 0 where
    pub crossing : ℕ
    pub is : w ≡ Out crossing
    pub among : Among crossing cs
    pub row : of_row cs c (row_at crossing) < c (Row (row_at crossing))
    pub column : of_column cs c (column_at crossing) < c (Column (column_at crossing))

  abbrev pub MeetOn : List ℕ → List ℕ → List ℕ → (Wire → ℕ) → Wire → Type 0
  MeetOn rows columns cs c w = RowOn rows columns cs c w ⊎ (ColumnOn rows columns cs c w ⊎ CrossOn cs c w)

  -- ---- a DW

  -- The shape has these rows and columns, and these crossings in this order.
  pub record Shaped (rows columns : List ℕ) (cs : List ℕ) (s : Shape) : Type 0 where
    pub rows_are : s.rows ≡ length rows
    pub columns_are : s.cols ≡ length columns
    pub crossings_are : length s.cross ≡ length cs
    pub row_low : (x : ℕ) → x < length cs → row_of s x < length rows
    pub row_is : (x : ℕ) → x < length cs → get_or rows (row_of s x) 0 ≡ row_at (get_or cs x 0)
    pub column_low : (x : ℕ) → x < length cs → col_of s x < length columns
    pub column_is : (x : ℕ) → x < length cs → get_or columns (col_of s x) 0 ≡ column_at (get_or cs x 0)

  abbrev pub meet_ports : List ℕ → List ℕ → List ℕ → List Wire
  meet_ports rows columns cs = (map Row rows ++ map Column columns) ++ map Out cs

  module _ (rows columns : List ℕ) (cs : List ℕ) (s : Shape) (h : Shaped rows columns cs s) (rows_once : Distinct rows) (columns_once : Distinct columns) (z : Wire) where
    abbrev ins : List Wire
    ins = map Row rows ++ map Column columns

    abbrev port : ℕ → Wire
    port p = get_or (meet_ports rows columns cs) p z

    ins_long : length ins ≡ length rows + length columns
    ins_long = length-append (map Row rows) (map Column columns) ∙ omega (arith, length-map rows Row, length-map columns Column)

    all_long : length (meet_ports rows columns cs) ≡ length rows + length columns + length cs
    all_long = length-append ins (map Out cs) ∙ omega (arith, ins_long, length-map cs Out)

    port_row : (i : ℕ) → i < length rows → port i ≡ Row (get_or rows i 0)
    port_row i low = get_or_append_left ins (map Out cs) z i (omega (arith, ins_long))
        ∙ get_or_append_left (map Row rows) (map Column columns) z i (omega (arith, length-map rows Row))
        ∙ get_or-map Row rows i 0 z low

    port_column : (j : ℕ) → j < length columns → port (s.rows + j) ≡ Column (get_or columns j 0)
    port_column j low = get_or_append_left ins (map Out cs) z (s.rows + j) (omega (arith, ins_long, h.rows_are))
        ∙ get_or-append_right (map Row rows) (map Column columns) (length rows) (s.rows + j) z (length-map rows Row) (omega (arith, h.rows_are))
        ∙ ap (λ k. get_or (map Column columns) k z) (let e : s.rows + j - length rows ≡ j = omega (arith, h.rows_are) in e)
        ∙ get_or-map Column columns j 0 z low

    port_cross : (x : ℕ) → x < length cs → port (s.rows + s.cols + x) ≡ Out (get_or cs x 0)
    port_cross x low = get_or-append_right ins (map Out cs) (length rows + length columns) (s.rows + s.cols + x) z ins_long (omega (arith, h.rows_are, h.columns_are))
        ∙ ap (λ k. get_or (map Out cs) k z) (let e : s.rows + s.cols + x - (length rows + length columns) ≡ x = omega (arith, h.rows_are, h.columns_are) in e)
        ∙ get_or-map Out cs x 0 z low

    module _ (e : Wire → ℕ) where
      abbrev c : ℕ → ℕ
      c p = e (port p)

      -- the crossing x is in the row i
      in_row : (i x : ℕ) → i < length rows → x < length cs → nat_eq (row_of s x) i ≡ nat_eq (row_at (get_or cs x 0)) (get_or rows i 0)
      in_row i x low less = elim (cases_eq (row_of s x) i) [
        | inl p ↦ eq-eqb (row_of s x) i p ∙ sym (eq-eqb (row_at (get_or cs x 0)) (get_or rows i 0) (sym (h.row_is x less) ∙ ap (λ k. get_or rows k 0) p))
        | inr p ↦ ne_eqb (row_of s x) i p ∙ sym (ne_eqb (row_at (get_or cs x 0)) (get_or rows i 0)
            (λ q. p (distinct_at 0 rows rows_once (row_of s x) i (h.row_low x less) low (h.row_is x less ∙ q))))
      ]

      in_column : (j x : ℕ) → j < length columns → x < length cs → nat_eq (col_of s x) j ≡ nat_eq (column_at (get_or cs x 0)) (get_or columns j 0)
      in_column j x low less = elim (cases_eq (col_of s x) j) [
        | inl p ↦ eq-eqb (col_of s x) j p ∙ sym (eq-eqb (column_at (get_or cs x 0)) (get_or columns j 0) (sym (h.column_is x less) ∙ ap (λ k. get_or columns k 0) p))
        | inr p ↦ ne_eqb (col_of s x) j p ∙ sym (ne_eqb (column_at (get_or cs x 0)) (get_or columns j 0)
            (λ q. p (distinct_at 0 columns columns_once (col_of s x) j (h.column_low x less) low (h.column_is x less ∙ q))))
      ]

      row_total : (i : ℕ) → i < length rows → row_outs s c i ≡ of_row cs e (get_or rows i 0)
      row_total i low = ap (λ k. total k (λ x. if nat_eq (row_of s x) i then c (s.rows + s.cols + x) else 0)) h.crossings_are
          ∙ total_filter 0 cs (λ k. nat_eq (row_at k) (get_or rows i 0)) (λ k. e (Out k)) (λ x. nat_eq (row_of s x) i) (λ x. c (s.rows + s.cols + x))
          (λ x less. (in_row i x low less, ap e (port_cross x less)))

      column_total : (j : ℕ) → j < length columns → col_outs s c j ≡ of_column cs e (get_or columns j 0)
      column_total j low = ap (λ k. total k (λ x. if nat_eq (col_of s x) j then c (s.rows + s.cols + x) else 0)) h.crossings_are
          ∙ total_filter 0 cs (λ k. nat_eq (column_at k) (get_or columns j 0)) (λ k. e (Out k)) (λ x. nat_eq (col_of s x) j) (λ x. c (s.rows + s.cols + x))
          (λ x less. (in_column j x low less, ap e (port_cross x less)))

      row_count : (i : ℕ) → i < length rows → c i ≡ e (Row (get_or rows i 0))
      row_count i low = ap e (port_row i low)

      column_count : (j : ℕ) → j < length columns → c (s.rows + j) ≡ e (Column (get_or columns j 0))
      column_count j low = ap e (port_column j low)

      -- a row and a column have a crossing by number where they have one
      meets_there : (i j : ℕ) → i < length rows → j < length columns → Crosses s i j → Meets cs (get_or rows i 0) (get_or columns j 0)
      meets_there i j low less (x, in_, r, k) =
          let there : x < length cs = omega (arith, in_, h.crossings_are) in
          (get_or cs x 0, at_among 0 cs x there, sym (h.row_is x there) ∙ ap (λ n. get_or rows n 0) r, sym (h.column_is x there) ∙ ap (λ n. get_or columns n 0) k)

      meets_back : (i j : ℕ) → i < length rows → j < length columns → Meets cs (get_or rows i 0) (get_or columns j 0) → Crosses s i j
      meets_back i j low less (k, a, r, b) =
          let (x, there, is) = among_at 0 k cs a in (
            x,
            omega (arith, there, h.crossings_are),
            distinct_at 0 rows rows_once (row_of s x) i (h.row_low x there) low (h.row_is x there ∙ ap (row_at) is ∙ r),
            distinct_at 0 columns columns_once (col_of s x) j (h.column_low x there) less (h.column_is x there ∙ ap (column_at) is ∙ b),
          )

      abbrev On : Wire → Type 0
      On w = MeetOn rows columns cs e w

      there : (p : ℕ) → RowMay s c p → RowOn rows columns cs e (port p)
      there p r =
          let low : p < length rows = omega (arith, r.row, h.rows_are) in record {
            row = get_or rows p 0;
            is = port_row p low;
            among = at_among 0 rows p low;
            free = λ y a.
                let (i, less, is) = among_at 0 y rows a in
                subst (λ y. e (Row y) ≡ of_row cs e y) is (sym (row_count i less) ∙ r.free i (omega (arith, less, h.rows_are)) ∙ row_total i less);
            meets = λ b a pends.
                let (j, less, is) = among_at 0 b columns a in
                subst (λ b. Meets cs (get_or rows p 0) b) is
                (meets_there p j low less (r.meets j (omega (arith, less, h.columns_are))
                (omega (arith, column_total j less, column_count j less, subst (λ b. of_column cs e b < e (Column b)) (sym is) pends))));
          }

      there_column : (p : ℕ) → ColMay s c p → ColumnOn rows columns cs e (port p)
      there_column p r =
          let low : r.col < length columns = omega (arith, r.within, h.columns_are) in record {
            column = get_or columns r.col 0;
            is = ap port r.port ∙ port_column r.col low;
            among = at_among 0 columns r.col low;
            free = λ b a.
                let (j, less, is) = among_at 0 b columns a in
                subst (λ b. e (Column b) ≡ of_column cs e b) is (sym (column_count j less) ∙ r.free j (omega (arith, less, h.columns_are)) ∙ column_total j less);
            meets = λ y a pends.
                let (i, less, is) = among_at 0 y rows a in
                subst (λ y. Meets cs y (get_or columns r.col 0)) is
                (meets_there i r.col less low (r.meets i (omega (arith, less, h.rows_are))
                (omega (arith, row_total i less, row_count i less, subst (λ y. of_row cs e y < e (Row y)) (sym is) pends))));
          }

      there_cross : (p : ℕ) → OutMay s c p → CrossOn cs e (port p)
      there_cross p r =
          let x : ℕ = r.crossing in
          let low : x < length cs = omega (arith, r.within, h.crossings_are) in record {
            crossing = get_or cs x 0;
            is = ap port r.port ∙ port_cross x low;
            among = at_among 0 cs x low;
            row = subst (λ y. of_row cs e y < e (Row y)) (h.row_is x low)
                (let less : row_outs s c (row_of s x) < c (row_of s x) = r.row in omega (arith, less, row_total (row_of s x) (h.row_low x low), row_count (row_of s x) (h.row_low x low)));
            column = subst (λ b. of_column cs e b < e (Column b)) (h.column_is x low)
                (let less : col_outs s c (col_of s x) < c (s.rows + col_of s x) = r.col in omega (arith, less, column_total (col_of s x) (h.column_low x low), column_count (col_of s x) (h.column_low x low)));
          }

      dw_on : (w : Wire) → KindOn (kind.Dw s) (meet_ports rows columns cs) z e w ↔ On w
      dw_on w = (forth, back)
        where
          forth : KindOn (kind.Dw s) (meet_ports rows columns cs) z e w → On w
          forth (p, low, is, inl r) = inl (subst (λ v. RowOn rows columns cs e v) (sym is) (there p r))
          forth (p, low, is, inr (inl r)) = inr (inl (subst (λ v. ColumnOn rows columns cs e v) (sym is) (there_column p r)))
          forth (p, low, is, inr (inr r)) = inr (inr (subst (λ v. CrossOn cs e v) (sym is) (there_cross p r)))

          back : On w → KindOn (kind.Dw s) (meet_ports rows columns cs) z e w
          back (inl r) =
              let (i, low, at) = among_at 0 r.row rows r.among in (
                i,
                omega (arith, low, all_long),
                r.is ∙ ap Row (sym at) ∙ sym (port_row i low),
                inl (record {
                  row = omega (arith, low, h.rows_are);
                  free = λ k less.
                      let there : k < length rows = omega (arith, less, h.rows_are) in
                      row_count k there ∙ r.free (get_or rows k 0) (at_among 0 rows k there) ∙ sym (row_total k there);
                  meets = λ j less pends.
                      let there : j < length columns = omega (arith, less, h.columns_are) in
                      meets_back i j low there (subst (λ y. Meets cs y (get_or columns j 0)) (sym at) (r.meets (get_or columns j 0) (at_among 0 columns j there)
                      (let p : col_outs s c j < c (s.rows + j) = pends in omega (arith, p, column_total j there, column_count j there))));
                }),
              )
          back (inr (inl r)) =
              let (j, low, at) = among_at 0 r.column columns r.among in (
                s.rows + j,
                omega (arith, low, all_long, h.rows_are),
                r.is ∙ ap Column (sym at) ∙ sym (port_column j low),
                inr (inl (record {
                  col = j;
                  port = refl;
                  within = omega (arith, low, h.columns_are);
                  free = λ k less.
                      let there : k < length columns = omega (arith, less, h.columns_are) in
                      column_count k there ∙ r.free (get_or columns k 0) (at_among 0 columns k there) ∙ sym (column_total k there);
                  meets = λ i less pends.
                      let there : i < length rows = omega (arith, less, h.rows_are) in
                      meets_back i j there low (subst (λ b. Meets cs (get_or rows i 0) b) (sym at) (r.meets (get_or rows i 0) (at_among 0 rows i there)
                      (let p : row_outs s c i < c i = pends in omega (arith, p, row_total i there, row_count i there))));
                })),
              )
          back (inr (inr r)) =
              let (x, low, at) = among_at 0 r.crossing cs r.among in (
                s.rows + s.cols + x,
                omega (arith, low, all_long, h.rows_are, h.columns_are),
                r.is ∙ ap Out (sym at) ∙ sym (port_cross x low),
                inr (inr (record {
                  crossing = x;
                  port = refl;
                  within = omega (arith, low, h.crossings_are);
                  row =
                      let less : of_row cs e (get_or rows (row_of s x) 0) < e (Row (get_or rows (row_of s x) 0))
                      = subst (λ y. of_row cs e y < e (Row y)) (sym (h.row_is x low ∙ ap (row_at) at)) r.row in
                      let p : row_outs s c (row_of s x) < c (row_of s x) = omega (arith, less, row_total (row_of s x) (h.row_low x low), row_count (row_of s x) (h.row_low x low)) in p;
                  col =
                      let less : of_column cs e (get_or columns (col_of s x) 0) < e (Column (get_or columns (col_of s x) 0))
                      = subst (λ b. of_column cs e b < e (Column b)) (sym (h.column_is x low ∙ ap (column_at) at)) r.column in
                      let p : col_outs s c (col_of s x) < c (s.rows + col_of s x) = omega (arith, less, column_total (col_of s x) (h.column_low x low), column_count (col_of s x) (h.column_low x low)) in p;
                })),
              )

    pub dw_may : Distinct (meet_ports rows columns cs) → (Among z (meet_ports rows columns cs) → ⊥) → (t : List ℕ) → May (Basic (kind.Dw s)) t
        ↔ Follows (λ v w. MeetOn rows columns cs (tally same_wire naught v) w) [] (map (λ p. get_or (meet_ports rows columns cs) p z) t)
    dw_may once away t =
        let both = kind_spec same_wire wires_decide (meet_ports rows columns cs) once z away (kind.Dw s) tt (omega (arith, all_long, h.rows_are, h.columns_are, h.crossings_are)) t in (
          (λ a. follows_by (λ v w. KindOn (kind.Dw s) (meet_ports rows columns cs) z (tally same_wire naught v) w) (λ v w. MeetOn rows columns cs (tally same_wire naught v) w)
              (λ v w. (dw_on (tally same_wire naught v) w).0) [] (map (λ p. get_or (meet_ports rows columns cs) p z) t) (both.0 a)),
          (λ a. both.1 (follows_by (λ v w. MeetOn rows columns cs (tally same_wire naught v) w) (λ v w. KindOn (kind.Dw s) (meet_ports rows columns cs) z (tally same_wire naught v) w)
              (λ v w. (dw_on (tally same_wire naught v) w).1) [] (map (λ p. get_or (meet_ports rows columns cs) p z) t) a)),
        )

  -- ---- a C

  one_total : (test : ℕ → Bool) (f : ℕ → ℕ) (k : ℕ) → test k ≡ true → sum_of f (filter test (k ∷ [])) ≡ f k
  one_total test f k e = at (test k) e
    where
      at : (b : Bool) → b ≡ true → sum_of f (cond b (k ∷ []) []) ≡ f k
      at true x = omega arith
      at false x = absurd (true≢false (sym x))

  module _ (k : ℕ) (e : Wire → ℕ) where
    abbrev cs : List ℕ
    cs = k ∷ []

    row_one : of_row cs e (row_at k) ≡ e (Out k)
    row_one = one_total (λ n. nat_eq (row_at n) (row_at k)) (λ n. e (Out n)) k (eq-eqb (row_at k) (row_at k) refl)

    column_one : of_column cs e (column_at k) ≡ e (Out k)
    column_one = one_total (λ n. nat_eq (column_at n) (column_at k)) (λ n. e (Out n)) k (eq-eqb (column_at k) (column_at k) refl)

    c_on : (w : Wire) → MeetOn (row_at k ∷ []) (column_at k ∷ []) cs e w ↔ RoundsOn (Row (row_at k) ∷ Column (column_at k) ∷ []) (Out k ∷ []) e w
    c_on w = (there, back)
      where
        there : MeetOn (row_at k ∷ []) (column_at k ∷ []) cs e w → RoundsOn (Row (row_at k) ∷ Column (column_at k) ∷ []) (Out k ∷ []) e w
        there (inl r) = inl (inl is, (ap e is ∙ r.free (row_at k) (inl refl) ∙ row_one, tt))
          where
            is : w ≡ Row (row_at k)
            is = elim r.among [ inl q ↦ r.is ∙ ap Row q | inr q ↦ absurd q ]
        there (inr (inl r)) = inl (inr (inl is), (ap e is ∙ r.free (column_at k) (inl refl) ∙ column_one, tt))
          where
            is : w ≡ Column (column_at k)
            is = elim r.among [ inl q ↦ r.is ∙ ap Column q | inr q ↦ absurd q ]
        there (inr (inr r)) = elim r.among [
          | inl q ↦
              let is : w ≡ Out k = r.is ∙ ap Out q in
              let row : of_row cs e (row_at k) < e (Row (row_at k)) = subst (λ (n : ℕ). of_row cs e (row_at n) < e (Row (row_at n))) q r.row in
              let column : of_column cs e (column_at k) < e (Column (column_at k)) = subst (λ (n : ℕ). of_column cs e (column_at n) < e (Column (column_at n))) q r.column in
              inr (inl is, (omega (arith, row, row_one, ap e is), (omega (arith, column, column_one, ap e is), tt)))
          | inr q ↦ absurd q
        ]

        back : RoundsOn (Row (row_at k) ∷ Column (column_at k) ∷ []) (Out k ∷ []) e w → MeetOn (row_at k ∷ []) (column_at k ∷ []) cs e w
        back (inl (inl is, all)) = inl (record {
          row = row_at k;
          is = is;
          among = inl refl;
          free = λ y a. elim a [ inl q ↦ subst (λ y. e (Row y) ≡ of_row cs e y) (sym q) (ap e (sym is) ∙ all.0 ∙ sym row_one) | inr q ↦ absurd q ];
          meets = λ b a pends. elim a [ inl q ↦ (k, inl refl, refl, sym q) | inr q ↦ absurd q ];
        })
        back (inl (inr (inl is), all)) = inr (inl (record {
          column = column_at k;
          is = is;
          among = inl refl;
          free = λ b a. elim a [ inl q ↦ subst (λ b. e (Column b) ≡ of_column cs e b) (sym q) (ap e (sym is) ∙ all.0 ∙ sym column_one) | inr q ↦ absurd q ];
          meets = λ y a pends. elim a [ inl q ↦ (k, inl refl, sym q, refl) | inr q ↦ absurd q ];
        }))
        back (inl (inr (inr a), all)) = absurd a
        back (inr (inl is, all)) = inr (inr (record {
          crossing = k;
          is = is;
          among = inl refl;
          row = omega (arith, all.0, row_one, ap e is);
          column = omega (arith, all.1.0, column_one, ap e is);
        }))
        back (inr (inr a, all)) = absurd a

  pub c_may : (k : ℕ) (z : Wire) → Distinct (Row (row_at k) ∷ Column (column_at k) ∷ Out k ∷ []) → (Among z (Row (row_at k) ∷ Column (column_at k) ∷ Out k ∷ []) → ⊥) → (t : List ℕ)
      → May (Basic (kind.C 2)) t ↔ Follows (λ v w. MeetOn (row_at k ∷ []) (column_at k ∷ []) (k ∷ []) (tally same_wire naught v) w) [] (map (λ p. get_or (Row (row_at k) ∷ Column (column_at k) ∷ Out k ∷ []) p z) t)
  c_may k z once away t =
      let both = rounds_spec same_wire wires_decide (Row (row_at k) ∷ Column (column_at k) ∷ []) (Out k ∷ []) z 2 1 refl refl once
      (λ e w. MeetOn (row_at k ∷ []) (column_at k ∷ []) (k ∷ []) e w) (λ e r. away (at e ((c_on k e z).0 r))) (λ e w. c_on k e w) t in
      ((λ h. both.0 ((join_traces 2 (omega arith) t).0 h)), (λ h. (join_traces 2 (omega arith) t).1 (both.1 h)))
    where
      at : (e : Wire → ℕ) → RoundsOn (Row (row_at k) ∷ Column (column_at k) ∷ []) (Out k ∷ []) e z → Among z (Row (row_at k) ∷ Column (column_at k) ∷ Out k ∷ [])
      at e (inl (inl q, r)) = inl q
      at e (inl (inr (inl q), r)) = inr (inl q)
      at e (inl (inr (inr q), r)) = absurd q
      at e (inr (inl q, r)) = inr (inr (inl q))
      at e (inr (inr q, r)) = absurd q
