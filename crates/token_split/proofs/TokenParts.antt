-- A part of the crossings of a network by a token: its kind, and what its traces are.
use Rattle.std.proofs.Common.{◌≡◌, ◌↔◌, inl, inr, ℕ, zero, suc, ◌+◌, ◌<◌, ◌^◌, Bool, true, false, true≢false, nat_lt, ◌&&◌, List, [], ◌∷◌, length, map, get_or, refl, sym, ap, ◌∙◌, subst, arith, lt-ltb}
use Rattle.std.specs.List.{list_all}
use Rattle.std.proofs.lemmas.List.{get_or-map}
use Rattle.cmd_tree.specs.Rounds.{tally, naught, Follows}
use Rattle.basic_kinds.specs.declared.kind.Kind.{Kind}
use Rattle.basic_kinds.specs.declared.kind.Kind.TheVariants as kind
use Rattle.basic_kinds.specs.declared.shape.Shape.{Shape}
use Rattle.basic_kinds.specs.Shapes.{is_rising, is_within, IsShape, IsShape-prop}
use Rattle.basic_kinds.specs.ShapeParts.{has_row, has_column, local_part, local_crossing}
use Rattle.basic_kinds.specs.Sorts.{how_many_below}
use Rattle.basic_kinds.specs.Kinds.{IsWellFormed}
use Rattle.place_graph.specs.declared.wait_graph.Cross.{Cross as Crossing}
use Rattle.net_core.specs.declared.spec.NodeSpec.TheVariants.{Kind as Basic}
use Rattle.net_core.specs.Specs.{May, IsFormed, outs_of, sides}
use Rattle.net_laws.proofs.Among.{Among, Distinct, at_among}
use Rattle.plain_split.proofs.OneWaitChart.{as_long}
use Rattle.plain_split.proofs.OneWaitDrawn.{both_and}
use Rattle.token_split.specs.PartKind.{all_below, is_shape, shape_from, dw_by, dw_of, part_kind}
use Rattle.token_split.specs.TokenChart.{Wire, same_wire, pair}
use Rattle.token_split.proofs.TokenWeb.{MeetOn}
use Rattle.token_split.proofs.TokenMeet.{Shaped, nowhere, meet_ports, dw_may, c_may}

-- ---- what is a shape passes the test

all_below_true : (k : ℕ) (test : ℕ → Bool) → ((i : ℕ) → i < k → test i ≡ true) → all_below k test ≡ true
all_below_true zero test h = refl
all_below_true (suc k) test h = both_and (test k) (all_below k test) (h k (omega arith)) (all_below_true k test (λ i low. h i (omega arith)))

pub is_shape_true : (rows cols : ℕ) (cross : List (ℕ × ℕ)) → IsShape rows cols cross → is_shape rows cols cross ≡ true
is_shape_true rows cols cross w =
    both_and (nat_lt 0 rows) (nat_lt 0 cols && (is_rising cross && (list_all (is_within rows cols) cross && (all_below rows (has_row cross) && all_below cols (has_column cross))))) (lt-ltb 0 rows w.some_row)
    (both_and (nat_lt 0 cols) (is_rising cross && (list_all (is_within rows cols) cross && (all_below rows (has_row cross) && all_below cols (has_column cross)))) (lt-ltb 0 cols w.some_column)
    (both_and (is_rising cross) (list_all (is_within rows cols) cross && (all_below rows (has_row cross) && all_below cols (has_column cross))) w.rising
    (both_and (list_all (is_within rows cols) cross) (all_below rows (has_row cross) && all_below cols (has_column cross)) w.within
    (both_and (all_below rows (has_row cross)) (all_below cols (has_column cross)) (all_below_true rows (has_row cross) w.each_row) (all_below_true cols (has_column cross) w.each_column)))))

abbrev pub shape_of : (rows cols : ℕ) (cross : List (ℕ × ℕ)) → IsShape rows cols cross → Shape
shape_of rows cols cross w = record { rows = rows; cols = cols; cross = cross; whole = w }

-- the DW of a shape
pub dw_is : (rows cols : ℕ) (cross : List (ℕ × ℕ)) (w : IsShape rows cols cross) → dw_of rows cols cross ≡ kind.Dw (shape_of rows cols cross w)
dw_is rows cols cross w = by (is_shape rows cols cross) refl
  where
    by : (b : Bool) (e : is_shape rows cols cross ≡ b) → dw_by rows cols cross b e ≡ kind.Dw (shape_of rows cols cross w)
    by true e = ap (λ v. kind.Dw (shape_of rows cols cross v)) (IsShape-prop rows cols cross (shape_from rows cols cross e) w)
    by false e = absurd (true≢false (sym (is_shape_true rows cols cross w) ∙ e))

-- ---- one part

abbrev pub local_of : List Crossing → List (ℕ × ℕ)
local_of cs = local_part (map pair cs)

-- the crossings of a part with its own rows and columns
pub record IsPart (rows columns : List ℕ) (cs : List Crossing) : Type 0 where
  pub shape : IsShape (length rows) (length columns) (local_of cs)
  pub row_low : (k : Crossing) → Among k cs → how_many_below k.wait (has_row (map pair cs)) < length rows
  pub row_is : (k : Crossing) → Among k cs → get_or rows (how_many_below k.wait (has_row (map pair cs))) 0 ≡ k.wait
  pub column_low : (k : Crossing) → Among k cs → how_many_below k.burst (has_column (map pair cs)) < length columns
  pub column_is : (k : Crossing) → Among k cs → get_or columns (how_many_below k.burst (has_column (map pair cs))) 0 ≡ k.burst
  pub rows_once : Distinct rows
  pub columns_once : Distinct columns
  -- each row and each column is of a crossing
  pub rows_of : (x : ℕ) → Among x rows → (k : Crossing) × Among k cs × (k.wait ≡ x)
  pub columns_of : (b : ℕ) → Among b columns → (k : Crossing) × Among k cs × (k.burst ≡ b)

module _ (rows columns : List ℕ) (cs : List Crossing) (h : IsPart rows columns cs) where
  abbrev shape : Shape
  shape = shape_of (length rows) (length columns) (local_of cs) h.shape

  local_at : (x : ℕ) → x < length cs → get_or (local_of cs) x (0, 0) ≡ local_crossing (map pair cs) (pair (get_or cs x nowhere))
  local_at x low = get_or-map (local_crossing (map pair cs)) (map pair cs) x (0, 0) (0, 0) (omega (arith, low, as_long pair cs))
      ∙ ap (local_crossing (map pair cs)) (get_or-map pair cs x nowhere (0, 0) low)

  pub shaped : Shaped rows columns cs shape
  shaped = record {
    rows_are = refl;
    columns_are = refl;
    crossings_are = as_long (local_crossing (map pair cs)) (map pair cs) ∙ as_long pair cs;
    row_low = λ x low. subst (λ (p : ℕ × ℕ). p.0 < length rows) (sym (local_at x low)) (h.row_low (get_or cs x nowhere) (at_among nowhere cs x low));
    row_is = λ x low. ap (λ (p : ℕ × ℕ). get_or rows p.0 0) (local_at x low) ∙ h.row_is (get_or cs x nowhere) (at_among nowhere cs x low);
    column_low = λ x low. subst (λ (p : ℕ × ℕ). p.1 < length columns) (sym (local_at x low)) (h.column_low (get_or cs x nowhere) (at_among nowhere cs x low));
    column_is = λ x low. ap (λ (p : ℕ × ℕ). get_or columns p.1 0) (local_at x low) ∙ h.column_is (get_or cs x nowhere) (at_among nowhere cs x low);
  }

-- where all are the same, there is one
only_same : (xs : List ℕ) (x : ℕ) → Distinct xs → 0 < length xs → ((y : ℕ) → Among y xs → y ≡ x) → xs ≡ x ∷ []
only_same [] x d some h = absurd (omega arith)
only_same (y ∷ []) x d some h = ap (λ z. z ∷ []) (h y (inl refl))
only_same (y ∷ z ∷ xs) x d some h = absurd (d.0 (inl (h y (inl refl) ∙ sym (h z (inr (inl refl))))))

single : (rows columns : List ℕ) (k : Crossing) → IsPart rows columns (k ∷ []) → (rows ≡ k.wait ∷ []) × (columns ≡ k.burst ∷ [])
single rows columns k h = (
  only_same rows k.wait h.rows_once h.shape.some_row (λ y a. let (n, i, e) = h.rows_of y a in sym e ∙ ap (λ (c : Crossing). c.wait) (same n i)),
  only_same columns k.burst h.columns_once h.shape.some_column (λ y a. let (n, i, e) = h.columns_of y a in sym e ∙ ap (λ (c : Crossing). c.burst) (same n i)),
)
  where
    same : (n : Crossing) → Among n (k ∷ []) → n ≡ k
    same n (inl e) = e
    same n (inr a) = absurd a

-- the kind of the part
abbrev pub kind_of : List ℕ → List ℕ → List Crossing → Kind
kind_of rows columns cs = part_kind (length rows) (length columns) (local_of cs)

pub no_crossing : (rows columns : List ℕ) → IsPart rows columns [] → ⊥
no_crossing rows columns h = true≢false (sym (h.shape.each_row 0 h.shape.some_row))

pub part_may : (rows columns : List ℕ) (cs : List Crossing) (z : Wire) → IsPart rows columns cs → Distinct (meet_ports rows columns cs) → (Among z (meet_ports rows columns cs) → ⊥) → (t : List ℕ)
    → May (Basic (kind_of rows columns cs)) t ↔ Follows (λ v w. MeetOn rows columns cs (tally same_wire naught v) w) [] (map (λ p. get_or (meet_ports rows columns cs) p z) t)
part_may rows columns [] z h once away t = absurd (no_crossing rows columns h)
part_may rows columns (k ∷ []) z h once away t =
    let (r, c) = single rows columns k h in
    let ports : meet_ports rows columns (k ∷ []) ≡ meet_ports (k.wait ∷ []) (k.burst ∷ []) (k ∷ []) = ap (λ rs. meet_ports rs columns (k ∷ [])) r ∙ ap (λ bs. meet_ports (k.wait ∷ []) bs (k ∷ [])) c in
    subst (λ rs. May (Basic (kind.C 2)) t ↔ Follows (λ v w. MeetOn rs columns (k ∷ []) (tally same_wire naught v) w) [] (map (λ p. get_or (meet_ports rs columns (k ∷ [])) p z) t)) (sym r)
    (subst (λ bs. May (Basic (kind.C 2)) t ↔ Follows (λ v w. MeetOn (k.wait ∷ []) bs (k ∷ []) (tally same_wire naught v) w) [] (map (λ p. get_or (meet_ports (k.wait ∷ []) bs (k ∷ [])) p z) t)) (sym c)
    (c_may k z (subst Distinct ports once) (λ a. away (subst (Among z) (sym ports) a)) t))
part_may rows columns (k ∷ n ∷ cs) z h once away t =
    subst (λ q. May (Basic q) t ↔ Follows (λ v w. MeetOn rows columns (k ∷ n ∷ cs) (tally same_wire naught v) w) [] (map (λ p. get_or (meet_ports rows columns (k ∷ n ∷ cs)) p z) t))
    (sym (dw_is (length rows) (length columns) (local_of (k ∷ n ∷ cs)) h.shape))
    (dw_may rows columns (k ∷ n ∷ cs) (shape_of (length rows) (length columns) (local_of (k ∷ n ∷ cs)) h.shape) (shaped rows columns (k ∷ n ∷ cs) h) h.rows_once h.columns_once z once away t)

pub part_formed : (rows columns : List ℕ) (cs : List Crossing) → IsPart rows columns cs → length rows + length columns + length cs < 2 ^ 28 → IsFormed (Basic (kind_of rows columns cs))
part_formed rows columns [] h low = absurd (no_crossing rows columns h)
part_formed rows columns (k ∷ []) h low = record { wide = omega arith; few = omega arith }
part_formed rows columns (k ∷ n ∷ cs) h low = subst IsWellFormed (sym (dw_is (length rows) (length columns) (local_of (k ∷ n ∷ cs)) h.shape))
    (record { wide = tt; few = omega (arith, low, as_long (local_crossing (map pair (k ∷ n ∷ cs))) (map pair (k ∷ n ∷ cs)), as_long pair (k ∷ n ∷ cs)) })

pub part_sides : (rows columns : List ℕ) (cs : List Crossing) → IsPart rows columns cs → outs_of (Basic (kind_of rows columns cs)) ≡ sides (length rows + length columns) (length cs)
part_sides rows columns [] h = absurd (no_crossing rows columns h)
part_sides rows columns (k ∷ []) h =
    let (r, c) = single rows columns k h in
    ap (λ i. sides i 1) (let e : 2 ≡ length rows + length columns = omega (arith, ap (λ (xs : List ℕ). length xs) r, ap (λ (xs : List ℕ). length xs) c) in e)
part_sides rows columns (k ∷ n ∷ cs) h =
    ap (λ q. outs_of (Basic q)) (dw_is (length rows) (length columns) (local_of (k ∷ n ∷ cs)) h.shape)
    ∙ ap (sides (length rows + length columns)) (as_long (local_crossing (map pair (k ∷ n ∷ cs))) (map pair (k ∷ n ∷ cs)) ∙ as_long pair (k ∷ n ∷ cs))
