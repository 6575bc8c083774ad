-- What stands for a connected part of a DW: a C where it has one crossing, else a DW of its own rows and columns.
use Rattle.std.specs.Prelude.{◌≡◌, ◌⊎◌, ℕ, zero, suc, ◌<◌, ◌≤◌, Bool, true, false, nat_lt, ◌&&◌, List, [], ◌∷◌}
use Rattle.std.specs.List.{list_all}
use Rattle.std.proofs.Common.{refl, sym, subst, true≢false, inl, inr, ltb-true}
use Rattle.std.proofs.lemmas.Bool.{cases_lt}
use Rattle.std.proofs.Math.Nat.{le_antisymm, le_of_suc-le-suc, not-suc-le-zero}
use Rattle.basic_kinds.specs.declared.kind.Kind.{Kind}
use Rattle.basic_kinds.specs.declared.kind.Kind.TheVariants as kind
use Rattle.basic_kinds.specs.Shapes.{is_rising, is_within, IsShape}
use Rattle.basic_kinds.specs.ShapeParts.{has_row, has_column}

-- all numbers below k pass the test
abbrev pub all_below : ℕ → (ℕ → Bool) → Bool
all_below zero test = true
all_below (suc k) test = test k && all_below k test

-- each of so many rows and columns has a crossing
abbrev pub has_lines : ℕ → ℕ → List (ℕ × ℕ) → Bool
has_lines rows cols cross = all_below rows (has_row cross) && all_below cols (has_column cross)

-- the crossings rise, lie in range, and meet all lines
abbrev pub is_full : ℕ → ℕ → List (ℕ × ℕ) → Bool
is_full rows cols cross = is_rising cross && (list_all (is_within rows cols) cross && has_lines rows cols cross)

abbrev pub is_shape : ℕ → ℕ → List (ℕ × ℕ) → Bool
is_shape rows cols cross = nat_lt 0 rows && (nat_lt 0 cols && is_full rows cols cross)

and_both : (a b : Bool) → (a && b) ≡ true → (a ≡ true) × (b ≡ true)
and_both true b h = (refl, h)
and_both false b h = absurd (true≢false (sym h))

below : (k : ℕ) (test : ℕ → Bool) → all_below k test ≡ true → (i : ℕ) → i < k → test i ≡ true
below zero test h i low = absurd (not-suc-le-zero low)
below (suc k) test h i low = here (cases_lt i k) (below k test (and_both (test k) (all_below k test) h).1 i)
  where
    here : (i < k) ⊎ (k ≤ i) → (i < k → test i ≡ true) → test i ≡ true
    here (inl less) before = before less
    here (inr last) before =
        subst (λ j. test j ≡ true) (sym (le_antisymm (le_of_suc-le-suc low) last)) (and_both (test k) (all_below k test) h).0

pub shape_from : (rows cols : ℕ) (cross : List (ℕ × ℕ)) → is_shape rows cols cross ≡ true → IsShape rows cols cross
shape_from rows cols cross h =
    let inside : Bool = list_all (is_within rows cols) cross in
    let lines : Bool = has_lines rows cols cross in
    let (a, p) = and_both (nat_lt 0 rows) (nat_lt 0 cols && is_full rows cols cross) h in
    let (b, q) = and_both (nat_lt 0 cols) (is_full rows cols cross) p in
    let (c, r) = and_both (is_rising cross) (inside && lines) q in
    let (d, s) = and_both inside lines r in
    let (e, f) = and_both (all_below rows (has_row cross)) (all_below cols (has_column cross)) s in record {
      some_row = ltb-true 0 rows a;
      some_column = ltb-true 0 cols b;
      rising = c;
      within = d;
      each_row = below rows (has_row cross) e;
      each_column = below cols (has_column cross) f;
    }

-- the DW of the shape that these are; what is no shape has none, and a WIRE stands for it
abbrev pub dw_by : (rows cols : ℕ) (cross : List (ℕ × ℕ)) (b : Bool) → is_shape rows cols cross ≡ b → Kind
dw_by rows cols cross true e =
    kind.Dw (record { rows = rows; cols = cols; cross = cross; whole = shape_from rows cols cross e })
dw_by rows cols cross false e = kind.Wire

abbrev pub dw_of : ℕ → ℕ → List (ℕ × ℕ) → Kind
dw_of rows cols cross = dw_by rows cols cross (is_shape rows cols cross) refl

-- what stands for a part of so many rows and columns
abbrev pub part_kind : ℕ → ℕ → List (ℕ × ℕ) → Kind
part_kind rows cols [] = dw_of rows cols []
part_kind rows cols (p ∷ []) = kind.C 2
part_kind rows cols (p ∷ q ∷ ps) = dw_of rows cols (p ∷ q ∷ ps)
