-- The DW of one column.
use Rattle.std.proofs.Common.{◌≡◌, ℕ, zero, suc, ◌<◌, List, refl, ap, subst, arith}
use Rattle.basic_kinds.specs.declared.shape.Shape.{Shape}
use Rattle.basic_kinds.specs.declared.kind.Kind.{Kind}
use Rattle.basic_kinds.specs.declared.kind.Kind.TheVariants.{Dw}
use Rattle.basic_kinds.specs.Shapes.{IsShape, IsShape-prop}
use Rattle.basic_kinds.specs.ShapeParts.{one_column}
use Rattle.seq_tree.specs.ColumnShape.{is_column}
use Rattle.seq_tree.specs.SequencerLayer.{column_wait}

pub column_whole : (n : ℕ) → 0 < n → IsShape n 1 (one_column n)
column_whole zero some = absurd (omega arith)
column_whole (suc n) some = is_column n

-- the DW of a column is that of a shape of so many rows and one column
pub column_is : (n : ℕ) → 0 < n → (s : Shape) × (column_wait n ≡ Dw s) × (s.rows ≡ n) × (s.cols ≡ 1) × (s.cross ≡ one_column n)
column_is zero some = absurd (omega arith)
column_is (suc n) some = (record { rows = suc n; cols = 1; cross = one_column (suc n); whole = is_column n }, refl, refl, refl, refl)

same_wait : (rows cols : ℕ) (xs ys : List (ℕ × ℕ)) → xs ≡ ys → (w : IsShape rows cols xs) (v : IsShape rows cols ys)
    → ◌≡◌ {A = Kind} (Dw (record { rows = rows; cols = cols; cross = xs; whole = w })) (Dw (record { rows = rows; cols = cols; cross = ys; whole = v }))
same_wait rows cols xs ys e w =
    subst (λ (zs : List (ℕ × ℕ)). (v : IsShape rows cols zs)
    → ◌≡◌ {A = Kind} (Dw (record { rows = rows; cols = cols; cross = xs; whole = w })) (Dw (record { rows = rows; cols = cols; cross = zs; whole = v }))) e
    (λ v. ap (λ (u : IsShape rows cols xs). Dw (record { rows = rows; cols = cols; cross = xs; whole = u })) (IsShape-prop rows cols xs w v))

pub wait_made : (n : ℕ) (xs : List (ℕ × ℕ)) → 0 < n → xs ≡ one_column n → (w : IsShape n 1 xs)
    → ◌≡◌ {A = Kind} (Dw (record { rows = n; cols = 1; cross = xs; whole = w })) (column_wait n)
wait_made zero xs some e w = absurd (omega arith)
wait_made (suc n) xs some e w = same_wait (suc n) 1 xs (one_column (suc n)) e w (is_column n)
