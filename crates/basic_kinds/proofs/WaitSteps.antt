-- The machine of a decision wait: which port may come, and its state after it.
use Rattle.std.proofs.Common.{◌≡◌, ◌↔◌, inl, inr, ℕ, ◌+◌, ◌-◌, ◌<◌, ◌≤◌, Bool, length, IsTrue, Some, None, refl, sym, ap, subst, arith}
use Rattle.std.specs.Prelude.{Option}
use Rattle.cmd_tree.proofs.Phases.{Grew}
use Rattle.basic_kinds.specs.declared.shape.Shape.{Shape}
use Rattle.basic_kinds.specs.declared.kind.Kind.TheVariants.{Dw}
use Rattle.basic_kinds.specs.KindCounts.{Crosses, row_of, col_of, row_outs, col_outs, RowMay, ColMay, KindAt}
use Rattle.basic_kinds.specs.Mirror.Sides.{Ahead}
use Rattle.basic_kinds.specs.Mirror.Machines.{Pends}
use Rattle.basic_kinds.proofs.Sides.{Same, even_same, ahead_same, even_enters, ahead_leaves, even_lags, ahead_lags, ahead_only}
use Rattle.basic_kinds.proofs.Crossings.{row_within, col_within}
use Rattle.basic_kinds.proofs.DwKind.{cols_in, row_enters, cols_stay, col_enters, rows_stay, row_leaves, col_leaves}

-- ---- the side that is pending

pends_same : (o : Option ℕ) (n : ℕ) (f g h k : ℕ → ℕ) → Same n f g h k → Pends o n f g → Pends o n h k
pends_same None n f g h k s p = even_same n f g h k s p
pends_same (Some i) n f g h k s p = ahead_same n f g h k i s p

-- one that lags is the one that is pending
pends_is : (o : Option ℕ) (n : ℕ) (f g : ℕ → ℕ) (i : ℕ) → Pends o n f g → i < n → g i < f i → o ≡ Some i
pends_is None n f g i p l h = absurd (even_lags n f g i l p h)
pends_is (Some k) n f g i p l h = ap Some (sym (ahead_only n f g i k p l h))

pends_ahead : (o : Option ℕ) (n : ℕ) (f g : ℕ → ℕ) (i : ℕ) → Pends o n f g → i < n → g i < f i → Ahead n f g i
pends_ahead o n f g i p l h = subst (λ q. Pends q n f g) (pends_is o n f g i p l h) p

pends_lags : (o : Option ℕ) (n : ℕ) (f g : ℕ → ℕ) (i : ℕ) → o ≡ Some i → Pends o n f g → g i < f i
pends_lags o n f g i e p = ahead_lags n f g i (subst (λ q. Pends q n f g) e p)

module _ (s : Shape) (row col : Option ℕ) (c : ℕ → ℕ) (p : ℕ)
    (rp : Pends row s.rows c (row_outs s c)) (cp : Pends col s.cols (cols_in s c) (col_outs s c)) where
  -- ---- which port may come

  -- a row, where none is pending and the column that is, if any, crosses it
  pub row_may : p < s.rows → row ≡ None → (meets : Bool) → (col ≡ None → IsTrue meets)
      → ((j : ℕ) → col ≡ Some j → IsTrue meets ↔ Crosses s p j) → IsTrue meets ↔ KindAt (Dw s) c p
  row_may l e meets none some = (
    λ h. inl (record {
      row = l;
      free = subst (λ o. Pends o s.rows c (row_outs s c)) e rp;
      meets = λ j m lags. (some j (pends_is col s.cols (cols_in s c) (col_outs s c) j cp m lags)).0 h;
    }),
    back,
  )
    where
      crossing : RowMay s c p → (o : Option ℕ) → col ≡ o → IsTrue meets
      crossing h None q = none q
      crossing h (Some j) q =
          let a = subst (λ o. Pends o s.cols (cols_in s c) (col_outs s c)) q cp in
          (some j q).1 (h.meets j a.within (ahead_lags s.cols (cols_in s c) (col_outs s c) j a))

      back : KindAt (Dw s) c p → IsTrue meets
      back (inl h) = crossing h col refl
      back (inr (inl h)) = absurd (omega (arith, l, h.port))
      back (inr (inr h)) = absurd (omega (arith, l, h.port))

  -- a column likewise
  pub col_may : s.rows ≤ p → p - s.rows < s.cols → col ≡ None → (meets : Bool) → (row ≡ None → IsTrue meets)
      → ((i : ℕ) → row ≡ Some i → IsTrue meets ↔ Crosses s i (p - s.rows)) → IsTrue meets ↔ KindAt (Dw s) c p
  col_may low l e meets none some = (
    λ h. inr (inl (record {
      col = p - s.rows;
      port = omega arith;
      within = l;
      free = subst (λ o. Pends o s.cols (cols_in s c) (col_outs s c)) e cp;
      meets = λ i m lags. (some i (pends_is row s.rows c (row_outs s c) i rp m lags)).0 h;
    })),
    back,
  )
    where
      crossing : (h : ColMay s c p) → (o : Option ℕ) → row ≡ o → IsTrue meets
      crossing h None q = none q
      crossing h (Some i) q =
          let a = subst (λ o. Pends o s.rows c (row_outs s c)) q rp in
          (some i q).1 (subst (λ j. Crosses s i j) (omega (arith, h.port))
          (h.meets i a.within (ahead_lags s.rows c (row_outs s c) i a)))

      back : KindAt (Dw s) c p → IsTrue meets
      back (inl h) = absurd (omega (arith, low, h.row))
      back (inr (inl h)) = crossing h row refl
      back (inr (inr h)) = absurd (omega (arith, low, l, h.port))

  -- an output, where its row and its column are pending
  pub out_may : s.rows ≤ p → s.cols ≤ p - s.rows
      → ((p - s.rows - s.cols < length s.cross) × (row ≡ Some (row_of s (p - s.rows - s.cols)))
      × (col ≡ Some (col_of s (p - s.rows - s.cols)))) ↔ KindAt (Dw s) c p
  out_may low l = (
    λ h. inr (inr (record {
      crossing = p - s.rows - s.cols;
      port = omega arith;
      within = h.0;
      row = pends_lags row s.rows c (row_outs s c) (row_of s (p - s.rows - s.cols)) h.1 rp;
      col = pends_lags col s.cols (cols_in s c) (col_outs s c) (col_of s (p - s.rows - s.cols)) h.2 cp;
    })),
    back,
  )
    where
      back : KindAt (Dw s) c p → (p - s.rows - s.cols < length s.cross)
          × (row ≡ Some (row_of s (p - s.rows - s.cols))) × (col ≡ Some (col_of s (p - s.rows - s.cols)))
      back (inl h) = absurd (omega (arith, low, h.row))
      back (inr (inl h)) = absurd (omega (arith, low, l, h.port, h.within))
      back (inr (inr h)) =
          subst (λ x. (x < length s.cross) × (row ≡ Some (row_of s x)) × (col ≡ Some (col_of s x)))
          (omega (arith, h.port)) (
            h.within,
            pends_is row s.rows c (row_outs s c) (row_of s h.crossing) rp (row_within s h.crossing h.within) h.row,
            pends_is col s.cols (cols_in s c) (col_outs s c) (col_of s h.crossing) cp
                (col_within s h.crossing h.within) h.col,
          )

  -- ---- the state after it

  module _ (d : ℕ → ℕ) (m : KindAt (Dw s) c p) (g : Grew c p d) where
    pub row_taken : p < s.rows → Pends (Some p) s.rows d (row_outs s d)
        × Pends col s.cols (cols_in s d) (col_outs s d)
    row_taken l = at m
      where
        at : KindAt (Dw s) c p → Pends (Some p) s.rows d (row_outs s d)
            × Pends col s.cols (cols_in s d) (col_outs s d)
        at (inl h) = (
          even_enters s.rows c (row_outs s c) d (row_outs s d) p (row_enters s c d p l g) h.free,
          pends_same col s.cols (cols_in s c) (col_outs s c) (cols_in s d) (col_outs s d) (cols_stay s c d p l g) cp,
        )
        at (inr (inl h)) = absurd (omega (arith, l, h.port))
        at (inr (inr h)) = absurd (omega (arith, l, h.port))

    pub col_taken : s.rows ≤ p → p - s.rows < s.cols → Pends row s.rows d (row_outs s d)
        × Pends (Some (p - s.rows)) s.cols (cols_in s d) (col_outs s d)
    col_taken low l = at m
      where
        j : ℕ
        j = p - s.rows

        k : Grew c (s.rows + j) d
        k = subst (λ x. Grew c x d) (omega (arith, low)) g

        at : KindAt (Dw s) c p → Pends row s.rows d (row_outs s d)
            × Pends (Some j) s.cols (cols_in s d) (col_outs s d)
        at (inl h) = absurd (omega (arith, low, h.row))
        at (inr (inl h)) = (
          pends_same row s.rows c (row_outs s c) d (row_outs s d) (rows_stay s c d j l k) rp,
          even_enters s.cols (cols_in s c) (col_outs s c) (cols_in s d) (col_outs s d) j (col_enters s c d j l k) h.free,
        )
        at (inr (inr h)) = absurd (omega (arith, low, l, h.port))

    pub out_taken : s.rows ≤ p → s.cols ≤ p - s.rows → Pends None s.rows d (row_outs s d)
        × Pends None s.cols (cols_in s d) (col_outs s d)
    out_taken low l = at m
      where
        at : KindAt (Dw s) c p → Pends None s.rows d (row_outs s d)
            × Pends None s.cols (cols_in s d) (col_outs s d)
        at (inl h) = absurd (omega (arith, low, h.row))
        at (inr (inl h)) = absurd (omega (arith, low, l, h.port, h.within))
        at (inr (inr h)) =
            let x = h.crossing in
            let k = subst (λ y. Grew c y d) h.port g in
            let i : row_of s x < s.rows = row_within s x h.within in
            let j : col_of s x < s.cols = col_within s x h.within in (
              ahead_leaves s.rows c (row_outs s c) d (row_outs s d) (row_of s x) (row_leaves s c d x h.within k)
                  (pends_ahead row s.rows c (row_outs s c) (row_of s x) rp i h.row),
              ahead_leaves s.cols (cols_in s c) (col_outs s c) (cols_in s d) (col_outs s d) (col_of s x)
                  (col_leaves s c d x h.within k)
                  (pends_ahead col s.cols (cols_in s c) (col_outs s c) (col_of s x) cp j h.col),
            )
