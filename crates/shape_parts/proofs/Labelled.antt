-- The labels of lines: of the two lines of a crossing they are equal, and none is greater than its line.
use Rattle.std.specs.Prelude.{nat_lt}
use Rattle.std.proofs.Common.{◌≡◌, ℕ, zero, suc, ◌+◌, ◌<◌, ◌≤◌, List, [], ◌∷◌, length, get_or, inl, inr, refl, sym, ◌∙◌, arith, lt-ltb, le-ltb}
use Rattle.std.proofs.lemmas.Bool.{cases_eq, cases_lt, cond-true, cond-false}
use Rattle.basic_kinds.specs.ShapeParts.{label, lesser, merged}
use Rattle.shape_parts.proofs.Links.{merged_in, merged_out, merged_same}

pub labels_agree : (rows : ℕ) (cross : List (ℕ × ℕ)) (n : ℕ) → n < length cross → label rows cross (get_or cross n (0, 0)).0 ≡ label rows cross (rows + (get_or cross n (0, 0)).1)
labels_agree rows [] n low = absurd (omega arith)
labels_agree rows (p ∷ ps) zero low = merged_in (label rows ps) p.0 (rows + p.1) p.0 (inl refl) ∙ sym (merged_in (label rows ps) p.0 (rows + p.1) (rows + p.1) (inr refl))
labels_agree rows (p ∷ ps) (suc n) low =
    merged_same (label rows ps) p.0 (rows + p.1) (get_or ps n (0, 0)).0 (rows + (get_or ps n (0, 0)).1) (labels_agree rows ps n (omega arith))

lesser_low : (a b : ℕ) → (lesser a b ≤ a) × (lesser a b ≤ b)
lesser_low a b = elim (cases_lt b a) [
  | inl h ↦ let e = cond-true (nat_lt b a) b a (lt-ltb b a h) in (omega (arith, e), omega (arith, e))
  | inr h ↦ let e = cond-false (nat_lt b a) b a (le-ltb b a h) in (omega (arith, e), omega (arith, e))
]

merged_low : (f : ℕ → ℕ) (a b v : ℕ) → merged f a b v ≤ f v
merged_low f a b v = elim (cases_eq (f v) (f a)) [
  | inl e ↦ omega (arith, merged_in f a b v (inl e), lesser_low (f a) (f b), e)
  | inr d ↦ elim (cases_eq (f v) (f b)) [
    | inl e ↦ omega (arith, merged_in f a b v (inr e), lesser_low (f a) (f b), e)
    | inr x ↦ omega (arith, merged_out f a b v d x)
  ]
]

pub label_low : (rows : ℕ) (cross : List (ℕ × ℕ)) (v : ℕ) → label rows cross v ≤ v
label_low rows [] v = omega arith
label_low rows (p ∷ ps) v = omega (arith, merged_low (label rows ps) p.0 (rows + p.1) v, label_low rows ps v)
