-- What the code of a layer reads, by the shapes that it made.
use Rattle.std.proofs.Common.{◌≡◌, ℕ, zero, suc, ◌+◌, ◌-◌, ◌<◌, List, [], ◌∷◌, length, drop, get_or, sym, ap, ◌∙◌, subst, arith}
use Rattle.std.specs.List.{AllByRecursion}
use Rattle.std.proofs.lemmas.List.{drop_more}
use Rattle.basic_kinds.specs.Sorts.{Sort}
use Rattle.basic_kinds.specs.ShapeParts.{half, first_rows, last_rows, outer}
use Rattle.shape_parts.specs.declared.cut.ShapePart.{ShapePart}
use Rattle.count_sum.specs.declared.counts.Counts.{Counts}
use Rattle.count_sum.specs.Counts.{of_sort}
use Rattle.count_sum.specs.Mirror.Adding.{HasRoom}
use Rattle.count_sum.specs.Mirror.Waits.{IsInRange, of_wait, of_group, of_layer, of_part, of_parts}
use Rattle.count_sum.proofs.SortCounts.{all_same}
use Rattle.count_sum.proofs.WaitLayers.{layer_is}
use Rattle.count_sum.proofs.WaitShapes.{first_range, last_range, outer_range}

module _ (rows cols : ℕ) (cross : List (ℕ × ℕ)) (wide : 2 < rows) (is : IsInRange rows cols cross) (h : ℕ) (o f l : List (ℕ × ℕ))
    (eh : h ≡ half rows) (eo : o ≡ outer (half rows) cols cross) (ef : f ≡ first_rows (half rows) cross) (el : l ≡ last_rows (half rows) cross) where
  pub layer_sum_is : (t : Sort) → of_layer rows cols cross t ≡ of_wait 2 cols o t + (of_group h cols f t + of_group (rows - h) cols l t)
  layer_sum_is t = layer_is rows cols cross t ∙ sym (λ i. of_wait 2 cols (eo i) t + (of_group (eh i) cols (ef i) t + of_group (rows - eh i) cols (el i) t))

  pub outer_is_range : IsInRange 2 cols o
  outer_is_range = subst (IsInRange 2 cols) (sym eo) (outer_range rows cols cross is wide)

  pub first_is_range : IsInRange h cols f
  first_is_range = subst (λ (n : ℕ). IsInRange n cols f) (sym eh) (subst (IsInRange (half rows) cols) (sym ef) (first_range rows cols cross is wide))

  pub last_is_range : IsInRange (rows - h) cols l
  last_is_range = subst (λ (n : ℕ). IsInRange (rows - n) cols l) (sym eh) (subst (IsInRange (rows - half rows) cols) (sym el) (last_range rows cols cross is wide))

-- ---- the loop over parts

pub all_read : {A : Type 0} (P : A → Type 0) (xs : List A) (i : ℕ) (x : A) → AllByRecursion P xs → i < length xs → x ≡ get_or xs i x → P x
all_read P xs i x h low is = subst P (sym is) (at xs i h low)
  where
    at : (ys : List _) (j : ℕ) → AllByRecursion P ys → j < length ys → P (get_or ys j x)
    at [] j h low = absurd (omega arith)
    at (y ∷ ys) zero h low = h.0
    at (y ∷ ys) (suc j) h low = at ys j h.1 (omega arith)

-- one part more is counted
pub parts_drop : (ps : List ShapePart) (i : ℕ) (p : ShapePart) (t : Sort) → i < length ps → p ≡ get_or ps i p
    → of_parts (drop i ps) t ≡ of_part (length p.rows) (length p.columns) p.cross t + of_parts (drop (i + 1) ps) t
parts_drop ps i p t low is = ap (λ (qs : List ShapePart). of_parts qs t) (drop_more ps i p low) ∙ ap (λ (q : ShapePart). of_part (length q.rows) (length q.columns) q.cross t + of_parts (drop (i + 1) ps) t) (sym is)

-- what is left to count has room
pub rest_room : (old now : Counts) (all rest : Sort → ℕ) → ((t : Sort) → of_sort now t + rest t ≡ of_sort old t + all t) → HasRoom old all → HasRoom now rest
rest_room old now all rest e h = record { few = omega (arith, h.few, all_same (λ t. of_sort now t + rest t) (λ t. of_sort old t + all t) e) }

pub part_read : {a b : ℕ} {x : List (ℕ × ℕ)} {r k : ℕ} {y : List (ℕ × ℕ)} → a ≡ r → b ≡ k → x ≡ y → (t : Sort) (n : ℕ) → of_part a b x t + n ≡ of_part r k y t + n
part_read p q e t n = λ i. of_part (p i) (q i) (e i) t + n

pub range_read : {a b : ℕ} {x : List (ℕ × ℕ)} {r k : ℕ} {y : List (ℕ × ℕ)} → a ≡ r → b ≡ k → x ≡ y → IsInRange r k y → IsInRange a b x
range_read {a = a} {b = b} {x = x} {r = r} {k = k} {y = y} p q e h =
    subst (λ (n : ℕ). IsInRange n b x) (sym p) (subst (λ (n : ℕ). IsInRange r n x) (sym q) (subst (IsInRange r k) (sym e) h))

pub step_counted : (new now part rest left sum : ℕ) → new ≡ now + part → left ≡ part + rest → now + left ≡ sum → new + rest ≡ sum
step_counted new now part rest left sum a b c = omega arith

pub end_counted : (now left old whole all : ℕ) → left ≡ 0 → whole ≡ all → now + left ≡ old + all → now ≡ old + whole
end_counted now left old whole all a b c = omega arith
