-- What the code of the network makes, step by step.
use Rattle.std.proofs.Common.{◌≡◌, ◌≢◌, ℕ, zero, suc, ◌+◌, ◌<◌, List, [], ◌∷◌, ◌++◌, length, map, get_or, Result, Ok, Err, refl, sym, ap, ◌∙◌, subst, arith}
use Rattle.std.specs.Prelude.{IfOk}
use Rattle.std.specs.List.{AllByRecursion, range_with_len}
use Rattle.basic_kinds.specs.declared.kind.Kind.{Kind}
use Rattle.basic_kinds.specs.declared.kind.Kind.TheVariants as kind
use Rattle.basic_kinds.specs.declared.shape.Shape.{Shape}
use Rattle.basic_kinds.specs.Shapes.{IsShape}
use Rattle.net_core.specs.declared.spec.NodeSpec.TheVariants.{Kind as Basic}
use Rattle.net_core.specs.Wiring.{Node, Circuit}
use Rattle.net_laws.proofs.Among.{Among}
use Rattle.shape_parts.specs.declared.cut.ShapePart.{ShapePart}
use Rattle.shape_parts.specs.Cut.{part_of, parts_of}
use Rattle.wait_parts.specs.PartKind.{dw_of, part_kind}
use Rattle.wait_parts.specs.PartsNet.{part_node, parts_circuit}
use Rattle.wait_parts.specs.Mirror.Known.{IsKnown}
use Rattle.wait_parts.proofs.PartLists.{names, row_in, column_in, place_in, rows_of, columns_of, places_of}
use Rattle.wait_parts.proofs.PartKinds.{dw_is, is_shape_true, own_shape, few_rows, few_columns}
use Rattle.wait_parts.proofs.PartsChart.{all_members}

pub dw_made : (rows cols : ℕ) (xs ys : List (ℕ × ℕ)) → xs ≡ ys → (w : IsShape rows cols xs) → ◌≡◌ {A = Kind} (kind.Dw (record { rows = rows; cols = cols; cross = xs; whole = w })) (dw_of rows cols ys)
dw_made rows cols xs ys e w = sym (dw_is rows cols xs w) ∙ ap (dw_of rows cols) e

-- an equal shape
pub dw_copied : (s : Shape) (xs : List (ℕ × ℕ)) → xs ≡ s.cross → (w : IsShape s.rows s.cols xs) → ◌≡◌ {A = Kind} (kind.Dw (record { rows = s.rows; cols = s.cols; cross = xs; whole = w })) (kind.Dw s)
dw_copied s xs e w = dw_made s.rows s.cols xs s.cross e w ∙ dw_is s.rows s.cols s.cross s.whole

pub not_alone : (rows cols : ℕ) (cross : List (ℕ × ℕ)) → length cross ≢ 1 → part_kind rows cols cross ≡ dw_of rows cols cross
not_alone rows cols [] h = refl
not_alone rows cols (p ∷ []) h = absurd (h refl)
not_alone rows cols (p ∷ q ∷ ps) h = refl

pub all_read : {A : Type 0} (P : A → Type 0) (xs : List A) (i : ℕ) (x : A) → AllByRecursion P xs → i < length xs → x ≡ get_or xs i x → P x
all_read P xs i x h low is = subst P (sym is) (at xs i h low)
  where
    at : (ys : List _) (j : ℕ) → AllByRecursion P ys → j < length ys → P (get_or ys j x)
    at [] j h low = absurd (omega arith)
    at (y ∷ ys) zero h low = h.0
    at (y ∷ ys) (suc j) h low = at ys j h.1 (omega arith)

pub all_weaker : {A : Type 0} (P Q : A → Type 0) → ((x : A) → P x → Q x) → (xs : List A) → AllByRecursion P xs → AllByRecursion Q xs
all_weaker P Q h [] all = tt
all_weaker P Q h (x ∷ xs) all = (h x all.0, all_weaker P Q h xs all.1)

pub raised_none : (ns : List ℕ) → map (λ n. 0 + n) ns ≡ ns
raised_none [] = refl
raised_none (n ∷ ns) = let e : 0 + n ≡ n = omega arith in let rest = raised_none ns in λ i. e i ∷ rest i

-- the parts that are found are known
pub known_parts : (s : Shape) → AllByRecursion (IsKnown s) (parts_of s.rows s.cols s.cross)
known_parts s = over (names s) (all_members (λ i. Among i (names s)) (names s) (λ i a. a))
  where
    known : (i : ℕ) → Among i (names s) → IsKnown s (part_of s.rows s.cols s.cross i)
    known i a = record {
      few_rows = few_rows s i a;
      few_columns = few_columns s i a;
      rows = all_members (λ r. r < s.rows) (rows_of s i) (λ r m. (row_in s i r m).0);
      columns = all_members (λ j. j < s.cols) (columns_of s i) (λ j m. (column_in s i j m).0);
      places = all_members (λ x. x < length s.cross) (places_of s i) (λ x m. (place_in s i x m).0);
      shape = is_shape_true (length (rows_of s i)) (length (columns_of s i)) _ (own_shape s i a);
    }

    over : (is : List ℕ) → AllByRecursion (λ i. Among i (names s)) is → AllByRecursion (IsKnown s) (map (part_of s.rows s.cols s.cross) is)
    over [] all = tt
    over (i ∷ is) all = (known i all.0, over is all.1)

-- the ends of a part's node
pub ends_made : (s : Shape) (p : ShapePart) {rs cs xs all both : List ℕ} → rs ≡ map (λ n. 0 + n) p.rows → cs ≡ map (λ n. s.rows + n) p.columns → xs ≡ map (λ n. s.rows + s.cols + n) p.places
    → both ≡ rs ++ cs → all ≡ both ++ xs → all ≡ (part_node s p).ends
ends_made s p a b c d e = e ∙ (λ i. d i ++ c i) ∙ (λ i. (a i ++ b i) ++ map (λ n. s.rows + s.cols + n) p.places)
    ∙ (λ i. (raised_none p.rows i ++ map (λ n. s.rows + n) p.columns) ++ map (λ n. s.rows + s.cols + n) p.places)

-- the network of the nodes that are made
pub net_made : (s : Shape) {found : List ShapePart} {out : Node} {inner nodes : List Node} {n : ℕ} → nodes ≡ out ∷ inner
    → out ≡ record { spec = Basic (kind.Dw s); ends = range_with_len 0 (s.rows + s.cols + n) } → inner ≡ map (part_node s) found → found ≡ parts_of s.rows s.cols s.cross → n ≡ length s.cross
    → ◌≡◌ {A = Circuit} (record { nodes = nodes; wires = s.rows + s.cols + n }) (parts_circuit s)
net_made s {n = n} a b c d e =
    (λ i. record { nodes = a i; wires = s.rows + s.cols + n }) ∙ (λ i. record { nodes = b i ∷ c i; wires = s.rows + s.cols + n })
    ∙ (λ i. record { nodes = record { spec = Basic (kind.Dw s); ends = range_with_len 0 (s.rows + s.cols + e i) } ∷ map (part_node s) (d i); wires = s.rows + s.cols + e i })

pub result_is : {A E : Type 0} (P : A → Type 0) (r : Result A E) (x : A) → P x → IfOk r (λ y. y ≡ x) → IfOk r P
result_is P (Ok y) x h e = subst P (sym e) h
result_is P (Err e) x h i = tt
