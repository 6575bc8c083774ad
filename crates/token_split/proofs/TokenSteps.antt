-- Steps of the loops that build a network by a token.
use Rattle.std.specs.Prelude.{not}
use Rattle.std.proofs.Common.{◌≡◌, ℕ, ◌+◌, ◌≤◌, Bool, true, false, cond, length, List, [], ◌∷◌, ◌++◌, map, append-nil, append_assoc, refl, sym, ap, ◌∙◌, arith}
use Rattle.std.specs.List.{position_or_len, range_with_len}
use Rattle.std.proofs.lemmas.List.{map-append}
use Rattle.net_laws.proofs.Rows.{range_both}
use Rattle.basic_kinds.specs.declared.kind.Kind.{Kind}
use Rattle.basic_kinds.specs.declared.kind.Kind.TheVariants as kind
use Rattle.basic_kinds.specs.Shapes.{IsShape}
use Rattle.plain_split.specs.SharedPaths.{joined}
use Rattle.plain_split.specs.OneWait.{is_some, many}
use Rattle.plain_split.proofs.JoinedSteps.{joined_both}
use Rattle.token_split.specs.PartKind.{dw_of, part_kind}
use Rattle.token_split.proofs.TokenParts.{dw_is}

-- two items more, after the lists of the numbers below
pub two_more : {A B : Type 0} (g : A → B) (f : ℕ → List B) (xs : List A) (x y : A) (i : ℕ) → map g xs ≡ joined f (range_with_len 0 i) → g x ∷ g y ∷ [] ≡ f i
    → map g ((xs ++ x ∷ []) ++ y ∷ []) ≡ joined f (range_with_len 0 (i + 1))
two_more g f xs x y i h e =
    let a : 0 + i ≡ i = omega arith in
    let after : joined f (range_with_len 0 (i + 1)) ≡ joined f (range_with_len 0 i) ++ (f i ++ []) =
    ap (joined f) (sym (range_both 0 i 1)) ∙ joined_both f (range_with_len 0 i) (range_with_len (0 + i) 1) ∙ ap (λ k. joined f (range_with_len 0 i) ++ (f k ++ [])) a in
    ap (map g) (append_assoc xs (x ∷ []) (y ∷ []))
    ∙ map-append g xs (x ∷ y ∷ []) ∙ ap (λ ys. ys ++ g x ∷ g y ∷ []) h ∙ ap (λ ys. joined f (range_with_len 0 i) ++ ys) (e ∙ sym (append-nil (f i))) ∙ sym after

-- ---- two or more

pub many_one : (xs ys : List ℕ) → length xs ≡ 1 → is_some ys ≡ many (xs ++ ys)
many_one [] ys h = absurd (omega (arith, h))
many_one (x ∷ []) [] h = refl
many_one (x ∷ []) (y ∷ ys) h = refl
many_one (x ∷ z ∷ xs) ys h = absurd (omega (arith, h))

pub many_two : (xs ys : List ℕ) → 2 ≤ length xs → true ≡ many (xs ++ ys)
many_two [] ys h = absurd (omega (arith, h))
many_two (x ∷ []) ys h = absurd (omega (arith, h))
many_two (x ∷ z ∷ xs) ys h = refl

-- ---- what stands for a part of the crossings

pub part_two : (rows cols : ℕ) (cross : List (ℕ × ℕ)) → 2 ≤ length cross → part_kind rows cols cross ≡ dw_of rows cols cross
part_two rows cols [] h = absurd (omega (arith, h))
part_two rows cols (p ∷ []) h = absurd (omega (arith, h))
part_two rows cols (p ∷ q ∷ ps) h = refl

pub dw_made : (rows cols : ℕ) (xs ys : List (ℕ × ℕ)) → xs ≡ ys → (w : IsShape rows cols xs) → ◌≡◌ {A = Kind} (kind.Dw (record { rows = rows; cols = cols; cross = xs; whole = w })) (dw_of rows cols ys)
dw_made rows cols xs ys e w = sym (dw_is rows cols xs w) ∙ ap (dw_of rows cols) e

-- ---- the first place that passes

pub first_step : {A : Type 0} (p : A → Bool) (x : A) (xs : List A) → position_or_len p (x ∷ xs) ≡ cond (p x) 0 (1 + position_or_len p xs)
first_step p x xs = by (p x)
  where
    by : (b : Bool) → cond (not b) (1 + position_or_len p xs) 0 ≡ cond b 0 (1 + position_or_len p xs)
    by true = refl
    by false = refl
