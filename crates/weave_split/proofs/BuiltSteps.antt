-- Steps of the loops that build the network of a weave.
use Rattle.std.specs.Prelude.{not}
use Rattle.std.proofs.Common.{◌≡◌, ℕ, ◌+◌, Bool, true, false, cond, List, [], ◌∷◌, ◌++◌, map, filter, append_assoc, refl, sym, ap, ◌∙◌}
use Rattle.std.specs.List.{position_or_len, range_with_len}
use Rattle.plain_split.proofs.JoinedSteps.{filter_kept, filter_left}
use Rattle.std.proofs.lemmas.List.{map_push}

-- the first place that passes
pub first_step : {A : Type 0} (p : A → Bool) (x : A) (xs : List A) → position_or_len p (x ∷ xs) ≡ cond (p x) 0 (1 + position_or_len p xs)
first_step p x xs = by (p x)
  where
    by : (b : Bool) → cond (not b) (1 + position_or_len p xs) 0 ≡ cond b 0 (1 + position_or_len p xs)
    by true = refl
    by false = refl

-- what is made of those that pass a test, with one that passes, and with one that does not
pub chosen_more : {A B : Type 0} (g : A → B) (h : ℕ → B) (f : ℕ → Bool) (xs : List A) (x : A) (i : ℕ) → map g xs ≡ map h (filter f (range_with_len 0 i)) → g x ≡ h i → f i ≡ true
    → map g (xs ++ x ∷ []) ≡ map h (filter f (range_with_len 0 (i + 1)))
chosen_more g h f xs x i before one t =
    map_push g xs x ∙ ap (λ ys. ys ++ g x ∷ []) before ∙ ap (λ y. map h (filter f (range_with_len 0 i)) ++ y ∷ []) one ∙ sym (map_push h (filter f (range_with_len 0 i)) i) ∙ ap (map h) (filter_kept f i t)

pub chosen_less : {B : Type 0} (h : ℕ → B) (f : ℕ → Bool) (ys : List B) (i : ℕ) → ys ≡ map h (filter f (range_with_len 0 i)) → f i ≡ false → ys ≡ map h (filter f (range_with_len 0 (i + 1)))
chosen_less h f ys i before t = before ∙ ap (map h) (filter_left f i t)
