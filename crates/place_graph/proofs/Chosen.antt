-- Legs chosen by direction, one leg more.
use Rattle.std.proofs.Common.{◌≡◌, ℕ, ◌+◌, ◌<◌, Bool, true, false, List, ◌∷◌, length, get_or, drop, filter, ap, ◌∙◌}
use Rattle.std.proofs.lemmas.Bool.{cond-true, cond-false}
use Rattle.place_graph.proofs.LegSteps.{drop_next}

module _ {A : Type 0} where
  pub chosen_here : (p : A → Bool) (xs : List A) (i : ℕ) (x : A) → i < length xs → x ≡ get_or xs i x
      → p x ≡ true → filter p (drop i xs) ≡ x ∷ filter p (drop (i + 1) xs)
  chosen_here p xs i x h e k = ap (filter p) (drop_next xs i x h e)
      ∙ cond-true (p x) (x ∷ filter p (drop (i + 1) xs)) (filter p (drop (i + 1) xs)) k

  pub chosen_other : (p : A → Bool) (xs : List A) (i : ℕ) (x : A) → i < length xs → x ≡ get_or xs i x
      → p x ≡ false → filter p (drop i xs) ≡ filter p (drop (i + 1) xs)
  chosen_other p xs i x h e k = ap (filter p) (drop_next xs i x h e)
      ∙ cond-false (p x) (x ∷ filter p (drop (i + 1) xs)) (filter p (drop (i + 1) xs)) k
