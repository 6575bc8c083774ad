-- The place of the first element that passes a test, in a list that grows.
use Rattle.std.proofs.Common.{◌≡◌, ⊎_elim, ℕ, suc, ◌+◌, Bool, true, false, true≢false, cond, ◌||◌, nat_lt, List, [], ◌∷◌, ◌++◌, length, refl, sym, ap, ◌∙◌, arith, Some, None, lt-ltb, le-ltb}
use Rattle.std.specs.Prelude.{position, is_some}
use Rattle.std.specs.List.{list_any, position_or_len}
use Rattle.std.proofs.lemmas.Bool.{cases_Bool, cases_lt, cond-true}
use Rattle.std.proofs.lemmas.List.Recursion.{is_position_or_len}

lt_suc : (a b : ℕ) → nat_lt a b ≡ nat_lt (1 + a) (suc b)
lt_suc a b = ⊎_elim (λ h. lt-ltb a b h ∙ sym (lt-ltb (1 + a) (suc b) (omega arith)))
    (λ h. le-ltb a b h ∙ sym (le-ltb (1 + a) (suc b) (omega arith))) (cases_lt a b)

module _ {A : Type 0} where
  unfoldable pub place : (A → Bool) → List A → ℕ
  place p [] = 0
  place p (x ∷ xs) = cond (p x) 0 (1 + place p xs)

  pub place_is : (p : A → Bool) (xs : List A) → place p xs ≡ position_or_len p xs
  unfolding place
  place_is p xs = is_position_or_len (place p) p refl (λ _ _. refl) xs

  pub any_place : (p : A → Bool) (xs : List A) → list_any p xs ≡ nat_lt (place p xs) (length xs)
  unfolding place
  any_place p [] = refl
  any_place p (x ∷ xs) = by (p x) (any_place p xs)
    where
      by : (b : Bool) → list_any p xs ≡ nat_lt (place p xs) (length xs)
          → (b || list_any p xs) ≡ nat_lt (cond b 0 (1 + place p xs)) (suc (length xs))
      by true e = sym (lt-ltb 0 (suc (length xs)) (omega arith))
      by false e = e ∙ lt_suc (place p xs) (length xs)

  pub position_is : (p : A → Bool) (xs : List A)
      → position p xs ≡ cond (list_any p xs) (Some (place p xs)) None
  position_is p xs = ap (λ n. cond (nat_lt n (length xs)) (Some n) None) (sym (place_is p xs))
      ∙ ap (λ b. cond b (Some (place p xs)) None) (sym (any_place p xs))

  pub some_position : (p : A → Bool) (xs : List A) → list_any p xs ≡ true → position p xs ≡ Some (place p xs)
  some_position p xs h = position_is p xs ∙ ap (λ b. cond b (Some (place p xs)) None) h

  pub none_position : (p : A → Bool) (xs : List A) → list_any p xs ≡ false → position p xs ≡ None
  none_position p xs h = position_is p xs ∙ ap (λ b. cond b (Some (place p xs)) None) h

  pub any_none : (p : A → Bool) (xs : List A) → position p xs ≡ None → list_any p xs ≡ false
  any_none p xs h = ⊎_elim (λ e. let s : Some (place p xs) ≡ None = sym (some_position p xs e)
      ∙ h in absurd (cc)) (λ e. e) (cases_Bool (list_any p xs))

  pub any_some : (p : A → Bool) (xs : List A) → (position p xs ≡ None → ⊥) → list_any p xs ≡ true
  any_some p xs h = ⊎_elim (λ e. e) (λ e. absurd (h (none_position p xs e))) (cases_Bool (list_any p xs))

  -- where none passes, the place is the length
  place_none : (p : A → Bool) (xs : List A) → list_any p xs ≡ false → place p xs ≡ length xs
  unfolding place
  place_none p [] e = refl
  place_none p (x ∷ xs) e = by (p x) e (λ k. place_none p xs k)
    where
      by : (b : Bool) → (b || list_any p xs) ≡ false → (list_any p xs ≡ false → place p xs ≡ length xs)
          → cond b 0 (1 + place p xs) ≡ suc (length xs)
      by true k f = absurd (true≢false k)
      by false k f = omega (arith, f k)

  pub none_place : (p : A → Bool) (xs : List A) → list_any p xs ≡ false → position_or_len p xs ≡ length xs
  none_place p xs h = sym (place_is p xs) ∙ place_none p xs h

  pub any_push : (p : A → Bool) (xs : List A) (y : A) → list_any p (xs ++ y ∷ []) ≡ (list_any p xs || p y)
  any_push p [] y = by (p y)
    where
      by : (b : Bool) → (b || false) ≡ b
      by true = refl
      by false = refl
  any_push p (x ∷ xs) y = by (p x) (any_push p xs y)
    where
      by : (b : Bool) → list_any p (xs ++ y ∷ []) ≡ (list_any p xs || p y)
          → (b || list_any p (xs ++ y ∷ [])) ≡ ((b || list_any p xs) || p y)
      by true e = refl
      by false e = e

  place_kept : (p : A → Bool) (xs : List A) (y : A) → list_any p xs ≡ true
      → place p (xs ++ y ∷ []) ≡ place p xs
  unfolding place
  place_kept p [] y h = absurd (true≢false (sym h))
  place_kept p (x ∷ xs) y h = by (p x) h (λ k. place_kept p xs y k)
    where
      by : (b : Bool) → (b || list_any p xs) ≡ true
          → (list_any p xs ≡ true → place p (xs ++ y ∷ []) ≡ place p xs)
          → cond b 0 (1 + place p (xs ++ y ∷ [])) ≡ cond b 0 (1 + place p xs)
      by true k f = refl
      by false k f = ap (λ n. 1 + n) (f k)

  place_new : (p : A → Bool) (xs : List A) (y : A) → list_any p xs ≡ false → p y ≡ true
      → place p (xs ++ y ∷ []) ≡ length xs
  unfolding place
  place_new p [] y h e = cond-true (p y) 0 (1 + 0) e
  place_new p (x ∷ xs) y h e = by (p x) h (λ k. place_new p xs y k e)
    where
      by : (b : Bool) → (b || list_any p xs) ≡ false
          → (list_any p xs ≡ false → place p (xs ++ y ∷ []) ≡ length xs)
          → cond b 0 (1 + place p (xs ++ y ∷ [])) ≡ suc (length xs)
      by true k f = absurd (true≢false k)
      by false k f = omega (arith, f k)

  -- ---- one element more

  pub push_kept : (p : A → Bool) (xs : List A) (y : A) → list_any p xs ≡ true
      → position p (xs ++ y ∷ []) ≡ position p xs
  push_kept p xs y h = some_position p (xs ++ y ∷ []) (any_push p xs y ∙ ap (λ b. b || p y) h)
      ∙ ap Some (place_kept p xs y h) ∙ sym (some_position p xs h)

  pub push_here : (p : A → Bool) (xs : List A) (y : A) → list_any p xs ≡ false → p y ≡ true
      → position p (xs ++ y ∷ []) ≡ Some (length xs)
  push_here p xs y h e = some_position p (xs ++ y ∷ []) (any_push p xs y ∙ ap (λ b. b || p y) h ∙ e)
      ∙ ap Some (place_new p xs y h e)

  pub push_other : (p : A → Bool) (xs : List A) (y : A) → p y ≡ false
      → position p (xs ++ y ∷ []) ≡ position p xs
  push_other p xs y e = ⊎_elim
      (λ h. push_kept p xs y h)
      (λ h. none_position p (xs ++ y ∷ []) (any_push p xs y ∙ ap (λ b. b || p y) h ∙ e)
      ∙ sym (none_position p xs h))
      (cases_Bool (list_any p xs))

  pub push_same : (p : A → Bool) (xs : List A) (y z : A) → p y ≡ p z
      → position p (xs ++ y ∷ []) ≡ position p (xs ++ z ∷ [])
  push_same p xs y z e = ⊎_elim
      (λ h. push_kept p xs y h ∙ sym (push_kept p xs z h))
      (λ h. ⊎_elim
      (λ k. push_here p xs y h k ∙ sym (push_here p xs z h (sym e ∙ k)))
      (λ k. push_other p xs y k ∙ sym (push_other p xs z (sym e ∙ k)))
      (cases_Bool (p y)))
      (cases_Bool (list_any p xs))

  -- the last element is another, which passes where the one before passed
  pub last_grows : (p : A → Bool) (xs : List A) (y z : A) → (p y ≡ true → p z ≡ true)
      → (position p (xs ++ y ∷ []) ≡ None → ⊥) → position p (xs ++ y ∷ []) ≡ position p (xs ++ z ∷ [])
  last_grows p xs y z f some = ⊎_elim
      (λ h. push_kept p xs y h ∙ sym (push_kept p xs z h))
      (λ h. ⊎_elim
      (λ k. push_here p xs y h k ∙ sym (push_here p xs z h (f k)))
      (λ k. absurd (some (push_other p xs y k ∙ none_position p xs h)))
      (cases_Bool (p y)))
      (cases_Bool (list_any p xs))

  pub last_new : (p : A → Bool) (xs : List A) (y z : A) → position p (xs ++ y ∷ []) ≡ None → p z ≡ true
      → Some (length xs) ≡ position p (xs ++ z ∷ [])
  last_new p xs y z n e = ⊎_elim
      (λ h. let s : Some (place p xs) ≡ None = sym (push_kept p xs y h ∙ some_position p xs h)
      ∙ n in absurd (cc))
      (λ h. sym (push_here p xs z h e))
      (cases_Bool (list_any p xs))

  pub some_is_any : (p : A → Bool) (xs : List A) → is_some (position p xs) ≡ list_any p xs
  some_is_any p xs = ap is_some (position_is p xs) ∙ by (list_any p xs)
    where
      by : (b : Bool) → is_some (cond b (Some (place p xs)) None) ≡ b
      by true = refl
      by false = refl

  pub found_at : (p : A → Bool) (xs : List A) (n : ℕ) → position p xs ≡ Some n
      → (list_any p xs ≡ true) × (position_or_len p xs ≡ n)
  found_at p xs n h =
      let there : list_any p xs ≡ true = any_some p xs
      (λ e. let s : Some n ≡ None = sym h ∙ e in absurd (cc)) in
      let same : Some (place p xs) ≡ Some n = sym (some_position p xs there) ∙ h in
      (there, sym (place_is p xs) ∙ cc)
