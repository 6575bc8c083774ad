-- The traces that stand in a list.
use Rattle.std.proofs.Common.{◌≡◌, ◌⊎◌, ◌↔◌, inl, inr, ℕ, ◌+◌, ◌<◌, length, get_or, take, map, arith, List, [], ◌∷◌, ◌++◌, refl, sym, ap, ◌∙◌, subst, Bool, true, false, if◌then◌else◌, IsTrue}
use Rattle.std.proofs.lemmas.List.{get_or_append_left, get_or_push, length_push, take_more, map-append}
use Rattle.std.proofs.lemmas.Map.Views.{Contains-from_any, list_any-from_Contains}
use Rattle.std.specs.Cmp.Lexicographic.{nat_list_eq_equiv, bytes_decides}
use Rattle.std.specs.List.{Contains, list_any}
use Rattle.std.specs.Str.{bytes_eq}
use Rattle.indexmap.specs.IndexSet.{insert_key}
use Rattle.trace_laws.proofs.Offers.{below_or}

module _ {X : Type 0} where
  longer : (xs : List X) (x : X) (k : ℕ) → k < length xs + 1 → k < length (xs ++ x ∷ [])
  longer xs x k l = omega (arith, length_push xs x)

  pub in_push : (xs : List X) (x t : X) → Contains xs t → Contains (xs ++ x ∷ []) t
  in_push xs x t (k, l, e) = (k, longer xs x k (omega arith), get_or_append_left xs (x ∷ []) t k l ∙ e)

  pub last_in_push : (xs : List X) (x t : X) → t ≡ x → Contains (xs ++ x ∷ []) t
  last_in_push xs x t e = (length xs, longer xs x (length xs) (omega arith), get_or_push xs x t (length xs) refl ∙ sym e)

  pub of_push : (xs : List X) (x t : X) → Contains (xs ++ x ∷ []) t → Contains xs t ⊎ (t ≡ x)
  of_push xs x t (k, l, e) = by (below_or k (length xs) (omega (arith, l, length_push xs x))) where
    by : (k < length xs) ⊎ (k ≡ length xs) → Contains xs t ⊎ (t ≡ x)
    by (inl h) = inl (k, h, sym (get_or_append_left xs (x ∷ []) t k h) ∙ e)
    by (inr h) = inr (sym e ∙ get_or_push xs x t k (sym h))

pub has_in : (ks : List (List ℕ)) (t : List ℕ) → IsTrue (list_any (bytes_eq t) ks) ↔ Contains ks t
has_in ks t = (λ h. Contains-from_any (λ x y. (bytes_decides x y).0) t ks h, λ h. list_any-from_Contains nat_list_eq_equiv t ks h)

pub decided : (ks : List (List ℕ)) (t : List ℕ) → Contains ks t ⊎ (Contains ks t → ⊥)
decided ks t = by (list_any (bytes_eq t) ks) refl where
  by : (b : Bool) → list_any (bytes_eq t) ks ≡ b → Contains ks t ⊎ (Contains ks t → ⊥)
  by true e = inl (Contains-from_any (λ x y. (bytes_decides x y).0) t ks e)
  by false e = inr (λ h. let z = list_any-from_Contains nat_list_eq_equiv t ks h in cc)

pub of_insert : (ks : List (List ℕ)) (w t : List ℕ) → Contains (insert_key bytes_eq ks w) t ↔ (Contains ks t ⊎ (t ≡ w))
of_insert ks w t = by (list_any (bytes_eq w) ks) refl where
  by : (b : Bool) → list_any (bytes_eq w) ks ≡ b → Contains (insert_key bytes_eq ks w) t ↔ (Contains ks t ⊎ (t ≡ w))
  by true e = let s : insert_key bytes_eq ks w ≡ ks = ap (λ c. if c then ks else ks ++ w ∷ []) e in (
    λ h. inl (subst (λ l. Contains l t) s h),
    λ h. elim h [ inl g ↦ subst (λ l. Contains l t) (sym s) g | inr f ↦ subst (λ l. Contains l t) (sym s) (subst (Contains ks) (sym f) (Contains-from_any (λ x y. (bytes_decides x y).0) w ks e)) ],
  )
  by false e = let s : insert_key bytes_eq ks w ≡ ks ++ w ∷ [] = ap (λ c. if c then ks else ks ++ w ∷ []) e in (
    λ h. of_push ks w t (subst (λ l. Contains l t) s h),
    λ h. subst (λ l. Contains l t) (sym s) (elim h [ inl g ↦ in_push ks w t g | inr f ↦ last_in_push ks w t f ]),
  )

pub insert_more : {X : Type 0} (f : X → List ℕ) (ts : List X) (i : ℕ) (d : X) (ks : List (List ℕ)) (w : List ℕ) → i < length ts
    → w ≡ f (get_or ts i d) → ((t : List ℕ) → Contains ks t ↔ Contains (map f (take i ts)) t)
    → (t : List ℕ) → Contains (insert_key bytes_eq ks w) t ↔ Contains (map f (take (i + 1) ts)) t
insert_more {X} f ts i d ks w l e h t =
    let s : map f (take (i + 1) ts) ≡ map f (take i ts) ++ f (get_or ts i d) ∷ [] =
    ap (map f) (take_more ts i d l) ∙ map-append f (take i ts) (get_or ts i d ∷ []) in (
      λ g. subst (λ l. Contains l t) (sym s) (elim ((of_insert ks w t).0 g) [
        | inl k ↦ in_push (map f (take i ts)) (f (get_or ts i d)) t ((h t).0 k)
        | inr q ↦ last_in_push (map f (take i ts)) (f (get_or ts i d)) t (q ∙ e)
      ]),
      λ g. (of_insert ks w t).1 (elim (of_push (map f (take i ts)) (f (get_or ts i d)) t (subst (λ l. Contains l t) s g)) [ inl k ↦ inl ((h t).1 k) | inr q ↦ inr (q ∙ sym e) ]),
    )

pub told_not : {P : Type 0} → IsTrue false ↔ P → P → ⊥
told_not h p = let e : false ≡ true = h.1 p in cc

pub told : {P : Type 0} → IsTrue true ↔ P → P
told h = h.0 refl
