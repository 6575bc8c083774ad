-- Rows of tables that are filled item by item.
use Rattle.std.specs.Prelude.{◌||◌, if◌then◌else◌, nat_eq}
use Rattle.std.proofs.Common.{◌≡◌, ◌⊎◌, ⊎_elim, ℕ, zero, suc, ◌+◌, ◌<◌, Bool, true, false, true≢false, List, [], ◌∷◌, ◌++◌, length, map, get_or, set, drop, inl, inr, refl, sym, ap, subst, ◌∙◌, arith, append-nil, eq-eqb, ne_eqb}
use Rattle.std.specs.List.{AllByRecursion}
use Rattle.std.proofs.lemmas.Bool.{cases_eq}
use Rattle.std.proofs.lemmas.List.{get_or-set_same, get_or-set_other}
use Rattle.cmd_tree.specs.Lists.{is_in}
use Rattle.cmd_rename.specs.Symbols.{put, put_each}
use Rattle.cmd_rename.proofs.Numbering.{all_each}
use Rattle.net_laws.proofs.Among.{Among, Distinct}

pub key_low : (many : ℕ) (keys : List ℕ) (n : ℕ) → AllByRecursion (λ k. k < many) keys → n < length keys → get_or keys n 0 < many
key_low many [] n h low = absurd (omega arith)
key_low many (k ∷ ks) zero h low = h.0
key_low many (k ∷ ks) (suc n) h low = key_low many ks n h.1 (omega arith)

-- a number is added to the rows of its symbols, each once
pub haver_step : (rows : List (List ℕ)) (x haver : ℕ) (b rest : List ℕ) (a : ℕ) → x < length rows → b ≡ get_or rows x [] ++ haver ∷ [] → is_in x rest ≡ false
    → get_or (set rows x b) a [] ++ (if is_in a rest then haver ∷ [] else []) ≡ get_or rows a [] ++ (if is_in a (x ∷ rest) then haver ∷ [] else [])
haver_step rows x haver b rest a low is once = elim (cases_eq a x) [
  | inl here ↦
      ap (λ r. r ++ (if is_in a rest then haver ∷ [] else [])) (ap (λ (i : ℕ). get_or (set rows x b) i []) here ∙ get_or-set_same rows x b [] low ∙ is)
      ∙ ap (λ (t : Bool). (get_or rows x [] ++ haver ∷ []) ++ (if t then haver ∷ [] else [])) (ap (λ (i : ℕ). is_in i rest) here ∙ once)
      ∙ append-nil (get_or rows x [] ++ haver ∷ []) ∙ ap (λ (i : ℕ). get_or rows i [] ++ haver ∷ []) (sym here)
      ∙ ap (λ (t : Bool). get_or rows a [] ++ (if t || is_in a rest then haver ∷ [] else [])) (sym (eq-eqb a x here))
  | inr other ↦
      ap (λ r. r ++ (if is_in a rest then haver ∷ [] else [])) (get_or-set_other rows x a b [] other)
      ∙ ap (λ (t : Bool). get_or rows a [] ++ (if t || is_in a rest then haver ∷ [] else [])) (sym (ne_eqb a x other))
]

not_in : (x : ℕ) (xs : List ℕ) → (Among x xs → ⊥) → is_in x xs ≡ false
not_in x [] h = refl
not_in x (y ∷ ys) h = ap (λ (t : Bool). t || is_in x ys) (ne_eqb x y (λ e. h (inl e))) ∙ not_in x ys (λ a. h (inr a))

pub once_at : (xs : List ℕ) (i : ℕ) → Distinct xs → i < length xs → is_in (get_or xs i 0) (drop (i + 1) xs) ≡ false
once_at [] i d low = absurd (omega arith)
once_at (x ∷ xs) zero d low = let e : 0 + 1 ≡ 1 = omega arith in not_in x xs d.0
once_at (x ∷ xs) (suc i) d low = let e : suc i + 1 ≡ suc (i + 1) = omega arith in ap (λ (k : ℕ). is_in (get_or xs i 0) (drop k (x ∷ xs))) e ∙ once_at xs i d.1 (omega arith)

-- ---- numbers once each

among_push : (a b : ℕ) (xs : List ℕ) → Among b (xs ++ a ∷ []) → Among b xs ⊎ (b ≡ a)
among_push a b [] (inl e) = inr e
among_push a b [] (inr h) = absurd h
among_push a b (x ∷ xs) (inl e) = inl (inl e)
among_push a b (x ∷ xs) (inr h) = ⊎_elim (λ i. inl (inr i)) (λ e. inr e) (among_push a b xs h)

distinct_push : (xs : List ℕ) (a : ℕ) → (Among a xs → ⊥) → Distinct xs → Distinct (xs ++ a ∷ [])
distinct_push [] a out h = (λ i. i, tt)
distinct_push (x ∷ xs) a out h = (
  λ i. ⊎_elim h.0 (λ e. out (inl (sym e))) (among_push a x xs i),
  distinct_push xs a (λ i. out (inr i)) h.1,
)

pub among_in : (a : ℕ) (xs : List ℕ) → Among a xs → is_in a xs ≡ true
among_in a [] h = absurd h
among_in a (x ∷ xs) (inl e) = ap (λ (b : Bool). b || is_in a xs) (eq-eqb a x e)
among_in a (x ∷ xs) (inr h) = by (nat_eq a x) (is_in a xs) (among_in a xs h)
  where
    by : (b c : Bool) → c ≡ true → (b || c) ≡ true
    by true c e = refl
    by false c e = e

distinct_put : (xs : List ℕ) (a : ℕ) → Distinct xs → Distinct (put xs a)
distinct_put xs a h = by (is_in a xs) refl
  where
    by : (b : Bool) → is_in a xs ≡ b → Distinct (if b then xs else xs ++ a ∷ [])
    by true e = h
    by false e = distinct_push xs a (λ i. true≢false (sym (among_in a xs i) ∙ e)) h

distinct_each : (xs ys : List ℕ) → Distinct xs → Distinct (put_each xs ys)
distinct_each xs [] h = h
distinct_each xs (y ∷ ys) h = distinct_each (put xs y) ys (distinct_put xs y h)

pub once_distinct : (xs : List ℕ) → Distinct (put_each [] xs)
once_distinct xs = distinct_each [] xs tt

pub once_known : (n : ℕ) (xs : List ℕ) → AllByRecursion (λ a. a < n) xs → AllByRecursion (λ a. a < n) (put_each [] xs)
once_known n xs h = all_each (λ a. a < n) [] xs tt h

-- what holds of the items that rows are made of holds of the rows
pub rows_all : {V X : Type 0} (Q P : List ℕ → Type 0) (f : V → List ℕ) (g : X → List ℕ) (vs : List V) (xs : List X) → map f vs ≡ map (put_each []) (map g xs)
    → ((row : List ℕ) → Q row → P (put_each [] row)) → AllByRecursion (λ x. Q (g x)) xs → AllByRecursion (λ v. P (f v)) vs
rows_all Q P f g [] xs e k h = tt
rows_all Q P f g (v ∷ vs) [] e k h = absurd (cc)
rows_all Q P f g (v ∷ vs) (x ∷ xs) e k h =
    let here : f v ≡ put_each [] (g x) = cc in
    let rest : map f vs ≡ map (put_each []) (map g xs) = cc in
    (subst P (sym here) (k (g x) h.0), rows_all Q P f g vs xs rest k h.1)
