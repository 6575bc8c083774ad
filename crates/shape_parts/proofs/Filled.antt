-- Buckets that are filled number by number.
use Rattle.std.specs.Prelude.{zero, suc, if◌then◌else◌, nat_eq}
use Rattle.std.proofs.Common.{◌≡◌, ℕ, ◌+◌, ◌<◌, ◌≤◌, Bool, true, false, List, [], ◌∷◌, ◌++◌, length, get_or, set, inl, inr, refl, sym, ap, ◌∙◌, arith, append-nil, eq-eqb, ne_eqb}
use Rattle.std.specs.List.{filter, range_with_len, AllByRecursion}
use Rattle.std.proofs.lemmas.Bool.{cases_eq}
use Rattle.std.proofs.lemmas.List.{get_or-set_same, get_or-set_other}
use Rattle.std.proofs.lemmas.List.FromFn.{length-range_with_len}
use Rattle.std.proofs.lemmas.List.Elements.{filter-append}
use Rattle.basic_kinds.specs.Sorts.{how_many, how_many_below}
use Rattle.shape_parts.specs.Keys.{key_at}
use Rattle.shape_parts.proofs.Links.{range_more}

pub filter_more : (f : ℕ → Bool) (n : ℕ) → filter f (range_with_len 0 (n + 1)) ≡ filter f (range_with_len 0 n) ++ (if f n then n ∷ [] else [])
filter_more f n = ap (filter f) (range_more n) ∙ filter-append f (range_with_len 0 n) (n ∷ [])

-- as many as pass the test are left
pub filter_long : (test : ℕ → Bool) (xs : List ℕ) → length (filter test xs) ≡ how_many test xs
filter_long test [] = refl
filter_long test (x ∷ xs) = by (test x) (filter_long test xs)
  where
    by : (b : Bool) → length (filter test xs) ≡ how_many test xs → length (if b then x ∷ filter test xs else filter test xs) ≡ (if b then 1 else 0) + how_many test xs
    by true e = omega (arith, e)
    by false e = omega (arith, e)

pub how_many_low : (test : ℕ → Bool) (xs : List ℕ) → how_many test xs ≤ length xs
how_many_low test [] = omega arith
how_many_low test (x ∷ xs) = by (test x) (how_many_low test xs)
  where
    by : (b : Bool) → how_many test xs ≤ length xs → (if b then 1 else 0) + how_many test xs ≤ length (x ∷ xs)
    by true e = omega arith
    by false e = omega arith

pub key_low : (many : ℕ) (keys : List ℕ) (n : ℕ) → AllByRecursion (λ k. k < many) keys → n < length keys → key_at keys n < many
key_low many [] n h low = absurd (omega arith)
key_low many (k ∷ ks) zero h low = h.0
key_low many (k ∷ ks) (suc n) h low = key_low many ks n h.1 (omega arith)

-- the numbers below n in their buckets
abbrev pub Filled : List ℕ → ℕ → List (List ℕ) → ℕ → Type 0
Filled keys many bs n = (k : ℕ) → k < many → get_or bs k [] ≡ filter (λ m. nat_eq (key_at keys m) k) (range_with_len 0 n)

pub bucket_more : (keys : List ℕ) (many : ℕ) (bs : List (List ℕ)) (n : ℕ) (b : List ℕ) → length bs ≡ many → key_at keys n < many
    → b ≡ get_or bs (key_at keys n) [] ++ n ∷ [] → Filled keys many bs n → Filled keys many (set bs (key_at keys n) b) (n + 1)
bucket_more keys many bs n b long low is h k inside = elim (cases_eq k (key_at keys n)) [
  | inl here ↦
      ap (λ (i : ℕ). get_or (set bs (key_at keys n) b) i []) here ∙ get_or-set_same bs (key_at keys n) b [] (omega (arith, long, low)) ∙ is
      ∙ ap (λ bs. bs ++ n ∷ []) (ap (λ (i : ℕ). get_or bs i []) (sym here) ∙ h k inside)
      ∙ sym (filter_more (λ m. nat_eq (key_at keys m) k) n ∙ ap (λ (t : Bool). filter (λ m. nat_eq (key_at keys m) k) (range_with_len 0 n) ++ (if t then n ∷ [] else [])) (eq-eqb (key_at keys n) k (sym here)))
  | inr other ↦
      get_or-set_other bs (key_at keys n) k b [] other ∙ h k inside
      ∙ sym (filter_more (λ m. nat_eq (key_at keys m) k) n ∙ ap (λ (t : Bool). filter (λ m. nat_eq (key_at keys m) k) (range_with_len 0 n) ++ (if t then n ∷ [] else [])) (ne_eqb (key_at keys n) k (λ e. other (sym e)))
      ∙ append-nil (filter (λ m. nat_eq (key_at keys m) k) (range_with_len 0 n)))
]

-- one number more is counted
pub count_more : (f : ℕ → Bool) (n : ℕ) → how_many_below (n + 1) f ≡ (if f n then how_many_below n f + 1 else how_many_below n f)
count_more f n = ap (how_many f) (range_more n) ∙ both (range_with_len 0 n) ∙ by (f n)
  where
    both : (xs : List ℕ) → how_many f (xs ++ n ∷ []) ≡ how_many f xs + (if f n then 1 else 0)
    both [] = let e : (if f n then 1 else 0) + 0 ≡ 0 + (if f n then 1 else 0) = omega arith in e
    both (x ∷ xs) = omega (arith, both xs)

    by : (b : Bool) → how_many f (range_with_len 0 n) + (if b then 1 else 0) ≡ (if b then how_many_below n f + 1 else how_many_below n f)
    by true = refl
    by false = omega arith

pub count_low : (f : ℕ → Bool) (n : ℕ) → how_many_below n f ≤ n
count_low f n = omega (arith, how_many_low f (range_with_len 0 n), length-range_with_len 0 n)
