-- A definition is found by its place among the names that are defined.
use Rattle.std.proofs.Common.{◌≡◌, ℕ, suc, ◌+◌, ◌<◌, ◌≤◌, Bool, true, false, true≢false, cond, ◌||◌, List, [], ◌∷◌, ◌++◌, map, length, get_or, Some, None, refl, sym, ap, ◌∙◌, arith}
use Rattle.std.specs.Prelude.{if◌then◌else◌}
use Rattle.std.specs.List.{list_any}
use Rattle.std.specs.Str.{bytes_eq}
use Rattle.std.proofs.lemmas.List.Recursion.{is_position_or_len}
use Rattle.indexmap.specs.IndexSet.{insert_key}
use Rattle.cmd_expand.specs.Names.{number}
use Rattle.cmd_expand.specs.Expansion.{Known, found}
use Rattle.cmd_expand.specs.Mirror.Plan.{procs_known}

abbrev pub place : List ℕ → List (List ℕ) → ℕ
place n [] = 0
place n (m ∷ ms) = cond (bytes_eq n m) 0 (1 + place n ms)

pub place_is : (n : List ℕ) (ms : List (List ℕ)) → place n ms ≡ number ms n
place_is n ms = is_position_or_len (place n) (bytes_eq n) refl (λ x xs. refl) ms

abbrev names_known : List Known → List (List ℕ)
names_known known = map (λ k. k.name) known

one_more : (i : ℕ) → suc i ≡ 1 + i
one_more i = omega arith

found_place : (known : List Known) (rest : List (List ℕ)) (n : List ℕ) → place n (names_known known ++ rest) < length known → found known n ≡ Some (get_or (procs_known known) (place n (names_known known ++ rest)) [])
found_place [] rest n h = absurd (omega arith)
found_place (k ∷ known) rest n h = by (bytes_eq n k.name) h (λ g. found_place known rest n g)
  where
    by : (b : Bool) → cond b 0 (1 + place n (names_known known ++ rest)) < length (k ∷ known)
        → (place n (names_known known ++ rest) < length known → found known n ≡ Some (get_or (procs_known known) (place n (names_known known ++ rest)) []))
        → (if b then Some k.procs else found known n) ≡ Some (get_or (procs_known (k ∷ known)) (cond b 0 (1 + place n (names_known known ++ rest))) [])
    by true g f = refl
    by false g f = f (omega (arith, g)) ∙ ap (λ i. Some (get_or (procs_known (k ∷ known)) i [])) (one_more (place n (names_known known ++ rest)))

found_none : (known : List Known) (rest : List (List ℕ)) (n : List ℕ) → length known ≤ place n (names_known known ++ rest) → found known n ≡ None
found_none [] rest n h = refl
found_none (k ∷ known) rest n h = by (bytes_eq n k.name) h (λ g. found_none known rest n g)
  where
    by : (b : Bool) → length (k ∷ known) ≤ cond b 0 (1 + place n (names_known known ++ rest)) → (length known ≤ place n (names_known known ++ rest) → found known n ≡ None) → (if b then Some k.procs else found known n) ≡ None
    by true g f = absurd (omega (arith, g))
    by false g f = f (omega (arith, g))

place_in : (ms : List (List ℕ)) (n : List ℕ) → place n ms < length ms → list_any (bytes_eq n) ms ≡ true
place_in [] n h = absurd (omega arith)
place_in (m ∷ ms) n h = by (bytes_eq n m) h (λ g. place_in ms n g)
  where
    by : (b : Bool) → cond b 0 (1 + place n ms) < length (m ∷ ms) → (place n ms < length ms → list_any (bytes_eq n) ms ≡ true) → (b || list_any (bytes_eq n) ms) ≡ true
    by true g f = refl
    by false g f = f (omega (arith, g))

any_known : (known : List Known) (rest : List (List ℕ)) (n : List ℕ) (b : Bool) → list_any (λ k. bytes_eq n k.name) known ≡ b
    → cond b (place n (names_known known ++ rest) < length known) (length known ≤ place n (names_known known ++ rest))
any_known [] rest n true e = absurd (cc)
any_known [] rest n false e = omega arith
any_known (k ∷ known) rest n b e = by (bytes_eq n k.name) b e (λ c. any_known known rest n c)
  where
    P : Bool → ℕ → ℕ → Type 0
    P c i j = cond c (i < j) (j ≤ i)

    by : (c d : Bool) → (c || list_any (λ l. bytes_eq n l.name) known) ≡ d → ((x : Bool) → list_any (λ l. bytes_eq n l.name) known ≡ x → P x (place n (names_known known ++ rest)) (length known))
        → P d (cond c 0 (1 + place n (names_known known ++ rest))) (length (k ∷ known))
    by true true q f = omega arith
    by true false q f = absurd (true≢false q)
    by false true q f = let h : place n (names_known known ++ rest) < length known = f true q in omega (arith, h)
    by false false q f = let h : length known ≤ place n (names_known known ++ rest) = f false q in omega (arith, h)

abbrev pub Named : List Known → List (List ℕ) → List (List ℕ) → Type 0
Named known rest defined = defined ≡ names_known known ++ rest

at_defined : (known : List Known) (rest defined : List (List ℕ)) (n : List ℕ) → Named known rest defined → number defined n ≡ place n (names_known known ++ rest)
at_defined known rest defined n h = sym (place_is n defined) ∙ ap (place n) h

pub found_at : (known : List Known) (rest defined : List (List ℕ)) (n : List ℕ) (of : ℕ) → Named known rest defined → of ≡ number defined n → of < length known → found known n ≡ Some (get_or (procs_known known) of [])
found_at known rest defined n of h e l =
    let q : of ≡ place n (names_known known ++ rest) = e ∙ at_defined known rest defined n h in
    found_place known rest n (omega (arith, q, l)) ∙ ap (λ k. Some (get_or (procs_known known) k [])) (sym q)

pub found_past : (known : List Known) (rest defined : List (List ℕ)) (n : List ℕ) (of : ℕ) → Named known rest defined → of ≡ number defined n → length known ≤ of → found known n ≡ None
found_past known rest defined n of h e l = found_none known rest n (let q : of ≡ place n (names_known known ++ rest) = e ∙ at_defined known rest defined n h in omega (arith, q, l))

pub number_in : (ms : List (List ℕ)) (n : List ℕ) → number ms n < length ms → list_any (bytes_eq n) ms ≡ true
number_in ms n h = place_in ms n (omega (arith, h, place_is n ms))

pub inserted_in : (ms : List (List ℕ)) (n : List ℕ) → list_any (bytes_eq n) ms ≡ true → insert_key bytes_eq ms n ≡ ms
inserted_in ms n h = ap (λ b. if b then ms else ms ++ n ∷ []) h

-- the name stays the first where it is found among the definitions
pub defined_twice : (known : List Known) (rest defined : List (List ℕ)) (n : List ℕ) → Named known rest defined → number defined n < length known → list_any (λ k. bytes_eq n k.name) known ≡ true
defined_twice known rest defined n h l = by (list_any (λ k. bytes_eq n k.name) known) refl
  where
    by : (b : Bool) → list_any (λ k. bytes_eq n k.name) known ≡ b → b ≡ true
    by true e = refl
    by false e = let g : length known ≤ place n (names_known known ++ rest) = any_known known rest n false e in absurd (omega (arith, g, l, at_defined known rest defined n h))

pub defined_once : (known : List Known) (rest defined : List (List ℕ)) (n : List ℕ) → Named known rest defined → length known ≤ number defined n → list_any (λ k. bytes_eq n k.name) known ≡ false
defined_once known rest defined n h l = by (list_any (λ k. bytes_eq n k.name) known) refl
  where
    by : (b : Bool) → list_any (λ k. bytes_eq n k.name) known ≡ b → b ≡ false
    by false e = refl
    by true e = let g : place n (names_known known ++ rest) < length known = any_known known rest n true e in absurd (omega (arith, g, l, at_defined known rest defined n h))

place_out : (ms : List (List ℕ)) (n : List ℕ) → length ms ≤ place n ms → list_any (bytes_eq n) ms ≡ false
place_out [] n h = refl
place_out (m ∷ ms) n h = by (bytes_eq n m) h (λ g. place_out ms n g)
  where
    by : (b : Bool) → length (m ∷ ms) ≤ cond b 0 (1 + place n ms) → (length ms ≤ place n ms → list_any (bytes_eq n) ms ≡ false) → (b || list_any (bytes_eq n) ms) ≡ false
    by true g f = absurd (omega (arith, g))
    by false g f = f (omega (arith, g))

pub number_out : (ms : List (List ℕ)) (n : List ℕ) → length ms ≤ number ms n → list_any (bytes_eq n) ms ≡ false
number_out ms n h = place_out ms n (omega (arith, h, place_is n ms))
