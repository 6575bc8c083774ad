-- The number that the set of names gives.
use Rattle.std.proofs.Common.{◌≡◌, ℕ, suc, ◌+◌, Bool, true, false, ◌||◌, List, [], ◌∷◌, ◌++◌, refl, sym, ◌∙◌, ap, subst, cond, length, ◌≤◌, arith}
use Rattle.std.specs.Prelude.{if◌then◌else◌}
use Rattle.std.specs.List.{position_or_len}
use Rattle.std.specs.Str.{bytes_eq}
use Rattle.std.proofs.lemmas.List.Recursion.{is_position_or_len}
use Rattle.std.proofs.Math.Numerals.{one-add}
use Rattle.std.proofs.lemmas.Slice.Eq.{bytes_eq-Decides}
use Rattle.indexmap.specs.IndexSet.{insert_key}
use Rattle.cmd_text.specs.Names.{number_in}
use Rattle.cmd_text.proofs.NamesKept.{is_in, true_false}

abbrev place_of : List ℕ → List (List ℕ) → ℕ
place_of n [] = 0
place_of n (m ∷ ms) = if bytes_eq n m then 0 else suc (place_of n ms)

place_is : (n : List ℕ) (ns : List (List ℕ)) → place_of n ns ≡ position_or_len (bytes_eq n) ns
place_is n ns = is_position_or_len (place_of n) (bytes_eq n) refl (λ x xs. ap (λ k. cond (bytes_eq n x) 0 k) (sym (one-add (place_of n xs)))) ns

kept_by : (b : Bool) (n : List ℕ) (ms : List (List ℕ)) → (is_in n ms ≡ true → number_in ms n ≡ place_of n ms) → (b || is_in n ms) ≡ true → (if b then 0 else suc (number_in ms n)) ≡ (if b then 0 else suc (place_of n ms))
kept_by true n ms f h = refl
kept_by false n ms f h = ap suc (f h)

kept : (n : List ℕ) (ns : List (List ℕ)) → is_in n ns ≡ true → number_in ns n ≡ place_of n ns
kept n [] h = true_false (sym h)
kept n (m ∷ ms) h = kept_by (bytes_eq n m) n ms (λ g. kept n ms g) h

self_by : (n : List ℕ) (b : Bool) → b ≡ true → (k : ℕ) → (if b then 0 else k) ≡ 0
self_by n true e k = refl
self_by n false e k = true_false (sym e)

pushed : (n : List ℕ) (ns : List (List ℕ)) → bytes_eq n n ≡ true → number_in (ns ++ n ∷ []) n ≡ place_of n ns
pushed n [] e = self_by n (bytes_eq n n) e _
pushed n (m ∷ ms) e = ap (λ k. if bytes_eq n m then 0 else suc k) (pushed n ms e)

inserted_by : (n : List ℕ) (ns : List (List ℕ)) (b : Bool) → bytes_eq n n ≡ true → is_in n ns ≡ b → number_in (if b then ns else ns ++ n ∷ []) n ≡ place_of n ns
inserted_by n ns true e h = kept n ns h
inserted_by n ns false e h = pushed n ns e

pub inserted_number : (ns : List (List ℕ)) (n : List ℕ) → number_in (insert_key bytes_eq ns n) n ≡ position_or_len (bytes_eq n) ns
inserted_number ns n = inserted_by n ns (is_in n ns) ((bytes_eq-Decides n n).1 refl) refl ∙ place_is n ns

few_by : (b : Bool) (k n : ℕ) → k ≤ n → (if b then 0 else suc k) ≤ n + 1
few_by true k n h = omega arith
few_by false k n h = omega arith

few_places : (n : List ℕ) (ns : List (List ℕ)) → place_of n ns ≤ length ns
few_places n [] = omega arith
few_places n (m ∷ ns) = let h : (if bytes_eq n m then 0 else suc (place_of n ns)) ≤ length ns + 1 = few_by (bytes_eq n m) (place_of n ns) (length ns) (few_places n ns) in omega arith

pub position_few : (ns : List (List ℕ)) (n : List ℕ) → position_or_len (bytes_eq n) ns ≤ length ns
position_few ns n = subst (λ k. k ≤ length ns) (place_is n ns) (few_places n ns)
