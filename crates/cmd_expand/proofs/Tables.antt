-- Steps of the tables.
use Rattle.std.proofs.Common.{◌≡◌, ◌≢◌, ℕ, suc, ◌+◌, ◌<◌, take, drop, length, get_or, subst, Bool, ◌||◌, true, false, List, [], ◌∷◌, ◌++◌, Option, Some, None, refl, sym, ap, ◌∙◌, arith, eqb-true, eq-eqb, true≢false}
use Rattle.std.specs.Prelude.{nat_eq, if◌then◌else◌, is_some}
use Rattle.std.proofs.lemmas.List.{take_more, drop_more}
use Rattle.cmd_tree.specs.Lists.{is_in}
use Rattle.cmd_rename.specs.Table.{entry, IsListed}
use Rattle.cmd_expand.specs.declared.pairs.Pair.{Pair}
use Rattle.cmd_expand.specs.Pairs.{count_of, fault_of_pair, or_later, first_fault, first_fault_from}
use Rattle.cmd_expand.specs.Mirror.Tables.{tally, Tallies, old_names_behind, old_names}

count_push : (a x : ℕ) (xs : List ℕ) (b : Bool) → nat_eq a x ≡ b → count_of a (xs ++ x ∷ []) ≡ (if b then suc (count_of a xs) else count_of a xs)
count_push a x [] true e = ap (λ c. if c then 1 + 0 else 0) e
count_push a x [] false e = ap (λ c. if c then 1 + 0 else 0) e
count_push a x (y ∷ xs) b e = by (nat_eq a y) b (count_push a x xs b e)
  where
    by : (c d : Bool) → count_of a (xs ++ x ∷ []) ≡ (if d then suc (count_of a xs) else count_of a xs)
        → (if c then 1 + count_of a (xs ++ x ∷ []) else count_of a (xs ++ x ∷ [])) ≡ (if d then suc (if c then 1 + count_of a xs else count_of a xs) else (if c then 1 + count_of a xs else count_of a xs))
    by true true h = omega (arith, h)
    by true false h = omega (arith, h)
    by false true h = h
    by false false h = h

pub tallies_push : (t u : List (Option ℕ)) (xs : List ℕ) (x k : ℕ) → Tallies t xs → ((n : ℕ) → entry t x ≡ tally n → tally (suc n) ≡ Some k) → entry u x ≡ Some k
    → ((a : ℕ) → a ≢ x → entry u a ≡ entry t a) → Tallies u (xs ++ x ∷ [])
tallies_push t u xs x k h f here others a = by (nat_eq a x) refl
  where
    by : (b : Bool) → nat_eq a x ≡ b → entry u a ≡ tally (count_of a (xs ++ x ∷ []))
    by true e = let same : a ≡ x = eqb-true a x e in
        ap (entry u) same ∙ here ∙ sym (f (count_of x xs) (h x)) ∙ ap (λ n. tally n) (ap (λ c. suc (count_of c xs)) (sym same) ∙ sym (count_push a x xs true e))
    by false e = others a (λ q. true≢false (sym (eq-eqb a x q) ∙ e)) ∙ h a ∙ ap (λ n. tally n) (sym (count_push a x xs false e))

old_push : (es : List ℕ) (ps : List Pair) (p : Pair) → old_names_behind es (ps ++ p ∷ []) ≡ p.was ∷ old_names_behind es ps
old_push es [] p = refl
old_push es (q ∷ ps) p = old_push (q.was ∷ es) ps p

pub old_names_push : (ps : List Pair) (p : Pair) → old_names (ps ++ p ∷ []) ≡ p.was ∷ old_names ps
old_names_push ps p = old_push [] ps p

pub listed_cons : (t u : List (Option ℕ)) (xs : List ℕ) (x k : ℕ) → IsListed t xs → entry u x ≡ Some k → ((a : ℕ) → a ≢ x → entry u a ≡ entry t a) → IsListed u (x ∷ xs)
listed_cons t u xs x k h here others a = by (nat_eq a x) refl
  where
    by : (b : Bool) → nat_eq a x ≡ b → is_some (entry u a) ≡ (b || is_in a xs)
    by true e = ap is_some (ap (entry u) (eqb-true a x e) ∙ here)
    by false e = ap is_some (others a (λ q. true≢false (sym (eq-eqb a x q) ∙ e))) ∙ h a

pub checked_old : (t u : List (Option ℕ)) (ps : List Pair) (i k : ℕ) (d : Pair) → i < length ps → IsListed t (old_names (take i ps)) → entry u (get_or ps i d).was ≡ Some k
    → ((a : ℕ) → a ≢ (get_or ps i d).was → entry u a ≡ entry t a) → IsListed u (old_names (take (i + 1) ps))
checked_old t u ps i k d l h here others =
    let e : old_names (take (i + 1) ps) ≡ (get_or ps i d).was ∷ old_names (take i ps) = ap old_names (take_more ps i d l) ∙ old_names_push (take i ps) (get_or ps i d) in
    subst (IsListed u) (sym e) (listed_cons t u (old_names (take i ps)) (get_or ps i d).was k h here others)

pub checked_whole : (xs : List ℕ) (ps : List Pair) (i : ℕ) (d : Pair) → i < length ps → first_fault xs ps ≡ first_fault_from xs ps (old_names (take i ps)) (drop i ps)
    → fault_of_pair xs ps (old_names (take i ps)) (get_or ps i d) ≡ None → first_fault xs ps ≡ first_fault_from xs ps (old_names (take (i + 1) ps)) (drop (i + 1) ps)
checked_whole xs ps i d l h n =
    h ∙ ap (first_fault_from xs ps (old_names (take i ps))) (drop_more ps i d l)
    ∙ ap (λ o. or_later o (first_fault_from xs ps ((get_or ps i d).was ∷ old_names (take i ps)) (drop (i + 1) ps))) n
    ∙ ap (λ es. first_fault_from xs ps es (drop (i + 1) ps)) (sym (ap old_names (take_more ps i d l) ∙ old_names_push (take i ps) (get_or ps i d)))
