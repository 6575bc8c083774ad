-- The table of names finds each name at its place in the list.
use Rattle.std.proofs.Common.{◌≡◌, ℕ, ◌+◌, Bool, true, false, ◌||◌, cond, List, [], ◌∷◌, ◌++◌, length, Option, Some, None, refl, sym, ◌∙◌, ap, subst, ⊎_elim, append_assoc, append-nil, arith}
use Rattle.std.specs.List.{AllByRecursion, IsDistinct, list_any, position, position_from, position_or_len, fold}
use Rattle.std.specs.Str.{bytes_eq}
use Rattle.std.specs.Ordering.{is_eq}
use Rattle.std.specs.Cmp.Lexicographic.{nat_list_eq_equiv}
use Rattle.std.proofs.lemmas.Bool.{cases_Bool, ltb-false}
use Rattle.std.proofs.lemmas.Iterator.Adapters.{position_from-zero}
use Rattle.std.proofs.lemmas.Slice.Eq.{bytes_eq-Decides}
use Rattle.indexmap.specs.IndexSet.{insert_key}
use Rattle.cmd_text.specs.Mirror.Tables.{key_cmp}
use Rattle.cmd_text.specs.Mirror.Keys.{key_eq}
use Rattle.cmd_text.proofs.NamesKept.{is_in, true_false}
use Rattle.cmd_text.proofs.Numbers.{position_few}

some_not : {P : Type 0} {k : ℕ} → Some k ≡ None → P
some_not e = absurd (cc)

-- ---- where a test passes, by recursion
none_any : (t : List ℕ → Bool) (i : ℕ) (xs : List (List ℕ)) → position_from t i xs ≡ None → list_any t xs ≡ false
none_any t i [] h = refl
none_any t i (x ∷ xs) h = by (t x) h (none_any t (i + 1) xs)
  where
    by : (b : Bool) → cond b (Some i) (position_from t (i + 1) xs) ≡ None → (position_from t (i + 1) xs ≡ None → list_any t xs ≡ false) → (b || list_any t xs) ≡ false
    by true e f = some_not e
    by false e f = f e

some_any : (t : List ℕ → Bool) (i k : ℕ) (xs : List (List ℕ)) → position_from t i xs ≡ Some k → list_any t xs ≡ true
some_any t i k [] h = some_not (sym h)
some_any t i k (x ∷ xs) h = by (t x) h (some_any t (i + 1) k xs)
  where
    by : (b : Bool) → cond b (Some i) (position_from t (i + 1) xs) ≡ Some k → (position_from t (i + 1) xs ≡ Some k → list_any t xs ≡ true) → (b || list_any t xs) ≡ true
    by true e f = refl
    by false e f = f e

-- the first of two
abbrev or_else : Option ℕ → Option ℕ → Option ℕ
or_else None o = o
or_else (Some k) o = Some k

pushed_from : (t : List ℕ → Bool) (i : ℕ) (xs : List (List ℕ)) (y : List ℕ) → position_from t i (xs ++ y ∷ []) ≡ or_else (position_from t i xs) (cond (t y) (Some (i + length xs)) None)
pushed_from t i [] y = let e : i ≡ i + 0 = omega arith in ap (λ k. cond (t y) (Some k) None) e
pushed_from t i (x ∷ xs) y = by (t x) (pushed_from t (i + 1) xs y ∙ (let e : (i + 1) + length xs ≡ i + length (x ∷ xs) = omega arith in ap (λ k. or_else (position_from t (i + 1) xs) (cond (t y) (Some k) None)) e))
  where
    by : (b : Bool) → position_from t (i + 1) (xs ++ y ∷ []) ≡ or_else (position_from t (i + 1) xs) (cond (t y) (Some (i + length (x ∷ xs))) None)
        → cond b (Some i) (position_from t (i + 1) (xs ++ y ∷ [])) ≡ or_else (cond b (Some i) (position_from t (i + 1) xs)) (cond (t y) (Some (i + length (x ∷ xs))) None)
    by true e = refl
    by false e = e

position_is : (n : List ℕ) (ns : List (List ℕ)) → position (bytes_eq n) ns ≡ position_from (bytes_eq n) 0 ns
position_is n ns = position_from-zero (bytes_eq n) ns

-- ---- a name that is found, and one that is not
pub found_kept : (ns : List (List ℕ)) (n : List ℕ) (k : ℕ) → position (bytes_eq n) ns ≡ Some k → insert_key bytes_eq ns n ≡ ns
found_kept ns n k e = ap (λ b. cond b ns (ns ++ n ∷ [])) (some_any (bytes_eq n) 0 k ns (sym (position_is n ns) ∙ e))

missing : (ns : List (List ℕ)) (n : List ℕ) → position (bytes_eq n) ns ≡ None → is_in n ns ≡ false
missing ns n e = none_any (bytes_eq n) 0 ns (sym (position_is n ns) ∙ e)

pub missing_pushed : (ns : List (List ℕ)) (n : List ℕ) → position (bytes_eq n) ns ≡ None → insert_key bytes_eq ns n ≡ ns ++ n ∷ []
missing_pushed ns n e = ap (λ b. cond b ns (ns ++ n ∷ [])) (missing ns n e)

pub missing_last : (ns : List (List ℕ)) (n : List ℕ) → position (bytes_eq n) ns ≡ None → position_or_len (bytes_eq n) ns ≡ length ns
missing_last ns n e = omega (arith, position_few ns n, ltb-false (position_or_len (bytes_eq n) ns) (length ns) (by _ _ e))
  where
    by : (b : Bool) (k : ℕ) → cond b (Some k) None ≡ None → b ≡ false
    by true k h = some_not h
    by false k h = refl

-- the table finds each name of the longer list
pub finds_pushed : (ns : List (List ℕ)) (n : List ℕ) (g h : List ℕ → Option ℕ) → ((q : List ℕ) → h q ≡ cond (is_eq (key_cmp n q)) (Some (length ns)) (g q)) → ((q : List ℕ) → g q ≡ position (bytes_eq q) ns) → position (bytes_eq n) ns ≡ None → (q : List ℕ) → h q ≡ position (bytes_eq q) (ns ++ n ∷ [])
finds_pushed ns n g h new old out q = new q ∙ ap (λ b. cond b (Some (length ns)) (g q)) (sym (key_eq n q))
    ∙ ap (λ o. cond (bytes_eq n q) (Some (length ns)) o) (old q ∙ position_is q ns)
    ∙ ⊎_elim here other (cases_Bool (bytes_eq n q))
    ∙ sym (pushed_from (bytes_eq q) 0 ns n)
    ∙ sym (position_is q (ns ++ n ∷ []))
  where
    Goal : Type 0
    Goal = cond (bytes_eq n q) (Some (length ns)) (position_from (bytes_eq q) 0 ns) ≡ or_else (position_from (bytes_eq q) 0 ns) (cond (bytes_eq q n) (Some (0 + length ns)) None)

    here_by : (o : Option ℕ) (a b : Bool) → o ≡ None → a ≡ true → b ≡ true → cond a (Some (length ns)) o ≡ or_else o (cond b (Some (0 + length ns)) None)
    here_by (Some k) a b e f d = some_not e
    here_by None true true e f d = let z : length ns ≡ 0 + length ns = omega arith in ap Some z
    here_by None true false e f d = true_false (sym d)
    here_by None false b e f d = true_false (sym f)

    here : bytes_eq n q ≡ true → Goal
    here e = here_by (position_from (bytes_eq q) 0 ns) (bytes_eq n q) (bytes_eq q n) (subst (λ r. position_from (bytes_eq r) 0 ns ≡ None) ((bytes_eq-Decides n q).0 e) (sym (position_is n ns) ∙ out)) e (nat_list_eq_equiv.symm q n ∙ e)

    other_by : (o : Option ℕ) (a b : Bool) → a ≡ false → b ≡ false → cond a (Some (length ns)) o ≡ or_else o (cond b (Some (0 + length ns)) None)
    other_by o true b e d = true_false e
    other_by o false true e d = true_false d
    other_by None false false e d = refl
    other_by (Some k) false false e d = refl

    other : bytes_eq n q ≡ false → Goal
    other e = other_by (position_from (bytes_eq q) 0 ns) (bytes_eq n q) (bytes_eq q n) e (nat_list_eq_equiv.symm q n ∙ e)

-- ---- different names stay different
apart_by : (n x : List ℕ) (xs : List (List ℕ)) → (bytes_eq n x || is_in n xs) ≡ false → (bytes_eq n x ≡ false) × (is_in n xs ≡ false)
apart_by n x xs h = by (bytes_eq n x) h
  where
    by : (b : Bool) → (b || is_in n xs) ≡ false → (b ≡ false) × (is_in n xs ≡ false)
    by true e = true_false e
    by false e = (refl, e)

others_pushed : (x n : List ℕ) (ns : List (List ℕ)) → AllByRecursion (λ y. bytes_eq x y ≡ false) ns → bytes_eq x n ≡ false → AllByRecursion (λ y. bytes_eq x y ≡ false) (ns ++ n ∷ [])
others_pushed x n [] h e = (e, tt)
others_pushed x n (m ∷ ns) h e = (h.0, others_pushed x n ns h.1 e)

pub distinct_none : IsDistinct bytes_eq []
unfolding IsDistinct
distinct_none = tt

pub distinct_pushed : (ns : List (List ℕ)) (n : List ℕ) → IsDistinct bytes_eq ns → is_in n ns ≡ false → IsDistinct bytes_eq (ns ++ n ∷ [])
unfolding IsDistinct
distinct_pushed [] n h e = (tt, tt)
distinct_pushed (m ∷ ns) n h e = let a = apart_by n m ns e in (others_pushed m n ns h.0 (nat_list_eq_equiv.symm m n ∙ a.0), distinct_pushed ns n h.1 a.1)

pub missing_distinct : (ns : List (List ℕ)) (n : List ℕ) → IsDistinct bytes_eq ns → position (bytes_eq n) ns ≡ None → IsDistinct bytes_eq (ns ++ n ∷ [])
missing_distinct ns n h e = distinct_pushed ns n h (missing ns n e)

-- ---- put in one by one they are the list
last_apart : (ns : List (List ℕ)) (n : List ℕ) (rest : List (List ℕ)) → IsDistinct bytes_eq (ns ++ n ∷ rest) → is_in n ns ≡ false
unfolding IsDistinct
last_apart [] n rest h = refl
last_apart (m ∷ ns) n rest h = let a : bytes_eq n m ≡ false = nat_list_eq_equiv.symm n m ∙ at_end ns h.0 in ap (λ b. b || is_in n ns) a ∙ last_apart ns n rest h.1
  where
    at_end : (ks : List (List ℕ)) → AllByRecursion (λ y. bytes_eq m y ≡ false) (ks ++ n ∷ rest) → bytes_eq m n ≡ false
    at_end [] g = g.0
    at_end (k ∷ ks) g = at_end ks g.1

all_put : (ns acc : List (List ℕ)) → IsDistinct bytes_eq (acc ++ ns) → fold (insert_key bytes_eq) acc ns ≡ acc ++ ns
all_put [] acc h = sym (append-nil acc)
all_put (n ∷ ns) acc h = ap (λ k. fold (insert_key bytes_eq) k ns) (ap (λ b. cond b acc (acc ++ n ∷ [])) (last_apart acc n ns h))
    ∙ all_put ns (acc ++ n ∷ []) (subst (IsDistinct bytes_eq) (sym (append_assoc acc (n ∷ []) ns)) h)
    ∙ append_assoc acc (n ∷ []) ns

pub put_all : (ns : List (List ℕ)) → IsDistinct bytes_eq ns → fold (insert_key bytes_eq) [] ns ≡ ns
put_all ns h = all_put ns [] h
