-- The names of some symbols of a command.
use Rattle.std.proofs.Common.{◌≡◌, ◌≢◌, ℕ, zero, suc, ◌+◌, ◌<◌, false, true≢false, ◌||◌, List, [], ◌∷◌, ◌++◌, length, get_or, take, drop, refl, sym, ap, ◌∙◌, subst, arith, eq-eqb}
use Rattle.std.specs.Prelude.{IsTrue, nat_eq, if◌then◌else◌}
use Rattle.std.specs.List.{AllByRecursion, IsDistinct, list_any}
use Rattle.std.specs.Str.{bytes_eq}
use Rattle.std.specs.Cmp.Lexicographic.{nat_list_eq_equiv}
use Rattle.std.proofs.lemmas.List.{map-append, take-append-drop, take_more, drop_more}
use Rattle.indexmap.specs.IndexSet.{insert_key}
use Rattle.cmd_tree.specs.Limits.{is_name}
use Rattle.cmd_rename.specs.Symbols.{names_in}

-- ---- names that are put one after another
at_next : (P : List ℕ → Type 0) (ns : List (List ℕ)) (n : List ℕ) (ms : List (List ℕ)) → AllByRecursion P (ns ++ n ∷ ms) → P n
at_next P [] n ms h = h.0
at_next P (m ∷ ns) n ms h = at_next P ns n ms h.1

new_name : (ns : List (List ℕ)) (n : List ℕ) (ms : List (List ℕ)) → IsDistinct bytes_eq (ns ++ n ∷ ms) → list_any (bytes_eq n) ns ≡ false
unfolding IsDistinct
new_name [] n ms h = refl
new_name (m ∷ ns) n ms h = λ k. (nat_list_eq_equiv.symm n m ∙ at_next (λ y. bytes_eq m y ≡ false) ns n ms h.0) k || new_name ns n ms h.1 k

pub names_more : (names : List (List ℕ)) (xs : List ℕ) (i : ℕ) (set more : List (List ℕ)) → i < length xs → IsDistinct bytes_eq (names_in names xs)
    → set ≡ names_in names (take i xs) → more ≡ insert_key bytes_eq set (get_or names (get_or xs i 0) []) → more ≡ names_in names (take (i + 1) xs)
names_more names xs i set more l d s m =
    let x = get_or xs i 0 in
    let rest = drop (i + 1) xs in
    let n = get_or names x [] in
    let ns = names_in names (take i xs) in
    let whole : xs ≡ take i xs ++ x ∷ rest = sym (take-append-drop i xs) ∙ ap (λ ys. take i xs ++ ys) (drop_more xs i 0 l) in
    let split : names_in names xs ≡ ns ++ n ∷ names_in names rest = ap (names_in names) whole ∙ map-append (λ a. get_or names a []) (take i xs) (x ∷ rest) in
    let apart : IsDistinct bytes_eq (ns ++ n ∷ names_in names rest) = subst (IsDistinct bytes_eq) split d in
    m ∙ ap (λ u. insert_key bytes_eq u n) s ∙ ap (λ b. if b then ns else ns ++ n ∷ []) (new_name ns n (names_in names rest) apart)
    ∙ sym (ap (names_in names) (take_more xs i 0 l) ∙ map-append (λ a. get_or names a []) (take i xs) (x ∷ []))

-- ---- what they keep
distinct_at : (ns : List (List ℕ)) (i j : ℕ) → IsDistinct bytes_eq ns → i < length ns → j < length ns → i ≢ j → bytes_eq (get_or ns i []) (get_or ns j []) ≡ false
unfolding IsDistinct
distinct_at [] i j h l k d = absurd (omega (arith, l))
distinct_at (n ∷ ns) zero zero h l k d = absurd (d refl)
distinct_at (n ∷ ns) zero (suc j) h l k d = one ns j h.0 (omega (arith, k))
  where
    one : (ms : List (List ℕ)) (i : ℕ) → AllByRecursion (λ y. bytes_eq n y ≡ false) ms → i < length ms → bytes_eq n (get_or ms i []) ≡ false
    one [] i a f = absurd (omega (arith, f))
    one (m ∷ ms) zero a f = a.0
    one (m ∷ ms) (suc i) a f = one ms i a.1 (omega (arith, f))
distinct_at (n ∷ ns) (suc i) zero h l k d = nat_list_eq_equiv.symm (get_or ns i []) n ∙ one ns i h.0 (omega (arith, l))
  where
    one : (ms : List (List ℕ)) (i : ℕ) → AllByRecursion (λ y. bytes_eq n y ≡ false) ms → i < length ms → bytes_eq n (get_or ms i []) ≡ false
    one [] i a f = absurd (omega (arith, f))
    one (m ∷ ms) zero a f = a.0
    one (m ∷ ms) (suc i) a f = one ms i a.1 (omega (arith, f))
distinct_at (n ∷ ns) (suc i) (suc j) h l k d = distinct_at ns i j h.1 (omega (arith, l)) (omega (arith, k)) (λ q. d (ap suc q))

apart_names : (ns : List (List ℕ)) (x : ℕ) (xs : List ℕ) → IsDistinct bytes_eq ns → x < length ns → AllByRecursion (λ a. a < length ns) xs → AllByRecursion (λ y. nat_eq x y ≡ false) xs → AllByRecursion (λ y. bytes_eq (get_or ns x []) y ≡ false) (names_in ns xs)
apart_names ns x [] h l b d = tt
apart_names ns x (y ∷ xs) h l b d = (distinct_at ns x y h l b.0 (λ q. true≢false (sym (eq-eqb x y q) ∙ d.0)), apart_names ns x xs h l b.1 d.1)

pub names_distinct : (ns : List (List ℕ)) (xs : List ℕ) → IsDistinct bytes_eq ns → AllByRecursion (λ a. a < length ns) xs → IsDistinct nat_eq xs → IsDistinct bytes_eq (names_in ns xs)
unfolding IsDistinct
names_distinct ns [] h b d = tt
names_distinct ns (x ∷ xs) h b d = (apart_names ns x xs h b.0 b.1 d.0, names_distinct ns xs h b.1 d.1)

formed_at : (ns : List (List ℕ)) (i : ℕ) → AllByRecursion (λ n. IsTrue (is_name n)) ns → i < length ns → IsTrue (is_name (get_or ns i []))
formed_at [] i h l = absurd (omega (arith, l))
formed_at (n ∷ ns) zero h l = h.0
formed_at (n ∷ ns) (suc i) h l = formed_at ns i h.1 (omega (arith, l))

pub names_formed : (ns : List (List ℕ)) (xs : List ℕ) → AllByRecursion (λ n. IsTrue (is_name n)) ns → AllByRecursion (λ a. a < length ns) xs → AllByRecursion (λ n. IsTrue (is_name n)) (names_in ns xs)
names_formed ns [] h b = tt
names_formed ns (x ∷ xs) h b = (formed_at ns x h b.0, names_formed ns xs h b.1)
