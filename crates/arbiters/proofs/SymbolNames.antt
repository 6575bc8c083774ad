-- The names of an arbiter's symbols: each is a name, and they differ.
use Rattle.std.proofs.Common.{◌≡◌, ◌≢◌, ℕ, zero, suc, ◌+◌, ◌*◌, ◌%◌, ◌^◌, ◌<◌, ◌≤◌, Bool, true, false, not, ◌&&◌, ◌||◌, List, [], ◌∷◌, ◌++◌, length, flat_map, decimal, codes, refl, sym, ap, ◌∙◌, subst, arith, append_assoc}
use Rattle.std.specs.Prelude.{IsTrue, nat_eq, nat_le, if◌then◌else◌}
use Rattle.std.specs.List.{AllByRecursion, IsDistinct, list_any, list_all, range_with_len}
use Rattle.std.specs.Str.{bytes_eq}
use Rattle.std.specs.Str.Parse.{AllDigits}
use Rattle.std.specs.Cmp.Lexicographic.{nat_list_eq_equiv}
use Rattle.std.proofs.lemmas.Bool.{and_from, le-leb}
use Rattle.std.proofs.lemmas.Fmt.{decimal_by_steps, decimal_injective, decimal_is_IsNumeral, length-decimal-le}
use Rattle.std.proofs.lemmas.List.Folds.{list_all-append}
use Rattle.std.proofs.lemmas.Slice.Eq.{bytes_eq-Decides}
use Rattle.indexmap.specs.IndexSet.{insert_key}
use Rattle.cmd_tree.specs.declared.limits.TheConstants.{MAX_NAME_BYTES}
use Rattle.cmd_tree.specs.Limits.{is_letter, is_tail, is_word, begins_with_letter, is_name}
use Rattle.arbiters.specs.Arbiter.{names_of, arbiter_names}
use Rattle.arbiters.proofs.Ranges.{flat_next}

-- ---- digits

or_middle : (x y z : Bool) → y ≡ true → (x || y || z) ≡ true
or_middle true y z h = refl
or_middle false y z h = ap (λ b. b || z) h

digit_tail : (d : ℕ) → d < 10 → is_tail (48 + d) ≡ true
digit_tail d h = or_middle (is_letter (48 + d)) (nat_le 48 (48 + d) && nat_le (48 + d) 57) (nat_eq (48 + d) 95)
    (and_from (nat_le 48 (48 + d)) (nat_le (48 + d) 57) (le-leb 48 (48 + d) (omega arith)) (le-leb (48 + d) 57 (omega arith)))

digits_tail : (n : ℕ) → n < 2 ^ 64 → list_all is_tail (decimal n) ≡ true
digits_tail n h = decimal_by_steps
    (λ m ds. list_all is_tail ds ≡ true)
    (λ m l. and_from (is_tail (48 + m)) true (digit_tail m l) refl)
    (λ m ds l q. list_all-append is_tail ds ((48 + m % 10) ∷ []) ∙ and_from (list_all is_tail ds) (is_tail (48 + m % 10) && true) q (and_from (is_tail (48 + m % 10)) true (digit_tail (m % 10) (omega arith)) refl))
    n h

no_digits : (n : ℕ) → n < 2 ^ 64 → decimal n ≡ codes "ref" → ⊥
no_digits n h e =
    let digits : AllDigits 10 (codes "ref") = subst (AllDigits 10) e (decimal_is_IsNumeral n h).0.1 in
    let small : 27 < 10 = digits.0 in
    omega arith

bytes_differ : (xs ys : List ℕ) → (xs ≡ ys → ⊥) → bytes_eq xs ys ≡ false
bytes_differ xs ys h = by (bytes_eq xs ys) refl where
  by : (b : Bool) → bytes_eq xs ys ≡ b → bytes_eq xs ys ≡ false
  by true e = absurd (h ((bytes_eq-Decides xs ys).0 e))
  by false e = e

-- ---- each is a name

no_word : (l : ℕ) (ds : List ℕ) → l ≢ 108 → l ≢ 109 → (ds ≡ codes "ref" → ⊥) → is_word (l ∷ ds) ≡ false
no_word l ds a b c =
    let first : bytes_eq (l ∷ ds) (codes "let") ≡ false = bytes_differ (l ∷ ds) (codes "let") (λ e. a (cc)) in
    let second : bytes_eq (l ∷ ds) (codes "main") ≡ false = bytes_differ (l ∷ ds) (codes "main") (λ e. b (cc)) in
    let third : bytes_eq (l ∷ ds) (codes "pref") ≡ false = bytes_differ (l ∷ ds) (codes "pref") (λ e. c (cc)) in
    λ k. first k || second k || third k

named : (l i : ℕ) → is_letter l ≡ true → l ≢ 108 → l ≢ 109 → i ≤ 255 → IsTrue (is_name (l ∷ decimal i))
named l i letter a b h =
    let long : length (decimal i) ≤ 3 = length-decimal-le 3 i (omega arith) (omega arith) (omega arith) in
    let few : nat_le (length (l ∷ decimal i)) MAX_NAME_BYTES ≡ true = le-leb (length (l ∷ decimal i)) MAX_NAME_BYTES (omega arith) in
    let formed : begins_with_letter (l ∷ decimal i) ≡ true = and_from (is_letter l) (list_all is_tail (decimal i)) letter (digits_tail i (omega arith)) in
    let other : not (is_word (l ∷ decimal i)) ≡ true = ap not (no_word l (decimal i) a b (no_digits i (omega arith))) in
    and_from (nat_le (length (l ∷ decimal i)) MAX_NAME_BYTES && begins_with_letter (l ∷ decimal i)) (not (is_word (l ∷ decimal i)))
    (and_from (nat_le (length (l ∷ decimal i)) MAX_NAME_BYTES) (begins_with_letter (l ∷ decimal i)) few formed) other

names_formed : (j k : ℕ) → j + k ≤ 256 → AllByRecursion (λ n. IsTrue (is_name n)) (flat_map names_of (range_with_len j k))
names_formed j zero h = tt
names_formed j (suc k) h = (
  named 97 j refl (omega arith) (omega arith) (omega arith),
  (
    named 112 j refl (omega arith) (omega arith) (omega arith),
    (
      named 99 j refl (omega arith) (omega arith) (omega arith),
      (
        named 101 j refl (omega arith) (omega arith) (omega arith),
        names_formed (j + 1) k (omega arith),
      ),
    ),
  ),
)

pub all_named : (n : ℕ) → n ≤ 255 → AllByRecursion (λ m. IsTrue (is_name m)) (arbiter_names n)
all_named n h = names_formed 1 n (omega arith)

-- ---- they differ

other_number : (l m i j : ℕ) → i < j → j ≤ 255 → bytes_eq (l ∷ decimal i) (m ∷ decimal j) ≡ false
other_number l m i j h b = bytes_differ (l ∷ decimal i) (m ∷ decimal j) (λ e.
    let same : decimal i ≡ decimal j = cc in
    omega (arith, decimal_injective i j (omega arith) (omega arith) same))

other_letter : (l m : ℕ) (ds es : List ℕ) → l ≢ m → bytes_eq (l ∷ ds) (m ∷ es) ≡ false
other_letter l m ds es h = bytes_differ (l ∷ ds) (m ∷ es) (λ e. h (cc))

later : (l i j k : ℕ) → i < j → j + k ≤ 256 → AllByRecursion (λ y. bytes_eq (l ∷ decimal i) y ≡ false) (flat_map names_of (range_with_len j k))
later l i j zero h b = tt
later l i j (suc k) h b = (
  other_number l 97 i j h (omega arith),
  (
    other_number l 112 i j h (omega arith),
    (
      other_number l 99 i j h (omega arith),
      (
        other_number l 101 i j h (omega arith),
        later l i (j + 1) k (omega arith) (omega arith),
      ),
    ),
  ),
)

distinct_from : (j k : ℕ) → j + k ≤ 256 → IsDistinct bytes_eq (flat_map names_of (range_with_len j k))
unfolding IsDistinct
distinct_from j zero h = tt
distinct_from j (suc k) h =
    let d = decimal j in
    let apart : (l m : ℕ) → l ≢ m → bytes_eq (l ∷ d) (m ∷ d) ≡ false = λ l m e. other_letter l m d d e in
    let rest = λ (l : ℕ). later l j (j + 1) k (omega arith) (omega arith) in (
      (apart 97 112 (omega arith), (apart 97 99 (omega arith), (apart 97 101 (omega arith), rest 97))),
      (
        (apart 112 99 (omega arith), (apart 112 101 (omega arith), rest 112)),
        (
          (apart 99 101 (omega arith), rest 99),
          (
            rest 101,
            distinct_from (j + 1) k (omega arith),
          ),
        ),
      ),
    )

pub all_distinct : (n : ℕ) → n ≤ 255 → IsDistinct bytes_eq (arbiter_names n)
all_distinct n h = distinct_from 1 n (omega arith)

names_many : (j k : ℕ) → length (flat_map names_of (range_with_len j k)) ≡ 4 * k
names_many j zero = refl
names_many j (suc k) = omega (arith, names_many (j + 1) k)

pub many_names : (n : ℕ) → length (arbiter_names n) ≡ 4 * n
many_names n = names_many 1 n

-- ---- they are put one after another

at_next : (P : List ℕ → Type 0) (ns : List (List ℕ)) (n : List ℕ) (ms : List (List ℕ)) → AllByRecursion P (ns ++ n ∷ ms) → P n
at_next P [] n ms h = h.0
at_next P (m ∷ ns) n ms h = at_next P ns n ms h.1

new_name : (ns : List (List ℕ)) (n : List ℕ) (ms : List (List ℕ)) → IsDistinct bytes_eq (ns ++ n ∷ ms) → list_any (bytes_eq n) ns ≡ false
unfolding IsDistinct
new_name [] n ms h = refl
new_name (m ∷ ns) n ms h = λ k. (nat_list_eq_equiv.symm n m ∙ at_next (λ y. bytes_eq m y ≡ false) ns n ms h.0) k || new_name ns n ms h.1 k

put_next : (ns : List (List ℕ)) (n : List ℕ) (ms : List (List ℕ)) → IsDistinct bytes_eq (ns ++ n ∷ ms) → insert_key bytes_eq ns n ≡ ns ++ n ∷ []
put_next ns n ms h = ap (λ b. if b then ns else ns ++ n ∷ []) (new_name ns n ms h)

pub four_put : (n : ℕ) (ns a p c e : List (List ℕ)) → n < 255 → ns ≡ arbiter_names n
    → a ≡ insert_key bytes_eq ns (97 ∷ decimal (n + 1)) → p ≡ insert_key bytes_eq a (112 ∷ decimal (n + 1))
    → c ≡ insert_key bytes_eq p (99 ∷ decimal (n + 1)) → e ≡ insert_key bytes_eq c (101 ∷ decimal (n + 1)) → e ≡ arbiter_names (n + 1)
four_put n ns a p c e few old one two three four =
    let d = decimal (n + 1) in
    let os = arbiter_names n in
    let whole : arbiter_names (n + 1) ≡ os ++ (97 ∷ d) ∷ (112 ∷ d) ∷ (99 ∷ d) ∷ (101 ∷ d) ∷ [] = flat_next names_of n in
    let apart : IsDistinct bytes_eq (os ++ (97 ∷ d) ∷ (112 ∷ d) ∷ (99 ∷ d) ∷ (101 ∷ d) ∷ []) = subst (IsDistinct bytes_eq) whole (all_distinct (n + 1) (omega arith)) in
    let after : (ms ys : List (List ℕ)) (x : List ℕ) → ms ++ x ∷ ys ≡ (ms ++ x ∷ []) ++ ys = λ ms ys x. sym (append_assoc ms (x ∷ []) ys) in
    let more = os ++ (97 ∷ d) ∷ [] in
    let ps = more ++ (112 ∷ d) ∷ [] in
    let cs = ps ++ (99 ∷ d) ∷ [] in
    let apart_a = subst (IsDistinct bytes_eq) (after os ((112 ∷ d) ∷ (99 ∷ d) ∷ (101 ∷ d) ∷ []) (97 ∷ d)) apart in
    let apart_p = subst (IsDistinct bytes_eq) (after more ((99 ∷ d) ∷ (101 ∷ d) ∷ []) (112 ∷ d)) apart_a in
    let apart_c = subst (IsDistinct bytes_eq) (after ps ((101 ∷ d) ∷ []) (99 ∷ d)) apart_p in
    let is_a : a ≡ more = one ∙ ap (λ xs. insert_key bytes_eq xs (97 ∷ d)) old ∙ put_next os (97 ∷ d) ((112 ∷ d) ∷ (99 ∷ d) ∷ (101 ∷ d) ∷ []) apart in
    let is_p : p ≡ ps = two ∙ ap (λ xs. insert_key bytes_eq xs (112 ∷ d)) is_a ∙ put_next more (112 ∷ d) ((99 ∷ d) ∷ (101 ∷ d) ∷ []) apart_a in
    let is_c : c ≡ cs = three ∙ ap (λ xs. insert_key bytes_eq xs (99 ∷ d)) is_p ∙ put_next ps (99 ∷ d) ((101 ∷ d) ∷ []) apart_p in
    let is_e : e ≡ cs ++ (101 ∷ d) ∷ [] = four ∙ ap (λ xs. insert_key bytes_eq xs (101 ∷ d)) is_c ∙ put_next cs (101 ∷ d) [] apart_c in
    is_e ∙ sym (after ps ((101 ∷ d) ∷ []) (99 ∷ d)) ∙ sym (after more ((99 ∷ d) ∷ (101 ∷ d) ∷ []) (112 ∷ d)) ∙ sym (after os ((112 ∷ d) ∷ (99 ∷ d) ∷ (101 ∷ d) ∷ []) (97 ∷ d)) ∙ sym whole
