-- Names that are put behind others, and found again.
use Rattle.std.proofs.Common.{◌≡◌, ℕ, zero, suc, ◌+◌, ◌<◌, ◌≤◌, Bool, true, false, ◌||◌, ◌&&◌, cond, List, [], ◌∷◌, ◌++◌, length, get_or, Ok, Err, refl, sym, ◌∙◌, ap, subst, append_assoc, append-nil, ⊎_elim, arith}
use Rattle.std.specs.Prelude.{IsTrue, nat_le}
use Rattle.std.specs.List.{AllByRecursion, IsDistinct, list_any, position_or_len}
use Rattle.std.specs.Str.{bytes_eq}
use Rattle.std.specs.Cmp.Lexicographic.{nat_list_eq_equiv}
use Rattle.std.proofs.lemmas.Bool.{cases_Bool, and_parts, leb-true, le-leb}
use Rattle.std.proofs.lemmas.Slice.Eq.{bytes_eq-Decides}
use Rattle.std.proofs.lemmas.List.Recursion.{is_position_or_len}
use Rattle.std.proofs.Math.Numerals.{one-add}
use Rattle.indexmap.specs.IndexSet.{insert_key}
use Rattle.cmd_tree.specs.Limits.{is_name}
use Rattle.trace_laws.specs.Mirror.Reading.{with_names}

pub true_false : {P : Type 0} → true ≡ false → P
true_false e = absurd (cc)

pub ok_err : {A P : Type 0} {a : A} {n : ℕ} → Ok a ≡ Err n → P
ok_err e = absurd (cc)

abbrev pub is_in : List ℕ → List (List ℕ) → Bool
is_in n ns = list_any (bytes_eq n) ns

abbrev pub AreNames : List (List ℕ) → Type 0
AreNames ns = AllByRecursion (λ n. IsTrue (is_name n)) ns

-- ---- a name is the last of its kind where no other is before it
abbrev place : List ℕ → List (List ℕ) → ℕ
place n [] = 0
place n (m ∷ ms) = cond (bytes_eq n m) 0 (1 + place n ms)

place_is : (n : List ℕ) (ns : List (List ℕ)) → place n ns ≡ position_or_len (bytes_eq n) ns
place_is n ns = is_position_or_len (place n) (bytes_eq n) refl (λ x xs. refl) ns

place_few : (n : List ℕ) (ns : List (List ℕ)) → place n ns ≤ length ns
place_few n [] = omega arith
place_few n (m ∷ ms) = by (bytes_eq n m) (place_few n ms)
  where
    by : (b : Bool) → place n ms ≤ length ms → cond b 0 (1 + place n ms) ≤ length (m ∷ ms)
    by true h = omega arith
    by false h = omega arith

in_place : (n : List ℕ) (ns : List (List ℕ)) → is_in n ns ≡ true → place n ns < length ns
in_place n [] e = true_false (sym e)
in_place n (m ∷ ms) e = by (bytes_eq n m) e (in_place n ms)
  where
    by : (b : Bool) → (b || is_in n ms) ≡ true → (is_in n ms ≡ true → place n ms < length ms) → cond b 0 (1 + place n ms) < length (m ∷ ms)
    by true h f = omega arith
    by false h f = let l = f h in omega arith

out_place : (n : List ℕ) (ns : List (List ℕ)) → is_in n ns ≡ false → place n ns ≡ length ns
out_place n [] e = refl
out_place n (m ∷ ms) e = by (bytes_eq n m) e (out_place n ms)
  where
    by : (b : Bool) → (b || is_in n ms) ≡ false → (is_in n ms ≡ false → place n ms ≡ length ms) → cond b 0 (1 + place n ms) ≡ length (m ∷ ms)
    by true h f = true_false h
    by false h f = let l = f h in omega arith

-- the word at this place
at_place : (n : List ℕ) (ns : List (List ℕ)) → place n ns < length ns → get_or ns (place n ns) [] ≡ n
at_place n [] l = absurd (omega (arith, l))
at_place n (m ∷ ms) l = ⊎_elim here (there (at_place n ms)) (cases_Bool (bytes_eq n m))
  where
    here : bytes_eq n m ≡ true → get_or (m ∷ ms) (place n (m ∷ ms)) [] ≡ n
    here t = ap (λ b. get_or (m ∷ ms) (cond b 0 (1 + place n ms)) []) t ∙ sym ((bytes_eq-Decides n m).0 t)

    shorter : bytes_eq n m ≡ false → place n ms < length ms
    shorter f = let k : place n (m ∷ ms) ≡ 1 + place n ms = ap (λ b. cond b 0 (1 + place n ms)) f in omega (arith, k, l)

    there : (place n ms < length ms → get_or ms (place n ms) [] ≡ n) → bytes_eq n m ≡ false → get_or (m ∷ ms) (place n (m ∷ ms)) [] ≡ n
    there r f = ap (λ b. get_or (m ∷ ms) (cond b 0 (1 + place n ms)) []) f ∙ ap (λ k. get_or (m ∷ ms) k []) (one-add (place n ms)) ∙ r (shorter f)

pub found_name : (n : List ℕ) (ns : List (List ℕ)) → position_or_len (bytes_eq n) ns < length ns → get_or ns (position_or_len (bytes_eq n) ns) [] ≡ n
found_name n ns l = subst (λ k. k < length ns → get_or ns k [] ≡ n) (place_is n ns) (at_place n ns) l

in_or_out : (n : List ℕ) (ns : List (List ℕ)) → position_or_len (bytes_eq n) ns < length ns → is_in n ns ≡ true
in_or_out n ns l = ⊎_elim (λ t. t) (λ f. absurd (let o = out_place n ns f in omega (arith, o, l, place_is n ns))) (cases_Bool (is_in n ns))

pub kept_name : (n : List ℕ) (ns : List (List ℕ)) → position_or_len (bytes_eq n) ns < length ns → insert_key bytes_eq ns n ≡ ns
kept_name n ns l = ap (λ b. cond b ns (ns ++ n ∷ [])) (in_or_out n ns l)

new_name : (n : List ℕ) (ns : List (List ℕ)) → length ns ≤ position_or_len (bytes_eq n) ns → is_in n ns ≡ false
new_name n ns l = ⊎_elim (λ t. absurd (let o = in_place n ns t in omega (arith, o, l, place_is n ns))) (λ f. f) (cases_Bool (is_in n ns))

pub put_name : (n : List ℕ) (ns : List (List ℕ)) → is_in n ns ≡ false → insert_key bytes_eq ns n ≡ ns ++ n ∷ []
put_name n ns f = ap (λ b. cond b ns (ns ++ n ∷ [])) f

new_place : (n : List ℕ) (ns : List (List ℕ)) → is_in n ns ≡ false → length ns ≤ position_or_len (bytes_eq n) ns
new_place n ns f = let o = out_place n ns f in omega (arith, o, place_is n ns)

-- ---- different names
apart : (n x : List ℕ) (xs : List (List ℕ)) → (bytes_eq n x || is_in n xs) ≡ false → (bytes_eq n x ≡ false) × (is_in n xs ≡ false)
apart n x xs h = by (bytes_eq n x) h
  where
    by : (b : Bool) → (b || is_in n xs) ≡ false → (b ≡ false) × (is_in n xs ≡ false)
    by true e = true_false e
    by false e = (refl, e)

last_apart : (ns : List (List ℕ)) (n : List ℕ) (rest : List (List ℕ)) → IsDistinct bytes_eq (ns ++ n ∷ rest) → is_in n ns ≡ false
unfolding IsDistinct
last_apart [] n rest h = refl
last_apart (m ∷ ns) n rest h = let a : bytes_eq n m ≡ false = nat_list_eq_equiv.symm n m ∙ at_end ns h.0 in ap (λ b. b || is_in n ns) a ∙ last_apart ns n rest h.1
  where
    at_end : (ks : List (List ℕ)) → AllByRecursion (λ y. bytes_eq m y ≡ false) (ks ++ n ∷ rest) → bytes_eq m n ≡ false
    at_end [] g = g.0
    at_end (k ∷ ks) g = at_end ks g.1

others_pushed : (x n : List ℕ) (ns : List (List ℕ)) → AllByRecursion (λ y. bytes_eq x y ≡ false) ns → bytes_eq x n ≡ false → AllByRecursion (λ y. bytes_eq x y ≡ false) (ns ++ n ∷ [])
others_pushed x n [] h e = (e, tt)
others_pushed x n (m ∷ ns) h e = (h.0, others_pushed x n ns h.1 e)

distinct_pushed : (ns : List (List ℕ)) (n : List ℕ) → IsDistinct bytes_eq ns → is_in n ns ≡ false → IsDistinct bytes_eq (ns ++ n ∷ [])
unfolding IsDistinct
distinct_pushed [] n h e = (tt, tt)
distinct_pushed (m ∷ ns) n h e = let a = apart n m ns e in (others_pushed m n ns h.0 (nat_list_eq_equiv.symm m n ∙ a.0), distinct_pushed ns n h.1 a.1)

pub distinct_none : IsDistinct bytes_eq []
unfolding IsDistinct
distinct_none = tt

pub distinct_front : (ns ms : List (List ℕ)) → IsDistinct bytes_eq (ns ++ ms) → IsDistinct bytes_eq ns
unfolding IsDistinct
distinct_front [] ms h = tt
distinct_front (n ∷ ns) ms h = (all_front ns h.0, distinct_front ns ms h.1)
  where
    all_front : (ks : List (List ℕ)) → AllByRecursion (λ y. bytes_eq n y ≡ false) (ks ++ ms) → AllByRecursion (λ y. bytes_eq n y ≡ false) ks
    all_front [] g = tt
    all_front (k ∷ ks) g = (g.0, all_front ks g.1)

-- the place of a name among different names
other_name : (m : List ℕ) (ks : List (List ℕ)) (b : ℕ) → AllByRecursion (λ y. bytes_eq m y ≡ false) ks → b < length ks → bytes_eq m (get_or ks b []) ≡ false
other_name m [] b g j = absurd (omega (arith, j))
other_name m (k ∷ ks) zero g j = g.0
other_name m (k ∷ ks) (suc b) g j = other_name m ks b g.1 (omega (arith, j))

place_own : (ns : List (List ℕ)) (a : ℕ) → IsDistinct bytes_eq ns → a < length ns → place (get_or ns a []) ns ≡ a
unfolding IsDistinct
place_own [] a d l = absurd (omega (arith, l))
place_own (m ∷ ms) zero d l = ap (λ b. cond b 0 (1 + place m ms)) ((bytes_eq-Decides m m).1 refl)
place_own (m ∷ ms) (suc a) d l =
    let k : a < length ms = omega (arith, l) in
    let f : bytes_eq (get_or ms a []) m ≡ false = nat_list_eq_equiv.symm (get_or ms a []) m ∙ other_name m ms a d.0 k in
    let r : place (get_or ms a []) ms ≡ a = place_own ms a d.1 k in
    ap (λ b. cond b 0 (1 + place (get_or ms a []) ms)) f ∙ ap (λ j. 1 + j) r ∙ one-add a

pub own_place : (ns : List (List ℕ)) (a : ℕ) → IsDistinct bytes_eq ns → a < length ns → position_or_len (bytes_eq (get_or ns a [])) ns ≡ a
own_place ns a d l = sym (place_is (get_or ns a []) ns) ∙ place_own ns a d l

-- ---- names put behind others
with_one : (line : ℕ) (names : List (List ℕ)) (w : List ℕ) (ws : List (List ℕ)) → IsTrue (is_name w) → is_in w names ≡ false → with_names line names (w ∷ ws) ≡ with_names line (names ++ w ∷ []) ws
with_one line names w ws n f =
    let t : (is_name w && nat_le (length names) (position_or_len (bytes_eq w) names)) ≡ true = ap (λ b. b && nat_le (length names) (position_or_len (bytes_eq w) names)) n ∙ le-leb (length names) (position_or_len (bytes_eq w) names) (new_place w names f) in
    ap (λ b. cond b (with_names line (insert_key bytes_eq names w) ws) (Err line)) t ∙ ap (λ ns. with_names line ns ws) (put_name w names f)

pub names_put : (line : ℕ) (names ws : List (List ℕ)) → AreNames ws → IsDistinct bytes_eq (names ++ ws) → with_names line names ws ≡ Ok (names ++ ws)
names_put line names [] n d = ap Ok (sym (append-nil names))
names_put line names (w ∷ ws) n d =
    let e : names ++ w ∷ ws ≡ (names ++ w ∷ []) ++ ws = sym (append_assoc names (w ∷ []) ws) in
    with_one line names w ws n.0 (last_apart names w ws d) ∙ names_put line (names ++ w ∷ []) ws n.1 (subst (IsDistinct bytes_eq) e d) ∙ ap Ok (sym e)

pub record Put (names ws all : List (List ℕ)) : Type 0 where
  pub is : all ≡ names ++ ws
  pub formed : AreNames ws
  pub distinct : IsDistinct bytes_eq all

pub put_names : (line : ℕ) (names ws all : List (List ℕ)) → IsDistinct bytes_eq names → with_names line names ws ≡ Ok all → Put names ws all
put_names line names [] all d e = record { is = (let s : all ≡ names = cc in s) ∙ sym (append-nil names); formed = tt; distinct = subst (IsDistinct bytes_eq) (let s : names ≡ all = cc in s) d }
put_names line names (w ∷ ws) all d e = ⊎_elim (yes (put_names line (names ++ w ∷ []) ws all)) not_so (cases_Bool (is_name w && nat_le (length names) (position_or_len (bytes_eq w) names)))
  where
    yes : (IsDistinct bytes_eq (names ++ w ∷ []) → with_names line (names ++ w ∷ []) ws ≡ Ok all → Put (names ++ w ∷ []) ws all)
        → (is_name w && nat_le (length names) (position_or_len (bytes_eq w) names)) ≡ true → Put names (w ∷ ws) all
    yes later t =
        let p = and_parts (is_name w) (nat_le (length names) (position_or_len (bytes_eq w) names)) t in
        let f = new_name w names (leb-true (length names) (position_or_len (bytes_eq w) names) p.1) in
        let g : with_names line (names ++ w ∷ []) ws ≡ Ok all = sym (with_one line names w ws p.0 f) ∙ e in
        let r = later (distinct_pushed names w d f) g in
        record { is = r.is ∙ append_assoc names (w ∷ []) ws; formed = (p.0, r.formed); distinct = r.distinct }

    not_so : (is_name w && nat_le (length names) (position_or_len (bytes_eq w) names)) ≡ false → Put names (w ∷ ws) all
    not_so f = ok_err (sym (sym (ap (λ b. cond b (with_names line (insert_key bytes_eq names w) ws) (Err line)) f) ∙ e))

-- a refusal is of this line
pub names_line : (line : ℕ) (names ws : List (List ℕ)) (n : ℕ) → with_names line names ws ≡ Err n → n ≡ line
names_line line names [] n e = ok_err e
names_line line names (w ∷ ws) n e = by (is_name w && nat_le (length names) (position_or_len (bytes_eq w) names)) (names_line line (insert_key bytes_eq names w) ws n) e
  where
    by : (b : Bool) → (with_names line (insert_key bytes_eq names w) ws ≡ Err n → n ≡ line) → cond b (with_names line (insert_key bytes_eq names w) ws) (Err line) ≡ Err n → n ≡ line
    by true f h = f h
    by false f h = cc
