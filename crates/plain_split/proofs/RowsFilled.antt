-- What rows have that are filled link by link.
use Rattle.std.proofs.Common.{◌≡◌, inl, inr, ℕ, suc, ◌+◌, ◌<◌, Bool, true, false, true≢false, ◌||◌, cond, List, [], ◌∷◌, ◌++◌, map, length, get_or, replicate, refl, sym, ap, ◌∙◌, subst, arith, append-nil, append_assoc, eq-eqb, ne_eqb}
use Rattle.std.specs.Prelude.{filter, nat_eq, not}
use Rattle.std.specs.List.{AllByRecursion, range_with_len, position_or_len}
use Rattle.std.proofs.Math.ListN.{set}
use Rattle.std.proofs.lemmas.Bool.{cases_eq}
use Rattle.std.proofs.lemmas.List.{ext_get_or, length-set, get_or-set_same, get_or-set_other, get_or-replicate, length-replicate, map-append}
use Rattle.std.proofs.lemmas.List.Elements.{filter-append}
use Rattle.std.proofs.lemmas.List.FromFn.{length-map-range_with_len, get_or-map-range_with_len}
use Rattle.cmd_tree.specs.Lists.{is_in}
use Rattle.net_laws.proofs.Among.{Among, Distinct}
use Rattle.plain_split.specs.declared.rows.Link.{Link}
use Rattle.plain_split.specs.Mirror.Rows.{with_link, with_links, tos, back_from, back, first_or}
use Rattle.plain_split.proofs.RoundsRoutes.{in_among}

-- ---- filled rows
links_long : (ls : List Link) (rows : List (List ℕ)) → length (with_links ls rows) ≡ length rows
links_long [] rows = refl
links_long (l ∷ ls) rows = links_long ls (with_link l rows) ∙ length-set rows l.from (get_or rows l.from [] ++ l.to ∷ [])

row_filled : (k : ℕ) (ls : List Link) (rows : List (List ℕ)) → k < length rows → get_or (with_links ls rows) k [] ≡ get_or rows k [] ++ tos ls k
row_filled k [] rows low = sym (append-nil (get_or rows k []))
row_filled k (l ∷ ls) rows low =
    row_filled k ls (with_link l rows) (omega (arith, low, length-set rows l.from (get_or rows l.from [] ++ l.to ∷ [])))
    ∙ elim (cases_eq l.from k) [
      | inl same ↦ ap (λ xs. xs ++ tos ls k) (here same) ∙ append_assoc (get_or rows k []) (l.to ∷ []) (tos ls k)
          ∙ ap (λ b. get_or rows k [] ++ map (λ (m : Link). m.to) (cond b (l ∷ filter (λ (m : Link). nat_eq m.from k) ls) (filter (λ (m : Link). nat_eq m.from k) ls))) (sym (eq-eqb l.from k same))
      | inr other ↦ ap (λ xs. xs ++ tos ls k) (get_or-set_other rows l.from k (get_or rows l.from [] ++ l.to ∷ []) [] (λ e. other (sym e)))
          ∙ ap (λ b. get_or rows k [] ++ map (λ (m : Link). m.to) (cond b (l ∷ filter (λ (m : Link). nat_eq m.from k) ls) (filter (λ (m : Link). nat_eq m.from k) ls))) (sym (ne_eqb l.from k other))
    ]
  where
    here : l.from ≡ k → get_or (with_link l rows) k [] ≡ get_or rows k [] ++ l.to ∷ []
    here same =
        ap (λ i. get_or (set rows i (get_or rows i [] ++ l.to ∷ [])) k []) same
        ∙ get_or-set_same rows k (get_or rows k [] ++ l.to ∷ []) [] low

pub rows_filled : (ls : List Link) (many : ℕ) → with_links ls (replicate many []) ≡ map (tos ls) (range_with_len 0 many)
rows_filled ls many = ext_get_or [] (with_links ls (replicate many [])) (map (tos ls) (range_with_len 0 many))
    (links_long ls (replicate many []) ∙ empty_long ∙ sym (length-map-range_with_len (tos ls) 0 many))
    (λ k low.
    let inside : k < many = omega (arith, low, links_long ls (replicate many []), empty_long) in
    row_filled k ls (replicate many []) (omega (arith, inside, empty_long)) ∙ ap (λ xs. xs ++ tos ls k) (get_or-replicate many k [] [] inside)
    ∙ sym (get_or-map-range_with_len (tos ls) 0 many k k [] inside (omega arith)))
  where
    empty_long : length (replicate {A = List ℕ} many []) ≡ many
    empty_long = length-replicate many []

-- ---- links that are made of a list
pub tos_of : {A : Type 0} (f g : A → ℕ) (k : ℕ) (xs : List A) → tos (map (λ x. record { from = f x; to = g x }) xs) k ≡ map g (filter (λ x. nat_eq (f x) k) xs)
tos_of f g k [] = refl
tos_of f g k (x ∷ xs) = by (nat_eq (f x) k) (tos_of f g k xs)
  where
    by : (b : Bool) → tos (map (λ y. record { from = f y; to = g y }) xs) k ≡ map g (filter (λ y. nat_eq (f y) k) xs)
        → map (λ (l : Link). l.to) (cond b (record { from = f x; to = g x } ∷ filter (λ (l : Link). nat_eq l.from k) (map (λ y. record { from = f y; to = g y }) xs)) (filter (λ (l : Link). nat_eq l.from k) (map (λ y. record { from = f y; to = g y }) xs)))
        ≡ map g (cond b (x ∷ filter (λ y. nat_eq (f y) k) xs) (filter (λ y. nat_eq (f y) k) xs))
    by true e = ap (λ ys. g x ∷ ys) e
    by false e = e

-- ---- links back to rows
tos_both : (ls ms : List Link) (k : ℕ) → tos (ls ++ ms) k ≡ tos ls k ++ tos ms k
tos_both ls ms k = ap (map (λ (l : Link). l.to)) (filter-append (λ (l : Link). nat_eq l.from k) ls ms) ∙ map-append (λ (l : Link). l.to) (filter (λ (l : Link). nat_eq l.from k) ls) (filter (λ (l : Link). nat_eq l.from k) ms)

flipped : (a b : ℕ) → nat_eq a b ≡ nat_eq b a
flipped a b = elim (cases_eq a b) [
  | inl e ↦ eq-eqb a b e ∙ sym (eq-eqb b a (sym e))
  | inr n ↦ ne_eqb a b n ∙ sym (ne_eqb b a (λ e. n (sym e)))
]

-- a row that has not the number
back_none : (n a : ℕ) (row : List ℕ) → is_in a row ≡ false → tos (back_from n row) a ≡ []
back_none n a [] h = refl
back_none n a (x ∷ row) h = by (nat_eq x a) (nat_eq a x) (flipped x a) h (back_none n a row)
  where
    by : (b c : Bool) → b ≡ c → (c || is_in a row) ≡ false → (is_in a row ≡ false → tos (back_from n row) a ≡ [])
        → map (λ (l : Link). l.to) (cond b (record { from = x; to = n } ∷ filter (λ (l : Link). nat_eq l.from a) (back_from n row)) (filter (λ (l : Link). nat_eq l.from a) (back_from n row))) ≡ []
    by true true e k f = absurd (true≢false k)
    by true false e k f = absurd (true≢false e)
    by false true e k f = absurd (true≢false k)
    by false false e k f = f k

record Leads (n : ℕ) (xs : List ℕ) : Type 0 where
  rest : List ℕ
  is : xs ≡ n ∷ rest

-- a row that has it
back_some : (n a : ℕ) (row : List ℕ) → is_in a row ≡ true → Leads n (tos (back_from n row) a)
back_some n a [] h = absurd (true≢false (sym h))
back_some n a (x ∷ row) h = by (nat_eq x a) (nat_eq a x) (flipped x a) h (back_some n a row)
  where
    by : (b c : Bool) → b ≡ c → (c || is_in a row) ≡ true → (is_in a row ≡ true → Leads n (tos (back_from n row) a))
        → Leads n (map (λ (l : Link). l.to) (cond b (record { from = x; to = n } ∷ filter (λ (l : Link). nat_eq l.from a) (back_from n row)) (filter (λ (l : Link). nat_eq l.from a) (back_from n row))))
    by true c e k f = record { rest = tos (back_from n row) a; is = refl }
    by false true e k f = absurd (true≢false (sym e))
    by false false e k f = f k

-- and has it once
back_once : (n a : ℕ) (row : List ℕ) → Distinct row → is_in a row ≡ true → tos (back_from n row) a ≡ n ∷ []
back_once n a [] d h = absurd (true≢false (sym h))
back_once n a (x ∷ row) d h = elim (cases_eq x a) [
  | inl e ↦ at (nat_eq x a) (eq-eqb x a e) ∙ ap (λ xs. n ∷ xs) (back_none n a row (away (is_in a row) refl (λ i. d.0 (subst (λ y. Among y row) (sym e) (in_among a row i)))))
  | inr o ↦ past (nat_eq x a) (ne_eqb x a o) ∙ back_once n a row d.1 (later (nat_eq a x) (ne_eqb a x (λ e. o (sym e))) h)
]
  where
    at : (b : Bool) → b ≡ true → map (λ (l : Link). l.to) (cond b (record { from = x; to = n } ∷ filter (λ (l : Link). nat_eq l.from a) (back_from n row)) (filter (λ (l : Link). nat_eq l.from a) (back_from n row))) ≡ n ∷ tos (back_from n row) a
    at true e = refl
    at false e = absurd (true≢false (sym e))

    past : (b : Bool) → b ≡ false → map (λ (l : Link). l.to) (cond b (record { from = x; to = n } ∷ filter (λ (l : Link). nat_eq l.from a) (back_from n row)) (filter (λ (l : Link). nat_eq l.from a) (back_from n row))) ≡ tos (back_from n row) a
    past true e = absurd (true≢false e)
    past false e = refl

    later : (b : Bool) → b ≡ false → (b || is_in a row) ≡ true → is_in a row ≡ true
    later true e k = absurd (true≢false e)
    later false e k = k

    away : (b : Bool) → is_in a row ≡ b → (is_in a row ≡ true → ⊥) → is_in a row ≡ false
    away true e f = absurd (f e)
    away false e f = e

-- which rows have a number, where each has it once at most
pub back_rows : (F : ℕ → List ℕ) (a n : ℕ) (rows : List (List ℕ)) → ((j : ℕ) → j < length rows → F (n + j) ≡ get_or rows j []) → AllByRecursion Distinct rows
    → tos (back n rows) a ≡ filter (λ y. is_in a (F y)) (range_with_len n (length rows))
back_rows F a n [] is d = refl
back_rows F a n (row ∷ rows) is d =
    tos_both (back_from n row) (back (n + 1) rows) a
    ∙ ap (λ xs. tos (back_from n row) a ++ xs) (back_rows F a (n + 1) rows (λ j low. let e : n + 1 + j ≡ n + suc j = omega arith in ap F e ∙ is (suc j) (omega (arith, low))) d.1)
    ∙ by (is_in a row) refl
  where
    here : F n ≡ row
    here = let e : n + 0 ≡ n = omega arith in ap F (sym e) ∙ is 0 (omega arith)

    later : List ℕ
    later = filter (λ y. is_in a (F y)) (range_with_len (n + 1) (length rows))

    by : (b : Bool) → is_in a row ≡ b → tos (back_from n row) a ++ later ≡ cond (is_in a (F n)) (n ∷ later) later
    by true e = ap (λ xs. xs ++ later) (back_once n a row d.0 e) ∙ ap (λ c. cond c (n ∷ later) later) (sym (ap (is_in a) here ∙ e))
    by false e = ap (λ xs. xs ++ later) (back_none n a row e) ∙ ap (λ c. cond c (n ∷ later) later) (sym (ap (is_in a) here ∙ e))

-- the first row that has a number, or how many rows there are
pub back_first : (a n : ℕ) (rows : List (List ℕ)) → first_or (n + length rows) (tos (back n rows) a) ≡ n + position_or_len (is_in a) rows
back_first a n [] = refl
back_first a n (row ∷ rows) = ap (first_or (n + length (row ∷ rows))) (tos_both (back_from n row) (back (n + 1) rows) a) ∙ by (is_in a row) refl (back_first a (n + 1) rows)
  where
    by : (b : Bool) → is_in a row ≡ b → first_or (n + 1 + length rows) (tos (back (n + 1) rows) a) ≡ n + 1 + position_or_len (is_in a) rows
        → first_or (n + length (row ∷ rows)) (tos (back_from n row) a ++ tos (back (n + 1) rows) a) ≡ n + position_or_len (is_in a) (row ∷ rows)
    by true e h =
        let l = back_some n a row e in
        let none : n ≡ n + 0 = omega arith in
        ap (λ xs. first_or (n + length (row ∷ rows)) (xs ++ tos (back (n + 1) rows) a)) l.is ∙ none
        ∙ ap (λ b. n + cond (not b) (1 + position_or_len (is_in a) rows) 0) (sym e)
    by false e h =
        let long : n + length (row ∷ rows) ≡ n + 1 + length rows = omega arith in
        let one : n + 1 + position_or_len (is_in a) rows ≡ n + (1 + position_or_len (is_in a) rows) = omega arith in
        ap (λ xs. first_or (n + length (row ∷ rows)) (xs ++ tos (back (n + 1) rows) a)) (back_none n a row e)
        ∙ ap (λ k. first_or k (tos (back (n + 1) rows) a)) long ∙ h ∙ one
        ∙ ap (λ b. n + cond (not b) (1 + position_or_len (is_in a) rows) 0) (sym e)
