-- Rows of tables that are filled item by item.
use Rattle.std.specs.Prelude.{◌||◌, if◌then◌else◌, nat_eq}
use Rattle.std.proofs.Common.{cond, ◌≡◌, ℕ, zero, suc, ◌+◌, ◌<◌, ◌≤◌, Bool, true, false, List, [], ◌∷◌, ◌++◌, length, map, get_or, set, drop, Option, Some, None, inl, inr, refl, sym, ap, subst, ◌∙◌, arith, append-nil, eq-eqb, ne_eqb}
use Rattle.std.specs.List.{position_or_len, AllByRecursion}
use Rattle.std.proofs.lemmas.Bool.{cases_eq}
use Rattle.std.proofs.lemmas.List.{get_or-set_same, get_or-set_other, drop_more}
use Rattle.cmd_tree.specs.Lists.{is_in}
use Rattle.net_laws.proofs.Among.{Among, Distinct}
use Rattle.basic_kinds.specs.ShapeParts.{label, part_names}
use Rattle.shape_parts.specs.declared.cut.ShapePart.{ShapePart}
use Rattle.shape_parts.specs.Cut.{part_of, parts_of}
use Rattle.shape_parts.proofs.Chosen.{filter_below}
use Rattle.token_split.specs.TokenChart.{listed}
use Rattle.token_split.proofs.TokenSteps.{first_step}

-- one item more in its row
pub row_pushed : {A : Type 0} (rows : List (List A)) (many r : ℕ) (b : List A) (x : A) (F : ℕ → List A) → length rows ≡ many → r < many → ((k : ℕ) → k < many → get_or rows k [] ≡ F k)
    → b ≡ get_or rows r [] ++ x ∷ [] → (k : ℕ) → k < many → get_or (set rows r b) k [] ≡ F k ++ (if nat_eq r k then x ∷ [] else [])
row_pushed rows many r b x F long low h is k inside = elim (cases_eq k r) [
  | inl here ↦
      ap (λ (i : ℕ). get_or (set rows r b) i []) here ∙ get_or-set_same rows r b [] (omega (arith, long, low)) ∙ is
      ∙ ap (λ ys. ys ++ x ∷ []) (ap (λ (i : ℕ). get_or rows i []) (sym here) ∙ h k inside)
      ∙ ap (λ (t : Bool). F k ++ (if t then x ∷ [] else [])) (sym (eq-eqb r k (sym here)))
  | inr other ↦
      get_or-set_other rows r k b [] other ∙ h k inside ∙ sym (append-nil (F k)) ∙ ap (λ (t : Bool). F k ++ (if t then x ∷ [] else [])) (sym (ne_eqb r k (λ e. other (sym e))))
]

-- a number that is in no row adds nothing
pub none_pushed : {A : Type 0} (many r : ℕ) (x : A) (ys : List A) → many ≤ r → (k : ℕ) → k < many → ys ≡ ys ++ (if nat_eq r k then x ∷ [] else [])
none_pushed many r x ys past k inside = sym (append-nil ys) ∙ ap (λ (t : Bool). ys ++ (if t then x ∷ [] else [])) (sym (ne_eqb r k (λ e. omega (arith, e, past, inside))))

-- the number n leads to r, and to nothing else
pub leads_one : (f : ℕ → Bool) (n r k : ℕ) (o : Option ℕ) → o ≡ Some r → f n ≡ is_in k (listed o) → (if f n then n ∷ [] else []) ≡ (if nat_eq r k then n ∷ [] else [])
leads_one f n r k o e h = ap (λ (t : Bool). if t then n ∷ [] else []) (h ∙ ap (λ (p : Option ℕ). is_in k (listed p)) e ∙ same)
  where
    pick : (t : Bool) → (t || false) ≡ t
    pick true = refl
    pick false = refl

    same : (nat_eq k r || false) ≡ nat_eq r k
    same = pick (nat_eq k r) ∙ elim (cases_eq k r) [
      | inl i ↦ eq-eqb k r i ∙ sym (eq-eqb r k (sym i))
      | inr d ↦ ne_eqb k r d ∙ sym (ne_eqb r k (λ i. d (sym i)))
    ]

pub leads_none : (f : ℕ → Bool) (n k : ℕ) (o : Option ℕ) (ys : List ℕ) → o ≡ None → f n ≡ is_in k (listed o) → ys ≡ ys ++ (if f n then n ∷ [] else [])
leads_none f n k o ys e h = sym (append-nil ys) ∙ ap (λ (t : Bool). ys ++ (if t then n ∷ [] else [])) (sym (h ∙ ap (λ (p : Option ℕ). is_in k (listed p)) e))

-- the first row that has the symbol, from the row b on
pub home_step : (rows : List (List ℕ)) (b : ℕ) (row : List ℕ) (old new a : ℕ) → b < length rows → row ≡ get_or rows b [] → old ≡ (b + 1) + position_or_len (is_in a) (drop (b + 1) rows)
    → new ≡ (if is_in a row then b else old) → new ≡ b + position_or_len (is_in a) (drop b rows)
home_step rows b row old new a low is before after =
    after ∙ by (is_in a row) refl ∙ ap (λ rs. b + position_or_len (is_in a) rs) (ap (λ r. r ∷ drop (b + 1) rows) is ∙ sym (drop_more rows b [] low))
  where
    by : (t : Bool) → is_in a row ≡ t → (if t then b else old) ≡ b + position_or_len (is_in a) (row ∷ drop (b + 1) rows)
    by true t =
        let e : position_or_len (is_in a) (row ∷ drop (b + 1) rows) ≡ 0 = first_step (is_in a) row (drop (b + 1) rows) ∙ ap (λ (t : Bool). cond t 0 (1 + position_or_len (is_in a) (drop (b + 1) rows))) t in
        omega (arith, e)
    by false t =
        let e : position_or_len (is_in a) (row ∷ drop (b + 1) rows) ≡ 1 + position_or_len (is_in a) (drop (b + 1) rows) =
        first_step (is_in a) row (drop (b + 1) rows) ∙ ap (λ (t : Bool). cond t 0 (1 + position_or_len (is_in a) (drop (b + 1) rows))) t in
        omega (arith, e, before)

-- an act is added to the rows of its outputs, each once
pub giver_step : (rows : List (List ℕ)) (x act : ℕ) (b rest : List ℕ) (a : ℕ) → x < length rows → b ≡ get_or rows x [] ++ act ∷ [] → is_in x rest ≡ false
    → get_or (set rows x b) a [] ++ (if is_in a rest then act ∷ [] else []) ≡ get_or rows a [] ++ (if is_in a (x ∷ rest) then act ∷ [] else [])
giver_step rows x act b rest a low is once = elim (cases_eq a x) [
  | inl here ↦
      ap (λ r. r ++ (if is_in a rest then act ∷ [] else [])) (ap (λ (i : ℕ). get_or (set rows x b) i []) here ∙ get_or-set_same rows x b [] low ∙ is)
      ∙ ap (λ (t : Bool). (get_or rows x [] ++ act ∷ []) ++ (if t then act ∷ [] else [])) (ap (λ (i : ℕ). is_in i rest) here ∙ once)
      ∙ append-nil (get_or rows x [] ++ act ∷ []) ∙ ap (λ (i : ℕ). get_or rows i [] ++ act ∷ []) (sym here)
      ∙ ap (λ (t : Bool). get_or rows a [] ++ (if t || is_in a rest then act ∷ [] else [])) (sym (eq-eqb a x here))
  | inr other ↦
      ap (λ r. r ++ (if is_in a rest then act ∷ [] else [])) (get_or-set_other rows x a b [] other)
      ∙ ap (λ (t : Bool). get_or rows a [] ++ (if t || is_in a rest then act ∷ [] else [])) (sym (ne_eqb a x other))
]

not_in : (x : ℕ) (xs : List ℕ) → (Among x xs → ⊥) → is_in x xs ≡ false
not_in x [] h = refl
not_in x (y ∷ ys) h = ap (λ (t : Bool). t || is_in x ys) (ne_eqb x y (λ e. h (inl e))) ∙ not_in x ys (λ a. h (inr a))

pub once_at : (xs : List ℕ) (i : ℕ) → Distinct xs → i < length xs → is_in (get_or xs i 0) (drop (i + 1) xs) ≡ false
once_at [] i d low = absurd (omega arith)
once_at (x ∷ xs) zero d low = let e : 0 + 1 ≡ 1 = omega arith in not_in x xs d.0
once_at (x ∷ xs) (suc i) d low = let e : suc i + 1 ≡ suc (i + 1) = omega arith in ap (λ (k : ℕ). is_in (get_or xs i 0) (drop k (x ∷ xs))) e ∙ once_at xs i d.1 (omega arith)

-- ---- the rows of a graph

-- what holds of the items that rows are made of holds of the rows
pub rows_all : {V X : Type 0} (P : List ℕ → Type 0) (f : V → List ℕ) (g : X → List ℕ) (vs : List V) (xs : List X) → map f vs ≡ map g xs → AllByRecursion (λ x. P (g x)) xs → AllByRecursion (λ v. P (f v)) vs
rows_all P f g [] xs e h = tt
rows_all P f g (v ∷ vs) [] e h = absurd (cc)
rows_all P f g (v ∷ vs) (x ∷ xs) e h =
    let here : f v ≡ g x = cc in
    let rest : map f vs ≡ map g xs = cc in
    (subst P (sym here) h.0, rows_all P f g vs xs rest h.1)

-- the places of the crossings of parts are below the number of crossings
pub parts_places : (rows cols : ℕ) (cross : List (ℕ × ℕ)) (m : ℕ) → length cross ≤ m → AllByRecursion (λ (p : ShapePart). AllByRecursion (λ n. n < m) p.places) (parts_of rows cols cross)
parts_places rows cols cross m h = over (part_names rows cross)
  where
    over : (names : List ℕ) → AllByRecursion (λ (p : ShapePart). AllByRecursion (λ n. n < m) p.places) (map (part_of rows cols cross) names)
    over [] = tt
    over (i ∷ names) = (filter_below (λ n. nat_eq (label rows cross (get_or cross n (0, 0)).0) i) 0 (length cross) m (omega (arith, h)), over names)
