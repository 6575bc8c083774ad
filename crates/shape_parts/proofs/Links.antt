-- What the links of a shape's lines keep, step by step.
use Rattle.std.specs.Prelude.{◌||◌, if◌then◌else◌, nat_eq, nat_lt}
use Rattle.std.proofs.Common.{◌≡◌, ◌≢◌, ◌⊎◌, ℕ, zero, suc, ◌+◌, ◌-◌, ◌<◌, ◌≤◌, List, [], ◌∷◌, ◌++◌, length, get_or, set, drop, inl, inr, refl, sym, ap, ◌∙◌, arith, eq-eqb, ne_eqb, lt-ltb, le-ltb, ltb-true, IsTrue}
use Rattle.std.specs.List.{range_with_len, list_all}
use Rattle.std.proofs.lemmas.Bool.{and_parts, cases_eq, cases_lt, cond-true, cond-false, or_left, or_right, or_from}
use Rattle.std.proofs.lemmas.List.{length-set, get_or-set_same, get_or-set_other, drop_more, map-id}
use Rattle.std.proofs.lemmas.List.FromFn.{get_or-range_with_len, length-range_with_len, map-range_with_len_more}
use Rattle.basic_kinds.specs.Shapes.{is_within}
use Rattle.basic_kinds.specs.ShapeParts.{label, lesser, merged}
use Rattle.shape_parts.specs.Mirror.Links.{IsFalling, Leads}

-- a line is linked to another one, no greater than itself
pub falling_set : (up : List ℕ) (i w : ℕ) → IsFalling up → w ≤ i → IsFalling (set up i w)
falling_set up i w h low v inside = elim (cases_eq v i) [
  | inl here ↦
      let long : v < length up = omega (arith, inside, length-set up i w) in
      let at : get_or (set up i w) i 0 ≡ w = get_or-set_same up i w 0 (omega (arith, long, here)) in
      let e : get_or (set up i w) v 0 ≡ w = ap (λ (k : ℕ). get_or (set up i w) k 0) here ∙ at in
      omega (arith, e, low, here)
  | inr other ↦
      let e : get_or (set up i w) v 0 ≡ get_or up v 0 = get_or-set_other up i v w 0 other in
      omega (arith, e, h v (omega (arith, inside, length-set up i w)))
]

-- a line is linked to another that leads to the same end, or is an end itself
pub leads_set : (f : ℕ → ℕ) (up : List ℕ) (i w : ℕ) → ((v : ℕ) → v < length up → f (get_or up v 0) ≡ f v)
    → ((v : ℕ) → v < length up → v ≢ i → get_or up v 0 ≡ v → f v ≡ v) → f w ≡ f i → (w ≡ i → f i ≡ i) → Leads f (set up i w)
leads_set f up i w along ends same end = record {
  along = λ v inside. elim (cases_eq v i) [
    | inl here ↦ ap f (at v inside here) ∙ same ∙ ap f (sym here)
    | inr other ↦ ap f (get_or-set_other up i v w 0 other) ∙ along v (omega (arith, inside, length-set up i w))
  ];
  ends = λ v inside e. elim (cases_eq v i) [
    | inl here ↦ ap f here ∙ end (sym (at v inside here) ∙ e ∙ here) ∙ sym here
    | inr other ↦ ends v (omega (arith, inside, length-set up i w)) other (sym (get_or-set_other up i v w 0 other) ∙ e)
  ];
}
  where
    at : (v : ℕ) → v < length (set up i w) → v ≡ i → get_or (set up i w) v 0 ≡ w
    at v inside here =
        ap (λ (k : ℕ). get_or (set up i w) k 0) here ∙ get_or-set_same up i w 0 (omega (arith, inside, length-set up i w, here))

-- a line is linked past the next one
pub leads_past : (f : ℕ → ℕ) (up : List ℕ) (i : ℕ) → IsFalling up → i < length up → Leads f up → Leads f (set up i (get_or up (get_or up i 0) 0)) × (f (get_or up (get_or up i 0) 0) ≡ f i)
leads_past f up i low inside l = (leads_set f up i (get_or up (get_or up i 0) 0) l.along (λ v h n e. l.ends v h e) same end, same)
  where
    next : get_or up i 0 < length up
    next = omega (arith, low i inside, inside)

    same : f (get_or up (get_or up i 0) 0) ≡ f i
    same = l.along (get_or up i 0) next ∙ l.along i inside

    end : get_or up (get_or up i 0) 0 ≡ i → f i ≡ i
    end e = l.ends i inside (omega (arith, low i inside, low (get_or up i 0) next, e))

pub merged_in : (f : ℕ → ℕ) (a b v : ℕ) → (f v ≡ f a) ⊎ (f v ≡ f b) → merged f a b v ≡ lesser (f a) (f b)
merged_in f a b v (inl h) = cond-true (nat_eq (f v) (f a) || nat_eq (f v) (f b)) (lesser (f a) (f b)) (f v) (or_left (nat_eq (f v) (f a)) (nat_eq (f v) (f b)) (eq-eqb (f v) (f a) h))
merged_in f a b v (inr h) = cond-true (nat_eq (f v) (f a) || nat_eq (f v) (f b)) (lesser (f a) (f b)) (f v) (or_right (nat_eq (f v) (f a)) (nat_eq (f v) (f b)) (eq-eqb (f v) (f b) h))

pub merged_out : (f : ℕ → ℕ) (a b v : ℕ) → f v ≢ f a → f v ≢ f b → merged f a b v ≡ f v
merged_out f a b v h k =
    cond-false (nat_eq (f v) (f a) || nat_eq (f v) (f b)) (lesser (f a) (f b)) (f v) (or_from (nat_eq (f v) (f a)) (nat_eq (f v) (f b)) (ne_eqb (f v) (f a) h) (ne_eqb (f v) (f b) k))

pub merged_same : (f : ℕ → ℕ) (a b v w : ℕ) → f v ≡ f w → merged f a b v ≡ merged f a b w
merged_same f a b v w e = ap (λ (k : ℕ). if nat_eq k (f a) || nat_eq k (f b) then lesser (f a) (f b) else k) e

-- of the two ends that the lines a and b lead to, the greater is linked under the lesser
leads_merged : (f : ℕ → ℕ) (up : List ℕ) (a b low high : ℕ) → Leads f up → f low ≡ low → f high ≡ high → low ≤ high → lesser (f a) (f b) ≡ low
    → (((v : ℕ) → f v ≡ low → (f v ≡ f a) ⊎ (f v ≡ f b)) × ((v : ℕ) → f v ≡ high → (f v ≡ f a) ⊎ (f v ≡ f b)) × ((v : ℕ) → f v ≢ low → f v ≢ high → (f v ≢ f a) × (f v ≢ f b)))
    → Leads (merged f a b) (set up high low)
leads_merged f up a b low high l at_low at_high order least (is_low, is_high, is_other) =
    leads_set g up high low (λ v inside. merged_same f a b (get_or up v 0) v (l.along v inside)) ends (to_low low (is_low low at_low) ∙ sym (to_low high (is_high high at_high)))
    (λ e. to_low high (is_high high at_high) ∙ e)
  where
    g : ℕ → ℕ
    g = merged f a b

    to_low : (v : ℕ) → (f v ≡ f a) ⊎ (f v ≡ f b) → merged f a b v ≡ low
    to_low v h = merged_in f a b v h ∙ least

    ends : (v : ℕ) → v < length up → v ≢ high → get_or up v 0 ≡ v → merged f a b v ≡ v
    ends v inside other e = elim (cases_eq v low) [
      | inl here ↦ to_low v (is_low v (l.ends v inside e ∙ here)) ∙ sym here
      | inr away ↦
          let fv : f v ≡ v = l.ends v inside e in
          let (x, y) = is_other v (λ (h : f v ≡ low). away (sym fv ∙ h)) (λ (h : f v ≡ high). other (sym fv ∙ h)) in
          merged_out f a b v x y ∙ fv
    ]

pub leads_right : (f : ℕ → ℕ) (up : List ℕ) (a b one other : ℕ) → Leads f up → one ≡ f a → other ≡ f b → f one ≡ one → f other ≡ other → other < one
    → Leads (merged f a b) (set up one other)
leads_right f up a b one other l p q x y h =
    leads_merged f up a b other one l y x (omega arith) (cond-true (nat_lt (f b) (f a)) (f b) (f a) (lt-ltb (f b) (f a) (omega (arith, p, q, h))) ∙ sym q)
    (λ v e. inr (e ∙ q), λ v e. inl (e ∙ p), λ v d e. (λ z. e (z ∙ sym p), λ z. d (z ∙ sym q)))

pub leads_left : (f : ℕ → ℕ) (up : List ℕ) (a b one other : ℕ) → Leads f up → one ≡ f a → other ≡ f b → f one ≡ one → f other ≡ other → one ≤ other
    → Leads (merged f a b) (set up other one)
leads_left f up a b one other l p q x y h =
    leads_merged f up a b one other l x y h (cond-false (nat_lt (f b) (f a)) (f b) (f a) (le-ltb (f b) (f a) (omega (arith, p, q, h))) ∙ sym p)
    (λ v e. inl (e ∙ p), λ v e. inr (e ∙ q), λ v d e. (λ z. d (z ∙ sym p), λ z. e (z ∙ sym q)))

-- the next line on the way is the end, where all lines before are linked to their ends
pub next_is_end : (f : ℕ → ℕ) (up : List ℕ) (i : ℕ) → IsFalling up → i < length up → Leads f up → ((k : ℕ) → k < i → get_or up k 0 ≡ f k) → get_or up (get_or up i 0) 0 ≡ f i
next_is_end f up i low inside l before = elim (cases_lt (get_or up i 0) i) [
  | inl h ↦ before (get_or up i 0) h ∙ l.along i inside
  | inr h ↦
      let e : get_or up i 0 ≡ i = omega (arith, low i inside, h) in
      ap (λ (k : ℕ). get_or up k 0) e ∙ e ∙ sym (l.ends i inside e)
]

pub falling_past : (up : List ℕ) (i : ℕ) → IsFalling up → i < length up → IsFalling (set up i (get_or up (get_or up i 0) 0))
falling_past up i low inside =
    falling_set up i (get_or up (get_or up i 0) 0) low (omega (arith, low i inside, low (get_or up i 0) (omega (arith, low i inside, inside))))

-- each line alone
pub falling_alone : (n : ℕ) → IsFalling (range_with_len 0 n)
falling_alone n v inside = omega (arith, get_or-range_with_len 0 n v 0 (omega (arith, inside, length-range_with_len 0 n)))

pub leads_alone : (n : ℕ) → Leads (λ v. v) (range_with_len 0 n)
leads_alone n = record {
  along = λ v inside. omega (arith, get_or-range_with_len 0 n v 0 (omega (arith, inside, length-range_with_len 0 n)));
  ends = λ v inside e. refl;
}

-- one more line
pub range_more : (n : ℕ) → range_with_len 0 (n + 1) ≡ range_with_len 0 n ++ n ∷ []
range_more n = sym (map-id (range_with_len 0 (n + 1))) ∙ map-range_with_len_more (λ v. v) 0 n n (omega arith) ∙ ap (λ vs. vs ++ n ∷ []) (map-id (range_with_len 0 n))

-- a crossing of a list that lies in range
pub within_at : (rows cols : ℕ) (cross : List (ℕ × ℕ)) (i : ℕ) → IsTrue (list_all (is_within rows cols) cross) → i < length cross
    → ((get_or cross i (0, 0)).0 < rows) × ((get_or cross i (0, 0)).1 < cols)
within_at rows cols [] i h inside = absurd (omega arith)
within_at rows cols (p ∷ ps) zero h inside =
    let (here, rest) = and_parts (is_within rows cols p) (list_all (is_within rows cols) ps) h in
    let (row, col) = and_parts (nat_lt p.0 rows) (nat_lt p.1 cols) here in
    (ltb-true p.0 rows row, ltb-true p.1 cols col)
within_at rows cols (p ∷ ps) (suc i) h inside = within_at rows cols ps i (and_parts (is_within rows cols p) (list_all (is_within rows cols) ps) h).1 (omega arith)

-- the crossings from the last but i on, with the one before them
pub one_more : (rows : ℕ) (cross : List (ℕ × ℕ)) (i : ℕ) → i < length cross
    → label rows (drop (length cross - (i + 1)) cross)
    ≡ merged (label rows (drop (length cross - i) cross)) (get_or cross (length cross - 1 - i) (0, 0)).0 (rows + (get_or cross (length cross - 1 - i) (0, 0)).1)
one_more rows cross i inside =
    let k : ℕ = length cross - 1 - i in
    let e : length cross - (i + 1) ≡ k = omega arith in
    let n : k + 1 ≡ length cross - i = omega arith in
    let split : drop k cross ≡ get_or cross k (0, 0) ∷ drop (k + 1) cross = drop_more cross k (0, 0) (omega arith) in
    ap (λ (m : ℕ). label rows (drop m cross)) e ∙ ap (label rows) split
    ∙ ap (λ (m : ℕ). merged (label rows (drop m cross)) (get_or cross k (0, 0)).0 (rows + (get_or cross k (0, 0)).1)) n
