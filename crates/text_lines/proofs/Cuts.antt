-- Texts cut at each byte c, and put together again.
use Rattle.std.proofs.Common.{◌≡◌, ◌≢◌, ℕ, ◌+◌, ◌-◌, ◌<◌, ◌≤◌, Bool, true, false, eqb, ltb, cond, Some, None, length, take, drop, arith, List, [], ◌∷◌, ◌++◌, refl, sym, ◌∙◌, ap, subst, ⊎_elim}
use Rattle.std.specs.List.{onto_first, position, position_or_len, join_with_byte, AllByRecursion}
use Rattle.std.proofs.lemmas.Bool.{cases_Bool, ne_eqb, eqb-false, eq-eqb, ltb-true, ltb-false}
use Rattle.std.proofs.lemmas.List.Sums.{fails_before_first}
use Rattle.std.proofs.lemmas.Slice.{between_to_end}
use Rattle.std.proofs.lemmas.List.Splits.{slice_split_at, slice_split_first, slice_split_none, slice_split-cons_yes, slice_split-cons_no, join_with_byte-slice_split}
use Rattle.std.proofs.lemmas.List.Elements.{All-from_recursion}
use Rattle.text_lines.specs.Pieces.{pieces, IsPiece, line_of}

-- ---- a cut gives one piece or more
pub record Cut (c : ℕ) (bytes : List ℕ) : Type 0 where
  pub first : List ℕ
  pub more : List (List ℕ)
  pub is : pieces c bytes ≡ first ∷ more

onto_some : (b : ℕ) (ps : List (List ℕ)) → (first : List ℕ) × (more : List (List ℕ)) × (onto_first b ps ≡ first ∷ more)
onto_some b [] = (b ∷ [], [], refl)
onto_some b (p ∷ ps) = (b ∷ p, ps, refl)

pub cut : (c : ℕ) (bytes : List ℕ) → Cut c bytes
cut c [] = record { first = []; more = []; is = refl }
cut c (b ∷ bs) = ⊎_elim
    (λ t. record { first = []; more = pieces c bs; is = slice_split-cons_yes (λ x. eqb x c) b bs t })
    (λ f. let o = onto_some b (pieces c bs) in record { first = o.0; more = o.1; is = slice_split-cons_no (λ x. eqb x c) b bs f ∙ o.2 })
    (cases_Bool (eqb b c))

-- ---- the cut at the first such byte
places : (t : ℕ → Bool) (xs : List ℕ) (k : ℕ) → position t xs ≡ Some k → (position_or_len t xs ≡ k) × (position_or_len t xs < length xs)
places t xs k e = by (ltb (position_or_len t xs) (length xs)) refl e
  where
    by : (b : Bool) → ltb (position_or_len t xs) (length xs) ≡ b → cond b (Some (position_or_len t xs)) None ≡ Some k → (position_or_len t xs ≡ k) × (position_or_len t xs < length xs)
    by true h f = ((let s : position_or_len t xs ≡ k = cc in s), ltb-true (position_or_len t xs) (length xs) h)
    by false h f = absurd (cc)

no_place : (t : ℕ → Bool) (xs : List ℕ) → position t xs ≡ None → length xs ≤ position_or_len t xs
no_place t xs e = by (ltb (position_or_len t xs) (length xs)) refl e
  where
    by : (b : Bool) → ltb (position_or_len t xs) (length xs) ≡ b → cond b (Some (position_or_len t xs)) None ≡ None → length xs ≤ position_or_len t xs
    by true h f = absurd (cc)
    by false h f = ltb-false (position_or_len t xs) (length xs) h

pub cut_found : (c : ℕ) (text : List ℕ) (k : ℕ) → position (λ b. eqb b c) text ≡ Some k → pieces c text ≡ take k text ∷ pieces c (take (length text - (k + 1)) (drop (k + 1) text))
cut_found c text k e =
    let p = places (λ b. eqb b c) text k e in
    let r : take (length text - (k + 1)) (drop (k + 1) text) ≡ drop (k + 1) text = between_to_end text (k + 1) (length text) (omega arith) in
    slice_split_first (λ b. eqb b c) text 0 p.1 ∙ (λ i. take (p.0 i) text ∷ pieces c (drop (p.0 i + 1) text)) ∙ ap (λ t. take k text ∷ pieces c t) (sym r)

pub cut_none : (c : ℕ) (text : List ℕ) → position (λ b. eqb b c) text ≡ None → pieces c text ≡ text ∷ []
cut_none c text e = slice_split_none (λ b. eqb b c) text (λ k d l. fails_before_first (λ b. eqb b c) text k d (omega (arith, l, no_place (λ b. eqb b c) text e)))

-- ---- no piece has the byte at which it was cut
onto_clean : (c b : ℕ) (ps : List (List ℕ)) → b ≢ c → AllByRecursion (IsPiece c) ps → AllByRecursion (IsPiece c) (onto_first b ps)
onto_clean c b [] e h = ((e, tt), tt)
onto_clean c b (p ∷ ps) e h = ((e, h.0), h.1)

pub clean_pieces : (c : ℕ) (bytes : List ℕ) → AllByRecursion (IsPiece c) (pieces c bytes)
clean_pieces c [] = (tt, tt)
clean_pieces c (b ∷ bs) = ⊎_elim
    (λ t. subst (AllByRecursion (IsPiece c)) (sym (slice_split-cons_yes (λ x. eqb x c) b bs t)) (tt, clean_pieces c bs))
    (λ f. subst (AllByRecursion (IsPiece c)) (sym (slice_split-cons_no (λ x. eqb x c) b bs f)) (onto_clean c b (pieces c bs) (eqb-false b c f) (clean_pieces c bs)))
    (cases_Bool (eqb b c))

-- ---- what is put together is cut into the same pieces
others : (c : ℕ) (bs : List ℕ) → IsPiece c bs → AllByRecursion (λ b. eqb b c ≡ false) bs
others c [] h = tt
others c (b ∷ bs) h = (ne_eqb b c h.0, others c bs h.1)

pub first_cut : (c : ℕ) (piece rest : List ℕ) → IsPiece c piece → pieces c (piece ++ c ∷ rest) ≡ piece ∷ pieces c rest
first_cut c piece rest h = slice_split_at (λ b. eqb b c) piece c rest (All-from_recursion (λ b. eqb b c ≡ false) piece (others c piece h)) (eq-eqb c c refl)

pub one_piece : (c : ℕ) (piece : List ℕ) → IsPiece c piece → pieces c piece ≡ piece ∷ []
one_piece c piece h = slice_split_none (λ b. eqb b c) piece (All-from_recursion (λ b. eqb b c ≡ false) piece (others c piece h))

pub words_cut : (w : List ℕ) (ws : List (List ℕ)) → AllByRecursion (IsPiece 32) (w ∷ ws) → pieces 32 (line_of (w ∷ ws)) ≡ w ∷ ws
words_cut w [] h = one_piece 32 w h.0
words_cut w (v ∷ ws) h = first_cut 32 w (line_of (v ∷ ws)) h.0 ∙ ap (λ ps. w ∷ ps) (words_cut v ws h.1)

-- ---- what is cut is its pieces put together
pub words_back : (line : List ℕ) → line_of (pieces 32 line) ≡ line
words_back line = join_with_byte-slice_split 32 line
