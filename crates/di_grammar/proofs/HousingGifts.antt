-- What breaks the ninth rule among the gifts of a grant, and among the grants of a command.
use Rattle.std.proofs.Common.{◌≡◌, ◌⊎◌, inl, inr, ◌↔◌, ℕ, suc, ◌+◌, ◌*◌, ◌^◌, ◌<◌, ◌≤◌, List, [], ◌∷◌, ◌++◌, length, Option, Some, None, refl, sym, ap, ◌∙◌, subst, arith, add-zero}
use Rattle.cmd_tree.specs.declared.tree.Proc.{Proc}
use Rattle.cmd_tree.specs.Tree.{TSeq, TSeqs, places_among}
use Rattle.cmd_tree.specs.Limits.{places_of_proc, count_of}
use Rattle.cmd_tree.specs.View.{seqs_of}
use Rattle.process_laws.specs.GrantForms.{Giving, gifts, loans, plain, release, granted_of}
use Rattle.di_grammar.specs.declared.breach.Breach.{Breach}
use Rattle.di_grammar.specs.declared.grants.Form.{Form}
use Rattle.di_grammar.specs.declared.grants.Form.TheVariants.{Plain, Release}
use Rattle.cmd_tree.specs.declared.limits.TheConstants.{MAX_PLACES}
use Rattle.di_grammar.specs.Breaches.{FirstOf}
use Rattle.di_grammar.specs.Grants.{Gift, gifts_from, Grants}
use Rattle.di_grammar.specs.Mirror.Found.{Told, found, seq_symbol, seq_symbols, first_place, step_of, gifts_of}
use Rattle.di_grammar.specs.Mirror.Homes.{BreaksAt, BreaksGifts, BreaksGrant, BreaksAmong}
use Rattle.di_grammar.specs.Mirror.Lesser.{earlier_of}
use Rattle.di_grammar.proofs.FirstBreaches.{breach_like, breach_either}
use Rattle.di_grammar.proofs.Forms.{found_grants, grants_found, grants_one, symbols_many}

-- ---- one more gift

gifts_next : (k step : ℕ) (xs : List ℕ) (a : ℕ)
    → gifts_from k step (xs ++ a ∷ []) ≡ gifts_from k step xs ++ record { place = k + length xs * step; symbol = a } ∷ []
gifts_next k step [] a =
    let same : k ≡ k + 0 * step = omega arith in
    ap (λ (n : ℕ). record { place = n; symbol = a } ∷ []) same
gifts_next k step (x ∷ xs) a =
    let same : k + step + length xs * step ≡ k + suc (length xs) * step = omega arith in
    ap (λ (gs : List Gift). record { place = k; symbol = x } ∷ gs) (gifts_next (k + step) step xs a)
    ∙ ap (λ (n : ℕ). record { place = k; symbol = x } ∷ (gifts_from (k + step) step xs ++ record { place = n; symbol = a } ∷ [])) same

symbols_next : (xs : List TSeq) (x : TSeq)
    → seq_symbols (seqs_of (xs ++ x ∷ [])) ≡ seq_symbols (seqs_of xs) ++ seq_symbol x ∷ []
symbols_next [] x = refl
symbols_next (y ∷ xs) x = ap (λ (zs : List ℕ). seq_symbol y ∷ zs) (symbols_next xs x)

symbols_long : (xs : List TSeq) → length (seq_symbols (seqs_of xs)) ≡ length xs
symbols_long [] = refl
symbols_long (y ∷ xs) = omega (arith, symbols_long xs)

gifts_more : (form : Form) (xs : List TSeq) (x : TSeq)
    → gifts_of form (seqs_of (xs ++ x ∷ [])) ≡ gifts_of form (seqs_of xs) ++ record { place = first_place form + length xs * step_of form; symbol = seq_symbol x } ∷ []
gifts_more form xs x =
    ap (gifts_from (first_place form) (step_of form)) (symbols_next xs x)
    ∙ gifts_next (first_place form) (step_of form) (seq_symbols (seqs_of xs)) (seq_symbol x)
    ∙ ap (λ (n : ℕ). gifts_of form (seqs_of xs) ++ record { place = first_place form + n * step_of form; symbol = seq_symbol x } ∷ []) (symbols_long xs)

breaks_more : (ps : List Proc) (q : ℕ) (gs : List Gift) (g : Gift) (b : Breach)
    → (BreaksGifts ps q gs b ⊎ BreaksAt ps q g.place g.symbol b) ↔ BreaksGifts ps q (gs ++ g ∷ []) b
breaks_more ps q [] g b = (λ h. elim h [ inl x ↦ absurd x | inr y ↦ inl y ], λ h. elim h [ inl x ↦ inr x | inr y ↦ absurd y ])
breaks_more ps q (f ∷ gs) g b =
    let rest = breaks_more ps q gs g b in (
      λ h. elim h [ inl x ↦ elim x [ inl s ↦ inl s | inr t ↦ inr (rest.0 (inl t)) ] | inr y ↦ inr (rest.0 (inr y)) ],
      λ h. elim h [ inl x ↦ inl (inl x) | inr y ↦ elim (rest.1 y) [ inl s ↦ inl (inr s) | inr t ↦ inr t ] ],
    )

pub gift_more : (ps : List Proc) (q k : ℕ) (form : Form) (i : ℕ) (xs : List TSeq) (x : TSeq) (f g : Option Breach) → i ≡ length xs → k ≡ first_place form + i * step_of form
    → FirstOf (BreaksGifts ps q (gifts_of form (seqs_of xs))) f → FirstOf (BreaksAt ps q k (seq_symbol x)) g
    → FirstOf (BreaksGifts ps q (gifts_of form (seqs_of (xs ++ x ∷ [])))) (earlier_of f g)
gift_more ps q k form i xs x f g long e a b = subst (λ (gs : List Gift). FirstOf (BreaksGifts ps q gs) (earlier_of f g)) (sym (gifts_more form xs x))
    (breach_like _ _ (earlier_of f g) (breaks_more ps q (gifts_of form (seqs_of xs)) (record { place = first_place form + length xs * step_of form; symbol = seq_symbol x }))
    (breach_either _ _ f g a (subst (λ (n : ℕ). FirstOf (BreaksAt ps q n (seq_symbol x)) g)
    (e ∙ ap (λ (n : ℕ). first_place form + n * step_of form) long) b)))

pub place_fits : (form : Form) (i n : ℕ) → i < n → n ≤ MAX_PLACES
    → first_place form + i * step_of form + step_of form < 2 ^ 32
place_fits Plain i n h m = omega arith
place_fits Release i n h m = omega arith

-- ---- all gifts of a process

pub no_grant_breaks : (ps : List Proc) (q : ℕ) (p : Proc) → None ≡ found p.lead p.body
    → FirstOf (BreaksGrant ps q p) None
no_grant_breaks ps q p e b h = let x = grants_found p h.gifts h.grants in let y = x.1 in absurd (cc)

pub grant_breaks : (ps : List Proc) (q : ℕ) (p : Proc) (t : Told) (f : Option Breach)
    → Some t ≡ found p.lead p.body → FirstOf (BreaksGifts ps q (gifts_of t.form t.choice)) f
    → FirstOf (BreaksGrant ps q p) f
grant_breaks ps q p t f e first =
    let grants = found_grants p t (sym e) in
    breach_like (BreaksGifts ps q (gifts_of t.form t.choice)) (BreaksGrant ps q p) f (λ b. (
      λ h. record { gifts = gifts_of t.form t.choice; grants = grants; broken = h },
      λ h. subst (λ (gs : List Gift). BreaksGifts ps q gs b) (grants_one p h.gifts (gifts_of t.form t.choice) h.grants grants) h.broken,
    )) first

-- a choice has no more alternatives than places
gifts_long : (k step : ℕ) (xs : List ℕ) → length (gifts_from k step xs) ≡ length xs
gifts_long k step [] = refl
gifts_long k step (x ∷ xs) = omega (arith, gifts_long (k + step) step xs)

granted_long : (gs : List Giving) → length (granted_of gs) ≡ length gs
granted_long [] = refl
granted_long (g ∷ gs) = omega (arith, granted_long gs)

given_places : (ps : List ℕ) → places_among (gifts ps) ≡ length ps
given_places [] = refl
given_places (p ∷ ps) = omega (arith, given_places ps)

lent_places : (gs : List Giving) → places_among (loans gs) ≡ 2 * length gs
lent_places [] = refl
lent_places (g ∷ gs) = omega (arith, lent_places gs)

told_long : (form : Form) (ss : TSeqs) → length (gifts_of form ss) ≡ count_of ss
told_long form ss = gifts_long (first_place form) (step_of form) (seq_symbols ss) ∙ symbols_many ss

few_gifts : (p : Proc) (gs : List Gift) → Grants p gs → length gs ≤ places_of_proc p
few_gifts p gs (inl h) =
    let long : length gs ≡ length h.symbols = ap length h.gives ∙ gifts_long 2 1 h.symbols in
    let places : places_of_proc p ≡ places_of_proc (plain h.asks h.symbols) = ap places_of_proc h.is in
    omega (arith, long, places, given_places h.symbols)
few_gifts p gs (inr h) =
    let long : length gs ≡ length (granted_of h.givings) = ap length h.gives
    ∙ gifts_long 1 2 (granted_of h.givings) in
    let places : places_of_proc p ≡ places_of_proc (release h.givings) = ap places_of_proc h.is in
    omega (arith, long, places, granted_long h.givings, lent_places h.givings)

counted : (xs : List TSeq) → count_of (seqs_of xs) ≡ length xs
counted [] = refl
counted (x ∷ xs) = omega (arith, counted xs)

pub few_alternatives : (p : Proc) (form : Form) (xs : List TSeq)
    → Some (record { form = form; choice = seqs_of xs }) ≡ found p.lead p.body → length xs ≤ places_of_proc p
few_alternatives p form xs e =
    omega (arith, few_gifts p (gifts_of form (seqs_of xs)) (found_grants p (record { form = form; choice = seqs_of xs }) (sym e)), told_long form (seqs_of xs), counted xs)

-- ---- all processes

among_next : (ps : List Proc) (q : ℕ) (rs : List Proc) (r : Proc) (b : Breach)
    → (BreaksAmong ps q rs b ⊎ BreaksGrant ps (q + length rs) r b) ↔ BreaksAmong ps q (rs ++ r ∷ []) b
among_next ps q [] r b = rw add-zero (λ h. elim h [ inl x ↦ absurd x | inr y ↦ inl y ], λ h. elim h [ inl x ↦ inr x | inr y ↦ absurd y ])
among_next ps q (p ∷ rs) r b =
    let more : q + 1 + length rs ≡ q + suc (length rs) = omega arith in
    let rest = subst (λ (n : ℕ). (BreaksAmong ps (q + 1) rs b ⊎ BreaksGrant ps n r b) ↔ BreaksAmong ps (q + 1) (rs ++ r ∷ []) b) more (among_next ps (q + 1) rs r b) in (
      λ h. elim h [ inl x ↦ elim x [ inl s ↦ inl s | inr t ↦ inr (rest.0 (inl t)) ] | inr y ↦ inr (rest.0 (inr y)) ],
      λ h. elim h [ inl x ↦ inl (inl x) | inr y ↦ elim (rest.1 y) [ inl s ↦ inl (inr s) | inr t ↦ inr t ] ],
    )

pub among_more : (ps : List Proc) (q : ℕ) (rs : List Proc) (r : Proc) (f g : Option Breach)
    → q ≡ length rs + 1 → FirstOf (BreaksAmong ps 1 rs) f → FirstOf (BreaksGrant ps q r) g
    → FirstOf (BreaksAmong ps 1 (rs ++ r ∷ [])) (earlier_of f g)
among_more ps q rs r f g e a b =
    let number : q ≡ 1 + length rs = omega (arith, e) in
    breach_like _ _ (earlier_of f g) (among_next ps 1 rs r) (breach_either _ _ f g a (subst (λ (n : ℕ). FirstOf (BreaksGrant ps n r) g) number b))
