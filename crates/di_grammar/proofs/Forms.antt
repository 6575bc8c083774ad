-- A tree is a grant exactly where it is found to be one.
use Rattle.std.proofs.Common.{◌≡◌, inl, inr, ◌↔◌, ℕ, ◌<◌, ◌≤◌, Bool, true, false, true≢false, List, [], ◌∷◌, length, Option, Some, None, refl, sym, ap, ◌∙◌, subst, arith}
use Rattle.std.proofs.lemmas.Bool.{and_parts, ltb-true, lt-ltb, and_from}
use Rattle.std.specs.Prelude.{◌&&◌, nat_lt, if◌then◌else◌, IsTrue, is_some}
use Rattle.cmd_tree.specs.declared.tree.Item.{Item}
use Rattle.cmd_tree.specs.View.{seq_of, seqs_of}
use Rattle.cmd_tree.specs.declared.tree.Dir.{Dir}
use Rattle.cmd_tree.specs.declared.tree.Dir.TheVariants.{Input, Output}
use Rattle.cmd_tree.specs.declared.tree.Mark.{Mark}
use Rattle.cmd_tree.specs.declared.tree.Proc.{Proc}
use Rattle.cmd_tree.specs.Tree.{TItem, TSeq, TSeqs, TBurst, TAlt, Stop, Or, Done, Then}
use Rattle.cmd_tree.specs.Marks.{input, output}
use Rattle.cmd_tree.specs.Limits.{count_of}
use Rattle.process_laws.specs.GrantForms.{Giving, single, lone, gifts, loans, granted_of}
use Rattle.di_grammar.specs.declared.grants.Form.{Form}
use Rattle.di_grammar.specs.declared.grants.Grant.{Grant}
use Rattle.di_grammar.specs.declared.grants.Form.TheVariants.{Plain, Release}
use Rattle.di_grammar.specs.Grants.{Gift, gifts_from, Grants, IsGrant}
use Rattle.di_grammar.specs.Mirror.Found.{told, same_dir, is_mark, is_single, is_gift, are_gifts, Told, found_in, found_body, found, item_symbol, seq_symbol, seq_symbols, gifts_of}

of_dir : (d : Dir) (m : Mark) → same_dir m.dir d ≡ true → m ≡ record { sym = record { 0 = m.sym.0 }; dir = d }
of_dir d m h = λ i. record { sym = m.sym; dir = by m.dir d h i } where
  by : (a b : Dir) → same_dir a b ≡ true → a ≡ b
  by Input Input h = refl
  by Input Output h = absurd (true≢false (sym h))
  by Output Input h = absurd (true≢false (sym h))
  by Output Output h = refl

burst_of : (d : Dir) (ms : List Mark) → is_mark d ms ≡ true → TBurst ms ≡ single (record { sym = record { 0 = item_symbol (TBurst ms) }; dir = d })
burst_of d [] h = absurd (true≢false (sym h))
burst_of d (m ∷ []) h = ap single (of_dir d m h)
burst_of d (m ∷ n ∷ ms) h = absurd (true≢false (sym h))

single_of : (d : Dir) (i : TItem) → is_single d i ≡ true → i ≡ single (record { sym = record { 0 = item_symbol i }; dir = d })
single_of d (TBurst ms) h = burst_of d ms h
single_of d (TAlt ss) h = absurd (true≢false (sym h))

gift_of : (s : TSeq) → is_gift Plain s ≡ true → s ≡ lone (single (output (seq_symbol s)))
gift_of Done h = absurd (true≢false (sym h))
gift_of (Then i Done) h = ap lone (single_of Output i h)
gift_of (Then i (Then j s)) h = absurd (true≢false (sym h))

gifts_are : (ss : TSeqs) → are_gifts Plain ss ≡ true → ss ≡ gifts (seq_symbols ss)
gifts_are Stop h = refl
gifts_are (Or s ss) h =
    let both = and_parts (is_gift Plain s) (are_gifts Plain ss) h in
    ap (λ (t : TSeq). Or t ss) (gift_of s both.0) ∙ ap (Or (lone (single (output (seq_symbol s))))) (gifts_are ss both.1)

returned : TSeq → ℕ
returned Done = 0
returned (Then i s) = seq_symbol s

giving : TSeq → Giving
giving s = record { granted = seq_symbol s; returned = returned s }

givings : TSeqs → List Giving
givings Stop = []
givings (Or s ss) = giving s ∷ givings ss

loan_of : (s : TSeq) → is_gift Release s ≡ true → s ≡ Then (single (output (seq_symbol s))) (lone (single (input (returned s))))
unfolding returned
loan_of Done h = absurd (true≢false (sym h))
loan_of (Then i Done) h = absurd (true≢false (sym h))
loan_of (Then i (Then j Done)) h =
    let both = and_parts (is_single Output i) (is_single Input j) h in
    ap (λ (x : TItem). Then x (Then j Done)) (single_of Output i both.0)
    ∙ ap (λ (x : TItem). Then (single (output (item_symbol i))) (lone x)) (single_of Input j both.1)
loan_of (Then i (Then j (Then k s))) h = absurd (true≢false (sym h))

loans_are : (ss : TSeqs) → are_gifts Release ss ≡ true → ss ≡ loans (givings ss)
unfolding givings giving
loans_are Stop h = refl
loans_are (Or s ss) h =
    let both = and_parts (is_gift Release s) (are_gifts Release ss) h in
    ap (λ (t : TSeq). Or t ss) (loan_of s both.0)
    ∙ ap (Or (Then (single (output (seq_symbol s))) (lone (single (input (returned s)))))) (loans_are ss both.1)

granted_are : (ss : TSeqs) → granted_of (givings ss) ≡ seq_symbols ss
unfolding givings giving
granted_are Stop = refl
granted_are (Or s ss) = ap (λ (xs : List ℕ). seq_symbol s ∷ xs) (granted_are ss)

givings_many : (ss : TSeqs) → length (givings ss) ≡ count_of ss
unfolding givings
givings_many Stop = refl
givings_many (Or s ss) = omega (arith, givings_many ss)

pub symbols_many : (ss : TSeqs) → length (seq_symbols ss) ≡ count_of ss
symbols_many Stop = refl
symbols_many (Or s ss) = omega (arith, symbols_many ss)

-- what is found in an item that is a choice
in_choice : (form : Form) (i : TItem) (g : Told) → found_in form i ≡ Some g
    → (i ≡ TAlt g.choice) × (g.form ≡ form) × (1 < count_of g.choice) × (are_gifts form g.choice ≡ true)
in_choice form (TBurst ms) g h = absurd (cc)
in_choice form (TAlt ss) g h = by (nat_lt 1 (count_of ss) && are_gifts form ss) refl h where
  by : (b : Bool) → (nat_lt 1 (count_of ss) && are_gifts form ss) ≡ b → (if b then Some (record { form = form; choice = ss }) else None) ≡ Some g
      → (TAlt ss ≡ TAlt g.choice) × (g.form ≡ form) × (1 < count_of g.choice) × (are_gifts form g.choice ≡ true)
  by true t e =
      let both = and_parts (nat_lt 1 (count_of ss)) (are_gifts form ss) t in
      let same : Told.choice (record { form = form; choice = ss }) ≡ g.choice = cc in
      let formed : form ≡ g.form = cc in
      (ap TAlt same, sym formed, subst (λ (s : TSeqs). 1 < count_of s) same (ltb-true 1 (count_of ss) both.0), subst (λ (s : TSeqs). are_gifts form s ≡ true) same both.1)
  by false t e = absurd (cc)

-- what is found in a body
in_body : (s : TSeq) (g : Told) → found_body s ≡ Some g → Grants (record { lead = None; body = Some s }) (gifts_of g.form g.choice)
in_body Done g h = absurd (cc)
in_body (Then i Done) g h =
    let t = in_choice Release i g h in
    let loaned : g.choice ≡ loans (givings g.choice) = loans_are g.choice t.3 in
    inr (record {
      givings = givings g.choice;
      many = subst (λ (n : ℕ). 1 < n) (sym (givings_many g.choice)) t.2;
      is = ap (λ (x : TItem). record { lead = None; body = Some (lone x) }) (t.0 ∙ ap TAlt loaned);
      gives = ap (λ (f : Form). gifts_of f g.choice) t.1 ∙ ap (gifts_from 1 2) (sym (granted_are g.choice));
    })
in_body (Then i (Then j Done)) g h = by (is_single Input i) refl h where
  by : (b : Bool) → is_single Input i ≡ b → (if b then found_in Plain j else None) ≡ Some g
      → Grants (record { lead = None; body = Some (Then i (Then j Done)) }) (gifts_of g.form g.choice)
  by false n e = absurd (cc)
  by true y e =
      let t = in_choice Plain j g e in
      let given : g.choice ≡ gifts (seq_symbols g.choice) = gifts_are g.choice t.3 in
      inl (record {
        asks = item_symbol i;
        symbols = seq_symbols g.choice;
        many = subst (λ (n : ℕ). 1 < n) (sym (symbols_many g.choice)) t.2;
        is = ap (λ (x : TItem). record { lead = None; body = Some (Then x (Then j Done)) }) (single_of Input i y)
            ∙ ap (λ (x : TItem). record { lead = None; body = Some (Then (single (input (item_symbol i))) (lone x)) }) (t.0 ∙ ap TAlt given);
        gives = ap (λ (f : Form). gifts_of f g.choice) t.1;
      })
in_body (Then i (Then j (Then k s))) g h = absurd (cc)

pub found_grants : (p : Proc) (g : Told) → found p.lead p.body ≡ Some g → Grants p (gifts_of g.form g.choice)
found_grants p g h = by p.lead p.body h where
  by : (l b : Option TSeq) → found l b ≡ Some g → Grants (record { lead = l; body = b }) (gifts_of g.form g.choice)
  by (Some l) b h = absurd (cc)
  by None None h = absurd (cc)
  by None (Some b) h = in_body b g h

-- the trees of grants are found
are_given : (ps : List ℕ) → are_gifts Plain (gifts ps) ≡ true
are_given [] = refl
are_given (p ∷ ps) = are_given ps

are_lent : (gs : List Giving) → are_gifts Release (loans gs) ≡ true
are_lent [] = refl
are_lent (g ∷ gs) = are_lent gs

given_many : (ps : List ℕ) → count_of (gifts ps) ≡ length ps
given_many [] = refl
given_many (p ∷ ps) = omega (arith, given_many ps)

lent_many : (gs : List Giving) → count_of (loans gs) ≡ length gs
lent_many [] = refl
lent_many (g ∷ gs) = omega (arith, lent_many gs)

given_symbols : (ps : List ℕ) → seq_symbols (gifts ps) ≡ ps
given_symbols [] = refl
given_symbols (p ∷ ps) = ap (λ (xs : List ℕ). p ∷ xs) (given_symbols ps)

lent_symbols : (gs : List Giving) → seq_symbols (loans gs) ≡ granted_of gs
lent_symbols [] = refl
lent_symbols (g ∷ gs) = ap (λ (xs : List ℕ). g.granted ∷ xs) (lent_symbols gs)

found_choice : (form : Form) (ss : TSeqs) → 1 < count_of ss → are_gifts form ss ≡ true → found_in form (TAlt ss) ≡ Some (record { form = form; choice = ss })
found_choice form ss m a = ap (λ (b : Bool). if b then Some (record { form = form; choice = ss }) else None)
    (and_from (nat_lt 1 (count_of ss)) (are_gifts form ss) (lt-ltb 1 (count_of ss) m) a)

-- a grant is found, and gives the symbols that it gives
pub grants_found : (p : Proc) (gs : List Gift) → Grants p gs → (g : Told) × (found p.lead p.body ≡ Some g) × (gs ≡ gifts_of g.form g.choice)
grants_found p gs (inl h) = (
  record { form = Plain; choice = gifts h.symbols },
  ap (λ (q : Proc). found q.lead q.body) h.is ∙ found_choice Plain (gifts h.symbols) (subst (λ (n : ℕ). 1 < n) (sym (given_many h.symbols)) h.many) (are_given h.symbols),
  h.gives ∙ ap (gifts_from 2 1) (sym (given_symbols h.symbols)),
)
grants_found p gs (inr h) = (
  record { form = Release; choice = loans h.givings },
  ap (λ (q : Proc). found q.lead q.body) h.is ∙ found_choice Release (loans h.givings) (subst (λ (n : ℕ). 1 < n) (sym (lent_many h.givings)) h.many) (are_lent h.givings),
  h.gives ∙ ap (gifts_from 1 2) (sym (lent_symbols h.givings)),
)

-- it gives no other symbols
pub grants_one : (p : Proc) (gs hs : List Gift) → Grants p gs → Grants p hs → gs ≡ hs
grants_one p gs hs a b =
    let x = grants_found p gs a in
    let y = grants_found p hs b in
    let same : x.0 ≡ y.0 = cc in
    x.2 ∙ ap (λ (t : Told). gifts_of t.form t.choice) same ∙ sym y.2

pub grant_is : (p : Proc) (o : Option Told) → o ≡ found p.lead p.body → IsTrue (is_some o) ↔ IsGrant p
grant_is p None e = (λ t. absurd (true≢false (sym t)), λ g. let x = grants_found p g.0 g.1 in absurd (cc))
grant_is p (Some g) e = (λ t. (gifts_of g.form g.choice, found_grants p g (sym e)), λ h. refl)

pub count_seqs : (xs : List TSeq) → count_of (seqs_of xs) ≡ length xs
count_seqs [] = refl
count_seqs (x ∷ xs) = omega (arith, count_seqs xs)

-- sequences of too few items, or too many
pub given_few : (xs : List Item) → 2 ≤ length xs → false ≡ is_gift Plain (seq_of xs)
given_few [] h = absurd (omega arith)
given_few (x ∷ []) h = absurd (omega arith)
given_few (x ∷ y ∷ xs) h = refl

pub lent_few : (xs : List Item) → length xs < 2 → false ≡ is_gift Release (seq_of xs)
lent_few [] h = refl
lent_few (x ∷ []) h = refl
lent_few (x ∷ y ∷ xs) h = absurd (omega arith)

pub lent_many_items : (xs : List Item) → 3 ≤ length xs → false ≡ is_gift Release (seq_of xs)
lent_many_items [] h = absurd (omega arith)
lent_many_items (x ∷ []) h = absurd (omega arith)
lent_many_items (x ∷ y ∷ []) h = absurd (omega arith)
lent_many_items (x ∷ y ∷ z ∷ xs) h = refl

pub body_many : (xs : List Item) → 3 ≤ length xs → None ≡ found_body (seq_of xs)
body_many [] h = absurd (omega arith)
body_many (x ∷ []) h = absurd (omega arith)
body_many (x ∷ y ∷ []) h = absurd (omega arith)
body_many (x ∷ y ∷ z ∷ xs) h = refl

told_some : (o : Option Grant) → is_some (told o) ≡ is_some o
told_some None = refl
told_some (Some g) = refl

pub grant_told : (p : Proc) (o : Option Grant) (b : Bool) → told o ≡ found p.lead p.body → b ≡ is_some o → IsTrue b ↔ IsGrant p
grant_told p o b e r = subst (λ (x : Bool). IsTrue x ↔ IsGrant p) (told_some o ∙ sym r) (grant_is p (told o) e)
