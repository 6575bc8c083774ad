-- The steps of the search for a symbol that a grant gives twice.
use native.Mathlib.Decide.{ℕ_discrete}
use Rattle.std.proofs.Common.{◌≡◌, ◌≢◌, ◌⊎◌, inl, inr, ◌↔◌, ℕ, suc, ◌+◌, ◌*◌, ◌^◌, ◌<◌, ◌≤◌, List, [], ◌∷◌, ◌++◌, length, take, drop, get_or, Some, None, refl, sym, ap, ◌∙◌, subst, arith, drop-cons}
use Rattle.std.proofs.lemmas.List.{take_more, length-take-le, take-append-drop}
use Rattle.cmd_tree.specs.declared.limits.TheConstants.{MAX_SYMBOLS}
use Rattle.cmd_tree.specs.declared.tree.Proc.{Proc}
use Rattle.cmd_tree.specs.Tree.{TSeq, places_among, marks_among}
use Rattle.cmd_tree.specs.View.{seqs_of}
use Rattle.cmd_tree.specs.Limits.{places_of_proc, marks_of_proc}
use Rattle.process_laws.specs.GrantForms.{Giving, gifts, loans, granted_of, plain, release}
use Rattle.di_grammar.specs.declared.clash.Clash.{Clash}
use Rattle.di_grammar.specs.declared.grants.Form.{Form}
use Rattle.di_grammar.specs.declared.grants.Form.TheVariants.{Plain, Release}
use Rattle.di_grammar.specs.Clashes.{First, Precedes}
use Rattle.di_grammar.specs.Lists.{Each, Within, InOrder}
use Rattle.di_grammar.specs.Grants.{Gift, gifts_from, Grants}
use Rattle.di_grammar.specs.Granted.{KeepsGranted, BreaksGranted}
use Rattle.di_grammar.specs.Mirror.Laid.{AreSmall}
use Rattle.di_grammar.specs.Mirror.Found.{found, seq_symbol, seq_symbols, first_place, step_of}
use Rattle.di_grammar.specs.Mirror.Given.{gift_place, gifts_in, Differ, GivenTwice, GivenAt, Gave, GaveAll}
use Rattle.di_grammar.proofs.Forms.{grants_one, grants_found}
use Rattle.di_grammar.proofs.Lists.{none_within, within_front, within_last, within_next, each_within, each_all, each_map, two_cases, two_join, two_ordered, two_all, each_front, order_split, split_order}

-- The gifts of alternatives, some after others.

-- the place after these
along : ℕ → ℕ → List ℕ → ℕ
along k step [] = k
along k step (a ∷ ns) = along (k + step) step ns

from_join : (k step : ℕ) (ns bs : List ℕ) → gifts_from k step (ns ++ bs) ≡ gifts_from k step ns ++ gifts_from (along k step ns) step bs
unfolding along
from_join k step [] bs = refl
from_join k step (a ∷ ns) bs = ap (λ (gs : List Gift). record { place = k; symbol = a } ∷ gs) (from_join (k + step) step ns bs)

along_one : (k : ℕ) (ns : List ℕ) → along k 1 ns ≡ k + length ns
unfolding along
along_one k [] = omega arith
along_one k (a ∷ ns) = omega (arith, along_one (k + 1) ns)

along_two : (k : ℕ) (ns : List ℕ) → along k 2 ns ≡ k + 2 * length ns
unfolding along
along_two k [] = omega arith
along_two k (a ∷ ns) = omega (arith, along_two (k + 2) ns)

symbols_join : (xs ys : List TSeq) → seq_symbols (seqs_of (xs ++ ys)) ≡ seq_symbols (seqs_of xs) ++ seq_symbols (seqs_of ys)
symbols_join [] ys = refl
symbols_join (x ∷ xs) ys = ap (λ (ns : List ℕ). seq_symbol x ∷ ns) (symbols_join xs ys)

symbols_length : (xs : List TSeq) → length (seq_symbols (seqs_of xs)) ≡ length xs
symbols_length [] = refl
symbols_length (x ∷ xs) = ap suc (symbols_length xs)

along_form : (form : Form) (xs : List TSeq) → along (first_place form) (step_of form) (seq_symbols (seqs_of xs)) ≡ gift_place form (length xs)
along_form Plain xs = along_one 2 (seq_symbols (seqs_of xs)) ∙ ap (λ (n : ℕ). 2 + n) (symbols_length xs)
along_form Release xs = along_two 1 (seq_symbols (seqs_of xs)) ∙ ap (λ (n : ℕ). 1 + 2 * n) (symbols_length xs)

-- what comes after these alternatives
abbrev later_gifts : Form → List TSeq → List TSeq → List Gift
later_gifts form xs ys = gifts_from (gift_place form (length xs)) (step_of form) (seq_symbols (seqs_of ys))

gifts_join : (form : Form) (xs ys : List TSeq) → gifts_in form (xs ++ ys) ≡ gifts_in form xs ++ later_gifts form xs ys
gifts_join form xs ys =
    ap (gifts_from (first_place form) (step_of form)) (symbols_join xs ys)
    ∙ from_join (first_place form) (step_of form) (seq_symbols (seqs_of xs)) (seq_symbols (seqs_of ys))
    ∙ ap (λ (k : ℕ). gifts_in form xs ++ gifts_from k (step_of form) (seq_symbols (seqs_of ys))) (along_form form xs)

step_more : (form : Form) → 0 < step_of form
step_more Plain = omega arith
step_more Release = omega arith

first_some : (form : Form) (i : ℕ) → 0 < gift_place form i
first_some Plain i = omega arith
first_some Release i = omega arith

from_least : (k step : ℕ) (ns : List ℕ) → Each (λ g. k ≤ g.place) (gifts_from k step ns)
from_least k step [] = tt
from_least k step (a ∷ ns) = (omega arith, each_map _ _ (gifts_from (k + step) step ns) (λ g h. omega arith) (from_least (k + step) step ns))

module _ (form : Form) (xs : List TSeq) (i : ℕ) (x : TSeq) (short : i < length xs) (is : x ≡ get_or xs i x) where
  abbrev here : Gift
  here = record { place = gift_place form i; symbol = seq_symbol x }

  abbrev rest : List Gift
  rest = gifts_from (gift_place form i + step_of form) (step_of form) (seq_symbols (seqs_of (drop (suc i) xs)))

  at_length : length (take i xs) ≡ i
  at_length = length-take-le i xs (omega arith)

  taken : take i xs ++ x ∷ [] ≡ take (i + 1) xs
  taken = ap (λ (y : TSeq). take i xs ++ y ∷ []) is ∙ sym (take_more xs i x short)

  pub next_gifts : gifts_in form (take (i + 1) xs) ≡ gifts_in form (take i xs) ++ here ∷ []
  next_gifts = ap (gifts_in form) (sym taken) ∙ gifts_join form (take i xs) (x ∷ [])
      ∙ ap (λ (n : ℕ). gifts_in form (take i xs) ++ record { place = gift_place form n; symbol = seq_symbol x } ∷ []) at_length

  split : xs ≡ take i xs ++ x ∷ drop (suc i) xs
  split = sym (take-append-drop i xs) ∙ ap (λ (ys : List TSeq). take i xs ++ ys) (drop-cons xs i x short ∙ ap (λ (y : TSeq). y ∷ drop (suc i) xs) (sym is))

  pub all_gifts : gifts_in form xs ≡ gifts_in form (take i xs) ++ here ∷ rest
  all_gifts = ap (gifts_in form) split ∙ gifts_join form (take i xs) (x ∷ drop (suc i) xs)
      ∙ ap (λ (n : ℕ). gifts_in form (take i xs) ++ record { place = gift_place form n; symbol = seq_symbol x }
      ∷ gifts_from (gift_place form n + step_of form) (step_of form) (seq_symbols (seqs_of (drop (suc i) xs)))) at_length

  pub place_fits : Each (λ g. g.place < 2 ^ 32) (gifts_in form xs) → gift_place form i < 2 ^ 32
  place_fits few = each_within _ (gifts_in form xs) here few (record { before = gifts_in form (take i xs); after = rest; are = all_gifts })

  pub symbol_small : Each (λ g. g.symbol < MAX_SYMBOLS) (gifts_in form xs) → seq_symbol x < MAX_SYMBOLS
  symbol_small small = each_within _ (gifts_in form xs) here small (record { before = gifts_in form (take i xs); after = rest; are = all_gifts })

  -- the symbol is new
  module _ (places : ℕ → ℕ) (gave : GaveAll (gifts_in form (take i xs)) places) where
    pub differ_next : places (seq_symbol x) ≡ 0 → Differ (gifts_in form (take i xs)) → Differ (gifts_in form (take (i + 1) xs))
    differ_next e d = subst Differ (sym next_gifts) (two_join _ (gifts_in form (take i xs)) here d (each_all _ (gifts_in form (take i xs)) (λ g w same. elim (gave (seq_symbol x)) [
      | inl n ↦ n.1 g w same
      | inr s ↦ omega (arith, s.0)
    ])))

    pub gave_next : (new : ℕ → ℕ) → places (seq_symbol x) ≡ 0 → new (seq_symbol x) ≡ gift_place form i → ((a : ℕ) → a ≢ seq_symbol x → new a ≡ places a)
        → GaveAll (gifts_in form (take (i + 1) xs)) new
    gave_next new e put others = subst (λ gs. GaveAll gs new) (sym next_gifts) (λ a. elim (ℕ_discrete a (seq_symbol x)) [
      | yes k ↦ inr (omega (arith, ap new k, put, first_some form i), record { gift = here; within = within_last (gifts_in form (take i xs)) here; same = sym k; at = ap new k ∙ put })
      | no k ↦ rw (others a k) (kept a k (gave a))
    ]) where
      kept : (a : ℕ) → a ≢ seq_symbol x → Gave (gifts_in form (take i xs)) a (places a) → Gave (gifts_in form (take i xs) ++ here ∷ []) a (places a)
      kept a k (inl n) = inl (
        n.0,
        λ g w same. elim (within_next (gifts_in form (take i xs)) here g w) [
          | inl old ↦ n.1 g old same
          | inr last ↦ k (sym same ∙ ap (λ (h : Gift). h.symbol) last)
        ],
      )
      kept a k (inr s) = inr (
        s.0,
        record {
          gift = s.1.gift;
          within = within_front (gifts_in form (take i xs)) (here ∷ []) s.1.gift s.1.within;
          same = s.1.same;
          at = s.1.at;
        },
      )

    -- it was given before
    pub twice_here : (earlier : ℕ) → earlier ≡ places (seq_symbol x) → earlier ≢ 0 → Differ (gifts_in form (take i xs))
        → First (GivenTwice (gifts_in form xs)) (Some (record { place = gift_place form i; case = 0; other = earlier }))
    twice_here earlier is_earlier some differ = elim (gave (seq_symbol x)) [ inl n ↦ absurd (some (is_earlier ∙ n.0)) | inr s ↦ found s.1 ] where
      same_gift : (g h : Gift) → Within (gifts_in form (take i xs)) g → Within (gifts_in form (take i xs)) h → g.symbol ≡ h.symbol → g ≡ h
      same_gift g h v w same = elim (two_cases (λ g h. g.symbol ≢ h.symbol) (gifts_in form (take i xs)) g h differ v w) [
        | inl e ↦ e
        | inr o ↦ elim o [ inl d ↦ absurd (d same) | inr d ↦ absurd (d (sym same)) ]
      ]

      least : GivenAt (gifts_in form (take i xs)) (seq_symbol x) (places (seq_symbol x)) → (d : Clash) (t : GivenTwice (gifts_in form xs) d)
          → InOrder (gifts_in form (take i xs)) t.first t.second ⊎ ((Within (gifts_in form (take i xs)) t.first × (t.second ≡ here)) ⊎ Within rest t.second)
          → Precedes d (record { place = gift_place form i; case = 0; other = earlier }) → ⊥
      least g d t (inl old) p = two_ordered (λ g h. g.symbol ≢ h.symbol) (gifts_in form (take i xs)) t.first t.second differ old t.same
      least g d t (inr (inl last)) p =
          let e : t.first ≡ g.gift = same_gift t.first g.gift last.0 g.within (t.same ∙ ap (λ (h : Gift). h.symbol) last.1 ∙ sym g.same) in
          let at : d.place ≡ gift_place form i = t.place ∙ ap (λ (h : Gift). h.place) last.1 in
          let against : d.other ≡ earlier = t.other ∙ ap (λ (h : Gift). h.place) e ∙ sym g.at ∙ sym is_earlier in
          let here_too = t.case in
          omega (arith, p)
      least g d t (inr (inr later)) p =
          let after : gift_place form i + step_of form ≤ t.second.place = each_within _ rest t.second (from_least _ _ _) later in
          let at = t.place in
          omega (arith, p, step_more form)

      found : GivenAt (gifts_in form (take i xs)) (seq_symbol x) (places (seq_symbol x)) → First (GivenTwice (gifts_in form xs)) (Some (record { place = gift_place form i; case = 0; other = earlier }))
      found g = (
        record {
          first = g.gift;
          second = here;
          order = subst (λ gs. InOrder gs g.gift here) (sym all_gifts) (order_split (gifts_in form (take i xs)) here rest g.gift g.within);
          same = g.same;
          place = refl;
          other = is_earlier ∙ g.at;
          case = refl;
        },
        λ d t p. least g d t (split_order (gifts_in form (take i xs)) here rest t.first t.second (subst (λ gs. InOrder gs t.first t.second) all_gifts t.order)) p,
      )

pub gave_none : (form : Form) (table : ℕ → ℕ) → ((a : ℕ) → table a ≡ 0) → GaveAll (gifts_in form []) table
gave_none Plain table zeros = λ a. inl (zeros a, λ g w same. none_within g w)
gave_none Release table zeros = λ a. inl (zeros a, λ g w same. none_within g w)

pub no_twice : (gs : List Gift) → Differ gs → First (GivenTwice gs) None
no_twice gs d = λ c t. two_ordered _ gs t.first t.second d t.order t.same

-- The gifts of a grant have places and symbols of the process.

along_least : (k step : ℕ) (ns : List ℕ) → k ≤ along k step ns
unfolding along
along_least k step [] = omega arith
along_least k step (a ∷ ns) = omega (arith, along_least (k + step) step ns)

from_below : (k step : ℕ) (ns : List ℕ) → Each (λ g. g.place + step ≤ along k step ns) (gifts_from k step ns)
unfolding along
from_below k step [] = tt
from_below k step (a ∷ ns) = (along_least (k + step) step ns, from_below (k + step) step ns)

from_symbols : (P : ℕ → Type 0) (k step : ℕ) (ns : List ℕ) → Each P ns → Each (λ g. P g.symbol) (gifts_from k step ns)
from_symbols P k step [] h = tt
from_symbols P k step (a ∷ ns) h = (h.0, from_symbols P (k + step) step ns h.1)

gifts_places : (ps : List ℕ) → places_among (gifts ps) ≡ length ps
gifts_places [] = refl
gifts_places (p ∷ ps) = omega (arith, gifts_places ps)

loans_places : (gs : List Giving) → places_among (loans gs) ≡ 2 * length (granted_of gs)
loans_places [] = omega arith
loans_places (g ∷ gs) = omega (arith, loans_places gs)

gifts_small : (ps : List ℕ) → AreSmall (marks_among (gifts ps)) → Each (λ a. a < MAX_SYMBOLS) ps
gifts_small [] h = tt
gifts_small (p ∷ ps) h = (h.0, gifts_small ps h.1)

loans_small : (gs : List Giving) → AreSmall (marks_among (loans gs)) → Each (λ a. a < MAX_SYMBOLS) (granted_of gs)
loans_small [] h = tt
loans_small (g ∷ gs) h = (h.0, loans_small gs h.1.1)

plain_places : (n : ℕ) (ps : List ℕ) → places_of_proc (plain n ps) ≡ 1 + length ps
plain_places n ps = omega (arith, gifts_places ps)

release_places : (gs : List Giving) → places_of_proc (release gs) ≡ 2 * length (granted_of gs)
release_places gs = omega (arith, loans_places gs)

pub gifts_fit : (p : Proc) (gs : List Gift) → Grants p gs → places_of_proc p + 1 < 2 ^ 32 → Each (λ g. g.place < 2 ^ 32) gs
gifts_fit p gs (inl h) few =
    let places : places_of_proc p ≡ 1 + length h.symbols = ap places_of_proc h.is ∙ plain_places h.asks h.symbols in
    subst (Each (λ g. g.place < 2 ^ 32)) (sym h.gives) (each_map _ _ (gifts_from 2 1 h.symbols) (λ g b. omega (arith, along_one 2 h.symbols)) (from_below 2 1 h.symbols))
gifts_fit p gs (inr h) few =
    let places : places_of_proc p ≡ 2 * length (granted_of h.givings) = ap places_of_proc h.is ∙ release_places h.givings in
    subst (Each (λ g. g.place < 2 ^ 32)) (sym h.gives) (each_map _ _ (gifts_from 1 2 (granted_of h.givings)) (λ g b. omega (arith, along_two 1 (granted_of h.givings))) (from_below 1 2 (granted_of h.givings)))

pub gifts_are_small : (p : Proc) (gs : List Gift) → Grants p gs → AreSmall (marks_of_proc p) → Each (λ g. g.symbol < MAX_SYMBOLS) gs
gifts_are_small p gs (inl h) small =
    let marks : AreSmall (marks_of_proc (plain h.asks h.symbols)) = subst (λ (q : Proc). AreSmall (marks_of_proc q)) h.is small in
    subst (Each (λ g. g.symbol < MAX_SYMBOLS)) (sym h.gives)
    (from_symbols (λ a. a < MAX_SYMBOLS) 2 1 h.symbols (gifts_small h.symbols (each_front _ (marks_among (gifts h.symbols)) [] marks.1)))
gifts_are_small p gs (inr h) small =
    let marks : AreSmall (marks_of_proc (release h.givings)) = subst (λ (q : Proc). AreSmall (marks_of_proc q)) h.is small in
    subst (Each (λ g. g.symbol < MAX_SYMBOLS)) (sym h.gives)
    (from_symbols (λ a. a < MAX_SYMBOLS) 1 2 (granted_of h.givings) (loans_small h.givings (each_front _ (marks_among (loans h.givings)) [] marks)))

-- What is told of the process.

pub twice_of : (p : Proc) (gs : List Gift) → Grants p gs → (c : Clash) → GivenTwice gs c ↔ BreaksGranted p c
twice_of p gs grants c = (
  λ t. record { gifts = gs; grants = grants; first = t.first; second = t.second; order = t.order; same = t.same; place = t.place; other = t.other; case = t.case },
  λ b. record {
    first = b.first;
    second = b.second;
    order = subst (λ hs. InOrder hs b.first b.second) (grants_one p b.gifts gs b.grants grants) b.order;
    same = b.same;
    place = b.place;
    other = b.other;
    case = b.case;
  },
)

pub no_grant_breaks : (p : Proc) → None ≡ found p.lead p.body → First (BreaksGranted p) None
no_grant_breaks p none = λ c b. let g = grants_found p b.gifts b.grants in cc (g.1)

pub keeps_granted : (p : Proc) → KeepsGranted p ↔ ((c : Clash) → BreaksGranted p c → ⊥)
keeps_granted p = (
  λ keeps c b. two_ordered _ b.gifts b.first b.second (keeps b.gifts b.grants) b.order b.same,
  λ none gs grants. two_all _ gs (λ g h order same. none (record { place = h.place; case = 0; other = g.place })
      (record { gifts = gs; grants = grants; first = g; second = h; order = order; same = same; place = refl; other = refl; case = refl })),
)
