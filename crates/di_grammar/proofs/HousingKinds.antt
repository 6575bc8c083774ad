-- The marks of the grants of a command, and those of the other processes.
use Rattle.std.proofs.Common.{◌≡◌, ◌⊎◌, inl, inr, ℕ, suc, ◌+◌, ◌<◌, ◌≤◌, Bool, true, false, true≢false, List, [], ◌∷◌, ◌++◌, length, get_or, Option, Some, None, refl, sym, ap, ◌∙◌, subst, arith, append_assoc, eq-eqb, eqb-true, add-zero}
use Rattle.std.proofs.lemmas.List.{append-nil}
use Rattle.std.specs.Prelude.{nat_eq, ◌||◌, is_some}
use Rattle.cmd_tree.specs.declared.limits.TheConstants.{MAX_SYMBOLS}
use Rattle.cmd_tree.specs.declared.tree.Mark.{Mark}
use Rattle.cmd_tree.specs.declared.tree.Proc.{Proc}
use Rattle.cmd_tree.specs.Limits.{marks_of_proc, marks_of_all}
use Rattle.cmd_tree.specs.Lists.{is_in}
use Rattle.cmd_tree.specs.Meaning.{symbols}
use Rattle.tree_walk.specs.Bursts.{Burst, bursts}
use Rattle.di_grammar.specs.declared.spots.Spot.{Spot}
use Rattle.di_grammar.specs.Lists.{Each, EachTwo, Within}
use Rattle.di_grammar.specs.Grants.{IsGrant}
use Rattle.di_grammar.specs.Spots.{spots_from, spots_in, first_mark, Numbered}
use Rattle.di_grammar.specs.Homes.{HasHome}
use Rattle.di_grammar.specs.Mirror.Found.{found}
use Rattle.di_grammar.specs.Mirror.Laid.{AreSmall}
use Rattle.di_grammar.specs.Mirror.Seen.{InTable, spots_passed}
use Rattle.di_grammar.specs.Mirror.Homes.{is_found, if_same, kind_spots, kind_after, stands_in, GrantsSeen, HomesSeen, KnowsKinds}
use Rattle.di_grammar.proofs.FairnessLists.{each_so}
use Rattle.di_grammar.proofs.Forms.{grant_is}
use Rattle.di_grammar.proofs.Lists.{each_front, each_back, within_first, within_more, within_cons, none_within, within_front, within_back, within_join, each_join, each_within, each_all}
use Rattle.di_grammar.proofs.Seeing.{first_symbol, first_there_is, passed_append, passed_all, small_from}

-- ---- a process is found to be a grant, or not

pub found_true : (p : Proc) → IsGrant p → is_found p ≡ true
found_true p g = (grant_is p (found p.lead p.body) refl).1 g

pub found_false : (p : Proc) → (IsGrant p → ⊥) → is_found p ≡ false
found_false p n = by (is_found p) refl where
  by : (b : Bool) → is_found p ≡ b → is_found p ≡ false
  by true e = absurd (n ((grant_is p (found p.lead p.body) refl).0 e))
  by false e = e

pub true_found : (p : Proc) → is_found p ≡ true → IsGrant p
true_found p e = (grant_is p (found p.lead p.body) refl).0 e

pub false_found : (p : Proc) → is_found p ≡ false → IsGrant p → ⊥
false_found p e g = true≢false (sym (found_true p g) ∙ e)

-- ---- one more process

if_kind : (b : Bool) (ss : List Spot) → if_same b b ss ≡ ss
if_kind true ss = refl
if_kind false ss = refl

kind_in : (kind : Bool) (p : Proc) (ss : List Spot) → is_found p ≡ kind → if_same kind (is_found p) ss ≡ ss
kind_in kind p ss e = ap (λ (b : Bool). if_same kind b ss) e ∙ if_kind kind ss

kind_more : (kind : Bool) (q : ℕ) (ps : List Proc) (p : Proc)
    → kind_spots kind q (ps ++ p ∷ []) ≡ kind_spots kind q ps ++ if_same kind (is_found p) (spots_in (q + length ps) p)
kind_more kind q [] p = rw add-zero (append-nil (if_same kind (is_found p) (spots_in q p)))
kind_more kind q (r ∷ ps) p =
    let more : q + 1 + length ps ≡ q + suc (length ps) = omega arith in
    ap (λ (ss : List Spot). if_same kind (is_found r) (spots_in q r) ++ ss)
    (kind_more kind (q + 1) ps p
    ∙ ap (λ (n : ℕ). kind_spots kind (q + 1) ps ++ if_same kind (is_found p) (spots_in n p)) more)
    ∙ sym (append_assoc (if_same kind (is_found r) (spots_in q r)) (kind_spots kind (q + 1) ps) (if_same kind (is_found p) (spots_in (q + suc (length ps)) p)))

-- all of its bursts are passed
pub kind_all : (kind : Bool) (ps : List Proc) (p : Proc) → is_found p ≡ kind
    → kind_after kind ps (bursts p) ≡ kind_spots kind 1 (ps ++ p ∷ [])
kind_all kind ps p e =
    let number : length ps + 1 ≡ 1 + length ps = omega arith in
    ap (λ (ss : List Spot). kind_spots kind 1 ps ++ ss) (passed_all (length ps + 1) p
    ∙ ap (λ (n : ℕ). spots_in n p) number ∙ sym (kind_in kind p (spots_in (1 + length ps) p) e))
    ∙ sym (kind_more kind 1 ps p)

pub kind_none : (kind : Bool) (ps : List Proc) → kind_after kind ps [] ≡ kind_spots kind 1 ps
kind_none kind ps = append-nil (kind_spots kind 1 ps)

-- a process of the other kind has no marks of this kind
pub true_other : (ps : List Proc) (p : Proc) → is_found p ≡ false
    → kind_spots true 1 (ps ++ p ∷ []) ≡ kind_spots true 1 ps
true_other ps p e = kind_more true 1 ps p
    ∙ ap (λ (b : Bool). kind_spots true 1 ps ++ if_same true b (spots_in (1 + length ps) p)) e
    ∙ append-nil (kind_spots true 1 ps)

pub false_other : (ps : List Proc) (p : Proc) → is_found p ≡ true
    → kind_spots false 1 (ps ++ p ∷ []) ≡ kind_spots false 1 ps
false_other ps p e = kind_more false 1 ps p
    ∙ ap (λ (b : Bool). kind_spots false 1 ps ++ if_same false b (spots_in (1 + length ps) p)) e
    ∙ append-nil (kind_spots false 1 ps)

pub kind_burst : (kind : Bool) (ps : List Proc) (bs : List Burst) (q k : ℕ) (ms : List Mark)
    → q ≡ length ps + 1
    → kind_after kind ps bs ++ spots_from q k ms ≡ kind_after kind ps (bs ++ record { place = k; marks = ms } ∷ [])
kind_burst kind ps bs q k ms e =
    append_assoc (kind_spots kind 1 ps) (spots_passed (length ps + 1) bs) (spots_from q k ms)
    ∙ ap (λ (n : ℕ). kind_spots kind 1 ps ++ (spots_passed (length ps + 1) bs ++ spots_from n k ms)) e
    ∙ ap (λ (ss : List Spot). kind_spots kind 1 ps ++ (spots_passed (length ps + 1) bs ++ ss)) (sym (append-nil (spots_from (length ps + 1) k ms)))
    ∙ ap (λ (ss : List Spot). kind_spots kind 1 ps ++ ss) (sym (passed_append (length ps + 1) bs (record { place = k; marks = ms } ∷ [])))

-- ---- a grant is seen, or another process

pub grant_seen : (first second new_first new_second : List (Option Spot)) (home : List Bool) (ps : List Proc) (p : Proc) → IsGrant p
    → (GrantsSeen first second (kind_after true ps []) → GrantsSeen new_first new_second (kind_after true ps (bursts p)))
    → KnowsKinds first second home ps → KnowsKinds new_first new_second home (ps ++ p ∷ [])
grant_seen first second new_first new_second home ps p g walked k = record {
  grants = subst (GrantsSeen new_first new_second) (kind_all true ps p (found_true p g)) (walked (subst (GrantsSeen first second) (sym (kind_none true ps)) k.grants));
  homes = subst (HomesSeen home) (sym (false_other ps p (found_true p g))) k.homes;
}

pub other_seen : (first second : List (Option Spot)) (home new_home : List Bool) (ps : List Proc) (p : Proc)
    → (IsGrant p → ⊥)
    → (HomesSeen home (kind_after false ps []) → HomesSeen new_home (kind_after false ps (bursts p)))
    → KnowsKinds first second home ps → KnowsKinds first second new_home (ps ++ p ∷ [])
other_seen first second home new_home ps p n walked k = record {
  grants = subst (GrantsSeen first second) (sym (true_other ps p (found_false p n))) k.grants;
  homes = subst (HomesSeen new_home) (kind_all false ps p (found_false p n)) (walked (subst (HomesSeen home) (sym (kind_none false ps)) k.homes));
}

-- ---- which marks these are

-- a process at its number, where the first has number k
pub record At (k : ℕ) (ps : List Proc) (q : ℕ) (p : Proc) : Type 0 where
  pub before : List Proc
  pub after : List Proc
  pub are : ps ≡ before ++ p ∷ after
  pub number : q ≡ k + length before

pub at_numbered : (ps : List Proc) (q : ℕ) (p : Proc) → At 1 ps q p → Numbered ps q p
at_numbered ps q p a = record { before = a.before; after = a.after; are = a.are; number = omega (arith, a.number) }

pub numbered_at : (ps : List Proc) (q : ℕ) (p : Proc) → Numbered ps q p → At 1 ps q p
numbered_at ps q p a = record { before = a.before; after = a.after; are = a.are; number = omega (arith, a.number) }

pub at_first : (k : ℕ) (p : Proc) (ps : List Proc) → At k (p ∷ ps) k p
at_first k p ps = record { before = []; after = ps; are = refl; number = omega arith }

pub at_more : (k : ℕ) (r : Proc) (ps : List Proc) (q : ℕ) (p : Proc) → At (k + 1) ps q p → At k (r ∷ ps) q p
at_more k r ps q p a = record { before = r ∷ a.before; after = a.after; are = ap (λ (xs : List Proc). r ∷ xs) a.are; number = omega (arith, a.number) }

pub at_cons : (k : ℕ) (r : Proc) (ps : List Proc) (q : ℕ) (p : Proc) → At k (r ∷ ps) q p
    → ((q ≡ k) × (p ≡ r)) ⊎ At (k + 1) ps q p
at_cons k r ps q p a = by a.before a.are a.number where
  by : (before : List Proc) → r ∷ ps ≡ before ++ p ∷ a.after → q ≡ k + length before
      → ((q ≡ k) × (p ≡ r)) ⊎ At (k + 1) ps q p
  by [] e n = let same : p ≡ r = cc in inl (omega (arith, n), same)
  by (x ∷ xs) e n = let rest : ps ≡ xs ++ p ∷ a.after = cc in inr (record { before = xs; after = a.after; are = rest; number = omega (arith, n) })

pub at_none : (k q : ℕ) (p : Proc) → At k [] q p → ⊥
at_none k q p a = none_within p (record { before = a.before; after = a.after; are = a.are })

-- the marks of a process are in it, from its first place on
pub record From (q k : ℕ) (s : Spot) : Type 0 where
  pub process : s.process ≡ q
  pub place : k ≤ s.place

from_more : (q k : ℕ) (s : Spot) → From q (k + 1) s → From q k s
from_more q k s f = record { process = f.process; place = omega (arith, f.place) }

pub spots_are_from : (q k : ℕ) (ms : List Mark) → Each (From q k) (spots_from q k ms)
spots_are_from q k [] = tt
spots_are_from q k (m ∷ ms) = (
  record { process = refl; place = omega arith },
  each_so (From q (k + 1)) (From q k) (spots_from q (k + 1) ms) (from_more q k) (spots_are_from q (k + 1) ms),
)

pub in_process : (q : ℕ) (p : Proc) (s : Spot) → Within (spots_in q p) s → s.process ≡ q
in_process q p s w = (each_within (From q 1) (spots_in q p) s (spots_are_from q 1 (marks_of_proc p)) w).process

-- a mark of a process of this kind
pub record Marked (kind : Bool) (k : ℕ) (ps : List Proc) (s : Spot) : Type 0 where
  pub proc : Proc
  pub at : At k ps s.process proc
  pub kind_is : is_found proc ≡ kind
  pub within : Within (spots_in s.process proc) s

marked_more : (kind : Bool) (k : ℕ) (r : Proc) (ps : List Proc) (s : Spot) → Marked kind (k + 1) ps s
    → Marked kind k (r ∷ ps) s
marked_more kind k r ps s m = record { proc = m.proc; at = at_more k r ps s.process m.proc m.at; kind_is = m.kind_is; within = m.within }

if_within : (kind b : Bool) (ss : List Spot) (s : Spot) → Within (if_same kind b ss) s
    → (b ≡ kind) × Within ss s
if_within true true ss s w = (refl, w)
if_within true false ss s w = absurd (none_within s w)
if_within false true ss s w = absurd (none_within s w)
if_within false false ss s w = (refl, w)

pub marked : (kind : Bool) (k : ℕ) (ps : List Proc) (s : Spot) → Within (kind_spots kind k ps) s
    → Marked kind k ps s
marked kind k [] s w = absurd (none_within s w)
marked kind k (p ∷ ps) s w = elim (within_join (if_same kind (is_found p) (spots_in k p)) (kind_spots kind (k + 1) ps) s w) [
  | inl l ↦ here (if_within kind (is_found p) (spots_in k p) s l)
  | inr r ↦ marked_more kind k p ps s (marked kind (k + 1) ps s r)
] where
  here : (is_found p ≡ kind) × Within (spots_in k p) s → Marked kind k (p ∷ ps) s
  here h =
      let same : k ≡ s.process = sym (in_process k p s h.1) in
      record {
        proc = p;
        at = subst (λ (n : ℕ). At k (p ∷ ps) n p) same (at_first k p ps);
        kind_is = h.0;
        within = subst (λ (n : ℕ). Within (spots_in n p) s) same h.1;
      }

pub marks : (kind : Bool) (k : ℕ) (ps : List Proc) (q : ℕ) (p : Proc) (s : Spot) → At k ps q p
    → is_found p ≡ kind → Within (spots_in q p) s
    → Within (kind_spots kind k ps) s
marks kind k [] q p s a e w = absurd (at_none k q p a)
marks kind k (r ∷ ps) q p s a e w = elim (at_cons k r ps q p a) [
  | inl h ↦ within_front (if_same kind (is_found r) (spots_in k r)) (kind_spots kind (k + 1) ps) s
      (subst (λ (ss : List Spot). Within ss s) (sym (kind_in kind r (spots_in k r) (ap is_found (sym h.1)
      ∙ e)))
      (subst (λ (n : ℕ). Within (spots_in n r) s) h.0 (subst (λ (x : Proc). Within (spots_in q x) s) h.1 w)))
  | inr h ↦ within_back (if_same kind (is_found r) (spots_in k r)) (kind_spots kind (k + 1) ps) s (marks kind (k + 1) ps q p s h e w)
]

-- ---- in which order they stand

abbrev pub Sooner : Spot → Spot → Type 0
Sooner s t = (s.process < t.process) ⊎ ((s.process ≡ t.process) × (s.place < t.place))

pub two_join : {A : Type 0} (R : A → A → Type 0) (xs ys : List A) → EachTwo R xs → EachTwo R ys
    → Each (λ x. Each (R x) ys) xs → EachTwo R (xs ++ ys)
two_join R [] ys a b h = b
two_join R (x ∷ xs) ys a b h = (each_join (R x) xs ys a.0 h.0, two_join R xs ys a.1 b h.1)

spots_rise : (q k : ℕ) (ms : List Mark) → EachTwo Sooner (spots_from q k ms)
spots_rise q k [] = tt
spots_rise q k (m ∷ ms) = (
  each_so (From q (k + 1)) (Sooner (record { process = q; place = k; mark = m })) (spots_from q (k + 1) ms) (λ s f. inr (sym f.process, omega (arith, f.place)))
      (spots_are_from q (k + 1) ms),
  spots_rise q (k + 1) ms,
)

if_rise : (kind b : Bool) (ss : List Spot) → EachTwo Sooner ss → EachTwo Sooner (if_same kind b ss)
if_rise true true ss h = h
if_rise true false ss h = tt
if_rise false true ss h = tt
if_rise false false ss h = h

pub kind_rise : (kind : Bool) (k : ℕ) (ps : List Proc) → EachTwo Sooner (kind_spots kind k ps)
kind_rise kind k [] = tt
kind_rise kind k (p ∷ ps) = two_join Sooner front back (if_rise kind (is_found p) (spots_in k p) (spots_rise k 1 (marks_of_proc p))) (kind_rise kind (k + 1) ps)
    (each_all (λ s. Each (Sooner s) back) front (λ s w. each_all (Sooner s) back (λ t v. inl (later s t (if_within kind (is_found p) (spots_in k p) s w).1 (marked kind (k + 1) ps t v)))))
  where
    front : List Spot
    front = if_same kind (is_found p) (spots_in k p)

    back : List Spot
    back = kind_spots kind (k + 1) ps

    later : (s t : Spot) → Within (spots_in k p) s → Marked kind (k + 1) ps t → s.process < t.process
    later s t w m = omega (arith, in_process k p s w, m.at.number)

-- ---- the marks are small enough for the tables

if_small : (kind b : Bool) (ss : List Spot) → Each InTable ss → Each InTable (if_same kind b ss)
if_small true true ss h = h
if_small true false ss h = tt
if_small false true ss h = tt
if_small false false ss h = h

small_kind : (kind : Bool) (q : ℕ) (ps : List Proc) → AreSmall (marks_of_all ps)
    → Each InTable (kind_spots kind q ps)
small_kind kind q [] h = tt
small_kind kind q (p ∷ ps) h = each_join InTable (if_same kind (is_found p) (spots_in q p)) (kind_spots kind (q + 1) ps)
    (if_small kind (is_found p) (spots_in q p) (small_from q 1 (marks_of_proc p) (each_front (λ m. m.sym.0 < MAX_SYMBOLS) (marks_of_proc p) (marks_of_all ps) h)))
    (small_kind kind (q + 1) ps (each_back (λ m. m.sym.0 < MAX_SYMBOLS) (marks_of_proc p) (marks_of_all ps) h))

pub small_kinds : (kind : Bool) (ps : List Proc) → AreSmall (marks_of_all ps)
    → Each InTable (kind_spots kind 1 ps)
small_kinds kind ps h = small_kind kind 1 ps h

-- ---- a symbol stands in a process

or_either : (a b : Bool) → (a || b) ≡ true → (a ≡ true) ⊎ (b ≡ true)
or_either true b h = inl h
or_either false b h = inr h

or_left : (a b : Bool) → a ≡ true → (a || b) ≡ true
or_left true b h = refl
or_left false b h = absurd (true≢false (sym h))

or_right : (a b : Bool) → b ≡ true → (a || b) ≡ true
or_right true b h = refl
or_right false b h = h

pub symbol_stands : (q k : ℕ) (ms : List Mark) (s : Spot) → Within (spots_from q k ms) s
    → is_in s.mark.sym.0 (symbols ms) ≡ true
symbol_stands q k [] s w = absurd (none_within s w)
symbol_stands q k (m ∷ ms) s w = elim (within_cons (record { process = q; place = k; mark = m }) (spots_from q (k + 1) ms) s w) [
  | inl e ↦ or_left (nat_eq s.mark.sym.0 m.sym.0) (is_in s.mark.sym.0 (symbols ms)) (eq-eqb s.mark.sym.0 m.sym.0 (ap (λ (x : Spot). x.mark.sym.0) e))
  | inr v ↦ or_right (nat_eq s.mark.sym.0 m.sym.0) (is_in s.mark.sym.0 (symbols ms)) (symbol_stands q (k + 1) ms s v)
]

pub stands_symbol : (q k : ℕ) (ms : List Mark) (a : ℕ) → is_in a (symbols ms) ≡ true
    → (s : Spot) × Within (spots_from q k ms) s × (s.mark.sym.0 ≡ a)
stands_symbol q k [] a h = absurd (true≢false (sym h))
stands_symbol q k (m ∷ ms) a h = elim (or_either (nat_eq a m.sym.0) (is_in a (symbols ms)) h) [
  | inl e ↦ (record { process = q; place = k; mark = m }, within_first _ (spots_from q (k + 1) ms), sym (eqb-true a m.sym.0 e))
  | inr v ↦ let r = stands_symbol q (k + 1) ms a v in (r.0, within_more _ r.0 (spots_from q (k + 1) ms) r.1, r.2)
]

-- ---- a symbol has a home

pub home_stands : (ps : List Proc) (a : ℕ) → HasHome ps a → stands_in a (kind_spots false 1 ps) ≡ true
home_stands ps a h =
    let w = h.within in
    let at : At 1 ps (1 + length w.before) h.home = record { before = w.before; after = w.after; are = w.are; number = refl } in
    let s = stands_symbol (1 + length w.before) 1 (marks_of_proc h.home) a h.stands in
    let here = marks false 1 ps (1 + length w.before) h.home s.0 at (found_false h.home h.no_grant) s.1 in
    let f = first_there_is (kind_spots false 1 ps) s.0 here in
    ap is_some (ap (λ (x : ℕ). first_mark x (kind_spots false 1 ps)) (sym s.2) ∙ f.1)

pub stands_home : (ps : List Proc) (a : ℕ) → stands_in a (kind_spots false 1 ps) ≡ true → HasHome ps a
stands_home ps a h = by (first_mark a (kind_spots false 1 ps)) refl h where
  by : (o : Option Spot) → first_mark a (kind_spots false 1 ps) ≡ o → is_some o ≡ true → HasHome ps a
  by None e h = absurd (true≢false (sym h))
  by (Some s) e h =
      let r = first_symbol a (kind_spots false 1 ps) s e in
      let m = marked false 1 ps s r.1 in
      record {
        home = m.proc;
        within = record { before = m.at.before; after = m.at.after; are = m.at.are };
        no_grant = false_found m.proc m.kind_is;
        stands = subst (λ (x : ℕ). is_in x (symbols (marks_of_proc m.proc)) ≡ true) r.0 (symbol_stands s.process 1 (marks_of_proc m.proc) s m.within);
      }

-- before the first process
pub nothing_known : (first second : List (Option Spot)) (home : List Bool)
    → length first ≡ MAX_SYMBOLS → ((a : ℕ) → a < MAX_SYMBOLS → get_or first a None ≡ None)
    → length second ≡ MAX_SYMBOLS → ((a : ℕ) → a < MAX_SYMBOLS → get_or second a None ≡ None)
    → length home ≡ MAX_SYMBOLS → ((a : ℕ) → a < MAX_SYMBOLS → get_or home a false ≡ false)
    → KnowsKinds first second home []
nothing_known first second home size none second_size no_second home_size no_home = record {
  grants = λ small. record { first_size = size; second_size = second_size; firsts = none; seconds = no_second };
  homes = λ small. record { size = home_size; homes = no_home };
}
