-- The ties of an admitted command are what its web needs.
use Rattle.std.proofs.Common.{◌≡◌, ◌↔◌, ◌⊎◌, inl, inr, ⊎_elim, ℕ, zero, suc, ◌+◌, ◌<◌, ◌≤◌, Bool, true, false, true≢false, not, IsTrue, List, [], ◌∷◌, ◌++◌, map, filter, length, get_or, Some, None, refl, sym, ap, ◌∙◌, subst, arith, if◌then◌else◌, count_by, cond, append-nil}
use Rattle.std.specs.List.{AllByRecursion, range_with_len}
use Rattle.std.proofs.Math.Path.{fun_ext}
use Rattle.std.proofs.lemmas.Bool.{cases_Bool, cases_eq, cases_lt}
use Rattle.std.proofs.lemmas.List.{length-map, map-append, get_or-map, get_or_past}
use Rattle.std.proofs.lemmas.List.Elements.{filter-append}
use Rattle.cmd_tree.specs.declared.tree.Mark.{Mark}
use Rattle.cmd_tree.specs.declared.tree.Proc.{Proc}
use Rattle.cmd_tree.specs.Tree.{marks_among}
use Rattle.cmd_tree.specs.Limits.{IsProc, IsNumbered, marks_of_proc, marks_of_all}
use Rattle.cmd_tree.specs.Lists.{is_in}
use Rattle.cmd_tree.specs.Marks.{is_output, input, output}
use Rattle.cmd_tree.specs.Meaning.{has_symbol, symbols, project, TraceOf, Trace}
use Rattle.cmd_tree.proofs.Prefixes.{Trace-nil, Trace-prefix}
use Rattle.cmd_rename.specs.Symbols.{symbols_in, put, put_each, counted}
use Rattle.cmd_rename.proofs.Orders.{in_each}
use Rattle.cmd_rename.proofs.Numbered.{numbered_symbols}
use Rattle.process_laws.specs.GrantForms.{Giving, plain, release, gifts, loans, granted_of, returned_of}
use Rattle.process_laws.specs.Granting.{times, Granting}
use Rattle.di_grammar.specs.Admitted.{Admitted}
use Rattle.di_grammar.specs.Grants.{Gift, gifts_from, GrantsPlainly, GrantsWithRelease, Grants, IsGrant}
use Rattle.di_grammar.specs.Homes.{HasHome, IsElsewhere}
use Rattle.di_grammar.specs.Granted.{KeepsGranted}
use Rattle.di_grammar.specs.Lists.{Each, EachTwo, Within}
use Rattle.di_grammar.specs.Spots.{Numbered}
use Rattle.di_grammar.specs.Outputs.{out_of}
use Rattle.di_grammar.specs.Sums.{grants}
use Rattle.di_grammar.proofs.SumGrants.{grants_are}
use Rattle.di_grammar.proofs.FairnessLists.{each_at}
use Rattle.di_grammar.proofs.FairnessMarks.{Agrees, directions_agree}
use Rattle.di_grammar.proofs.FairnessLaws.{plain_grant, release_grant, in_phases}
use Rattle.net_laws.proofs.Among.{Among, Distinct}
use Rattle.net_laws.proofs.Rows.{among_left, among_right, among_either, distinct_both, among_row, row_among, distinct_row}
use Rattle.plain_split.proofs.SharedLists.{among_filter, filter_among, distinct_filter}
use Rattle.plain_split.proofs.OneWaitDrawn.{among_in, in_among}
use Rattle.weave_split.specs.WeaveChart.{Ties, ties, marks_at, grants_at, havers, head, outs_in, ins_in, begins_out}
use Rattle.weave_split.proofs.WeaveWeb.{Tied}
use Rattle.weave_split.proofs.ProcessSymbols.{symbol_stands}

-- ---- numbers below a bound

range_same : (a k : ℕ) → map (λ i. i) (range_with_len a k) ≡ range_with_len a k
range_same a zero = refl
range_same a (suc k) = ap (λ xs. a ∷ xs) (range_same (a + 1) k)

pub below_among : (k i : ℕ) → i < k → Among i (range_with_len 0 k)
below_among k i h = subst (Among i) (range_same 0 k) (row_among (λ i. i) k i h)

pub among_below : (k i : ℕ) → Among i (range_with_len 0 k) → i < k
among_below k i h = let (j, low, e) = among_row (λ i. i) k i (subst (Among i) (sym (range_same 0 k)) h) in omega (arith, low, e)

pub distinct_below : (k : ℕ) → Distinct (range_with_len 0 k)
distinct_below k = subst Distinct (range_same 0 k) (distinct_row (λ i. i) (λ i j e. e) k)

-- ---- numbers put one after the other

among_put : (xs : List ℕ) (y a : ℕ) → Among a (put xs y) → Among a xs ⊎ (a ≡ y)
among_put xs y a = by (is_in y xs)
  where
    one : Among a (y ∷ []) → Among a xs ⊎ (a ≡ y)
    one (inl e) = inr e
    one (inr h) = absurd h

    by : (b : Bool) → Among a (if b then xs else xs ++ y ∷ []) → Among a xs ⊎ (a ≡ y)
    by true h = inl h
    by false h = ⊎_elim (λ i. inl i) one (among_either a xs (y ∷ []) h)

among_each : (xs ys : List ℕ) (a : ℕ) → Among a (put_each xs ys) → Among a xs ⊎ Among a ys
among_each xs [] a h = inl h
among_each xs (y ∷ ys) a h = ⊎_elim
    (λ i. ⊎_elim (λ j. inl j) (λ e. inr (inl e)) (among_put xs y a i))
    (λ i. inr (inr i))
    (among_each (put xs y) ys a h)

pub each_among : (ys : List ℕ) (a : ℕ) → Among a ys → Among a (put_each [] ys)
each_among ys a h = in_among a (put_each [] ys) (in_each [] ys a (among_in a ys h))

pub among_once : (ys : List ℕ) (a : ℕ) → Among a (put_each [] ys) → Among a ys
among_once ys a h = ⊎_elim (λ i. absurd i) (λ i. i) (among_each [] ys a h)

distinct_put : (xs : List ℕ) (y : ℕ) → Distinct xs → Distinct (put xs y)
distinct_put xs y d = by (is_in y xs) refl
  where
    apart : is_in y xs ≡ false → (x : ℕ) → Among x xs → Among x (y ∷ []) → ⊥
    apart e x i (inl f) = true≢false (sym (among_in y xs (subst (λ z. Among z xs) f i)) ∙ e)
    apart e x i (inr f) = f

    by : (b : Bool) → is_in y xs ≡ b → Distinct (if b then xs else xs ++ y ∷ [])
    by true e = d
    by false e = distinct_both xs (y ∷ []) d ((λ a. a), tt) (apart e)

distinct_each : (xs ys : List ℕ) → Distinct xs → Distinct (put_each xs ys)
distinct_each xs [] d = d
distinct_each xs (y ∷ ys) d = distinct_each (put xs y) ys (distinct_put xs y d)

pub once_distinct : (ys : List ℕ) → Distinct (put_each [] ys)
once_distinct ys = distinct_each [] ys tt

-- the same members, and so the same test
same_test : (xs ys : List ℕ) → ((a : ℕ) → Among a xs → Among a ys) → ((a : ℕ) → Among a ys → Among a xs) → (a : ℕ) → is_in a xs ≡ is_in a ys
same_test xs ys there back a = by (is_in a xs) (is_in a ys) refl refl
  where
    by : (b c : Bool) → is_in a xs ≡ b → is_in a ys ≡ c → b ≡ c
    by true true e f = refl
    by false false e f = refl
    by true false e f = absurd (true≢false (sym (among_in a ys (there a (in_among a xs e))) ∙ f))
    by false true e f = absurd (true≢false (sym (among_in a xs (back a (in_among a ys f))) ∙ e))

pub once_test : (ys : List ℕ) (a : ℕ) → is_in a (put_each [] ys) ≡ is_in a ys
once_test ys = same_test (put_each [] ys) ys (among_once ys) (each_among ys)

among_counted : (n a : ℕ) → Among a (counted n) → a < n
among_counted zero a h = absurd h
among_counted (suc n) a h = ⊎_elim (λ i. omega (arith, among_counted n a i)) last (among_either a (counted n) (n ∷ []) h)
  where
    last : Among a (n ∷ []) → a < suc n
    last (inl e) = omega (arith, e)
    last (inr i) = absurd i

counted_among : (n a : ℕ) → a < n → Among a (counted n)
counted_among zero a h = absurd (omega (arith, h))
counted_among (suc n) a h = elim (cases_lt a n) [
  | inl l ↦ among_left a (counted n) (n ∷ []) (counted_among n a l)
  | inr l ↦ among_right a (counted n) (n ∷ []) (inl (omega (arith, h, l)))
]

-- ---- the marks of a grant

gift_marks : (ps : List ℕ) → marks_among (gifts ps) ≡ map output ps
gift_marks [] = refl
gift_marks (p ∷ ps) = ap (λ ms. output p ∷ ms) (gift_marks ps)

abbrev loan_marks : List Giving → List Mark
loan_marks [] = []
loan_marks (g ∷ gs) = output g.granted ∷ input g.returned ∷ loan_marks gs

loans_are : (gs : List Giving) → marks_among (loans gs) ≡ loan_marks gs
loans_are [] = refl
loans_are (g ∷ gs) = ap (λ ms. output g.granted ∷ input g.returned ∷ ms) (loans_are gs)

plain_marks : (n : ℕ) (ps : List ℕ) → marks_of_proc (plain n ps) ≡ input n ∷ map output ps
plain_marks n ps = ap (λ ms. input n ∷ ms) (append-nil (marks_among (gifts ps)) ∙ gift_marks ps)

release_marks : (gs : List Giving) → marks_of_proc (release gs) ≡ loan_marks gs
release_marks gs = append-nil (marks_among (loans gs)) ∙ loans_are gs

outs_of_outputs : (ps : List ℕ) → outs_in (map output ps) ≡ ps
outs_of_outputs [] = refl
outs_of_outputs (p ∷ ps) = ap (λ xs. p ∷ xs) (outs_of_outputs ps)

ins_of_outputs : (ps : List ℕ) → ins_in (map output ps) ≡ []
ins_of_outputs [] = refl
ins_of_outputs (p ∷ ps) = ins_of_outputs ps

outs_of_loans : (gs : List Giving) → outs_in (loan_marks gs) ≡ granted_of gs
outs_of_loans [] = refl
outs_of_loans (g ∷ gs) = ap (λ xs. g.granted ∷ xs) (outs_of_loans gs)

ins_of_loans : (gs : List Giving) → ins_in (loan_marks gs) ≡ returned_of gs
ins_of_loans [] = refl
ins_of_loans (g ∷ gs) = ap (λ xs. g.returned ∷ xs) (ins_of_loans gs)

loans_begin : (gs : List Giving) → 1 < length gs → begins_out (loan_marks gs) ≡ true
loans_begin [] h = absurd (omega (arith, h))
loans_begin (g ∷ gs) h = refl

-- ---- outputs and inputs among marks that agree

outs_there : (out : ℕ → Bool) (ms : List Mark) → Each (Agrees out) ms → (a : ℕ) → Among a (outs_in ms) → Among a (symbols ms) × (out a ≡ true)
outs_there out [] h a i = absurd i
outs_there out (m ∷ ms) h a i = by (is_output m.dir) refl i (outs_there out ms h.1 a)
  where
    by : (b : Bool) → is_output m.dir ≡ b → Among a (map (λ (m : Mark). m.sym.0) (cond b (m ∷ filter (λ m. is_output m.dir) ms) (filter (λ m. is_output m.dir) ms)))
        → (Among a (outs_in ms) → Among a (symbols ms) × (out a ≡ true)) → ((a ≡ m.sym.0) ⊎ Among a (symbols ms)) × (out a ≡ true)
    by true e (inl f) k = (inl f, ap out f ∙ h.0 ∙ e)
    by true e (inr j) k = (inr (k j).0, (k j).1)
    by false e j k = (inr (k j).0, (k j).1)

outs_back : (out : ℕ → Bool) (ms : List Mark) → Each (Agrees out) ms → (a : ℕ) → Among a (symbols ms) → out a ≡ true → Among a (outs_in ms)
outs_back out [] h a i o = absurd i
outs_back out (m ∷ ms) h a i o = by (is_output m.dir) refl i (λ j. outs_back out ms h.1 a j o)
  where
    by : (b : Bool) → is_output m.dir ≡ b → (a ≡ m.sym.0) ⊎ Among a (symbols ms) → (Among a (symbols ms) → Among a (outs_in ms))
        → Among a (map (λ (m : Mark). m.sym.0) (cond b (m ∷ filter (λ m. is_output m.dir) ms) (filter (λ m. is_output m.dir) ms)))
    by true e (inl f) k = inl f
    by true e (inr j) k = inr (k j)
    by false e (inl f) k = absurd (true≢false (sym o ∙ ap out f ∙ h.0 ∙ e))
    by false e (inr j) k = k j

ins_there : (out : ℕ → Bool) (ms : List Mark) → Each (Agrees out) ms → (a : ℕ) → Among a (ins_in ms) → Among a (symbols ms) × (out a ≡ false)
ins_there out [] h a i = absurd i
ins_there out (m ∷ ms) h a i = by (is_output m.dir) refl i (ins_there out ms h.1 a)
  where
    by : (b : Bool) → is_output m.dir ≡ b → Among a (map (λ (m : Mark). m.sym.0) (cond (not b) (m ∷ filter (λ m. not (is_output m.dir)) ms) (filter (λ m. not (is_output m.dir)) ms)))
        → (Among a (ins_in ms) → Among a (symbols ms) × (out a ≡ false)) → ((a ≡ m.sym.0) ⊎ Among a (symbols ms)) × (out a ≡ false)
    by false e (inl f) k = (inl f, ap out f ∙ h.0 ∙ e)
    by false e (inr j) k = (inr (k j).0, (k j).1)
    by true e j k = (inr (k j).0, (k j).1)

ins_back : (out : ℕ → Bool) (ms : List Mark) → Each (Agrees out) ms → (a : ℕ) → Among a (symbols ms) → out a ≡ false → Among a (ins_in ms)
ins_back out [] h a i o = absurd i
ins_back out (m ∷ ms) h a i o = by (is_output m.dir) refl i (λ j. ins_back out ms h.1 a j o)
  where
    by : (b : Bool) → is_output m.dir ≡ b → (a ≡ m.sym.0) ⊎ Among a (symbols ms) → (Among a (symbols ms) → Among a (ins_in ms))
        → Among a (map (λ (m : Mark). m.sym.0) (cond (not b) (m ∷ filter (λ m. not (is_output m.dir)) ms) (filter (λ m. not (is_output m.dir)) ms)))
    by false e (inl f) k = inl f
    by false e (inr j) k = inr (k j)
    by true e (inl f) k = absurd (true≢false (sym (ap out f ∙ h.0 ∙ e) ∙ o))
    by true e (inr j) k = k j

-- ---- the granted symbols

given_distinct : (k step : ℕ) (ss : List ℕ) → EachTwo (λ g h. g.symbol ≡ h.symbol → ⊥) (gifts_from k step ss) → Distinct ss
given_distinct k step [] h = tt
given_distinct k step (a ∷ ss) h = (none (k + step) ss h.0, given_distinct (k + step) step ss h.1)
  where
    none : (j : ℕ) (xs : List ℕ) → Each (λ g. a ≡ g.symbol → ⊥) (gifts_from j step xs) → Among a xs → ⊥
    none j [] e i = i
    none j (x ∷ xs) e (inl f) = e.0 f
    none j (x ∷ xs) e (inr i) = none (j + step) xs e.1 i

each_given : (P : ℕ → Type 0) (k step : ℕ) (ss : List ℕ) → Each (λ g. P g.symbol) (gifts_from k step ss) → (a : ℕ) → Among a ss → P a
each_given P k step [] h a i = absurd i
each_given P k step (x ∷ ss) h a (inl e) = subst P (sym e) h.0
each_given P k step (x ∷ ss) h a (inr i) = each_given P (k + step) step ss h.1 a i

-- ---- a grant asked by the same symbols

times_same : (xs ys : List ℕ) → ((a : ℕ) → is_in a xs ≡ is_in a ys) → (t : List ℕ) → times xs t ≡ times ys t
times_same xs ys e t = ap (λ (f : ℕ → Bool). count_by f t) (fun_ext e)

granting_same : (gs xs ys : List ℕ) (n : ℕ) (T : List ℕ → Type 0) → ((a : ℕ) → is_in a xs ≡ is_in a ys) → Granting gs xs n T → Granting gs ys n T
granting_same gs xs ys n T e h = record {
  empty = h.empty;
  prefix = h.prefix;
  known = λ t a k. ⊎_elim (λ i. inl i) (λ i. inr (sym (e a) ∙ i)) (h.known t a k);
  low = λ t k. omega (arith, h.low t k, times_same xs ys e t);
  high = λ t k. omega (arith, h.high t k, times_same xs ys e t);
  gives = λ t p i. (
    (λ k. let (w, l) = (h.gives t p i).0 k in (w, omega (arith, l, times_same xs ys e t))),
    (λ k. (h.gives t p i).1 (k.0, omega (arith, k.1, times_same xs ys e t))),
  );
  takes = λ t a i k. omega (arith, h.takes t a (e a ∙ i) k, times_same xs ys e t);
}

-- ---- a process by its place

abbrev pub nothing : Proc
nothing = record { lead = None; body = None }

abbrev pub proc_at : List Proc → ℕ → Proc
proc_at ps p = get_or ps p nothing

pub marks_are : (ps : List Proc) (p : ℕ) → marks_at ps p ≡ marks_of_proc (proc_at ps p)
marks_are ps p = elim (cases_lt p (length ps)) [
  | inl low ↦ get_or-map marks_of_proc ps p nothing [] low
  | inr past ↦
      get_or_past (map marks_of_proc ps) p [] (omega (arith, past, length-map ps marks_of_proc))
      ∙ sym (ap marks_of_proc (get_or_past ps p nothing past))
]

pub grants_of : (ps : List Proc) (p : ℕ) → p < length ps → grants_at ps p ≡ grants (proc_at ps p)
grants_of [] p h = absurd (omega (arith, h))
grants_of (q ∷ ps) zero h = refl
grants_of (q ∷ ps) (suc p) h = grants_of ps p (omega (arith, h))

grants_low : (ps : List Proc) (p : ℕ) → grants_at ps p ≡ true → p < length ps
grants_low [] p h = absurd (true≢false (sym h))
grants_low (q ∷ ps) zero h = omega arith
grants_low (q ∷ ps) (suc p) h = omega (arith, grants_low ps p h)

numbered_at : (ps : List Proc) (p : ℕ) → p < length ps → Numbered ps (p + 1) (proc_at ps p)
numbered_at [] p h = absurd (omega (arith, h))
numbered_at (q ∷ ps) zero h = record { before = []; after = ps; are = refl; number = refl }
numbered_at (q ∷ ps) (suc p) h =
    let n = numbered_at ps p (omega (arith, h)) in
    record { before = q ∷ n.before; after = n.after; are = ap (λ qs. q ∷ qs) n.are; number = omega (arith, n.number) }

within_at : (ps : List Proc) (p : ℕ) → p < length ps → Within ps (proc_at ps p)
within_at ps p h = let n = numbered_at ps p h in record { before = n.before; after = n.after; are = n.are }

-- the place of a process
place_of : (ps : List Proc) (q : Proc) → Within ps q → (p : ℕ) × (p < length ps) × (proc_at ps p ≡ q)
place_of ps q w = find w.before ps w.are
  where
    find : (before qs : List Proc) → qs ≡ before ++ q ∷ w.after → (p : ℕ) × (p < length qs) × (proc_at qs p ≡ q)
    find [] qs e = (0, subst (λ (xs : List Proc). 0 < length xs) (sym e) (omega arith), ap (λ (xs : List Proc). proc_at xs 0) e)
    find (x ∷ before) [] e = absurd (cc)
    find (x ∷ before) (y ∷ qs) e =
        let tail : qs ≡ before ++ q ∷ w.after = cc in
        let (p, low, is) = find before qs tail in
        (suc p, omega (arith, low), is)

-- the symbols of all processes
all_has : (ps : List Proc) (p a : ℕ) → p < length ps → Among a (symbols (marks_at ps p)) → Among a (symbols (marks_of_all ps))
all_has [] p a h i = absurd (omega (arith, h))
all_has (q ∷ ps) zero a h i = subst (Among a) (sym (map-append (λ (m : Mark). m.sym.0) (marks_of_proc q) (marks_of_all ps)))
    (among_left a (symbols (marks_of_proc q)) (symbols (marks_of_all ps)) i)
all_has (q ∷ ps) (suc p) a h i = subst (Among a) (sym (map-append (λ (m : Mark). m.sym.0) (marks_of_proc q) (marks_of_all ps)))
    (among_right a (symbols (marks_of_proc q)) (symbols (marks_of_all ps)) (all_has ps p a (omega (arith, h)) i))

has_all : (ps : List Proc) (a : ℕ) → Among a (symbols (marks_of_all ps)) → (p : ℕ) × (p < length ps) × Among a (symbols (marks_at ps p))
has_all [] a i = absurd i
has_all (q ∷ ps) a i = ⊎_elim
    (λ j. (0, omega arith, j))
    (λ j. let (p, low, k) = has_all ps a j in (suc p, omega (arith, low), k))
    (among_either a (symbols (marks_of_proc q)) (symbols (marks_of_all ps)) (subst (Among a) (map-append (λ (m : Mark). m.sym.0) (marks_of_proc q) (marks_of_all ps)) i))

-- ---- the first of a list

head_among : (xs : List ℕ) (x : ℕ) → head xs ≡ Some x → Among x xs
head_among [] x e = absurd (cc)
head_among (y ∷ xs) x e = inl (let z : x ≡ y = cc in z)

among_head : (xs : List ℕ) (x : ℕ) → Among x xs → ((y : ℕ) → Among y xs → y ≡ x) → head xs ≡ Some x
among_head [] x i one = absurd i
among_head (y ∷ xs) x i one = ap Some (one y (inl refl))

-- ---- traces of all processes

abbrev Known : List Proc → ℕ → Type 0
Known ps x = IsTrue (has_symbol (marks_of_all ps) x)

all_push : (P : ℕ → Type 0) (t : List ℕ) (a : ℕ) → AllByRecursion P t → P a → AllByRecursion P (t ++ a ∷ [])
all_push P [] a h k = (k, tt)
all_push P (b ∷ t) a h k = (h.0, all_push P t a h.1 k)

all_last : (P : ℕ → Type 0) (t : List ℕ) (a : ℕ) → AllByRecursion P (t ++ a ∷ []) → P a
all_last P [] a h = h.0
all_last P (b ∷ t) a h = all_last P t a h.1

all_at : (P : Proc → Type 0) (ps : List Proc) → AllByRecursion P ps → (p : ℕ) → p < length ps → P (proc_at ps p)
all_at P [] h p l = absurd (omega (arith, l))
all_at P (q ∷ ps) h zero l = h.0
all_at P (q ∷ ps) h (suc p) l = all_at P ps h.1 p (omega (arith, l))

at_all : (P : Proc → Type 0) (ps : List Proc) → ((p : ℕ) → p < length ps → P (proc_at ps p)) → AllByRecursion P ps
at_all P [] h = tt
at_all P (q ∷ ps) h = (h 0 (omega arith), at_all P ps (λ p l. h (suc p) (omega (arith, l))))

goes_on : (p : Proc) (t : List ℕ) (a : ℕ) → has_symbol (marks_of_proc p) a ≡ true → project p (t ++ a ∷ []) ≡ project p t ++ a ∷ []
goes_on p t a h = filter-append (has_symbol (marks_of_proc p)) t (a ∷ []) ∙ ap (λ b. project p t ++ cond b (a ∷ []) []) h

stays : (p : Proc) (t : List ℕ) (a : ℕ) → has_symbol (marks_of_proc p) a ≡ false → project p (t ++ a ∷ []) ≡ project p t
stays p t a h = filter-append (has_symbol (marks_of_proc p)) t (a ∷ []) ∙ ap (λ b. project p t ++ cond b (a ∷ []) []) h ∙ append-nil (project p t)

-- ---- the ties

module _ (ps : List Proc) (names : ℕ) (procs : AllByRecursion IsProc ps) (admitted : Admitted ps) (numbered : IsNumbered 0 (marks_of_all ps) names) where
  abbrev g : Ties
  g = ties ps names

  abbrev traces : ℕ → List ℕ → Type 0
  traces p = TraceOf (proc_at ps p)

  abbrev marks : ℕ → List Mark
  marks p = marks_at ps p

  known_name : (a : ℕ) → Among a (symbols (marks_of_all ps)) → a < names
  known_name a i = among_counted names a (subst (Among a) (numbered_symbols ps names numbered) (each_among (symbols_in (marks_of_all ps)) a i))

  name_known : (a : ℕ) → a < names → Among a (symbols (marks_of_all ps))
  name_known a l = among_once (symbols_in (marks_of_all ps)) a (subst (Among a) (sym (numbered_symbols ps names numbered)) (counted_among names a l))

  known : (p s : ℕ) → p < length ps → Among s (g.symbols p) → s < names
  known p s l i = known_name s (all_has ps p s l (among_once (symbols_in (marks p)) s i))

  -- ---- the processes of a symbol

  taker_there : (s p : ℕ) → Among p (havers ps s) → (p < length ps) × Among s (g.symbols p)
  taker_there s p i =
      let (a, e) = filter_among (λ p. has_symbol (marks p) s) (range_with_len 0 (length ps)) p i in
      (among_below (length ps) p a, each_among (symbols_in (marks p)) s (in_among s (symbols (marks p)) e))

  taker_back : (s p : ℕ) → (p < length ps) × Among s (g.symbols p) → Among p (havers ps s)
  taker_back s p h = among_filter (λ p. has_symbol (marks p) s) (range_with_len 0 (length ps)) p (below_among (length ps) p h.0)
      (among_in s (symbols (marks p)) (among_once (symbols_in (marks p)) s h.1))

  haver : (s : ℕ) → s < names → (p : ℕ) × (p < length ps) × Among s (g.symbols p)
  haver s l = let (p, low, i) = has_all ps s (name_known s l) in (p, low, each_among (symbols_in (marks p)) s i)

  not_true : (b : Bool) → not b ≡ true → b ≡ false
  not_true true e = absurd (true≢false (sym e))
  not_true false e = refl

  giver_there : (s p : ℕ) → Among p (g.givers s) → (p < length ps) × (grants_at ps p ≡ false) × Among s (g.symbols p)
  giver_there s p i =
      let (a, e) = filter_among (λ p. not (grants_at ps p)) (havers ps s) p i in
      let (l, j) = taker_there s p a in
      (l, not_true (grants_at ps p) e, j)

  giver_back : (s p : ℕ) → (p < length ps) × (grants_at ps p ≡ false) × Among s (g.symbols p) → Among p (g.givers s)
  giver_back s p h = among_filter (λ p. not (grants_at ps p)) (havers ps s) p (taker_back s p (h.0, h.2)) (ap not h.1)

  -- ---- grants

  agree : (p : ℕ) → p < length ps → Each (Agrees (out_of ps)) (marks p)
  agree p l = subst (Each (Agrees (out_of ps))) (sym (marks_are ps p)) (directions_agree ps (proc_at ps p) admitted.directions (within_at ps p l))

  is_grant : (p : ℕ) → grants_at ps p ≡ true → IsGrant (proc_at ps p)
  is_grant p e = (grants_are (proc_at ps p)).0 (sym (grants_of ps p (grants_low ps p e)) ∙ e)

  no_grant : (p : ℕ) → p < length ps → (IsGrant (proc_at ps p) → ⊥) → grants_at ps p ≡ false
  no_grant p l h = elim (cases_Bool (grants_at ps p)) [ inl e ↦ absurd (h (is_grant p e)) | inr e ↦ e ]

  plain_at : (p : ℕ) (gs : List Gift) (h : GrantsPlainly (proc_at ps p) gs) → marks p ≡ input h.asks ∷ map output h.symbols
  plain_at p gs h = marks_are ps p ∙ ap marks_of_proc h.is ∙ plain_marks h.asks h.symbols

  release_at : (p : ℕ) (gs : List Gift) (h : GrantsWithRelease (proc_at ps p) gs) → marks p ≡ loan_marks h.givings
  release_at p gs h = marks_are ps p ∙ ap marks_of_proc h.is ∙ release_marks h.givings

  plain_requests : (p : ℕ) (gs : List Gift) (h : GrantsPlainly (proc_at ps p) gs) → g.requests p ≡ h.symbols
  plain_requests p gs h = ap outs_in (plain_at p gs h) ∙ outs_of_outputs h.symbols

  release_requests : (p : ℕ) (gs : List Gift) (h : GrantsWithRelease (proc_at ps p) gs) → g.requests p ≡ granted_of h.givings
  release_requests p gs h = ap outs_in (release_at p gs h) ∙ outs_of_loans h.givings

  -- what is granted once, by symbol
  differ : (p : ℕ) → grants_at ps p ≡ true → (gs : List Gift) → Grants (proc_at ps p) gs → EachTwo (λ g h. g.symbol ≡ h.symbol → ⊥) gs
  differ p e gs h = each_at KeepsGranted ps (proc_at ps p) admitted.granted (within_at ps p (grants_low ps p e)) gs h

  requests_once : (p : ℕ) → grants_at ps p ≡ true → Distinct (g.requests p)
  requests_once p e = by (is_grant p e)
    where
      by : IsGrant (proc_at ps p) → Distinct (g.requests p)
      by (gs, inl h) = subst Distinct (sym (plain_requests p gs h))
          (given_distinct 2 1 h.symbols (subst (EachTwo (λ g h. g.symbol ≡ h.symbol → ⊥)) h.gives (differ p e gs (inl h))))
      by (gs, inr h) = subst Distinct (sym (release_requests p gs h))
          (given_distinct 1 2 (granted_of h.givings) (subst (EachTwo (λ g h. g.symbol ≡ h.symbol → ⊥)) h.gives (differ p e gs (inr h))))

  many_requests : (p : ℕ) → grants_at ps p ≡ true → 2 ≤ length (g.requests p)
  many_requests p e = by (is_grant p e)
    where
      by : IsGrant (proc_at ps p) → 2 ≤ length (g.requests p)
      by (gs, inl h) = omega (arith, h.many, ap (λ (xs : List ℕ). length xs) (plain_requests p gs h))
      by (gs, inr h) = omega (arith, h.many, ap (λ (xs : List ℕ). length xs) (release_requests p gs h), length-map h.givings (λ (x : Giving). x.granted))

  request : (p s : ℕ) → grants_at ps p ≡ true → Among s (g.requests p) ↔ (Among s (g.symbols p) × (out_of ps s ≡ true))
  request p s e =
      let fits = agree p (grants_low ps p e) in (
        (λ i. let (a, o) = outs_there (out_of ps) (marks p) fits s i in (each_among (symbols_in (marks p)) s a, o)),
        (λ h. outs_back (out_of ps) (marks p) fits s (among_once (symbols_in (marks p)) s h.0) h.1),
      )

  return : (p s : ℕ) → grants_at ps p ≡ true → Among s (g.returns p) ↔ (Among s (g.symbols p) × (out_of ps s ≡ false))
  return p s e =
      let fits = agree p (grants_low ps p e) in (
        (λ i. let (a, o) = ins_there (out_of ps) (marks p) fits s (among_once (ins_in (marks p)) s i) in (each_among (symbols_in (marks p)) s a, o)),
        (λ h. each_among (ins_in (marks p)) s (ins_back (out_of ps) (marks p) fits s (among_once (symbols_in (marks p)) s h.0) h.1)),
      )

  some_return : (p : ℕ) → grants_at ps p ≡ true → (s : ℕ) × Among s (g.returns p)
  some_return p e = by (is_grant p e)
    where
      first : (gs : List Giving) → 1 < length gs → (s : ℕ) × Among s (returned_of gs)
      first [] l = absurd (omega (arith, l))
      first (x ∷ gs) l = (x.returned, inl refl)

      by : IsGrant (proc_at ps p) → (s : ℕ) × Among s (g.returns p)
      by (gs, inl h) = (h.asks, each_among (ins_in (marks p)) h.asks (subst (λ ms. Among h.asks (ins_in ms)) (sym (plain_at p gs h)) (inl refl)))
      by (gs, inr h) =
          let (s, i) = first h.givings h.many in
          (s, each_among (ins_in (marks p)) s (subst (Among s) (sym (ap ins_in (release_at p gs h) ∙ ins_of_loans h.givings)) i))

  -- ---- the one grant of a symbol

  at_home : (p s : ℕ) → grants_at ps p ≡ true → Among s (g.requests p) → HasHome ps s × (IsElsewhere ps (p + 1) s → ⊥)
  at_home p s e i = by (is_grant p e)
    where
      numbered_p : Numbered ps (p + 1) (proc_at ps p)
      numbered_p = numbered_at ps p (grants_low ps p e)

      by : IsGrant (proc_at ps p) → HasHome ps s × (IsElsewhere ps (p + 1) s → ⊥)
      by (gs, inl h) = each_given (λ a. HasHome ps a × (IsElsewhere ps (p + 1) a → ⊥)) 2 1 h.symbols
          (subst (Each (λ x. HasHome ps x.symbol × (IsElsewhere ps (p + 1) x.symbol → ⊥))) h.gives (admitted.homes (p + 1) (proc_at ps p) gs numbered_p (inl h)))
          s
          (subst (Among s) (plain_requests p gs h) i)
      by (gs, inr h) = each_given (λ a. HasHome ps a × (IsElsewhere ps (p + 1) a → ⊥)) 1 2 (granted_of h.givings)
          (subst (Each (λ x. HasHome ps x.symbol × (IsElsewhere ps (p + 1) x.symbol → ⊥))) h.gives (admitted.homes (p + 1) (proc_at ps p) gs numbered_p (inr h)))
          s
          (subst (Among s) (release_requests p gs h) i)

  granters : ℕ → List ℕ
  granters s = filter (grants_at ps) (havers ps s)

  granter_there : (s p : ℕ) → Among p (filter (grants_at ps) (havers ps s)) → (grants_at ps p ≡ true) × Among s (g.symbols p)
  granter_there s p i =
      let (a, e) = filter_among (grants_at ps) (havers ps s) p i in
      (e, (taker_there s p a).1)

  owns : (s p : ℕ) → out_of ps s ≡ true → g.owner s ≡ Some p → (grants_at ps p ≡ true) × Among s (g.requests p)
  owns s p o e =
      let (k, i) = granter_there s p (head_among (filter (grants_at ps) (havers ps s)) p e) in
      (k, (request p s k).1 (i, o))

  owned : (s p : ℕ) → grants_at ps p ≡ true → Among s (g.requests p) → g.owner s ≡ Some p
  owned s p e i = among_head (filter (grants_at ps) (havers ps s)) p
      (among_filter (grants_at ps) (havers ps s) p (taker_back s p (grants_low ps p e, ((request p s e).0 i).0)) e)
      one
    where
      one : (q : ℕ) → Among q (filter (grants_at ps) (havers ps s)) → q ≡ p
      one q j =
          let (k, a) = granter_there s q j in
          elim (cases_eq q p) [
            | inl z ↦ z
            | inr z ↦ absurd ((at_home p s e i).1 (record {
              number = q + 1;
              grant = proc_at ps q;
              numbered = numbered_at ps q (grants_low ps q k);
              other = λ f. z (omega (arith, f));
              grants = is_grant q k;
              stands = subst (λ ms. IsTrue (has_symbol ms s)) (marks_are ps q) (among_in s (symbols (marks q)) (among_once (symbols_in (marks q)) s a));
            }))
          ]

  some_giver : (s : ℕ) → s < names → out_of ps s ≡ true → (p : ℕ) × Among p (g.givers s)
  some_giver s l o = let (p, low, i) = haver s l in by p low i (grants_at ps p) refl
    where
      by : (p : ℕ) → p < length ps → Among s (g.symbols p) → (b : Bool) → grants_at ps p ≡ b → (q : ℕ) × Among q (g.givers s)
      by p low i false e = (p, giver_back s p (low, e, i))
      by p low i true e =
          let home = (at_home p s e ((request p s e).1 (i, o))).0 in
          let (q, less, is) = place_of ps home.home home.within in
          let stands : Among s (symbols (marks q)) = in_among s (symbols (marks q)) (subst (λ ms. IsTrue (has_symbol ms s)) (sym (marks_are ps q ∙ ap marks_of_proc is)) home.stands) in
          (q, giver_back s q (less, no_grant q less (λ k. home.no_grant (subst IsGrant is k)), each_among (symbols_in (marks q)) s stands))

  -- ---- traces

  granting : (p : ℕ) → grants_at ps p ≡ true → Granting (g.requests p) (g.returns p) (if g.lends p then 1 else 0) (traces p)
  granting p e = by (is_grant p e)
    where
      within : Within ps (proc_at ps p)
      within = within_at ps p (grants_low ps p e)

      spare : Bool → ℕ
      spare b = if b then 1 else 0

      by : IsGrant (proc_at ps p) → Granting (g.requests p) (g.returns p) (if g.lends p then 1 else 0) (traces p)
      by (gs, inl h) =
          let asked : ins_in (marks p) ≡ h.asks ∷ [] = ap ins_in (plain_at p gs h) ∙ ap (λ xs. h.asks ∷ xs) (ins_of_outputs h.symbols) in
          let begins : g.lends p ≡ false = ap begins_out (plain_at p gs h) in
          subst (λ b. Granting (g.requests p) (g.returns p) (if b then 1 else 0) (traces p)) (sym begins)
          (subst (λ xs. Granting xs (g.returns p) 0 (traces p)) (sym (plain_requests p gs h))
          (granting_same h.symbols (h.asks ∷ []) (g.returns p) 0 (traces p)
          (λ a. sym (once_test (ins_in (marks p)) a ∙ ap (is_in a) asked))
          (plain_grant ps admitted (proc_at ps p) within gs h).granting))
      by (gs, inr h) =
          let asked : ins_in (marks p) ≡ returned_of h.givings = ap ins_in (release_at p gs h) ∙ ins_of_loans h.givings in
          let begins : g.lends p ≡ true = ap begins_out (release_at p gs h) ∙ loans_begin h.givings h.many in
          subst (λ b. Granting (g.requests p) (g.returns p) (if b then 1 else 0) (traces p)) (sym begins)
          (subst (λ xs. Granting xs (g.returns p) 1 (traces p)) (sym (release_requests p gs h))
          (granting_same (granted_of h.givings) (returned_of h.givings) (g.returns p) 1 (traces p)
          (λ a. sym (once_test (ins_in (marks p)) a ∙ ap (is_in a) asked))
          (release_grant ps admitted (proc_at ps p) within gs h).granting))

  has : (p : ℕ) (t : List ℕ) (s : ℕ) → p < length ps → traces p (t ++ s ∷ []) → Among s (g.symbols p)
  has p t s l h = each_among (symbols_in (marks p)) s (subst (λ ms. Among s (symbols ms)) (sym (marks_are ps p)) (symbol_stands (proc_at ps p) t s h))

  -- the projection by either test
  projected : (p : ℕ) (t : List ℕ) → filter (λ a. is_in a (g.symbols p)) t ≡ project (proc_at ps p) t
  projected p t = ap (λ (f : ℕ → Bool). filter f t)
      (fun_ext (λ a. once_test (symbols_in (marks p)) a ∙ ap (λ ms. has_symbol ms a) (marks_are ps p)))

  stands_in : (p s : ℕ) → Among s (g.symbols p) → has_symbol (marks_of_proc (proc_at ps p)) s ≡ true
  stands_in p s i = ap (λ ms. has_symbol ms s) (sym (marks_are ps p)) ∙ among_in s (symbols (marks p)) (among_once (symbols_in (marks p)) s i)

  goes_there : (t : List ℕ) (s : ℕ) → Trace ps (t ++ s ∷ []) → Trace ps t × (s < names)
      × ((p : ℕ) → p < length ps → Among s (g.symbols p) → traces p (filter (λ a. is_in a (g.symbols p)) t ++ s ∷ []))
  goes_there t s h = (
    Trace-prefix ps t (s ∷ []) h,
    known_name s (in_among s (symbols (marks_of_all ps)) (all_last (Known ps) t s h.known)),
    λ p l i. subst (λ u. traces p (u ++ s ∷ [])) (sym (projected p t))
        (subst (traces p) (goes_on (proc_at ps p) t s (stands_in p s i)) (all_at (λ q. TraceOf q (project q (t ++ s ∷ []))) ps h.each p l)),
  )

  goes_back : (t : List ℕ) (s : ℕ) → Trace ps t × (s < names)
      × ((p : ℕ) → p < length ps → Among s (g.symbols p) → traces p (filter (λ a. is_in a (g.symbols p)) t ++ s ∷ [])) → Trace ps (t ++ s ∷ [])
  goes_back t s (h, l, each) = record {
    known = all_push (Known ps) t s h.known (among_in s (symbols (marks_of_all ps)) (name_known s l));
    each = at_all (λ q. TraceOf q (project q (t ++ s ∷ []))) ps (λ p low. by p low (has_symbol (marks_of_proc (proc_at ps p)) s) refl);
  }
    where
      by : (p : ℕ) → p < length ps → (b : Bool) → has_symbol (marks_of_proc (proc_at ps p)) s ≡ b → traces p (project (proc_at ps p) (t ++ s ∷ []))
      by p low true e =
          let i : Among s (g.symbols p) = each_among (symbols_in (marks p)) s (in_among s (symbols (marks p)) (ap (λ ms. has_symbol ms s) (marks_are ps p) ∙ e)) in
          subst (traces p) (sym (goes_on (proc_at ps p) t s e)) (subst (λ u. traces p (u ++ s ∷ [])) (projected p t) (each p low i))
      by p low false e = subst (traces p) (sym (stays (proc_at ps p) t s e)) (all_at (λ q. TraceOf q (project q t)) ps h.each p low)

  pub ties_tied : Tied (ties ps names) (Trace ps) (λ p. TraceOf (proc_at ps p))
  ties_tied = record {
    symbols_once = λ p. once_distinct (symbols_in (marks p));
    symbol_known = known;
    takers_once = λ s. distinct_filter (λ p. has_symbol (marks p) s) (range_with_len 0 (length ps)) (distinct_below (length ps));
    taker = λ s p. (taker_there s p, taker_back s p);
    some_taker = λ s l. let (p, low, i) = haver s l in (p, taker_back s p (low, i));
    givers_once = λ s. distinct_filter (λ p. not (grants_at ps p)) (havers ps s)
        (distinct_filter (λ p. has_symbol (marks p) s) (range_with_len 0 (length ps)) (distinct_below (length ps)));
    giver = λ s p. (giver_there s p, giver_back s p);
    some_giver = some_giver;
    grant_known = grants_low ps;
    requests_once = requests_once;
    request = request;
    many_requests = many_requests;
    returns_once = λ p. once_distinct (ins_in (marks p));
    return = return;
    some_return = some_return;
    owns = owns;
    owned = owned;
    phased = λ p l. in_phases ps admitted (proc_at ps p) (within_at ps p l) procs;
    granting = granting;
    has = has;
    empty = Trace-nil ps procs;
    goes = λ t s. (goes_there t s, goes_back t s);
  }
