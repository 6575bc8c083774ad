-- The tables of an admitted command say how its processes are tied to its symbols.
use Rattle.std.specs.Prelude.{not, nat_eq, ◌||◌, if◌then◌else◌}
use Rattle.std.proofs.Common.{◌≡◌, inl, inr, ℕ, zero, suc, ◌+◌, ◌<◌, ◌≤◌, max, Bool, true, false, true≢false, cond, List, [], ◌∷◌, ◌++◌, length, map, filter, get_or, refl, sym, ap, subst, ◌∙◌, arith, eqb-true, ne_eqb}
use Rattle.std.specs.List.{range_with_len, AllByRecursion}
use Rattle.std.proofs.Math.Path.{fun_ext}
use Rattle.std.proofs.lemmas.Bool.{cases_lt}
use Rattle.std.proofs.lemmas.List.{length-map}
use Rattle.std.proofs.lemmas.List.FromFn.{length-range_with_len, length-map-range_with_len, get_or-map-range_with_len}
use Rattle.cmd_tree.specs.declared.tree.Mark.{Mark}
use Rattle.cmd_tree.specs.declared.tree.Proc.{Proc}
use Rattle.cmd_tree.specs.declared.command.Command.{Command}
use Rattle.cmd_tree.specs.Lists.{is_in}
use Rattle.cmd_tree.specs.Limits.{IsNumbered, marks_of_proc, marks_of_all, places_of_all}
use Rattle.cmd_tree.specs.Marks.{is_output}
use Rattle.cmd_tree.specs.Meaning.{has_symbol}
use Rattle.cmd_rename.specs.Symbols.{symbols_in, put, put_each}
use Rattle.cmd_rename.proofs.Laws.{symbols_places}
use Rattle.di_grammar.specs.Admitted.{Admitted}
use Rattle.di_grammar.specs.Lists.{Each}
use Rattle.di_grammar.specs.Outputs.{output_in, out_of}
use Rattle.di_grammar.specs.Sums.{grants}
use Rattle.di_grammar.proofs.FairnessLists.{each_of}
use Rattle.di_grammar.proofs.FairnessMarks.{Agrees, directions_agree}
use Rattle.net_core.specs.Specs.{gives_symbol, outs_of}
use Rattle.net_core.specs.declared.spec.NodeSpec.TheVariants.{Cmd}
use Rattle.place_graph.proofs.LegBounds.{all_front, all_back}
use Rattle.plain_split.proofs.SharedAdmitted.{eq_flip}
use Rattle.weave_split.specs.WeaveChart.{begins_out, grants_at, havers, head, ins_in, marks_at, outs_in}
use Rattle.weave_split.specs.WeaveNet.{ties_of}
use Rattle.weave_split.specs.Mirror.TieTables.{TieTables, begins, chosen, ties_by, tables_of, IsReady}

-- ---- rows

mapped_at : {A B : Type 0} (f : A → B) (xs : List A) (k : ℕ) (d : A) → get_or (map f xs) k (f d) ≡ f (get_or xs k d)
mapped_at f [] k d = refl
mapped_at f (x ∷ xs) zero d = refl
mapped_at f (x ∷ xs) (suc k) d = mapped_at f xs k d

map_twice : {A B C : Type 0} (f : B → C) (g : A → B) (xs : List A) → map f (map g xs) ≡ map (λ x. f (g x)) xs
map_twice f g [] = refl
map_twice f g (x ∷ xs) = ap (λ ys. f (g x) ∷ ys) (map_twice f g xs)

get_past : {A : Type 0} (d : A) (xs : List A) (a : ℕ) → length xs ≤ a → get_or xs a d ≡ d
get_past d [] a h = refl
get_past d (x ∷ xs) zero h = absurd (omega arith)
get_past d (x ∷ xs) (suc a) h = get_past d xs a (omega arith)

-- a table of what f says, which is d past its end
tabled : {A : Type 0} (f : ℕ → A) (n : ℕ) (d : A) → ((a : ℕ) → n ≤ a → f a ≡ d) → (a : ℕ) → get_or (map f (range_with_len 0 n)) a d ≡ f a
tabled f n d past a = elim (cases_lt a n) [
  | inl low ↦ get_or-map-range_with_len f 0 n a a d low (omega arith)
  | inr high ↦ get_past d (map f (range_with_len 0 n)) a (omega (arith, high, length-map-range_with_len f 0 n)) ∙ sym (past a high)
]

filter_none : (f : ℕ → Bool) (xs : List ℕ) → ((x : ℕ) → f x ≡ false) → filter f xs ≡ []
filter_none f [] h = refl
filter_none f (x ∷ xs) h = ap (λ (b : Bool). cond b (x ∷ filter f xs) (filter f xs)) (h x) ∙ filter_none f xs h

pub filter_low : (f : ℕ → Bool) (xs : List ℕ) → length (filter f xs) ≤ length xs
filter_low f [] = omega arith
filter_low f (x ∷ xs) = by (f x) (filter_low f xs)
  where
    by : (b : Bool) → length (filter f xs) ≤ length xs → length (cond b (x ∷ filter f xs) (filter f xs)) ≤ length (x ∷ xs)
    by true h = omega (arith, h)
    by false h = omega (arith, h)

-- ---- numbers once each

in_put : (a : ℕ) (xs : List ℕ) (b : ℕ) → is_in a (put xs b) ≡ (is_in a xs || nat_eq a b)
in_put a xs b = by (is_in b xs) refl
  where
    in_both : (a : ℕ) (xs : List ℕ) → is_in a (xs ++ b ∷ []) ≡ (is_in a xs || nat_eq a b)
    in_both a [] = none (nat_eq a b)
      where
        none : (c : Bool) → (c || false) ≡ c
        none true = refl
        none false = refl
    in_both a (x ∷ xs) = ap (λ (c : Bool). nat_eq a x || c) (in_both a xs) ∙ turn (nat_eq a x) (is_in a xs) (nat_eq a b)
      where
        turn : (p q r : Bool) → (p || (q || r)) ≡ ((p || q) || r)
        turn true q r = refl
        turn false q r = refl

    same : (a : ℕ) → is_in b xs ≡ true → is_in a xs ≡ (is_in a xs || nat_eq a b)
    same a e = at (is_in a xs) (nat_eq a b) refl refl
      where
        at : (p q : Bool) → is_in a xs ≡ p → nat_eq a b ≡ q → p ≡ (p || q)
        at true q h k = refl
        at false false h k = refl
        at false true h k = absurd (true≢false (sym (ap (λ (c : ℕ). is_in c xs) (eqb-true a b k) ∙ e) ∙ h))

    by : (t : Bool) → is_in b xs ≡ t → is_in a (if t then xs else xs ++ b ∷ []) ≡ (is_in a xs || nat_eq a b)
    by true e = same a e
    by false e = in_both a xs

pub in_each : (a : ℕ) (xs ys : List ℕ) → is_in a (put_each xs ys) ≡ (is_in a xs || is_in a ys)
in_each a xs [] = none (is_in a xs)
  where
    none : (c : Bool) → c ≡ (c || false)
    none true = refl
    none false = refl
in_each a xs (y ∷ ys) = in_each a (put xs y) ys ∙ ap (λ (c : Bool). c || is_in a ys) (in_put a xs y) ∙ turn (is_in a xs) (nat_eq a y) (is_in a ys)
  where
    turn : (p q r : Bool) → ((p || q) || r) ≡ (p || (q || r))
    turn true q r = refl
    turn false q r = refl

each_low : (xs ys : List ℕ) → length (put_each xs ys) ≤ length xs + length ys
each_low xs [] = omega arith
each_low xs (y ∷ ys) = omega (arith, each_low (put xs y) ys, one (is_in y xs))
  where
    push_long : (xs : List ℕ) → length (xs ++ y ∷ []) ≡ length xs + 1
    push_long [] = refl
    push_long (x ∷ xs) = omega (arith, push_long xs)

    one : (b : Bool) → length (if b then xs else xs ++ y ∷ []) ≤ length xs + 1
    one true = omega arith
    one false = omega (arith, push_long xs)

-- ---- symbols in range

numbered_up : (k : ℕ) (ms : List Mark) (n : ℕ) → IsNumbered k ms n → k ≤ n
numbered_up k [] n h = omega (arith, h)
numbered_up k (m ∷ ms) n h = omega (arith, numbered_up (max k (m.sym.0 + 1)) ms n h.1)

pub numbered_low : (k : ℕ) (ms : List Mark) (n : ℕ) → IsNumbered k ms n → AllByRecursion (λ (m : Mark). m.sym.0 < n) ms
numbered_low k [] n h = tt
numbered_low k (m ∷ ms) n h = (omega (arith, numbered_up (max k (m.sym.0 + 1)) ms n h.1), numbered_low (max k (m.sym.0 + 1)) ms n h.1)

symbols_low : (n : ℕ) (ms : List Mark) → AllByRecursion (λ (m : Mark). m.sym.0 < n) ms → AllByRecursion (λ a. a < n) (symbols_in ms)
symbols_low n [] h = tt
symbols_low n (m ∷ ms) h = (h.0, symbols_low n ms h.1)

pub rows_low : (n : ℕ) (ps : List Proc) → AllByRecursion (λ (m : Mark). m.sym.0 < n) (marks_of_all ps) → AllByRecursion (λ (p : Proc). AllByRecursion (λ a. a < n) (symbols_in (marks_of_proc p))) ps
rows_low n [] h = tt
rows_low n (p ∷ ps) h = (symbols_low n (marks_of_proc p) (all_front (λ (m : Mark). m.sym.0 < n) (marks_of_proc p) (marks_of_all ps) h), rows_low n ps (all_back (λ (m : Mark). m.sym.0 < n) (marks_of_proc p) (marks_of_all ps) h))

pub row_low : (n : ℕ) (ps : List Proc) (p : ℕ) → AllByRecursion (λ (p : Proc). AllByRecursion (λ a. a < n) (symbols_in (marks_of_proc p))) ps → AllByRecursion (λ a. a < n) (symbols_in (marks_at ps p))
row_low n [] p h = tt
row_low n (q ∷ ps) zero h = h.0
row_low n (q ∷ ps) (suc p) h = row_low n ps p h.1

pub not_high : (n a : ℕ) (xs : List ℕ) → AllByRecursion (λ b. b < n) xs → n ≤ a → is_in a xs ≡ false
not_high n a [] h past = refl
not_high n a (x ∷ xs) h past = ap (λ (c : Bool). c || is_in a xs) (ne_eqb a x (λ e. omega (arith, e, past, h.0))) ∙ not_high n a xs h.1 past

pub row_places : (ps : List Proc) (p : ℕ) → length (symbols_in (marks_at ps p)) ≤ places_of_all ps
row_places [] p = omega arith
row_places (q ∷ ps) zero = omega (arith, symbols_places q)
row_places (q ∷ ps) (suc p) = omega (arith, row_places ps p)

-- ---- directions

pub out_same : (ms : List Mark) (a : ℕ) → gives_symbol ms a ≡ output_in ms a
out_same [] a = refl
out_same (m ∷ ms) a = ap (λ (b : Bool). if b then is_output m.dir else gives_symbol ms a) (eq_flip m.sym.0 a) ∙ ap (λ (x : Bool). if nat_eq a m.sym.0 then is_output m.dir else x) (out_same ms a)

none_out : (n a : ℕ) (ms : List Mark) → AllByRecursion (λ (m : Mark). m.sym.0 < n) ms → n ≤ a → gives_symbol ms a ≡ false
none_out n a [] h past = refl
none_out n a (m ∷ ms) h past = ap (λ (b : Bool). if b then is_output m.dir else gives_symbol ms a) (ne_eqb m.sym.0 a (λ e. omega (arith, e, past, h.0))) ∙ none_out n a ms h.1 past

-- the symbols of marks by their directions, where each mark has the direction of its symbol
pub outs_chosen : (out : ℕ → Bool) (ms : List Mark) → Each (Agrees out) ms → filter out (symbols_in ms) ≡ outs_in ms
outs_chosen out [] h = refl
outs_chosen out (m ∷ ms) h = by (out m.sym.0) (is_output m.dir) h.0 (outs_chosen out ms h.1)
  where
    by : (b d : Bool) → b ≡ d → filter out (symbols_in ms) ≡ outs_in ms
        → cond b (m.sym.0 ∷ filter out (symbols_in ms)) (filter out (symbols_in ms)) ≡ symbols_in (cond d (m ∷ filter (λ (m : Mark). is_output m.dir) ms) (filter (λ (m : Mark). is_output m.dir) ms))
    by true true e r = ap (λ xs. m.sym.0 ∷ xs) r
    by false false e r = r
    by true false e r = absurd (true≢false e)
    by false true e r = absurd (true≢false (sym e))

pub ins_chosen : (out : ℕ → Bool) (ms : List Mark) → Each (Agrees out) ms → filter (λ a. not (out a)) (symbols_in ms) ≡ ins_in ms
ins_chosen out [] h = refl
ins_chosen out (m ∷ ms) h = by (out m.sym.0) (is_output m.dir) h.0 (ins_chosen out ms h.1)
  where
    by : (b d : Bool) → b ≡ d → filter (λ a. not (out a)) (symbols_in ms) ≡ ins_in ms
        → cond (not b) (m.sym.0 ∷ filter (λ a. not (out a)) (symbols_in ms)) (filter (λ a. not (out a)) (symbols_in ms))
        ≡ symbols_in (cond (not d) (m ∷ filter (λ (m : Mark). not (is_output m.dir)) ms) (filter (λ (m : Mark). not (is_output m.dir)) ms))
    by true true e r = r
    by false false e r = ap (λ xs. m.sym.0 ∷ xs) r
    by true false e r = absurd (true≢false e)
    by false true e r = absurd (true≢false (sym e))

pub agree_at : (out : ℕ → Bool) (ps : List Proc) (p : ℕ) → Each (λ (q : Proc). Each (Agrees out) (marks_of_proc q)) ps → Each (Agrees out) (marks_at ps p)
agree_at out [] p h = tt
agree_at out (q ∷ ps) zero h = h.0
agree_at out (q ∷ ps) (suc p) h = agree_at out ps p h.1

-- ---- the tables of a command

module _ (c : Command) where
  abbrev ps : List Proc
  ps = c.procs

  abbrev names : ℕ
  names = length c.names

  abbrev rows : List (List ℕ)
  rows = map (λ (p : Proc). symbols_in (marks_of_proc p)) ps

  abbrev outs : List Bool
  outs = outs_of (Cmd c)

  abbrev flags : List Bool
  flags = map grants ps

  abbrev pub tables : TieTables
  tables = tables_of rows outs flags

  pub outs_long : length outs ≡ names
  outs_long = length-map-range_with_len (gives_symbol (marks_of_all ps)) 0 names

  marks_low : AllByRecursion (λ (m : Mark). m.sym.0 < names) (marks_of_all ps)
  marks_low = numbered_low 0 (marks_of_all ps) names c.valid.numbered

  pub symbols_known : AllByRecursion (λ (p : Proc). AllByRecursion (λ a. a < length outs) (symbols_in (marks_of_proc p))) ps
  symbols_known = subst (λ (n : ℕ). AllByRecursion (λ (p : Proc). AllByRecursion (λ a. a < n) (symbols_in (marks_of_proc p))) ps) (sym outs_long) (rows_low names ps marks_low)

  out_is : (s : ℕ) → get_or outs s false ≡ out_of ps s
  out_is s = tabled (gives_symbol (marks_of_all ps)) names false (λ a past. none_out names a (marks_of_all ps) marks_low past) s ∙ out_same (marks_of_all ps) s

  row_at : (p : ℕ) → get_or rows p [] ≡ symbols_in (marks_at ps p)
  row_at p = ap (λ (rs : List (List ℕ)). get_or rs p []) (sym (map_twice symbols_in marks_of_proc ps)) ∙ mapped_at symbols_in (map marks_of_proc ps) p []

  symbols_is : (p : ℕ) → get_or tables.symbols p [] ≡ put_each [] (symbols_in (marks_at ps p))
  symbols_is p = mapped_at (put_each []) rows p [] ∙ ap (put_each []) (row_at p)

  rows_long : length tables.symbols ≡ length ps
  rows_long = length-map rows (put_each []) ∙ length-map ps (λ (p : Proc). symbols_in (marks_of_proc p))

  has_is : (s p : ℕ) → is_in s (get_or tables.symbols p []) ≡ has_symbol (marks_at ps p) s
  has_is s p = ap (is_in s) (symbols_is p) ∙ in_each s [] (symbols_in (marks_at ps p))

  none_has : (s : ℕ) → length outs ≤ s → havers ps s ≡ []
  none_has s past = filter_none (λ p. has_symbol (marks_at ps p) s) (range_with_len 0 (length ps))
      (λ p. not_high names s (symbols_in (marks_at ps p)) (row_low names ps p (rows_low names ps marks_low)) (omega (arith, past, outs_long)))

  takers_is : (s : ℕ) → get_or tables.takers s [] ≡ havers ps s
  takers_is s =
      ap (λ (t : List (List ℕ)). get_or t s []) (λ i. map (λ a. filter ((fun_ext (λ p. has_is a p)) i) (range_with_len 0 (rows_long i))) (range_with_len 0 (length outs)))
      ∙ tabled (havers ps) (length outs) [] none_has s

  givers_is : (s : ℕ) → get_or tables.givers s [] ≡ filter (λ p. not (grants_at ps p)) (havers ps s)
  givers_is s = mapped_at (chosen flags false) tables.takers s [] ∙ ap (chosen flags false) (takers_is s)

  owner_is : (s : ℕ) → head (get_or tables.owners s []) ≡ head (filter (grants_at ps) (havers ps s))
  owner_is s = ap head (mapped_at (chosen flags true) tables.takers s [] ∙ ap (chosen flags true) (takers_is s))

  module _ (admitted : Admitted c.procs) where
    agree : (p : ℕ) → Each (Agrees (out_of ps)) (marks_at ps p)
    agree p = agree_at (out_of ps) ps p (each_of (λ (q : Proc). Each (Agrees (out_of ps)) (marks_of_proc q)) ps (λ q w. directions_agree ps q admitted.directions w))

    requests_is : (p : ℕ) → get_or tables.requests p [] ≡ outs_in (marks_at ps p)
    requests_is p =
        mapped_at (chosen outs true) rows p [] ∙ ap (chosen outs true) (row_at p) ∙ ap (λ (f : ℕ → Bool). filter f (symbols_in (marks_at ps p))) (fun_ext out_is)
        ∙ outs_chosen (out_of ps) (marks_at ps p) (agree p)

    returns_is : (p : ℕ) → get_or tables.returns p [] ≡ put_each [] (ins_in (marks_at ps p))
    returns_is p =
        mapped_at (put_each []) (map (chosen outs false) rows) p []
        ∙ ap (put_each []) (mapped_at (chosen outs false) rows p [] ∙ ap (chosen outs false) (row_at p) ∙ ap (λ (f : ℕ → Bool). filter (λ a. not (f a)) (symbols_in (marks_at ps p))) (fun_ext out_is)
        ∙ ins_chosen (out_of ps) (marks_at ps p) (agree p))

    lends_is : (p : ℕ) → get_or tables.lends p false ≡ begins_out (marks_at ps p)
    lends_is p = mapped_at (begins outs) rows p [] ∙ ap (begins outs) (row_at p) ∙ first (marks_at ps p) (agree p)
      where
        first : (ms : List Mark) → Each (Agrees (out_of ps)) ms → begins outs (symbols_in ms) ≡ begins_out ms
        first [] h = refl
        first (m ∷ ms) h = out_is m.sym.0 ∙ h.0

    pub ties_are : ties_by tables ≡ ties_of c
    ties_are = λ i. record {
      out = fun_ext out_is i;
      grants = grants_at ps;
      symbols = fun_ext symbols_is i;
      takers = fun_ext takers_is i;
      givers = fun_ext givers_is i;
      owner = fun_ext owner_is i;
      requests = fun_ext requests_is i;
      returns = fun_ext returns_is i;
      lends = fun_ext lends_is i;
      processes = rows_long i;
      names = outs_long i;
    }

    havers_low : (s : ℕ) → length (havers ps s) ≤ length ps
    havers_low s = omega (arith, filter_low (λ p. has_symbol (marks_at ps p) s) (range_with_len 0 (length ps)), length-range_with_len 0 (length ps))

    pub tables_ready : IsReady tables
    tables_ready = record {
      processes = omega (arith, rows_long, c.valid.few_procs);
      names = omega (arith, outs_long, c.valid.few_symbols);
      takers = λ s. omega (arith, ap (λ (xs : List ℕ). length xs) (takers_is s), havers_low s, c.valid.few_procs);
      givers = λ s. omega (arith, ap (λ (xs : List ℕ). length xs) (givers_is s), filter_low (λ p. not (grants_at ps p)) (havers ps s), havers_low s, c.valid.few_procs);
      requests = λ p.
          let at : get_or tables.requests p [] ≡ chosen outs true (symbols_in (marks_at ps p)) = mapped_at (chosen outs true) rows p [] ∙ ap (chosen outs true) (row_at p) in
          omega (arith, ap (λ (xs : List ℕ). length xs) at, filter_low (λ n. get_or outs n false) (symbols_in (marks_at ps p)), row_places ps p, c.valid.few_places);
      returns = λ p.
          let at : get_or tables.returns p [] ≡ put_each [] (chosen outs false (symbols_in (marks_at ps p))) =
          mapped_at (put_each []) (map (chosen outs false) rows) p [] ∙ ap (put_each []) (mapped_at (chosen outs false) rows p [] ∙ ap (chosen outs false) (row_at p)) in
          omega (
            arith,
            ap (λ (xs : List ℕ). length xs) at,
            each_low [] (chosen outs false (symbols_in (marks_at ps p))),
            filter_low (λ n. not (get_or outs n false)) (symbols_in (marks_at ps p)),
            row_places ps p,
            c.valid.few_places,
          );
    }

-- the tables that are made of a copy of the command, of its processes and its directions
pub tables_same : (c d : Command) (procs : List Proc) (dirs : List Bool) (t : TieTables) → d ≡ c → procs ≡ c.procs → dirs ≡ outs_of (Cmd d)
    → t ≡ tables_of (map (λ (p : Proc). symbols_in (marks_of_proc p)) procs) dirs (map grants procs) → t ≡ tables c
tables_same c d procs dirs t copy same outputs is =
    is ∙ (λ i. tables_of (map (λ (p : Proc). symbols_in (marks_of_proc p)) (same i)) ((outputs ∙ ap (λ (e : Command). outs_of (Cmd e)) copy) i) (map grants (same i)))
