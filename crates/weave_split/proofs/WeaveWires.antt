-- How many wires the network of a weave has, and how wide its groups are.
use Rattle.std.proofs.Common.{◌≡◌, ℕ, zero, suc, ◌+◌, ◌*◌, ◌<◌, ◌≤◌, ◌^◌, Bool, true, false, not, filter, List, [], ◌∷◌, ◌++◌, length, map, get_or, refl, ap, ◌∙◌, arith, if◌then◌else◌, length-append}
use Rattle.std.specs.List.{range_with_len}
use Rattle.cmd_tree.specs.declared.limits.TheConstants.{MAX_SYMBOLS, MAX_PROCESSES, MAX_PLACES}
use Rattle.cmd_tree.specs.declared.command.Command.{Command}
use Rattle.cmd_tree.specs.declared.tree.Mark.{Mark}
use Rattle.cmd_tree.specs.declared.tree.Proc.{Proc}
use Rattle.cmd_tree.specs.Limits.{marks_of_proc, places_of_all}
use Rattle.cmd_tree.specs.Lists.{is_in}
use Rattle.cmd_tree.specs.Marks.{is_output}
use Rattle.cmd_tree.specs.Meaning.{has_symbol}
use Rattle.cmd_rename.specs.Symbols.{symbols_in, put, put_each}
use Rattle.cmd_rename.proofs.Laws.{symbols_places}
use Rattle.plain_split.specs.SharedPaths.{joined}
use Rattle.plain_split.proofs.OneWaitWires.{long_each, long_joined, long_append, long_map, long_filter, long_few, map_long, filter_long, range_long}
use Rattle.weave_split.specs.WeaveChart.{Wire, Copy, Back, Made, Ask, Token, Give, Name, Process, Spread, Join, Returns, Gate, Sequencer, Ties, is_kept, inputs, woven, granting, meeting, all_names, components, lines, marks_at, grants_at, havers, outs_in, ins_in, ties}
use Rattle.weave_split.proofs.WeaveCharted.{IsNarrow, of_grant}

-- ---- numbers put one after the other

put_few : (xs : List ℕ) (a : ℕ) → length (put xs a) ≤ length xs + 1
put_few xs a = by (is_in a xs)
  where
    by : (b : Bool) → length (if b then xs else xs ++ a ∷ []) ≤ length xs + 1
    by true = omega arith
    by false = omega (arith, length-append xs (a ∷ []))

each_few : (xs ys : List ℕ) → length (put_each xs ys) ≤ length xs + length ys
each_few xs [] = omega arith
each_few xs (y ∷ ys) = omega (arith, each_few (put xs y) ys, put_few xs y)

-- the symbols of marks, each once
once_few : (ms : List Mark) → length (put_each [] (symbols_in ms)) ≤ length ms
once_few ms = omega (arith, each_few [] (symbols_in ms), map_long (λ (m : Mark). m.sym.0) ms)

ins_few : (ms : List Mark) → length (put_each [] (ins_in ms)) ≤ length ms
ins_few ms = omega (arith, once_few (filter (λ m. not (is_output m.dir)) ms), filter_long (λ m. not (is_output m.dir)) ms)

outs_few : (ms : List Mark) → length (outs_in ms) ≤ length ms
outs_few ms = omega (arith, map_long (λ (m : Mark). m.sym.0) (filter (λ m. is_output m.dir) ms), filter_long (λ m. is_output m.dir) ms)

-- ---- lists of lists

-- the marks of a process are at its place
marks_long : {A : Type 0} (f : ℕ → List A) (ms : List (List Mark)) (a : ℕ) → ((i : ℕ) → i < length ms → length (f (a + i)) ≤ length (get_or ms i [])) → long_each f (range_with_len a (length ms)) ≤ long_each (λ m. m) ms
marks_long f [] a h = omega arith
marks_long f (m ∷ ms) a h = omega (
  arith,
  h 0 (omega arith),
  ap (λ n. length (f n)) (let e : a ≡ a + 0 = omega arith in e),
  marks_long f ms (a + 1) (λ i low. omega (arith, h (suc i) (omega arith), ap (λ n. length (f n)) (let e : a + suc i ≡ a + 1 + i = omega arith in e))),
)

marks_places : (ps : List Proc) → long_each (λ m. m) (map marks_of_proc ps) ≡ places_of_all ps
marks_places [] = refl
marks_places (p ∷ ps) = omega (arith, symbols_places p, map_long (λ (m : Mark). m.sym.0) (marks_of_proc p), marks_places ps)

-- what each process has no more of than marks
each_place : {A : Type 0} (f : ℕ → List A) (ps : List Proc) → ((p : ℕ) → length (f p) ≤ length (marks_at ps p)) → long_each f (range_with_len 0 (length ps)) ≤ places_of_all ps
each_place f ps h = omega (
  arith,
  marks_long f (map marks_of_proc ps) 0 (λ i low. omega (arith, h (0 + i), ap (λ n. length (marks_at ps n)) (let e : 0 + i ≡ i = omega arith in e))),
  ap (λ n. long_each f (range_with_len 0 n)) (map_long marks_of_proc ps),
  marks_places ps,
)

-- the marks at a place are not more than all
marks_few : (ps : List Proc) (p : ℕ) → length (marks_at ps p) ≤ places_of_all ps
marks_few ps p = omega (arith, marks_places ps, one (map marks_of_proc ps) p)
  where
    one : (ms : List (List Mark)) (i : ℕ) → length (get_or ms i []) ≤ long_each (λ m. m) ms
    one [] i = omega arith
    one (m ∷ ms) zero = omega arith
    one (m ∷ ms) (suc i) = omega (arith, one ms i)

-- where none of a list of lists has more than k
long_bound : {A B : Type 0} (f : A → List B) (k : ℕ) (xs : List A) → ((x : A) → length (f x) ≤ k) → long_each f xs ≤ length xs * k
long_bound f k [] h = omega arith
long_bound f k (x ∷ xs) h = omega (arith, h x, long_bound f k xs h)

long_grants : (f : Name → List Wire) (ps : List ℕ) → long_each f (joined of_grant ps)
    ≡ long_each (λ p. f (Returns p)) ps + (long_each (λ p. f (Gate p)) ps + long_each (λ p. f (Sequencer p)) ps)
long_grants f [] = refl
long_grants f (p ∷ ps) = omega (arith, long_append f (of_grant p) (joined of_grant ps), long_grants f ps)

havers_few : (ps : List Proc) (s : ℕ) → length (havers ps s) ≤ length ps
havers_few ps s = omega (arith, filter_long (λ p. has_symbol (marks_at ps p) s) (range_with_len 0 (length ps)), range_long 0 (length ps))

module _ (ps : List Proc) (names : ℕ) (few_names : names ≤ MAX_SYMBOLS) (few_procs : length ps ≤ MAX_PROCESSES) (few_places : places_of_all ps ≤ MAX_PLACES) where
  abbrev g : Ties
  g = ties ps names

  givers_few : (s : ℕ) → length (g.givers s) ≤ length ps
  givers_few s = omega (arith, filter_long (λ p. not (grants_at ps p)) (havers ps s), havers_few ps s)

  process_few : (p : ℕ) → length (inputs g (Process p)) ≤ length (marks_at ps p)
  process_few p = omega (
    arith,
    map_long (λ s. Copy s p) (filter (λ s. not (g.out s)) (g.symbols p)),
    filter_long (λ s. not (g.out s)) (g.symbols p),
    once_few (marks_at ps p),
  )

  meeting_few : (s : ℕ) → length (inputs g (meeting g s)) ≤ 256
  meeting_few s = by (g.out s)
    where
      by : (b : Bool) → length (inputs g (if b then Join s else Spread s)) ≤ 256
      by true = omega (arith, map_long (λ p. Made s p) (g.givers s), givers_few s, few_procs)
      by false = omega arith

  returns_few : (p : ℕ) → length (inputs g (Returns p)) ≤ length (marks_at ps p)
  returns_few p = omega (arith, map_long (λ s. Back s p) (g.returns p), ins_few (marks_at ps p))

  sequencer_long : (p : ℕ) → length (inputs g (Sequencer p)) ≡ length (g.requests p) + 1
  sequencer_long p = length-append (map Ask (g.requests p)) (Token p ∷ []) ∙ omega (arith, map_long Ask (g.requests p))

  sequencers_long : (xs : List ℕ) → long_each (λ p. inputs g (Sequencer p)) xs ≡ long_each (λ p. g.requests p) xs + length xs
  sequencers_long [] = refl
  sequencers_long (p ∷ xs) = omega (arith, sequencer_long p, sequencers_long xs)

  all_few : long_each (inputs g) (all_names g) ≤ 3 * places_of_all ps + (names * 256 + 2 * length ps)
  all_few = omega (
    arith,
    long_append (inputs g) (map Process (woven g)) (map (meeting g) (range_with_len 0 names) ++ joined of_grant (granting g)),
    long_append (inputs g) (map (meeting g) (range_with_len 0 names)) (joined of_grant (granting g)),
    long_map (inputs g) Process (woven g),
    long_filter (λ p. inputs g (Process p)) (λ p. not (g.grants p)) (range_with_len 0 (length ps)),
    each_place (λ p. inputs g (Process p)) ps process_few,
    long_map (inputs g) (meeting g) (range_with_len 0 names),
    long_bound (λ s. inputs g (meeting g s)) 256 (range_with_len 0 names) meeting_few,
    range_long 0 names,
    long_grants (inputs g) (granting g),
    long_filter (λ p. inputs g (Returns p)) g.grants (range_with_len 0 (length ps)),
    each_place (λ p. inputs g (Returns p)) ps returns_few,
    long_few (λ p. inputs g (Gate p)) (granting g) (λ p. omega arith),
    sequencers_long (granting g),
    long_filter (λ p. g.requests p) g.grants (range_with_len 0 (length ps)),
    each_place (λ p. g.requests p) ps (λ p. outs_few (marks_at ps p)),
    filter_long g.grants (range_with_len 0 (length ps)),
    range_long 0 (length ps),
  )

  lines_few : length (lines g) ≤ names + (3 * places_of_all ps + (names * 256 + 2 * length ps))
  lines_few = omega (
    arith,
    length-append (map Give (filter g.out (range_with_len 0 names))) (joined (inputs g) (components g)),
    map_long Give (filter g.out (range_with_len 0 names)),
    filter_long g.out (range_with_len 0 names),
    range_long 0 names,
    long_joined (inputs g) (components g),
    long_filter (inputs g) (is_kept g) (all_names g),
    all_few,
  )

  few_lines : length (lines g) < 2 ^ 20
  few_lines = omega (arith, lines_few, few_names, few_procs, few_places)

  narrow : IsNarrow g
  narrow = record {
    takers = λ s. omega (arith, havers_few ps s, few_procs);
    givers = λ s. omega (arith, givers_few s, few_procs);
    returns = λ p. omega (arith, ins_few (marks_at ps p), marks_few ps p, few_places);
    requests = λ p. omega (arith, outs_few (marks_at ps p), marks_few ps p, few_places);
  }

-- the network of a command has fewer wires than a netlist may have
pub weave_wires : (c : Command) → length (lines (ties c.procs (length c.names))) < 2 ^ 20
weave_wires c = few_lines c.procs (length c.names) c.valid.few_symbols c.valid.few_procs c.valid.few_places

pub weave_narrow : (c : Command) → IsNarrow (ties c.procs (length c.names))
weave_narrow c = narrow c.procs (length c.names) c.valid.few_symbols c.valid.few_procs c.valid.few_places
