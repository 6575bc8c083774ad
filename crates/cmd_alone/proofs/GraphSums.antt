-- What is counted of a graph stays under a renaming of its symbols.
use Rattle.std.proofs.Common.{◌≡◌, ℕ, zero, suc, ◌+◌, Bool, not, ◌&&◌, cond, List, [], ◌∷◌, map, length, filter, get_or, refl, ap, ◌∙◌}
use Rattle.std.specs.Prelude.{nat_eq, if◌then◌else◌}
use Rattle.std.specs.List.{range_with_len}
use Rattle.std.specs.Int.{is_power_of_two}
use Rattle.std.proofs.lemmas.List.{length-map}
use Rattle.cmd_tree.specs.declared.tree.Sym.{Sym}
use Rattle.basic_kinds.specs.Sorts.{Iwires, Sources, Forks, Joins, Merges, how_many}
use Rattle.basic_kinds.specs.ShapeParts.{part_at, part_names, part_rows, part_columns, local_part}
use Rattle.basic_kinds.specs.Sums.{One, Wide, Wait}
use Rattle.place_graph.specs.declared.wait_graph.WaitGraph.{WaitGraph}
use Rattle.place_graph.specs.declared.wait_graph.Act.{Act}
use Rattle.place_graph.specs.declared.wait_graph.Cross.{Cross}
use Rattle.place_graph.specs.declared.wait_graph.Start.{Start}
use Rattle.place_graph.specs.declared.wait_graph.Start.TheVariants as start
use Rattle.place_graph.specs.declared.styles.SplitStyle.TheVariants.{OneWait, Rounds, Token}
use Rattle.place_graph.specs.Graph.{has_sym}
use Rattle.place_graph.specs.Style.{is_exit, has_entry, one_entry_each, style_of}
use Rattle.place_graph.specs.Sums.{symbols_at, outs_at, entries_of, givers, all_bursts, all_acts, joins, calls, begins_at, gate, first_act, spreads, is_one, is_straight, exits, moves, leading, returns, first_wait, pairs, meetings}
use Rattle.cmd_alone.proofs.Apart.{KeepsApart}
use Rattle.cmd_alone.proofs.Graphs.{ren_sym, ren_syms, ren_act, ren_graph, any_mapped, has_sym_kept}

-- ---- lists
map_same : {A B : Type 0} (f g : A → B) (xs : List A) → ((x : A) → f x ≡ g x) → map f xs ≡ map g xs
map_same f g [] e = refl
map_same f g (x ∷ xs) e = λ j. e x j ∷ map_same f g xs e j

filter_same : {A : Type 0} (t u : A → Bool) (xs : List A) → ((x : A) → t x ≡ u x) → filter t xs ≡ filter u xs
filter_same t u [] e = refl
filter_same t u (x ∷ xs) e = λ j. cond (e x j) (x ∷ filter_same t u xs e j) (filter_same t u xs e j)

got_mapped : (f : ℕ → ℕ) (bs : List (List Sym)) (b : ℕ) → get_or (map (ren_syms f) bs) b [] ≡ ren_syms f (get_or bs b [])
got_mapped f [] b = refl
got_mapped f (x ∷ bs) zero = refl
got_mapped f (x ∷ bs) (suc b) = got_mapped f bs b

outs_mapped : (f : ℕ → ℕ) (ys : List Act) → map (λ (y : Act). y.outs) (map (ren_act f) ys) ≡ map (ren_syms f) (map (λ (y : Act). y.outs) ys)
outs_mapped f [] = refl
outs_mapped f (y ∷ ys) = ap (λ u. ren_syms f y.outs ∷ u) (outs_mapped f ys)

one_same : (t u : ℕ → Bool) (xs : List ℕ) → ((x : ℕ) → t x ≡ u x) → is_one t xs ≡ is_one u xs
one_same t u [] e = refl
one_same t u (x ∷ []) e = e x
one_same t u (x ∷ y ∷ xs) e = refl

module _ (f : ℕ → ℕ) (g : WaitGraph) where
  bursts_many : length (map (ren_syms f) g.bursts) ≡ length g.bursts
  bursts_many = length-map g.bursts (ren_syms f)

  acts_many : length (map (ren_act f) g.acts) ≡ length g.acts
  acts_many = length-map g.acts (ren_act f)

  acts_same : all_acts (ren_graph f g) ≡ all_acts g
  acts_same = ap (range_with_len 0) acts_many

  symbols_many : (b : ℕ) → length (symbols_at (ren_graph f g) b) ≡ length (symbols_at g b)
  symbols_many b = ap length (got_mapped f g.bursts b) ∙ length-map (symbols_at g b) (ren_sym f)

  outs_kept : (n : ℕ) → outs_at (ren_graph f g) n ≡ ren_syms f (outs_at g n)
  outs_kept n = ap (λ (bs : List (List Sym)). get_or bs n []) (outs_mapped f g.acts) ∙ got_mapped f (map (λ (y : Act). y.outs) g.acts) n

  outs_many : (n : ℕ) → length (outs_at (ren_graph f g) n) ≡ length (outs_at g n)
  outs_many n = ap length (outs_kept n) ∙ length-map (outs_at g n) (ren_sym f)

  -- ---- in every style
  pub joins_kept : joins (ren_graph f g) ≡ joins g
  joins_kept = map_same (λ b. Wide Joins (length (symbols_at (ren_graph f g) b))) (λ b. Wide Joins (length (symbols_at g b))) (all_bursts (ren_graph f g)) (λ b. ap (Wide Joins) (symbols_many b))
      ∙ ap (map (λ b. Wide Joins (length (symbols_at g b)))) (ap (range_with_len 0) bursts_many)

  pub calls_kept : calls (ren_graph f g) ≡ calls g
  calls_kept = ap (map (λ n. Wide Merges (length (entries_of g n)))) acts_same

  pub first_act_kept : first_act (ren_graph f g) ≡ first_act g
  first_act_kept = ap (λ ns. map (λ n. gate (entries_of g n)) (filter (begins_at g.start) ns)) acts_same

  -- ---- in some
  pub spreads_kept : spreads (ren_graph f g) ≡ spreads g
  spreads_kept = map_same (λ n. Wide Forks (length (outs_at (ren_graph f g) n))) (λ n. Wide Forks (length (outs_at g n))) (all_acts (ren_graph f g)) (λ n. ap (Wide Forks) (outs_many n))
      ∙ ap (map (λ n. Wide Forks (length (outs_at g n)))) acts_same

  straight_kept : (n : ℕ) → is_straight (ren_graph f g) n ≡ is_straight g n
  straight_kept n = λ j. nat_eq (outs_many n j) 1 && (not (begins_at g.start n)
      && one_same (λ b. nat_eq (length (symbols_at (ren_graph f g) b)) 1) (λ b. nat_eq (length (symbols_at g b)) 1) (entries_of g n) (λ b. ap (λ k. nat_eq k 1) (symbols_many b)) j)

  moves_by : (ys : List Act) → map (λ y. Wide Forks (length y.outs + exits y.exit)) (map (ren_act f) ys) ≡ map (λ y. Wide Forks (length y.outs + exits y.exit)) ys
  moves_by [] = refl
  moves_by (y ∷ ys) = λ j. Wide Forks (length-map y.outs (ren_sym f) j + exits y.exit) ∷ moves_by ys j

  pub moves_kept : moves (ren_graph f g) ≡ moves g
  moves_kept = moves_by g.acts

  leading_by : (w : ℕ) (ys : List Act) → how_many (λ (y : Act). is_exit w y.exit) (map (ren_act f) ys) ≡ how_many (λ (y : Act). is_exit w y.exit) ys
  leading_by w [] = refl
  leading_by w (y ∷ ys) = ap (λ n. (if is_exit w y.exit then 1 else 0) + n) (leading_by w ys)

  pub returns_kept : returns (ren_graph f g) ≡ returns g
  returns_kept = map_same (λ w. Wide Merges (leading (ren_graph f g) w)) (λ w. Wide Merges (leading g w)) (range_with_len 0 g.waits) (λ w. ap (Wide Merges) (leading_by w g.acts))

  entry_kept : (s : Start) (cs : List Cross) → has_entry s (map (ren_act f) g.acts) cs ≡ has_entry s g.acts cs
  entry_kept (start.Wait w) cs = any_mapped (λ (y : Act). is_exit w y.exit) (λ (y : Act). is_exit w y.exit) (ren_act f) (λ y. refl) g.acts
  entry_kept (start.Act a) cs = refl

  pub first_wait_kept : (s : Start) → first_wait s (ren_graph f g) ≡ first_wait s g
  first_wait_kept (start.Wait w) = ap (λ b. One (if b then Iwires else Sources) ∷ []) (entry_kept g.start g.crosses)
  first_wait_kept (start.Act n) = refl

  pub meetings_kept : meetings (ren_graph f g) ≡ meetings g
  meetings_kept = ap (λ m. map (λ i. let part = part_at g.waits (pairs g) i in Wait (length (part_rows g.waits part)) (length (part_columns m part)) (local_part part)) (part_names g.waits (pairs g))) bursts_many

  pub style_kept : style_of (ren_graph f g) ≡ style_of g
  style_kept = λ j. if nat_eq g.waits 1 then OneWait else (if nat_eq (bursts_many j) 1 && is_power_of_two g.waits && nat_eq (length g.crosses) g.waits
      && one_entry_each (acts_many j) g.crosses && entry_kept g.start g.crosses j then Rounds g.waits else Token)

  -- ---- the acts that give a symbol
  module _ (apart : KeepsApart f) where
    pub givers_kept : (a : ℕ) → givers (ren_graph f g) (f a) ≡ givers g a
    givers_kept a = filter_same (λ n. has_sym (record { 0 = f a }) (outs_at (ren_graph f g) n)) (λ n. has_sym (record { 0 = a }) (outs_at g n)) (all_acts (ren_graph f g))
        (λ n. ap (has_sym (record { 0 = f a })) (outs_kept n) ∙ has_sym_kept f apart (record { 0 = a }) (outs_at g n))
        ∙ ap (filter (λ n. has_sym (record { 0 = a }) (outs_at g n))) acts_same

    pub direct_kept : (a : ℕ) → is_one (is_straight (ren_graph f g)) (givers (ren_graph f g) (f a)) ≡ is_one (is_straight g) (givers g a)
    direct_kept a = ap (is_one (is_straight (ren_graph f g))) (givers_kept a) ∙ one_same (is_straight (ren_graph f g)) (is_straight g) (givers g a) straight_kept
