-- The graph of a process under other symbols: its graph, with the symbols of its bursts renamed.
use Rattle.std.proofs.Common.{◌≡◌, ℕ, ◌+◌, Bool, true, false, cond, not, ◌&&◌, ◌||◌, List, [], ◌∷◌, ◌++◌, map, filter, length, Option, Some, None, refl, sym, ap, ◌∙◌}
use Rattle.std.specs.Prelude.{nat_eq, if◌then◌else◌}
use Rattle.std.specs.List.{list_any, list_all, position_or_len}
use Rattle.std.proofs.lemmas.List.{map-append}
use Rattle.cmd_tree.specs.declared.tree.Mark.{Mark}
use Rattle.cmd_tree.specs.declared.tree.Proc.{Proc}
use Rattle.cmd_tree.specs.declared.tree.Sym.{Sym}
use Rattle.cmd_tree.specs.Tree.{TItem, TSeq, TSeqs, TBurst, TAlt, Stop, Or, Done, Then, places_of, places_in}
use Rattle.cmd_tree.specs.Limits.{of_part}
use Rattle.cmd_tree.specs.Residual.{lead_of}
use Rattle.cmd_rename.specs.Renaming.{ren_marks, ren_seq, ren_item, ren_seqs, ren_part, ren_proc}
use Rattle.place_graph.specs.declared.leg.Leg.{Leg}
use Rattle.place_graph.specs.declared.wait_graph.WaitGraph.{WaitGraph}
use Rattle.place_graph.specs.declared.wait_graph.Act.{Act}
use Rattle.place_graph.specs.Points.{point, legs_of, legs_in, legs_among, body_place, turn_point, legs}
use Rattle.place_graph.specs.Graph.{with_new, firsts, gives, is_act, acts_of, inputs_of, points_of, wait_points, act_points, index_of, number_at, syms, has_sym, same_set, bursts_of, burst_number, cross, in_order, act, start_at, numbered, graph_of}
use Rattle.cmd_alone.proofs.Apart.{KeepsApart, eq_kept}
use Rattle.cmd_alone.proofs.Walks.{seq_places, item_places, joined}

-- ---- legs
abbrev pub ren_leg : (ℕ → ℕ) → Leg → Leg
ren_leg f l = record { from = l.from; place = l.place; marks = ren_marks f l.marks; to = l.to }

point_kept : (f : ℕ → ℕ) (k : ℕ) (s : TSeq) (later : ℕ) → point k (ren_seq f s) later ≡ point k s later
point_kept f k Done later = refl
point_kept f k (Then i s) later = refl

next_point : (f : ℕ → ℕ) (k : ℕ) (i : TItem) (s : TSeq) (later : ℕ) → point (k + places_in (ren_item f i)) (ren_seq f s) later ≡ point (k + places_in i) s later
next_point f k i s later = ap (λ n. point (k + n) (ren_seq f s) later) (item_places f i) ∙ point_kept f (k + places_in i) s later

mutual
  legs_seq : (f : ℕ → ℕ) (k : ℕ) (s : TSeq) (at later : ℕ) → legs_of k (ren_seq f s) at later ≡ map (ren_leg f) (legs_of k s at later)
  legs_seq f k Done at later = refl
  legs_seq f k (Then i s) at later = joined (ren_leg f) (legs_in k i at (point (k + places_in i) s later)) (legs_of (k + places_in i) s (k + places_in i) later) _ _
      (ap (legs_in k (ren_item f i) at) (next_point f k i s later) ∙ legs_item f k i at (point (k + places_in i) s later))
      (ap (λ n. legs_of (k + n) (ren_seq f s) (k + n) later) (item_places f i) ∙ legs_seq f (k + places_in i) s (k + places_in i) later)

  legs_item : (f : ℕ → ℕ) (k : ℕ) (i : TItem) (at later : ℕ) → legs_in k (ren_item f i) at later ≡ map (ren_leg f) (legs_in k i at later)
  legs_item f k (TBurst ms) at later = refl
  legs_item f k (TAlt ss) at later = legs_seqs f k ss at later

  legs_seqs : (f : ℕ → ℕ) (k : ℕ) (ss : TSeqs) (at later : ℕ) → legs_among k (ren_seqs f ss) at later ≡ map (ren_leg f) (legs_among k ss at later)
  legs_seqs f k Stop at later = refl
  legs_seqs f k (Or s ss) at later = joined (ren_leg f) (legs_of k s at later) (legs_among (k + places_of s) ss at later) _ _ (legs_seq f k s at later)
      (ap (λ n. legs_among (k + n) (ren_seqs f ss) at later) (seq_places f s) ∙ legs_seqs f (k + places_of s) ss at later)

lead_kept : (f : ℕ → ℕ) (s : Option TSeq) → lead_of (ren_part f s) ≡ ren_seq f (lead_of s)
lead_kept f None = refl
lead_kept f (Some s) = refl

part_places : (f : ℕ → ℕ) (s : Option TSeq) → of_part 0 places_of (ren_part f s) ≡ of_part 0 places_of s
part_places f None = refl
part_places f (Some s) = seq_places f s

body_kept : (f : ℕ → ℕ) (p : Proc) → body_place (ren_proc f p) ≡ body_place p
body_kept f p = ap (λ n. 1 + n) (part_places f p.lead)

turn_by : (f : ℕ → ℕ) (n m : ℕ) (s : Option TSeq) → n ≡ m → of_part 0 (λ t. n) (ren_part f s) ≡ of_part 0 (λ t. m) s
turn_by f n m None e = refl
turn_by f n m (Some s) e = e

turn_kept : (f : ℕ → ℕ) (p : Proc) → turn_point (ren_proc f p) ≡ turn_point p
turn_kept f p = turn_by f (body_place (ren_proc f p)) (body_place p) p.body (body_kept f p)

pub legs_kept : (f : ℕ → ℕ) (p : Proc) → legs (ren_proc f p) ≡ map (ren_leg f) (legs p)
legs_kept f p = joined (ren_leg f) (legs_of 1 (lead_of p.lead) 1 (turn_point p)) (legs_of (body_place p) (lead_of p.body) (body_place p) (turn_point p)) _ _
    ((λ j. legs_of 1 (lead_kept f p.lead j) 1 (turn_kept f p j)) ∙ legs_seq f 1 (lead_of p.lead) 1 (turn_point p))
    ((λ j. legs_of (body_kept f p j) (lead_kept f p.body j) (body_kept f p j) (turn_kept f p j)) ∙ legs_seq f (body_place p) (lead_of p.body) (body_place p) (turn_point p))

-- ---- tests of the elements of a renamed list
module _ {A B : Type 0} (t : B → Bool) (u : A → Bool) (h : A → B) (e : (x : A) → t (h x) ≡ u x) where
  pub filter_mapped : (xs : List A) → filter t (map h xs) ≡ map h (filter u xs)
  filter_mapped [] = refl
  filter_mapped (x ∷ xs) = (λ j. cond (e x j) (h x ∷ filter_mapped xs j) (filter_mapped xs j)) ∙ by (u x) (filter u xs)
    where
      by : (b : Bool) (ys : List A) → cond b (h x ∷ map h ys) (map h ys) ≡ map h (cond b (x ∷ ys) ys)
      by true ys = refl
      by false ys = refl

  pub any_mapped : (xs : List A) → list_any t (map h xs) ≡ list_any u xs
  any_mapped [] = refl
  any_mapped (x ∷ xs) = λ j. e x j || any_mapped xs j

  pub all_mapped : (xs : List A) → list_all t (map h xs) ≡ list_all u xs
  all_mapped [] = refl
  all_mapped (x ∷ xs) = λ j. e x j && all_mapped xs j

  pub place_mapped : (xs : List A) → position_or_len t (map h xs) ≡ position_or_len u xs
  place_mapped [] = refl
  place_mapped (x ∷ xs) = λ j. cond (not (e x j)) (1 + place_mapped xs j) 0

module _ {A B : Type 0} (same : B → B → Bool) (alike : A → A → Bool) (h : A → B) (e : (x y : A) → same (h x) (h y) ≡ alike x y) where
  new_by : (y : A) (xs : List A) (b : Bool) → (if b then map h xs else map h xs ++ h y ∷ []) ≡ map h (if b then xs else xs ++ y ∷ [])
  new_by y xs true = refl
  new_by y xs false = sym (map-append h xs (y ∷ []))

  new_mapped : (xs ys : List A) → with_new same (map h xs) (map h ys) ≡ map h (with_new alike xs ys)
  new_mapped xs [] = refl
  new_mapped xs (y ∷ ys) =
      ap (λ u. with_new same u (map h ys)) (ap (λ b. if b then map h xs else map h xs ++ h y ∷ []) (any_mapped (same (h y)) (alike y) h (e y) xs) ∙ new_by y xs (list_any (alike y) xs))
      ∙ new_mapped (if list_any (alike y) xs then xs else xs ++ y ∷ []) ys

  pub firsts_mapped : (xs : List A) → firsts same (map h xs) ≡ map h (firsts alike xs)
  firsts_mapped xs = new_mapped [] xs

-- ---- symbols and sets of them
abbrev pub ren_sym : (ℕ → ℕ) → Sym → Sym
ren_sym f a = record { 0 = f a.0 }

abbrev pub ren_syms : (ℕ → ℕ) → List Sym → List Sym
ren_syms f b = map (ren_sym f) b

pub syms_kept : (f : ℕ → ℕ) (ms : List Mark) → syms (ren_marks f ms) ≡ ren_syms f (syms ms)
syms_kept f [] = refl
syms_kept f (m ∷ ms) = ap (λ u. ren_sym f m.sym ∷ u) (syms_kept f ms)

gives_kept : (f : ℕ → ℕ) (ms : List Mark) → gives (ren_marks f ms) ≡ gives ms
gives_kept f [] = refl
gives_kept f (m ∷ ms) = refl

-- ---- points
acts_kept : (f : ℕ → ℕ) (L : List Leg) → acts_of (map (ren_leg f) L) ≡ map (ren_leg f) (acts_of L)
acts_kept f L = filter_mapped is_act is_act (ren_leg f) (λ l. gives_kept f l.marks) L

inputs_kept : (f : ℕ → ℕ) (L : List Leg) → inputs_of (map (ren_leg f) L) ≡ map (ren_leg f) (inputs_of L)
inputs_kept f L = filter_mapped (λ l. not (is_act l)) (λ l. not (is_act l)) (ren_leg f) (λ l. ap not (gives_kept f l.marks)) L

points_kept : (f : ℕ → ℕ) (L : List Leg) → points_of (map (ren_leg f) L) ≡ points_of L
points_kept f [] = refl
points_kept f (l ∷ L) = ap (λ u. l.from ∷ u) (points_kept f L)

waits_kept : (f : ℕ → ℕ) (L : List Leg) → wait_points (map (ren_leg f) L) ≡ wait_points L
waits_kept f L = ap (firsts nat_eq) (ap points_of (inputs_kept f L) ∙ points_kept f (inputs_of L))

act_points_kept : (f : ℕ → ℕ) (L : List Leg) → act_points (map (ren_leg f) L) ≡ act_points L
act_points_kept f L = ap (firsts nat_eq) (ap points_of (acts_kept f L) ∙ points_kept f (acts_of L))

-- ---- the graph
abbrev pub ren_act : (ℕ → ℕ) → Act → Act
ren_act f y = record { outs = ren_syms f y.outs; exit = y.exit }

abbrev pub ren_graph : (ℕ → ℕ) → WaitGraph → WaitGraph
ren_graph f g = record { waits = g.waits; bursts = map (ren_syms f) g.bursts; crosses = g.crosses; acts = map (ren_act f) g.acts; start = g.start }

module _ (f : ℕ → ℕ) (apart : KeepsApart f) where
  pub has_sym_kept : (a : Sym) (b : List Sym) → has_sym (ren_sym f a) (ren_syms f b) ≡ has_sym a b
  has_sym_kept a b = any_mapped (λ c. nat_eq (f a.0) c.0) (λ c. nat_eq a.0 c.0) (ren_sym f) (λ c. eq_kept f apart a.0 c.0) b

  same_kept : (b c : List Sym) → same_set (ren_syms f b) (ren_syms f c) ≡ same_set b c
  same_kept b c = λ j. all_mapped (λ a. has_sym a (ren_syms f c)) (λ a. has_sym a c) (ren_sym f) (λ a. has_sym_kept a c) b j
      && all_mapped (λ a. has_sym a (ren_syms f b)) (λ a. has_sym a b) (ren_sym f) (λ a. has_sym_kept a b) c j

  sets_kept : (L : List Leg) → map (λ l. syms l.marks) (map (ren_leg f) L) ≡ map (ren_syms f) (map (λ l. syms l.marks) L)
  sets_kept [] = refl
  sets_kept (l ∷ L) = λ j. syms_kept f l.marks j ∷ sets_kept L j

  bursts_kept : (L : List Leg) → bursts_of (map (ren_leg f) L) ≡ map (ren_syms f) (bursts_of L)
  bursts_kept L = ap (firsts same_set) (ap (map (λ (l : Leg). syms l.marks)) (inputs_kept f L) ∙ sets_kept (inputs_of L))
      ∙ firsts_mapped same_set same_set (ren_syms f) same_kept (map (λ l. syms l.marks) (inputs_of L))

  number_kept : (L : List Leg) (l : Leg) → burst_number (map (ren_leg f) L) (ren_leg f l) ≡ burst_number L l
  number_kept L l = (λ j. position_or_len (same_set (syms_kept f l.marks j)) (bursts_kept L j))
      ∙ place_mapped (same_set (ren_syms f (syms l.marks))) (same_set (syms l.marks)) (ren_syms f) (same_kept (syms l.marks)) (bursts_of L)

  cross_kept : (L : List Leg) (l : Leg) → cross (map (ren_leg f) L) (ren_leg f l) ≡ cross L l
  cross_kept L l = λ j. record { wait = index_of l.from (waits_kept f L j); burst = number_kept L l j; act = index_of l.to (act_points_kept f L j) }

  crosses_by : (L M : List Leg) → map (cross (map (ren_leg f) L)) (map (ren_leg f) M) ≡ map (cross L) M
  crosses_by L [] = refl
  crosses_by L (l ∷ M) = λ j. cross_kept L l j ∷ crosses_by L M j

  crosses_kept : (L : List Leg) → in_order (map (cross (map (ren_leg f) L)) (inputs_of (map (ren_leg f) L))) ≡ in_order (map (cross L) (inputs_of L))
  crosses_kept L = ap in_order (ap (map (cross (map (ren_leg f) L))) (inputs_kept f L) ∙ crosses_by L (inputs_of L))

  acts_by : (L M : List Leg) → map (act (map (ren_leg f) L)) (map (ren_leg f) M) ≡ map (ren_act f) (map (act L) M)
  acts_by L [] = refl
  acts_by L (l ∷ M) = λ j. record { outs = syms_kept f l.marks j; exit = number_at l.to (waits_kept f L j) } ∷ acts_by L M j

  acts_numbered : (L : List Leg) → map (act (map (ren_leg f) L)) (acts_of (map (ren_leg f) L)) ≡ map (ren_act f) (map (act L) (acts_of L))
  acts_numbered L = ap (map (act (map (ren_leg f) L))) (acts_kept f L) ∙ acts_by L (acts_of L)

  numbered_kept : (L : List Leg) → numbered (map (ren_leg f) L) ≡ ren_graph f (numbered L)
  numbered_kept L = λ j. record {
    waits = length (waits_kept f L j);
    bursts = bursts_kept L j;
    crosses = crosses_kept L j;
    acts = acts_numbered L j;
    start = start_at (act_points_kept f L j) (waits_kept f L j);
  }

  pub graph_kept : (p : Proc) → graph_of (ren_proc f p) ≡ ren_graph f (graph_of p)
  graph_kept p = ap numbered (legs_kept f p) ∙ numbered_kept (legs p)
