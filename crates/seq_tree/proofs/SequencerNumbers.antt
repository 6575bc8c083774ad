-- The layer of K groups and L requests that stand alone implements the SEQ of them all.
use Rattle.std.proofs.Common.{◌≡◌, ◌↔◌, ℕ, ◌+◌, ◌*◌, ◌<◌, ◌≤◌, ◌^◌, List, [], ◌∷◌, ◌++◌, map, get_or, inl, inr, refl, sym, ap, subst, ◌∙◌, arith}
use Rattle.std.specs.Prelude.{IsTrue}
use Rattle.std.specs.List.{AllByRecursion, range_with_len}
use Rattle.std.proofs.lemmas.List.{map-append}
use Rattle.cmd_tree.specs.Rounds.{tally, naught}
use Rattle.basic_kinds.specs.declared.kind.Kind.TheVariants as kind
use Rattle.basic_kinds.specs.Totals.{total}
use Rattle.net_core.specs.declared.spec.NodeSpec.TheVariants.{Kind as Basic}
use Rattle.net_core.specs.Specs.{IsFormed, May, outs_of, is_kind}
use Rattle.net_laws.specs.Charts.{Chart, charted}
use Rattle.net_laws.specs.ForkChain.{each}
use Rattle.net_laws.specs.Implementing.{Implements}
use Rattle.net_laws.proofs.Webs as webs
use Rattle.net_laws.proofs.Among.{Among, Distinct, all_among}
use Rattle.net_laws.proofs.Paths.{Path, here}
use Rattle.net_laws.proofs.Routes.{Joined, Routes, routes_basic, routes_clean, routes_correct}
use Rattle.net_laws.proofs.Rows.{row, row_among, row_all, distinct_row, number_row, range_both, among_left, among_right, all_both, distinct_both}
use Rattle.net_laws.proofs.Blocks.{each_among, each_all, number_each}
use Rattle.seq_tree.proofs.GroupNumbers.{map_map, range_on}
use Rattle.seq_tree.proofs.SequencerWires as wires
use Rattle.seq_tree.proofs.SequencerWires.{Wire, Request, Chosen, Ask, Row, Won, Grant, Back, Call, Give, Return, Free, Lone, Own, Token, Node, Env, Outer, Inner, Spread, Calls, Wait, Share, Returns, Gate, same_wire, driver, receiver, clean}
use Rattle.seq_tree.proofs.SequencerSound as sound
use Rattle.seq_tree.proofs.SequencerExact as exact
use Rattle.seq_tree.proofs.SequencerPorts as at
use Rattle.seq_tree.proofs.SequencerPorts.{Pair, lone, asked, called, picked, firsts, seconds, may_by}
use Rattle.seq_tree.proofs.SequencerChart as nodes
use Rattle.seq_tree.proofs.SequencerChart.{distinct_numbers, apart, wire_rank}

module _ (K : ℕ) (size : ℕ → ℕ) (L : ℕ) where
  abbrev There : Wire → Type 0
  There = wires.There K size L

  abbrev ins : Node → List Wire
  ins = at.ins K size L

  abbrev outs : Node → List Wire
  outs = at.outs K size L

  abbrev ports : Node → List Wire
  ports = at.ports K size L

  abbrev pub whole : ℕ
  whole = total K size + L

  -- how many wires are inside a group
  abbrev pub width : ℕ → ℕ
  width k = 5 * size k + 4

  abbrev pub base : ℕ → ℕ
  base k = whole + 1 + whole + total k width

  abbrev pub number : Wire → ℕ
  number (Request k i) = total k size + i
  number (Grant k i) = whole + 1 + total k size + i
  number (Lone j) = total K size + j
  number (Own j) = whole + 1 + total K size + j
  number Token = whole
  number (Chosen k i) = base k + i
  number (Ask k i) = base k + size k + i
  number (Row k i) = base k + 2 * size k + i
  number (Won k i) = base k + 3 * size k + i
  number (Back k i) = base k + 4 * size k + i
  number (Call k) = base k + 5 * size k
  number (Give k) = base k + 5 * size k + 1
  number (Return k) = base k + 5 * size k + 2
  number (Free k) = base k + 5 * size k + 3

  abbrev pub chart : Chart Node Wire
  chart = record {
    env = Env;
    parts = nodes.parts K size L;
    spec = λ n. Basic (at.kind_at K size L n);
    ports = ports;
    number = number;
    many = whole + 1 + whole + total K width;
  }

  -- ---- the lines

  abbrev inner_lines : ℕ → List Wire
  inner_lines k =
      row (Chosen k) (size k) ++ (row (Ask k) (size k) ++ (row (Row k) (size k) ++ (row (Won k) (size k) ++ (row (Back k) (size k)
      ++ (Call k ∷ Give k ∷ Return k ∷ Free k ∷ [])))))

  abbrev lines : List Wire
  lines = ports Env ++ each inner_lines K

  -- the numbers of the pairs of the environment, on either side
  pair_numbers : (f : Pair → ℕ) (b : ℕ) → ((k i : ℕ) → f (asked k i) ≡ b + total k size + i) → ((j : ℕ) → f (lone j) ≡ b + total K size + j)
      → map f (at.env_pairs K size L) ≡ range_with_len b whole
  pair_numbers f b g h =
      map-append f (each (λ k. row (asked k) (size k)) K) (row lone L)
      ∙ ap (λ ns. ns ++ map f (row lone L)) (number_each (λ k. row (asked k) (size k)) f b size K (λ k low. number_row f (asked k) (b + total k size) (size k) (λ i l. g k i)))
      ∙ ap (λ ns. range_with_len b (total K size) ++ ns) (number_row f lone (b + total K size) L (λ j l. h j)) ∙ range_both b (total K size) L

  pub env_numbers : map number (ports Env) ≡ range_with_len 0 (whole + 1 + whole)
  env_numbers =
      let first : map number (firsts (at.env_pairs K size L)) ≡ range_with_len 0 whole =
      map_map number (λ (p : Pair). p.0) (at.env_pairs K size L) ∙ pair_numbers (λ (p : Pair). number p.0) 0 (λ k i. omega arith) (λ j. omega arith) in
      let second : map number (seconds (at.env_pairs K size L)) ≡ range_with_len (whole + 1) whole =
      map_map number (λ (p : Pair). p.1) (at.env_pairs K size L) ∙ pair_numbers (λ (p : Pair). number p.1) (whole + 1) (λ k i. refl) (λ j. refl) in
      let front : map number (ins Env) ≡ range_with_len 0 whole ++ whole ∷ [] = map-append number (firsts (at.env_pairs K size L)) (Token ∷ []) ∙ ap (λ ns. ns ++ whole ∷ []) first in
      let last : (range_with_len 0 whole ++ whole ∷ []) ++ range_with_len (whole + 1) whole ≡ range_with_len 0 (whole + 1 + whole) =
      ap (λ ns. ns ++ range_with_len (whole + 1) whole) (range_on whole 0) ∙ ap (λ n. range_with_len 0 n ++ range_with_len (whole + 1) whole) (let z : whole + 1 + 0 ≡ whole + 1 = omega arith in z)
      ∙ ap (λ b. range_with_len 0 (whole + 1) ++ range_with_len b whole) (let z : whole + 1 ≡ 0 + (whole + 1) = omega arith in z) ∙ range_both 0 (whole + 1) whole in
      map-append number (ins Env) (outs Env) ∙ (λ i. front i ++ second i) ∙ last

  more_row : (v : ℕ → Wire) (b n m : ℕ) (rest : List Wire) → ((i : ℕ) → i < n → number (v i) ≡ b + i) → map number rest ≡ range_with_len (b + n) m
      → map number (row v n ++ rest) ≡ range_with_len b (n + m)
  more_row v b n m rest e f =
      map-append number (row v n) rest ∙ ap (λ ns. ns ++ map number rest) (number_row number v b n e) ∙ ap (λ ns. range_with_len b n ++ ns) f ∙ range_both b n m

  single_numbers : (k : ℕ) → map number (Call k ∷ Give k ∷ Return k ∷ Free k ∷ []) ≡ range_with_len (base k + size k + size k + size k + size k + size k) 4
  single_numbers k =
      let x : ℕ = base k + size k + size k + size k + size k + size k in
      let p : number (Call k) ≡ x = omega arith in
      let q : number (Give k) ≡ x + 1 = omega arith in
      let r : number (Return k) ≡ x + 1 + 1 = omega arith in
      let s : number (Free k) ≡ x + 1 + 1 + 1 = omega arith in
      λ i. p i ∷ q i ∷ r i ∷ s i ∷ []

  inner_numbers : (k : ℕ) → map number (inner_lines k) ≡ range_with_len (base k) (width k)
  inner_numbers k =
      let n : ℕ = size k in
      let b : ℕ = base k in
      let e : n + (n + (n + (n + (n + 4)))) ≡ width k = omega arith in
      more_row (Chosen k) b n (n + (n + (n + (n + 4)))) (row (Ask k) n ++ (row (Row k) n ++ (row (Won k) n ++ (row (Back k) n ++ (Call k ∷ Give k ∷ Return k ∷ Free k ∷ []))))) (λ i l. refl)
      (more_row (Ask k) (b + n) n (n + (n + (n + 4))) (row (Row k) n ++ (row (Won k) n ++ (row (Back k) n ++ (Call k ∷ Give k ∷ Return k ∷ Free k ∷ [])))) (λ i l. omega arith)
      (more_row (Row k) (b + n + n) n (n + (n + 4)) (row (Won k) n ++ (row (Back k) n ++ (Call k ∷ Give k ∷ Return k ∷ Free k ∷ []))) (λ i l. omega arith)
      (more_row (Won k) (b + n + n + n) n (n + 4) (row (Back k) n ++ (Call k ∷ Give k ∷ Return k ∷ Free k ∷ [])) (λ i l. omega arith)
      (more_row (Back k) (b + n + n + n + n) n 4 (Call k ∷ Give k ∷ Return k ∷ Free k ∷ []) (λ i l. omega arith) (single_numbers k)))))
      ∙ ap (range_with_len b) e

  numbers : map number lines ≡ range_with_len 0 (whole + 1 + whole + total K width)
  numbers =
      map-append number (ports Env) (each inner_lines K) ∙ ap (λ ns. ns ++ map number (each inner_lines K)) env_numbers
      ∙ ap (λ ns. range_with_len 0 (whole + 1 + whole) ++ ns) (number_each inner_lines number (whole + 1 + whole) width K (λ k low. inner_numbers k))
      ∙ ap (λ b. range_with_len 0 (whole + 1 + whole) ++ range_with_len b (total K width)) (let z : whole + 1 + whole ≡ 0 + (whole + 1 + whole) = omega arith in z)
      ∙ range_both 0 (whole + 1 + whole) (total K width)

  -- ---- each wire has a line

  outside_line : (w : Wire) → Among w (ports Env) → Among w lines
  outside_line w a = among_left w (ports Env) (each inner_lines K) a

  inside_line : (k : ℕ) (w : Wire) → k < K → Among w (inner_lines k) → Among w lines
  inside_line k w near a = among_right w (ports Env) (each inner_lines K) (each_among inner_lines K k w near a)

  abbrev once : ℕ → List Wire
  once k = Call k ∷ Give k ∷ Return k ∷ Free k ∷ []

  abbrev from_back : ℕ → List Wire
  from_back k = row (Back k) (size k) ++ once k

  abbrev from_won : ℕ → List Wire
  from_won k = row (Won k) (size k) ++ from_back k

  abbrev from_row : ℕ → List Wire
  from_row k = row (Row k) (size k) ++ from_won k

  abbrev from_ask : ℕ → List Wire
  from_ask k = row (Ask k) (size k) ++ from_row k

  by_back : (k : ℕ) (w : Wire) → Among w (from_back k) → Among w (inner_lines k)
  by_back k w a =
      among_right w (row (Chosen k) (size k)) (from_ask k) (among_right w (row (Ask k) (size k)) (from_row k) (among_right w (row (Row k) (size k)) (from_won k)
      (among_right w (row (Won k) (size k)) (from_back k) a)))

  line : (w : Wire) → There w → Among w lines
  line (Request k i) t = outside_line (Request k i) (nodes.port_out K size L (Request k i) t)
  line (Chosen k i) t = inside_line k (Chosen k i) t.0 (among_left (Chosen k i) (row (Chosen k) (size k)) (from_ask k) (row_among (Chosen k) (size k) i t.1))
  line (Ask k i) t = inside_line k (Ask k i) t.0
      (among_right (Ask k i) (row (Chosen k) (size k)) (from_ask k) (among_left (Ask k i) (row (Ask k) (size k)) (from_row k) (row_among (Ask k) (size k) i t.1)))
  line (Row k i) t = inside_line k (Row k i) t.0 (among_right (Row k i) (row (Chosen k) (size k)) (from_ask k)
      (among_right (Row k i) (row (Ask k) (size k)) (from_row k) (among_left (Row k i) (row (Row k) (size k)) (from_won k) (row_among (Row k) (size k) i t.1))))
  line (Won k i) t = inside_line k (Won k i) t.0 (among_right (Won k i) (row (Chosen k) (size k)) (from_ask k) (among_right (Won k i) (row (Ask k) (size k)) (from_row k)
      (among_right (Won k i) (row (Row k) (size k)) (from_won k) (among_left (Won k i) (row (Won k) (size k)) (from_back k) (row_among (Won k) (size k) i t.1)))))
  line (Grant k i) t = outside_line (Grant k i) (nodes.port_in K size L (Grant k i) t)
  line (Back k i) t = inside_line k (Back k i) t.0 (by_back k (Back k i) (among_left (Back k i) (row (Back k) (size k)) (once k) (row_among (Back k) (size k) i t.1)))
  line (Call k) t = inside_line k (Call k) t (by_back k (Call k) (among_right (Call k) (row (Back k) (size k)) (once k) (inl refl)))
  line (Give k) t = inside_line k (Give k) t (by_back k (Give k) (among_right (Give k) (row (Back k) (size k)) (once k) (inr (inl refl))))
  line (Return k) t = inside_line k (Return k) t (by_back k (Return k) (among_right (Return k) (row (Back k) (size k)) (once k) (inr (inr (inl refl)))))
  line (Free k) t = inside_line k (Free k) t (by_back k (Free k) (among_right (Free k) (row (Back k) (size k)) (once k) (inr (inr (inr (inl refl))))))
  line (Lone j) t = outside_line (Lone j) (nodes.port_out K size L (Lone j) t)
  line (Own j) t = outside_line (Own j) (nodes.port_in K size L (Own j) t)
  line Token t = outside_line Token (nodes.port_out K size L Token t)

  lines_all : (P : Wire → Type 0) → ((w : Wire) → There w → P w) → AllByRecursion P lines
  lines_all P h = all_both P (ports Env) (each inner_lines K) (all_by (ports Env) (nodes.ports_there K size L Env tt)) (each_all inner_lines P K (λ k near.
      rowed (Chosen k) (size k) (from_ask k) (λ i l. h (Chosen k i) (near, l)) (rowed (Ask k) (size k) (from_row k) (λ i l. h (Ask k i) (near, l))
      (rowed (Row k) (size k) (from_won k) (λ i l. h (Row k i) (near, l)) (rowed (Won k) (size k) (from_back k) (λ i l. h (Won k i) (near, l))
      (rowed (Back k) (size k) (once k) (λ i l. h (Back k i) (near, l)) (h (Call k) near, (h (Give k) near, (h (Return k) near, (h (Free k) near, tt))))))))))
    where
      all_by : (ws : List Wire) → AllByRecursion There ws → AllByRecursion P ws
      all_by [] all = tt
      all_by (w ∷ ws) all = (h w all.0, all_by ws all.1)

      rowed : (v : ℕ → Wire) (n : ℕ) (rest : List Wire) → ((i : ℕ) → i < n → P (v i)) → AllByRecursion P rest → AllByRecursion P (row v n ++ rest)
      rowed v n rest f all = all_both P (row v n) rest (row_all P v n f) all

  -- ---- no wire is at two ports of a node

  firsts_row : (f : ℕ → Pair) (n : ℕ) → firsts (row f n) ≡ row (λ i. (f i).0) n
  firsts_row f n = map_map (λ (p : Pair). p.0) f (range_with_len 0 n)

  seconds_row : (f : ℕ → Pair) (n : ℕ) → seconds (row f n) ≡ row (λ i. (f i).1) n
  seconds_row f n = map_map (λ (p : Pair). p.1) f (range_with_len 0 n)

  two_kinds : (v u : ℕ → Wire) (n m r s : ℕ) → ((i j : ℕ) → v i ≡ v j → i ≡ j) → ((i j : ℕ) → u i ≡ u j → i ≡ j) → ((i : ℕ) → wire_rank (v i) ≡ r) → ((i : ℕ) → wire_rank (u i) ≡ s) → (r ≡ s → ⊥)
      → Distinct (row v n ++ row u m)
  two_kinds v u n m r s a b x y other =
      distinct_both (row v n) (row u m) (distinct_row v a n) (distinct_row u b m)
      (apart wire_rank r s (row v n) (row u m) other (row_all (λ w. wire_rank w ≡ r) v n (λ i l. x i)) (row_all (λ w. wire_rank w ≡ s) u m (λ i l. y i)))

  -- an input of a SEQ, its token, and an output of it
  abbrev side_of : Wire → ℕ
  side_of (Request k i) = 0
  side_of (Chosen k i) = 2
  side_of (Ask k i) = 0
  side_of (Row k i) = 0
  side_of (Won k i) = 2
  side_of (Grant k i) = 2
  side_of (Back k i) = 0
  side_of (Call k) = 0
  side_of (Give k) = 2
  side_of (Return k) = 1
  side_of (Free k) = 1
  side_of (Lone j) = 0
  side_of (Own j) = 2
  side_of Token = 1

  seq_once : (ps : List Pair) (t : Wire) → Distinct (firsts ps) → Distinct (seconds ps) → AllByRecursion (λ (p : Pair). side_of p.0 ≡ 0) ps → AllByRecursion (λ (p : Pair). side_of p.1 ≡ 2) ps
      → side_of t ≡ 1 → Distinct ((firsts ps ++ t ∷ []) ++ seconds ps)
  seq_once ps t a b f g e =
      let low : AllByRecursion (λ w. side_of w ≡ 0) (firsts ps) = at.firsts_all K size L (λ w. side_of w ≡ 0) ps f in
      let high : AllByRecursion (λ w. side_of w ≡ 2) (seconds ps) = at.seconds_all K size L (λ w. side_of w ≡ 2) ps g in
      let alone : Distinct (t ∷ []) = ((λ k. k), tt) in
      distinct_both (firsts ps ++ t ∷ []) (seconds ps)
      (distinct_both (firsts ps) (t ∷ []) a alone (apart side_of 0 1 (firsts ps) (t ∷ []) (λ z. omega arith) low (e, tt)))
      b
      (λ x i j.
      let second : side_of x ≡ 2 = all_among (λ w. side_of w ≡ 2) (seconds ps) high x j in
      let first : side_of x < 2 = all_among (λ w. side_of w < 2) (firsts ps ++ t ∷ [])
      (all_both (λ w. side_of w < 2) (firsts ps) (t ∷ []) (at.firsts_all K size L (λ w. side_of w < 2) ps (lower ps f)) (omega (arith, e), tt)) x i in
      omega arith)
    where
      lower : (qs : List Pair) → AllByRecursion (λ (p : Pair). side_of p.0 ≡ 0) qs → AllByRecursion (λ (p : Pair). side_of p.0 < 2) qs
      lower [] all = tt
      lower (q ∷ qs) all = (omega (arith, all.0), lower qs all.1)

  outer_firsts : Distinct (firsts (at.outer_pairs K size L))
  outer_firsts =
      let z : firsts (at.outer_pairs K size L) ≡ row Call K ++ row Lone L =
      map-append (λ (p : Pair). p.0) (row called K) (row lone L) ∙ (λ i. firsts_row called K i ++ firsts_row lone L i) in
      subst Distinct (sym z) (two_kinds Call Lone K L 7 11 (λ i j e. cc) (λ i j e. cc) (λ i. refl) (λ i. refl) (λ e. omega arith))

  outer_seconds : Distinct (seconds (at.outer_pairs K size L))
  outer_seconds =
      let z : seconds (at.outer_pairs K size L) ≡ row Give K ++ row Own L =
      map-append (λ (p : Pair). p.1) (row called K) (row lone L) ∙ (λ i. seconds_row called K i ++ seconds_row lone L i) in
      subst Distinct (sym z) (two_kinds Give Own K L 8 12 (λ i j e. cc) (λ i j e. cc) (λ i. refl) (λ i. refl) (λ e. omega arith))

  three : (a x y : Wire) → (wire_rank a ≡ wire_rank x → ⊥) → (wire_rank a ≡ wire_rank y → ⊥) → (wire_rank x ≡ wire_rank y → ⊥) → Distinct (a ∷ x ∷ y ∷ [])
  three a x y p q r = (first, (second, ((λ k. k), tt)))
    where
      first : Among a (x ∷ y ∷ []) → ⊥
      first (inl e) = p (ap wire_rank e)
      first (inr (inl e)) = q (ap wire_rank e)
      first (inr (inr k)) = k

      second : Among x (y ∷ []) → ⊥
      second (inl e) = r (ap wire_rank e)
      second (inr k) = k

  row_one : (v : ℕ → Wire) (n : ℕ) (o : Wire) (r : ℕ) → ((i j : ℕ) → v i ≡ v j → i ≡ j) → ((i : ℕ) → wire_rank (v i) ≡ r) → (r ≡ wire_rank o → ⊥) → Distinct (row v n ++ o ∷ [])
  row_one v n o r one f other =
      distinct_both (row v n) (o ∷ []) (distinct_row v one n) ((λ k. k), tt)
      (apart wire_rank r (wire_rank o) (row v n) (o ∷ []) other (row_all (λ w. wire_rank w ≡ r) v n (λ i l. f i)) (refl, tt))

  ports_once : (n : Node) → Distinct (ports n)
  ports_once Env = distinct_numbers number (ports Env) 0 (whole + 1 + whole) env_numbers
  ports_once Outer = seq_once (at.outer_pairs K size L) Token outer_firsts outer_seconds
      (at.outer_all K size L (λ (p : Pair). side_of p.0 ≡ 0) (λ k near. refl) (λ j low. refl)) (at.outer_all K size L (λ (p : Pair). side_of p.1 ≡ 2) (λ k near. refl) (λ j low. refl)) refl
  ports_once (Inner k) = seq_once (at.inner_pairs K size L k) (Free k)
      (subst Distinct (sym (firsts_row (picked k) (size k))) (distinct_row (Request k) (λ i j e. cc) (size k)))
      (subst Distinct (sym (seconds_row (picked k) (size k))) (distinct_row (Chosen k) (λ i j e. cc) (size k)))
      (at.inner_all K size L (λ (p : Pair). side_of p.0 ≡ 0) k (λ i inside. refl)) (at.inner_all K size L (λ (p : Pair). side_of p.1 ≡ 2) k (λ i inside. refl)) refl
  ports_once (Spread k i) = three (Chosen k i) (Ask k i) (Row k i) (λ e. omega arith) (λ e. omega arith) (λ e. omega arith)
  ports_once (Calls k) = row_one (Ask k) (size k) (Call k) 2 (λ i j e. cc) (λ i. refl) (λ e. omega arith)
  ports_once (Wait k) =
      distinct_both (row (Row k) (size k) ++ Give k ∷ []) (row (Won k) (size k)) (row_one (Row k) (size k) (Give k) 3 (λ i j e. cc) (λ i. refl) (λ e. omega arith))
      (distinct_row (Won k) (λ i j e. cc) (size k))
      (λ x i j.
      let second : wire_rank x ≡ 4 = all_among (λ w. wire_rank w ≡ 4) (row (Won k) (size k)) (row_all (λ w. wire_rank w ≡ 4) (Won k) (size k) (λ q l. refl)) x j in
      let first : wire_rank x ≡ 4 → ⊥ = all_among (λ w. wire_rank w ≡ 4 → ⊥) (row (Row k) (size k) ++ Give k ∷ [])
      (all_both (λ w. wire_rank w ≡ 4 → ⊥) (row (Row k) (size k)) (Give k ∷ []) (row_all (λ w. wire_rank w ≡ 4 → ⊥) (Row k) (size k) (λ q l e. omega arith)) ((λ e. omega arith), tt)) x i in
      first second)
  ports_once (Share k i) = three (Won k i) (Grant k i) (Back k i) (λ e. omega arith) (λ e. omega arith) (λ e. omega arith)
  ports_once (Returns k) = row_one (Back k) (size k) (Return k) 6 (λ i j e. cc) (λ i. refl) (λ e. omega arith)
  ports_once (Gate k) = (first, ((λ k. k), tt))
    where
      first : Among (Return k) (Free k ∷ []) → ⊥
      first (inl e) = cc
      first (inr n) = n

  -- ---- the chart

  abbrev web : webs.Web Node Wire
  web = wires.web K size L

  abbrev Kept : Node → Type 0
  Kept n = Unit {0}

  abbrev blank : Wire
  blank = at.blank K size L

  never : (n : Node) (e : Wire → ℕ) → wires.Rule K size L n e blank → ⊥
  never n e r = let low : K < K = wires.rule_there K size L n e blank r in omega arith

  module _ (wide : (k : ℕ) → k < K → 2 ≤ size k) (two : K + L ≡ 2) (many : 2 ≤ total K size + L) (few : total K size + L + 1 + (total K size + L) < 2 ^ 28) where
    may : (n : Node) → at.Good K size L n → (t : List ℕ) → May (Basic (at.kind_at K size L n)) t ↔ webs.May web n (map (λ p. get_or (ports n) p blank) t)
    may n good t = may_by (at.kind_at K size L n) (ports n) blank (ports_once n)
        (λ a. let low : K < K = all_among There (ports n) (nodes.ports_there K size L n good) blank a in omega arith) (nodes.is_wide K size L wide two many few n good)
        (nodes.ports_long K size L wide two many few n good) (wires.Rule K size L n)
        (λ e w. at.rule_on K size L (λ k near. omega (arith, wide k near)) n e w good) t

    routes : Routes Node Wire web Kept There chart lines (λ w. w) (λ w. w) (λ w. w) blank
    routes = record {
      env = refl;
      nodes = nodes.nodes_once K size L;
      formed = nodes.nodes_all K size L (λ n. IsFormed (Basic (at.kind_at K size L n))) (nodes.formed K size L wide two many few);
      outer = nodes.joined K size L wide two many few receiver driver Env Env tt (nodes.env_ins K size L) (nodes.env_outs K size L);
      inner = nodes.parts_all K size L (λ n. Joined driver receiver n (outs_of (chart.spec n)) (ports n))
          (λ n good other. nodes.joined K size L wide two many few driver receiver n n good (nodes.ins_at K size L n other) (nodes.outs_at K size L n other));
      distinct = nodes.nodes_all K size L (λ n. Distinct (ports n)) (λ n good. ports_once n);
      kept = nodes.nodes_all K size L Kept (λ n good. tt);
      there = nodes.nodes_all K size L (λ n. AllByRecursion There (ports n)) (nodes.ports_there K size L);
      driven = λ w t k. (nodes.node_among K size L (driver w) (nodes.good_driver K size L w t), nodes.port_out K size L w t);
      received = λ w t k. (nodes.node_among K size L (receiver w) (nodes.good_receiver K size L w t), nodes.port_in K size L w t);
      numbers = numbers;
      number_root = λ w t. refl;
      begins = λ w t k. (line w t, refl);
      ends = λ w t k. (line w t, refl);
      firsts = lines_all (λ v. There v × Kept (driver v) × (v ≡ v)) (λ w t. (t, tt, refl));
      lasts = lines_all (λ v. There v × Kept (receiver v) × (v ≡ v)) (λ w t. (t, tt, refl));
      path = lines_all (λ v. Path Node Wire web Kept v v) (λ w t. here w);
      apart = lines_all (λ v. driver v ≡ receiver v → ⊥) (λ w t. clean w);
      real_out = λ w t q. wires.rule_there K size L (driver w) (tally same_wire naught t) w q;
      real_in = λ w t q. wires.rule_there K size L (receiver w) (tally same_wire naught t) w q;
      enters = λ w t. inl tt;
      leaves = λ w t. inl tt;
      never = λ n t q. never n (tally same_wire naught t) q;
      may = nodes.nodes_all K size L (λ n. (t : List ℕ) → May (chart.spec n) t ↔ webs.May web n (map (λ p. get_or (ports n) p blank) t)) may;
    }

    pub right : Implements (charted chart) (Basic (kind.Seq (total K size + L)))
    right = record {
      basic = routes_basic Node Wire web Kept There chart lines (λ w. w) (λ w. w) (λ w. w) blank (wires.lawful K size L) routes
          (nodes.parts_all K size L (λ n. IsTrue (is_kind (chart.spec n))) (λ n good other. refl));
      clean = routes_clean Node Wire web Kept There chart lines (λ w. w) (λ w. w) (λ w. w) blank (wires.lawful K size L) routes;
      correct = routes_correct Node Wire web Kept There chart lines (λ w. w) (λ w. w) (λ w. w) blank (wires.lawful K size L) routes (sound.sound K size L) (exact.exact K size L);
    }
