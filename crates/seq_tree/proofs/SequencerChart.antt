-- The layer of a SEQ from names to numbers, for K groups and L requests that stand alone.
use Rattle.std.proofs.Common.{◌≡◌, ℕ, zero, suc, ◌+◌, ◌<◌, ◌≤◌, ◌^◌, List, [], ◌∷◌, ◌++◌, map, length, inl, inr, refl, sym, subst, ◌∙◌, arith, length-append}
use Rattle.std.specs.List.{AllByRecursion, range_with_len}
use Rattle.std.proofs.lemmas.List.{length-map}
use Rattle.std.proofs.lemmas.List.FromFn.{length-map-range_with_len}
use Rattle.basic_kinds.specs.Kinds.{inputs_of, outputs_of, IsWide}
use Rattle.basic_kinds.specs.Totals.{total}
use Rattle.basic_kinds.proofs.Totals.{total_part}
use Rattle.net_core.specs.declared.spec.NodeSpec.TheVariants.{Kind as Basic}
use Rattle.net_core.specs.Specs.{IsFormed, outs_of}
use Rattle.net_laws.specs.ForkChain.{each}
use Rattle.net_laws.proofs.Among.{Among, Distinct, all_among}
use Rattle.net_laws.proofs.Routes.{Joined}
use Rattle.net_laws.proofs.Rows.{row, row_among, row_all, distinct_row, among_left, among_right, all_both, distinct_both, joined_ins, joined_outs, joined_both}
use Rattle.net_laws.proofs.Blocks.{among_each, each_among, each_all, distinct_each}
use Rattle.seq_tree.specs.SequencerLayer.{column_wait}
use Rattle.seq_tree.proofs.SequencerWires as wires
use Rattle.seq_tree.proofs.SequencerWires.{Wire, Request, Chosen, Ask, Row, Won, Grant, Back, Call, Give, Return, Free, Lone, Own, Token, Node, Env, Outer, Inner, Spread, Calls, Wait, Share, Returns, Gate, same_wire, driver, receiver, clean}
use Rattle.seq_tree.proofs.SequencerPorts as at
use Rattle.seq_tree.proofs.SequencerPorts.{Pair, lone, asked, called, picked, firsts, seconds, map_among, may_by}

-- ---- lists

among_range : (v a n : ℕ) → Among v (range_with_len a n) → a ≤ v
among_range v a zero h = absurd h
among_range v a (suc n) (inl e) = omega (arith, e)
among_range v a (suc n) (inr h) = omega (arith, among_range v (a + 1) n h)

heads : {A : Type 0} (x y : A) (xs ys : List A) → x ∷ xs ≡ y ∷ ys → (x ≡ y) × (xs ≡ ys)
heads x y xs ys e = (cc, cc)

-- what is numbered one after the other stands once
pub distinct_numbers : {A : Type 0} (f : A → ℕ) (xs : List A) (a n : ℕ) → map f xs ≡ range_with_len a n → Distinct xs
distinct_numbers f [] a n e = tt
distinct_numbers f (x ∷ xs) a zero e = absurd (cc)
distinct_numbers f (x ∷ xs) a (suc n) e =
    let (first, rest) = heads (f x) a (map f xs) (range_with_len (a + 1) n) e in (
      (λ h. let low : a + 1 ≤ f x = among_range (f x) (a + 1) n (subst (Among (f x)) rest (map_among f x xs h)) in omega (arith, low, first)),
      distinct_numbers f xs (a + 1) n rest,
    )

-- what comes later ranks higher
rising : {A : Type 0} (rank : A → ℕ) (x : A) (xs : List A) → AllByRecursion (λ y. rank x < rank y) xs → Among x xs → ⊥
rising rank x xs all a = let low : rank x < rank x = all_among (λ y. rank x < rank y) xs all x a in omega (arith, low)

pub apart : {A : Type 0} (rank : A → ℕ) (r s : ℕ) (xs ys : List A) → (r ≡ s → ⊥) → AllByRecursion (λ y. rank y ≡ r) xs → AllByRecursion (λ y. rank y ≡ s) ys
    → (x : A) → Among x xs → Among x ys → ⊥
apart rank r s xs ys other a b x i j = other (sym (all_among (λ y. rank y ≡ r) xs a x i) ∙ all_among (λ y. rank y ≡ s) ys b x j)

abbrev pub wire_rank : Wire → ℕ
wire_rank (Request k i) = 0
wire_rank (Chosen k i) = 1
wire_rank (Ask k i) = 2
wire_rank (Row k i) = 3
wire_rank (Won k i) = 4
wire_rank (Grant k i) = 5
wire_rank (Back k i) = 6
wire_rank (Call k) = 7
wire_rank (Give k) = 8
wire_rank (Return k) = 9
wire_rank (Free k) = 10
wire_rank (Lone j) = 11
wire_rank (Own j) = 12
wire_rank Token = 13

abbrev node_rank : Node → ℕ
node_rank Env = 0
node_rank Outer = 1
node_rank (Inner k) = 2
node_rank (Calls k) = 3
node_rank (Wait k) = 4
node_rank (Returns k) = 5
node_rank (Gate k) = 6
node_rank (Spread k i) = 7
node_rank (Share k i) = 8

-- the group of a node, after the environment and the outer SEQ
abbrev home : Node → ℕ
home Env = 0
home Outer = 1
home (Inner k) = k + 2
home (Calls k) = k + 2
home (Wait k) = k + 2
home (Returns k) = k + 2
home (Gate k) = k + 2
home (Spread k i) = k + 2
home (Share k i) = k + 2

module _ (K : ℕ) (size : ℕ → ℕ) (L : ℕ) where
  abbrev There : Wire → Type 0
  There = wires.There K size L

  abbrev Good : Node → Type 0
  Good = at.Good K size L

  abbrev ins : Node → List Wire
  ins = at.ins K size L

  abbrev outs : Node → List Wire
  outs = at.outs K size L

  abbrev ports : Node → List Wire
  ports = at.ports K size L

  abbrev pub whole : ℕ
  whole = total K size + L

  -- ---- the nodes

  abbrev pub group : ℕ → List Node
  group k = Inner k ∷ Calls k ∷ Wait k ∷ Returns k ∷ Gate k ∷ (row (Spread k) (size k) ++ row (Share k) (size k))

  abbrev pub parts : List Node
  parts = Outer ∷ each group K

  pub parts_all : (Q : Node → Type 0) → ((n : Node) → Good n → (n ≡ Env → ⊥) → Q n) → AllByRecursion Q parts
  parts_all Q h = (
    h Outer tt (λ e. cc),
    each_all group Q K (λ k near. (
      h (Inner k) near (λ e. cc),
      (
        h (Calls k) near (λ e. cc),
        (
          h (Wait k) near (λ e. cc),
          (
            h (Returns k) near (λ e. cc),
            (
              h (Gate k) near (λ e. cc),
              all_both Q (row (Spread k) (size k)) (row (Share k) (size k)) (row_all Q (Spread k) (size k) (λ i inside. h (Spread k i) (near, inside) (λ e. cc)))
                  (row_all Q (Share k) (size k) (λ i inside. h (Share k i) (near, inside) (λ e. cc))),
            ),
          ),
        ),
      ),
    )),
  )

  pub nodes_all : (Q : Node → Type 0) → ((n : Node) → Good n → Q n) → AllByRecursion Q (Env ∷ parts)
  nodes_all Q h = (h Env tt, parts_all Q (λ n good other. h n good))

  in_group : (k : ℕ) (n : Node) → k < K → Among n (group k) → Among n (Env ∷ parts)
  in_group k n near a = inr (inr (each_among group K k n near a))

  pub node_among : (n : Node) → Good n → Among n (Env ∷ parts)
  node_among Env good = inl refl
  node_among Outer good = inr (inl refl)
  node_among (Inner k) good = in_group k (Inner k) good (inl refl)
  node_among (Calls k) good = in_group k (Calls k) good (inr (inl refl))
  node_among (Wait k) good = in_group k (Wait k) good (inr (inr (inl refl)))
  node_among (Returns k) good = in_group k (Returns k) good (inr (inr (inr (inl refl))))
  node_among (Gate k) good = in_group k (Gate k) good (inr (inr (inr (inr (inl refl)))))
  node_among (Spread k i) good = in_group k (Spread k i) good.0
      (inr (inr (inr (inr (inr (among_left (Spread k i) (row (Spread k) (size k)) (row (Share k) (size k)) (row_among (Spread k) (size k) i good.1)))))))
  node_among (Share k i) good = in_group k (Share k i) good.0
      (inr (inr (inr (inr (inr (among_right (Share k i) (row (Spread k) (size k)) (row (Share k) (size k)) (row_among (Share k) (size k) i good.1)))))))

  rows_all : (Q : Node → Type 0) (k : ℕ) → ((i : ℕ) → Q (Spread k i)) → ((i : ℕ) → Q (Share k i)) → AllByRecursion Q (row (Spread k) (size k) ++ row (Share k) (size k))
  rows_all Q k f g = all_both Q (row (Spread k) (size k)) (row (Share k) (size k)) (row_all Q (Spread k) (size k) (λ i l. f i)) (row_all Q (Share k) (size k) (λ i l. g i))

  group_home : (k : ℕ) (n : Node) → Among n (group k) → home n ≡ k + 2
  group_home k n a = all_among (λ m. home m ≡ k + 2) (group k)
      (refl, (refl, (refl, (refl, (refl, rows_all (λ m. home m ≡ k + 2) k (λ i. refl) (λ i. refl)))))) n a

  group_once : (k : ℕ) → Distinct (group k)
  group_once k = (
    rising node_rank (Inner k) (Calls k ∷ Wait k ∷ Returns k ∷ Gate k ∷ (row (Spread k) (size k) ++ row (Share k) (size k)))
        (omega arith, (omega arith, (omega arith, (omega arith, rows_all (λ m. 2 < node_rank m) k (λ i. omega arith) (λ i. omega arith))))),
    (
      rising node_rank (Calls k) (Wait k ∷ Returns k ∷ Gate k ∷ (row (Spread k) (size k) ++ row (Share k) (size k)))
          (omega arith, (omega arith, (omega arith, rows_all (λ m. 3 < node_rank m) k (λ i. omega arith) (λ i. omega arith)))),
      (
        rising node_rank (Wait k) (Returns k ∷ Gate k ∷ (row (Spread k) (size k) ++ row (Share k) (size k)))
            (omega arith, (omega arith, rows_all (λ m. 4 < node_rank m) k (λ i. omega arith) (λ i. omega arith))),
        (
          rising node_rank (Returns k) (Gate k ∷ (row (Spread k) (size k) ++ row (Share k) (size k)))
              (omega arith, rows_all (λ m. 5 < node_rank m) k (λ i. omega arith) (λ i. omega arith)),
          (
            rising node_rank (Gate k) (row (Spread k) (size k) ++ row (Share k) (size k)) (rows_all (λ m. 6 < node_rank m) k (λ i. omega arith) (λ i. omega arith)),
            distinct_both (row (Spread k) (size k)) (row (Share k) (size k)) (distinct_row (Spread k) (λ i j e. cc) (size k)) (distinct_row (Share k) (λ i j e. cc) (size k))
                (apart node_rank 7 8 (row (Spread k) (size k)) (row (Share k) (size k)) (λ e. omega (arith, e))
                (row_all (λ m. node_rank m ≡ 7) (Spread k) (size k) (λ i l. refl)) (row_all (λ m. node_rank m ≡ 8) (Share k) (size k) (λ i l. refl))),
          ),
        ),
      ),
    ),
  )

  not_in : (n : Node) → home n < 2 → Among n (each group K) → ⊥
  not_in n low a = let (k, near, b) = among_each group K n a in omega (arith, low, group_home k n b)

  pub nodes_once : Distinct (Env ∷ parts)
  nodes_once = (
    no_env,
    (
      not_in Outer (omega arith),
      distinct_each group K (λ k near. group_once k) (λ k q n a b. omega (arith, group_home k n a, group_home q n b)),
    ),
  )
    where
      no_env : Among Env parts → ⊥
      no_env (inl e) = cc
      no_env (inr a) = not_in Env (omega arith) a

  pub good_driver : (w : Wire) → There w → Good (driver w)
  good_driver (Request k i) t = tt
  good_driver (Chosen k i) t = t.0
  good_driver (Ask k i) t = t
  good_driver (Row k i) t = t
  good_driver (Won k i) t = t.0
  good_driver (Grant k i) t = t
  good_driver (Back k i) t = t
  good_driver (Call k) t = t
  good_driver (Give k) t = tt
  good_driver (Return k) t = t
  good_driver (Free k) t = t
  good_driver (Lone j) t = tt
  good_driver (Own j) t = tt
  good_driver Token t = tt

  pub good_receiver : (w : Wire) → There w → Good (receiver w)
  good_receiver (Request k i) t = t.0
  good_receiver (Chosen k i) t = t
  good_receiver (Ask k i) t = t.0
  good_receiver (Row k i) t = t.0
  good_receiver (Won k i) t = t
  good_receiver (Grant k i) t = tt
  good_receiver (Back k i) t = t.0
  good_receiver (Call k) t = tt
  good_receiver (Give k) t = t
  good_receiver (Return k) t = t
  good_receiver (Free k) t = t
  good_receiver (Lone j) t = tt
  good_receiver (Own j) t = tt
  good_receiver Token t = tt

  -- ---- the ports

  first_in : (n : Node) (ps : List Pair) (t : Wire) (rest : List Wire) (p : Pair) → Among p ps → Among p.0 ((firsts ps ++ t ∷ []) ++ rest)
  first_in n ps t rest p a = among_left p.0 (firsts ps ++ t ∷ []) rest (among_left p.0 (firsts ps) (t ∷ []) (map_among (λ (q : Pair). q.0) p ps a))

  token_in : (ps : List Pair) (t : Wire) (rest : List Wire) → Among t ((firsts ps ++ t ∷ []) ++ rest)
  token_in ps t rest = among_left t (firsts ps ++ t ∷ []) rest (among_right t (firsts ps) (t ∷ []) (inl refl))

  second_in : (ps : List Pair) (front : List Wire) (p : Pair) → Among p ps → Among p.1 (front ++ seconds ps)
  second_in ps front p a = among_right p.1 front (seconds ps) (map_among (λ (q : Pair). q.1) p ps a)

  pub port_out : (w : Wire) → There w → Among w (ports (driver w))
  port_out (Request k i) t = first_in Env (at.env_pairs K size L) Token (outs Env) (asked k i) (at.env_among K size L k i t.0 t.1)
  port_out (Chosen k i) t = second_in (at.inner_pairs K size L k) (ins (Inner k)) (picked k i) (at.inner_among K size L k i t.1)
  port_out (Ask k i) t = inr (inl refl)
  port_out (Row k i) t = inr (inr (inl refl))
  port_out (Won k i) t = among_right (Won k i) (ins (Wait k)) (outs (Wait k)) (row_among (Won k) (size k) i t.1)
  port_out (Grant k i) t = inr (inl refl)
  port_out (Back k i) t = inr (inr (inl refl))
  port_out (Call k) t = among_right (Call k) (ins (Calls k)) (outs (Calls k)) (inl refl)
  port_out (Give k) t = second_in (at.outer_pairs K size L) (ins Outer) (called k) (at.outer_among K size L k t)
  port_out (Return k) t = among_right (Return k) (ins (Returns k)) (outs (Returns k)) (inl refl)
  port_out (Free k) t = inr (inl refl)
  port_out (Lone j) t = first_in Env (at.env_pairs K size L) Token (outs Env) (lone j) (at.env_lone K size L j t)
  port_out (Own j) t = second_in (at.outer_pairs K size L) (ins Outer) (lone j) (at.outer_lone K size L j t)
  port_out Token t = token_in (at.env_pairs K size L) Token (outs Env)

  pub port_in : (w : Wire) → There w → Among w (ports (receiver w))
  port_in (Request k i) t = first_in (Inner k) (at.inner_pairs K size L k) (Free k) (outs (Inner k)) (picked k i) (at.inner_among K size L k i t.1)
  port_in (Chosen k i) t = inl refl
  port_in (Ask k i) t = among_left (Ask k i) (ins (Calls k)) (outs (Calls k)) (row_among (Ask k) (size k) i t.1)
  port_in (Row k i) t = among_left (Row k i) (ins (Wait k)) (outs (Wait k)) (among_left (Row k i) (row (Row k) (size k)) (Give k ∷ []) (row_among (Row k) (size k) i t.1))
  port_in (Won k i) t = inl refl
  port_in (Grant k i) t = second_in (at.env_pairs K size L) (ins Env) (asked k i) (at.env_among K size L k i t.0 t.1)
  port_in (Back k i) t = among_left (Back k i) (ins (Returns k)) (outs (Returns k)) (row_among (Back k) (size k) i t.1)
  port_in (Call k) t = first_in Outer (at.outer_pairs K size L) Token (outs Outer) (called k) (at.outer_among K size L k t)
  port_in (Give k) t = among_left (Give k) (ins (Wait k)) (outs (Wait k)) (among_right (Give k) (row (Row k) (size k)) (Give k ∷ []) (inl refl))
  port_in (Return k) t = inl refl
  port_in (Free k) t = token_in (at.inner_pairs K size L k) (Free k) (outs (Inner k))
  port_in (Lone j) t = first_in Outer (at.outer_pairs K size L) Token (outs Outer) (lone j) (at.outer_lone K size L j t)
  port_in (Own j) t = second_in (at.env_pairs K size L) (ins Env) (lone j) (at.env_lone K size L j t)
  port_in Token t = token_in (at.outer_pairs K size L) Token (outs Outer)

  -- what holds of the wires that may be at a node holds at each port
  tokened : (P : Wire → Type 0) (ps : List Pair) (t : Wire) → AllByRecursion (λ (p : Pair). P p.0) ps → P t → AllByRecursion P (firsts ps ++ t ∷ [])
  tokened P ps t all h = all_both P (firsts ps) (t ∷ []) (at.firsts_all K size L P ps all) (h, tt)

  ins_there : (n : Node) → Good n → AllByRecursion There (ins n)
  ins_there Env good = tokened There (at.env_pairs K size L) Token (at.env_all K size L (λ (p : Pair). There p.0) (λ k i near inside. (near, inside)) (λ j low. low)) tt
  ins_there Outer good = tokened There (at.outer_pairs K size L) Token (at.outer_all K size L (λ (p : Pair). There p.0) (λ k near. near) (λ j low. low)) tt
  ins_there (Inner k) good = tokened There (at.inner_pairs K size L k) (Free k) (at.inner_all K size L (λ (p : Pair). There p.0) k (λ i inside. (good, inside))) good
  ins_there (Spread k i) good = (good, tt)
  ins_there (Calls k) good = row_all There (Ask k) (size k) (λ i inside. (good, inside))
  ins_there (Wait k) good = all_both There (row (Row k) (size k)) (Give k ∷ []) (row_all There (Row k) (size k) (λ i inside. (good, inside))) (good, tt)
  ins_there (Share k i) good = (good, tt)
  ins_there (Returns k) good = row_all There (Back k) (size k) (λ i inside. (good, inside))
  ins_there (Gate k) good = (good, tt)

  outs_there : (n : Node) → Good n → AllByRecursion There (outs n)
  outs_there Env good = at.seconds_all K size L There (at.env_pairs K size L) (at.env_all K size L (λ (p : Pair). There p.1) (λ k i near inside. (near, inside)) (λ j low. low))
  outs_there Outer good = at.seconds_all K size L There (at.outer_pairs K size L) (at.outer_all K size L (λ (p : Pair). There p.1) (λ k near. near) (λ j low. low))
  outs_there (Inner k) good = at.seconds_all K size L There (at.inner_pairs K size L k) (at.inner_all K size L (λ (p : Pair). There p.1) k (λ i inside. (good, inside)))
  outs_there (Spread k i) good = (good, (good, tt))
  outs_there (Calls k) good = (good, tt)
  outs_there (Wait k) good = row_all There (Won k) (size k) (λ i inside. (good, inside))
  outs_there (Share k i) good = (good, (good, tt))
  outs_there (Returns k) good = (good, tt)
  outs_there (Gate k) good = (good, tt)

  pub ports_there : (n : Node) → Good n → AllByRecursion There (ports n)
  ports_there n good = all_both There (ins n) (outs n) (ins_there n good) (outs_there n good)

  -- the side of each port
  pub ins_at : (n : Node) → (n ≡ Env → ⊥) → AllByRecursion (λ w. receiver w ≡ n) (ins n)
  ins_at Env other = absurd (other refl)
  ins_at Outer other = tokened (λ w. receiver w ≡ Outer) (at.outer_pairs K size L) Token (at.outer_all K size L (λ (p : Pair). receiver p.0 ≡ Outer) (λ k near. refl) (λ j low. refl)) refl
  ins_at (Inner k) other = tokened (λ w. receiver w ≡ Inner k) (at.inner_pairs K size L k) (Free k) (at.inner_all K size L (λ (p : Pair). receiver p.0 ≡ Inner k) k (λ i inside. refl)) refl
  ins_at (Spread k i) other = (refl, tt)
  ins_at (Calls k) other = row_all (λ w. receiver w ≡ Calls k) (Ask k) (size k) (λ i inside. refl)
  ins_at (Wait k) other = all_both (λ w. receiver w ≡ Wait k) (row (Row k) (size k)) (Give k ∷ []) (row_all (λ w. receiver w ≡ Wait k) (Row k) (size k) (λ i inside. refl)) (refl, tt)
  ins_at (Share k i) other = (refl, tt)
  ins_at (Returns k) other = row_all (λ w. receiver w ≡ Returns k) (Back k) (size k) (λ i inside. refl)
  ins_at (Gate k) other = (refl, tt)

  pub outs_at : (n : Node) → (n ≡ Env → ⊥) → AllByRecursion (λ w. driver w ≡ n) (outs n)
  outs_at Env other = absurd (other refl)
  outs_at Outer other = at.seconds_all K size L (λ w. driver w ≡ Outer) (at.outer_pairs K size L) (at.outer_all K size L (λ (p : Pair). driver p.1 ≡ Outer) (λ k near. refl) (λ j low. refl))
  outs_at (Inner k) other = at.seconds_all K size L (λ w. driver w ≡ Inner k) (at.inner_pairs K size L k) (at.inner_all K size L (λ (p : Pair). driver p.1 ≡ Inner k) k (λ i inside. refl))
  outs_at (Spread k i) other = (refl, (refl, tt))
  outs_at (Calls k) other = (refl, tt)
  outs_at (Wait k) other = row_all (λ w. driver w ≡ Wait k) (Won k) (size k) (λ i inside. refl)
  outs_at (Share k i) other = (refl, (refl, tt))
  outs_at (Returns k) other = (refl, tt)
  outs_at (Gate k) other = (refl, tt)

  pub env_ins : AllByRecursion (λ w. driver w ≡ Env) (ins Env)
  env_ins = tokened (λ w. driver w ≡ Env) (at.env_pairs K size L) Token (at.env_all K size L (λ (p : Pair). driver p.0 ≡ Env) (λ k i near inside. refl) (λ j low. refl)) refl

  pub env_outs : AllByRecursion (λ w. receiver w ≡ Env) (outs Env)
  env_outs = at.seconds_all K size L (λ w. receiver w ≡ Env) (at.env_pairs K size L) (at.env_all K size L (λ (p : Pair). receiver p.1 ≡ Env) (λ k i near inside. refl) (λ j low. refl))

  -- ---- how many ports there are

  row_long : {A : Type 0} (v : ℕ → A) (n : ℕ) → length (row v n) ≡ n
  row_long v n = length-map-range_with_len v 0 n

  firsts_long : (ps : List Pair) (t : Wire) (n : ℕ) → length ps ≡ n → length (firsts ps ++ t ∷ []) ≡ n + 1
  firsts_long ps t n e = length-append (firsts ps) (t ∷ []) ∙ omega (arith, length-map {A = Pair} ps (λ (p : Pair). p.0), e)

  seconds_long : (ps : List Pair) (n : ℕ) → length ps ≡ n → length (seconds ps) ≡ n
  seconds_long ps n e = length-map {A = Pair} ps (λ (p : Pair). p.1) ∙ e

  column_ins : (n : ℕ) → 0 < n → inputs_of (column_wait n) ≡ n + 1
  column_ins zero some = absurd (omega arith)
  column_ins (suc n) some = refl

  column_outs : (n : ℕ) → 0 < n → outputs_of (column_wait n) ≡ n
  column_outs zero some = absurd (omega arith)
  column_outs (suc n) some = length-map-range_with_len {X = ℕ × ℕ} (λ (i : ℕ). (i, 0)) 0 (suc n)

  column_wide : (n : ℕ) → 0 < n → IsWide (column_wait n)
  column_wide zero some = absurd (omega arith)
  column_wide (suc n) some = tt

  module _ (wide : (k : ℕ) → k < K → 2 ≤ size k) (two : K + L ≡ 2) (many : 2 ≤ total K size + L) (few : total K size + L + 1 + (total K size + L) < 2 ^ 28) where
    pub some : (k : ℕ) → k < K → 0 < size k
    some k near = omega (arith, wide k near)

    ins_long : (n : Node) → Good n → length (ins n) ≡ inputs_of (at.kind_at K size L n)
    ins_long Env good = firsts_long (at.env_pairs K size L) Token (total K size + L) (at.env_long K size L)
    ins_long Outer good = firsts_long (at.outer_pairs K size L) Token (K + L) (at.outer_long K size L)
    ins_long (Inner k) good = firsts_long (at.inner_pairs K size L k) (Free k) (size k) (at.inner_long K size L k)
    ins_long (Spread k i) good = refl
    ins_long (Calls k) good = row_long (Ask k) (size k)
    ins_long (Wait k) good = length-append (row (Row k) (size k)) (Give k ∷ []) ∙ omega (arith, row_long (Row k) (size k), column_ins (size k) (some k good))
    ins_long (Share k i) good = refl
    ins_long (Returns k) good = row_long (Back k) (size k)
    ins_long (Gate k) good = refl

    outs_long : (n : Node) → Good n → length (outs n) ≡ outputs_of (at.kind_at K size L n)
    outs_long Env good = seconds_long (at.env_pairs K size L) (total K size + L) (at.env_long K size L)
    outs_long Outer good = seconds_long (at.outer_pairs K size L) (K + L) (at.outer_long K size L)
    outs_long (Inner k) good = seconds_long (at.inner_pairs K size L k) (size k) (at.inner_long K size L k)
    outs_long (Spread k i) good = refl
    outs_long (Calls k) good = refl
    outs_long (Wait k) good = row_long (Won k) (size k) ∙ sym (column_outs (size k) (some k good))
    outs_long (Share k i) good = refl
    outs_long (Returns k) good = refl
    outs_long (Gate k) good = refl

    pub ports_long : (n : Node) → Good n → length (ports n) ≡ inputs_of (at.kind_at K size L n) + outputs_of (at.kind_at K size L n)
    ports_long n good = length-append (ins n) (outs n) ∙ omega (arith, ins_long n good, outs_long n good)

    size_few : (k : ℕ) → k < K → size k ≤ total K size
    size_few k near = total_part K size k near

    pub is_wide : (n : Node) → Good n → IsWide (at.kind_at K size L n)
    is_wide Env good = many
    is_wide Outer good = omega (arith, two)
    is_wide (Inner k) good = wide k good
    is_wide (Spread k i) good = omega arith
    is_wide (Calls k) good = wide k good
    is_wide (Wait k) good = column_wide (size k) (some k good)
    is_wide (Share k i) good = omega arith
    is_wide (Returns k) good = wide k good
    is_wide (Gate k) good = tt

    is_few : (n : Node) → Good n → inputs_of (at.kind_at K size L n) + outputs_of (at.kind_at K size L n) < 2 ^ 28
    is_few Env good = few
    is_few Outer good = omega (arith, two)
    is_few (Inner k) good = omega (arith, few, size_few k good)
    is_few (Spread k i) good = omega arith
    is_few (Calls k) good = omega (arith, few, size_few k good)
    is_few (Wait k) good = omega (arith, few, size_few k good, column_ins (size k) (some k good), column_outs (size k) (some k good))
    is_few (Share k i) good = omega arith
    is_few (Returns k) good = omega (arith, few, size_few k good)
    is_few (Gate k) good = omega arith

    pub formed : (n : Node) → Good n → IsFormed (Basic (at.kind_at K size L n))
    formed n good = record { wide = is_wide n good; few = is_few n good }

    pub joined : (f g : Wire → Node) (n m : Node) → Good m → AllByRecursion (λ w. g w ≡ n) (ins m) → AllByRecursion (λ w. f w ≡ n) (outs m)
        → Joined f g n (outs_of (Basic (at.kind_at K size L m))) (ports m)
    joined f g n m good a b =
        joined_both f g n _ _ (ins m) (outs m) (joined_ins f g n (inputs_of (at.kind_at K size L m)) (ins m) (ins_long m good) a)
        (joined_outs f g n (outputs_of (at.kind_at K size L m)) (outs m) (outs_long m good) b)
