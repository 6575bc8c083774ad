-- The ports of each node of the layer of a SEQ, and the rule of its kind.
use Rattle.std.proofs.Common.{◌≡◌, ◌↔◌, ℕ, zero, suc, ◌+◌, ◌<◌, List, [], ◌∷◌, ◌++◌, map, length, get_or, ◌⊎◌, inl, inr, refl, sym, ap, subst, ◌∙◌, arith, append_assoc, length-append}
use Rattle.std.specs.List.{AllByRecursion, range_with_len}
use Rattle.std.proofs.lemmas.List.FromFn.{length-map-range_with_len}
use Rattle.cmd_tree.specs.Rounds.{tally, naught, Follows}
use Rattle.cmd_tree.proofs.RoundsRule.{follows_by}
use Rattle.basic_kinds.specs.declared.kind.Kind.{Kind}
use Rattle.basic_kinds.specs.declared.kind.Kind.TheVariants as kind
use Rattle.basic_kinds.specs.Kinds.{inputs_of, outputs_of, IsWide}
use Rattle.basic_kinds.specs.Totals.{total}
use Rattle.basic_kinds.proofs.Totals.{total_same}
use Rattle.net_core.specs.declared.spec.NodeSpec.TheVariants.{Kind as Basic}
use Rattle.net_core.specs.Specs.{May}
use Rattle.net_laws.specs.ForkChain.{each}
use Rattle.net_laws.proofs.Among.{Among, Distinct, all_among, all_map}
use Rattle.net_laws.proofs.Rows.{row, among_row, row_among, row_all, among_left, among_right, all_both}
use Rattle.net_laws.proofs.Blocks.{each_among, each_all, each_long}
use Rattle.net_laws.proofs.KindRules.{KindOn, kind_spec}
use Rattle.seq_tree.specs.SequencerLayer.{column_wait}
use Rattle.seq_tree.proofs.KindLists.{summed, ForkOn, fork_on, IwireOn, iwire_on, MergeOn, merge_on, SeqOn, seq_on, WaitOn, wait_on}
use Rattle.seq_tree.proofs.SequencerWires as wires
use Rattle.seq_tree.proofs.SequencerWires.{Wire, Request, Chosen, Ask, Row, Won, Grant, Back, Call, Give, Return, Free, Lone, Own, Token, Node, Env, Outer, Inner, Spread, Calls, Wait, Share, Returns, Gate, same_wire, wires_decide, driver, receiver}

-- ---- lists

pub summed_append : {A : Type 0} (f : A → ℕ) (xs ys : List A) → summed f (xs ++ ys) ≡ summed f xs + summed f ys
summed_append f [] ys = omega arith
summed_append f (x ∷ xs) ys = omega (arith, summed_append f xs ys)

summed_from : {A : Type 0} (f : A → ℕ) (v : ℕ → A) (n : ℕ) → summed f (row v n) ≡ total n (λ i. f (v i))
unfolding total
summed_from f v zero = refl
summed_from {A = A} f v (suc n) = ap (summed f) more ∙ summed_append f (row v n) (v n ∷ []) ∙ omega (arith, summed_from f v n)
  where
    step : (a m : ℕ) → map v (range_with_len a (suc m)) ≡ map v (range_with_len a m) ++ v (a + m) ∷ []
    step a zero = ap (λ i. v i ∷ []) (let z : a ≡ a + 0 = omega arith in z)
    step a (suc m) = ap (λ xs. v a ∷ xs) (step (a + 1) m ∙ ap (λ i. map v (range_with_len (a + 1) m) ++ v i ∷ []) (let z : a + 1 + m ≡ a + suc m = omega arith in z))

    more : row v (suc n) ≡ row v n ++ v n ∷ []
    more = step 0 n ∙ ap (λ i. row v n ++ v i ∷ []) (let z : 0 + n ≡ n = omega arith in z)

summed_each : {A : Type 0} (f : A → ℕ) (g : ℕ → List A) (k : ℕ) → summed f (each g k) ≡ total k (λ q. summed f (g q))
unfolding total
summed_each f g zero = refl
summed_each f g (suc k) = summed_append f (each g k) (g k) ∙ omega (arith, summed_each f g k)

pub map_among : {A B : Type 0} (f : A → B) (x : A) (xs : List A) → Among x xs → Among (f x) (map f xs)
map_among f x [] a = absurd a
map_among f x (y ∷ xs) (inl e) = inl (ap f e)
map_among f x (y ∷ xs) (inr a) = inr (map_among f x xs a)

both : {A B D : Type 0} → A ↔ B → B ↔ D → A ↔ D
both p q = ((λ a. q.0 (p.0 a)), (λ d. p.1 (q.1 d)))

flip : {A B : Type 0} → A ↔ B → B ↔ A
flip p = (p.1, p.0)

-- ---- pairs of a request and its grant

abbrev pub Pair : Type 0
Pair = Wire × Wire

abbrev pub lone : ℕ → Pair
lone j = (Lone j, Own j)

abbrev pub asked : ℕ → ℕ → Pair
asked k i = (Request k i, Grant k i)

abbrev pub called : ℕ → Pair
called k = (Call k, Give k)

abbrev pub picked : ℕ → ℕ → Pair
picked k i = (Request k i, Chosen k i)

abbrev pub firsts : List Pair → List Wire
firsts ps = map (λ (p : Pair). p.0) ps

abbrev pub seconds : List Pair → List Wire
seconds ps = map (λ (p : Pair). p.1) ps

module _ (K : ℕ) (size : ℕ → ℕ) (L : ℕ) where
  abbrev group : (ℕ → ℕ → Wire) → (Wire → ℕ) → ℕ → ℕ
  group = wires.group K size L

  abbrev There : Wire → Type 0
  There = wires.There K size L

  abbrev Rule : Node → (Wire → ℕ) → Wire → Type 0
  Rule = wires.Rule K size L

  abbrev Fires : (Wire → ℕ) → Wire → Type 0
  Fires = wires.Fires K size L

  abbrev Takes : (Wire → ℕ) → Wire → Type 0
  Takes = wires.Takes K size L

  -- no node allows it
  abbrev pub blank : Wire
  blank = Call K

  abbrev pub lone_pairs : List Pair
  lone_pairs = row lone L

  abbrev pub env_pairs : List Pair
  env_pairs = each (λ k. row (asked k) (size k)) K ++ lone_pairs

  abbrev pub outer_pairs : List Pair
  outer_pairs = row called K ++ lone_pairs

  abbrev pub inner_pairs : ℕ → List Pair
  inner_pairs k = row (picked k) (size k)

  abbrev pub ins : Node → List Wire
  ins Env = firsts env_pairs ++ Token ∷ []
  ins Outer = firsts outer_pairs ++ Token ∷ []
  ins (Inner k) = firsts (inner_pairs k) ++ Free k ∷ []
  ins (Spread k i) = Chosen k i ∷ []
  ins (Calls k) = row (Ask k) (size k)
  ins (Wait k) = row (Row k) (size k) ++ Give k ∷ []
  ins (Share k i) = Won k i ∷ []
  ins (Returns k) = row (Back k) (size k)
  ins (Gate k) = Return k ∷ []

  abbrev pub outs : Node → List Wire
  outs Env = seconds env_pairs
  outs Outer = seconds outer_pairs
  outs (Inner k) = seconds (inner_pairs k)
  outs (Spread k i) = Ask k i ∷ Row k i ∷ []
  outs (Calls k) = Call k ∷ []
  outs (Wait k) = row (Won k) (size k)
  outs (Share k i) = Grant k i ∷ Back k i ∷ []
  outs (Returns k) = Return k ∷ []
  outs (Gate k) = Free k ∷ []

  abbrev pub ports : Node → List Wire
  ports n = ins n ++ outs n

  abbrev pub kind_at : Node → Kind
  kind_at Env = kind.Seq (total K size + L)
  kind_at Outer = kind.Seq (K + L)
  kind_at (Inner k) = kind.Seq (size k)
  kind_at (Spread k i) = kind.Fork 2
  kind_at (Calls k) = kind.Merge (size k)
  kind_at (Wait k) = column_wait (size k)
  kind_at (Share k i) = kind.Fork 2
  kind_at (Returns k) = kind.Merge (size k)
  kind_at (Gate k) = kind.Iwire

  abbrev pub Good : Node → Type 0
  Good Env = Unit {0}
  Good Outer = Unit {0}
  Good (Inner k) = k < K
  Good (Spread k i) = (k < K) × (i < size k)
  Good (Calls k) = k < K
  Good (Wait k) = k < K
  Good (Share k i) = (k < K) × (i < size k)
  Good (Returns k) = k < K
  Good (Gate k) = k < K

  -- ---- members

  pub env_among : (k i : ℕ) → k < K → i < size k → Among (asked k i) env_pairs
  env_among k i near inside =
      among_left (asked k i) (each (λ q. row (asked q) (size q)) K) lone_pairs (each_among (λ q. row (asked q) (size q)) K k (asked k i) near (row_among (asked k) (size k) i inside))

  pub env_lone : (j : ℕ) → j < L → Among (lone j) env_pairs
  env_lone j low = among_right (lone j) (each (λ q. row (asked q) (size q)) K) lone_pairs (row_among lone L j low)

  pub outer_among : (k : ℕ) → k < K → Among (called k) outer_pairs
  outer_among k near = among_left (called k) (row called K) lone_pairs (row_among called K k near)

  pub outer_lone : (j : ℕ) → j < L → Among (lone j) outer_pairs
  outer_lone j low = among_right (lone j) (row called K) lone_pairs (row_among lone L j low)

  pub inner_among : (k i : ℕ) → i < size k → Among (picked k i) (inner_pairs k)
  inner_among k i inside = row_among (picked k) (size k) i inside

  pub env_all : (Q : Pair → Type 0) → ((k i : ℕ) → k < K → i < size k → Q (asked k i)) → ((j : ℕ) → j < L → Q (lone j)) → AllByRecursion Q env_pairs
  env_all Q f g = all_both Q (each (λ k. row (asked k) (size k)) K) lone_pairs
      (each_all (λ k. row (asked k) (size k)) Q K (λ k near. row_all Q (asked k) (size k) (λ i inside. f k i near inside))) (row_all Q lone L g)

  pub outer_all : (Q : Pair → Type 0) → ((k : ℕ) → k < K → Q (called k)) → ((j : ℕ) → j < L → Q (lone j)) → AllByRecursion Q outer_pairs
  outer_all Q f g = all_both Q (row called K) lone_pairs (row_all Q called K f) (row_all Q lone L g)

  pub inner_all : (Q : Pair → Type 0) (k : ℕ) → ((i : ℕ) → i < size k → Q (picked k i)) → AllByRecursion Q (inner_pairs k)
  inner_all Q k f = row_all Q (picked k) (size k) f

  -- what holds of each pair holds of its wires
  pub firsts_all : (P : Wire → Type 0) (ps : List Pair) → AllByRecursion (λ p. P p.0) ps → AllByRecursion P (firsts ps)
  firsts_all P ps all = all_map P (λ (p : Pair). p.0) ps all

  pub seconds_all : (P : Wire → Type 0) (ps : List Pair) → AllByRecursion (λ p. P p.1) ps → AllByRecursion P (seconds ps)
  seconds_all P ps all = all_map P (λ (p : Pair). p.1) ps all

  -- ---- sums

  env_sum : (e : Wire → ℕ) → summed (λ (p : Pair). e p.1) env_pairs ≡ wires.granted K size L e
  env_sum e =
      summed_append (λ (p : Pair). e p.1) (each (λ k. row (asked k) (size k)) K) lone_pairs
      ∙ omega (
        arith,
        summed_each (λ (p : Pair). e p.1) (λ k. row (asked k) (size k)) K,
        total_same K (λ k. summed (λ (p : Pair). e p.1) (row (asked k) (size k))) (group Grant e) (λ k l. summed_from (λ (p : Pair). e p.1) (asked k) (size k)),
        summed_from (λ (p : Pair). e p.1) lone L,
      )

  outer_sum : (e : Wire → ℕ) → summed (λ (p : Pair). e p.1) outer_pairs ≡ wires.given K size L e
  outer_sum e =
      summed_append (λ (p : Pair). e p.1) (row called K) lone_pairs
      ∙ omega (arith, summed_from (λ (p : Pair). e p.1) called K, summed_from (λ (p : Pair). e p.1) lone L)

  inner_sum : (e : Wire → ℕ) (k : ℕ) → summed (λ (p : Pair). e p.1) (inner_pairs k) ≡ group Chosen e k
  inner_sum e k = summed_from (λ (p : Pair). e p.1) (picked k) (size k)

  -- ---- the wires of a node

  abbrev Among2 : (ℕ → ℕ → Wire) → Wire → Type 0
  Among2 v w = (k : ℕ) × (i : ℕ) × (k < K) × (i < size k) × (w ≡ v k i)

  abbrev Among1 : (ℕ → Wire) → ℕ → Wire → Type 0
  Among1 v n w = (i : ℕ) × (i < n) × (w ≡ v i)

  abbrev OutForm : Node → Wire → Type 0
  OutForm Env w = Among2 Request w ⊎ (Among1 Lone L w ⊎ (w ≡ Token))
  OutForm Outer w = Among1 Give K w ⊎ Among1 Own L w
  OutForm (Inner k) w = Among1 (Chosen k) (size k) w
  OutForm (Spread k i) w = (w ≡ Ask k i) ⊎ (w ≡ Row k i)
  OutForm (Calls k) w = w ≡ Call k
  OutForm (Wait k) w = Among1 (Won k) (size k) w
  OutForm (Share k i) w = (w ≡ Grant k i) ⊎ (w ≡ Back k i)
  OutForm (Returns k) w = w ≡ Return k
  OutForm (Gate k) w = w ≡ Free k

  abbrev InForm : Node → Wire → Type 0
  InForm Env w = Among2 Grant w ⊎ Among1 Own L w
  InForm Outer w = Among1 Call K w ⊎ (Among1 Lone L w ⊎ (w ≡ Token))
  InForm (Inner k) w = Among1 (Request k) (size k) w ⊎ (w ≡ Free k)
  InForm (Spread k i) w = w ≡ Chosen k i
  InForm (Calls k) w = Among1 (Ask k) (size k) w
  InForm (Wait k) w = Among1 (Row k) (size k) w ⊎ (w ≡ Give k)
  InForm (Share k i) w = w ≡ Won k i
  InForm (Returns k) w = Among1 (Back k) (size k) w
  InForm (Gate k) w = w ≡ Return k

  out_form : (w : Wire) → There w → OutForm (driver w) w
  out_form (Request k i) t = inl (k, i, t.0, t.1, refl)
  out_form (Chosen k i) t = (i, t.1, refl)
  out_form (Ask k i) t = inl refl
  out_form (Row k i) t = inr refl
  out_form (Won k i) t = (i, t.1, refl)
  out_form (Grant k i) t = inl refl
  out_form (Back k i) t = inr refl
  out_form (Call k) t = refl
  out_form (Give k) t = inl (k, t, refl)
  out_form (Return k) t = refl
  out_form (Free k) t = refl
  out_form (Lone j) t = inr (inl (j, t, refl))
  out_form (Own j) t = inr (j, t, refl)
  out_form Token t = inr (inr refl)

  in_form : (w : Wire) → There w → InForm (receiver w) w
  in_form (Request k i) t = inl (i, t.1, refl)
  in_form (Chosen k i) t = refl
  in_form (Ask k i) t = (i, t.1, refl)
  in_form (Row k i) t = inl (i, t.1, refl)
  in_form (Won k i) t = refl
  in_form (Grant k i) t = inl (k, i, t.0, t.1, refl)
  in_form (Back k i) t = (i, t.1, refl)
  in_form (Call k) t = inl (k, t, refl)
  in_form (Give k) t = inr refl
  in_form (Return k) t = refl
  in_form (Free k) t = inr refl
  in_form (Lone j) t = inr (inl (j, t, refl))
  in_form (Own j) t = inr (j, t, refl)
  in_form Token t = inr (inr refl)

  -- ---- the rule of a node by the lists of its wires

  abbrev ListOn : Node → (Wire → ℕ) → Wire → Type 0
  ListOn Env e w = SeqOn blank e w env_pairs Token
  ListOn Outer e w = SeqOn blank e w outer_pairs Token
  ListOn (Inner k) e w = SeqOn blank e w (inner_pairs k) (Free k)
  ListOn (Spread k i) e w = ForkOn blank e w (Chosen k i) (Ask k i) (Row k i)
  ListOn (Calls k) e w = MergeOn blank e w (row (Ask k) (size k)) (Call k)
  ListOn (Wait k) e w = WaitOn blank e w (size k) (Row k) (Give k) (Won k)
  ListOn (Share k i) e w = ForkOn blank e w (Won k i) (Grant k i) (Back k i)
  ListOn (Returns k) e w = MergeOn blank e w (row (Back k) (size k)) (Return k)
  ListOn (Gate k) e w = IwireOn blank e w (Return k) (Free k)

  sum_row : (v : ℕ → Wire) (n : ℕ) (e : Wire → ℕ) → summed e (row v n) ≡ total n (λ i. e (v i))
  sum_row v n e = summed_from e v n

  -- a wire that is known by its name
  as_out : (n : Node) (e : Wire → ℕ) (w u : Wire) → w ≡ u → driver u ≡ n → There u → Fires e u → Rule n e w
  as_out n e w u z at t f = subst (Rule n e) (sym z) (inl (at, t, f))

  as_in : (n : Node) (e : Wire → ℕ) (w u : Wire) → w ≡ u → receiver u ≡ n → There u → Takes e u → Rule n e w
  as_in n e w u z at t f = subst (Rule n e) (sym z) (inr (at, t, f))

  to_list : (n : Node) (e : Wire → ℕ) (w : Wire) → Rule n e w → ListOn n e w
  to_list n e w (inl (at, t, f)) = out n (subst (λ m. OutForm m w) at (out_form w t))
    where
      out : (n : Node) → OutForm n w → ListOn n e w
      out Env (inl (k, i, near, inside, z)) = inl (asked k i, env_among k i near inside, z, subst (Fires e) z f)
      out Env (inr (inl (j, low, z))) = inl (lone j, env_lone j low, z, subst (Fires e) z f)
      out Env (inr (inr z)) = inr (inl (z, subst (Fires e) z f ∙ sym (env_sum e)))
      out Outer (inl (k, near, z)) = let g = subst (Fires e) z f in inr (inr (called k, outer_among k near, z, g.0, omega (arith, g.1, outer_sum e)))
      out Outer (inr (j, low, z)) = let g = subst (Fires e) z f in inr (inr (lone j, outer_lone j low, z, g.0, omega (arith, g.1, outer_sum e)))
      out (Inner k) (i, inside, z) = let g = subst (Fires e) z f in inr (inr (picked k i, inner_among k i inside, z, g.0, omega (arith, g.1, inner_sum e k)))
      out (Spread k i) (inl z) = inr (inl (z, subst (Fires e) z f))
      out (Spread k i) (inr z) = inr (inr (z, subst (Fires e) z f))
      out (Calls k) z = let g = subst (Fires e) z f in inr (z, omega (arith, g, sum_row (Ask k) (size k) e))
      out (Wait k) (i, inside, z) = let g = subst (Fires e) z f in inr (inr (i, inside, z, g.0, g.1))
      out (Share k i) (inl z) = inr (inl (z, subst (Fires e) z f))
      out (Share k i) (inr z) = inr (inr (z, subst (Fires e) z f))
      out (Returns k) z = let g = subst (Fires e) z f in inr (z, omega (arith, g, sum_row (Back k) (size k) e))
      out (Gate k) z = inl (z, subst (Fires e) z f)
  to_list n e w (inr (at, t, f)) = into n (subst (λ m. InForm m w) at (in_form w t))
    where
      into : (n : Node) → InForm n w → ListOn n e w
      into Env (inl (k, i, near, inside, z)) = let g = subst (Takes e) z f in inr (inr (asked k i, env_among k i near inside, z, g.0, omega (arith, g.1, env_sum e)))
      into Env (inr (j, low, z)) = let g = subst (Takes e) z f in inr (inr (lone j, env_lone j low, z, g.0, omega (arith, g.1, env_sum e)))
      into Outer (inl (k, near, z)) = inl (called k, outer_among k near, z, subst (Takes e) z f)
      into Outer (inr (inl (j, low, z))) = inl (lone j, outer_lone j low, z, subst (Takes e) z f)
      into Outer (inr (inr z)) = inr (inl (z, subst (Takes e) z f ∙ sym (outer_sum e)))
      into (Inner k) (inl (i, inside, z)) = inl (picked k i, inner_among k i inside, z, subst (Takes e) z f)
      into (Inner k) (inr z) = inr (inl (z, subst (Takes e) z f ∙ sym (inner_sum e k)))
      into (Spread k i) z = let g = subst (Takes e) z f in inl (z, g.0, g.1)
      into (Calls k) (i, inside, z) =
          let g = subst (Takes e) z f in inl (subst (λ u. Among u (row (Ask k) (size k))) (sym z) (row_among (Ask k) (size k) i inside), sum_row (Ask k) (size k) e ∙ g)
      into (Wait k) (inl (i, inside, z)) = inl (i, inside, z, subst (Takes e) z f)
      into (Wait k) (inr z) = inr (inl (z, subst (Takes e) z f))
      into (Share k i) z = let g = subst (Takes e) z f in inl (z, g.0, g.1)
      into (Returns k) (i, inside, z) =
          let g = subst (Takes e) z f in inl (subst (λ u. Among u (row (Back k) (size k))) (sym z) (row_among (Back k) (size k) i inside), sum_row (Back k) (size k) e ∙ g)
      into (Gate k) z = inr (z, subst (Takes e) z f)

  -- the wires of a pair
  asks_pair : (n : Node) (e : Wire → ℕ) (w : Wire) (ps : List Pair) → AllByRecursion (λ (p : Pair). e p.0 ≡ e p.1 → Rule n e p.0) ps → (p : Pair) → Among p ps → w ≡ p.0 → e p.0 ≡ e p.1 → Rule n e w
  asks_pair n e w ps all p a z f = subst (Rule n e) (sym z) (all_among (λ (p : Pair). e p.0 ≡ e p.1 → Rule n e p.0) ps all p a f)

  grants_pair : (n : Node) (e : Wire → ℕ) (w : Wire) (ps : List Pair) → AllByRecursion (λ (p : Pair). e p.1 < e p.0 → Rule n e p.1) ps → (p : Pair) → Among p ps → w ≡ p.1 → e p.1 < e p.0 → Rule n e w
  grants_pair n e w ps all p a z f = subst (Rule n e) (sym z) (all_among (λ (p : Pair). e p.1 < e p.0 → Rule n e p.1) ps all p a f)

  from_list : (n : Node) (e : Wire → ℕ) (w : Wire) → Good n → ListOn n e w → Rule n e w
  from_list Env e w good (inl (p, a, z, f)) =
      asks_pair Env e w env_pairs (env_all (λ (p : Pair). e p.0 ≡ e p.1 → Rule Env e p.0) (λ k i near inside g. inl (refl, (near, inside), g)) (λ j low g. inl (refl, low, g))) p a z f
  from_list Env e w good (inr (inl (z, f))) = as_out Env e w Token z refl tt (f ∙ env_sum e)
  from_list Env e w good (inr (inr (p, a, z, f, g))) =
      let h : wires.granted K size L e < e Token = omega (arith, g, env_sum e) in
      grants_pair Env e w env_pairs (env_all (λ (p : Pair). e p.1 < e p.0 → Rule Env e p.1) (λ k i near inside x. inr (refl, (near, inside), (x, h))) (λ j low x. inr (refl, low, (x, h)))) p a z f
  from_list Outer e w good (inl (p, a, z, f)) =
      asks_pair Outer e w outer_pairs (outer_all (λ (p : Pair). e p.0 ≡ e p.1 → Rule Outer e p.0) (λ k near g. inr (refl, near, g)) (λ j low g. inr (refl, low, g))) p a z f
  from_list Outer e w good (inr (inl (z, f))) = as_in Outer e w Token z refl tt (f ∙ outer_sum e)
  from_list Outer e w good (inr (inr (p, a, z, f, g))) =
      let h : wires.given K size L e < e Token = omega (arith, g, outer_sum e) in
      grants_pair Outer e w outer_pairs (outer_all (λ (p : Pair). e p.1 < e p.0 → Rule Outer e p.1) (λ k near x. inl (refl, near, (x, h))) (λ j low x. inl (refl, low, (x, h)))) p a z f
  from_list (Inner k) e w good (inl (p, a, z, f)) =
      asks_pair (Inner k) e w (inner_pairs k) (inner_all (λ (p : Pair). e p.0 ≡ e p.1 → Rule (Inner k) e p.0) k (λ i inside g. inr (refl, (good, inside), g))) p a z f
  from_list (Inner k) e w good (inr (inl (z, f))) = as_in (Inner k) e w (Free k) z refl good (f ∙ inner_sum e k)
  from_list (Inner k) e w good (inr (inr (p, a, z, f, g))) =
      let h : group Chosen e k < e (Free k) = omega (arith, g, inner_sum e k) in
      grants_pair (Inner k) e w (inner_pairs k) (inner_all (λ (p : Pair). e p.1 < e p.0 → Rule (Inner k) e p.1) k (λ i inside x. inl (refl, (good, inside), (x, h)))) p a z f
  from_list (Spread k i) e w good (inl (z, f, g)) = as_in (Spread k i) e w (Chosen k i) z refl good (f, g)
  from_list (Spread k i) e w good (inr (inl (z, f))) = as_out (Spread k i) e w (Ask k i) z refl good f
  from_list (Spread k i) e w good (inr (inr (z, f))) = as_out (Spread k i) e w (Row k i) z refl good f
  from_list (Calls k) e w good (inl (a, f)) =
      let (i, inside, z) = among_row (Ask k) (size k) w a in as_in (Calls k) e w (Ask k i) z refl (good, inside) (sym (sum_row (Ask k) (size k) e) ∙ f)
  from_list (Calls k) e w good (inr (z, f)) = as_out (Calls k) e w (Call k) z refl good (omega (arith, f, sum_row (Ask k) (size k) e))
  from_list (Wait k) e w good (inl (i, inside, z, f)) = as_in (Wait k) e w (Row k i) z refl (good, inside) f
  from_list (Wait k) e w good (inr (inl (z, f))) = as_in (Wait k) e w (Give k) z refl good f
  from_list (Wait k) e w good (inr (inr (i, inside, z, f, g))) = as_out (Wait k) e w (Won k i) z refl (good, inside) (f, g)
  from_list (Share k i) e w good (inl (z, f, g)) = as_in (Share k i) e w (Won k i) z refl good (f, g)
  from_list (Share k i) e w good (inr (inl (z, f))) = as_out (Share k i) e w (Grant k i) z refl good f
  from_list (Share k i) e w good (inr (inr (z, f))) = as_out (Share k i) e w (Back k i) z refl good f
  from_list (Returns k) e w good (inl (a, f)) =
      let (i, inside, z) = among_row (Back k) (size k) w a in as_in (Returns k) e w (Back k i) z refl (good, inside) (sym (sum_row (Back k) (size k) e) ∙ f)
  from_list (Returns k) e w good (inr (z, f)) = as_out (Returns k) e w (Return k) z refl good (omega (arith, f, sum_row (Back k) (size k) e))
  from_list (Gate k) e w good (inl (z, f)) = as_out (Gate k) e w (Free k) z refl good f
  from_list (Gate k) e w good (inr (z, f)) = as_in (Gate k) e w (Return k) z refl good f

  -- ---- the rule of its kind

  row_long : {A : Type 0} (v : ℕ → A) (n : ℕ) → length (row v n) ≡ n
  row_long v n = length-map-range_with_len v 0 n

  pub env_long : length env_pairs ≡ total K size + L
  env_long =
      length-append (each (λ k. row (asked k) (size k)) K) lone_pairs
      ∙ omega (
        arith,
        each_long (λ k. row (asked k) (size k)) K,
        total_same K (λ k. length (row (asked k) (size k))) size (λ k near. row_long (asked k) (size k)),
        row_long lone L,
      )

  pub outer_long : length outer_pairs ≡ K + L
  outer_long = length-append (row called K) lone_pairs ∙ omega (arith, row_long called K, row_long lone L)

  pub inner_long : (k : ℕ) → length (inner_pairs k) ≡ size k
  inner_long k = row_long (picked k) (size k)

  -- the ports of a SEQ, one after the other
  seq_ports : (k : Kind) (ps : List Pair) (t : Wire) (e : Wire → ℕ) (w : Wire) → KindOn k ((firsts ps ++ t ∷ []) ++ seconds ps) blank e w ↔ KindOn k (firsts ps ++ t ∷ seconds ps) blank e w
  seq_ports k ps t e w =
      let z : (firsts ps ++ t ∷ []) ++ seconds ps ≡ firsts ps ++ t ∷ seconds ps = append_assoc (firsts ps) (t ∷ []) (seconds ps) in (
        (λ h. subst (λ ws. KindOn k ws blank e w) z h),
        (λ h. subst (λ ws. KindOn k ws blank e w) (sym z) h),
      )

  wait_any : (n : ℕ) → 0 < n → (v : ℕ → Wire) (c : Wire) (u : ℕ → Wire) (e : Wire → ℕ) (w : Wire)
      → KindOn (column_wait n) ((row v n ++ c ∷ []) ++ row u n) blank e w ↔ WaitOn blank e w n v c u
  wait_any zero some v c u e w = absurd (omega arith)
  wait_any (suc m) some v c u e w =
      let z : (row v (suc m) ++ c ∷ []) ++ row u (suc m) ≡ row v (suc m) ++ c ∷ row u (suc m) = append_assoc (row v (suc m)) (c ∷ []) (row u (suc m)) in
      both ((λ h. subst (λ ws. KindOn (column_wait (suc m)) ws blank e w) z h), (λ h. subst (λ ws. KindOn (column_wait (suc m)) ws blank e w) (sym z) h)) (wait_on blank e w m v c u)

  module _ (some : (k : ℕ) → k < K → 0 < size k) where
    kind_on : (n : Node) (e : Wire → ℕ) (w : Wire) → Good n → KindOn (kind_at n) (ports n) blank e w ↔ ListOn n e w
    kind_on Env e w good = both (seq_ports (kind_at Env) env_pairs Token e w) (seq_on blank e w env_pairs Token (total K size + L) env_long)
    kind_on Outer e w good = both (seq_ports (kind_at Outer) outer_pairs Token e w) (seq_on blank e w outer_pairs Token (K + L) outer_long)
    kind_on (Inner k) e w good = both (seq_ports (kind_at (Inner k)) (inner_pairs k) (Free k) e w) (seq_on blank e w (inner_pairs k) (Free k) (size k) (inner_long k))
    kind_on (Spread k i) e w good = fork_on blank e w (Chosen k i) (Ask k i) (Row k i)
    kind_on (Calls k) e w good = merge_on blank e w (row (Ask k) (size k)) (Call k) (size k) (row_long (Ask k) (size k))
    kind_on (Wait k) e w good = wait_any (size k) (some k good) (Row k) (Give k) (Won k) e w
    kind_on (Share k i) e w good = fork_on blank e w (Won k i) (Grant k i) (Back k i)
    kind_on (Returns k) e w good = merge_on blank e w (row (Back k) (size k)) (Return k) (size k) (row_long (Back k) (size k))
    kind_on (Gate k) e w good = iwire_on blank e w (Return k) (Free k)

    pub rule_on : (n : Node) (e : Wire → ℕ) (w : Wire) → Good n → Rule n e w ↔ KindOn (kind_at n) (ports n) blank e w
    rule_on n e w good = both ((λ r. to_list n e w r), (λ r. from_list n e w good r)) (flip (kind_on n e w good))

-- the traces of a node of a kind, where its rule is that of its wires
pub may_by : (k : Kind) (ws : List Wire) (b : Wire) → Distinct ws → (Among b ws → ⊥) → IsWide k → length ws ≡ inputs_of k + outputs_of k
    → (R : (Wire → ℕ) → Wire → Type 0) → ((e : Wire → ℕ) (w : Wire) → R e w ↔ KindOn k ws b e w) → (t : List ℕ)
    → May (Basic k) t ↔ Follows (λ v w. R (tally same_wire naught v) w) [] (map (λ p. get_or ws p b) t)
may_by k ws b distinct away wide long R on t =
    let s = kind_spec same_wire wires_decide ws distinct b away k wide long t in (
      λ a. follows_by (λ v w. KindOn k ws b (tally same_wire naught v) w) (λ v w. R (tally same_wire naught v) w)
          (λ v w q. (on (tally same_wire naught v) w).1 q) [] (map (λ p. get_or ws p b) t) (s.0 a),
      λ a. s.1 (follows_by (λ v w. R (tally same_wire naught v) w) (λ v w. KindOn k ws b (tally same_wire naught v) w)
          (λ v w q. (on (tally same_wire naught v) w).0 q) [] (map (λ p. get_or ws p b) t) a),
    )
