-- The components of the chart of one wait, by kind.
use Rattle.std.proofs.Common.{◌≡◌, ℕ, ◌+◌, Bool, true, false, cond, filter, List, [], ◌∷◌, ◌++◌, map, refl, ap, ◌∙◌, arith, if◌then◌else◌}
use Rattle.std.specs.Prelude.{not, ◌&&◌, ◌||◌, drop}
use Rattle.std.specs.List.{range_with_len}
use Rattle.basic_kinds.specs.declared.kind.Kind.TheVariants as kind
use Rattle.net_core.specs.declared.spec.NodeSpec.{NodeSpec}
use Rattle.net_core.specs.Wiring.{Node}
use Rattle.net_laws.specs.Charts.{charted, node_of}
use Rattle.plain_split.specs.SharedPaths.{joined}
use Rattle.plain_split.specs.OneWait.{Name, Join, Calls, Gate, Spread, Shows, Links, many, is_some, is_direct, is_kept, gate_kind, show_kind, spec_at, all_names, parts, one_chart}
use Rattle.plain_split.specs.OneWaitSums.{Sort, Wires, Iwires, Sources, Sinks, Forks, Joins, Merges, Toggles, Waits, Sequencers, is_of, is_component, how_many, how_many_below, one_wait_sum}

pub many_append : {A : Type 0} (p : A → Bool) (xs ys : List A) → how_many p (xs ++ ys) ≡ how_many p xs + how_many p ys
many_append p [] ys = omega arith
many_append p (x ∷ xs) ys = omega (arith, many_append p xs ys)

pub many_map : {A B : Type 0} (p : B → Bool) (f : A → B) (xs : List A) → how_many p (map f xs) ≡ how_many (λ x. p (f x)) xs
many_map p f [] = refl
many_map p f (x ∷ xs) = omega (arith, many_map p f xs)

pub many_filter : {A : Type 0} (p q : A → Bool) (xs : List A) → how_many p (filter q xs) ≡ how_many (λ x. q x && p x) xs
many_filter p q [] = refl
many_filter p q (x ∷ xs) = by (q x) (many_filter p q xs)
  where
    by : (b : Bool) → how_many p (filter q xs) ≡ how_many (λ x. q x && p x) xs → how_many p (cond b (x ∷ filter q xs) (filter q xs)) ≡ (if b && p x then 1 else 0) + how_many (λ x. q x && p x) xs
    by true e = omega (arith, e)
    by false e = omega (arith, e)

pub many_same : {A : Type 0} (p q : A → Bool) (xs : List A) → ((x : A) → p x ≡ q x) → how_many p xs ≡ how_many q xs
many_same p q [] h = refl
many_same p q (x ∷ xs) h = omega (arith, ap (λ b. bit b) (h x), many_same p q xs h)
  where
    bit : Bool → ℕ
    bit b = if b then 1 else 0

pub many_none : {A : Type 0} (p : A → Bool) (xs : List A) → ((x : A) → p x ≡ false) → how_many p xs ≡ 0
many_none p [] h = refl
many_none p (x ∷ xs) h = omega (arith, ap (λ b. bit b) (h x), many_none p xs h)
  where
    bit : Bool → ℕ
    bit b = if b then 1 else 0

many_acts : (p : Name → Bool) (ns : List ℕ) → how_many p (joined (λ n. Calls n ∷ Gate n ∷ Spread n ∷ []) ns) ≡ how_many (λ n. p (Calls n)) ns + (how_many (λ n. p (Gate n)) ns + how_many (λ n. p (Spread n)) ns)
many_acts p [] = refl
many_acts p (n ∷ ns) = omega (arith, many_append p (Calls n ∷ Gate n ∷ Spread n ∷ []) (joined (λ n. Calls n ∷ Gate n ∷ Spread n ∷ []) ns), many_acts p ns)

pub and_true : (a : Bool) → (a && true) ≡ a
and_true true = refl
and_true false = refl

pub and_false : (a : Bool) → (a && false) ≡ false
and_false true = refl
and_false false = refl

module _ (s : NodeSpec) (g : Links) where
  abbrev test : Sort → Name → Bool
  test k x = is_kept g x && is_component k (spec_at s g x)

  -- group by group
  groups : (k : Sort) → how_many (λ (x : Node). is_component k x.spec) (drop 1 (charted (one_chart s g)).nodes)
      ≡ how_many_below g.bursts (λ b. test k (Join b)) + (how_many_below g.acts (λ n. test k (Calls n)) + (how_many_below g.acts (λ n. test k (Gate n)) + how_many_below g.acts (λ n. test k (Spread n))) + how_many_below g.names (λ a. test k (Shows a)))
  groups k =
      many_map (λ (x : Node). is_component k x.spec) (node_of (one_chart s g)) (parts g)
      ∙ many_filter (λ x. is_component k (spec_at s g x)) (is_kept g) (all_names g)
      ∙ omega (
        arith,
        many_append (test k) (map Join (range_with_len 0 g.bursts)) (joined (λ n. Calls n ∷ Gate n ∷ Spread n ∷ []) (range_with_len 0 g.acts) ++ map Shows (range_with_len 0 g.names)),
        many_append (test k) (joined (λ n. Calls n ∷ Gate n ∷ Spread n ∷ []) (range_with_len 0 g.acts)) (map Shows (range_with_len 0 g.names)),
        many_map (test k) Join (range_with_len 0 g.bursts),
        many_map (test k) Shows (range_with_len 0 g.names),
        many_acts (test k) (range_with_len 0 g.acts),
      )

  -- the kinds of a gate and of what shows a symbol
  gate_iwire : (bs : List ℕ) → is_of Iwires (gate_kind bs) ≡ is_some bs
  gate_iwire [] = refl
  gate_iwire (b ∷ bs) = refl

  gate_source : (bs : List ℕ) → is_of Sources (gate_kind bs) ≡ not (is_some bs)
  gate_source [] = refl
  gate_source (b ∷ bs) = refl

  show_merge : (ns : List ℕ) → ((many ns || is_direct g ns) && is_of Merges (show_kind ns)) ≡ many ns
  show_merge [] = refl
  show_merge (n ∷ []) = and_false (is_direct g (n ∷ []))
  show_merge (n ∷ m ∷ ns) = refl

  show_wire : (ns : List ℕ) → ((many ns || is_direct g ns) && is_of Wires (show_kind ns)) ≡ is_direct g ns
  show_wire [] = refl
  show_wire (n ∷ []) = and_true (is_direct g (n ∷ []))
  show_wire (n ∷ m ∷ ns) = refl

  -- no gate and nothing that shows a symbol is of the sort
  abbrev Other : Sort → Type 0
  Other k = ((bs : List ℕ) → is_of k (gate_kind bs) ≡ false)

  abbrev OtherShow : Sort → Type 0
  OtherShow k = ((ns : List ℕ) → is_of k (show_kind ns) ≡ false)

  none : (k : ℕ) (p q : ℕ → Bool) → ((n : ℕ) → q n ≡ false) → how_many_below k (λ n. p n && q n) ≡ 0
  none k p q h = many_none (λ n. p n && q n) (range_with_len 0 k) (λ n. ap (λ b. p n && b) (h n) ∙ and_false (p n))

  all : (k : ℕ) (p : ℕ → Bool) → how_many_below k (λ n. p n && true) ≡ how_many_below k p
  all k p = many_same (λ n. p n && true) p (range_with_len 0 k) (λ n. and_true (p n))

  abbrev shown : ℕ → Bool
  shown a = many (g.givers a) || is_direct g (g.givers a)

  gates : (k : Sort) → Other k → how_many_below g.acts (λ n. test k (Gate n)) ≡ 0
  gates k h = none g.acts g.begins (λ n. is_of k (gate_kind (g.entries n))) (λ n. h (g.entries n))

  shows : (k : Sort) → OtherShow k → how_many_below g.names (λ a. test k (Shows a)) ≡ 0
  shows k h = none g.names shown (λ a. is_of k (show_kind (g.givers a))) (λ a. h (g.givers a))

  gate_other : (k : Sort) → ((b : ℕ) (bs : List ℕ) → is_of k kind.Iwire ≡ false) → is_of k kind.Source ≡ false → Other k
  gate_other k h z [] = z
  gate_other k h z (b ∷ bs) = h b bs

  show_other : (k : Sort) → is_of k kind.Wire ≡ false → ((n m : ℕ) (ns : List ℕ) → is_of k (show_kind (n ∷ m ∷ ns)) ≡ false) → OtherShow k
  show_other k z h [] = z
  show_other k z h (n ∷ []) = z
  show_other k z h (n ∷ m ∷ ns) = h n m ns

  nothing : (k : Sort) → ((b : ℕ) → is_component k (spec_at s g (Join b)) ≡ false) → ((n : ℕ) → is_component k (spec_at s g (Calls n)) ≡ false) → Other k
      → ((n : ℕ) → is_component k (spec_at s g (Spread n)) ≡ false) → OtherShow k → how_many (λ (x : Node). is_component k x.spec) (drop 1 (charted (one_chart s g)).nodes) ≡ 0
  nothing k a b c d e = groups k ∙ omega (
    arith,
    none g.bursts (λ b. many (g.symbols b)) (λ b. is_component k (spec_at s g (Join b))) a,
    none g.acts (λ n. many (g.entries n)) (λ n. is_component k (spec_at s g (Calls n))) b,
    gates k c,
    none g.acts (λ n. many (g.outs n)) (λ n. is_component k (spec_at s g (Spread n))) d,
    shows k e,
  )

  pub one_wait_kinds : (k : Sort) → how_many (λ (x : Node). is_component k x.spec) (drop 1 (charted (one_chart s g)).nodes) ≡ one_wait_sum g k
  one_wait_kinds Wires = groups Wires ∙ omega (
    arith,
    none g.bursts (λ b. many (g.symbols b)) (λ b. false) (λ b. refl),
    none g.acts (λ n. many (g.entries n)) (λ n. false) (λ n. refl),
    gates Wires (gate_other Wires (λ b bs. refl) refl),
    none g.acts (λ n. many (g.outs n)) (λ n. false) (λ n. refl),
    many_same (λ a. test Wires (Shows a)) (λ a. is_direct g (g.givers a)) (range_with_len 0 g.names) (λ a. show_wire (g.givers a)),
  )
  one_wait_kinds Iwires = groups Iwires ∙ omega (
    arith,
    none g.bursts (λ b. many (g.symbols b)) (λ b. false) (λ b. refl),
    none g.acts (λ n. many (g.entries n)) (λ n. false) (λ n. refl),
    none g.acts (λ n. many (g.outs n)) (λ n. false) (λ n. refl),
    shows Iwires (show_other Iwires refl (λ n m ns. refl)),
    many_same (λ n. test Iwires (Gate n)) (λ n. g.begins n && is_some (g.entries n)) (range_with_len 0 g.acts) (λ n. ap (λ b. g.begins n && b) (gate_iwire (g.entries n))),
  )
  one_wait_kinds Sources = groups Sources ∙ omega (
    arith,
    none g.bursts (λ b. many (g.symbols b)) (λ b. false) (λ b. refl),
    none g.acts (λ n. many (g.entries n)) (λ n. false) (λ n. refl),
    none g.acts (λ n. many (g.outs n)) (λ n. false) (λ n. refl),
    shows Sources (show_other Sources refl (λ n m ns. refl)),
    many_same (λ n. test Sources (Gate n)) (λ n. g.begins n && not (is_some (g.entries n))) (range_with_len 0 g.acts) (λ n. ap (λ b. g.begins n && b) (gate_source (g.entries n))),
  )
  one_wait_kinds Sinks = nothing Sinks (λ b. refl) (λ n. refl) (gate_other Sinks (λ b bs. refl) refl) (λ n. refl) (show_other Sinks refl (λ n m ns. refl))
  one_wait_kinds Forks = groups Forks ∙ omega (
    arith,
    none g.bursts (λ b. many (g.symbols b)) (λ b. false) (λ b. refl),
    none g.acts (λ n. many (g.entries n)) (λ n. false) (λ n. refl),
    gates Forks (gate_other Forks (λ b bs. refl) refl),
    all g.acts (λ n. many (g.outs n)),
    shows Forks (show_other Forks refl (λ n m ns. refl)),
  )
  one_wait_kinds Joins = groups Joins ∙ omega (
    arith,
    all g.bursts (λ b. many (g.symbols b)),
    none g.acts (λ n. many (g.entries n)) (λ n. false) (λ n. refl),
    gates Joins (gate_other Joins (λ b bs. refl) refl),
    none g.acts (λ n. many (g.outs n)) (λ n. false) (λ n. refl),
    shows Joins (show_other Joins refl (λ n m ns. refl)),
  )
  one_wait_kinds Merges = groups Merges ∙ omega (
    arith,
    none g.bursts (λ b. many (g.symbols b)) (λ b. false) (λ b. refl),
    all g.acts (λ n. many (g.entries n)),
    gates Merges (gate_other Merges (λ b bs. refl) refl),
    none g.acts (λ n. many (g.outs n)) (λ n. false) (λ n. refl),
    many_same (λ a. test Merges (Shows a)) (λ a. many (g.givers a)) (range_with_len 0 g.names) (λ a. show_merge (g.givers a)),
  )
  one_wait_kinds Toggles = nothing Toggles (λ b. refl) (λ n. refl) (gate_other Toggles (λ b bs. refl) refl) (λ n. refl) (show_other Toggles refl (λ n m ns. refl))
  one_wait_kinds Waits = nothing Waits (λ b. refl) (λ n. refl) (gate_other Waits (λ b bs. refl) refl) (λ n. refl) (show_other Waits refl (λ n m ns. refl))
  one_wait_kinds Sequencers = nothing Sequencers (λ b. refl) (λ n. refl) (gate_other Sequencers (λ b bs. refl) refl) (λ n. refl) (show_other Sequencers refl (λ n m ns. refl))
