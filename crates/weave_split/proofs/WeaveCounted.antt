-- The network of a weave consists of kinds and of its processes, and so many of each sort are counted of both as the sums
-- of the command say.
use Rattle.std.proofs.Common.{◌≡◌, inl, inr, ℕ, suc, ◌+◌, ◌<◌, ◌≤◌, Bool, true, false, true≢false, not, cond, filter, List, [], ◌∷◌, ◌++◌, length, map, IsTrue, refl, sym, ap, ◌∙◌, subst, arith, if◌then◌else◌}
use Rattle.std.specs.Prelude.{drop}
use Rattle.std.specs.List.{AllByRecursion, range_with_len, sum_by}
use Rattle.std.proofs.lemmas.Bool.{cases_Bool}
use Rattle.std.proofs.lemmas.List.{length-map}
use Rattle.std.proofs.lemmas.List.Sums.{sum_by-cons}
use Rattle.cmd_tree.specs.declared.tree.Proc.{Proc}
use Rattle.cmd_tree.specs.declared.command.Command.{Command}
use Rattle.basic_kinds.specs.Sorts.{Sort, Merges, how_many, is_of}
use Rattle.basic_kinds.specs.Sums.{wide_sum, total_of}
use Rattle.di_grammar.specs.Admitted.{Admitted}
use Rattle.di_grammar.specs.Grants.{IsGrant}
use Rattle.di_grammar.specs.Sums.{grants}
use Rattle.di_grammar.specs.Sums as sums
use Rattle.di_grammar.proofs.SumGrants.{grants_are}
use Rattle.place_graph.specs.Graph.{graph_of}
use Rattle.place_graph.specs.Sums.{counted, processes, command_sum}
use Rattle.net_core.specs.declared.spec.NodeSpec.{NodeSpec}
use Rattle.net_core.specs.declared.spec.NodeSpec.TheVariants.{Kind, Cmd}
use Rattle.net_core.specs.Specs.{is_kind}
use Rattle.net_core.specs.Wiring.{Node}
use Rattle.net_core.specs.Renumbering.{sum_of_parts}
use Rattle.net_laws.proofs.Among.{Among, all_map}
use Rattle.net_laws.proofs.Rows.{all_both}
use Rattle.plain_split.specs.OneWaitSums.{is_component}
use Rattle.plain_split.proofs.SharedLists.{all_by_among, filter_among}
use Rattle.plain_split.proofs.SharedSums.{total_append}
use Rattle.plain_split.proofs.OneWaitWires.{in_range, filter_long, range_long}
use Rattle.cmd_alone.specs.Alone.{IsAlone}
use Rattle.cmd_alone.proofs.Back.{numbered_alone}
use Rattle.cmd_alone.proofs.Admission.{admitted_alone, no_grant}
use Rattle.cmd_alone.proofs.Counting.{none_counted, counted_as}
use Rattle.weave_split.specs.WeaveChart.{Ties, grants_at, woven}
use Rattle.weave_split.specs.WeaveNet.{AreAlone, ties_of, weave_circuit}
use Rattle.weave_split.specs.WeaveParts.{IsProcess, IsKindOrProcess, AreParts, part_sum}
use Rattle.weave_split.proofs.WeaveTied.{proc_at, grants_of}
use Rattle.weave_split.proofs.WeaveLaw.{place_get, other}
use Rattle.weave_split.proofs.WeaveCharted.{not_true}
use Rattle.weave_split.proofs.WeaveParts.{leading_specs, weave_parts, leading_kinds}
use Rattle.weave_split.proofs.WeaveKinds.{weave_kinds}

-- ---- sums over specifications

abbrev over : {A : Type 0} → (A → ℕ) → List A → ℕ
over f [] = 0
over f (x ∷ xs) = f x + over f xs

over_both : {A : Type 0} (f : A → ℕ) (xs ys : List A) → over f (xs ++ ys) ≡ over f xs + over f ys
over_both f [] ys = omega arith
over_both f (x ∷ xs) ys = omega (arith, over_both f xs ys)

over_map : {A B : Type 0} (f : B → ℕ) (h : A → B) (xs : List A) → over f (map h xs) ≡ over (λ x. f (h x)) xs
over_map f h [] = refl
over_map f h (x ∷ xs) = ap (λ n. f (h x) + n) (over_map f h xs)

-- what is counted of a process, and nothing of a kind
abbrev of_process : Sort → NodeSpec → ℕ
of_process k (Kind x) = 0
of_process k (Cmd d) = total_of wide_sum (processes d.procs (length d.names)) k

both_parts : (k : Sort) (s : NodeSpec) → part_sum k s ≡ (if is_component k s then 1 else 0) + of_process k s
both_parts k (Kind x) = let z : (if is_of k x then 1 else 0) ≡ (if is_of k x then 1 else 0) + 0 = omega arith in z
both_parts k (Cmd d) = let z : total_of wide_sum (processes d.procs (length d.names)) k ≡ 0 + total_of wide_sum (processes d.procs (length d.names)) k = omega arith in z

split_sum : (k : Sort) (xs : List Node) → sum_by (λ (x : Node). part_sum k x.spec) xs ≡ how_many (λ (x : Node). is_component k x.spec) xs + over (of_process k) (map (λ (x : Node). x.spec) xs)
split_sum k [] = refl
split_sum k (x ∷ xs) = sum_by-cons (λ (x : Node). part_sum k x.spec) x xs ∙ omega (arith, both_parts k x.spec, split_sum k xs)

none_of_kinds : (k : Sort) (ss : List NodeSpec) → AllByRecursion (λ s. IsTrue (is_kind s)) ss → over (of_process k) ss ≡ 0
none_of_kinds k [] h = refl
none_of_kinds k (Kind x ∷ ss) h = omega (arith, none_of_kinds k ss h.1)
none_of_kinds k (Cmd d ∷ ss) h = absurd (true≢false (sym h.0))

many_specs : (test : NodeSpec → Bool) (xs : List Node) → how_many (λ (x : Node). test x.spec) xs ≡ how_many test (map (λ (x : Node). x.spec) xs)
many_specs test [] = refl
many_specs test (x ∷ xs) = ap (λ n. (if test x.spec then 1 else 0) + n) (many_specs test xs)

processes_only : (xs ss : List NodeSpec) → AllByRecursion (λ s. IsTrue (is_kind s)) ss → how_many (λ s. not (is_kind s)) (xs ++ ss) ≤ length xs
processes_only [] [] h = omega arith
processes_only [] (Kind x ∷ ss) h = omega (arith, processes_only [] ss h.1)
processes_only [] (Cmd d ∷ ss) h = absurd (true≢false (sym h.0))
processes_only (x ∷ xs) ss h = by (not (is_kind x)) (processes_only xs ss h)
  where
    by : (b : Bool) → how_many (λ s. not (is_kind s)) (xs ++ ss) ≤ length xs → (if b then 1 else 0) + how_many (λ s. not (is_kind s)) (xs ++ ss) ≤ suc (length xs)
    by true l = omega (arith, l)
    by false l = omega (arith, l)

of_specs : (P : NodeSpec → Type 0) (xs : List Node) → AllByRecursion P (map (λ (x : Node). x.spec) xs) → AllByRecursion (λ x. P x.spec) xs
of_specs P [] h = tt
of_specs P (x ∷ xs) h = (h.0, of_specs P xs h.1)

kinds_are : (ss : List NodeSpec) → AllByRecursion (λ s. IsTrue (is_kind s)) ss → AllByRecursion IsKindOrProcess ss
kinds_are [] h = tt
kinds_are (Kind x ∷ ss) h = (tt, kinds_are ss h.1)
kinds_are (Cmd d ∷ ss) h = absurd (true≢false (sym h.0))

-- ---- the processes by place

module _ (names : ℕ) (k : Sort) where
  abbrev of_proc : Proc → ℕ
  of_proc p = total_of wide_sum (counted (graph_of p) names) k

  -- F counts at each place that passes, which are those of the processes that are no grants
  places_sum : (qs : List Proc) (j : ℕ) (test : ℕ → Bool) (F : ℕ → ℕ) → ((i : ℕ) → i < length qs → test (j + i) ≡ not (grants (proc_at qs i)))
      → ((i : ℕ) → i < length qs → grants (proc_at qs i) ≡ false → F (j + i) ≡ of_proc (proc_at qs i))
      → over F (filter test (range_with_len j (length qs))) ≡ total_of wide_sum (processes qs names) k
  places_sum [] j test F t f = refl
  places_sum (q ∷ qs) j test F t f = by (grants q) refl (test j) (ap test (let z : j ≡ j + 0 = omega arith in z) ∙ t 0 (omega arith))
      (places_sum qs (j + 1) test F
      (λ i l. ap test (let z : j + 1 + i ≡ j + suc i = omega arith in z) ∙ t (suc i) (omega (arith, l)))
      (λ i l e. ap F (let z : j + 1 + i ≡ j + suc i = omega arith in z) ∙ f (suc i) (omega (arith, l)) e))
    where
      rest : List ℕ
      rest = filter test (range_with_len (j + 1) (length qs))

      by : (b : Bool) → grants q ≡ b → (x : Bool) → x ≡ not (grants q)
          → over F (filter test (range_with_len (j + 1) (length qs))) ≡ total_of wide_sum (processes qs names) k
          → over F (cond x (j ∷ filter test (range_with_len (j + 1) (length qs))) (filter test (range_with_len (j + 1) (length qs))))
          ≡ total_of wide_sum ((if grants q then [] else counted (graph_of q) names) ++ processes qs names) k
      by true e true i h = absurd (true≢false (i ∙ ap not e))
      by true e false i h = h ∙ ap (λ b. total_of wide_sum ((if b then [] else counted (graph_of q) names) ++ processes qs names) k) (sym e)
      by false e true i h =
          omega (arith, ap F (let z : j ≡ j + 0 = omega arith in z), f 0 (omega arith) e, h, total_append wide_sum (counted (graph_of q) names) (processes qs names) k)
          ∙ ap (λ b. total_of wide_sum ((if b then [] else counted (graph_of q) names) ++ processes qs names) k) (sym e)
      by false e false i h = absurd (true≢false (sym (i ∙ ap not e)))

over_same : (F G : ℕ → ℕ) (xs : List ℕ) → ((x : ℕ) → Among x xs → F x ≡ G x) → over F xs ≡ over G xs
over_same F G [] h = refl
over_same F G (x ∷ xs) h = omega (arith, h x (inl refl), over_same F G xs (λ y a. h y (inr a)))

-- ---- the network

module _ (c : Command) (admitted : Admitted c.procs) (alone : ℕ → NodeSpec) (are : AreAlone c alone) where
  abbrev g : Ties
  g = ties_of c

  abbrev nodes : List Node
  nodes = drop 1 (weave_circuit c alone).nodes

  woven_at : (p : ℕ) → Among p (woven g) → (p < length c.procs) × (grants_at c.procs p ≡ false)
  woven_at p a =
      let (i, e) = filter_among (λ p. not (g.grants p)) (range_with_len 0 g.processes) p a in
      (in_range g.processes p i, not_true (grants_at c.procs p) e)

  process_at : (p : ℕ) → p < length c.procs → grants_at c.procs p ≡ false → (d : Command) → IsAlone c p d → IsProcess d
  process_at p low e d a = record {
    process = numbered_alone a.process;
    alone = a.procs;
    admitted = subst Admitted (sym a.procs) (admitted_alone c.procs p a.process a.place admitted
        (λ i. other c admitted alone are p low e (subst IsGrant (sym (place_get c.procs p a.process a.place)) i)));
  }

  woven_is : (p : ℕ) → Among p (woven g) → IsKindOrProcess (alone p)
  woven_is p i =
      let (low, e) = woven_at p i in
      let (d, a, is) = are.each p low e in
      subst IsKindOrProcess (sym is) (process_at p low e d a)

  pub circuit_parts : AreParts nodes
  circuit_parts = record {
    each = of_specs IsKindOrProcess nodes (subst (AllByRecursion IsKindOrProcess) (sym (weave_parts (Cmd c) alone g))
        (all_both IsKindOrProcess (map alone (woven g)) (leading_specs (Cmd c) alone g)
        (all_map IsKindOrProcess alone (woven g) (all_by_among (λ p. IsKindOrProcess (alone p)) (woven g) woven_is))
        (kinds_are (leading_specs (Cmd c) alone g) (leading_kinds (Cmd c) alone g))));
    few = omega (
      arith,
      many_specs (λ s. not (is_kind s)) nodes,
      ap (λ ss. how_many (λ s. not (is_kind s)) ss) (weave_parts (Cmd c) alone g),
      processes_only (map alone (woven g)) (leading_specs (Cmd c) alone g) (leading_kinds (Cmd c) alone g),
      length-map (woven g) alone,
      filter_long (λ p. not (g.grants p)) (range_with_len 0 g.processes),
      range_long 0 g.processes,
      c.valid.few_procs,
    );
  }

  -- no process by itself is a kind
  no_kind : (p : ℕ) → p < length c.procs → grants_at c.procs p ≡ false → is_kind (alone p) ≡ false
  no_kind p low e = let (d, a, is) = are.each p low e in ap is_kind is

  module _ (k : Sort) where
    alone_sum : (p : ℕ) → p < length c.procs → grants_at c.procs p ≡ false → of_process k (alone p) ≡ total_of wide_sum (counted (graph_of (proc_at c.procs p)) (length c.names)) k
    alone_sum p low e = let (d, a, is) = are.each p low e in ap (of_process k) is ∙ by d a
      where
        by : (d : Command) (a : IsAlone c p d) → total_of wide_sum (processes d.procs (length d.names)) k ≡ total_of wide_sum (counted (graph_of (proc_at c.procs p)) (length c.names)) k
        by d a =
            let q : Proc = numbered_alone a.process in
            let at : proc_at c.procs p ≡ a.process = place_get c.procs p a.process a.place in
            let free : IsGrant a.process → ⊥ = λ i. other c admitted alone are p low e (subst IsGrant (sym at) i) in
            let none : grants q ≡ false = elim (cases_Bool (grants q)) [
              | inl y ↦ absurd (no_grant a.process free ((grants_are q).0 y))
              | inr y ↦ y
            ] in
            omega (
              arith,
              ap (λ ps. total_of wide_sum (processes ps (length d.names)) k) a.procs,
              ap (λ b. total_of wide_sum ((if b then [] else counted (graph_of q) (length d.names)) ++ []) k) none,
              total_append wide_sum (counted (graph_of q) (length d.names)) [] k,
              counted_as wide_sum k (none_counted Merges k) c.names c.procs d.names d.procs p a.process q c.valid a.place a.procs a.names a.procs,
              ap (λ x. total_of wide_sum (counted (graph_of x) (length c.names)) k) at,
            )

    processes_sum : over (of_process k) (map (λ (x : Node). x.spec) nodes) ≡ total_of wide_sum (processes c.procs (length c.names)) k
    processes_sum =
        ap (over (of_process k)) (weave_parts (Cmd c) alone g)
        ∙ omega (
          arith,
          over_both (of_process k) (map alone (woven g)) (leading_specs (Cmd c) alone g),
          none_of_kinds k (leading_specs (Cmd c) alone g) (leading_kinds (Cmd c) alone g),
          over_map (of_process k) alone (woven g),
          places_sum (length c.names) k c.procs 0 (λ p. not (grants_at c.procs p)) (λ p. of_process k (alone p))
              (λ i l. ap (λ n. not (grants_at c.procs n)) (let z : 0 + i ≡ i = omega arith in z) ∙ ap not (grants_of c.procs i l))
              (λ i l e. ap (λ n. of_process k (alone n)) (let z : 0 + i ≡ i = omega arith in z) ∙ alone_sum i l (grants_of c.procs i l ∙ e)),
        )

    pub circuit_sums : sum_of_parts (part_sum k) (weave_circuit c alone) ≡ command_sum wide_sum c.procs (length c.names) k
    circuit_sums = omega (
      arith,
      split_sum k nodes,
      weave_kinds c.procs (length c.names) (Cmd c) alone k no_kind,
      processes_sum,
      total_append wide_sum (sums.woven c.procs (length c.names)) (processes c.procs (length c.names)) k,
    )
