-- The sum over the network of a weave.
use Rattle.std.proofs.Common.{◌≡◌, inl, inr, ℕ, suc, ◌+◌, ◌<◌, Bool, true, false, true≢false, not, filter, cond, List, [], ◌∷◌, ◌++◌, length, map, get_or, refl, sym, ap, ◌∙◌, subst, arith, if◌then◌else◌, append-nil, Option, Some, None}
use Rattle.std.specs.Prelude.{◌&&◌}
use Rattle.std.specs.List.{range_with_len}
use Rattle.std.proofs.lemmas.Bool.{cases_Bool}
use Rattle.cmd_tree.specs.declared.command.Command.{Command}
use Rattle.cmd_tree.specs.declared.tree.Mark.{Mark}
use Rattle.cmd_tree.specs.declared.tree.Proc.{Proc}
use Rattle.cmd_tree.specs.Tree.{marks_among}
use Rattle.cmd_tree.specs.Limits.{marks_of_proc}
use Rattle.cmd_tree.specs.Meaning.{has_symbol}
use Rattle.cmd_rename.specs.Symbols.{put_each}
use Rattle.process_laws.specs.GrantForms.{Giving, gifts, plain, loans, release, granted_of, returned_of}
use Rattle.basic_kinds.specs.Sorts.{Sort, Iwires, Forks, Joins, Merges}
use Rattle.basic_kinds.specs.Sums.{Counted, One, Wide, Sequencer, total_of}
use Rattle.di_grammar.specs.Admitted.{Admitted}
use Rattle.di_grammar.specs.Grants.{IsGrant}
use Rattle.di_grammar.specs.Outputs.{out_of}
use Rattle.di_grammar.specs.Sums as sums
use Rattle.di_grammar.specs.Sums.{gift, loan, put as with_first, all_of, plain_ring, release_ring, of_several, ring, is_ring, grants, standing, made, ring_or_none, rings}
use Rattle.di_grammar.proofs.SumGrants.{grants_are}
use Rattle.place_graph.specs.Graph.{graph_of}
use Rattle.place_graph.specs.Sums.{counted, processes, command_sum}
use Rattle.net_core.specs.declared.spec.NodeSpec.{NodeSpec}
use Rattle.net_core.specs.declared.spec.NodeSpec.TheVariants.{Cmd}
use Rattle.net_core.specs.Wiring.{Node, Circuit}
use Rattle.net_core.specs.Renumbering.{sum_of_parts}
use Rattle.net_laws.specs.Charts.{charted, node_of}
use Rattle.net_laws.proofs.Among.{Among}
use Rattle.plain_split.specs.SharedPaths.{joined}
use Rattle.plain_split.proofs.OneWaitWeb.{sum_of}
use Rattle.plain_split.proofs.OneWaitWires.{map_long, in_range}
use Rattle.cmd_alone.specs.Alone.{IsAlone}
use Rattle.cmd_alone.proofs.Back.{numbered_alone}
use Rattle.cmd_alone.proofs.Admission.{no_grant}
use Rattle.cmd_alone.proofs.Counting.{counted_as}
use Rattle.weave_split.specs.WeaveChart.{Name, Process, Spread, Join, Returns, Gate, Sequencer as Asks, Ties, is_kept, spec_at, woven, granting, meeting, all_names, components, weave_chart, marks_at, grants_at, begins_out, ins_in, outs_in, ties}
use Rattle.weave_split.specs.WeaveNet.{AreAlone, IsWeaveNet, ties_of, weave_circuit}
use Rattle.weave_split.proofs.WeaveKinds.{once_long}
use Rattle.weave_split.proofs.WeaveTied.{nothing, proc_at, marks_are, grants_of}
use Rattle.weave_split.proofs.WeaveLaw.{place_get, other}
use Rattle.net_sums.specs.NodeSums.{IsSum, node_sum}
use Rattle.net_sums.proofs.WeighedLists.{sum_is, sum_append, sum_map, sum_filter, sum_same, sum_joined, total_both, total_same, long_places, kept_wide}

filter_twice : (p q : ℕ → Bool) (xs : List ℕ) → filter p (filter q xs) ≡ filter (λ x. q x && p x) xs
filter_twice p q [] = refl
filter_twice p q (x ∷ xs) = by (q x) (filter_twice p q xs)
  where
    by : (b : Bool) → filter p (filter q xs) ≡ filter (λ x. q x && p x) xs → filter p (cond b (x ∷ filter q xs) (filter q xs)) ≡ cond (b && p x) (x ∷ filter (λ x. q x && p x) xs) (filter (λ x. q x && p x) xs)
    by true e = ap (λ zs. cond (p x) (x ∷ zs) zs) e
    by false e = e

-- ---- what stands for a grant

gifts_all : (ps : List ℕ) → all_of gift (gifts ps) ≡ Some ps
gifts_all [] = refl
gifts_all (p ∷ ps) = ap (λ xs. with_first (Some p) xs) (gifts_all ps)

loans_all : (gs : List Giving) → all_of loan (loans gs) ≡ Some gs
loans_all [] = refl
loans_all (g ∷ gs) = ap (λ xs. with_first (Some g) xs) (loans_all gs)

several : {A : Type 0} (f : List A → List Counted) (xs : List A) → 1 < length xs → ring_or_none (of_several f (Some xs)) ≡ f xs
several f [] h = absurd (omega arith)
several f (x ∷ []) h = absurd (omega arith)
several f (x ∷ y ∷ xs) h = refl

pub no_ring : (o : Option (List Counted)) → is_ring o ≡ false → ring_or_none o ≡ []
no_ring None h = refl
no_ring (Some xs) h = absurd (true≢false h)

pub plain_is : (n : ℕ) (ps : List ℕ) → 1 < length ps → ring_or_none (ring (plain n ps)) ≡ plain_ring ps
plain_is n ps h = ap (λ o. ring_or_none (of_several plain_ring o)) (gifts_all ps) ∙ several plain_ring ps h

pub release_is : (gs : List Giving) → 1 < length gs → ring_or_none (ring (release gs)) ≡ release_ring gs
release_is gs h = ap (λ o. ring_or_none (of_several release_ring o)) (loans_all gs) ∙ several release_ring gs h

gifts_ins : (ps : List ℕ) → ins_in (marks_among (gifts ps)) ≡ []
gifts_ins [] = refl
gifts_ins (p ∷ ps) = gifts_ins ps

gifts_outs : (ps : List ℕ) → outs_in (marks_among (gifts ps)) ≡ ps
gifts_outs [] = refl
gifts_outs (p ∷ ps) = ap (λ zs. p ∷ zs) (gifts_outs ps)

loans_ins : (gs : List Giving) → ins_in (marks_among (loans gs)) ≡ returned_of gs
loans_ins [] = refl
loans_ins (g ∷ gs) = ap (λ zs. g.returned ∷ zs) (loans_ins gs)

loans_outs : (gs : List Giving) → outs_in (marks_among (loans gs)) ≡ granted_of gs
loans_outs [] = refl
loans_outs (g ∷ gs) = ap (λ zs. g.granted ∷ zs) (loans_outs gs)

plain_ins : (n : ℕ) (ps : List ℕ) → ins_in (marks_of_proc (plain n ps)) ≡ n ∷ []
plain_ins n ps = ap (λ ms. n ∷ ins_in ms) (append-nil (marks_among (gifts ps))) ∙ ap (λ zs. n ∷ zs) (gifts_ins ps)

plain_outs : (n : ℕ) (ps : List ℕ) → outs_in (marks_of_proc (plain n ps)) ≡ ps
plain_outs n ps = ap outs_in (append-nil (marks_among (gifts ps))) ∙ gifts_outs ps

release_ins : (gs : List Giving) → ins_in (marks_of_proc (release gs)) ≡ returned_of gs
release_ins gs = ap ins_in (append-nil (marks_among (loans gs))) ∙ loans_ins gs

release_outs : (gs : List Giving) → outs_in (marks_of_proc (release gs)) ≡ granted_of gs
release_outs gs = ap outs_in (append-nil (marks_among (loans gs))) ∙ loans_outs gs

release_begins : (gs : List Giving) → 1 < length gs → begins_out (marks_of_proc (release gs)) ≡ true
release_begins [] h = absurd (omega arith)
release_begins (g ∷ gs) h = refl

module _ (sum : Counted → Sort → ℕ) (w : IsSum sum) (t : Sort) where
  -- a MERGE of the symbols that are returned, the gate where it is an IWIRE, and the SEQ
  abbrev of_marks : List Mark → ℕ
  of_marks ms = sum (Wide Merges (length (put_each [] (ins_in ms)))) t + ((if begins_out ms then sum (One Iwires) t else 0) + sum (Sequencer (length (outs_in ms))) t)

  plain_total : (n : ℕ) (ps : List ℕ) → 1 < length ps → of_marks (marks_of_proc (plain n ps)) ≡ total_of sum (ring_or_none (ring (plain n ps))) t
  plain_total n ps h = omega (
    arith,
    ap (λ xs. sum (Wide Merges (length (put_each [] xs))) t) (plain_ins n ps),
    w.wire Merges t,
    ap (λ (xs : List ℕ). sum (Sequencer (length xs)) t) (plain_outs n ps),
    ap (λ xs. total_of sum xs t) (plain_is n ps h),
  )

  release_total : (gs : List Giving) → 1 < length gs → of_marks (marks_of_proc (release gs)) ≡ total_of sum (ring_or_none (ring (release gs))) t
  release_total gs h = omega (
    arith,
    ap (λ xs. sum (Wide Merges (length (put_each [] xs))) t) (release_ins gs) ∙ ap (λ n. sum (Wide Merges n) t) (once_long (returned_of gs)),
    ap (λ b. if b then sum (One Iwires) t else 0) (release_begins gs h),
    ap (λ (xs : List ℕ). sum (Sequencer (length xs)) t) (release_outs gs) ∙ ap (λ n. sum (Sequencer n) t) (map_long (λ (g : Giving). g.granted) gs),
    ap (λ xs. total_of sum xs t) (release_is gs h),
  )

  abbrev IsCounted : Proc → Type 0
  IsCounted p = of_marks (marks_of_proc p) ≡ total_of sum (ring_or_none (ring p)) t

  grant_total : (p : Proc) → grants p ≡ true → IsCounted p
  grant_total p e = at ((grants_are p).0 e)
    where
      at : IsGrant p → IsCounted p
      at (gs, inl h) = subst IsCounted (sym h.is) (plain_total h.asks h.symbols h.many)
      at (gs, inr h) = subst IsCounted (sym h.is) (release_total h.givings h.many)

  -- by the places of the processes
  ring_places : (f : ℕ → ℕ) (qs : List Proc) (a : ℕ) → ((i : ℕ) → i < length qs → f (a + i) ≡ total_of sum (ring_or_none (ring (proc_at qs i))) t)
      → sum_of f (range_with_len a (length qs)) ≡ total_of sum (rings qs) t
  ring_places f [] a h = refl
  ring_places f (q ∷ qs) a h = omega (
    arith,
    h 0 (omega arith),
    ap f (let e : a ≡ a + 0 = omega arith in e),
    total_both sum t (ring_or_none (ring q)) (rings qs),
    ring_places f qs (a + 1) (λ i low. omega (arith, h (suc i) (omega arith), ap f (let e : a + suc i ≡ a + 1 + i = omega arith in e))),
  )

  module _ (names : ℕ) where
    abbrev of_proc : Proc → ℕ
    of_proc p = if grants p then 0 else total_of sum (counted (graph_of p) names) t

    process_places : (f : ℕ → ℕ) (qs : List Proc) (a : ℕ) → ((i : ℕ) → i < length qs → f (a + i) ≡ of_proc (proc_at qs i))
        → sum_of f (range_with_len a (length qs)) ≡ total_of sum (processes qs names) t
    process_places f [] a h = refl
    process_places f (q ∷ qs) a h = omega (
      arith,
      h 0 (omega arith),
      ap f (let e : a ≡ a + 0 = omega arith in e),
      here (grants q),
      total_both sum t (if grants q then [] else counted (graph_of q) names) (processes qs names),
      process_places f qs (a + 1) (λ i low. omega (arith, h (suc i) (omega arith), ap f (let e : a + suc i ≡ a + 1 + i = omega arith in e))),
    )
      where
        here : (b : Bool) → (if b then 0 else total_of sum (counted (graph_of q) names) t) ≡ total_of sum (if b then [] else counted (graph_of q) names) t
        here true = refl
        here false = refl

  -- ---- group by group

  module _ (ps : List Proc) (names : ℕ) (s : NodeSpec) (alone : ℕ → NodeSpec) where
    abbrev g : Ties
    g = ties ps names

    abbrev part : Name → ℕ
    part x = if is_kept g x then node_sum sum t (spec_at s alone g x) else 0

    takers_long : (a : ℕ) → length (g.takers a) ≡ standing ps a
    takers_long a = long_places nothing (λ p. has_symbol (marks_at ps p) a) (λ (p : Proc). has_symbol (marks_of_proc p) a) ps 0
        (λ i low. ap (λ n. has_symbol (marks_at ps n) a) (let e : 0 + i ≡ i = omega arith in e) ∙ ap (λ ms. has_symbol ms a) (marks_are ps i))

    givers_long : (a : ℕ) → length (g.givers a) ≡ made ps a
    givers_long a =
        ap (λ (xs : List ℕ). length xs) (filter_twice (λ p. not (grants_at ps p)) (λ p. has_symbol (marks_at ps p) a) (range_with_len 0 (length ps)))
        ∙ long_places nothing (λ p. has_symbol (marks_at ps p) a && not (grants_at ps p)) (λ (p : Proc). has_symbol (marks_of_proc p) a && not (grants p)) ps 0
        (λ i low. ap (λ n. has_symbol (marks_at ps n) a && not (grants_at ps n)) (let e : 0 + i ≡ i = omega arith in e)
        ∙ ap (λ ms. has_symbol ms a && not (grants_at ps i)) (marks_are ps i) ∙ ap (λ b. has_symbol (marks_of_proc (proc_at ps i)) a && not b) (grants_of ps i low))

    meeting_part : (a : ℕ) → part (meeting g a) ≡ sum (sums.meeting ps a) t
    meeting_part a = by (out_of ps a)
      where
        by : (b : Bool) → part (if b then Join a else Spread a) ≡ sum (if b then Wide Joins (made ps a) else Wide Forks (standing ps a)) t
        by true = kept_wide sum t w Joins (g.givers a) ∙ ap (λ m. sum (Wide Joins m) t) (givers_long a)
        by false = kept_wide sum t w Forks (g.takers a) ∙ ap (λ m. sum (Wide Forks m) t) (takers_long a)

    abbrev ring_part : ℕ → ℕ
    ring_part i = if grants_at ps i then part (Returns i) + (part (Gate i) + (part (Asks i) + 0)) else 0

    ring_at : (i : ℕ) → i < length ps → ring_part i ≡ total_of sum (ring_or_none (ring (proc_at ps i))) t
    ring_at i low = by (grants_at ps i) refl
      where
        by : (b : Bool) → grants_at ps i ≡ b → (if b then part (Returns i) + (part (Gate i) + (part (Asks i) + 0)) else 0) ≡ total_of sum (ring_or_none (ring (proc_at ps i))) t
        by true e = omega (
          arith,
          kept_wide sum t w Merges (g.returns i),
          ap of_marks (marks_are ps i),
          grant_total (proc_at ps i) (sym (grants_of ps i low) ∙ e),
        )
        by false e = ap (λ xs. total_of sum xs t) (sym (no_ring (ring (proc_at ps i)) (sym (grants_of ps i low) ∙ e)))

    grant_names : List Name
    grant_names = joined (λ p. Returns p ∷ Gate p ∷ Asks p ∷ []) (granting g)

    rings_sum : sum_of part grant_names ≡ total_of sum (rings ps) t
    unfolding grant_names
    rings_sum =
        sum_joined part (λ p. Returns p ∷ Gate p ∷ Asks p ∷ []) (granting g)
        ∙ sum_filter (λ i. part (Returns i) + (part (Gate i) + (part (Asks i) + 0))) (grants_at ps) (range_with_len 0 (length ps))
        ∙ ring_places ring_part ps 0 (λ i low. ap ring_part (let e : 0 + i ≡ i = omega arith in e) ∙ ring_at i low)

    abbrev process_part : ℕ → ℕ
    process_part i = if not (grants_at ps i) then node_sum sum t (alone i) else 0

    chart_sum : ((i : ℕ) → i < length ps → process_part i ≡ of_proc names (proc_at ps i))
        → sum_of_parts (node_sum sum t) (charted (weave_chart s alone g)) ≡ command_sum sum ps names t
    unfolding grant_names
    chart_sum each =
        sum_is (λ (x : Node). node_sum sum t x.spec) (map (node_of (weave_chart s alone g)) (components g))
        ∙ sum_map (λ (x : Node). node_sum sum t x.spec) (node_of (weave_chart s alone g)) (components g)
        ∙ sum_filter (λ x. node_sum sum t (spec_at s alone g x)) (is_kept g) (all_names g)
        ∙ omega (
          arith,
          sum_append part (map Process (woven g)) (map (meeting g) (range_with_len 0 names) ++ grant_names),
          sum_append part (map (meeting g) (range_with_len 0 names)) grant_names,
          sum_map part Process (woven g),
          sum_filter (λ p. node_sum sum t (alone p)) (λ p. not (grants_at ps p)) (range_with_len 0 (length ps)),
          process_places names process_part ps 0 (λ i low. ap process_part (let e : 0 + i ≡ i = omega arith in e) ∙ each i low),
          sum_map part (meeting g) (range_with_len 0 names),
          total_same sum t (λ a. part (meeting g a)) (sums.meeting ps) (range_with_len 0 names) (λ a i. meeting_part a),
          rings_sum,
          total_both sum t (map (sums.meeting ps) (range_with_len 0 names)) (rings ps),
          total_both sum t (sums.woven ps names) (processes ps names),
        )

-- ---- a command

module _ (sum : Counted → Sort → ℕ) (w : IsSum sum) (t : Sort) (c : Command) (admitted : Admitted c.procs) (alone : ℕ → NodeSpec) (are : AreAlone c alone) where
  alone_sum : (p : ℕ) → p < length c.procs → grants_at c.procs p ≡ false → node_sum sum t (alone p) ≡ total_of sum (counted (graph_of (proc_at c.procs p)) (length c.names)) t
  alone_sum p low e = let (d, a, is) = are.each p low e in ap (node_sum sum t) is ∙ by d a
    where
      by : (d : Command) (a : IsAlone c p d) → total_of sum (processes d.procs (length d.names)) t ≡ total_of sum (counted (graph_of (proc_at c.procs p)) (length c.names)) t
      by d a =
          let q : Proc = numbered_alone a.process in
          let at : proc_at c.procs p ≡ a.process = place_get c.procs p a.process a.place in
          let free : IsGrant a.process → ⊥ = λ i. other c admitted alone are p low e (subst IsGrant (sym at) i) in
          let none : grants q ≡ false = elim (cases_Bool (grants q)) [
            | inl y ↦ absurd (no_grant a.process free ((grants_are q).0 y))
            | inr y ↦ y
          ] in
          omega (
            arith,
            ap (λ ps. total_of sum (processes ps (length d.names)) t) a.procs,
            ap (λ b. total_of sum ((if b then [] else counted (graph_of q) (length d.names)) ++ []) t) none,
            total_both sum t (counted (graph_of q) (length d.names)) [],
            counted_as sum t (w.none Merges t) c.names c.procs d.names d.procs p a.process q c.valid a.place a.procs a.names a.procs,
            ap (λ x. total_of sum (counted (graph_of x) (length c.names)) t) at,
          )

  each_process : (p : ℕ) → p < length c.procs → (if not (grants_at c.procs p) then node_sum sum t (alone p) else 0)
      ≡ (if grants (proc_at c.procs p) then 0 else total_of sum (counted (graph_of (proc_at c.procs p)) (length c.names)) t)
  each_process p low = by (grants_at c.procs p) refl ∙ ap (λ b. if b then 0 else total_of sum (counted (graph_of (proc_at c.procs p)) (length c.names)) t) (grants_of c.procs p low)
    where
      by : (b : Bool) → grants_at c.procs p ≡ b → (if not b then node_sum sum t (alone p) else 0) ≡ (if b then 0 else total_of sum (counted (graph_of (proc_at c.procs p)) (length c.names)) t)
      by true e = refl
      by false e = alone_sum p low e

  circuit_sum : sum_of_parts (node_sum sum t) (weave_circuit c alone) ≡ command_sum sum c.procs (length c.names) t
  circuit_sum = chart_sum sum w t c.procs (length c.names) (Cmd c) alone each_process

pub weave_sum : (sum : Counted → Sort → ℕ) → IsSum sum → (c : Command) (net : Circuit) → Admitted c.procs → IsWeaveNet c net → (t : Sort)
    → sum_of_parts (node_sum sum t) net ≡ command_sum sum c.procs (length c.names) t
weave_sum sum w c net admitted (alone, are, is) t = ap (sum_of_parts (node_sum sum t)) is ∙ circuit_sum sum w t c admitted alone are
