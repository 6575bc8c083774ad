-- Where no decision-wait and no sequencer that is counted is too wide, each component of the network in the basis wide is split
-- into two-way ones.
use Rattle.std.proofs.Common.{◌≡◌, ◌≢◌, inl, inr, ℕ, zero, suc, ◌+◌, ◌-◌, ◌<◌, ◌≤◌, Bool, true, false, true≢false, not, filter, nat_eq, nat_lt, ne_eqb, IsTrue, List, [], ◌∷◌, ◌++◌, length, map, refl, sym, ap, ◌∙◌, subst, arith, if◌then◌else◌, Option, None, Some}
use Rattle.std.specs.Prelude.{◌&&◌, drop}
use Rattle.std.specs.List.{AllByRecursion, list_all, list_any, range_with_len, sum_by}
use Rattle.std.proofs.lemmas.Bool.Decides.{nat_tests}
use Rattle.std.proofs.lemmas.List.Sums.{sum_by-cons}
use Rattle.cmd_tree.specs.declared.command.Command.{Command}
use Rattle.cmd_tree.specs.declared.tree.Proc.{Proc}
use Rattle.basic_kinds.specs.declared.shape.Shape.{Shape}
use Rattle.basic_kinds.specs.declared.kind.Kind.{Kind}
use Rattle.basic_kinds.specs.declared.kind.Kind.TheVariants as kind
use Rattle.basic_kinds.specs.Shapes.{is_within}
use Rattle.basic_kinds.specs.ShapeParts.{part_at, part_names, part_rows, part_columns, local_part}
use Rattle.basic_kinds.specs.Sorts.{Sort, Wires, Forks, Joins, Merges, Toggles, Waits, how_many}
use Rattle.basic_kinds.specs.Sums.{Counted, One, Wide, Wait, Sequencer, so_many, wait_sort, wide_sum, total_of}
use Rattle.di_grammar.specs.Admitted.{Admitted}
use Rattle.di_grammar.specs.Grants.{IsGrant}
use Rattle.di_grammar.specs.Outputs.{out_of}
use Rattle.di_grammar.specs.Sums as weave
use Rattle.di_grammar.specs.Sums.{grants, ring, ring_or_none, rings, plain_ring, release_ring, made, standing}
use Rattle.di_grammar.proofs.SumGrants.{grants_are}
use Rattle.place_graph.specs.declared.wait_graph.WaitGraph.{WaitGraph}
use Rattle.place_graph.specs.declared.wait_graph.Start.{Start}
use Rattle.place_graph.specs.declared.wait_graph.Start.TheVariants as start
use Rattle.place_graph.specs.declared.styles.SplitStyle.{SplitStyle}
use Rattle.place_graph.specs.declared.styles.SplitStyle.TheVariants.{OneWait, Rounds, Token}
use Rattle.place_graph.specs.Graph.{graph_of}
use Rattle.place_graph.specs.Style.{style_of}
use Rattle.place_graph.specs.Sums as sums
use Rattle.place_graph.specs.Sums.{counted, processes, of_command, command_sum, of_style, symbols_at, outs_at, entries_of, begins_at, gate, leading, exits, meeting, pairs}
use Rattle.net_core.specs.declared.spec.NodeSpec.{NodeSpec}
use Rattle.net_core.specs.declared.spec.NodeSpec.TheVariants.{Kind as Basic, Cmd}
use Rattle.net_core.specs.Specs.{is_kind}
use Rattle.net_core.specs.Wiring.{Node}
use Rattle.net_laws.proofs.Among.{Among}
use Rattle.plain_split.specs.OneWaitSums.{is_component}
use Rattle.plain_split.proofs.OneWaitDrawn.{and_both, both_and}
use Rattle.two_way.specs.TwoWay.{is_two_way}
use Rattle.net_layers.specs.TwoWayNets.{is_splittable}
use Rattle.net_sums.specs.NodeSums.{IsSum, node_sum}
use Rattle.net_sums.proofs.WeighedLists.{total_both}
use Rattle.net_sums.proofs.WeaveSum.{plain_is, release_is, no_ring}
use Rattle.count_sum.specs.Narrow.{is_narrow}
use Rattle.count_sum.specs.Mirror.Graphs.{IsReadable, IsReadableProcess}
use Rattle.count_sum.proofs.ReadableGraphs.{all_readable}
use Rattle.di_compile.proofs.Connected.{connected}

-- one for each decision-wait and each sequencer that is not two-way
abbrev pub too_wide : Counted → Sort → ℕ
too_wide (One q) t = 0
too_wide (Wide q n) t = 0
too_wide (Wait rows cols cross) t = if nat_lt (length cross) 2 then 0 else (if nat_eq (length (part_names rows cross)) 1 && (nat_lt rows 3 && nat_lt cols 3) then 0 else 1)
too_wide (Sequencer k) t = if nat_lt k 3 then 0 else 1

pub too_wide_is : IsSum too_wide
too_wide_is = record { none = λ q t. refl; wire = λ q t. refl; single = λ t. refl }

-- one for each that is not narrow
abbrev unfit : Counted → Sort → ℕ
unfit x t = if is_narrow x then 0 else 1

module _ (t : Sort) where
  abbrev IsLow : List Counted → Type 0
  IsLow xs = total_of too_wide xs t ≤ total_of unfit xs t

  low_both : (xs ys : List Counted) → IsLow xs → IsLow ys → IsLow (xs ++ ys)
  low_both xs ys a b = omega (arith, a, b, total_both too_wide t xs ys, total_both unfit t xs ys)

  low_map : {A : Type 0} (c : A → Counted) (xs : List A) → ((x : A) → Among x xs → too_wide (c x) t ≤ unfit (c x) t) → IsLow (map c xs)
  low_map c [] h = omega arith
  low_map c (x ∷ xs) h = omega (arith, h x (inl refl), low_map c xs (λ y a. h y (inr a)))

  low_gate : (xs : List ℕ) → too_wide (gate xs) t ≤ unfit (gate xs) t
  low_gate [] = omega arith
  low_gate (x ∷ xs) = omega arith

  low_wait : (rows cols : ℕ) (cross : List (ℕ × ℕ)) → nat_eq (length (part_names rows cross)) 1 ≡ true → too_wide (Wait rows cols cross) t ≤ unfit (Wait rows cols cross) t
  low_wait rows cols cross one = by (nat_lt (length cross) 2) (nat_eq (length (part_names rows cross)) 1) (nat_lt rows 3 && nat_lt cols 3) one
    where
      by : (a b c : Bool) → b ≡ true → (if a then 0 else (if b && c then 0 else 1)) ≤ (if c then 0 else 1)
      by true b c e = omega arith
      by false true c e = omega arith
      by false false c e = absurd (true≢false (sym e))

  module _ (g : WaitGraph) (names : ℕ) (readable : IsReadable g) where
    low_meetings : IsLow (sums.meetings g)
    low_meetings = low_map (λ i. meeting g (part_at g.waits (pairs g) i)) (part_names g.waits (pairs g))
        (λ i a. low_wait (length (part_rows g.waits (part_at g.waits (pairs g) i))) (length (part_columns (length g.bursts) (part_at g.waits (pairs g) i))) (local_part (part_at g.waits (pairs g) i))
        (is_one (length (part_names (length (part_rows g.waits (part_at g.waits (pairs g) i))) (local_part (part_at g.waits (pairs g) i)))) (connected g.waits (length g.bursts) (pairs g) readable.within i a)))
      where
        is_one : (n : ℕ) → n ≡ 1 → nat_eq n 1 ≡ true
        is_one n e = ap (λ m. nat_eq m 1) e

    low_first : (x : Start) → IsLow (sums.first_wait x g)
    low_first (start.Act n) = omega arith
    low_first (start.Wait v) = omega arith

    low_style : (x : SplitStyle) → IsLow (of_style x g names)
    low_style OneWait = low_both (sums.spreads g) (sums.directs g names)
        (low_map (λ n. Wide Forks (length (outs_at g n))) (sums.all_acts g) (λ n a. omega arith))
        (low_map (λ a. One Wires) (filter (λ a. sums.is_one (sums.is_straight g) (sums.givers g a)) (range_with_len 0 names)) (λ a i. omega arith))
    low_style (Rounds k) = low_both (sums.spreads g) (map (λ i. One Toggles) (range_with_len 0 (k - 1)))
        (low_map (λ n. Wide Forks (length (outs_at g n))) (sums.all_acts g) (λ n a. omega arith))
        (low_map (λ i. One Toggles) (range_with_len 0 (k - 1)) (λ i a. omega arith))
    low_style Token = low_both (sums.moves g) (sums.returns g ++ (sums.first_wait g.start g ++ sums.meetings g))
        (low_map (λ y. Wide Forks (length y.outs + exits y.exit)) g.acts (λ y a. omega arith))
        (low_both (sums.returns g) (sums.first_wait g.start g ++ sums.meetings g)
        (low_map (λ v. Wide Merges (leading g v)) (range_with_len 0 g.waits) (λ v a. omega arith))
        (low_both (sums.first_wait g.start g) (sums.meetings g) (low_first g.start) low_meetings))

    low_counted : IsLow (counted g names)
    low_counted = low_both (sums.joins g) (sums.calls g ++ (sums.shows g names ++ (sums.first_act g ++ of_style (style_of g) g names)))
        (low_map (λ b. Wide Joins (length (symbols_at g b))) (sums.all_bursts g) (λ b a. omega arith))
        (low_both (sums.calls g) (sums.shows g names ++ (sums.first_act g ++ of_style (style_of g) g names))
        (low_map (λ n. Wide Merges (length (entries_of g n))) (sums.all_acts g) (λ n a. omega arith))
        (low_both (sums.shows g names) (sums.first_act g ++ of_style (style_of g) g names)
        (low_map (λ a. Wide Merges (length (sums.givers g a))) (range_with_len 0 names) (λ a i. omega arith))
        (low_both (sums.first_act g) (of_style (style_of g) g names)
        (low_map (λ n. gate (entries_of g n)) (filter (begins_at g.start) (sums.all_acts g)) (λ n a. low_gate (entries_of g n)))
        (low_style (style_of g)))))

  low_processes : (ps : List Proc) (names : ℕ) → AllByRecursion IsReadableProcess ps → IsLow (processes ps names)
  low_processes [] names h = omega arith
  low_processes (p ∷ ps) names h = low_both (if grants p then [] else counted (graph_of p) names) (processes ps names) (by (grants p) refl) (low_processes ps names h.1)
    where
      by : (b : Bool) → grants p ≡ b → IsLow (if b then [] else counted (graph_of p) names)
      by true e = omega arith
      by false e = low_counted (graph_of p) names (h.0 e).1

  low_ring : (p : Proc) → IsLow (ring_or_none (ring p))
  low_ring p = by (grants p) refl
    where
      at : IsGrant p → IsLow (ring_or_none (ring p))
      at (gs, inl h) = subst (λ (q : Proc). IsLow (ring_or_none (ring q))) (sym h.is) (subst IsLow (sym (plain_is h.asks h.symbols h.many)) (omega arith))
      at (gs, inr h) = subst (λ (q : Proc). IsLow (ring_or_none (ring q))) (sym h.is) (subst IsLow (sym (release_is h.givings h.many)) (omega arith))

      by : (b : Bool) → grants p ≡ b → IsLow (ring_or_none (ring p))
      by true e = at ((grants_are p).0 e)
      by false e = subst IsLow (sym (no_ring (ring p) e)) (omega arith)

  low_rings : (ps : List Proc) → IsLow (rings ps)
  low_rings [] = omega arith
  low_rings (p ∷ ps) = low_both (ring_or_none (ring p)) (rings ps) (low_ring p) (low_rings ps)

  low_woven : (ps : List Proc) (names : ℕ) → IsLow (weave.woven ps names)
  low_woven ps names = low_both (map (weave.meeting ps) (range_with_len 0 names)) (rings ps) (low_map (weave.meeting ps) (range_with_len 0 names) (λ a i. by a (out_of ps a))) (low_rings ps)
    where
      by : (a : ℕ) (b : Bool) → too_wide (if b then Wide Joins (made ps a) else Wide Forks (standing ps a)) t ≤ unfit (if b then Wide Joins (made ps a) else Wide Forks (standing ps a)) t
      by a true = omega arith
      by a false = omega arith

  none_unfit : (xs : List Counted) → list_all is_narrow xs ≡ true → total_of unfit xs t ≡ 0
  none_unfit [] h = refl
  none_unfit (x ∷ xs) h =
      let (first, rest) = and_both (is_narrow x) (list_all is_narrow xs) h in
      omega (arith, ap {B = ℕ} (λ (b : Bool). if b then 0 else 1) first, none_unfit xs rest)

  pub none_too_wide : (c : Command) → Admitted c.procs → list_all is_narrow (of_command c.procs (length c.names)) ≡ true → command_sum too_wide c.procs (length c.names) t ≡ 0
  none_too_wide c admitted narrow = omega (
    arith,
    low_both (weave.woven c.procs (length c.names)) (processes c.procs (length c.names)) (low_woven c.procs (length c.names)) (low_processes c.procs (length c.names) (all_readable c admitted)),
    none_unfit (of_command c.procs (length c.names)) narrow,
  )

-- ---- each component

small : (a b : ℕ) → ◌≡◌ {A = ℕ} (if nat_lt a b then 0 else 1) 0 → nat_lt a b ≡ true
small a b h = by (nat_lt a b) h
  where
    by : (c : Bool) → ◌≡◌ {A = ℕ} (if c then 0 else 1) 0 → c ≡ true
    by true e = refl
    by false e = absurd (omega (arith, e))

-- a DW that stands for itself has several crossings
several : (rows cols : ℕ) (cross : List (ℕ × ℕ)) → wide_sum (Wait rows cols cross) Waits ≡ 1 → not (nat_eq (length cross) 1) ≡ true
several rows cols [] h = refl
several rows cols (p ∷ []) h = absurd (omega (arith, h))
several rows cols (p ∷ q ∷ ps) h = ap not (ne_eqb (length (p ∷ q ∷ ps)) 1 (λ e. omega (arith, e)))

wait_splits : (s : Shape) (t : Sort) → too_wide (Wait s.rows s.cols s.cross) t ≡ 0 → wide_sum (Wait s.rows s.cols s.cross) Waits ≡ 1 → is_two_way (kind.Dw s) ≡ true
wait_splits s t none alone = by (nat_lt (length s.cross) 2) refl (nat_eq (length (part_names s.rows s.cross)) 1) refl (nat_lt s.rows 3) refl (nat_lt s.cols 3) refl none
  where
    more : not (nat_eq (length s.cross) 1) ≡ true
    more = several s.rows s.cols s.cross alone

    none_less : (n : ℕ) → nat_lt n 2 ≡ true → not (nat_eq n 1) ≡ true → 0 < n → ⊥
    none_less zero a b l = absurd (omega arith)
    none_less (suc zero) a b l = true≢false (sym b)
    none_less (suc (suc n)) a b l = two_not (suc (suc n)) (omega arith) a
      where
        two_not : (m : ℕ) → 2 ≤ m → nat_lt m 2 ≡ true → ⊥
        two_not m l h = let z : m < 2 = grind (arith, nat_tests) in omega (arith, l, z)

    some : (ps : List (ℕ × ℕ)) → list_any (λ p. nat_eq p.0 0) ps ≡ true → 0 < length ps
    some [] h = absurd (true≢false (sym h))
    some (p ∷ ps) h = omega arith

    by : (a : Bool) → nat_lt (length s.cross) 2 ≡ a → (b : Bool) → nat_eq (length (part_names s.rows s.cross)) 1 ≡ b → (c : Bool) → nat_lt s.rows 3 ≡ c → (d : Bool) → nat_lt s.cols 3 ≡ d
        → ◌≡◌ {A = ℕ} (if a then 0 else (if b && (c && d) then 0 else 1)) 0 → is_two_way (kind.Dw s) ≡ true
    by true e b f c g d h z = absurd (none_less (length s.cross) e more (some s.cross (s.whole.each_row 0 s.whole.some_row)))
    by false e true f true g true h z = both_and (nat_eq (length (part_names s.rows s.cross)) 1) (nat_lt s.rows 3 && (nat_lt s.cols 3 && not (nat_eq (length s.cross) 1))) f
        (both_and (nat_lt s.rows 3) (nat_lt s.cols 3 && not (nat_eq (length s.cross) 1)) g (both_and (nat_lt s.cols 3) (not (nat_eq (length s.cross) 1)) h more))
    by false e true f true g false h z = absurd (omega (arith, z))
    by false e true f false g d h z = absurd (omega (arith, z))
    by false e false f c g d h z = absurd (omega (arith, z))

splits : (y : NodeSpec) (t : Sort) → is_kind y ≡ true → node_sum too_wide t y ≡ 0 → node_sum wide_sum Waits y ≡ (if is_component Waits y then 1 else 0) → is_splittable y ≡ true
splits (Basic kind.Wire) t k none alone = refl
splits (Basic kind.Iwire) t k none alone = refl
splits (Basic kind.Source) t k none alone = refl
splits (Basic kind.Sink) t k none alone = refl
splits (Basic (kind.Fork n)) t k none alone = refl
splits (Basic (kind.C n)) t k none alone = refl
splits (Basic (kind.Merge n)) t k none alone = refl
splits (Basic kind.Toggle) t k none alone = refl
splits (Basic (kind.Dw s)) t k none alone = wait_splits s t none alone
splits (Basic (kind.Seq n)) t k none alone = small n 3 none
splits (Cmd d) t k none alone = absurd (true≢false (sym k))

-- no component counts for more decision-waits than itself
one_most : (y : NodeSpec) → is_kind y ≡ true → node_sum wide_sum Waits y ≤ (if is_component Waits y then 1 else 0)
one_most (Basic kind.Wire) k = omega arith
one_most (Basic kind.Iwire) k = omega arith
one_most (Basic kind.Source) k = omega arith
one_most (Basic kind.Sink) k = omega arith
one_most (Basic (kind.Fork n)) k = omega arith
one_most (Basic (kind.C n)) k = omega arith
one_most (Basic (kind.Merge n)) k = omega arith
one_most (Basic kind.Toggle) k = omega arith
one_most (Basic (kind.Dw s)) k = by s.cross
  where
    by : (cross : List (ℕ × ℕ)) → so_many 1 (wait_sort cross) Waits ≤ 1
    by [] = omega arith
    by (p ∷ []) = omega arith
    by (p ∷ q ∷ ps) = omega arith
one_most (Basic (kind.Seq n)) k = omega arith
one_most (Cmd d) k = absurd (true≢false (sym k))

all_most : (xs : List Node) → AllByRecursion (λ x. IsTrue (is_kind x.spec)) xs → sum_by (λ (x : Node). node_sum wide_sum Waits x.spec) xs ≤ how_many (λ (x : Node). is_component Waits x.spec) xs
all_most [] h = omega arith
all_most (x ∷ xs) h = omega (arith, one_most x.spec h.0, all_most xs h.1, sum_by-cons (λ (x : Node). node_sum wide_sum Waits x.spec) x xs)

pub all_split : (t : Sort) (xs : List Node) → AllByRecursion (λ x. IsTrue (is_kind x.spec)) xs → sum_by (λ (x : Node). node_sum too_wide t x.spec) xs ≡ 0
    → how_many (λ (x : Node). is_component Waits x.spec) xs ≡ sum_by (λ (x : Node). node_sum wide_sum Waits x.spec) xs → AllByRecursion (λ x. IsTrue (is_splittable x.spec)) xs
all_split t [] h none same = tt
all_split t (x ∷ xs) h none same =
    let narrow = sum_by-cons (λ (x : Node). node_sum too_wide t x.spec) x xs in
    let wide = sum_by-cons (λ (x : Node). node_sum wide_sum Waits x.spec) x xs in (
      splits x.spec t h.0 (omega (arith, none, narrow)) (omega (arith, same, wide, one_most x.spec h.0, all_most xs h.1)),
      all_split t xs h.1 (omega (arith, none, narrow)) (omega (arith, same, wide, one_most x.spec h.0, all_most xs h.1)),
    )
