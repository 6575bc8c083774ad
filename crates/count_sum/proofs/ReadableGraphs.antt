-- The graphs of the processes of an admitted command are readable.
use Rattle.std.specs.Prelude.{nat_eq, nat_lt, not}
use Rattle.std.specs.List.{list_all, AllByRecursion}
use Rattle.std.proofs.Common.{◌≡◌, inl, inr, ℕ, ◌<◌, ◌≤◌, ◌^◌, Bool, true, false, true≢false, ◌&&◌, List, [], ◌∷◌, length, map, IsTrue, refl, sym, ap, subst, ◌∙◌, arith, lt-ltb}
use Rattle.std.proofs.lemmas.Bool.{cases_lt}
use Rattle.cmd_tree.specs.declared.command.Command.{Command}
use Rattle.cmd_tree.specs.declared.tree.Mark.{Mark}
use Rattle.cmd_tree.specs.declared.tree.Proc.{Proc}
use Rattle.cmd_tree.specs.Meaning.{symbols}
use Rattle.cmd_tree.specs.Limits.{places_of_proc}
use Rattle.basic_kinds.specs.Shapes.{is_within}
use Rattle.net_laws.proofs.Among.{Among, Distinct}
use Rattle.di_grammar.specs.Admitted.{Admitted}
use Rattle.di_grammar.specs.Grants.{IsGrant}
use Rattle.di_grammar.specs.Lists.{Each}
use Rattle.di_grammar.specs.Outputs.{out_of}
use Rattle.di_grammar.specs.Sums.{grants}
use Rattle.di_grammar.proofs.SumGrants.{grants_are}
use Rattle.place_graph.specs.declared.leg.Leg.{Leg}
use Rattle.place_graph.specs.declared.wait_graph.Act.{Act}
use Rattle.place_graph.specs.declared.wait_graph.Cross.{Cross}
use Rattle.place_graph.specs.declared.wait_graph.WaitGraph.{WaitGraph}
use Rattle.place_graph.specs.Chart.{Chart}
use Rattle.place_graph.specs.Drawable.{IsDrawable}
use Rattle.place_graph.specs.Graph.{graph_of, is_act, acts_of, inputs_of, act, cross, wait_points, points_of, index_of}
use Rattle.place_graph.specs.GraphTraces.{numbers_of}
use Rattle.place_graph.specs.Points.{legs, Among as Member}
use Rattle.place_graph.specs.Sums.{outs_at}
use Rattle.place_graph.proofs.Admission.{charts, drawables}
use Rattle.place_graph.proofs.BurstSets.{few_filter, few_with_new, bursts_few}
use Rattle.place_graph.proofs.LegBounds.{legs_few}
use Rattle.place_graph.proofs.Listed.{point_at, in_points, burst_below, filter_one}
use Rattle.plain_split.proofs.OneWaitDrawn as drawn
use Rattle.plain_split.proofs.OneWaitDrawn.{once_distinct, slice_low}
use Rattle.plain_split.proofs.OneWaitWires.{marks_in, marks_places, map_long}
use Rattle.plain_split.proofs.RoundsStyle.{order_long}
use Rattle.count_sum.specs.Mirror.Graphs.{IsReadable, IsReadableProcess}

both : (a b : Bool) → a ≡ true → b ≡ true → (a && b) ≡ true
both a b x y = ap (λ t. t && b) x ∙ y

all_within : (rows cols : ℕ) (cs : List Cross) → ((c : Cross) → Among c cs → (c.wait < rows) × (c.burst < cols)) → IsTrue (list_all (is_within rows cols) (map (λ (c : Cross). (c.wait, c.burst)) cs))
all_within rows cols [] h = refl
all_within rows cols (c ∷ cs) h =
    let (a, b) = h c (inl refl) in
    both (is_within rows cols (c.wait, c.burst)) (list_all (is_within rows cols) (map (λ (c : Cross). (c.wait, c.burst)) cs))
    (both (nat_lt c.wait rows) (nat_lt c.burst cols) (lt-ltb c.wait rows a) (lt-ltb c.burst cols b)) (all_within rows cols cs (λ x i. h x (inr i)))

pub marks_low : (L : List Leg) (l : Leg) → Member L l → length l.marks ≤ marks_in L
marks_low [] l a = absurd a
marks_low (m ∷ L) l (inl e) = omega (arith, ap (λ (k : Leg). length k.marks) e)
marks_low (m ∷ L) l (inr a) = omega (arith, marks_low L l a)

outs_few : (L M : List Leg) → ((l : Leg) → Member M l → length l.marks < 2 ^ 32) → AllByRecursion (λ (y : Act). length y.outs < 2 ^ 32) (map (act L) M)
outs_few L [] h = tt
outs_few L (m ∷ M) h = (omega (arith, h m (inl refl), map_long (λ (x : Mark). x.sym) m.marks), outs_few L M (λ l a. h l (inr a)))

module _ (p : Proc) (out : ℕ → Bool) (chart : Chart (legs p) out) (draw : IsDrawable p) where
  abbrev L : List Leg
  L = legs p

  abbrev g : WaitGraph
  g = graph_of p

  outs_once : (n : ℕ) → Distinct (numbers_of (outs_at g n))
  outs_once n = elim (cases_lt n (length (acts_of L))) [
    | inl low ↦
        let (m, i, e, k) = drawn.nth_act L out chart draw.sets 0 (λ (l : Leg). l.place) 0 n low in
        subst Distinct (sym (ap (λ (k : ℕ). numbers_of (outs_at g k)) (sym e) ∙ drawn.outs_is L out chart draw.sets 0 m i)) (once_distinct (symbols m.marks) (λ a. chart.few m a i.0))
    | inr past ↦ subst Distinct (sym (drawn.outs_past L out chart draw.sets 0 n past)) tt
  ]

  crossing_low : (c : Cross) → Among c g.crosses → (c.wait < g.waits) × (c.burst < length g.bursts)
  crossing_low c a =
      let (l, i, e) = drawn.of_cross L out chart draw.sets 0 c a in
      let there = in_points (λ l. not (is_act l)) L l i.0 (ap not i.1) in
      let wait : index_of l.from (wait_points L) < length (wait_points L) = slice_low (wait_points L) (index_of l.from (wait_points L)) l.from (point_at l.from (wait_points L) there) in
      (omega (arith, wait, ap (λ (k : Cross). k.wait) e), omega (arith, burst_below L l i.0 i.1, ap (λ (k : Cross). k.burst) e))

  inputs_low : length (inputs_of L) ≤ places_of_proc p
  inputs_low = omega (arith, legs_few p draw.proc, few_filter (λ l. not (is_act l)) L)

  pub waits_low : g.waits ≤ places_of_proc p
  waits_low = omega (arith, few_with_new nat_eq [] (points_of (inputs_of L)), map_long (λ (l : Leg). l.from) (inputs_of L), inputs_low)

  pub bursts_low : length g.bursts ≤ places_of_proc p
  bursts_low = omega (arith, legs_few p draw.proc, bursts_few L)

  pub crosses_low : length g.crosses ≤ places_of_proc p
  crosses_low = omega (arith, order_long (map (cross L) (inputs_of L)), map_long (cross L) (inputs_of L), inputs_low)

  pub acts_low : length g.acts ≤ places_of_proc p
  acts_low = omega (arith, legs_few p draw.proc, few_filter is_act L, map_long (act L) (acts_of L))

  pub readable : IsReadable g
  readable = record {
    once = outs_once;
    within = all_within g.waits (length g.bursts) g.crosses crossing_low;
    few_lines = omega (arith, draw.few_places, waits_low, bursts_low);
    few_crossings = omega (arith, draw.few_places, crosses_low);
    few_outs = outs_few L (acts_of L) (λ l a. omega (arith, draw.few_places, marks_places p, marks_low L l (filter_one is_act L l a).0));
  }

pub no_grant : (p : Proc) → grants p ≡ false → IsGrant p → ⊥
no_grant p e i = true≢false (sym ((grants_are p).1 i) ∙ e)

each_readable : (out : ℕ → Bool) (ps : List Proc) → Each (λ (p : Proc). (IsGrant p → ⊥) → Chart (legs p) out) ps → Each (λ (p : Proc). (IsGrant p → ⊥) → IsDrawable p) ps → AllByRecursion IsReadableProcess ps
each_readable out [] c d = tt
each_readable out (p ∷ ps) c d = (
  (λ e. (d.0 (no_grant p e), readable p out (c.0 (no_grant p e)) (d.0 (no_grant p e)))),
  each_readable out ps c.1 d.1,
)

pub all_readable : (c : Command) → Admitted c.procs → AllByRecursion IsReadableProcess c.procs
all_readable c a = each_readable (out_of c.procs) c.procs (charts c.procs a c.valid.shaped) (drawables c.procs a c.names c.valid)
