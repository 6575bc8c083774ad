-- The walks along legs are those of the graph by numbers.
use Rattle.std.proofs.Common.{◌≡◌, ⊎_elim, ◌↔◌, ℕ, Bool, true, false, true≢false, List, ◌++◌, map, IsTrue, IsPermutation, refl, sym, ap, ◌∙◌, subst, if◌then◌else◌, nat_eq, Option, Some, None}
use Rattle.std.specs.Prelude.{not, slice_get, is_some}
use Rattle.std.proofs.lemmas.Bool.{cases_Bool}
use Rattle.std.proofs.lemmas.List.Sorted.{IsPermutation-trans, IsPermutation-sym}
use Rattle.cmd_tree.specs.declared.tree.Sym.{Sym}
use Rattle.cmd_tree.specs.declared.tree.Proc.{Proc}
use Rattle.cmd_tree.specs.Limits.{IsProc}
use Rattle.cmd_tree.specs.Lists.{is_in}
use Rattle.cmd_tree.specs.Meaning.{symbols, TraceOf}
use Rattle.process_laws.specs.Shape.{IsFair}
use Rattle.place_graph.specs.declared.leg.Leg.{Leg}
use Rattle.place_graph.specs.declared.wait_graph.WaitGraph.{WaitGraph}
use Rattle.place_graph.specs.declared.wait_graph.Cross.{Cross}
use Rattle.place_graph.specs.declared.wait_graph.Act.{Act}
use Rattle.place_graph.specs.declared.wait_graph.Start.{Start}
use Rattle.place_graph.specs.declared.wait_graph.Start.TheVariants as start
use Rattle.place_graph.specs.Points.{OneOf, Among, legs}
use Rattle.place_graph.specs.Walks.{Walk, GraphTrace, ends as stops, goes}
use Rattle.place_graph.specs.Graph.{is_act, acts_of, inputs_of, wait_points, act_points, index_of, number_at, bursts_of, cross, act, start_at, numbered, graph_of}
use Rattle.place_graph.specs.GraphTraces.{numbers_of, left_by, GraphWalk, ends, takes, gives, TraceOfGraph}
use Rattle.place_graph.specs.Drawable.{AreDirections}
use Rattle.place_graph.specs.Chart.{LeadsOn, Chart}
use Rattle.place_graph.proofs.Positions.{some_position, place_is}
use Rattle.place_graph.proofs.Walking.{trace_walks}
use Rattle.place_graph.proofs.Charted.{charted, leg_leads_on, start_leg}
use Rattle.place_graph.proofs.Listed.{leg_at, burst_numbered, index_one, in_points, points_in, one_in_order, in_order_one, one_map, map_one, one_filter, filter_one, numbers_syms}

-- the wait or the act that a point is
abbrev spot : List Leg → ℕ → Option Start
spot L x = if is_in x (act_points L) then Some (start.Act (index_of x (act_points L)))
    else (if is_in x (wait_points L) then Some (start.Wait (index_of x (wait_points L))) else None)

not_true : (b : Bool) → not b ≡ true → b ≡ false
not_true true h = sym h
not_true false h = refl

module _ (out : ℕ → Bool) (L : List Leg) (c : Chart L out) (on : (l : Leg) → Among L l → LeadsOn L l) where
  takes_test : Leg → Bool
  takes_test l = not (is_act l)

  is_wait : (l : Leg) → Among L l → is_act l ≡ false → is_in l.from (wait_points L) ≡ true
  is_wait l a t = in_points (λ m. not (is_act m)) L l a (ap not t)

  no_act : (l : Leg) → Among L l → is_act l ≡ false → is_in l.from (act_points L) ≡ false
  no_act l a t = ⊎_elim
      (λ e.
      let m = points_in is_act L l.from e in
      absurd (true≢false (sym m.2 ∙ ap is_act (sym (c.lone m.0 l m.1 a m.2 (sym m.3))) ∙ t)))
      (λ e. e)
      (cases_Bool (is_in l.from (act_points L)))

  spot_act : (l : Leg) → Among L l → is_act l ≡ true
      → spot L l.from ≡ Some (start.Act (index_of l.from (act_points L)))
  spot_act l a t = ap
      (λ b. if b then Some (start.Act (index_of l.from (act_points L)))
      else (if is_in l.from (wait_points L) then Some (start.Wait (index_of l.from (wait_points L)))
      else None)) (in_points is_act L l a t)

  spot_wait : (l : Leg) → Among L l → is_act l ≡ false
      → spot L l.from ≡ Some (start.Wait (index_of l.from (wait_points L)))
  spot_wait l a t =
      ap (λ b. if b then Some (start.Act (index_of l.from (act_points L)))
      else (if is_in l.from (wait_points L) then Some (start.Wait (index_of l.from (wait_points L)))
      else None)) (no_act l a t)
      ∙ ap (λ b. if b then Some (start.Wait (index_of l.from (wait_points L))) else None) (is_wait l a t)

  -- where a leg leads
  cross_spot : (l : Leg) → Among L l → is_act l ≡ false
      → spot L l.to ≡ Some (start.Act (index_of l.to (act_points L)))
  cross_spot l a t =
      let w = on l a in
      subst (λ x. spot L x ≡ Some (start.Act (index_of x (act_points L)))) w.from
      (spot_act w.next w.among (w.turns ∙ ap not t))

  act_spot : (l : Leg) → Among L l → is_act l ≡ true → left_by (number_at l.to (wait_points L)) ≡ spot L l.to
  act_spot l a t =
      let w = on l a in
      let input : is_act w.next ≡ false = w.turns ∙ ap not t in
      subst (λ x. left_by (number_at x (wait_points L)) ≡ spot L x) w.from
      (ap left_by (some_position (nat_eq w.next.from) (wait_points L) (is_wait w.next w.among input)
      ∙ ap Some (place_is (nat_eq w.next.from) (wait_points L))) ∙ sym (spot_wait w.next w.among input))

  record AtAct (x n : ℕ) : Type 0 where
    pub leg : Leg
    pub among : Among L leg
    pub outputs : is_act leg ≡ true
    pub from : leg.from ≡ x
    pub number : index_of x (act_points L) ≡ n

  at_act : (x n : ℕ) → spot L x ≡ Some (start.Act n) → AtAct x n
  at_act x n h = by (is_in x (act_points L)) (is_in x (wait_points L)) refl h
    where
      by : (a b : Bool) → is_in x (act_points L) ≡ a
          → (if a then Some (start.Act (index_of x (act_points L)))
          else (if b then Some (start.Wait (index_of x (wait_points L))) else None)) ≡ Some (start.Act n)
          → AtAct x n
      by true b e k = let m = points_in is_act L x
          e in record { leg = m.0; among = m.1; outputs = m.2; from = m.3; number = cc }
      by false true e k = absurd (cc)
      by false false e k = absurd (cc)

  at_wait : (x n : ℕ) → spot L x ≡ Some (start.Wait n)
      → IsTrue (is_in x (wait_points L)) × (index_of x (wait_points L) ≡ n)
  at_wait x n h = by (is_in x (act_points L)) (is_in x (wait_points L)) refl h
    where
      by : (a b : Bool) → is_in x (wait_points L) ≡ b
          → (if a then Some (start.Act (index_of x (act_points L)))
          else (if b then Some (start.Wait (index_of x (wait_points L))) else None)) ≡ Some (start.Wait n)
          → IsTrue (is_in x (wait_points L)) × (index_of x (wait_points L) ≡ n)
      by true b e k = absurd (cc)
      by false true e k = (e, cc)
      by false false e k = absurd (cc)

  -- the act of a leg by number
  the_act : (l : Leg) → Among L l → is_act l ≡ true
      → slice_get (map (act L) (acts_of L)) (index_of l.from (act_points L)) ≡ Some (act L l)
  the_act l a t = leg_at (act L) is_act L c.increase (λ x y o u p q e. c.lone y x u o q e) l a t

  -- ---- walks along legs are walks by numbers

  abbrev G : WaitGraph
  G = numbered L

  walk_step : (x : ℕ) (l : Leg) (t u v : List ℕ) → Among L l → l.from ≡ x → t ≡ u ++ v
      → IsPermutation (symbols l.marks) u → GraphWalk G (spot L l.to) v → GraphWalk G (spot L x) t
  walk_step x l t u v among at j p k = by (is_act l) refl
    where
      by : (b : Bool) → is_act l ≡ b → GraphWalk G (spot L x) t
      by true e = gives (spot L x) (index_of l.from (act_points L)) (act L l) t u v
          (ap (spot L) (sym at) ∙ spot_act l among e) (the_act l among e) j
          (subst (λ y. IsPermutation y u) (sym (numbers_syms l.marks)) p)
          (subst (λ q. GraphWalk G q v) (sym (act_spot l among e)) k)
      by false e =
          let b = burst_numbered L c.few l among e in
          let there : OneOf (inputs_of L) l = one_filter (λ m. not (is_act m)) L l among (ap not e) in
          takes (spot L x) (cross L l) b.burst t u v
          (one_in_order (map (cross L) (inputs_of L)) (cross L l)
          (one_map (cross L) (inputs_of L) l there)) (ap (spot L) (sym at) ∙ spot_wait l among e) b.is j
          (IsPermutation-trans _ _ _ (IsPermutation-sym _ _ b.arranged) p)
          (subst (λ q. GraphWalk G q v) (cross_spot l among e) k)

  numbers_from_walk : (x : ℕ) (t : List ℕ) → Walk L x t → GraphWalk G (spot L x) t
  numbers_from_walk _ _ (stops x) = ends (spot L x)
  numbers_from_walk _ _ (goes x l t u v among at j p k) = walk_step x l t u v among at j p
      (numbers_from_walk l.to v k)

  -- ---- and the other way round

  takes_step : (q : Option Start) (d : Cross) (b : List Sym) (t u v : List ℕ) → OneOf G.crosses d
      → q ≡ Some (start.Wait d.wait) → slice_get G.bursts d.burst ≡ Some b → t ≡ u ++ v
      → IsPermutation (numbers_of b) u
      → ((x : ℕ) → spot L x ≡ Some (start.Act d.act) → Walk L x v) → (x : ℕ) → spot L x ≡ q → Walk L x t
  takes_step q d b t u v o at is j p k x e =
      let m = map_one (cross L) (inputs_of L) d (in_order_one (map (cross L) (inputs_of L)) d o) in
      let l = m.0 in
      let f = filter_one (λ m. not (is_act m)) L l m.1 in
      let input : is_act l ≡ false = not_true (is_act l) f.1 in
      let w = at_wait x d.wait (e ∙ at) in
      let here : l.from ≡ x = index_one l.from x (wait_points L) (is_wait l f.0 input) w.0
      (ap (λ (y : Cross). y.wait) m.2 ∙ sym w.1) in
      let n = burst_numbered L c.few l f.0 input in
      let same : Some n.burst ≡ Some b = sym n.is ∙ ap (λ (y : Cross). slice_get (bursts_of L) y.burst) m.2
      ∙ is in
      let burst : n.burst ≡ b = cc in
      goes x l t u v f.0 here j
      (IsPermutation-trans _ _ _ n.arranged (subst (λ y. IsPermutation (numbers_of y) u) (sym burst) p))
      (k l.to (cross_spot l f.0 input ∙ ap (λ (y : Cross). Some (start.Act y.act)) m.2))

  gives_step : (q : Option Start) (n : ℕ) (y : Act) (t u v : List ℕ) → q ≡ Some (start.Act n)
      → slice_get G.acts n ≡ Some y → t ≡ u ++ v → IsPermutation (numbers_of y.outs) u
      → ((x : ℕ) → spot L x ≡ left_by y.exit → Walk L x v) → (x : ℕ) → spot L x ≡ q → Walk L x t
  gives_step q n y t u v at is j p k x e =
      let w = at_act x n (e ∙ at) in
      let l = w.leg in
      let same : Some (act L l) ≡ Some y = sym (the_act l w.among w.outputs)
      ∙ ap (λ z. slice_get (map (act L) (acts_of L)) (index_of z (act_points L))) w.from
      ∙ ap (slice_get (map (act L) (acts_of L))) w.number ∙ is in
      let is_y : act L l ≡ y = cc in
      goes x l t u v w.among w.from j
      (subst (λ z. IsPermutation z u)
      (ap (λ (z : Act). numbers_of z.outs) (sym is_y) ∙ numbers_syms l.marks) p)
      (k l.to (sym (act_spot l w.among w.outputs) ∙ ap (λ (z : Act). left_by z.exit) is_y))

  walk_from_numbers : (q : Option Start) (t : List ℕ) → GraphWalk G q t → (x : ℕ) → spot L x ≡ q → Walk L x t
  walk_from_numbers _ _ (ends q) x e = stops x
  walk_from_numbers _ _ (takes q d b t u v o at is j p k) x e = takes_step q d b t u v o at is j p
      (λ y f. walk_from_numbers (Some (start.Act d.act)) v k y f) x e
  walk_from_numbers _ _ (gives q n y t u v at is j p k) x e = gives_step q n y t u v at is j p
      (λ z f. walk_from_numbers (left_by y.exit) v k z f) x e

  -- ---- the start

  start_spot : (l : Leg) → Among L l → l.from ≡ 1 → spot L 1 ≡ Some (start_at (act_points L) (wait_points L))
  start_spot l a e = by (is_act l) refl
    where
      begins : Bool → Start
      begins b = if b then start.Act (index_of 1 (act_points L)) else start.Wait (index_of 1 (wait_points L))

      by : (b : Bool) → is_act l ≡ b → spot L 1 ≡ Some (start_at (act_points L) (wait_points L))
      by true t = subst (λ x. spot L x ≡ Some (start.Act (index_of x (act_points L)))) e (spot_act l a t)
          ∙ ap (λ b. Some (begins b))
          (sym (subst (λ x. is_in x (act_points L) ≡ true) e (in_points is_act L l a t)))
      by false t = subst (λ x. spot L x ≡ Some (start.Wait (index_of x (wait_points L)))) e (spot_wait l a t)
          ∙ ap (λ b. Some (begins b)) (sym (subst (λ x. is_in x (act_points L) ≡ false) e (no_act l a t)))

  pub walks_by_numbers : (l : Leg) → Among L l → l.from ≡ 1 → (t : List ℕ)
      → GraphTrace L t ↔ TraceOfGraph G t
  walks_by_numbers l a e t = (
    λ k. (
      k.0,
      subst (λ q. GraphWalk G q (t ++ k.0)) (start_spot l a e)
          (numbers_from_walk 1 (t ++ k.0) k.1),
    ),
    λ k. (k.0, walk_from_numbers (Some G.start) (t ++ k.0) k.1 1 (start_spot l a e)),
  )

pub trace_numbers : (out : ℕ → Bool) (p : Proc) → IsProc p → IsTrue (is_some p.body) → IsFair out p
    → AreDirections out p → (t : List ℕ) → TraceOf p t ↔ TraceOfGraph (graph_of p) t
trace_numbers out p h some f agree t =
    let l = start_leg out p h in
    let w = trace_walks p h t in
    let n = walks_by_numbers out (legs p) (charted out p h f agree) (leg_leads_on out p h f agree some) l.0
    l.1 l.2 t in
    (λ k. n.0 (w.0 k), λ k. w.1 (n.1 k))
