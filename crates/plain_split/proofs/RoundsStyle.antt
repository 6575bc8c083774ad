-- A process whose graph is in rounds is a ring of as many bursts as acts, a power of two.
use Rattle.std.specs.Prelude.{nat_eq, not, IsTrue, if◌then◌else◌, ◌&&◌, map, count_ones, ◌/◌, ◌%◌}
use Rattle.std.proofs.Common.{eqb-true, ◌≡◌, ℕ, zero, suc, ◌+◌, ◌<◌, ◌≤◌, Bool, true, false, true≢false, List, [], ◌∷◌, length, get_or, Option, None, Some, inl, inr, refl, sym, ap, subst, ◌∙◌, arith}
use Rattle.std.specs.List.{list_any}
use Rattle.std.specs.Int.{is_power_of_two}
use Rattle.std.proofs.lemmas.Bool.{cases_eq, cases_Bool, and_parts}
use Rattle.std.proofs.lemmas.Nat.{zero_from_ones, ones_le_self}
use Rattle.std.proofs.lemmas.List.{length-map}
use Rattle.std.proofs.lemmas.List.Quantifiers.{position-Some}
use Rattle.std.proofs.lemmas.Option.{slice_get_within, get_or_from_slice_get}
use lib.Count.{ones_step}
use Rattle.cmd_tree.specs.declared.tree.Mark.{Mark}
use Rattle.cmd_tree.specs.declared.tree.Proc.{Proc}
use Rattle.cmd_tree.specs.Limits.{IsProc}
use Rattle.cmd_tree.specs.Lists.{is_in}
use Rattle.cmd_tree.specs.Meaning.{symbols}
use Rattle.place_graph.specs.declared.leg.Leg.{Leg}
use Rattle.place_graph.specs.declared.wait_graph.Cross.{Cross}
use Rattle.place_graph.specs.declared.wait_graph.Act.{Act}
use Rattle.place_graph.specs.declared.wait_graph.WaitGraph.{WaitGraph}
use Rattle.place_graph.specs.declared.wait_graph.Start.TheVariants as start
use Rattle.place_graph.specs.Points.{legs, Among}
use Rattle.place_graph.specs.Graph.{is_act, acts_of, inputs_of, wait_points, act_points, index_of, number_at, bursts_of, burst_number, cross, is_before, put, in_order, act, start_at, graph_of}
use Rattle.place_graph.specs.Style.{is_exit, has_entry, one_entry_each, in_rounds}
use Rattle.place_graph.specs.Chart.{Has, Chart, Homes}
use Rattle.place_graph.proofs.Sums.{in_from_times, one_same}
use Rattle.place_graph.proofs.Positions.{none_place}
use Rattle.place_graph.proofs.Listed.{one_from_any, map_one, filter_one, in_order_one, point_at, index_one, in_points, burst_numbered}
use Rattle.place_graph.proofs.Charted.{start_leg}
use Rattle.plain_split.specs.RoundsNet.{pow}
use Rattle.plain_split.proofs.RoundsRing.{Ring, bit}
use Rattle.plain_split.proofs.RoundsLegs.{Line, Lone, proc_line, ring_by}

-- ---- powers of two

power_by : (d n : ℕ) → n ≤ d → count_ones n ≡ 1 → (e : ℕ) × (n ≡ pow e)
power_by zero n h e = absurd (omega (arith, ones_le_self n))
power_by (suc d) n h e = elim (cases_eq (n % 2) 1) [
  | inl odd ↦ let z : n / 2 ≡ 0 = zero_from_ones (n / 2) (omega (arith, ones_step n)) in (0, let y : n ≡ pow 0 = omega arith in y)
  | inr even ↦
      let (f, z) = power_by d (n / 2) (omega (arith, ones_le_self n)) (omega (arith, ones_step n)) in
      (suc f, let y : n ≡ pow (suc f) = omega arith in y)
]

pub power : (n : ℕ) → is_power_of_two n ≡ true → (e : ℕ) × (n ≡ pow e)
power n h = power_by n n (omega arith) (eqb-true (count_ones n) 1 h)

-- a graph in rounds has a power of two of waits
pub in_power : (g : WaitGraph) → in_rounds g ≡ true → (e : ℕ) × (g.waits ≡ pow e)
in_power g rounds = by (nat_eq (length g.bursts) 1) (is_power_of_two g.waits) refl (nat_eq (length g.crosses) g.waits) (one_entry_each (length g.acts) g.crosses) (has_entry g.start g.acts g.crosses) rounds
  where
    by : (a b : Bool) → is_power_of_two g.waits ≡ b → (c d f : Bool) → (a && b && c && d && f) ≡ true → (e : ℕ) × (g.waits ≡ pow e)
    by a b e c d f rounds =
        let (abcd, last) = and_parts (a && b && c && d) f rounds in
        let (abc, each) = and_parts (a && b && c) d abcd in
        let (ab, third) = and_parts (a && b) c abc in
        power g.waits (e ∙ (and_parts a b ab).1)

-- ---- bursts and acts take turns

-- the legs alternate from the direction b to the direction c
abbrev pub Alternate : Bool → List Leg → Bool → Type 0
Alternate b [] c = b ≡ c
Alternate b (l ∷ L) c = (is_act l ≡ b) × Alternate (not b) L c

not_not : (b : Bool) → not (not b) ≡ b
not_not true = refl
not_not false = refl

alternate_counts : (b c : Bool) (L : List Leg) → Alternate b L c → length (inputs_of L) + bit b ≡ length (acts_of L) + bit c
alternate_counts b c [] h = omega (arith, ap bit h)
alternate_counts b c (l ∷ L) h = at b h.0 (alternate_counts (not b) c L h.1)
  where
    at : (b : Bool) → is_act l ≡ b → length (inputs_of L) + bit (not b) ≡ length (acts_of L) + bit c → length (inputs_of (l ∷ L)) + bit b ≡ length (acts_of (l ∷ L)) + bit c
    at true e i =
        let x : length (inputs_of (l ∷ L)) ≡ length (inputs_of L) = rw e refl in
        let y : length (acts_of (l ∷ L)) ≡ suc (length (acts_of L)) = rw e refl in
        omega arith
    at false e i =
        let x : length (inputs_of (l ∷ L)) ≡ suc (length (inputs_of L)) = rw e refl in
        let y : length (acts_of (l ∷ L)) ≡ length (acts_of L) = rw e refl in
        omega arith

alternate_long : (b c : Bool) (L : List Leg) → Alternate b L c → length (inputs_of L) + length (acts_of L) ≡ length L
alternate_long b c [] h = refl
alternate_long b c (l ∷ L) h = at b h.0 (alternate_long (not b) c L h.1)
  where
    at : (b : Bool) → is_act l ≡ b → length (inputs_of L) + length (acts_of L) ≡ length L → length (inputs_of (l ∷ L)) + length (acts_of (l ∷ L)) ≡ suc (length L)
    at true e i =
        let x : length (inputs_of (l ∷ L)) ≡ length (inputs_of L) = rw e refl in
        let y : length (acts_of (l ∷ L)) ≡ suc (length (acts_of L)) = rw e refl in
        omega arith
    at false e i =
        let x : length (inputs_of (l ∷ L)) ≡ suc (length (inputs_of L)) = rw e refl in
        let y : length (acts_of (l ∷ L)) ≡ length (acts_of L) = rw e refl in
        omega arith

pub put_long : (c : Cross) (ds : List Cross) → length (put c ds) ≡ suc (length ds)
put_long c [] = refl
put_long c (d ∷ ds) = at (is_before d c) (put_long c ds)
  where
    at : (b : Bool) → length (put c ds) ≡ suc (length ds) → length (if b then d ∷ put c ds else c ∷ d ∷ ds) ≡ suc (suc (length ds))
    at true e = ap suc e
    at false e = refl

pub order_long : (cs : List Cross) → length (in_order cs) ≡ length cs
order_long [] = refl
order_long (c ∷ cs) = put_long c (in_order cs) ∙ ap suc (order_long cs)

module _ (out : ℕ → Bool) (p : Proc) (h : IsProc p) (chart : Chart (legs p) out) (home : ℕ → ℕ) (homes : Homes (legs p) (burst_number (legs p)) home) where
  abbrev L : List Leg
  L = legs p

  -- a leg leads to the begin
  to_start : has_entry (start_at (act_points (legs p)) (wait_points (legs p))) (map (act (legs p)) (acts_of (legs p))) (in_order (map (cross (legs p)) (inputs_of (legs p)))) ≡ true
      → (l : Leg) × Among (legs p) l × (l.to ≡ 1)
  to_start e = elim (cases_Bool (is_in 1 (act_points L))) [
    | inl act_first ↦ by_act act_first (subst (λ (b : Bool). has_entry (if b then start.Act (index_of 1 (act_points L)) else start.Wait (index_of 1 (wait_points L)))
        (map (act L) (acts_of L)) (in_order (map (cross L) (inputs_of L))) ≡ true) act_first e)
    | inr none ↦ by_wait none (subst (λ (b : Bool). has_entry (if b then start.Act (index_of 1 (act_points L)) else start.Wait (index_of 1 (wait_points L)))
        (map (act L) (acts_of L)) (in_order (map (cross L) (inputs_of L))) ≡ true) none e)
  ]
    where
      by_act : is_in 1 (act_points L) ≡ true → list_any (λ (c : Cross). nat_eq c.act (index_of 1 (act_points L))) (in_order (map (cross L) (inputs_of L))) ≡ true
          → (l : Leg) × Among L l × (l.to ≡ 1)
      by_act one any =
          let (c, o, is, at) = one_from_any (λ (c : Cross). nat_eq c.act (index_of 1 (act_points L))) (in_order (map (cross L) (inputs_of L))) any in
          let (l, k, z) = map_one (cross L) (inputs_of L) c (in_order_one (map (cross L) (inputs_of L)) c o) in
          let same : index_of l.to (act_points L) ≡ index_of 1 (act_points L) = ap (λ (c : Cross). c.act) z ∙ eqb-true c.act (index_of 1 (act_points L)) is in (
            l,
            (filter_one (λ l. not (is_act l)) L l k).0,
            elim (cases_Bool (is_in l.to (act_points L))) [
              | inl there ↦ index_one l.to 1 (act_points L) there one same
              | inr away ↦ absurd (omega (arith, none_place (nat_eq l.to) (act_points L) away, same, slice_get_within (act_points L) (index_of 1 (act_points L)) 1 (point_at 1 (act_points L) one)))
            ],
          )

      wait_first : is_in 1 (act_points L) ≡ false → is_in 1 (wait_points L) ≡ true
      wait_first none =
          let (l, a, from) = start_leg out p h in
          subst (λ (x : ℕ). is_in x (wait_points L) ≡ true) from (elim (cases_Bool (is_act l)) [
            | inl is ↦ absurd (true≢false (sym (in_points is_act L l a is) ∙ ap (λ (x : ℕ). is_in x (act_points L)) from ∙ none))
            | inr input ↦ in_points (λ l. not (is_act l)) L l a (ap not input)
          ])

      exit_at : (o : Option ℕ) (w : ℕ) → is_exit w o ≡ true → o ≡ Some w
      exit_at None w z = absurd (true≢false (sym z))
      exit_at (Some x) w z = ap Some (eqb-true x w z)

      by_wait : is_in 1 (act_points L) ≡ false → list_any (λ (y : Act). is_exit (index_of 1 (wait_points L)) y.exit) (map (act L) (acts_of L)) ≡ true → (l : Leg) × Among L l × (l.to ≡ 1)
      by_wait none any =
          let w : ℕ = index_of 1 (wait_points L) in
          let (y, o, is, at) = one_from_any (λ (y : Act). is_exit (index_of 1 (wait_points L)) y.exit) (map (act L) (acts_of L)) any in
          let (l, k, z) = map_one (act L) (acts_of L) y o in
          let exit : number_at l.to (wait_points L) ≡ Some w = ap (λ (y : Act). y.exit) z ∙ exit_at y.exit w is in
          let (low, here, first) = position-Some (nat_eq l.to) (wait_points L) w 0 exit in
          let one : get_or (wait_points L) w 0 ≡ 1 = get_or_from_slice_get (wait_points L) w 1 0 (point_at 1 (wait_points L) (wait_first none)) in
          (l, (filter_one is_act L l k).0, eqb-true l.to (get_or (wait_points L) w 0) here ∙ one)

  module _ (rounds : in_rounds (graph_of p) ≡ true) (e : ℕ) (many : length (wait_points (legs p)) ≡ pow e) where
    abbrev cs : List Cross
    cs = in_order (map (cross (legs p)) (inputs_of (legs p)))

    facts : (length (bursts_of L) ≡ 1) × (is_power_of_two (length (wait_points L)) ≡ true) × (length cs ≡ length (wait_points L))
        × (has_entry (start_at (act_points L) (wait_points L)) (map (act L) (acts_of L)) cs ≡ true)
    facts =
        let a : Bool = nat_eq (length (bursts_of L)) 1 in
        let b : Bool = is_power_of_two (length (wait_points L)) in
        let c : Bool = nat_eq (length cs) (length (wait_points L)) in
        let d : Bool = one_entry_each (length (map (act L) (acts_of L))) cs in
        let f : Bool = has_entry (start_at (act_points L) (wait_points L)) (map (act L) (acts_of L)) cs in
        let (abcd, last) = and_parts (a && b && c && d) f rounds in
        let (abc, each) = and_parts (a && b && c) d abcd in
        let (ab, third) = and_parts (a && b) c abc in
        let (first, second) = and_parts a b ab in
        (eqb-true (length (bursts_of L)) 1 first, second, eqb-true (length cs) (length (wait_points L)) third, last)

    pub sole : (l m : Leg) (a : ℕ) → Among L l → Among L m → is_act l ≡ false → is_act m ≡ false → Has l a → Has m a
    sole l m a u v i j has = homes.keys l m a u v i j (zero_at l u i ∙ sym (zero_at m v j)) has
      where
        zero_at : (x : Leg) → Among L x → is_act x ≡ false → burst_number L x ≡ 0
        zero_at x w k =
            let n = burst_numbered L chart.few x w k in
            let low : burst_number L x < length (bursts_of L) = slice_get_within (bursts_of L) (burst_number L x) n.burst n.is in
            omega (arith, facts.0)

    sym_of : (l : Leg) → Among L l → (a : ℕ) × Has l a
    sym_of l u = at l.marks (chart.some l u)
      where
        at : (ms : List Mark) → 0 < length ms → (a : ℕ) × IsTrue (is_in a (symbols ms))
        at [] z = absurd (omega arith)
        at (m ∷ ms) z = (m.sym.0, (in_from_times m.sym.0 (symbols (m ∷ ms)) (omega (arith, one_same m.sym.0 m.sym.0 refl))))

    pub lone : Lone (legs p)
    lone l m u v e = elim (cases_Bool (is_act m)) [
      | inl out_m ↦ chart.lone m l v u out_m e
      | inr in_m ↦ elim (cases_Bool (is_act l)) [
        | inl out_l ↦ sym (chart.lone l m u v out_l (sym e))
        | inr in_l ↦ let (a, has) = sym_of l u in chart.one l m a u v e has (sole l m a u v in_l in_m has)
      ]
    ]

    pub line : Line 1 (legs p) 1
    line = let (l, u, e) = to_start facts.3 in proc_line p h lone l u e

    -- from each leg on the legs alternate
    alternate : (x : ℕ) (M : List Leg) → ((l : Leg) → Among M l → Among L l) → Line x M 1 → (b : Bool) → ((l : Leg) → Among L l → l.from ≡ x → is_act l ≡ b)
        → Alternate b M (is_act (start_leg out p h).0)
    alternate x [] within a b at = let (l, u, from) = start_leg out p h in sym (at l u (from ∙ sym a))
    alternate x (l ∷ M) within a b at =
        let u : Among L l = within l (inl refl) in
        let is : is_act l ≡ b = at l u a.0 in (
          is,
          alternate l.to M (λ m v. within m (inr v)) a.1 (not b) (λ m v from. elim (chart.leads l u) [
            | inl on ↦ ap is_act (lone m on.next v on.among (from ∙ sym on.from)) ∙ on.turns ∙ ap not is
            | inr none ↦ absurd (none m v from)
          ]),
        )

    pub turns : Alternate (is_act (start_leg out p h).0) (legs p) (is_act (start_leg out p h).0)
    turns = alternate 1 L (λ l u. u) line (is_act (start_leg out p h).0)
        (λ l u from. ap is_act (lone l (start_leg out p h).0 u (start_leg out p h).1 (from ∙ sym (start_leg out p h).2)))

    pub inputs_long : length (inputs_of (legs p)) ≡ pow e
    inputs_long = sym (length-map (inputs_of L) (cross L)) ∙ sym (order_long (map (cross L) (inputs_of L))) ∙ facts.2 ∙ many

    pub long : length (legs p) ≡ pow e + pow e
    long = omega (arith, inputs_long, alternate_counts _ _ (legs p) turns, alternate_long _ _ (legs p) turns)

    pub some_long : 0 < length (legs p)
    some_long = at (legs p) (start_leg out p h).1
      where
        at : (M : List Leg) → Among M (start_leg out p h).0 → 0 < length M
        at [] u = absurd u
        at (l ∷ M) u = omega arith

    unfoldable pub ring : Ring (legs p) e
    ring = ring_by (legs p) out chart lone line (start_leg out p h).0 some_long e long sole
