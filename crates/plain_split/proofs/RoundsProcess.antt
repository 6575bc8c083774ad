-- The network of a process in rounds, from its graph.
use Rattle.std.specs.Prelude.{not, if◌then◌else◌}
use Rattle.std.specs.List.{list_any}
use Rattle.std.proofs.Common.{◌≡◌, ℕ, zero, suc, ◌+◌, ◌-◌, ◌<◌, ◌≤◌, ◌^◌, Bool, true, false, true≢false, List, [], ◌∷◌, ◌++◌, map, length, get_or, inl, inr, refl, sym, ap, subst, ◌∙◌, arith}
use Rattle.std.proofs.lemmas.Bool.{cases_Bool}
use Rattle.cmd_tree.specs.declared.tree.Mark.{Mark}
use Rattle.cmd_tree.specs.declared.tree.Sym.{Sym as Symbol}
use Rattle.cmd_tree.specs.declared.tree.Proc.{Proc}
use Rattle.cmd_tree.specs.Limits.{IsProc}
use Rattle.cmd_tree.specs.Lists.{is_in}
use Rattle.cmd_tree.specs.Meaning.{symbols}
use Rattle.net_core.specs.declared.spec.NodeSpec.{NodeSpec}
use Rattle.net_laws.specs.Charts.{charted}
use Rattle.net_laws.specs.Implementing.{Implements}
use Rattle.net_laws.proofs.Webs.{WebSound, WebExact}
use Rattle.net_laws.proofs.Among.{Distinct, Among as OneAmong}
use Rattle.place_graph.specs.declared.leg.Leg.{Leg}
use Rattle.place_graph.specs.declared.wait_graph.Start.TheVariants as start
use Rattle.place_graph.specs.Points.{legs, Among, OneOf}
use Rattle.place_graph.specs.Graph.{is_act, acts_of, inputs_of, wait_points, act_points, index_of, with_new, firsts, same_set, syms, bursts_of, burst_number, act, start_at, graph_of}
use Rattle.place_graph.specs.Style.{in_rounds}
use Rattle.place_graph.specs.Tale.{times, Tale}
use Rattle.place_graph.specs.Chart.{Has, Chart, Homes, Plays}
use Rattle.place_graph.proofs.Listed.{in_points, points_in, one_filter}
use Rattle.place_graph.proofs.Charted.{start_leg}
use Rattle.place_graph.proofs.Sums.{one_same, times_from_in}
use Rattle.plain_split.specs.RoundsNet.{pow}
use Rattle.plain_split.specs.RoundsChart.{Parts, is_out, lines, rounds_chart}
use Rattle.plain_split.specs.RoundsParts.{numbers, begins_with_act, first_burst, outs_at, parts_of, Specifies}
use Rattle.plain_split.proofs.RoundsPlan.{Plan, Sane}
use Rattle.plain_split.proofs.RoundsWeb.{web}
use Rattle.plain_split.proofs.RoundsSound.{sound}
use Rattle.plain_split.proofs.RoundsExact.{exact}
use Rattle.plain_split.proofs.RoundsRing.{Ring, bit, sane, stories}
use Rattle.plain_split.proofs.RoundsDeal.{pow_some}
use Rattle.plain_split.proofs.RoundsLegs.{rem_small, ring_by}
use Rattle.plain_split.proofs.RoundsStyle.{Alternate, turns, inputs_long, long, ring}
use Rattle.plain_split.proofs.RoundsRoutes.{Fine, plan_of, among_in}
use Rattle.plain_split.proofs.RoundsRight.{rounds_right}
use Rattle.plain_split.proofs.RoundsReady.{ready}
use Rattle.plain_split.specs.Mirror.RoundsTables.{IsReady}

-- ---- lists of legs that take turns

first_input : (b c : Bool) (L : List Leg) (d : Leg) → Alternate b L c → 0 < length (inputs_of L) → get_or (inputs_of L) 0 d ≡ get_or L (bit b) d
first_input b c [] d h some = absurd (omega arith)
first_input true c (l ∷ []) d h some = let z : length (inputs_of (l ∷ [])) ≡ 0 = rw h.0 refl in absurd (omega arith)
first_input true c (l ∷ m ∷ L) d h some =
    let z : inputs_of (l ∷ m ∷ L) ≡ inputs_of (m ∷ L) = rw h.0 refl in
    let y : inputs_of (m ∷ L) ≡ m ∷ inputs_of L = rw h.1.0 refl in
    ap (λ xs. get_or xs 0 d) (z ∙ y)
first_input false c (l ∷ L) d h some = let z : inputs_of (l ∷ L) ≡ l ∷ inputs_of L = rw h.0 refl in ap (λ xs. get_or xs 0 d) z

act_get : (b c : Bool) (L : List Leg) (d : Leg) → Alternate b L c → (y : ℕ) → y < length (acts_of L) → get_or (acts_of L) y d ≡ get_or L (y + y + (1 - bit b)) d
act_get b c [] d h y low = absurd (omega arith)
act_get true c (l ∷ L) d h y low = at y low (λ x i. act_get false c L d h.1 x i)
  where
    z : acts_of (l ∷ L) ≡ l ∷ acts_of L
    z = rw h.0 refl

    at : (y : ℕ) → y < length (acts_of (l ∷ L)) → ((x : ℕ) → x < length (acts_of L) → get_or (acts_of L) x d ≡ get_or L (x + x + (1 - 0)) d)
        → get_or (acts_of (l ∷ L)) y d ≡ get_or (l ∷ L) (y + y + (1 - 1)) d
    at zero low f = ap (λ xs. get_or xs 0 d) z
    at (suc y) low f =
        let less : y < length (acts_of L) = omega (arith, ap (λ (xs : List Leg). length xs) z) in
        let i : suc (y + y + (1 - 0)) ≡ suc y + suc y + (1 - 1) = omega arith in
        ap (λ xs. get_or xs (suc y) d) z ∙ f y less ∙ ap (λ n. get_or (l ∷ L) n d) i
act_get false c (l ∷ L) d h y low =
    let z : acts_of (l ∷ L) ≡ acts_of L = rw h.0 refl in
    let less : y < length (acts_of L) = omega (arith, ap (λ (xs : List Leg). length xs) z) in
    let i : suc (y + y + (1 - 1)) ≡ y + y + (1 - 0) = omega arith in
    ap (λ xs. get_or xs y d) z ∙ act_get true c L d h.1 y less ∙ ap (λ n. get_or (l ∷ L) n d) i

acts_long : (b c : Bool) (L : List Leg) → Alternate b L c → length (inputs_of L) + length (acts_of L) ≡ length L
acts_long b c [] h = refl
acts_long b c (l ∷ L) h = at b h.0 (acts_long (not b) c L h.1)
  where
    at : (b : Bool) → is_act l ≡ b → length (inputs_of L) + length (acts_of L) ≡ length L → length (inputs_of (l ∷ L)) + length (acts_of (l ∷ L)) ≡ suc (length L)
    at true e i =
        let x : length (inputs_of (l ∷ L)) ≡ length (inputs_of L) = rw e refl in
        let y : length (acts_of (l ∷ L)) ≡ suc (length (acts_of L)) = rw e refl in
        omega arith
    at false e i =
        let x : length (inputs_of (l ∷ L)) ≡ suc (length (inputs_of L)) = rw e refl in
        let y : length (acts_of (l ∷ L)) ≡ length (acts_of L) = rw e refl in
        omega arith

numbers_syms : (ms : List Mark) → numbers (syms ms) ≡ symbols ms
numbers_syms [] = refl
numbers_syms (m ∷ ms) = ap (λ xs. m.sym.0 ∷ xs) (numbers_syms ms)

first_new : (x : List Symbol) (xs ys : List (List Symbol)) → first_burst (with_new same_set (x ∷ xs) ys) ≡ x
first_new x xs [] = refl
first_new x xs (y ∷ ys) = at (list_any (same_set y) (x ∷ xs)) (first_new x xs ys) (first_new x (xs ++ y ∷ []) ys)
  where
    at : (b : Bool) → first_burst (with_new same_set (x ∷ xs) ys) ≡ x → first_burst (with_new same_set (x ∷ (xs ++ y ∷ [])) ys) ≡ x
        → first_burst (with_new same_set (if b then x ∷ xs else (x ∷ xs) ++ y ∷ []) ys) ≡ x
    at true f h = f
    at false f h = h

burst_first : (I : List Leg) (d : Leg) → 0 < length I → first_burst (firsts same_set (map (λ l. syms l.marks) I)) ≡ syms (get_or I 0 d).marks
burst_first [] d h = absurd (omega arith)
burst_first (l ∷ I) d h = first_new (syms l.marks) [] (map (λ l. syms l.marks) I)

outs_get : (M : List Leg) (A : List Leg) (d : Leg) (y : ℕ) → y < length A → outs_at (map (act M) A) y ≡ symbols (get_or A y d).marks
outs_get M [] d y h = absurd (omega arith)
outs_get M (l ∷ A) d zero h = numbers_syms l.marks
outs_get M (l ∷ A) d (suc y) h = outs_get M A d y (omega arith)

one_at : (A : List Leg) (l d : Leg) → OneOf A l → (y : ℕ) × (y < length A) × (get_or A y d ≡ l)
one_at [] l d h = absurd h
one_at (m ∷ A) l d (inl e) = (0, omega arith, e)
one_at (m ∷ A) l d (inr h) = let (y, low, e) = one_at A l d h in (suc y, omega arith, e)

-- a list in which each symbol stands at most once
once_list : (xs : List ℕ) → ((a : ℕ) → times a xs ≤ 1) → Distinct xs
once_list [] h = tt
once_list (x ∷ xs) h = (
  (λ i. omega (arith, h x, one_same x x refl, times_from_in x xs (there x xs i))),
  once_list xs (λ a. omega (arith, h a)),
)
  where
    there : (a : ℕ) (ys : List ℕ) → OneAmong a ys → is_in a ys ≡ true
    there a ys i = among_in a ys i

module _ (s : NodeSpec) (out : ℕ → Bool) (p : Proc) (T : List ℕ → Type 0) (h : IsProc p) (chart : Chart (legs p) out) (plays : Plays (legs p) T) (home : ℕ → ℕ) (homes : Homes (legs p) (burst_number (legs p)) home)
    (rounds : in_rounds (graph_of p) ≡ true) (e : ℕ) (many : length (wait_points (legs p)) ≡ pow e) (some_levels : 0 < e)
    (told : Specifies s out (legs p) T)
    (narrow : (l : Leg) → Among (legs p) l → length (symbols l.marks) < 2 ^ 27) (acts_few : pow e < 2 ^ 27) where
  abbrev L : List Leg
  L = legs p

  abbrev r : Parts
  r = parts_of s (graph_of p) e

  abbrev d : Leg
  d = (start_leg out p h).0

  abbrev R : Ring (legs p) e
  R = ring out p h chart home homes rounds e many

  leg_small : (i : ℕ) → i < pow e + pow e → R.leg i ≡ get_or (legs p) i d
  unfolding ring ring_by
  leg_small i low = ap (λ n. get_or (legs p) n d) (rem_small (length (legs p)) i (omega (arith, long out p h chart home homes rounds e many)))

  alternates : Alternate (is_act d) (legs p) (is_act d)
  alternates = turns out p h chart home homes rounds e many

  -- the first leg begins the process
  first_is : is_act (R.leg 0) ≡ is_act d
  first_is = ap is_act (R.lone (R.leg 0) d (R.among 0) (start_leg out p h).1 (R.begin ∙ sym (start_leg out p h).2))

  opens_is : begins_with_act (start_at (act_points (legs p)) (wait_points (legs p))) ≡ is_act (R.leg 0)
  opens_is = elim (cases_Bool (is_act (R.leg 0))) [
    | inl is ↦
        let one : is_in 1 (act_points L) ≡ true = subst (λ (x : ℕ). is_in x (act_points L) ≡ true) R.begin (in_points is_act L (R.leg 0) (R.among 0) is) in
        ap (λ (b : Bool). begins_with_act (if b then start.Act (index_of 1 (act_points L)) else start.Wait (index_of 1 (wait_points L)))) one ∙ sym is
    | inr none ↦
        let no_act : is_in 1 (act_points L) ≡ false = elim (cases_Bool (is_in 1 (act_points L))) [
          | inl there ↦
              let (l, a, is, from) = points_in is_act L 1 there in
              absurd (true≢false (sym is ∙ ap is_act (R.lone l (R.leg 0) a (R.among 0) (from ∙ sym R.begin)) ∙ none))
          | inr away ↦ away
        ] in
        ap (λ (b : Bool). begins_with_act (if b then start.Act (index_of 1 (act_points L)) else start.Wait (index_of 1 (wait_points L)))) no_act ∙ sym none
  ]

  bit_low : (b : Bool) → bit b ≤ 1
  bit_low true = omega arith
  bit_low false = omega arith

  burst_as : numbers (first_burst (bursts_of (legs p))) ≡ symbols (R.leg (bit (is_act (R.leg 0)))).marks
  burst_as =
      let inputs : length (inputs_of L) ≡ pow e = inputs_long out p h chart home homes rounds e many in
      let z : get_or (inputs_of L) 0 d ≡ R.leg (bit (is_act (R.leg 0))) =
      first_input (is_act d) (is_act d) L d alternates (omega (arith, pow_some e)) ∙ ap (λ b. get_or L (bit b) d) (sym first_is)
      ∙ sym (leg_small (bit (is_act (R.leg 0))) (omega (arith, pow_some e, bit_low (is_act (R.leg 0))))) in
      ap numbers (burst_first (inputs_of L) d (omega (arith, pow_some e))) ∙ numbers_syms (get_or (inputs_of L) 0 d).marks ∙ ap (λ (l : Leg). symbols l.marks) z

  pub acts_are : length (acts_of (legs p)) ≡ pow e
  acts_are = omega (arith, acts_long (is_act d) (is_act d) L alternates, inputs_long out p h chart home homes rounds e many, long out p h chart home homes rounds e many)

  act_at : (y : ℕ) → y < pow e → get_or (acts_of (legs p)) y d ≡ R.leg (y + y + (1 - bit (is_act (R.leg 0))))
  act_at y low =
      act_get (is_act d) (is_act d) L d alternates y (omega (arith, acts_are)) ∙ ap (λ b. get_or L (y + y + (1 - bit b)) d) (sym first_is)
      ∙ sym (leg_small (y + y + (1 - bit (is_act (R.leg 0)))) (omega (arith, low)))

  outs_as : (y : ℕ) → y < pow e → outs_at (map (act (legs p)) (acts_of (legs p))) y ≡ symbols (R.leg (y + y + (1 - bit (is_act (R.leg 0))))).marks
  outs_as y low = outs_get L (acts_of L) d y (omega (arith, acts_are)) ∙ ap (λ (l : Leg). symbols l.marks) (act_at y low)

  -- ---- the plan

  chart_out : Chart (legs p) (is_out (parts_of s (graph_of p) e))
  chart_out = record {
    increase = chart.increase;
    some = chart.some;
    dirs = λ l a among has. told.sides a (told.ports l a among has) ∙ chart.dirs l a among has;
    few = chart.few;
    lone = chart.lone;
    one = chart.one;
    leads = chart.leads;
  }

  abbrev plan_by : Bool → Plan
  plan_by b = plan_of (record { spec = s; levels = e; opens = b; burst = numbers (first_burst (bursts_of (legs p))); outs = outs_at (map (act (legs p)) (acts_of (legs p))) }) T

  sane_is : Sane (plan_of (parts_of s (graph_of p) e) T)
  sane_is = subst (λ b. Sane (plan_by b)) (sym opens_is) (sane (legs p) (is_out (parts_of s (graph_of p) e)) T e chart_out plays R
      (numbers (first_burst (bursts_of (legs p)))) (outs_at (map (act (legs p)) (acts_of (legs p)))) burst_as outs_as)

  sound_is : WebSound (web (plan_of (parts_of s (graph_of p) e) T))
  sound_is = subst (λ b. WebSound (web (plan_by b))) (sym opens_is)
      (sound (plan_by (is_act (R.leg 0)))
      (sane (legs p) (is_out (parts_of s (graph_of p) e)) T e chart_out plays R (numbers (first_burst (bursts_of (legs p)))) (outs_at (map (act (legs p)) (acts_of (legs p)))) burst_as outs_as)
      (Tale (legs p))
      (stories (legs p) (is_out (parts_of s (graph_of p) e)) T e chart_out plays R (numbers (first_burst (bursts_of (legs p)))) (outs_at (map (act (legs p)) (acts_of (legs p)))) burst_as outs_as))

  exact_is : WebExact (web (plan_of (parts_of s (graph_of p) e) T))
  exact_is = subst (λ b. WebExact (web (plan_by b))) (sym opens_is)
      (exact (plan_by (is_act (R.leg 0)))
      (sane (legs p) (is_out (parts_of s (graph_of p) e)) T e chart_out plays R (numbers (first_burst (bursts_of (legs p)))) (outs_at (map (act (legs p)) (acts_of (legs p)))) burst_as outs_as)
      (Tale (legs p))
      (stories (legs p) (is_out (parts_of s (graph_of p) e)) T e chart_out plays R (numbers (first_burst (bursts_of (legs p)))) (outs_at (map (act (legs p)) (acts_of (legs p)))) burst_as outs_as))

  -- ---- the lists of the parts

  abbrev burst_leg : Leg
  burst_leg = R.leg (bit (is_act (R.leg 0)))

  abbrev act_leg : ℕ → Leg
  act_leg y = R.leg (y + y + (1 - bit (is_act (R.leg 0))))

  burst_has : (a : ℕ) → is_in a (numbers (first_burst (bursts_of (legs p)))) ≡ true → Has burst_leg a
  burst_has a i = subst (λ xs. is_in a xs ≡ true) burst_as i

  outs_has : (y a : ℕ) → y < pow e → is_in a (outs_at (map (act (legs p)) (acts_of (legs p))) y) ≡ true → Has (act_leg y) a
  outs_has y a low i = subst (λ xs. is_in a xs ≡ true) (outs_as y low) i

  symbols_some : (ms : List Mark) → 0 < length ms → 0 < length (symbols ms)
  symbols_some [] i = absurd (omega arith)
  symbols_some (m ∷ ms) i = omega arith

  -- the burst is taken, and acts give
  burst_in : is_act burst_leg ≡ false
  burst_in = at (is_act (R.leg 0)) refl
    where
      at : (b : Bool) → is_act (R.leg 0) ≡ b → is_act (R.leg (bit b)) ≡ false
      at true i = R.turns 0 ∙ ap not i
      at false i = i

  act_out : (y : ℕ) → is_act (act_leg y) ≡ true
  act_out zero = at (is_act (R.leg 0)) refl
    where
      at : (b : Bool) → is_act (R.leg 0) ≡ b → is_act (R.leg (0 + 0 + (1 - bit b))) ≡ true
      at true i = i
      at false i = R.turns 0 ∙ ap not i
  act_out (suc y) =
      let c : ℕ = 1 - bit (is_act (R.leg 0)) in
      let z : suc y + suc y + c ≡ suc (suc (y + y + c)) = omega arith in
      ap (λ i. is_act (R.leg i)) z ∙ R.turns (suc (y + y + c)) ∙ ap not (R.turns (y + y + c)) ∙ ap (λ b. not (not b)) (act_out y)

  -- each act is one of these
  act_found : (l : Leg) → Among (legs p) l → is_act l ≡ true → (y : ℕ) × (y < pow e) × (l ≡ act_leg y)
  act_found l among is =
      let (y, low, at) = one_at (acts_of L) l d (one_filter is_act L l among is) in
      let less : y < pow e = omega (arith, acts_are) in
      (y, less, sym at ∙ act_at y less)

  pub fine : Fine (parts_of s (graph_of p) e) T
  fine = record {
    some_levels = some_levels;
    burst_some = subst (λ (xs : List ℕ). 0 < length xs) (sym burst_as) (symbols_some burst_leg.marks (chart.some burst_leg (R.among (bit (is_act (R.leg 0))))));
    outs_some = λ y low. subst (λ (xs : List ℕ). 0 < length xs) (sym (outs_as y low))
        (symbols_some (act_leg y).marks (chart.some (act_leg y) (R.among (y + y + (1 - bit (is_act (R.leg 0)))))));
    burst_in = λ a i.
        let has = burst_has a i in
        (told.ports burst_leg a (R.among (bit (is_act (R.leg 0)))) has, chart_out.dirs burst_leg a (R.among (bit (is_act (R.leg 0)))) has ∙ burst_in);
    outs_in = λ y a low i.
        let has = outs_has y a low i in
        let among = R.among (y + y + (1 - bit (is_act (R.leg 0)))) in
        (told.ports (act_leg y) a among has, chart_out.dirs (act_leg y) a among has ∙ act_out y);
    covers_in = λ a low no_out.
        let (l, among, has) = told.covers a low in
        let input : is_act l ≡ false = sym (chart_out.dirs l a among has) ∙ no_out in
        subst (λ xs. is_in a xs ≡ true) (sym burst_as) (R.sole l burst_leg a among (R.among (bit (is_act (R.leg 0)))) input burst_in has);
    covers_out = λ a low yes_out.
        let (l, among, has) = told.covers a low in
        let output : is_act l ≡ true = sym (chart_out.dirs l a among has) ∙ yes_out in
        let (y, less, is) = act_found l among output in
        (y, less, subst (λ xs. is_in a xs ≡ true) (sym (outs_as y less)) (subst (λ m. Has m a) is has));
    burst_once = subst Distinct (sym burst_as) (once_list (symbols burst_leg.marks) (λ a. chart.few burst_leg a (R.among (bit (is_act (R.leg 0))))));
    outs_once = λ y low. subst Distinct (sym (outs_as y low)) (once_list (symbols (act_leg y).marks) (λ a. chart.few (act_leg y) a (R.among (y + y + (1 - bit (is_act (R.leg 0)))))));
    burst_narrow = subst (λ (xs : List ℕ). length xs < 2 ^ 27) (sym burst_as) (narrow burst_leg (R.among (bit (is_act (R.leg 0)))));
    outs_narrow = λ y low. subst (λ (xs : List ℕ). length xs < 2 ^ 27) (sym (outs_as y low)) (narrow (act_leg y) (R.among (y + y + (1 - bit (is_act (R.leg 0))))));
    acts_few = acts_few;
    formed = told.formed;
    traces = told.traces;
    empty = told.empty;
    closed = told.closed;
    known = told.known;
  }

  pub process_right : Implements (charted (rounds_chart (parts_of s (graph_of p) e))) s
  process_right = rounds_right (parts_of s (graph_of p) e) T fine sane_is sound_is exact_is

  pub process_ready : length (lines (parts_of s (graph_of p) e)) < 2 ^ 20 → IsReady (parts_of s (graph_of p) e)
  process_ready few = ready (parts_of s (graph_of p) e) T fine sane_is few
