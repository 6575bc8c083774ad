-- The story of a process in rounds: its legs are one ring, in which bursts and acts take turns.
use Rattle.std.specs.Prelude.{nat_eq, not, IsTrue, if◌then◌else◌}
use Rattle.std.proofs.Common.{eq-eqb, ne_eqb, ◌≡◌, ℕ, zero, suc, ◌+◌, ◌-◌, ◌*◌, ◌<◌, ◌≤◌, Bool, true, false, true≢false, List, [], ◌∷◌, ◌++◌, length, ◌⊎◌, inl, inr, refl, sym, ap, subst, ◌∙◌, arith}
use Rattle.std.proofs.lemmas.Bool.{cases_lt, cases_eq, cases_Bool}
use Rattle.cmd_tree.specs.declared.tree.Mark.{Mark}
use Rattle.cmd_tree.specs.Lists.{is_in}
use Rattle.cmd_tree.specs.Meaning.{symbols}
use Rattle.basic_kinds.specs.Totals.{total}
use Rattle.basic_kinds.proofs.Totals.{total_le}
use Rattle.place_graph.specs.declared.leg.Leg.{Leg}
use Rattle.place_graph.specs.Points.{Among}
use Rattle.place_graph.specs.Graph.{is_act}
use Rattle.place_graph.specs.Tale.{one_if, times, Tale, Chain}
use Rattle.place_graph.specs.Chart.{Has, Chart, Plays, Under, Grows}
use Rattle.place_graph.proofs.Sums.{in_from_times, times_from_in, one_same, one_other}
use Rattle.plain_split.specs.RoundsNet.{Path, Top, Odd, Even, depth, share, pow, first_at, leaf, act_after, burst_before}
use Rattle.plain_split.proofs.RoundsPlan.{Plan, when, sum_over, Story, allowed, Stories, Sane, Took, Gave}
use Rattle.plain_split.proofs.RoundsWeb.{sum_some}
use Rattle.plain_split.proofs.RoundsDeal.{pow_some, first_low, leaf_deep, leaf_first, first_leaf, Dealt, dealt, dealt_one, dealt_here, dealt_away, dealt_later, dealt_wrap}

-- The legs, around and around: a burst and an act take turns, and all bursts have the same symbols.
pub record Ring (L : List Leg) (e : ℕ) : Type 0 where
  pub leg : ℕ → Leg
  pub among : (i : ℕ) → Among L (leg i)
  pub begin : (leg 0).from ≡ 1
  pub onward : (i : ℕ) → (leg i).to ≡ (leg (suc i)).from
  pub around : (i : ℕ) → leg (i + (pow e + pow e)) ≡ leg i
  pub turns : (i : ℕ) → is_act (leg (suc i)) ≡ not (is_act (leg i))
  pub lone : (l m : Leg) → Among L l → Among L m → l.from ≡ m.from → l ≡ m
  pub sole : (l m : Leg) (a : ℕ) → Among L l → Among L m → is_act l ≡ false → is_act m ≡ false → Has l a → Has m a

abbrev pub bit : Bool → ℕ
bit true = 1
bit false = 0

abbrev pub opened_by : Bool → ℕ → ℕ
opened_by true zero = 1
opened_by true (suc y) = 0
opened_by false y = 0

abbrev now : Bool → Bool → ℕ → ℕ
now true true n = n
now true false n = 0
now false b n = 0

share_none : (p : Path) → share p 0 ≡ 0
share_none Top = refl
share_none (Odd p) = let z = share_none p in omega arith
share_none (Even p) = let z = share_none p in omega arith

-- a number by quotient and remainder
split : (k m : ℕ) → 0 < k → (q : ℕ) × (r : ℕ) × (m ≡ k * q + r) × (r < k)
split k zero h = (0, 0, omega arith, h)
split k (suc m) h =
    let (q, r, e, low) = split k m h in
    elim (cases_lt (suc r) k) [
      | inl less ↦ (q, suc r, omega arith, less)
      | inr last ↦
          let z : k * suc q ≡ k * q + k = omega arith in
          (suc q, 0, omega arith, h)
    ]

-- where one part alone is one more
total_near : (k : ℕ) (u v : ℕ → ℕ) (j : ℕ) → v j ≤ suc (u j) → ((i : ℕ) → i < k → (i ≡ j → ⊥) → v i ≤ u i) → total k v ≤ suc (total k u)
unfolding total
total_near zero u v j one h = omega arith
total_near (suc k) u v j one h = elim (cases_eq k j) [
  | inl same ↦ omega (arith, ap u same, ap v same, total_le k v u (λ i low. h i (omega arith) (λ e. omega arith)))
  | inr ne ↦ omega (arith, h k (omega arith) ne, total_near k u v j one (λ i low. h i (omega arith)))
]

module _ (L : List Leg) (out : ℕ → Bool) (T : List ℕ → Type 0) (e : ℕ) (chart : Chart L out) (plays : Plays L T) (ring : Ring L e) (burst : List ℕ) (outs : ℕ → List ℕ)
    (burst_as : burst ≡ symbols (ring.leg (bit (is_act (ring.leg 0)))).marks)
    (outs_as : (y : ℕ) → y < pow e → outs y ≡ symbols (ring.leg (y + y + (1 - bit (is_act (ring.leg 0))))).marks) where
  takes_has : (a : ℕ) → is_in a burst ≡ true → Has (ring.leg (bit (is_act (ring.leg 0)))) a
  takes_has a h = subst (λ xs. is_in a xs ≡ true) burst_as h

  has_takes : (a : ℕ) → Has (ring.leg (bit (is_act (ring.leg 0)))) a → is_in a burst ≡ true
  has_takes a h = subst (λ xs. is_in a xs ≡ true) (sym burst_as) h

  gives_has : (y a : ℕ) → y < pow e → is_in a (outs y) ≡ true → Has (ring.leg (y + y + (1 - bit (is_act (ring.leg 0))))) a
  gives_has y a low h = subst (λ xs. is_in a xs ≡ true) (outs_as y low) h

  has_gives : (y a : ℕ) → y < pow e → Has (ring.leg (y + y + (1 - bit (is_act (ring.leg 0))))) a → is_in a (outs y) ≡ true
  has_gives y a low h = subst (λ xs. is_in a xs ≡ true) (sym (outs_as y low)) h

  abbrev k : ℕ
  k = pow e

  abbrev pub opens : Bool
  opens = is_act (ring.leg 0)

  abbrev one : ℕ
  one = bit (is_act (ring.leg 0))

  one_low : one ≤ 1
  one_low = at (is_act (ring.leg 0))
    where
      at : (b : Bool) → bit b ≤ 1
      at true = omega arith
      at false = omega arith

  -- how many of the first t legs are bursts, and how many are acts
  abbrev bursts_by : ℕ → ℕ
  bursts_by zero = 0
  bursts_by (suc t) = bit (not (is_act (ring.leg t))) + bursts_by t

  abbrev acts_by : ℕ → ℕ
  acts_by zero = 0
  acts_by (suc t) = bit (is_act (ring.leg t)) + acts_by t

  all_by : (t : ℕ) → acts_by t + bursts_by t ≡ t
  all_by zero = refl
  all_by (suc t) = omega (arith, all_by t, at (is_act (ring.leg t)))
    where
      at : (b : Bool) → bit b + bit (not b) ≡ 1
      at true = refl
      at false = refl

  abbrev Phase : Bool → ℕ → ℕ → Type 0
  Phase false m n = m ≡ n + one
  Phase true m n = suc m ≡ n + one

  phase : (t : ℕ) → Phase (is_act (ring.leg t)) (acts_by t) (bursts_by t)
  phase zero = at (is_act (ring.leg 0)) refl
    where
      at : (b : Bool) → is_act (ring.leg 0) ≡ b → Phase b 0 0
      at true h = omega (arith, ap bit h)
      at false h = omega (arith, ap bit h)
  phase (suc t) = subst (λ b. Phase b (acts_by (suc t)) (bursts_by (suc t))) (sym (ring.turns t)) (at (is_act (ring.leg t)) (phase t))
    where
      at : (b : Bool) → Phase b (acts_by t) (bursts_by t) → Phase (not b) (bit b + acts_by t) (bit (not b) + bursts_by t)
      at true h = omega arith
      at false h = omega arith

  taking : (t : ℕ) → is_act (ring.leg t) ≡ false → acts_by t ≡ bursts_by t + one
  taking t h = subst (λ b. Phase b (acts_by t) (bursts_by t)) h (phase t)

  giving : (t : ℕ) → is_act (ring.leg t) ≡ true → suc (acts_by t) ≡ bursts_by t + one
  giving t h = subst (λ b. Phase b (acts_by t) (bursts_by t)) h (phase t)

  abbrev act_leg : ℕ → Leg
  act_leg y = ring.leg (y + y + (1 - one))

  abbrev burst_leg : Leg
  burst_leg = ring.leg one

  burst_is : is_act (ring.leg (bit (is_act (ring.leg 0)))) ≡ false
  burst_is = at (is_act (ring.leg 0)) refl
    where
      at : (b : Bool) → is_act (ring.leg 0) ≡ b → is_act (ring.leg (bit b)) ≡ false
      at true h = ring.turns 0 ∙ ap not h
      at false h = h

  act_is : (y : ℕ) → is_act (act_leg y) ≡ true
  act_is zero = at (is_act (ring.leg 0)) refl
    where
      at : (b : Bool) → is_act (ring.leg 0) ≡ b → is_act (ring.leg (0 + 0 + (1 - bit b))) ≡ true
      at true h = h
      at false h = ring.turns 0 ∙ ap not h
  act_is (suc y) =
      let z : suc y + suc y + (1 - one) ≡ suc (suc (y + y + (1 - one))) = omega arith in
      ap (λ i. is_act (ring.leg i)) z ∙ ring.turns (suc (y + y + (1 - one))) ∙ ap not (ring.turns (y + y + (1 - one))) ∙ ap (λ b. not (not b)) (act_is y)

  act_around : (q r : ℕ) → act_leg (k * q + r) ≡ act_leg r
  act_around zero r = let z : k * 0 + r ≡ r = omega arith in ap act_leg z
  act_around (suc q) r =
      let m : ℕ = k * q + r in
      let z : k * suc q + r + (k * suc q + r) + (1 - one) ≡ m + m + (1 - one) + (k + k) = omega (arith, let y : k * suc q ≡ k * q + k = omega arith in y) in
      ap ring.leg z ∙ ring.around (m + m + (1 - one)) ∙ act_around q r

  -- which act comes next after m acts
  abbrev turn : ℕ → ℕ
  turn m = (split k m (pow_some e)).1

  turn_low : (m : ℕ) → turn m < k
  turn_low m = (split k m (pow_some e)).3

  turn_is : (m : ℕ) → m ≡ k * (split k m (pow_some e)).0 + turn m
  turn_is m = (split k m (pow_some e)).2

  turn_leg : (t : ℕ) → is_act (ring.leg t) ≡ true → act_leg (turn (acts_by t)) ≡ ring.leg t
  turn_leg t h =
      let m : ℕ = acts_by t in
      let z : m + m + (1 - one) ≡ t = omega (arith, giving t h, all_by t, one_low) in
      sym (act_around (split k m (pow_some e)).0 (turn m)) ∙ sym (ap act_leg (turn_is m)) ∙ ap ring.leg z

  -- ---- how often each act has come

  dealt_leaf : (y n : ℕ) → y < k → Dealt k y n (share (leaf e y) n)
  dealt_leaf y n low = subst (λ d. Dealt (pow d) y n (share (leaf e y) n)) (leaf_deep e y) (subst (λ r. Dealt (pow (depth (leaf e y))) r n (share (leaf e y) n)) (leaf_first e y low) (dealt (leaf e y) n))

  comes_here : (m : ℕ) → share (leaf e (turn m)) (suc m) ≡ suc (share (leaf e (turn m)) m)
  comes_here m =
      let q : ℕ = (split k m (pow_some e)).0 in
      let y : ℕ = turn m in
      let old : Dealt k y (k * q + y) (share (leaf e y) m) = subst (λ n. Dealt k y n (share (leaf e y) m)) (turn_is m) (dealt_leaf y m (turn_low m)) in
      let new : Dealt k y (suc (k * q + y)) (share (leaf e y) (suc m)) = subst (λ n. Dealt k y (suc n) (share (leaf e y) (suc m))) (turn_is m) (dealt_leaf y (suc m) (turn_low m)) in
      dealt_one k y (suc (k * q + y)) (share (leaf e y) (suc m)) (suc (share (leaf e y) m)) new (dealt_here k q y (share (leaf e y) m) (pow_some e) old)

  comes_away : (m x : ℕ) → x < k → (x ≡ turn m → ⊥) → share (leaf e x) (suc m) ≡ share (leaf e x) m
  comes_away m x low ne =
      let q : ℕ = (split k m (pow_some e)).0 in
      let y : ℕ = turn m in
      let old : Dealt k x (k * q + y) (share (leaf e x) m) = subst (λ n. Dealt k x n (share (leaf e x) m)) (turn_is m) (dealt_leaf x m low) in
      let new : Dealt k x (suc (k * q + y)) (share (leaf e x) (suc m)) = subst (λ n. Dealt k x (suc n) (share (leaf e x) (suc m))) (turn_is m) (dealt_leaf x (suc m) low) in
      dealt_one k x (suc (k * q + y)) (share (leaf e x) (suc m)) (share (leaf e x) m) new (dealt_away k q y x (share (leaf e x) m) (turn_low m) low ne old)

  -- ---- the acts and the places before them

  abbrev entry : ℕ → Path
  entry y = leaf e (burst_before (is_act (ring.leg 0)) k y)

  allowed_is : (y n : ℕ) → y < k → opened_by (is_act (ring.leg 0)) y + share (entry y) n ≡ share (leaf e y) (n + one)
  allowed_is y n low = at (is_act (ring.leg 0)) y low
    where
      at : (b : Bool) (y : ℕ) → y < k → opened_by b y + share (leaf e (burst_before b k y)) n ≡ share (leaf e y) (n + bit b)
      at false y low = let z : n + 0 ≡ n = omega arith in omega (arith, ap (share (leaf e y)) z)
      at true zero low =
          let z : n + 1 ≡ suc n = omega arith in
          let new = dealt_wrap k (k - 1) n (share (leaf e (k - 1)) n) (omega arith) (dealt_leaf (k - 1) n (omega arith)) in
          omega (arith, ap (share (leaf e 0)) z, dealt_one k 0 (suc n) (suc (share (leaf e (k - 1)) n)) (share (leaf e 0) (suc n)) new (dealt_leaf 0 (suc n) low))
      at true (suc y) low =
          let z : n + 1 ≡ suc n = omega arith in
          let new = dealt_later k y n (share (leaf e y) n) (dealt_leaf y n (omega arith)) in
          omega (arith, ap (share (leaf e (suc y))) z, dealt_one k (suc y) (suc n) (share (leaf e y) n) (share (leaf e (suc y)) (suc n)) new (dealt_leaf (suc y) (suc n) low))

  after_low : (b : Bool) (r : ℕ) → r < k → act_after b k r < k
  after_low false r low = low
  after_low true r low = elim (cases_eq (suc r) k) [
    | inl is ↦ let z : (if nat_eq (suc r) k then 0 else suc r) ≡ 0 = rw (eq-eqb (suc r) k is) refl in omega (arith, pow_some e)
    | inr ne ↦ let z : (if nat_eq (suc r) k then 0 else suc r) ≡ suc r = rw (ne_eqb (suc r) k ne) refl in omega arith
  ]

  before_after : (b : Bool) (r : ℕ) → r < k → burst_before b k (act_after b k r) ≡ r
  before_after false r low = refl
  before_after true r low = elim (cases_eq (suc r) k) [
    | inl is ↦ let z : (if nat_eq (suc r) k then 0 else suc r) ≡ 0 = rw (eq-eqb (suc r) k is) refl in ap (burst_before true k) z ∙ omega arith
    | inr ne ↦ let z : (if nat_eq (suc r) k then 0 else suc r) ≡ suc r = rw (ne_eqb (suc r) k ne) refl in ap (burst_before true k) z
  ]

  before_low : (b : Bool) (y : ℕ) → y < k → burst_before b k y < k
  before_low false y low = low
  before_low true zero low = omega arith
  before_low true (suc y) low = omega arith

  after_before : (b : Bool) (y : ℕ) → y < k → act_after b k (burst_before b k y) ≡ y
  after_before false y low = refl
  after_before true zero low = rw (eq-eqb (suc (k - 1)) k (omega arith)) refl
  after_before true (suc y) low = rw (ne_eqb (suc y) k (λ i. omega arith)) refl

  abbrev pub plan : Plan
  plan = record {
    acts = pow e;
    levels = e;
    takes = λ a. is_in a burst;
    gives = λ y a. is_in a (outs y);
    out = out;
    opened = opened_by (is_act (ring.leg 0));
    act_at = λ p. act_after (is_act (ring.leg 0)) (pow e) (first_at p);
    entry = λ y. leaf e (burst_before (is_act (ring.leg 0)) (pow e) y);
    traces = T;
  }

  first_sym : (l : Leg) → Among L l → (a : ℕ) × Has l a
  first_sym l among = at l.marks (chart.some l among)
    where
      at : (ms : List Mark) → 0 < length ms → (a : ℕ) × IsTrue (is_in a (symbols ms))
      at [] h = absurd (omega arith)
      at (m ∷ ms) h = (m.sym.0, in_from_times m.sym.0 (symbols (m ∷ ms)) (omega (arith, one_same m.sym.0 m.sym.0 refl)))

  pub sane : Sane plan
  sane = record {
    ins = λ a h. chart.dirs burst_leg a (ring.among one) (takes_has a h) ∙ burst_is;
    outs = λ y a low h. chart.dirs (act_leg y) a (ring.among (y + y + (1 - one))) (gives_has y a low h) ∙ act_is y;
    some = λ y low. let (a, has) = first_sym (act_leg y) (ring.among (y + y + (1 - one))) in (a, has_gives y a low has);
    act_low = λ p deep. after_low (is_act (ring.leg 0)) (first_at p) (omega (arith, first_low p, ap pow deep));
    entry_back = λ p deep.
        ap (leaf e) (before_after (is_act (ring.leg 0)) (first_at p) (omega (arith, first_low p, ap pow deep)))
        ∙ ap (λ d. leaf d (first_at p)) (sym deep) ∙ first_leaf p;
    act_back = λ y low.
        ap (act_after (is_act (ring.leg 0)) k) (leaf_first e (burst_before (is_act (ring.leg 0)) k y) (before_low (is_act (ring.leg 0)) y low))
        ∙ after_before (is_act (ring.leg 0)) y low;
    entry_deep = λ y low. leaf_deep e (burst_before (is_act (ring.leg 0)) k y);
  }

  -- ---- the story where t legs are completed

  abbrev shown_by : ℕ → (ℕ → ℕ) → ℕ → ℕ → ℕ
  shown_by t came y a = share (leaf e y) (acts_by t) + now (is_act (ring.leg t)) (nat_eq y (turn (acts_by t))) (came a)

  shown_taking : (t : ℕ) (came : ℕ → ℕ) → is_act (ring.leg t) ≡ false → (y a : ℕ) → shown_by t came y a ≡ share (leaf e y) (acts_by t)
  shown_taking t came h y a = let z : now (is_act (ring.leg t)) (nat_eq y (turn (acts_by t))) (came a) ≡ 0 = rw h refl in omega arith

  shown_here : (t : ℕ) (came : ℕ → ℕ) → is_act (ring.leg t) ≡ true → (a : ℕ)
      → shown_by t came (turn (acts_by t)) a ≡ share (leaf e (turn (acts_by t))) (acts_by t) + came a
  shown_here t came h a =
      let y : ℕ = turn (acts_by t) in
      let z : now (is_act (ring.leg t)) (nat_eq y y) (came a) ≡ came a = rw (h, eq-eqb y y refl) refl in omega arith

  shown_away : (t : ℕ) (came : ℕ → ℕ) → is_act (ring.leg t) ≡ true → (y a : ℕ) → (y ≡ turn (acts_by t) → ⊥) → shown_by t came y a ≡ share (leaf e y) (acts_by t)
  shown_away t came h y a ne =
      let z : now (is_act (ring.leg t)) (nat_eq y (turn (acts_by t))) (came a) ≡ 0 = rw (h, ne_eqb y (turn (acts_by t)) ne) refl in omega arith

  abbrev answered_by : Bool → ℕ → ℕ
  answered_by true n = n - 1
  answered_by false n = n

  module _ (t : ℕ) (came : ℕ → ℕ) (few : (a : ℕ) → came a ≤ 1) (under : ((a : ℕ) → came a ≡ 0) ⊎ Under L (ring.leg t).from came) where
    abbrev allow : ℕ → ℕ
    allow y = opened_by (is_act (ring.leg 0)) y + share (entry y) (bursts_by t)

    allow_taking : is_act (ring.leg t) ≡ false → (y : ℕ) → y < k → allow y ≡ share (leaf e y) (acts_by t)
    allow_taking h y low = allowed_is y (bursts_by t) low ∙ ap (share (leaf e y)) (sym (taking t h))

    allow_giving : is_act (ring.leg t) ≡ true → (y : ℕ) → y < k → allow y ≡ share (leaf e y) (suc (acts_by t))
    allow_giving h y low = allowed_is y (bursts_by t) low ∙ ap (share (leaf e y)) (sym (giving t h))

    -- between what was shown and what is allowed
    record Between (y a : ℕ) : Type 0 where
      most : shown_by t came y a ≤ allow y
      ahead : allow y ≤ suc (shown_by t came y a)
      even : (y ≡ turn (acts_by t) → ⊥) ⊎ (is_act (ring.leg t) ≡ false) → allow y ≡ shown_by t came y a
      gap : is_act (ring.leg t) ≡ true → y ≡ turn (acts_by t) → allow y + came a ≡ suc (shown_by t came y a)

    between : (y a : ℕ) → y < k → Between y a
    between y a low = elim (cases_Bool (is_act (ring.leg t))) [
      | inl act ↦ elim (cases_eq y (turn (acts_by t))) [
        | inl is ↦
            let here : shown_by t came y a ≡ share (leaf e y) (acts_by t) + came a =
            subst (λ (x : ℕ). shown_by t came x a ≡ share (leaf e x) (acts_by t) + came a) (sym is) (shown_here t came act a) in
            let comes : share (leaf e y) (suc (acts_by t)) ≡ suc (share (leaf e y) (acts_by t)) =
            subst (λ (x : ℕ). share (leaf e x) (suc (acts_by t)) ≡ suc (share (leaf e x) (acts_by t))) (sym is) (comes_here (acts_by t)) in
            record {
              most = omega (arith, here, comes, allow_giving act y low, few a);
              ahead = omega (arith, here, comes, allow_giving act y low, few a);
              even = λ o. absurd (elim o [ inl ne ↦ ne is | inr no_act ↦ true≢false (sym act ∙ no_act) ]);
              gap = λ i j. omega (arith, here, comes, allow_giving act y low);
            }
        | inr ne ↦
            let here = shown_away t came act y a ne in
            let comes = comes_away (acts_by t) y low ne in
            record {
              most = omega (arith, here, comes, allow_giving act y low);
              ahead = omega (arith, here, comes, allow_giving act y low);
              even = λ o. omega (arith, here, comes, allow_giving act y low);
              gap = λ i j. absurd (ne j);
            }
      ]
      | inr none ↦
          let here = shown_taking t came none y a in
          record {
            most = omega (arith, here, allow_taking none y low);
            ahead = omega (arith, here, allow_taking none y low);
            even = λ o. omega (arith, here, allow_taking none y low);
            gap = λ i j. absurd (true≢false (sym i ∙ none));
          }
    ]

    under_is : (u : Under L (ring.leg t).from came) → u.leg ≡ ring.leg t
    under_is u = ring.lone u.leg (ring.leg t) u.among (ring.among t) u.from

    -- while an act is under way no symbol of the burst comes
    quiet : is_act (ring.leg t) ≡ true → (a : ℕ) → Has burst_leg a → came a ≡ 0
    quiet act a has = elim (cases_eq (came a) 0) [
      | inl z ↦ z
      | inr some ↦ elim under [
        | inl none ↦ none a
        | inr u ↦
            let of : Has (ring.leg t) a = subst (λ l. Has l a) (under_is u) (u.of_it a some) in
            absurd (true≢false (sym act ∙ sym (chart.dirs (ring.leg t) a (ring.among t) of) ∙ chart.dirs burst_leg a (ring.among one) has ∙ burst_is))
      ]
    ]

    left_sym : (a : ℕ) × Has burst_leg a × (came a ≡ 0)
    left_sym =
        let (b, has) = first_sym burst_leg (ring.among one) in
        elim (cases_Bool (is_act (ring.leg t))) [
          | inl act ↦ (b, has, quiet act b has)
          | inr none ↦ elim under [
            | inl all ↦ (b, has, all b)
            | inr u ↦ (
              u.left,
              ring.sole (ring.leg t) burst_leg u.left (ring.among t) (ring.among one) none burst_is (subst (λ l. Has l u.left) (under_is u) u.of_left),
              u.to_come,
            )
          ]
        ]

    least_by : (y a : ℕ) → y < k → share (entry y) (answered_by (is_act (ring.leg t)) (bursts_by t)) ≤ shown_by t came y a - opened_by (is_act (ring.leg 0)) y
    least_by y a low = elim (cases_Bool (is_act (ring.leg t))) [
      | inl act ↦ subst (λ b. share (entry y) (answered_by b (bursts_by t)) ≤ shown_by t came y a - opened_by (is_act (ring.leg 0)) y) (sym act) (before (bursts_by t) refl act)
      | inr none ↦ subst (λ b. share (entry y) (answered_by b (bursts_by t)) ≤ shown_by t came y a - opened_by (is_act (ring.leg 0)) y) (sym none)
          (omega (arith, (between y a low).even (inr none)))
    ]
      where
        acts_shown : share (leaf e y) (acts_by t) ≤ shown_by t came y a
        acts_shown = omega arith

        before : (n : ℕ) → bursts_by t ≡ n → is_act (ring.leg t) ≡ true → share (entry y) (n - 1) ≤ shown_by t came y a - opened_by (is_act (ring.leg 0)) y
        before zero i act = omega (arith, share_none (entry y))
        before (suc n) i act =
            let z : suc n - 1 ≡ n = omega arith in
            let m : n + one ≡ acts_by t = omega (arith, giving t act) in
            omega (arith, acts_shown, allowed_is y n low, ap (share (leaf e y)) m, ap (share (entry y)) z)

    pub story_of : Story plan
    story_of = record {
      bursts = bursts_by t;
      answered = answered_by (is_act (ring.leg t)) (bursts_by t);
      came = came;
      shown = shown_by t came;
      left = left_sym.0;
      near = near (is_act (ring.leg t)) (bursts_by t);
      next = next (is_act (ring.leg t)) (bursts_by t);
      few = λ a h. few a;
      still = λ a h some. elim (cases_Bool (is_act (ring.leg t))) [
        | inl act ↦ absurd (omega (arith, quiet act a (takes_has a h)))
        | inr none ↦ ap (λ b. answered_by b (bursts_by t)) none
      ];
      left_takes = has_takes left_sym.0 left_sym.1;
      left_none = left_sym.2;
      least = λ y a low h. least_by y a low;
      most = λ y a low h. (between y a low).most;
      ahead = λ y a low h. (between y a low).ahead;
      one_ahead = λ a. total_near k (λ y. when (is_in a (outs y)) (shown_by t came y a)) (λ y. when (is_in a (outs y)) (allow y)) (turn (acts_by t))
          (when_suc (is_in a (outs (turn (acts_by t)))) (shown_by t came (turn (acts_by t)) a) (allow (turn (acts_by t))) (between (turn (acts_by t)) a (turn_low (acts_by t))).ahead)
          (λ y low ne. when_le (is_in a (outs y)) (allow y) (shown_by t came y a) (omega (arith, (between y a low).even (inl ne))));
    }
      where
        near : (b : Bool) (n : ℕ) → answered_by b n ≤ n
        near true n = omega arith
        near false n = omega arith

        next : (b : Bool) (n : ℕ) → n ≤ suc (answered_by b n)
        next true n = omega arith
        next false n = omega arith

        when_suc : (b : Bool) (m n : ℕ) → n ≤ suc m → when b n ≤ suc (when b m)
        when_suc true m n h = h
        when_suc false m n h = omega arith

        when_le : (b : Bool) (m n : ℕ) → m ≤ n → when b m ≤ when b n
        when_le true m n h = h
        when_le false m n h = omega arith

  -- ---- the stories of tales

  tale_at : (past : List Leg) (here : ℕ) → Chain L 1 past here → here ≡ (ring.leg (length past)).from
  tale_at [] here c = sym c ∙ sym ring.begin
  tale_at (l ∷ past) here c =
      let z : l ≡ ring.leg (length past) = ring.lone l (ring.leg (length past)) c.0 (ring.among (length past)) (tale_at past l.from c.2) in
      sym c.1 ∙ ap (λ (m : Leg). m.to) z ∙ ring.onward (length past)

  at_here : (u : List ℕ) (w : Tale L u) → w.here ≡ (ring.leg (length w.past)).from
  at_here u w = tale_at w.past w.here w.chain

  abbrev came_of : (u : List ℕ) → Tale L u → ℕ → ℕ
  came_of u w = λ a. times a w.came

  pub under_of : (u : List ℕ) (w : Tale L u) → ((a : ℕ) → times a w.came ≡ 0) ⊎ Under L (ring.leg (length w.past)).from (λ a. times a w.came)
  under_of u w = subst (λ x. ((a : ℕ) → times a w.came ≡ 0) ⊎ Under L x (λ a. times a w.came)) (at_here u w) (plays.stands u w).under

  abbrev pub story : (u : List ℕ) → Tale L u → Story plan
  story u w = story_of (length w.past) (λ a. times a w.came) (plays.stands u w).few (under_of u w)

  once : (l : Leg) (a : ℕ) → Among L l → Has l a → times a (symbols l.marks) ≡ 1
  once l a among has = omega (arith, chart.few l a among, times_from_in a (symbols l.marks) has)

  module _ (u : List ℕ) (a : ℕ) (w : Tale L u) (trace : T (u ++ a ∷ [])) where
    abbrev t : ℕ
    t = length w.past

    abbrev step : Grows L u a w
    step = plays.grows u a w trace

    abbrev v : Tale L (u ++ a ∷ [])
    v = step.next

    abbrev l : Leg
    l = ring.leg (length w.past)

    leg_is : step.grown.leg ≡ ring.leg (length w.past)
    leg_is = ring.lone step.grown.leg (ring.leg t) step.grown.among (ring.among t) (step.grown.from ∙ at_here u w)

    has : Has (ring.leg (length w.past)) a
    has = subst (λ m. Has m a) leg_is step.grown.has

    within : (b : ℕ) → times b (a ∷ w.came) ≤ times b (symbols (ring.leg (length w.past)).marks)
    within b = subst (λ m. times b (a ∷ w.came) ≤ times b (symbols m.marks)) leg_is (step.grown.within b)

    none_before : times a w.came ≡ 0
    none_before = omega (arith, within a, one_same a a refl, chart.few l a (ring.among t))

    -- a symbol came of the leg under way, which is not complete, or it is complete
    abbrev Stays : Type 0
    Stays = (length v.past ≡ t) × ((b : ℕ) → times b v.came ≡ one_if b a + times b w.came)

    abbrev Ends : Type 0
    Ends = (length v.past ≡ suc t) × ((b : ℕ) → times b v.came ≡ 0) × ((b : ℕ) → times b (symbols l.marks) ≡ one_if b a + times b w.came)

    how : Stays ⊎ Ends
    how = at step.grown.how
      where
        at : ((v.past ≡ w.past) × (v.here ≡ w.here) × (v.came ≡ a ∷ w.came))
            ⊎ ((v.past ≡ step.grown.leg ∷ w.past) × (v.here ≡ step.grown.leg.to) × (v.came ≡ []) × ((b : ℕ) → times b (symbols step.grown.leg.marks) ≡ times b (a ∷ w.came)))
            → Stays ⊎ Ends
        at (inl (p, h, c)) = inl (ap (λ (x : List Leg). length x) p, λ b. ap (times b) c)
        at (inr (p, h, c, f)) = inr (
          ap (λ (x : List Leg). length x) p,
          (λ b. ap (times b) c),
          λ b. subst (λ m. times b (symbols m.marks) ≡ times b (a ∷ w.came)) leg_is (f b),
        )

    abbrev s : Story plan
    s = story u w

    abbrev n : Story plan
    n = story (u ++ a ∷ []) v

    took_of : is_act (ring.leg (length w.past)) ≡ false → Took plan s a n
    unfolding story_of
    took_of input = record {
      takes = has_takes a (ring.sole l burst_leg a (ring.among t) (ring.among one) input burst_is has);
      rests = ap (λ b. answered_by b (bursts_by t)) input;
      new = none_before;
      more = elim how [
        | inl (p, c) ↦ omega (arith, ap bursts_by p, c a, one_same a a refl)
        | inr (p, c, f) ↦ omega (arith, ap bursts_by p, c a, none_before, ap (λ b. bit (not b)) input)
      ];
      others = λ b h ne. elim how [
        | inl (p, c) ↦ omega (arith, ap bursts_by p, c b, one_other b a ne)
        | inr (p, c, f) ↦
            let of : Has l b = ring.sole burst_leg l b (ring.among one) (ring.among t) burst_is input (takes_has b h) in
            omega (arith, ap bursts_by p, c b, f b, one_other b a ne, once l b (ring.among t) of, ap (λ b. bit (not b)) input)
      ];
      same = λ y b low h. elim how [
        | inl (p, c) ↦
            let still : is_act (ring.leg (length v.past)) ≡ false = ap (λ i. is_act (ring.leg i)) p ∙ input in
            shown_taking (length v.past) (λ x. times x v.came) still y b ∙ ap (λ i. share (leaf e y) (acts_by i)) p
            ∙ sym (shown_taking t (λ x. times x w.came) input y b)
        | inr (p, c, f) ↦
            let same : acts_by (length v.past) ≡ acts_by t = omega (arith, ap acts_by p, ap bit input) in
            now_none (is_act (ring.leg (length v.past))) (nat_eq y (turn (acts_by (length v.past)))) (times b v.came) (c b) (share (leaf e y) (acts_by (length v.past)))
            ∙ ap (share (leaf e y)) same ∙ sym (shown_taking t (λ x. times x w.came) input y b)
      ];
    }
      where
        now_none : (c d : Bool) (m : ℕ) → m ≡ 0 → (i : ℕ) → i + now c d m ≡ i
        now_none true true m z i = omega arith
        now_none true false m z i = omega arith
        now_none false d m z i = omega arith

    gave_of : is_act (ring.leg (length w.past)) ≡ true → Gave plan s a n
    unfolding story_of
    gave_of is = record {
      act = y;
      low = turn_low (acts_by t);
      gives = has_gives y a (turn_low (acts_by t)) of;
      before = omega (arith, (between t (λ x. times x w.came) few under y a (turn_low (acts_by t))).gap is refl, none_before);
      more = elim how [
        | inl (p, c) ↦
            let act : is_act (ring.leg (length v.past)) ≡ true = ap (λ i. is_act (ring.leg i)) p ∙ is in
            let new : shown_by (length v.past) (λ x. times x v.came) y a ≡ share (leaf e y) (acts_by t) + times a v.came = stays p a in
            omega (arith, new, c a, one_same a a refl, none_before, old a)
        | inr (p, c, f) ↦ omega (arith, ends p c y a, comes_here (acts_by t), old a, none_before)
      ];
      others = λ z b low h ne. elim (cases_eq z y) [
        | inl here ↦
            let apart : b ≡ a → ⊥ = λ q. ne (here, q) in
            let given : Has l b = subst (λ m. Has m b) (turn_leg t is) (subst (λ (x : ℕ). Has (act_leg x) b) here (gives_has z b low h)) in
            subst (λ (x : ℕ). n.shown x b ≡ s.shown x b) (sym here) (elim how [
              | inl (p, c) ↦ omega (arith, stays p b, c b, one_other b a apart, old b)
              | inr (p, c, f) ↦ omega (arith, ends p c y b, comes_here (acts_by t), old b, f b, one_other b a apart, once l b (ring.among t) given)
            ])
        | inr away ↦ elim how [
          | inl (p, c) ↦
              let act : is_act (ring.leg (length v.past)) ≡ true = ap (λ i. is_act (ring.leg i)) p ∙ is in
              let m : acts_by (length v.past) ≡ acts_by t = ap acts_by p in
              shown_away (length v.past) (λ x. times x v.came) act z b (λ q. away (q ∙ ap turn m)) ∙ ap (share (leaf e z)) m ∙ sym (shown_away t (λ x. times x w.came) is z b away)
          | inr (p, c, f) ↦ omega (arith, ends p c z b, comes_away (acts_by t) z low away, shown_away t (λ x. times x w.came) is z b away)
        ]
      ];
      same = λ b h. elim how [
        | inl (p, c) ↦
            let apart : b ≡ a → ⊥ = λ q. never b (takes_has b h) (subst (λ x. Has l x) (sym q) has) in
            omega (arith, ap bursts_by p, c b, one_other b a apart)
        | inr (p, c, f) ↦
            omega (arith, ap bursts_by p, c b, quiet t (λ x. times x w.came) few under is b (takes_has b h), ap (λ b. bit (not b)) is)
      ];
    }
      where
        y : ℕ
        y = turn (acts_by t)

        few : (a : ℕ) → times a w.came ≤ 1
        few = (plays.stands u w).few

        under : ((a : ℕ) → times a w.came ≡ 0) ⊎ Under L (ring.leg (length w.past)).from (λ a. times a w.came)
        under = under_of u w

        of : IsTrue (is_in a (symbols (act_leg y).marks))
        of = subst (λ m. Has m a) (sym (turn_leg t is)) has

        old : (b : ℕ) → s.shown y b ≡ share (leaf e y) (acts_by t) + times b w.came
        old b = shown_here t (λ x. times x w.came) is b

        never : (b : ℕ) → Has burst_leg b → Has l b → ⊥
        never b i j = true≢false (sym is ∙ sym (chart.dirs l b (ring.among t) j) ∙ chart.dirs burst_leg b (ring.among one) i ∙ burst_is)

        stays : length v.past ≡ t → (b : ℕ) → shown_by (length v.past) (λ x. times x v.came) y b ≡ share (leaf e y) (acts_by t) + times b v.came
        stays p b = subst (λ i. shown_by i (λ x. times x v.came) y b ≡ share (leaf e y) (acts_by t) + times b v.came) (sym p) (shown_here t (λ x. times x v.came) is b)

        now_none : (c d : Bool) (m : ℕ) → m ≡ 0 → (i : ℕ) → i + now c d m ≡ i
        now_none true true m z i = omega arith
        now_none true false m z i = omega arith
        now_none false d m z i = omega arith

        ends : length v.past ≡ suc t → ((b : ℕ) → times b v.came ≡ 0) → (z b : ℕ) → shown_by (length v.past) (λ x. times x v.came) z b ≡ share (leaf e z) (suc (acts_by t))
        ends p c z b =
            let m : acts_by (length v.past) ≡ suc (acts_by t) = omega (arith, ap acts_by p, ap bit is) in
            now_none (is_act (ring.leg (length v.past))) (nat_eq z (turn (acts_by (length v.past)))) (times b v.came) (c b) (share (leaf e z) (acts_by (length v.past)))
            ∙ ap (share (leaf e z)) m

  shows_of : (u : List ℕ) (a : ℕ) (w : Tale L u) → sum_over plan a (λ y. (story u w).shown y a) < sum_over plan a (allowed plan (story u w)) → T (u ++ a ∷ [])
  unfolding story_of
  shows_of u a w less =
      let t : ℕ = length w.past in
      let came : ℕ → ℕ = λ x. times x w.came in
      let (y, low, gives, under) = sum_some plan a (λ y. (story u w).shown y a) (allowed plan (story u w)) less in
      let b = between t came (plays.stands u w).few (under_of u w) y a low in
      elim (cases_Bool (is_act (ring.leg t))) [
        | inl act ↦ elim (cases_eq y (turn (acts_by t))) [
          | inl is ↦
              let of : Has (ring.leg t) a = subst (λ m. Has m a) (turn_leg t act) (subst (λ (x : ℕ). Has (act_leg x) a) is (gives_has y a low gives)) in
              plays.shows u a w (ring.leg t) (ring.among t) (sym (at_here u w)) act of (omega (arith, b.gap act is, under))
          | inr ne ↦ absurd (omega (arith, b.even (inl ne), under))
        ]
        | inr none ↦ absurd (omega (arith, b.even (inr none), under))
      ]

  pub stories : Stories plan (Tale L)
  unfolding story_of
  stories = record {
    story = story;
    first = plays.first;
    first_bursts = ap (λ (x : List Leg). bursts_by (length x)) plays.first_past;
    first_came = λ a. ap (times a) plays.first_came;
    first_shown = λ y a. first_shown y a;
    took = λ u a w input trace. (v u a w trace, took_of u a w trace (sym (chart.dirs (ring.leg (length w.past)) a (ring.among (length w.past)) (has u a w trace)) ∙ input));
    gave = λ u a w output trace. (v u a w trace, gave_of u a w trace (sym (chart.dirs (ring.leg (length w.past)) a (ring.among (length w.past)) (has u a w trace)) ∙ output));
    shows = shows_of;
  }
    where
      now_none : (c d : Bool) (m : ℕ) → m ≡ 0 → (i : ℕ) → i + now c d m ≡ i
      now_none true true m z i = omega arith
      now_none true false m z i = omega arith
      now_none false d m z i = omega arith

      first_shown : (y a : ℕ) → (story [] plays.first).shown y a ≡ 0
      first_shown y a =
          let w = plays.first in
          let m : acts_by (length w.past) ≡ 0 = ap (λ (x : List Leg). acts_by (length x)) plays.first_past in
          now_none (is_act (ring.leg (length w.past))) (nat_eq y (turn (acts_by (length w.past)))) (times a w.came) (ap (times a) plays.first_came) (share (leaf e y) (acts_by (length w.past)))
          ∙ ap (share (leaf e y)) m ∙ share_none (leaf e y)
