-- The legs of a process in rounds are one ring in text order.
use Rattle.std.specs.Prelude.{nat_eq, not, IsTrue, if◌then◌else◌, ◌||◌}
use Rattle.std.proofs.Common.{eq-eqb, ne_eqb, ◌≡◌, ℕ, zero, suc, ◌+◌, ◌<◌, Bool, false, List, [], ◌∷◌, ◌++◌, length, get_or, Option, None, Some, is_some, ◌⊎◌, inl, inr, ⊎_elim, refl, sym, ap, subst, ◌∙◌, arith}
use Rattle.std.proofs.lemmas.Bool.{cases_eq}
use Rattle.cmd_tree.specs.declared.tree.Proc.{Proc}
use Rattle.cmd_tree.specs.Tree.{TItem, TSeq, TSeqs, TBurst, TAlt, Stop, Or, Done, Then, places_of, places_in}
use Rattle.cmd_tree.specs.Limits.{of_part, IsSeq, IsItem, AreSeqs, IsPart, IsProc}
use Rattle.cmd_tree.specs.Residual.{lead_of}
use Rattle.cmd_tree.proofs.Cuts.{full_seq}
use Rattle.place_graph.specs.declared.leg.Leg.{Leg}
use Rattle.place_graph.specs.Points.{point, legs_of, legs_in, legs_among, legs, Among}
use Rattle.place_graph.specs.Graph.{is_act}
use Rattle.place_graph.specs.Chart.{Has, Chart}
use Rattle.place_graph.proofs.Joined.{among_append, among_left, among_right}
use Rattle.place_graph.proofs.Rests.{some_places, some_full}
use Rattle.place_graph.proofs.Ranges.{range_of}
use Rattle.place_graph.proofs.Turns.{some_leg}
use Rattle.plain_split.specs.RoundsNet.{pow}
use Rattle.plain_split.proofs.RoundsRing.{Ring}

-- the legs lead one after another from the point x to the point y
abbrev pub Line : ℕ → List Leg → ℕ → Type 0
Line x [] y = x ≡ y
Line x (l ∷ L) y = (l.from ≡ x) × Line l.to L y

-- legs from one point are one leg
abbrev pub Lone : List Leg → Type 0
Lone L = (l m : Leg) → Among L l → Among L m → l.from ≡ m.from → l ≡ m

line_append : (x y z : ℕ) (L M : List Leg) → Line x L y → Line y M z → Line x (L ++ M) z
line_append x y z [] M a b = subst (λ w. Line w M z) (sym a) b
line_append x y z (l ∷ L) M a b = (a.0, line_append l.to y z L M a.1 b)

-- a choice has two legs from one point
no_choice : (k : ℕ) (ss : TSeqs) (at later : ℕ) → IsItem (TAlt ss) → Lone (legs_among k ss at later) → ⊥
no_choice k Stop at later h lone = omega (arith, h.0)
no_choice k (Or s Stop) at later h lone = omega (arith, h.0)
no_choice k (Or s (Or r ss)) at later h lone =
    let (l, a, from) = some_leg k s at later h.1.0 in
    let (m, b, also) = some_leg (k + places_of s) r at later h.1.1.0 in
    let front : List Leg = legs_of k s at later in
    let back : List Leg = legs_of (k + places_of s) r at later in
    let rest : List Leg = legs_among (k + places_of s + places_of r) ss at later in
    let same : l ≡ m = lone l m (among_left front (back ++ rest) l a) (among_right front (back ++ rest) m (among_left back rest m b)) (from ∙ sym also) in
    let low = range_of k s at later (full_seq s h.1.0) l a in
    let high = range_of (k + places_of s) r at later (full_seq r h.1.1.0) m b in
    omega (arith, low.high, high.low, ap (λ (j : Leg). j.place) same)

line_in : (k : ℕ) (i : TItem) (at later : ℕ) → IsItem i → Lone (legs_in k i at later) → Line at (legs_in k i at later) later
line_in k (TBurst ms) at later h lone = (refl, refl)
line_in k (TAlt ss) at later h lone = absurd (no_choice k ss at later h lone)

line_of : (k : ℕ) (i : TItem) (s : TSeq) (at later : ℕ) → IsItem i → IsSeq s → Lone (legs_of k (Then i s) at later) → Line at (legs_of k (Then i s) at later) later
line_of k i Done at later h t lone =
    let one : List Leg = legs_in k i at later in
    line_append at later later one [] (line_in k i at later h (λ l m a b. lone l m (among_left one [] l a) (among_left one [] m b))) refl
line_of k i (Then j s) at later h t lone =
    let n : ℕ = k + places_in i in
    let one : List Leg = legs_in k i at n in
    let rest : List Leg = legs_of n (Then j s) n later in
    line_append at n later one rest (line_in k i at n h (λ l m a b. lone l m (among_left one rest l a) (among_left one rest m b)))
    (line_of n j s n later t.0 t.1 (λ l m a b. lone l m (among_right one rest l a) (among_right one rest m b)))

-- a leg of a tree leads out of it, or to a later point
abbrev Later : ℕ → ℕ → Leg → Type 0
Later k later l = (l.to ≡ later) ⊎ (k < l.to)

mutual
  later_of : (k : ℕ) (s : TSeq) (at later : ℕ) → IsSeq s → (l : Leg) → Among (legs_of k s at later) l → Later k later l
  later_of k Done at later h l a = absurd a
  later_of k (Then i s) at later h l a = ⊎_elim
      (λ b. ⊎_elim (λ e. there s e) (λ e. inr e) (later_in k i at (point (k + places_in i) s later) h.0 l b))
      (λ b. ⊎_elim (λ e. inl e) (λ e. inr (omega (arith, e))) (later_of (k + places_in i) s (k + places_in i) later h.1 l b))
      (among_append (legs_in k i at (point (k + places_in i) s later)) (legs_of (k + places_in i) s (k + places_in i) later) l a)
    where
      there : (r : TSeq) → l.to ≡ point (k + places_in i) r later → Later k later l
      there Done e = inl e
      there (Then j r) e = inr (omega (arith, some_places i h.0))

  later_in : (k : ℕ) (i : TItem) (at later : ℕ) → IsItem i → (l : Leg) → Among (legs_in k i at later) l → Later k later l
  later_in k (TBurst ms) at later h l a = ⊎_elim (λ e. inl (ap (λ (m : Leg). m.to) (sym e))) (λ n. absurd n) a
  later_in k (TAlt ss) at later h l a = later_among k ss at later h.1 l a

  later_among : (k : ℕ) (ss : TSeqs) (at later : ℕ) → AreSeqs ss → (l : Leg) → Among (legs_among k ss at later) l → Later k later l
  later_among k Stop at later h l a = absurd a
  later_among k (Or s ss) at later h l a = ⊎_elim
      (λ b. later_of k s at later (full_seq s h.0) l b)
      (λ b. ⊎_elim (λ e. inl e) (λ e. inr (omega (arith, e))) (later_among (k + places_of s) ss at later h.1 l b))
      (among_append (legs_of k s at later) (legs_among (k + places_of s) ss at later) l a)

-- the parts of a process, where a leg leads to the begin: there is no lead
abbrev parts : Option TSeq → Option TSeq → List Leg
parts lead body =
    legs_of 1 (lead_of lead) 1 (of_part 0 (λ s. 1 + of_part 0 places_of lead) body)
    ++ legs_of (1 + of_part 0 places_of lead) (lead_of body) (1 + of_part 0 places_of lead) (of_part 0 (λ s. 1 + of_part 0 places_of lead) body)

ring_of : (lead body : Option TSeq) → IsTrue (is_some lead || is_some body) → IsPart lead → IsPart body → Lone (parts lead body)
    → (l : Leg) → Among (parts lead body) l → l.to ≡ 1 → Line 1 (parts lead body) 1
ring_of None None h a b lone l among e = absurd among
ring_of None (Some Done) h a b lone l among e = absurd b
ring_of None (Some (Then i s)) h a b lone l among e = line_of 1 i s 1 1 b.0 b.1 lone
ring_of (Some s) body h a b lone l among e = absurd (never (turn body) (⊎_elim
    (λ c. later_of 1 s 1 (of_part 0 (λ r. 1 + places_of s) body) (full_seq s a) l c)
    (λ c. at body b c)
    (among_append (legs_of 1 s 1 (of_part 0 (λ r. 1 + places_of s) body)) (legs_of (1 + places_of s) (lead_of body) (1 + places_of s) (of_part 0 (λ r. 1 + places_of s) body)) l among)))
  where
    turn : (o : Option TSeq) → of_part 0 (λ r. 1 + places_of s) o ≡ 1 → ⊥
    turn None z = omega arith
    turn (Some r) z = omega (arith, some_full s a)

    never : (of_part 0 (λ r. 1 + places_of s) body ≡ 1 → ⊥) → Later 1 (of_part 0 (λ r. 1 + places_of s) body) l → ⊥
    never t (inl z) = t (sym z ∙ e)
    never t (inr z) = omega arith

    at : (o : Option TSeq) → IsPart o → Among (legs_of (1 + places_of s) (lead_of o) (1 + places_of s) (of_part 0 (λ r. 1 + places_of s) o)) l → Later 1 (of_part 0 (λ r. 1 + places_of s) o) l
    at None q c = absurd c
    at (Some r) q c = ⊎_elim (λ z. inl z) (λ z. inr (omega (arith, z))) (later_of (1 + places_of s) r (1 + places_of s) (1 + places_of s) (full_seq r q) l c)

pub proc_line : (p : Proc) → IsProc p → Lone (legs p) → (l : Leg) → Among (legs p) l → l.to ≡ 1 → Line 1 (legs p) 1
proc_line p h lone l among e = ring_of p.lead p.body h.0 h.1 h.2 lone l among e

-- ---- around a list

abbrev pub rem : ℕ → ℕ → ℕ
rem n zero = 0
rem n (suc i) = if nat_eq (suc (rem n i)) n then 0 else suc (rem n i)

pub rem_next : (n i : ℕ) → ((suc (rem n i) ≡ n) × (rem n (suc i) ≡ 0)) ⊎ ((suc (rem n i) ≡ n → ⊥) × (rem n (suc i) ≡ suc (rem n i)))
rem_next n i = elim (cases_eq (suc (rem n i)) n) [
  | inl is ↦ inl (is, rw (eq-eqb (suc (rem n i)) n is) refl)
  | inr ne ↦ inr (ne, rw (ne_eqb (suc (rem n i)) n ne) refl)
]

pub rem_low : (n i : ℕ) → 0 < n → rem n i < n
rem_low n zero h = h
rem_low n (suc i) h = elim (rem_next n i) [
  | inl (a, b) ↦ omega arith
  | inr (a, b) ↦ omega (arith, rem_low n i h, a)
]

pub rem_small : (n j : ℕ) → j < n → rem n j ≡ j
rem_small n zero h = refl
rem_small n (suc j) h =
    let z : rem n j ≡ j = rem_small n j (omega arith) in
    elim (rem_next n j) [ inl (a, b) ↦ absurd (omega arith) | inr (a, b) ↦ b ∙ ap suc z ]

pub rem_full : (n : ℕ) → 0 < n → rem n n ≡ 0
rem_full zero h = refl
rem_full (suc n) h =
    let z : rem (suc n) n ≡ n = rem_small (suc n) n (omega arith) in
    elim (rem_next (suc n) n) [ inl (a, b) ↦ b | inr (a, b) ↦ absurd (a (ap suc z)) ]

pub rem_around : (n i : ℕ) → 0 < n → rem n (i + n) ≡ rem n i
rem_around n zero h = let z : 0 + n ≡ n = omega arith in ap (rem n) z ∙ rem_full n h
rem_around n (suc i) h =
    let z : suc i + n ≡ suc (i + n) = omega arith in
    ap (rem n) z ∙ ap (λ r. if nat_eq (suc r) n then 0 else suc r) (rem_around n i h)

pub line_first : (x y : ℕ) (L : List Leg) (d : Leg) → Line x L y → 0 < length L → (get_or L 0 d).from ≡ x
line_first x y [] d a h = absurd (omega arith)
line_first x y (l ∷ L) d a h = a.0

pub line_next : (x y : ℕ) (L : List Leg) (d : Leg) → Line x L y → (r : ℕ) → suc r < length L → (get_or L r d).to ≡ (get_or L (suc r) d).from
line_next x y [] d a r h = absurd (omega arith)
line_next x y (l ∷ L) d a zero h = sym (line_first l.to y L d a.1 (omega arith))
line_next x y (l ∷ L) d a (suc r) h = line_next l.to y L d a.1 r (omega arith)

pub line_last : (x y : ℕ) (L : List Leg) (d : Leg) → Line x L y → (r : ℕ) → suc r ≡ length L → (get_or L r d).to ≡ y
line_last x y [] d a r h = absurd (omega arith)
line_last x y (l ∷ []) d a zero h = a.1
line_last x y (l ∷ m ∷ L) d a zero h = absurd (omega arith)
line_last x y (l ∷ L) d a (suc r) h = line_last l.to y L d a.1 r (omega arith)

pub among_get : (L : List Leg) (r : ℕ) (d : Leg) → r < length L → Among L (get_or L r d)
among_get [] r d h = absurd (omega arith)
among_get (l ∷ L) zero d h = inl refl
among_get (l ∷ L) (suc r) d h = inr (among_get L r d (omega arith))

-- the ring of a list of legs that leads from the begin to the begin
module _ (L : List Leg) (out : ℕ → Bool) (chart : Chart L out) (lone : Lone L) (line : Line 1 L 1) (d : Leg) (some : 0 < length L) where
  abbrev pub leg_by : ℕ → Leg
  leg_by i = get_or L (rem (length L) i) d

  pub leg_among : (i : ℕ) → Among L (leg_by i)
  leg_among i = among_get L (rem (length L) i) d (rem_low (length L) i some)

  pub leg_onward : (i : ℕ) → (leg_by i).to ≡ (leg_by (suc i)).from
  leg_onward i = elim (rem_next (length L) i) [
    | inl (a, b) ↦ line_last 1 1 L d line (rem (length L) i) a ∙ sym (line_first 1 1 L d line some) ∙ ap (λ r. (get_or L r d).from) (sym b)
    | inr (a, b) ↦ line_next 1 1 L d line (rem (length L) i) (omega (arith, rem_low (length L) i some, a)) ∙ ap (λ r. (get_or L r d).from) (sym b)
  ]

  pub leg_turns : (i : ℕ) → is_act (leg_by (suc i)) ≡ not (is_act (leg_by i))
  leg_turns i = elim (chart.leads (leg_by i) (leg_among i)) [
    | inl on ↦ ap is_act (sym (lone on.next (leg_by (suc i)) on.among (leg_among (suc i)) (on.from ∙ leg_onward i))) ∙ on.turns
    | inr none ↦ absurd (none (leg_by (suc i)) (leg_among (suc i)) (sym (leg_onward i)))
  ]

  unfoldable pub ring_by : (e : ℕ) → length L ≡ pow e + pow e
      → ((l m : Leg) (a : ℕ) → Among L l → Among L m → is_act l ≡ false → is_act m ≡ false → Has l a → Has m a) → Ring L e
  ring_by e long sole = record {
    leg = leg_by;
    among = leg_among;
    begin = line_first 1 1 L d line some;
    onward = leg_onward;
    around = λ i. ap (λ r. get_or L r d) (ap (λ n. rem (length L) (i + n)) (sym long) ∙ rem_around (length L) i some);
    turns = leg_turns;
    lone = lone;
    sole = sole;
  }
