-- Bits that are tested again are right, and the others are as they were.
use Rattle.std.proofs.Common.{◌≡◌, ◌≢◌, ◌⊎◌, inl, inr, ◌↔◌, ℕ, zero, suc, ◌+◌, ◌<◌, ◌≤◌, Bool, true, false, nat_eq, if◌then◌else◌, List, [], ◌∷◌, length, get_or, set, IsTrue, refl, sym, ap, ◌∙◌, subst, arith, get_or-set_same, get_or-set_other, eq-eqb, ne_eqb}
use Rattle.std.proofs.lemmas.Bool.{cases_eq}
use Rattle.std.proofs.lemmas.List.{length-set}
use Rattle.place_graph.specs.Points.{OneOf}
use Rattle.net_core.specs.Runs.{State}
use Rattle.net_core.specs.Wiring.{Circuit}
use Rattle.replay.specs.declared.event.Event.{Event}
use Rattle.replay.specs.Answers.{Course, IsEnabled, state_of}
use Rattle.net_drive.specs.Mirror.Refreshing.{IsRight, fresh, AreTested}

pub right_same : (c : Circuit) (s : State) (es : List Event) (old new : List Bool) (i : ℕ) → get_or new i false ≡ get_or old i false
    → IsRight c s es old i → IsRight c s es new i
right_same c s es old new i same r e at = subst (λ b. IsTrue b ↔ IsEnabled c s e) (sym same) (r e at)

-- the run is the same
pub right_of : (r q : Course) (es : List Event) (bits : List Bool) (i : ℕ) → r ≡ q → IsRight r.net (state_of r) es bits i
    → IsRight q.net (state_of q) es bits i
right_of r q es bits i same = subst (λ (u : Course). IsRight u.net (state_of u) es bits i) same

-- a place where one of two lists of bits is right, or is as the other
abbrev pub Settled : Circuit → State → List Event → List Bool → List Bool → ℕ → Type 0
Settled c s es old new i = IsRight c s es new i ⊎ (get_or new i false ≡ get_or old i false)

-- ---- one more of a range

module _ (c : Circuit) (s : State) (es : List Event) (old new : List Bool) (from number : ℕ)
    (at : IsRight c s es new number) (others : (i : ℕ) → i ≢ number → get_or new i false ≡ get_or old i false) where
  pub range_right : ((i : ℕ) → from ≤ i → i < number → IsRight c s es old i) → (i : ℕ) → from ≤ i → i < number + 1 → IsRight c s es new i
  range_right before i low high = elim (cases_eq i number) [
    | inl e ↦ subst (λ m. IsRight c s es new m) (sym e) at
    | inr ne ↦ right_same c s es old new i (others i ne) (before i low (omega (arith, ne, high)))
  ]

  pub range_others : (first : List Bool) → from ≤ number
      → ((i : ℕ) → (i < from) ⊎ (number ≤ i) → get_or old i false ≡ get_or first i false)
      → (i : ℕ) → (i < from) ⊎ (number + 1 ≤ i) → get_or new i false ≡ get_or first i false
  range_others first low before i out = elim out [
    | inl l ↦ others i (omega (arith, l, low)) ∙ before i (inl l)
    | inr h ↦ others i (omega (arith, h)) ∙ before i (inr (omega (arith, h)))
  ]

-- ---- steps of the gives

pub fresh_low : (now : ℕ) (ts : List ℕ) → fresh now ts ≤ length ts
fresh_low now [] = omega arith
fresh_low now (t ∷ ts) = by (nat_eq t now) (fresh_low now ts)
  where
    by : (b : Bool) → fresh now ts ≤ length ts → (if b then fresh now ts else suc (fresh now ts)) ≤ suc (length ts)
    by true h = omega (arith, h)
    by false h = omega (arith, h)

-- one of them is no longer fresh
pub fresh_less : (now : ℕ) (ts : List ℕ) (i : ℕ) → i < length ts → get_or ts i 0 ≢ now → suc (fresh now (set ts i now)) ≡ fresh now ts
fresh_less now [] i h ne = absurd (omega (arith, h))
fresh_less now (t ∷ ts) zero h ne = rw (eq-eqb now now refl, ne_eqb t now ne) refl
fresh_less now (t ∷ ts) (suc i) h ne = by (nat_eq t now) (fresh_less now ts i (omega (arith, h)) ne)
  where
    by : (b : Bool) → suc (fresh now (set ts i now)) ≡ fresh now ts
        → suc (if b then fresh now (set ts i now) else suc (fresh now (set ts i now))) ≡ (if b then fresh now ts else suc (fresh now ts))
    by true e = e
    by false e = ap suc e

module _ (c : Circuit) (s : State) (es : List Event) (step : ℕ) where
  pub tested_none : (bits : List Bool) (ts : List ℕ) → AreTested c s es bits bits ts ts step
  tested_none bits ts = record {
    long = refl;
    sized = refl;
    kept = λ i h. h;
    right = λ r i h. r i h;
    others = λ i. inr refl;
    low = λ h i. h i;
  }

  pub tested_then : (a b d : List Bool) (ta tb td : List ℕ) → AreTested c s es a b ta tb step → AreTested c s es b d tb td step
      → AreTested c s es a d ta td step
  tested_then a b d ta tb td x y = record {
    long = y.long ∙ x.long;
    sized = y.sized ∙ x.sized;
    kept = λ i h. y.kept i (x.kept i h);
    right = λ r i h. y.right (λ j k. x.right r j k) i h;
    others = λ i. elim (y.others i) [
      | inl r ↦ inl r
      | inr e ↦ elim (x.others i) [
        | inl r ↦ inl (right_same c s es b d i e r)
        | inr f ↦ inr (e ∙ f)
      ]
    ];
    low = λ h i. y.low (λ j. x.low h j) i;
  }

  pub tested_one : (old new : List Bool) (ts : List ℕ) (number : ℕ) → number < length ts → get_or ts number 0 ≢ step
      → length new ≡ length old → IsRight c s es new number → ((i : ℕ) → i ≢ number → get_or new i false ≡ get_or old i false)
      → AreTested c s es old new ts (set ts number step) step
  tested_one old new ts number less ne long at others = record {
    long = long;
    sized = length-set ts number step;
    kept = λ i h. elim (cases_eq i number) [
      | inl e ↦ absurd (ne (ap (λ j. get_or ts j 0) (sym e) ∙ h))
      | inr n ↦ get_or-set_other ts number i step 0 n ∙ h
    ];
    right = λ r i h. elim (cases_eq i number) [
      | inl e ↦ subst (λ m. IsRight c s es new m) (sym e) at
      | inr n ↦ right_same c s es old new i (others i n) (r i (sym (get_or-set_other ts number i step 0 n) ∙ h))
    ];
    others = λ i. elim (cases_eq i number) [
      | inl e ↦ inl (subst (λ m. IsRight c s es new m) (sym e) at)
      | inr n ↦ inr (others i n)
    ];
    low = λ h i. elim (cases_eq i number) [
      | inl e ↦ (let same = ap (λ j. get_or (set ts number step) j 0) e in let is = get_or-set_same ts number step 0 less in omega (arith, same, is))
      | inr n ↦ (let same = get_or-set_other ts number i step 0 n in let l = h i in omega (arith, same, l))
    ];
  }

-- the run is the same
pub tested_of : (r q : Course) (es : List Event) (a b : List Bool) (ta tb : List ℕ) (step : ℕ) → r ≡ q
    → AreTested r.net (state_of r) es a b ta tb step → AreTested q.net (state_of q) es a b ta tb step
tested_of r q es a b ta tb step same = subst (λ (u : Course). AreTested u.net (state_of u) es a b ta tb step) same

-- one of a list stands at a place of it
pub place_of : (xs : List ℕ) (x : ℕ) → OneOf xs x → (j : ℕ) × (j < length xs) × (get_or xs j 0 ≡ x)
place_of [] x o = absurd o
place_of (y ∷ xs) x (inl e) = (0, omega arith, e)
place_of (y ∷ xs) x (inr o) = let r = place_of xs x o in (suc r.0, omega (arith, r.1), r.2)
