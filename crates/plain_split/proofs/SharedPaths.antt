-- Paths through nodes that are left out, in a web whose wires have steps: from a node that is left out one wire leads on, one step further.
use Rattle.std.proofs.Common.{◌≡◌, inl, inr, get_or, ℕ, zero, suc, ◌+◌, ◌<◌, ◌≤◌, Bool, true, false, List, [], ◌∷◌, map, length, refl, sym, ap, ◌∙◌, subst, arith, if◌then◌else◌}
use Rattle.std.specs.List.{range_with_len}
use Rattle.std.proofs.lemmas.Bool.{cases_Bool}
use Rattle.std.proofs.lemmas.List.Sums.{position_or_len_is}
use Rattle.net_laws.proofs.Webs.{Web, Decides}
use Rattle.net_laws.proofs.Paths.{Hop, Path, here, hop}
use Rattle.net_laws.proofs.Among.{Distinct, distinct_at}
use Rattle.plain_split.specs.SharedPaths.{walk, place}

pub walk_stop : {W : Type 0} (stop : W → Bool) (step : W → W) (k : ℕ) (w : W) → stop w ≡ true → walk stop step k w ≡ w
walk_stop stop step zero w e = refl
walk_stop stop step (suc k) w e = ap (λ b. if b then w else walk stop step k (step w)) e

pub walk_on : {W : Type 0} (stop : W → Bool) (step : W → W) (k : ℕ) (w : W) → stop w ≡ false → walk stop step (suc k) w ≡ walk stop step k (step w)
walk_on stop step k w e = ap (λ b. if b then w else walk stop step k (step w)) e

-- how a wire leads on where its receiver is left out, and back where its driver is
pub record Onward (N W : Type 0) (d : Web N W) (keeps : N → Bool) (There : W → Type 0) (back rest : W → ℕ) (next prev : W → W) (w : W) : Type 0 where
  pub there : There (next w)
  pub joins : d.driver (next w) ≡ d.receiver w
  pub returns : prev (next w) ≡ w
  pub further : back (next w) ≡ suc (back w)
  pub nearer : rest w ≡ suc (rest (next w))
  pub hop : Hop N W d (λ n. keeps n ≡ true) w (next w)

pub record Backward (N W : Type 0) (d : Web N W) (There : W → Type 0) (back rest : W → ℕ) (next prev : W → W) (w : W) : Type 0 where
  pub there : There (prev w)
  pub joins : d.receiver (prev w) ≡ d.driver w
  pub returns : next (prev w) ≡ w
  pub further : back w ≡ suc (back (prev w))
  pub nearer : rest (prev w) ≡ suc (rest w)

module _ (N W : Type 0) (d : Web N W) (keeps : N → Bool) (There : W → Type 0) (back rest : W → ℕ) (next prev : W → W)
    (onward : (w : W) → There w → keeps (d.receiver w) ≡ false → Onward N W d keeps There back rest next prev w)
    (backward : (w : W) → There w → keeps (d.driver w) ≡ false → Backward N W d There back rest next prev w) where
  abbrev pub begun : W → Bool
  begun w = keeps (d.driver w)

  abbrev pub ended : W → Bool
  ended w = keeps (d.receiver w)

  -- the first wire of the path of a wire, and the last one
  abbrev pub near : W → W
  near w = walk begun prev (back w) w

  abbrev pub far : W → W
  far w = walk ended next (rest w) w

  near_by : (k : ℕ) (w : W) → There w → back w ≡ k → There (walk begun prev k w) × (begun (walk begun prev k w) ≡ true) × (back (walk begun prev k w) ≤ back w)
  near_by zero w t e = elim (cases_Bool (begun w)) [
    | inl b ↦ (t, b, omega arith)
    | inr b ↦ absurd (omega (arith, (backward w t b).further, e))
  ]
  near_by (suc k) w t e = elim (cases_Bool (begun w)) [
    | inl b ↦ subst (λ v. There v × (begun v ≡ true) × (back v ≤ back w)) (sym (walk_stop begun prev (suc k) w b)) (t, b, omega arith)
    | inr b ↦
        let s = backward w t b in
        let (x, y, z) = near_by k (prev w) s.there (omega (arith, s.further, e)) in
        subst (λ v. There v × (begun v ≡ true) × (back v ≤ back w)) (sym (walk_on begun prev k w b)) (x, y, omega (arith, z, s.further))
  ]

  pub near_kept : (w : W) → There w → There (near w) × (begun (near w) ≡ true) × (back (near w) ≤ back w)
  near_kept w t = near_by (back w) w t refl

  far_by : (k : ℕ) (w : W) → There w → rest w ≡ k → There (walk ended next k w) × (ended (walk ended next k w) ≡ true)
  far_by zero w t e = elim (cases_Bool (ended w)) [
    | inl b ↦ (t, b)
    | inr b ↦ absurd (omega (arith, (onward w t b).nearer, e))
  ]
  far_by (suc k) w t e = elim (cases_Bool (ended w)) [
    | inl b ↦ subst (λ v. There v × (ended v ≡ true)) (sym (walk_stop ended next (suc k) w b)) (t, b)
    | inr b ↦
        let s = onward w t b in
        subst (λ v. There v × (ended v ≡ true)) (sym (walk_on ended next k w b)) (far_by k (next w) s.there (omega (arith, s.nearer, e)))
  ]

  pub far_kept : (w : W) → There w → There (far w) × (ended (far w) ≡ true)
  far_kept w t = far_by (rest w) w t refl

  -- one step changes neither end
  near_next : (w : W) → There w → ended w ≡ false → near (next w) ≡ near w
  near_next w t b =
      let s = onward w t b in
      let inner : begun (next w) ≡ false = ap keeps s.joins ∙ b in
      ap (λ k. walk begun prev k (next w)) s.further ∙ walk_on begun prev (back w) (next w) inner ∙ ap (walk begun prev (back w)) s.returns

  far_prev : (w : W) → There w → begun w ≡ false → far (prev w) ≡ far w
  far_prev w t b =
      let s = backward w t b in
      let inner : ended (prev w) ≡ false = ap keeps s.joins ∙ b in
      ap (λ k. walk ended next k (prev w)) s.nearer ∙ walk_on ended next (rest w) (prev w) inner ∙ ap (walk ended next (rest w)) s.returns

  near_far_by : (k : ℕ) (w : W) → There w → rest w ≡ k → near (walk ended next k w) ≡ near w
  near_far_by zero w t e = refl
  near_far_by (suc k) w t e = elim (cases_Bool (ended w)) [
    | inl b ↦ ap near (walk_stop ended next (suc k) w b)
    | inr b ↦
        let s = onward w t b in
        ap near (walk_on ended next k w b) ∙ near_far_by k (next w) s.there (omega (arith, s.nearer, e)) ∙ near_next w t b
  ]

  far_near_by : (k : ℕ) (w : W) → There w → back w ≡ k → far (walk begun prev k w) ≡ far w
  far_near_by zero w t e = refl
  far_near_by (suc k) w t e = elim (cases_Bool (begun w)) [
    | inl b ↦ ap far (walk_stop begun prev (suc k) w b)
    | inr b ↦
        let s = backward w t b in
        ap far (walk_on begun prev k w b) ∙ far_near_by k (prev w) s.there (omega (arith, s.further, e)) ∙ far_prev w t b
  ]

  pub far_here : (w : W) → ended w ≡ true → far w ≡ w
  far_here w b = walk_stop ended next (rest w) w b

  pub near_here : (w : W) → begun w ≡ true → near w ≡ w
  near_here w b = walk_stop begun prev (back w) w b

  pub near_far : (w : W) → There w → begun w ≡ true → near (far w) ≡ w
  near_far w t b = near_far_by (rest w) w t refl ∙ near_here w b

  pub far_near : (w : W) → There w → ended w ≡ true → far (near w) ≡ w
  far_near w t b = far_near_by (back w) w t refl ∙ far_here w b

  path_by : (k : ℕ) (w z : W) → There w → back w ≡ k → back w ≤ back z → Path N W d (λ n. keeps n ≡ true) w z → Path N W d (λ n. keeps n ≡ true) (walk begun prev k w) z
  path_by zero w z t e le p = p
  path_by (suc k) w z t e le p = elim (cases_Bool (begun w)) [
    | inl b ↦ subst (λ v. Path N W d (λ n. keeps n ≡ true) v z) (sym (walk_stop begun prev (suc k) w b)) p
    | inr b ↦
        let s = backward w t b in
        let o = onward (prev w) s.there (ap keeps s.joins ∙ b) in
        let step : Hop N W d (λ n. keeps n ≡ true) (prev w) w = subst (Hop N W d (λ n. keeps n ≡ true) (prev w)) s.returns o.hop in
        let before : prev w ≡ z → ⊥ = λ i. omega (arith, s.further, le, ap back i) in
        subst (λ v. Path N W d (λ n. keeps n ≡ true) v z) (sym (walk_on begun prev k w b))
        (path_by k (prev w) z s.there (omega (arith, s.further, e)) (omega (arith, s.further, le)) (hop (prev w) w z step before p))
  ]

  pub path_to : (w : W) → There w → Path N W d (λ n. keeps n ≡ true) (near w) w
  path_to w t = path_by (back w) w w t refl (omega arith) (here w)

-- ---- numbers by place

pub map_places : {A : Type 0} (f : A → ℕ) (z : A) (xs : List A) (a : ℕ) → ((i : ℕ) → i < length xs → f (get_or xs i z) ≡ a + i) → map f xs ≡ range_with_len a (length xs)
map_places f z [] a h = refl
map_places f z (x ∷ xs) a h =
    let first : f x ≡ a = omega (arith, h 0 (omega arith)) in
    ap (λ n. n ∷ map f xs) first ∙ ap (λ ns. a ∷ ns) (map_places f z xs (a + 1) (λ i low. omega (arith, h (suc i) (omega arith))))

-- the place of a wire in a list in which nothing stands twice
pub place_at : {A : Type 0} (same : A → A → Bool) → Decides same → (z : A) (xs : List A) → Distinct xs → (i : ℕ) → i < length xs → place same xs (get_or xs i z) ≡ i
place_at same decides z xs once i low =
    position_or_len_is (same (get_or xs i z)) xs i z (omega arith)
    (λ k less. elim (decides (get_or xs i z) (get_or xs k z)) [
      | inl e ↦ let is : i ≡ k = distinct_at z xs once i k low (omega arith) e.1 in absurd (omega arith)
      | inr e ↦ e.0
    ])
    (λ l. elim (decides (get_or xs i z) (get_or xs i z)) [ inl e ↦ e.0 | inr e ↦ absurd (e.1 refl) ])
