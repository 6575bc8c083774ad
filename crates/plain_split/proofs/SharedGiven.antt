-- What acts give, by counts: at most one act is ahead of the environment, the one that leads from where the process stands.
use Rattle.std.proofs.Common.{◌≡◌, inl, inr, ℕ, suc, ◌+◌, ◌<◌, ◌≤◌, Bool, true, List, sym, ◌∙◌, arith}
use Rattle.place_graph.specs.declared.leg.Leg.{Leg}
use Rattle.place_graph.specs.Points.{Among}
use Rattle.place_graph.specs.Graph.{is_act}
use Rattle.place_graph.specs.Tale.{one_if}
use Rattle.place_graph.specs.Chart.{Has, Chart, sum_where, in_leg}
use Rattle.place_graph.proofs.Sums.{sum_plus}
use Rattle.plain_split.proofs.OneWaitSums.{one_at, sum_le, sum_gap, sum_some, sum_one}

-- How often an act has put each of its outputs, fired and handed over, and how often each output was given.
pub record Gives (L : List Leg) (out : ℕ → Bool) (D : Leg → ℕ) (here : ℕ) (came : ℕ → ℕ) (fired put : Leg → ℕ → ℕ) (given seen : ℕ → ℕ) : Type 0 where
  pub told : (m : Leg) (a : ℕ) → Among L m → is_act m ≡ true → Has m a → D m ≤ put m a
  pub handed : (m : Leg) (a : ℕ) → put m a ≤ fired m a
  pub low : (m : Leg) (a : ℕ) → Among L m → is_act m ≡ true → Has m a → fired m a ≤ D m + one_if m.from here
  pub shown : (a : ℕ) → out a ≡ true → given a ≤ sum_where L (in_leg a) (λ m. put m a)
  pub gave : (a : ℕ) → out a ≡ true → seen a ≡ sum_where L (in_leg a) D + came a
  pub sent : (a : ℕ) → seen a ≤ given a

-- the act from here has put more than the environment has come to
pub record ShownBy (L : List Leg) (D : Leg → ℕ) (here : ℕ) (came : ℕ → ℕ) (put : Leg → ℕ → ℕ) (a : ℕ) : Type 0 where
  pub act : Leg
  pub acts : Among L act × (is_act act ≡ true)
  pub has : Has act a
  pub from : act.from ≡ here
  pub none : came a ≡ 0
  pub more : D act < put act a

module _ (L : List Leg) (out : ℕ → Bool) (chart : Chart L out) (D : Leg → ℕ) (here : ℕ) (came : ℕ → ℕ) (fired put : Leg → ℕ → ℕ) (given seen : ℕ → ℕ)
    (g : Gives L out D here came fired put given seen) where
  gives_it : (m : Leg) (a : ℕ) → Among L m → out a ≡ true → Has m a → is_act m ≡ true
  gives_it m a i o h = sym (chart.dirs m a i h) ∙ o

  here_once : (a : ℕ) → out a ≡ true → sum_where L (in_leg a) (λ m. one_if m.from here) ≤ 1
  here_once a o = sum_one L (in_leg a) (λ m. one_if m.from here) chart.increase
      (λ m i. elim (one_at m.from here) [ inl e ↦ omega (arith, e.1) | inr e ↦ omega (arith, e.1) ])
      (λ l m i j h x p q. elim (one_at l.from here) [
        | inl e ↦ elim (one_at m.from here) [
          | inl z ↦ chart.lone m l j i (gives_it m a j o x) (e.0 ∙ sym z.0)
          | inr z ↦ absurd (omega (arith, z.1, q))
        ]
        | inr e ↦ absurd (omega (arith, e.1, p))
      ])

  pub given_from : (a : ℕ) → out a ≡ true
      → (sum_where L (in_leg a) D ≤ sum_where L (in_leg a) (λ m. put m a)) × (sum_where L (in_leg a) (λ m. put m a) ≤ sum_where L (in_leg a) (λ m. fired m a))
      × (sum_where L (in_leg a) (λ m. fired m a) ≤ suc (sum_where L (in_leg a) D)) × (given a ≤ sum_where L (in_leg a) (λ m. put m a))
      × (seen a ≡ sum_where L (in_leg a) D + came a) × (seen a ≤ given a)
  given_from a o = (
    sum_le L (in_leg a) D (λ m. put m a) (λ m i h. g.told m a i (gives_it m a i o h) h),
    sum_le L (in_leg a) (λ m. put m a) (λ m. fired m a) (λ m i h. g.handed m a),
    omega (
      arith,
      sum_le L (in_leg a) (λ m. fired m a) (λ m. D m + one_if m.from here) (λ m i h. g.low m a i (gives_it m a i o h) h),
      sum_plus L (in_leg a) D (λ m. one_if m.from here),
      here_once a o,
    ),
    g.shown a o,
    g.gave a o,
    g.sent a,
  )

  pub given_lands : (m : Leg) (a : ℕ) → Among L m → out a ≡ true → Has m a → fired m a ≡ suc (put m a) → sum_where L (in_leg a) (λ m. put m a) ≡ given a
  given_lands m a i o h x = omega (arith, given_from a o, sum_gap L (in_leg a) (λ m. put m a) (λ m. fired m a) (λ m i h. g.handed m a) m i h)

  pub given_free : (a : ℕ) → out a ≡ true → given a < sum_where L (in_leg a) (λ m. put m a) → given a ≡ seen a
  given_free a o less = omega (arith, given_from a o, less)

  pub shown_lands : (a : ℕ) → out a ≡ true → given a ≡ suc (seen a) → ShownBy L D here came put a
  shown_lands a o x =
      let c = given_from a o in
      let (m, i, h, less) = sum_some L (in_leg a) D (λ m. put m a) (omega (arith, c, x)) in
      let t : is_act m ≡ true = gives_it m a i o h in
      record {
        act = m;
        acts = (i, t);
        has = h;
        from = elim (one_at m.from here) [ inl e ↦ e.0 | inr e ↦ absurd (omega (arith, e.1, less, g.handed m a, g.low m a i t h)) ];
        none = omega (arith, c, x);
        more = less;
      }
