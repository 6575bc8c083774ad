-- How the bursts are dealt out to the places of the tree.
use Rattle.std.proofs.Common.{◌≡◌, ℕ, zero, suc, ◌+◌, ◌-◌, ◌*◌, ◌/◌, ◌<◌, ◌≤◌, inl, inr, refl, sym, ap, ◌∙◌, arith}
use Rattle.std.proofs.lemmas.Bool.{cases_lt, cases_eq, lt-ltb, le-ltb}
use Rattle.plain_split.specs.RoundsNet.{Path, Top, Odd, Even, depth, share, pow, first_at, leaf}

pub pow_some : (e : ℕ) → 0 < pow e
pow_some zero = omega arith
pow_some (suc e) = omega (arith, pow_some e)

pub first_low : (p : Path) → first_at p < pow (depth p)
first_low Top = omega arith
first_low (Odd p) = omega (arith, first_low p)
first_low (Even p) = omega (arith, first_low p)

leaf_odd : (e r : ℕ) → r < pow e → leaf (suc e) r ≡ Odd (leaf e r)
leaf_odd e r low = rw (lt-ltb r (pow e) low) refl

leaf_even : (e r : ℕ) → pow e ≤ r → leaf (suc e) r ≡ Even (leaf e (r - pow e))
leaf_even e r high = rw (le-ltb r (pow e) high) refl

pub leaf_deep : (e r : ℕ) → depth (leaf e r) ≡ e
leaf_deep zero r = refl
leaf_deep (suc e) r = elim (cases_lt r (pow e)) [
  | inl low ↦ ap depth (leaf_odd e r low) ∙ ap suc (leaf_deep e r)
  | inr high ↦ ap depth (leaf_even e r high) ∙ ap suc (leaf_deep e (r - pow e))
]

pub leaf_first : (e r : ℕ) → r < pow e → first_at (leaf e r) ≡ r
leaf_first zero r low = omega arith
leaf_first (suc e) r low = elim (cases_lt r (pow e)) [
  | inl less ↦ ap first_at (leaf_odd e r less) ∙ leaf_first e r less
  | inr high ↦
      ap first_at (leaf_even e r high)
      ∙ (let z : first_at (leaf e (r - pow e)) + pow (depth (leaf e (r - pow e))) ≡ r =
      omega (arith, leaf_first e (r - pow e) (omega arith), ap pow (leaf_deep e (r - pow e))) in z)
]

pub first_leaf : (p : Path) → leaf (depth p) (first_at p) ≡ p
first_leaf Top = refl
first_leaf (Odd p) = leaf_odd (depth p) (first_at p) (first_low p) ∙ ap Odd (first_leaf p)
first_leaf (Even p) =
    let e : first_at p + pow (depth p) - pow (depth p) ≡ first_at p = omega arith in
    leaf_even (depth p) (first_at p + pow (depth p)) (omega arith) ∙ ap (λ r. Even (leaf (depth p) r)) e ∙ ap Even (first_leaf p)

-- of n bursts every k-th one, beginning with the burst r, makes s
pub record Dealt (k r n s : ℕ) : Type 0 where
  pub enough : n ≤ k * s + r
  pub few : k * s + r < n + k

double : (w s t : ℕ) → t ≡ s + s → (w + w) * s ≡ w * t
double w s t e = omega (arith, ap (λ z. w * z) e)

more : (w s t : ℕ) → t ≡ suc s → w * t ≡ w * s + w
more w s t e = omega (arith, ap (λ z. w * z) e)

pub dealt : (p : Path) (n : ℕ) → Dealt (pow (depth p)) (first_at p) n (share p n)
dealt Top n = record { enough = omega arith; few = omega arith }
dealt (Odd p) n =
    let w : ℕ = pow (depth p) in let s : ℕ = share p n in let t : ℕ = (s + 1) / 2 in let h = dealt p n in
    elim (cases_eq s (t + t)) [
      | inl is ↦ record { enough = omega (arith, h.enough, double w t s is); few = omega (arith, h.few, double w t s is, pow_some (depth p)) }
      | inr ne ↦
          let e : t + t ≡ suc s = omega arith in
          record { enough = omega (arith, h.enough, double w t (suc s) (sym e), more w s (suc s) refl); few = omega (arith, h.few, double w t (suc s) (sym e), more w s (suc s) refl) }
    ]
dealt (Even p) n =
    let w : ℕ = pow (depth p) in let s : ℕ = share p n in let t : ℕ = s / 2 in let h = dealt p n in
    elim (cases_eq s (t + t)) [
      | inl is ↦ record { enough = omega (arith, h.enough, double w t s is); few = omega (arith, h.few, double w t s is, pow_some (depth p)) }
      | inr ne ↦
          let e : s ≡ suc (t + t) = omega arith in
          record {
            enough = omega (arith, h.enough, double w t (t + t) refl, more w (t + t) s e);
            few = omega (arith, h.few, double w t (t + t) refl, more w (t + t) s e);
          }
    ]

times_more : (k s t : ℕ) → s < t → k * s + k ≤ k * t
times_more k s zero h = absurd (omega arith)
times_more k s (suc t) h = elim (cases_lt s t) [
  | inl less ↦ omega (arith, times_more k s t less, more k t (suc t) refl)
  | inr last ↦ let e : s ≡ t = omega arith in omega (arith, more k s (suc t) (ap suc (sym e)))
]

pub dealt_one : (k r n s t : ℕ) → Dealt k r n s → Dealt k r n t → s ≡ t
dealt_one k r n s t a b = elim (cases_lt s t) [
  | inl less ↦ absurd (omega (arith, a.enough, b.few, times_more k s t less))
  | inr high ↦ elim (cases_lt t s) [
    | inl less ↦ absurd (omega (arith, b.enough, a.few, times_more k t s less))
    | inr low ↦ omega arith
  ]
]

-- one more burst, which comes to the place whose turn it is
pub dealt_here : (k q r s : ℕ) → 0 < k → Dealt k r (k * q + r) s → Dealt k r (suc (k * q + r)) (suc s)
dealt_here k q r s some h =
    let e : s ≡ q = dealt_one k r (k * q + r) s q h (record { enough = omega arith; few = omega arith }) in
    record { enough = omega (arith, more k s (suc s) refl, ap (λ z. k * z) e); few = omega (arith, more k s (suc s) refl, ap (λ z. k * z) e) }

pub dealt_away : (k q r x s : ℕ) → r < k → x < k → (x ≡ r → ⊥) → Dealt k x (k * q + r) s → Dealt k x (suc (k * q + r)) s
dealt_away k q r x s a b ne h = record { enough = enough; few = omega (arith, h.few) }
  where
    enough : suc (k * q + r) ≤ k * s + x
    enough = elim (cases_lt (k * q + r) (k * s + x)) [
      | inl less ↦ omega arith
      | inr not ↦ absurd (elim (cases_lt s q) [
        | inl less ↦ omega (arith, h.enough, times_more k s q less)
        | inr high ↦ elim (cases_lt q s) [
          | inl over ↦ omega (arith, times_more k q s over)
          | inr same ↦ let e : s ≡ q = omega arith in ne (omega (arith, h.enough, ap (λ z. k * z) e))
        ]
      ])
    ]

-- where one more came before, each came one place later
pub dealt_later : (k r n s : ℕ) → Dealt k r n s → Dealt k (suc r) (suc n) s
dealt_later k r n s h = record { enough = omega (arith, h.enough); few = omega (arith, h.few) }

pub dealt_wrap : (k r n s : ℕ) → suc r ≡ k → Dealt k r n s → Dealt k 0 (suc n) (suc s)
dealt_wrap k r n s e h = record { enough = omega (arith, h.enough, more k s (suc s) refl); few = omega (arith, h.few, more k s (suc s) refl) }
