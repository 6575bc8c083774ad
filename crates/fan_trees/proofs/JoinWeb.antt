-- The web of a layer of Cs is sound and exact.
use Rattle.std.proofs.Common.{◌≡◌, ℕ, zero, suc, ◌<◌, ◌≤◌, ◌⊎◌, inl, inr, refl, sym, ap, subst, arith}
use Rattle.std.proofs.lemmas.Bool.{cases_lt}
use Rattle.cmd_tree.specs.Rounds.{same_number, tally, naught}
use Rattle.net_laws.proofs.Webs.{Web, numbers_decide, WebSound, WebExact}
use Rattle.net_laws.proofs.Told.{Lawful, Flows}
use Rattle.net_laws.proofs.Woven.{Grew, grew_same, grew_le, grew_other, Reads, Counting, Keeps, Draws, pull, give, show, web_sound, web_exact}
use Rattle.fan_trees.proofs.FanRules.{JoinNarrow, JoinWide}
use Rattle.fan_trees.proofs.FanWires.{Wire, Root, Mid, Leaf, same_wire, wires_decide, above, below, two_ends, size, There, leaf_of, place_of, Rule}

-- the web of a layer that gathers
abbrev pub gather_web : (ℕ → ℕ → (ℕ → ℕ) → Type 0) → (ℕ → ℕ → (ℕ → ℕ) → ℕ → Type 0) → ℕ → ℕ → Web ℕ Wire
gather_web Narrow Wide h r = record {
  same_node = same_number;
  same_wire = same_wire;
  driver = below;
  receiver = above;
  outside = 0;
  rule = λ n t w. Rule Narrow Wide h r n (tally same_wire naught t) w;
}

pub gather_lawful : (Narrow : ℕ → ℕ → (ℕ → ℕ) → Type 0) (Wide : ℕ → ℕ → (ℕ → ℕ) → ℕ → Type 0) (h r : ℕ) → Lawful ℕ Wire (gather_web Narrow Wide h r)
gather_lawful Narrow Wide h r = record { nodes = numbers_decide; wires = wires_decide; clean = λ w e. two_ends w (sym e) }

-- what holds of both halves
pub each_half : (P : ℕ → Type 0) → P 0 → P 1 → (g : ℕ) → g < 2 → P g
each_half P a b zero low = a
each_half P a b (suc zero) low = b
each_half P a b (suc (suc g)) low = absurd (omega arith)

module _ (h r : ℕ) (some_first : 0 < h) (some_rest : 0 < r) where
  abbrev web : Web ℕ Wire
  web = gather_web JoinNarrow JoinWide h r

  abbrev JRule : ℕ → (Wire → ℕ) → Wire → Type 0
  JRule = Rule JoinNarrow JoinWide h r

  some : (g : ℕ) → 0 < size h r g
  some zero = some_first
  some (suc g) = some_rest

  lawful : Lawful ℕ Wire web
  lawful = gather_lawful JoinNarrow JoinWide h r

  counting : Counting ℕ Wire web JRule
  counting = record { there = λ n t w k. k; back = λ n t w k. k }

  record Inv (F P : Wire → ℕ) : Type 0 where
    leaf : (g i : ℕ) → g < 2 → i < size h r g → F (Leaf g i) ≤ suc (P Root)
    mid : (g i : ℕ) → g < 2 → i < size h r g → F (Mid g) ≤ P (Leaf g i)
    root : (g : ℕ) → g < 2 → F Root ≤ P (Mid g)

  sends : (F P c : Wire → ℕ) (w : Wire) → Flows F P → Inv F P → Reads ℕ Wire web (below w) c F P → JRule (below w) c w
      → There h r w × (F w ≡ P w) × ((G : Wire → ℕ) → Grew F w G → Inv G P)
  sends F P c (Leaf g j) f v a n = (
    (n.0, n.1),
    omega (arith, n.2, a.sent (Leaf g j) refl, a.got Root refl, f Root, v.root g n.0, f (Mid g), v.mid g j n.0 n.1, f (Leaf g j)),
    λ G q. record {
      leaf = λ k i x y. leaf_next G k i x y (q (Leaf k i));
      mid = λ k i x y. subst (λ z. z ≤ P (Leaf k i)) (sym (grew_other F (Leaf g j) G q (Mid k) (λ e. cc))) (v.mid k i x y);
      root = λ k x. subst (λ z. z ≤ P (Mid k)) (sym (grew_other F (Leaf g j) G q Root (λ e. cc))) (v.root k x);
    },
  )
    where
      leaf_next : (G : Wire → ℕ) (k i : ℕ) → k < 2 → i < size h r k
          → ((Leaf k i ≡ Leaf g j) × (G (Leaf k i) ≡ suc (F (Leaf k i)))) ⊎ ((Leaf k i ≡ Leaf g j → ⊥) × (G (Leaf k i) ≡ F (Leaf k i))) → G (Leaf k i) ≤ suc (P Root)
      leaf_next G k i x y (inl (p, e)) = omega (arith, ap F p, n.2, a.sent (Leaf g j) refl, a.got Root refl)
      leaf_next G k i x y (inr (p, e)) = omega (arith, v.leaf k i x y)
  sends F P c (Mid g) f v a n = (
    n.1,
    omega (arith, n.2 0 (some g), a.sent (Mid g) refl, a.got (Leaf g 0) refl, f (Leaf g 0), v.leaf g 0 n.1 (some g), f Root, v.root g n.1, f (Mid g)),
    λ G q. record {
      leaf = λ k i x y. subst (λ z. z ≤ suc (P Root)) (sym (grew_other F (Mid g) G q (Leaf k i) (λ e. cc))) (v.leaf k i x y);
      mid = λ k i x y. mid_next G k i x y (q (Mid k));
      root = λ k x. subst (λ z. z ≤ P (Mid k)) (sym (grew_other F (Mid g) G q Root (λ e. cc))) (v.root k x);
    },
  )
    where
      mid_next : (G : Wire → ℕ) (k i : ℕ) → k < 2 → i < size h r k
          → ((Mid k ≡ Mid g) × (G (Mid k) ≡ suc (F (Mid k)))) ⊎ ((Mid k ≡ Mid g → ⊥) × (G (Mid k) ≡ F (Mid k))) → G (Mid k) ≤ P (Leaf k i)
      mid_next G k i x y (inl (p, e)) =
          let same : k ≡ g = cc in
          let inside : i < size h r g = subst (λ z. i < size h r z) same y in
          omega (arith, ap F p, n.2 i inside, a.sent (Mid g) refl, a.got (Leaf g i) refl, ap (λ z. P (Leaf z i)) same)
      mid_next G k i x y (inr (p, e)) = omega (arith, v.mid k i x y)
  sends F P c Root f v a n = (
    tt,
    omega (arith, n 0 (omega arith), a.sent Root refl, a.got (Mid 0) refl, f (Mid 0), v.mid 0 0 (omega arith) (some 0), f (Leaf 0 0), v.leaf 0 0 (omega arith) (some 0), f Root),
    λ G q. record {
      leaf = λ k i x y. subst (λ z. z ≤ suc (P Root)) (sym (grew_other F Root G q (Leaf k i) (λ e. cc))) (v.leaf k i x y);
      mid = λ k i x y. subst (λ z. z ≤ P (Leaf k i)) (sym (grew_other F Root G q (Mid k) (λ e. cc))) (v.mid k i x y);
      root = λ k x. omega (arith, grew_same F Root G q Root refl, n k x, a.sent Root refl, a.got (Mid k) refl);
    },
  )

  lands : (F P c : Wire → ℕ) (w : Wire) → Flows F P → Inv F P → Reads ℕ Wire web (above w) c F P → There h r w → F w ≡ suc (P w)
      → JRule (above w) c w × ((Q : Wire → ℕ) → Grew P w Q → Inv F Q)
  lands F P c w f v a x e = (
    takes w x e a,
    λ Q q. record {
      leaf = λ g i x y. omega (arith, v.leaf g i x y, grew_le P w Q q Root);
      mid = λ g i x y. omega (arith, v.mid g i x y, grew_le P w Q q (Leaf g i));
      root = λ g x. omega (arith, v.root g x, grew_le P w Q q (Mid g));
    },
  )
    where
      takes : (w : Wire) → There h r w → F w ≡ suc (P w) → Reads ℕ Wire web (above w) c F P → JRule (above w) c w
      takes (Leaf g i) x e a = (
        refl,
        x.0,
        x.1,
        omega (arith, v.leaf g i x.0 x.1, f Root, v.root g x.0, f (Mid g), v.mid g i x.0 x.1, a.got (Leaf g i) refl, a.sent (Mid g) refl),
      )
      takes (Mid g) x e a = (
        x,
        omega (arith, v.mid g 0 x (some g), f (Leaf g 0), v.leaf g 0 x (some g), f Root, v.root g x, a.got (Mid g) refl, a.sent Root refl),
      )
      takes Root x e a = λ p low.
          let (g, i, near, inside, at) = leaf_of h r p low in
          omega (arith, v.root g near, f (Mid g), v.mid g i near inside, f (Leaf g i), a.got Root refl, a.sent (Leaf g i) refl, ap c at)

  keeps : Keeps ℕ Wire web JRule (There h r) Inv
  keeps = record {
    begins = λ F P f p. record { leaf = λ g i x y. omega (arith, f (Leaf g i)); mid = λ g i x y. omega (arith, f (Mid g)); root = λ g x. omega (arith, f Root) };
    sends = sends;
    lands = lands;
  }

  abbrev Always : (Wire → ℕ) → Type 0
  Always x = Unit {0}

  abbrev Serves : (Wire → ℕ) → Type 0
  Serves = Draws ℕ Wire web JRule Inv Always Root

  abbrev Lags : (Wire → ℕ) → Type 0
  Lags x = (g i : ℕ) → g < 2 → i < size h r g → x Root < x (Leaf g i)

  -- a half that has all its inputs gives its wire, if it has not yet
  ready : (x : Wire → ℕ) (g : ℕ) → g < 2 → Lags x → Inv x x → (x Root < x (Mid g) → Serves x)
      → ((y : Wire → ℕ) → Grew x (Mid g) y → Inv y y → y Root < y (Mid g) → Serves y) → Serves x
  ready x g near lag v here after = at (cases_lt (x Root) (x (Mid g)))
    where
      at : (x Root < x (Mid g)) ⊎ (x (Mid g) ≤ x Root) → Serves x
      at (inl less) = here less
      at (inr more) = pull (Mid g) (λ z. omega arith) (λ z. omega arith)
          (λ b z. (refl, near, λ i y. omega (arith, lag g i near y, z.sent (Mid g) refl, z.got (Leaf g i) refl)))
          (λ y q k. after y q k (omega (arith, v.root g near, grew_other x (Mid g) y q Root (λ e. cc), grew_same x (Mid g) y q (Mid g) refl)))

  lag_next : (x : Wire → ℕ) (g : ℕ) (y : Wire → ℕ) → Grew x (Mid g) y → Lags x → Lags y
  lag_next x g y q lag = λ k i near inside. omega (arith, lag k i near inside, grew_other x (Mid g) y q Root (λ e. cc), grew_other x (Mid g) y q (Leaf k i) (λ e. cc))

  shows : (x : Wire → ℕ) → x Root < x (Mid 0) → x Root < x (Mid 1) → Serves x
  shows x a b = show refl
      (λ c z. λ g near. omega (arith, each_half (λ g. x Root < x (Mid g)) a b g near, z.sent Root refl, z.got (Mid g) refl)) (λ y q k. tt)

  last_half : (x : Wire → ℕ) → Lags x → Inv x x → x Root < x (Mid 0) → Serves x
  last_half x lag v a = ready x 1 (omega arith) lag v (λ b. shows x a b)
      (λ y q k b. shows y (omega (arith, grew_other x (Mid 1) y q Root (λ e. cc), grew_le x (Mid 1) y q (Mid 0))) b)

  draws : (x c : Wire → ℕ) (q : Wire) → Inv x x → Always x → Reads ℕ Wire web 0 c x x → JRule 0 c q → Draws ℕ Wire web JRule Inv Always q x
  draws x c (Leaf g i) v j a n = give refl (λ y q k. tt)
  draws x c (Mid g) v j a n = absurd n
  draws x c Root v j a n = ready x 0 (omega arith) lag v (λ b. last_half x lag v b) (λ y q k b. last_half y (lag_next x 0 y q lag) k b)
    where
      lag : Lags x
      lag = λ g i near inside.
          let (p, low, at) = place_of h r g i near inside in
          omega (arith, n p low, ap c at, a.got Root refl, a.sent (Leaf g i) refl)

  pub join_sound : WebSound web
  join_sound = web_sound ℕ Wire web JRule (There h r) Inv lawful counting keeps

  pub join_exact : WebExact web
  join_exact = web_exact ℕ Wire web JRule (There h r) Inv Always lawful counting keeps tt draws
