-- The web of a layer of FORKs is sound and exact.
use Rattle.std.proofs.Common.{◌≡◌, ℕ, zero, suc, ◌<◌, ◌≤◌, ◌⊎◌, inl, inr, refl, sym, ap, subst, ◌∙◌, arith}
use Rattle.std.proofs.lemmas.Bool.{cases_lt}
use Rattle.cmd_tree.specs.Rounds.{same_number, tally, naught}
use Rattle.net_laws.proofs.Webs.{Web, numbers_decide, WebSound, WebExact}
use Rattle.net_laws.proofs.Told.{Lawful, Flows}
use Rattle.net_laws.proofs.Woven.{Grew, grew_same, grew_le, grew_other, Reads, Counting, Keeps, Draws, pull, give, show, web_sound, web_exact}
use Rattle.fan_trees.proofs.FanRules.{ForkNarrow, ForkWide}
use Rattle.fan_trees.proofs.FanWires.{Wire, Root, Mid, Leaf, same_wire, wires_decide, above, below, two_ends, size, There, place_of, Rule}

abbrev pub fork_web : ℕ → ℕ → Web ℕ Wire
fork_web h r = record {
  same_node = same_number;
  same_wire = same_wire;
  driver = above;
  receiver = below;
  outside = 0;
  rule = λ n t w. Rule ForkNarrow ForkWide h r n (tally same_wire naught t) w;
}

module _ (h r : ℕ) (some_first : 0 < h) (some_rest : 0 < r) where
  abbrev FRule : ℕ → (Wire → ℕ) → Wire → Type 0
  FRule = Rule ForkNarrow ForkWide h r

  some : (g : ℕ) → 0 < size h r g
  some zero = some_first
  some (suc g) = some_rest

  pub fork_lawful : Lawful ℕ Wire (fork_web h r)
  fork_lawful = record { nodes = numbers_decide; wires = wires_decide; clean = two_ends }

  counting : Counting ℕ Wire (fork_web h r) FRule
  counting = record { there = λ n t w k. k; back = λ n t w k. k }

  record Inv (F P : Wire → ℕ) : Type 0 where
    root : (g i : ℕ) → g < 2 → i < size h r g → F Root ≤ suc (P (Leaf g i))
    mid : (g : ℕ) → g < 2 → F (Mid g) ≤ P Root
    leaf : (g i : ℕ) → g < 2 → i < size h r g → F (Leaf g i) ≤ P (Mid g)

  sends : (F P c : Wire → ℕ) (w : Wire) → Flows F P → Inv F P → Reads ℕ Wire (fork_web h r) (above w) c F P → FRule (above w) c w
      → There h r w × (F w ≡ P w) × ((G : Wire → ℕ) → Grew F w G → Inv G P)
  sends F P c Root f v a n = (
    tt,
    omega (arith, same 0 0 (omega arith) (some 0), v.leaf 0 0 (omega arith) (some 0), v.mid 0 (omega arith), a.sent Root refl, a.got (Leaf 0 0) refl, f (Leaf 0 0), f (Mid 0), f Root),
    λ G q. record {
      root = λ g i x y. omega (arith, grew_same F Root G q Root refl, same g i x y, a.sent Root refl, a.got (Leaf g i) refl);
      mid = λ g x. subst (λ z. z ≤ P Root) (sym (grew_other F Root G q (Mid g) (λ e. cc))) (v.mid g x);
      leaf = λ g i x y. subst (λ z. z ≤ P (Mid g)) (sym (grew_other F Root G q (Leaf g i) (λ e. cc))) (v.leaf g i x y);
    },
  )
    where
      same : (g i : ℕ) → g < 2 → i < size h r g → c Root ≡ c (Leaf g i)
      same g i x y = let (p, low, at) = place_of h r g i x y in n p low ∙ ap c at
  sends F P c (Mid g) f v a n = (
    n.0,
    omega (arith, n.1, a.sent (Mid g) refl, a.got Root refl, f Root, v.root g 0 n.0 (some g), f (Leaf g 0), v.leaf g 0 n.0 (some g), f (Mid g)),
    λ G q. record {
      root = λ k i x y. subst (λ z. z ≤ suc (P (Leaf k i))) (sym (grew_other F (Mid g) G q Root (λ e. cc))) (v.root k i x y);
      mid = λ k x. mid_next G k x (q (Mid k));
      leaf = λ k i x y. subst (λ z. z ≤ P (Mid k)) (sym (grew_other F (Mid g) G q (Leaf k i) (λ e. cc))) (v.leaf k i x y);
    },
  )
    where
      mid_next : (G : Wire → ℕ) (k : ℕ) → k < 2 → ((Mid k ≡ Mid g) × (G (Mid k) ≡ suc (F (Mid k)))) ⊎ ((Mid k ≡ Mid g → ⊥) × (G (Mid k) ≡ F (Mid k))) → G (Mid k) ≤ P Root
      mid_next G k x (inl (p, e)) = omega (arith, ap F p, n.1, a.sent (Mid g) refl, a.got Root refl)
      mid_next G k x (inr (p, e)) = omega (arith, v.mid k x)
  sends F P c (Leaf g j) f v a n = (
    (n.1, n.2),
    omega (arith, n.3, a.sent (Leaf g j) refl, a.got (Mid g) refl, f (Mid g), v.mid g n.1, f Root, v.root g j n.1 n.2, f (Leaf g j)),
    λ G q. record {
      root = λ k i x y. subst (λ z. z ≤ suc (P (Leaf k i))) (sym (grew_other F (Leaf g j) G q Root (λ e. cc))) (v.root k i x y);
      mid = λ k x. subst (λ z. z ≤ P Root) (sym (grew_other F (Leaf g j) G q (Mid k) (λ e. cc))) (v.mid k x);
      leaf = λ k i x y. leaf_next G k i x y (q (Leaf k i));
    },
  )
    where
      leaf_next : (G : Wire → ℕ) (k i : ℕ) → k < 2 → i < size h r k
          → ((Leaf k i ≡ Leaf g j) × (G (Leaf k i) ≡ suc (F (Leaf k i)))) ⊎ ((Leaf k i ≡ Leaf g j → ⊥) × (G (Leaf k i) ≡ F (Leaf k i))) → G (Leaf k i) ≤ P (Mid k)
      leaf_next G k i x y (inl (p, e)) =
          let same : k ≡ g = cc in
          omega (arith, ap F p, n.3, a.sent (Leaf g j) refl, a.got (Mid g) refl, ap (λ z. P (Mid z)) same)
      leaf_next G k i x y (inr (p, e)) = omega (arith, v.leaf k i x y)

  lands : (F P c : Wire → ℕ) (w : Wire) → Flows F P → Inv F P → Reads ℕ Wire (fork_web h r) (below w) c F P → There h r w → F w ≡ suc (P w)
      → FRule (below w) c w × ((Q : Wire → ℕ) → Grew P w Q → Inv F Q)
  lands F P c w f v a x e = (
    takes w x e a,
    λ Q q. record {
      root = λ g i x y. omega (arith, v.root g i x y, grew_le P w Q q (Leaf g i));
      mid = λ g x. omega (arith, v.mid g x, grew_le P w Q q Root);
      leaf = λ g i x y. omega (arith, v.leaf g i x y, grew_le P w Q q (Mid g));
    },
  )
    where
      takes : (w : Wire) → There h r w → F w ≡ suc (P w) → Reads ℕ Wire (fork_web h r) (below w) c F P → FRule (below w) c w
      takes Root x e a = λ g y. omega (arith, v.root g 0 y (some g), f (Leaf g 0), v.leaf g 0 y (some g), f (Mid g), v.mid g y, a.got Root refl, a.sent (Mid g) refl)
      takes (Mid g) x e a = (refl, x, λ i y. omega (arith, v.mid g x, f Root, v.root g i x y, f (Leaf g i), v.leaf g i x y, a.got (Mid g) refl, a.sent (Leaf g i) refl))
      takes (Leaf g i) x e a = (x.0, x.1, omega (arith, v.leaf g i x.0 x.1, f (Mid g), v.mid g x.0, f Root, a.got (Leaf g i) refl, a.sent Root refl))

  keeps : Keeps ℕ Wire (fork_web h r) FRule (There h r) Inv
  keeps = record {
    begins = λ F P f p. record { root = λ g i x y. omega (arith, f Root); mid = λ g x. omega (arith, f (Mid g)); leaf = λ g i x y. omega (arith, f (Leaf g i)) };
    sends = sends;
    lands = lands;
  }

  abbrev Always : (Wire → ℕ) → Type 0
  Always x = Unit {0}

  abbrev Serves : Wire → (Wire → ℕ) → Type 0
  Serves = Draws ℕ Wire (fork_web h r) FRule Inv Always

  -- a half gives a wire that lags behind the wire to it
  shows : (x : Wire → ℕ) (g i : ℕ) → g < 2 → i < size h r g → x (Leaf g i) < x (Mid g) → Serves (Leaf g i) x
  shows x g i near inside less = show refl (λ b z. (refl, near, inside, omega (arith, z.sent (Leaf g i) refl, z.got (Mid g) refl))) (λ y q k. tt)

  draws : (x c : Wire → ℕ) (q : Wire) → Inv x x → Always x → Reads ℕ Wire (fork_web h r) 0 c x x → FRule 0 c q → Serves q x
  draws x c Root v j a n = give refl (λ y q k. tt)
  draws x c (Mid g) v j a n = absurd n
  draws x c (Leaf g i) v j a n = at (cases_lt (x (Leaf g i)) (x (Mid g)))
    where
      lag : x (Leaf g i) < x Root
      lag = omega (arith, n.2, a.got (Leaf g i) refl, a.sent Root refl)

      at : (x (Leaf g i) < x (Mid g)) ⊎ (x (Mid g) ≤ x (Leaf g i)) → Serves (Leaf g i) x
      at (inl less) = shows x g i n.0 n.1 less
      at (inr more) = pull (Mid g) (λ z. omega arith) (λ z. omega arith) (λ b z. (n.0, omega (arith, lag, z.sent (Mid g) refl, z.got Root refl)))
          (λ y q k. shows y g i n.0 n.1 (omega (arith, v.leaf g i n.0 n.1, grew_other x (Mid g) y q (Leaf g i) (λ e. cc), grew_same x (Mid g) y q (Mid g) refl)))

  pub fork_sound : WebSound (fork_web h r)
  fork_sound = web_sound ℕ Wire (fork_web h r) FRule (There h r) Inv fork_lawful counting keeps

  pub fork_exact : WebExact (fork_web h r)
  fork_exact = web_exact ℕ Wire (fork_web h r) FRule (There h r) Inv Always fork_lawful counting keeps tt draws
