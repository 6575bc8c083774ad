-- The web of a layer of MERGEs is sound and exact.
use Rattle.std.proofs.Common.{◌≡◌, ℕ, suc, ◌+◌, ◌<◌, ◌≤◌, ◌⊎◌, inl, inr, refl, sym, ap, subst, ◌∙◌, arith}
use Rattle.std.proofs.lemmas.Bool.{cases_lt}
use Rattle.basic_kinds.specs.Totals.{total}
use Rattle.basic_kinds.proofs.Totals.{total_none, total_same, total_le, total_one, total_gap, total_some}
use Rattle.net_laws.proofs.Webs.{Web, WebSound, WebExact}
use Rattle.net_laws.proofs.Told.{Lawful, Flows}
use Rattle.net_laws.proofs.Woven.{Grew, grew_same, grew_le, grew_other, Reads, Counting, Keeps, Draws, pull, give, show, web_sound, web_exact}
use Rattle.fan_trees.proofs.FanRules.{MergeNarrow, MergeWide}
use Rattle.fan_trees.proofs.FanWires.{Wire, Root, Mid, Leaf, above, below, size, There, half_sum, leaf_total, Rule}
use Rattle.fan_trees.proofs.JoinWeb.{gather_web, gather_lawful}

module _ (h r : ℕ) where
  abbrev web : Web ℕ Wire
  web = gather_web MergeNarrow MergeWide h r

  abbrev MRule : ℕ → (Wire → ℕ) → Wire → Type 0
  MRule = Rule MergeNarrow MergeWide h r

  lawful : Lawful ℕ Wire web
  lawful = gather_lawful MergeNarrow MergeWide h r

  counting : Counting ℕ Wire web MRule
  counting = record { there = λ n t w k. k; back = λ n t w k. k }

  -- all wires of a half, all wires at the wide ports, and both wires between
  abbrev half : (Wire → ℕ) → ℕ → ℕ
  half e g = half_sum h r e g

  abbrev all : (Wire → ℕ) → ℕ
  all e = total 2 (half e)

  abbrev mids : (Wire → ℕ) → ℕ
  mids e = total 2 (λ g. e (Mid g))

  record Inv (F P : Wire → ℕ) : Type 0 where
    leaf : all F ≤ suc (P Root)
    mid : (g : ℕ) → g < 2 → F (Mid g) ≤ half P g
    root : F Root ≤ mids P

  half_le : (F P : Wire → ℕ) → ((w : Wire) → P w ≤ F w) → (g : ℕ) → half P g ≤ half F g
  half_le F P low g = total_le (size h r g) (λ i. P (Leaf g i)) (λ i. F (Leaf g i)) (λ i l. low (Leaf g i))

  half_same : (F G : Wire → ℕ) → ((k i : ℕ) → G (Leaf k i) ≡ F (Leaf k i)) → (g : ℕ) → half G g ≡ half F g
  half_same F G same g = total_same (size h r g) (λ i. G (Leaf g i)) (λ i. F (Leaf g i)) (λ i l. same g i)

  all_same : (F G : Wire → ℕ) → ((k i : ℕ) → G (Leaf k i) ≡ F (Leaf k i)) → all G ≡ all F
  all_same F G same = total_same 2 (half G) (half F) (λ g l. half_same F G same g)

  mids_same : (F G : Wire → ℕ) → ((g : ℕ) → G (Mid g) ≡ F (Mid g)) → mids G ≡ mids F
  mids_same F G same = total_same 2 (λ g. G (Mid g)) (λ g. F (Mid g)) (λ g l. same g)

  low_of : (F P : Wire → ℕ) → Flows F P → (w : Wire) → P w ≤ F w
  low_of F P f w = omega (arith, f w)

  -- along the tree: both wires between were handed over at most as often as fired, and that at most as often as all inputs were handed over
  chain : (F P : Wire → ℕ) → Flows F P → Inv F P → (mids P ≤ mids F) × (mids F ≤ all P) × (all P ≤ all F)
  chain F P f v = (
    total_le 2 (λ g. P (Mid g)) (λ g. F (Mid g)) (λ g l. low_of F P f (Mid g)),
    total_le 2 (λ g. F (Mid g)) (half P) (λ g l. v.mid g l),
    total_le 2 (half P) (half F) (λ g l. half_le F P (low_of F P f) g),
  )

  -- the gap at one wide port is at most that of all
  leaf_gap : (F P : Wire → ℕ) → Flows F P → (g i : ℕ) → g < 2 → i < size h r g → all P + F (Leaf g i) ≤ all F + P (Leaf g i)
  leaf_gap F P f g i near inside = omega (
    arith,
    total_gap 2 (half P) (half F) (λ k l. half_le F P (low_of F P f) k) g near,
    total_gap (size h r g) (λ j. P (Leaf g j)) (λ j. F (Leaf g j)) (λ j l. low_of F P f (Leaf g j)) i inside,
  )

  all_one : (F G : Wire → ℕ) (g i : ℕ) → g < 2 → i < size h r g → Grew F (Leaf g i) G → all G ≡ suc (all F)
  all_one F G g i near inside q = total_one 2 (half F) (half G) g near
      (total_one (size h r g) (λ j. F (Leaf g j)) (λ j. G (Leaf g j)) i inside (grew_same F (Leaf g i) G q (Leaf g i) refl)
      (λ j l other. grew_other F (Leaf g i) G q (Leaf g j) (λ e. other (let z : j ≡ i = cc in z))))
      (λ k l other. total_same (size h r k) (λ j. G (Leaf k j)) (λ j. F (Leaf k j))
      (λ j y. grew_other F (Leaf g i) G q (Leaf k j) (λ e. other (let z : k ≡ g = cc in z))))

  sends : (F P c : Wire → ℕ) (w : Wire) → Flows F P → Inv F P → Reads ℕ Wire web (below w) c F P → MRule (below w) c w
      → There h r w × (F w ≡ P w) × ((G : Wire → ℕ) → Grew F w G → Inv G P)
  sends F P c (Leaf g j) f v a n = (
    (n.0, n.1),
    omega (arith, even, f Root, v.root, chain F P f v, leaf_gap F P f g j n.0 n.1, f (Leaf g j)),
    λ G q. record {
      leaf = omega (arith, even, all_one F G g j n.0 n.1 q);
      mid = λ k x. subst (λ z. z ≤ half P k) (sym (grew_other F (Leaf g j) G q (Mid k) (λ e. cc))) (v.mid k x);
      root = subst (λ z. z ≤ mids P) (sym (grew_other F (Leaf g j) G q Root (λ e. cc))) v.root;
    },
  )
    where
      even : all F ≡ P Root
      even = sym (all_same F c (λ k i. a.sent (Leaf k i) refl)) ∙ sym (leaf_total h r c) ∙ n.2 ∙ a.got Root refl
  sends F P c (Mid g) f v a n = (
    n.1,
    omega (
      arith,
      less,
      v.leaf,
      f Root,
      v.root,
      chain F P f v,
      total_gap 2 (λ k. P (Mid k)) (half P) (λ k l. omega (arith, f (Mid k), v.mid k l)) g n.1,
      f (Mid g),
    ),
    λ G q. record {
      leaf = omega (arith, v.leaf, all_same F G (λ k i. grew_other F (Mid g) G q (Leaf k i) (λ e. cc)));
      mid = λ k x. mid_next G k x (q (Mid k));
      root = subst (λ z. z ≤ mids P) (sym (grew_other F (Mid g) G q Root (λ e. cc))) v.root;
    },
  )
    where
      less : F (Mid g) < half P g
      less = omega (arith, n.2, a.sent (Mid g) refl, total_same (size h r g) (λ i. c (Leaf g i)) (λ i. P (Leaf g i)) (λ i l. a.got (Leaf g i) refl))

      mid_next : (G : Wire → ℕ) (k : ℕ) → k < 2 → ((Mid k ≡ Mid g) × (G (Mid k) ≡ suc (F (Mid k)))) ⊎ ((Mid k ≡ Mid g → ⊥) × (G (Mid k) ≡ F (Mid k))) → G (Mid k) ≤ half P k
      mid_next G k x (inl (p, e)) = let same : k ≡ g = cc in omega (arith, less, ap F p, ap (half P) same)
      mid_next G k x (inr (p, e)) = omega (arith, v.mid k x)
  sends F P c Root f v a n = (
    tt,
    omega (arith, less, v.leaf, chain F P f v, f Root),
    λ G q. record {
      leaf = omega (arith, v.leaf, all_same F G (λ k i. grew_other F Root G q (Leaf k i) (λ e. cc)));
      mid = λ k x. subst (λ z. z ≤ half P k) (sym (grew_other F Root G q (Mid k) (λ e. cc))) (v.mid k x);
      root = omega (arith, less, grew_same F Root G q Root refl);
    },
  )
    where
      less : F Root < mids P
      less = omega (arith, n, a.sent Root refl, mids_same P c (λ k. a.got (Mid k) refl))

  lands : (F P c : Wire → ℕ) (w : Wire) → Flows F P → Inv F P → Reads ℕ Wire web (above w) c F P → There h r w → F w ≡ suc (P w)
      → MRule (above w) c w × ((Q : Wire → ℕ) → Grew P w Q → Inv F Q)
  lands F P c w f v a x e = (
    takes w x e a,
    λ Q q. record {
      leaf = omega (arith, v.leaf, grew_le P w Q q Root);
      mid = λ g y. omega (arith, v.mid g y, half_le Q P (λ u. grew_le P w Q q u) g);
      root = omega (arith, v.root, total_le 2 (λ g. P (Mid g)) (λ g. Q (Mid g)) (λ g l. grew_le P w Q q (Mid g)));
    },
  )
    where
      takes : (w : Wire) → There h r w → F w ≡ suc (P w) → Reads ℕ Wire web (above w) c F P → MRule (above w) c w
      takes (Leaf g i) x e a = (
        refl,
        x.0,
        x.1,
        omega (
          arith,
          leaf_gap F P f g i x.0 x.1,
          v.leaf,
          f Root,
          v.root,
          chain F P f v,
          total_gap 2 (λ k. F (Mid k)) (half P) (λ k l. v.mid k l) g x.0,
          v.mid g x.0,
          a.sent (Mid g) refl,
          total_same (size h r g) (λ j. c (Leaf g j)) (λ j. P (Leaf g j)) (λ j l. a.got (Leaf g j) refl),
        ),
      )
      takes (Mid g) x e a = (
        x,
        omega (
          arith,
          total_gap 2 (λ k. P (Mid k)) (λ k. F (Mid k)) (λ k l. low_of F P f (Mid k)) g x,
          v.leaf,
          f Root,
          v.root,
          chain F P f v,
          a.sent Root refl,
          mids_same P c (λ k. a.got (Mid k) refl),
        ),
      )
      takes Root x e a =
          omega (arith, v.root, chain F P f v, a.got Root refl, leaf_total h r c, all_same F c (λ k i. a.sent (Leaf k i) refl))

  keeps : Keeps ℕ Wire web MRule (There h r) Inv
  keeps = record {
    begins = λ F P f p. record {
      leaf = omega (arith, all_same (λ w. 0) F (λ k i. f (Leaf k i)), none);
      mid = λ g x. omega (arith, f (Mid g));
      root = omega (arith, f Root);
    };
    sends = sends;
    lands = lands;
  }
    where
      none : all (λ w. 0) ≡ 0
      none = total_none 2 (half (λ w. 0)) (λ g l. total_none (size h r g) (λ i. 0) (λ i y. refl))

  abbrev Always : (Wire → ℕ) → Type 0
  Always x = Unit {0}

  abbrev Serves : (Wire → ℕ) → Type 0
  Serves = Draws ℕ Wire web MRule Inv Always Root

  shows : (x : Wire → ℕ) → x Root < mids x → Serves x
  shows x less = show refl (λ c z. omega (arith, less, z.sent Root refl, mids_same x c (λ g. z.got (Mid g) refl))) (λ y q k. tt)

  draws : (x c : Wire → ℕ) (q : Wire) → Inv x x → Always x → Reads ℕ Wire web 0 c x x → MRule 0 c q → Draws ℕ Wire web MRule Inv Always q x
  draws x c (Leaf g i) v j a n = give refl (λ y q k. tt)
  draws x c (Mid g) v j a n = absurd n
  draws x c Root v j a n = at (cases_lt (x Root) (mids x))
    where
      lag : x Root < all x
      lag = omega (arith, n, a.got Root refl, leaf_total h r c, all_same x c (λ k i. a.sent (Leaf k i) refl))

      at : (x Root < mids x) ⊎ (mids x ≤ x Root) → Serves x
      at (inl less) = shows x less
      at (inr more) =
          let (g, near, less) = total_some 2 (λ g. x (Mid g)) (half x) (omega (arith, lag)) in
          pull (Mid g) (λ z. omega arith) (λ z. omega arith)
          (λ b z. (
            refl,
            near,
            omega (arith, less, z.sent (Mid g) refl, total_same (size h r g) (λ i. b (Leaf g i)) (λ i. x (Leaf g i)) (λ i l. z.got (Leaf g i) refl)),
          ))
          (λ y q k. shows y (omega (
            arith,
            v.root,
            grew_other x (Mid g) y q Root (λ e. cc),
            total_one 2 (λ k. x (Mid k)) (λ k. y (Mid k)) g near (grew_same x (Mid g) y q (Mid g) refl)
                (λ k l other. grew_other x (Mid g) y q (Mid k) (λ e. other (let z : k ≡ g = cc in z))),
          )))

  pub merge_sound : WebSound web
  merge_sound = web_sound ℕ Wire web MRule (There h r) Inv lawful counting keeps

  pub merge_exact : WebExact web
  merge_exact = web_exact ℕ Wire web MRule (There h r) Inv Always lawful counting keeps tt draws
