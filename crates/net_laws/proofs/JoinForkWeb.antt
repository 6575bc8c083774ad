-- The web of a join and a spread in a row, for any numbers of inputs and outputs: it is sound and exact.
use Rattle.std.proofs.Common.{◌≡◌, ℕ, zero, suc, ◌<◌, ◌≤◌, Bool, ◌⊎◌, inl, inr, refl, sym, ap, subst, arith}
use Rattle.std.proofs.lemmas.Bool.{cases_lt}
use native.Mathlib.Decide.{ℕ_discrete}
use Rattle.cmd_tree.specs.Rounds.{same_number, tally, naught}
use Rattle.net_laws.proofs.Webs.{Web, numbers_decide, Decides, test, test_decides, WebSound, WebExact}
use Rattle.net_laws.proofs.Told.{Lawful, Flows}
use Rattle.net_laws.proofs.Woven.{Grew, grew_same, grew_le, grew_other, Reads, Counting, Keeps, Draws, pull, give, show, web_sound, web_exact}

-- The wires: input i, output j, and the one between the two components.
pub data Wire : Type 0 where
  In : ℕ → Wire
  Out : ℕ → Wire
  Mid : Wire
  deriving Discrete as wire_discrete

abbrev pub same_wire : Wire → Wire → Bool
same_wire = test (wire_discrete ℕ_discrete)

pub wires_decide : Decides same_wire
wires_decide = test_decides (wire_discrete ℕ_discrete)

-- the rule of rounds with n inputs and m outputs
abbrev pub AtRounds : ℕ → ℕ → (Wire → ℕ) → Wire → Type 0
AtRounds n m c (In i) = (i < n) × ((j : ℕ) → j < m → c (In i) ≡ c (Out j))
AtRounds n m c (Out j) = (j < m) × ((i : ℕ) → i < n → c (Out j) < c (In i))
AtRounds n m c Mid = ⊥

-- the rule of a join of n inputs to Mid
abbrev pub AtJoin : ℕ → (Wire → ℕ) → Wire → Type 0
AtJoin n c (In i) = (i < n) × (c (In i) ≡ c Mid)
AtJoin n c (Out j) = ⊥
AtJoin n c Mid = (i : ℕ) → i < n → c Mid < c (In i)

-- the rule of a spread of Mid to m outputs
abbrev pub AtSpread : ℕ → (Wire → ℕ) → Wire → Type 0
AtSpread m c (In i) = ⊥
AtSpread m c (Out j) = (j < m) × (c (Out j) < c Mid)
AtSpread m c Mid = (j : ℕ) → j < m → c Mid ≡ c (Out j)

-- A join and a spread.
abbrev pub two_driver : Wire → ℕ
two_driver (In i) = 0
two_driver (Out j) = 2
two_driver Mid = 1

abbrev pub two_receiver : Wire → ℕ
two_receiver (In i) = 1
two_receiver (Out j) = 0
two_receiver Mid = 2

abbrev pub TwoRule : ℕ → ℕ → ℕ → (Wire → ℕ) → Wire → Type 0
TwoRule n m zero c w = AtRounds n m c w
TwoRule n m (suc zero) c w = AtJoin n c w
TwoRule n m (suc (suc k)) c w = AtSpread m c w

abbrev pub two_web : ℕ → ℕ → Web ℕ Wire
two_web n m = record {
  same_node = same_number;
  same_wire = same_wire;
  driver = two_driver;
  receiver = two_receiver;
  outside = 0;
  rule = λ k t w. TwoRule n m k (tally same_wire naught t) w;
}

module _ (n m : ℕ) (some_in : 0 < n) (some_out : 0 < m) where
  abbrev Always : (Wire → ℕ) → Type 0
  Always x = Unit {0}

  pub two_lawful : Lawful ℕ Wire (two_web n m)
  two_lawful = record { nodes = numbers_decide; wires = wires_decide; clean = clean }
    where
      clean : (w : Wire) → two_driver w ≡ two_receiver w → ⊥
      clean (In i) e = omega arith
      clean (Out j) e = omega arith
      clean Mid e = omega arith

  two_counting : Counting ℕ Wire (two_web n m) (TwoRule n m)
  two_counting = record { there = λ k t w h. h; back = λ k t w h. h }

  abbrev TwoIn : Wire → Type 0
  TwoIn (In i) = i < n
  TwoIn (Out j) = j < m
  TwoIn Mid = Unit {0}

  record Two (F P : Wire → ℕ) : Type 0 where
    row : (i j : ℕ) → i < n → j < m → F (In i) ≤ suc (P (Out j))
    mid : (i : ℕ) → i < n → F Mid ≤ P (In i)
    col : (j : ℕ) → j < m → F (Out j) ≤ P Mid

  two_sends : (F P c : Wire → ℕ) (w : Wire) → Flows F P → Two F P → Reads ℕ Wire (two_web n m) (two_driver w) c F P → TwoRule n m (two_driver w) c w
      → TwoIn w × (F w ≡ P w) × ((G : Wire → ℕ) → Grew F w G → Two G P)
  two_sends F P c (In i) f h a r = (
    r.0,
    omega (arith, h.mid i r.0, h.col 0 some_out, r.1 0 some_out, a.sent (In i) refl, a.got (Out 0) refl, f (Out 0), f (In i), f Mid),
    λ G g. record {
      row = λ k j x y. row G g k j x y (g (In k));
      mid = λ k x. subst (λ z. z ≤ P (In k)) (sym (grew_other F (In i) G g Mid (λ e. cc))) (h.mid k x);
      col = λ j y. subst (λ z. z ≤ P Mid) (sym (grew_other F (In i) G g (Out j) (λ e. cc))) (h.col j y);
    },
  )
    where
      row : (G : Wire → ℕ) → Grew F (In i) G → (k j : ℕ) → k < n → j < m
          → ((In k ≡ In i) × (G (In k) ≡ suc (F (In k)))) ⊎ ((In k ≡ In i → ⊥) × (G (In k) ≡ F (In k))) → G (In k) ≤ suc (P (Out j))
      row G g k j x y (inl (p, e)) = omega (arith, ap F p, r.1 j y, a.sent (In i) refl, a.got (Out j) refl)
      row G g k j x y (inr (p, e)) = omega (arith, h.row k j x y)
  two_sends F P c (Out j) f h a r = (
    r.0,
    omega (arith, r.1, a.sent (Out j) refl, a.got Mid refl, f Mid, h.mid 0 some_in, f (In 0), h.row 0 j some_in r.0, f (Out j)),
    λ G g. record {
      row = λ i k x y. subst (λ z. z ≤ suc (P (Out k))) (sym (grew_other F (Out j) G g (In i) (λ e. cc))) (h.row i k x y);
      mid = λ k x. subst (λ z. z ≤ P (In k)) (sym (grew_other F (Out j) G g Mid (λ e. cc))) (h.mid k x);
      col = λ k y. col G g k y (g (Out k));
    },
  )
    where
      col : (G : Wire → ℕ) → Grew F (Out j) G → (k : ℕ) → k < m
          → ((Out k ≡ Out j) × (G (Out k) ≡ suc (F (Out k)))) ⊎ ((Out k ≡ Out j → ⊥) × (G (Out k) ≡ F (Out k))) → G (Out k) ≤ P Mid
      col G g k y (inl (p, e)) = omega (arith, ap F p, r.1, a.sent (Out j) refl, a.got Mid refl)
      col G g k y (inr (p, e)) = omega (arith, h.col k y)
  two_sends F P c Mid f h a r = (
    tt,
    omega (arith, r 0 some_in, a.sent Mid refl, a.got (In 0) refl, f (In 0), h.row 0 0 some_in some_out, f (Out 0), h.col 0 some_out, f Mid),
    λ G g. record {
      row = λ i k x y. subst (λ z. z ≤ suc (P (Out k))) (sym (grew_other F Mid G g (In i) (λ e. cc))) (h.row i k x y);
      mid = λ k x. mid G g k x (g Mid);
      col = λ j y. subst (λ z. z ≤ P Mid) (sym (grew_other F Mid G g (Out j) (λ e. cc))) (h.col j y);
    },
  )
    where
      mid : (G : Wire → ℕ) → Grew F Mid G → (k : ℕ) → k < n
          → ((Mid ≡ Mid) × (G Mid ≡ suc (F Mid))) ⊎ ((Mid ≡ Mid → ⊥) × (G Mid ≡ F Mid)) → G Mid ≤ P (In k)
      mid G g k x (inl (p, e)) = omega (arith, r k x, a.sent Mid refl, a.got (In k) refl)
      mid G g k x (inr (p, e)) = absurd (p refl)

  two_lands : (F P c : Wire → ℕ) (w : Wire) → Flows F P → Two F P → Reads ℕ Wire (two_web n m) (two_receiver w) c F P → TwoIn w → F w ≡ suc (P w)
      → TwoRule n m (two_receiver w) c w × ((Q : Wire → ℕ) → Grew P w Q → Two F Q)
  two_lands F P c w f h a x e = (
    takes w x e a,
    λ Q g. record {
      row = λ i j x y. omega (arith, h.row i j x y, grew_le P w Q g (Out j));
      mid = λ i x. omega (arith, h.mid i x, grew_le P w Q g (In i));
      col = λ j y. omega (arith, h.col j y, grew_le P w Q g Mid);
    },
  )
    where
      takes : (w : Wire) → TwoIn w → F w ≡ suc (P w) → Reads ℕ Wire (two_web n m) (two_receiver w) c F P → TwoRule n m (two_receiver w) c w
      takes (In i) x e a = (x, omega (arith, h.mid i x, h.row i 0 x some_out, f (Out 0), h.col 0 some_out, f Mid, a.got (In i) refl, a.sent Mid refl))
      takes (Out j) x e a = (x, λ i y. omega (arith, h.col j x, f Mid, h.mid i y, f (In i), a.got (Out j) refl, a.sent (In i) refl))
      takes Mid x e a = λ j y. omega (arith, h.col j y, h.mid 0 some_in, f (In 0), h.row 0 j some_in y, f (Out j), a.got Mid refl, a.sent (Out j) refl)

  two_keeps : Keeps ℕ Wire (two_web n m) (TwoRule n m) TwoIn Two
  two_keeps = record {
    begins = λ F P f p. record { row = λ i j x y. omega (arith, f (In i)); mid = λ i x. omega (arith, f Mid); col = λ j y. omega (arith, f (Out j)) };
    sends = two_sends;
    lands = two_lands;
  }

  -- the spread gives an output that lags behind Mid
  two_show : (x : Wire → ℕ) (o : ℕ) → o < m → x (Out o) < x Mid → Draws ℕ Wire (two_web n m) (TwoRule n m) Two Always (Out o) x
  two_show x o h e = show refl (λ b z. (h, omega (arith, z.sent (Out o) refl, z.got Mid refl))) (λ y g k. tt)

  two_draws : (x c : Wire → ℕ) (q : Wire) → Two x x → Always x → Reads ℕ Wire (two_web n m) 0 c x x → TwoRule n m 0 c q → Draws ℕ Wire (two_web n m) (TwoRule n m) Two Always q x
  two_draws x c (In i) h j a r = give refl (λ y g k. tt)
  two_draws x c (Out o) h j a r = at (cases_lt (x (Out o)) (x Mid))
    where
      lag : (i : ℕ) → i < n → x (Out o) < x (In i)
      lag i y = omega (arith, r.1 i y, a.got (Out o) refl, a.sent (In i) refl)

      at : (x (Out o) < x Mid) ⊎ (x Mid ≤ x (Out o)) → Draws ℕ Wire (two_web n m) (TwoRule n m) Two Always (Out o) x
      at (inl e) = two_show x o r.0 e
      at (inr e) = pull Mid (λ z. omega arith) (λ z. omega arith) (λ b z i y. omega (arith, lag i y, z.sent Mid refl, z.got (In i) refl))
          (λ y g k. two_show y o r.0 (omega (arith, h.col o r.0, grew_other x Mid y g (Out o) (λ z. cc), grew_le x Mid y g Mid, grew_same x Mid y g Mid refl)))
  two_draws x c Mid h j a r = absurd r

  pub two_sound : WebSound (two_web n m)
  two_sound = web_sound ℕ Wire (two_web n m) (TwoRule n m) TwoIn Two two_lawful two_counting two_keeps

  pub two_exact : WebExact (two_web n m)
  two_exact = web_exact ℕ Wire (two_web n m) (TwoRule n m) TwoIn Two Always two_lawful two_counting two_keeps tt two_draws
