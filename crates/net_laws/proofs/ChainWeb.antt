-- The web of a chain of FORKs: sound and exact, for any numbers of taps.
use Rattle.std.specs.Prelude.{nat_eq, if◌then◌else◌}
use Rattle.std.proofs.Common.{eq-eqb, ne_eqb, ◌≡◌, ℕ, zero, suc, ◌+◌, ◌-◌, ◌<◌, ◌≤◌, Bool, List, [], ◌∷◌, ◌⊎◌, inl, inr, refl, sym, ap, subst, ◌∙◌, arith}
use Rattle.std.proofs.lemmas.Bool.{cases_lt, cases_eq}
use native.Mathlib.Decide.{ℕ_discrete}
use Rattle.cmd_tree.specs.Rounds.{same_number, tally, naught}
use Rattle.net_laws.specs.ForkChain.{Wire, Go, Tap, wire_discrete, each}
use Rattle.net_laws.proofs.Webs.{Web, numbers_decide, Decides, test, test_decides, WebSound, WebExact}
use Rattle.net_laws.proofs.Told.{Lawful, Flows}
use Rattle.net_laws.proofs.Woven.{Grew, grew_same, grew_le, grew_other, Reads, Counting, Keeps, Draws, pull, give, show, web_sound, web_exact}
use Rattle.net_laws.proofs.Among.{Among, all_among}
use Rattle.net_laws.proofs.Rows.{row, among_row, row_among, row_all}
use Rattle.net_laws.proofs.Blocks.{among_each, each_among}
use Rattle.net_laws.proofs.Rules.{RoundsOn}

abbrev pub same_wire : Wire → Wire → Bool
same_wire = test (wire_discrete ℕ_discrete)

pub wires_decide : Decides same_wire
wires_decide = test_decides (wire_discrete ℕ_discrete)

-- the FORK r is node r, and the environment node h
abbrev pub driver : Wire → ℕ
driver (Go i) = i
driver (Tap r j) = r

abbrev pub receiver : ℕ → Wire → ℕ
receiver h (Go zero) = h
receiver h (Go (suc r)) = r
receiver h (Tap r j) = if nat_eq r h then suc h else h

pub tap_receiver : (h r j : ℕ) → r < h → receiver h (Tap r j) ≡ h
tap_receiver h r j low = rw (ne_eqb r h (λ e. omega arith)) refl

abbrev pub taps : ℕ → (ℕ → ℕ) → List Wire
taps h u = each (λ r. row (Tap r) (u r)) h

abbrev pub EnvOn : ℕ → (ℕ → ℕ) → (Wire → ℕ) → Wire → Type 0
EnvOn h u c w = RoundsOn (Go h ∷ []) (Go 0 ∷ taps h u) c w

abbrev pub ForkOn : (ℕ → ℕ) → ℕ → (Wire → ℕ) → Wire → Type 0
ForkOn u n c w = RoundsOn (Go (suc n) ∷ []) (Go n ∷ row (Tap n) (u n)) c w

abbrev pub Rule : ℕ → (ℕ → ℕ) → ℕ → (Wire → ℕ) → Wire → Type 0
Rule h u n c w = ((n ≡ h) × EnvOn h u c w) ⊎ ((n < h) × ForkOn u n c w)

abbrev pub web : ℕ → (ℕ → ℕ) → Web ℕ Wire
web h u = record {
  same_node = same_number;
  same_wire = same_wire;
  driver = driver;
  receiver = receiver h;
  outside = h;
  rule = λ n t w. Rule h u n (tally same_wire naught t) w;
}

abbrev pub There : ℕ → (ℕ → ℕ) → Wire → Type 0
There h u (Go i) = i ≤ h
There h u (Tap r j) = (r < h) × (j < u r)

-- ---- what the rules say, wire by wire

pub tap_low : (u : ℕ → ℕ) (n r j : ℕ) → Among (Tap r j) (row (Tap n) (u n)) → (r ≡ n) × (j < u n)
tap_low u n r j a = let (o, low, e) = among_row (Tap n) (u n) (Tap r j) a in let z : j ≡ o = cc in (cc, omega arith)

pub go_tap : (u : ℕ → ℕ) (n i : ℕ) → Among (Go i) (row (Tap n) (u n)) → ⊥
go_tap u n i a = let (o, low, e) = among_row (Tap n) (u n) (Go i) a in cc

pub taps_low : (h : ℕ) (u : ℕ → ℕ) (r j : ℕ) → Among (Tap r j) (taps h u) → (r < h) × (j < u r)
taps_low h u r j a =
    let (n, low, b) = among_each (λ r. row (Tap r) (u r)) h (Tap r j) a in
    let (same, in_row) = tap_low u n r j b in
    (omega arith, subst (λ z. j < u z) (sym same) in_row)

pub go_taps : (h : ℕ) (u : ℕ → ℕ) (i : ℕ) → Among (Go i) (taps h u) → ⊥
go_taps h u i a = let (n, low, b) = among_each (λ r. row (Tap r) (u r)) h (Go i) a in go_tap u n i b

pub tap_among : (h : ℕ) (u : ℕ → ℕ) (r j : ℕ) → r < h → j < u r → Among (Tap r j) (taps h u)
tap_among h u r j low in_row = each_among (λ r. row (Tap r) (u r)) h r (Tap r j) low (row_among (Tap r) (u r) j in_row)

pub one_go : (i k : ℕ) → Go i ≡ Go k → i ≡ k
one_go i k e = cc

pub record EnvTakes (h : ℕ) (u : ℕ → ℕ) (c : Wire → ℕ) (i : ℕ) : Type 0 where
  pub is : i ≡ h
  pub end : c (Go i) ≡ c (Go 0)
  pub tapped : (r j : ℕ) → r < h → j < u r → c (Go i) ≡ c (Tap r j)

pub env_go : (h : ℕ) (u : ℕ → ℕ) (c : Wire → ℕ) (i : ℕ) → EnvOn h u c (Go i) → EnvTakes h u c i ⊎ ((i ≡ 0) × (c (Go i) < c (Go h)))
env_go h u c i (inl (inl e, f)) = inl (record {
  is = one_go i h e;
  end = f.0;
  tapped = λ r j low in_row. all_among (λ o. c (Go i) ≡ c o) (taps h u) f.1 (Tap r j) (tap_among h u r j low in_row);
})
env_go h u c i (inl (inr z, f)) = absurd z
env_go h u c i (inr (inl e, f)) = inr (one_go i 0 e, f.0)
env_go h u c i (inr (inr a, f)) = absurd (go_taps h u i a)

pub env_tap : (h : ℕ) (u : ℕ → ℕ) (c : Wire → ℕ) (r j : ℕ) → EnvOn h u c (Tap r j) → (r < h) × (j < u r) × (c (Tap r j) < c (Go h))
env_tap h u c r j (inl (inl e, f)) = absurd (cc)
env_tap h u c r j (inl (inr z, f)) = absurd z
env_tap h u c r j (inr (inl e, f)) = absurd (cc)
env_tap h u c r j (inr (inr a, f)) = let (low, in_row) = taps_low h u r j a in (low, in_row, f.0)

pub fork_go : (u : ℕ → ℕ) (n : ℕ) (c : Wire → ℕ) (i : ℕ) → ForkOn u n c (Go i)
    → ((i ≡ suc n) × (c (Go i) ≡ c (Go n))) ⊎ ((i ≡ n) × (c (Go i) < c (Go (suc n))))
fork_go u n c i (inl (inl e, f)) = inl (one_go i (suc n) e, f.0)
fork_go u n c i (inl (inr z, f)) = absurd z
fork_go u n c i (inr (inl e, f)) = inr (one_go i n e, f.0)
fork_go u n c i (inr (inr a, f)) = absurd (go_tap u n i a)

pub fork_tap : (u : ℕ → ℕ) (n : ℕ) (c : Wire → ℕ) (r j : ℕ) → ForkOn u n c (Tap r j) → (r ≡ n) × (j < u n) × (c (Tap r j) < c (Go (suc n)))
fork_tap u n c r j (inl (inl e, f)) = absurd (cc)
fork_tap u n c r j (inl (inr z, f)) = absurd z
fork_tap u n c r j (inr (inl e, f)) = absurd (cc)
fork_tap u n c r j (inr (inr a, f)) = let (same, in_row) = tap_low u n r j a in (same, in_row, f.0)

-- what has come once more is within a bound, where it was below it
grew_bound : {W : Type 0} (F : W → ℕ) (w : W) (G : W → ℕ) → Grew F w G → (v : W) (b : ℕ) → F v ≤ b → (v ≡ w → F v < b) → G v ≤ b
grew_bound F w G g v b low less = at (g v)
  where
    at : ((v ≡ w) × (G v ≡ suc (F v))) ⊎ ((v ≡ w → ⊥) × (G v ≡ F v)) → G v ≤ b
    at (inl (e, x)) = omega (arith, less e)
    at (inr (e, x)) = omega arith

module _ (h : ℕ) (u : ℕ → ℕ) (some : 0 < h) where
  pub lawful : Lawful ℕ Wire (web h u)
  lawful = record { nodes = numbers_decide; wires = wires_decide; clean = clean }
    where
      clean : (w : Wire) → driver w ≡ receiver h w → ⊥
      clean (Go zero) e = omega arith
      clean (Go (suc r)) e = omega arith
      clean (Tap r j) e = elim (cases_eq r h) [
        | inl is ↦ let z : (if nat_eq r h then suc h else h) ≡ suc h = rw (eq-eqb r h is) refl in omega arith
        | inr ne ↦ let z : (if nat_eq r h then suc h else h) ≡ h = rw (ne_eqb r h ne) refl in ne (e ∙ z)
      ]

  counting : Counting ℕ Wire (web h u) (Rule h u)
  counting = record { there = λ n t w r. r; back = λ n t w r. r }

  record Inv (F P : Wire → ℕ) : Type 0 where
    start : F (Go h) ≤ suc (P (Go 0))
    start_taps : (r j : ℕ) → r < h → j < u r → F (Go h) ≤ suc (P (Tap r j))
    along : (r : ℕ) → r < h → F (Go r) ≤ P (Go (suc r))
    tapped : (r j : ℕ) → r < h → j < u r → F (Tap r j) ≤ P (Go (suc r))

  -- ---- the chain of counts

  module _ (F P : Wire → ℕ) (f : Flows F P) (v : Inv F P) where
    given : (w : Wire) → P w ≤ F w
    given w = at (f w)
      where
        at : (F w ≡ P w) ⊎ (F w ≡ suc (P w)) → P w ≤ F w
        at (inl e) = omega arith
        at (inr e) = omega arith

    rises : (i k : ℕ) → i + k ≤ h → F (Go i) ≤ F (Go (i + k))
    rises i zero low = let e : i ≡ i + 0 = omega arith in omega (arith, ap (λ z. F (Go z)) e)
    rises i (suc k) low =
        let e : suc (i + k) ≡ i + suc k = omega arith in
        omega (arith, rises i k (omega arith), v.along (i + k) (omega arith), given (Go (suc (i + k))), ap (λ z. F (Go z)) e)

    to_top : (i : ℕ) → i ≤ h → F (Go i) ≤ F (Go h)
    to_top i low = let e : i + (h - i) ≡ h = omega arith in omega (arith, rises i (h - i) (omega arith), ap (λ z. F (Go z)) e)

    from_zero : (i : ℕ) → i ≤ h → F (Go 0) ≤ F (Go i)
    from_zero i low = let e : 0 + i ≡ i = omega arith in omega (arith, rises 0 i (omega arith), ap (λ z. F (Go z)) e)

    zero_passed : (i : ℕ) → i ≤ h → P (Go 0) ≤ P (Go i)
    zero_passed zero low = omega arith
    zero_passed (suc i) low = omega (arith, given (Go 0), from_zero i (omega arith), v.along i (omega arith))

    -- the environment may give its symbol, a FORK what leads on, and a FORK a tap
    head_free : F (Go h) ≡ P (Go 0) → F (Go h) ≡ P (Go h)
    head_free e = omega (arith, zero_passed h (omega arith), given (Go h))

    go_free : (i : ℕ) → i < h → F (Go i) < P (Go (suc i)) → F (Go i) ≡ P (Go i)
    go_free i low less =
        omega (arith, given (Go (suc i)), to_top (suc i) (omega arith), v.start, zero_passed i (omega arith), given (Go i))

    tap_free : (r j : ℕ) → r < h → j < u r → F (Tap r j) < P (Go (suc r)) → F (Tap r j) ≡ P (Tap r j)
    tap_free r j low in_row less =
        omega (arith, given (Go (suc r)), to_top (suc r) (omega arith), v.start_taps r j low in_row, given (Tap r j))

    -- the invariant where a wire has been fired that its driver may fire
    fired : (w : Wire) → (Go h ≡ w → F (Go h) ≤ P (Go 0)) → ((r j : ℕ) → r < h → j < u r → Go h ≡ w → F (Go h) ≤ P (Tap r j))
        → ((r : ℕ) → r < h → Go r ≡ w → F (Go r) < P (Go (suc r))) → ((r j : ℕ) → r < h → j < u r → Tap r j ≡ w → F (Tap r j) < P (Go (suc r)))
        → (G : Wire → ℕ) → Grew F w G → Inv G P
    fired w a b c d G g = record {
      start = grew_bound F w G g (Go h) (suc (P (Go 0))) v.start (λ e. omega (arith, a e));
      start_taps = λ r j low in_row. grew_bound F w G g (Go h) (suc (P (Tap r j))) (v.start_taps r j low in_row) (λ e. omega (arith, b r j low in_row e));
      along = λ r low. grew_bound F w G g (Go r) (P (Go (suc r))) (v.along r low) (c r low);
      tapped = λ r j low in_row. grew_bound F w G g (Tap r j) (P (Go (suc r))) (v.tapped r j low in_row) (d r j low in_row);
    }

  sends : (F P c : Wire → ℕ) (w : Wire) → Flows F P → Inv F P → Reads ℕ Wire (web h u) (driver w) c F P → Rule h u (driver w) c w
      → There h u w × (F w ≡ P w) × ((G : Wire → ℕ) → Grew F w G → Inv G P)
  sends F P c (Go i) f v a (inl (e, q)) = at (env_go h u c i q)
    where
      at : EnvTakes h u c i ⊎ ((i ≡ 0) × (c (Go i) < c (Go h))) → (i ≤ h) × (F (Go i) ≡ P (Go i)) × ((G : Wire → ℕ) → Grew F (Go i) G → Inv G P)
      at (inr (z, less)) = absurd (omega arith)
      at (inl t) =
          let top : F (Go h) ≡ F (Go i) = ap (λ z. F (Go z)) (sym e) in
          let low : P (Go h) ≡ P (Go i) = ap (λ z. P (Go z)) (sym e) in
          let here = a.sent (Go i) refl in
          let end : c (Go 0) ≡ P (Go 0) = a.got (Go 0) (sym e) in
          let same : F (Go h) ≡ P (Go 0) = top ∙ sym here ∙ t.end ∙ end in
          let tap : (r j : ℕ) → r < h → j < u r → F (Go h) ≡ P (Tap r j) = λ r j x y.
          top ∙ sym here ∙ t.tapped r j x y ∙ a.got (Tap r j) (tap_receiver h r j x ∙ sym e) in (
            omega arith,
            omega (arith, head_free F P f v same),
            fired F P f v (Go i) (λ k. omega arith) (λ r j x y k. omega (arith, tap r j x y)) (λ r x k. let z = one_go r i k in absurd (omega arith))
                (λ r j x y k. absurd (cc)),
          )
  sends F P c (Go i) f v a (inr (low, q)) = at (fork_go u i c i q)
    where
      at : ((i ≡ suc i) × (c (Go i) ≡ c (Go i))) ⊎ ((i ≡ i) × (c (Go i) < c (Go (suc i)))) → (i ≤ h) × (F (Go i) ≡ P (Go i)) × ((G : Wire → ℕ) → Grew F (Go i) G → Inv G P)
      at (inl (z, x)) = absurd (omega arith)
      at (inr (z, less)) =
          let more : F (Go i) < P (Go (suc i)) = omega (arith, less, a.sent (Go i) refl, a.got (Go (suc i)) refl) in (
            omega arith,
            go_free F P f v i low more,
            fired F P f v (Go i) (λ k. let z = one_go h i k in absurd (omega arith)) (λ r j x y k. let z = one_go h i k in absurd (omega arith))
                (λ r x k. let z = one_go r i k in omega (arith, more, ap (λ y. F (Go y)) z, ap (λ y. P (Go (suc y))) z))
                (λ r j x y k. absurd (cc)),
          )
  sends F P c (Tap r j) f v a (inl (e, q)) = let (low, in_row, less) = env_tap h u c r j q in absurd (omega arith)
  sends F P c (Tap r j) f v a (inr (low, q)) =
      let (same, in_row, less) = fork_tap u r c r j q in
      let more : F (Tap r j) < P (Go (suc r)) = omega (arith, less, a.sent (Tap r j) refl, a.got (Go (suc r)) refl) in (
        (low, in_row),
        tap_free F P f v r j low in_row more,
        fired F P f v (Tap r j) (λ k. absurd (cc)) (λ b o x y k. absurd (cc)) (λ b x k. absurd (cc))
            (λ b o x y k. let z : b ≡ r = cc in omega (arith, more, ap F k, ap (λ y. P (Go (suc y))) z)),
      )

  lands : (F P c : Wire → ℕ) (w : Wire) → Flows F P → Inv F P → Reads ℕ Wire (web h u) (receiver h w) c F P → There h u w → F w ≡ suc (P w)
      → Rule h u (receiver h w) c w × ((Q : Wire → ℕ) → Grew P w Q → Inv F Q)
  lands F P c w f v a x e = (
    takes w x e a,
    λ Q g. record {
      start = omega (arith, v.start, grew_le P w Q g (Go 0));
      start_taps = λ r j low in_row. omega (arith, v.start_taps r j low in_row, grew_le P w Q g (Tap r j));
      along = λ r low. omega (arith, v.along r low, grew_le P w Q g (Go (suc r)));
      tapped = λ r j low in_row. omega (arith, v.tapped r j low in_row, grew_le P w Q g (Go (suc r)));
    },
  )
    where
      takes : (w : Wire) → There h u w → F w ≡ suc (P w) → Reads ℕ Wire (web h u) (receiver h w) c F P → Rule h u (receiver h w) c w
      takes (Go zero) x e a = inl (refl, inr (inl refl, (omega (arith, to_top F P f v 0 (omega arith), a.got (Go 0) refl, a.sent (Go h) refl), tt)))
      takes (Go (suc r)) x e a =
          let low : r < h = omega arith in
          let top = to_top F P f v (suc r) (omega arith) in
          inr (
            low,
            inl (
              inl refl,
              (
                omega (arith, top, v.start, given F P f v (Go 0), from_zero F P f v r (omega arith), v.along r low, a.got (Go (suc r)) refl, a.sent (Go r) refl),
                row_all (λ o. c (Go (suc r)) ≡ c o) (Tap r) (u r) (λ j y.
                    omega (arith, top, v.start_taps r j low y, given F P f v (Tap r j), v.tapped r j low y, a.got (Go (suc r)) refl, a.sent (Tap r j) refl)),
              ),
            ),
          )
      takes (Tap r j) x e a =
          let is = tap_receiver h r j x.0 in
          subst (λ n. Rule h u n c (Tap r j)) (sym is)
          (inl (
            refl,
            inr (
              inr (tap_among h u r j x.0 x.1),
              (omega (arith, v.tapped r j x.0 x.1, given F P f v (Go (suc r)), to_top F P f v (suc r) (omega (arith, x.0)), a.got (Tap r j) refl, a.sent (Go h) (sym is)), tt),
            ),
          ))

  keeps : Keeps ℕ Wire (web h u) (Rule h u) (There h u) Inv
  keeps = record {
    begins = λ F P f p. record {
      start = omega (arith, f (Go h));
      start_taps = λ r j low in_row. omega (arith, f (Go h));
      along = λ r low. omega (arith, f (Go r));
      tapped = λ r j low in_row. omega (arith, f (Tap r j));
    };
    sends = sends;
    lands = lands;
  }

  abbrev Always : (Wire → ℕ) → Type 0
  Always x = Unit {0}

  abbrev Drawn : Wire → (Wire → ℕ) → Type 0
  Drawn q x = Draws ℕ Wire (web h u) (Rule h u) Inv Always q x

  even : (x : Wire → ℕ) → Flows x x
  even x w = inl refl

  -- what was given at the beginning is handed on as far as the wire Go (i + 1)
  hand_on : (q o : Wire) → ((k : ℕ) → 0 < k → Go k ≡ o → ⊥) → (k i : ℕ) → suc i + k ≡ h → (x : Wire → ℕ) → Inv x x
      → ((y : Wire → ℕ) → Inv y y → y (Go (suc i)) ≡ x (Go h) → y (Go h) ≡ x (Go h) → y o ≡ x o → Drawn q y) → Drawn q x
  hand_on q o apart zero i e x v go = let z : suc i ≡ h = omega arith in go x v (ap (λ y. x (Go y)) z) refl refl
  hand_on q o apart (suc k) i e x v go = hand_on q o apart k (suc i) (omega arith) x v (λ y w ey eh eo.
      elim (cases_lt (y (Go (suc i))) (y (Go h))) [
        | inl less ↦ pull (Go (suc i)) (λ z. omega arith) (λ z. omega arith)
            (λ b z. inr (omega arith, inr (inl refl, (omega (arith, less, z.sent (Go (suc i)) refl, z.got (Go (suc (suc i))) refl), tt))))
            (λ t g new.
            let far : Go h ≡ Go (suc i) → ⊥ = λ z. let s = one_go h (suc i) z in omega arith in
            let top = grew_other y (Go (suc i)) t g (Go h) far in
            let more = grew_same y (Go (suc i)) t g (Go (suc i)) refl in
            let other = grew_other y (Go (suc i)) t g o (λ z. apart (suc i) (omega arith) (sym z)) in
            go t new (omega (arith, w.start, from_zero y y (even y) w (suc i) (omega arith))) (omega arith) (other ∙ eo))
        | inr more ↦ go y w (omega (arith, to_top y y (even y) w (suc i) (omega arith))) eh eo
      ])

  show_go : (x : Wire → ℕ) → Inv x x → x (Go 0) < x (Go h) → Drawn (Go 0) x
  show_go x v less = hand_on (Go 0) (Go 0) (λ k pos e. let z = one_go k 0 e in omega arith) (h - 1) 0 (omega arith) x v (λ y w ey eh eo.
      show refl (λ b z. inr (some, inr (inl refl, (omega (arith, less, ey, eo, z.sent (Go 0) refl, z.got (Go 1) refl), tt)))) (λ t g new. tt))

  show_tap : (r j : ℕ) → r < h → j < u r → (x : Wire → ℕ) → Inv x x → x (Tap r j) < x (Go h) → Drawn (Tap r j) x
  show_tap r j low in_row x v less = hand_on (Tap r j) (Tap r j) (λ k pos e. cc) (h - suc r) r (omega arith) x v (λ y w ey eh eo.
      show (tap_receiver h r j low)
      (λ b z. inr (low, inr (inr (row_among (Tap r) (u r) j in_row), (omega (arith, less, ey, eo, z.sent (Tap r j) refl, z.got (Go (suc r)) refl), tt))))
      (λ t g new. tt))

  draws : (x c : Wire → ℕ) (q : Wire) → Inv x x → Always x → Reads ℕ Wire (web h u) h c x x → Rule h u h c q → Drawn q x
  draws x c q v j a (inr (low, r)) = absurd (omega arith)
  draws x c (Go i) v j a (inl (same, r)) = at (env_go h u c i r)
    where
      at : EnvTakes h u c i ⊎ ((i ≡ 0) × (c (Go i) < c (Go h))) → Drawn (Go i) x
      at (inl t) = give t.is (λ y g k. tt)
      at (inr (z, less)) =
          subst (λ y. Drawn (Go y) x) (sym z)
          (show_go x v (omega (arith, less, ap (λ y. c (Go y)) z, a.got (Go 0) refl, a.sent (Go h) refl)))
  draws x c (Tap r o) v j a (inl (same, q)) =
      let (low, in_row, less) = env_tap h u c r o q in
      show_tap r o low in_row x v (omega (arith, less, a.got (Tap r o) (tap_receiver h r o low), a.sent (Go h) refl))

  pub sound : WebSound (web h u)
  sound = web_sound ℕ Wire (web h u) (Rule h u) (There h u) Inv lawful counting keeps

  pub exact : WebExact (web h u)
  exact = web_exact ℕ Wire (web h u) (Rule h u) (There h u) Inv Always lawful counting keeps tt draws
