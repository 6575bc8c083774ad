-- The web of a layer of a SEQ is sound.
use Rattle.std.proofs.Common.{◌≡◌, ℕ, zero, suc, ◌+◌, ◌<◌, ◌≤◌, ◌⊎◌, inl, inr, refl, sym, subst, ◌∙◌, arith}
use Rattle.std.proofs.lemmas.Bool.{cases_eq}
use Rattle.basic_kinds.specs.Totals.{total}
use Rattle.basic_kinds.proofs.Totals.{total_none, total_same, total_le, total_gap, total_some, only_one, all_same}
use Rattle.net_laws.proofs.Webs.{Web, WebSound}
use Rattle.net_laws.proofs.Told.{Flows}
use Rattle.net_laws.proofs.Woven.{Grew, grew_le, Reads, Keeps, web_sound}
use Rattle.seq_tree.proofs.SequencerWires as wires
use Rattle.seq_tree.proofs.SequencerWires.{Wire, Request, Chosen, Ask, Row, Won, Grant, Back, Call, Give, Return, Free, Lone, Own, Token, Node, driver, receiver}

-- one of n wires, or none of them, is the one that grew
pub grown_sum : (F : Wire → ℕ) (w : Wire) (G : Wire → ℕ) → Grew F w G → (v : ℕ → Wire) → ((i j : ℕ) → v i ≡ v j → i ≡ j) → (n : ℕ)
    → (total n (λ i. G (v i)) ≡ total n (λ i. F (v i))) ⊎ ((i : ℕ) × (i < n) × (v i ≡ w) × (total n (λ i. G (v i)) ≡ suc (total n (λ i. F (v i)))))
unfolding total
grown_sum F w G q v one zero = inl refl
grown_sum F w G q v one (suc n) = at (q (v n)) (grown_sum F w G q v one n)
  where
    at : ((v n ≡ w) × (G (v n) ≡ suc (F (v n)))) ⊎ ((v n ≡ w → ⊥) × (G (v n) ≡ F (v n)))
        → (total n (λ i. G (v i)) ≡ total n (λ i. F (v i))) ⊎ ((i : ℕ) × (i < n) × (v i ≡ w) × (total n (λ i. G (v i)) ≡ suc (total n (λ i. F (v i)))))
        → (total n (λ i. G (v i)) + G (v n) ≡ total n (λ i. F (v i)) + F (v n))
        ⊎ ((i : ℕ) × (i < suc n) × (v i ≡ w) × (total n (λ i. G (v i)) + G (v n) ≡ suc (total n (λ i. F (v i)) + F (v n))))
    at (inl (e, x)) (inl s) = inr (n, omega arith, e, omega (arith, x, s))
    at (inl (e, x)) (inr (i, low, z, s)) = let same : i ≡ n = one i n (z ∙ sym e) in absurd (omega arith)
    at (inr (e, x)) (inl s) = inl (omega (arith, x, s))
    at (inr (e, x)) (inr (i, low, z, s)) = inr (i, omega arith, z, omega (arith, x, s))

module _ (K : ℕ) (size : ℕ → ℕ) (L : ℕ) where
  abbrev group : (ℕ → ℕ → Wire) → (Wire → ℕ) → ℕ → ℕ
  group = wires.group K size L

  abbrev given : (Wire → ℕ) → ℕ
  given = wires.given K size L

  abbrev granted : (Wire → ℕ) → ℕ
  granted = wires.granted K size L

  abbrev There : Wire → Type 0
  There = wires.There K size L

  abbrev Fires : (Wire → ℕ) → Wire → Type 0
  Fires = wires.Fires K size L

  abbrev Takes : (Wire → ℕ) → Wire → Type 0
  Takes = wires.Takes K size L

  abbrev web : Web Node Wire
  web = wires.web K size L

  -- at most how often a wire was fired
  abbrev pub bound : (Wire → ℕ) → Wire → ℕ
  bound P (Request k i) = suc (P (Grant k i))
  bound P (Chosen k i) = P (Request k i)
  bound P (Ask k i) = P (Chosen k i)
  bound P (Row k i) = P (Chosen k i)
  bound P (Won k i) = P (Row k i)
  bound P (Grant k i) = P (Won k i)
  bound P (Back k i) = P (Won k i)
  bound P (Call k) = group Ask P k
  bound P (Give k) = P (Call k)
  bound P (Return k) = group Back P k
  bound P (Free k) = suc (P (Return k))
  bound P (Lone j) = suc (P (Own j))
  bound P (Own j) = P (Lone j)
  bound P Token = suc (granted P)

  pub record Line (F P : Wire → ℕ) : Type 0 where
    pub each : (w : Wire) → F w ≤ bound P w
    pub asked : (k i : ℕ) → F (Won k i) ≤ P (Ask k i)
    pub chosen : (k : ℕ) → group Chosen F k ≤ P (Free k)
    pub won : (k : ℕ) → group Won F k ≤ P (Give k)
    pub outer : given F ≤ P Token

  -- ---- sums

  group_same : (v : ℕ → ℕ → Wire) (e f : Wire → ℕ) (k : ℕ) → ((i : ℕ) → e (v k i) ≡ f (v k i)) → group v e k ≡ group v f k
  group_same v e f k h = total_same (size k) (λ i. e (v k i)) (λ i. f (v k i)) (λ i low. h i)

  group_le : (v u : ℕ → ℕ → Wire) (e f : Wire → ℕ) (k : ℕ) → ((i : ℕ) → e (v k i) ≤ f (u k i)) → group v e k ≤ group u f k
  group_le v u e f k h = total_le (size k) (λ i. e (v k i)) (λ i. f (u k i)) (λ i low. h i)

  pub given_same : (e f : Wire → ℕ) → ((k : ℕ) → e (Give k) ≡ f (Give k)) → ((j : ℕ) → e (Own j) ≡ f (Own j)) → given e ≡ given f
  given_same e f g h = omega (
    arith,
    total_same K (λ k. e (Give k)) (λ k. f (Give k)) (λ k low. g k),
    total_same L (λ j. e (Own j)) (λ j. f (Own j)) (λ j low. h j),
  )

  pub granted_same : (e f : Wire → ℕ) → ((k i : ℕ) → e (Grant k i) ≡ f (Grant k i)) → ((j : ℕ) → e (Own j) ≡ f (Own j)) → granted e ≡ granted f
  granted_same e f g h = omega (
    arith,
    total_same K (group Grant e) (group Grant f) (λ k low. group_same Grant e f k (g k)),
    total_same L (λ j. e (Own j)) (λ j. f (Own j)) (λ j low. h j),
  )

  granted_le : (e f : Wire → ℕ) → ((w : Wire) → e w ≤ f w) → granted e ≤ granted f
  granted_le e f h = omega (
    arith,
    total_le K (group Grant e) (group Grant f) (λ k low. group_le Grant Grant e f k (λ i. h (Grant k i))),
    total_le L (λ j. e (Own j)) (λ j. f (Own j)) (λ j low. h (Own j)),
  )

  -- ---- chains

  module _ (F P : Wire → ℕ) (f : Flows F P) (v : Line F P) where
    low : (w : Wire) → P w ≤ F w
    low w = omega (arith, f w)

    -- of a request, all wires in order
    pub line : (k i : ℕ) → (F (Request k i) ≤ suc (P (Grant k i))) × (F (Chosen k i) ≤ P (Request k i)) × (F (Ask k i) ≤ P (Chosen k i)) × (F (Row k i) ≤ P (Chosen k i))
        × (F (Won k i) ≤ P (Row k i)) × (F (Won k i) ≤ P (Ask k i)) × (F (Grant k i) ≤ P (Won k i)) × (F (Back k i) ≤ P (Won k i))
        × (P (Request k i) ≤ F (Request k i)) × (P (Chosen k i) ≤ F (Chosen k i)) × (P (Ask k i) ≤ F (Ask k i)) × (P (Row k i) ≤ F (Row k i))
        × (P (Won k i) ≤ F (Won k i)) × (P (Grant k i) ≤ F (Grant k i)) × (P (Back k i) ≤ F (Back k i))
    line k i = (
      v.each (Request k i),
      v.each (Chosen k i),
      v.each (Ask k i),
      v.each (Row k i),
      v.each (Won k i),
      v.asked k i,
      v.each (Grant k i),
      v.each (Back k i),
      low (Request k i),
      low (Chosen k i),
      low (Ask k i),
      low (Row k i),
      low (Won k i),
      low (Grant k i),
      low (Back k i),
    )

    -- of a group, the ring from its SEQ over the outer one and back
    pub ring : (k : ℕ) → (group Chosen F k ≤ P (Free k)) × (P (Free k) ≤ F (Free k)) × (F (Free k) ≤ suc (P (Return k))) × (P (Return k) ≤ F (Return k))
        × (F (Return k) ≤ group Back P k) × (group Back P k ≤ group Back F k) × (group Back F k ≤ group Won P k) × (group Won P k ≤ group Won F k)
        × (group Won F k ≤ group Row P k) × (group Row P k ≤ group Row F k) × (group Row F k ≤ group Chosen P k) × (group Chosen P k ≤ group Chosen F k)
        × (group Won F k ≤ P (Give k)) × (P (Give k) ≤ F (Give k)) × (F (Give k) ≤ P (Call k)) × (P (Call k) ≤ F (Call k)) × (F (Call k) ≤ group Ask P k)
        × (group Ask P k ≤ group Ask F k) × (group Ask F k ≤ group Chosen P k) × (group Grant P k ≤ group Grant F k) × (group Grant F k ≤ group Won P k)
    ring k = (
      v.chosen k,
      low (Free k),
      v.each (Free k),
      low (Return k),
      v.each (Return k),
      group_le Back Back P F k (λ i. low (Back k i)),
      group_le Back Won F P k (λ i. v.each (Back k i)),
      group_le Won Won P F k (λ i. low (Won k i)),
      group_le Won Row F P k (λ i. v.each (Won k i)),
      group_le Row Row P F k (λ i. low (Row k i)),
      group_le Row Chosen F P k (λ i. v.each (Row k i)),
      group_le Chosen Chosen P F k (λ i. low (Chosen k i)),
      v.won k,
      low (Give k),
      v.each (Give k),
      low (Call k),
      v.each (Call k),
      group_le Ask Ask P F k (λ i. low (Ask k i)),
      group_le Ask Chosen F P k (λ i. v.each (Ask k i)),
      group_le Grant Grant P F k (λ i. low (Grant k i)),
      group_le Grant Won F P k (λ i. v.each (Grant k i)),
    )

    -- the token of the outer SEQ
    pub tokens : (granted P ≤ granted F) × (granted F ≤ given F) × (given F ≤ P Token) × (P Token ≤ F Token) × (F Token ≤ suc (granted P))
    tokens = (
      granted_le P F low,
      omega (arith, total_le K (group Grant F) (λ k. F (Give k)) (λ k x. omega (arith, ring k))),
      v.outer,
      low Token,
      v.each Token,
    )

    -- the gap at one wire of a group is at most that of all
    gap : (u : ℕ → ℕ → Wire) (k i : ℕ) → i < size k → group u P k + F (u k i) ≤ group u F k + P (u k i)
    gap u k i inside = total_gap (size k) (λ j. P (u k j)) (λ j. F (u k j)) (λ j l. low (u k j)) i inside

    granted_gap : (k i : ℕ) → k < K → i < size k → granted P + F (Grant k i) ≤ granted F + P (Grant k i)
    granted_gap k i near inside = omega (
      arith,
      total_gap K (group Grant P) (group Grant F) (λ q l. group_le Grant Grant P F q (λ j. low (Grant q j))) k near,
      gap Grant k i inside,
      total_le L (λ j. P (Own j)) (λ j. F (Own j)) (λ j l. low (Own j)),
    )

    own_gap : (j : ℕ) → j < L → granted P + F (Own j) ≤ granted F + P (Own j)
    own_gap j near = omega (
      arith,
      total_le K (group Grant P) (group Grant F) (λ q l. group_le Grant Grant P F q (λ i. low (Grant q i))),
      total_gap L (λ q. P (Own q)) (λ q. F (Own q)) (λ q l. low (Own q)) j near,
    )

    -- ---- what a driver knows

    module _ (c : Wire → ℕ) where
      pub guard : (w : Wire) → Reads Node Wire web (driver w) c F P → Fires c w → suc (F w) ≤ bound P w
      guard (Request k i) a g = omega (arith, g, a.sent (Request k i) refl, a.got (Grant k i) refl)
      guard (Chosen k i) a g = omega (arith, g.0, a.sent (Chosen k i) refl, a.got (Request k i) refl)
      guard (Ask k i) a g = omega (arith, g, a.sent (Ask k i) refl, a.got (Chosen k i) refl)
      guard (Row k i) a g = omega (arith, g, a.sent (Row k i) refl, a.got (Chosen k i) refl)
      guard (Won k i) a g = omega (arith, g.0, a.sent (Won k i) refl, a.got (Row k i) refl)
      guard (Grant k i) a g = omega (arith, g, a.sent (Grant k i) refl, a.got (Won k i) refl)
      guard (Back k i) a g = omega (arith, g, a.sent (Back k i) refl, a.got (Won k i) refl)
      guard (Call k) a g = omega (arith, g, a.sent (Call k) refl, group_same Ask c P k (λ i. a.got (Ask k i) refl))
      guard (Give k) a g = omega (arith, g.0, a.sent (Give k) refl, a.got (Call k) refl)
      guard (Return k) a g = omega (arith, g, a.sent (Return k) refl, group_same Back c P k (λ i. a.got (Back k i) refl))
      guard (Free k) a g = omega (arith, g, a.sent (Free k) refl, a.got (Return k) refl)
      guard (Lone j) a g = omega (arith, g, a.sent (Lone j) refl, a.got (Own j) refl)
      guard (Own j) a g = omega (arith, g.0, a.sent (Own j) refl, a.got (Lone j) refl)
      guard Token a g = omega (arith, g, a.sent Token refl, granted_same c P (λ k i. a.got (Grant k i) refl) (λ j. a.got (Own j) refl))

      pub chosen_guard : (k i : ℕ) → Reads Node Wire web (driver (Chosen k i)) c F P → Fires c (Chosen k i) → suc (group Chosen F k) ≤ P (Free k)
      chosen_guard k i a g = omega (arith, g.1, a.got (Free k) refl, group_same Chosen c F k (λ j. a.sent (Chosen k j) refl))

      pub won_guard : (k i : ℕ) → Reads Node Wire web (driver (Won k i)) c F P → Fires c (Won k i) → suc (group Won F k) ≤ P (Give k)
      won_guard k i a g = omega (arith, g.1, a.got (Give k) refl, group_same Won c F k (λ j. a.sent (Won k j) refl))

      pub give_guard : (k : ℕ) → Reads Node Wire web (driver (Give k)) c F P → Fires c (Give k) → suc (given F) ≤ P Token
      give_guard k a g = omega (arith, g.1, a.got Token refl, given_same c F (λ q. a.sent (Give q) refl) (λ j. a.sent (Own j) refl))

      pub own_guard : (j : ℕ) → Reads Node Wire web (driver (Own j)) c F P → Fires c (Own j) → suc (given F) ≤ P Token
      own_guard j a g = omega (arith, g.1, a.got Token refl, given_same c F (λ q. a.sent (Give q) refl) (λ q. a.sent (Own q) refl))

      -- the wire is not busy
      even : (w : Wire) → Reads Node Wire web (driver w) c F P → There w → Fires c w → F w ≡ P w
      even (Request k i) a t g = omega (arith, guard (Request k i) a g, line k i)
      even (Chosen k i) a t g = omega (arith, chosen_guard k i a g, ring k, gap Chosen k i t.1, line k i)
      even (Ask k i) a t g = omega (arith, guard (Ask k i) a g, line k i)
      even (Row k i) a t g = omega (arith, guard (Row k i) a g, line k i)
      even (Won k i) a t g = omega (arith, guard (Won k i) a g, line k i)
      even (Grant k i) a t g = omega (arith, guard (Grant k i) a g, line k i)
      even (Back k i) a t g = omega (
        arith,
        guard (Back k i) a g,
        ring k,
        gap Back k i t.1,
        line k i,
        total_gap (size k) (λ j. F (Back k j)) (λ j. P (Won k j)) (λ j l. v.each (Back k j)) i t.1,
      )
      even (Call k) a t g = omega (arith, guard (Call k) a g, ring k)
      even (Give k) a t g = omega (arith, guard (Give k) a g, ring k)
      even (Return k) a t g = omega (arith, guard (Return k) a g, ring k)
      even (Free k) a t g = omega (arith, guard (Free k) a g, ring k)
      even (Lone j) a t g = omega (arith, guard (Lone j) a g, low (Lone j), low (Own j), v.each (Own j))
      even (Own j) a t g = omega (arith, guard (Own j) a g, low (Lone j), low (Own j), v.each (Lone j))
      even Token a t g = omega (arith, guard Token a g, tokens)

      -- a request that wins has asked
      ready : (k i : ℕ) → Reads Node Wire web (driver (Won k i)) c F P → i < size k → Fires c (Won k i) → suc (F (Won k i)) ≤ P (Ask k i)
      ready k i a inside g =
          let (q, near, less) = total_some (size k) (λ j. F (Won k j)) (λ j. P (Ask k j)) (omega (arith, won_guard k i a g, ring k)) in
          elim (cases_eq q i) [
            | inl same ↦ subst (λ j. suc (F (Won k j)) ≤ P (Ask k j)) same less
            | inr other ↦ absurd (
                let alone : F (Chosen k q) ≡ F (Won k q) = only_one (size k) (λ j. F (Won k j)) (λ j. F (Chosen k j)) (λ j l. omega (arith, line k j)) (omega (arith, ring k)) i inside
                (omega (arith, guard (Won k i) a g, line k i)) q near other in
                omega (arith, alone, less, line k q)
                )
          ]

    -- ---- a wire that fires

    fired : (c : Wire → ℕ) (w : Wire) → Reads Node Wire web (driver w) c F P → There w → Fires c w → (G : Wire → ℕ) → Grew F w G → Line G P
    fired c w a t g G q = record {
      each = λ u. one u (q u);
      asked = λ k i. ask k i (q (Won k i));
      chosen = λ k. choose k (grown_sum F w G q (Chosen k) (λ i j e. cc) (size k));
      won = λ k. win k (grown_sum F w G q (Won k) (λ i j e. cc) (size k));
      outer = token (grown_sum F w G q Give (λ i j e. cc) K) (grown_sum F w G q Own (λ i j e. cc) L);
    }
      where
        here : (u : Wire) → u ≡ w → Reads Node Wire web (driver u) c F P × There u × Fires c u
        here u e = subst (λ z. Reads Node Wire web (driver z) c F P × There z × Fires c z) (sym e) (a, t, g)

        one : (u : Wire) → ((u ≡ w) × (G u ≡ suc (F u))) ⊎ ((u ≡ w → ⊥) × (G u ≡ F u)) → G u ≤ bound P u
        one u (inl (e, x)) = let (b, s, h) = here u e in omega (arith, x, guard c u b h)
        one u (inr (e, x)) = omega (arith, x, v.each u)

        ask : (k i : ℕ) → ((Won k i ≡ w) × (G (Won k i) ≡ suc (F (Won k i)))) ⊎ ((Won k i ≡ w → ⊥) × (G (Won k i) ≡ F (Won k i))) → G (Won k i) ≤ P (Ask k i)
        ask k i (inl (e, x)) = let (b, s, h) = here (Won k i) e in omega (arith, x, ready c k i b s.1 h)
        ask k i (inr (e, x)) = omega (arith, x, v.asked k i)

        choose : (k : ℕ) → (group Chosen G k ≡ group Chosen F k) ⊎ ((i : ℕ) × (i < size k) × (Chosen k i ≡ w) × (group Chosen G k ≡ suc (group Chosen F k))) → group Chosen G k ≤ P (Free k)
        choose k (inl e) = omega (arith, e, v.chosen k)
        choose k (inr (i, l, e, x)) = let (b, s, h) = here (Chosen k i) e in omega (arith, x, chosen_guard c k i b h)

        win : (k : ℕ) → (group Won G k ≡ group Won F k) ⊎ ((i : ℕ) × (i < size k) × (Won k i ≡ w) × (group Won G k ≡ suc (group Won F k))) → group Won G k ≤ P (Give k)
        win k (inl e) = omega (arith, e, v.won k)
        win k (inr (i, l, e, x)) = let (b, s, h) = here (Won k i) e in omega (arith, x, won_guard c k i b h)

        token : (total K (λ k. G (Give k)) ≡ total K (λ k. F (Give k))) ⊎ ((k : ℕ) × (k < K) × (Give k ≡ w) × (total K (λ k. G (Give k)) ≡ suc (total K (λ k. F (Give k)))))
            → (total L (λ j. G (Own j)) ≡ total L (λ j. F (Own j))) ⊎ ((j : ℕ) × (j < L) × (Own j ≡ w) × (total L (λ j. G (Own j)) ≡ suc (total L (λ j. F (Own j))))) → given G ≤ P Token
        token (inl d) (inl e) = omega (arith, d, e, v.outer)
        token (inl d) (inr (j, l, e, x)) = let (b, s, h) = here (Own j) e in omega (arith, d, x, own_guard c j b h)
        token (inr (k, l, e, x)) (inl d) = let (b, s, h) = here (Give k) e in omega (arith, d, x, give_guard c k b h)
        token (inr (k, l, e, x)) (inr (j, m, d, y)) = let z : Give k ≡ Own j = e ∙ sym d in absurd (cc)

    -- ---- a wire that lands

    takes : (c : Wire → ℕ) (w : Wire) → Reads Node Wire web (receiver w) c F P → There w → F w ≡ suc (P w) → Takes c w
    takes c (Request k i) a t e = omega (arith, e, line k i, a.got (Request k i) refl, a.sent (Chosen k i) refl)
    takes c (Chosen k i) a t e = (
      omega (arith, e, line k i, a.got (Chosen k i) refl, a.sent (Ask k i) refl),
      omega (arith, e, line k i, a.got (Chosen k i) refl, a.sent (Row k i) refl),
    )
    takes c (Ask k i) a t e = omega (arith, e, ring k, gap Ask k i t.1, group_same Ask c P k (λ j. a.got (Ask k j) refl), a.sent (Call k) refl)
    takes c (Row k i) a t e = λ j near.
        let same : P (Row k j) ≡ F (Won k j) = all_same (size k) (λ q. F (Won k q)) (λ q. P (Row k q)) (λ q l. v.each (Won k q)) (omega (arith, e, ring k, gap Row k i t.1)) j near in
        omega (arith, same, a.got (Row k j) refl, a.sent (Won k j) refl)
    takes c (Won k i) a t e =
        let same : P (Won k i) ≡ F (Back k i) = all_same (size k) (λ q. F (Back k q)) (λ q. P (Won k q)) (λ q l. v.each (Back k q)) (omega (arith, e, ring k, gap Won k i t.1)) i t.1 in (
          omega (arith, e, line k i, a.got (Won k i) refl, a.sent (Grant k i) refl),
          omega (arith, same, a.got (Won k i) refl, a.sent (Back k i) refl),
        )
    takes c (Grant k i) a t e = (
      omega (arith, e, line k i, a.got (Grant k i) refl, a.sent (Request k i) refl),
      omega (arith, e, tokens, granted_gap k i t.0 t.1, a.sent Token refl, granted_same c P (λ q j. a.got (Grant q j) refl) (λ j. a.got (Own j) refl)),
    )
    takes c (Back k i) a t e = omega (arith, e, ring k, gap Back k i t.1, group_same Back c P k (λ j. a.got (Back k j) refl), a.sent (Return k) refl)
    takes c (Call k) a t e = omega (arith, e, ring k, a.got (Call k) refl, a.sent (Give k) refl)
    takes c (Give k) a t e = omega (arith, e, ring k, a.got (Give k) refl, group_same Won c F k (λ j. a.sent (Won k j) refl))
    takes c (Return k) a t e = omega (arith, e, ring k, a.got (Return k) refl, a.sent (Free k) refl)
    takes c (Free k) a t e = omega (arith, e, ring k, a.got (Free k) refl, group_same Chosen c F k (λ j. a.sent (Chosen k j) refl))
    takes c (Lone j) a t e = omega (arith, e, v.each (Lone j), v.each (Own j), low (Own j), a.got (Lone j) refl, a.sent (Own j) refl)
    takes c (Own j) a t e = (
      omega (arith, e, v.each (Own j), low (Lone j), a.got (Own j) refl, a.sent (Lone j) refl),
      omega (arith, e, tokens, own_gap j t, a.sent Token refl, granted_same c P (λ q i. a.got (Grant q i) refl) (λ q. a.got (Own q) refl)),
    )
    takes c Token a t e = omega (arith, e, tokens, a.got Token refl, given_same c F (λ k. a.sent (Give k) refl) (λ j. a.sent (Own j) refl))

    bound_le : (Q : Wire → ℕ) → ((w : Wire) → P w ≤ Q w) → (w : Wire) → bound P w ≤ bound Q w
    bound_le Q h (Request k i) = omega (arith, h (Grant k i))
    bound_le Q h (Chosen k i) = h (Request k i)
    bound_le Q h (Ask k i) = h (Chosen k i)
    bound_le Q h (Row k i) = h (Chosen k i)
    bound_le Q h (Won k i) = h (Row k i)
    bound_le Q h (Grant k i) = h (Won k i)
    bound_le Q h (Back k i) = h (Won k i)
    bound_le Q h (Call k) = group_le Ask Ask P Q k (λ i. h (Ask k i))
    bound_le Q h (Give k) = h (Call k)
    bound_le Q h (Return k) = group_le Back Back P Q k (λ i. h (Back k i))
    bound_le Q h (Free k) = omega (arith, h (Return k))
    bound_le Q h (Lone j) = omega (arith, h (Own j))
    bound_le Q h (Own j) = h (Lone j)
    bound_le Q h Token = omega (arith, granted_le P Q h)

    landed : (Q : Wire → ℕ) → ((w : Wire) → P w ≤ Q w) → Line F Q
    landed Q h = record {
      each = λ w. omega (arith, v.each w, bound_le Q h w);
      asked = λ k i. omega (arith, v.asked k i, h (Ask k i));
      chosen = λ k. omega (arith, v.chosen k, h (Free k));
      won = λ k. omega (arith, v.won k, h (Give k));
      outer = omega (arith, v.outer, h Token);
    }

  -- ---- the web

  none : (v : ℕ → ℕ → Wire) (F : Wire → ℕ) → ((w : Wire) → F w ≡ 0) → (k : ℕ) → group v F k ≡ 0
  none v F f k = total_none (size k) (λ i. F (v k i)) (λ i l. f (v k i))

  pub keeps : Keeps Node Wire web (wires.Rule K size L) There Line
  keeps = record {
    begins = λ F P f p. record {
      each = λ w. omega (arith, f w);
      asked = λ k i. omega (arith, f (Won k i));
      chosen = λ k. omega (arith, none Chosen F f k);
      won = λ k. omega (arith, none Won F f k);
      outer = omega (arith, total_none K (λ k. F (Give k)) (λ k l. f (Give k)), total_none L (λ j. F (Own j)) (λ j l. f (Own j)));
    };
    sends = λ F P c w f v a r.
        let (t, g) = wires.rule_fires K size L w c r in (t, even F P f v c w a t g, λ G q. fired F P f v c w a t g G q);
    lands = λ F P c w f v a t e. (inr (refl, t, takes F P f v c w a t e), λ Q q. landed F P f v Q (λ u. grew_le P w Q q u));
  }

  pub sound : WebSound web
  sound = web_sound Node Wire web (wires.Rule K size L) There Line (wires.lawful K size L) (wires.counting K size L) keeps
