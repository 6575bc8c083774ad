-- The web of a layer of a SEQ is exact: each symbol that the environment may do next is served by a few inner wires.
use Rattle.std.proofs.Common.{◌≡◌, ℕ, suc, ◌<◌, ◌≤◌, ◌⊎◌, inl, inr, refl, sym, ap, ◌∙◌, arith}
use Rattle.std.proofs.lemmas.Bool.{cases_lt, cases_eq}
use Rattle.basic_kinds.proofs.Totals.{total_same, total_le, total_one, total_gap, total_some}
use Rattle.net_laws.proofs.Webs.{Web, WebExact}
use Rattle.net_laws.proofs.Told.{Flows}
use Rattle.net_laws.proofs.Woven.{Grew, grew_same, grew_other, Reads, Draws, pull, give, show, web_exact}
use Rattle.seq_tree.proofs.SequencerWires as wires
use Rattle.seq_tree.proofs.SequencerWires.{Wire, Request, Chosen, Ask, Row, Won, Grant, Back, Call, Give, Return, Free, Lone, Own, Token, Node, Env, driver, receiver}
use Rattle.seq_tree.proofs.SequencerSound as sound
use Rattle.seq_tree.proofs.SequencerSound.{Line}

module _ (K : ℕ) (size : ℕ → ℕ) (L : ℕ) where
  abbrev group : (ℕ → ℕ → Wire) → (Wire → ℕ) → ℕ → ℕ
  group = wires.group K size L

  abbrev given : (Wire → ℕ) → ℕ
  given = wires.given K size L

  abbrev granted : (Wire → ℕ) → ℕ
  granted = wires.granted K size L

  abbrev web : Web Node Wire
  web = wires.web K size L

  abbrev Rule : Node → (Wire → ℕ) → Wire → Type 0
  Rule = wires.Rule K size L

  abbrev Kept : (F P : Wire → ℕ) → Type 0
  Kept = Line K size L

  -- between two symbols each chosen request is granted
  abbrev Settled : (Wire → ℕ) → Type 0
  Settled x = (k i : ℕ) → x (Chosen k i) ≡ x (Grant k i)

  abbrev Serves : Wire → (Wire → ℕ) → Type 0
  Serves = Draws Node Wire web Rule Kept Settled

  idle : (x : Wire → ℕ) → Flows x x
  idle x w = inl refl

  group_same : (v : ℕ → ℕ → Wire) (e f : Wire → ℕ) (k : ℕ) → ((i : ℕ) → e (v k i) ≡ f (v k i)) → group v e k ≡ group v f k
  group_same v e f k h = total_same (size k) (λ i. e (v k i)) (λ i. f (v k i)) (λ i low. h i)

  -- ---- a grant of the request i of the group k

  module _ (k i : ℕ) (near : k < K) (inside : i < size k) where
    abbrev Serve : (Wire → ℕ) → Type 0
    Serve = Serves (Grant k i)

    -- the request is chosen, and all others that are chosen are granted
    record Ahead (y : Wire → ℕ) : Type 0 where
      others : (q j : ℕ) → ((q ≡ k) × (j ≡ i) → ⊥) → y (Chosen q j) ≡ y (Grant q j)
      here : y (Chosen k i) ≡ suc (y (Grant k i))
      token : granted y < y Token

    -- none is chosen yet
    record Waiting (y : Wire → ℕ) : Type 0 where
      settled : Settled y
      wants : y (Grant k i) < y (Request k i)
      token : granted y < y Token

    module _ (y : Wire → ℕ) (w : Wire) (z : Wire → ℕ) (g : Grew y w z) (c : (q j : ℕ) → Chosen q j ≡ w → ⊥) (b : (q j : ℕ) → Grant q j ≡ w → ⊥)
        (o : (j : ℕ) → Own j ≡ w → ⊥) (t : Token ≡ w → ⊥) where
      chosen_still : (q j : ℕ) → z (Chosen q j) ≡ y (Chosen q j)
      chosen_still q j = grew_other y w z g (Chosen q j) (c q j)

      grant_still : (q j : ℕ) → z (Grant q j) ≡ y (Grant q j)
      grant_still q j = grew_other y w z g (Grant q j) (b q j)

      granted_still : granted z ≡ granted y
      granted_still = sound.granted_same K size L z y grant_still (λ j. grew_other y w z g (Own j) (o j))

      ahead : Ahead y → Ahead z
      ahead a = record {
        others = λ q j n. chosen_still q j ∙ a.others q j n ∙ sym (grant_still q j);
        here = omega (arith, chosen_still k i, grant_still k i, a.here);
        token = omega (arith, a.token, granted_still, grew_other y w z g Token t);
      }

      waiting : (Request k i ≡ w → ⊥) → Waiting y → Waiting z
      waiting r a = record {
        settled = λ q j. chosen_still q j ∙ a.settled q j ∙ sym (grant_still q j);
        wants = omega (arith, a.wants, grant_still k i, grew_other y w z g (Request k i) r);
        token = omega (arith, a.token, granted_still, grew_other y w z g Token t);
      }

    -- ---- from the end

    shown : (y : Wire → ℕ) → Kept y y → Ahead y → y (Grant k i) < y (Won k i) → Serve y
    shown y v a less = show refl (λ c b. inl (refl, (near, inside), omega (arith, less, b.sent (Grant k i) refl, b.got (Won k i) refl))) (λ z g u. λ q j. at z g q j (g (Grant q j)))
      where
        at : (z : Wire → ℕ) → Grew y (Grant k i) z → (q j : ℕ) → ((Grant q j ≡ Grant k i) × (z (Grant q j) ≡ suc (y (Grant q j)))) ⊎ ((Grant q j ≡ Grant k i → ⊥) × (z (Grant q j) ≡ y (Grant q j)))
            → z (Chosen q j) ≡ z (Grant q j)
        at z g q j (inl (e, x)) =
            let p : q ≡ k = cc in
            let r : j ≡ i = cc in
            let same : y (Chosen q j) ≡ y (Chosen k i) = ap (λ n. y (Chosen n j)) p ∙ ap (λ n. y (Chosen k n)) r in
            omega (arith, x, same, a.here, ap y e, grew_other y (Grant k i) z g (Chosen q j) (λ d. cc))
        at z g q j (inr (n, x)) = omega (
          arith,
          x,
          a.others q j (λ both. let p = both.0 in let r = both.1 in n (ap (λ m. Grant m j) p ∙ ap (λ m. Grant k m) r)),
          grew_other y (Grant k i) z g (Chosen q j) (λ d. cc),
        )

    wins : (y : Wire → ℕ) → Kept y y → Ahead y → group Grant y k < y (Give k) → suc (y (Grant k i)) ≤ y (Row k i) → Serve y
    wins y v a more rowed = elim (cases_lt (y (Grant k i)) (y (Won k i))) [
      | inl less ↦ shown y v a less
      | inr not_yet ↦
          pull (Won k i) (λ e. cc) (λ e. cc)
          (λ c b. inl (
            refl,
            (near, inside),
            (
              omega (arith, rowed, not_yet, b.sent (Won k i) refl, b.got (Row k i) refl),
              omega (arith, few not_yet, more, b.got (Give k) refl, group_same Won c y k (λ j. b.sent (Won k j) refl)),
            ),
          ))
          (λ z g u. shown z u (ahead y (Won k i) z g (λ q j e. cc) (λ q j e. cc) (λ j e. cc) (λ e. cc) a)
          (omega (arith, grew_same y (Won k i) z g (Won k i) refl, grew_other y (Won k i) z g (Grant k i) (λ e. cc), sound.line K size L y y (idle y) v k i)))
    ]
      where
        few : y (Won k i) ≤ y (Grant k i) → group Won y k ≤ group Grant y k
        few low = total_le (size k) (λ j. y (Won k j)) (λ j. y (Grant k j)) (λ j l. elim (cases_eq j i) [
          | inl e ↦ omega (arith, low, ap (λ n. y (Won k n)) e, ap (λ n. y (Grant k n)) e)
          | inr n ↦ omega (arith, a.others k j (λ both. n both.1), sound.line K size L y y (idle y) v k j)
        ])

    rows : (y : Wire → ℕ) → Kept y y → Ahead y → group Grant y k < y (Give k) → Serve y
    rows y v a more = elim (cases_lt (y (Row k i)) (y (Chosen k i))) [
      | inl less ↦
          pull (Row k i) (λ e. cc) (λ e. cc) (λ c b. inl (refl, (near, inside), omega (arith, less, b.sent (Row k i) refl, b.got (Chosen k i) refl)))
          (λ z g u. wins z u (ahead y (Row k i) z g (λ q j e. cc) (λ q j e. cc) (λ j e. cc) (λ e. cc) a)
          (omega (arith, more, group_same Grant z y k (λ j. grew_other y (Row k i) z g (Grant k j) (λ e. cc)), grew_other y (Row k i) z g (Give k) (λ e. cc)))
          (omega (arith, grew_same y (Row k i) z g (Row k i) refl, grew_other y (Row k i) z g (Grant k i) (λ e. cc), sound.line K size L y y (idle y) v k i)))
      | inr done ↦ wins y v a more (omega (arith, done, a.here))
    ]

    gives : (y : Wire → ℕ) → Kept y y → Ahead y → group Grant y k < y (Call k) → Serve y
    gives y v a called = elim (cases_lt (group Grant y k) (y (Give k))) [
      | inl more ↦ rows y v a more
      | inr done ↦
          pull (Give k) (λ e. cc) (λ e. cc)
          (λ c b. inl (
            refl,
            near,
            (
              omega (arith, done, called, b.sent (Give k) refl, b.got (Call k) refl),
              omega (arith, few done, a.token, b.got Token refl, sound.given_same K size L c y (λ q. b.sent (Give q) refl) (λ j. b.sent (Own j) refl)),
            ),
          ))
          (λ z g u. rows z u (ahead y (Give k) z g (λ q j e. cc) (λ q j e. cc) (λ j e. cc) (λ e. cc) a)
          (omega (
            arith,
            grew_same y (Give k) z g (Give k) refl,
            group_same Grant z y k (λ j. grew_other y (Give k) z g (Grant k j) (λ e. cc)),
            sound.ring K size L y y (idle y) v k,
          )))
    ]
      where
        -- the groups but this one are settled
        few : y (Give k) ≤ group Grant y k → given y ≤ granted y
        few low = omega (
          arith,
          total_le K (λ q. y (Give q)) (group Grant y) (λ q l. elim (cases_eq q k) [
            | inl e ↦ omega (arith, low, ap (λ n. y (Give n)) e, ap (group Grant y) e)
            | inr n ↦ omega (
              arith,
              sound.ring K size L y y (idle y) v q,
              total_same (size q) (λ j. y (Chosen q j)) (λ j. y (Grant q j)) (λ j m. a.others q j (λ both. n both.0)),
            )
          ]),
        )

    calls : (y : Wire → ℕ) → Kept y y → Ahead y → y (Chosen k i) ≤ y (Ask k i) → Serve y
    calls y v a asked = elim (cases_lt (group Grant y k) (y (Call k))) [
      | inl more ↦ gives y v a more
      | inr done ↦
          pull (Call k) (λ e. cc) (λ e. cc)
          (λ c b. inl (refl, near, omega (arith, done, ahead_sum, b.sent (Call k) refl, group_same Ask c y k (λ j. b.got (Ask k j) refl))))
          (λ z g u. gives z u (ahead y (Call k) z g (λ q j e. cc) (λ q j e. cc) (λ j e. cc) (λ e. cc) a)
          (omega (
            arith,
            grew_same y (Call k) z g (Call k) refl,
            group_same Grant z y k (λ j. grew_other y (Call k) z g (Grant k j) (λ e. cc)),
            sound.ring K size L y y (idle y) v k,
          )))
    ]
      where
        ahead_sum : group Grant y k < group Ask y k
        ahead_sum = omega (
          arith,
          asked,
          a.here,
          total_gap (size k) (λ j. y (Grant k j)) (λ j. y (Ask k j)) (λ j l. omega (arith, sound.line K size L y y (idle y) v k j)) i inside,
        )

    asks : (y : Wire → ℕ) → Kept y y → Ahead y → Serve y
    asks y v a = elim (cases_lt (y (Ask k i)) (y (Chosen k i))) [
      | inl less ↦
          pull (Ask k i) (λ e. cc) (λ e. cc) (λ c b. inl (refl, (near, inside), omega (arith, less, b.sent (Ask k i) refl, b.got (Chosen k i) refl)))
          (λ z g u. calls z u (ahead y (Ask k i) z g (λ q j e. cc) (λ q j e. cc) (λ j e. cc) (λ e. cc) a)
          (omega (arith, a.here, grew_same y (Ask k i) z g (Ask k i) refl, grew_other y (Ask k i) z g (Chosen k i) (λ e. cc), sound.line K size L y y (idle y) v k i)))
      | inr done ↦ calls y v a done
    ]

    -- ---- to the choice

    choose : (y : Wire → ℕ) → Kept y y → Waiting y → group Chosen y k < y (Free k) → Serve y
    choose y v a free =
        pull (Chosen k i) (λ e. cc) (λ e. cc)
        (λ c b. inl (
          refl,
          (near, inside),
          (
            omega (arith, a.wants, a.settled k i, b.sent (Chosen k i) refl, b.got (Request k i) refl),
            omega (arith, free, b.got (Free k) refl, group_same Chosen c y k (λ j. b.sent (Chosen k j) refl)),
          ),
        ))
        (λ z g u. asks z u (record {
          others = λ q j n.
              grew_other y (Chosen k i) z g (Chosen q j) (λ e. n (let p : q ≡ k = cc in p, let r : j ≡ i = cc in r))
              ∙ a.settled q j ∙ sym (grew_other y (Chosen k i) z g (Grant q j) (λ e. cc));
          here = omega (arith, grew_same y (Chosen k i) z g (Chosen k i) refl, a.settled k i, grew_other y (Chosen k i) z g (Grant k i) (λ e. cc));
          token = omega (
            arith,
            a.token,
            sound.granted_same K size L z y (λ q j. grew_other y (Chosen k i) z g (Grant q j) (λ e. cc)) (λ j. grew_other y (Chosen k i) z g (Own j) (λ e. cc)),
            grew_other y (Chosen k i) z g Token (λ e. cc),
          );
        }))

    frees : (y : Wire → ℕ) → Kept y y → Waiting y → group Chosen y k ≤ y (Return k) → Serve y
    frees y v a returned = elim (cases_lt (group Chosen y k) (y (Free k))) [
      | inl free ↦ choose y v a free
      | inr done ↦
          pull (Free k) (λ e. cc) (λ e. cc)
          (λ c b. inl (refl, near, omega (arith, done, returned, sound.ring K size L y y (idle y) v k, b.sent (Free k) refl, b.got (Return k) refl)))
          (λ z g u. choose z u (waiting y (Free k) z g (λ q j e. cc) (λ q j e. cc) (λ j e. cc) (λ e. cc) (λ e. cc) a)
          (omega (
            arith,
            grew_same y (Free k) z g (Free k) refl,
            group_same Chosen z y k (λ j. grew_other y (Free k) z g (Chosen k j) (λ e. cc)),
            sound.ring K size L y y (idle y) v k,
          )))
    ]

    returns : (y : Wire → ℕ) → Kept y y → Waiting y → group Chosen y k ≤ group Back y k → Serve y
    returns y v a back = elim (cases_lt (y (Return k)) (group Back y k)) [
      | inl less ↦
          pull (Return k) (λ e. cc) (λ e. cc) (λ c b. inl (refl, near, omega (arith, less, b.sent (Return k) refl, group_same Back c y k (λ j. b.got (Back k j) refl))))
          (λ z g u. frees z u (waiting y (Return k) z g (λ q j e. cc) (λ q j e. cc) (λ j e. cc) (λ e. cc) (λ e. cc) a)
          (omega (
            arith,
            grew_same y (Return k) z g (Return k) refl,
            group_same Chosen z y k (λ j. grew_other y (Return k) z g (Chosen k j) (λ e. cc)),
            sound.ring K size L y y (idle y) v k,
          )))
      | inr done ↦ frees y v a (omega (arith, done, back))
    ]

    serves : (y : Wire → ℕ) → Kept y y → Waiting y → Serve y
    serves y v a = elim (cases_lt (group Back y k) (group Won y k)) [
      | inl less ↦
          let (j, low, lags) = total_some (size k) (λ j. y (Back k j)) (λ j. y (Won k j)) less in
          pull (Back k j) (λ e. cc) (λ e. cc) (λ c b. inl (refl, (near, low), omega (arith, lags, b.sent (Back k j) refl, b.got (Won k j) refl)))
          (λ z g u. returns z u (waiting y (Back k j) z g (λ q n e. cc) (λ q n e. cc) (λ n e. cc) (λ e. cc) (λ e. cc) a)
          (omega (
            arith,
            total_one (size k) (λ n. y (Back k n)) (λ n. z (Back k n)) j low (grew_same y (Back k j) z g (Back k j) refl)
                (λ n l other. grew_other y (Back k j) z g (Back k n) (λ e. other (let p : n ≡ j = cc in p))),
            group_same Chosen z y k (λ n. grew_other y (Back k j) z g (Chosen k n) (λ e. cc)),
            sound.ring K size L y y (idle y) v k,
          )))
      | inr done ↦ returns y v a (omega (arith, done, group_chosen, sound.ring K size L y y (idle y) v k))
    ]
      where
        group_chosen : group Chosen y k ≡ group Grant y k
        group_chosen = total_same (size k) (λ j. y (Chosen k j)) (λ j. y (Grant k j)) (λ j l. a.settled k j)

  -- ---- a request that stands alone

  own : (x : Wire → ℕ) → Kept x x → Settled x → (j : ℕ) → j < L → x (Own j) < x (Lone j) → granted x < x Token → Serves (Own j) x
  own x v s j near less token =
      show refl
      (λ c b. inl (
        refl,
        near,
        (
          omega (arith, less, b.sent (Own j) refl, b.got (Lone j) refl),
          omega (
            arith,
            token,
            total_le K (λ q. x (Give q)) (group Grant x) (λ q l. omega (
              arith,
              sound.ring K size L x x (idle x) v q,
              total_same (size q) (λ n. x (Chosen q n)) (λ n. x (Grant q n)) (λ n m. s q n),
            )),
            b.got Token refl,
            sound.given_same K size L c x (λ q. b.sent (Give q) refl) (λ n. b.sent (Own n) refl),
          ),
        ),
      ))
      (λ z g u. λ q n. grew_other x (Own j) z g (Chosen q n) (λ e. cc) ∙ s q n ∙ sym (grew_other x (Own j) z g (Grant q n) (λ e. cc)))

  -- ---- all symbols

  settles : (x : Wire → ℕ) → Settled x → (w : Wire) → ((q j : ℕ) → Chosen q j ≡ w → ⊥) → ((q j : ℕ) → Grant q j ≡ w → ⊥) → (y : Wire → ℕ) → Grew x w y → Settled y
  settles x s w c b y g q j = grew_other x w y g (Chosen q j) (c q j) ∙ s q j ∙ sym (grew_other x w y g (Grant q j) (b q j))

  inner : (x c : Wire → ℕ) (w : Wire) → (driver w ≡ Env → ⊥) → (receiver w ≡ Env → ⊥) → Rule Env c w → Serves w x
  inner x c w out into (inl (e, t, f)) = absurd (out e)
  inner x c w out into (inr (e, t, f)) = absurd (into e)

  shows : (c : Wire → ℕ) (w : Wire) → (driver w ≡ Env → ⊥) → Rule Env c w → wires.There K size L w × wires.Takes K size L c w
  shows c w out (inl (e, t, f)) = absurd (out e)
  shows c w out (inr (e, t, f)) = (t, f)

  draws : (x c : Wire → ℕ) (w : Wire) → Kept x x → Settled x → Reads Node Wire web Env c x x → Rule Env c w → Serves w x
  draws x c (Request k i) v s a r = give refl (λ y g u. settles x s (Request k i) (λ q j e. cc) (λ q j e. cc) y g)
  draws x c (Chosen k i) v s a r = inner x c (Chosen k i) (λ e. cc) (λ e. cc) r
  draws x c (Ask k i) v s a r = inner x c (Ask k i) (λ e. cc) (λ e. cc) r
  draws x c (Row k i) v s a r = inner x c (Row k i) (λ e. cc) (λ e. cc) r
  draws x c (Won k i) v s a r = inner x c (Won k i) (λ e. cc) (λ e. cc) r
  draws x c (Grant k i) v s a r =
      let (t, h) = shows c (Grant k i) (λ e. cc) r in
      serves k i t.0 t.1 x v (record {
        settled = s;
        wants = omega (arith, h.0, a.got (Grant k i) refl, a.sent (Request k i) refl);
        token = omega (arith, h.1, a.sent Token refl, sound.granted_same K size L c x (λ q j. a.got (Grant q j) refl) (λ j. a.got (Own j) refl));
      })
  draws x c (Back k i) v s a r = inner x c (Back k i) (λ e. cc) (λ e. cc) r
  draws x c (Call k) v s a r = inner x c (Call k) (λ e. cc) (λ e. cc) r
  draws x c (Give k) v s a r = inner x c (Give k) (λ e. cc) (λ e. cc) r
  draws x c (Return k) v s a r = inner x c (Return k) (λ e. cc) (λ e. cc) r
  draws x c (Free k) v s a r = inner x c (Free k) (λ e. cc) (λ e. cc) r
  draws x c (Lone j) v s a r = give refl (λ y g u. settles x s (Lone j) (λ q n e. cc) (λ q n e. cc) y g)
  draws x c (Own j) v s a r =
      let (t, h) = shows c (Own j) (λ e. cc) r in
      own x v s j t (omega (arith, h.0, a.got (Own j) refl, a.sent (Lone j) refl))
      (omega (arith, h.1, a.sent Token refl, sound.granted_same K size L c x (λ q n. a.got (Grant q n) refl) (λ n. a.got (Own n) refl)))
  draws x c Token v s a r = give refl (λ y g u. settles x s Token (λ q j e. cc) (λ q j e. cc) y g)

  pub exact : WebExact web
  exact = web_exact Node Wire web Rule (wires.There K size L) Kept Settled (wires.lawful K size L) (wires.counting K size L) (sound.keeps K size L) (λ k i. refl) draws
