-- The web of rounds is sound: one invariant of the counts, kept by each move.
use Rattle.std.specs.Prelude.{nat_eq}
use Rattle.std.proofs.Common.{eq-eqb, ne_eqb, ◌≡◌, ℕ, zero, suc, ◌+◌, ◌-◌, ◌<◌, ◌≤◌, Bool, true, false, List, [], ◌∷◌, ◌++◌, ◌⊎◌, inl, inr, refl, sym, ap, subst, ◌∙◌, arith}
use Rattle.std.proofs.Math.Path.{fun_ext}
use Rattle.std.proofs.lemmas.Bool.{cases_lt, cases_eq}
use Rattle.cmd_tree.specs.Rounds.{tally, naught}
use Rattle.net_laws.proofs.Webs.{WebSound}
use Rattle.net_laws.proofs.Told.{Flows, Tends, Longer, longer_at, longer_away, sent, got, web_sound}
use Rattle.net_laws.proofs.Woven.{Grew, grew_same, grew_le, grew_other, Reads, sent_grew, got_grew, got_same, sent_same}
use Rattle.plain_split.specs.RoundsNet.{Path, Top, Odd, Even, depth, share, Wire, Sym, To, Go, Put, Out, Name, Env, Tog}
use Rattle.plain_split.proofs.RoundsPlan.{Plan, sum_over, Story, allowed, Stories, Sane, Took, Gave}
use Rattle.plain_split.proofs.RoundsWeb.{same_wire, word, word_sym, word_out, driver, receiver, below, to_gate, to_tog, There, Fires, takes_to, Takes, Rule, web, clean, lawful, sum_le, sum_gap, sum_gap2, sum_none, sum_same, sum_some, sum_one, Guard, fire_of}

-- what has come once more is within a bound, where it was below it
grew_bound : {W : Type 0} (F : W → ℕ) (w : W) (G : W → ℕ) → Grew F w G → (v : W) (b : ℕ) → F v ≤ b → (v ≡ w → F v < b) → G v ≤ b
grew_bound F w G g v b low less = at (g v)
  where
    at : ((v ≡ w) × (G v ≡ suc (F v))) ⊎ ((v ≡ w → ⊥) × (G v ≡ F v)) → G v ≤ b
    at (inl (e, x)) = omega (arith, less e)
    at (inr (e, x)) = omega arith

grew_twice : {W : Type 0} (F : W → ℕ) (w : W) (G : W → ℕ) → Grew F w G → (v : W) (b : ℕ) → F v + F v ≤ b → (v ≡ w → F v + F v + 2 ≤ b) → G v + G v ≤ b
grew_twice F w G g v b low less = at (g v)
  where
    at : ((v ≡ w) × (G v ≡ suc (F v))) ⊎ ((v ≡ w → ⊥) × (G v ≡ F v)) → G v + G v ≤ b
    at (inl (e, x)) = omega (arith, less e)
    at (inr (e, x)) = omega arith

-- as many bursts come to a place, or one more
pub share_near : (p : Path) (m n : ℕ) → m ≤ n → n ≤ suc m → (share p m ≤ share p n) × (share p n ≤ suc (share p m))
share_near Top m n a b = (a, b)
share_near (Odd p) m n a b = let (x, y) = share_near p m n a b in (omega arith, omega arith)
share_near (Even p) m n a b = let (x, y) = share_near p m n a b in (omega arith, omega arith)

module _ (g : Plan) (sane : Sane g) where
  pub record Inv (s : Story g) (F P : Wire → ℕ) : Type 0 where
    pub join : (a : ℕ) → g.takes a ≡ true → F (To Top) ≤ P (Sym a)
    pub odd : (p : Path) → depth p < g.levels → F (To (Odd p)) + F (To (Odd p)) ≤ suc (P (To p))
    pub even : (p : Path) → depth p < g.levels → F (To (Even p)) + F (To (Even p)) ≤ P (To p)
    pub go : (y : ℕ) → y < g.acts → F (Go y) ≤ g.opened y + P (To (g.entry y))
    pub put : (y a : ℕ) → y < g.acts → g.gives y a ≡ true → F (Put y a) ≤ P (Go y)
    pub shown : (a : ℕ) → F (Out a) ≤ sum_over g a (λ y. P (Put y a))
    pub told : (y a : ℕ) → y < g.acts → g.gives y a ≡ true → s.shown y a ≤ P (Put y a)
    pub tie_in : (a : ℕ) → g.takes a ≡ true → F (Sym a) ≡ s.bursts + s.came a
    pub tie_out : (y a : ℕ) → y < g.acts → g.gives y a ≡ true → P (Out a) ≡ sum_over g a (λ y. s.shown y a)

  module _ (s : Story g) (F P : Wire → ℕ) (f : Flows F P) (v : Inv s F P) where
    pub given : (w : Wire) → P w ≤ F w
    given w = at (f w)
      where
        at : (F w ≡ P w) ⊎ (F w ≡ suc (P w)) → P w ≤ F w
        at (inl e) = omega arith
        at (inr e) = omega arith

    pub top : F (To Top) ≤ s.bursts
    top = omega (arith, v.join s.left s.left_takes, given (Sym s.left), v.tie_in s.left s.left_takes, s.left_none)

    -- no place had more than its share
    pub high : (p : Path) → depth p ≤ g.levels → F (To p) ≤ share p s.bursts
    high Top d = top
    high (Odd p) d = omega (arith, high p (omega arith), v.odd p (omega arith), given (To p))
    high (Even p) d = omega (arith, high p (omega arith), v.even p (omega arith), given (To p))

    -- what an act did it was told to
    pub along : (y a : ℕ) → y < g.acts → g.gives y a ≡ true
        → (s.shown y a ≤ P (Put y a)) × (P (Put y a) ≤ F (Put y a)) × (F (Put y a) ≤ P (Go y)) × (P (Go y) ≤ F (Go y)) × (F (Go y) ≤ g.opened y + P (To (g.entry y)))
        × (P (To (g.entry y)) ≤ F (To (g.entry y))) × (F (To (g.entry y)) ≤ share (g.entry y) s.bursts)
    along y a low gives = (
      v.told y a low gives,
      given (Put y a),
      v.put y a low gives,
      given (Go y),
      v.go y low,
      given (To (g.entry y)),
      high (g.entry y) (omega (arith, sane.entry_deep y low)),
    )

    leaf : (y : ℕ) → y < g.acts → share (g.entry y) s.answered ≤ P (To (g.entry y))
    leaf y low = let (a, gives) = sane.some y low in omega (arith, along y a low gives, s.least y a low gives)

    -- each place had what was answered
    pub low_by : (n : ℕ) (p : Path) → n + depth p ≡ g.levels → share p s.answered ≤ P (To p)
    low_by zero p e =
        let deep : depth p ≡ g.levels = omega arith in
        subst (λ q. share q s.answered ≤ P (To q)) (sane.entry_back p deep) (leaf (g.act_at p) (sane.act_low p deep))
    low_by (suc n) p e =
        omega (arith, low_by n (Odd p) (omega arith), low_by n (Even p) (omega arith), given (To (Odd p)), given (To (Even p)), v.odd p (omega arith), v.even p (omega arith))

    pub least : (p : Path) → depth p ≤ g.levels → share p s.answered ≤ P (To p)
    least p d = low_by (g.levels - depth p) p (omega arith)

    pub near : (p : Path) → (share p s.answered ≤ share p s.bursts) × (share p s.bursts ≤ suc (share p s.answered))
    near p = share_near p s.answered s.bursts s.near s.next

    -- what is shown, as a sum
    pub sums : (a : ℕ) → (F (Out a) ≤ sum_over g a (λ y. P (Put y a))) × (sum_over g a (λ y. P (Put y a)) ≤ sum_over g a (λ y. F (Put y a)))
        × (sum_over g a (λ y. F (Put y a)) ≤ sum_over g a (allowed g s)) × (sum_over g a (allowed g s) ≤ suc (sum_over g a (λ y. s.shown y a)))
    sums a = (
      v.shown a,
      sum_le g a (λ y. P (Put y a)) (λ y. F (Put y a)) (λ y low gives. given (Put y a)),
      sum_le g a (λ y. F (Put y a)) (allowed g s) (λ y low gives. omega (arith, along y a low gives)),
      s.one_ahead a,
    )

    -- a wire that its driver may fire is free
    pub free : (w : Wire) → There g w → Guard g F P w → F w ≡ P w
    free (Sym a) x h = absurd h
    free (To Top) x h = omega (arith, h s.left s.left_takes, given (Sym s.left), v.tie_in s.left s.left_takes, s.left_none, least Top (omega arith), given (To Top), s.next)
    free (To (Odd p)) x h =
        let (a, b) = h in
        omega (arith, a, b, given (To p), high p (omega arith), near p, least (Odd p) x, given (To (Odd p)))
    free (To (Even p)) x h =
        let (a, b) = h in
        omega (arith, a, b, given (To p), high p (omega arith), near p, least (Even p) x, given (To (Even p)))
    free (Go y) x h = let (a, gives) = sane.some y x in omega (arith, h, along y a x gives, s.ahead y a x gives)
    free (Put y a) x h = let (low, gives) = x in omega (arith, h, along y a low gives, s.ahead y a low gives)
    free (Out a) x h = let (y, low, gives) = x in omega (arith, h, sums a, v.tie_out y a low gives, given (Out a))

    -- a wire that was fired and not handed over finds its receiver waiting
    pub waits : (w : Wire) → There g w → (receiver g w ≡ Env → ⊥) → F w ≡ suc (P w) → (c : Wire → ℕ) (t : List Wire)
        → Reads Name Wire (web g) (receiver g w) c F P → Takes g t c w
    waits (Sym a) x o e c t r =
        let z : P (Sym a) ≡ F (To Top) = elim (cases_lt 0 (s.came a)) [
          | inl some ↦ omega (arith, s.still a x some, s.few a x, v.tie_in a x, v.join a x, given (To Top), least Top (omega arith))
          | inr none ↦ omega (arith, v.tie_in a x, v.join a x, given (To Top), least Top (omega arith), s.next)
        ] in omega (arith, z, r.got (Sym a) refl, r.sent (To Top) refl)
    waits (To p) x o e c t r = elim (cases_eq (depth p) g.levels) [
      | inl last ↦ gate last
      | inr inner ↦ toggle (omega arith)
    ]
      where
        gate : depth p ≡ g.levels → Takes g t c (To p)
        gate last =
            let y : ℕ = g.act_at p in
            let low : y < g.acts = sane.act_low p last in
            let (a, gives) = sane.some y low in
            let back : P (To (g.entry y)) ≡ P (To p) = ap (λ q. P (To q)) (sane.entry_back p last) in
            let forth : F (To (g.entry y)) ≡ F (To p) = ap (λ q. F (To q)) (sane.entry_back p last) in
            let here : c (To p) ≡ P (To p) = r.got (To p) refl in
            let there : c (Go y) ≡ F (Go y) = r.sent (Go y) (sym (to_gate g p last)) in
            let z : g.opened y + c (To p) ≡ c (Go y) = omega (arith, along y a low gives, s.ahead y a low gives) in
            subst (λ b. takes_to g b c p) (sym (eq-eqb (depth p) g.levels last)) z

        toggle : depth p < g.levels → Takes g t c (To p)
        toggle less =
            let is : receiver g (To p) ≡ Tog p = to_tog g p less in
            let z : c (To p) ≡ c (To (Odd p)) + c (To (Even p)) =
            omega (
              arith,
              high p x,
              near p,
              least (Odd p) (omega arith),
              least (Even p) (omega arith),
              given (To (Odd p)),
              given (To (Even p)),
              v.odd p less,
              v.even p less,
              r.got (To p) refl,
              r.sent (To (Odd p)) (sym is),
              r.sent (To (Even p)) (sym is),
            ) in
            subst (λ b. takes_to g b c p) (sym (ne_eqb (depth p) g.levels (λ i. omega arith))) z
    waits (Go y) x o e c t r = λ a gives. omega (arith, along y a x gives, s.ahead y a x gives, r.got (Go y) refl, r.sent (Put y a) refl)
    waits (Put y a) x o e c t r =
        let (low, gives) = x in
        let same : sum_over g a (λ y. c (Put y a)) ≡ sum_over g a (λ y. P (Put y a)) = sum_same g a (λ y. c (Put y a)) (λ y. P (Put y a)) (λ y less k. r.got (Put y a) refl) in
        omega (arith, same, sums a, sum_gap g a (λ y. P (Put y a)) (λ y. F (Put y a)) (λ z less k. given (Put z a)) y low gives, v.tie_out y a low gives, given (Out a), r.sent (Out a) refl)
    waits (Out a) x o e c t r = absurd (o refl)

    -- the invariant where an inner wire was fired, and where a wire was handed over
    pub fired : (w : Wire) → Guard g F P w → (G : Wire → ℕ) → Grew F w G → Inv s G P
    fired w h G k = record {
      join = λ a x. grew_bound F w G k (To Top) (P (Sym a)) (v.join a x) (λ e. (subst (Guard g F P) (sym e) h) a x);
      odd = λ p x. grew_twice F w G k (To (Odd p)) (suc (P (To p))) (v.odd p x) (λ e. let i = subst (Guard g F P) (sym e) h in omega (arith, i));
      even = λ p x. grew_twice F w G k (To (Even p)) (P (To p)) (v.even p x) (λ e. let i = subst (Guard g F P) (sym e) h in omega (arith, i));
      go = λ y x. grew_bound F w G k (Go y) (g.opened y + P (To (g.entry y))) (v.go y x) (λ e. subst (Guard g F P) (sym e) h);
      put = λ y a x i. grew_bound F w G k (Put y a) (P (Go y)) (v.put y a x i) (λ e. subst (Guard g F P) (sym e) h);
      shown = λ a. grew_bound F w G k (Out a) (sum_over g a (λ y. P (Put y a))) (v.shown a) (λ e. subst (Guard g F P) (sym e) h);
      told = v.told;
      tie_in = λ a x. grew_other F w G k (Sym a) (λ e. subst (Guard g F P) (sym e) h) ∙ v.tie_in a x;
      tie_out = v.tie_out;
    }

    pub landed : (w : Wire) → (receiver g w ≡ Env → ⊥) → (Q : Wire → ℕ) → Grew P w Q → Inv s F Q
    landed w o Q k = record {
      join = λ a x. omega (arith, v.join a x, grew_le P w Q k (Sym a));
      odd = λ p x. omega (arith, v.odd p x, grew_le P w Q k (To p));
      even = λ p x. omega (arith, v.even p x, grew_le P w Q k (To p));
      go = λ y x. omega (arith, v.go y x, grew_le P w Q k (To (g.entry y)));
      put = λ y a x i. omega (arith, v.put y a x i, grew_le P w Q k (Go y));
      shown = λ a. omega (arith, v.shown a, sum_le g a (λ y. P (Put y a)) (λ y. Q (Put y a)) (λ y x i. grew_le P w Q k (Put y a)));
      told = λ y a x i. omega (arith, v.told y a x i, grew_le P w Q k (Put y a));
      tie_in = v.tie_in;
      tie_out = λ y a x i. grew_other P w Q k (Out a) (λ e. o (ap (receiver g) (sym e))) ∙ v.tie_out y a x i;
    }

    -- the environment gives an input
    pub took : (a : ℕ) (n : Story g) → Took g s a n → (G : Wire → ℕ) → Grew F (Sym a) G → Inv n G P
    took a n k G i = record {
      join = λ b x. subst (λ z. z ≤ P (Sym b)) (sym (grew_other F (Sym a) G i (To Top) (λ e. cc))) (v.join b x);
      odd = λ p x. let z = grew_other F (Sym a) G i (To (Odd p)) (λ e. cc) in omega (arith, v.odd p x);
      even = λ p x. let z = grew_other F (Sym a) G i (To (Even p)) (λ e. cc) in omega (arith, v.even p x);
      go = λ y x. let z = grew_other F (Sym a) G i (Go y) (λ e. cc) in omega (arith, v.go y x);
      put = λ y b x j. let z = grew_other F (Sym a) G i (Put y b) (λ e. cc) in omega (arith, v.put y b x j);
      shown = λ b. let z = grew_other F (Sym a) G i (Out b) (λ e. cc) in omega (arith, v.shown b);
      told = λ y b x j. omega (arith, v.told y b x j, k.same y b x j);
      tie_in = λ b x. tie b x (i (Sym b));
      tie_out = λ y b x j. v.tie_out y b x j ∙ sum_same g b (λ y. s.shown y b) (λ y. n.shown y b) (λ y less t. sym (k.same y b less t));
    }
      where
        tie : (b : ℕ) → g.takes b ≡ true → ((Sym b ≡ Sym a) × (G (Sym b) ≡ suc (F (Sym b)))) ⊎ ((Sym b ≡ Sym a → ⊥) × (G (Sym b) ≡ F (Sym b))) → G (Sym b) ≡ n.bursts + n.came b
        tie b x (inl (e, z)) = let same : b ≡ a = cc in omega (arith, v.tie_in b x, k.more, ap n.came same, ap s.came same)
        tie b x (inr (e, z)) = omega (arith, v.tie_in b x, k.others b x (λ j. e (ap Sym j)))

    pub sym_free : (a : ℕ) (n : Story g) → Took g s a n → F (Sym a) ≡ P (Sym a)
    sym_free a n k = omega (arith, v.tie_in a k.takes, k.new, k.rests, given (Sym a), v.join a k.takes, given (To Top), least Top (omega arith))

    -- where one act has more to show, the others have shown all
    pub only : (a y : ℕ) → y < g.acts → g.gives y a ≡ true → s.shown y a < allowed g s y → (z : ℕ) → z < g.acts → g.gives z a ≡ true → (z ≡ y → ⊥) → allowed g s z ≤ s.shown z a
    only a y low gives less z under also ne =
        omega (
          arith,
          s.one_ahead a,
          s.most z a under also,
          sum_gap2 g a (λ y. s.shown y a) (allowed g s) (λ x i j. s.most x a i j) y z low under gives also (λ e. ne (sym e)),
        )

    -- it was told to show it
    pub told_to : (a y : ℕ) → y < g.acts → g.gives y a ≡ true → s.shown y a < allowed g s y → sum_over g a (λ y. s.shown y a) < sum_over g a (λ y. P (Put y a))
        → s.shown y a < P (Put y a)
    told_to a y low gives less more =
        let (z, under, also, here) = sum_some g a (λ y. s.shown y a) (λ y. P (Put y a)) more in
        elim (cases_eq z y) [
          | inl is ↦ subst (λ x. s.shown x a < P (Put x a)) is here
          | inr ne ↦ absurd (omega (arith, only a y low gives less z under also ne, along z a under also))
        ]

    -- the environment may be shown an output that was fired
    pub behind : (a : ℕ) → There g (Out a) → F (Out a) ≡ suc (P (Out a)) → sum_over g a (λ y. s.shown y a) < sum_over g a (allowed g s)
    behind a x e = let (y, low, gives) = x in omega (arith, sums a, v.tie_out y a low gives)

    pub gave : (a : ℕ) (n : Story g) → Gave g s a n → F (Out a) ≡ suc (P (Out a)) → (Q : Wire → ℕ) → Grew P (Out a) Q → Inv n F Q
    gave a n k e Q i = record {
      join = λ b x. omega (arith, v.join b x, grew_le P (Out a) Q i (Sym b));
      odd = λ p x. omega (arith, v.odd p x, grew_le P (Out a) Q i (To p));
      even = λ p x. omega (arith, v.even p x, grew_le P (Out a) Q i (To p));
      go = λ y x. omega (arith, v.go y x, grew_le P (Out a) Q i (To (g.entry y)));
      put = λ y b x j. omega (arith, v.put y b x j, grew_le P (Out a) Q i (Go y));
      shown = λ b. omega (arith, v.shown b, sum_le g b (λ y. P (Put y b)) (λ y. Q (Put y b)) (λ y x j. grew_le P (Out a) Q i (Put y b)));
      told = λ y b x j. elim (cases_eq b a) [
        | inl same ↦ elim (cases_eq y k.act) [
          | inl is ↦ here y b is same
          | inr ne ↦ omega (arith, v.told y b x j, grew_le P (Out a) Q i (Put y b), k.others y b x j (λ z. ne z.0))
        ]
        | inr ne ↦ omega (arith, v.told y b x j, grew_le P (Out a) Q i (Put y b), k.others y b x j (λ z. ne z.1))
      ];
      tie_in = λ b x. v.tie_in b x ∙ sym (k.same b x);
      tie_out = λ y b x j. elim (cases_eq b a) [
        | inl same ↦ tie y b x j same
        | inr ne ↦
            grew_other P (Out a) Q i (Out b) (λ z. ne (cc)) ∙ v.tie_out y b x j
            ∙ sum_same g b (λ y. s.shown y b) (λ y. n.shown y b) (λ y less t. sym (k.others y b less t (λ z. ne z.1)))
      ];
    }
      where
        more : sum_over g a (λ y. s.shown y a) < sum_over g a (λ y. P (Put y a))
        more = omega (arith, v.shown a, v.tie_out k.act a k.low k.gives)

        here : (y b : ℕ) → y ≡ k.act → b ≡ a → n.shown y b ≤ Q (Put y b)
        here y b is same =
            let z : n.shown k.act a ≤ Q (Put k.act a) = omega (arith, told_to a k.act k.low k.gives k.before more, k.more, grew_le P (Out a) Q i (Put k.act a)) in
            subst (λ (c : ℕ). n.shown y c ≤ Q (Put y c)) (sym same) (subst (λ (x : ℕ). n.shown x a ≤ Q (Put x a)) (sym is) z)

        tie : (y b : ℕ) → y < g.acts → g.gives y b ≡ true → b ≡ a → Q (Out b) ≡ sum_over g b (λ y. n.shown y b)
        tie y b x j same =
            let one : sum_over g a (λ y. n.shown y a) ≡ suc (sum_over g a (λ y. s.shown y a)) =
            sum_one g a (λ y. s.shown y a) (λ y. n.shown y a) k.act k.low k.gives k.more (λ z less i ne. k.others z a less i (λ t. ne t.0)) in
            let z : Q (Out a) ≡ sum_over g a (λ y. n.shown y a) = omega (arith, one, grew_same P (Out a) Q i (Out a) refl, v.tie_out k.act a k.low k.gives) in
            subst (λ (c : ℕ). Q (Out c) ≡ sum_over g c (λ y. n.shown y c)) (sym same) z

  -- ---- the traces

  module _ (Tell : List ℕ → Type 0) (st : Stories g Tell) where
    -- the environment's trace is u, which has a story
    pub record Told (t : Name → List Wire) : Type 0 where
      pub past : List ℕ
      pub is : word (t Env) ≡ past
      pub tell : Tell past
      pub inv : Inv (st.story past tell) (sent (web g) t) (got (web g) t)

    pub reads : (t : Name → List Wire) (n : Name) → Reads Name Wire (web g) n (tally same_wire naught (t n)) (sent (web g) t) (got (web g) t)
    reads t n = record {
      sent = λ w e. ap (λ m. tally same_wire naught (t m) w) (sym e);
      got = λ w e. ap (λ m. tally same_wire naught (t m) w) (sym e);
    }

    begins : Told (λ n. [])
    begins = record {
      past = [];
      is = refl;
      tell = st.first;
      inv = record {
        join = λ a x. omega arith;
        odd = λ p x. omega arith;
        even = λ p x. omega arith;
        go = λ y x. omega arith;
        put = λ y a x i. omega arith;
        shown = λ a. omega arith;
        told = λ y a x i. omega (arith, st.first_shown y a);
        tie_in = λ a x. omega (arith, st.first_bursts, st.first_came a);
        tie_out = λ y a x i. sym (sum_none g a (λ y. (st.story [] st.first).shown y a) (λ y. st.first_shown y a));
      };
    }

    module _ (t : Name → List Wire) (f : Flows (sent (web g) t) (got (web g) t)) (i : Told t) where
      abbrev now : Story g
      now = st.story i.past i.tell

      abbrev F : Wire → ℕ
      F = sent (web g) t

      abbrev P : Wire → ℕ
      P = got (web g) t

      -- what an inner wire changes
      same_past : (n : Name) (w : Wire) (u : Name → List Wire) → Longer Name Wire t n w u → (n ≡ Env → ⊥) → word (u Env) ≡ i.past
      same_past n w u l o = ap word (longer_away t n w u l Env (λ e. o (sym e))) ∙ i.is

      sends_inner : (w : Wire) → There g w → (driver w ≡ Env → ⊥) → Fires g (t (driver w)) (tally same_wire naught (t (driver w))) w
          → There g w × (F w ≡ P w) × ((u : Name → List Wire) → Longer Name Wire t (driver w) w u → Told u)
      sends_inner w x o r =
          let h : Guard g F P w = fire_of g sane F P (tally same_wire naught (t (driver w))) (t (driver w)) w x o (reads t (driver w)) r in (
            x,
            free now F P f i.inv w x h,
            λ u l. record {
              past = i.past;
              is = same_past (driver w) w u l o;
              tell = i.tell;
              inv = subst (λ p. Inv now (sent (web g) u) p) (sym (fun_ext (got_same Name Wire (web g) (lawful g) t w u l)))
                  (fired now F P f i.inv w h (sent (web g) u) (sent_grew Name Wire (web g) (lawful g) t w u l));
            },
          )

      sends_sym : (a : ℕ) → Fires g (t Env) (tally same_wire naught (t Env)) (Sym a)
          → There g (Sym a) × (F (Sym a) ≡ P (Sym a)) × ((u : Name → List Wire) → Longer Name Wire t Env (Sym a) u → Told u)
      sends_sym a r =
          let (is_in, trace) = r in
          let (v, k) = st.took i.past a i.tell is_in (subst (λ x. g.traces (x ++ a ∷ [])) i.is trace) in (
            k.takes,
            sym_free now F P f i.inv a (st.story (i.past ++ a ∷ []) v) k,
            λ u l. record {
              past = i.past ++ a ∷ [];
              is = ap word (longer_at t Env (Sym a) u l Env refl) ∙ word_sym (t Env) a ∙ ap (λ x. x ++ a ∷ []) i.is;
              tell = v;
              inv = subst (λ p. Inv (st.story (i.past ++ a ∷ []) v) (sent (web g) u) p) (sym (fun_ext (got_same Name Wire (web g) (lawful g) t (Sym a) u l)))
                  (took now F P f i.inv a (st.story (i.past ++ a ∷ []) v) k (sent (web g) u) (sent_grew Name Wire (web g) (lawful g) t (Sym a) u l));
            },
          )

      sends : (w : Wire) → Rule g (driver w) (t (driver w)) w
          → There g w × (F w ≡ P w) × ((u : Name → List Wire) → Longer Name Wire t (driver w) w u → Told u)
      sends w (x, inr r) = absurd (clean g w (sym r.0))
      sends (Sym a) (x, inl r) = sends_sym a r.1
      sends (To Top) (x, inl r) = sends_inner (To Top) x (λ e. cc) r.1
      sends (To (Odd p)) (x, inl r) = sends_inner (To (Odd p)) x (λ e. cc) r.1
      sends (To (Even p)) (x, inl r) = sends_inner (To (Even p)) x (λ e. cc) r.1
      sends (Go y) (x, inl r) = sends_inner (Go y) x (λ e. cc) r.1
      sends (Put y a) (x, inl r) = sends_inner (Put y a) x (λ e. cc) r.1
      sends (Out a) (x, inl r) = sends_inner (Out a) x (λ e. cc) r.1

      lands_inner : (w : Wire) → There g w → (receiver g w ≡ Env → ⊥) → F w ≡ suc (P w)
          → Rule g (receiver g w) (t (receiver g w)) w × ((u : Name → List Wire) → Longer Name Wire t (receiver g w) w u → Told u)
      lands_inner w x o e = (
        (x, inr (refl, waits now F P f i.inv w x o e (tally same_wire naught (t (receiver g w))) (t (receiver g w)) (reads t (receiver g w)))),
        λ u l. record {
          past = i.past;
          is = same_past (receiver g w) w u l o;
          tell = i.tell;
          inv = subst (λ p. Inv now p (got (web g) u)) (sym (fun_ext (sent_same Name Wire (web g) (lawful g) t w u l)))
              (landed now F P f i.inv w o (got (web g) u) (got_grew Name Wire (web g) (lawful g) t w u l));
        },
      )

      lands_out : (a : ℕ) → There g (Out a) → F (Out a) ≡ suc (P (Out a))
          → Rule g Env (t Env) (Out a) × ((u : Name → List Wire) → Longer Name Wire t Env (Out a) u → Told u)
      lands_out a x e =
          let (y, low, gives) = x in
          let is_out : g.out a ≡ true = sane.outs y a low gives in
          let trace : g.traces (i.past ++ a ∷ []) = st.shows i.past a i.tell (behind now F P f i.inv a x e) in
          let (v, k) = st.gave i.past a i.tell is_out trace in (
            (x, inr (refl, (is_out, subst (λ z. g.traces (z ++ a ∷ [])) (sym i.is) trace))),
            λ u l. record {
              past = i.past ++ a ∷ [];
              is = ap word (longer_at t Env (Out a) u l Env refl) ∙ word_out (t Env) a ∙ ap (λ x. x ++ a ∷ []) i.is;
              tell = v;
              inv = subst (λ p. Inv (st.story (i.past ++ a ∷ []) v) p (got (web g) u)) (sym (fun_ext (sent_same Name Wire (web g) (lawful g) t (Out a) u l)))
                  (gave now F P f i.inv a (st.story (i.past ++ a ∷ []) v) k e (got (web g) u) (got_grew Name Wire (web g) (lawful g) t (Out a) u l));
            },
          )

      below_inner : (b : Bool) (p : Path) → below g b p ≡ Env → ⊥
      below_inner true p e = cc
      below_inner false p e = cc

      lands : (w : Wire) → There g w → F w ≡ suc (P w)
          → Rule g (receiver g w) (t (receiver g w)) w × ((u : Name → List Wire) → Longer Name Wire t (receiver g w) w u → Told u)
      lands (Sym a) x e = lands_inner (Sym a) x (λ i. cc) e
      lands (To p) x e = lands_inner (To p) x (below_inner (nat_eq (depth p) g.levels) p) e
      lands (Go y) x e = lands_inner (Go y) x (λ i. cc) e
      lands (Put y a) x e = lands_inner (Put y a) x (λ i. cc) e
      lands (Out a) x e = lands_out a x e

    pub tends : Tends Name Wire (web g) (There g) Told
    tends = record {
      begins = begins;
      sends = λ t w f i r. sends t f i w r;
      lands = λ t w f i x e. lands t f i w x e;
    }

    pub sound : WebSound (web g)
    sound = web_sound Name Wire (web g) (There g) Told (lawful g) tends
