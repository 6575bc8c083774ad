-- From facts on which burst may come next to facts on the traces, with no tree.
use Rattle.std.proofs.Common.{◌≡◌, ◌⊎◌, inl, inr, ⊎_elim, ℕ, ◌+◌, ◌≤◌, Bool, true, false, true≢false, not, ◌||◌, nat_eq, if◌then◌else◌, List, [], ◌∷◌, ◌++◌, IsTrue, Option, refl, sym, ap, ◌∙◌, subst, arith, eqb-true, eq-eqb}
use Rattle.std.specs.List.{AllByRecursion}
use Rattle.std.proofs.lemmas.Bool.{cases_eq}
use Rattle.cmd_tree.specs.declared.tree.Mark.{Mark}
use Rattle.cmd_tree.specs.Tree.{TSeq}
use Rattle.cmd_tree.specs.Meaning.{symbols}
use Rattle.cmd_tree.specs.Lists.{is_in}
use Rattle.cmd_tree.specs.Residual.{without, Left, Next, Step, within, opens, Runs}
use Rattle.cmd_tree.proofs.Bursts.{count, count_is, count_without, is_in_from_count, count_from_is_in}
use Rattle.cmd_tree.proofs.Phases.{count_other}
use Rattle.process_laws.specs.Steady.{Steady}

-- ---- lists without one of their numbers

not_same : (d : Bool) → d ≡ not d → ⊥
not_same true e = true≢false e
not_same false e = true≢false (sym e)

or_false : (a b : Bool) → (a || b) ≡ false → (a ≡ false) × (b ≡ false)
or_false true b e = absurd (true≢false e)
or_false false b e = (refl, e)

none_in : (a : ℕ) (p : List ℕ) → p ≡ [] → IsTrue (is_in a p) → ⊥
none_in a p e h = true≢false (sym (subst (λ q. IsTrue (is_in a q)) e h))

count_more : (x a : ℕ) (w : List ℕ) → count x w ≤ count x (a ∷ w)
count_more x a w = by (nat_eq x a) (count x w)
  where
    by : (b : Bool) (n : ℕ) → n ≤ (if b then 1 + n else n)
    by true n = omega arith
    by false n = omega arith

count_both : (x a : ℕ) (v w : List ℕ) → count x v ≤ count x w → count x (a ∷ v) ≤ count x (a ∷ w)
count_both x a v w h = by (nat_eq x a) (count x v) (count x w) h
  where
    by : (b : Bool) (m n : ℕ) → m ≤ n → (if b then 1 + m else m) ≤ (if b then 1 + n else n)
    by true m n h = omega arith
    by false m n h = h

without_less : (a x : ℕ) (p : List ℕ) → IsTrue (is_in a p) → count x (without a p) ≤ count x p
without_less a x p h = omega (arith, count_without a x p h, count_more x a (without a p))

without_in : (a x : ℕ) (p : List ℕ) → IsTrue (is_in a p) → IsTrue (is_in x (without a p))
    → IsTrue (is_in x p)
without_in a x p h k = is_in_from_count x p (omega (arith, without_less a x p h, count_from_is_in x (without a p) k))

still_in : (a x : ℕ) (p : List ℕ) → (x ≡ a → ⊥) → IsTrue (is_in a p) → IsTrue (is_in x p)
    → IsTrue (is_in x (without a p))
still_in a x p differ h k = is_in_from_count x (without a p) (omega (arith, count_without a x p h, count_other x a (without a p) differ, count_from_is_in x p k))

without_first : (a x : ℕ) (p : List ℕ) → nat_eq a x ≡ true → without a (x ∷ p) ≡ p
without_first a x p e = ap (λ b. if b then p else x ∷ without a p) e

without_later : (a x : ℕ) (p : List ℕ) → nat_eq a x ≡ false → without a (x ∷ p) ≡ x ∷ without a p
without_later a x p e = ap (λ b. if b then p else x ∷ without a p) e

without_swap : (a b : ℕ) (p : List ℕ) → without a (without b p) ≡ without b (without a p)
without_swap a b [] = refl
without_swap a b (x ∷ p) = by (nat_eq a x) (nat_eq b x) refl refl (without_swap a b p)
  where
    by : (s t : Bool) → nat_eq a x ≡ s → nat_eq b x ≡ t → without a (without b p) ≡ without b (without a p)
        → without a (if t then p else x ∷ without b p) ≡ without b (if s then p else x ∷ without a p)
    by true true s t h = ap (λ y. without y p) (eqb-true a x s ∙ sym (eqb-true b x t))
    by true false s t h = without_first a x (without b p) s
    by false true s t h = sym (without_first b x (without a p) t)
    by false false s t h = without_later a x (without b p) s ∙ ap (λ l. x ∷ l) h ∙ sym (without_later b x (without a p) t)

-- ---- what is known of the burst that comes next

-- `Ahead d r`: the sequence r may be left, and bursts of direction d come next
pub record Fair (body : Option TSeq) (out : ℕ → Bool) (Ahead : Bool → TSeq → Type 0) : Type 0 where
  -- the symbols of a burst have the direction that comes next, and differ
  pub dirs : (d : Bool) (r : TSeq) (ms : List Mark) (q : TSeq) → Ahead d r → Next body r ms q → (a : ℕ)
      → IsTrue (is_in a (symbols ms)) → out a ≡ d
  pub differ : (d : Bool) (r : TSeq) (ms : List Mark) (q : TSeq) → Ahead d r → Next body r ms q → (a : ℕ)
      → count a (symbols ms) ≤ 1
  -- after it comes the other direction
  pub turns : (d : Bool) (r : TSeq) (ms : List Mark) (q : TSeq) → Ahead d r → Next body r ms q
      → Ahead (not d) q
  -- bursts with a common symbol are one, and so are all bursts of outputs
  pub apart : (d : Bool) (r : TSeq) (ms ns : List Mark) (q s : TSeq) → Ahead d r → Next body r ms q
      → Next body r ns s → (a : ℕ) → IsTrue (is_in a (symbols ms)) → IsTrue (is_in a (symbols ns))
      → (ms ≡ ns) × (q ≡ s)
  pub sole : (r : TSeq) (ms ns : List Mark) (q s : TSeq) → Ahead true r → Next body r ms q
      → Next body r ns s → (ms ≡ ns) × (q ≡ s)

abbrev pub left : List ℕ → TSeq → Left
left p r = record { pending = p; rest = r }

module _ (body : Option TSeq) where
  -- a step is by a symbol of the burst under way, or opens a burst
  record Goes (c : Left) (a : ℕ) (m : Left) : Type 0 where
    pub there : IsTrue (is_in a c.pending)
    pub same : m ≡ left (without a c.pending) c.rest

  record Opens (c : Left) (a : ℕ) (m : Left) : Type 0 where
    pub marks : List Mark
    pub later : TSeq
    pub none : c.pending ≡ []
    pub next : Next body c.rest marks later
    pub there : IsTrue (is_in a (symbols marks))
    pub same : m ≡ left (without a (symbols marks)) later

  cases : (c : Left) (a : ℕ) (m : Left) → Step body c a m → Goes c a m ⊎ Opens c a m
  cases _ _ _ (within c a there) = inl (record { there = there; same = refl })
  cases _ _ _ (opens c a ms r none next there) = inr (record { marks = ms; later = r; none = none; next = next; there = there; same = refl })

  runs_front : (t u : List ℕ) (c : Left) → Runs body c (t ++ u) → Runs body c t
  runs_front [] u c r = tt
  runs_front (a ∷ t) u c r = (r.0, r.1, runs_front t u r.0 r.2)

  swap_equal : (c : Left) (a b : ℕ) (u : List ℕ) → a ≡ b → Runs body c (a ∷ b ∷ u) → Runs body c (b ∷ a ∷ u)
  swap_equal c a b u e r = subst (λ y. Runs body c (y ∷ a ∷ u)) e (subst (λ y. Runs body c (a ∷ y ∷ u)) (sym e) r)

  module _ (out : ℕ → Bool) (Ahead : Bool → TSeq → Type 0) (f : Fair body out Ahead) where
    -- the pending symbols have the direction d, and then comes the other
    pub record Good (d : Bool) (c : Left) : Type 0 where
      pub next : Ahead (not d) c.rest
      pub way : (a : ℕ) → IsTrue (is_in a c.pending) → out a ≡ d
      pub few : (a : ℕ) → count a c.pending ≤ 1

    good_goes : (d : Bool) (c : Left) (a : ℕ) → Good d c → IsTrue (is_in a c.pending)
        → Good d (left (without a c.pending) c.rest)
    good_goes d c a g there = record {
      next = g.next;
      way = λ b h. g.way b (without_in a b c.pending there h);
      few = λ b. omega (arith, without_less a b c.pending there, g.few b);
    }

    good_opens : (d : Bool) (c : Left) (a : ℕ) (ms : List Mark) (q : TSeq) → Good d c
        → Next body c.rest ms q → IsTrue (is_in a (symbols ms))
        → Good (not d) (left (without a (symbols ms)) q)
    good_opens d c a ms q g next there = record {
      next = f.turns (not d) c.rest ms q g.next next;
      way = λ b h. f.dirs (not d) c.rest ms q g.next next b (without_in a b (symbols ms) there h);
      few = λ b. omega (arith, without_less a b (symbols ms) there, f.differ (not d) c.rest ms q g.next next b);
    }

    good_step : (d : Bool) (c : Left) (a : ℕ) (m : Left) → Good d c → Step body c a m
        → (e : Bool) × Good e m
    good_step d c a m g s = ⊎_elim
        (λ w. (d, subst (Good d) (sym w.same) (good_goes d c a g w.there)))
        (λ o. (not d, subst (Good (not d)) (sym o.same) (good_opens d c a o.marks o.later g o.next o.there)))
        (cases c a m s)

    same_opens : (d : Bool) (c : Left) (a : ℕ) (m n : Left) → Good d c → Opens c a m → Opens c a n → m ≡ n
    same_opens d c a m n g o p =
        let e = f.apart (not d) c.rest o.marks p.marks o.later p.later g.next o.next p.next a o.there p.there in
        o.same ∙ ap (λ ms. left (without a (symbols ms)) o.later) e.0 ∙ ap (λ q. left (without a (symbols p.marks)) q) e.1 ∙ sym p.same

    same_step : (d : Bool) (c : Left) (a : ℕ) (m n : Left) → Good d c → Step body c a m → Step body c a n
        → m ≡ n
    same_step d c a m n g s t = ⊎_elim
        (λ w. ⊎_elim (λ v. w.same ∙ sym v.same) (λ p. absurd (none_in a c.pending p.none w.there)) (cases c a n t))
        (λ o. ⊎_elim (λ v. absurd (none_in a c.pending o.none v.there)) (λ p. same_opens d c a m n g o p) (cases c a n t))
        (cases c a m s)

    -- after t the machine stands at one state
    record Reached (c : Left) (t : List ℕ) : Type 0 where
      pub way : Bool
      pub at : Left
      pub good : Good way at
      pub there : (v : List ℕ) → Runs body c (t ++ v) → Runs body at v
      pub back : (v : List ℕ) → Runs body at v → Runs body c (t ++ v)

    reach : (t : List ℕ) (d : Bool) (c : Left) → Good d c → (u : List ℕ) → Runs body c (t ++ u)
        → Reached c t
    reach [] d c g u r = record { way = d; at = c; good = g; there = λ v s. s; back = λ v s. s }
    reach (a ∷ t) d c g u r =
        let k = good_step d c a r.0 g r.1 in
        let x = reach t k.0 r.0 k.1 u r.2 in
        record {
          way = x.way;
          at = x.at;
          good = x.good;
          there = λ v s. x.there v (subst (λ m. Runs body m (t ++ v)) (same_step d c a s.0 r.0 g s.1 r.1) s.2);
          back = λ v s. (r.0, r.1, x.back v s);
        }

    -- ---- at one state

    ways_at : (d : Bool) (c : Left) (a b : ℕ) (m n : Left) → Good d c → Step body c a m → Step body c b n
        → out a ≡ out b
    ways_at d c a b m n g s t = ⊎_elim
        (λ w. ⊎_elim (λ v. g.way a w.there ∙ sym (g.way b v.there)) (λ p. absurd (none_in a c.pending p.none w.there)) (cases c b n t))
        (λ o. ⊎_elim
        (λ v. absurd (none_in b c.pending o.none v.there))
        (λ p. f.dirs (not d) c.rest o.marks o.later g.next o.next a o.there ∙ sym (f.dirs (not d) c.rest p.marks p.later g.next p.next b p.there))
        (cases c b n t))
        (cases c a m s)

    -- a stretch of the direction of the burst under way is of its pending symbols
    stretch : (u : List ℕ) (d : Bool) (c : Left) → Good d c → Runs body c u
        → AllByRecursion (λ a. out a ≡ d) u → (a : ℕ) → count a u ≤ count a c.pending
    stretch [] d c g r all a = omega arith
    stretch (x ∷ u) d c g r all a = ⊎_elim
        (λ w.
        let ih : count a u ≤ count a (without x c.pending) = stretch u d (left (without x c.pending) c.rest) (good_goes d c x g w.there) (subst (λ m. Runs body m u) w.same r.2) all.1 a in
        omega (arith, count_without x a c.pending w.there, count_both a x u (without x c.pending) ih))
        (λ o. absurd (not_same d (sym all.0 ∙ f.dirs (not d) c.rest o.marks o.later g.next o.next x o.there)))
        (cases c x r.0 r.1)

    once_at : (u : List ℕ) (d : Bool) (c : Left) (way : Bool) → Good d c → Runs body c u
        → AllByRecursion (λ a. out a ≡ way) u → (a : ℕ) → count a u ≤ 1
    once_at [] d c way g r all a = omega arith
    once_at (x ∷ u) d c way g r all a = ⊎_elim
        (λ w.
        let same : way ≡ d = sym all.0 ∙ g.way x w.there in
        omega (arith, stretch (x ∷ u) d c g r (subst (λ o. AllByRecursion (λ b. out b ≡ o) (x ∷ u)) same all) a, g.few a))
        (λ o.
        let same : way ≡ not d = sym all.0 ∙ f.dirs (not d) c.rest o.marks o.later g.next o.next x o.there in
        let rest : count a u ≤ count a (without x (symbols o.marks)) = stretch u (not d) (left (without x (symbols o.marks)) o.later) (good_opens d c x o.marks o.later g o.next o.there) (subst (λ m. Runs body m u) o.same r.2) (subst (λ w. AllByRecursion (λ b. out b ≡ w) u) same all.1) a in
        omega (arith, count_without x a (symbols o.marks) o.there, count_both a x u (without x (symbols o.marks)) rest, f.differ (not d) c.rest o.marks o.later g.next o.next a))
        (cases c x r.0 r.1)

    -- two symbols of one burst, one after the other
    pair_steps : (p : List ℕ) (q : TSeq) (a b : ℕ) (u : List ℕ) (c n : Left) → (a ≡ b → ⊥)
        → IsTrue (is_in a p) → ((x : ℕ) → IsTrue (is_in x p) → Step body c x (left (without x p) q))
        → Goes (left (without a p) q) b n → Runs body n u → Runs body c (b ∷ a ∷ u)
    pair_steps p q a b u c n differ there step w r =
        let second : IsTrue (is_in b p) = without_in a b p there w.there in
        let again : IsTrue (is_in a (without b p)) = still_in b a p differ second there in
        (left (without b p) q, step b second, (left (without a (without b p)) q, within (left (without b p) q) a again, subst (λ m. Runs body m u) (w.same ∙ ap (λ l. left l q) (without_swap b a p)) r))

    swaps_at : (d : Bool) (c : Left) (a b : ℕ) (u : List ℕ) → Good d c → out a ≡ out b → (a ≡ b → ⊥)
        → Runs body c (a ∷ b ∷ u) → Runs body c (b ∷ a ∷ u)
    swaps_at d c a b u g same differ r = ⊎_elim
        (λ w. ⊎_elim
        (λ v. pair_steps c.pending c.rest a b u c r.2.0 differ w.there (λ x h. within c x h) v r.2.2)
        (λ p. absurd (not_same d (sym (g.way a w.there) ∙ same ∙ f.dirs (not d) c.rest p.marks p.later g.next p.next b p.there)))
        (cases (left (without a c.pending) c.rest) b r.2.0 (subst (λ m. Step body m b r.2.0) w.same r.2.1)))
        (λ o.
        let h : Good (not d) (left (without a (symbols o.marks)) o.later) = good_opens d c a o.marks o.later g o.next o.there in
        ⊎_elim
        (λ v. pair_steps (symbols o.marks) o.later a b u c r.2.0 differ o.there (λ x there. opens c x o.marks o.later o.none o.next there) v r.2.2)
        (λ p. absurd (not_same (not d) (sym (f.dirs (not d) c.rest o.marks o.later g.next o.next a o.there) ∙ same ∙ f.dirs (not (not d)) o.later p.marks p.later h.next p.next b p.there)))
        (cases (left (without a (symbols o.marks)) o.later) b r.2.0 (subst (λ m. Step body m b r.2.0) o.same r.2.1)))
        (cases c a r.0 r.1)

    -- a pending symbol may come after others
    stay_pending : (u : List ℕ) (c : Left) (a : ℕ) → IsTrue (is_in a c.pending) → Runs body c u
        → is_in a u ≡ false → Runs body c (u ++ a ∷ [])
    stay_pending [] c a there r fresh = (left (without a c.pending) c.rest, within c a there, tt)
    stay_pending (x ∷ u) c a there r fresh =
        let parts = or_false (nat_eq a x) (is_in a u) fresh in
        let differ : a ≡ x → ⊥ = λ e. true≢false (sym (eq-eqb a x e) ∙ parts.0) in
        let after : IsTrue (is_in a r.0.pending) = ⊎_elim
        (λ w. subst (λ m. IsTrue (is_in a m.pending)) (sym w.same) (still_in x a c.pending differ w.there there))
        (λ o. absurd (none_in a c.pending o.none there))
        (cases c x r.0 r.1) in
        (r.0, r.1, stay_pending u r.0 a after r.2 parts.1)

    stays_at : (u : List ℕ) (d : Bool) (c : Left) (a : ℕ) → Good d c → out a ≡ true → Runs body c (a ∷ [])
        → Runs body c u → is_in a u ≡ false → Runs body c (u ++ a ∷ [])
    stays_at [] d c a g up s r fresh = s
    stays_at (x ∷ u) d c a g up s r fresh = ⊎_elim
        (λ w. stay_pending (x ∷ u) c a w.there r fresh)
        (λ o. ⊎_elim
        (λ v. absurd (none_in x c.pending o.none v.there))
        (λ p.
        let parts = or_false (nat_eq a x) (is_in a u) fresh in
        let differ : a ≡ x → ⊥ = λ e. true≢false (sym (eq-eqb a x e) ∙ parts.0) in
        let outputs : not d ≡ true = sym (f.dirs (not d) c.rest o.marks o.later g.next o.next a o.there) ∙ up in
        let one = f.sole c.rest o.marks p.marks o.later p.later (subst (λ w. Ahead w c.rest) outputs g.next) o.next p.next in
        let there : IsTrue (is_in a (symbols p.marks)) = subst (λ ms. IsTrue (is_in a (symbols ms))) one.0 o.there in
        (r.0, r.1, stay_pending u r.0 a (subst (λ m. IsTrue (is_in a m.pending)) (sym p.same) (still_in x a (symbols p.marks) differ p.there there)) r.2 parts.1))
        (cases c x r.0 r.1))
        (cases c a s.0 s.1)

    -- ---- so the traces are steady

    steady_swaps : (d : Bool) (c : Left) → Good d c → (t u : List ℕ) (a b : ℕ) → out a ≡ out b
        → Runs body c (t ++ a ∷ b ∷ u) → Runs body c (t ++ b ∷ a ∷ u)
    steady_swaps d c g t u a b same r =
        let x = reach t d c g (a ∷ b ∷ u) r in
        let s : Runs body x.at (a ∷ b ∷ u) = x.there (a ∷ b ∷ u) r in
        x.back (b ∷ a ∷ u) (⊎_elim (λ e. swap_equal x.at a b u e s) (λ n. swaps_at x.way x.at a b u x.good same n s) (cases_eq a b))

    pub fair_steady : (d : Bool) (c : Left) → Good d c → Steady (λ t. Runs body c t) out
    fair_steady d c g = record {
      empty = tt;
      prefix = λ t u r. runs_front t u c r;
      one_way = λ t a b r s.
          let x = reach t d c g (a ∷ []) r in
          let m = x.there (a ∷ []) r in
          let n = x.there (b ∷ []) s in
          ways_at x.way x.at a b m.0 n.0 x.good m.1 n.1;
      once = λ t u way r all a.
          let x = reach t d c g u r in
          omega (arith, count_is a u, once_at u x.way x.at way x.good (x.there u r) all a);
      swaps = λ t u a b same r. steady_swaps d c g t u a b same r;
      stays = λ t u a up r s all fresh.
          let x = reach t d c g u s in
          x.back (u ++ a ∷ []) (stays_at u x.way x.at a x.good up (x.there (a ∷ []) r) (x.there u s) fresh);
    }
