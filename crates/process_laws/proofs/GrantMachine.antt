-- A machine that gives and takes in turn: its traces by counts.
use Rattle.std.proofs.Common.{◌≡◌, ◌⊎◌, inl, inr, ⊎_elim, ℕ, ◌+◌, ◌≤◌, Bool, true, false, true≢false, if◌then◌else◌, List, [], ◌∷◌, ◌++◌, IsTrue, refl, sym, ap, ◌∙◌, subst, arith}
use Rattle.std.proofs.lemmas.List.Recursion.{is_count_by}
use Rattle.cmd_tree.specs.Lists.{is_in}
use Rattle.process_laws.specs.Granting.{times, Granting}
use Rattle.process_laws.specs.Phased.{Phased}

-- how often symbols that pass come in t
abbrev pub passing : (ℕ → Bool) → List ℕ → ℕ
passing f [] = 0
passing f (a ∷ t) = if f a then 1 + passing f t else passing f t

pub times_is : (xs t : List ℕ) → times xs t ≡ passing (λ a. is_in a xs) t
times_is xs t = sym (is_count_by (passing (λ a. is_in a xs)) (λ a. is_in a xs) refl (λ a u. refl) t)

passing_yes : (f : ℕ → Bool) (a : ℕ) (t : List ℕ) → f a ≡ true → passing f (a ∷ t) ≡ 1 + passing f t
passing_yes f a t e = ap (λ b. if b then 1 + passing f t else passing f t) e

passing_not : (f : ℕ → Bool) (a : ℕ) (t : List ℕ) → f a ≡ false → passing f (a ∷ t) ≡ passing f t
passing_not f a t e = ap (λ b. if b then 1 + passing f t else passing f t) e

-- the symbol a is of the list `here` and not of `other`, and what is owed falls from one to none
pub record Lowers (here other : List ℕ) (a m n : ℕ) : Type 0 where
  pub is_here : is_in a here ≡ true
  pub not_other : is_in a other ≡ false
  pub high : m ≡ 1
  pub low : n ≡ 0

module _ (S : Type 0) (go : S → ℕ → S → Type 0) where
  -- the symbols of t lead from s to r
  abbrev pub Via : List ℕ → S → S → Type 0
  Via [] s r = s ≡ r
  Via (a ∷ t) s r = (m : S) × go s a m × Via t m r

  abbrev pub Path : List ℕ → S → Type 0
  Path [] s = Unit {0}
  Path (a ∷ t) s = (m : S) × go s a m × Path t m

  pub path_via : (t : List ℕ) (s : S) → Path t s → (r : S) × Via t s r
  path_via [] s h = (s, refl)
  path_via (a ∷ t) s h = let k = path_via t h.0 h.2 in (k.0, (h.0, h.1, k.1))

  pub path_split : (t u : List ℕ) (s : S) → Path (t ++ u) s → (r : S) × Via t s r × Path u r
  path_split [] u s h = (s, refl, h)
  path_split (a ∷ t) u s h = let k = path_split t u h.0 h.2 in (k.0, (h.0, h.1, k.1), k.2)

  pub path_join : (t u : List ℕ) (s r : S) → Via t s r → Path u r → Path (t ++ u) s
  path_join [] u s r e h = subst (Path u) (sym e) h
  path_join (a ∷ t) u s r v h = (v.0, v.1, path_join t u v.0 r v.2 h)

  pub path_front : (t u : List ℕ) (s : S) → Path (t ++ u) s → Path t s
  path_front [] u s h = tt
  path_front (a ∷ t) u s h = (h.0, h.1, path_front t u h.0 h.2)

  module _ (owed : S → ℕ) (granted asking : List ℕ) where
    -- how many are to be given at a state is 1 or 0; each step gives or takes, and where one is to be given it may be any
    pub record InTurn : Type 0 where
      pub few : (s : S) → owed s ≤ 1
      pub step : (s : S) (a : ℕ) (r : S) → go s a r
          → Lowers granted asking a (owed s) (owed r) ⊎ Lowers asking granted a (owed r) (owed s)
      pub win : (s : S) → owed s ≡ 1 → (p : ℕ) → IsTrue (is_in p granted) → (r : S) × go s p r

    module _ (m : InTurn) where
      via_counts : (t : List ℕ) (s r : S) → Via t s r
          → passing (λ a. is_in a asking) t + owed s ≡ passing (λ a. is_in a granted) t + owed r
      via_counts [] s r e = omega (arith, ap owed e)
      via_counts (a ∷ t) s r v = ⊎_elim
          (λ g. omega (arith, via_counts t v.0 r v.2, passing_yes (λ b. is_in b granted) a t g.is_here, passing_not (λ b. is_in b asking) a t g.not_other, g.high, g.low))
          (λ g. omega (arith, via_counts t v.0 r v.2, passing_yes (λ b. is_in b asking) a t g.is_here, passing_not (λ b. is_in b granted) a t g.not_other, g.high, g.low))
          (m.step s a v.0 v.1)

      pub via_times : (t : List ℕ) (s r : S) → Via t s r
          → times asking t + owed s ≡ times granted t + owed r
      via_times t s r v = omega (arith, via_counts t s r v, times_is asking t, times_is granted t)

      -- a granted symbol comes where one is owed, and an asking one where none is
      pub gives_owed : (s : S) (a : ℕ) (r : S) → go s a r → IsTrue (is_in a granted) → owed s ≡ 1
      gives_owed s a r h there = ⊎_elim (λ g. g.high) (λ g. absurd (true≢false (sym there ∙ g.not_other))) (m.step s a r h)

      pub takes_owed : (s : S) (a : ℕ) (r : S) → go s a r → IsTrue (is_in a asking) → owed s ≡ 0
      takes_owed s a r h there = ⊎_elim (λ g. absurd (true≢false (sym there ∙ g.not_other))) (λ g. g.low) (m.step s a r h)

      pub machine_granting : (s : S) → Granting granted asking (owed s) (λ t. Path t s)
      machine_granting s = record {
        empty = tt;
        prefix = λ t u h. path_front t u s h;
        known = λ t a h.
            let k = path_split t (a ∷ []) s h in
            ⊎_elim (λ g. inl g.is_here) (λ g. inr g.is_here) (m.step k.0 a k.2.0 k.2.1);
        low = λ t h. let k = path_via t s h in omega (arith, via_times t s k.0 k.1);
        high = λ t h. let k = path_via t s h in omega (arith, via_times t s k.0 k.1, m.few k.0);
        gives = λ t p there. (
          λ h.
              let k = path_split t (p ∷ []) s h in
              (path_front t (p ∷ []) s h, omega (arith, via_times t s k.0 k.1, gives_owed k.0 p k.2.0 k.2.1 there)),
          λ h.
              let k = path_via t s h.0 in
              let one : owed k.0 ≡ 1 = omega (arith, via_times t s k.0 k.1, m.few k.0, h.1) in
              let w = m.win k.0 one p there in
              path_join t (p ∷ []) s k.0 k.1 (w.0, w.1, tt),
        );
        takes = λ t a there h.
            let k = path_split t (a ∷ []) s h in
            omega (arith, via_times t s k.0 k.1, takes_owed k.0 a k.2.0 k.2.1 there);
      }

      -- ---- directions

      module _ (out : ℕ → Bool) (outputs : (a : ℕ) → IsTrue (is_in a granted) → out a ≡ true) (inputs : (a : ℕ) → IsTrue (is_in a asking) → out a ≡ false) where
        -- an output comes where one is owed, an input where none is, and then it is the other way round
        way : (s : S) (a : ℕ) (r : S) → go s a r
            → ((out a ≡ true) × (owed s ≡ 1) × (owed r ≡ 0)) ⊎ ((out a ≡ false) × (owed s ≡ 0) × (owed r ≡ 1))
        way s a r h = ⊎_elim (λ g. inl (outputs a g.is_here, g.high, g.low)) (λ g. inr (inputs a g.is_here, g.low, g.high)) (m.step s a r h)

        neighbours : (s : S) (a : ℕ) (r : S) (b : ℕ) (q : S) → go s a r → go r b q → out a ≡ out b → ⊥
        neighbours s a r b q h k e = ⊎_elim
            (λ x. ⊎_elim (λ y. omega (arith, x.2, y.1)) (λ y. true≢false (sym x.0 ∙ e ∙ y.0)) (way r b q k))
            (λ x. ⊎_elim (λ y. true≢false (sym y.0 ∙ sym e ∙ x.0)) (λ y. omega (arith, x.2, y.1)) (way r b q k))
            (way s a r h)

        beside : (s z : S) (a b : ℕ) (r q : S) → owed s ≡ owed z → go s a r → go z b q → out a ≡ out b
        beside s z a b r q e h k = ⊎_elim
            (λ x. ⊎_elim (λ y. x.0 ∙ sym y.0) (λ y. absurd (omega (arith, x.1, y.1, e))) (way z b q k))
            (λ x. ⊎_elim (λ y. absurd (omega (arith, x.1, y.1, e))) (λ y. x.0 ∙ sym y.0) (way z b q k))
            (way s a r h)

        pub machine_phased : (s : S) → Phased ℕ out (λ t. Path t s)
        machine_phased s = record {
          empty = tt;
          prefix = λ t u h. path_front t u s h;
          twice = λ t a h.
              let k = path_split t (a ∷ a ∷ []) s h in
              neighbours k.0 a k.2.0 a k.2.2.0 k.2.1 k.2.2.1 refl;
          swap = λ t u a b same h.
              let k = path_split t (a ∷ b ∷ u) s h in
              absurd (neighbours k.0 a k.2.0 b k.2.2.0 k.2.1 k.2.2.1 same);
          one = λ t a b h i.
              let k = path_split t (a ∷ []) s h in
              let l = path_split t (b ∷ []) s i in
              beside k.0 l.0 a b k.2.0 l.2.0 (omega (arith, via_times t s k.0 k.1, via_times t s l.0 l.1)) k.2.1 l.2.1;
        }
