-- The web of rounds is exact: an output that the environment may be shown is pulled through, back from where it lags.
use Rattle.std.specs.Prelude.{nat_eq}
use Rattle.std.proofs.Common.{◌≡◌, ℕ, suc, ◌+◌, ◌/◌, ◌<◌, ◌≤◌, Bool, true, false, List, [], ◌∷◌, ◌++◌, inl, inr, refl, sym, ap, subst, ◌∙◌, arith}
use Rattle.std.proofs.Math.Path.{fun_ext}
use Rattle.std.proofs.lemmas.Bool.{cases_lt}
use Rattle.cmd_tree.specs.Rounds.{tally, naught}
use Rattle.net_laws.proofs.Webs.{WebExact}
use Rattle.net_laws.proofs.Told.{Flows, Went, Leads, pulls, ends, sent, got, web_exact}
use Rattle.net_laws.proofs.Woven.{Grew, grew_same, grew_le, grew_other, grew_unique, sent_grew, got_grew, got_same, sent_same}
use Rattle.plain_split.specs.RoundsNet.{Path, Top, Odd, Even, depth, share, Wire, Sym, To, Go, Put, Out, Name, Env}
use Rattle.plain_split.proofs.RoundsPlan.{Plan, sum_over, Story, allowed, Stories, Sane}
use Rattle.plain_split.proofs.RoundsWeb.{same_wire, driver, receiver, below, There, Rule, web, lawful, sum_le, sum_gap, sum_one, Guard, fires}
use Rattle.plain_split.proofs.RoundsSound.{Inv, high, least, near, Told, reads, tends}

module _ (g : Plan) (sane : Sane g) (Tell : List ℕ → Type 0) (st : Stories g Tell) where
  abbrev None : (Name → List Wire) → Type 0
  None t = Unit {0}

  sent_went : (t : Name → List Wire) (w : Wire) (u : Name → List Wire) → Went Name Wire (web g) t w u → Grew (sent (web g) t) w (sent (web g) u)
  sent_went t w u m = subst (λ z. Grew (sent (web g) t) w z) (sym (fun_ext (sent_same Name Wire (web g) (lawful g) m.0 w u m.2))) (sent_grew Name Wire (web g) (lawful g) t w m.0 m.1)

  got_went : (t : Name → List Wire) (w : Wire) (u : Name → List Wire) → Went Name Wire (web g) t w u → Grew (got (web g) t) w (got (web g) u)
  got_went t w u m = subst (λ z. Grew z w (got (web g) u)) (fun_ext (got_same Name Wire (web g) (lawful g) t w m.0 m.1)) (got_grew Name Wire (web g) (lawful g) m.0 w u m.2)

  module _ (a : ℕ) where
    -- where each wire came x times, inner wires lead to the output a
    abbrev Serve : (Wire → ℕ) → Type 0
    Serve x = (t : Name → List Wire) → sent (web g) t ≡ x → got (web g) t ≡ x → Leads Name Wire (web g) (Told g sane Tell st) None (Out a) t

    allow : (x : Wire → ℕ) (w : Wire) → There g w → Guard g x x w → (t : Name → List Wire) → sent (web g) t ≡ x → got (web g) t ≡ x → Rule g (driver w) (t (driver w)) w
    allow x w there h t e i = (
      there,
      inl (
        refl,
        fires g sane (sent (web g) t) (got (web g) t) (tally same_wire naught (t (driver w))) (t (driver w)) w there (reads g sane Tell st t (driver w))
            (subst (λ F. Guard g F (got (web g) t) w) (sym e) (subst (λ P. Guard g x P w) (sym i) h)),
      ),
    )

    pull : (x : Wire → ℕ) (w : Wire) → There g w → (driver w ≡ Env → ⊥) → (receiver g w ≡ Env → ⊥) → Guard g x x w
        → ((y : Wire → ℕ) → Grew x w y → Serve y) → Serve x
    pull x w there o i h k t e f = pulls w o i (allow x w there h t e f) (λ u m inv.
        let grew : Grew x w (sent (web g) u) = subst (λ z. Grew z w (sent (web g) u)) e (sent_went t w u m) in
        let also : Grew x w (got (web g) u) = subst (λ z. Grew z w (got (web g) u)) f (got_went t w u m) in
        k (sent (web g) u) grew u refl (fun_ext (grew_unique x w (got (web g) u) (sent (web g) u) also grew)))

    last : (x : Wire → ℕ) → There g (Out a) → x (Out a) < sum_over g a (λ y. x (Put y a)) → Serve x
    last x there less t e f = ends (inr refl) (allow x (Out a) there less t e f) (λ u m i. tt)

    module _ (y : ℕ) (low : y < g.acts) (gives : g.gives y a ≡ true) where
      put : (x : Wire → ℕ) → x (Out a) ≤ sum_over g a (λ z. x (Put z a)) → x (Put y a) < x (Go y) → Serve x
      put x le less = pull x (Put y a) (low, gives) (λ e. cc) (λ e. cc) less (λ v k. last v (y, low, gives)
          (omega (
            arith,
            le,
            grew_other x (Put y a) v k (Out a) (λ e. cc),
            sum_one g a (λ z. x (Put z a)) (λ z. v (Put z a)) y low gives (grew_same x (Put y a) v k (Put y a) refl) (λ z less i ne. grew_other x (Put y a) v k (Put z a) (λ e. ne (cc))),
          )))

      go : (x : Wire → ℕ) → x (Out a) ≤ sum_over g a (λ z. x (Put z a)) → x (Put y a) ≤ x (Go y) → x (Go y) < g.opened y + x (To (g.entry y)) → Serve x
      go x le under less = pull x (Go y) low (λ e. cc) (λ e. cc) less (λ v k. put v
          (omega (arith, le, grew_other x (Go y) v k (Out a) (λ e. cc), sum_le g a (λ z. x (Put z a)) (λ z. v (Put z a)) (λ z less i. grew_le x (Go y) v k (Put z a))))
          (omega (arith, under, grew_other x (Go y) v k (Put y a) (λ e. cc), grew_same x (Go y) v k (Go y) refl)))

    inner : (p : Path) → receiver g (To p) ≡ Env → ⊥
    inner p = at (nat_eq (depth p) g.levels)
      where
        at : (b : Bool) → below g b p ≡ Env → ⊥
        at true e = cc
        at false e = cc

    module _ (s : Story g) (x : Wire → ℕ) (v : Inv g sane s x x) where
      flows : Flows x x
      flows w = inl refl

      -- a place that lacks a burst is given it by its TOGGLE, which is given it before where it lacks it too
      abbrev Raised : Path → (Wire → ℕ) → Type 0
      Raised p z = (z (To p) ≡ suc (x (To p))) × ((w : Wire) → ((q : Path) → w ≡ To q → depth p < depth q) → z w ≡ x w)

      later : (p q r : Path) → depth p < depth q → To q ≡ To r → depth p < depth r
      later p q r less e = let i : q ≡ r = cc in omega (arith, ap depth i)

      next : (p q : Path) (z u : Wire → ℕ) → depth p < depth q → z (To q) ≡ x (To q) → ((w : Wire) → ((r : Path) → w ≡ To r → depth p < depth r) → z w ≡ x w)
          → Grew z (To q) u → Raised q u
      next p q z u less here same k = (
        grew_same z (To q) u k (To q) refl ∙ ap suc here,
        λ w c. grew_other z (To q) u k w (λ e. let i = c q e in omega arith) ∙ same w (λ r e. let i = c r e in omega arith),
      )

      raise : (p : Path) → depth p ≤ g.levels → x (To p) < share p s.bursts → ((z : Wire → ℕ) → Raised p z → Serve z) → Serve x
      raise Top deep less k = pull x (To Top) deep (λ e. cc) (inner Top) (λ b i. omega (arith, v.tie_in b i)) (λ z i. k z (
        grew_same x (To Top) z i (To Top) refl,
        λ w c. grew_other x (To Top) z i w (λ e. let j = c Top e in omega arith),
      ))
      raise (Odd p) deep less k = elim (cases_lt (x (To p)) (share p s.bursts)) [
        | inl lack ↦ raise p (omega arith) lack (λ z r.
            let odd : z (To (Odd p)) ≡ x (To (Odd p)) = r.1 (To (Odd p)) (λ q e. later p (Odd p) q (omega arith) e) in
            let even : z (To (Even p)) ≡ x (To (Even p)) = r.1 (To (Even p)) (λ q e. later p (Even p) q (omega arith) e) in
            pull z (To (Odd p)) deep (λ e. cc) (inner (Odd p)) (omega (arith, r.0, facts), omega (arith, r.0, facts)) (λ u i. k u (next p (Odd p) z u (omega arith) odd r.1 i)))
        | inr full ↦ pull x (To (Odd p)) deep (λ e. cc) (inner (Odd p)) (omega (arith, facts), omega (arith, facts)) (λ u i. k u (next p (Odd p) x u (omega arith) refl (λ w c. refl) i))
      ]
        where
          facts : (x (To (Odd p)) + x (To (Odd p)) ≤ suc (x (To p))) × (x (To (Even p)) + x (To (Even p)) ≤ x (To p)) × (x (To p) ≤ share p s.bursts)
              × ((share p s.answered + 1) / 2 ≤ x (To (Odd p))) × (share p s.answered / 2 ≤ x (To (Even p)))
              × (share p s.answered ≤ share p s.bursts) × (share p s.bursts ≤ suc (share p s.answered)) × (share p s.answered ≤ x (To p))
          facts = (
            v.odd p (omega arith),
            v.even p (omega arith),
            high g sane s x x flows v p (omega arith),
            least g sane s x x flows v (Odd p) deep,
            least g sane s x x flows v (Even p) deep,
            (near g sane s x x flows v p).0,
            (near g sane s x x flows v p).1,
            least g sane s x x flows v p (omega arith),
          )
      raise (Even p) deep less k = elim (cases_lt (x (To p)) (share p s.bursts)) [
        | inl lack ↦ raise p (omega arith) lack (λ z r.
            let odd : z (To (Odd p)) ≡ x (To (Odd p)) = r.1 (To (Odd p)) (λ q e. later p (Odd p) q (omega arith) e) in
            let even : z (To (Even p)) ≡ x (To (Even p)) = r.1 (To (Even p)) (λ q e. later p (Even p) q (omega arith) e) in
            pull z (To (Even p)) deep (λ e. cc) (inner (Even p)) (omega (arith, r.0, facts), omega (arith, r.0, facts)) (λ u i. k u (next p (Even p) z u (omega arith) even r.1 i)))
        | inr full ↦ pull x (To (Even p)) deep (λ e. cc) (inner (Even p)) (omega (arith, facts), omega (arith, facts)) (λ u i. k u (next p (Even p) x u (omega arith) refl (λ w c. refl) i))
      ]
        where
          facts : (x (To (Odd p)) + x (To (Odd p)) ≤ suc (x (To p))) × (x (To (Even p)) + x (To (Even p)) ≤ x (To p)) × (x (To p) ≤ share p s.bursts)
              × ((share p s.answered + 1) / 2 ≤ x (To (Odd p))) × (share p s.answered / 2 ≤ x (To (Even p)))
              × (share p s.answered ≤ share p s.bursts) × (share p s.bursts ≤ suc (share p s.answered)) × (share p s.answered ≤ x (To p))
          facts = (
            v.odd p (omega arith),
            v.even p (omega arith),
            high g sane s x x flows v p (omega arith),
            least g sane s x x flows v (Odd p) deep,
            least g sane s x x flows v (Even p) deep,
            (near g sane s x x flows v p).0,
            (near g sane s x x flows v p).1,
            least g sane s x x flows v p (omega arith),
          )

      serve : (y : ℕ) → y < g.acts → g.gives y a ≡ true → s.shown y a < allowed g s y → Serve x
      serve y low gives less = elim (cases_lt (x (Out a)) (sum_over g a (λ z. x (Put z a)))) [
        | inl shows ↦ last x (y, low, gives) shows
        | inr none ↦
            let here : x (Put y a) ≤ s.shown y a =
            omega (arith, v.tie_out y a low gives, sum_gap g a (λ z. s.shown z a) (λ z. x (Put z a)) (λ z i j. v.told z a i j) y low gives) in
            elim (cases_lt (x (Put y a)) (x (Go y))) [
              | inl puts ↦ put y low gives x (v.shown a) puts
              | inr held ↦ elim (cases_lt (x (Go y)) (g.opened y + x (To (g.entry y)))) [
                | inl goes ↦ go y low gives x (v.shown a) (v.put y a low gives) goes
                | inr stays ↦
                    let deep : depth (g.entry y) ≡ g.levels = sane.entry_deep y low in
                    raise (g.entry y) (omega arith) (omega (arith, here, held, stays, less)) (λ z r.
                    let out : z (Out a) ≡ x (Out a) = r.1 (Out a) (λ q e. absurd (cc)) in
                    let puts : (i : ℕ) → z (Put i a) ≡ x (Put i a) = λ i. r.1 (Put i a) (λ q e. absurd (cc)) in
                    let begun : z (Go y) ≡ x (Go y) = r.1 (Go y) (λ q e. absurd (cc)) in
                    go y low gives z
                    (omega (arith, v.shown a, sum_le g a (λ i. x (Put i a)) (λ i. z (Put i a)) (λ i j l. omega (arith, puts i))))
                    (omega (arith, puts y, v.put y a low gives))
                    (omega (arith, r.0, v.go y low)))
              ]
            ]
      ]

  leads : (t : Name → List Wire) (q : Wire) → Told g sane Tell st t → None t → ((w : Wire) → sent (web g) t w ≡ got (web g) t w) → Rule g Env (t Env) q
      → Leads Name Wire (web g) (Told g sane Tell st) None q t
  leads t (Sym a) i j e r = ends (inl refl) r (λ u m k. tt)
  leads t (Out a) i j e (x, inl r) = absurd (cc (r.0))
  leads t (Out a) i j e (x, inr r) =
      let (v, k) = st.gave i.past a i.tell r.1.0 (subst (λ z. g.traces (z ++ a ∷ [])) i.is r.1.1) in
      let same : got (web g) t ≡ sent (web g) t = sym (fun_ext e) in
      serve a (st.story i.past i.tell) (sent (web g) t) (subst (λ p. Inv g sane (st.story i.past i.tell) (sent (web g) t) p) same i.inv) k.act k.low k.gives k.before t refl same
  leads t (To Top) i j e (x, inl r) = absurd (cc (r.0))
  leads t (To (Odd p)) i j e (x, inl r) = absurd (cc (r.0))
  leads t (To (Even p)) i j e (x, inl r) = absurd (cc (r.0))
  leads t (To p) i j e (x, inr r) = absurd (inner 0 p r.0)
  leads t (Go y) i j e (x, inl r) = absurd (cc (r.0))
  leads t (Go y) i j e (x, inr r) = absurd (cc (r.0))
  leads t (Put y a) i j e (x, inl r) = absurd (cc (r.0))
  leads t (Put y a) i j e (x, inr r) = absurd (cc (r.0))

  pub exact : WebExact (web g)
  exact = web_exact Name Wire (web g) (There g) (Told g sane Tell st) None (lawful g) (tends g sane Tell st) tt leads
