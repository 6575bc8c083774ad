-- The nodes of the network of rounds do what their kinds say.
use Rattle.std.specs.Prelude.{if◌then◌else◌, ◌&&◌, nat_eq}
use Rattle.std.proofs.Common.{eq-eqb, ne_eqb, eqb-true, ◌≡◌, ◌↔◌, ℕ, zero, suc, ◌+◌, ◌-◌, ◌<◌, ◌≤◌, Bool, true, false, true≢false, List, [], ◌∷◌, ◌++◌, map, length, get_or, ◌⊎◌, inl, inr, refl, sym, ap, subst, ◌∙◌, arith, append_assoc, length-append}
use Rattle.std.specs.List.{range_with_len}
use Rattle.std.proofs.lemmas.Bool.{cases_lt}
use Rattle.std.proofs.lemmas.List.{append-nil, length-map, get_or-map, get_or_past, get_or_append_left, get_or-append_right}
use Rattle.std.proofs.lemmas.List.FromFn.{length-map-range_with_len, get_or-map-range_with_len}
use Rattle.cmd_tree.specs.Lists.{is_in}
use Rattle.cmd_tree.specs.Rounds.{tally, naught, Follows, Rounds}
use Rattle.cmd_tree.proofs.RoundsRule.{tally_end}
use Rattle.cmd_tree.proofs.RoundsPorts.{rounds_ports}
use Rattle.basic_kinds.specs.Totals.{total}
use Rattle.basic_kinds.specs.declared.kind.Kind.TheVariants as kind
use Rattle.basic_kinds.specs.KindCounts.{KindAt}
use Rattle.net_core.specs.declared.spec.NodeSpec.TheVariants.{Kind as Basic}
use Rattle.net_core.specs.Specs.{May}
use Rattle.net_laws.proofs.Webs as webs
use Rattle.net_laws.proofs.Told.{grown_cases}
use Rattle.net_laws.proofs.Among.{Among, Distinct, all_among, among_at, at_among}
use Rattle.net_laws.proofs.Rows.{among_left, among_right, among_either, distinct_both}
use Rattle.net_laws.proofs.Rules.{RoundsOn, rounds_spec}
use Rattle.net_laws.proofs.KindRules.{KindOn, kind_spec}
use Rattle.plain_split.specs.RoundsNet.{Path, Top, Odd, Even, depth, pow, Wire, Sym, To, Go, Put, Out, Name, Env, Join, Tog, Gate, Spread, Shows}
use Rattle.plain_split.specs.RoundsChart.{Parts, entry, act_at, givers, begins_process, count, is_out, outer, outer_ports}
use Rattle.plain_split.proofs.RoundsPlan.{sum_over, Sane}
use Rattle.plain_split.proofs.RoundsWeb.{same_wire, wires_decide, word, word_sym, word_out, receiver, below, to_gate, to_tog, takes_to, Rule, web}
use Rattle.plain_split.proofs.RoundsRing.{opened_by}
use Rattle.plain_split.proofs.RoundsLists.{all_of, map_among, among_map, distinct_map, distinct_filter, along_total, along_passed}
use Rattle.plain_split.proofs.RoundsRoutes.{Fine, plan_of, in_among, among_in, givers_in, in_givers}
use Rattle.plain_split.proofs.RoundsLines.{range_once}

module _ {W : Type 0} (A B : List W → W → Type 0) (I : List W → Type 0) (same : (u : List W) (w : W) → I u → A u w ↔ B u w)
    (step : (u : List W) (w : W) → I u → A u w → I (u ++ w ∷ [])) where
  follows_there : (u t : List W) → I u → Follows A u t → Follows B u t
  follows_there u [] i f = tt
  follows_there u (w ∷ t) i f = ((same u w i).0 f.0, follows_there (u ++ w ∷ []) t (step u w i f.0) f.1)

  follows_back : (u t : List W) → I u → Follows B u t → Follows A u t
  follows_back u [] i f = tt
  follows_back u (w ∷ t) i f = let a : A u w = (same u w i).1 f.0 in (a, follows_back (u ++ w ∷ []) t (step u w i a) f.1)

  -- two rules that agree where an invariant holds have the same traces
  pub follows_both : (u t : List W) → I u → Follows A u t ↔ Follows B u t
  follows_both u t i = ((λ f. follows_there u t i f), (λ f. follows_back u t i f))

module _ (r : Parts) (T : List ℕ → Type 0) (fine : Fine r T) (sane : Sane (plan_of r T)) where
  abbrev pub nothing : Wire
  nothing = Go (pow r.levels)

  abbrev R : Name → List Wire → Wire → Type 0
  R n t w = Rule (plan_of r T) n t w

  abbrev c : List Wire → Wire → ℕ
  c t w = tally same_wire naught t w

  below_tog : (b : Bool) (p q : Path) → below (plan_of r T) b p ≡ Tog q → (b ≡ false) × (p ≡ q)
  below_tog true p q e = absurd (cc)
  below_tog false p q e = (refl, cc)

  below_gate : (b : Bool) (p : Path) (y : ℕ) → below (plan_of r T) b p ≡ Gate y → (b ≡ true) × (act_at r p ≡ y)
  below_gate true p y e = (refl, cc)
  below_gate false p y e = absurd (cc)

  below_else : (b : Bool) (p : Path) (n : Name) → ((q : Path) → n ≡ Tog q → ⊥) → ((y : ℕ) → n ≡ Gate y → ⊥) → below (plan_of r T) b p ≡ n → ⊥
  below_else true p n f h e = h (act_at r p) (sym e)
  below_else false p n f h e = f p (sym e)

  -- a node whose rule is that of rounds
  by_rounds : (n : Name) (ins outs : List Wire) → Distinct (ins ++ outs) → (Among nothing (ins ++ outs) → ⊥) → ((u : List Wire) (w : Wire) → R n u w ↔ RoundsOn ins outs (c u) w)
      → (t : List ℕ) → Rounds (length ins) (length outs) t ↔ webs.May (web (plan_of r T)) n (map (λ p. get_or (ins ++ outs) p nothing) t)
  by_rounds n ins outs once away on t =
      let both = rounds_spec same_wire wires_decide ins outs nothing (length ins) (length outs) refl refl once (RoundsOn ins outs) never (λ e w. ((λ z. z), (λ z. z))) t in
      let also = follows_both (R n) (λ u w. RoundsOn ins outs (c u) w) (λ u. Unit {0}) (λ u w i. on u w) (λ u w i a. tt) [] (map (λ p. get_or (ins ++ outs) p nothing) t) tt in
      ((λ x. also.1 (both.0 x)), (λ x. both.1 (also.0 x)))
    where
      never : (e : Wire → ℕ) → RoundsOn ins outs e nothing → ⊥
      never e (inl (a, f)) = away (among_left nothing ins outs a)
      never e (inr (a, f)) = away (among_right nothing ins outs a)

  -- ---- the C of the burst

  abbrev join_ins : List Wire
  join_ins = map Sym r.burst

  join_in : (w : Wire) → Among w (map Sym r.burst) → (a : ℕ) × Among a r.burst × (w ≡ Sym a)
  join_in w h = map_among Sym r.burst w h

  pub join_once : Distinct (map Sym r.burst ++ To Top ∷ [])
  join_once = distinct_both (map Sym r.burst) (To Top ∷ []) (distinct_map Sym r.burst (λ a b i j e. cc) fine.burst_once) ((λ z. z), tt)
      (λ x a b. let (s, i, e) = join_in x a in elim b [ inl f ↦ let z : Sym s ≡ To Top = sym e ∙ f in absurd (cc (z)) | inr f ↦ f ])

  join_away : Among nothing (map Sym r.burst ++ To Top ∷ []) → ⊥
  join_away h = elim (among_either nothing (map Sym r.burst) (To Top ∷ []) h) [
    | inl a ↦ let (s, i, e) = join_in nothing a in absurd (cc (e))
    | inr b ↦ elim b [ inl f ↦ absurd (cc (f)) | inr f ↦ f ]
  ]

  join_on : (u : List Wire) (w : Wire) → R Join u w ↔ RoundsOn (map Sym r.burst) (To Top ∷ []) (c u) w
  join_on u w = (there w, back w)
    where
      there : (w : Wire) → R Join u w → RoundsOn (map Sym r.burst) (To Top ∷ []) (c u) w
      there (Sym a) (h, inl e) = absurd (cc (e.0))
      there (Sym a) (h, inr e) = inl (among_map Sym r.burst a (in_among a r.burst h), (e.1, tt))
      there (To Top) (h, inl e) = inr (
        inl refl,
        all_of (λ i. c u (To Top) < c u i) (map Sym r.burst) (λ x a.
            let (b, i, z) = join_in x a in subst (λ (v : Wire). c u (To Top) < c u v) (sym z) (e.1 b (among_in b r.burst i))),
      )
      there (To (Odd p)) (h, inl e) = absurd (cc (e.0))
      there (To (Even p)) (h, inl e) = absurd (cc (e.0))
      there (To p) (h, inr e) = absurd (below_else (nat_eq (depth p) r.levels) p Join (λ q z. cc) (λ y z. cc) e.0)
      there (Go y) (h, inl e) = absurd (cc (e.0))
      there (Go y) (h, inr e) = absurd (cc (e.0))
      there (Put y a) (h, inl e) = absurd (cc (e.0))
      there (Put y a) (h, inr e) = absurd (cc (e.0))
      there (Out a) (h, inl e) = absurd (cc (e.0))
      there (Out a) (h, inr e) = absurd (cc (e.0))

      back : (w : Wire) → RoundsOn (map Sym r.burst) (To Top ∷ []) (c u) w → R Join u w
      back w (inl (a, f)) = let (b, i, z) = join_in w a in subst (λ (v : Wire). R Join u v) (sym z) (among_in b r.burst i, inr (refl, ap (c u) (sym z) ∙ f.0))
      back w (inr (inl e, f)) = subst (λ (v : Wire). R Join u v) (sym e) (
        omega arith,
        inl (
          refl,
          λ a takes.
              let z = all_among (λ i. c u w < c u i) (map Sym r.burst) f (Sym a) (among_map Sym r.burst a (in_among a r.burst takes)) in omega (arith, ap (c u) e),
        ),
      )
      back w (inr (inr e, f)) = absurd e

  pub join_may : 2 ≤ length r.burst → (t : List ℕ) → May (Basic (kind.C (length r.burst))) t ↔ webs.May (web (plan_of r T)) Join (map (λ p. get_or (map Sym r.burst ++ To Top ∷ []) p nothing) t)
  unfolding May
  join_may many t =
      let both = by_rounds Join (map Sym r.burst) (To Top ∷ []) join_once join_away join_on t in
      let ports = rounds_ports (length r.burst) 1 (omega arith) (omega arith) t in
      let long : length (map Sym r.burst) ≡ length r.burst = length-map r.burst Sym in
      ((λ x. both.0 (subst (λ n. Rounds n 1 t) (sym long) (ports.0 x))), (λ x. ports.1 (subst (λ n. Rounds n 1 t) long (both.1 x))))

  -- ---- the FORK of an act

  module _ (y : ℕ) (low : y < pow r.levels) where
    put_in : (w : Wire) → Among w (map (Put y) (r.outs y)) → (a : ℕ) × Among a (r.outs y) × (w ≡ Put y a)
    put_in w h = map_among (Put y) (r.outs y) w h

    pub spread_once : Distinct (Go y ∷ map (Put y) (r.outs y))
    spread_once = (
      (λ h. let (a, i, e) = put_in (Go y) h in absurd (cc (e))),
      distinct_map (Put y) (r.outs y) (λ a b i j e. cc) (fine.outs_once y low),
    )

    spread_away : Among nothing (Go y ∷ map (Put y) (r.outs y)) → ⊥
    spread_away (inl e) = let z : pow r.levels ≡ y = cc in omega arith
    spread_away (inr h) = let (a, i, e) = put_in nothing h in absurd (cc (e))

    spread_on : (u : List Wire) (w : Wire) → R (Spread y) u w ↔ RoundsOn (Go y ∷ []) (map (Put y) (r.outs y)) (c u) w
    spread_on u w = (there w, back w)
      where
        there : (w : Wire) → R (Spread y) u w → RoundsOn (Go y ∷ []) (map (Put y) (r.outs y)) (c u) w
        there (Sym a) (h, inl e) = absurd (cc (e.0))
        there (Sym a) (h, inr e) = absurd (cc (e.0))
        there (To Top) (h, inl e) = absurd (cc (e.0))
        there (To (Odd p)) (h, inl e) = absurd (cc (e.0))
        there (To (Even p)) (h, inl e) = absurd (cc (e.0))
        there (To p) (h, inr e) = absurd (below_else (nat_eq (depth p) r.levels) p (Spread y) (λ q z. cc) (λ y z. cc) e.0)
        there (Go z) (h, inl e) = absurd (cc (e.0))
        there (Go z) (h, inr e) =
            let is : z ≡ y = cc (e.0) in
            inl (
              inl (ap Go is),
              all_of (λ o. c u (Go z) ≡ c u o) (map (Put y) (r.outs y)) (λ x a.
                  let (b, i, f) = put_in x a in
                  let gives : is_in b (r.outs z) ≡ true = subst (λ (v : ℕ). is_in b (r.outs v) ≡ true) (sym is) (among_in b (r.outs y) i) in
                  e.1 b gives ∙ ap (λ v. c u (Put v b)) is ∙ ap (c u) (sym f)),
            )
        there (Put z a) (h, inl e) =
            let is : z ≡ y = cc (e.0) in
            inr (
              subst (λ (v : ℕ). Among (Put v a) (map (Put y) (r.outs y))) (sym is) (among_map (Put y) (r.outs y) a (in_among a (r.outs y) (subst (λ (v : ℕ). is_in a (r.outs v) ≡ true) is h.1))),
              (omega (arith, e.1, ap (λ v. c u (Go v)) is), tt),
            )
        there (Put z a) (h, inr e) = absurd (cc (e.0))
        there (Out a) (h, inl e) = absurd (cc (e.0))
        there (Out a) (h, inr e) = absurd (cc (e.0))

        back : (w : Wire) → RoundsOn (Go y ∷ []) (map (Put y) (r.outs y)) (c u) w → R (Spread y) u w
        back w (inl (inl e, f)) = subst (λ (v : Wire). R (Spread y) u v) (sym e) (
          low,
          inr (
            refl,
            λ a gives.
                ap (c u) (sym e) ∙ all_among (λ o. c u w ≡ c u o) (map (Put y) (r.outs y)) f (Put y a) (among_map (Put y) (r.outs y) a (in_among a (r.outs y) gives)),
          ),
        )
        back w (inl (inr e, f)) = absurd e
        back w (inr (a, f)) =
            let (b, i, z) = put_in w a in
            subst (λ (v : Wire). R (Spread y) u v) (sym z) ((low, among_in b (r.outs y) i), inl (refl, omega (arith, f.0, ap (c u) z)))

    pub spread_may : 2 ≤ length (r.outs y) → (t : List ℕ)
        → May (Basic (kind.Fork (length (r.outs y)))) t ↔ webs.May (web (plan_of r T)) (Spread y) (map (λ p. get_or (Go y ∷ map (Put y) (r.outs y)) p nothing) t)
    unfolding May
    spread_may many t =
        let both = by_rounds (Spread y) (Go y ∷ []) (map (Put y) (r.outs y)) spread_once spread_away spread_on t in
        let ports = rounds_ports 1 (length (r.outs y)) (omega arith) (omega arith) t in
        let long : length (map (Put y) (r.outs y)) ≡ length (r.outs y) = length-map (r.outs y) (Put y) in
        ((λ x. both.0 (subst (λ n. Rounds 1 n t) (sym long) (ports.0 x))), (λ x. ports.1 (subst (λ n. Rounds 1 n t) long (both.1 x))))

  -- ---- a TOGGLE

  module _ (p : Path) (low : depth p < r.levels) where
    abbrev tog_ports : List Wire
    tog_ports = To p ∷ To (Odd p) ∷ To (Even p) ∷ []

    to_one : (q s : Path) → To q ≡ To s → q ≡ s
    to_one q s e = cc

    pub tog_once : Distinct (To p ∷ To (Odd p) ∷ To (Even p) ∷ [])
    tog_once = (head, ((λ h. elim h [ inl e ↦ let z : Odd p ≡ Even p = to_one (Odd p) (Even p) e in absurd (cc (z)) | inr e ↦ e ]), ((λ z. z), tt)))
      where
        head : Among (To p) (To (Odd p) ∷ To (Even p) ∷ []) → ⊥
        head (inl e) = omega (arith, ap depth (to_one p (Odd p) e))
        head (inr (inl e)) = omega (arith, ap depth (to_one p (Even p) e))
        head (inr (inr e)) = e

    tog_away : Among nothing (To p ∷ To (Odd p) ∷ To (Even p) ∷ []) → ⊥
    tog_away (inl e) = absurd (cc (e))
    tog_away (inr (inl e)) = absurd (cc (e))
    tog_away (inr (inr (inl e))) = absurd (cc (e))
    tog_away (inr (inr (inr e))) = e

    tog_on : (u : List Wire) (w : Wire) → R (Tog p) u w ↔ KindOn kind.Toggle (To p ∷ To (Odd p) ∷ To (Even p) ∷ []) nothing (c u) w
    tog_on u w = (there w, back w)
      where
        there : (w : Wire) → R (Tog p) u w → KindOn kind.Toggle (To p ∷ To (Odd p) ∷ To (Even p) ∷ []) nothing (c u) w
        there (Sym a) (h, inl e) = absurd (cc (e.0))
        there (Sym a) (h, inr e) = absurd (cc (e.0))
        there (To Top) (h, inl e) = absurd (cc (e.0))
        there (To (Odd q)) (h, inl e) =
            let is : q ≡ p = cc (e.0) in
            let odd : c u (To (Odd q)) ≡ c u (To (Odd p)) = ap (λ x. c u (To (Odd x))) is in
            let even : c u (To (Even q)) ≡ c u (To (Even p)) = ap (λ x. c u (To (Even x))) is in
            let here : c u (To q) ≡ c u (To p) = ap (λ x. c u (To x)) is in
            let (a, b) = e.1 in
            (1, omega arith, ap (λ x. To (Odd x)) is, inr (inl (refl, omega arith, omega arith)))
        there (To (Even q)) (h, inl e) =
            let is : q ≡ p = cc (e.0) in
            let odd : c u (To (Odd q)) ≡ c u (To (Odd p)) = ap (λ x. c u (To (Odd x))) is in
            let even : c u (To (Even q)) ≡ c u (To (Even p)) = ap (λ x. c u (To (Even x))) is in
            let here : c u (To q) ≡ c u (To p) = ap (λ x. c u (To x)) is in
            let (a, b) = e.1 in
            (2, omega arith, ap (λ x. To (Even x)) is, inr (inr (refl, omega arith, omega arith)))
        there (To q) (h, inr e) =
            let (inner, is) = below_tog (nat_eq (depth q) r.levels) q p e.0 in
            let z : c u (To q) ≡ c u (To (Odd q)) + c u (To (Even q)) = subst (λ b. takes_to (plan_of r T) b (c u) q) inner e.1 in
            let odd : c u (To (Odd q)) ≡ c u (To (Odd p)) = ap (λ x. c u (To (Odd x))) is in
            let even : c u (To (Even q)) ≡ c u (To (Even p)) = ap (λ x. c u (To (Even x))) is in
            let here : c u (To q) ≡ c u (To p) = ap (λ x. c u (To x)) is in
            (0, omega arith, ap To is, inl (refl, omega arith))
        there (Go y) (h, inl e) = absurd (cc (e.0))
        there (Go y) (h, inr e) = absurd (cc (e.0))
        there (Put y a) (h, inl e) = absurd (cc (e.0))
        there (Put y a) (h, inr e) = absurd (cc (e.0))
        there (Out a) (h, inl e) = absurd (cc (e.0))
        there (Out a) (h, inr e) = absurd (cc (e.0))

        at : (q : ℕ) → q < 3 → (v : Wire) → v ≡ get_or (To p ∷ To (Odd p) ∷ To (Even p) ∷ []) q nothing
            → KindAt kind.Toggle (λ i. c u (get_or (To p ∷ To (Odd p) ∷ To (Even p) ∷ []) i nothing)) q → R (Tog p) u v
        at zero less v is (inl k) = subst (λ (x : Wire). R (Tog p) u x) (sym is) (
          omega arith,
          inr (
            to_tog (plan_of r T) p low,
            subst (λ b. takes_to (plan_of r T) b (c u) p) (sym (ne_eqb (depth p) r.levels (λ i. omega arith))) k.1,
          ),
        )
        at zero less v is (inr (inl k)) = absurd (omega (arith, k.0))
        at zero less v is (inr (inr k)) = absurd (omega (arith, k.0))
        at (suc zero) less v is (inl k) = absurd (omega (arith, k.0))
        at (suc zero) less v is (inr (inl k)) = subst (λ (x : Wire). R (Tog p) u x) (sym is) (omega arith, inl (refl, (k.1, k.2)))
        at (suc zero) less v is (inr (inr k)) = absurd (omega (arith, k.0))
        at (suc (suc zero)) less v is (inl k) = absurd (omega (arith, k.0))
        at (suc (suc zero)) less v is (inr (inl k)) = absurd (omega (arith, k.0))
        at (suc (suc zero)) less v is (inr (inr k)) = subst (λ (x : Wire). R (Tog p) u x) (sym is) (omega arith, inl (refl, (k.1, k.2)))
        at (suc (suc (suc q))) less v is k = absurd (omega arith)

        back : (w : Wire) → KindOn kind.Toggle (To p ∷ To (Odd p) ∷ To (Even p) ∷ []) nothing (c u) w → R (Tog p) u w
        back w (q, less, is, k) = at q less w is k

    pub tog_may : (t : List ℕ) → May (Basic kind.Toggle) t ↔ webs.May (web (plan_of r T)) (Tog p) (map (λ i. get_or (To p ∷ To (Odd p) ∷ To (Even p) ∷ []) i nothing) t)
    tog_may t =
        let both = kind_spec same_wire wires_decide (To p ∷ To (Odd p) ∷ To (Even p) ∷ []) tog_once nothing tog_away kind.Toggle tt refl t in
        let also = follows_both (R (Tog p)) (λ u w. KindOn kind.Toggle (To p ∷ To (Odd p) ∷ To (Even p) ∷ []) nothing (c u) w) (λ u. Unit {0}) (λ u w i. tog_on u w) (λ u w i a. tt) []
        (map (λ i. get_or (To p ∷ To (Odd p) ∷ To (Even p) ∷ []) i nothing) t) tt in
        ((λ x. also.1 (both.0 x)), (λ x. both.1 (also.0 x)))

  -- ---- the IWIRE of the act that begins the process

  module _ (y : ℕ) (low : y < pow r.levels) (begins : begins_process r y ≡ true) where
    opened_one : opened_by r.opens y ≡ 1
    opened_one = at r.opens y begins
      where
        at : (b : Bool) (y : ℕ) → (b && nat_eq y 0) ≡ true → opened_by b y ≡ 1
        at true zero e = refl
        at true (suc y) e = let z : suc y ≡ 0 = eqb-true (suc y) 0 e in absurd (omega arith)
        at false y e = absurd (true≢false (sym e))

    deep : depth (entry r y) ≡ r.levels
    deep = sane.entry_deep y low

    pub gate_once : Distinct (To (entry r y) ∷ Go y ∷ [])
    gate_once = ((λ h. elim h [ inl e ↦ absurd (cc (e)) | inr e ↦ e ]), ((λ z. z), tt))

    gate_away : Among nothing (To (entry r y) ∷ Go y ∷ []) → ⊥
    gate_away (inl e) = absurd (cc (e))
    gate_away (inr (inl e)) = let z : pow r.levels ≡ y = cc (e) in omega arith
    gate_away (inr (inr e)) = e

    -- the output is at most one ahead
    abbrev Ahead : List Wire → Type 0
    Ahead u = (c u (To (entry r y)) ≤ c u (Go y)) × (c u (Go y) ≤ suc (c u (To (entry r y))))

    gate_to : (u : List Wire) (q : Path) → R (Gate y) u (To q) → (q ≡ entry r y) × (suc (c u (To (entry r y))) ≡ c u (Go y))
    gate_to u Top (h, inl e) = absurd (cc (e.0))
    gate_to u (Odd q) (h, inl e) = absurd (cc (e.0))
    gate_to u (Even q) (h, inl e) = absurd (cc (e.0))
    gate_to u q (h, inr e) =
        let (last, is) = below_gate (nat_eq (depth q) r.levels) q y e.0 in
        let same : entry r y ≡ q = ap (entry r) (sym is) ∙ sane.entry_back q (eqb-true (depth q) r.levels last) in
        let z : opened_by r.opens (act_at r q) + c u (To q) ≡ c u (Go (act_at r q)) = subst (λ b. takes_to (plan_of r T) b (c u) q) last e.1 in
        (sym same, omega (arith, z, opened_one, ap (opened_by r.opens) is, ap (λ v. c u (Go v)) is, ap (λ v. c u (To v)) same))

    gate_go : (u : List Wire) (z : ℕ) → R (Gate y) u (Go z) → (z ≡ y) × (c u (Go y) < 1 + c u (To (entry r y)))
    gate_go u z (h, inl e) =
        let is : z ≡ y = cc (e.0) in
        (is, subst (λ (v : ℕ). c u (Go v) < 1 + c u (To (entry r v))) is (omega (arith, e.1, ap (opened_by r.opens) is, opened_one)))
    gate_go u z (h, inr e) = absurd (cc (e.0))

    grown_at : (u : List Wire) (w v : Wire) → ((v ≡ w) × (c (u ++ w ∷ []) v ≡ suc (c u v))) ⊎ ((v ≡ w → ⊥) × (c (u ++ w ∷ []) v ≡ c u v))
    grown_at u w v = subst (λ (f : Wire → ℕ). ((v ≡ w) × (f v ≡ suc (c u v))) ⊎ ((v ≡ w → ⊥) × (f v ≡ c u v))) (sym (tally_end same_wire naught u w)) (grown_cases same_wire wires_decide (c u) w v)

    gate_step : (u : List Wire) (w : Wire) → Ahead u → R (Gate y) u w → Ahead (u ++ w ∷ [])
    gate_step u (Sym a) i (h, inl e) = absurd (cc (e.0))
    gate_step u (Sym a) i (h, inr e) = absurd (cc (e.0))
    gate_step u (To q) i k =
        let (is, less) = gate_to u q k in
        let back : To (entry r y) ≡ To q = ap To (sym is) in
        elim (grown_at u (To q) (To (entry r y))) [
          | inl (e, z) ↦ elim (grown_at u (To q) (Go y)) [
            | inl (f, x) ↦ absurd (cc (f))
            | inr (f, x) ↦ (omega arith, omega arith)
          ]
          | inr (e, z) ↦ absurd (e back)
        ]
    gate_step u (Go z) i k =
        let (is, less) = gate_go u z k in
        elim (grown_at u (Go z) (Go y)) [
          | inl (e, x) ↦ elim (grown_at u (Go z) (To (entry r y))) [
            | inl (f, v) ↦ absurd (cc (f))
            | inr (f, v) ↦ (omega (arith, i.0), omega (arith, i.1))
          ]
          | inr (e, x) ↦ absurd (e (ap Go (sym is)))
        ]
    gate_step u (Put z a) i (h, inl e) = absurd (cc (e.0))
    gate_step u (Put z a) i (h, inr e) = absurd (cc (e.0))
    gate_step u (Out a) i (h, inl e) = absurd (cc (e.0))
    gate_step u (Out a) i (h, inr e) = absurd (cc (e.0))

    gate_on : (u : List Wire) (w : Wire) → Ahead u → R (Gate y) u w ↔ KindOn kind.Iwire (To (entry r y) ∷ Go y ∷ []) nothing (c u) w
    gate_on u w i = (there w, back w)
      where
        there : (w : Wire) → R (Gate y) u w → KindOn kind.Iwire (To (entry r y) ∷ Go y ∷ []) nothing (c u) w
        there (Sym a) (h, inl e) = absurd (cc (e.0))
        there (Sym a) (h, inr e) = absurd (cc (e.0))
        there (To q) k = let (is, less) = gate_to u q k in (0, omega arith, ap To is, inr (refl, omega arith))
        there (Go z) k = let (is, less) = gate_go u z k in (1, omega arith, ap Go is, inl (refl, omega (arith, i.0)))
        there (Put z a) (h, inl e) = absurd (cc (e.0))
        there (Put z a) (h, inr e) = absurd (cc (e.0))
        there (Out a) (h, inl e) = absurd (cc (e.0))
        there (Out a) (h, inr e) = absurd (cc (e.0))

        at : (q : ℕ) → q < 2 → (v : Wire) → v ≡ get_or (To (entry r y) ∷ Go y ∷ []) q nothing → KindAt kind.Iwire (λ i. c u (get_or (To (entry r y) ∷ Go y ∷ []) i nothing)) q → R (Gate y) u v
        at zero less v is (inl k) = absurd (omega (arith, k.0))
        at zero less v is (inr k) =
            let back_act : act_at r (entry r y) ≡ y = sane.act_back y low in
            let gate : receiver (plan_of r T) (To (entry r y)) ≡ Gate y = to_gate (plan_of r T) (entry r y) deep ∙ ap Gate back_act in
            let z : opened_by r.opens (act_at r (entry r y)) + c u (To (entry r y)) ≡ c u (Go (act_at r (entry r y))) =
            omega (arith, k.1, i.1, opened_one, ap (opened_by r.opens) back_act, ap (λ v. c u (Go v)) back_act) in
            subst (λ (x : Wire). R (Gate y) u x) (sym is) (omega arith, inr (gate, subst (λ b. takes_to (plan_of r T) b (c u) (entry r y)) (sym (eq-eqb (depth (entry r y)) r.levels deep)) z))
        at (suc zero) less v is (inl k) = subst (λ (x : Wire). R (Gate y) u x) (sym is) (low, inl (refl, omega (arith, k.1, opened_one)))
        at (suc zero) less v is (inr k) = absurd (omega (arith, k.0))
        at (suc (suc q)) less v is k = absurd (omega arith)

        back : (w : Wire) → KindOn kind.Iwire (To (entry r y) ∷ Go y ∷ []) nothing (c u) w → R (Gate y) u w
        back w (q, less, is, k) = at q less w is k

    pub gate_may : (t : List ℕ) → May (Basic kind.Iwire) t ↔ webs.May (web (plan_of r T)) (Gate y) (map (λ i. get_or (To (entry r y) ∷ Go y ∷ []) i nothing) t)
    gate_may t =
        let both = kind_spec same_wire wires_decide (To (entry r y) ∷ Go y ∷ []) gate_once nothing gate_away kind.Iwire tt refl t in
        let also = follows_both (R (Gate y)) (λ u w. KindOn kind.Iwire (To (entry r y) ∷ Go y ∷ []) nothing (c u) w) Ahead gate_on gate_step []
        (map (λ i. get_or (To (entry r y) ∷ Go y ∷ []) i nothing) t) (omega arith, omega arith) in
        ((λ x. also.1 (both.0 x)), (λ x. both.1 (also.0 x)))

  -- ---- the MERGE of an output

  module _ (a : ℕ) (some : 0 < length (givers r a)) where
    abbrev gs : List ℕ
    gs = givers r a

    abbrev shows_ports : List Wire
    shows_ports = map (λ y. Put y a) (givers r a) ++ Out a ∷ []

    giver_in : (w : Wire) → Among w (map (λ y. Put y a) (givers r a)) → (y : ℕ) × Among y (givers r a) × (w ≡ Put y a)
    giver_in w h = map_among (λ y. Put y a) (givers r a) w h

    pub shows_once : Distinct (map (λ y. Put y a) (givers r a) ++ Out a ∷ [])
    shows_once = distinct_both (map (λ y. Put y a) (givers r a)) (Out a ∷ [])
        (distinct_map (λ y. Put y a) (givers r a) (λ y z i j e. cc) (distinct_filter (λ y. is_in a (r.outs y)) (range_with_len 0 (pow r.levels)) (range_once (pow r.levels)))) ((λ z. z), tt)
        (λ x h b. let (y, i, e) = giver_in x h in elim b [ inl f ↦ let z : Put y a ≡ Out a = sym e ∙ f in absurd (cc (z)) | inr f ↦ f ])

    shows_away : Among nothing (map (λ y. Put y a) (givers r a) ++ Out a ∷ []) → ⊥
    shows_away h = elim (among_either nothing (map (λ y. Put y a) (givers r a)) (Out a ∷ []) h) [
      | inl b ↦ let (y, i, e) = giver_in nothing b in absurd (cc (e))
      | inr b ↦ elim b [ inl f ↦ absurd (cc (f)) | inr f ↦ f ]
    ]

    abbrev n : ℕ
    n = length (givers r a)

    many : length (map (λ y. Put y a) (givers r a)) ≡ n
    many = length-map (givers r a) (λ y. Put y a)

    port_in : (i : ℕ) → i < n → get_or shows_ports i nothing ≡ Put (get_or (givers r a) i 0) a
    port_in i low = get_or_append_left (map (λ y. Put y a) (givers r a)) (Out a ∷ []) nothing i (omega (arith, many)) ∙ get_or-map (λ y. Put y a) (givers r a) i 0 nothing low

    port_out : get_or shows_ports n nothing ≡ Out a
    port_out =
        let z : n - n ≡ 0 = omega arith in
        get_or-append_right (map (λ y. Put y a) (givers r a)) (Out a ∷ []) n n nothing many (omega arith) ∙ ap (λ i. get_or (Out a ∷ []) i nothing) z

    sum_is : (u : List Wire) → total n (λ i. c u (get_or shows_ports i nothing)) ≡ sum_over (plan_of r T) a (λ y. c u (Put y a))
    sum_is u =
        along_total (λ y. c u (Put y a)) (λ i. c u (get_or shows_ports i nothing)) (givers r a) (λ i low. ap (c u) (port_in i low))
        ∙ along_passed (λ y. c u (Put y a)) (λ y. is_in a (r.outs y)) (pow r.levels)

    shows_on : (u : List Wire) (w : Wire) → R (Shows a) u w ↔ KindOn (kind.Merge n) shows_ports nothing (c u) w
    shows_on u w = (there w, back w)
      where
        long : length shows_ports ≡ n + 1
        long = length-append (map (λ y. Put y a) (givers r a)) (Out a ∷ []) ∙ ap (λ i. i + 1) many

        out_is : c u (get_or shows_ports n nothing) ≡ c u (Out a)
        out_is = ap (c u) port_out

        there : (w : Wire) → R (Shows a) u w → KindOn (kind.Merge n) shows_ports nothing (c u) w
        there (Sym b) (h, inl e) = absurd (cc (e.0))
        there (Sym b) (h, inr e) = absurd (cc (e.0))
        there (To Top) (h, inl e) = absurd (cc (e.0))
        there (To (Odd p)) (h, inl e) = absurd (cc (e.0))
        there (To (Even p)) (h, inl e) = absurd (cc (e.0))
        there (To p) (h, inr e) = absurd (below_else (nat_eq (depth p) r.levels) p (Shows a) (λ q z. cc) (λ y z. cc) e.0)
        there (Go y) (h, inl e) = absurd (cc (e.0))
        there (Go y) (h, inr e) = absurd (cc (e.0))
        there (Put y b) (h, inl e) = absurd (cc (e.0))
        there (Put y b) (h, inr e) =
            let is : b ≡ a = cc (e.0) in
            let gives : is_in a (r.outs y) ≡ true = subst (λ (v : ℕ). is_in v (r.outs y) ≡ true) is h.1 in
            let (i, low, at) = among_at 0 y (givers r a) (in_givers r T fine sane a y h.0 gives) in
            let sum : sum_over (plan_of r T) a (λ z. c u (Put z a)) ≡ c u (Out a) = subst (λ (v : ℕ). sum_over (plan_of r T) v (λ z. c u (Put z v)) ≡ c u (Out v)) is e.1 in
            (i, omega (arith, long), ap (Put y) is ∙ ap (λ v. Put v a) (sym at) ∙ sym (port_in i low), inl (low, sum_is u ∙ sum ∙ sym out_is))
        there (Out b) (h, inl e) =
            let is : b ≡ a = cc (e.0) in
            let less : c u (Out a) < sum_over (plan_of r T) a (λ z. c u (Put z a)) = subst (λ (v : ℕ). c u (Out v) < sum_over (plan_of r T) v (λ z. c u (Put z v))) is e.1 in
            (n, omega (arith, long), ap Out is ∙ sym port_out, inr (refl, omega (arith, sum_is u, out_is)))
        there (Out b) (h, inr e) = absurd (cc (e.0))

        at : (q : ℕ) (v : Wire) → v ≡ get_or shows_ports q nothing → KindAt (kind.Merge n) (λ i. c u (get_or shows_ports i nothing)) q → R (Shows a) u v
        at q v is (inl k) =
            let (low, gives) = givers_in r T fine sane a (get_or (givers r a) q 0) (at_among 0 (givers r a) q k.0) in
            subst (λ (x : Wire). R (Shows a) u x) (sym (is ∙ port_in q k.0)) ((low, gives), inr (refl, sym (sum_is u) ∙ k.1 ∙ out_is))
        at q v is (inr k) =
            let less : c u (Out a) < sum_over (plan_of r T) a (λ z. c u (Put z a)) = omega (arith, k.1, sum_is u, out_is) in
            let here : v ≡ Out a = is ∙ ap (λ i. get_or shows_ports i nothing) k.0 ∙ port_out in
            subst (λ (x : Wire). R (Shows a) u x) (sym here) (giver (givers r a) refl less, inl (refl, less))
          where
            giver : (ys : List ℕ) → givers r a ≡ ys → c u (Out a) < sum_over (plan_of r T) a (λ z. c u (Put z a)) → (y : ℕ) × (y < pow r.levels) × (is_in a (r.outs y) ≡ true)
            giver [] e less = absurd (omega (arith, some, ap (λ (l : List ℕ). length l) e))
            giver (y ∷ ys) e less = let z = givers_in r T fine sane a y (subst (Among y) (sym e) (inl refl)) in (y, z.0, z.1)

        back : (w : Wire) → KindOn (kind.Merge n) shows_ports nothing (c u) w → R (Shows a) u w
        back w (q, low, is, k) = at q w is k

    pub shows_may : 2 ≤ length (givers r a) → (t : List ℕ)
        → May (Basic (kind.Merge (length (givers r a)))) t ↔ webs.May (web (plan_of r T)) (Shows a) (map (λ i. get_or (map (λ y. Put y a) (givers r a) ++ Out a ∷ []) i nothing) t)
    shows_may wide t =
        let long : length shows_ports ≡ n + 1 = length-append (map (λ y. Put y a) (givers r a)) (Out a ∷ []) ∙ ap (λ i. i + 1) many in
        let both = kind_spec same_wire wires_decide shows_ports shows_once nothing shows_away (kind.Merge n) wide long t in
        let also = follows_both (R (Shows a)) (λ u w. KindOn (kind.Merge n) shows_ports nothing (c u) w) (λ u. Unit {0}) (λ u w i. shows_on u w) (λ u w i a. tt) []
        (map (λ i. get_or shows_ports i nothing) t) tt in
        ((λ x. also.1 (both.0 x)), (λ x. both.1 (also.0 x)))

  -- ---- the environment

  abbrev port : ℕ → Wire
  port i = get_or (outer_ports r) i nothing

  port_is : (i : ℕ) → i < count r → port i ≡ outer r i
  port_is i low = get_or-map-range_with_len (outer r) 0 (count r) i i nothing low (omega arith)

  ports_long : length (outer_ports r) ≡ count r
  ports_long = length-map-range_with_len (outer r) 0 (count r)

  word_outer : (u : List Wire) (i : ℕ) → i < count r → word (u ++ port i ∷ []) ≡ word u ++ i ∷ []
  word_outer u i low = ap (λ w. word (u ++ w ∷ [])) (port_is i low) ∙ at (is_out r i)
    where
      at : (b : Bool) → word (u ++ (if b then Out i else Sym i) ∷ []) ≡ word u ++ i ∷ []
      at true = word_out u i
      at false = word_sym u i

  front : (u v : List ℕ) → T (u ++ v) → T u
  front u [] h = subst T (append-nil u) h
  front u (a ∷ v) h = fine.closed u a (front (u ++ a ∷ []) v (subst T (sym (append_assoc u (a ∷ []) v)) h))

  env_rule : (u : List Wire) (i : ℕ) → i < count r → T (word u ++ i ∷ []) → R Env u (outer r i)
  env_rule u i low h = at (is_out r i) refl
    where
      at : (b : Bool) → is_out r i ≡ b → R Env u (if b then Out i else Sym i)
      at true e = (fine.covers_out i low e, inr (refl, (e, h)))
      at false e = (fine.covers_in i low e, inl (refl, (e, h)))

  env_told : (u : List Wire) (i : ℕ) → i < count r → R Env u (outer r i) → T (word u ++ i ∷ [])
  env_told u i low h = at (is_out r i) h
    where
      at : (b : Bool) → R Env u (if b then Out i else Sym i) → T (word u ++ i ∷ [])
      at true (k, inl e) = absurd (cc (e.0))
      at true (k, inr e) = e.1.1
      at false (k, inl e) = e.1.1
      at false (k, inr e) = absurd (cc (e.0))

  env_there : (v : List Wire) (t : List ℕ) → T (word v ++ t) → Follows (R Env) v (map port t)
  env_there v [] h = tt
  env_there v (i ∷ t) h =
      let one : T (word v ++ i ∷ []) = front (word v ++ i ∷ []) t (subst T (sym (append_assoc (word v) (i ∷ []) t)) h) in
      let low : i < count r = fine.known (word v) i one in (
        subst (R Env v) (sym (port_is i low)) (env_rule v i low one),
        env_there (v ++ port i ∷ []) t (subst (λ x. T (x ++ t)) (sym (word_outer v i low)) (subst T (sym (append_assoc (word v) (i ∷ []) t)) h)),
      )

  env_back : (v : List Wire) (t : List ℕ) → T (word v) → Follows (R Env) v (map port t) → T (word v ++ t)
  env_back v [] h f = subst T (sym (append-nil (word v))) h
  env_back v (i ∷ t) h f = elim (cases_lt i (count r)) [
    | inl low ↦
        let one : T (word v ++ i ∷ []) = env_told v i low (subst (R Env v) (port_is i low) f.0) in
        let all : T (word (v ++ port i ∷ []) ++ t) = env_back (v ++ port i ∷ []) t (subst T (sym (word_outer v i low)) one) f.1 in
        subst T (append_assoc (word v) (i ∷ []) t) (subst (λ x. T (x ++ t)) (word_outer v i low) all)
    | inr past ↦
        let z : port i ≡ nothing = get_or_past (outer_ports r) i nothing (omega (arith, ports_long)) in
        let k : R Env v nothing = subst (R Env v) z f.0 in absurd (omega (arith, k.0))
  ]

  pub env_may : (t : List ℕ) → May r.spec t ↔ webs.May (web (plan_of r T)) Env (map (λ i. get_or (outer_ports r) i nothing) t)
  env_may t = ((λ h. env_there [] t ((fine.traces t).0 h)), (λ f. (fine.traces t).1 (env_back [] t fine.empty f)))
