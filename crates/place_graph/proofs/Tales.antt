-- How the story of a trace grows.
use Rattle.std.proofs.Common.{◌≡◌, ◌⊎◌, inl, inr, ⊎_elim, ℕ, ◌+◌, ◌≤◌, true, true≢false, List, [], ◌∷◌, ◌++◌, IsTrue, refl, sym, ap, ◌∙◌, subst, arith}
use Rattle.cmd_tree.specs.Lists.{is_in}
use Rattle.cmd_tree.specs.Meaning.{symbols}
use Rattle.cmd_tree.specs.Residual.{without}
use Rattle.place_graph.specs.declared.leg.Leg.{Leg}
use Rattle.place_graph.specs.Points.{Among}
use Rattle.place_graph.specs.Walks.{Reaches, Here, Move, within, leaves, Moves, begin}
use Rattle.place_graph.specs.Graph.{is_act}
use Rattle.place_graph.specs.Tale.{one_if, times, Chain, idle, Begun, Tale}
use Rattle.place_graph.specs.Chart.{Has, Under, Grows}
use Rattle.place_graph.proofs.Sums.{times_without, in_from_times, times_from_in, times_append, one_same}

-- ---- states

not_in_nil : (a : ℕ) (xs : List ℕ) → xs ≡ [] → IsTrue (is_in a xs) → ⊥
not_in_nil a xs e h = true≢false (sym (subst (λ x. IsTrue (is_in a x)) e h))

module _ (L : List Leg) where
  pub reaches_push : (t : List ℕ) (c d : Here) (a : ℕ) (e : Here) → Reaches L c t d → Move L d a e
      → Reaches L c (t ++ a ∷ []) e
  reaches_push [] c d a e r m = (e, subst (λ x. Move L x a e) (sym r) m, refl)
  reaches_push (b ∷ t) c d a e r m = (r.0, r.1, reaches_push t r.0 d a e r.2 m)

  pub moves_join : (t : List ℕ) (c d : Here) (a : ℕ) (e : Here) → Reaches L c t d → Move L d a e
      → Moves L c (t ++ a ∷ [])
  moves_join [] c d a e r m = (e, subst (λ x. Move L x a e) (sym r) m, tt)
  moves_join (b ∷ t) c d a e r m = (r.0, r.1, moves_join t r.0 d a e r.2 m)

  pub record Last (c : Here) (t : List ℕ) (a : ℕ) : Type 0 where
    pub before : Here
    pub reached : Reaches L c t before
    pub after : Here
    pub move : Move L before a after

  pub moves_split : (t : List ℕ) (c : Here) (a : ℕ) → Moves L c (t ++ a ∷ []) → Last c t a
  moves_split [] c a m = record { before = c; reached = refl; after = m.0; move = m.1 }
  moves_split (b ∷ t) c a m =
      let k = moves_split t m.0 a m.2 in
      record { before = k.before; reached = (m.0, m.1, k.reached); after = k.after; move = k.move }

  -- a move as one of two cases
  record Opened (c : Here) (a : ℕ) (d : Here) : Type 0 where
    pub leg : Leg
    pub among : Among L leg
    pub at : leg.from ≡ c.point
    pub none : c.pending ≡ []
    pub there : IsTrue (is_in a (symbols leg.marks))
    pub is : d ≡ record { pending = without a (symbols leg.marks); point = leg.to }

  abbrev Stayed : Here → ℕ → Here → Type 0
  Stayed c a d = IsTrue (is_in a c.pending) × (d ≡ record { pending = without a c.pending; point = c.point })

  view : (c : Here) (a : ℕ) (d : Here) → Move L c a d → Stayed c a d ⊎ Opened c a d
  view _ _ _ (within c a there) = inl (there, refl)
  view _ _ _ (leaves c a l none among at there) = inr
      (record { leg = l; among = among; at = at; none = none; there = there; is = refl })

  module _ (one : (l m : Leg) (a : ℕ) → Among L l → Among L m → l.from ≡ m.from → Has l a → Has m a
      → l ≡ m) where
    same_move : (c : Here) (a : ℕ) (d e : Here) → Move L c a d → Move L c a e → d ≡ e
    same_move c a d e m n = ⊎_elim
        (λ x. ⊎_elim
        (λ y. x.1 ∙ sym y.1)
        (λ y. absurd (not_in_nil a c.pending y.none x.0))
        (view c a e n))
        (λ x. ⊎_elim
        (λ y. absurd (not_in_nil a c.pending x.none y.0))
        (λ y. x.is ∙ ap (λ (l : Leg). record { pending = without a (symbols l.marks); point = l.to })
        (one x.leg y.leg a x.among y.among (x.at ∙ sym y.at) x.there y.there) ∙ sym y.is)
        (view c a e n))
        (view c a d m)

    pub same_state : (t : List ℕ) (c d e : Here) → Reaches L c t d → Reaches L c t e → d ≡ e
    same_state [] c d e r s = sym r ∙ s
    same_state (a ∷ t) c d e r s = same_state t r.0 d e r.2
        (subst (λ x. Reaches L x t e) (same_move c a s.0 r.0 s.1 r.1) s.2)

    -- ---- one symbol more

    -- of the leg l the symbols `left` are to come, and a is one of them
    finish : (t : List ℕ) (w : Tale L t) (l : Leg) → Among L l → l.from ≡ w.here → (left : List ℕ)
        → ((b : ℕ) → times b (symbols l.marks) ≡ times b w.came + times b left)
        → (a : ℕ) → IsTrue (is_in a left) → (d : Here)
        → d ≡ record { pending = without a left; point = l.to } → Move L w.state a d → Grows L t a w
    finish t w l among from left counts a there d is move = by (without a left) refl
      where
        less : (b : ℕ) → times b left ≡ one_if b a + times b (without a left)
        less b = times_without a b left there

        has : IsTrue (is_in a (symbols l.marks))
        has = in_from_times a (symbols l.marks) (omega (arith, counts a, times_from_in a left there))

        most : (b : ℕ) → times b (a ∷ w.came) ≤ times b (symbols l.marks)
        most b = omega (arith, counts b, less b)

        more : (b : ℕ) → times b (t ++ a ∷ []) ≡ times b t + one_if b a
        more b = omega (arith, times_append b t (a ∷ []))

        by : (rest : List ℕ) → without a left ≡ rest → Grows L t a w
        by [] e =
            let full : (b : ℕ) → times b (symbols l.marks) ≡ times b (a ∷ w.came) = λ b. omega
            (arith, counts b, less b, ap (times b) e) in
            record {
              next = record {
                past = l ∷ w.past;
                here = l.to;
                came = [];
                state = d;
                chain = (among, refl, subst (λ x. Chain L 1 w.past x) (sym from) w.chain);
                reached = reaches_push t begin w.state a d w.reached move;
                counts = λ b. omega (arith, more b, w.counts b, full b);
                under = inl (refl, is ∙ ap (λ p. record { pending = p; point = l.to }) e);
              };
              grown = record {
                leg = l;
                among = among;
                from = from;
                has = has;
                within = most;
                how = inr
                    (refl, refl, refl, full);
              };
            }
        by (y ∷ ys) e =
            let same : d.pending ≡ without a left = ap (λ (x : Here). x.pending) is in
            record {
              next = record {
                past = w.past;
                here = w.here;
                came = a ∷ w.came;
                state = d;
                chain = w.chain;
                reached = reaches_push t begin w.state a d w.reached move;
                counts = λ b. omega (arith, more b, w.counts b);
                under = inr (record {
                  leg = l;
                  among = among;
                  from = from;
                  to = sym (ap (λ (x : Here). x.point) is);
                  some_came = λ z. cc;
                  some_left = λ z. let none : y ∷ ys ≡ [] = sym e ∙ sym same ∙ z in cc;
                  counts = λ b. omega (arith, counts b, less b, ap (times b) same);
                });
              };
              grown = record {
                leg = l;
                among = among;
                from = from;
                has = has;
                within = most;
                how = inl
                    (refl, refl, refl);
              };
            }

    tale_step : (t : List ℕ) (w : Tale L t) (a : ℕ) (d : Here) → Move L w.state a d → Grows L t a w
    tale_step t w a d move = ⊎_elim
        (λ x. ⊎_elim
        (λ u. absurd (not_in_nil a w.state.pending (ap (λ (c : Here). c.pending) u.1) x.0))
        (λ b. finish t w b.leg b.among b.from w.state.pending b.counts a x.0 d
        (x.1 ∙ ap (λ p. record { pending = without a w.state.pending; point = p }) (sym b.to)) move)
        w.under)
        (λ x. ⊎_elim
        (λ u. finish t w x.leg x.among (x.at ∙ ap (λ (c : Here). c.point) u.1) (symbols x.leg.marks)
        (λ b. omega (arith, ap (times b) u.0)) a x.there d x.is move)
        (λ b. absurd (b.some_left x.none))
        w.under)
        (view w.state a d move)

    pub tale_grows : (t : List ℕ) (a : ℕ) (w : Tale L t) → Moves L begin (t ++ a ∷ []) → Grows L t a w
    tale_grows t a w m =
        let k = moves_split t begin a m in
        tale_step t w a k.after
        (subst (λ c. Move L c a k.after) (same_state t begin k.before w.state k.reached w.reached)
        k.move)

    pub tale_shows : ((m l : Leg) → Among L m → Among L l → is_act m ≡ true → l.from ≡ m.from → l ≡ m)
        → (t : List ℕ) (a : ℕ) (w : Tale L t) (m : Leg) → Among L m → m.from ≡ w.here → is_act m ≡ true
        → Has m a → times a w.came ≡ 0 → Moves L begin (t ++ a ∷ [])
    tale_shows lone t a w m among from act has none = ⊎_elim
        (λ u. moves_join t begin (idle w.here) a _ (subst (λ c. Reaches L begin t c) u.1 w.reached)
        (leaves (idle w.here) a m refl among from has))
        (λ b.
        let same : b.leg ≡ m = lone m b.leg among b.among act (b.from ∙ sym from) in
        let left : IsTrue (is_in a w.state.pending) = in_from_times a w.state.pending
        (omega (
          arith,
          b.counts a,
          none,
          times_from_in a (symbols b.leg.marks)
              (subst (λ (l : Leg). Has l a) (sym same) has),
        )) in
        moves_join t begin w.state a _ w.reached (within w.state a left))
        w.under

  -- ---- before any symbol

  abbrev pub tale_nil : Tale L []
  tale_nil = record {
    past = [];
    here = 1;
    came = [];
    state = begin;
    chain = refl;
    reached = refl;
    counts = λ a. refl;
    under = inl (refl, refl);
  }

  -- ---- what stands under way

  pub tale_few : ((l : Leg) (a : ℕ) → Among L l → times a (symbols l.marks) ≤ 1)
      → (t : List ℕ) (w : Tale L t) (a : ℕ) → times a w.came ≤ 1
  tale_few few t w a = ⊎_elim
      (λ u. omega (arith, ap (times a) u.0))
      (λ b. omega (arith, b.counts a, few b.leg a b.among))
      w.under

  under_begun : ((l : Leg) (a : ℕ) → Among L l → times a (symbols l.marks) ≤ 1)
      → (here : ℕ) (came : List ℕ) (state : Here) → Begun L here came state
      → Under L here (λ a. times a came)
  under_begun few here came state b = by state.pending refl
    where
      by : (left : List ℕ) → state.pending ≡ left → Under L here (λ a. times a came)
      by [] e = absurd (b.some_left e)
      by (y ∷ ys) e =
          let counts : times y (symbols b.leg.marks) ≡ times y came + (one_if y y + times y ys) = b.counts y
          ∙ ap (λ p. times y came + times y p) e in
          record {
            leg = b.leg;
            among = b.among;
            from = b.from;
            of_it = λ a n. in_from_times a (symbols b.leg.marks) (omega (arith, b.counts a, n));
            left = y;
            of_left = in_from_times y (symbols b.leg.marks) (omega (arith, counts, one_same y y refl));
            to_come = omega (arith, counts, one_same y y refl, few b.leg y b.among);
          }

  pub tale_under : ((l : Leg) (a : ℕ) → Among L l → times a (symbols l.marks) ≤ 1)
      → (t : List ℕ) (w : Tale L t) → ((a : ℕ) → times a w.came ≡ 0) ⊎ Under L w.here (λ a. times a w.came)
  tale_under few t w = ⊎_elim (λ u. inl (λ a. ap (times a) u.0))
      (λ b. inr (under_begun few w.here w.came w.state b)) w.under
