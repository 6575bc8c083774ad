-- The network of a weave shows each trace. Where nothing is under way, an output is served by the processes that make it,
-- each after the inputs that it lags by, then by the C, and by what its grant lags by.
use Rattle.std.proofs.Common.{◌≡◌, ◌⊎◌, inl, inr, ℕ, suc, ◌+◌, ◌<◌, ◌≤◌, Bool, true, false, List, [], ◌∷◌, ◌++◌, map, Option, Some, None, refl, sym, ap, subst, ◌∙◌, arith, append-nil, append_assoc, if◌then◌else◌}
use Rattle.std.specs.List.{AllByRecursion}
use Rattle.std.proofs.lemmas.Bool.{cases_Bool, cases_eq, cases_lt}
use Rattle.cmd_tree.specs.Rounds.{tally, naught}
use Rattle.cmd_tree.specs.Lists.{is_in}
use Rattle.place_graph.proofs.Sums.{one_same, times_append}
use Rattle.net_laws.proofs.Webs.{WebExact}
use Rattle.net_laws.proofs.Told.{sent, got, Went, Leads, pulls, ends, web_exact}
use Rattle.net_laws.proofs.Woven.{grew_le}
use Rattle.net_laws.proofs.Among.{Among}
use Rattle.plain_split.proofs.OneWaitWeb.{sum_of}
use Rattle.plain_split.proofs.OneWaitDrawn.{among_in, in_among}
use Rattle.plain_split.proofs.OneWaitTraces.{map_among, all_map_by, sum_of_map}
use Rattle.weave_split.specs.WeaveChart.{Wire, Take, Copy, Back, Made, Ask, Return, Token, Give, Name, Env, Process, Spread, Join, Returns, Gate, Ties, same_wire, shown_by, copy_for, driver, receiver}
use Rattle.weave_split.proofs.WeaveWeb.{Real, GateOn, word, Rule, At, web, Tied, lawful}
use Rattle.weave_split.proofs.WeaveStretches.{Alike, Ahead, alike_same, alike_back, alike_more, alike_trace, ahead_more}
use Rattle.weave_split.proofs.WeaveSums.{sum_even, sum_gap, sum_less}
use Rattle.weave_split.proofs.WeaveWords.{word_end, shown_env, shown_process, Sided, at_env}
use Rattle.weave_split.proofs.WeaveLedger.{start, gifts, asked, backs, Ring, ring}
use Rattle.weave_split.proofs.WeaveTraces.{part, part_in, part_out, next_in}
use Rattle.weave_split.proofs.WeaveKept.{own_of, Kept, take_count, give_count, copy_count, made_count, part_count, asked_count, gifts_count, sides, gifts_at}
use Rattle.weave_split.proofs.WeaveSound.{kept}
use Rattle.weave_split.proofs.WeaveWent.{net, Even, went_got, more_sent, more_got, same_sent, went_even, went_away, went_in, went_out}

gate_may : (b : Bool) (i o : Wire) (c : Wire → ℕ) → c o < c i + (if b then 1 else 0) → c i + (if b then 1 else 0) ≤ suc (c o) → GateOn b i o c o
gate_may false i o c less low = inr (inl refl, (omega (arith, less), tt))
gate_may true i o c less low = inl (refl, omega (arith, less, low))

module _ (g : Ties) (whole : List ℕ → Type 0) (traces : ℕ → List ℕ → Type 0) (tied : Tied g whole traces) where
  abbrev Holds : (Name → List Wire) → Type 0
  Holds t = Kept g whole traces tied t

  abbrev F : (Name → List Wire) → Wire → ℕ
  F t w = sent (net g whole traces) t w

  abbrev P : (Name → List Wire) → Wire → ℕ
  P t w = got (net g whole traces) t w

  abbrev Goes : (Name → List Wire) → Wire → (Name → List Wire) → Type 0
  Goes t w u = Went Name Wire (net g whole traces) t w u

  -- the environment is ahead of a process by inputs alone
  abbrev Lags : (Name → List Wire) → ℕ → Type 0
  Lags t p = Ahead g.out (traces p) false (own_of t p) (part g p (word (t Env)))

  -- between two symbols: no output is under way
  record Rest (t : Name → List Wire) : Type 0 where
    pub lags : (p : ℕ) → p < g.processes → g.grants p ≡ false → Lags t p
    pub shown : (r : ℕ) → g.out r ≡ true → F t (Ask r) ≡ F t (Give r)

  abbrev Serves : Wire → (Name → List Wire) → Type 0
  Serves q t = Leads Name Wire (net g whole traces) Holds Rest q t

  -- ---- an input

  lags_taken : (t : Name → List Wire) (u : Name → List Wire) (s p : ℕ) → g.out s ≡ false → word (u Env) ≡ word (t Env) ++ s ∷ [] → own_of u p ≡ own_of t p → Lags t p → Lags u p
  lags_taken t u s p o e k a = subst (λ x. Ahead g.out (traces p) false x (part g p (word (u Env)))) (sym k) (subst (λ x. Ahead g.out (traces p) false (own_of t p) (part g p x)) (sym e)
      (elim (cases_Bool (is_in s (g.symbols p))) [
        | inl m ↦ subst (λ x. Ahead g.out (traces p) false (own_of t p) x) (sym (part_in g p (word (t Env)) s m)) (ahead_more g.out (traces p) false (own_of t p) (part g p (word (t Env))) s a o)
        | inr m ↦ subst (λ x. Ahead g.out (traces p) false (own_of t p) x) (sym (part_out g p (word (t Env)) s m)) a
      ]))

  serve_take : (t : Name → List Wire) (s : ℕ) → Rest t → Real g (Take s) → At g whole traces Env (Take s) → Rule g whole traces Env (t Env) (Take s) → Serves (Take s) t
  serve_take t s j r at h = ends (inl refl) (r, at, h) (λ u w i. record {
    lags = λ p k n. lags_taken t u s p r.1
        (ap word (went_out g whole traces t (Take s) u w Env refl (λ e. cc)) ∙ word_end (t Env) (Take s))
        (ap word (went_away g whole traces t (Take s) u w (Process p) (λ e. cc) (λ e. cc))) (j.lags p k n);
    shown = λ x o. same_sent g whole traces t (Take s) u w (Ask x) (λ e. cc) ∙ j.shown x o ∙ sym (same_sent g whole traces t (Take s) u w (Give x) (λ e. cc));
  })

  -- ---- an output

  module _ (s : ℕ) (real : Real g (Give s)) where
    -- a process has given s, and nothing lags
    abbrev Gave : (Name → List Wire) → ℕ → Type 0
    Gave t p = Alike g.out (traces p) (own_of t p) (part g p (word (t Env)) ++ s ∷ []) × Among p (g.givers s)

    -- a process lags by inputs alone, and where it makes s it is still in the list; or it has given s
    abbrev Stand : List ℕ → (Name → List Wire) → ℕ → Type 0
    Stand todo t p = (Lags t p × (Among p (g.givers s) → Among p todo)) ⊎ Gave t p

    -- all but the processes of a list have given s
    abbrev Each : List ℕ → (Name → List Wire) → Type 0
    Each todo t = (p : ℕ) → p < g.processes → g.grants p ≡ false → Stand todo t p

    -- s may be shown, and the processes of a list are still to give it
    record Mid (todo : List ℕ) (t : Name → List Wire) : Type 0 where
      pub may : whole (word (t Env) ++ s ∷ [])
      pub each : Each todo t
      pub shown : (r : ℕ) → g.out r ≡ true → F t (Ask r) ≡ F t (Give r)

    -- each process has given s, and the C too
    record Asked (t : Name → List Wire) : Type 0 where
      pub may : whole (word (t Env) ++ s ∷ [])
      pub each : Each [] t
      pub asks : F t (Ask s) ≡ suc (F t (Give s))
      pub shown : (r : ℕ) → g.out r ≡ true → (r ≡ s → ⊥) → F t (Ask r) ≡ F t (Give r)

    -- where neither the environment nor the process does anything
    stand_same : (todo : List ℕ) (t u : Name → List Wire) (p : ℕ) → u Env ≡ t Env → u (Process p) ≡ t (Process p) → Stand todo t p → Stand todo u p
    stand_same todo t u p e h c =
        subst (λ x. (Ahead g.out (traces p) false (word x) (part g p (word (u Env))) × (Among p (g.givers s) → Among p todo)) ⊎ (Alike g.out (traces p) (word x) (part g p (word (u Env)) ++ s ∷ []) × Among p (g.givers s)))
        (sym h)
        (subst (λ x. (Ahead g.out (traces p) false (own_of t p) (part g p (word x)) × (Among p (g.givers s) → Among p todo)) ⊎ (Alike g.out (traces p) (own_of t p) (part g p (word x) ++ s ∷ []) × Among p (g.givers s)))
        (sym e) c)

    each_same : (todo : List ℕ) (t u : Name → List Wire) → u Env ≡ t Env → ((p : ℕ) → u (Process p) ≡ t (Process p)) → Each todo t → Each todo u
    each_same todo t u e h each p k n = stand_same todo t u p e (h p) (each p k n)

    asked_kept : (t : Name → List Wire) (w : Wire) (u : Name → List Wire) → Goes t w u → (driver g w ≡ Env → ⊥) → (receiver g w ≡ Env → ⊥) → ((p : ℕ) → driver g w ≡ Process p → ⊥)
        → ((p : ℕ) → receiver g w ≡ Process p → ⊥) → ((r : ℕ) → Ask r ≡ w → ⊥) → ((r : ℕ) → Give r ≡ w → ⊥) → Asked t → Asked u
    asked_kept t w u h a b x y c d k = record {
      may = subst (λ z. whole (word z ++ s ∷ [])) (sym (went_away g whole traces t w u h Env a b)) k.may;
      each = each_same [] t u (went_away g whole traces t w u h Env a b) (λ p. went_away g whole traces t w u h (Process p) (x p) (y p)) k.each;
      asks = same_sent g whole traces t w u h (Ask s) (c s) ∙ k.asks ∙ ap suc (sym (same_sent g whole traces t w u h (Give s) (d s)));
      shown = λ r o z. same_sent g whole traces t w u h (Ask r) (c r) ∙ k.shown r o z ∙ sym (same_sent g whole traces t w u h (Give r) (d r));
    }

    -- ---- it is shown

    give_may : (t : Name → List Wire) (o : Option ℕ) → g.owner s ≡ o
        → tally same_wire naught (t (shown_by o s)) (Give s) < tally same_wire naught (t (shown_by o s)) (Ask s)
        → ((p : ℕ) → g.owner s ≡ Some p → gifts g (F t) p < P t (Token p)) → Rule g whole traces (shown_by o s) (t (shown_by o s)) (Give s)
    give_may t None z less tokens = inr (inl refl, (less, tt))
    give_may t (Some p) z less tokens =
        let k : (g.grants p ≡ true) × Among s (g.requests p) = tied.owns s p real.1 z in
        inr (inr (s, refl, k.1, less, omega (arith, tokens p z, gifts_at g whole traces tied t p k.0)))

    lags_shown : (t u : Name → List Wire) (p : ℕ) → p < g.processes → g.grants p ≡ false → word (u Env) ≡ word (t Env) ++ s ∷ [] → own_of u p ≡ own_of t p → (Lags t p × (Among p (g.givers s) → ⊥)) ⊎ Gave t p → Lags u p
    lags_shown t u p k n e h c = subst (λ x. Ahead g.out (traces p) false x (part g p (word (u Env)))) (sym h) (subst (λ x. Ahead g.out (traces p) false (own_of t p) (part g p x)) (sym e) (by c))
      where
        by : (Lags t p × (Among p (g.givers s) → ⊥)) ⊎ Gave t p → Ahead g.out (traces p) false (own_of t p) (part g p (word (t Env) ++ s ∷ []))
        by (inl (a, none)) = elim (cases_Bool (is_in s (g.symbols p))) [
          | inl m ↦ absurd (none ((tied.giver s p).1 (k, n, in_among s (g.symbols p) m)))
          | inr m ↦ subst (λ x. Ahead g.out (traces p) false (own_of t p) x) (sym (part_out g p (word (t Env)) s m)) a
        ]
        by (inr (a, b)) =
            let m : is_in s (g.symbols p) ≡ true = among_in s (g.symbols p) ((tied.giver s p).0 b).2 in
            subst (λ x. Ahead g.out (traces p) false (own_of t p) x) (sym (part_in g p (word (t Env)) s m)) (record {
              more = [];
              all = tt;
              alike = subst (λ x. Alike g.out (traces p) x (part g p (word (t Env)) ++ s ∷ [])) (sym (append-nil (own_of t p))) a;
            })

    show : (t : Name → List Wire) → Holds t → Even g whole traces t → Asked t → ((p : ℕ) → g.owner s ≡ Some p → gifts g (F t) p < P t (Token p)) → Serves (Give s) t
    show t i even k tokens =
        let less : F t (Give s) < P t (Ask s) = omega (arith, k.asks, even (Ask s)) in
        ends (inr refl) (real, inl refl, give_may t (g.owner s) refl less tokens) (λ u w j. record {
          lags = λ p x n. lags_shown t u p x n
              (ap word (went_in g whole traces t (Give s) u w Env (shown_env (g.owner s) s) refl) ∙ word_end (t Env) (Give s))
              (ap word (went_away g whole traces t (Give s) u w (Process p) (shown_process (g.owner s) s p) (λ e. cc))) (k.each p x n);
          shown = λ r o. elim (cases_eq r s) [
            | inl z ↦ subst (λ y. F u (Ask y) ≡ F u (Give y)) (sym z)
                (same_sent g whole traces t (Give s) u w (Ask s) (λ e. cc) ∙ k.asks ∙ sym (more_sent g whole traces t (Give s) u w))
            | inr z ↦ same_sent g whole traces t (Give s) u w (Ask r) (λ e. cc) ∙ k.shown r o z ∙ sym (same_sent g whole traces t (Give s) u w (Give r) (λ e. let y : r ≡ s = cc in z y))
          ];
        })

    -- ---- what its grant lags by

    module _ (p : ℕ) (owner : g.owner s ≡ Some p) where
      gives_it : (g.grants p ≡ true) × Among s (g.requests p)
      gives_it = tied.owns s p real.1 owner

      abbrev known : p < g.processes
      known = tied.grant_known p gives_it.0

      show_by : (t : Name → List Wire) → Holds t → Even g whole traces t → Asked t → gifts g (F t) p < P t (Token p) → Serves (Give s) t
      show_by t i even k less = show t i even k (λ q e. let z : p ≡ q = cc_some p q (sym owner ∙ e) in subst (λ y. gifts g (F t) y < P t (Token y)) z less)
        where
          cc_some : (a b : ℕ) → Some a ≡ Some b → a ≡ b
          cc_some a b e = cc

      serve_token : (t : Name → List Wire) → Holds t → Even g whole traces t → Asked t → F t (Token p) < P t (Return p) + start g p → Serves (Give s) t
      serve_token t i even k less =
          let r : Ring g (F t) (P t) p = ring g (F t) (P t) (λ v. inl (even v)) i.ledger (sides g whole traces tied t i) p gives_it.0 in
          let low : P t (Return p) + start g p ≤ suc (F t (Token p)) = omega (arith, r.gave, r.lent, r.token, r.return, r.merged, r.back, r.spread, r.take, r.high) in
          pulls (Token p) (λ e. cc) (λ e. cc)
          ((known, gives_it.0), inl refl, gate_may (g.lends p) (Return p) (Token p) (tally same_wire naught (t (Gate p))) less low)
          (λ u w j. show_by u j (went_even g whole traces t (Token p) u w even)
          (asked_kept t (Token p) u w (λ e. cc) (λ e. cc) (λ q e. cc) (λ q e. cc) (λ r e. cc) (λ r e. cc) k)
          (omega (
            arith,
            i.ledger.lent p gives_it.0,
            more_got g whole traces t (Token p) u w,
            sum_even (λ r. F u (Give r)) (λ r. F t (Give r)) (g.requests p)
                (λ r a. same_sent g whole traces t (Token p) u w (Give r) (λ e. cc)),
          )))

      serve_return : (t : Name → List Wire) → Holds t → Even g whole traces t → Asked t → F t (Return p) < backs g (P t) p → Serves (Give s) t
      serve_return t i even k less =
          let sum : sum_of (tally same_wire naught (t (Returns p))) (map (λ r. Back r p) (g.returns p)) ≡ backs g (P t) p =
          sum_of_map (tally same_wire naught (t (Returns p))) (λ r. Back r p) (g.returns p) in
          pulls (Return p) (λ e. cc) (λ e. cc)
          ((known, gives_it.0), inl refl, inr (refl, omega (arith, less, sum)))
          (λ u w j. serve_token u j (went_even g whole traces t (Return p) u w even)
          (asked_kept t (Return p) u w (λ e. cc) (λ e. cc) (λ q e. cc) (λ q e. cc) (λ r e. cc) (λ r e. cc) k)
          (omega (arith, i.ledger.low (Token p), more_got g whole traces t (Return p) u w, same_sent g whole traces t (Return p) u w (Token p) (λ e. cc))))

      serve_back : (t : Name → List Wire) (r : ℕ) → Holds t → Even g whole traces t → Asked t → Among r (g.returns p) → F t (Back r p) < P t (Take r) → Serves (Give s) t
      serve_back t r i even k a less =
          let m : Among r (g.symbols p) × (g.out r ≡ false) = (tied.return p r gives_it.0).0 a in
          let b : Among p (g.takers r) = (tied.taker r p).1 (known, m.0) in
          let out : Among (Back r p) (map (copy_for g r) (g.takers r)) =
          subst (λ (x : Bool). Among (if x then Back r p else Copy r p) (map (copy_for g r) (g.takers r))) gives_it.0 (map_among (copy_for g r) (g.takers r) p b) in
          pulls (Back r p) (λ e. cc) (λ e. cc)
          ((tied.symbol_known p r known m.0, m.1, gives_it.0, b), inl refl, inr (out, (less, tt)))
          (λ u w j.
          let gap : backs g (P t) p + P u (Back r p) ≤ backs g (P u) p + P t (Back r p) = sum_gap (λ x. P t (Back x p)) (λ x. P u (Back x p)) (g.returns p)
          (λ x c. grew_le (P t) (Back r p) (P u) (went_got g whole traces t (Back r p) u w) (Back x p)) r a in
          serve_return u j (went_even g whole traces t (Back r p) u w even)
          (asked_kept t (Back r p) u w (λ e. cc) (λ e. cc) (λ q e. cc) (λ q e. cc) (λ r e. cc) (λ r e. cc) k)
          (omega (arith, gap, i.ledger.low (Return p), more_got g whole traces t (Back r p) u w, same_sent g whole traces t (Back r p) u w (Return p) (λ e. cc))))

      serve_granted : (t : Name → List Wire) → Holds t → Even g whole traces t → Asked t → Serves (Give s) t
      serve_granted t i even k = elim (cases_lt (gifts g (F t) p) (P t (Token p))) [
        | inl less ↦ show_by t i even k less
        | inr spent ↦ elim (cases_lt (F t (Token p)) (P t (Return p) + start g p)) [
          | inl less ↦ serve_token t i even k less
          | inr gate ↦ elim (cases_lt (F t (Return p)) (backs g (P t) p)) [
            | inl less ↦ serve_return t i even k less
            | inr merged ↦
                let granted = (((tied.granting p gives_it.0).gives (part g p (word (t Env))) s (among_in s (g.requests p) gives_it.1)).0
                (next_in g whole traces tied p (word (t Env)) s known ((tied.request p s gives_it.0).0 gives_it.1).0 k.may)).1 in
                let gave : gifts g (F t) p ≡ gifts g (P t) p = sum_even (λ r. F t (Give r)) (λ r. P t (Give r)) (g.requests p) (λ r a. even (Give r)) in
                let less : backs g (P t) p < asked g (F t) p = omega (
                  arith,
                  spent,
                  gate,
                  merged,
                  granted,
                  gave,
                  even (Token p),
                  even (Return p),
                  asked_count g whole traces tied t i p gives_it.0,
                  gifts_count g whole traces tied t i p gives_it.0,
                ) in
                let (r, a, late) = sum_less (λ r. P t (Back r p)) (λ r. F t (Take r)) (g.returns p) less in
                serve_back t r i even k a (omega (arith, late, even (Back r p), even (Take r)))
          ]
        ]
      ]

    -- ---- each process has made it

    serve_owned : (o : Option ℕ) → g.owner s ≡ o → (t : Name → List Wire) → Holds t → Even g whole traces t → Asked t → Serves (Give s) t
    serve_owned None z t i even k = show t i even k (λ p e. let x : None ≡ Some p = sym z ∙ e in absurd (cc))
    serve_owned (Some p) z t i even k = serve_granted p z t i even k

    -- a process that has given s is ahead of the environment
    made_less : (t : Name → List Wire) (p : ℕ) → Holds t → Even g whole traces t → Mid [] t → Among p (g.givers s) → F t (Ask s) < P t (Made s p)
    made_less t p i even k a = by (k.each p b.0 b.1)
      where
        b : (p < g.processes) × (g.grants p ≡ false) × Among s (g.symbols p)
        b = (tied.giver s p).0 a

        by : (Lags t p × (Among p (g.givers s) → ⊥)) ⊎ Gave t p → F t (Ask s) < P t (Made s p)
        by (inl (x, none)) = absurd (none a)
        by (inr (x, c)) = omega (
          arith,
          x.even s,
          times_append s (part g p (word (t Env))) (s ∷ []),
          one_same s s refl,
          part_count g whole traces tied t i s p b.2,
          give_count g whole traces tied t i s real.1,
          made_count g whole traces tied t i s p real.1,
          k.shown s real.1,
          even (Give s),
          even (Made s p),
        )

    serve_ask : (t : Name → List Wire) → Holds t → Even g whole traces t → Mid [] t → Serves (Give s) t
    serve_ask t i even k = pulls (Ask s) (λ e. cc) (shown_env (g.owner s) s)
        (real, inl refl, inr (inl refl, all_map_by (λ v. F t (Ask s) < tally same_wire naught (t (Join s)) v) (λ p. Made s p) (g.givers s) (λ p a. made_less t p i even k a)))
        (λ u w j.
        let away : u Env ≡ t Env = went_away g whole traces t (Ask s) u w Env (λ e. cc) (shown_env (g.owner s) s) in
        serve_owned (g.owner s) refl u j (went_even g whole traces t (Ask s) u w even) (record {
          may = subst (λ z. whole (word z ++ s ∷ [])) (sym away) k.may;
          each = each_same [] t u away (λ p. went_away g whole traces t (Ask s) u w (Process p) (λ e. cc) (shown_process (g.owner s) s p)) k.each;
          asks = more_sent g whole traces t (Ask s) u w ∙ ap suc (k.shown s real.1 ∙ sym (same_sent g whole traces t (Ask s) u w (Give s) (λ e. cc)));
          shown = λ r o z. same_sent g whole traces t (Ask s) u w (Ask r) (λ e. let y : r ≡ s = cc in z y) ∙ k.shown r o ∙ sym (same_sent g whole traces t (Ask s) u w (Give r) (λ e. cc));
        }))

    stand_fewer : (p : ℕ) (rest : List ℕ) (t : Name → List Wire) (q : ℕ) → (q ≡ p → ⊥) → Stand (p ∷ rest) t q → Stand rest t q
    stand_fewer p rest t q z (inl (x, f)) = inl (x, λ c. other (f c))
      where
        other : (q ≡ p) ⊎ Among q rest → Among q rest
        other (inl e) = absurd (z e)
        other (inr a) = a
    stand_fewer p rest t q z (inr gave) = inr gave

    -- the first process of the list has given s too, and the others stay as they are
    each_at : (p : ℕ) (rest : List ℕ) (t u : Name → List Wire) → u Env ≡ t Env → ((q : ℕ) → (q ≡ p → ⊥) → u (Process q) ≡ t (Process q)) → Each (p ∷ rest) t → Gave u p → Each rest u
    each_at p rest t u e h each gave q k n = elim (cases_eq q p) [
      | inl z ↦ inr (subst (λ y. Gave u y) (sym z) gave)
      | inr z ↦ stand_fewer p rest u q z (stand_same (p ∷ rest) t u q e (h q z) (each q k n))
    ]

    -- where the others of the list are still to be served
    abbrev Onward : List ℕ → Type 0
    Onward rest = (u : Name → List Wire) → Holds u → Even g whole traces u → Mid rest u → Serves (Give s) u

    serve_made : (p : ℕ) (rest : List ℕ) → Among p (g.givers s) → Onward rest → (t : Name → List Wire) → Holds t → Even g whole traces t → Mid (p ∷ rest) t
        → Alike g.out (traces p) (own_of t p) (part g p (word (t Env))) → Serves (Give s) t
    serve_made p rest a onward t i even k alike =
        let b : (p < g.processes) × (g.grants p ≡ false) × Among s (g.symbols p) = (tied.giver s p).0 a in
        pulls (Made s p) (λ e. cc) (λ e. cc) ((real.0, real.1, a), inl refl, alike.back (s ∷ []) (next_in g whole traces tied p (word (t Env)) s b.0 b.2 k.may))
        (λ u w j.
        let away : u Env ≡ t Env = went_away g whole traces t (Made s p) u w Env (λ e. cc) (λ e. cc) in
        let own : own_of u p ≡ own_of t p ++ s ∷ [] = ap word (went_out g whole traces t (Made s p) u w (Process p) refl (λ e. cc)) ∙ word_end (t (Process p)) (Made s p) in
        let gave : Gave u p = (
          subst (λ x. Alike g.out (traces p) x (part g p (word (u Env)) ++ s ∷ [])) (sym own)
              (subst (λ x. Alike g.out (traces p) (own_of t p ++ s ∷ []) (part g p (word x) ++ s ∷ [])) (sym away)
              (alike_more g.out (traces p) (own_of t p) (part g p (word (t Env))) (s ∷ []) alike)),
          a,
        ) in
        onward u j (went_even g whole traces t (Made s p) u w even) (record {
          may = subst (λ z. whole (word z ++ s ∷ [])) (sym away) k.may;
          each = each_at p rest t u away (λ q z. went_away g whole traces t (Made s p) u w (Process q) (λ e. let y : q ≡ p = cc in z y) (λ e. cc)) k.each gave;
          shown = λ r o. same_sent g whole traces t (Made s p) u w (Ask r) (λ e. cc) ∙ k.shown r o ∙ sym (same_sent g whole traces t (Made s p) u w (Give r) (λ e. cc));
        }))

    -- an input by which the process lags
    copy_goes : (p x : ℕ) (m : List ℕ) (t : Name → List Wire) → Holds t → Even g whole traces t → p < g.processes → g.grants p ≡ false → g.out x ≡ false
        → Alike g.out (traces p) (own_of t p ++ x ∷ m) (part g p (word (t Env))) → Real g (Copy x p) × At g whole traces (Spread x) (Copy x p) × Rule g whole traces (Spread x) (t (Spread x)) (Copy x p)
    copy_goes p x m t i even low n o alike =
        let all : traces p (own_of t p ++ x ∷ m) = alike_trace g.out (traces p) (part g p (word (t Env))) (own_of t p ++ x ∷ m)
        (alike_back g.out (traces p) (own_of t p ++ x ∷ m) (part g p (word (t Env))) alike) (i.close.apart p low n).two in
        let one : traces p (own_of t p ++ x ∷ []) = (tied.phased p low).prefix (own_of t p ++ x ∷ []) m (subst (traces p) (sym (append_assoc (own_of t p) (x ∷ []) m)) all) in
        let has : Among x (g.symbols p) = tied.has p (own_of t p) x low one in
        let taker : Among p (g.takers x) = (tied.taker x p).1 (low, has) in
        let out : Among (Copy x p) (map (copy_for g x) (g.takers x)) =
        subst (λ (y : Bool). Among (if y then Back x p else Copy x p) (map (copy_for g x) (g.takers x))) n (map_among (copy_for g x) (g.takers x) p taker) in
        let less : F t (Copy x p) < P t (Take x) = omega (
          arith,
          even (Copy x p),
          even (Take x),
          copy_count g whole traces tied t i x p o,
          take_count g whole traces tied t i x o,
          part_count g whole traces tied t i x p has,
          alike.even x,
          times_append x (own_of t p) (x ∷ m),
          one_same x x refl,
        ) in ((tied.symbol_known p x low has, o, n, taker), inl refl, inr (out, (less, tt)))

    catch_up : (p : ℕ) (rest : List ℕ) → Among p (g.givers s) → Onward rest → (m : List ℕ) → AllByRecursion (λ a. g.out a ≡ false) m → (t : Name → List Wire) → Holds t
        → Even g whole traces t → Mid (p ∷ rest) t → Alike g.out (traces p) (own_of t p ++ m) (part g p (word (t Env))) → Serves (Give s) t
    catch_up p rest a onward [] all t i even k alike =
        serve_made p rest a onward t i even k (subst (λ x. Alike g.out (traces p) x (part g p (word (t Env)))) (append-nil (own_of t p)) alike)
    catch_up p rest a onward (x ∷ m) all t i even k alike =
        let b : (p < g.processes) × (g.grants p ≡ false) × Among s (g.symbols p) = (tied.giver s p).0 a in
        pulls (Copy x p) (λ e. cc) (λ e. cc) (copy_goes p x m t i even b.0 b.1 all.0 alike)
        (λ u w j.
        let away : u Env ≡ t Env = went_away g whole traces t (Copy x p) u w Env (λ e. cc) (λ e. cc) in
        let own : own_of u p ≡ own_of t p ++ x ∷ [] = ap word (went_in g whole traces t (Copy x p) u w (Process p) (λ e. cc) refl) ∙ word_end (t (Process p)) (Copy x p) in
        let later : Alike g.out (traces p) (own_of u p ++ m) (part g p (word (u Env))) =
        subst (λ y. Alike g.out (traces p) (y ++ m) (part g p (word (u Env)))) (sym own)
        (subst (λ y. Alike g.out (traces p) ((own_of t p ++ x ∷ []) ++ m) (part g p (word y))) (sym away)
        (subst (λ y. Alike g.out (traces p) y (part g p (word (t Env)))) (sym (append_assoc (own_of t p) (x ∷ []) m)) alike)) in
        catch_up p rest a onward m all.1 u j (went_even g whole traces t (Copy x p) u w even) (record {
          may = subst (λ z. whole (word z ++ s ∷ [])) (sym away) k.may;
          each = λ q low n. elim (cases_eq q p) [
            | inl z ↦ subst (λ y. Stand (p ∷ rest) u y) (sym z) (inl (record { more = m; all = all.1; alike = later }, λ c. inl refl))
            | inr z ↦ stand_same (p ∷ rest) t u q away (went_away g whole traces t (Copy x p) u w (Process q) (λ e. cc) (λ e. let y : q ≡ p = cc in z y)) (k.each q low n)
          ];
          shown = λ r o. same_sent g whole traces t (Copy x p) u w (Ask r) (λ e. cc) ∙ k.shown r o ∙ sym (same_sent g whole traces t (Copy x p) u w (Give r) (λ e. cc));
        }) later)

    serve_one : (p : ℕ) (rest : List ℕ) → Among p (g.givers s) → Onward rest → (t : Name → List Wire) → Holds t → Even g whole traces t → Mid (p ∷ rest) t → Serves (Give s) t
    serve_one p rest a onward t i even k = by (k.each p b.0 b.1)
      where
        b : (p < g.processes) × (g.grants p ≡ false) × Among s (g.symbols p)
        b = (tied.giver s p).0 a

        by : Stand (p ∷ rest) t p → Serves (Give s) t
        by (inl (x, f)) = catch_up p rest a onward x.more x.all t i even k x.alike
        by (inr gave) = onward t i even (record { may = k.may; each = each_at p rest t t refl (λ q z. refl) k.each gave; shown = k.shown })

    serve_all : (todo : List ℕ) → ((p : ℕ) → Among p todo → Among p (g.givers s)) → (t : Name → List Wire) → Holds t → Even g whole traces t → Mid todo t → Serves (Give s) t
    serve_all [] among t i even k = serve_ask t i even k
    serve_all (p ∷ rest) among t i even k =
        serve_one p rest (among p (inl refl)) (λ u j e m. serve_all rest (λ q a. among q (inr a)) u j e m) t i even k

  leads : (t : Name → List Wire) (q : Wire) → Holds t → Rest t → Even g whole traces t → Real g q × At g whole traces Env q × Rule g whole traces Env (t Env) q → Serves q t
  leads t q i j even r = by (at_env g q (r.0, r.1))
    where
      by : Sided g Take Give q → Serves q t
      by (a, inl (e, o)) =
          let h : Real g (Take a) × At g whole traces Env (Take a) × Rule g whole traces Env (t Env) (Take a) =
          subst (λ w. Real g w × At g whole traces Env w × Rule g whole traces Env (t Env) w) e r in
          subst (λ w. Serves w t) (sym e) (serve_take t a j h.0 h.1 h.2)
      by (a, inr (e, o)) =
          let h : Real g (Give a) × At g whole traces Env (Give a) × Rule g whole traces Env (t Env) (Give a) =
          subst (λ w. Real g w × At g whole traces Env w × Rule g whole traces Env (t Env) w) e r in
          subst (λ w. Serves w t) (sym e) (serve_all a h.0 (g.givers a) (λ p c. c) t i even (record { may = h.2; each = λ p k n. inl (j.lags p k n, λ c. c); shown = j.shown }))

  pub exact : WebExact (net g whole traces)
  exact = web_exact Name Wire (net g whole traces) (Real g) Holds Rest (lawful g whole traces) (kept g whole traces tied)
      (record { lags = λ p k n. record { more = []; all = tt; alike = alike_same g.out (traces p) [] }; shown = λ r o. refl })
      (λ t q i j e r. leads t q i j e r)

pub weave_exact : (g : Ties) (whole : List ℕ → Type 0) (traces : ℕ → List ℕ → Type 0) → Tied g whole traces → WebExact (web g whole traces)
weave_exact g whole traces tied = exact g whole traces tied
