-- Each wire of a weave that is full may be handed over, and that keeps what the web keeps.
use Rattle.std.proofs.Common.{◌≡◌, inl, inr, ℕ, suc, ◌+◌, ◌<◌, Bool, true, false, List, [], ◌∷◌, ◌++◌, Option, Some, None, refl, sym, ap, subst, ◌∙◌, arith, if◌then◌else◌}
use Rattle.std.proofs.lemmas.Bool.{cases_Bool}
use Rattle.cmd_tree.specs.Rounds.{tally, naught}
use Rattle.place_graph.specs.Tale.{times}
use Rattle.process_laws.specs.Granting.{times as held}
use Rattle.net_laws.proofs.Webs.{Web}
use Rattle.net_laws.proofs.Told.{sent, got, Flows, Longer, longer_at, longer_away}
use Rattle.net_laws.proofs.Among.{Among}
use Rattle.plain_split.proofs.OneWaitTraces.{map_among, all_map_by, sum_of_map}
use Rattle.weave_split.specs.WeaveChart.{Wire, Take, Copy, Back, Made, Ask, Return, Token, Give, Name, Env, Process, Spread, Join, Returns, Gate, Sequencer, Ties, same_wire, shown_by, copy_for, receiver}
use Rattle.weave_split.proofs.WeaveWeb.{Real, GateOn, word, Rule, At, web, Tied}
use Rattle.weave_split.proofs.WeaveStretches.{Apart, follow, followed}
use Rattle.weave_split.proofs.WeaveWords.{word_end, shown_env, shown_process}
use Rattle.weave_split.proofs.WeaveLedger.{take_copied, take_backed, copy_less, back_lands, made_lands, ask_lands, return_lands, token_lands, give_made, give_granted}
use Rattle.weave_split.proofs.WeaveTraces.{part, Traces, may_show, shown, moved, in_not_out}
use Rattle.weave_split.proofs.WeaveKept.{own_of, Kept, after_land, quiet, outward, take_count, give_count, copy_count, made_count, part_count, asked_count, gifts_count, sides, gifts_at}
use Rattle.weave_split.proofs.WeaveSends.{returned, some_made}

gate_in : (b : Bool) (i o : Wire) (c : Wire → ℕ) → c i + (if b then 1 else 0) ≡ c o → GateOn b i o c i
gate_in false i o c e = inl (inl refl, (omega (arith, e), tt))
gate_in true i o c e = inr (refl, omega (arith, e))

module _ (g : Ties) (whole : List ℕ → Type 0) (traces : ℕ → List ℕ → Type 0) (tied : Tied g whole traces) where
  abbrev net : Web Name Wire
  net = web g whole traces

  abbrev Holds : (Name → List Wire) → Type 0
  Holds t = Kept g whole traces tied t

  abbrev pub Lands : Name → (Name → List Wire) → Wire → Type 0
  Lands n t w = (Real g w × At g whole traces n w × Rule g whole traces n (t n) w) × ((u : Name → List Wire) → Longer Name Wire t n w u → Kept g whole traces tied u)

  module _ (t : Name → List Wire) (f : Flows (sent net t) (got net t)) (i : Holds t) where
    abbrev Full : Wire → Type 0
    Full w = sent net t w ≡ suc (got net t w)

    copied : (s p : ℕ) → Real g (Take s) → Full (Take s) → Among p (g.takers s) → got net t (Take s) ≡ tally same_wire naught (t (Spread s)) (copy_for g s p)
    copied s p r e a = elim (cases_Bool (g.grants p)) [
      | inl n ↦ subst (λ (x : Bool). got net t (Take s) ≡ tally same_wire naught (t (Spread s)) (if x then Back s p else Copy s p)) (sym n)
          (take_backed g (sent net t) (got net t) f i.ledger (sides g whole traces tied t i) s p n (returned g whole traces tied s p (r.0, r.1, n, a)) e)
      | inr n ↦ subst (λ (x : Bool). got net t (Take s) ≡ tally same_wire naught (t (Spread s)) (if x then Back s p else Copy s p)) (sym n)
          (take_copied g (sent net t) (got net t) f i.ledger (sides g whole traces tied t i) s p (r.0, r.1, n, a) e)
    ]

    land_take : (s : ℕ) → Real g (Take s) → Full (Take s) → Lands (Spread s) t (Take s)
    land_take s r e = (
      (r, inr refl, inl (inl refl, all_map_by (λ o. tally same_wire naught (t (Spread s)) (Take s) ≡ tally same_wire naught (t (Spread s)) o) (copy_for g s) (g.takers s) (λ p a. copied s p r e a))),
      λ u m. after_land g whole traces tied t (Take s) u i r m (quiet g whole traces tied t (Spread s) (Take s) u m (λ e. cc) (λ q e. cc) i.close),
    )

    land_copy : (s p : ℕ) → Real g (Copy s p) → Full (Copy s p) → Lands (Process p) t (Copy s p)
    land_copy s p r e =
        let a : (p < g.processes) × Among s (g.symbols p) = (tied.taker s p).0 r.3 in
        let apart : Apart g.out (traces p) false true (own_of t p) (part g p (word (t Env))) = i.close.apart p a.0 r.2 in
        let less : times s (own_of t p) < times s (part g p (word (t Env))) = omega (
          arith,
          copy_less g (sent net t) (got net t) f i.ledger (sides g whole traces tied t i) s p e,
          part_count g whole traces tied t i s p a.1,
          take_count g whole traces tied t i s r.1,
          copy_count g whole traces tied t i s p r.1,
        ) in (
          (r, inr refl, (follow g.out (traces p) (tied.phased p a.0) false true (own_of t p) (part g p (word (t Env))) s in_not_out apart r.1 less).0),
          λ u m.
              let here : own_of u p ≡ own_of t p ++ s ∷ [] = ap word (longer_at t (Process p) (Copy s p) u m (Process p) refl) ∙ word_end (t (Process p)) (Copy s p) in
              let close : Traces g whole traces tied (word (t Env)) (own_of u) = moved g whole traces tied (word (t Env)) (own_of t) p (own_of u) i.close
              (subst (λ x. Apart g.out (traces p) false true x (part g p (word (t Env)))) (sym here)
              (followed g.out (traces p) (tied.phased p a.0) false true (own_of t p) (part g p (word (t Env))) s in_not_out apart r.1 less))
              (λ q z. ap word (longer_away t (Process p) (Copy s p) u m (Process q) (λ e. let y : q ≡ p = cc in z y))) in
              after_land g whole traces tied t (Copy s p) u i r m
              (subst (λ x. Traces g whole traces tied x (own_of u)) (ap word (sym (longer_away t (Process p) (Copy s p) u m Env (λ e. cc)))) close),
        )

    land_back : (s p : ℕ) → Real g (Back s p) → Full (Back s p) → Lands (Returns p) t (Back s p)
    land_back s p r e =
        let a : Among s (g.returns p) = returned g whole traces tied s p r in (
          (
            r,
            inr refl,
            inl (
              map_among (λ x. Back x p) (g.returns p) s a,
              sum_of_map (tally same_wire naught (t (Returns p))) (λ x. Back x p) (g.returns p)
                  ∙ back_lands g (sent net t) (got net t) f i.ledger (sides g whole traces tied t i) s p r.2 a e,
            ),
          ),
          λ u m. after_land g whole traces tied t (Back s p) u i r m (quiet g whole traces tied t (Returns p) (Back s p) u m (λ e. cc) (λ q e. cc) i.close),
        )

    land_made : (s p : ℕ) → Real g (Made s p) → Full (Made s p) → Lands (Join s) t (Made s p)
    land_made s p r e = (
      (
        r,
        inr refl,
        inl (
          map_among (λ x. Made s x) (g.givers s) p r.2,
          (made_lands g (sent net t) (got net t) f i.ledger (sides g whole traces tied t i) s p r e, tt),
        ),
      ),
      λ u m. after_land g whole traces tied t (Made s p) u i r m (quiet g whole traces tied t (Join s) (Made s p) u m (λ e. cc) (λ q e. cc) i.close),
    )

    -- a request may come where it was granted as often
    ask_may : (s : ℕ) → Real g (Ask s) → (o : Option ℕ) → g.owner s ≡ o
        → tally same_wire naught (t (shown_by o s)) (Ask s) ≡ tally same_wire naught (t (shown_by o s)) (Give s) → Rule g whole traces (shown_by o s) (t (shown_by o s)) (Ask s)
    ask_may s r None z e = inl (inl refl, (e, tt))
    ask_may s r (Some p) z e = inl (s, refl, (tied.owns s p r.1 z).1, e)

    land_ask : (s : ℕ) → Real g (Ask s) → Full (Ask s) → Lands (shown_by (g.owner s) s) t (Ask s)
    land_ask s r e =
        let (p, real) = some_made g whole traces tied s r in (
          (r, inr refl, ask_may s r (g.owner s) refl (ask_lands g (sent net t) (got net t) f i.ledger (sides g whole traces tied t i) s p real e)),
          λ u m. after_land g whole traces tied t (Ask s) u i r m
              (quiet g whole traces tied t (shown_by (g.owner s) s) (Ask s) u m (shown_env (g.owner s) s) (λ q e. shown_process (g.owner s) s q e) i.close),
        )

    land_return : (p : ℕ) → Real g (Return p) → Full (Return p) → Lands (Gate p) t (Return p)
    land_return p r e = (
      (
        r,
        inr refl,
        gate_in (g.lends p) (Return p) (Token p) (tally same_wire naught (t (Gate p)))
            (return_lands g (sent net t) (got net t) f i.ledger (sides g whole traces tied t i) p r.1 e),
      ),
      λ u m. after_land g whole traces tied t (Return p) u i r m (quiet g whole traces tied t (Gate p) (Return p) u m (λ e. cc) (λ q e. cc) i.close),
    )

    land_token : (p : ℕ) → Real g (Token p) → Full (Token p) → Lands (Sequencer p) t (Token p)
    land_token p r e = (
      (
        r,
        inr refl,
        inr (inl (
          refl,
          token_lands g (sent net t) (got net t) f i.ledger (sides g whole traces tied t i) p r.1 e ∙ sym (gifts_at g whole traces tied t p r.1),
        )),
      ),
      λ u m. after_land g whole traces tied t (Token p) u i r m (quiet g whole traces tied t (Sequencer p) (Token p) u m (λ e. cc) (λ q e. cc) i.close),
    )

    land_give : (s : ℕ) → Real g (Give s) → Full (Give s) → Lands Env t (Give s)
    land_give s r e =
        let less : (p : ℕ) → p < g.processes → g.grants p ≡ false → Among s (g.symbols p) → times s (part g p (word (t Env))) < times s (own_of t p) =
        λ p k n a. omega (
          arith,
          give_made g (sent net t) (got net t) f i.ledger (sides g whole traces tied t i) s p (r.0, r.1, (tied.giver s p).1 (k, n, a)) e,
          part_count g whole traces tied t i s p a,
          give_count g whole traces tied t i s r.1,
          made_count g whole traces tied t i s p r.1,
        ) in
        let more : (p : ℕ) → g.grants p ≡ true → Among s (g.requests p)
        → held (g.requests p) (part g p (word (t Env))) < held (g.returns p) (part g p (word (t Env))) + (if g.lends p then 1 else 0) =
        λ p n a. omega (
          arith,
          give_granted g (sent net t) (got net t) f i.ledger (sides g whole traces tied t i) s p n a e,
          asked_count g whole traces tied t i p n,
          gifts_count g whole traces tied t i p n,
        ) in
        let may : whole (word (t Env) ++ s ∷ []) = may_show g whole traces tied (word (t Env)) (own_of t) s i.close r.0 r.1 less more in (
          (r, inr refl, may),
          λ u m. after_land g whole traces tied t (Give s) u i r m
              (outward g whole traces tied t (Give s) u m (shown g whole traces tied (word (t Env)) (own_of t) s i.close r.1 may less)),
        )

    pub lands : (w : Wire) → Real g w → Full w → Lands (receiver g w) t w
    lands (Take s) r e = land_take s r e
    lands (Copy s p) r e = land_copy s p r e
    lands (Back s p) r e = land_back s p r e
    lands (Made s p) r e = land_made s p r e
    lands (Ask s) r e = land_ask s r e
    lands (Return p) r e = land_return p r e
    lands (Token p) r e = land_token p r e
    lands (Give s) r e = land_give s r e
