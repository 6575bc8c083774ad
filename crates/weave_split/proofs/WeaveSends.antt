-- Each wire of a weave that its driver may fire is free, and firing it keeps what the web keeps.
use Rattle.std.proofs.Common.{◌≡◌, inl, inr, ℕ, suc, ◌+◌, ◌<◌, ◌≤◌, Bool, true, false, List, [], ◌∷◌, ◌++◌, map, Option, Some, None, refl, sym, ap, subst, ◌∙◌, arith, if◌then◌else◌}
use Rattle.std.proofs.lemmas.Bool.{cases_Bool}
use Rattle.cmd_tree.specs.Rounds.{tally, naught}
use Rattle.place_graph.specs.Tale.{times}
use Rattle.place_graph.proofs.Sums.{one_same, times_append}
use Rattle.net_laws.proofs.Webs.{Web}
use Rattle.net_laws.proofs.Told.{sent, got, Flows, Longer, longer_at, longer_away}
use Rattle.net_laws.proofs.Among.{Among, all_among}
use Rattle.net_laws.proofs.Rules.{RoundsOn}
use Rattle.plain_split.proofs.OneWaitWeb.{sum_of, MergeOn}
use Rattle.plain_split.proofs.OneWaitDrawn.{among_in}
use Rattle.plain_split.proofs.OneWaitTraces.{among_map, map_among, sum_of_map}
use Rattle.weave_split.specs.WeaveChart.{Wire, Take, Copy, Back, Made, Ask, Return, Token, Give, Name, Env, Process, Spread, Join, Returns, Gate, Sequencer, Ties, same_wire, shown_by, copy_for, driver}
use Rattle.weave_split.proofs.WeaveWeb.{Real, GateOn, word, Rule, At, web, Tied}
use Rattle.weave_split.proofs.WeaveStretches.{Apart, flip, lead, within}
use Rattle.weave_split.proofs.WeaveWords.{word_end, shown_env, shown_process}
use Rattle.weave_split.proofs.WeaveLedger.{start, backs, take_free, take_free_by, copy_free, back_free, made_free, ask_free, give_free, return_free, token_free}
use Rattle.weave_split.proofs.WeaveTraces.{part, Traces, next_in, taken, moved, in_not_out, out_not_in}
use Rattle.weave_split.proofs.WeaveKept.{own_of, Kept, after_send, quiet, outward, take_count, give_count, copy_count, made_count, part_count, asked_count, gifts_count, sides, gifts_at}

-- ---- what a component says of its output

pub fork_less : (i : Wire) (os : List Wire) (o : Wire) (c : Wire → ℕ) → (o ≡ i → ⊥) → RoundsOn (i ∷ []) os c o → c o < c i
fork_less i os o c apart (inl (inl e, all)) = absurd (apart e)
fork_less i os o c apart (inl (inr e, all)) = absurd e
fork_less i os o c apart (inr (a, all)) = all.0

pub join_less : (is : List Wire) (o : Wire) (c : Wire → ℕ) → (Among o is → ⊥) → RoundsOn is (o ∷ []) c o → (i : Wire) → Among i is → c o < c i
join_less is o c apart (inl (a, all)) i b = absurd (apart a)
join_less is o c apart (inr (a, all)) i b = all_among (λ x. c o < c x) is all i b

pub merge_less : (is : List Wire) (o : Wire) (c : Wire → ℕ) → (Among o is → ⊥) → MergeOn is o c o → c o < sum_of c is
merge_less is o c apart (inl (a, e)) = absurd (apart a)
merge_less is o c apart (inr (e, less)) = less

pub gate_less : (b : Bool) (i o : Wire) (c : Wire → ℕ) → (o ≡ i → ⊥) → GateOn b i o c o → c o < c i + (if b then 1 else 0)
gate_less false i o c apart r = omega (arith, fork_less i (o ∷ []) o c apart r)
gate_less true i o c apart (inl (e, same)) = omega (arith, same)
gate_less true i o c apart (inr (e, less)) = absurd (apart e)

module _ (g : Ties) (whole : List ℕ → Type 0) (traces : ℕ → List ℕ → Type 0) (tied : Tied g whole traces) where
  abbrev net : Web Name Wire
  net = web g whole traces

  abbrev Holds : (Name → List Wire) → Type 0
  Holds t = Kept g whole traces tied t

  abbrev Goes : Name → (Name → List Wire) → Wire → Type 0
  Goes n t w = Real g w × At g whole traces n w × Rule g whole traces n (t n) w

  abbrev pub Sends : (Name → List Wire) → Wire → Type 0
  Sends t w = Real g w × (sent net t w ≡ got net t w) × ((u : Name → List Wire) → Longer Name Wire t (driver g w) w u → Kept g whole traces tied u)

  abbrev ends : (t : Name → List Wire) → Holds t → Traces g whole traces tied (word (t Env)) (own_of t)
  ends t i = i.close

  -- what comes back to a grant is one of its returns
  pub returned : (s p : ℕ) → Real g (Back s p) → Among s (g.returns p)
  returned s p r = (tied.return p s r.2).1 (((tied.taker s p).0 r.3).1, r.1)

  -- an output has a process that makes it
  pub some_made : (s : ℕ) → Real g (Give s) → (p : ℕ) × Real g (Made s p)
  some_made s r = let (p, a) = tied.some_giver s r.0 r.1 in (p, (r.0, r.1, a))

  module _ (t : Name → List Wire) (f : Flows (sent net t) (got net t)) (i : Holds t) where
    take_even : (s p : ℕ) → g.out s ≡ false → p < g.processes → Among s (g.symbols p) → whole (word (t Env) ++ s ∷ []) → sent net t (Take s) ≡ got net t (Take s)
    take_even s p o k a h = elim (cases_Bool (g.grants p)) [
      | inl n ↦
          let b : Among s (g.returns p) = (tied.return p s n).1 (a, o) in
          let full = (tied.granting p n).takes (part g p (word (t Env))) s (among_in s (g.returns p) b) (next_in g whole traces tied p (word (t Env)) s k a h) in
          take_free_by g (sent net t) (got net t) f i.ledger (sides g whole traces tied t i) s p n b
          (omega (arith, full, asked_count g whole traces tied t i p n, gifts_count g whole traces tied t i p n))
      | inr n ↦
          let new : Apart g.out (traces p) false true (own_of t p) (part g p (word (t Env)) ++ s ∷ []) =
          lead g.out (traces p) (tied.phased p k) false true (own_of t p) (part g p (word (t Env))) s in_not_out (i.close.apart p k n) o
          (next_in g whole traces tied p (word (t Env)) s k a h) in
          let near : times s (part g p (word (t Env)) ++ s ∷ []) ≤ suc (times s (own_of t p)) =
          within g.out (traces p) (tied.phased p k) false true (own_of t p) (part g p (word (t Env)) ++ s ∷ []) s new o in
          take_free g (sent net t) (got net t) f i.ledger (sides g whole traces tied t i) s p (omega (
            arith,
            near,
            times_append s (part g p (word (t Env))) (s ∷ []),
            one_same s s refl,
            part_count g whole traces tied t i s p a,
            take_count g whole traces tied t i s o,
            copy_count g whole traces tied t i s p o,
          ))
    ]

    send_take : (s : ℕ) → Goes Env t (Take s) → Sends t (Take s)
    send_take s (r, at, h) =
        let (p, b) = tied.some_taker s r.0 in
        let a : (p < g.processes) × Among s (g.symbols p) = (tied.taker s p).0 b in (
          r,
          take_even s p r.1 a.0 a.1 h,
          λ u m. after_send g whole traces tied t (Take s) u i r m
              (outward g whole traces tied t (Take s) u m (taken g whole traces tied (word (t Env)) (own_of t) s i.close r.1 h)) tt (λ q p e. absurd (cc)),
        )

    send_copy : (s p : ℕ) → Goes (Spread s) t (Copy s p) → Sends t (Copy s p)
    send_copy s p (r, at, h) =
        let less : sent net t (Copy s p) < got net t (Take s) = fork_less (Take s) (map (copy_for g s) (g.takers s)) (Copy s p) (tally same_wire naught (t (Spread s))) (λ e. cc) h in (
          r,
          copy_free g (sent net t) (got net t) f i.ledger (sides g whole traces tied t i) s p r less,
          λ u m. after_send g whole traces tied t (Copy s p) u i r m
              (quiet g whole traces tied t (Spread s) (Copy s p) u m (λ e. cc) (λ q e. cc) i.close) (omega (arith, less)) (λ q p e. absurd (cc)),
        )

    send_back : (s p : ℕ) → Goes (Spread s) t (Back s p) → Sends t (Back s p)
    send_back s p (r, at, h) =
        let less : sent net t (Back s p) < got net t (Take s) = fork_less (Take s) (map (copy_for g s) (g.takers s)) (Back s p) (tally same_wire naught (t (Spread s))) (λ e. cc) h in (
          r,
          back_free g (sent net t) (got net t) f i.ledger (sides g whole traces tied t i) s p r.2 (returned s p r) less,
          λ u m. after_send g whole traces tied t (Back s p) u i r m
              (quiet g whole traces tied t (Spread s) (Back s p) u m (λ e. cc) (λ q e. cc) i.close) (omega (arith, less)) (λ q p e. absurd (cc)),
        )

    send_made : (s p : ℕ) → Goes (Process p) t (Made s p) → Sends t (Made s p)
    send_made s p (r, at, h) =
        let a : (p < g.processes) × (g.grants p ≡ false) × Among s (g.symbols p) = (tied.giver s p).0 r.2 in
        let new : Apart g.out (traces p) true false (part g p (word (t Env))) (own_of t p ++ s ∷ []) =
        lead g.out (traces p) (tied.phased p a.0) true false (part g p (word (t Env))) (own_of t p) s out_not_in
        (flip g.out (traces p) (tied.phased p a.0) false true (own_of t p) (part g p (word (t Env))) (i.close.apart p a.0 a.1)) r.1 h in
        let near : times s (own_of t p ++ s ∷ []) ≤ suc (times s (part g p (word (t Env)))) =
        within g.out (traces p) (tied.phased p a.0) true false (part g p (word (t Env))) (own_of t p ++ s ∷ []) s new r.1 in (
          r,
          made_free g (sent net t) (got net t) f i.ledger (sides g whole traces tied t i) s p r (omega (
            arith,
            near,
            times_append s (own_of t p) (s ∷ []),
            one_same s s refl,
            part_count g whole traces tied t i s p a.2,
            give_count g whole traces tied t i s r.1,
            made_count g whole traces tied t i s p r.1,
          )),
          λ u m.
              let here : own_of u p ≡ own_of t p ++ s ∷ [] = ap word (longer_at t (Process p) (Made s p) u m (Process p) refl) ∙ word_end (t (Process p)) (Made s p) in
              let close : Traces g whole traces tied (word (t Env)) (own_of u) = moved g whole traces tied (word (t Env)) (own_of t) p (own_of u) i.close
              (subst (λ x. Apart g.out (traces p) false true x (part g p (word (t Env)))) (sym here)
              (flip g.out (traces p) (tied.phased p a.0) true false (part g p (word (t Env))) (own_of t p ++ s ∷ []) new))
              (λ q z. ap word (longer_away t (Process p) (Made s p) u m (Process q) (λ e. let y : q ≡ p = cc in z y))) in
              after_send g whole traces tied t (Made s p) u i r m
              (subst (λ x. Traces g whole traces tied x (own_of u)) (ap word (sym (longer_away t (Process p) (Made s p) u m Env (λ e. cc)))) close) tt (λ q p e. absurd (cc)),
        )

    send_ask : (s : ℕ) → Goes (Join s) t (Ask s) → Sends t (Ask s)
    send_ask s (r, at, h) =
        let none : Among (Ask s) (map (λ p. Made s p) (g.givers s)) → ⊥ = λ a. let (p, b, e) = among_map (λ p. Made s p) (g.givers s) (Ask s) a in cc in
        let less : (p : ℕ) → Among p (g.givers s) → sent net t (Ask s) < got net t (Made s p) =
        λ p a. join_less (map (λ p. Made s p) (g.givers s)) (Ask s) (tally same_wire naught (t (Join s))) none h (Made s p) (map_among (λ p. Made s p) (g.givers s) p a) in
        let (p, real) = some_made s r in (
          r,
          ask_free g (sent net t) (got net t) f i.ledger (sides g whole traces tied t i) s p real (less p real.2),
          λ u m. after_send g whole traces tied t (Ask s) u i r m
              (quiet g whole traces tied t (Join s) (Ask s) u m (λ e. cc) (λ q e. cc) i.close) (λ q a. omega (arith, less q a)) (λ q p e. absurd (cc)),
        )

    send_return : (p : ℕ) → Goes (Returns p) t (Return p) → Sends t (Return p)
    send_return p (r, at, h) =
        let none : Among (Return p) (map (λ s. Back s p) (g.returns p)) → ⊥ = λ a. let (s, b, e) = among_map (λ s. Back s p) (g.returns p) (Return p) a in cc in
        let sum : sum_of (tally same_wire naught (t (Returns p))) (map (λ s. Back s p) (g.returns p)) ≡ backs g (got net t) p =
        sum_of_map (tally same_wire naught (t (Returns p))) (λ s. Back s p) (g.returns p) in
        let few = merge_less (map (λ s. Back s p) (g.returns p)) (Return p) (tally same_wire naught (t (Returns p))) none h in
        let less : sent net t (Return p) < backs g (got net t) p = omega (arith, few, sum) in (
          r,
          return_free g (sent net t) (got net t) f i.ledger (sides g whole traces tied t i) p r.1 less,
          λ u m. after_send g whole traces tied t (Return p) u i r m
              (quiet g whole traces tied t (Returns p) (Return p) u m (λ e. cc) (λ q e. cc) i.close) (omega (arith, less)) (λ q p e. absurd (cc)),
        )

    send_token : (p : ℕ) → Goes (Gate p) t (Token p) → Sends t (Token p)
    send_token p (r, at, h) =
        let less : sent net t (Token p) < got net t (Return p) + start g p = gate_less (g.lends p) (Return p) (Token p) (tally same_wire naught (t (Gate p))) (λ e. cc) h in (
          r,
          token_free g (sent net t) (got net t) f i.ledger (sides g whole traces tied t i) p r.1 less,
          λ u m. after_send g whole traces tied t (Token p) u i r m
              (quiet g whole traces tied t (Gate p) (Token p) u m (λ e. cc) (λ q e. cc) i.close) (omega (arith, less)) (λ q p e. absurd (cc)),
        )

    -- what shows an output was asked more often, and has a token where it is a SEQ
    show_less : (s : ℕ) (o : Option ℕ) → Rule g whole traces (shown_by o s) (t (shown_by o s)) (Give s)
        → (tally same_wire naught (t (shown_by o s)) (Give s) < tally same_wire naught (t (shown_by o s)) (Ask s))
        × ((p : ℕ) → o ≡ Some p → sum_of (tally same_wire naught (t (Sequencer p))) (map Give (g.requests p)) < tally same_wire naught (t (Sequencer p)) (Token p))
    show_less s None h = (fork_less (Ask s) (Give s ∷ []) (Give s) (tally same_wire naught (t (shown_by None s))) (λ e. cc) h, λ p e. absurd (cc))
    show_less s (Some q) (inl (x, e, a, same)) = absurd (cc)
    show_less s (Some q) (inr (inl (e, same))) = absurd (cc)
    show_less s (Some q) (inr (inr (x, e, a, less, more))) =
        let z : x ≡ s = cc in (
          subst (λ y. tally same_wire naught (t (Sequencer q)) (Give y) < tally same_wire naught (t (Sequencer q)) (Ask y)) z less,
          λ p e. let y : q ≡ p = cc in
              subst (λ y. sum_of (tally same_wire naught (t (Sequencer y))) (map Give (g.requests y)) < tally same_wire naught (t (Sequencer y)) (Token y)) y more,
        )

    send_give : (s : ℕ) → Goes (shown_by (g.owner s) s) t (Give s) → Sends t (Give s)
    send_give s (r, at, h) =
        let k = show_less s (g.owner s) h in
        let less : sent net t (Give s) < got net t (Ask s) = k.0 in
        let (p, real) = some_made s r in (
          r,
          give_free g (sent net t) (got net t) f i.ledger (sides g whole traces tied t i) s p real less,
          λ u m. after_send g whole traces tied t (Give s) u i r m
              (quiet g whole traces tied t (shown_by (g.owner s) s) (Give s) u m (shown_env (g.owner s) s) (λ q e. shown_process (g.owner s) s q e) i.close) (omega (arith, less))
              (λ q p e n a.
              let z : q ≡ s = cc in
              let o : g.owner s ≡ Some p = subst (λ y. g.owner y ≡ Some p) z (tied.owned q p n a) in
              omega (arith, k.1 p o, gifts_at g whole traces tied t p n)),
        )

    pub sends : (w : Wire) → Goes (driver g w) t w → Sends t w
    sends (Take s) h = send_take s h
    sends (Copy s p) h = send_copy s p h
    sends (Back s p) h = send_back s p h
    sends (Made s p) h = send_made s p h
    sends (Ask s) h = send_ask s h
    sends (Return p) h = send_return p h
    sends (Token p) h = send_token p h
    sends (Give s) h = send_give s h
