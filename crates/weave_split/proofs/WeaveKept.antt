-- What the web of a weave keeps, and how its traces tell how often each wire came.
use Rattle.std.proofs.Common.{◌≡◌, ◌⊎◌, inl, inr, ℕ, suc, ◌<◌, ◌≤◌, true, false, List, [], ◌∷◌, ◌++◌, map, refl, sym, ap, subst, ◌∙◌, arith}
use Rattle.std.specs.List.{AllByRecursion}
use Rattle.std.proofs.Math.Path.{fun_ext}
use Rattle.cmd_tree.specs.Rounds.{tally, naught}
use Rattle.place_graph.specs.Tale.{times}
use Rattle.process_laws.specs.Granting.{times as held}
use Rattle.net_laws.proofs.Webs.{Web}
use Rattle.net_laws.proofs.Told.{Lawful, sent, got, Longer, longer_at, longer_away}
use Rattle.net_laws.proofs.Woven.{grew_le, sent_grew, got_grew, got_same, sent_same}
use Rattle.net_laws.proofs.Among.{Among}
use Rattle.net_laws.proofs.Rows.{all_both}
use Rattle.plain_split.proofs.OneWaitWeb.{sum_of}
use Rattle.plain_split.proofs.OneWaitTraces.{sum_of_map}
use Rattle.weave_split.specs.WeaveChart.{Wire, Take, Copy, Made, Token, Give, Name, Env, Process, Sequencer, Ties, same_wire, shown_by, driver, receiver}
use Rattle.weave_split.proofs.WeaveWeb.{Real, symbol, word, web, Tied, lawful}
use Rattle.weave_split.proofs.WeaveStretches.{flip, within}
use Rattle.weave_split.proofs.WeaveSums.{sum_even, times_sum, times_kept}
use Rattle.weave_split.proofs.WeaveWords.{Stands, word_end, copies, makes, takes, gives}
use Rattle.weave_split.proofs.WeaveLedger.{gifts, asked, Low, Ledger, ledger_send, ledger_land, Sides}
use Rattle.weave_split.proofs.WeaveTraces.{part, Traces, traces_same}

-- what each process has done
abbrev pub own_of : (Name → List Wire) → ℕ → List ℕ
own_of t p = word (t (Process p))

module _ (g : Ties) (whole : List ℕ → Type 0) (traces : ℕ → List ℕ → Type 0) (tied : Tied g whole traces) where
  abbrev net : Web Name Wire
  net = web g whole traces

  abbrev fine : Lawful Name Wire net
  fine = lawful g whole traces

  pub record Kept (t : Name → List Wire) : Type 0 where
    pub known : (n : Name) → AllByRecursion (Stands g n) (t n)
    pub close : Traces g whole traces tied (word (t Env)) (own_of t)
    pub ledger : Ledger g (sent net t) (got net t)

  -- ---- one wire more

  known_next : (t : Name → List Wire) (n : Name) (w : Wire) (u : Name → List Wire) → Longer Name Wire t n w u → Stands g n w
      → ((m : Name) → AllByRecursion (Stands g m) (t m)) → (m : Name) → AllByRecursion (Stands g m) (u m)
  known_next t n w u h s k m = at (h m)
    where
      at : ((m ≡ n) × (u m ≡ t m ++ w ∷ [])) ⊎ ((m ≡ n → ⊥) × (u m ≡ t m)) → AllByRecursion (Stands g m) (u m)
      at (inl (z, x)) = subst (λ v. AllByRecursion (Stands g m) v) (sym x) (all_both (Stands g m) (t m) (w ∷ []) (k m) (subst (λ y. Stands g y w) (sym z) s, tt))
      at (inr (z, x)) = subst (λ v. AllByRecursion (Stands g m) v) (sym x) (k m)

  pub after_send : (t : Name → List Wire) (w : Wire) (u : Name → List Wire) → Kept t → Real g w → Longer Name Wire t (driver g w) w u
      → Traces g whole traces tied (word (u Env)) (own_of u) → Low g (got net t) (suc (sent net t w)) w
      → ((s p : ℕ) → w ≡ Give s → g.grants p ≡ true → Among s (g.requests p) → gifts g (sent net t) p < got net t (Token p)) → Kept u
  after_send t w u i r h k low less = record {
    known = known_next t (driver g w) w u h (r, inl refl) i.known;
    close = k;
    ledger = subst (λ x. Ledger g (sent net u) x) (sym (fun_ext (got_same Name Wire net fine t w u h)))
        (ledger_send g (sent net t) (got net t) w (sent net u) tied.requests_once i.ledger (sent_grew Name Wire net fine t w u h) low less);
  }

  pub after_land : (t : Name → List Wire) (w : Wire) (u : Name → List Wire) → Kept t → Real g w → Longer Name Wire t (receiver g w) w u
      → Traces g whole traces tied (word (u Env)) (own_of u) → Kept u
  after_land t w u i r h k = record {
    known = known_next t (receiver g w) w u h (r, inr refl) i.known;
    close = k;
    ledger = subst (λ x. Ledger g x (got net u)) (sym (fun_ext (sent_same Name Wire net fine t w u h)))
        (ledger_land g (sent net t) (got net t) (got net u) i.ledger (grew_le (got net t) w (got net u) (got_grew Name Wire net fine t w u h)));
  }

  -- a wire at a component
  pub quiet : (t : Name → List Wire) (n : Name) (w : Wire) (u : Name → List Wire) → Longer Name Wire t n w u → (n ≡ Env → ⊥) → ((p : ℕ) → n ≡ Process p → ⊥)
      → Traces g whole traces tied (word (t Env)) (own_of t) → Traces g whole traces tied (word (u Env)) (own_of u)
  quiet t n w u h a b k = traces_same g whole traces tied (word (t Env)) (own_of t) (word (u Env)) (own_of u)
      (ap word (sym (longer_away t n w u h Env (λ z. a (sym z))))) (λ p. ap word (longer_away t n w u h (Process p) (λ z. b p (sym z)))) k

  -- a wire at the environment
  pub outward : (t : Name → List Wire) (w : Wire) (u : Name → List Wire) → Longer Name Wire t Env w u
      → Traces g whole traces tied (word (t Env) ++ symbol w) (own_of t) → Traces g whole traces tied (word (u Env)) (own_of u)
  outward t w u h k = traces_same g whole traces tied (word (t Env) ++ symbol w) (own_of t) (word (u Env)) (own_of u)
      (sym (ap word (longer_at t Env w u h Env refl) ∙ word_end (t Env) w)) (λ p. ap word (longer_away t Env w u h (Process p) (λ e. cc))) k

  -- ---- counts

  module _ (t : Name → List Wire) (i : Kept t) where
    pub take_count : (s : ℕ) → g.out s ≡ false → sent net t (Take s) ≡ times s (word (t Env))
    take_count s o = takes g s (t Env) (i.known Env) o

    pub give_count : (s : ℕ) → g.out s ≡ true → got net t (Give s) ≡ times s (word (t Env))
    give_count s o = gives g s (t Env) (i.known Env) o

    pub copy_count : (s p : ℕ) → g.out s ≡ false → got net t (Copy s p) ≡ times s (own_of t p)
    copy_count s p o = copies g p s (t (Process p)) (i.known (Process p)) o

    pub made_count : (s p : ℕ) → g.out s ≡ true → sent net t (Made s p) ≡ times s (own_of t p)
    made_count s p o = makes g p s (t (Process p)) (i.known (Process p)) o

    pub part_count : (s p : ℕ) → Among s (g.symbols p) → times s (part g p (word (t Env))) ≡ times s (word (t Env))
    part_count s p a = times_kept (g.symbols p) s a (word (t Env))

    pub asked_count : (p : ℕ) → g.grants p ≡ true → held (g.returns p) (part g p (word (t Env))) ≡ asked g (sent net t) p
    asked_count p h = times_sum (g.returns p) (tied.returns_once p) (part g p (word (t Env)))
        ∙ sum_even (λ s. times s (part g p (word (t Env)))) (λ s. sent net t (Take s)) (g.returns p)
        (λ s a. let k : Among s (g.symbols p) × (g.out s ≡ false) = (tied.return p s h).0 a in part_count s p k.0 ∙ sym (take_count s k.1))

    pub gifts_count : (p : ℕ) → g.grants p ≡ true → held (g.requests p) (part g p (word (t Env))) ≡ gifts g (got net t) p
    gifts_count p h = times_sum (g.requests p) (tied.requests_once p h) (part g p (word (t Env)))
        ∙ sum_even (λ s. times s (part g p (word (t Env)))) (λ s. got net t (Give s)) (g.requests p)
        (λ s a. let k : Among s (g.symbols p) × (g.out s ≡ true) = (tied.request p s h).0 a in part_count s p k.0 ∙ sym (give_count s k.1))

    pub sides : Sides g (sent net t) (got net t)
    sides = record {
      taken = λ s p r.
          let a : (p < g.processes) × Among s (g.symbols p) = (tied.taker s p).0 r.3 in
          let near : times s (part g p (word (t Env))) ≤ suc (times s (own_of t p)) =
          within g.out (traces p) (tied.phased p a.0) false true (own_of t p) (part g p (word (t Env))) s (i.close.apart p a.0 r.2) r.1 in
          omega (arith, near, part_count s p a.1, take_count s r.1, copy_count s p r.1);
      made = λ s p r.
          let a : (p < g.processes) × (g.grants p ≡ false) × Among s (g.symbols p) = (tied.giver s p).0 r.2 in
          let near : times s (own_of t p) ≤ suc (times s (part g p (word (t Env)))) =
          within g.out (traces p) (tied.phased p a.0) true false (part g p (word (t Env))) (own_of t p) s
          (flip g.out (traces p) (tied.phased p a.0) false true (own_of t p) (part g p (word (t Env))) (i.close.apart p a.0 a.1)) r.1 in
          omega (arith, near, part_count s p a.2, give_count s r.1, made_count s p r.1);
      high = λ p h. omega (arith, (tied.granting p h).high (part g p (word (t Env))) (i.close.granted p h), asked_count p h, gifts_count p h);
    }

  -- what a SEQ counts is what its grant gave
  pub gifts_at : (t : Name → List Wire) (p : ℕ) → g.grants p ≡ true → sum_of (tally same_wire naught (t (Sequencer p))) (map Give (g.requests p)) ≡ gifts g (sent net t) p
  gifts_at t p h = sum_of_map (tally same_wire naught (t (Sequencer p))) Give (g.requests p)
      ∙ sum_even (λ s. tally same_wire naught (t (Sequencer p)) (Give s)) (λ s. sent net t (Give s)) (g.requests p)
      (λ s a. ap (λ o. tally same_wire naught (t (shown_by o s)) (Give s)) (sym (tied.owned s p h a)))
