-- What a weave keeps of the traces of its processes: each is close to what the environment has seen of it.
use Rattle.std.proofs.Common.{◌≡◌, inl, inr, ℕ, ◌+◌, ◌<◌, Bool, true, false, true≢false, cond, List, [], ◌∷◌, ◌++◌, filter, sym, ap, subst, ◌∙◌, append-nil, if◌then◌else◌}
use Rattle.std.proofs.Math.Path.{fun_ext}
use Rattle.std.proofs.lemmas.Bool.{cases_Bool, cases_eq}
use Rattle.std.proofs.lemmas.List.Elements.{filter-append}
use Rattle.cmd_tree.specs.Lists.{is_in}
use Rattle.place_graph.specs.Tale.{times}
use Rattle.process_laws.specs.Granting.{times as held}
use Rattle.net_laws.proofs.Among.{Among}
use Rattle.plain_split.proofs.OneWaitDrawn.{among_in, in_among}
use Rattle.weave_split.specs.WeaveChart.{Ties}
use Rattle.weave_split.proofs.WeaveWeb.{Tied}
use Rattle.weave_split.proofs.WeaveStretches.{Apart, together, flip, lead, follow, followed}

-- what a process has of a trace of the command
abbrev pub part : Ties → ℕ → List ℕ → List ℕ
part g p t = filter (λ a. is_in a (g.symbols p)) t

pub part_in : (g : Ties) (p : ℕ) (t : List ℕ) (s : ℕ) → is_in s (g.symbols p) ≡ true → part g p (t ++ s ∷ []) ≡ part g p t ++ s ∷ []
part_in g p t s h = filter-append (λ a. is_in a (g.symbols p)) t (s ∷ []) ∙ ap (λ (b : Bool). part g p t ++ cond b (s ∷ []) []) h

pub part_out : (g : Ties) (p : ℕ) (t : List ℕ) (s : ℕ) → is_in s (g.symbols p) ≡ false → part g p (t ++ s ∷ []) ≡ part g p t
part_out g p t s h = filter-append (λ a. is_in a (g.symbols p)) t (s ∷ []) ∙ ap (λ (b : Bool). part g p t ++ cond b (s ∷ []) []) h ∙ append-nil (part g p t)

pub in_not_out : false ≡ true → ⊥
in_not_out e = true≢false (sym e)

pub out_not_in : true ≡ false → ⊥
out_not_in e = true≢false e

module _ (g : Ties) (whole : List ℕ → Type 0) (traces : ℕ → List ℕ → Type 0) (tied : Tied g whole traces) where
  -- the environment has seen e, and a process that is no grant has done own
  pub record Traces (e : List ℕ) (own : ℕ → List ℕ) : Type 0 where
    pub outer : whole e
    pub apart : (p : ℕ) → p < g.processes → g.grants p ≡ false → Apart g.out (traces p) false true (own p) (part g p e)
    pub granted : (p : ℕ) → g.grants p ≡ true → traces p (part g p e)

  pub traces_begin : Traces [] (λ p. [])
  traces_begin = record {
    outer = tied.empty;
    apart = λ p k n. together g.out (traces p) (tied.phased p k) false true;
    granted = λ p n. (tied.granting p n).empty;
  }

  pub traces_same : (e : List ℕ) (own : ℕ → List ℕ) (e2 : List ℕ) (own2 : ℕ → List ℕ) → e ≡ e2 → ((p : ℕ) → own2 p ≡ own p) → Traces e own → Traces e2 own2
  traces_same e own e2 own2 h k t = subst (λ x. Traces x own2) h (subst (λ o. Traces e o) (sym (fun_ext k)) t)

  -- what the environment may do a process may do
  pub next_in : (p : ℕ) (e : List ℕ) (s : ℕ) → p < g.processes → Among s (g.symbols p) → whole (e ++ s ∷ []) → traces p (part g p e ++ s ∷ [])
  next_in p e s k a h = ((tied.goes e s).0 h).2 p k a

  next_granted : (p : ℕ) (e : List ℕ) (s : ℕ) → g.grants p ≡ true → traces p (part g p e) → whole (e ++ s ∷ []) → traces p (part g p (e ++ s ∷ []))
  next_granted p e s n t h = elim (cases_Bool (is_in s (g.symbols p))) [
    | inl m ↦ subst (traces p) (sym (part_in g p e s m)) (next_in p e s (tied.grant_known p n) (in_among s (g.symbols p) m) h)
    | inr m ↦ subst (traces p) (sym (part_out g p e s m)) t
  ]

  -- the environment gives s
  pub taken : (e : List ℕ) (own : ℕ → List ℕ) (s : ℕ) → Traces e own → g.out s ≡ false → whole (e ++ s ∷ []) → Traces (e ++ s ∷ []) own
  taken e own s t o h = record {
    outer = h;
    apart = λ p k n. elim (cases_Bool (is_in s (g.symbols p))) [
      | inl m ↦ subst (λ x. Apart g.out (traces p) false true (own p) x) (sym (part_in g p e s m))
          (lead g.out (traces p) (tied.phased p k) false true (own p) (part g p e) s in_not_out (t.apart p k n) o (next_in p e s k (in_among s (g.symbols p) m) h))
      | inr m ↦ subst (λ x. Apart g.out (traces p) false true (own p) x) (sym (part_out g p e s m)) (t.apart p k n)
    ];
    granted = λ p n. next_granted p e s n (t.granted p n) h;
  }

  -- the environment may be shown s where each process that makes it is ahead by it, and the grant gives it
  pub may_show : (e : List ℕ) (own : ℕ → List ℕ) (s : ℕ) → Traces e own → s < g.names → g.out s ≡ true
      → ((p : ℕ) → p < g.processes → g.grants p ≡ false → Among s (g.symbols p) → times s (part g p e) < times s (own p))
      → ((p : ℕ) → g.grants p ≡ true → Among s (g.requests p) → held (g.requests p) (part g p e) < held (g.returns p) (part g p e) + (if g.lends p then 1 else 0))
      → whole (e ++ s ∷ [])
  may_show e own s t low o less more = (tied.goes e s).1 (
    t.outer,
    low,
    λ p k a. elim (cases_Bool (g.grants p)) [
      | inl n ↦
          let q : Among s (g.requests p) = (tied.request p s n).1 (a, o) in
          ((tied.granting p n).gives (part g p e) s (among_in s (g.requests p) q)).1 (t.granted p n, more p n q)
      | inr n ↦ (follow g.out (traces p) (tied.phased p k) true false (part g p e) (own p) s out_not_in
          (flip g.out (traces p) (tied.phased p k) false true (own p) (part g p e) (t.apart p k n)) o (less p k n a)).0
    ],
  )

  pub shown : (e : List ℕ) (own : ℕ → List ℕ) (s : ℕ) → Traces e own → g.out s ≡ true → whole (e ++ s ∷ [])
      → ((p : ℕ) → p < g.processes → g.grants p ≡ false → Among s (g.symbols p) → times s (part g p e) < times s (own p)) → Traces (e ++ s ∷ []) own
  shown e own s t o h less = record {
    outer = h;
    apart = λ p k n. elim (cases_Bool (is_in s (g.symbols p))) [
      | inl m ↦ subst (λ x. Apart g.out (traces p) false true (own p) x) (sym (part_in g p e s m))
          (flip g.out (traces p) (tied.phased p k) true false (part g p e ++ s ∷ []) (own p)
          (followed g.out (traces p) (tied.phased p k) true false (part g p e) (own p) s out_not_in
          (flip g.out (traces p) (tied.phased p k) false true (own p) (part g p e) (t.apart p k n)) o (less p k n (in_among s (g.symbols p) m))))
      | inr m ↦ subst (λ x. Apart g.out (traces p) false true (own p) x) (sym (part_out g p e s m)) (t.apart p k n)
    ];
    granted = λ p n. next_granted p e s n (t.granted p n) h;
  }

  -- one process goes on
  pub moved : (e : List ℕ) (own : ℕ → List ℕ) (p : ℕ) (own2 : ℕ → List ℕ) → Traces e own → Apart g.out (traces p) false true (own2 p) (part g p e)
      → ((q : ℕ) → (q ≡ p → ⊥) → own2 q ≡ own q) → Traces e own2
  moved e own p own2 t new others = record {
    outer = t.outer;
    apart = λ q k n. elim (cases_eq q p) [
      | inl z ↦ subst (λ x. Apart g.out (traces x) false true (own2 x) (part g x e)) (sym z) new
      | inr z ↦ subst (λ x. Apart g.out (traces q) false true x (part g q e)) (sym (others q z)) (t.apart q k n)
    ];
    granted = t.granted;
  }
