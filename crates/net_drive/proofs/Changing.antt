-- Which events an applied event changes.
use Rattle.std.proofs.Common.{◌≡◌, ◌≢◌, inl, inr, ◌↔◌, ℕ, suc, Bool, true, false, if◌then◌else◌, List, [], ◌∷◌, ◌++◌, Option, Some, None, refl, sym, ap, ◌∙◌, subst, eq-eqb}
use Rattle.std.specs.Prelude.{slice_get, nat_lt, option_map, filter}
use Rattle.std.specs.List.{AllByRecursion}
use Rattle.std.proofs.lemmas.Bool.{cases_eq}
use Rattle.std.proofs.lemmas.List.{append-nil}
use Rattle.std.proofs.lemmas.List.Elements.{filter-append}
use Rattle.cmd_tree.specs.declared.tree.Proc.{Proc}
use Rattle.cmd_tree.specs.declared.command.Command.{Command}
use Rattle.cmd_tree.specs.Limits.{marks_of_proc}
use Rattle.cmd_tree.specs.Meaning.{TraceOf, Trace, has_symbol, project}
use Rattle.cmd_tree.proofs.Prefixes.{Trace-prefix}
use Rattle.net_core.specs.declared.spec.NodeSpec.{NodeSpec}
use Rattle.net_core.specs.declared.spec.NodeSpec.TheVariants.{Cmd}
use Rattle.net_core.specs.Specs.{May}
use Rattle.net_core.specs.Runs.{State, Enabled, grow, put}
use Rattle.net_core.specs.Runs as runs
use Rattle.net_core.specs.Wiring.{Node, Circuit}
use Rattle.net_core.specs.Networks.{gives, fabric, may_of, spec_of, IsSpecified}
use Rattle.net_core.proofs.Updates.{grow_same, grow_other, put_other}
use Rattle.replay.specs.declared.event.Event.{Event}
use Rattle.replay.specs.declared.event.Event.TheVariants.{Give, Pass, Fire, Unknown}
use Rattle.replay.specs.declared.event.Answer.TheVariants.{Done}
use Rattle.replay.specs.declared.step.Step.{Step}
use Rattle.replay.specs.Answers.{output_at, event_of, IsAnswer, IsAnswerTo, MayHappen, IsEnabled, left_by}
use Rattle.replay.specs.Mirror.Steps.{step_by, step_for, moved, MayTake}
use Rattle.replay.proofs.Judging.{mapped_from, done_may, moved_by}
use Rattle.net_drive.specs.Changes.{Share, Concerns}

-- ---- traces

project_with : (q : Proc) (xs : List ℕ) (b : ℕ) → has_symbol (marks_of_proc q) b ≡ true → project q (xs ++ b ∷ []) ≡ project q xs ++ b ∷ []
project_with q xs b h = filter-append (has_symbol (marks_of_proc q)) xs (b ∷ []) ∙ ap (λ ys. project q xs ++ ys) (one (has_symbol (marks_of_proc q)) h)
  where
    one : (f : ℕ → Bool) → f b ≡ true → filter f (b ∷ []) ≡ b ∷ []
    one f e = rw e refl

project_without : (q : Proc) (xs : List ℕ) (b : ℕ) → has_symbol (marks_of_proc q) b ≡ false → project q (xs ++ b ∷ []) ≡ project q xs
project_without q xs b h =
    filter-append (has_symbol (marks_of_proc q)) xs (b ∷ []) ∙ ap (λ ys. project q xs ++ ys) (one (has_symbol (marks_of_proc q)) h) ∙ append-nil (project q xs)
  where
    one : (f : ℕ → Bool) → f b ≡ false → filter f (b ∷ []) ≡ []
    one f e = rw e refl

-- no process has both
abbrev Apart : List Proc → ℕ → ℕ → Type 0
Apart ps a b = (i : ℕ) (q : Proc) → slice_get ps i ≡ Some q → has_symbol (marks_of_proc q) a ≡ true → has_symbol (marks_of_proc q) b ≡ true → ⊥

abbrev Each : List Proc → List ℕ → Type 0
Each ps t = AllByRecursion (λ q. TraceOf q (project q t)) ps

module _ (t : List ℕ) (a b : ℕ) where
  on_one : (q : Proc) → (has_symbol (marks_of_proc q) a ≡ true → has_symbol (marks_of_proc q) b ≡ true → ⊥)
      → TraceOf q (project q (t ++ a ∷ [])) → TraceOf q (project q (t ++ b ∷ [])) → TraceOf q (project q (t ++ a ∷ [] ++ b ∷ []))
  on_one q apart had has = by (has_symbol (marks_of_proc q) a) (has_symbol (marks_of_proc q) b) refl refl
    where
      by : (x y : Bool) → has_symbol (marks_of_proc q) a ≡ x → has_symbol (marks_of_proc q) b ≡ y → TraceOf q (project q (t ++ a ∷ [] ++ b ∷ []))
      by x false ha hb = subst (TraceOf q) (sym (project_without q (t ++ a ∷ []) b hb)) had
      by true true ha hb = absurd (apart ha hb)
      by false true ha hb = subst (TraceOf q) (project_with q t b hb ∙ ap (λ ys. ys ++ b ∷ []) (sym (project_without q t a ha))
          ∙ sym (project_with q (t ++ a ∷ []) b hb)) has

  back_one : (q : Proc) → (has_symbol (marks_of_proc q) a ≡ true → has_symbol (marks_of_proc q) b ≡ true → ⊥)
      → TraceOf q (project q t) → TraceOf q (project q (t ++ a ∷ [] ++ b ∷ [])) → TraceOf q (project q (t ++ b ∷ []))
  back_one q apart was has = by (has_symbol (marks_of_proc q) a) (has_symbol (marks_of_proc q) b) refl refl
    where
      by : (x y : Bool) → has_symbol (marks_of_proc q) a ≡ x → has_symbol (marks_of_proc q) b ≡ y → TraceOf q (project q (t ++ b ∷ []))
      by x false ha hb = subst (TraceOf q) (sym (project_without q t b hb)) was
      by true true ha hb = absurd (apart ha hb)
      by false true ha hb = subst (TraceOf q) (sym (project_with q t b hb ∙ ap (λ ys. ys ++ b ∷ []) (sym (project_without q t a ha))
          ∙ sym (project_with q (t ++ a ∷ []) b hb))) has

  on_each : (ps : List Proc) → Apart ps a b → Each ps (t ++ a ∷ []) → Each ps (t ++ b ∷ []) → Each ps (t ++ a ∷ [] ++ b ∷ [])
  on_each [] apart had has = tt
  on_each (q ∷ ps) apart had has = (on_one q (apart 0 q refl) had.0 has.0, on_each ps (λ i. apart (suc i)) had.1 has.1)

  back_each : (ps : List Proc) → Apart ps a b → Each ps t → Each ps (t ++ a ∷ [] ++ b ∷ []) → Each ps (t ++ b ∷ [])
  back_each [] apart had has = tt
  back_each (q ∷ ps) apart had has = (back_one q (apart 0 q refl) had.0 has.0, back_each ps (λ i. apart (suc i)) had.1 has.1)

all_join : (P : ℕ → Type 0) (xs ys : List ℕ) (b : ℕ) → AllByRecursion P xs → AllByRecursion P (ys ++ b ∷ []) → AllByRecursion P (xs ++ b ∷ [])
all_join P [] [] b h k = k
all_join P [] (y ∷ ys) b h k = all_join P [] ys b h k.1
all_join P (x ∷ xs) ys b h k = (h.0, all_join P xs ys b h.1 k)

pub apart_traces : (ps : List Proc) (t : List ℕ) (a b : ℕ) → (Share ps a b → ⊥) → Trace ps (t ++ a ∷ [])
    → Trace ps (t ++ b ∷ []) ↔ Trace ps (t ++ a ∷ [] ++ b ∷ [])
apart_traces ps t a b not had = (
  λ has. record {
    known = all_join _ (t ++ a ∷ []) t b had.known has.known;
    each = on_each t a b ps apart had.each has.each;
  },
  λ has. record {
    known = all_join _ t (t ++ a ∷ []) b before.known has.known;
    each = back_each t a b ps apart before.each has.each;
  },
)
  where
    apart : Apart ps a b
    apart i q at ha hb = not (record { number = i; process = q; at = at; first = ha; second = hb })

    before : Trace ps t
    before = Trace-prefix ps t (a ∷ []) had

-- ---- events

module _ (c : Circuit) (k : Command) (s : State) (p : Step) (specified : IsSpecified c (Cmd k)) (may : MayTake c s p) where
  abbrev u : State
  u = moved s p

  pass_kept : (w : ℕ) → p.wire ≢ w → (s.busy w ≡ true) ↔ (u.busy w ≡ true)
  pass_kept w ne = (let e = put_other s.busy p.wire p.fills w (λ q. ne (sym q)) in (λ h. e ∙ h, λ h. sym e ∙ h))

  fire_kept : (n q : ℕ) → p.node ≢ n → Enabled (fabric c) s (runs.Fire n q) ↔ Enabled (fabric c) u (runs.Fire n q)
  fire_kept n q ne =
      let e : u.trace n ≡ s.trace n = grow_other s.trace p.node p.port n (λ z. ne (sym z)) in (
        λ h. (h.0, subst (λ t. (fabric c).may n (t ++ q ∷ [])) (sym e) h.1),
        λ h. (h.0, subst (λ t. (fabric c).may n (t ++ q ∷ [])) e h.1),
      )

  may_trace : (t : List ℕ) → (fabric c).may 0 t ↔ Trace k.procs t
  unfolding May
  may_trace t = by (slice_get c.nodes 0) specified
    where
      in_spec : (x : NodeSpec) → x ≡ Cmd k → May x t ↔ Trace k.procs t
      in_spec x e = (λ h. opened (subst (λ y. May y t) e h), λ h. subst (λ y. May y t) (sym e) (closed h))
        where
          opened : May (Cmd k) t → Trace k.procs t
          opened h = h

          closed : Trace k.procs t → May (Cmd k) t
          closed h = h

      by : (o : Option Node) → spec_of o ≡ Some (Cmd k) → may_of o t ↔ Trace k.procs t
      by None e = absurd (cc)
      by (Some x) e = let is : x.spec ≡ Cmd k = cc in in_spec x.spec is

  give_kept : (b : ℕ) → p.node ≡ 0 → (Share k.procs p.port b → ⊥)
      → Enabled (fabric c) s (runs.Fire 0 b) ↔ Enabled (fabric c) u (runs.Fire 0 b)
  give_kept b z apart =
      let e : u.trace 0 ≡ s.trace 0 ++ p.port ∷ [] = grow_same s.trace p.node p.port 0 (sym z) in
      let had : Trace k.procs (s.trace 0 ++ p.port ∷ []) =
      (may_trace (s.trace 0 ++ p.port ∷ [])).0 (subst (λ n. (fabric c).may n (s.trace n ++ p.port ∷ [])) z may) in
      let both = apart_traces k.procs (s.trace 0) p.port b apart had in (
        λ h. (h.0, subst (λ t. (fabric c).may 0 (t ++ b ∷ [])) (sym e) ((may_trace (s.trace 0 ++ p.port ∷ [] ++ b ∷ [])).1 (both.0 ((may_trace (s.trace 0 ++ b ∷ [])).0 h.1)))),
        λ h. (h.0, (may_trace (s.trace 0 ++ b ∷ [])).1 (both.1 ((may_trace (s.trace 0 ++ p.port ∷ [] ++ b ∷ [])).0 (subst (λ t. (fabric c).may 0 (t ++ b ∷ [])) e h.1)))),
      )

  unchanged : (f : Event) → (Concerns k.procs p f → ⊥) → IsEnabled c s f ↔ IsEnabled c u f
  unchanged (Give b) apart = by (gives c 0 b.0)
    where
      by : (x : Bool) → MayHappen c s (if x then Some (runs.Fire 0 b.0) else None) ↔ MayHappen c u (if x then Some (runs.Fire 0 b.0) else None)
      by true = elim (cases_eq p.node 0) [
        | inl z ↦ give_kept b.0 z (λ h. apart (z, h))
        | inr ne ↦ fire_kept 0 b.0 ne
      ]
      by false = (λ h. h, λ h. h)
  unchanged (Pass w) apart = by (nat_lt w c.wires)
    where
      by : (x : Bool) → MayHappen c s (if x then Some (runs.Pass w) else None) ↔ MayHappen c u (if x then Some (runs.Pass w) else None)
      by true = pass_kept w apart
      by false = (λ h. h, λ h. h)
  unchanged (Fire n m) apart = elim (cases_eq p.node n) [
    | inl e ↦ elim (cases_eq n 0) [
      | inl z ↦ none (output_at c n m) (rw (eq-eqb n 0 z) refl)
      | inr ne ↦ absurd (apart (λ z. ne (sym e ∙ z), e))
    ]
    | inr ne ↦ by (output_at c n m) ne
  ]
    where
      none : (o : Option ℕ) → o ≡ None → MayHappen c s (option_map (runs.Fire n) o) ↔ MayHappen c u (option_map (runs.Fire n) o)
      none None e = (λ h. h, λ h. h)
      none (Some q) e = absurd (cc)

      by : (o : Option ℕ) → p.node ≢ n → MayHappen c s (option_map (runs.Fire n) o) ↔ MayHappen c u (option_map (runs.Fire n) o)
      by None ne = (λ h. h, λ h. h)
      by (Some q) ne = fire_kept n q ne
  unchanged Unknown apart = (λ h. h, λ h. h)

pub kept : (c : Circuit) (k : Command) (s : State) (e f : Event) (p : Step) → IsSpecified c (Cmd k) → step_for c e ≡ Some p
    → IsAnswer c s e Done → (Concerns k.procs p f → ⊥) → IsEnabled c s f ↔ IsEnabled c (left_by c s (event_of c e)) f
kept c k s e f p specified step done apart =
    let (ev, named, is) = mapped_from (step_by c) (event_of c e) p step in
    let may : MayTake c s p = subst (MayTake c s) (sym is) (done_may c s ev (subst (λ o. IsAnswerTo c s o Done) named done)) in
    let left : moved s p ≡ left_by c s (event_of c e) = ap (moved s) is ∙ sym (moved_by c s ev) ∙ sym (ap (left_by c s) named) in
    subst (λ (v : State). IsEnabled c s f ↔ IsEnabled c v f) left (unchanged c k s p specified may f apart)
