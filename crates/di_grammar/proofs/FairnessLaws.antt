-- The laws of an admitted command, of one process of it.
use Rattle.std.proofs.Common.{◌≡◌, ◌⊎◌, inl, inr, ⊎_elim, ◌↔◌, ℕ, Bool, true, false, true≢false, IsTrue, List, refl, sym, subst}
use Rattle.std.specs.Prelude.{is_some}
use Rattle.std.specs.List.{AllByRecursion}
use Rattle.cmd_tree.specs.declared.tree.Proc.{Proc}
use Rattle.cmd_tree.specs.Limits.{IsProc, marks_of_proc}
use Rattle.cmd_tree.specs.Meaning.{TraceOf, Trace}
use Rattle.process_laws.specs.GrantForms.{plain, release, granted_of, returned_of}
use Rattle.process_laws.specs.Granting.{PlainGrant, ReleaseGrant}
use Rattle.process_laws.specs.Insensitive.{Insensitive}
use Rattle.process_laws.specs.Phased.{Phased}
use Rattle.process_laws.specs.Shape.{IsFair}
use Rattle.process_laws.specs.Steady.{Steady}
use Rattle.process_laws.proofs.Shapes.{process_steady}
use Rattle.process_laws.proofs.PhasedTraces.{steady_phased, phased_insensitive}
use Rattle.process_laws.proofs.GrantTraces.{ways_apart}
use Rattle.process_laws.proofs.GrantPhases.{not_given, plain_phased, release_phased}
use Rattle.process_laws.proofs.PlainGrants.{plain_traces}
use Rattle.process_laws.proofs.ReleaseGrants.{release_traces}
use Rattle.process_laws.proofs.Weaves.{weave_insensitive}
use Rattle.di_grammar.specs.Lists.{Each, Within}
use Rattle.di_grammar.specs.Admitted.{Admitted}
use Rattle.di_grammar.specs.EvenBursts.{KeepsBursts}
use Rattle.di_grammar.specs.Alternation.{KeepsNeighbours, KeepsRounds}
use Rattle.di_grammar.specs.Choices.{KeepsChoices}
use Rattle.di_grammar.specs.Twins.{KeepsTwins}
use Rattle.di_grammar.specs.Overlaps.{KeepsOverlaps}
use Rattle.di_grammar.specs.Grants.{Gift, GrantsPlainly, GrantsWithRelease, IsGrant}
use Rattle.di_grammar.specs.Outputs.{out_of}
use Rattle.di_grammar.specs.Mirror.Found.{found}
use Rattle.di_grammar.proofs.Forms.{grant_is}
use Rattle.di_grammar.proofs.Fairness.{fair}
use Rattle.di_grammar.proofs.FairnessGrants.{Up, Down, plain_ways, release_ways}
use Rattle.di_grammar.proofs.FairnessLists.{each_at, each_of, all_each, each_all}
use Rattle.di_grammar.proofs.FairnessMarks.{Agrees, directions_agree}

-- a process is a grant, or it is none
grant_or_not : (p : Proc) → IsGrant p ⊎ (IsGrant p → ⊥)
grant_or_not p = by (is_some (found p.lead p.body)) (grant_is p (found p.lead p.body) refl)
  where
    by : (b : Bool) → (IsTrue b ↔ IsGrant p) → IsGrant p ⊎ (IsGrant p → ⊥)
    by true h = inl (h.0 refl)
    by false h = inr (λ g. true≢false (sym (h.1 g)))

module _ (ps : List Proc) (admitted : Admitted ps) (p : Proc) (within : Within ps p) where
  pub is_fair : AllByRecursion IsProc ps → (IsGrant p → ⊥) → IsFair (out_of ps) p
  is_fair shaped other = fair ps p within (each_at IsProc ps p (all_each IsProc ps shaped) within) other
      (each_at KeepsBursts ps p admitted.bursts within)
      (each_at KeepsNeighbours ps p admitted.neighbours within)
      (each_at KeepsRounds ps p admitted.rounds within)
      (each_at KeepsChoices ps p admitted.choices within)
      (each_at KeepsTwins ps p admitted.twins within)
      (each_at KeepsOverlaps ps p admitted.overlaps within)
      admitted.directions

  pub is_steady : AllByRecursion IsProc ps → (IsGrant p → ⊥) → Steady (TraceOf p) (out_of ps)
  is_steady shaped other =
      let whole = each_at IsProc ps p (all_each IsProc ps shaped) within in
      process_steady (out_of ps) p whole (is_fair shaped other)

  -- ---- a grant

  agree : (q : Proc) → p ≡ q → Each (Agrees (out_of ps)) (marks_of_proc q)
  agree q e = subst (λ (x : Proc). Each (Agrees (out_of ps)) (marks_of_proc x)) e
      (directions_agree ps p admitted.directions within)

  pub asks_and_gives : (gs : List Gift) (g : GrantsPlainly p gs)
      → (out_of ps g.asks ≡ false) × Up (out_of ps) g.symbols
  asks_and_gives gs g = plain_ways (out_of ps) g.asks g.symbols (agree (plain g.asks g.symbols) g.is)

  pub gives_and_takes : (gs : List Gift) (g : GrantsWithRelease p gs)
      → Up (out_of ps) (granted_of g.givings) × Down (out_of ps) (returned_of g.givings)
  gives_and_takes gs g = release_ways (out_of ps) g.givings (agree (release g.givings) g.is)

  pub plain_grant : (gs : List Gift) (g : GrantsPlainly p gs) → PlainGrant g.asks g.symbols (TraceOf p)
  plain_grant gs g =
      let w = asks_and_gives gs g in
      let apart = not_given (out_of ps) g.asks g.symbols w.0 w.1 in
      let law = plain_traces g.asks g.symbols apart g.many in
      subst (λ (q : Proc). PlainGrant g.asks g.symbols (TraceOf q)) (sym g.is) law

  pub release_grant : (gs : List Gift) (g : GrantsWithRelease p gs) → ReleaseGrant g.givings (TraceOf p)
  release_grant gs g =
      let w = gives_and_takes gs g in
      let apart = ways_apart (out_of ps) (granted_of g.givings) (returned_of g.givings) w.0 w.1 in
      let law = release_traces g.givings apart g.many in
      subst (λ (q : Proc). ReleaseGrant g.givings (TraceOf q)) (sym g.is) law

  plain_one : (gs : List Gift) → GrantsPlainly p gs → Phased ℕ (out_of ps) (TraceOf p)
  plain_one gs g =
      let w = asks_and_gives gs g in
      let phased = plain_phased (out_of ps) g.asks g.symbols g.many w.0 w.1 in
      subst (λ (q : Proc). Phased ℕ (out_of ps) (TraceOf q)) (sym g.is) phased

  release_one : (gs : List Gift) → GrantsWithRelease p gs → Phased ℕ (out_of ps) (TraceOf p)
  release_one gs g =
      let w = gives_and_takes gs g in
      let phased = release_phased (out_of ps) g.givings g.many w.0 w.1 in
      subst (λ (q : Proc). Phased ℕ (out_of ps) (TraceOf q)) (sym g.is) phased

  grant_phased : IsGrant p → Phased ℕ (out_of ps) (TraceOf p)
  grant_phased g = ⊎_elim (plain_one g.0) (release_one g.0) g.1

  pub in_phases : AllByRecursion IsProc ps → Phased ℕ (out_of ps) (TraceOf p)
  in_phases shaped = ⊎_elim
      grant_phased
      (λ (other : IsGrant p → ⊥). steady_phased (TraceOf p) (out_of ps) (is_steady shaped other))
      (grant_or_not p)

  pub keeps_rules : AllByRecursion IsProc ps → Insensitive (TraceOf p) (out_of ps)
  keeps_rules shaped = phased_insensitive (TraceOf p) (out_of ps) (in_phases shaped)

pub weave_rules : (ps : List Proc) → AllByRecursion IsProc ps → Admitted ps
    → Insensitive (Trace ps) (out_of ps)
weave_rules ps shaped admitted =
    let Rules = λ (p : Proc). Insensitive (TraceOf p) (out_of ps) in
    let each = each_of Rules ps (λ p within. keeps_rules ps admitted p within shaped) in
    weave_insensitive (out_of ps) ps (each_all Rules ps each)
