use Rattle.std.proofs.Common.{◌≡◌, ◌↔◌, ◌⊎◌, inl, inr, ℕ, List, Bool, Option, Some, None, refl}
use Rattle.std.specs.Prelude.{MatchOption}
use Rattle.std.specs.Option.{IfSome}
use Rattle.std.specs.List.{Contains}
use Rattle.process_laws.specs.Insensitive.{Insensitive}
use Rattle.trace_laws.specs.Breaks.{Breaks, LeastBroken}
use Rattle.trace_laws.specs.Listed.{Listed, numbers, output_by}
use Rattle.trace_laws.specs.declared.check.BrokenRule.{BrokenRule}
use Rattle.trace_laws.proofs.Members.{decided}
use Rattle.trace_laws.proofs.Rules.{keeps, unbroken, breaks_too, least_along}
use Rattle.trace_laws.proofs.check.check_rules.Goals as goal

module _ (out : ℕ → Bool) (T U : List ℕ → Type 0) (h : (t : List ℕ) → T t ↔ U t) where
  kept : ((t : List ℕ) → T t ⊎ (T t → ⊥)) → (o : Option BrokenRule) → MatchOption o ((j : ℕ) (u : List ℕ) → Breaks out T j u → ⊥) (λ b. LeastBroken out T b.rule (numbers b.trace.items))
      → (o ≡ None) ↔ Insensitive U out
  kept d None f = (
    λ e. keeps out U (λ t. elim (d t) [ inl g ↦ inl ((h t).0 g) | inr g ↦ inr (λ u. g ((h t).1 u)) ])
        (λ j u b. f j u (breaks_too out U T (λ s. (h s).1) (λ s. (h s).0) j u b)),
    λ i. refl,
  )
  kept d (Some b) l = (
    λ e. absurd (cc),
    λ i. absurd (unbroken out U i b.rule (numbers b.trace.items)
        (breaks_too out T U (λ s. (h s).0) (λ s. (h s).1) b.rule (numbers b.trace.items) l.broken)),
  )

  told_least : (o : Option BrokenRule) → MatchOption o ((j : ℕ) (u : List ℕ) → Breaks out T j u → ⊥) (λ b. LeastBroken out T b.rule (numbers b.trace.items))
      → IfSome o (λ b. LeastBroken out U b.rule (numbers b.trace.items))
  told_least None f = tt
  told_least (Some b) l = least_along out T U h b.rule (numbers b.trace.items) l

pub returns-clause-holds : goal.returns-clause-holds
returns-clause-holds c = kept (output_by c.args.dirs.now) (Contains c.in_ok-words.words) (Listed c.args.traces.now) c.in_ok-words.ensures
    (decided c.in_ok-words.words) c.in_ok-broken.broken c.in_ok-broken.ensures.least

pub returns-clause-least : goal.returns-clause-least
returns-clause-least c = told_least (output_by c.args.dirs.now) (Contains c.in_ok-words.words) (Listed c.args.traces.now) c.in_ok-words.ensures
    c.in_ok-broken.broken c.in_ok-broken.ensures.least
