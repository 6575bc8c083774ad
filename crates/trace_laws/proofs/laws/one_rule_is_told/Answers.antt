use Rattle.std.proofs.Common.{◌≡◌, ℕ, Bool, List, sym, subst, arith}
use Rattle.std.specs.List.{Contains}
use Rattle.trace_laws.specs.Breaks.{Breaks, LeastBroken}
use Rattle.trace_laws.proofs.Offers.{same_traces}
use Rattle.trace_laws.proofs.Rules.{unbroken}
use Rattle.trace_laws.proofs.laws.one_rule_is_told.Goals as goal

module _ (out : ℕ → Bool) (traces : List (List ℕ)) (j k : ℕ) (t u : List ℕ) (a : LeastBroken out (Contains traces) j t) (b : LeastBroken out (Contains traces) k u) where
  one_rule : j ≡ k
  one_rule = omega (arith, a.least_rule k u b.broken, b.least_rule j t a.broken)

  one_trace : t ≡ u
  one_trace = same_traces t u
      (b.least_trace t (subst (λ r. Breaks out (Contains traces) r t) one_rule a.broken))
      (a.least_trace u (subst (λ r. Breaks out (Contains traces) r u) (sym one_rule) b.broken))

pub returns-clause-one : goal.returns-clause-one
returns-clause-one c = λ out traces j k t u a b. (one_rule out traces j k t u a b, one_trace out traces j k t u a b)

pub returns-clause-kept : goal.returns-clause-kept
returns-clause-kept c = λ out traces j t a i. unbroken out (Contains traces) i j t a.broken
