-- Processes and commands have the empty trace, and each prefix of a trace.
use Rattle.std.proofs.Common.{ℕ, List, [], ◌∷◌, ◌++◌, IsTrue, subst, append_assoc}
use Rattle.std.specs.List.{AllByRecursion}
use Rattle.std.proofs.lemmas.List.Elements.{filter-append}
use Rattle.cmd_tree.specs.declared.tree.Proc.{Proc}
use Rattle.cmd_tree.specs.Limits.{IsProc, marks_of_proc, marks_of_all}
use Rattle.cmd_tree.specs.Meaning.{WholeProc, TraceOf, Trace, has_symbol, project}
use Rattle.cmd_tree.proofs.Paths.{trace_runs}

pub TraceOf-nil : (p : Proc) → IsProc p → TraceOf p []
TraceOf-nil p h = (trace_runs p h []).1 tt

pub TraceOf-prefix : (p : Proc) (t v : List ℕ) → TraceOf p (t ++ v) → TraceOf p t
TraceOf-prefix p t v k = (v ++ k.0, subst (λ x. WholeProc p x) (append_assoc t v k.0) k.1)

pub AllByRecursion-front : (P : ℕ → Type 0) (t v : List ℕ) → AllByRecursion P (t ++ v) → AllByRecursion P t
AllByRecursion-front P [] v h = tt
AllByRecursion-front P (x ∷ t) v h = (h.0, AllByRecursion-front P t v h.1)

nil_each : (ps : List Proc) → AllByRecursion IsProc ps → AllByRecursion (λ p. TraceOf p (project p [])) ps
nil_each [] h = tt
nil_each (p ∷ ps) h = (TraceOf-nil p h.0, nil_each ps h.1)

prefix_each : (ps : List Proc) (t v : List ℕ) → AllByRecursion (λ p. TraceOf p (project p (t ++ v))) ps → AllByRecursion (λ p. TraceOf p (project p t)) ps
prefix_each [] t v h = tt
prefix_each (p ∷ ps) t v h = (TraceOf-prefix p (project p t) (project p v) (subst (λ x. TraceOf p x) (filter-append (has_symbol (marks_of_proc p)) t v) h.0), prefix_each ps t v h.1)

pub Trace-nil : (ps : List Proc) → AllByRecursion IsProc ps → Trace ps []
Trace-nil ps h = record { known = tt; each = nil_each ps h }

pub Trace-prefix : (ps : List Proc) (t v : List ℕ) → Trace ps (t ++ v) → Trace ps t
Trace-prefix ps t v k = record {
  known = AllByRecursion-front (λ x. IsTrue (has_symbol (marks_of_all ps) x)) t v k.known;
  each = prefix_each ps t v k.each;
}
