use Rattle.std.proofs.Common.{◌↔◌, ◌∙◌, ℕ, ◌+◌, List, take, sym, ap, subst}
use Rattle.std.proofs.lemmas.List.{take_all}
use Rattle.std.specs.List.{Contains}
use Rattle.trace_laws.specs.Listed.{Listed, numbers}
use Rattle.trace_laws.proofs.Members.{insert_more}
use Rattle.trace_laws.proofs.words.WordSet.of.Goals as goal

pub loop-trace-preserved : goal.loop-trace-preserved
loop-trace-preserved c =
    subst (λ ks. (t : List ℕ) → Contains ks t ↔ Listed (take (c.loop-trace.trace-index + 1) c.args.traces.now) t)
    (sym c.in_ok-insert_full.ensures.keys)
    (insert_more (λ v. numbers v.items) c.args.traces.now c.loop-trace.trace-index c.trace-item.result c.loop-trace.set.keys c.in_ok-word.word
    c.loop-trace-test.true
    (c.in_ok-word.ensures ∙ ap numbers c.deref.ensures.value ∙ ap (λ v. numbers v.items) c.trace-item.is)
    c.loop-trace.invariant)

pub returns : goal.returns
returns c = subst (λ l. (t : List ℕ) → Contains c.loop-trace.set.keys t ↔ Listed l t)
    (take_all c.loop-trace.trace-index c.args.traces.now c.loop-trace-test.false) c.loop-trace.invariant
