use Rattle.std.proofs.Common.{◌↔◌, ℕ, IsTrue, sym, subst}
use Rattle.basic_kinds.specs.KindCounts.{KindAt}
use Rattle.basic_kinds.specs.Mirror.Machines.{kind_of, MachineCounts}
use Rattle.basic_kinds.proofs.machine.Machine.advance.Goals as goal

pub returns-in-Fork-clause-answer : goal.returns-in-Fork-clause-answer
returns-in-Fork-clause-answer c =
    subst (λ m. (a : ℕ → ℕ) → MachineCounts m a → IsTrue c.step-in-Fork.result ↔ KindAt (kind_of m) a c.args.port)
    (sym c.in-Fork.is) c.step-in-Fork.ensures.answer

pub returns-in-C-clause-answer : goal.returns-in-C-clause-answer
returns-in-C-clause-answer c =
    subst (λ m. (a : ℕ → ℕ) → MachineCounts m a → IsTrue c.step-in-C.result ↔ KindAt (kind_of m) a c.args.port)
    (sym c.in-C.is) c.step-in-C.ensures.answer

pub returns-in-Fork-clause-taken : goal.returns-in-Fork-clause-taken
returns-in-Fork-clause-taken c = λ a d h r g.
    c.step-in-Fork.ensures.taken a d (subst (λ m. MachineCounts m a) c.in-Fork.is h) r g

pub returns-in-C-clause-taken : goal.returns-in-C-clause-taken
returns-in-C-clause-taken c = λ a d h r g.
    c.step-in-C.ensures.taken a d (subst (λ m. MachineCounts m a) c.in-C.is h) r g

pub returns-in-Toggle-clause-taken : goal.returns-in-Toggle-clause-taken
returns-in-Toggle-clause-taken c = λ a d h r g.
    c.step-in-Toggle.ensures.taken a d (subst (λ m. MachineCounts m a) c.in-Toggle.is h) r g

pub returns-in-Dw-clause-taken : goal.returns-in-Dw-clause-taken
returns-in-Dw-clause-taken c = λ a d h r g.
    c.step-in-Dw.ensures.taken a d (subst (λ m. MachineCounts m a) c.in-Dw.is h) r g

pub returns-in-Seq-clause-taken : goal.returns-in-Seq-clause-taken
returns-in-Seq-clause-taken c = λ a d h r g.
    c.step-in-Seq.ensures.taken a d (subst (λ m. MachineCounts m a) c.in-Seq.is h) r g

pub returns-in-Source-clause-taken : goal.returns-in-Source-clause-taken
returns-in-Source-clause-taken c = λ a d h r g.
    c.step-in-Source.ensures.taken a d (subst (λ m. MachineCounts m a) c.in-Source.is h) r g

pub returns-in-Sink-clause-taken : goal.returns-in-Sink-clause-taken
returns-in-Sink-clause-taken c = λ a d h r g.
    c.step-in-Sink.ensures.taken a d (subst (λ m. MachineCounts m a) c.in-Sink.is h) r g
