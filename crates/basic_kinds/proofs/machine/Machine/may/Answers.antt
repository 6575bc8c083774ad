use Rattle.std.proofs.Common.{◌↔◌, ℕ, IsTrue, sym, subst}
use Rattle.basic_kinds.specs.KindCounts.{KindAt}
use Rattle.basic_kinds.specs.Mirror.Machines.{kind_of, MachineCounts}
use Rattle.basic_kinds.proofs.machine.Machine.may.Goals as goal

pub returns-in-Fork : goal.returns-in-Fork
returns-in-Fork c =
    subst (λ m. (a : ℕ → ℕ) → MachineCounts m a → IsTrue c.can-in-Fork.result ↔ KindAt (kind_of m) a c.args.port)
    (sym c.in-Fork.is) c.can-in-Fork.ensures

pub returns-in-C : goal.returns-in-C
returns-in-C c =
    subst (λ m. (a : ℕ → ℕ) → MachineCounts m a → IsTrue c.can-in-C.result ↔ KindAt (kind_of m) a c.args.port)
    (sym c.in-C.is) c.can-in-C.ensures
