-- From the counts of a machine to the traces that it stands for.
use Rattle.std.proofs.Common.{◌≡◌, ◌↔◌, ℕ, Bool, List, [], ◌∷◌, ◌++◌, IsTrue, sym, subst}
use Rattle.cmd_tree.specs.Rounds.{counts}
use Rattle.cmd_tree.proofs.Phases.{Grew, counts_grow}
use Rattle.basic_kinds.specs.declared.kind.Kind.{Kind}
use Rattle.basic_kinds.specs.declared.machine.Machine.{Machine}
use Rattle.basic_kinds.specs.Kinds.{IsWide}
use Rattle.basic_kinds.specs.KindTraces.{KindTrace}
use Rattle.basic_kinds.specs.KindCounts.{KindAt}
use Rattle.basic_kinds.specs.Mirror.Machines.{kind_of, MachineCounts, Stands}
use Rattle.basic_kinds.proofs.EachKind.{kind_empty, kind_push}

-- it stands for the empty trace where no port has come
pub begins : (m n : Machine) (kind : Kind) → IsWide kind → m ≡ n → kind ≡ kind_of n → MachineCounts n (λ p. 0)
    → Stands m []
begins m n kind w e k h =
    let wide = subst IsWide k w in
    subst (λ x. Stands x []) (sym e) (record { wide = wide; trace = kind_empty (kind_of n) wide; counted = h })

-- a machine that answers by the counts answers by the trace
pub by_trace : (m : Machine) (p : ℕ) (b : Bool)
    → ((c : ℕ → ℕ) → MachineCounts m c → IsTrue b ↔ KindAt (kind_of m) c p) → (t : List ℕ) → Stands m t
    → IsTrue b ↔ KindTrace (kind_of m) (t ++ p ∷ [])
by_trace m p b answer t h =
    let push = kind_push (kind_of m) t p h.wide in
    let k = answer (counts t) h.counted in
    (λ r. push.1 (h.trace, k.0 r), λ u. k.1 (push.0 u).1)

-- and stands for the longer trace after its step
pub goes_on : (m n : Machine) (p : ℕ) → kind_of n ≡ kind_of m
    → ((c d : ℕ → ℕ) → MachineCounts m c → Grew c p d → MachineCounts n d) → (t : List ℕ) → Stands m t
    → KindTrace (kind_of m) (t ++ p ∷ []) → Stands n (t ++ p ∷ [])
goes_on m n p e taken t h k = record {
  wide = subst IsWide (sym e) h.wide;
  trace = subst (λ q. KindTrace q (t ++ p ∷ [])) (sym e) k;
  counted = taken (counts t) (counts (t ++ p ∷ [])) h.counted (counts_grow t p);
}
