use Rattle.std.proofs.Common.{IfOk, sym, subst, arith}
use Rattle.std.specs.List.{Contains}
use Rattle.trace_laws.specs.Breaks.{Breaks}
use Rattle.trace_laws.specs.Listed.{output_by}
use Rattle.trace_laws.specs.Mirror.Improved.{LeastOf}
use Rattle.trace_laws.proofs.check.least_fault.Goals as goal

pub returns-in-0 : goal.returns-in-0
returns-in-0 c = subst (λ r. IfOk c.least_beginning.result (λ least. LeastOf (Breaks (output_by c.args.dirs.now) (Contains c.args.words.now) r) least)) (sym c.in-0.is) c.least_beginning.ensures

pub returns-in-1 : goal.returns-in-1
returns-in-1 c = subst (λ r. IfOk c.least_twice.result (λ least. LeastOf (Breaks (output_by c.args.dirs.now) (Contains c.args.words.now) r) least)) (sym c.in-1.is) c.least_twice.ensures

pub returns-in-2 : goal.returns-in-2
returns-in-2 c = subst (λ r. IfOk c.least_swap.result (λ least. LeastOf (Breaks (output_by c.args.dirs.now) (Contains c.args.words.now) r) least)) (sym c.in-2.is) c.least_swap.ensures

pub returns-in-3 : goal.returns-in-3
returns-in-3 c = subst (λ r. IfOk c.least_carry.result (λ least. LeastOf (Breaks (output_by c.args.dirs.now) (Contains c.args.words.now) r) least)) (sym c.in-3.is) c.least_carry.ensures

pub least_swap-requires : goal.least_swap-requires
least_swap-requires c = c.requires.closed (omega (arith, c.in-2.is))

pub least_carry-requires : goal.least_carry-requires
least_carry-requires c = c.requires.closed (omega (arith, c.in-3.is))
