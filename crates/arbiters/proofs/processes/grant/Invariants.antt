use Rattle.std.proofs.Common.{◌≡◌, map}
use Rattle.arbiters.specs.Arbiter.{clients}
use Rattle.arbiters.specs.Mirror.Loans.{loan}
use Rattle.arbiters.proofs.processes.grant.Given as goal

abbrev pub invariant-loop-index : goal.invariant-loop-index
invariant-loop-index l = l.loans ≡ map loan (clients l.index)
