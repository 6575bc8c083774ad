use Rattle.std.proofs.Common.{◌≡◌, map}
use Rattle.arbiters.specs.Arbiter.{client, clients}
use Rattle.arbiters.proofs.processes.processes.Given as goal

abbrev pub invariant-loop-index : goal.invariant-loop-index
invariant-loop-index l = l.processes ≡ map client (clients l.index)
